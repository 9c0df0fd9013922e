use Rattle.std.proofs.Common.{◌∙◌, ap, sym, subst}
use Rattle.rr_space.specs.Parts.{value_of}
use Rattle.rr_space.specs.Tables.{Table}
use Rattle.rr_builtin.specs.declared.problem.Problem.TheVariants.{Frozen, Moved}
use Rattle.rr_builtin.specs.declared.built.Built.TheVariants as built
use Rattle.rr_builtin.specs.Acts.{Outcome, Gives, Raises, changed, IsDone}
use Rattle.rr_builtin.specs.Kinds.{is_shell_kind}
use Rattle.rr_builtin.specs.Fields.{set_field, with_field}
use Rattle.rr_builtin.proofs.Fielding.{raised_done, set_moved, set_written, set_frozen}
use Rattle.rr_builtin.proofs.Fixing.{fixed_none}
use Rattle.rr_builtin.proofs.Performing.{acts_same}
use Rattle.rr_builtin.proofs.Serving.{served_same}
use Rattle.rr_builtin.proofs.fields.set_field.Goals as goal

pub returns-then-is_shell_kind : goal.returns-then-is_shell_kind
returns-then-is_shell_kind c =
    let t = c.args.space.now in
    record {
      act = λ below read among.
          subst (λ (done : Outcome × Table). IsDone below done t t (built.Raised Moved))
          (sym (set_moved c.args.name.0 (value_of c.args.value) c.args.object t (sym (c.is_shell_kind.ensures ∙ ap is_shell_kind c.kind_of.ensures) ∙ c.if-is_shell_kind.true)))
          (raised_done below t Moved read);
      served = served_same t (built.Raised Moved) tt;
      fixed = fixed_none t.slots;
    }

pub returns-then-can_set : goal.returns-then-can_set
returns-then-can_set c =
    let t = c.args.space.now in
    let x = value_of c.args.value in
    record {
      act = λ below read among.
          acts_same below (λ u. (Gives x, changed (with_field c.args.name.0 x) c.args.object u)) (set_field c.args.name.0 x c.args.object) t c.put_field.new.space c.put_field.result
          (sym (set_written c.args.name.0 x c.args.object t (sym (c.is_shell_kind.ensures ∙ ap is_shell_kind c.kind_of.ensures) ∙ c.if-is_shell_kind.false) (sym c.can_set.ensures ∙ c.if-can_set.true)))
          (c.put_field.ensures.act below read among);
      served = c.put_field.ensures.served;
      fixed = c.put_field.ensures.fixed;
    }

pub returns-else-can_set : goal.returns-else-can_set
returns-else-can_set c =
    let t = c.args.space.now in
    record {
      act = λ below read among.
          subst (λ (done : Outcome × Table). IsDone below done t t (built.Raised (Frozen c.class_of.result)))
          (ap (λ k. (Raises (Frozen k), t)) c.class_of.ensures
          ∙ sym (set_frozen c.args.name.0 (value_of c.args.value) c.args.object t (sym (c.is_shell_kind.ensures ∙ ap is_shell_kind c.kind_of.ensures) ∙ c.if-is_shell_kind.false) (sym c.can_set.ensures ∙ c.if-can_set.false)))
          (raised_done below t (Frozen c.class_of.result) read);
      served = served_same t (built.Raised (Frozen c.class_of.result)) tt;
      fixed = fixed_none t.slots;
    }
