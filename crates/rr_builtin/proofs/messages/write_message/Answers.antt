use Rattle.std.proofs.Common.{◌∙◌, ap, sym, subst}
use Rattle.rr_space.specs.Parts.{value_of}
use Rattle.rr_builtin.specs.declared.problem.Problem.TheVariants.{Frozen, Moved}
use Rattle.rr_builtin.specs.declared.built.Built.TheVariants as built
use Rattle.rr_builtin.specs.Acts.{Outcome, Raises, IsDone}
use Rattle.rr_space.specs.Tables.{Table}
use Rattle.rr_builtin.specs.Kinds.{is_shell_kind}
use Rattle.rr_builtin.proofs.Fielding.{raised_done}
use Rattle.rr_builtin.proofs.Fixing.{fixed_none}
use Rattle.rr_builtin.proofs.Messaging.{message_moved, message_written, message_frozen}
use Rattle.rr_builtin.proofs.Serving.{served_same}
use Rattle.rr_builtin.proofs.messages.write_message.Goals as goal

pub returns-then-is_shell_kind : goal.returns-then-is_shell_kind
returns-then-is_shell_kind c =
    let t = c.args.space.now in
    record {
      act = λ below read among.
          subst (λ (done : Outcome × Table). IsDone below done t t (built.Raised Moved))
          (sym (message_moved (value_of c.args.message) c.args.exception t (sym (c.is_shell_kind.ensures ∙ ap is_shell_kind c.kind_of.ensures) ∙ c.if-is_shell_kind.true)))
          (raised_done below t Moved read);
      served = served_same t (built.Raised Moved) tt;
      fixed = fixed_none t.slots;
    }

pub returns-then-is_open_exception : goal.returns-then-is_open_exception
returns-then-is_open_exception c =
    let t = c.args.space.now in
    record {
      act = λ below read among.
          subst (λ (done : Outcome × Table). IsDone below done t c.put_message.new.space c.put_message.result)
          (sym (message_written (value_of c.args.message) c.args.exception t (sym (c.is_shell_kind.ensures ∙ ap is_shell_kind c.kind_of.ensures) ∙ c.if-is_shell_kind.false) (sym c.is_open_exception.ensures ∙ c.if-is_open_exception.true)))
          (c.put_message.ensures.act below read among);
      served = c.put_message.ensures.served;
      fixed = c.put_message.ensures.fixed;
    }

pub returns-else-is_open_exception : goal.returns-else-is_open_exception
returns-else-is_open_exception c =
    let t = c.args.space.now in
    record {
      act = λ below read among.
          subst (λ (done : Outcome × Table). IsDone below done t t (built.Raised (Frozen c.class_of.result)))
          (ap (λ k. (Raises (Frozen k), t)) c.class_of.ensures
          ∙ sym (message_frozen (value_of c.args.message) c.args.exception t (sym (c.is_shell_kind.ensures ∙ ap is_shell_kind c.kind_of.ensures) ∙ c.if-is_shell_kind.false) (sym c.is_open_exception.ensures ∙ c.if-is_open_exception.false)))
          (raised_done below t (Frozen c.class_of.result) read);
      served = served_same t (built.Raised (Frozen c.class_of.result)) tt;
      fixed = fixed_none t.slots;
    }
