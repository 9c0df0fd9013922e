use Rattle.std.proofs.Common.{◌∙◌, ◌-◌, List, ap, sym, Some, slice_get}
use Rattle.rr_base.specs.declared.name.ClassId.{ClassId}
use Rattle.rr_tree.specs.declared.class.Class.{Class}
use Rattle.rr_tree.specs.Ancestors.{number_of, parent_in, superclass_of}
use Rattle.rr_tree.proofs.Above.{above_built_in, above_other}
use Rattle.rr_tree.proofs.program.Program.superclass.Goals as goal

pub returns-in-Some-parent_of : goal.returns-in-Some-parent_of
returns-in-Some-parent_of c =
    sym (ap (λ (k : ClassId). superclass_of c.args.self.now k.0) (sym c.in-Some.ensures) ∙ above_built_in c.args.self.now c.in-Some.built_in
    ∙ ap number_of (sym c.in-Some-parent_of.ensures) ∙ ap (λ (k : ClassId). Some k.0) (sym c.id.ensures))

pub returns-in-None-parent_of : goal.returns-in-None-parent_of
returns-in-None-parent_of c =
    sym (ap (λ (k : ClassId). superclass_of c.args.self.now k.0) (sym c.in-Some.ensures) ∙ above_built_in c.args.self.now c.in-Some.built_in ∙ ap number_of (sym c.in-None-parent_of.ensures))

pub returns-in-None : goal.returns-in-None
returns-in-None c =
    c.nth_superclass.ensures ∙ ap (λ (cs : List Class). parent_in (slice_get cs (c.args.class.0 - 32))) c.deref.ensures.value ∙ sym (above_other c.args.self.now c.args.class.0 c.in-None.ensures)
