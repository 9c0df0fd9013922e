use Rattle.std.proofs.Common.{rules, ◌≡◌, ◌∙◌, ap, ℕ, List, Contains, sym, subst}
use Rattle.rr_space.specs.Graph.{Object}
use Rattle.rr_space.specs.Parts.{below_parts, raised_parts}
use Rattle.rr_space.specs.Views.{object_of}
use Rattle.rr_space.specs.declared.node.Node.TheVariants.{Exception}
use Rattle.rr_space.specs.declared.refer.Raised.{Raised}
use Rattle.rr_builtin.specs.Copies.{exception_copy}
use Rattle.rr_builtin.proofs.Copying.{raised_among, raised_whole}
use Rattle.rr_builtin.proofs.copies.exception_copy.Goals as goal

pub returns-clause-among : goal.returns-clause-among
returns-clause-among c = λ below read led.
    let x : Raised = record { message = c.element.result; cause = c.element-2.result; ractor = c.element-3.result; fields = c.in_ok-fields.field-0 } in
    subst (λ (y : Raised). (e : ℕ × List Object) → Contains (below_parts (raised_parts y)) e → Contains below e) (sym c.in_ok-new.ensures.ok)
    (raised_among below x (c.element.ensures.among below read led) (c.element-2.ensures.among below read led) (c.element-3.ensures.among below read led) (c.in_ok-fields.ensures.among below read led))

pub returns-clause-whole : goal.returns-clause-whole
returns-clause-whole c = λ whole.
    let is : object_of (Exception c.class_of.result c.in_ok-new.field-0) ≡ exception_copy c.args.space.now c.args.object = search rules in
    ap (λ (o : Object). o.triples) is ∙ raised_whole c.args.space.now c.args.object whole
