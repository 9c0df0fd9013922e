-- One class further up.
use Rattle.std.proofs.Common.{◌≡◌, ◌<◌, ◌∙◌, ◌+◌, ◌-◌, ℕ, [], map, Option, length, ap, sym, arith}
use Rattle.std.proofs.lemmas.Bool.{eqb-true}
use Rattle.std.specs.Option.{option_or}
use Rattle.rr_tree.specs.Ancestors.{superclass_of}
use Rattle.rr_tree.specs.Tree.{Tree}
use Rattle.rr_tree.specs.Methods.{held, held_above, nearest_among, nearest_method, called, definitions_of, definition_at}
use Rattle.rr_tree.proofs.Defined.{no_more, none_up, one_up}
use Rattle.rr_tree.proofs.method_table.MethodTable.find.Goals as goal

pub loop-step-init : goal.loop-step-init
unfolding nearest_method
loop-step-init c =
    let steps : length c.args.program.now.classes.items + 32 ≡ c.len.result + 32 - 0 = omega (arith, c.len.ensures) in
    ap (λ (m : ℕ). nearest_among c.args.program.now c.args.name m c.args.class.0) steps

pub loop-step-preserved : goal.loop-step-preserved
loop-step-preserved c =
    let p = c.args.program.now in
    let x = c.args.name in
    let n = c.len.result + 32 in
    let k = c.loop-step.step in
    let at = c.loop-step.current.0 in
    let more = nearest_among p x (n - (k + 1)) in
    let less : k < n = omega arith in
    c.loop-step.invariant
    ∙ one_up p x n k at less
    ∙ ap (λ (o : Option Tree). option_or (held at o) (held_above more (superclass_of p at))) (sym c.in-None.ensures)
    ∙ ap (held_above more) (sym c.in-Some-superclass.ensures)

pub returns-then-is_empty : goal.returns-then-is_empty
unfolding nearest_method
returns-then-is_empty c =
    let p = c.args.program.now in
    let x = c.args.name in
    let none : called p x (definitions_of p) ≡ [] = sym (c.requires x) ∙ ap (map (definition_at p.nodes.items)) (sym c.entries_under.ensures ∙ no_more c.entries_under.result.now (eqb-true (length c.entries_under.result.now) 0 (sym c.is_empty.ensures ∙ c.if-is_empty.true))) in
    sym (none_up p x (length p.classes.items + 32) c.args.class.0 none)
