-- A parameter becomes its argument, and an integer is what it is.
use Rattle.std.proofs.Common.{◌≡◌, ◌+◌, ◌∙◌, ◌<◌, Some, ap, arith, length, slice_get, subst, sym}
use Rattle.std.proofs.lemmas.Bool.Decides.{nat_tests}
use Rattle.std.proofs.lemmas.Option.{slice_get-get_or}
use Rattle.rr_tree.specs.Nodes.{trees_before}
use Rattle.rr_tree.specs.Tree.{tree_at}
use Rattle.rr_eval.specs.SimpleParts.{IsSimple}
use Rattle.rr_eval.proofs.Becoming.{integer_fills, variable_fills}
use Rattle.rr_eval.proofs.short_calls.filled_place.Goals as goal

pub returns-in-Some-Int : goal.returns-in-Some-Int
returns-in-Some-Int c = λ links simple.
    let p = c.args.program.now in
    let given = c.args.given in
    let x = c.args.place in
    let part = c.in-Some-Int in
    let found = part.field-0.now in
    let all = c.deref.result.now in
    let test = part.ensures.lookup.0 in
    let inside : x < length all = grind (arith, nat_tests) in
    let at : slice_get all x ≡ Some found = slice_get-get_or all x found inside ∙ ap Some (sym part.ensures.lookup.1) in
    let there : slice_get c.args.parts.now.items x ≡ Some found = ap (λ l. slice_get l x) (sym c.deref.ensures.value) ∙ at in
    integer_fills (trees_before p.nodes.items (given.first + given.count) given.count) (tree_at p.nodes.items x) part.field-0-0 (subst (IsSimple p links (tree_at p.nodes.items x)) part.field-0-is (simple x found there))

pub returns-then-variable-given : goal.returns-then-variable-given
returns-then-variable-given c = λ links simple.
    let p = c.args.program.now in
    let given = c.args.given in
    let x = c.args.place in
    let part = c.in-Some-Variable in
    let found = part.field-0.now in
    let all = c.deref.result.now in
    let test = part.ensures.lookup.0 in
    let inside : x < length all = grind (arith, nat_tests) in
    let at : slice_get all x ≡ Some found = slice_get-get_or all x found inside ∙ ap Some (sym part.ensures.lookup.1) in
    let there : slice_get c.args.parts.now.items x ≡ Some found = ap (λ l. slice_get l x) (sym c.deref.ensures.value) ∙ at in
    let own = c.if-variable-eq0.true in
    let less = c.if-variable-given.true in
    variable_fills p.nodes.items given.first given.count (tree_at p.nodes.items x) part.variable (subst (IsSimple p links (tree_at p.nodes.items x)) part.field-0-is (simple x found there)) (omega (arith, own)) (omega (arith, less))
