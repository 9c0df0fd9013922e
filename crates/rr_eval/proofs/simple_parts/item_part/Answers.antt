-- An item is the part for which it stands.
use Rattle.std.proofs.Common.{◌≡◌, ◌∙◌, ◌<◌, Some, ap, arith, length, slice_get, subst, sym}
use Rattle.std.proofs.lemmas.Bool.Decides.{nat_tests}
use Rattle.std.proofs.lemmas.Option.{slice_get-get_or}
use Rattle.rr_eval.specs.Nodes.{evaluated_tree}
use Rattle.rr_eval.specs.SimpleParts.{IsSimple}
use Rattle.rr_eval.proofs.simple_parts.item_part.Goals as goal

pub returns-in-Some : goal.returns-in-Some
returns-in-Some c = λ links simple.
    let p = c.args.program.now in
    let parts = c.args.parts.now.items in
    let item = c.in-Some-Item in
    let found = c.in-Some in
    let part = found.part.now in
    let first = found.ensures.lookup.0 in
    let all = c.deref.result.now in
    let within : item.whole < length all = grind (arith, nat_tests) in
    let at : slice_get all item.whole ≡ Some part = slice_get-get_or all item.whole part within ∙ ap Some (sym found.ensures.lookup.1) in
    let there : slice_get parts item.whole ≡ Some part = ap (λ l. slice_get l item.whole) (sym c.deref.ensures.value) ∙ at in
    subst (λ z. IsSimple p links z part) (sym (item.ensures.tree ∙ ap (evaluated_tree p.nodes.items) item.field-0-is)) (simple item.whole part there)
