-- A node of the table is evaluated.
use Rattle.std.proofs.Common.{◌≡◌, ◌<◌, ◌∙◌, Some, ap, sym, arith, length, slice_get}
use Rattle.std.proofs.lemmas.Bool.Decides.{nat_tests}
use Rattle.std.proofs.lemmas.Option.{slice_get-get_or}
use Rattle.rr_eval.proofs.prepared.Prepared.node.Goals as goal

pub returns-in-Some-clause-evaluated : goal.returns-in-Some-clause-evaluated
returns-in-Some-clause-evaluated c =
    let all = c.deref.result.now in
    let x = c.args.place in
    let call = c.in-Some in
    let node = call.node.now in
    let test = call.ensures.lookup.0 in
    let inside : x < length all = grind (arith, nat_tests) in
    let at : slice_get all x ≡ Some node = slice_get-get_or all x node inside ∙ ap Some (sym call.ensures.lookup.1) in
    let there : slice_get c.args.self.now.nodes.items x ≡ Some node = ap (λ l. slice_get l x) (sym c.deref.ensures.value) ∙ at in
    (c.args.self.now.evaluates x node there).1
