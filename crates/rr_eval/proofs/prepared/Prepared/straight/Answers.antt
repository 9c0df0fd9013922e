-- It is one of the statements.
use Rattle.std.proofs.Common.{◌≡◌, ◌<◌, ◌∙◌, Some, ap, sym, arith, length, slice_get}
use Rattle.std.proofs.lemmas.Bool.Decides.{nat_tests}
use Rattle.std.proofs.lemmas.Option.{slice_get-get_or}
use Rattle.rr_eval.proofs.prepared.Prepared.straight.Goals as goal

pub returns-then-statement-place-clause-few : goal.returns-then-statement-place-clause-few
returns-then-statement-place-clause-few c =
    let all = c.deref.result.now in
    let x = c.args.number in
    let call = c.in_ok-statement in
    let statement = call.field-0.now in
    let test = call.ensures.lookup.0 in
    let inside : x < length all = grind (arith, nat_tests) in
    let at : slice_get all x ≡ Some statement = slice_get-get_or all x statement inside ∙ ap Some (sym call.ensures.lookup.1) in
    let there : slice_get c.args.self.now.straight.statements.items x ≡ Some statement = ap (λ l. slice_get l x) (sym c.deref.ensures.value) ∙ at in
    (c.args.self.now.straights x statement there).1
