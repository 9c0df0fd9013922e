-- It stands at the number of the name.
use Rattle.std.proofs.Common.{◌≡◌, ◌<◌, ◌∙◌, Some, ap, sym, arith, length, slice_get}
use Rattle.std.proofs.lemmas.Bool.Decides.{nat_tests}
use Rattle.std.proofs.lemmas.Option.{slice_get-get_or}
use Rattle.rr_eval.proofs.prepared.Prepared.base_case.Goals as goal

pub returns-in-Some-Some : goal.returns-in-Some-Some
returns-in-Some-Some c =
    let all = c.deref.result.now in
    let x = c.args.name.0 in
    let call = c.in-Some-Some in
    let found = call.field-0.now in
    let base = call.base in
    let test = call.ensures.lookup.0 in
    let inside : x < length all = grind (arith, nat_tests) in
    let at : slice_get all x ≡ Some found = slice_get-get_or all x found inside ∙ ap Some (sym call.ensures.lookup.1) in
    let there : slice_get c.args.self.now.bases.items x ≡ Some (Some base) = ap (λ l. slice_get l x) (sym c.deref.ensures.value) ∙ at ∙ ap Some call.field-0-is in
    c.args.self.now.begins x base there
