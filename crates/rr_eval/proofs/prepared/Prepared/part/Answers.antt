-- What a part is stands at its place.
use Rattle.std.proofs.Common.{◌≡◌, ◌<◌, ◌∙◌, Some, ap, sym, arith, length, slice_get}
use Rattle.std.proofs.lemmas.Bool.Decides.{nat_tests}
use Rattle.std.proofs.lemmas.Option.{slice_get-get_or}
use Rattle.rr_eval.proofs.prepared.Prepared.part.Goals as goal

pub returns-in-Some : goal.returns-in-Some
returns-in-Some c =
    let all = c.deref.result.now in
    let x = c.args.place in
    let found = c.in-Some.part.now in
    let test = c.in-Some.ensures.lookup.0 in
    let inside : x < length all = grind (arith, nat_tests) in
    let at : slice_get all x ≡ Some found = slice_get-get_or all x found inside ∙ ap Some (sym c.in-Some.ensures.lookup.1) in
    let there : slice_get c.args.self.now.simple.parts.items x ≡ Some found = ap (λ l. slice_get l x) (sym c.deref.ensures.value) ∙ at in
    c.args.self.now.simples x found there
