-- What is known of a class stands at its number.
use Rattle.std.proofs.Common.{◌≡◌, ◌<◌, ◌∙◌, Some, ap, sym, arith, length, slice_get}
use Rattle.std.proofs.lemmas.Bool.Decides.{nat_tests}
use Rattle.std.proofs.lemmas.Option.{slice_get-get_or}
use Rattle.rr_eval.proofs.prepared.Prepared.known.Goals as goal

pub returns-in-Some : goal.returns-in-Some
returns-in-Some c =
    let all = c.deref.result.now in
    let k = c.args.class in
    let known = c.in-Some.known.now in
    let test = c.in-Some.ensures.lookup.0 in
    let inside : k.0 < length all = grind (arith, nat_tests) in
    let at : slice_get all k.0 ≡ Some known = slice_get-get_or all k.0 known inside ∙ ap Some (sym c.in-Some.ensures.lookup.1) in
    let there : slice_get c.args.self.now.instances.items k.0 ≡ Some known = ap (λ l. slice_get l k.0) (sym c.deref.ensures.value) ∙ at in
    c.args.self.now.knows k.0 known there
