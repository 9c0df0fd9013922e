-- A chain that has links ends with the part.
use Rattle.std.proofs.Common.{◌≡◌, ◌<◌, ◌∙◌, Some, ap, sym, arith, length, slice_get}
use Rattle.std.proofs.lemmas.Bool.Decides.{nat_tests}
use Rattle.std.proofs.lemmas.Option.{slice_get-get_or}
use Rattle.rr_eval.specs.declared.simple_parts.ApartPart.TheVariants.{Chain}
use Rattle.rr_eval.specs.declared.simple_parts.SimplePart.TheVariants.{Apart}
use Rattle.rr_eval.proofs.chains.chain_at.Goals as goal

pub returns-in-Some-Apart-Chain : goal.returns-in-Some-Apart-Chain
returns-in-Some-Apart-Chain c = λ links are from.
    let all = c.deref.result.now in
    let x = c.args.place in
    let found = c.in-Some-Apart-Chain.field-0.now in
    let test = c.in-Some-Apart-Chain.ensures.lookup.0 in
    let inside : x < length all = grind (arith, nat_tests) in
    let at : slice_get all x ≡ Some found = slice_get-get_or all x found inside ∙ ap Some (sym c.in-Some-Apart-Chain.ensures.lookup.1) in
    let there : slice_get c.args.parts.now.items x ≡ Some (Apart (Chain c.in-Some-Apart-Chain.chain)) = ap (λ l. slice_get l x) (sym c.deref.ensures.value) ∙ at ∙ ap Some (c.in-Some-Apart-Chain.field-0-is ∙ ap Apart c.in-Some-Apart-Chain.field-0-0-is) in
    (are x (Apart (Chain c.in-Some-Apart-Chain.chain)) there).1
