-- What a plain object finds stands at the number of the name.
use Rattle.std.proofs.Common.{◌≡◌, ◌<◌, ◌∙◌, Some, ap, sym, arith, length, slice_get}
use Rattle.std.specs.Option.{option_map}
use Rattle.std.proofs.lemmas.Bool.Decides.{nat_tests}
use Rattle.std.proofs.lemmas.Option.{slice_get-get_or}
use Rattle.rr_eval.specs.Prepared.{callable_of}
use Rattle.rr_eval.specs.Turns.{context_of}
use Rattle.rr_eval.proofs.Plain.{plain_found}
use Rattle.rr_eval.proofs.prepared.Prepared.method_of_plain.Goals as goal

pub returns-clause-finds : goal.returns-clause-finds
returns-clause-finds c =
    let p = c.args.self.now.program in
    let own = context_of p in
    let t = c.args.space.now in
    let all = c.deref.result.now in
    let x = c.args.name in
    let call = c.in-Some in
    let found = call.found.now in
    let test = call.ensures.lookup.0 in
    let inside : x.0 < length all = grind (arith, nat_tests) in
    let at : slice_get all x.0 ≡ Some found = slice_get-get_or all x.0 found inside ∙ ap Some (sym call.ensures.lookup.1) in
    let there : slice_get c.args.self.now.plain.items x.0 ≡ Some found = ap (λ l. slice_get l x.0) (sym c.deref.ensures.value) ∙ at in
    let is = c.args.self.now.plains x.0 found there in
    let sure = c.if-is_plain.true in
    plain_found own t c.args.receiver found.class x (option_map (callable_of p.nodes.items) found.definition) (c.is_plain.ensures.own sure) (c.is_plain.ensures.kind sure) (c.is_plain.ensures.class sure) is
