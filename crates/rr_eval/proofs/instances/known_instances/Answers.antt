-- What is known of one class more stands at its number.
use Rattle.std.proofs.Common.{◌≡◌, ◌+◌, ◌∙◌, ◌∷◌, [], length, length-append, ap, sym, subst, arith}
use Rattle.rr_eval.specs.Prepared.{AreKnown}
use Rattle.rr_eval.specs.Turns.{context_of}
use Rattle.rr_eval.proofs.Plain.{instances_more}
use Rattle.rr_eval.proofs.instances.known_instances.Goals as goal

pub loop-number-preserved : goal.loop-number-preserved
loop-number-preserved c =
    let own = context_of c.args.program.now in
    let now = c.loop-number.invariant in
    let all = c.loop-number.known.items in
    let one = c.instances_of.result in
    let at : length all ≡ c.in-Ok.class = omega (arith, now.1, c.in-Ok.ensures) in
    let items = c.in_ok-push.ensures.items in
    (subst (AreKnown own) (sym items) (instances_more own all one c.in-Ok.class at now.0 c.instances_of.ensures), ap length items ∙ length-append all (one ∷ []) ∙ ap (λ n. n + 1) now.1)
