-- One method more stands at the number of its name.
use Rattle.std.proofs.Common.{◌≡◌, ◌+◌, ◌∙◌, ◌∷◌, [], length, length-append, ap, sym, subst, arith}
use Rattle.rr_eval.specs.Prepared.{ArePlain}
use Rattle.rr_eval.specs.Turns.{context_of}
use Rattle.rr_eval.proofs.Plain.{plain_more}
use Rattle.rr_eval.proofs.plain_methods.plain_methods.Goals as goal

pub loop-number-preserved : goal.loop-number-preserved
loop-number-preserved c =
    let own = context_of c.args.program.now in
    let now = c.loop-number.invariant in
    let all = c.loop-number.plain.items in
    let found = c.plain_of.result in
    let at : length all ≡ c.in-Ok.name = omega (arith, now.1, c.in-Ok.ensures) in
    let items = c.in_ok-push.ensures.items in
    (subst (ArePlain own) (sym items) (plain_more own all found c.in-Ok.name at now.0 c.plain_of.ensures), ap length items ∙ length-append all (found ∷ []) ∙ ap (λ n. n + 1) now.1)
