-- One part more stands at its place.
use Rattle.std.proofs.Common.{◌≡◌, ◌+◌, ◌∙◌, ◌∷◌, [], length, length-append, ap, sym, subst, arith}
use Rattle.rr_eval.specs.SimpleParts.{AreSimple}
use Rattle.rr_eval.proofs.Simply.{simple_more}
use Rattle.rr_eval.proofs.simple_parts.simple_parts.Goals as goal

pub loop-number-preserved : goal.loop-number-preserved
loop-number-preserved c =
    let p = c.args.program.now in
    let now = c.loop-number.invariant in
    let all = c.loop-number.parts.items in
    let links = c.part_behind.new.links.items in
    let part = c.in_ok-part.part in
    let at : length all ≡ c.in-Ok.place = omega (arith, now.1, c.in-Ok.ensures) in
    let items = c.in_ok-push.ensures.items in
    (subst (AreSimple p links) (sym items) (simple_more p links all part c.in-Ok.place at c.in_ok-part.ensures.parts c.in_ok-part.ensures.part), ap length items ∙ length-append all (part ∷ []) ∙ ap (λ n. n + 1) now.1)
