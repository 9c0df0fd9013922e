-- A part of the values stands for the parts that are left.
use Rattle.std.proofs.Common.{◌≡◌, ◌+◌, ◌-◌, ◌∙◌, sym, ap, arith, take, drop}
use Rattle.std.proofs.lemmas.List.{drop-take}
use Rattle.rr_eval.proofs.spot.parts_left.Goals as goal

pub returns-then-used-parts-clause-are : goal.returns-then-used-parts-clause-are
returns-then-used-parts-clause-are c =
    let used = c.args.used in
    let stand = c.args.stand.now in
    let whole : used + (c.args.parts - used) ≡ c.args.parts = omega (arith, c.if-used-parts.true) in
    sym (drop-take used (c.args.parts - used) stand) ∙ ap (λ m. drop used (take m stand)) whole
