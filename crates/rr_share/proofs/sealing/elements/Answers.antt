use Rattle.std.proofs.Common.{◌∙◌, sym, arith}
use Rattle.std.proofs.lemmas.List.{take_all}
use Rattle.rr_share.proofs.Copies.{take_next}
use Rattle.rr_share.proofs.sealing.elements.Goals as goal

pub loop-k-preserved : goal.loop-k-preserved
loop-k-preserved c = c.in_ok-push-in-Some.ensures.items ∙ take_next c.args.items.now c.loop-k.elements.items c.loop-k.k c.in-Some.item (sym c.in-Some.ensures) c.loop-k.invariant

pub returns-clause-elements : goal.returns-clause-elements
returns-clause-elements c = c.loop-k.invariant ∙ take_all c.loop-k.k c.args.items.now (omega (arith, c.len-k-end.ensures, c.loop-k-test.false))
