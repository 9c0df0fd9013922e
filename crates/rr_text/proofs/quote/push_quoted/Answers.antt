use Rattle.std.proofs.Common.{◌∙◌, arith}
use Rattle.rr_text.proofs.Quoting.{quoted_end}
use Rattle.rr_text.proofs.quote.push_quoted.Goals as goal

pub returns : goal.returns
returns c = c.in_ok-push-2.ensures.items ∙ quoted_end c.loop-i.out.items c.args.out.now.items c.args.bytes.now c.loop-i.i c.loop-i.invariant.same (omega arith)
