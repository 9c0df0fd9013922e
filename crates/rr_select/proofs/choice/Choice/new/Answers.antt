use Rattle.std.proofs.Common.{[], sym, ap, ◌∙◌}
use Rattle.rr_select.proofs.Ends.{placed, at_first}
use Rattle.rr_select.proofs.choice.Choice.new.Goals as goal

pub invariant_of-result : goal.invariant_of-result
invariant_of-result c = ([], c.entry.ensures.round ∙ sym (at_first c.args.count c.args.own))

pub returns : goal.returns
returns c = ap (placed c.args.count c.args.own) (c.entry.ensures.round ∙ sym (at_first c.args.count c.args.own))
