use Rattle.rr_select.proofs.Walks.{entry_left, own_left, rest_left}
use Rattle.rr_select.proofs.choice.entry.Goals as goal

pub returns-then-tried-count-clause-round : goal.returns-then-tried-count-clause-round
returns-then-tried-count-clause-round c = entry_left c.args.count c.args.own c.args.tried c.if-tried-count.true

pub returns-then-own-clause-round : goal.returns-then-own-clause-round
returns-then-own-clause-round c = own_left c.args.count c.args.own c.args.tried c.requires c.if-tried-count.false c.if-own.true

pub returns-else-own-clause-round : goal.returns-else-own-clause-round
returns-else-own-clause-round c = rest_left c.args.count c.args.own c.args.tried c.requires c.if-tried-count.false c.if-own.false
