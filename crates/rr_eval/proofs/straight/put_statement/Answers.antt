-- One statement more is such a one.
use Rattle.std.proofs.Common.{subst, sym}
use Rattle.rr_eval.specs.Straight.{AreStraight}
use Rattle.rr_eval.proofs.Straightly.{straight_more}
use Rattle.rr_eval.proofs.straight.put_statement.Goals as goal

pub returns : goal.returns
returns c =
    let ns = c.args.program.now.nodes.items in
    subst (AreStraight ns) (sym c.in_ok-push.ensures.items) (straight_more ns c.args.statements.now.items c.in-Some.statement c.requires c.in-Some.ensures.is)
