use Rattle.rr_builtin.proofs.Same.{same_is_identical}
use Rattle.rr_eval.proofs.leaves.is_identical.Goals as goal

pub returns : goal.returns
returns c = same_is_identical c.args.space.now c.args.left c.args.right c.same.result c.same.ensures
