use Rattle.std.proofs.Common.{◌++◌, codes}
use Rattle.rr_builtin.proofs.Behind.{behind_two}
use Rattle.rr_builtin.proofs.problem.write_incomparable.Goals as goal

pub returns : goal.returns
returns c = behind_two _ c.args.out.now.items _ _ (codes "comparison of " ++ c.args.left.now ++ codes " with ") c.args.right.now (codes " failed") c.in_ok-write_three.ensures c.write_of_class.ensures
