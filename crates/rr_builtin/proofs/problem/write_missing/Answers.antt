use Rattle.std.proofs.Common.{◌++◌, codes}
use Rattle.rr_text.specs.Names.{names_of}
use Rattle.rr_builtin.specs.Problems.{receiver_text}
use Rattle.rr_builtin.proofs.Behind.{behind}
use Rattle.rr_builtin.proofs.problem.write_missing.Goals as goal

pub returns : goal.returns
returns c = behind _ c.args.out.now.items _ _ (codes "undefined method '" ++ c.args.method.now ++ codes "' for ") (receiver_text (names_of c.args.program.now) c.args.receiver) c.in_ok-write_three.ensures c.write_receiver.ensures
