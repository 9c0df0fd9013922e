-- The index stays once it is made.
use Rattle.std.proofs.Common.{IfSome, subst}
use Rattle.rr_tree.specs.Methods.{IsIndexOf}
use Rattle.rr_tree.proofs.name_index.Named.find.Goals as goal

pub number-requires : goal.number-requires
number-requires c = subst (λ o. IfSome o (IsIndexOf c.args.program.now)) c.in-Some.is c.requires

pub returns-in_ok-index-in-None-clause-index : goal.returns-in_ok-index-in-None-clause-index
returns-in_ok-index-in-None-clause-index c = c.in_ok-index-in-None.ensures
