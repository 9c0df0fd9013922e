use Rattle.rr_parser.proofs.Making.{operation_ok}
use Rattle.rr_parser.proofs.parser.Parser.put_assignment.Goals as goal

pub returns-in_ok-target-in-With : goal.returns-in_ok-target-in-With
returns-in_ok-target-in-With c =
    operation_ok c.args.self.now c.put_target.new.self c.put_operation.new.self c.args.aim.sign c.in-With.operation c.args.aim.target c.args.variable c.args.aim.behind _ _ c.put_operation.result c.in-With.is c.requires c.in_ok-target-in-With.ensures c.put_operation.ensures
