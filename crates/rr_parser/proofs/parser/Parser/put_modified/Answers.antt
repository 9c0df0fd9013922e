use Rattle.rr_parser.proofs.Making.{modified_if, modified_unless, modified_loop}
use Rattle.rr_parser.proofs.parser.Parser.put_modified.Goals as goal

pub returns-in-If : goal.returns-in-If
returns-in-If c = modified_if c.args.self.now c.put.new.self c.put-in-If.new.self _ _ _ _ c.args.modifier c.requires.statement c.requires.condition c.in_ok-otherwise.ensures.puts c.in-If.is c.put-in-If.ensures.puts

pub returns-in-Unless : goal.returns-in-Unless
returns-in-Unless c = modified_unless c.args.self.now c.put.new.self c.put-in-Unless.new.self _ _ _ _ c.args.modifier c.requires.statement c.requires.condition c.in_ok-otherwise.ensures.puts c.in-Unless.is c.put-in-Unless.ensures.puts

pub returns-in-Loop : goal.returns-in-Loop
returns-in-Loop c =
    modified_loop c.args.self.now c.put.new.self c.put-in-Loop.new.self _ _ _ _ c.args.modifier c.requires.statement c.requires.condition c.in_ok-otherwise.ensures.puts c.in-Loop.until c.in-Loop.is c.put-in-Loop.ensures.puts
