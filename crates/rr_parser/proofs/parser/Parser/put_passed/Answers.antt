use Rattle.rr_parser.specs.declared.word.Passing.TheVariants as passings
use Rattle.rr_parser.proofs.Lists.{passed_ok}
use Rattle.rr_parser.proofs.parser.Parser.put_passed.Goals as goal

pub returns-in-Yield : goal.returns-in-Yield
returns-in-Yield c =
    passed_ok c.args.self.now c.put_items.new.self c.put.new.self _ _ _ passings.Yield c.args.passing c.put.result c.in-Yield.is c.requires c.in_ok-first.ensures.nodes c.in_ok-first.ensures.known
    c.in_ok-first.ensures.first c.in_ok-first.ensures.count c.put.ensures.puts

pub returns-in-Super : goal.returns-in-Super
returns-in-Super c =
    passed_ok c.args.self.now c.put_items.new.self c.put-in-Super.new.self _ _ _ passings.Super c.args.passing c.put-in-Super.result c.in-Super.is c.requires c.in_ok-first.ensures.nodes c.in_ok-first.ensures.known
    c.in_ok-first.ensures.first c.in_ok-first.ensures.count c.put-in-Super.ensures.puts
