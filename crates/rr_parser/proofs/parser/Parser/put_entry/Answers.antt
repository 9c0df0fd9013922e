use Rattle.rr_parser.proofs.Making.{entry_ok}
use Rattle.rr_parser.proofs.parser.Parser.put_entry.Goals as goal

pub returns : goal.returns
returns c = entry_ok c.args.self.now c.put.new.self c.put-2.new.self c.args.key.0 _ _ c.put-2.result c.requires c.in_ok-key.ensures.puts c.put-2.ensures.puts
