use Rattle.std.proofs.Common.{arith}
use Rattle.rr_parser.proofs.Gathering.{packed_put}
use Rattle.rr_parser.proofs.parser.Parser.put_packed.Goals as goal

pub returns : goal.returns
returns c =
    packed_put c.args.self.now c.put_pairs.new.self c.args.given.items.items c.args.given.pairs.items c.deref.result.now c.push.new.self.items c.in_ok-last.last _ c.is_empty.result c.is_empty.ensures (omega (arith, c.deref.ensures.len)) c.if-is_empty.false c.deref.ensures.value c.in_ok-push.ensures.items
    c.requires.0 c.in_ok-last.ensures
