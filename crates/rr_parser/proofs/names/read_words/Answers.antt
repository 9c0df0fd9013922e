use Rattle.std.proofs.Common.{arith, ap, length}
use Rattle.rr_parser.proofs.Classless.{class_found}
use Rattle.rr_parser.proofs.Numbers.{words_more, symbols_on, texts_on}
use Rattle.rr_parser.proofs.names.read_words.Goals as goal

pub loop-token-preserved : goal.loop-token-preserved
loop-token-preserved c = record {
  words = words_more c.args.source.now _ _ _ _ _ _ _ _ _ _ c.in-Some.ensures.cases.0 c.method_name_at-method.ensures c.in_ok-kind.ensures.names c.in_ok-kind.ensures.texts c.is_def-behind_def.ensures _ _ _ _ c.loop-token.invariant.words c.push_reserved.ensures.items c.in_ok-kind.ensures.kind;
  names = symbols_on c.args.source.now _ _ _ _ _ _ _ _ _ _ c.in-Some.ensures.cases.0 c.method_name_at-method.ensures c.in_ok-kind.ensures.names c.in_ok-kind.ensures.texts c.is_def-behind_def.ensures _ c.loop-token.invariant.names;
  found = class_found _ _ _ _ _ _ c.loop-token.invariant.found c.is_class_among-with_class.ensures c.push_reserved.ensures.items;
  room = omega (arith, c.push_reserved.ensures.len, c.push_reserved.ensures.capacity, ap length c.in-Some.ensures.cases.0, c.loop-token.invariant.room);
  texts = texts_on c.args.source.now _ _ _ _ _ _ _ _ _ _ c.in-Some.ensures.cases.0 c.method_name_at-method.ensures c.in_ok-kind.ensures.names c.in_ok-kind.ensures.texts c.is_def-behind_def.ensures _ c.loop-token.invariant.texts;
}

pub push_reserved-requires : goal.push_reserved-requires
push_reserved-requires c = omega (arith, ap length c.in-Some.ensures.cases.0, c.loop-token.invariant.room)
