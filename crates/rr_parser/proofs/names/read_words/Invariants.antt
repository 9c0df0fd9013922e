use Rattle.std.proofs.Common.{◌≡◌, ◌+◌, ◌≤◌, ◌++◌, vec_len, vec_capacity, fold, length, [], false}
use Rattle.rr_parser.specs.ClassWords.{has_class}
use Rattle.rr_parser.specs.Words.{with_text, symbols_behind, words_behind, symbols_of, texts_of}
use Rattle.rr_parser.specs.Numbering.{names_of, texts_held}
use Rattle.rr_parser.proofs.names.read_words.Given as goal

abbrev pub invariant-loop-token : goal.invariant-loop-token
invariant-loop-token l = record {
  words : l.words.items ++ words_behind l.source (names_of l.numbering) (texts_held l.numbering) l.behind_def l.left ≡ words_behind l.source [] [] false l.tokens;
  names : symbols_behind l.source (names_of l.numbering) l.behind_def l.left ≡ symbols_of l.source l.tokens;
  found : l.with_class ≡ has_class l.words.items;
  room : vec_len l.words + length l.left ≤ vec_capacity l.words;
  texts : fold (λ texts token. with_text l.source texts token token.kind) (texts_held l.numbering) l.left ≡ texts_of l.source l.tokens;
}

abbrev pub decreases-loop-token : goal.decreases-loop-token
decreases-loop-token l = length l.left
