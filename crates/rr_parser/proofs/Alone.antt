-- An operand that stands alone: no operator goes on with it.
use Rattle.std.proofs.Common.{◌≡◌, ℕ, zero, suc, ◌<◌, ◌≤◌, length, List, None, Ok, refl, ap, ◌∙◌, arith}
use Rattle.rr_tree.specs.Tree.{Tree, tree_at}
use Rattle.rr_tree.proofs.Growth.{Extends-refl}
use Rattle.rr_parser.specs.declared.parser.Parser.{Parser}
use Rattle.rr_parser.specs.declared.word.Word.{Word}
use Rattle.rr_parser.specs.declared.word.WordKind.TheVariants as kind
use Rattle.rr_parser.specs.Places.{Place, placed, word, at}
use Rattle.rr_parser.specs.Grammar.Operators.{operator, infixed, connective, joined_by}
use Rattle.rr_parser.specs.Reading.Answers.{◌>>=◌, Answer, chain_on}
use Rattle.rr_parser.specs.Reading.Nesting.{Readers}
use Rattle.rr_parser.specs.Reading.Operands.{minus_of}
use Rattle.rr_parser.specs.Reading.Operators.{binary_on, binary_of, pair_or, equality_on, logical_on, logical_of, question_or, ternary_on}
use Rattle.rr_parser.specs.Meets.{nodes, Made, place}
use Rattle.rr_parser.proofs.Chains.{chain_on-ends}
use Rattle.rr_parser.proofs.Shrinking.{ReadersShrink}
use Rattle.rr_parser.proofs.Steps.{Steps-operator, Steps-connective}

module _ (N : Readers) (shrinks : ReadersShrink N) (l : Tree) (m : Place) where
  binary_alone : (level : ℕ) → ((n : ℕ) → n ≤ level → operator n m.rest ≡ None) → binary_on N level l m ≡ Ok (l, m)
  unfolding binary_on
  binary_alone zero none = refl
  binary_alone (suc level) none =
      ap (λ (q : Answer Tree). q >>= λ x. chain_on (operator (suc level)) infixed (binary_of N level) x.0 x.1) (binary_alone level (λ n le. none n (omega (arith, le))))
      ∙ chain_on-ends (operator (suc level)) infixed (binary_of N level) (Steps-operator (suc level)) (shrinks.binary level) l m (ap (placed m.known) (none (suc level) (omega arith)))

  equality_alone : ((n : ℕ) → operator n m.rest ≡ None) → equality_on N l m ≡ Ok (l, m)
  unfolding equality_on
  equality_alone none =
      ap (λ (q : Answer Tree). q >>= λ x. pair_or N x.0 x.1 (at (operator 5) x.1)) (binary_alone 4 (λ n le. none n)) ∙ ap (λ o. pair_or N l m (placed m.known o)) (none 5)

  logical_alone : (level : ℕ) → ((n : ℕ) → operator n m.rest ≡ None) → ((n : ℕ) → n ≤ level → connective n m.rest ≡ None) → logical_on N level l m ≡ Ok (l, m)
  unfolding logical_on
  logical_alone zero none unjoined = equality_alone none
  logical_alone (suc level) none unjoined =
      ap (λ (q : Answer Tree). q >>= λ x. chain_on (connective (suc level)) joined_by (logical_of N level) x.0 x.1) (logical_alone level none (λ n le. unjoined n (omega (arith, le))))
      ∙ chain_on-ends (connective (suc level)) joined_by (logical_of N level) (Steps-connective (suc level)) (shrinks.logical level) l m (ap (placed m.known) (unjoined (suc level) (omega arith)))

  ternary_alone : ((n : ℕ) → operator n m.rest ≡ None) → ((n : ℕ) → n ≤ 2 → connective n m.rest ≡ None) → word kind.Question m.rest ≡ None → ternary_on N l m ≡ Ok (l, m)
  unfolding ternary_on
  ternary_alone none unjoined unasked =
      ap (λ (q : Answer Tree). q >>= λ c. question_or N c.0 c.1 (at (word kind.Question) c.1)) (logical_alone 2 none unjoined) ∙ ap (λ o. question_or N l m (placed m.known o)) unasked

module _ (N : Readers) (shrinks : ReadersShrink N) where
  -- an operand behind which no operator as tight comes
  pub binary_made : (level : ℕ) (old new : Parser) (i : ℕ) (words rest : List Word) → Made nodes old new i rest (minus_of N (place old words)) → ((n : ℕ) → n ≤ level → operator n rest ≡ None) → Made nodes old new i rest (binary_of N level (place old words))
  binary_made level old new i words rest m none = record {
    there = m.there;
    tree = ap (λ (q : Answer Tree). q >>= λ x. binary_on N level x.0 x.1) m.tree ∙ binary_alone N shrinks (tree_at new.nodes.items i) (place new rest) level none;
    kept = m.kept;
  }

module _ (N : Readers) (shrinks : ReadersShrink N) (p : Parser) (left : ℕ) (words : List Word) (there : left < length p.nodes.items) where
  pub made_alone : ((n : ℕ) → operator n words ≡ None) → ((n : ℕ) → n ≤ 2 → connective n words ≡ None) → word kind.Question words ≡ None → Made nodes p p left words (ternary_on N (tree_at p.nodes.items left) (place p words))
  made_alone none unjoined unasked = record { there = there; tree = ternary_alone N shrinks (tree_at p.nodes.items left) (place p words) none unjoined unasked; kept = Extends-refl p.nodes.items }
