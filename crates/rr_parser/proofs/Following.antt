-- One part behind another one.
use Rattle.std.proofs.Common.{◌≡◌, ℕ, true, false, List, ◌∷◌, None, Some, Result, Ok, Err, refl, sym, ap, ◌∙◌, subst}
use Rattle.std.specs.Prelude.{Vec}
use Rattle.std.specs.Borrow.{Bor}
use Rattle.std.specs.declared.alloc.Global.{Global}
use Rattle.rr_tree.specs.Tree.{Tree, tree_at, negate, logical_not}
use Rattle.rr_tree.proofs.Growth.{Extends-refl, Extends-trans}
use Rattle.rr_parser.specs.declared.parser.Parser.{Parser}
use Rattle.rr_parser.specs.declared.refusal.Refusal.{Refusal}
use Rattle.rr_parser.specs.declared.word.Listed.TheVariants as listings
use Rattle.rr_parser.specs.declared.word.Part.TheVariants as parts
use Rattle.rr_parser.specs.declared.word.Reached.{Reached as CodeReached}
use Rattle.rr_parser.specs.declared.word.Word.{Word}
use Rattle.rr_parser.specs.declared.word.WordKind.{WordKind}
use Rattle.rr_parser.specs.declared.word.WordKind.TheVariants as kind
use Rattle.rr_parser.specs.Places.{word, next}
use Rattle.rr_parser.specs.Grammar.Names.{command}
use Rattle.rr_parser.specs.Grammar.Operands.{Reached}
use Rattle.rr_parser.specs.Grammar.Several.{several}
use Rattle.rr_parser.specs.Reading.Answers.{◌>>=◌, Answer, Parse, built, from}
use Rattle.rr_parser.specs.Reading.Nesting.{Readers}
use Rattle.rr_parser.specs.Reading.Operands.{primary_at, primary_in, primary_of, postfix_of, bang_or, bang_of, prefix_minus, minus_or, minus_of}
use Rattle.rr_parser.specs.Reading.Calls.{is_introduced, is_prefixed, listed_of, commanded_on, commanded_at, commanded_or, commanded_of}
use Rattle.rr_parser.specs.Reading.Several.{receiver_on, rights_at, rights_or, rights_of}
use Rattle.rr_parser.specs.Reading.Sequences.{negation_or, negation_of, is_led, expression_of, spotted_on, simple_at, simple_or, simple_of}
use Rattle.rr_parser.specs.Meets.{nodes, reaches, Made, Fails, Gives, GivesList, Puts, known_of, place}
use Rattle.rr_parser.proofs.Making.{fails_bind, fails_eq, made_eq, made_over, made_put, seen_at, unseen_at}

-- ---- the first word

first_next : (p : Parser) (ws rest : List Word) (w : Word) (k : WordKind) → ws ≡ w ∷ rest → w.kind ≡ k → next (place p ws) ≡ Some (k, place p rest)
first_next p ws rest w k e f = ap (λ (l : List Word). next (place p l)) e ∙ ap (λ (q : WordKind). Some (q, place p rest)) f

-- one word is an operand
pub made_word : (N : Readers) (old new : Parser) (words rest : List Word) (w : Word) (k : WordKind) (t : Tree) (id : ℕ) → words ≡ w ∷ rest → w.kind ≡ k → primary_at N k (place old rest) ≡ Ok (t, place old rest) → Puts old new t id
    → Made nodes old new id rest (primary_of N (place old words))
unfolding primary_of
made_word N old new words rest w k t id e f is p = made_put old old new id rest t (primary_of N (place old words)) (ap (primary_in N) (first_next old words rest w k e f) ∙ is) (Extends-refl old.nodes.items) p

-- what stands behind a minus, a `!` or the word `not`
module _ (N : Readers) (old mid new : Parser) (i id : ℕ) (words after rest : List Word) where
  pub made_minus : prefix_minus words ≡ Some (tt, after) → Made nodes old mid i rest (N.part parts.Minus (place old after)) → Puts mid new (negate (tree_at mid.nodes.items i)) id → Made nodes old new id rest (minus_of N (place old words))
  unfolding minus_of
  made_minus e m p =
      made_eq (minus_of N (place old words)) (built negate (N.part parts.Minus (place old after))) (ap (minus_or N (place old words)) (seen_at old prefix_minus words after tt e)) (made_over negate m p refl)

  pub made_bang : word kind.Bang words ≡ Some (tt, after) → Made nodes old mid i rest (N.part parts.Bang (place old after)) → Puts mid new (logical_not (tree_at mid.nodes.items i)) id → Made nodes old new id rest (bang_of N (place old words))
  unfolding bang_of
  made_bang e m p =
      made_eq (bang_of N (place old words)) (built logical_not (N.part parts.Bang (place old after))) (ap (bang_or N (place old words)) (seen_at old (word kind.Bang) words after tt e)) (made_over logical_not m p refl)

  pub made_negation : word kind.NotWord words ≡ Some (tt, after) → Made nodes old mid i rest (N.part parts.Not (place old after)) → Puts mid new (logical_not (tree_at mid.nodes.items i)) id → Made nodes old new id rest (negation_of N (place old words))
  unfolding negation_of
  made_negation e m p =
      made_eq (negation_of N (place old words)) (built logical_not (N.part parts.Not (place old after))) (ap (negation_or N (place old words)) (seen_at old (word kind.NotWord) words after tt e)) (made_over logical_not m p refl)

-- ---- behind an operand

operand_gives : (old mid new : Parser) (e : CodeReached) (rest : List Word) (read : Answer Reached) (on : Reached → Parse Tree) (whole : Answer Tree) (r : Result (ℕ × Bor (List Word)) Refusal) → whole ≡ (read >>= λ x. on x.0 x.1)
    → Made reaches old mid e rest read → Gives mid new r (on (reaches.tree mid.nodes.items e) (place mid rest)) → Gives old new r whole
operand_gives old mid new e rest read on whole (Ok x) is m g = record {
  there = g.there;
  tree = is ∙ ap (λ (q : Answer Reached). q >>= λ y. on y.0 y.1) m.tree ∙ g.tree;
  kept = Extends-trans old.nodes.items mid.nodes.items new.nodes.items m.kept g.kept;
}
operand_gives old mid new e rest read on whole (Err d) is m g =
    fails_eq d whole (on (reaches.tree mid.nodes.items e) (place mid rest)) (is ∙ ap (λ (q : Answer Reached). q >>= λ y. on y.0 y.1) m.tree) g

operand_lists : (old mid new : Parser) (e : CodeReached) (rest : List Word) (read : Answer Reached) (on : Reached → Parse (List Tree)) (whole : Answer (List Tree)) (r : Result (Vec ℕ Global × Bor (List Word)) Refusal) → whole ≡ (read >>= λ x. on x.0 x.1)
    → Made reaches old mid e rest read → GivesList mid new r (on (reaches.tree mid.nodes.items e) (place mid rest)) → GivesList old new r whole
operand_lists old mid new e rest read on whole (Ok x) is m g = record {
  there = g.there;
  tree = is ∙ ap (λ (q : Answer Reached). q >>= λ y. on y.0 y.1) m.tree ∙ g.tree;
  kept = Extends-trans old.nodes.items mid.nodes.items new.nodes.items m.kept g.kept;
}
operand_lists old mid new e rest read on whole (Err d) is m g =
    fails_eq d whole (on (reaches.tree mid.nodes.items e) (place mid rest)) (is ∙ ap (λ (q : Answer Reached). q >>= λ y. on y.0 y.1) m.tree) g

-- the operand fails
operand_fails : {B : Type 0} (d : Refusal) (read : Answer Reached) (on : Reached → Parse B) (whole : Answer B) → whole ≡ (read >>= λ x. on x.0 x.1) → Fails d read → Fails d whole
operand_fails d read on whole is h = fails_eq d whole (read >>= λ x. on x.0 x.1) is (fails_bind d read (λ x. on x.0 x.1) h)

-- Where nothing else begins, an operand comes.
module _ (N : Readers) (old : Parser) (words : List Word) (none : several words ≡ None) where
  simple_from : is_led (known_of old) words ≡ false → simple_of N (place old words) ≡ from (postfix_of N) (spotted_on N) (place old words)
  unfolding simple_of
  simple_from e = ap (simple_or N (place old words)) (unseen_at old several words none) ∙ ap (λ b. simple_at N b (place old words)) e

  pub gives_simple : (mid new : Parser) (e : CodeReached) (rest : List Word) (r : Result (ℕ × Bor (List Word)) Refusal) → is_led (known_of old) words ≡ false → Made reaches old mid e rest (postfix_of N (place old words))
      → Gives mid new r (spotted_on N (reaches.tree mid.nodes.items e) (place mid rest)) → Gives old new r (simple_of N (place old words))
  gives_simple mid new e rest r f m g = operand_gives old mid new e rest (postfix_of N (place old words)) (spotted_on N) (simple_of N (place old words)) r (simple_from f) m g

  pub fails_simple : (d : Refusal) → is_led (known_of old) words ≡ false → Fails d (postfix_of N (place old words)) → Fails d (simple_of N (place old words))
  fails_simple d f h = operand_fails d (postfix_of N (place old words)) (spotted_on N) (simple_of N (place old words)) (simple_from f) h

  pub gives_led : (new : Parser) (r : Result (ℕ × Bor (List Word)) Refusal) → is_led (known_of old) words ≡ true → Gives old new r (expression_of N (place old words)) → Gives old new r (simple_of N (place old words))
  unfolding simple_of
  gives_led new r e g = subst (λ (q : Answer Tree). Gives old new r q) (sym (ap (simple_or N (place old words)) (unseen_at old several words none) ∙ ap (λ b. simple_at N b (place old words)) e)) g

module _ (N : Readers) (old : Parser) (words : List Word) (none : command (known_of old) words ≡ None) where
  commanded_from : is_introduced words ≡ false → commanded_of N (place old words) ≡ from (postfix_of N) (commanded_on N) (place old words)
  unfolding commanded_of
  commanded_from e = ap (commanded_or N (place old words)) (unseen_at old (command (known_of old)) words none) ∙ ap (λ b. commanded_at N b (place old words)) e

  pub gives_behind_operand : (mid new : Parser) (e : CodeReached) (rest : List Word) (r : Result (Vec ℕ Global × Bor (List Word)) Refusal) → is_introduced words ≡ false → Made reaches old mid e rest (postfix_of N (place old words))
      → GivesList mid new r (commanded_on N (reaches.tree mid.nodes.items e) (place mid rest)) → GivesList old new r (commanded_of N (place old words))
  gives_behind_operand mid new e rest r f m g = operand_lists old mid new e rest (postfix_of N (place old words)) (commanded_on N) (commanded_of N (place old words)) r (commanded_from f) m g

  pub fails_first_operand : (d : Refusal) → is_introduced words ≡ false → Fails d (postfix_of N (place old words)) → Fails d (commanded_of N (place old words))
  fails_first_operand d f h = operand_fails d (postfix_of N (place old words)) (commanded_on N) (commanded_of N (place old words)) (commanded_from f) h

  pub gives_introduced : (new : Parser) (r : Result (Vec ℕ Global × Bor (List Word)) Refusal) → is_introduced words ≡ true → GivesList old new r (listed_of N listings.Command (place old words)) → GivesList old new r (commanded_of N (place old words))
  unfolding commanded_of
  gives_introduced new r e g =
      subst (λ (q : Answer (List Tree)). GivesList old new r q) (sym (ap (commanded_or N (place old words)) (unseen_at old (command (known_of old)) words none) ∙ ap (λ b. commanded_at N b (place old words)) e)) g

  rights_from : is_prefixed words ≡ false → rights_of N (place old words) ≡ from (postfix_of N) (receiver_on N) (place old words)
  unfolding rights_of
  rights_from e = ap (rights_or N (place old words)) (unseen_at old (command (known_of old)) words none) ∙ ap (λ b. rights_at N b (place old words)) e

  pub gives_rights : (mid new : Parser) (e : CodeReached) (rest : List Word) (r : Result (ℕ × Bor (List Word)) Refusal) → is_prefixed words ≡ false → Made reaches old mid e rest (postfix_of N (place old words))
      → Gives mid new r (receiver_on N (reaches.tree mid.nodes.items e) (place mid rest)) → Gives old new r (rights_of N (place old words))
  gives_rights mid new e rest r f m g = operand_gives old mid new e rest (postfix_of N (place old words)) (receiver_on N) (rights_of N (place old words)) r (rights_from f) m g

  pub fails_rights : (d : Refusal) → is_prefixed words ≡ false → Fails d (postfix_of N (place old words)) → Fails d (rights_of N (place old words))
  fails_rights d f h = operand_fails d (postfix_of N (place old words)) (receiver_on N) (rights_of N (place old words)) (rights_from f) h
