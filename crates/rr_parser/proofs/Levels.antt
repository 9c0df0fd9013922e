-- Operators and conditions level by level, from the tightest on.
use Rattle.std.proofs.Common.{◌≡◌, ℕ, zero, suc, ◌+◌, ◌-◌, ◌<◌, ◌≤◌, length, List, None, Ok, Err, Result, refl, sym, ap, ◌∙◌, arith}
use Rattle.rr_tree.specs.Tree.{Tree, tree_at}
use Rattle.rr_tree.proofs.Growth.{Extends-refl, Extends-trans}
use Rattle.rr_parser.specs.declared.parser.Parser.{Parser}
use Rattle.rr_parser.specs.declared.refusal.Refusal.{Refusal}
use Rattle.rr_parser.specs.declared.word.Word.{Word}
use Rattle.rr_parser.specs.Places.{Place, placed}
use Rattle.rr_parser.specs.Grammar.Operators.{operator, infixed, connective, joined_by}
use Rattle.rr_parser.specs.Reading.Answers.{◌>>=◌, Answer, Parse, Refused, chain_on}
use Rattle.rr_parser.specs.Reading.Nesting.{Readers}
use Rattle.rr_parser.specs.Reading.Operators.{binary_on, binary_of, equality_on, logical_on, logical_of}
use Rattle.rr_parser.specs.Meets.{nodes, Made, Fails, place}
use Rattle.rr_parser.proofs.Chains.{chain_on-ends}
use Rattle.rr_parser.proofs.Making.{Goes, fails_bind, fails_eq}
use Rattle.rr_parser.proofs.Shrinking.{ReadersShrink}
use Rattle.rr_parser.proofs.Steps.{Steps-operator}

bind_done : {A : Type 0} (r : Answer A) → (r >>= λ x. Ok (x.0, x.1)) ≡ r
bind_done (Ok x) = refl
bind_done (Err d) = refl

bind_twice : {A B C : Type 0} (r : Result A Refused) (f : A → Result B Refused) (g : B → Result C Refused) → ((r >>= f) >>= g) ≡ (r >>= λ x. f x >>= g)
bind_twice (Ok x) f g = refl
bind_twice (Err d) f g = refl

-- What is read is so at level 0, and at each level above it what the level makes of what the one below reads.
module _ (step whole : ℕ → Tree → Parse Tree) (up : (u : ℕ) (l : Tree) (s : Place) → whole (suc u) l s ≡ (whole u l s >>= λ x. step (suc u) x.0 x.1)) where
  -- what so many levels above this one make
  unfoldable pub levels : ℕ → ℕ → Tree → Parse Tree
  levels zero u l s = Ok (l, s)
  levels (suc k) u l s = step (suc u) l s >>= λ x. levels k (suc u) x.0 x.1

  above : (k u : ℕ) (l : Tree) (s : Place) → whole (u + k) l s ≡ (whole u l s >>= λ x. levels k u x.0 x.1)
  unfolding levels
  above zero u l s = let e : u + 0 ≡ u = omega arith in ap (λ n. whole n l s) e ∙ sym (bind_done (whole u l s))
  above (suc k) u l s =
      let e : u + suc k ≡ suc u + k = omega arith in
      ap (λ n. whole n l s) e
      ∙ above k (suc u) l s
      ∙ ap (λ (q : Answer Tree). q >>= λ x. levels k (suc u) x.0 x.1) (up u l s)
      ∙ bind_twice (whole u l s) (λ x. step (suc u) x.0 x.1) (λ x. levels k (suc u) x.0 x.1)

  all_levels : (level : ℕ) (l : Tree) (s : Place) → whole level l s ≡ (whole 0 l s >>= λ x. levels level 0 x.0 x.1)
  all_levels level l s = let e : level ≡ 0 + level = omega arith in ap (λ n. whole n l s) e ∙ above level 0 l s

  -- level 0 was read
  pub levels_begin : (level : ℕ) (old new : Parser) (l : Tree) (words rest : List Word) (i : ℕ) → Made nodes old new i rest (whole 0 l (place old words))
      → Goes nodes old new i (whole level l (place old words)) (levels (level - 0) 0 (tree_at new.nodes.items i) (place new rest))
  unfolding levels
  levels_begin level old new l words rest i m = record {
    there = m.there;
    kept = m.kept;
    same =
        let e : level ≡ level - 0 = omega arith in
        all_levels level l (place old words) ∙ ap (λ (q : Answer Tree). q >>= λ x. levels level 0 x.0 x.1) m.tree ∙ ap (λ (n : ℕ). levels n 0 (tree_at new.nodes.items i) (place new rest)) e;
  }

  -- level 0 was refused
  pub levels_refused : (level : ℕ) (l : Tree) (s : Place) (d : Refusal) → Fails d (whole 0 l s) → Fails d (whole level l s)
  levels_refused level l s d h = fails_eq d (whole level l s) (whole 0 l s >>= λ x. levels level 0 x.0 x.1) (all_levels level l s) (fails_bind d (whole 0 l s) (λ x. levels level 0 x.0 x.1) h)

  next_level : (level u : ℕ) (l : Tree) (s : Place) → u < level → levels (level - u) u l s ≡ (step (u + 1) l s >>= λ x. levels (level - (u + 1)) (u + 1) x.0 x.1)
  unfolding levels
  next_level level u l s lt =
      let e : level - u ≡ suc (level - (u + 1)) = omega (arith, lt) in
      let f : suc u ≡ u + 1 = omega arith in
      ap (λ n. levels n u l s) e ∙ ap (λ n. step n l s >>= λ x. levels (level - (u + 1)) n x.0 x.1) f

  module _ (level u : ℕ) (lt : u < level) (old s0 : Parser) (i : ℕ) (rest : List Word) (read : Answer Tree) (g : Goes nodes old s0 i read (levels (level - u) u (tree_at s0.nodes.items i) (place s0 rest))) where
    -- one level more
    pub levels_on : (s1 : Parser) (j : ℕ) (after : List Word) → Made nodes s0 s1 j after (step (u + 1) (tree_at s0.nodes.items i) (place s0 rest))
        → Goes nodes old s1 j read (levels (level - (u + 1)) (u + 1) (tree_at s1.nodes.items j) (place s1 after))
    levels_on s1 j after m = record {
      there = m.there;
      kept = Extends-trans old.nodes.items s0.nodes.items s1.nodes.items g.kept m.kept;
      same = g.same ∙ next_level level u (tree_at s0.nodes.items i) (place s0 rest) lt ∙ ap (λ (q : Answer Tree). q >>= λ x. levels (level - (u + 1)) (u + 1) x.0 x.1) m.tree;
    }

    pub levels_fail : (d : Refusal) → Fails d (step (u + 1) (tree_at s0.nodes.items i) (place s0 rest)) → Fails d read
    levels_fail d h =
        fails_eq d read (step (u + 1) (tree_at s0.nodes.items i) (place s0 rest) >>= λ x. levels (level - (u + 1)) (u + 1) x.0 x.1)
        (g.same ∙ next_level level u (tree_at s0.nodes.items i) (place s0 rest) lt)
        (fails_bind d (step (u + 1) (tree_at s0.nodes.items i) (place s0 rest)) (λ x. levels (level - (u + 1)) (u + 1) x.0 x.1) h)

  -- no level is left
  pub levels_end : (level u : ℕ) → level ≤ u → (old s0 : Parser) (i : ℕ) (rest : List Word) (read : Answer Tree) → Goes nodes old s0 i read (levels (level - u) u (tree_at s0.nodes.items i) (place s0 rest)) → Made nodes old s0 i rest read
  unfolding levels
  levels_end level u le old s0 i rest read g =
      let e : level - u ≡ 0 = omega (arith, le) in
      record { there = g.there; tree = g.same ∙ ap (λ n. levels n u (tree_at s0.nodes.items i) (place s0 rest)) e; kept = g.kept }

-- ---- operators

abbrev pub infixed_at : Readers → ℕ → Tree → Parse Tree
infixed_at N n = chain_on (operator n) infixed (binary_of N (n - 1))

pub infixed_up : (N : Readers) (u : ℕ) (l : Tree) (s : Place) → binary_on N (suc u) l s ≡ (binary_on N u l s >>= λ x. infixed_at N (suc u) x.0 x.1)
unfolding binary_on
infixed_up N u l s = let e : u ≡ suc u - 1 = omega arith in ap (λ (n : ℕ). binary_on N u l s >>= λ x. chain_on (operator (suc u)) infixed (binary_of N n) x.0 x.1) e

pub infixed_first : (N : Readers) (p : Parser) (i : ℕ) (words : List Word) → i < length p.nodes.items → Made nodes p p i words (binary_on N 0 (tree_at p.nodes.items i) (place p words))
unfolding binary_on
infixed_first N p i words lt = record { there = lt; tree = refl; kept = Extends-refl p.nodes.items }

module _ (N : Readers) (shrinks : ReadersShrink N) where
  abbrev levels_of : ℕ → ℕ → Tree → Parse Tree
  levels_of = levels (infixed_at N) (binary_on N) (infixed_up N)

  unbound : (k u : ℕ) (l : Tree) (s : Place) → ((n : ℕ) → n ≤ u + k → operator n s.rest ≡ None) → levels_of k u l s ≡ Ok (l, s)
  unfolding levels
  unbound zero u l s none = refl
  unbound (suc k) u l s none =
      ap (λ (q : Answer Tree). q >>= λ x. levels_of k (suc u) x.0 x.1)
      (chain_on-ends (operator (suc u)) infixed (binary_of N (suc u - 1)) (Steps-operator (suc u)) (shrinks.binary (suc u - 1)) l s (ap (placed s.known) (none (suc u) (omega arith))))
      ∙ unbound k (suc u) l s (λ n le. none n (omega (arith, le)))

  -- no operator as tight comes any more
  pub levels_unbound : (level u : ℕ) → u < level → (old s0 : Parser) (i : ℕ) (rest : List Word) (read : Answer Tree) → Goes nodes old s0 i read (levels_of (level - u) u (tree_at s0.nodes.items i) (place s0 rest))
      → ((n : ℕ) → n ≤ level → operator n rest ≡ None) → Made nodes old s0 i rest read
  levels_unbound level u lt old s0 i rest read g none = record {
    there = g.there;
    tree = g.same ∙ unbound (level - u) u (tree_at s0.nodes.items i) (place s0 rest) (λ n le. none n (omega (arith, le, lt)));
    kept = g.kept;
  }

-- ---- conditions

abbrev pub joined_at : Readers → ℕ → Tree → Parse Tree
joined_at N n = chain_on (connective n) joined_by (logical_of N (n - 1))

pub joined_up : (N : Readers) (u : ℕ) (l : Tree) (s : Place) → logical_on N (suc u) l s ≡ (logical_on N u l s >>= λ x. joined_at N (suc u) x.0 x.1)
unfolding logical_on
joined_up N u l s = let e : u ≡ suc u - 1 = omega arith in ap (λ (n : ℕ). logical_on N u l s >>= λ x. chain_on (connective (suc u)) joined_by (logical_of N n) x.0 x.1) e

pub joined_first : (N : Readers) (old new : Parser) (l : Tree) (i : ℕ) (words rest : List Word) → Made nodes old new i rest (equality_on N l (place old words)) → Made nodes old new i rest (logical_on N 0 l (place old words))
unfolding logical_on
joined_first N old new l i words rest m = m

pub joined_refused : (N : Readers) (l : Tree) (s : Place) (d : Refusal) → Fails d (equality_on N l s) → Fails d (logical_on N 0 l s)
unfolding logical_on
joined_refused N l s d h = h
