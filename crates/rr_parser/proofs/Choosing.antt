-- What the code made of choices, loops and jumps.
use Rattle.std.proofs.Common.{◌≡◌, ℕ, ◌<◌, Bool, true, false, cond, List, [], ◌∷◌, ◌++◌, length, get_or, map, Option, Some, None, Result, Ok, Err, refl, sym, ap, ◌∙◌, subst, arith}
use Rattle.std.specs.Prelude.{All, IfOk}
use Rattle.rr_parser.specs.declared.word.Infix.{Infix}
use Rattle.rr_tree.specs.declared.node.Node.{Node}
use Rattle.rr_tree.specs.Tree.{Tree, nil, sequence, array, listed, choose, repeat, tree_at, HasPartsBefore, IsOrdered}
use Rattle.rr_tree.specs.Nodes.{Extends}
use Rattle.rr_tree.proofs.Growth.{IsOrdered-put, tree_at-kept, Extends-trans, length-kept}
use Rattle.std.specs.Borrow.{Bor}
use Rattle.rr_parser.specs.declared.refusal.Storage.{Storage}
use Rattle.rr_parser.specs.declared.word.Head.{Head}
use Rattle.rr_parser.specs.declared.word.Head.TheVariants as heads
use Rattle.rr_parser.specs.declared.word.Jump.{Jump}
use Rattle.rr_parser.specs.declared.word.Part.TheVariants as parts
use Rattle.rr_parser.specs.declared.word.Word.{Word}
use Rattle.rr_parser.specs.declared.refusal.Refusal.{Refusal}
use Rattle.rr_parser.specs.declared.parser.Parser.{Parser}
use Rattle.rr_parser.specs.declared.word.WordKind.{WordKind}
use Rattle.rr_parser.specs.declared.word.WordKind.TheVariants as kind
use Rattle.rr_parser.specs.Places.{Known, Place, without_separators, word, at, skip}
use Rattle.rr_parser.specs.Grammar.Names.{with_loop, jump_tree, is_splat, one_value, headed}
use Rattle.rr_parser.specs.Grammar.Operators.{operator, infixed}
use Rattle.rr_parser.specs.Grammar.Control.{thens, loops, chosen, unless_chosen, outside_loop}
use Rattle.rr_parser.specs.Reading.Answers.{◌>>=◌, wrong, Answer, built, ended_by, closed, across, taking_of}
use Rattle.rr_parser.specs.Reading.Nesting.{Readers}
use Rattle.rr_parser.specs.Reading.Operators.{binary_on, binary_of, pair_or, equality_on, logical_on, question_or, ternary_on}
use Rattle.rr_parser.specs.Reading.Sequences.{expression_of, ends, rows_of, sequence_of, statements_of}
use Rattle.rr_parser.specs.Reading.Control.{both, branch_of, branches_of, otherwise_of, ended, choice_of, unless_of, loop_of, looped_of}
use Rattle.rr_parser.specs.Meets.{View, nodes, pairs, lists, Made, Fails, Gives, Puts, SetsLoop, known_of, place}
use Rattle.rr_parser.proofs.Making.{over_ok, stable_pairs, kept_list, fails_bind, fails_eq, seen_at, unseen_at, gives_from, made_put, closed_tree, closed_wrong, across_tree, across_wrong, across_fails}

-- ---- two parts

-- both sides of an equality
pub made_pair : (N : Readers) (old m1 m2 new : Parser) (l : Tree) (a b id : ℕ) (words rest after left : List Word) (o : Infix)
    → Made nodes old m1 a rest (binary_on N 4 l (place old words)) → operator 5 rest ≡ Some (o, after)
    → Made nodes m1 m2 b left (binary_of N 4 (place m1 after)) → Puts m2 new (infixed o (tree_at m2.nodes.items a) (tree_at m2.nodes.items b)) id
    → Made nodes old new id left (equality_on N l (place old words))
unfolding equality_on
made_pair N old m1 m2 new l a b id words rest after left o m e k p =
    made_put old m2 new id left (infixed o (tree_at m2.nodes.items a) (tree_at m2.nodes.items b)) (equality_on N l (place old words))
    (ap (λ (q : Answer Tree). q >>= λ l. pair_or N l.0 l.1 (at (operator 5) l.1)) m.tree
    ∙ ap (pair_or N (tree_at m1.nodes.items a) (place m1 rest)) (seen_at m1 (operator 5) rest after o e)
    ∙ ap (built (infixed o (tree_at m1.nodes.items a))) k.tree
    ∙ ap (λ (u : Tree). Ok (infixed o u (tree_at m2.nodes.items b), place m2 left)) (sym (tree_at-kept m1.nodes.items m2.nodes.items a k.kept m.there)))
    (Extends-trans old.nodes.items m1.nodes.items m2.nodes.items m.kept k.kept) p

-- what is chosen between
pub gives_question : (N : Readers) (old m1 new : Parser) (l : Tree) (a : ℕ) (words rest after : List Word) (r : Result (ℕ × Bor (List Word)) Refusal) → Made nodes old m1 a rest (logical_on N 2 l (place old words))
    → word kind.Question rest ≡ Some (tt, after) → Gives m1 new r (across (choose (tree_at m1.nodes.items a)) (word kind.Colon) (N.part parts.Branch) (N.part parts.Branch (place m1 after)))
    → Gives old new r (ternary_on N l (place old words))
unfolding ternary_on
gives_question N old m1 new l a words rest after r m e g =
    gives_from old m1 new a rest (logical_on N 2 l (place old words)) (λ c s. question_or N c s (at (word kind.Question) s)) r m
    (subst (λ (o : Option (Unit {0} × Place)). Gives m1 new r (question_or N (tree_at m1.nodes.items a) (place m1 rest) o)) (sym (seen_at m1 (word kind.Question) rest after tt e)) g)

pub no_question_made : (N : Readers) (old m1 : Parser) (l : Tree) (a : ℕ) (words rest : List Word) → Made nodes old m1 a rest (logical_on N 2 l (place old words)) → word kind.Question rest ≡ None
    → Made nodes old m1 a rest (ternary_on N l (place old words))
unfolding ternary_on
no_question_made N old m1 l a words rest m e = record {
  there = m.there;
  tree = ap (λ (q : Answer Tree). q >>= λ c. question_or N c.0 c.1 (at (word kind.Question) c.1)) m.tree ∙ ap (question_or N (tree_at m1.nodes.items a) (place m1 rest)) (unseen_at m1 (word kind.Question) rest e);
  kept = m.kept;
}

pub kept_twice : (old m1 m2 : Parser) (a : ℕ) → a < length old.nodes.items → Extends old.nodes.items m1.nodes.items → Extends m1.nodes.items m2.nodes.items → tree_at m2.nodes.items a ≡ tree_at old.nodes.items a
kept_twice old m1 m2 a lt x y = tree_at-kept old.nodes.items m2.nodes.items a (Extends-trans old.nodes.items m1.nodes.items m2.nodes.items x y) lt

pub made_alternatives : (N : Readers) (old m1 m2 new : Parser) (c a b id : ℕ) (words rest after left : List Word) → c < length old.nodes.items → Made nodes old m1 a rest (N.part parts.Branch (place old words))
    → word kind.Colon rest ≡ Some (tt, after) → Made nodes m1 m2 b left (N.part parts.Branch (place m1 after))
    → Puts m2 new (choose (tree_at m2.nodes.items c) (tree_at m2.nodes.items a) (tree_at m2.nodes.items b)) id
    → Made nodes old new id left (across (choose (tree_at old.nodes.items c)) (word kind.Colon) (N.part parts.Branch) (N.part parts.Branch (place old words)))
made_alternatives N old m1 m2 new c a b id words rest after left lt m e k p =
    let read = across (choose (tree_at old.nodes.items c)) (word kind.Colon) (N.part parts.Branch) (N.part parts.Branch (place old words)) in
    made_put old m2 new id left (choose (tree_at m2.nodes.items c) (tree_at m2.nodes.items a) (tree_at m2.nodes.items b)) read
    (across_tree (choose (tree_at old.nodes.items c)) (word kind.Colon) (N.part parts.Branch) old m1 a rest (N.part parts.Branch (place old words)) m m2 b after left e k
    ∙ ap (λ (u : Tree). Ok (choose u (tree_at m2.nodes.items a) (tree_at m2.nodes.items b), place m2 left)) (sym (kept_twice old m1 m2 c lt m.kept k.kept)))
    (Extends-trans old.nodes.items m1.nodes.items m2.nodes.items m.kept k.kept) p

-- a condition and what is done where it holds
pub made_branch : (N : Readers) (old m1 m2 : Parser) (c t : ℕ) (words rest after left : List Word) → Made nodes old m1 c rest (expression_of N (place old words))
    → thens rest ≡ Some (tt, after) → Made nodes m1 m2 t left (statements_of N (place m1 after)) → Made pairs old m2 (c, t) left (branch_of N (place old words))
unfolding branch_of
made_branch N old m1 m2 c t words rest after left m e k = record {
  there = (omega (arith, m.there, length-kept m1.nodes.items m2.nodes.items k.kept), k.there);
  tree = across_tree both thens (statements_of N) old m1 c rest (expression_of N (place old words)) m m2 t after left e k;
  kept = Extends-trans old.nodes.items m1.nodes.items m2.nodes.items m.kept k.kept;
}

-- what is done as long as a condition holds
pub made_loop : (N : Readers) (until : Bool) (old m1 m2 new : Parser) (c t id : ℕ) (words rest after left behind : List Word) → Made nodes old m1 c rest (taking_of false (expression_of N) (place old words))
    → loops rest ≡ Some (tt, after) → Made nodes m1 m2 t left (statements_of N (place m1 after)) → word kind.End left ≡ Some (tt, behind)
    → Puts m2 new (repeat until (tree_at m2.nodes.items c) (tree_at m2.nodes.items t)) id → Made nodes old new id behind (loop_of N until (place old words))
unfolding loop_of
made_loop N until old m1 m2 new c t id words rest after left behind m e k f p =
    let read = across (repeat until) loops (statements_of N) (taking_of false (expression_of N) (place old words)) in
    made_put old m2 new id behind (repeat until (tree_at m2.nodes.items c) (tree_at m2.nodes.items t)) (closed kind.End read)
    (closed_tree m2 kind.End left behind (repeat until (tree_at m2.nodes.items c) (tree_at m2.nodes.items t)) read
    (across_tree (repeat until) loops (statements_of N) old m1 c rest (taking_of false (expression_of N) (place old words)) m m2 t after left e k) f)
    (Extends-trans old.nodes.items m1.nodes.items m2.nodes.items m.kept k.kept) p

pub wrong_loop : (N : Readers) (until : Bool) (old m1 m2 : Parser) (c t : ℕ) (words rest after left : List Word) → Made nodes old m1 c rest (taking_of false (expression_of N) (place old words))
    → loops rest ≡ Some (tt, after) → Made nodes m1 m2 t left (statements_of N (place m1 after)) → word kind.End left ≡ None → loop_of N until (place old words) ≡ Err wrong
unfolding loop_of
wrong_loop N until old m1 m2 c t words rest after left m e k f =
    let read = across (repeat until) loops (statements_of N) (taking_of false (expression_of N) (place old words)) in
    closed_wrong m2 kind.End left (repeat until (tree_at m2.nodes.items c) (tree_at m2.nodes.items t)) read
    (across_tree (repeat until) loops (statements_of N) old m1 c rest (taking_of false (expression_of N) (place old words)) m m2 t after left e k) f

pub unbegun_loop : (N : Readers) (until : Bool) (old m1 : Parser) (c : ℕ) (words rest : List Word) → Made nodes old m1 c rest (taking_of false (expression_of N) (place old words)) → loops rest ≡ None → loop_of N until (place old words) ≡ Err wrong
unfolding loop_of
unbegun_loop N until old m1 c words rest m e = ap (closed kind.End) (across_wrong (repeat until) loops (statements_of N) old m1 c rest (taking_of false (expression_of N) (place old words)) m e)

pub fails_loop : (N : Readers) (until : Bool) (old m1 : Parser) (c : ℕ) (words rest after : List Word) (d : Refusal) → Made nodes old m1 c rest (taking_of false (expression_of N) (place old words))
    → loops rest ≡ Some (tt, after) → Fails d (statements_of N (place m1 after)) → Fails d (loop_of N until (place old words))
unfolding loop_of
fails_loop N until old m1 c words rest after d m e h =
    let read = across (repeat until) loops (statements_of N) (taking_of false (expression_of N) (place old words)) in
    fails_bind d read (λ x. ended_by x.0 (at (word kind.End) x.1)) (across_fails (repeat until) loops (statements_of N) old m1 c rest (taking_of false (expression_of N) (place old words)) m after d e h)

-- ---- what is done otherwise

-- a step behind another one, with what ends them
bind_closed : {A B : Type 0} (k : WordKind) (r : Answer A) (f : A × Place → Answer B) → (r >>= λ x. closed k (f x)) ≡ closed k (r >>= f)
bind_closed k (Ok x) f = refl
bind_closed k (Err d) f = refl

module _ {E A : Type 0} (v : View E A) (N : Readers) (f : A → Tree → Tree) (old m1 m2 : Parser) (l : E) (rest : List Word) (e : ℕ) (left : List Word) (read : Answer A) (m : Made v old m1 l rest read)
    (same : v.tree m2.nodes.items l ≡ v.tree m1.nodes.items l) (k : Made nodes m1 m2 e left (otherwise_of N (place m1 rest))) where
  ended_read : (read >>= λ l. built (f l.0) (otherwise_of N l.1)) ≡ Ok (f (v.tree m2.nodes.items l) (tree_at m2.nodes.items e), place m2 left)
  ended_read =
      ap (λ (q : Answer A). q >>= λ l. built (f l.0) (otherwise_of N l.1)) m.tree
      ∙ ap (built (f (v.tree m1.nodes.items l))) k.tree
      ∙ ap (λ (u : A). Ok (f u (tree_at m2.nodes.items e), place m2 left)) (sym same)

  pub made_ended : (new : Parser) (id : ℕ) (after : List Word) → word kind.End left ≡ Some (tt, after) → Puts m2 new (f (v.tree m2.nodes.items l) (tree_at m2.nodes.items e)) id → Made nodes old new id after (ended N f read)
  made_ended new id after c p =
      made_put old m2 new id after (f (v.tree m2.nodes.items l) (tree_at m2.nodes.items e)) (ended N f read)
      (bind_closed kind.End read (λ l. built (f l.0) (otherwise_of N l.1))
      ∙ closed_tree m2 kind.End left after (f (v.tree m2.nodes.items l) (tree_at m2.nodes.items e)) (read >>= λ l. built (f l.0) (otherwise_of N l.1)) ended_read c)
      (Extends-trans old.nodes.items m1.nodes.items m2.nodes.items m.kept k.kept) p

  pub wrong_ended : word kind.End left ≡ None → ended N f read ≡ Err wrong
  wrong_ended c =
      bind_closed kind.End read (λ l. built (f l.0) (otherwise_of N l.1))
      ∙ closed_wrong m2 kind.End left (f (v.tree m2.nodes.items l) (tree_at m2.nodes.items e)) (read >>= λ l. built (f l.0) (otherwise_of N l.1)) ended_read c

pub fails_ended : {E A : Type 0} (v : View E A) (N : Readers) (f : A → Tree → Tree) (old m1 : Parser) (l : E) (rest : List Word) (read : Answer A) (d : Refusal) → Made v old m1 l rest read → Fails d (otherwise_of N (place m1 rest)) → Fails d (ended N f read)
fails_ended {E} {A} v N f old m1 l rest read d m h =
    let on = built (f (v.tree m1.nodes.items l)) (otherwise_of N (place m1 rest)) in
    fails_eq d (ended N f read) (closed kind.End on) (ap (λ (q : Answer A). q >>= λ l. closed kind.End (built (f l.0) (otherwise_of N l.1))) m.tree)
    (fails_bind d on (λ x. ended_by x.0 (at (word kind.End) x.1)) (fails_bind d (otherwise_of N (place m1 rest)) (λ x. Ok (f (v.tree m1.nodes.items l) x.0, x.1)) h))

same_branches : (m1 m2 : Parser) (bs : List (ℕ × ℕ)) → Extends m1.nodes.items m2.nodes.items → All (pairs.within (length m1.nodes.items)) bs → map (pairs.tree m2.nodes.items) bs ≡ map (pairs.tree m1.nodes.items) bs
same_branches m1 m2 bs x all = kept_list pairs stable_pairs m1.nodes.items m2.nodes.items bs x all

pub made_choice : (N : Readers) (old m1 m2 new : Parser) (bs : List (ℕ × ℕ)) (e id : ℕ) (words rest left after : List Word) → Made (lists pairs) old m1 bs rest (branches_of N (place old words))
    → Made nodes m1 m2 e left (otherwise_of N (place m1 rest)) → word kind.End left ≡ Some (tt, after)
    → Puts m2 new (chosen (map (pairs.tree m2.nodes.items) bs) (tree_at m2.nodes.items e)) id → Made nodes old new id after (choice_of N (place old words))
unfolding choice_of
made_choice N old m1 m2 new bs e id words rest left after m k f p =
    made_ended (lists pairs) N chosen old m1 m2 bs rest e left (branches_of N (place old words)) m (same_branches m1 m2 bs k.kept m.there) k new id after f p

pub wrong_choice : (N : Readers) (old m1 m2 : Parser) (bs : List (ℕ × ℕ)) (e : ℕ) (words rest left : List Word) → Made (lists pairs) old m1 bs rest (branches_of N (place old words))
    → Made nodes m1 m2 e left (otherwise_of N (place m1 rest)) → word kind.End left ≡ None → choice_of N (place old words) ≡ Err wrong
unfolding choice_of
wrong_choice N old m1 m2 bs e words rest left m k f = wrong_ended (lists pairs) N chosen old m1 m2 bs rest e left (branches_of N (place old words)) m (same_branches m1 m2 bs k.kept m.there) k f

pub made_unless : (N : Readers) (old m1 m2 new : Parser) (c t e id : ℕ) (words rest left after : List Word) → Made pairs old m1 (c, t) rest (branch_of N (place old words))
    → Made nodes m1 m2 e left (otherwise_of N (place m1 rest)) → word kind.End left ≡ Some (tt, after)
    → Puts m2 new (choose (tree_at m2.nodes.items c) (tree_at m2.nodes.items e) (tree_at m2.nodes.items t)) id → Made nodes old new id after (unless_of N (place old words))
unfolding unless_of
made_unless N old m1 m2 new c t e id words rest left after m k f p =
    made_ended pairs N unless_chosen old m1 m2 (c, t) rest e left (branch_of N (place old words)) m (stable_pairs.kept m1.nodes.items m2.nodes.items (c, t) k.kept m.there) k new id after f p

-- ---- branches over one another

pub chosen-append : (bs : List (Tree × Tree)) (b : Tree × Tree) (e : Tree) → chosen (bs ++ b ∷ []) e ≡ chosen bs (choose b.0 b.1 e)
chosen-append [] b e = refl
chosen-append (c ∷ bs) b e = ap (choose c.0 c.1) (chosen-append bs b e)

-- statements that do not end at once
pub reads_statements : (N : Readers) (s : Place) → ends (without_separators s.rest) ≡ false → statements_of N s ≡ sequence_of (rows_of N (skip s))
unfolding statements_of
reads_statements N s e = ap (λ b. cond b (Ok (sequence (listed []), skip s)) (sequence_of (rows_of N (skip s)))) e

-- the nodes stay in order, whether or not one came
pub ordered_pushed : (b : Bool) (ns new : List Node) (n : Node) → new ≡ cond b (ns ++ n ∷ []) ns → IsOrdered ns → HasPartsBefore (length ns) n → IsOrdered new
ordered_pushed true ns new n e ordered h = subst IsOrdered (sym e) (IsOrdered-put ns n ordered h)
ordered_pushed false ns new n e ordered h = subst IsOrdered (sym e) ordered

-- ---- jumps

-- a loop, in which jumps may stand
module _ (N : Readers) (until : Bool) (old s0 : Parser) (words : List Word) (b : SetsLoop old s0 true) where
  reads_looped : looped_of N until (place old words) ≡ (loop_of N until (place s0 words) >>= λ x. Ok (x.0, outside_loop (place old words) x.1))
  reads_looped = ap (λ (k : Known). loop_of N until (record { known = k; rest = words }) >>= λ x. Ok (x.0, outside_loop (place old words) x.1)) (sym b.known)

  pub fails_looped : (d : Refusal) → Fails d (loop_of N until (place s0 words)) → Fails d (looped_of N until (place old words))
  fails_looped d h =
      fails_eq d (looped_of N until (place old words)) (loop_of N until (place s0 words) >>= λ x. Ok (x.0, outside_loop (place old words) x.1)) reads_looped
      (fails_bind d (loop_of N until (place s0 words)) (λ x. Ok (x.0, outside_loop (place old words) x.1)) h)

  pub made_looped : (m1 new : Parser) (id : ℕ) (rest : List Word) (was : Bool) → was ≡ (known_of old).in_loop → Made nodes s0 m1 id rest (loop_of N until (place s0 words)) → SetsLoop m1 new was
      → Made nodes old new id rest (looped_of N until (place old words))
  made_looped m1 new id rest was is m e = record {
    there = subst (λ (ns : List Node). id < length ns) (sym e.nodes) m.there;
    tree =
        reads_looped
        ∙ ap (λ (q : Answer Tree). q >>= λ x. Ok (x.0, outside_loop (place old words) x.1)) m.tree
        ∙ ap (λ (q : Bool). Ok (tree_at m1.nodes.items id, record { known = with_loop q (known_of m1); rest = rest })) (sym is)
        ∙ ap (λ (q : Known). Ok (tree_at m1.nodes.items id, record { known = q; rest = rest })) (sym e.known)
        ∙ ap (λ (ns : List Node). Ok (tree_at ns id, place new rest)) (sym e.nodes);
    kept = subst (λ (ns : List Node). Extends old.nodes.items ns) (sym e.nodes) (subst (λ (ns : List Node). Extends ns m1.nodes.items) b.nodes m.kept);
  }

pub value_none : (f : ℕ → Tree) (xs : List ℕ) → length xs ≡ 0 → one_value (map f xs) ≡ nil
value_none f [] e = refl
value_none f (x ∷ xs) e = let never : ⊥ = omega (arith, e) in absurd never

pub value_one : (f : ℕ → Tree) (xs : List ℕ) (d : ℕ) → length xs ≡ 1 → is_splat (f (get_or xs 0 d)) ≡ false → one_value (map f xs) ≡ f (get_or xs 0 d)
value_one f [] d e g = let never : ⊥ = omega (arith, e) in absurd never
value_one f (x ∷ []) d e g = ap (λ b. cond b (array (listed (f x ∷ []))) (f x)) g
value_one f (x ∷ y ∷ xs) d e g = let never : ⊥ = omega (arith, e) in absurd never

pub value_splat : (f : ℕ → Tree) (xs : List ℕ) (d : ℕ) → length xs ≡ 1 → is_splat (f (get_or xs 0 d)) ≡ true → one_value (map f xs) ≡ array (listed (map f xs))
value_splat f [] d e g = let never : ⊥ = omega (arith, e) in absurd never
value_splat f (x ∷ []) d e g = ap (λ b. cond b (array (listed (f x ∷ []))) (f x)) g
value_splat f (x ∷ y ∷ xs) d e g = let never : ⊥ = omega (arith, e) in absurd never

pub value_more : (f : ℕ → Tree) (xs : List ℕ) → (length xs ≡ 0 → ⊥) → (length xs ≡ 1 → ⊥) → one_value (map f xs) ≡ array (listed (map f xs))
value_more f [] a b = absurd (a refl)
value_more f (x ∷ []) a b = absurd (b refl)
value_more f (x ∷ y ∷ xs) a b = refl

-- a jump and its value
pub jumped_ok : (old mid new : Parser) (j : Jump) (h : Head) (l : List Tree) (i : ℕ) (r : Result ℕ Storage) → h ≡ heads.Jump j → Puts old mid (one_value l) i → IfOk r (λ id. Puts mid new (jump_tree j (tree_at mid.nodes.items i)) id)
    → IfOk r (λ id. Puts old new (headed h l) id)
jumped_ok old mid new j h l i r is p q =
    over_ok old mid new (jump_tree j (tree_at mid.nodes.items i)) (one_value l) (headed h l) i r p (ap (jump_tree j) p.tree ∙ ap (λ (x : Head). headed x l) (sym is)) q

pub bare_jump_ok : (old mid new : Parser) (j : Jump) (i : ℕ) (r : Result ℕ Storage) → Puts old mid nil i → IfOk r (λ id. Puts mid new (jump_tree j (tree_at mid.nodes.items i)) id) → IfOk r (λ id. Puts old new (jump_tree j nil) id)
bare_jump_ok old mid new j i r p q = over_ok old mid new (jump_tree j (tree_at mid.nodes.items i)) nil (jump_tree j nil) i r p (ap (jump_tree j) p.tree) q
