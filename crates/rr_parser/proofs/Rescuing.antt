-- What the code made of bodies and of their clauses.
use Rattle.std.proofs.Common.{◌≡◌, ℕ, ◌<◌, Bool, List, ◌++◌, length, map, Option, Some, None, Result, Ok, Err, sym, ap, ◌∙◌, subst}
use Rattle.std.specs.Prelude.{All, IfOk}
use Rattle.rr_tree.specs.Tree.{Tree, rescue, clause, ensure, listed, tree_at}
use Rattle.rr_tree.specs.Nodes.{Extends, item, trees_in}
use Rattle.rr_tree.proofs.Growth.{tree_at-kept, Extends-trans}
use Rattle.rr_parser.specs.declared.refusal.Refusal.{Refusal}
use Rattle.rr_parser.specs.declared.refusal.Refusal.TheVariants as refusal
use Rattle.rr_parser.specs.declared.refusal.Storage.{Storage}
use Rattle.rr_parser.specs.declared.parser.Parser.{Parser}
use Rattle.rr_parser.specs.declared.word.Caught.{Caught}
use Rattle.rr_parser.specs.declared.word.Word.{Word}
use Rattle.rr_parser.specs.declared.word.WordKind.TheVariants as kind
use Rattle.rr_parser.specs.Places.{Place, word, at}
use Rattle.rr_parser.specs.Grammar.Bodies.{caught, with_caught, loop_word}
use Rattle.rr_parser.specs.Reading.Answers.{◌>>=◌, wrong, Answer, built, ended_by, closed}
use Rattle.rr_parser.specs.Reading.Nesting.{Readers}
use Rattle.rr_parser.specs.Reading.Sequences.{statements_of}
use Rattle.rr_parser.specs.Reading.Control.{otherwise_of}
use Rattle.rr_parser.specs.Reading.Bodies.{classes_of, clause_or, clause_on, clause_of, clauses_of, rescued_or, rescued_on, rescued_of, ensured_or, ensured_on, body_of, unlooped, unlooped_on, begun_of}
use Rattle.rr_parser.specs.Meets.{nodes, lists, Made, Fails, Puts, Catches, Reads, place}
use Rattle.rr_parser.proofs.Making.{made_put, fails_eq, fails_bind, seen_at, unseen_at, closed_tree, closed_wrong, stable_nodes, kept_list}
use Rattle.rr_parser.proofs.Lists.{list_ok}

-- ---- nodes over lists and other parts

module _ (old mid new : Parser) (xs : List ℕ) (first count : ℕ) (r : Result ℕ Storage) (all : All (λ i. i < length old.nodes.items) xs) (e : mid.nodes.items ≡ old.nodes.items ++ map item xs) (k : mid.known ≡ old.known)
    (f : first ≡ length old.nodes.items) (c : count ≡ length xs) (a b : ℕ) (la : a < length old.nodes.items) (lb : b < length old.nodes.items) where
  kept_part : (i : ℕ) → i < length old.nodes.items → tree_at mid.nodes.items i ≡ tree_at old.nodes.items i
  kept_part i lt = tree_at-kept old.nodes.items mid.nodes.items i (map item xs, e) lt

  pub clause_ok : IfOk r (λ id. Puts mid new (clause (listed (trees_in mid.nodes.items first count)) (tree_at mid.nodes.items a) (tree_at mid.nodes.items b)) id)
      → IfOk r (λ id. Puts old new (clause (listed (map (tree_at old.nodes.items) xs)) (tree_at old.nodes.items a) (tree_at old.nodes.items b)) id)
  clause_ok p =
      list_ok old mid new xs first count (λ l. clause l (tree_at old.nodes.items a) (tree_at old.nodes.items b)) r all e k f c
      (subst (λ (u : Tree). IfOk r (λ id. Puts mid new (clause (listed (trees_in mid.nodes.items first count)) (tree_at old.nodes.items a) u) id)) (kept_part b lb)
      (subst (λ (u : Tree). IfOk r (λ id. Puts mid new (clause (listed (trees_in mid.nodes.items first count)) u (tree_at mid.nodes.items b)) id)) (kept_part a la) p))

  pub rescue_ok : IfOk r (λ id. Puts mid new (rescue (tree_at mid.nodes.items a) (listed (trees_in mid.nodes.items first count)) (tree_at mid.nodes.items b)) id)
      → IfOk r (λ id. Puts old new (rescue (tree_at old.nodes.items a) (listed (map (tree_at old.nodes.items) xs)) (tree_at old.nodes.items b)) id)
  rescue_ok p =
      list_ok old mid new xs first count (λ l. rescue (tree_at old.nodes.items a) l (tree_at old.nodes.items b)) r all e k f c
      (subst (λ (u : Tree). IfOk r (λ id. Puts mid new (rescue (tree_at old.nodes.items a) (listed (trees_in mid.nodes.items first count)) u) id)) (kept_part b lb)
      (subst (λ (u : Tree). IfOk r (λ id. Puts mid new (rescue u (listed (trees_in mid.nodes.items first count)) (tree_at mid.nodes.items b)) id)) (kept_part a la) p))

-- ---- a clause

-- behind its classes and the name of its variable
module _ (N : Readers) (old m1 : Parser) (es : List ℕ) (x : Option Caught) (words rest after : List Word) (m : Made (lists nodes) old m1 es rest (classes_of (place old words))) where
  abbrev classes_read : List Tree
  classes_read = map (tree_at m1.nodes.items) es

  reads_clause : clause_of N (place old words) ≡ clause_or N classes_read (at caught (place m1 rest))
  unfolding clause_of
  reads_clause = ap (λ (q : Answer (List Tree)). q >>= λ l. clause_on N l.0 l.1) m.tree

  pub uncaught_clause : caught rest ≡ None → clause_of N (place old words) ≡ Err wrong
  uncaught_clause e = reads_clause ∙ ap (clause_or N classes_read) (unseen_at m1 caught rest e)

  module _ (e : caught rest ≡ Some (x, after)) (m2 : Parser) (i : ℕ) (h : Catches m1 m2 x i) where
    reads_caught : clause_of N (place old words) ≡ built (clause (listed classes_read) (tree_at m2.nodes.items i)) (statements_of N (place m2 after))
    reads_caught =
        reads_clause
        ∙ ap (clause_or N classes_read) (seen_at m1 caught rest after x e)
        ∙ ap (λ (u : Tree). built (clause (listed classes_read) u) (statements_of N (with_caught x (place m1 after)))) (sym (h.tree after))
        ∙ ap (λ (q : Place). built (clause (listed classes_read) (tree_at m2.nodes.items i)) (statements_of N q)) (sym (h.known after))

    pub fails_clause : (d : Refusal) → Fails d (statements_of N (place m2 after)) → Fails d (clause_of N (place old words))
    fails_clause d g =
        fails_eq d (clause_of N (place old words)) (built (clause (listed classes_read) (tree_at m2.nodes.items i)) (statements_of N (place m2 after))) reads_caught
        (fails_bind d (statements_of N (place m2 after)) (λ q. Ok (clause (listed classes_read) (tree_at m2.nodes.items i) q.0, q.1)) g)

    pub made_clause : (m3 new : Parser) (fs : List ℕ) (b id : ℕ) (left : List Word) → fs ≡ es → Made nodes m2 m3 b left (statements_of N (place m2 after))
        → Puts m3 new (clause (listed (map (tree_at m3.nodes.items) fs)) (tree_at m3.nodes.items i) (tree_at m3.nodes.items b)) id → Made nodes old new id left (clause_of N (place old words))
    made_clause m3 new fs b id left same k p =
        let kept : Extends m1.nodes.items m3.nodes.items = Extends-trans m1.nodes.items m2.nodes.items m3.nodes.items h.kept k.kept in
        made_put old m3 new id left (clause (listed (map (tree_at m3.nodes.items) fs)) (tree_at m3.nodes.items i) (tree_at m3.nodes.items b)) (clause_of N (place old words))
        (reads_caught
        ∙ ap (built (clause (listed classes_read) (tree_at m2.nodes.items i))) k.tree
        ∙ ap (λ (u : Tree). Ok (clause (listed classes_read) u (tree_at m3.nodes.items b), place m3 left)) (sym (tree_at-kept m2.nodes.items m3.nodes.items i k.kept h.there))
        ∙ ap (λ (l : List Tree). Ok (clause (listed l) (tree_at m3.nodes.items i) (tree_at m3.nodes.items b), place m3 left)) (sym (kept_list nodes stable_nodes m1.nodes.items m3.nodes.items es kept m.there))
        ∙ ap (λ (l : List ℕ). Ok (clause (listed (map (tree_at m3.nodes.items) l)) (tree_at m3.nodes.items i) (tree_at m3.nodes.items b), place m3 left)) (sym same))
        (Extends-trans old.nodes.items m1.nodes.items m3.nodes.items m.kept kept) p

pub fails_caught : (N : Readers) (old m1 : Parser) (es : List ℕ) (words rest : List Word) (d : Refusal) → Made (lists nodes) old m1 es rest (classes_of (place old words)) → Reads {A = Option Caught} (Err d) (caught rest) → Fails d (clause_of N (place old words))
fails_caught N old m1 es words rest (refusal.Storage s) m h = tt
fails_caught N old m1 es words rest refusal.Nesting m h = absurd h
fails_caught N old m1 es words rest (refusal.Unexpected n) m h = uncaught_clause N old m1 es None words rest rest m h
fails_caught N old m1 es words rest (refusal.Number n) m h = absurd h
fails_caught N old m1 es words rest (refusal.LeftOut n) m h = absurd h
fails_caught N old m1 es words rest (refusal.Constant n) m h = absurd h

-- ---- what is rescued

module _ (N : Readers) (old m1 : Parser) (t : ℕ) (words rest : List Word) (m : Made nodes old m1 t rest (statements_of N (place old words))) where
  reads_rescued : rescued_of N (place old words) ≡ rescued_or N (tree_at m1.nodes.items t) (place m1 rest) (at (word kind.Rescue) (place m1 rest))
  unfolding rescued_of
  reads_rescued = ap (λ (q : Answer Tree). q >>= λ l. rescued_on N l.0 l.1) m.tree

  pub made_unrescued : word kind.Rescue rest ≡ None → Made nodes old m1 t rest (rescued_of N (place old words))
  made_unrescued e = record { there = m.there; tree = reads_rescued ∙ ap (rescued_or N (tree_at m1.nodes.items t) (place m1 rest)) (unseen_at m1 (word kind.Rescue) rest e); kept = m.kept }

  module _ (after : List Word) (e : word kind.Rescue rest ≡ Some (tt, after)) where
    abbrev over : List Tree × Place → Answer Tree
    over l = built (rescue (tree_at m1.nodes.items t) (listed l.0)) (otherwise_of N l.1)

    reads_clauses : rescued_of N (place old words) ≡ (clauses_of N (place m1 after) >>= over)
    reads_clauses = reads_rescued ∙ ap (rescued_or N (tree_at m1.nodes.items t) (place m1 rest)) (seen_at m1 (word kind.Rescue) rest after tt e)

    pub fails_clauses : (d : Refusal) → Fails d (clauses_of N (place m1 after)) → Fails d (rescued_of N (place old words))
    fails_clauses d h = fails_eq d (rescued_of N (place old words)) (clauses_of N (place m1 after) >>= over) reads_clauses (fails_bind d (clauses_of N (place m1 after)) over h)

    module _ (m2 : Parser) (es : List ℕ) (left : List Word) (k : Made (lists nodes) m1 m2 es left (clauses_of N (place m1 after))) where
      reads_otherwise : rescued_of N (place old words) ≡ over (map (tree_at m2.nodes.items) es, place m2 left)
      reads_otherwise = reads_clauses ∙ ap (λ (q : Answer (List Tree)). q >>= over) k.tree

      pub fails_behind_clauses : (d : Refusal) → Fails d (otherwise_of N (place m2 left)) → Fails d (rescued_of N (place old words))
      fails_behind_clauses d h =
          fails_eq d (rescued_of N (place old words)) (over (map (tree_at m2.nodes.items) es, place m2 left)) reads_otherwise
          (fails_bind d (otherwise_of N (place m2 left)) (λ x. Ok (rescue (tree_at m1.nodes.items t) (listed (map (tree_at m2.nodes.items) es)) x.0, x.1)) h)

      pub made_rescued : (m3 new : Parser) (fs : List ℕ) (o id : ℕ) (behind : List Word) → fs ≡ es → Made nodes m2 m3 o behind (otherwise_of N (place m2 left))
          → Puts m3 new (rescue (tree_at m3.nodes.items t) (listed (map (tree_at m3.nodes.items) fs)) (tree_at m3.nodes.items o)) id → Made nodes old new id behind (rescued_of N (place old words))
      made_rescued m3 new fs o id behind same j p =
          let kept : Extends m1.nodes.items m3.nodes.items = Extends-trans m1.nodes.items m2.nodes.items m3.nodes.items k.kept j.kept in
          made_put old m3 new id behind (rescue (tree_at m3.nodes.items t) (listed (map (tree_at m3.nodes.items) fs)) (tree_at m3.nodes.items o)) (rescued_of N (place old words))
          (reads_otherwise
          ∙ ap (built (rescue (tree_at m1.nodes.items t) (listed (map (tree_at m2.nodes.items) es)))) j.tree
          ∙ ap (λ (l : List Tree). Ok (rescue (tree_at m1.nodes.items t) (listed l) (tree_at m3.nodes.items o), place m3 behind)) (sym (kept_list nodes stable_nodes m2.nodes.items m3.nodes.items es j.kept k.there))
          ∙ ap (λ (l : List ℕ). Ok (rescue (tree_at m1.nodes.items t) (listed (map (tree_at m3.nodes.items) l)) (tree_at m3.nodes.items o), place m3 behind)) (sym same)
          ∙ ap (λ (u : Tree). Ok (rescue u (listed (map (tree_at m3.nodes.items) fs)) (tree_at m3.nodes.items o), place m3 behind)) (sym (tree_at-kept m1.nodes.items m3.nodes.items t kept m.there)))
          (Extends-trans old.nodes.items m1.nodes.items m3.nodes.items m.kept kept) p

-- ---- what always follows

module _ (N : Readers) (old m1 : Parser) (t : ℕ) (words rest : List Word) (m : Made nodes old m1 t rest (rescued_of N (place old words))) where
  reads_body : body_of N (place old words) ≡ ensured_or N (tree_at m1.nodes.items t) (place m1 rest) (at (word kind.Ensure) (place m1 rest))
  unfolding body_of
  reads_body = ap (λ (q : Answer Tree). q >>= λ l. ensured_on N l.0 l.1) m.tree

  pub made_unensured : word kind.Ensure rest ≡ None → Made nodes old m1 t rest (body_of N (place old words))
  made_unensured e = record { there = m.there; tree = reads_body ∙ ap (ensured_or N (tree_at m1.nodes.items t) (place m1 rest)) (unseen_at m1 (word kind.Ensure) rest e); kept = m.kept }

  module _ (after : List Word) (e : word kind.Ensure rest ≡ Some (tt, after)) where
    reads_ensured : body_of N (place old words) ≡ built (ensure (tree_at m1.nodes.items t)) (statements_of N (place m1 after))
    reads_ensured = reads_body ∙ ap (ensured_or N (tree_at m1.nodes.items t) (place m1 rest)) (seen_at m1 (word kind.Ensure) rest after tt e)

    pub fails_ensured : (d : Refusal) → Fails d (statements_of N (place m1 after)) → Fails d (body_of N (place old words))
    fails_ensured d h =
        fails_eq d (body_of N (place old words)) (built (ensure (tree_at m1.nodes.items t)) (statements_of N (place m1 after))) reads_ensured
        (fails_bind d (statements_of N (place m1 after)) (λ q. Ok (ensure (tree_at m1.nodes.items t) q.0, q.1)) h)

    pub made_ensured : (m2 new : Parser) (b id : ℕ) (left : List Word) → Made nodes m1 m2 b left (statements_of N (place m1 after)) → Puts m2 new (ensure (tree_at m2.nodes.items t) (tree_at m2.nodes.items b)) id
        → Made nodes old new id left (body_of N (place old words))
    made_ensured m2 new b id left k p =
        made_put old m2 new id left (ensure (tree_at m2.nodes.items t) (tree_at m2.nodes.items b)) (body_of N (place old words))
        (reads_ensured
        ∙ ap (built (ensure (tree_at m1.nodes.items t))) k.tree
        ∙ ap (λ (u : Tree). Ok (ensure u (tree_at m2.nodes.items b), place m2 left)) (sym (tree_at-kept m1.nodes.items m2.nodes.items t k.kept m.there)))
        (Extends-trans old.nodes.items m1.nodes.items m2.nodes.items m.kept k.kept) p

pub fails_unrescued : (N : Readers) (s : Place) (d : Refusal) → Fails d (statements_of N s) → Fails d (rescued_of N s)
unfolding rescued_of
fails_unrescued N s d h = fails_bind d (statements_of N s) (λ l. rescued_on N l.0 l.1) h

pub fails_unensured : (N : Readers) (s : Place) (d : Refusal) → Fails d (rescued_of N s) → Fails d (body_of N s)
unfolding body_of
fails_unensured N s d h = fails_bind d (rescued_of N s) (λ l. ensured_on N l.0 l.1) h

pub fails_classes : (N : Readers) (s : Place) (d : Refusal) → Fails d (classes_of s) → Fails d (clause_of N s)
unfolding clause_of
fails_classes N s d h = fails_bind d (classes_of s) (λ l. clause_on N l.0 l.1) h

-- ---- behind `begin`

module _ (N : Readers) (old mid : Parser) (t : ℕ) (words rest after : List Word) (m : Made nodes old mid t rest (body_of N (place old words))) (e : word kind.End rest ≡ Some (tt, after)) where
  reads_begun : begun_of N (place old words) ≡ unlooped (tree_at mid.nodes.items t) (place mid after) (at loop_word (place mid after))
  unfolding begun_of
  reads_begun = ap (λ (q : Answer Tree). q >>= λ x. unlooped_on x.0 x.1) (closed_tree mid kind.End rest after (tree_at mid.nodes.items t) (body_of N (place old words)) m.tree e)

  pub made_begun : loop_word after ≡ None → Made nodes old mid t after (begun_of N (place old words))
  made_begun f = record { there = m.there; tree = reads_begun ∙ ap (unlooped (tree_at mid.nodes.items t) (place mid after)) (unseen_at mid loop_word after f); kept = m.kept }

  pub looped_begun : (until : Bool) (behind : List Word) → loop_word after ≡ Some (until, behind) → begun_of N (place old words) ≡ Err wrong
  looped_begun until behind f = reads_begun ∙ ap (unlooped (tree_at mid.nodes.items t) (place mid after)) (seen_at mid loop_word after behind until f)

pub unended_begun : (N : Readers) (old mid : Parser) (t : ℕ) (words rest : List Word) → Made nodes old mid t rest (body_of N (place old words)) → word kind.End rest ≡ None → begun_of N (place old words) ≡ Err wrong
unfolding begun_of
unended_begun N old mid t words rest m e = ap (λ (q : Answer Tree). q >>= λ x. unlooped_on x.0 x.1) (closed_wrong mid kind.End rest (tree_at mid.nodes.items t) (body_of N (place old words)) m.tree e)

pub fails_begun : (N : Readers) (s : Place) (d : Refusal) → Fails d (body_of N s) → Fails d (begun_of N s)
unfolding begun_of
fails_begun N s d h = fails_bind d (closed kind.End (body_of N s)) (λ x. unlooped_on x.0 x.1) (fails_bind d (body_of N s) (λ x. ended_by x.0 (at (word kind.End) x.1)) h)
