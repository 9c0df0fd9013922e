-- What the code made, step after step.
use Rattle.std.proofs.Common.{◌≡◌, ℕ, zero, suc, ◌-◌, ◌<◌, ◌≤◌, Bool, true, false, List, [], ◌∷◌, ◌++◌, length, get_or, map, Some, None, Result, Ok, Err, refl, sym, ap, ◌∙◌, subst, arith, length-append}
use Rattle.std.specs.Prelude.{All, IfOk}
use Rattle.std.proofs.lemmas.List.{map-append}
use Rattle.std.proofs.lemmas.List.Elements.{All-append}
use Rattle.rr_base.specs.declared.name.Sym.{Sym}
use Rattle.rr_tree.specs.declared.node.Node.{Node}
use Rattle.rr_tree.specs.Tree.{Tree, nil, sequence, listed, choose, repeat, pair, symbol, tree_at}
use Rattle.rr_tree.specs.Nodes.{Extends, node_tree}
use Rattle.rr_tree.proofs.Growth.{tree_at-put, tree_at-kept, Extends-trans, length-kept}
use Rattle.std.specs.Borrow.{Bor}
use Rattle.rr_parser.specs.declared.refusal.Storage.{Storage}
use Rattle.rr_parser.specs.declared.word.Modifier.{Modifier}
use Rattle.rr_parser.specs.declared.word.Modifier.TheVariants as modifiers
use Rattle.rr_parser.specs.Grammar.Sequences.{modified}
use Rattle.rr_parser.specs.declared.word.Operation.{Operation}
use Rattle.rr_parser.specs.declared.word.Sign.{Sign}
use Rattle.rr_parser.specs.declared.word.Sign.TheVariants as signs
use Rattle.rr_parser.specs.declared.word.Target.{Target}
use Rattle.rr_parser.specs.declared.word.Listed.TheVariants as listings
use Rattle.rr_parser.specs.declared.word.Part.{Part}
use Rattle.rr_parser.specs.declared.word.Word.{Word}
use Rattle.rr_parser.specs.declared.refusal.Refusal.{Refusal}
use Rattle.rr_parser.specs.declared.refusal.Refusal.TheVariants as refusal
use Rattle.rr_parser.specs.declared.parser.Parser.{Parser}
use Rattle.rr_parser.specs.declared.word.WordKind.{WordKind}
use Rattle.rr_parser.specs.Places.{Place, Look, placed, without_separators, word, at}
use Rattle.rr_parser.specs.Grammar.Chains.{same, one_of}
use Rattle.rr_parser.specs.Grammar.Calls.{target_tree, operated, signed}
use Rattle.rr_parser.specs.Reading.Answers.{◌>>=◌, Refused, wrong, deep, Answer, Parse, built, ended_by, closed, from, on_seen, across, taking_of, chain, chain_on}
use Rattle.rr_parser.specs.Reading.Calls.{bracketed_of, value_of, ordered_of}
use Rattle.rr_parser.specs.Reading.Sequences.{sequence_of}
use Rattle.rr_parser.specs.Reading.{part_of, readers_inside, readers_outside, readers}
use Rattle.rr_parser.specs.Meets.{View, nodes, pairs, lists, Made, Fails, Gives, Appends, Puts, known_of, place}
use Rattle.rr_parser.specs.declared.variables.Variables.{Variables}
use Rattle.rr_parser.specs.declared.variables.Variable.{Variable}
use Rattle.rr_parser.specs.Variables.{known_in}
use Rattle.rr_parser.proofs.Looks.{Steps}
use Rattle.rr_parser.proofs.Chains.{Shrinks, chain_on-turn, chain_on-ends}

-- ---- one node more

pub puts_is : (old new : Parser) (n : Node) (id : ℕ) → Appends old new n id → Puts old new (node_tree old.nodes.items n) id
puts_is old new n id a = record {
  there = omega (arith, a.at, ap length a.nodes, length-append old.nodes.items (n ∷ []));
  tree = ap (λ (ns : List Node). tree_at ns id) a.nodes ∙ ap (λ (i : ℕ). tree_at (old.nodes.items ++ n ∷ []) i) a.at ∙ tree_at-put old.nodes.items n;
  kept = (n ∷ [], a.nodes);
  known = a.known;
}

-- a node over parts, behind another one
pub puts_over : (old mid new : Parser) (t u v : Tree) (id i : ℕ) → Puts old mid u i → t ≡ v → Puts mid new t id → Puts old new v id
puts_over old mid new t u v id i a e b = record { there = b.there; tree = b.tree ∙ e; kept = Extends-trans old.nodes.items mid.nodes.items new.nodes.items a.kept b.kept; known = b.known ∙ a.known }

pub over_ok : (old mid new : Parser) (t u v : Tree) (i : ℕ) (r : Result ℕ Storage) → Puts old mid u i → t ≡ v → IfOk r (λ id. Puts mid new t id) → IfOk r (λ id. Puts old new v id)
over_ok old mid new t u v i (Ok id) a e b = puts_over old mid new t u v id i a e b
over_ok old mid new t u v i (Err d) a e b = tt

-- a symbol and what stands under it
pub entry_ok : (old mid new : Parser) (x a i : ℕ) (r : Result ℕ Storage) → a < length old.nodes.items → Puts old mid (symbol x) i → IfOk r (λ id. Puts mid new (pair (tree_at mid.nodes.items i) (tree_at mid.nodes.items a)) id)
    → IfOk r (λ id. Puts old new (pair (symbol x) (tree_at old.nodes.items a)) id)
entry_ok old mid new x a i r lt p h =
    over_ok old mid new (pair (tree_at mid.nodes.items i) (tree_at mid.nodes.items a)) (symbol x) (pair (symbol x) (tree_at old.nodes.items a)) i r p
    (ap (λ u. pair u (tree_at mid.nodes.items a)) p.tree ∙ ap (pair (symbol x)) (tree_at-kept old.nodes.items mid.nodes.items a p.kept lt)) h

-- an assignment with an operator, whose target was put behind its right side
pub operation_ok : (old mid new : Parser) (q : Sign) (o : Operation) (x : Target) (n : Variable) (k a i : ℕ) (r : Result ℕ Storage) → q ≡ signs.With o → a < length old.nodes.items → Puts old mid (target_tree x n k) i
    → IfOk r (λ id. Puts mid new (operated o (tree_at mid.nodes.items i) (tree_at mid.nodes.items a)) id) → IfOk r (λ id. Puts old new (signed q x n k (tree_at old.nodes.items a)) id)
operation_ok old mid new q o x n k a i r is lt p h =
    over_ok old mid new (operated o (tree_at mid.nodes.items i) (tree_at mid.nodes.items a)) (target_tree x n k) (signed q x n k (tree_at old.nodes.items a)) i r p
    (ap (λ u. operated o u (tree_at mid.nodes.items a)) p.tree ∙ ap (operated o (target_tree x n k)) (tree_at-kept old.nodes.items mid.nodes.items a p.kept lt) ∙ ap (λ s. signed s x n k (tree_at old.nodes.items a)) (sym is)) h

-- a statement and its condition, and the nil that was put behind them
module _ (old mid new : Parser) (a c i : ℕ) (r : Result ℕ Storage) (m : Modifier) (la : a < length old.nodes.items) (lc : c < length old.nodes.items) (p : Puts old mid nil i) where
  kept_statement : tree_at mid.nodes.items a ≡ tree_at old.nodes.items a
  kept_statement = tree_at-kept old.nodes.items mid.nodes.items a p.kept la

  kept_condition : tree_at mid.nodes.items c ≡ tree_at old.nodes.items c
  kept_condition = tree_at-kept old.nodes.items mid.nodes.items c p.kept lc

  abbrev done_so : Modifier → Tree
  done_so n = modified n (tree_at old.nodes.items a) (tree_at old.nodes.items c)

  pub modified_if : m ≡ modifiers.If → IfOk r (λ id. Puts mid new (choose (tree_at mid.nodes.items c) (tree_at mid.nodes.items a) (tree_at mid.nodes.items i)) id) → IfOk r (λ id. Puts old new (done_so m) id)
  modified_if is h =
      over_ok old mid new (choose (tree_at mid.nodes.items c) (tree_at mid.nodes.items a) (tree_at mid.nodes.items i)) nil (done_so m) i r p
      (ap (λ u. choose u (tree_at mid.nodes.items a) (tree_at mid.nodes.items i)) kept_condition ∙ ap (λ u. choose (tree_at old.nodes.items c) u (tree_at mid.nodes.items i)) kept_statement
      ∙ ap (choose (tree_at old.nodes.items c) (tree_at old.nodes.items a)) p.tree ∙ ap done_so (sym is)) h

  pub modified_unless : m ≡ modifiers.Unless → IfOk r (λ id. Puts mid new (choose (tree_at mid.nodes.items c) (tree_at mid.nodes.items i) (tree_at mid.nodes.items a)) id) → IfOk r (λ id. Puts old new (done_so m) id)
  modified_unless is h =
      over_ok old mid new (choose (tree_at mid.nodes.items c) (tree_at mid.nodes.items i) (tree_at mid.nodes.items a)) nil (done_so m) i r p
      (ap (λ u. choose u (tree_at mid.nodes.items i) (tree_at mid.nodes.items a)) kept_condition ∙ ap (λ u. choose (tree_at old.nodes.items c) u (tree_at mid.nodes.items a)) p.tree
      ∙ ap (choose (tree_at old.nodes.items c) nil) kept_statement ∙ ap done_so (sym is)) h

  pub modified_loop : (until : Bool) → m ≡ modifiers.Loop until → IfOk r (λ id. Puts mid new (repeat until (tree_at mid.nodes.items c) (tree_at mid.nodes.items a)) id) → IfOk r (λ id. Puts old new (done_so m) id)
  modified_loop until is h =
      over_ok old mid new (repeat until (tree_at mid.nodes.items c) (tree_at mid.nodes.items a)) nil (done_so m) i r p
      (ap (λ u. repeat until u (tree_at mid.nodes.items a)) kept_condition ∙ ap (repeat until (tree_at old.nodes.items c)) kept_statement ∙ ap done_so (sym is)) h

-- ---- views

-- what a view sees stays as nodes are put
pub record IsStable {E A : Type 0} (v : View E A) : Type 0 where
  pub kept : (a b : List Node) (e : E) → Extends a b → v.within (length a) e → v.tree b e ≡ v.tree a e
  pub grows : (m n : ℕ) (e : E) → m ≤ n → v.within m e → v.within n e

pub stable_nodes : IsStable nodes
stable_nodes = record { kept = λ a b e x lt. tree_at-kept a b e x lt; grows = λ m n e le lt. omega arith }

pub stable_pairs : IsStable pairs
stable_pairs = record {
  kept = λ a b e x lt. ap (λ (t : Tree). (t, tree_at b e.1)) (tree_at-kept a b e.0 x lt.0) ∙ ap (λ (t : Tree). (tree_at a e.0, t)) (tree_at-kept a b e.1 x lt.1);
  grows = λ m n e le lt. (omega (arith, lt.0), omega (arith, lt.1));
}

module _ {E A : Type 0} (v : View E A) (stable : IsStable v) where
  rest_within : (n : ℕ) (e : E) (es : List E) → All (v.within n) (e ∷ es) → All (v.within n) es
  rest_within n e es all = λ k d lt. all (suc k) d (omega arith)

  pub kept_list : (a b : List Node) (es : List E) → Extends a b → All (v.within (length a)) es → map (v.tree b) es ≡ map (v.tree a) es
  kept_list a b [] x all = refl
  kept_list a b (e ∷ es) x all =
      ap (λ (t : A). t ∷ map (v.tree b) es) (stable.kept a b e x (all zero e (omega arith))) ∙ ap (λ (l : List A). v.tree a e ∷ l) (kept_list a b es x (rest_within (length a) e es all))

  pub grown_list : (m n : ℕ) (es : List E) → m ≤ n → All (v.within m) es → All (v.within n) es
  grown_list m n es le all = λ k d lt. stable.grows m n (get_or es k d) le (all k d lt)

pub same_place : (a b : Parser) (ws : List Word) → b.known ≡ a.known → place b ws ≡ place a ws
same_place a b ws e = ap (λ (v : Variables). record { known = known_in v; rest = ws }) e

-- ---- what was made, and why nothing was

pub made_eq : {E A : Type 0} {v : View E A} {old new : Parser} {e : E} {rest : List Word} (r q : Answer A) → r ≡ q → Made v old new e rest q → Made v old new e rest r
made_eq r q e m = record { there = m.there; tree = e ∙ m.tree; kept = m.kept }

pub fails_bind : {A B : Type 0} (e : Refusal) (r : Result A Refused) (f : A → Result B Refused) → Fails e r → Fails e (r >>= f)
fails_bind (refusal.Storage s) r f h = tt
fails_bind refusal.Nesting r f h = ap (λ q. q >>= f) h
fails_bind (refusal.Unexpected n) r f h = ap (λ q. q >>= f) h
fails_bind (refusal.Number n) r f h = ap (λ q. q >>= f) h
fails_bind (refusal.LeftOut n) r f h = ap (λ q. q >>= f) h
fails_bind (refusal.Constant n) r f h = ap (λ q. q >>= f) h

pub fails_eq : {A : Type 0} (e : Refusal) (r q : Result A Refused) → r ≡ q → Fails e q → Fails e r
fails_eq (refusal.Storage s) r q g h = tt
fails_eq refusal.Nesting r q g h = g ∙ h
fails_eq (refusal.Unexpected n) r q g h = g ∙ h
fails_eq (refusal.Number n) r q g h = g ∙ h
fails_eq (refusal.LeftOut n) r q g h = g ∙ h
fails_eq (refusal.Constant n) r q g h = g ∙ h

-- one node over what was read
pub made_over : {E A : Type 0} {v : View E A} {old mid new : Parser} {e : E} {id : ℕ} {rest : List Word} {read : Answer A} {t : Tree} (f : A → Tree) → Made v old mid e rest read → Puts mid new t id
    → t ≡ f (v.tree mid.nodes.items e) → Made nodes old new id rest (built f read)
made_over {E} {A} {v} {old} {mid} {new} {e} {id} {rest} {read} {t} f m p is = record {
  there = p.there;
  tree = ap (built f) m.tree ∙ ap (λ (u : Tree). Ok (u, place mid rest)) (sym (p.tree ∙ is)) ∙ ap (λ (s : Place). Ok (tree_at new.nodes.items id, s)) (sym (same_place mid new rest p.known));
  kept = Extends-trans old.nodes.items mid.nodes.items new.nodes.items m.kept p.kept;
}

-- what was seen among the words is seen at the place
pub seen_at : {X : Type 0} (p : Parser) (look : Look X) (ws after : List Word) (x : X) → look ws ≡ Some (x, after) → at look (place p ws) ≡ Some (x, place p after)
seen_at p look ws after x e = ap (placed (known_of p)) e

pub unseen_at : {X : Type 0} (p : Parser) (look : Look X) (ws : List Word) → look ws ≡ None → at look (place p ws) ≡ None
unseen_at p look ws e = ap (placed (known_of p)) e

-- a word of this kind behind what was read
pub made_closed : {E A : Type 0} {v : View E A} {old mid : Parser} {e : E} {rest after : List Word} {read : Answer A} (k : WordKind) → Made v old mid e rest read → word k rest ≡ Some (tt, after)
    → Made v old mid e after (closed k read)
made_closed {E} {A} {v} {old} {mid} {e} {rest} {after} {read} k m c = record {
  there = m.there;
  tree = ap (closed k) m.tree ∙ ap (ended_by (v.tree mid.nodes.items e)) (seen_at mid (word k) rest after tt c);
  kept = m.kept;
}

-- no such word behind what was read
pub wrong_closed : {E A : Type 0} {v : View E A} {old mid : Parser} {e : E} {rest : List Word} {read : Answer A} (k : WordKind) → Made v old mid e rest read → word k rest ≡ None → closed k read ≡ Err wrong
wrong_closed {E} {A} {v} {old} {mid} {e} {rest} {read} k m c = ap (closed k) m.tree ∙ ap (ended_by (v.tree mid.nodes.items e)) (unseen_at mid (word k) rest c)

-- the node of a list of statements
pub made_sequence : {old mid new : Parser} {es : List ℕ} {id : ℕ} {rest : List Word} {read : Answer (List Tree)} → Made (lists nodes) old mid es rest read
    → Puts mid new (sequence (listed (map (tree_at mid.nodes.items) es))) id → Made nodes old new id (without_separators rest) (sequence_of read)
made_sequence {old} {mid} {new} {es} {id} {rest} {read} m p = record {
  there = p.there;
  tree = ap sequence_of m.tree ∙ ap (λ (u : Tree). Ok (u, place mid (without_separators rest))) (sym p.tree) ∙ ap (λ (s : Place). Ok (tree_at new.nodes.items id, s)) (sym (same_place mid new (without_separators rest) p.known));
  kept = Extends-trans old.nodes.items mid.nodes.items new.nodes.items m.kept p.kept;
}

-- ---- chains

-- What was made stands for what has come so far, and reading goes on from there.
pub record Goes {E A B : Type 0} (v : View E A) (old new : Parser) (e : E) (read on : Answer B) : Type 0 where
  pub there : v.within (length new.nodes.items) e
  pub kept : Extends old.nodes.items new.nodes.items
  pub same : read ≡ on

module _ {X R S E D : Type 0} (v : View E S) (w : View D R) (between : Look X) (join : X → S → R → S) (p : Parse R) (steps : Steps between) (shrinks : Shrinks p) where
  pub goes_ends : (old new : Parser) (l : E) (rest : List Word) (read : Answer S)
      → Goes v old new l read (chain_on between join p (v.tree new.nodes.items l) (place new rest)) → between rest ≡ None → Made v old new l rest read
  goes_ends old new l rest read g e = record { there = g.there; tree = g.same ∙ chain_on-ends between join p steps shrinks (v.tree new.nodes.items l) (place new rest) (unseen_at new between rest e); kept = g.kept }

  pub goes_fails : (old s0 : Parser) (l : E) (rest after : List Word) (x : X) (read : Answer S) (d : Refusal)
      → Goes v old s0 l read (chain_on between join p (v.tree s0.nodes.items l) (place s0 rest)) → between rest ≡ Some (x, after)
      → Fails d (p (place s0 after)) → Fails d read
  goes_fails old s0 l rest after x read d g e h =
      fails_eq d read (p (place s0 after) >>= λ r. chain_on between join p (join x (v.tree s0.nodes.items l) r.0) r.1)
      (g.same ∙ chain_on-turn between join p steps shrinks (v.tree s0.nodes.items l) (place s0 rest) (place s0 after) x (seen_at s0 between rest after x e))
      (fails_bind d (p (place s0 after)) (λ r. chain_on between join p (join x (v.tree s0.nodes.items l) r.0) r.1) h)

  pub goes_smaller : (s0 s1 : Parser) (b : D) (rest after left : List Word) (x : X) → between rest ≡ Some (x, after) → Made w s0 s1 b left (p (place s0 after)) → length left < length rest
  goes_smaller s0 s1 b rest after left x e m = omega (arith, steps (place s0 rest) (place s0 after) x (seen_at s0 between rest after x e), shrinks (place s0 after) (place s1 left) (w.tree s1.nodes.items b) m.tree)

-- a list, whose members are gathered before its node is put
module _ {X R E : Type 0} (v : View E R) (stable : IsStable v) (between : Look X) (p : Parse R) (steps : Steps between) (shrinks : Shrinks p) where
  abbrev adds : X → List R → R → List R
  adds x l t = l ++ t ∷ []

  single : (n : ℕ) (e : E) → v.within n e → All (v.within n) (e ∷ [])
  single n e h zero d lt = h
  single n e h (suc k) d lt = let never : ⊥ = omega arith in absurd never

  pub list_begins : (old new : Parser) (e : E) (es : List E) (words rest : List Word) → Made v old new e rest (p (place old words)) → es ≡ e ∷ []
      → Goes (lists v) old new es (chain between one_of adds p (place old words)) (chain_on between adds p (map (v.tree new.nodes.items) es) (place new rest))
  unfolding chain
  list_begins old new e es words rest m is = record {
    there = subst (λ (l : List E). All (v.within (length new.nodes.items)) l) (sym is) (single (length new.nodes.items) e m.there);
    kept = m.kept;
    same =
        ap (λ (q : Answer R). q >>= λ r. chain_on between adds p (one_of r.0) r.1) m.tree
        ∙ ap (λ (l : List E). chain_on between adds p (map (v.tree new.nodes.items) l) (place new rest)) (sym is);
  }

  pub list_on : (old s0 s1 : Parser) (es fs : List E) (e : E) (rest after left : List Word) (x : X) (read : Answer (List R))
      → Goes (lists v) old s0 es read (chain_on between adds p (map (v.tree s0.nodes.items) es) (place s0 rest)) → between rest ≡ Some (x, after)
      → Made v s0 s1 e left (p (place s0 after)) → fs ≡ es ++ e ∷ []
      → Goes (lists v) old s1 fs read (chain_on between adds p (map (v.tree s1.nodes.items) fs) (place s1 left))
  list_on old s0 s1 es fs e rest after left x read g f m is = record {
    there = subst (λ (l : List E). All (v.within (length s1.nodes.items)) l) (sym is)
        (All-append (v.within (length s1.nodes.items)) es (e ∷ [])
        (grown_list v stable (length s0.nodes.items) (length s1.nodes.items) es (length-kept s0.nodes.items s1.nodes.items m.kept) g.there)
        (single (length s1.nodes.items) e m.there));
    kept = Extends-trans old.nodes.items s0.nodes.items s1.nodes.items g.kept m.kept;
    same =
        g.same
        ∙ chain_on-turn between adds p steps shrinks (map (v.tree s0.nodes.items) es) (place s0 rest) (place s0 after) x (seen_at s0 between rest after x f)
        ∙ ap (λ (q : Answer R). q >>= λ r. chain_on between adds p (map (v.tree s0.nodes.items) es ++ r.0 ∷ []) r.1) m.tree
        ∙ ap (λ (l : List R). chain_on between adds p (l ++ v.tree s1.nodes.items e ∷ []) (place s1 left)) (sym (kept_list v stable s0.nodes.items s1.nodes.items es m.kept g.there))
        ∙ ap (λ (l : List R). chain_on between adds p l (place s1 left)) (sym (map-append (v.tree s1.nodes.items) es (e ∷ [])))
        ∙ ap (λ (l : List E). chain_on between adds p (map (v.tree s1.nodes.items) l) (place s1 left)) (sym is);
  }

-- going on from an operand
pub operators_from : {X : Type 0} (between : Look X) (join : X → Tree → Tree → Tree) (p : Parse Tree) (on : Parse Tree) (old new : Parser) (e : ℕ) (words rest : List Word) → Made nodes old new e rest (on (place old words))
    → Goes nodes old new e (from on (chain_on between join p) (place old words)) (chain_on between join p (tree_at new.nodes.items e) (place new rest))
operators_from between join p on old new e words rest m = record { there = m.there; kept = m.kept; same = ap (λ (q : Answer Tree). q >>= λ r. chain_on between join p r.0 r.1) m.tree }

-- a chain of operators
module _ {X : Type 0} (between : Look X) (join : X → Tree → Tree → Tree) (p : Parse Tree) (steps : Steps between) (shrinks : Shrinks p) where
  pub operators_begin : (old new : Parser) (e : ℕ) (words rest : List Word) → Made nodes old new e rest (p (place old words))
      → Goes nodes old new e (chain between same join p (place old words)) (chain_on between join p (tree_at new.nodes.items e) (place new rest))
  unfolding chain
  operators_begin old new e words rest m = record { there = m.there; kept = m.kept; same = ap (λ (q : Answer Tree). q >>= λ r. chain_on between join p (same r.0) r.1) m.tree }

  pub operators_on : (old s0 s1 s2 : Parser) (l b id : ℕ) (rest after left : List Word) (o : X) (read : Answer Tree)
      → Goes nodes old s0 l read (chain_on between join p (tree_at s0.nodes.items l) (place s0 rest)) → between rest ≡ Some (o, after)
      → Made nodes s0 s1 b left (p (place s0 after)) → Puts s1 s2 (join o (tree_at s1.nodes.items l) (tree_at s1.nodes.items b)) id
      → Goes nodes old s2 id read (chain_on between join p (tree_at s2.nodes.items id) (place s2 left))
  operators_on old s0 s1 s2 l b id rest after left o read g e m t = record {
    there = t.there;
    kept = Extends-trans old.nodes.items s0.nodes.items s2.nodes.items g.kept (Extends-trans s0.nodes.items s1.nodes.items s2.nodes.items m.kept t.kept);
    same =
        g.same
        ∙ chain_on-turn between join p steps shrinks (tree_at s0.nodes.items l) (place s0 rest) (place s0 after) o (seen_at s0 between rest after o e)
        ∙ ap (λ (q : Answer Tree). q >>= λ r. chain_on between join p (join o (tree_at s0.nodes.items l) r.0) r.1) m.tree
        ∙ ap (λ (u : Tree). chain_on between join p (join o u (tree_at s1.nodes.items b)) (place s1 left)) (sym (tree_at-kept s0.nodes.items s1.nodes.items l m.kept g.there))
        ∙ ap (λ (u : Tree). chain_on between join p u (place s1 left)) (sym t.tree)
        ∙ ap (λ (s : Place). chain_on between join p (tree_at s2.nodes.items id) s) (sym (same_place s1 s2 left t.known));
  }

-- ---- one level of nesting

at_part : (b : Bool) (d : ℕ) → (readers b (suc d)).part ≡ part_of (readers b d)
unfolding readers_inside readers_outside
at_part true d = refl
at_part false d = refl

pub nested_part : (b : Bool) (d : ℕ) → 0 < d → (readers b d).part ≡ part_of (readers b (d - 1))
nested_part b zero lt = let never : ⊥ = omega arith in absurd never
nested_part b (suc d) lt = let e : d ≡ suc d - 1 = omega arith in at_part b d ∙ ap (λ (k : ℕ). part_of (readers b k)) e

none_part-zero : (b : Bool) (p : Part) (s : Place) → (readers b 0).part p s ≡ Err deep
unfolding readers_inside readers_outside
none_part-zero true p s = refl
none_part-zero false p s = refl

-- at the limit nothing is nested
pub none_part : (b : Bool) (d : ℕ) (p : Part) (s : Place) → d ≡ 0 → (readers b d).part p s ≡ Err deep
none_part b d p s e = ap (λ (k : ℕ). (readers b k).part p s) e ∙ none_part-zero b p s

at_bracketed : (b : Bool) (d : ℕ) → (readers b (suc d)).bracketed ≡ taking_of true (bracketed_of (readers b d) listings.Call)
unfolding readers_inside readers_outside
at_bracketed true d = refl
at_bracketed false d = refl

pub nested_bracketed : (b : Bool) (d : ℕ) → 0 < d → (readers b d).bracketed ≡ taking_of true (bracketed_of (readers b (d - 1)) listings.Call)
nested_bracketed b zero lt = let never : ⊥ = omega arith in absurd never
nested_bracketed b (suc d) lt = let e : d ≡ suc d - 1 = omega arith in at_bracketed b d ∙ ap (λ (k : ℕ). taking_of true (bracketed_of (readers b k) listings.Call)) e

none_bracketed-zero : (b : Bool) (s : Place) → (readers b 0).bracketed s ≡ Err deep
unfolding readers_inside readers_outside
none_bracketed-zero true s = refl
none_bracketed-zero false s = refl

-- at the limit nothing is nested
pub none_bracketed : (b : Bool) (d : ℕ) (s : Place) → d ≡ 0 → (readers b d).bracketed s ≡ Err deep
none_bracketed b d s e = ap (λ (k : ℕ). (readers b k).bracketed s) e ∙ none_bracketed-zero b s

at_ordered : (b : Bool) (d : ℕ) → (readers b (suc d)).ordered ≡ ordered_of (readers b d)
unfolding readers_inside readers_outside
at_ordered true d = refl
at_ordered false d = refl

-- a command with a receiver that is an argument
pub nested_ordered : (b : Bool) (d : ℕ) → 0 < d → (readers b d).ordered ≡ ordered_of (readers b (d - 1))
nested_ordered b zero lt = let never : ⊥ = omega arith in absurd never
nested_ordered b (suc d) lt = let e : d ≡ suc d - 1 = omega arith in at_ordered b d ∙ ap (λ (k : ℕ). ordered_of (readers b k)) e

none_ordered-zero : (b : Bool) (r : Tree) (x : Sym) (s : Place) → (readers b 0).ordered r x s ≡ Err deep
unfolding readers_inside readers_outside
none_ordered-zero true r x s = refl
none_ordered-zero false r x s = refl

-- at the limit nothing is nested
pub none_ordered : (b : Bool) (d : ℕ) (r : Tree) (x : Sym) (s : Place) → d ≡ 0 → (readers b d).ordered r x s ≡ Err deep
none_ordered b d r x s e = ap (λ (k : ℕ). (readers b k).ordered r x s) e ∙ none_ordered-zero b r x s

pub value_inside : (d : ℕ) → 0 < d → (readers true d).value ≡ value_of (readers true (d - 1))
unfolding readers_inside
value_inside zero lt = let never : ⊥ = omega arith in absurd never
value_inside (suc d) lt = let e : d ≡ suc d - 1 = omega arith in ap (λ (k : ℕ). value_of (readers_inside k)) e

pub value_outside : (d : ℕ) → (readers false d).value ≡ value_of (readers true d)
unfolding readers_outside
value_outside zero = refl
value_outside (suc d) = refl

pub gives_outside : (old new : Parser) (r : Result (ℕ × Bor (List Word)) Refusal) (b : Bool) (d : ℕ) (c : Bool) (s : Place) → b ≡ false → Gives old new r (value_of (readers true d) c s) → Gives old new r ((readers b d).value c s)
gives_outside old new r true d c s e g = absurd cc
gives_outside old new r false d c s e g = subst (λ (p : Bool → Parse Tree). Gives old new r (p c s)) (sym (value_outside d)) g

none_value-zero : (c : Bool) (s : Place) → (readers true 0).value c s ≡ Err deep
unfolding readers_inside
none_value-zero c s = refl

pub none_value : (d : ℕ) (c : Bool) (s : Place) → d ≡ 0 → (readers true d).value c s ≡ Err deep
none_value d c s e = ap (λ (k : ℕ). (readers true k).value c s) e ∙ none_value-zero c s

-- ---- one step behind another one

-- what the second function returned is what reading goes on to give
pub gives_from : (old mid new : Parser) (a : ℕ) (rest : List Word) (read : Answer Tree) (on : Tree → Parse Tree) (r : Result (ℕ × Bor (List Word)) Refusal) → Made nodes old mid a rest read
    → Gives mid new r (on (tree_at mid.nodes.items a) (place mid rest)) → Gives old new r (read >>= λ x. on x.0 x.1)
gives_from old mid new a rest read on (Ok x) m g = record {
  there = g.there;
  tree = ap (λ (q : Answer Tree). q >>= λ x. on x.0 x.1) m.tree ∙ g.tree;
  kept = Extends-trans old.nodes.items mid.nodes.items new.nodes.items m.kept g.kept;
}
gives_from old mid new a rest read on (Err e) m g =
    fails_eq e (read >>= λ x. on x.0 x.1) (on (tree_at mid.nodes.items a) (place mid rest)) (ap (λ (q : Answer Tree). q >>= λ x. on x.0 x.1) m.tree) g

-- a node for what was read
pub made_put : (old mid new : Parser) (id : ℕ) (rest : List Word) (t : Tree) (read : Answer Tree) → read ≡ Ok (t, place mid rest) → Extends old.nodes.items mid.nodes.items → Puts mid new t id → Made nodes old new id rest read
made_put old mid new id rest t read e x p = record {
  there = p.there;
  tree = e ∙ ap (λ (u : Tree). Ok (u, place mid rest)) (sym p.tree) ∙ ap (λ (s : Place). Ok (tree_at new.nodes.items id, s)) (sym (same_place mid new rest p.known));
  kept = Extends-trans old.nodes.items mid.nodes.items new.nodes.items x p.kept;
}

-- a word of this kind behind what was read
pub closed_tree : {A : Type 0} (mid : Parser) (k : WordKind) (rest after : List Word) (t : A) (read : Answer A) → read ≡ Ok (t, place mid rest) → word k rest ≡ Some (tt, after) → closed k read ≡ Ok (t, place mid after)
closed_tree mid k rest after t read e c = ap (closed k) e ∙ ap (ended_by t) (seen_at mid (word k) rest after tt c)

pub closed_wrong : {A : Type 0} (mid : Parser) (k : WordKind) (rest : List Word) (t : A) (read : Answer A) → read ≡ Ok (t, place mid rest) → word k rest ≡ None → closed k read ≡ Err wrong
closed_wrong mid k rest t read e c = ap (closed k) e ∙ ap (ended_by t) (unseen_at mid (word k) rest c)

module _ {C : Type 0} (f : Tree → Tree → C) (look : Look (Unit {0})) (p : Parse Tree) (old mid : Parser) (a : ℕ) (rest : List Word) (read : Answer Tree) (m : Made nodes old mid a rest read) where
  across_at : across f look p read ≡ on_seen (f (tree_at mid.nodes.items a)) p (at look (place mid rest))
  across_at = ap (λ (q : Answer Tree). q >>= λ x. on_seen (f x.0) p (at look x.1)) m.tree

  -- two parts with something between them
  pub across_tree : (next : Parser) (b : ℕ) (after left : List Word) → look rest ≡ Some (tt, after) → Made nodes mid next b left (p (place mid after))
      → across f look p read ≡ Ok (f (tree_at next.nodes.items a) (tree_at next.nodes.items b), place next left)
  across_tree next b after left e k =
      across_at
      ∙ ap (on_seen (f (tree_at mid.nodes.items a)) p) (seen_at mid look rest after tt e)
      ∙ ap (built (f (tree_at mid.nodes.items a))) k.tree
      ∙ ap (λ (u : Tree). Ok (f u (tree_at next.nodes.items b), place next left)) (sym (tree_at-kept mid.nodes.items next.nodes.items a k.kept m.there))

  -- nothing between them
  pub across_wrong : look rest ≡ None → across f look p read ≡ Err wrong
  across_wrong e = across_at ∙ ap (on_seen (f (tree_at mid.nodes.items a)) p) (unseen_at mid look rest e)

  -- the second part fails
  pub across_fails : (after : List Word) (d : Refusal) → look rest ≡ Some (tt, after) → Fails d (p (place mid after)) → Fails d (across f look p read)
  across_fails after d e h =
      fails_eq d (across f look p read) (built (f (tree_at mid.nodes.items a)) (p (place mid after))) (across_at ∙ ap (on_seen (f (tree_at mid.nodes.items a)) p) (seen_at mid look rest after tt e))
      (fails_bind d (p (place mid after)) (λ x. Ok (f (tree_at mid.nodes.items a) x.0, x.1)) h)
