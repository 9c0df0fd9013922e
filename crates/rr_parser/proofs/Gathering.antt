-- What the code made of the members of lists.
use Rattle.std.proofs.Common.{◌≡◌, ℕ, zero, suc, ◌<◌, ◌≤◌, ◌==◌, Bool, true, false, List, ◌∷◌, ◌++◌, length, map, Some, None, Result, Ok, Err, refl, sym, ap, ◌∙◌, subst, arith, []}
use Rattle.std.specs.Prelude.{All}
use Rattle.std.specs.Borrow.{Bor}
use Rattle.std.proofs.lemmas.List.{map-append}
use Rattle.std.proofs.lemmas.List.Elements.{All-append}
use Rattle.rr_base.specs.declared.name.Sym.{Sym}
use Rattle.rr_tree.specs.declared.node.Node.{Node}
use Rattle.rr_tree.specs.Tree.{Tree, pair, pairs, splat, symbol, listed, tree_at}
use Rattle.rr_tree.specs.Nodes.{Extends}
use Rattle.rr_tree.proofs.Growth.{tree_at-kept, Extends-refl, Extends-trans, length-kept}
use Rattle.rr_parser.specs.declared.members.Given.{Given as CodeGiven}
use Rattle.rr_parser.specs.declared.members.Member.{Member as CodeMember}
use Rattle.rr_parser.specs.declared.members.Member.TheVariants as code_member
use Rattle.rr_parser.specs.declared.parser.Parser.{Parser}
use Rattle.rr_parser.specs.declared.refusal.Refusal.{Refusal}
use Rattle.rr_parser.specs.declared.word.Listed.{Listed}
use Rattle.rr_parser.specs.declared.word.Listed.TheVariants as listings
use Rattle.rr_parser.specs.declared.word.Word.{Word}
use Rattle.rr_parser.specs.declared.word.WordKind.TheVariants as kind
use Rattle.rr_parser.specs.Places.{Place, Look, word, at}
use Rattle.rr_parser.specs.Grammar.Operands.{Reached}
use Rattle.rr_parser.specs.Grammar.Calls.{label, Member, item, entry, Given, nothing, with_member, only_pairs, with_pairs, contents}
use Rattle.rr_parser.specs.Reading.Answers.{◌>>=◌, wrong, Answer, Parse, built, from, trail_on}
use Rattle.rr_parser.specs.Reading.Nesting.{Readers}
use Rattle.rr_parser.specs.Reading.Calls.{another, argument_of, lone, arrow_or, key_on, star_or, star_unless, unlabeled_of, label_or, member_of, adding_of, adding_to, members_on, members_of, listed_of, reached_on, first_on, listed_on}
use Rattle.rr_parser.specs.Meets.{View, nodes, lists, members, givens, member_tree, member_within, Made, Fails, GivesMember, GivesGiven, Puts, PutsList, AddsMember, place}
use Rattle.rr_parser.proofs.Looks.{left, Steps}
use Rattle.rr_parser.proofs.Trails.{trail_on-ends, trail_on-turn}
use Rattle.rr_parser.proofs.Making.{Goes, fails_bind, fails_eq, seen_at, unseen_at, same_place, stable_nodes, kept_list, grown_list}

-- ---- one member

-- one node that is a member
pub made_member : (old mid new : Parser) (a id : ℕ) (e : CodeMember) (rest : List Word) (t u : Tree) (f : Tree → Member) (read : Answer Tree) → Made nodes old mid a rest read → Puts mid new t id
    → member_within (length new.nodes.items) e → member_tree new.nodes.items e ≡ f (tree_at mid.nodes.items a) → Made members old new e rest (built f read)
made_member old mid new a id e rest t u f read m p w is = record {
  there = w;
  tree = ap (built f) m.tree ∙ ap (λ (v : Member). Ok (v, place mid rest)) (sym is) ∙ ap (λ (s : Place). Ok (member_tree new.nodes.items e, s)) (sym (same_place mid new rest p.known));
  kept = Extends-trans old.nodes.items mid.nodes.items new.nodes.items m.kept p.kept;
}

-- a label and its value
pub made_label_member : (N : Readers) (only : Bool) (old m1 new : Parser) (x : Sym) (a id : ℕ) (words after rest : List Word) → label words ≡ Some (x, after) → Made nodes old m1 a rest (argument_of N (place old after))
    → Puts m1 new (pair (symbol x.0) (tree_at m1.nodes.items a)) id → Made members old new (code_member.Pair id) rest (member_of N only (place old words))
unfolding member_of
made_label_member N only old m1 new x a id words after rest e m p =
    let f : Tree → Member = λ t. entry (pair (symbol x.0) t) in
    let made = made_member old m1 new a id (code_member.Pair id) rest (pair (symbol x.0) (tree_at m1.nodes.items a)) (tree_at m1.nodes.items a) f (argument_of N (place old after)) m p p.there (ap entry p.tree) in
    record { there = made.there; tree = ap (label_or N only (place old words)) (seen_at old label words after x e) ∙ made.tree; kept = made.kept }

pub fails_label_member : (N : Readers) (only : Bool) (old : Parser) (x : Sym) (words after : List Word) (d : Refusal) → label words ≡ Some (x, after) → Fails d (argument_of N (place old after)) → Fails d (member_of N only (place old words))
unfolding member_of
fails_label_member N only old x words after d e h =
    let f : Tree → Member = λ t. entry (pair (symbol x.0) t) in
    fails_eq d (member_of N only (place old words)) (built f (argument_of N (place old after))) (ap (label_or N only (place old words)) (seen_at old label words after x e))
    (fails_bind d (argument_of N (place old after)) (λ q. Ok (f q.0, q.1)) h)

reads_unlabeled : (N : Readers) (only : Bool) (old : Parser) (words : List Word) → label words ≡ None → member_of N only (place old words) ≡ star_or N only (place old words) (at (star_unless only) (place old words))
unfolding member_of unlabeled_of
reads_unlabeled N only old words e = ap (label_or N only (place old words)) (unseen_at old label words e)

-- a `*` and an argument
pub made_splat_member : (N : Readers) (only : Bool) (old m1 new : Parser) (a id : ℕ) (words after rest : List Word) → label words ≡ None → star_unless only words ≡ Some (tt, after)
    → Made nodes old m1 a rest (argument_of N (place old after)) → Puts m1 new (splat (tree_at m1.nodes.items a)) id → Made members old new (code_member.Item id) rest (member_of N only (place old words))
made_splat_member N only old m1 new a id words after rest none e m p =
    let f : Tree → Member = λ t. item (splat t) in
    let made = made_member old m1 new a id (code_member.Item id) rest (splat (tree_at m1.nodes.items a)) (tree_at m1.nodes.items a) f (argument_of N (place old after)) m p p.there (ap item p.tree) in
    record { there = made.there; tree = reads_unlabeled N only old words none ∙ ap (star_or N only (place old words)) (seen_at old (star_unless only) words after tt e) ∙ made.tree; kept = made.kept }

pub fails_splat_member : (N : Readers) (only : Bool) (old : Parser) (words after : List Word) (d : Refusal) → label words ≡ None → star_unless only words ≡ Some (tt, after) → Fails d (argument_of N (place old after))
    → Fails d (member_of N only (place old words))
fails_splat_member N only old words after d none e h =
    let f : Tree → Member = λ t. item (splat t) in
    fails_eq d (member_of N only (place old words)) (built f (argument_of N (place old after)))
    (reads_unlabeled N only old words none ∙ ap (star_or N only (place old words)) (seen_at old (star_unless only) words after tt e)) (fails_bind d (argument_of N (place old after)) (λ q. Ok (f q.0, q.1)) h)

reads_argument : (N : Readers) (only : Bool) (old : Parser) (words : List Word) → label words ≡ None → star_unless only words ≡ None → member_of N only (place old words) ≡ from (argument_of N) (key_on N only) (place old words)
reads_argument N only old words none e = reads_unlabeled N only old words none ∙ ap (star_or N only (place old words)) (unseen_at old (star_unless only) words e)

pub fails_argument_member : (N : Readers) (only : Bool) (old : Parser) (words : List Word) (d : Refusal) → label words ≡ None → star_unless only words ≡ None → Fails d (argument_of N (place old words)) → Fails d (member_of N only (place old words))
fails_argument_member N only old words d none e h =
    fails_eq d (member_of N only (place old words)) (from (argument_of N) (key_on N only) (place old words)) (reads_argument N only old words none e)
    (fails_bind d (argument_of N (place old words)) (λ q. key_on N only q.0 q.1) h)

-- an argument, and what stands behind it
pub gives_keyed : (N : Readers) (only : Bool) (old m1 new : Parser) (a : ℕ) (words rest : List Word) (r : Result (CodeMember × Bor (List Word)) Refusal) → label words ≡ None → star_unless only words ≡ None
    → Made nodes old m1 a rest (argument_of N (place old words)) → GivesMember m1 new r (key_on N only (tree_at m1.nodes.items a) (place m1 rest)) → GivesMember old new r (member_of N only (place old words))
gives_keyed N only old m1 new a words rest r none e m h =
    subst (λ (q : Answer Member). GivesMember old new r q) (sym (reads_argument N only old words none e ∙ ap (λ (q : Answer Tree). q >>= λ x. key_on N only x.0 x.1) m.tree)) (grown r h)
  where
    behind : Answer Member
    behind = key_on N only (tree_at m1.nodes.items a) (place m1 rest)

    grown : (r : Result (CodeMember × Bor (List Word)) Refusal) → GivesMember m1 new r behind → GivesMember old new r behind
    grown (Ok x) i = record { there = i.there; tree = i.tree; kept = Extends-trans old.nodes.items m1.nodes.items new.nodes.items m.kept i.kept }
    grown (Err d) i = i

-- a key, its arrow and its value
pub made_key : (N : Readers) (only : Bool) (old m1 new : Parser) (a b id : ℕ) (words after rest : List Word) → a < length old.nodes.items → word kind.Arrow words ≡ Some (tt, after) → Made nodes old m1 b rest (argument_of N (place old after))
    → Puts m1 new (pair (tree_at m1.nodes.items a) (tree_at m1.nodes.items b)) id → Made members old new (code_member.Pair id) rest (key_on N only (tree_at old.nodes.items a) (place old words))
unfolding key_on
made_key N only old m1 new a b id words after rest lt e m p =
    let t : Tree = tree_at old.nodes.items a in
    let f : Tree → Member = λ v. entry (pair t v) in
    let made = made_member old m1 new b id (code_member.Pair id) rest (pair (tree_at m1.nodes.items a) (tree_at m1.nodes.items b)) (tree_at m1.nodes.items b) f (argument_of N (place old after)) m p p.there
    (ap entry (p.tree ∙ ap (λ (u : Tree). pair u (tree_at m1.nodes.items b)) (tree_at-kept old.nodes.items m1.nodes.items a m.kept lt))) in
    record { there = made.there; tree = ap (arrow_or N only t (place old words)) (seen_at old (word kind.Arrow) words after tt e) ∙ made.tree; kept = made.kept }

pub fails_key : (N : Readers) (only : Bool) (old : Parser) (t : Tree) (words after : List Word) (d : Refusal) → word kind.Arrow words ≡ Some (tt, after) → Fails d (argument_of N (place old after)) → Fails d (key_on N only t (place old words))
unfolding key_on
fails_key N only old t words after d e h =
    let f : Tree → Member = λ v. entry (pair t v) in
    fails_eq d (key_on N only t (place old words)) (built f (argument_of N (place old after))) (ap (arrow_or N only t (place old words)) (seen_at old (word kind.Arrow) words after tt e))
    (fails_bind d (argument_of N (place old after)) (λ q. Ok (f q.0, q.1)) h)

lone_wrong : (only : Bool) (t : Tree) (s : Place) → only ≡ true → lone only t s ≡ Err wrong
lone_wrong true t s e = refl
lone_wrong false t s e = absurd cc

lone_made : (only : Bool) (t : Tree) (s : Place) → only ≡ false → lone only t s ≡ Ok (item t, s)
lone_made true t s e = absurd cc
lone_made false t s e = refl

pub wrong_key : (N : Readers) (only : Bool) (old : Parser) (t : Tree) (words : List Word) → only ≡ true → word kind.Arrow words ≡ None → key_on N only t (place old words) ≡ Err wrong
unfolding key_on
wrong_key N only old t words o e = ap (arrow_or N only t (place old words)) (unseen_at old (word kind.Arrow) words e) ∙ lone_wrong only t (place old words) o

pub made_lone : (N : Readers) (only : Bool) (old : Parser) (a : ℕ) (words : List Word) → a < length old.nodes.items → only ≡ false → word kind.Arrow words ≡ None
    → Made members old old (code_member.Item a) words (key_on N only (tree_at old.nodes.items a) (place old words))
unfolding key_on
made_lone N only old a words lt o e = record {
  there = lt;
  tree = ap (arrow_or N only (tree_at old.nodes.items a) (place old words)) (unseen_at old (word kind.Arrow) words e) ∙ lone_made only (tree_at old.nodes.items a) (place old words) o;
  kept = Extends-refl old.nodes.items;
}

-- ---- members, gathered

single : (n i : ℕ) → i < n → All (λ j. j < n) (i ∷ [])
single n i h zero d lt = h
single n i h (suc k) d lt = let never : ⊥ = omega arith in absurd never

more_within : (n i : ℕ) (l m : List ℕ) → All (λ j. j < n) l → i < n → m ≡ l ++ i ∷ [] → All (λ j. j < n) m
more_within n i l m all h e = subst (λ (q : List ℕ). All (λ j. j < n) q) (sym e) (All-append (λ j. j < n) l (i ∷ []) all (single n i h))

same_within : (n : ℕ) (l m : List ℕ) → All (λ j. j < n) l → m ≡ l → All (λ j. j < n) m
same_within n l m all e = subst (λ (q : List ℕ). All (λ j. j < n) q) (sym e) all

grown_given : (m n : ℕ) (g : CodeGiven) → m ≤ n → givens.within m g → givens.within n g
grown_given m n g le w = (grown_list nodes stable_nodes m n g.items.items le w.0, grown_list nodes stable_nodes m n g.pairs.items le w.1)

kept_given : (a b : List Node) (g : CodeGiven) → Extends a b → givens.within (length a) g → givens.tree b g ≡ givens.tree a g
kept_given a b g x w =
    ap (λ (l : List Tree). record { items = l; pairs = map (tree_at b) g.pairs.items }) (kept_list nodes stable_nodes a b g.items.items x w.0)
    ∙ ap (λ (l : List Tree). record { items = map (tree_at a) g.items.items; pairs = l }) (kept_list nodes stable_nodes a b g.pairs.items x w.1)

added_within : (n : ℕ) (g h : CodeGiven) (e : CodeMember) → givens.within n g → member_within n e → AddsMember g h e → givens.within n h
added_within n g h (code_member.Item i) w lt a = (more_within n i g.items.items h.items.items w.0 lt a.0, same_within n g.pairs.items h.pairs.items w.1 a.1)
added_within n g h (code_member.Pair i) w lt a = (same_within n g.items.items h.items.items w.0 a.0, more_within n i g.pairs.items h.pairs.items w.1 lt a.1)

added_tree : (ns : List Node) (g h : CodeGiven) (e : CodeMember) → AddsMember g h e → with_member (givens.tree ns g) (member_tree ns e) ≡ givens.tree ns h
added_tree ns g h (code_member.Item i) a =
    ap (λ (l : List Tree). record { items = l; pairs = map (tree_at ns) g.pairs.items }) (sym (map-append (tree_at ns) g.items.items (i ∷ [])))
    ∙ ap (λ (l : List ℕ). record { items = map (tree_at ns) l; pairs = map (tree_at ns) g.pairs.items }) (sym a.0)
    ∙ ap (λ (l : List ℕ). record { items = map (tree_at ns) h.items.items; pairs = map (tree_at ns) l }) (sym a.1)
added_tree ns g h (code_member.Pair i) a =
    ap (λ (l : List Tree). record { items = map (tree_at ns) g.items.items; pairs = l }) (sym (map-append (tree_at ns) g.pairs.items (i ∷ [])))
    ∙ ap (λ (l : List ℕ). record { items = map (tree_at ns) l; pairs = map (tree_at ns) (g.pairs.items ++ i ∷ []) }) (sym a.0)
    ∙ ap (λ (l : List ℕ). record { items = map (tree_at ns) h.items.items; pairs = map (tree_at ns) l }) (sym a.1)

module _ (N : Readers) (k : Listed) where
  pub made_added : (old m1 : Parser) (g h : CodeGiven) (e : CodeMember) (only : Bool) (words rest : List Word) → givens.within (length old.nodes.items) g → only ≡ only_pairs k (givens.tree old.nodes.items g)
      → Made members old m1 e rest (member_of N only (place old words)) → AddsMember g h e → Made givens old m1 h rest (adding_of N k (givens.tree old.nodes.items g) (place old words))
  unfolding adding_of
  made_added old m1 g h e only words rest w is m a = record {
    there = added_within (length m1.nodes.items) g h e (grown_given (length old.nodes.items) (length m1.nodes.items) g (length-kept old.nodes.items m1.nodes.items m.kept) w) m.there a;
    tree =
        ap (λ (o : Bool). built (with_member (givens.tree old.nodes.items g)) (member_of N o (place old words))) (sym is)
        ∙ ap (built (with_member (givens.tree old.nodes.items g))) m.tree
        ∙ ap (λ (v : Given). Ok (with_member v (member_tree m1.nodes.items e), place m1 rest)) (sym (kept_given old.nodes.items m1.nodes.items g m.kept w))
        ∙ ap (λ (v : Given). Ok (v, place m1 rest)) (added_tree m1.nodes.items g h e a);
    kept = m.kept;
  }

  pub fails_added : (old : Parser) (g : Given) (only : Bool) (words : List Word) (d : Refusal) → only ≡ only_pairs k g → Fails d (member_of N only (place old words)) → Fails d (adding_of N k g (place old words))
  unfolding adding_of
  fails_added old g only words d is h =
      fails_eq d (adding_of N k g (place old words)) (built (with_member g) (member_of N only (place old words))) (ap (λ (o : Bool). built (with_member g) (member_of N o (place old words))) (sym is))
      (fails_bind d (member_of N only (place old words)) (λ q. Ok (with_member g q.0, q.1)) h)

-- ---- trails

module _ {X E A : Type 0} (v : View E A) (look : Look X) (q : X → A → Parse A) (steps : Steps look) (smaller : (x : X) (l : A) (n z : Place) (t : A) → q x l n ≡ Ok (t, z) → left z ≤ left n) where
  abbrev goes_on : A → Parse A
  goes_on = trail_on look q

  one_turn : (new : Parser) (l : E) (rest after : List Word) (x : X) → look rest ≡ Some (x, after)
      → goes_on (v.tree new.nodes.items l) (place new rest) ≡ (q x (v.tree new.nodes.items l) (place new after) >>= λ r. goes_on r.0 r.1)
  one_turn new l rest after x e = trail_on-turn look q steps smaller (v.tree new.nodes.items l) (place new rest) (place new after) x (seen_at new look rest after x e)

  pub turns_end : (old new : Parser) (l : E) (rest : List Word) (read : Answer A) → Goes v old new l read (trail_on look q (v.tree new.nodes.items l) (place new rest)) → look rest ≡ None → Made v old new l rest read
  turns_end old new l rest read g e = record { there = g.there; tree = g.same ∙ trail_on-ends look q steps smaller (v.tree new.nodes.items l) (place new rest) (unseen_at new look rest e); kept = g.kept }

  pub turns_fail : (old s0 : Parser) (l : E) (rest after : List Word) (x : X) (read : Answer A) (d : Refusal) → Goes v old s0 l read (trail_on look q (v.tree s0.nodes.items l) (place s0 rest)) → look rest ≡ Some (x, after)
      → Fails d (q x (v.tree s0.nodes.items l) (place s0 after)) → Fails d read
  turns_fail old s0 l rest after x read d g e h =
      fails_eq d read (q x (v.tree s0.nodes.items l) (place s0 after) >>= λ r. goes_on r.0 r.1) (g.same ∙ one_turn s0 l rest after x e)
      (fails_bind d (q x (v.tree s0.nodes.items l) (place s0 after)) (λ r. goes_on r.0 r.1) h)

  pub turns_smaller : (s0 s1 : Parser) (l b : E) (rest after behind : List Word) (x : X) → look rest ≡ Some (x, after) → Made v s0 s1 b behind (q x (v.tree s0.nodes.items l) (place s0 after)) → length behind < length rest
  turns_smaller s0 s1 l b rest after behind x e m =
      omega (arith, steps (place s0 rest) (place s0 after) x (seen_at s0 look rest after x e), smaller x (v.tree s0.nodes.items l) (place s0 after) (place s1 behind) (v.tree s1.nodes.items b) m.tree)

  pub turns_go : (old s0 s1 : Parser) (l b : E) (rest after behind : List Word) (x : X) (read : Answer A) → Goes v old s0 l read (trail_on look q (v.tree s0.nodes.items l) (place s0 rest)) → look rest ≡ Some (x, after)
      → Made v s0 s1 b behind (q x (v.tree s0.nodes.items l) (place s0 after)) → Goes v old s1 b read (trail_on look q (v.tree s1.nodes.items b) (place s1 behind))
  turns_go old s0 s1 l b rest after behind x read g e m = record {
    there = m.there;
    kept = Extends-trans old.nodes.items s0.nodes.items s1.nodes.items g.kept m.kept;
    same = g.same ∙ one_turn s0 l rest after x e ∙ ap (λ (r : Answer A). r >>= λ r. goes_on r.0 r.1) m.tree;
  }

-- what was there before is as it was
later_given : (old mid new : Parser) (r : Result (CodeGiven × Bor (List Word)) Refusal) (read : Answer Given) → Extends old.nodes.items mid.nodes.items → GivesGiven mid new r read → GivesGiven old new r read
later_given old mid new (Ok x) read e m = record { there = m.there; tree = m.tree; kept = Extends-trans old.nodes.items mid.nodes.items new.nodes.items e m.kept }
later_given old mid new (Err d) read e h = h

none_given : (n : ℕ) (g : CodeGiven) → g.items.items ≡ [] → g.pairs.items ≡ [] → givens.within n g
none_given n g d e = (none_within g.items.items d, none_within g.pairs.items e)
  where
    none_within : (l : List ℕ) → l ≡ [] → All (λ j. j < n) l
    none_within l e = subst (λ (q : List ℕ). All (λ j. j < n) q) (sym e) (λ k d lt. let never : ⊥ = omega arith in absurd never)

nothing_given : (ns : List Node) (g : CodeGiven) → g.items.items ≡ [] → g.pairs.items ≡ [] → givens.tree ns g ≡ nothing
nothing_given ns g d e =
    ap (λ (l : List ℕ). record { items = map (tree_at ns) l; pairs = map (tree_at ns) g.pairs.items }) d ∙ ap (λ (l : List ℕ). record { items = []; pairs = map (tree_at ns) l }) e

-- before the first member nothing is there
pub empty_given : (p : Parser) (g : CodeGiven) → g.items.items ≡ [] → g.pairs.items ≡ [] → givens.within (length p.nodes.items) g
empty_given p g d e = none_given (length p.nodes.items) g d e

module _ (N : Readers) (k : Listed) where
  pub gives_members : (old mid new : Parser) (none g : CodeGiven) (words rest : List Word) (r : Result (CodeGiven × Bor (List Word)) Refusal) → none.items.items ≡ [] → none.pairs.items ≡ []
      → Made givens old mid g rest (adding_of N k (givens.tree old.nodes.items none) (place old words)) → GivesGiven mid new r (members_on N k (givens.tree mid.nodes.items g) (place mid rest)) → GivesGiven old new r (members_of N k (place old words))
  unfolding members_of
  gives_members old mid new none g words rest r d e m h =
      subst (λ (q : Answer Given). GivesGiven old new r q)
      (sym
      (ap (λ (v : Given). adding_of N k v (place old words) >>= λ x. members_on N k x.0 x.1) (sym (nothing_given old.nodes.items none d e))
      ∙ ap (λ (q : Answer Given). q >>= λ x. members_on N k x.0 x.1) m.tree)) (later_given old mid new r (members_on N k (givens.tree mid.nodes.items g) (place mid rest)) m.kept h)

  pub fails_first : (old : Parser) (none : CodeGiven) (words : List Word) (d : Refusal) → none.items.items ≡ [] → none.pairs.items ≡ [] → Fails d (adding_of N k (givens.tree old.nodes.items none) (place old words)) → Fails d (members_of N k (place old words))
  unfolding members_of
  fails_first old none words d i p h =
      fails_eq d (members_of N k (place old words)) (adding_of N k (givens.tree old.nodes.items none) (place old words) >>= λ r. trail_on (another k) (adding_to N k) r.0 r.1)
      (ap (λ (v : Given). adding_of N k v (place old words) >>= λ r. trail_on (another k) (adding_to N k) r.0 r.1) (sym (nothing_given old.nodes.items none i p)))
      (fails_bind d (adding_of N k (givens.tree old.nodes.items none) (place old words)) (λ r. trail_on (another k) (adding_to N k) r.0 r.1) h)

  -- what the list has by its members
  pub made_listed : (old mid new : Parser) (g : CodeGiven) (es : List ℕ) (words rest : List Word) → Made givens old mid g rest (members_of N k (place old words)) → PutsList mid new (contents k (givens.tree mid.nodes.items g)) es
      → Made (lists nodes) old new es rest (listed_of N k (place old words))
  unfolding listed_of
  made_listed old mid new g es words rest m p = record {
    there = p.there;
    tree =
        ap (built (contents k)) m.tree
        ∙ ap (λ (l : List Tree). Ok (l, place mid rest)) (sym p.trees)
        ∙ ap (λ (s : Place). Ok (map (tree_at new.nodes.items) es, s)) (sym (same_place mid new rest p.known));
    kept = Extends-trans old.nodes.items mid.nodes.items new.nodes.items m.kept p.kept;
  }

  pub fails_listed : (old : Parser) (words : List Word) (d : Refusal) → Fails d (members_of N k (place old words)) → Fails d (listed_of N k (place old words))
  unfolding listed_of
  fails_listed old words d h = fails_bind d (members_of N k (place old words)) (λ q. Ok (contents k q.0, q.1)) h

-- ---- arguments from behind the operand that they begin with

module _ (N : Readers) (o : Reached) where
  made_first : (old m1 m2 : Parser) (none g : CodeGiven) (a : ℕ) (e : CodeMember) (words after rest : List Word) → none.items.items ≡ [] → none.pairs.items ≡ [] → Made nodes old m1 a after (reached_on N false o (place old words))
      → Made members m1 m2 e rest (key_on N false (tree_at m1.nodes.items a) (place m1 after)) → AddsMember none g e → Made givens old m2 g rest (first_on N o (place old words))
  unfolding first_on
  made_first old m1 m2 none g a e words after rest i p m k add = record {
    there = added_within (length m2.nodes.items) none g e (none_given (length m2.nodes.items) none i p) k.there add;
    tree =
        ap (λ (q : Answer Tree). built (with_member nothing) (q >>= λ x. key_on N false x.0 x.1)) m.tree
        ∙ ap (built (with_member nothing)) k.tree
        ∙ ap (λ (v : Given). Ok (with_member v (member_tree m2.nodes.items e), place m2 rest)) (sym (nothing_given m2.nodes.items none i p))
        ∙ ap (λ (v : Given). Ok (v, place m2 rest)) (added_tree m2.nodes.items none g e add);
    kept = Extends-trans old.nodes.items m1.nodes.items m2.nodes.items m.kept k.kept;
  }

  -- the same where the room of the first member is taken last
  pub made_first_in_room : (old m1 m2 new : Parser) (none g : CodeGiven) (a : ℕ) (e : CodeMember) (words after rest : List Word) → none.items.items ≡ [] → none.pairs.items ≡ [] → new.nodes.items ≡ m2.nodes.items → new.known ≡ m2.known
      → Made nodes old m1 a after (reached_on N false o (place old words)) → Made members m1 m2 e rest (key_on N false (tree_at m1.nodes.items a) (place m1 after)) → AddsMember none g e → Made givens old new g rest (first_on N o (place old words))
  made_first_in_room old m1 m2 new none g a e words after rest i p same known m k add =
      let made = made_first old m1 m2 none g a e words after rest i p m k add in
      record {
        there = subst (λ (l : List Node). givens.within (length l) g) (sym same) made.there;
        tree = made.tree ∙ ap (λ (l : List Node). Ok (givens.tree l g, place m2 rest)) (sym same) ∙ ap (λ (s : Place). Ok (givens.tree new.nodes.items g, s)) (sym (same_place m2 new rest known));
        kept = subst (λ (l : List Node). Extends old.nodes.items l) (sym same) made.kept;
      }

  pub fails_operand : (old : Parser) (words : List Word) (d : Refusal) → Fails d (reached_on N false o (place old words)) → Fails d (first_on N o (place old words))
  unfolding first_on
  fails_operand old words d h =
      fails_bind d (reached_on N false o (place old words) >>= λ x. key_on N false x.0 x.1) (λ q. Ok (with_member nothing q.0, q.1)) (fails_bind d (reached_on N false o (place old words)) (λ x. key_on N false x.0 x.1) h)

  pub fails_behind_operand : (old m1 : Parser) (a : ℕ) (words after : List Word) (d : Refusal) → Made nodes old m1 a after (reached_on N false o (place old words)) → Fails d (key_on N false (tree_at m1.nodes.items a) (place m1 after)) → Fails d (first_on N o (place old words))
  unfolding first_on
  fails_behind_operand old m1 a words after d m h =
      fails_eq d (first_on N o (place old words)) (built (with_member nothing) (key_on N false (tree_at m1.nodes.items a) (place m1 after)))
      (ap (λ (q : Answer Tree). built (with_member nothing) (q >>= λ x. key_on N false x.0 x.1)) m.tree) (fails_bind d (key_on N false (tree_at m1.nodes.items a) (place m1 after)) (λ q. Ok (with_member nothing q.0, q.1)) h)

  -- the first argument, and those behind it
  pub made_listed_on : (old m1 m2 new : Parser) (first g : CodeGiven) (es : List ℕ) (words after rest : List Word) → Made givens old m1 first after (first_on N o (place old words))
      → Made givens m1 m2 g rest (members_on N listings.Command (givens.tree m1.nodes.items first) (place m1 after)) → PutsList m2 new (contents listings.Command (givens.tree m2.nodes.items g)) es
      → Made (lists nodes) old new es rest (listed_on N o (place old words))
  unfolding listed_on
  made_listed_on old m1 m2 new first g es words after rest m k p = record {
    there = p.there;
    tree =
        ap (λ (q : Answer Given). built (contents listings.Command) (q >>= λ x. members_on N listings.Command x.0 x.1)) m.tree
        ∙ ap (built (contents listings.Command)) k.tree
        ∙ ap (λ (l : List Tree). Ok (l, place m2 rest)) (sym p.trees)
        ∙ ap (λ (s : Place). Ok (map (tree_at new.nodes.items) es, s)) (sym (same_place m2 new rest p.known));
    kept = Extends-trans old.nodes.items m1.nodes.items new.nodes.items m.kept (Extends-trans m1.nodes.items m2.nodes.items new.nodes.items k.kept p.kept);
  }

  pub fails_first_argument : (old : Parser) (words : List Word) (d : Refusal) → Fails d (first_on N o (place old words)) → Fails d (listed_on N o (place old words))
  unfolding listed_on
  fails_first_argument old words d h =
      fails_bind d (from (first_on N o) (members_on N listings.Command) (place old words)) (λ q. Ok (contents listings.Command q.0, q.1)) (fails_bind d (first_on N o (place old words)) (λ x. members_on N listings.Command x.0 x.1) h)

  pub fails_later_arguments : (old m1 : Parser) (first : CodeGiven) (words after : List Word) (d : Refusal) → Made givens old m1 first after (first_on N o (place old words))
      → Fails d (members_on N listings.Command (givens.tree m1.nodes.items first) (place m1 after)) → Fails d (listed_on N o (place old words))
  unfolding listed_on
  fails_later_arguments old m1 first words after d m h =
      fails_eq d (listed_on N o (place old words)) (built (contents listings.Command) (members_on N listings.Command (givens.tree m1.nodes.items first) (place m1 after)))
      (ap (λ (q : Answer Given). built (contents listings.Command) (q >>= λ x. members_on N listings.Command x.0 x.1)) m.tree)
      (fails_bind d (members_on N listings.Command (givens.tree m1.nodes.items first) (place m1 after)) (λ q. Ok (contents listings.Command q.0, q.1)) h)

-- ---- the nodes of a list

pub packed_alone : (p : Parser) (xs ys ids : List ℕ) → length ys ≡ 0 → ids ≡ xs → All (λ i. i < length p.nodes.items) xs → PutsList p p (with_pairs (map (tree_at p.nodes.items) xs) (map (tree_at p.nodes.items) ys)) ids
packed_alone p xs [] ids e same all = record {
  there = subst (λ (l : List ℕ). All (λ i. i < length p.nodes.items) l) (sym same) all;
  trees = ap (map (tree_at p.nodes.items)) same;
  kept = Extends-refl p.nodes.items;
  known = refl;
}
packed_alone p xs (y ∷ ys) ids e same all = let never : ⊥ = omega (arith, e) in absurd never

pub packed_put : (old new : Parser) (xs ys zs ids : List ℕ) (id n : ℕ) (b : Bool) → b ≡ (n == 0) → length zs ≡ n → b ≡ false → zs ≡ ys → ids ≡ xs ++ id ∷ [] → All (λ i. i < length old.nodes.items) xs → Puts old new (pairs (listed (map (tree_at old.nodes.items) zs))) id
    → PutsList old new (with_pairs (map (tree_at old.nodes.items) xs) (map (tree_at old.nodes.items) ys)) ids
packed_put old new xs [] zs ids id n b e l f is same all p = let g : ◌≡◌ {A = Bool} true false = sym (e ∙ ap (λ (k : ℕ). k == 0) (sym l ∙ ap length is)) ∙ f in absurd cc
packed_put old new xs (y ∷ ys) zs ids id n b e l f is same all p = record {
  there = more_within (length new.nodes.items) id xs ids (grown_list nodes stable_nodes (length old.nodes.items) (length new.nodes.items) xs (length-kept old.nodes.items new.nodes.items p.kept) all) p.there same;
  trees =
      ap (map (tree_at new.nodes.items)) same
      ∙ map-append (tree_at new.nodes.items) xs (id ∷ [])
      ∙ ap (λ (l : List Tree). l ++ tree_at new.nodes.items id ∷ []) (kept_list nodes stable_nodes old.nodes.items new.nodes.items xs p.kept all)
      ∙ ap (λ (t : Tree). map (tree_at old.nodes.items) xs ++ t ∷ []) (p.tree ∙ ap (λ (l : List ℕ). pairs (listed (map (tree_at old.nodes.items) l))) is);
  kept = p.kept;
  known = p.known;
}

pub given_hash : (p : Parser) (k : Listed) (g : CodeGiven) (ids : List ℕ) → k ≡ listings.Hash → ids ≡ g.pairs.items → givens.within (length p.nodes.items) g → PutsList p p (contents k (givens.tree p.nodes.items g)) ids
given_hash p listings.Hash g ids e same w = record {
  there = subst (λ (l : List ℕ). All (λ i. i < length p.nodes.items) l) (sym same) w.1;
  trees = ap (map (tree_at p.nodes.items)) same;
  kept = Extends-refl p.nodes.items;
  known = refl;
}
given_hash p _ g ids e same w = absurd cc
