-- What the code made of assignments to several targets, and of modifiers.
use Rattle.std.proofs.Common.{◌≡◌, ℕ, zero, suc, ◌<◌, Bool, true, false, List, [], ◌∷◌, ◌++◌, length, map, Some, None, Result, Ok, refl, sym, ap, ◌∙◌, subst, arith, cond, Err}
use Rattle.std.specs.Prelude.{All, IfOk}
use Rattle.std.specs.Borrow.{Bor}
use Rattle.rr_tree.specs.declared.node.Node.{Node}
use Rattle.rr_tree.specs.Tree.{Tree, multiple_assign, listed, tree_at}
use Rattle.rr_tree.specs.Nodes.{Extends, item, trees_in}
use Rattle.rr_tree.proofs.Growth.{tree_at-kept, Extends-refl, Extends-trans}
use Rattle.rr_parser.specs.declared.parser.Parser.{Parser}
use Rattle.rr_parser.specs.declared.refusal.Refusal.{Refusal}
use Rattle.rr_parser.specs.declared.refusal.Storage.{Storage}
use Rattle.rr_parser.specs.declared.variables.Variable.{Variable}
use Rattle.rr_parser.specs.declared.word.Modifier.{Modifier}
use Rattle.rr_parser.specs.declared.word.Target.{Target}
use Rattle.rr_parser.specs.declared.word.Word.{Word}
use Rattle.rr_parser.specs.Places.{Place, word, at}
use Rattle.rr_parser.specs.Grammar.Chains.{and_one}
use Rattle.rr_parser.specs.Grammar.Names.{told_behind, command}
use Rattle.rr_parser.specs.Grammar.Calls.{with_target, target_tree, target_variable, comma, is_settable}
use Rattle.rr_parser.specs.Grammar.Several.{plain_sign, assigned_to_several}
use Rattle.rr_parser.specs.Grammar.Sequences.{modified}
use Rattle.rr_parser.specs.Reading.Answers.{◌>>=◌, Answer, Parse, built, on_seen, chain_on, wrong}
use Rattle.rr_parser.specs.Reading.Nesting.{Readers}
use Rattle.rr_parser.specs.Reading.Calls.{argument_of, is_prefixed}
use Rattle.rr_parser.specs.Reading.Several.{word_target, targets_of, several_on, values_on, right_on, rights_at, rights_or, rights_of}
use Rattle.rr_parser.specs.Reading.Sequences.{expression_of, modifying_of}
use Rattle.rr_parser.specs.Reading.{readers_outside, readers}
use Rattle.rr_parser.specs.Meets.{nodes, lists, Made, Fails, Gives, Puts, Aims, place, known_of}
use Rattle.rr_parser.proofs.Making.{Goes, made_put, made_over, fails_bind, seen_at, unseen_at, gives_from, stable_nodes, kept_list}
use Rattle.rr_parser.proofs.Lists.{list_ok}

-- ---- targets

all_behind : (n a : ℕ) (xs : List ℕ) → a < n → All (λ i. i < n) xs → All (λ i. i < n) (a ∷ xs)
all_behind n a xs lt all zero d h = lt
all_behind n a xs lt all (suc k) d h = all k d (omega arith)

pub all_targets : (n a : ℕ) (xs ys : List ℕ) → ys ≡ a ∷ xs → a < n → All (λ i. i < n) xs → All (λ i. i < n) ys
all_targets n a xs ys e lt all = subst (λ (l : List ℕ). All (λ i. i < n) l) (sym e) (all_behind n a xs lt all)

-- the node over targets and a value
pub several_ok : (old mid new : Parser) (a : ℕ) (xs ys : List ℕ) (first count v : ℕ) (r : Result ℕ Storage) → ys ≡ a ∷ xs → a < length old.nodes.items → All (λ i. i < length old.nodes.items) xs → mid.nodes.items ≡ old.nodes.items ++ map item ys
    → mid.known ≡ old.known → first ≡ length old.nodes.items → count ≡ length ys → v < length old.nodes.items → IfOk r (λ id. Puts mid new (multiple_assign (listed (trees_in mid.nodes.items first count)) (tree_at mid.nodes.items v)) id)
    → IfOk r (λ id. Puts old new (assigned_to_several (tree_at old.nodes.items a ∷ map (tree_at old.nodes.items) xs) (tree_at old.nodes.items v)) id)
several_ok old mid new a xs ys first count v r is la all e k f c lt p =
    subst (λ (l : List ℕ). IfOk r (λ id. Puts old new (assigned_to_several (map (tree_at old.nodes.items) l) (tree_at old.nodes.items v)) id)) is
    (list_ok old mid new ys first count (λ l. multiple_assign l (tree_at old.nodes.items v)) r (all_targets (length old.nodes.items) a xs ys is la all) e k f c
    (subst (λ (u : Tree). IfOk r (λ id. Puts mid new (multiple_assign (listed (trees_in mid.nodes.items first count)) u) id)) (tree_at-kept old.nodes.items mid.nodes.items v (map item ys, e) lt) p))

pub made_targeted : (old m1 new : Parser) (x : Target) (v : Variable) (k id : ℕ) (words : List Word) → k ≡ told_behind words → is_settable x (known_of old) ≡ true → Aims old m1 x v → Puts m1 new (target_tree x v k) id → Made nodes old new id words (word_target x (place old words))
unfolding word_target
made_targeted old m1 new x v k id words is b a p =
    made_put old m1 new id words (target_tree x v k) (word_target x (place old words))
    (ap (λ (c : Bool). cond c (Ok (target_tree x (target_variable x (with_target x (place old words))) (told_behind words), with_target x (place old words))) (Err wrong)) b
    ∙ ap (λ (q : Variable). Ok (target_tree x q (told_behind words), with_target x (place old words))) (ap (target_variable x) (sym (a.known words)) ∙ a.seen words)
    ∙ ap (λ (q : Place). Ok (target_tree x v (told_behind words), q)) (sym (a.known words))
    ∙ ap (λ (q : ℕ). Ok (target_tree x v q, place m1 words)) (sym is))
    (subst (λ (ns : List Node). Extends old.nodes.items ns) (sym a.nodes) (Extends-refl old.nodes.items)) p

-- more targets, the sign behind them, and their right side
pub made_several : (N : Readers) (old m1 m2 new : Parser) (a : ℕ) (es fs : List ℕ) (v id : ℕ) (words rest after left : List Word) → a < length old.nodes.items → fs ≡ es → Made (lists nodes) old m1 es rest (targets_of N (place old words))
    → word plain_sign rest ≡ Some (tt, after) → Made nodes m1 m2 v left (N.values (place m1 after)) → Puts m2 new (assigned_to_several (tree_at m2.nodes.items a ∷ map (tree_at m2.nodes.items) fs) (tree_at m2.nodes.items v)) id
    → Made nodes old new id left (several_on N (tree_at old.nodes.items a) (place old words))
unfolding several_on
made_several N old m1 m2 new a es fs v id words rest after left lt same m f k p =
    let ns = m2.nodes.items in
    let t = tree_at old.nodes.items a in
    let f1 : List Tree → Tree → Tree = λ l u. assigned_to_several (t ∷ l) u in
    made_put old m2 new id left (assigned_to_several (tree_at ns a ∷ map (tree_at ns) fs) (tree_at ns v)) (several_on N t (place old words))
    (ap (λ (q : Answer (List Tree)). q >>= λ l. on_seen (f1 l.0) N.values (at (word plain_sign) l.1)) m.tree
    ∙ ap (on_seen (f1 (map (tree_at m1.nodes.items) es)) N.values) (seen_at m1 (word plain_sign) rest after tt f)
    ∙ ap (built (f1 (map (tree_at m1.nodes.items) es))) k.tree
    ∙ ap (λ (l : List Tree). Ok (f1 l (tree_at ns v), place m2 left)) (sym (kept_list nodes stable_nodes m1.nodes.items ns es k.kept m.there) ∙ ap (map (tree_at ns)) (sym same))
    ∙ ap (λ (u : Tree). Ok (assigned_to_several (u ∷ map (tree_at ns) fs) (tree_at ns v), place m2 left)) (sym (tree_at-kept old.nodes.items ns a (Extends-trans old.nodes.items m1.nodes.items ns m.kept k.kept) lt)))
    (Extends-trans old.nodes.items m1.nodes.items ns m.kept k.kept) p

-- ---- the right side

pub values_begin : (N : Readers) (old : Parser) (first : ℕ) (es : List ℕ) (words : List Word) → first < length old.nodes.items → es ≡ first ∷ []
    → Goes (lists nodes) old old es (values_on N (tree_at old.nodes.items first ∷ []) (place old words)) (chain_on comma and_one (argument_of N) (map (tree_at old.nodes.items) es) (place old words))
unfolding values_on
values_begin N old first es words lt is = record {
  there = subst (λ (l : List ℕ). All (λ i. i < length old.nodes.items) l) (sym is) (lone (length old.nodes.items) first lt);
  kept = Extends-refl old.nodes.items;
  same = ap (λ (l : List ℕ). chain_on comma and_one (argument_of N) (map (tree_at old.nodes.items) l) (place old words)) (sym is);
}
  where
    lone : (n i : ℕ) → i < n → All (λ j. j < n) (i ∷ [])
    lone n i h zero d lt = h
    lone n i h (suc k) d lt = let never : ⊥ = omega arith in absurd never

rights_outside : (d : ℕ) → (readers false d).values ≡ rights_of (readers true d)
unfolding readers_outside
rights_outside zero = refl
rights_outside (suc d) = refl

pub gives_rights_outside : (old new : Parser) (r : Result (ℕ × Bor (List Word)) Refusal) (b : Bool) (d : ℕ) (s : Place) → b ≡ false → Gives old new r (rights_of (readers true d) s) → Gives old new r ((readers b d).values s)
gives_rights_outside old new r true d s e g = absurd cc
gives_rights_outside old new r false d s e g = subst (λ (p : Parse Tree). Gives old new r (p s)) (sym (rights_outside d)) g

-- an argument that begins with no operand, and what stands behind it
pub gives_rights_prefixed : (N : Readers) (old mid new : Parser) (a : ℕ) (words rest : List Word) (b : Bool) (r : Result (ℕ × Bor (List Word)) Refusal) → command (known_of old) words ≡ None → b ≡ is_prefixed words → b ≡ true
    → Made nodes old mid a rest (argument_of N (place old words)) → Gives mid new r (right_on N (tree_at mid.nodes.items a) (place mid rest)) → Gives old new r (rights_of N (place old words))
unfolding rights_of
gives_rights_prefixed N old mid new a words rest b r none is so m g =
    let e : rights_of N (place old words) ≡ (argument_of N (place old words) >>= λ x. right_on N x.0 x.1) =
    ap (rights_or N (place old words)) (unseen_at old (command (known_of old)) words none) ∙ ap (λ (c : Bool). rights_at N c (place old words)) (sym is ∙ so) in
    subst (λ (q : Answer Tree). Gives old new r q) (sym e) (gives_from old mid new a rest (argument_of N (place old words)) (λ c s. right_on N c s) r m g)

-- ---- modifiers

pub made_modifying : (N : Readers) (old m1 new : Parser) (x : Modifier) (l c id : ℕ) (after rest : List Word) → l < length old.nodes.items → Made nodes old m1 c rest (expression_of N (place old after))
    → Puts m1 new (modified x (tree_at m1.nodes.items l) (tree_at m1.nodes.items c)) id → Made nodes old new id rest (modifying_of N x (tree_at old.nodes.items l) (place old after))
made_modifying N old m1 new x l c id after rest lt m p =
    made_over (modified x (tree_at old.nodes.items l)) m p (ap (λ (u : Tree). modified x u (tree_at m1.nodes.items c)) (tree_at-kept old.nodes.items m1.nodes.items l m.kept lt))

pub fails_modifying : (N : Readers) (old : Parser) (x : Modifier) (t : Tree) (after : List Word) (d : Refusal) → Fails d (expression_of N (place old after)) → Fails d (modifying_of N x t (place old after))
fails_modifying N old x t after d h = fails_bind d (expression_of N (place old after)) (λ q. Ok (modified x t q.0, q.1)) h
