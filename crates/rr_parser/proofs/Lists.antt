-- Lists and branches of nodes, put one after another.
use Rattle.std.proofs.Common.{◌≡◌, ℕ, ◌+◌, ◌<◌, ◌≤◌, List, [], ◌∷◌, ◌++◌, length, get_or, take, map, sym, ap, ◌∙◌, subst, arith, length-append, append_assoc}
use Rattle.std.specs.Prelude.{All, IfOk, Result, Ok, Err}
use Rattle.std.proofs.lemmas.List.{map-append, take_more, get_or_append_left, length-map}
use Rattle.std.proofs.Math.Seq.{get_or-append_seam}
use Rattle.rr_tree.specs.declared.node.Node.{Node}
use Rattle.rr_tree.specs.Tree.{Tree, Trees, listed, choose, send, tree_at}
use Rattle.rr_tree.specs.Nodes.{Extends, item, trees_in}
use Rattle.rr_tree.proofs.Growth.{trees_in-items, tree_at-kept, Extends-trans, length-kept}
use Rattle.rr_parser.specs.declared.refusal.Storage.{Storage}
use Rattle.rr_parser.specs.declared.parser.Parser.{Parser}
use Rattle.rr_parser.specs.declared.word.Passing.{Passing}
use Rattle.rr_parser.specs.Grammar.Names.{passed}
use Rattle.rr_parser.specs.Grammar.Control.{chosen}
use Rattle.rr_parser.specs.Meets.{pairs, Puts}
use Rattle.rr_parser.proofs.Choosing.{chosen-append}

pub below_more_nodes : (i : ℕ) (old new xs : List Node) → new ≡ old ++ xs → i < length old → i < length new
below_more_nodes i old new xs e lt = omega (arith, ap length e, length-append old xs)

-- what stood before items were put, and the items
pub below_items : (i : ℕ) (old new : List Node) (ids : List ℕ) → new ≡ old ++ map item ids → i < length old → i < length new
below_items i old new ids e lt = below_more_nodes i old new (map item ids) e lt

pub items_within : (old new : List Node) (ids : List ℕ) (first count : ℕ) → new ≡ old ++ map item ids → first ≡ length old → count ≡ length ids → first + count ≤ length new
items_within old new ids first count e f g = omega (arith, f, g, ap length e, length-append old (map item ids), length-map ids item)

-- one item more
pub items_more : (old s0 s1 : List Node) (xs : List ℕ) (i : ℕ) → i < length xs → s0 ≡ old ++ map item (take i xs) → s1 ≡ s0 ++ item (get_or xs i 0) ∷ [] → s1 ≡ old ++ map item (take (i + 1) xs)
items_more old s0 s1 xs i lt e f =
    f
    ∙ ap (λ (l : List Node). l ++ item (get_or xs i 0) ∷ []) e
    ∙ append_assoc old (map item (take i xs)) (item (get_or xs i 0) ∷ [])
    ∙ ap (λ (l : List Node). old ++ l) (sym (map-append item (take i xs) (get_or xs i 0 ∷ [])))
    ∙ ap (λ (l : List ℕ). old ++ map item l) (sym (take_more xs i 0 lt))

-- the node of a list whose items stand side by side before it
pub list_put : (old mid new : Parser) (xs : List ℕ) (first count id : ℕ) (f : Trees → Tree) → All (λ i. i < length old.nodes.items) xs → mid.nodes.items ≡ old.nodes.items ++ map item xs → mid.known ≡ old.known
    → first ≡ length old.nodes.items → count ≡ length xs → Puts mid new (f (listed (trees_in mid.nodes.items first count))) id → Puts old new (f (listed (map (tree_at old.nodes.items) xs))) id
list_put old mid new xs first count id f all e k a b p = record {
  there = p.there;
  tree =
      p.tree
      ∙ ap (λ (ns : List Node). f (listed (trees_in ns first count))) e
      ∙ ap (λ (i : ℕ). f (listed (trees_in (old.nodes.items ++ map item xs) i count))) a
      ∙ ap (λ (n : ℕ). f (listed (trees_in (old.nodes.items ++ map item xs) (length old.nodes.items) n))) b
      ∙ ap (λ (l : List Tree). f (listed l)) (trees_in-items old.nodes.items xs all);
  kept = Extends-trans old.nodes.items mid.nodes.items new.nodes.items (map item xs, e) p.kept;
  known = p.known ∙ k;
}

-- ---- branches

pub last_within : (n : ℕ) (bs cs : List (ℕ × ℕ)) (c t : ℕ) → bs ≡ cs ++ (c, t) ∷ [] → All (pairs.within n) bs → (c < n) × (t < n)
last_within n bs cs c t e all =
    let at : All (pairs.within n) (cs ++ (c, t) ∷ []) = subst (λ (l : List (ℕ × ℕ)). All (pairs.within n) l) e all in
    subst (λ (p : ℕ × ℕ). pairs.within n p) (get_or-append_seam cs (c, t) [] (c, t)) (at (length cs) (c, t) (omega (arith, length-append cs ((c, t) ∷ []))))

pub front_within : (n : ℕ) (bs cs : List (ℕ × ℕ)) (c t : ℕ) → bs ≡ cs ++ (c, t) ∷ [] → All (pairs.within n) bs → All (pairs.within n) cs
front_within n bs cs c t e all =
    let at : All (pairs.within n) (cs ++ (c, t) ∷ []) = subst (λ (l : List (ℕ × ℕ)). All (pairs.within n) l) e all in
    λ k d lt. subst (λ (p : ℕ × ℕ). pairs.within n p) (get_or_append_left cs ((c, t) ∷ []) d k lt) (at k d (omega (arith, length-append cs ((c, t) ∷ []))))

pub choices_on : (old s0 s1 : Parser) (bs cs : List (ℕ × ℕ)) (c t e id : ℕ) (all_of : Tree) → bs ≡ cs ++ (c, t) ∷ [] → All (pairs.within (length old.nodes.items)) bs → Extends old.nodes.items s0.nodes.items
    → Puts s0 s1 (choose (tree_at s0.nodes.items c) (tree_at s0.nodes.items t) (tree_at s0.nodes.items e)) id
    → chosen (map (pairs.tree old.nodes.items) bs) (tree_at s0.nodes.items e) ≡ all_of → chosen (map (pairs.tree old.nodes.items) cs) (tree_at s1.nodes.items id) ≡ all_of
choices_on old s0 s1 bs cs c t e id all_of is all x p g =
    let ns : List Node = old.nodes.items in
    let w : (c < length ns) × (t < length ns) = last_within (length ns) bs cs c t is all in
    let last : Tree = tree_at s0.nodes.items e in
    ap (chosen (map (pairs.tree ns) cs))
    (p.tree ∙ ap (λ (u : Tree). choose u (tree_at s0.nodes.items t) last) (tree_at-kept ns s0.nodes.items c x w.0) ∙ ap (λ (u : Tree). choose (tree_at ns c) u last) (tree_at-kept ns s0.nodes.items t x w.1))
    ∙ sym (chosen-append (map (pairs.tree ns) cs) (pairs.tree ns (c, t)) last)
    ∙ ap (λ (l : List (Tree × Tree)). chosen l last) (sym (map-append (pairs.tree ns) cs ((c, t) ∷ [])) ∙ ap (map (pairs.tree ns)) (sym is))
    ∙ g

pub choices_end : (old new : List Node) (bs : List (ℕ × ℕ)) (id : ℕ) (all_of : Tree) → length bs ≡ 0 → chosen (map (pairs.tree old) bs) (tree_at new id) ≡ all_of → tree_at new id ≡ all_of
choices_end old new [] id all_of e g = g
choices_end old new (b ∷ bs) id all_of e g = let never : ⊥ = omega arith in absurd never

pub choices_put : (old s0 s1 : Parser) (bs cs : List (ℕ × ℕ)) (c t e : ℕ) → bs ≡ cs ++ (c, t) ∷ [] → All (pairs.within (length old.nodes.items)) bs → Extends old.nodes.items s0.nodes.items → e < length s0.nodes.items
    → (c < length s0.nodes.items) × (t < length s0.nodes.items) × (e < length s0.nodes.items)
choices_put old s0 s1 bs cs c t e is all x lt =
    let w : (c < length old.nodes.items) × (t < length old.nodes.items) = last_within (length old.nodes.items) bs cs c t is all in
    let le : length old.nodes.items ≤ length s0.nodes.items = length-kept old.nodes.items s0.nodes.items x in
    (omega (arith, w.0), omega (arith, w.1), lt)

pub list_ok : (old mid new : Parser) (xs : List ℕ) (first count : ℕ) (f : Trees → Tree) (r : Result ℕ Storage) → All (λ i. i < length old.nodes.items) xs → mid.nodes.items ≡ old.nodes.items ++ map item xs → mid.known ≡ old.known
    → first ≡ length old.nodes.items → count ≡ length xs → IfOk r (λ id. Puts mid new (f (listed (trees_in mid.nodes.items first count))) id) → IfOk r (λ id. Puts old new (f (listed (map (tree_at old.nodes.items) xs))) id)
list_ok old mid new xs first count f (Ok id) all e k a b p = list_put old mid new xs first count id f all e k a b p
list_ok old mid new xs first count f (Err d) all e k a b p = tt

-- the node of a call, whose arguments stand side by side before it
pub send_ok : (old mid new : Parser) (xs : List ℕ) (first count r : ℕ) (x : ℕ) (o : Result ℕ Storage) → r < length old.nodes.items → All (λ i. i < length old.nodes.items) xs → mid.nodes.items ≡ old.nodes.items ++ map item xs → mid.known ≡ old.known
    → first ≡ length old.nodes.items → count ≡ length xs → IfOk o (λ id. Puts mid new (send (tree_at mid.nodes.items r) x (listed (trees_in mid.nodes.items first count))) id)
    → IfOk o (λ id. Puts old new (send (tree_at old.nodes.items r) x (listed (map (tree_at old.nodes.items) xs))) id)
send_ok old mid new xs first count r x o lt all e k a b p =
    list_ok old mid new xs first count (send (tree_at old.nodes.items r) x) o all e k a b
    (subst (λ (u : Tree). IfOk o (λ id. Puts mid new (send u x (listed (trees_in mid.nodes.items first count))) id)) (tree_at-kept old.nodes.items mid.nodes.items r (map item xs, e) lt) p)

-- the node of what passes arguments on, which stand side by side before it
pub passed_ok : (old mid new : Parser) (xs : List ℕ) (first count : ℕ) (p q : Passing) (r : Result ℕ Storage) → q ≡ p → All (λ i. i < length old.nodes.items) xs → mid.nodes.items ≡ old.nodes.items ++ map item xs → mid.known ≡ old.known
    → first ≡ length old.nodes.items → count ≡ length xs → IfOk r (λ id. Puts mid new (passed p (listed (trees_in mid.nodes.items first count))) id) → IfOk r (λ id. Puts old new (passed q (listed (map (tree_at old.nodes.items) xs))) id)
passed_ok old mid new xs first count p q r is all e k a b h =
    list_ok old mid new xs first count (passed q) r all e k a b
    (subst (λ (y : Passing). IfOk r (λ id. Puts mid new (passed y (listed (trees_in mid.nodes.items first count))) id)) (sym is) h)
