-- Lists without one of their elements, and the nodes that they are of.
use Rattle.std.proofs.Common.{◌≡◌, ℕ, zero, suc, ◌+◌, List, [], ◌∷◌, ◌++◌, length, map, remove, slice_get, Some, None, IfSome, Contains, refl, ap, ◌∙◌, sym, subst, ⊎_elim}
use Rattle.std.proofs.lemmas.List.Elements.{Contains-append_left, Contains-append_right, Contains-append_cases}
use Rattle.std.proofs.lemmas.Option.{same_Some, none-some}
use Rattle.std.proofs.lemmas.List.{length-map}
use Rattle.rr_space.specs.Graph.{Object, array, hash}
use Rattle.rr_space.specs.Parts.{places_from, pairs_from, value_of, value_triple, below_ref, below_parts}
use Rattle.rr_space.specs.Views.{IsWithin, AllWithin, node_kind, node_parts, node_items, node_pairs, node_keys, entry_key, entry_pair}
use Rattle.rr_space.specs.Views.{placed_from, paired_from, pair_values}
use Rattle.rr_space.specs.declared.refer.Ref.{Ref}
use Rattle.rr_space.specs.declared.node.Node.{Node}
use Rattle.rr_space.specs.declared.node.Node.TheVariants.{Text, Array, Hash, Object as PlainObject, Exception}

pub map_remove : {A B : Type 0} (f : A → B) (xs : List A) (i : ℕ) → map f (remove xs i) ≡ remove (map f xs) i
map_remove f [] zero = refl
map_remove f [] (suc i) = refl
map_remove f (x ∷ xs) zero = refl
map_remove f (x ∷ xs) (suc i) = ap (λ ys. f x ∷ ys) (map_remove f xs i)

pub remove_past : {A : Type 0} (xs : List A) (i : ℕ) → slice_get xs i ≡ None → remove xs i ≡ xs
remove_past [] zero e = refl
remove_past [] (suc i) e = refl
remove_past (x ∷ xs) zero e = absurd (none-some x (sym e))
remove_past (x ∷ xs) (suc i) e = ap (λ ys. x ∷ ys) (remove_past xs i e)

-- arrays
pub values_placed : (rs : List Ref) (j : ℕ) → map value_triple (places_from j rs) ≡ placed_from j (map value_of rs)
values_placed [] j = refl
values_placed (r ∷ rs) j = ap (λ ts. placed_from j (value_of r ∷ []) ++ ts) (values_placed rs (j + 1))

pub places_without_within : (m : ℕ) (rs : List Ref) (i j k : ℕ) → AllWithin m (places_from j rs) → AllWithin m (places_from k (remove rs i))
places_without_within m [] zero j k all = tt
places_without_within m [] (suc i) j k all = tt
places_without_within m (r ∷ rs) zero j k all = moved rs (j + 1) k all.1
  where
    moved : (rs : List Ref) (j k : ℕ) → AllWithin m (places_from j rs) → AllWithin m (places_from k rs)
    moved [] j k all = tt
    moved (r ∷ rs) j k all = (all.0, moved rs (j + 1) (k + 1) all.1)
places_without_within m (r ∷ rs) (suc i) j k all = (all.0, places_without_within m rs i (j + 1) (k + 1) all.1)

pub place_within : (m : ℕ) (rs : List Ref) (i j : ℕ) (r : Ref) → AllWithin m (places_from j rs) → slice_get rs i ≡ Some r → IsWithin m r
place_within m [] i j r all at = absurd (none-some r at)
place_within m (x ∷ rs) zero j r all at = subst (IsWithin m) (same_Some x r at) all.0
place_within m (x ∷ rs) (suc i) j r all at = place_within m rs i (j + 1) r all.1 at

places_below : (rs : List Ref) (j k : ℕ) → below_parts (places_from j rs) ≡ below_parts (places_from k rs)
places_below [] j k = refl
places_below (r ∷ rs) j k = ap (λ bs. below_ref r ++ bs) (places_below rs (j + 1) (k + 1))

pub places_without_below : (rs : List Ref) (i j k : ℕ) (e : ℕ × List Object) → Contains (below_parts (places_from k (remove rs i))) e → Contains (below_parts (places_from j rs)) e
places_without_below [] zero j k e has = has
places_without_below [] (suc i) j k e has = has
places_without_below (r ∷ rs) zero j k e has = Contains-append_right (below_ref r) (below_parts (places_from (j + 1) rs)) e (subst (λ bs. Contains bs e) (places_below rs k (j + 1)) has)
places_without_below (r ∷ rs) (suc i) j k e has = ⊎_elim (λ q. Contains-append_left (below_ref r) (below_parts (places_from (j + 1) rs)) e q)
    (λ q. Contains-append_right (below_ref r) (below_parts (places_from (j + 1) rs)) e (places_without_below rs i (j + 1) (k + 1) e q))
    (Contains-append_cases (below_ref r) (below_parts (places_from (k + 1) (remove rs i))) e has)

-- hashes
pub values_paired : (ps : List (Ref × Ref)) (j : ℕ) → map value_triple (pairs_from j ps) ≡ paired_from j (map pair_values ps)
values_paired [] j = refl
values_paired (p ∷ ps) j = ap (λ ts. paired_from j (pair_values p ∷ []) ++ ts) (values_paired ps (j + 1))

pub pairs_without_within : (m : ℕ) (ps : List (Ref × Ref)) (i j k : ℕ) → AllWithin m (pairs_from j ps) → AllWithin m (pairs_from k (remove ps i))
pairs_without_within m [] zero j k all = tt
pairs_without_within m [] (suc i) j k all = tt
pairs_without_within m (p ∷ ps) zero j k all = moved ps (j + 1) k all.1.1
  where
    moved : (ps : List (Ref × Ref)) (j k : ℕ) → AllWithin m (pairs_from j ps) → AllWithin m (pairs_from k ps)
    moved [] j k all = tt
    moved (p ∷ ps) j k all = (all.0, (all.1.0, moved ps (j + 1) (k + 1) all.1.1))
pairs_without_within m (p ∷ ps) (suc i) j k all = (all.0, (all.1.0, pairs_without_within m ps i (j + 1) (k + 1) all.1.1))

pub pair_within : (m : ℕ) (ps : List (Ref × Ref)) (i j : ℕ) → AllWithin m (pairs_from j ps) → IfSome (slice_get ps i) (λ p. IsWithin m p.0 × IsWithin m p.1)
pair_within m [] i j all = tt
pair_within m (p ∷ ps) zero j all = (all.0, all.1.0)
pair_within m (p ∷ ps) (suc i) j all = pair_within m ps i (j + 1) all.1.1

pairs_below : (ps : List (Ref × Ref)) (j k : ℕ) → below_parts (pairs_from j ps) ≡ below_parts (pairs_from k ps)
pairs_below [] j k = refl
pairs_below (p ∷ ps) j k = ap (λ bs. below_ref p.0 ++ (below_ref p.1 ++ bs)) (pairs_below ps (j + 1) (k + 1))

pub pairs_without_below : (ps : List (Ref × Ref)) (i j k : ℕ) (e : ℕ × List Object) → Contains (below_parts (pairs_from k (remove ps i))) e → Contains (below_parts (pairs_from j ps)) e
pairs_without_below [] zero j k e has = has
pairs_without_below [] (suc i) j k e has = has
pairs_without_below (p ∷ ps) zero j k e has =
    let rest = below_parts (pairs_from (j + 1) ps) in
    Contains-append_right (below_ref p.0) (below_ref p.1 ++ rest) e (Contains-append_right (below_ref p.1) rest e (subst (λ bs. Contains bs e) (pairs_below ps k (j + 1)) has))
pairs_without_below (p ∷ ps) (suc i) j k e has =
    let rest = below_parts (pairs_from (j + 1) ps) in
    let less = below_parts (pairs_from (k + 1) (remove ps i)) in
    ⊎_elim (λ q. Contains-append_left (below_ref p.0) (below_ref p.1 ++ rest) e q)
    (λ q. Contains-append_right (below_ref p.0) (below_ref p.1 ++ rest) e
    (⊎_elim (λ w. Contains-append_left (below_ref p.1) rest e w) (λ w. Contains-append_right (below_ref p.1) rest e (pairs_without_below ps i (j + 1) (k + 1) e w)) (Contains-append_cases (below_ref p.1) less e q)))
    (Contains-append_cases (below_ref p.0) (below_ref p.1 ++ less) e has)

-- the references of arrays and hashes, by their elements and their pairs
pub array_parts : (a : Node) → node_kind a ≡ array → node_parts a ≡ places_from 0 (node_items a)
array_parts (Array items) e = refl
array_parts (Text b) e = absurd (let w : ⊥ = cc in w)
array_parts (Hash entries) e = absurd (let w : ⊥ = cc in w)
array_parts (PlainObject class fields) e = absurd (let w : ⊥ = cc in w)
array_parts (Exception class raised) e = absurd (let w : ⊥ = cc in w)

pub hash_parts : (a : Node) → node_kind a ≡ hash → node_parts a ≡ pairs_from 0 (node_pairs a)
hash_parts (Hash entries) e = refl
hash_parts (Text b) e = absurd (let w : ⊥ = cc in w)
hash_parts (Array items) e = absurd (let w : ⊥ = cc in w)
hash_parts (PlainObject class fields) e = absurd (let w : ⊥ = cc in w)
hash_parts (Exception class raised) e = absurd (let w : ⊥ = cc in w)

pub hash_count : (a : Node) → length (node_keys a) ≡ length (node_pairs a)
hash_count (Hash entries) = length-map entries.value.entries entry_key ∙ sym (length-map entries.value.entries entry_pair)
hash_count (Text b) = refl
hash_count (Array items) = refl
hash_count (PlainObject class fields) = refl
hash_count (Exception class raised) = refl

-- the values of an array without one of its elements
pub array_values : (a b : Node) (i : ℕ) → node_kind a ≡ array → node_kind b ≡ array → node_items b ≡ remove (node_items a) i
    → map value_triple (node_parts b) ≡ placed_from 0 (remove (map value_of (node_items a)) i)
array_values a b i ka kb e =
    ap (map value_triple) (array_parts b kb) ∙ values_placed (node_items b) 0 ∙ ap (λ rs. placed_from 0 (map value_of rs)) e
    ∙ ap (placed_from 0) (map_remove value_of (node_items a) i)

-- the values of a hash without one of its pairs
pub hash_values : (a b : Node) (i : ℕ) → node_kind a ≡ hash → node_kind b ≡ hash → node_pairs b ≡ remove (node_pairs a) i
    → map value_triple (node_parts b) ≡ paired_from 0 (remove (map pair_values (node_pairs a)) i)
hash_values a b i ka kb e =
    ap (map value_triple) (hash_parts b kb) ∙ values_paired (node_pairs b) 0 ∙ ap (λ ps. paired_from 0 (map pair_values ps)) e
    ∙ ap (paired_from 0) (map_remove pair_values (node_pairs a) i)
