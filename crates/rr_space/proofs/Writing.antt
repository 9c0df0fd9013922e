-- Nodes with other elements, and the tables that they are put into.
use Rattle.std.proofs.Common.{◌≡◌, ℕ, zero, suc, ◌+◌, ◌⊎◌, ⊎_elim, inl, inr, Bool, List, [], ◌∷◌, ◌++◌, length, map, slice_get, slice_set, Result, Ok, Err, IfOk, IfErr, Contains, sym, ap, ◌∙◌, refl, arith}
use Rattle.std.proofs.lemmas.List.{length-map}
use Rattle.std.proofs.lemmas.List.Elements.{Contains-append_left, Contains-append_right, Contains-append_cases}
use Rattle.rr_space.specs.Graph.{Label, Place, Value, Object}
use Rattle.rr_space.specs.Tables.{Here, Table}
use Rattle.rr_space.specs.Parts.{Parts, places_from, value_of, value_triple, below_ref, below_parts}
use Rattle.rr_space.specs.Views.{node_kind, node_class, node_parts, node_object, StandsAt, IsWithin, AllWithin, IsHeadKept, slot_object}
use Rattle.rr_space.specs.Kinds.{kind_at, kind_named, object_kind}
use Rattle.rr_space.specs.Labels.{triples_at, triples_of}
use Rattle.rr_space.specs.declared.refer.Ref.{Ref}
use Rattle.rr_space.specs.declared.refer.Ref.TheVariants.{Local}
use Rattle.rr_space.specs.declared.node.Node.{Node}
use Rattle.rr_space.specs.declared.node.Held.TheVariants.{Whole}
use Rattle.rr_space.proofs.Listing.{length-places_from}
use Rattle.rr_space.proofs.Placing.{map_set}

pub places_set : (rs : List Ref) (j k : ℕ) (r : Ref) → places_from j (slice_set rs k r) ≡ slice_set (places_from j rs) k (Place (j + k), r)
places_set [] j k r = refl
places_set (x ∷ rs) j zero r = ap (λ n. (Place n, r) ∷ places_from (j + 1) rs) (let z : j ≡ j + 0 = omega arith in z)
places_set (x ∷ rs) j (suc k) r = ap (λ ts. (Place j, x) ∷ ts) (places_set rs (j + 1) k r ∙ ap (λ n. slice_set (places_from (j + 1) rs) k (Place n, r)) (let z : (j + 1) + k ≡ j + suc k = omega arith in z))

pub places_push : (rs : List Ref) (j : ℕ) (r : Ref) → places_from j (rs ++ r ∷ []) ≡ places_from j rs ++ (Place (j + length rs), r) ∷ []
places_push [] j r = ap (λ n. (Place n, r) ∷ []) (let z : j ≡ j + 0 = omega arith in z)
places_push (x ∷ rs) j r = ap (λ ts. (Place j, x) ∷ ts) (places_push rs (j + 1) r ∙ ap (λ n. places_from (j + 1) rs ++ (Place n, r) ∷ []) (let z : (j + 1) + length rs ≡ j + suc (length rs) = omega arith in z))

pub map_push : {A B : Type 0} (f : A → B) (xs : List A) (x : A) → map f (xs ++ x ∷ []) ≡ map f xs ++ f x ∷ []
map_push f [] x = refl
map_push f (y ∷ xs) x = ap (λ ys. f y ∷ ys) (map_push f xs x)

pub map_push_two : {A B : Type 0} (f : A → B) (xs : List A) (x y : A) → map f (xs ++ x ∷ y ∷ []) ≡ map f xs ++ f x ∷ f y ∷ []
map_push_two f [] x y = refl
map_push_two f (z ∷ xs) x y = ap (λ ys. f z ∷ ys) (map_push_two f xs x y)

pub parts_set : (k : ℕ) (ts : Parts) (p : ℕ) (t : Label × Ref) → AllWithin k ts → IsWithin k t.1 → AllWithin k (slice_set ts p t)
parts_set k [] p t all w = tt
parts_set k (x ∷ ts) zero t all w = (w, all.1)
parts_set k (x ∷ ts) (suc p) t all w = (all.0, parts_set k ts p t all.1 w)

pub parts_push : (k : ℕ) (ts : Parts) (t : Label × Ref) → AllWithin k ts → IsWithin k t.1 → AllWithin k (ts ++ t ∷ [])
parts_push k [] t all w = (w, tt)
parts_push k (x ∷ ts) t all w = (all.0, parts_push k ts t all.1 w)

pub below_set : (ts : Parts) (p : ℕ) (t : Label × Ref) (e : ℕ × List Object) → Contains (below_parts (slice_set ts p t)) e → Contains (below_parts ts) e ⊎ Contains (below_ref t.1) e
below_set [] p t e has = inl has
below_set (x ∷ ts) zero t e has = ⊎_elim (λ q. inr q) (λ q. inl (Contains-append_right (below_ref x.1) (below_parts ts) e q)) (Contains-append_cases (below_ref t.1) (below_parts ts) e has)
below_set (x ∷ ts) (suc p) t e has = ⊎_elim (λ q. inl (Contains-append_left (below_ref x.1) (below_parts ts) e q))
    (λ q. ⊎_elim (λ r. inl (Contains-append_right (below_ref x.1) (below_parts ts) e r)) (λ r. inr r) (below_set ts p t e q)) (Contains-append_cases (below_ref x.1) (below_parts (slice_set ts p t)) e has)

pub below_push : (ts : Parts) (t : Label × Ref) (e : ℕ × List Object) → Contains (below_parts (ts ++ t ∷ [])) e → Contains (below_parts ts) e ⊎ Contains (below_ref t.1) e
below_push [] t e has = ⊎_elim (λ q. inr q) (λ q. inl q) (Contains-append_cases (below_ref t.1) [] e has)
below_push (x ∷ ts) t e has = ⊎_elim (λ q. inl (Contains-append_left (below_ref x.1) (below_parts ts) e q))
    (λ q. ⊎_elim (λ r. inl (Contains-append_right (below_ref x.1) (below_parts ts) e r)) (λ r. inr r) (below_push ts t e q)) (Contains-append_cases (below_ref x.1) (below_parts (ts ++ t ∷ [])) e has)

pub kind_is : (t : Table) (n : ℕ) (node : Node) (f : Bool) → StandsAt t n (Whole f node) → kind_at t (Local n) ≡ kind_named (node_kind node)
kind_is t n node f s = ap (λ x. object_kind (slot_object x (slice_get t.below n))) s.slot

pub triples_is : (t : Table) (n : ℕ) (v : Ref) (node : Node) (f : Bool) → v ≡ Local n → StandsAt t n (Whole f node) → triples_at t v ≡ map value_triple (node_parts node)
triples_is t n v node f is s = ap (triples_at t) is ∙ ap (λ x. triples_of (slot_object x (slice_get t.below n))) s.slot

-- a node whose references were changed, seen as an object
pub object_by_parts : (a b : Node) (f : Bool) (ts : List (Label × Value)) → IsHeadKept a b → map value_triple (node_parts b) ≡ ts → Here (node_object b f) ≡ Here (record (node_object a f) { triples = ts })
object_by_parts a b f ts h e =
    ap (λ k. Here (record (node_object b f) { kind = k })) h.kind
    ∙ ap (λ k. Here (record (node_object b f) { kind = node_kind a; class = k })) h.class
    ∙ ap (λ k. Here (record (node_object b f) { kind = node_kind a; class = node_class a; bytes = k })) h.bytes
    ∙ ap (λ k. Here (record (node_object a f) { triples = k })) e

pub set_values : (a b : Node) (p : ℕ) (v : Ref) → node_parts b ≡ slice_set (node_parts a) p (Place p, v) → map value_triple (node_parts b) ≡ slice_set (map value_triple (node_parts a)) p (Place p, value_of v)
set_values a b p v e = ap (map value_triple) e ∙ map_set value_triple (node_parts a) p (Place p, v)

pub push_values : (a b : Node) (v : Ref) → node_parts b ≡ node_parts a ++ (Place (length (node_parts a)), v) ∷ []
    → map value_triple (node_parts b) ≡ map value_triple (node_parts a) ++ (Place (length (map value_triple (node_parts a))), value_of v) ∷ []
push_values a b v e =
    ap (map value_triple) e ∙ map_push value_triple (node_parts a) (Place (length (node_parts a)), v)
    ∙ ap (λ n. map value_triple (node_parts a) ++ (Place n, value_of v) ∷ []) (sym (length-map (node_parts a) value_triple))

pub pushed_parts : (items : List Ref) (r : Ref) (new : List Ref) → new ≡ items ++ r ∷ [] → places_from 0 new ≡ places_from 0 items ++ (Place (length (places_from 0 items)), r) ∷ []
pushed_parts items r new e =
    ap (places_from 0) e ∙ places_push items 0 r
    ∙ ap (λ n. places_from 0 items ++ (Place n, r) ∷ []) (let z : 0 + length items ≡ length (places_from 0 items) = omega (arith, length-places_from items 0) in z)

pub changed_parts : (items : List Ref) (k : ℕ) (r : Ref) (new : List Ref) → new ≡ slice_set items k r → places_from 0 new ≡ slice_set (places_from 0 items) k (Place k, r)
changed_parts items k r new e = ap (places_from 0) e ∙ places_set items 0 k r ∙ ap (λ n. slice_set (places_from 0 items) k (Place n, r)) (let z : 0 + k ≡ k = omega arith in z)

pub on_ok : {A E : Type 0} (r : Result A E) (P Q : Type 0) → (P → Q) → IfOk r (λ _. P) → IfOk r (λ _. Q)
on_ok (Ok a) P Q f h = f h
on_ok (Err e) P Q f h = tt

pub on_err : {A E : Type 0} (r : Result A E) (P Q : Type 0) → (P → Q) → IfErr r (λ _. P) → IfErr r (λ _. Q)
on_err (Ok a) P Q f h = tt
on_err (Err e) P Q f h = f h

pub either_way : {A E : Type 0} (r : Result A E) (P Q R : Type 0) → IfOk r (λ _. P) → IfErr r (λ _. Q) → (P → R) → (Q → R) → R
either_way (Ok a) P Q R p q f g = f p
either_way (Err e) P Q R p q f g = g q
