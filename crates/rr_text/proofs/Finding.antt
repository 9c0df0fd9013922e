-- Keys of hashes, and which pair has one.
use Rattle.std.proofs.Common.{◌≡◌, ◌∙◌, ◌<◌, ℕ, zero, suc, ◌+◌, ◌*◌, Bool, true, false, not, if◌then◌else◌, List, [], ◌∷◌, length, map, get_or, slice_get, Contains, Option, Some, None, MatchOption, IfSome, refl, sym, ap, arith}
use Rattle.std.specs.Option.{option_map}
use Rattle.std.proofs.lemmas.Bool.{false≢true}
use Rattle.std.proofs.lemmas.Option.{none-some, same_Some, slice_get-map, slice_get-get_or, slice_get_within}
use Rattle.std.proofs.lemmas.Slice.Eq.{bytes_eq-Decides}
use Rattle.rr_space.specs.Graph.{Value, Label, At, Published, Object, Kind, text, array, hash, plain, exception, shell}
use Rattle.rr_space.specs.Tables.{Table, Slot, Here, Led, Below, HashKey, PlainKey, TextKey, graph_of, resolve, resolve_slot, resolve_object}
use Rattle.rr_space.specs.Sound.{IsTableSound, IsWell}
use Rattle.rr_space.specs.Parts.{value_of}
use Rattle.rr_space.specs.Views.{object_at, keys_at, keys_here, slot_object, is_whole, is_shell, can_freeze_at, IsFirstAt}
use Rattle.rr_space.specs.Lookups.{key_at, key_of_frozen}
use Rattle.rr_space.specs.Kinds.{kind_at, kind_named, object_kind}
use Rattle.rr_space.specs.Labels.{IsPairThere}
use Rattle.rr_space.specs.declared.kind.Kind.TheVariants as kind
use Rattle.rr_space.specs.declared.refer.Ref.{Ref}
use Rattle.rr_space.specs.declared.refer.Ref.TheVariants.{Nil, False, True, Int, Symbol, Class, Ractor, Local, Shared}
use Rattle.rr_text.specs.Reads.{IsReadWith, IsAmong}
use Rattle.rr_text.specs.Keys.{same_key, place_among, key_in, own_keys, keys_or, pairs_in, hash_keys}
use Rattle.rr_text.specs.Same.{triples_in}
use Rattle.rr_text.proofs.Same.{immediates_are, immediate_is}
use Rattle.rr_text.proofs.Seeing.{seen}

-- ---- Keys.

key_same : (key : HashKey) (k : Option HashKey) → same_key key k ≡ true → k ≡ Some key
key_same (PlainKey i) (Some (PlainKey j)) e = ap (λ x. Some (PlainKey x)) (sym (immediates_are i j e))
key_same (TextKey a) (Some (TextKey b)) e = ap (λ x. Some (TextKey x)) (sym ((bytes_eq-Decides a b).0 e))
key_same (PlainKey i) (Some (TextKey b)) e = absurd (false≢true e)
key_same (TextKey a) (Some (PlainKey j)) e = absurd (false≢true e)
key_same (PlainKey i) None e = absurd (false≢true e)
key_same (TextKey a) None e = absurd (false≢true e)

key_itself : (key : HashKey) → same_key key (Some key) ≡ true
key_itself (PlainKey i) = immediate_is i
key_itself (TextKey a) = (bytes_eq-Decides a a).1 refl

key_here : (key : HashKey) (k : Option HashKey) → k ≡ Some key → same_key key k ≡ true
key_here key k e = ap (same_key key) e ∙ key_itself key

other_key : (key : HashKey) (k : Option HashKey) → (k ≡ Some key → ⊥) → same_key key k ≡ false
other_key key k out = by (same_key key k) refl
  where
    by : (b : Bool) → same_key key k ≡ b → b ≡ false
    by true e = absurd (out (key_same key k e))
    by false e = refl

-- the first place at which the list has the key; none where it is nowhere
abbrev pub IsPlaceOf : HashKey → List (Option HashKey) → Option ℕ → Type 0
IsPlaceOf key ks r = MatchOption r ((i : ℕ) → slice_get ks i ≡ Some (Some key) → ⊥) (λ i. (slice_get ks i ≡ Some (Some key)) × ((j : ℕ) → j < i → slice_get ks j ≡ Some (Some key) → ⊥))

chosen : (key : HashKey) (k : Option HashKey) (ks : List (Option HashKey)) (b : Bool) → same_key key k ≡ b → place_among key (k ∷ ks) ≡ (if b then Some 0 else option_map (λ i. suc i) (place_among key ks))
chosen key k ks b e = ap (λ c. if c then Some 0 else option_map (λ i. suc i) (place_among key ks)) e

pub place_is : (key : HashKey) (ks : List (Option HashKey)) (r : Option ℕ) → IsPlaceOf key ks r → r ≡ place_among key ks
place_is key [] None h = refl
place_is key [] (Some i) h = absurd (none-some (Some key) h.0)
place_is key (k ∷ ks) None h =
    ap (option_map (λ i. suc i)) (place_is key ks None (λ i at. h (suc i) at)) ∙ sym (chosen key k ks false (other_key key k (λ e. h 0 (ap (λ x. Some x) e))))
place_is key (k ∷ ks) (Some zero) h = sym (chosen key k ks true (key_here key k (same_Some k (Some key) h.0)))
place_is key (k ∷ ks) (Some (suc i)) h =
    ap (option_map (λ i. suc i)) (place_is key ks (Some i) (h.0, λ j lt at. h.1 (suc j) (omega (arith, lt)) at))
    ∙ sym (chosen key k ks false (other_key key k (λ e. h.1 0 (omega arith) (ap (λ x. Some x) e))))

some_of : {A : Type 0} (x : Option A) (y : A) → option_map (λ (k : A). Some k) x ≡ Some (Some y) → x ≡ Some y
some_of None y e = absurd (none-some (Some y) e)
some_of (Some x) y e = ap (λ z. Some z) (same_Some x y (same_Some (Some x) (Some y) e))

-- what is found among keys
pub place_of_keys : (key : HashKey) (ks : List HashKey) (r : Option ℕ) → MatchOption r (Contains ks key → ⊥) (IsFirstAt ks key) → r ≡ place_among key (map (λ k. Some k) ks)
place_of_keys key ks r h = place_is key (map (λ k. Some k) ks) r (by r h)
  where
    back : (i : ℕ) → slice_get (map (λ k. Some k) ks) i ≡ Some (Some key) → slice_get ks i ≡ Some key
    back i at = some_of (slice_get ks i) key (sym (slice_get-map (λ k. Some k) ks i) ∙ at)

    by : (r : Option ℕ) → MatchOption r (Contains ks key → ⊥) (IsFirstAt ks key) → IsPlaceOf key (map (λ k. Some k) ks) r
    by None h = λ i at. h (let e = back i at in let lt = slice_get_within ks i key e in (i, lt, same_Some _ _ (sym (slice_get-get_or ks i key lt) ∙ e)))
    by (Some i) h = (slice_get-map (λ k. Some k) ks i ∙ ap (option_map (λ k. Some k)) h.here, λ j lt at. h.before j lt (back j at))

-- ---- A search from the front.

pub place_first : (key : HashKey) (ks : List (Option HashKey)) → place_among key ks ≡ option_map (λ i. 0 + i) (place_among key ks)
place_first key ks = by (place_among key ks)
  where
    by : (o : Option ℕ) → o ≡ option_map (λ i. 0 + i) o
    by None = refl
    by (Some i) = ap (λ j. Some j) (let z : i ≡ 0 + i = omega arith in z)

pub place_found : (key : HashKey) (k : Option HashKey) (ks : List (Option HashKey)) (n : ℕ) → k ≡ Some key → option_map (λ i. n + i) (place_among key (k ∷ ks)) ≡ Some n
place_found key k ks n e =
    ap (option_map (λ i. n + i)) (chosen key k ks true (key_here key k e)) ∙ ap (λ i. Some i) (let z : n + 0 ≡ n = omega arith in z)

pub place_later : (key : HashKey) (k : Option HashKey) (ks : List (Option HashKey)) (n : ℕ) → (k ≡ Some key → ⊥)
    → option_map (λ i. n + i) (place_among key (k ∷ ks)) ≡ option_map (λ i. (n + 1) + i) (place_among key ks)
place_later key k ks n out = ap (option_map (λ i. n + i)) (chosen key k ks false (other_key key k out)) ∙ by (place_among key ks)
  where
    by : (o : Option ℕ) → option_map (λ i. n + i) (option_map (λ i. suc i) o) ≡ option_map (λ i. (n + 1) + i) o
    by None = refl
    by (Some i) = ap (λ i. Some i) (let z : n + suc i ≡ (n + 1) + i = omega arith in z)

-- ---- Keys that references are.

frozen_resolved : (slots : List Slot) (o : Option Object) → key_of_frozen (option_map (resolve_object slots) o) ≡ key_of_frozen o
frozen_resolved slots None = refl
frozen_resolved slots (Some o) = refl

-- the key that a reference is, is that of its value in the graph
pub key_seen : (t : Table) (below : Below) (r : Ref) → IsTableSound t.slots t.below → IsReadWith t below → IsAmong below r → key_in (graph_of t.slots below) (resolve t.slots (value_of r)) ≡ key_at t r
key_seen t below Nil sound read among = refl
key_seen t below False sound read among = refl
key_seen t below True sound read among = refl
key_seen t below (Int z) sound read among = refl
key_seen t below (Symbol s) sound read among = refl
key_seen t below (Class c) sound read among = refl
key_seen t below (Ractor c) sound read among = refl
key_seen t below (Local m) sound read among =
    ap key_of_frozen (seen t below (Local m) (resolve_slot (slice_get t.slots m) m) sound read among refl) ∙ frozen_resolved t.slots (object_at t (Local m))
key_seen t below (Shared p c) sound read among =
    ap key_of_frozen (seen t below (Shared p c) (Published c.now.number p) sound read among refl) ∙ frozen_resolved t.slots (object_at t (Shared p c))

-- ---- Hashes of the space and published ones.

pub listed_keys : (t : Table) (v : Ref) → IsWell t → can_freeze_at t v ≡ true → (ks : List HashKey) × (keys_at t v ≡ Some ks)
listed_keys t (Local n) well h = by (slice_get t.slots n) refl h
  where
    by : (s : Option Slot) → slice_get t.slots n ≡ s → is_whole s ≡ true → (ks : List HashKey) × (keys_at t (Local n) ≡ Some ks)
    by (Some (Here o)) at h =
        let lt = slice_get_within t.slots n (Here o) at in
        (get_or t.keys n [], ap (λ s. keys_here s (slice_get t.keys n)) at ∙ slice_get-get_or t.keys n [] (omega (arith, lt, well.keyed.count)))
    by (Some (Led c p)) at h = absurd (false≢true h)
    by None at h = absurd (false≢true h)
listed_keys t Nil well h = absurd (false≢true h)
listed_keys t False well h = absurd (false≢true h)
listed_keys t True well h = absurd (false≢true h)
listed_keys t (Int z) well h = absurd (false≢true h)
listed_keys t (Symbol s) well h = absurd (false≢true h)
listed_keys t (Class c) well h = absurd (false≢true h)
listed_keys t (Ractor c) well h = absurd (false≢true h)
listed_keys t (Shared p c) well h = absurd (false≢true h)

-- the keys that the space has for a hash are those of the hash that the value is
own_value : (t : Table) (v : Ref) (ks : List HashKey) → keys_at t v ≡ Some ks → own_keys t (resolve t.slots (value_of v)) ≡ Some ks
own_value t (Local n) ks e = by (slice_get t.slots n) refl
  where
    by : (s : Option Slot) → slice_get t.slots n ≡ s → own_keys t (At (resolve_slot (slice_get t.slots n) n)) ≡ Some ks
    by (Some (Here o)) at = ap (λ s. own_keys t (At (resolve_slot s n))) at ∙ e
    by (Some (Led c p)) at = absurd (none-some ks (sym (ap (λ s. keys_here s (slice_get t.keys n)) at) ∙ e))
    by None at = absurd (none-some ks (sym (ap (λ s. keys_here s (slice_get t.keys n)) at) ∙ e))
own_value t Nil ks e = absurd (none-some ks e)
own_value t False ks e = absurd (none-some ks e)
own_value t True ks e = absurd (none-some ks e)
own_value t (Int z) ks e = absurd (none-some ks e)
own_value t (Symbol s) ks e = absurd (none-some ks e)
own_value t (Class c) ks e = absurd (none-some ks e)
own_value t (Ractor c) ks e = absurd (none-some ks e)
own_value t (Shared p c) ks e = absurd (none-some ks e)

pub keys_of_own : (below : Below) (t : Table) (v : Ref) (ks : List HashKey) → keys_at t v ≡ Some ks → map (λ k. Some k) ks ≡ hash_keys below t (resolve t.slots (value_of v))
unfolding hash_keys
keys_of_own below t v ks e =
    let w = resolve t.slots (value_of v) in
    sym (ap (λ o. keys_or o (map (λ p. key_in (graph_of t.slots below) p.0) (pairs_in (triples_in (graph_of t.slots below) w)))) (own_value t v ks e))

whole_hash : (k : Kind) → kind_named k ≡ kind.Hash → not (is_shell k) ≡ false → ⊥
whole_hash text e f = cc
whole_hash array e f = cc
whole_hash hash e f = false≢true (sym f)
whole_hash plain e f = cc
whole_hash exception e f = cc
whole_hash shell e f = cc

no_keys : (t : Table) (v : Ref) → kind_at t v ≡ kind.Hash → can_freeze_at t v ≡ false → own_keys t (resolve t.slots (value_of v)) ≡ None
no_keys t (Local n) e h = by (slice_get t.slots n) refl h
  where
    by : (s : Option Slot) → slice_get t.slots n ≡ s → is_whole s ≡ false → own_keys t (At (resolve_slot (slice_get t.slots n) n)) ≡ None
    by (Some (Here o)) at h = absurd (whole_hash o.kind (sym (ap (λ s. object_kind (slot_object s (slice_get t.below n))) at) ∙ e) h)
    by (Some (Led c p)) at h = ap (λ s. own_keys t (At (resolve_slot s n))) at
    by None at h = ap (λ s. own_keys t (At (resolve_slot s n))) at ∙ ap (λ s. keys_here s (slice_get t.keys n)) at
no_keys t Nil e h = refl
no_keys t False e h = refl
no_keys t True e h = refl
no_keys t (Int z) e h = refl
no_keys t (Symbol s) e h = refl
no_keys t (Class c) e h = refl
no_keys t (Ractor c) e h = refl
no_keys t (Shared p c) e h = refl

pub keys_of_published : (below : Below) (t : Table) (v : Ref) → kind_at t v ≡ kind.Hash → can_freeze_at t v ≡ false
    → map (λ p. key_in (graph_of t.slots below) p.0) (pairs_in (triples_in (graph_of t.slots below) (resolve t.slots (value_of v)))) ≡ hash_keys below t (resolve t.slots (value_of v))
unfolding hash_keys
keys_of_published below t v e h =
    let w = resolve t.slots (value_of v) in
    sym (ap (λ o. keys_or o (map (λ p. key_in (graph_of t.slots below) p.0) (pairs_in (triples_in (graph_of t.slots below) w)))) (no_keys t v e h))

-- a pair that is there has its value there
pub pair_inside : (ts : List (Label × Value)) (r : Option ℕ) → IfSome r (λ i. IsPairThere ts i) → IfSome r (λ i. 2 * i + 1 < length ts)
pair_inside ts None h = tt
pair_inside ts (Some i) h = slice_get_within ts (2 * i + 1) _ h.3
