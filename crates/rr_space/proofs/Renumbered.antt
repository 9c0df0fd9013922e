-- Loops that relate the elements of a list to those that were there, and the parts of nodes that were renumbered.
use Rattle.std.proofs.Common.{◌≡◌, ℕ, zero, suc, ◌+◌, ◌<◌, ◌≤◌, ◌⊎◌, inl, inr, List, [], ◌∷◌, length, map, slice_get, slice_set, get_or, Some, sym, ap, ◌∙◌, subst, refl, arith, length-set}
use Rattle.std.specs.List.{AllZip}
use Rattle.std.specs.Option.{option_map}
use Rattle.std.proofs.lemmas.Option.{same_Some, none-some, slice_get_within, slice_get_read, slice_get-map}
use Rattle.indexmap.specs.IndexMap.{set_value_at}
use Rattle.rr_base.specs.declared.name.Sym.{Sym}
use Rattle.rr_space.specs.Graph.{Label, Place, Field, KeyAt, ValueAt}
use Rattle.rr_space.specs.Parts.{Parts, places_from, pairs_from, field_part, raised_parts}
use Rattle.rr_space.specs.Views.{entry_pair, entry_key}
use Rattle.rr_space.specs.Views.{IsRenumberedPart, IsRenumberedField, IsRenumberedEntry}
use Rattle.rr_space.specs.declared.refer.Raised.{Raised}
use Rattle.rr_space.specs.declared.refer.Ref.{Ref}
use Rattle.rr_space.specs.declared.node.Key.{Key}
use Rattle.rr_space.proofs.Keeping.{set_same, set_other, nat_cases}
use Rattle.rr_space.proofs.Listing.{place_first}

pub zip_of : {A : Type 0} (G : A → A → Type 0) (xs ys : List A) → length ys ≡ length xs
    → ((j : ℕ) (x y : A) → slice_get xs j ≡ Some x → slice_get ys j ≡ Some y → G x y) → AllZip G xs ys
zip_of G [] [] size all = tt
zip_of G [] (y ∷ ys) size all = absurd (let w : ⊥ = omega (arith, size) in w)
zip_of G (x ∷ xs) [] size all = absurd (let w : ⊥ = omega (arith, size) in w)
zip_of G (x ∷ xs) (y ∷ ys) size all = (all 0 x y refl refl, zip_of G xs ys (omega (arith, size)) (λ j a b p q. all (suc j) a b p q))

-- the first k elements are related to those that were there, and the others are as they were
pub record IsPartly {A : Type 0} (G : A → A → Type 0) (k : ℕ) (old now : List A) : Type 0 where
  pub size : length now ≡ length old
  pub done : (j : ℕ) (x y : A) → j < k → slice_get old j ≡ Some x → slice_get now j ≡ Some y → G x y
  pub rest : (j : ℕ) → k ≤ j → slice_get now j ≡ slice_get old j

module _ {A : Type 0} (G : A → A → Type 0) where
  pub begun : (xs : List A) → IsPartly G 0 xs xs
  begun xs = record { size = refl; done = λ j x y lt p q. absurd (let w : ⊥ = omega (arith, lt) in w); rest = λ j le. refl }

  -- the element that comes next is the one that was there
  pub next_at : (old now : List A) (k : ℕ) (x : A) → IsPartly G k old now → k < length old → x ≡ get_or now k x → slice_get old k ≡ Some x
  next_at old now k x p lt is = sym (p.rest k (omega arith)) ∙ slice_get_read now (length now) k x refl (let e = p.size in omega (arith, lt, e)) is

  pub next : (old now new : List A) (k : ℕ) (x y : A) → IsPartly G k old now → slice_get old k ≡ Some x → G x y → new ≡ slice_set now k y → IsPartly G (k + 1) old new
  next old now new k x y p at related is = record {
    size = ap length is ∙ length-set now k y ∙ p.size;
    done = λ j a b lt a_at b_at. by j a b (nat_cases j k) lt a_at b_at;
    rest = λ j le. ap (λ zs. slice_get zs j) is ∙ set_other now k j y (λ e. let w : ⊥ = omega (arith, le, e) in w) ∙ p.rest j (omega (arith, le));
  }
    where
      inside : k < length now
      inside = let lt = slice_get_within old k x at in let e = p.size in omega (arith, lt, e)

      by : (j : ℕ) (a b : A) → (j ≡ k) ⊎ (j ≡ k → ⊥) → j < k + 1 → slice_get old j ≡ Some a → slice_get new j ≡ Some b → G a b
      by j a b (inl e) lt a_at b_at =
          let first : x ≡ a = same_Some x a (sym at ∙ ap (slice_get old) (sym e) ∙ a_at) in
          let second : y ≡ b = same_Some y b (sym (ap (λ zs. slice_get zs k) is ∙ set_same now k y inside) ∙ ap (slice_get new) (sym e) ∙ b_at) in
          subst (λ z. G z b) first (subst (G x) second related)
      by j a b (inr e) lt a_at b_at =
          p.done j a b (omega (arith, lt, e)) a_at (sym (ap (λ zs. slice_get zs j) is ∙ set_other now k j y (λ q. e (sym q))) ∙ b_at)

  pub ended : (old now : List A) (k : ℕ) → IsPartly G k old now → length old ≤ k → AllZip G old now
  ended old now k p le = zip_of G old now p.size (λ j x y at at2. p.done j x y (let lt = slice_get_within old j x at in omega (arith, lt, le)) at at2)

-- an entry with another value is another entry
pub set_value_is : {K V : Type 0} (es : List (K × V)) (k : ℕ) (e : K × V) (v : V) → slice_get es k ≡ Some e → set_value_at es k v ≡ slice_set es k (e.0, v)
set_value_is [] k e v at = absurd (none-some e at)
set_value_is {K} {V} (x ∷ es) zero e v at = ap (λ (y : K × V). (y.0, v) ∷ es) (same_Some x e at)
set_value_is (x ∷ es) (suc k) e v at = ap (λ ys. x ∷ ys) (set_value_is es k e v at)

module _ (R : Ref → Ref → Type 0) where
  abbrev pub AreRenumbered : Parts → Parts → Type 0
  AreRenumbered ps qs = AllZip (IsRenumberedPart R) ps qs

  pub zip_places : (j : ℕ) (rs ss : List Ref) → AllZip R rs ss → AreRenumbered (places_from j rs) (places_from j ss)
  zip_places j [] [] h = tt
  zip_places j [] (s ∷ ss) h = absurd h
  zip_places j (r ∷ rs) [] h = absurd h
  zip_places j (r ∷ rs) (s ∷ ss) h = (record { label = refl; value = h.0 }, zip_places (j + 1) rs ss h.1)

  pub zip_fields : (fs gs : List (Sym × Ref)) → AllZip (IsRenumberedField R) fs gs → AreRenumbered (map field_part fs) (map field_part gs)
  zip_fields [] [] h = tt
  zip_fields [] (g ∷ gs) h = absurd h
  zip_fields (f ∷ fs) [] h = absurd h
  zip_fields (f ∷ fs) (g ∷ gs) h = (record { label = ap (λ (s : Sym). Field s.0) h.0.name; value = h.0.value }, zip_fields fs gs h.1)

  pub zip_pairs : (j : ℕ) (es fs : List (Key × (Ref × Ref))) → AllZip (IsRenumberedEntry R) es fs → AreRenumbered (pairs_from j (map entry_pair es)) (pairs_from j (map entry_pair fs))
  zip_pairs j [] [] h = tt
  zip_pairs j [] (f ∷ fs) h = absurd h
  zip_pairs j (e ∷ es) [] h = absurd h
  zip_pairs j (e ∷ es) (f ∷ fs) h = (record { label = refl; value = h.0.name }, (record { label = refl; value = h.0.value }, zip_pairs (j + 1) es fs h.1))

  pub zip_keys : (es fs : List (Key × (Ref × Ref))) → AllZip (IsRenumberedEntry R) es fs → map entry_key fs ≡ map entry_key es
  zip_keys [] [] h = refl
  zip_keys [] (f ∷ fs) h = absurd h
  zip_keys (e ∷ es) [] h = absurd h
  zip_keys (e ∷ es) (f ∷ fs) h =
      ap (λ k. entry_key (k, f.1) ∷ map entry_key fs) (sym h.0.key) ∙ ap (λ ks. entry_key e ∷ ks) (zip_keys es fs h.1)

  pub zip_raised : (r s : Raised) → R r.message s.message → R r.cause s.cause → R r.ractor s.ractor → AllZip (IsRenumberedField R) r.fields.items s.fields.items
      → AreRenumbered (raised_parts r) (raised_parts s)
  zip_raised r s message cause ractor fields = (
    record { label = refl; value = message },
    (record { label = refl; value = cause }, (record { label = refl; value = ractor }, zip_fields r.fields.items s.fields.items fields)),
  )

-- what may be renumbered, reference by reference
module _ (M : Ref → Type 0) where
  abbrev pub MayAll : Parts → Type 0
  MayAll ps = (k : ℕ) (p : Label × Ref) → slice_get ps k ≡ Some p → M p.1

  pub may_item : (rs : List Ref) → MayAll (places_from 0 rs) → (k : ℕ) (r : Ref) → slice_get rs k ≡ Some r → M r
  may_item rs all k r at = all k (Place k, r) (place_first rs k ∙ ap (option_map (λ (x : Ref). (Place k, x))) at)

  pub may_field : (fs : List (Sym × Ref)) → MayAll (map field_part fs) → (k : ℕ) (f : Sym × Ref) → slice_get fs k ≡ Some f → M f.1
  may_field fs all k f at = all k (field_part f) (slice_get-map field_part fs k ∙ ap (option_map field_part) at)

  pub may_pair : (j : ℕ) (es : List (Key × (Ref × Ref))) → MayAll (pairs_from j (map entry_pair es)) → (k : ℕ) (e : Key × (Ref × Ref)) → slice_get es k ≡ Some e → M e.1.0 × M e.1.1
  may_pair j [] all k e at = absurd (none-some e at)
  may_pair j (x ∷ es) all zero e at = subst (λ (y : Key × (Ref × Ref)). M y.1.0 × M y.1.1) (same_Some x e at) (all 0 (KeyAt j, x.1.0) refl, all 1 (ValueAt j, x.1.1) refl)
  may_pair j (x ∷ es) all (suc k) e at = may_pair (j + 1) es (λ i p here. all (suc (suc i)) p here) k e at
