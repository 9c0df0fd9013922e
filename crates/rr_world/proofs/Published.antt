-- What is published, in a reading.
use Rattle.std.proofs.Common.{◌≡◌, ℕ, List, [], ◌∷◌, length, map, Some, Contains, sym, ap, ◌∙◌, subst, refl, arith}
use Rattle.std.specs.Prelude.{slice_index}
use Rattle.std.proofs.lemmas.List.{length-map}
use Rattle.std.proofs.lemmas.Option.{same_Some}
use Rattle.rr_space.specs.Graph.{Graph, Own, Published, Value, Plain, At, Label, Object, Leads, IsSolid, IsShareable, SameValue}
use Rattle.rr_space.specs.Tables.{renamed, Here, Below, IsPublished, IsSealed, numbered_name, numbered_object, outer_objects}
use Rattle.rr_space.specs.Parts.{below_ref, IsWithin}
use Rattle.rr_space.specs.Readings.{Owner, Shared, Owned, Objects, Naming, Layout, HasPlace, IsReading, IsApart, IsShared, IsSharedValue, Knows, object_part, named, name_in, whole}
use Rattle.rr_space.specs.Sound.{HasPlaceIn}
use Rattle.rr_space.specs.declared.refer.Ref.{Ref}
use Rattle.rr_space.specs.declared.refer.Ref.TheVariants as ref
use Rattle.rr_space.proofs.Hands.{composed, some_back}
use Rattle.rr_space.proofs.Renaming.{map_at}
use Rattle.rr_space.proofs.Sounds.{gets}
use Rattle.rr_world.specs.Readings.{value_in}
use Rattle.rr_world.proofs.Namings.{KeepsShared}

-- a place of a cluster that is known
pub place_known : (tables : Layout) (b : Below) (c q : ℕ) → Knows b tables → HasPlaceIn b c q → HasPlace tables c q
place_known tables b c q K (os, has, lt) =
    let a = K.known c os has in
    let many : length os ≡ length a.0 = ap length (sym a.2) ∙ length-map a.0 (numbered_object c) in
    let x = gets a.0 q (omega (arith, lt, many)) in
    (map Here a.0, x.0, a.1, map_at Here a.0 q x.0 x.1)

-- a reference to a published object leads to a place that there is
abbrev pub IsInPlace : Layout → Ref → Type 0
IsInPlace tables (ref.Shared p c) = HasPlace tables c.now.number p
IsInPlace tables _ = Unit {0}

pub in_place : (tables : Layout) (k : ℕ) (r : Ref) → IsWithin k r → Knows (below_ref r) tables → IsInPlace tables r
in_place tables k ref.Nil h K = tt
in_place tables k ref.False h K = tt
in_place tables k ref.True h K = tt
in_place tables k (ref.Int b) h K = tt
in_place tables k (ref.Symbol b) h K = tt
in_place tables k (ref.Class b) h K = tt
in_place tables k (ref.Ractor b) h K = tt
in_place tables k (ref.Local n) h K = tt
in_place tables k (ref.Shared p c) h K =
    place_known tables (below_ref (ref.Shared p c)) c.now.number p K
    (outer_objects c.now, (0, omega arith, refl), let many = length-map c.now.own (numbered_object c.now.number) in let lt = h.within in omega (arith, many, lt))

-- an object of a cluster has one name inside and outside of it
pub outer_named : (names : Naming) (h : Owner) (c : ℕ) (o : Object) → named names (Shared c) o ≡ named names h (numbered_object c o)
outer_named names h c o = ap (λ ts. record o { triples = ts }) (sym (composed (name_in names h) (numbered_name c) (name_in names (Shared c)) o.triples (λ l x has. same x)))
  where
    same : (x : Value) → renamed (name_in names h) (renamed (numbered_name c) x) ≡ renamed (name_in names (Shared c)) x
    same (Plain n) = refl
    same (At (Own i)) = refl
    same (At (Published d q)) = refl

module _ (tables : Layout) (names : Naming) (bound : ℕ) (g : Objects) (R : IsReading tables names bound g) where
  -- the object in a place of a cluster
  pub at_place : (c q : ℕ) → HasPlace tables c q → (x : Owned) × (g (slice_index (names (Shared c)) q) ≡ Some x) × (x.owner ≡ Shared c)
  at_place c q (u, o, is, at) = (record { owner = Shared c; object = named names (Shared c) o }, (R.reads (Shared c) u is).here q o at, refl)

  pub place_shared : (h : Owner) (c q : ℕ) → HasPlace tables c q → IsSharedValue g (value_in names h (At (Published c q)))
  place_shared h c q there m is =
      let x = at_place c q there in
      let name : Own (slice_index (names (Shared c)) q) ≡ m = cc in
      (slice_index (names (Shared c)) q, x.0, sym name, x.1, (c, x.2))

-- what a shared value leads to is shared
pub leads_shared : (g : Objects) → IsApart g → (path : List Label) (v w : Value) → IsSharedValue g v → Leads (whole g) v path w → IsSharedValue g w
leads_shared g A [] v w s e = subst (IsSharedValue g) e s
leads_shared g A (l ∷ path) v w s (y, (m, o, is, here, has), rest) =
    let q = s m is in
    let b = some_back object_part (g q.0) o (sym (ap (whole g) q.2) ∙ here) in
    let same : b.0 ≡ q.1 = same_Some b.0 q.1 (sym b.1 ∙ q.3) in
    leads_shared g A path y w
    (A.shut q.0 b.0 l y b.1 (subst (λ (x : Owned). IsShared x.owner) (sym same) q.4) (subst (λ (p : Object). Contains p.triples (l, y)) (sym b.2) has)) rest

-- so it is shareable
pub shared_solid : (g : Objects) → IsApart g → (v : Value) → IsSharedValue g v → IsShareable (whole g) v
shared_solid g A v s n o (path, leads) here =
    let q = leads_shared g A path v (At n) s leads n refl in
    let b = some_back object_part (g q.0) o (sym (ap (whole g) q.2) ∙ here) in
    let same : b.0 ≡ q.1 = same_Some b.0 q.1 (sym b.1 ∙ q.3) in
    subst IsSolid b.2 (A.solid q.0 b.0 b.1 (subst (λ (x : Owned). IsShared x.owner) (sym same) q.4))

pub owner_shared : (g : Objects) (n : ℕ) (y : Owned) → IsSharedValue g (At (Own n)) → g n ≡ Some y → IsShared y.owner
owner_shared g n y s here =
    let q = s (Own n) refl in
    let name : n ≡ q.0 = let z : Own n ≡ Own q.0 = q.2 in cc in
    subst (λ (x : Owned). IsShared x.owner) (same_Some q.1 y (sym q.3 ∙ ap g (sym name) ∙ here)) q.4

-- no path leads from a published value to an object of the space
pub sealed_path : (g : Graph) → IsSealed g → (path : List Label) (v : Value) (i : ℕ) → IsPublished v → Leads g v path (At (Own i)) → ⊥
sealed_path g S [] v i p e = subst IsPublished e p
sealed_path g S (l ∷ path) (Plain n) i p (y, (m, o, is, here, has), rest) = let z : ⊥ = cc in z
sealed_path g S (l ∷ path) (At (Own n)) i p leads = p
sealed_path g S (l ∷ path) (At (Published c q)) i p (y, (m, o, is, here, has), rest) =
    let name : m ≡ Published c q = let z : At (Published c q) ≡ At m = is in cc in
    sealed_path g S path y i (S.shut c q o l y (ap g (sym name) ∙ here) has) rest

-- a published value is the same as another that it matches
pub same_published : (P : ℕ → ℕ → Type 0) (x y : Value) → IsPublished x → SameValue P x y → x ≡ y
same_published P (Plain n) (Plain k) p s = ap Plain s
same_published P (Plain n) (At m) p s = absurd s
same_published P (At (Own i)) y p s = absurd p
same_published P (At (Published c q)) (Plain k) p s = absurd s
same_published P (At (Published c q)) (At (Own j)) p s = absurd s
same_published P (At (Published c q)) (At (Published d r)) p s = ap (λ k. At (Published k q)) s.0 ∙ ap (λ k. At (Published d k)) s.1

-- and it has one name in all tables
pub published_named : (names names2 : Naming) (h j : Owner) (x : Value) → KeepsShared names names2 → IsPublished x → value_in names2 j x ≡ value_in names h x
published_named names names2 h j (Plain n) kept p = refl
published_named names names2 h j (At (Own i)) kept p = absurd p
published_named names names2 h j (At (Published c q)) kept p = ap (λ ns. At (Own (slice_index ns q))) (kept c)
