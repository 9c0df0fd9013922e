-- The graph of a space is inside the whole graph.
use Rattle.std.proofs.Common.{◌≡◌, ℕ, Bool, true, false, cond, nat_eq, suc, List, [], ◌∷◌, map, slice_get, Option, Some, None, Contains, sym, ap, ◌∙◌, refl, arith}
use Rattle.std.specs.Prelude.{slice_index}
use Rattle.std.specs.Option.{option_map, option_and_then}
use Rattle.std.proofs.lemmas.Bool.{eqb-true}
use Rattle.std.proofs.lemmas.Option.{same_Some, none-some}
use Rattle.rr_space.specs.Graph.{Name, Own, Published, Value, Plain, At, Label, Object}
use Rattle.rr_space.specs.Tables.{Slot, Here, Led, Table, Below, joined, numbered_name, numbered_object, cluster_at, published_at, resolve, resolve_slot, resolve_object, object_in, space_graph}
use Rattle.rr_space.specs.Tables.{renamed, renamed_triple, renamed_object, Embeds}
use Rattle.rr_space.specs.Readings.{Owner, Shared, Owned, Objects, Naming, Layout, name_in, whole, object_part, Reads, IsReading}
use Rattle.rr_space.specs.Readings.{Knows, IsShut, SpacesAreInside}
use Rattle.rr_space.proofs.Hands.{composed}
use Rattle.rr_space.proofs.Renaming.{map_at, mapped_at}

-- what a look-up finds is an entry of the list
pub entry_of : (below : Below) (c : ℕ) (os : List Object) → cluster_at below c ≡ Some os → Contains below (c, os)
entry_of [] c os e = absurd (none-some os e)
entry_of (x ∷ xs) c os e = by (nat_eq c x.0) refl (entry_of xs c os)
  where
    later : (y : ℕ × List Object) → Contains xs y → Contains (x ∷ xs) y
    later y (i, lt, q) = (suc i, omega arith, q)

    by : (b : Bool) → nat_eq c x.0 ≡ b → (cluster_at xs c ≡ Some os → Contains xs (c, os)) → Contains (x ∷ xs) (c, os)
    by true q rest =
        let w : Some x.1 ≡ Some os = ap (λ b. cond b (Some x.1) (cluster_at xs c)) (sym q) ∙ e in
        (0, omega arith, ap (λ n. (n, x.1)) (sym (eqb-true c x.0 q)) ∙ ap (λ l. (c, l)) (same_Some x.1 os w))
    by false q rest = later (c, os) (rest (ap (λ b. cond b (Some x.1) (cluster_at xs c)) (sym q) ∙ e))

-- the place of a cluster that a table knows
pub known_at : (below : Below) (tables : Layout) → Knows below tables → (c p : ℕ) (o : Object) → published_at below c p ≡ Some o
    → (u : List Slot) × (raw : Object) × (tables (Shared c) ≡ Some u) × (slice_get u p ≡ Some (Here raw)) × (numbered_object c raw ≡ o)
known_at below tables K c p o e = by (cluster_at below c) refl
  where
    by : (v : Option (List Object)) → cluster_at below c ≡ v → (u : List Slot) × (raw : Object) × (tables (Shared c) ≡ Some u) × (slice_get u p ≡ Some (Here raw)) × (numbered_object c raw ≡ o)
    by None q = absurd (none-some o (sym (ap (option_and_then (λ (os : List Object). slice_get os p)) q) ∙ e))
    by (Some os) q =
        let k = K.known c os (entry_of below c os q) in
        let at : slice_get os p ≡ Some o = sym (ap (option_and_then (λ (os : List Object). slice_get os p)) q) ∙ e in
        let m = mapped_at (numbered_object c) k.0 p o (ap (λ l. slice_get l p) k.2 ∙ at) in
        (map Here k.0, m.0, k.1, map_at Here k.0 p m.0 m.1, m.2)

module _ (tables : Layout) (names : Naming) (bound : ℕ) (g : Objects) (h : Owner) (t : Table) (R : IsReading tables names bound g) (is_h : tables h ≡ Some t.slots) where
  rs : Reads tables names g h t.slots
  rs = R.reads h t.slots is_h

  resolved_name : (x : Value) → renamed (name_in names h) (resolve t.slots x) ≡ renamed (name_in names h) x
  resolved_name (Plain n) = refl
  resolved_name (At (Published d q)) = refl
  resolved_name (At (Own i)) = by (slice_get t.slots i) refl
    where
      by : (v : Option Slot) → slice_get t.slots i ≡ v → renamed (name_in names h) (At (resolve_slot (slice_get t.slots i) i)) ≡ At (Own (slice_index (names h) i))
      by None e = ap (λ v. renamed (name_in names h) (At (resolve_slot v i))) e
      by (Some (Here o)) e = ap (λ v. renamed (name_in names h) (At (resolve_slot v i))) e
      by (Some (Led d q)) e = ap (λ v. renamed (name_in names h) (At (resolve_slot v i))) e ∙ ap (λ k. At (Own k)) (sym (rs.led i d q e))

  resolved_all : (ts : List (Label × Value)) → map (renamed_triple (name_in names h)) (map (λ t2. (t2.0, resolve t.slots t2.1)) ts) ≡ map (renamed_triple (name_in names h)) ts
  resolved_all [] = refl
  resolved_all (x ∷ ts) = ap (λ v. (x.0, v) ∷ map (renamed_triple (name_in names h)) (map (λ t2. (t2.0, resolve t.slots t2.1)) ts)) (resolved_name x.1) ∙ ap (λ us. renamed_triple (name_in names h) x ∷ us) (resolved_all ts)

  -- the raw object of a slot
  pub raw_of : (i : ℕ) (o : Object) → space_graph t (Own i) ≡ Some o → (raw : Object) × (slice_get t.slots i ≡ Some (Here raw)) × (resolve_object t.slots raw ≡ o)
  raw_of i o e = by (slice_get t.slots i) refl
    where
      by : (v : Option Slot) → slice_get t.slots i ≡ v → (raw : Object) × (slice_get t.slots i ≡ Some (Here raw)) × (resolve_object t.slots raw ≡ o)
      by None q = absurd (none-some o (sym (ap (option_and_then (object_in t.slots)) q) ∙ e))
      by (Some (Here raw)) q = (raw, q, same_Some _ o (sym (ap (option_and_then (object_in t.slots)) q) ∙ e))
      by (Some (Led c p)) q = absurd (none-some o (sym (ap (option_and_then (object_in t.slots)) q) ∙ e))

  own_here : (i : ℕ) (o : Object) → space_graph t (Own i) ≡ Some o → g (slice_index (names h) i) ≡ Some (record { owner = h; object = renamed_object (name_in names h) o })
  own_here i o e = let r = raw_of i o e in
      rs.here i r.0 r.1 ∙ ap (λ x. Some (record { owner = h; object = x }))
      (ap (λ ts. record r.0 { triples = ts }) (sym (resolved_all r.0.triples)) ∙ ap (renamed_object (name_in names h)) r.2)

  shared_here : Knows (joined t.below) tables → (c p : ℕ) (o : Object) → space_graph t (Published c p) ≡ Some o
      → g (slice_index (names (Shared c)) p) ≡ Some (record { owner = Shared c; object = renamed_object (name_in names h) o })
  shared_here K c p o e = let k = known_at (joined t.below) tables K c p o e in
      (R.reads (Shared c) k.0 k.2).here p k.1 k.3
      ∙ ap (λ x. Some (record { owner = Shared c; object = x }))
      (ap (λ ts. record k.1 { triples = ts }) (sym (composed (name_in names h) (numbered_name c) (name_in names (Shared c)) k.1.triples (λ l x has. same x))) ∙ ap (renamed_object (name_in names h)) k.4)
    where
      same : (x : Value) → renamed (name_in names h) (renamed (numbered_name c) x) ≡ renamed (name_in names (Shared c)) x
      same (Plain n) = refl
      same (At (Own i)) = refl
      same (At (Published d q)) = refl

  module _ (not_shared : (c : ℕ) → h ≡ Shared c → ⊥) (K : Knows (joined t.below) tables) (shut : IsShut (space_graph t)) where
    here : (n : Name) (o : Object) → space_graph t n ≡ Some o → whole g (name_in names h n) ≡ Some (renamed_object (name_in names h) o)
    here (Own i) o e = ap (option_map object_part) (own_here i o e)
    here (Published c p) o e = ap (option_map object_part) (shared_here K c p o e)

    owners : (a b : Owned) (n m : ℕ) → Own n ≡ Own m → g n ≡ Some a → g m ≡ Some b → a.owner ≡ b.owner
    owners a b n m e x y = let same : n ≡ m = cc in ap (λ (z : Owned). z.owner) (same_Some a b (sym x ∙ ap g same ∙ y))

    own_name : (n m : ℕ) → Own n ≡ Own m → n ≡ m
    own_name n m e = cc

    one : (n m : Name) (o p : Object) → space_graph t n ≡ Some o → space_graph t m ≡ Some p → name_in names h n ≡ name_in names h m → n ≡ m
    one (Own i) (Own j) o p a b e = let r = raw_of i o a in let s = raw_of j p b in ap Own (rs.one i j r.0 s.0 r.1 s.1 (own_name _ _ e))
    one (Own i) (Published c q) o p a b e = absurd (not_shared c (owners _ _ _ _ e (own_here i o a) (shared_here K c q p b)))
    one (Published c q) (Own j) o p a b e = absurd (not_shared c (sym (owners _ _ _ _ e (shared_here K c q o a) (own_here j p b))))
    one (Published c q) (Published d r) o p a b e =
        let both = owners _ _ _ _ e (shared_here K c q o a) (shared_here K d r p b) in
        let same : c ≡ d = cc in
        let k = known_at (joined t.below) tables K c q o a in
        let l = known_at (joined t.below) tables K d r p b in
        let l_is : l.0 ≡ k.0 = same_Some l.0 k.0 (sym l.2 ∙ ap (λ x. tables (Shared x)) (sym same) ∙ k.2) in
        let at : slice_get k.0 r ≡ Some (Here l.1) = ap (λ u. slice_get u r) (sym l_is) ∙ l.3 in
        let place = (R.reads (Shared c) k.0 k.2).one q r k.1 l.1 k.3 at (own_name _ _ e ∙ ap (λ x. slice_index (names (Shared x)) r) (sym same)) in
        ap (λ x. Published x q) same ∙ ap (λ x. Published d x) place

    pub inside : Embeds (space_graph t) (name_in names h) (whole g)
    inside = record { here = here; shut = shut.all; one = one }

pub spaces_are_inside : SpacesAreInside
spaces_are_inside tables names bound g h t R is_h not_shared K shut = inside tables names bound g h t R is_h not_shared K shut
