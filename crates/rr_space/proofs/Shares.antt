-- What is published keeps its names, and only its owner turns.
use Rattle.std.proofs.Common.{◌≡◌, ℕ, zero, suc, ◌<◌, ⊎_elim, Bool, true, false, nat_eq, eq-eqb, List, [], ◌∷◌, length, map, slice_get, Option, Some, None, get_or, Contains, sym, ap, ◌∙◌, subst, refl, arith, cond}
use Rattle.std.specs.Prelude.{slice_index}
use Rattle.std.specs.List.{AllZip}
use Rattle.std.specs.Option.{option_map}
use Rattle.std.proofs.lemmas.Bool.{eqb-true}
use Rattle.std.proofs.lemmas.List.{length-map}
use Rattle.std.proofs.lemmas.Option.{slice_get_within, get_or_from_slice_get, slice_get-get_or, same_Some, none-some}
use Rattle.rr_space.specs.Graph.{Own, Published, Value, Plain, At, Label, Object, text}
use Rattle.rr_space.specs.Graph.{SameValue, SameTriple, Matches, IsAt}
use Rattle.rr_space.specs.Tables.{Slot, Here, Led, resolve, resolve_slot, resolve_object}
use Rattle.rr_space.specs.Tables.{renamed, renamed_triple}
use Rattle.rr_space.specs.Readings.{Owner, Space, Shared, Owned, Objects, Naming, Layout, name_in, named, HasPlace, IsInLayout, IsSound, Reads, Stands, IsReading}
use Rattle.rr_space.specs.Steps.{IsPublished, Publishes, IsNamed, PublishingIsTurning}
use Rattle.rr_space.proofs.Renaming.{mapped_at, map_at, contains_at, at_contains, contains_map, contains_map_back}
use Rattle.rr_space.proofs.Frames.{owner_cases, object_same, reads_kept, sound_kept}
use Rattle.rr_space.proofs.Hands.{set_names, names_of_set, names_of_others, some_back}
use Rattle.rr_space.proofs.Keeping.{list_has}

abbrev pub has : List ℕ → ℕ → Bool
has [] n = false
has (x ∷ xs) n = cond (nat_eq n x) true (has xs n)

contains_cons : (x : ℕ) (xs : List ℕ) (y : ℕ) → Contains xs y → Contains (x ∷ xs) y
contains_cons x xs y (i, lt, e) = (suc i, omega arith, e)

pub has_back : (xs : List ℕ) (n : ℕ) → has xs n ≡ true → Contains xs n
has_back [] n e = let v : ⊥ = cc in absurd v
has_back (x ∷ xs) n e = by (nat_eq n x) refl (has_back xs n)
  where
    by : (v : Bool) → nat_eq n x ≡ v → (has xs n ≡ true → Contains xs n) → Contains (x ∷ xs) n
    by true p more = (0, omega arith, sym (eqb-true n x p))
    by false p more = contains_cons x xs n (more (sym (ap (λ v. cond v true (has xs n)) p) ∙ e))

pub has_on : (xs : List ℕ) (n : ℕ) → Contains xs n → has xs n ≡ true
has_on [] n (i, lt, e) = absurd (omega arith)
has_on (x ∷ xs) n (zero, lt, e) = ap (λ v. cond v true (has xs n)) (eq-eqb n x (sym e))
has_on (x ∷ xs) n (suc i, lt, e) = by (nat_eq n x) refl (has_on xs n (i, omega arith, e))
  where
    by : (v : Bool) → nat_eq n x ≡ v → has xs n ≡ true → has (x ∷ xs) n ≡ true
    by true p more = ap (λ v. cond v true (has xs n)) p
    by false p more = ap (λ v. cond v true (has xs n)) p ∙ more

abbrev pub shared_by : ℕ → Owned → Owned
shared_by c x = record { owner = Shared c; object = x.object }

abbrev pub published : ℕ → List ℕ → Objects → Objects
published c ns g n = cond (has ns n) (option_map (shared_by c) (g n)) (g n)

published_in : (c : ℕ) (ns : List ℕ) (g : Objects) (n : ℕ) → Contains ns n → published c ns g n ≡ option_map (shared_by c) (g n)
published_in c ns g n h = ap (λ v. cond v (option_map (shared_by c) (g n)) (g n)) (has_on ns n h)

published_out : (c : ℕ) (ns : List ℕ) (g : Objects) (n : ℕ) → (Contains ns n → ⊥) → published c ns g n ≡ g n
published_out c ns g n h = by (has ns n) refl
  where
    by : (v : Bool) → has ns n ≡ v → published c ns g n ≡ g n
    by true p = absurd (h (has_back ns n p))
    by false p = ap (λ v. cond v (option_map (shared_by c) (g n)) (g n)) p

-- objects whose parts are equal
pub same_object : (o p : Object) → o.kind ≡ p.kind → o.class ≡ p.class → o.bytes ≡ p.bytes → o.frozen ≡ p.frozen → o.triples ≡ p.triples → o ≡ p
same_object o p a b c d e =
    ap (λ x. record { kind = x; class = o.class; bytes = o.bytes; frozen = o.frozen; triples = o.triples }) a
    ∙ ap (λ x. record { kind = p.kind; class = x; bytes = o.bytes; frozen = o.frozen; triples = o.triples }) b
    ∙ ap (λ x. record { kind = p.kind; class = p.class; bytes = x; frozen = o.frozen; triples = o.triples }) c
    ∙ ap (λ x. record { kind = p.kind; class = p.class; bytes = p.bytes; frozen = x; triples = o.triples }) d
    ∙ ap (λ x. record { kind = p.kind; class = p.class; bytes = p.bytes; frozen = p.frozen; triples = x }) e

module _ (r c : ℕ) (places : List ℕ) (s s2 : List Slot) (os : List Object) (old new : Layout) (names : Naming) (bound : ℕ) (g : Objects)
    (P : Publishes r c places s s2 os old new) (R : IsReading old names bound g) where
  rs : Reads old names g (Space r) s
  rs = R.reads (Space r) s P.space

  m2 : set_names names (Shared c) (map (slice_index (names (Space r))) places) (Shared c) ≡ map (slice_index (names (Space r))) places
  m2 = names_of_set names (Shared c) (map (slice_index (names (Space r))) places)

  kept : (d : ℕ) (u : List Slot) → old (Shared d) ≡ Some u → set_names names (Shared c) (map (slice_index (names (Space r))) places) (Shared d) ≡ names (Shared d)
  kept d u e = names_of_others names (Shared c) (map (slice_index (names (Space r))) places) (Shared d) (λ q. none-some u (sym P.vacant ∙ ap old (sym q) ∙ e))

  -- a place of the cluster has the name of its slot
  place_name : (n i : ℕ) → IsAt places n i → slice_index (set_names names (Shared c) (map (slice_index (names (Space r))) places) (Shared c)) i ≡ slice_index (names (Space r)) n
  place_name n i at = ap (λ l. slice_index l i) m2
      ∙ get_or_from_slice_get (map (slice_index (names (Space r))) places) i (slice_index (names (Space r)) n) 0 (map_at (slice_index (names (Space r))) places i n at)

  -- what a value is resolved to has its name
  resolved_name : (x : Value) → renamed (name_in names (Space r)) (resolve s x) ≡ renamed (name_in names (Space r)) x
  resolved_name (Plain n) = refl
  resolved_name (At (Published d q)) = refl
  resolved_name (At (Own i)) = by (slice_get s i) refl
    where
      by : (v : Option Slot) → slice_get s i ≡ v → renamed (name_in names (Space r)) (At (resolve_slot (slice_get s i) i)) ≡ At (Own (slice_index (names (Space r)) i))
      by None e = ap (λ v. renamed (name_in names (Space r)) (At (resolve_slot v i))) e
      by (Some (Here o)) e = ap (λ v. renamed (name_in names (Space r)) (At (resolve_slot v i))) e
      by (Some (Led d q)) e = ap (λ v. renamed (name_in names (Space r)) (At (resolve_slot v i))) e ∙ ap (λ k. At (Own k)) (sym (rs.led i d q e))

  resolved_within : (x : Value) → IsInLayout old s x → IsInLayout old s (resolve s x)
  resolved_within (Plain n) w = w
  resolved_within (At (Published d q)) w = w
  resolved_within (At (Own i)) w = by (slice_get s i) refl
    where
      by : (v : Option Slot) → slice_get s i ≡ v → IsInLayout old s (At (resolve_slot (slice_get s i) i))
      by None e = subst (λ v. IsInLayout old s (At (resolve_slot v i))) (sym e) w
      by (Some (Here o)) e = subst (λ v. IsInLayout old s (At (resolve_slot v i))) (sym e) w
      by (Some (Led d q)) e = subst (λ v. IsInLayout old s (At (resolve_slot v i))) (sym e) ((R.sound (Space r) s P.space).led i d q e)

  value_same : (x y : Value) → IsInLayout old s x → SameValue (IsAt places) x y
      → renamed (name_in (set_names names (Shared c) (map (slice_index (names (Space r))) places)) (Shared c)) y ≡ renamed (name_in names (Space r)) x
  value_same (Plain p) (Plain q) w e = ap Plain (sym e)
  value_same (Plain p) (At m) w e = absurd e
  value_same (At (Own n)) (Plain q) w e = absurd e
  value_same (At (Published d p)) (Plain q) w e = absurd e
  value_same (At (Own n)) (At (Own m)) w e = ap (λ k. At (Own k)) (place_name n m e)
  value_same (At (Own n)) (At (Published d q)) w e = absurd e
  value_same (At (Published d q)) (At (Own m)) w e = absurd e
  value_same (At (Published d p)) (At (Published f q)) w e =
      ap (λ k. At (Own (slice_index (set_names names (Shared c) (map (slice_index (names (Space r))) places) (Shared k)) q))) (sym e.0)
      ∙ ap (λ l. At (Own (slice_index l q))) (kept d w.0 w.2) ∙ ap (λ k. At (Own (slice_index (names (Shared d)) k))) (sym e.1)

  triples_same : (xs ys : List (Label × Value)) → ((l : Label) (x : Value) → Contains xs (l, x) → IsInLayout old s x)
      → AllZip (SameTriple (IsAt places)) (map (λ t. (t.0, resolve s t.1)) xs) ys
      → map (renamed_triple (name_in (set_names names (Shared c) (map (slice_index (names (Space r))) places)) (Shared c))) ys ≡ map (renamed_triple (name_in names (Space r))) xs
  triples_same [] [] w z = refl
  triples_same [] (y ∷ ys) w z = absurd z
  triples_same (x ∷ xs) [] w z = absurd z
  triples_same (x ∷ xs) (y ∷ ys) w z =
      let head = value_same (resolve s x.1) y.1 (resolved_within x.1 (w x.0 x.1 (0, omega arith, refl))) z.0.1 ∙ resolved_name x.1 in
      let tail = triples_same xs ys (λ l u h. w l u (suc h.0, let lt = h.1 in omega arith, h.2)) z.1 in
      let under = z.0.0 in
      ap (λ l. (l, renamed (name_in (set_names names (Shared c) (map (slice_index (names (Space r))) places)) (Shared c)) y.1) ∷ map (renamed_triple (name_in (set_names names (Shared c) (map (slice_index (names (Space r))) places)) (Shared c))) ys) (sym under)
      ∙ ap (λ v. (x.0, v) ∷ map (renamed_triple (name_in (set_names names (Shared c) (map (slice_index (names (Space r))) places)) (Shared c))) ys) head
      ∙ ap (λ us. renamed_triple (name_in names (Space r)) x ∷ us) tail

  object_turned : (n i : ℕ) (o p : Object) → slice_get s n ≡ Some (Here o) → Matches (IsAt places) (resolve_object s o) p
      → named (set_names names (Shared c) (map (slice_index (names (Space r))) places)) (Shared c) p ≡ named names (Space r) o
  object_turned n i o p at m = same_object _ _ (sym m.kind) (sym m.class) (sym m.bytes) (sym m.frozen)
      (triples_same o.triples p.triples (λ l x h. (R.sound (Space r) s P.space).within n o l x at h) m.triples)

  -- a slot that is still an object was not published
  not_placed : (i : ℕ) (o : Object) → slice_get s2 i ≡ Some (Here o) → Contains places i → ⊥
  not_placed i o at h = let q = at_contains places i h in let z : Here o ≡ Led c q.0 = same_Some (Here o) (Led c q.0) (sym at ∙ P.led i q.0 q.1) in cc

  stayed : (i : ℕ) (o : Object) → slice_get s2 i ≡ Some (Here o) → slice_get s i ≡ Some (Here o)
  stayed i o at = sym (P.others i (not_placed i o at)) ∙ at

  -- and its name was not, either
  not_named : (i : ℕ) (o : Object) → slice_get s2 i ≡ Some (Here o) → Contains (map (slice_index (names (Space r))) places) (slice_index (names (Space r)) i) → ⊥
  not_named i o at h =
      let q = contains_map_back (slice_index (names (Space r))) places (slice_index (names (Space r)) i) h in
      let j = at_contains places q.0 q.1 in
      let k = at_object q.0 j.0 j.1 in
      not_placed i o at (subst (λ n. Contains places n) (rs.one q.0 i k.0 o k.1 (stayed i o at) q.2) q.1)
    where
      at_object : (n j : ℕ) → IsAt places n j → (p : Object) × (slice_get s n ≡ Some (Here p))
      at_object n j at = let lt = slice_get_within places j n at in
          let m = P.same n j _ at (slice_get-get_or os j (record { kind = text; class = 0; bytes = []; frozen = true; triples = [] }) (let w = P.count in omega arith)) in (m.0, m.1)

  other_owner : (n : ℕ) (x : Owned) → g n ≡ Some x → (x.owner ≡ Space r → ⊥) → Contains (map (slice_index (names (Space r))) places) n → ⊥
  other_owner n x e differ h =
      let q = contains_map_back (slice_index (names (Space r))) places n h in
      let j = at_contains places q.0 q.1 in
      let lt = slice_get_within places j.0 q.0 j.1 in
      let m = P.same q.0 j.0 _ j.1 (slice_get-get_or os j.0 (record { kind = text; class = 0; bytes = []; frozen = true; triples = [] }) (let w = P.count in omega arith)) in
      differ (ap (λ (z : Owned). z.owner) (same_Some x _ (sym e ∙ ap g (sym q.2) ∙ rs.here q.0 m.0 m.1)))

  g2_kept : (h : Owner) (n : ℕ) (o : Object) → (h ≡ Space r → ⊥) → g n ≡ Some (record { owner = h; object = o }) → published c (map (slice_index (names (Space r))) places) g n ≡ Some (record { owner = h; object = o })
  g2_kept h n o differ e = published_out c (map (slice_index (names (Space r))) places) g n (other_owner n _ e differ) ∙ e

  places_kept : (d p : ℕ) → HasPlace old d p → HasPlace new d p
  places_kept d p (u, o, e, at) = (u, o, P.rest (Shared d) (λ q. let v : ⊥ = cc in v) (λ q. none-some u (sym P.vacant ∙ ap old (sym q) ∙ e)) ∙ e, at)

  reads_space : Reads new (set_names names (Shared c) (map (slice_index (names (Space r))) places)) (published c (map (slice_index (names (Space r))) places) g) (Space r) s2
  reads_space = record {
    size = ap length (names_of_others names (Shared c) (map (slice_index (names (Space r))) places) (Space r) (λ q. let v : ⊥ = cc in v)) ∙ rs.size ∙ sym P.size;
    here = λ i o at.
        ap (λ l. (published c (map (slice_index (names (Space r))) places) g) (slice_index l i)) own
        ∙ published_out c (map (slice_index (names (Space r))) places) g (slice_index (names (Space r)) i) (not_named i o at) ∙ rs.here i o (stayed i o at)
        ∙ ap (λ p. Some (record { owner = Space r; object = p })) (sym (object_same old s (Space r) (Space r) names (set_names names (Shared c) (map (slice_index (names (Space r))) places)) i o (λ j lt. ap (λ l. slice_index l j) own) kept (R.sound (Space r) s P.space) (stayed i o at)));
    led = λ i d p at. led_by i d p at;
    one = λ i j o p at bt e. rs.one i j o p (stayed i o at) (stayed j p bt) (ap (λ l. slice_index l i) (sym own) ∙ e ∙ ap (λ l. slice_index l j) own);
  }
    where
      own : (set_names names (Shared c) (map (slice_index (names (Space r))) places)) (Space r) ≡ names (Space r)
      own = names_of_others names (Shared c) (map (slice_index (names (Space r))) places) (Space r) (λ q. let v : ⊥ = cc in v)

      led_by : (i d p : ℕ) → slice_get s2 i ≡ Some (Led d p) → slice_index ((set_names names (Shared c) (map (slice_index (names (Space r))) places)) (Space r)) i ≡ slice_index ((set_names names (Shared c) (map (slice_index (names (Space r))) places)) (Shared d)) p
      led_by i d p at = ⊎_elim
          (λ h. let q = at_contains places i h in
          let z : Led c q.0 ≡ Led d p = same_Some (Led c q.0) (Led d p) (sym (P.led i q.0 q.1) ∙ at) in
          let same_c : c ≡ d = cc in let same_p : q.0 ≡ p = cc in
          ap (λ l. slice_index l i) own ∙ sym (place_name i q.0 q.1) ∙ ap (λ k. slice_index ((set_names names (Shared c) (map (slice_index (names (Space r))) places)) (Shared c)) k) same_p ∙ ap (λ k. slice_index ((set_names names (Shared c) (map (slice_index (names (Space r))) places)) (Shared k)) p) same_c)
          (λ h. let was = sym (P.others i h) ∙ at in let there = (R.sound (Space r) s P.space).led i d p was in
          ap (λ l. slice_index l i) own ∙ rs.led i d p was ∙ ap (λ l. slice_index l p) (sym (kept d there.0 there.2)))
          (list_has places i)

  -- a place of the cluster: its slot, its object before, its object now
  pub record Placed (j : ℕ) (p : Object) : Type 0 where
    pub slot : ℕ
    pub at : IsAt places slot j
    pub was : Object
    pub here : slice_get s slot ≡ Some (Here was)
    pub is : named (set_names names (Shared c) (map (slice_index (names (Space r))) places)) (Shared c) p ≡ named names (Space r) was

  placed : (j : ℕ) (p : Object) → slice_get os j ≡ Some p → Placed j p
  placed j p e = let lt = slice_get_within os j p e in
      let at = slice_get-get_or places j 0 (let w = P.count in omega arith) in
      let m = P.same (get_or places j 0) j p at e in
      record { slot = get_or places j 0; at = at; was = m.0; here = m.1; is = object_turned (get_or places j 0) j m.0 p m.1 m.2 }

  os_at : (j : ℕ) (p : Object) → slice_get (map Here os) j ≡ Some (Here p) → slice_get os j ≡ Some p
  os_at j p e = let m = mapped_at Here os j (Here p) e in let z : m.0 ≡ p = cc in m.1 ∙ ap (λ x. Some x) z

  reads_cluster : Reads new (set_names names (Shared c) (map (slice_index (names (Space r))) places)) (published c (map (slice_index (names (Space r))) places) g) (Shared c) (map Here os)
  reads_cluster = record {
    size = ap length m2 ∙ (let a = length-map places (slice_index (names (Space r))) in let b = length-map os Here in let w = P.count in omega arith);
    here = λ j p e. let q = placed j p (os_at j p e) in
        ap (published c (map (slice_index (names (Space r))) places) g) (place_name q.slot j q.at)
        ∙ published_in c (map (slice_index (names (Space r))) places) g (slice_index (names (Space r)) q.slot) (contains_map (slice_index (names (Space r))) places q.slot (contains_at places j q.slot q.at))
        ∙ ap (option_map (shared_by c)) (rs.here q.slot q.was q.here)
        ∙ ap (λ x. Some (record { owner = Shared c; object = x })) (sym q.is);
    led = λ j d p e. let m = mapped_at Here os j (Led d p) e in let z : Here m.0 ≡ Led d p = m.2 in absurd (let v : ⊥ = cc in v);
    one = λ i j o p at bt e. let q = placed i o (os_at i o at) in let k = placed j p (os_at j p bt) in
        let same = rs.one q.slot k.slot q.was k.was q.here k.here (sym (place_name q.slot i q.at) ∙ e ∙ place_name k.slot j k.at) in
        P.distinct k.slot i j (subst (λ n. IsAt places n i) same q.at) k.at;
  }

  sound_space : IsSound new s2
  sound_space = record {
    within = λ i o l x at h. by x ((R.sound (Space r) s P.space).within i o l x (stayed i o at) h);
    led = λ i d p at. ⊎_elim
        (λ h. let q = at_contains places i h in
        let z : Led c q.0 ≡ Led d p = same_Some (Led c q.0) (Led d p) (sym (P.led i q.0 q.1) ∙ at) in
        let same_c : c ≡ d = cc in let same_p : q.0 ≡ p = cc in
        let lt = slice_get_within places q.0 i q.1 in
        let lt2 : q.0 < length os = let w = P.count in omega arith in
        subst (λ k. HasPlace new k p) same_c (subst (λ k. HasPlace new c k) same_p (place q.0 lt2)))
        (λ h. places_kept d p ((R.sound (Space r) s P.space).led i d p (sym (P.others i h) ∙ at)))
        (list_has places i);
  }
    where
      by : (x : Value) → IsInLayout old s x → IsInLayout new s2 x
      by (Plain n) w = w
      by (At (Own i)) w = let z = P.size in omega arith
      by (At (Published d p)) w = places_kept d p w

      place : (j : ℕ) → j < length os → HasPlace new c j
      place j lt = let e = slice_get-get_or os j (record { kind = text; class = 0; bytes = []; frozen = true; triples = [] }) lt in
          (map Here os, _, P.cluster, map_at Here os j _ e)

  sound_cluster : IsSound new (map Here os)
  sound_cluster = record {
    within = λ j p l x at h. by j p l x (os_at j p at) h;
    led = λ j d p e. let m = mapped_at Here os j (Led d p) e in let z : Here m.0 ≡ Led d p = m.2 in absurd (let v : ⊥ = cc in v);
  }
    where
      by : (j : ℕ) (p : Object) (l : Label) (x : Value) → slice_get os j ≡ Some p → Contains p.triples (l, x) → IsInLayout new (map Here os) x
      by j p l (Plain n) at h = tt
      by j p l (At (Own m)) at h = let lt = P.shut j p l m at h in let k = length-map os Here in omega arith
      by j p l (At (Published d q)) at h = P.outward j p l d q at h

  pub data Which (h : Owner) (t : List Slot) : Type 0 where
    the_space : (e : h ≡ Space r) (is : t ≡ s2) → Which h t
    the_cluster : (e : h ≡ Shared c) (is : t ≡ map Here os) → Which h t
    an_old : (not_a : h ≡ Space r → ⊥) (not_b : h ≡ Shared c → ⊥) (is : old h ≡ Some t) → Which h t

  which : (h : Owner) (t : List Slot) → new h ≡ Some t → Which h t
  which h t e = ⊎_elim
      (λ p. the_space p (same_Some _ _ (sym e ∙ ap new p ∙ P.space2)))
      (λ p. ⊎_elim (λ q. the_cluster q (same_Some _ _ (sym e ∙ ap new q ∙ P.cluster))) (λ q. an_old p q (sym (P.rest h p q) ∙ e)) (owner_cases h (Shared c)))
      (owner_cases h (Space r))

  reads_by : (h : Owner) (t : List Slot) → Which h t → Reads new (set_names names (Shared c) (map (slice_index (names (Space r))) places)) (published c (map (slice_index (names (Space r))) places) g) h t
  reads_by h t (the_space e is) = subst (λ k. Reads new (set_names names (Shared c) (map (slice_index (names (Space r))) places)) (published c (map (slice_index (names (Space r))) places) g) k t) (sym e) (subst (λ u. Reads new (set_names names (Shared c) (map (slice_index (names (Space r))) places)) (published c (map (slice_index (names (Space r))) places) g) (Space r) u) (sym is) reads_space)
  reads_by h t (the_cluster e is) = subst (λ k. Reads new (set_names names (Shared c) (map (slice_index (names (Space r))) places)) (published c (map (slice_index (names (Space r))) places) g) k t) (sym e) (subst (λ u. Reads new (set_names names (Shared c) (map (slice_index (names (Space r))) places)) (published c (map (slice_index (names (Space r))) places) g) (Shared c) u) (sym is) reads_cluster)
  reads_by h t (an_old not_a not_b is) = reads_kept old new names (set_names names (Shared c) (map (slice_index (names (Space r))) places)) g (published c (map (slice_index (names (Space r))) places) g) h t (R.sound h t is)
      (names_of_others names (Shared c) (map (slice_index (names (Space r))) places) h not_b) kept (λ n o e. g2_kept h n o not_a e) (R.reads h t is)

  sound_by : (h : Owner) (t : List Slot) → Which h t → IsSound new t
  sound_by h t (the_space e is) = subst (IsSound new) (sym is) sound_space
  sound_by h t (the_cluster e is) = subst (IsSound new) (sym is) sound_cluster
  sound_by h t (an_old not_a not_b is) = sound_kept old new t places_kept (R.sound h t is)

  -- an object of the new graph was there, under its owner or under r
  only_out : (n : ℕ) (y : Owned) → (Contains (map (slice_index (names (Space r))) places) n → ⊥) → g n ≡ Some y → Stands new (set_names names (Shared c) (map (slice_index (names (Space r))) places)) n y.owner
  only_out n y out e = ⊎_elim from_space from_rest (owner_cases y.owner (Space r))
    where
      st : Stands old names n y.owner
      st = R.only n y e

      not_c : y.owner ≡ Shared c → ⊥
      not_c q = none-some st.table (sym P.vacant ∙ ap old (sym q) ∙ st.is_table)

      from_space : y.owner ≡ Space r → Stands new (set_names names (Shared c) (map (slice_index (names (Space r))) places)) n y.owner
      from_space p =
          let t_is : st.table ≡ s = same_Some _ _ (sym st.is_table ∙ ap old p ∙ P.space) in
          let at = ap (λ t. slice_get t st.place) (sym t_is) ∙ st.is_raw in
          let name = ap (λ h. slice_index (names h) st.place) (sym p) ∙ st.is_name in
          subst (λ k. Stands new (set_names names (Shared c) (map (slice_index (names (Space r))) places)) n k) (sym p)
          (record {
            table = s2;
            place = st.place;
            raw = st.raw;
            is_table = P.space2;
            is_raw = P.others st.place (λ h. out (subst (λ k. Contains (map (slice_index (names (Space r))) places) k) name (contains_map (slice_index (names (Space r))) places st.place h))) ∙ at;
            is_name = ap (λ l. slice_index l st.place) (names_of_others names (Shared c) (map (slice_index (names (Space r))) places) (Space r) (λ q. let v : ⊥ = cc in v)) ∙ name;
          })

      from_rest : (y.owner ≡ Space r → ⊥) → Stands new (set_names names (Shared c) (map (slice_index (names (Space r))) places)) n y.owner
      from_rest p = record {
        table = st.table;
        place = st.place;
        raw = st.raw;
        is_table = P.rest y.owner p not_c ∙ st.is_table;
        is_raw = st.is_raw;
        is_name = ap (λ l. slice_index l st.place) (names_of_others names (Shared c) (map (slice_index (names (Space r))) places) y.owner not_c) ∙ st.is_name;
      }

  only_in : (n : ℕ) (x y : Owned) → Contains (map (slice_index (names (Space r))) places) n → g n ≡ Some x → shared_by c x ≡ y → Stands new (set_names names (Shared c) (map (slice_index (names (Space r))) places)) n y.owner
  only_in n x y h e is =
      let q = contains_map_back (slice_index (names (Space r))) places n h in
      let j = at_contains places q.0 q.1 in
      let lt = slice_get_within places j.0 q.0 j.1 in
      let o = slice_get-get_or os j.0 (record { kind = text; class = 0; bytes = []; frozen = true; triples = [] }) (let w = P.count in omega arith) in
      subst (λ k. Stands new (set_names names (Shared c) (map (slice_index (names (Space r))) places)) n k) (ap (λ (z : Owned). z.owner) is)
      (record { table = map Here os; place = j.0; raw = _; is_table = P.cluster; is_raw = map_at Here os j.0 _ o; is_name = place_name q.0 j.0 j.1 ∙ q.2 })

  only_by : (n : ℕ) (y : Owned) → published c (map (slice_index (names (Space r))) places) g n ≡ Some y → Stands new (set_names names (Shared c) (map (slice_index (names (Space r))) places)) n y.owner
  only_by n y e = ⊎_elim
      (λ h. let q = some_back (shared_by c) (g n) y (sym (published_in c (map (slice_index (names (Space r))) places) g n h) ∙ e) in only_in n q.0 y h q.1 q.2)
      (λ h. only_out n y h (sym (published_out c (map (slice_index (names (Space r))) places) g n h) ∙ e))
      (list_has (map (slice_index (names (Space r))) places) n)

  bounded_by : (n : ℕ) (y : Owned) → published c (map (slice_index (names (Space r))) places) g n ≡ Some y → n < bound
  bounded_by n y e = ⊎_elim
      (λ h. let q = some_back (shared_by c) (g n) y (sym (published_in c (map (slice_index (names (Space r))) places) g n h) ∙ e) in R.bounded n q.0 q.1)
      (λ h. R.bounded n y (sym (published_out c (map (slice_index (names (Space r))) places) g n h) ∙ e))
      (list_has (map (slice_index (names (Space r))) places) n)

  pub turning : (names2 : Naming) × (g2 : Objects) × IsReading new names2 bound g2 × IsNamed (Shared c) names names2 × IsPublished c (map (slice_index (names (Space r))) places) g g2
  turning = (
    (set_names names (Shared c) (map (slice_index (names (Space r))) places)),
    (published c (map (slice_index (names (Space r))) places) g),
    record { sound = λ h t e. sound_by h t (which h t e); reads = λ h t e. reads_by h t (which h t e); only = only_by; bounded = bounded_by },
    record { rest = λ h differ. names_of_others names (Shared c) (map (slice_index (names (Space r))) places) h differ },
    record { turned = λ n x h e. published_in c (map (slice_index (names (Space r))) places) g n h ∙ ap (option_map (shared_by c)) e; kept = λ n h. published_out c (map (slice_index (names (Space r))) places) g n h },
  )

pub publishing_is_turning : PublishingIsTurning
publishing_is_turning = turning
