-- Tables that a step does not act on are read as before.
use Rattle.std.proofs.Common.{◌≡◌, ℕ, suc, ◌<◌, ◌⊎◌, inl, inr, Bool, true, false, nat_eq, eq-eqb, List, [], ◌∷◌, length, map, slice_get, Some, Contains, sym, ap, ◌∙◌, refl, arith, ◌&&◌}
use Rattle.std.specs.Prelude.{slice_index}
use Rattle.std.proofs.lemmas.Bool.{eqb-true}
use Rattle.rr_space.specs.Graph.{Name, Own, Published, Value, Plain, At, Label, Object}
use Rattle.rr_space.specs.Tables.{Slot, Here}
use Rattle.rr_space.specs.Tables.{renamed, renamed_triple, renamed_object}
use Rattle.rr_space.specs.Readings.{Owner, Space, Hand, Mail, Shown, Shared, owner_eq, Objects, Naming, Layout, name_in, named, HasPlace, IsInLayout, IsSound, Reads, IsReading}

pub owner_same : (a b : Owner) → owner_eq a b ≡ true → a ≡ b
owner_same (Space r) (Space s) e = ap Space (eqb-true r s e)
owner_same (Hand r) (Hand s) e = ap Hand (eqb-true r s e)
owner_same (Mail c t) (Mail d u) e = both (nat_eq c d) refl
  where
    both : (b : Bool) → nat_eq c d ≡ b → Mail c t ≡ Mail d u
    both true p = let q : nat_eq t u ≡ true = ap (λ b. b && nat_eq t u) (sym p) ∙ e in ap (λ k. Mail k t) (eqb-true c d p) ∙ ap (λ k. Mail d k) (eqb-true t u q)
    both false p = let q : false ≡ true = ap (λ b. b && nat_eq t u) (sym p) ∙ e in absurd cc
owner_same (Shown c t) (Shown d u) e = both (nat_eq c d) refl
  where
    both : (b : Bool) → nat_eq c d ≡ b → Shown c t ≡ Shown d u
    both true p = let q : nat_eq t u ≡ true = ap (λ b. b && nat_eq t u) (sym p) ∙ e in ap (λ k. Shown k t) (eqb-true c d p) ∙ ap (λ k. Shown d k) (eqb-true t u q)
    both false p = let q : false ≡ true = ap (λ b. b && nat_eq t u) (sym p) ∙ e in absurd cc
owner_same (Shared c) (Shared d) e = ap Shared (eqb-true c d e)
owner_same (Space r) (Hand s) e = absurd cc
owner_same (Space r) (Mail d u) e = absurd cc
owner_same (Space r) (Shown d u) e = absurd cc
owner_same (Space r) (Shared d) e = absurd cc
owner_same (Hand r) (Space s) e = absurd cc
owner_same (Hand r) (Mail d u) e = absurd cc
owner_same (Hand r) (Shown d u) e = absurd cc
owner_same (Hand r) (Shared d) e = absurd cc
owner_same (Mail c t) (Space s) e = absurd cc
owner_same (Mail c t) (Hand s) e = absurd cc
owner_same (Mail c t) (Shown d u) e = absurd cc
owner_same (Mail c t) (Shared d) e = absurd cc
owner_same (Shown c t) (Space s) e = absurd cc
owner_same (Shown c t) (Hand s) e = absurd cc
owner_same (Shown c t) (Mail d u) e = absurd cc
owner_same (Shown c t) (Shared d) e = absurd cc
owner_same (Shared c) (Space s) e = absurd cc
owner_same (Shared c) (Hand s) e = absurd cc
owner_same (Shared c) (Mail d u) e = absurd cc
owner_same (Shared c) (Shown d u) e = absurd cc

pub owner_refl : (a : Owner) → owner_eq a a ≡ true
owner_refl (Space r) = eq-eqb r r refl
owner_refl (Hand r) = eq-eqb r r refl
owner_refl (Mail c t) = ap (λ b. b && nat_eq t t) (eq-eqb c c refl) ∙ eq-eqb t t refl
owner_refl (Shown c t) = ap (λ b. b && nat_eq t t) (eq-eqb c c refl) ∙ eq-eqb t t refl
owner_refl (Shared c) = eq-eqb c c refl

-- two owners are one, or not
pub owner_cases : (a b : Owner) → (a ≡ b) ⊎ (a ≡ b → ⊥)
owner_cases a b = by (owner_eq a b) refl
  where
    by : (v : Bool) → owner_eq a b ≡ v → (a ≡ b) ⊎ (a ≡ b → ⊥)
    by true p = inl (owner_same a b p)
    by false p = inr (λ e. let q : true ≡ false = sym (owner_refl a) ∙ ap (owner_eq a) e ∙ p in cc)

-- equal on the elements
pub map_same : {A B : Type 0} (f g : A → B) (xs : List A) → ((x : A) → Contains xs x → f x ≡ g x) → map f xs ≡ map g xs
map_same f g [] same = refl
map_same f g (x ∷ xs) same =
    ap (λ y. y ∷ map f xs) (same x (0, omega arith, refl)) ∙ ap (λ ys. g x ∷ ys) (map_same f g xs (λ y has. same y (suc has.0, let lt = has.1 in omega arith, has.2)))

-- an object whose values have the same names has them under both namings
pub named_same : (f g : Name → Name) (o : Object) → ((l : Label) (x : Value) → Contains o.triples (l, x) → renamed f x ≡ renamed g x) → renamed_object f o ≡ renamed_object g o
named_same f g o same = ap (λ ts. record o { triples = ts }) (map_same (renamed_triple f) (renamed_triple g) o.triples (λ t has. ap (λ v. (t.0, v)) (same t.0 t.1 has)))

-- a value of a table has the same name where the lists agree up to the table's length, and on clusters
pub within_same : (tables : Layout) (t : List Slot) (h k : Owner) (names names2 : Naming) (x : Value)
    → ((i : ℕ) → i < length t → slice_index (names2 k) i ≡ slice_index (names h) i) → ((c : ℕ) (u : List Slot) → tables (Shared c) ≡ Some u → names2 (Shared c) ≡ names (Shared c))
    → IsInLayout tables t x → renamed (name_in names2 k) x ≡ renamed (name_in names h) x
within_same tables t h k names names2 (Plain n) own shared w = refl
within_same tables t h k names names2 (At (Own i)) own shared w = ap (λ n. At (Own n)) (own i w)
within_same tables t h k names names2 (At (Published c p)) own shared w = ap (λ ns. At (Own (slice_index ns p))) (shared c w.0 w.2)

pub object_same : (tables : Layout) (t : List Slot) (h k : Owner) (names names2 : Naming) (i : ℕ) (o : Object)
    → ((i : ℕ) → i < length t → slice_index (names2 k) i ≡ slice_index (names h) i) → ((c : ℕ) (u : List Slot) → tables (Shared c) ≡ Some u → names2 (Shared c) ≡ names (Shared c))
    → IsSound tables t → slice_get t i ≡ Some (Here o) → named names2 k o ≡ named names h o
object_same tables t h k names names2 i o own shared sound at =
    named_same (name_in names2 k) (name_in names h) o (λ l x has. within_same tables t h k names names2 x own shared (sound.within i o l x at has))

-- a table with its old names is read in a graph that has kept its objects
pub reads_kept : (old new : Layout) (names names2 : Naming) (g g2 : Objects) (h : Owner) (t : List Slot)
    → IsSound old t → names2 h ≡ names h → ((c : ℕ) (u : List Slot) → old (Shared c) ≡ Some u → names2 (Shared c) ≡ names (Shared c))
    → ((n : ℕ) (o : Object) → g n ≡ Some (record { owner = h; object = o }) → g2 n ≡ Some (record { owner = h; object = o }))
    → Reads old names g h t → Reads new names2 g2 h t
reads_kept old new names names2 g g2 h t sound own shared kept r = record {
  size = ap length own ∙ r.size;
  here = λ i o at. ap g2 (ap (λ ns. slice_index ns i) own) ∙ kept (slice_index (names h) i) (named names h o) (r.here i o at)
      ∙ ap (λ p. Some (record { owner = h; object = p })) (sym (object_same old t h h names names2 i o (λ j w. ap (λ ns. slice_index ns j) own) shared sound at));
  led = λ i c p at. ap (λ ns. slice_index ns i) own ∙ r.led i c p at ∙ ap (λ ns. slice_index ns p) (sym (shared c (sound.led i c p at).0 (sound.led i c p at).2));
  one = λ i j o p a b e. r.one i j o p a b (ap (λ ns. slice_index ns i) (sym own) ∙ e ∙ ap (λ ns. slice_index ns j) own);
}

-- a table stays sound where all clusters stay
pub sound_kept : (old new : Layout) (t : List Slot) → ((c p : ℕ) → HasPlace old c p → HasPlace new c p) → IsSound old t → IsSound new t
sound_kept old new t kept s = record {
  within = λ i o l x at has. by x (s.within i o l x at has);
  led = λ i c p at. kept c p (s.led i c p at);
}
  where
    by : (x : Value) → IsInLayout old t x → IsInLayout new t x
    by (Plain n) w = w
    by (At (Own i)) w = w
    by (At (Published c p)) w = kept c p w

-- the same tables, the same reading
pub reading_same : (old new : Layout) (names : Naming) (bound : ℕ) (g : Objects) → ((k : Owner) → new k ≡ old k) → IsReading old names bound g → IsReading new names bound g
reading_same old new names bound g same R = record {
  sound = λ h t e. sound_kept old new t places (R.sound h t (sym (same h) ∙ e));
  reads = λ h t e. let r = R.reads h t (sym (same h) ∙ e) in record { size = r.size; here = r.here; led = r.led; one = r.one };
  only = λ n x e. let st = R.only n x e in record { table = st.table; place = st.place; raw = st.raw; is_table = same x.owner ∙ st.is_table; is_raw = st.is_raw; is_name = st.is_name };
  bounded = R.bounded;
}
  where
    places : (c p : ℕ) → HasPlace old c p → HasPlace new c p
    places c p (u, o, e, at) = (u, o, same (Shared c) ∙ e, at)
