-- A table that is made anew keeps the names of its slots, and new slots get fresh names.
use Rattle.std.proofs.Common.{◌≡◌, ℕ, zero, suc, ◌+◌, ◌-◌, ◌<◌, ◌≤◌, ◌⊎◌, ⊎_elim, inl, inr, Bool, true, false, nat_eq, eq-eqb, List, [], ◌∷◌, ◌++◌, length, slice_get, Option, Some, None, sym, ap, ◌∙◌, subst, refl, arith, cond, length-append}
use Rattle.std.specs.Prelude.{slice_index}
use Rattle.std.proofs.lemmas.Bool.{eqb-true}
use Rattle.std.proofs.lemmas.List.{get_or_append_left, get_or-append-add}
use Rattle.std.proofs.lemmas.Option.{slice_get_within, slice_get-get_or, same_Some, none-some}
use Rattle.rr_space.specs.Graph.{Name, Object}
use Rattle.rr_space.specs.Tables.{Slot, Here, Led}
use Rattle.rr_space.specs.Tables.{renamed_object}
use Rattle.rr_space.specs.Readings.{Owner, Shared, Owned, Objects, Naming, Layout, name_in, named, HasPlace, IsSound, Reads, Stands, IsReading}
use Rattle.rr_space.specs.Steps.{Remakes, IsRemade, IsNamed, RemakingIsAStep}
use Rattle.rr_space.proofs.Frames.{owner_cases, reads_kept, sound_kept}
use Rattle.rr_space.proofs.Hands.{set_names, names_of_set, names_of_others}

abbrev pub fresh_names : ℕ → ℕ → List ℕ
fresh_names b zero = []
fresh_names b (suc k) = b ∷ fresh_names (b + 1) k

fresh_length : (b k : ℕ) → length (fresh_names b k) ≡ k
fresh_length b zero = refl
fresh_length b (suc k) = omega (arith, fresh_length (b + 1) k)

fresh_at : (b k i : ℕ) → i < k → slice_index (fresh_names b k) i ≡ b + i
fresh_at b zero i lt = absurd (omega arith)
fresh_at b (suc k) zero lt = omega arith
fresh_at b (suc k) (suc i) lt = let w = fresh_at (b + 1) k i (omega arith) in omega arith

-- the object of a table that a name has
abbrev pub lookup : List ℕ → List Slot → ℕ → Option Object
lookup [] ss n = None
lookup (k ∷ ks) [] n = None
lookup (k ∷ ks) (Here o ∷ ss) n = cond (nat_eq n k) (Some o) (lookup ks ss n)
lookup (k ∷ ks) (Led c p ∷ ss) n = lookup ks ss n

lookup_back : (ks : List ℕ) (ss : List Slot) (n : ℕ) (o : Object) → lookup ks ss n ≡ Some o → (i : ℕ) × (slice_get ss i ≡ Some (Here o)) × (slice_index ks i ≡ n)
lookup_back [] ss n o e = absurd (none-some o e)
lookup_back (k ∷ ks) [] n o e = absurd (none-some o e)
lookup_back (k ∷ ks) (Here p ∷ ss) n o e = by (nat_eq n k) refl (lookup_back ks ss n o)
  where
    by : (v : Bool) → nat_eq n k ≡ v → (lookup ks ss n ≡ Some o → (i : ℕ) × (slice_get ss i ≡ Some (Here o)) × (slice_index ks i ≡ n))
        → (i : ℕ) × (slice_get (Here p ∷ ss) i ≡ Some (Here o)) × (slice_index (k ∷ ks) i ≡ n)
    by true q more = (0, ap (λ x. Some (Here x)) (same_Some p o (sym (ap (λ v. cond v (Some p) (lookup ks ss n)) q) ∙ e)), sym (eqb-true n k q))
    by false q more = let r = more (sym (ap (λ v. cond v (Some p) (lookup ks ss n)) q) ∙ e) in (suc r.0, r.1, r.2)
lookup_back (k ∷ ks) (Led c p ∷ ss) n o e = let r = lookup_back ks ss n o e in (suc r.0, r.1, r.2)

lookup_at : (ks : List ℕ) (ss : List Slot) (n i : ℕ) (o : Object) → length ks ≡ length ss → slice_index ks i ≡ n
    → ((j : ℕ) (p : Object) → slice_get ss j ≡ Some (Here p) → slice_index ks j ≡ n → j ≡ i) → slice_get ss i ≡ Some (Here o) → lookup ks ss n ≡ Some o
lookup_at [] [] n i o len is one at = absurd (none-some _ at)
lookup_at [] (s ∷ ss) n i o len is one at = absurd (omega arith)
lookup_at (k ∷ ks) [] n i o len is one at = absurd (none-some _ at)
lookup_at (k ∷ ks) (Here p ∷ ss) n zero o len is one at = ap (λ v. cond v (Some p) (lookup ks ss n)) (eq-eqb n k (sym is)) ∙ (let z : Here p ≡ Here o = same_Some _ _ at in let w : p ≡ o = cc in ap (λ x. Some x) w)
lookup_at (k ∷ ks) (Led c p ∷ ss) n zero o len is one at = let z : Led c p ≡ Here o = same_Some _ _ at in absurd (let w : ⊥ = cc in w)
lookup_at (k ∷ ks) (Led c p ∷ ss) n (suc i) o len is one at = lookup_at ks ss n i o (omega arith) is (λ j q a e. let w = one (suc j) q a e in omega arith) at
lookup_at (k ∷ ks) (Here p ∷ ss) n (suc i) o len is one at = by (nat_eq n k) refl (lookup_at ks ss n i o (omega arith) is (λ j q a e. let w = one (suc j) q a e in omega arith) at)
  where
    by : (v : Bool) → nat_eq n k ≡ v → lookup ks ss n ≡ Some o → lookup (k ∷ ks) (Here p ∷ ss) n ≡ Some o
    by true q more = let w = one 0 p refl (sym (eqb-true n k q)) in absurd (omega arith)
    by false q more = ap (λ v. cond v (Some p) (lookup ks ss n)) q ∙ more

abbrev pub pick : Owner → (Name → Name) → Option Object → Option Owned → Option Owned
pick h f (Some o) x = Some (record { owner = h; object = renamed_object f o })
pick h f None x = x

abbrev pub made : Owner → (Name → Name) → List ℕ → List Slot → Objects → Objects
made h f ks ss g n = pick h f (lookup ks ss n) (g n)

lt_cases : (i n : ℕ) → (i < n) ⊎ (n ≤ i)
lt_cases i n = grind arith

module _ (h : Owner) (k : ℕ) (s s2 : List Slot) (old new : Layout) (names : Naming) (bound : ℕ) (g : Objects)
    (C : Remakes h k s s2 old new) (R : IsReading old names bound g)
    (ns : List ℕ) (ns_size : length ns ≡ length s) (ns_is : (i : ℕ) (x : Slot) → slice_get s i ≡ Some x → (old h ≡ Some s) × (ns ≡ names h)) where
  m2 : (set_names names h (ns ++ fresh_names bound k)) h ≡ ns ++ fresh_names bound k
  m2 = names_of_set names h (ns ++ fresh_names bound k)

  shared : (c : ℕ) → (set_names names h (ns ++ fresh_names bound k)) (Shared c) ≡ names (Shared c)
  shared c = names_of_others names h (ns ++ fresh_names bound k) (Shared c) (λ e. C.unshared c (sym e))

  size : length ((set_names names h (ns ++ fresh_names bound k)) h) ≡ length s2
  size = ap length m2 ∙ (let a = length-append ns (fresh_names bound k) in let b = fresh_length bound k in let d = C.size in let e = ns_size in omega arith)

  name_old : (i : ℕ) → i < length s → slice_index ((set_names names h (ns ++ fresh_names bound k)) h) i ≡ slice_index ns i
  name_old i lt = ap (λ l. slice_index l i) m2 ∙ get_or_append_left ns (fresh_names bound k) 0 i (let w = ns_size in omega arith)

  name_new : (i j : ℕ) → i ≡ length s + j → j < k → slice_index ((set_names names h (ns ++ fresh_names bound k)) h) i ≡ bound + j
  name_new i j e lt = ap (λ l. slice_index l i) m2 ∙ ap (slice_index (ns ++ fresh_names bound k)) (let w = ns_size in let v : i ≡ length ns + j = omega arith in v) ∙ get_or-append-add ns (fresh_names bound k) j 0 ∙ fresh_at bound k j lt

  name_kept : (i : ℕ) (x : Slot) → slice_get s i ≡ Some x → slice_index ((set_names names h (ns ++ fresh_names bound k)) h) i ≡ slice_index (names h) i
  name_kept i x at = name_old i (slice_get_within s i x at) ∙ ap (λ l. slice_index l i) (ns_is i x at).1

  -- where an object of the new table stood, or that it is new
  pub data Came (i : ℕ) (n : ℕ) : Type 0 where
    was_here : (lt : i < length s) (o : Object) (at : slice_get s i ≡ Some (Here o)) (name : slice_index (names h) i ≡ n) (there : g n ≡ Some (record { owner = h; object = named names h o })) → Came i n
    is_new : (j : ℕ) (e : i ≡ length s + j) (lt : j < k) (name : n ≡ bound + j) → Came i n

  came : (i : ℕ) (o : Object) → slice_get s2 i ≡ Some (Here o) → Came i (slice_index ((set_names names h (ns ++ fresh_names bound k)) h) i)
  came i o at = ⊎_elim (λ lt. by_old lt (slice_get s i) refl) (λ q. is_new q.0 q.1 q.2 (name_new i q.0 q.1 q.2)) (split i (slice_get_within s2 i (Here o) at))
    where
      split : (i : ℕ) → i < length s2 → (i < length s) ⊎ ((j : ℕ) × (i ≡ length s + j) × (j < k))
      split i lt = let z = C.size in ⊎_elim (λ a. inl a) (λ (b : length s ≤ i). inr (i - length s, omega arith, omega arith)) (lt_cases i (length s))

      by_old : i < length s → (v : Option Slot) → slice_get s i ≡ v → Came i (slice_index ((set_names names h (ns ++ fresh_names bound k)) h) i)
      by_old lt None e = absurd (none-some _ (sym e ∙ slice_get-get_or s i (Led 0 0) lt))
      by_old lt (Some (Here p)) e = was_here lt p e (sym (name_kept i (Here p) e))
          (ap g (name_kept i (Here p) e) ∙ (R.reads h s (ns_is i (Here p) e).0).here i p e)
      by_old lt (Some (Led c p)) e = let z : Led c p ≡ Here o = same_Some _ _ (sym (C.kept_led i c p e) ∙ at) in absurd (let w : ⊥ = cc in w)

  one_by : (i j n : ℕ) → Came i n → Came j n → i ≡ j
  one_by i j n (was_here lt o at name there) (was_here lt2 p bt name2 there2) = (R.reads h s (ns_is i (Here o) at).0).one i j o p at bt (name ∙ sym name2)
  one_by i j n (was_here lt o at name there) (is_new m e lt2 name2) = let w = R.bounded n _ there in absurd (omega arith)
  one_by i j n (is_new m e lt2 name2) (was_here lt o at name there) = let w = R.bounded n _ there in absurd (omega arith)
  one_by i j n (is_new m e lt name) (is_new q f lt2 name2) = omega arith

  found : (i : ℕ) (o : Object) → slice_get s2 i ≡ Some (Here o) → lookup ((set_names names h (ns ++ fresh_names bound k)) h) s2 (slice_index ((set_names names h (ns ++ fresh_names bound k)) h) i) ≡ Some o
  found i o at = lookup_at ((set_names names h (ns ++ fresh_names bound k)) h) s2 (slice_index ((set_names names h (ns ++ fresh_names bound k)) h) i) i o size refl
      (λ j p bt e. one_by j i (slice_index ((set_names names h (ns ++ fresh_names bound k)) h) i) (subst (Came j) e (came j p bt)) (came i o at)) at

  g2_own : (i : ℕ) (o : Object) → slice_get s2 i ≡ Some (Here o) → (made h (name_in (set_names names h (ns ++ fresh_names bound k)) h) ((set_names names h (ns ++ fresh_names bound k)) h) s2 g) (slice_index ((set_names names h (ns ++ fresh_names bound k)) h) i) ≡ Some (record { owner = h; object = named (set_names names h (ns ++ fresh_names bound k)) h o })
  g2_own i o at = ap (λ v. pick h (name_in (set_names names h (ns ++ fresh_names bound k)) h) v (g (slice_index ((set_names names h (ns ++ fresh_names bound k)) h) i))) (found i o at)

  -- a name that another owner has is not in the new table
  not_found : (n : ℕ) (x : Owned) → g n ≡ Some x → (x.owner ≡ h → ⊥) → lookup ((set_names names h (ns ++ fresh_names bound k)) h) s2 n ≡ None
  not_found n x e differ = by (lookup ((set_names names h (ns ++ fresh_names bound k)) h) s2 n) refl
    where
      clash : (i : ℕ) → Came i n → ⊥
      clash i (was_here lt o at name there) = differ (ap (λ (z : Owned). z.owner) (same_Some x _ (sym e ∙ there)))
      clash i (is_new j q lt name) = let w = R.bounded n x e in omega arith

      by : (v : Option Object) → lookup ((set_names names h (ns ++ fresh_names bound k)) h) s2 n ≡ v → lookup ((set_names names h (ns ++ fresh_names bound k)) h) s2 n ≡ None
      by None q = q
      by (Some o) q = let b = lookup_back ((set_names names h (ns ++ fresh_names bound k)) h) s2 n o q in absurd (clash b.0 (subst (Came b.0) b.2 (came b.0 o b.1)))

  g2_others : (n : ℕ) (x : Owned) → g n ≡ Some x → (x.owner ≡ h → ⊥) → (made h (name_in (set_names names h (ns ++ fresh_names bound k)) h) ((set_names names h (ns ++ fresh_names bound k)) h) s2 g) n ≡ Some x
  g2_others n x e differ = ap (λ v. pick h (name_in (set_names names h (ns ++ fresh_names bound k)) h) v (g n)) (not_found n x e differ) ∙ e

  places : (c p : ℕ) → HasPlace old c p → HasPlace new c p
  places c p (u, o, e, at) = (u, o, C.rest (Shared c) (λ q. C.unshared c (sym q)) ∙ e, at)

  led_by : (i c p : ℕ) → slice_get s2 i ≡ Some (Led c p) → slice_get s i ≡ Some (Led c p)
  led_by i c p at = by (slice_get s i) refl
    where
      by : (v : Option Slot) → slice_get s i ≡ v → slice_get s i ≡ Some (Led c p)
      by None e = absurd (none-some _ (sym e ∙ slice_get-get_or s i (Led 0 0) (C.fresh_here i c p at)))
      by (Some (Here o)) e = let q = C.kept_here i o e in let z : Here q.0 ≡ Led c p = same_Some _ _ (sym q.1 ∙ at) in absurd (let w : ⊥ = cc in w)
      by (Some (Led d q)) e = e ∙ sym (C.kept_led i d q e) ∙ at

  reads_h : Reads new (set_names names h (ns ++ fresh_names bound k)) (made h (name_in (set_names names h (ns ++ fresh_names bound k)) h) ((set_names names h (ns ++ fresh_names bound k)) h) s2 g) h s2
  reads_h = record {
    size = size;
    here = g2_own;
    led = λ i c p at. let w = led_by i c p at in name_kept i (Led c p) w ∙ (R.reads h s (ns_is i (Led c p) w).0).led i c p w ∙ ap (λ l. slice_index l p) (sym (shared c));
    one = λ i j o p at bt e. one_by i j (slice_index ((set_names names h (ns ++ fresh_names bound k)) h) j) (subst (Came i) e (came i o at)) (came j p bt);
  }

  reads_by : (j : Owner) (t : List Slot) → new j ≡ Some t → Reads new (set_names names h (ns ++ fresh_names bound k)) (made h (name_in (set_names names h (ns ++ fresh_names bound k)) h) ((set_names names h (ns ++ fresh_names bound k)) h) s2 g) j t
  reads_by j t e = ⊎_elim
      (λ p. subst (λ x. Reads new (set_names names h (ns ++ fresh_names bound k)) (made h (name_in (set_names names h (ns ++ fresh_names bound k)) h) ((set_names names h (ns ++ fresh_names bound k)) h) s2 g) x t) (sym p) (subst (λ u. Reads new (set_names names h (ns ++ fresh_names bound k)) (made h (name_in (set_names names h (ns ++ fresh_names bound k)) h) ((set_names names h (ns ++ fresh_names bound k)) h) s2 g) h u) (same_Some s2 t (sym C.now ∙ ap new (sym p) ∙ e)) reads_h))
      (λ p. let is = sym (C.rest j p) ∙ e in reads_kept old new names (set_names names h (ns ++ fresh_names bound k)) g (made h (name_in (set_names names h (ns ++ fresh_names bound k)) h) ((set_names names h (ns ++ fresh_names bound k)) h) s2 g) j t (R.sound j t is)
      (names_of_others names h (ns ++ fresh_names bound k) j p) (λ c u w. shared c) (λ n o w. g2_others n _ w p) (R.reads j t is))
      (owner_cases j h)

  sound_by : (j : Owner) (t : List Slot) → new j ≡ Some t → IsSound new t
  sound_by j t e = ⊎_elim
      (λ p. sound_kept old new t places (subst (IsSound old) (same_Some s2 t (sym C.now ∙ ap new (sym p) ∙ e)) C.sound))
      (λ p. sound_kept old new t places (R.sound j t (sym (C.rest j p) ∙ e)))
      (owner_cases j h)

  only_by : (n : ℕ) (y : Owned) → (v : Option Object) → lookup ((set_names names h (ns ++ fresh_names bound k)) h) s2 n ≡ v → pick h (name_in (set_names names h (ns ++ fresh_names bound k)) h) v (g n) ≡ Some y → Stands new (set_names names h (ns ++ fresh_names bound k)) n y.owner
  only_by n y (Some o) q e = let b = lookup_back ((set_names names h (ns ++ fresh_names bound k)) h) s2 n o q in
      subst (λ x. Stands new (set_names names h (ns ++ fresh_names bound k)) n x) (ap (λ (z : Owned). z.owner) (same_Some _ y e))
      (record { table = s2; place = b.0; raw = o; is_table = C.now; is_raw = b.1; is_name = b.2 })
  only_by n y None q e = ⊎_elim from_h from_rest (owner_cases y.owner h)
    where
      st : Stands old names n y.owner
      st = R.only n y e

      from_rest : (y.owner ≡ h → ⊥) → Stands new (set_names names h (ns ++ fresh_names bound k)) n y.owner
      from_rest p = record {
        table = st.table;
        place = st.place;
        raw = st.raw;
        is_table = C.rest y.owner p ∙ st.is_table;
        is_raw = st.is_raw;
        is_name = ap (λ l. slice_index l st.place) (names_of_others names h (ns ++ fresh_names bound k) y.owner p) ∙ st.is_name;
      }

      from_h : y.owner ≡ h → Stands new (set_names names h (ns ++ fresh_names bound k)) n y.owner
      from_h p = ⊎_elim
          (λ w.
          let t_is : st.table ≡ s = same_Some _ _ (sym st.is_table ∙ ap old p ∙ w) in
          let at = ap (λ t. slice_get t st.place) (sym t_is) ∙ st.is_raw in
          let now = C.kept_here st.place st.raw at in
          let name = name_kept st.place (Here st.raw) at ∙ ap (λ j. slice_index (names j) st.place) (sym p) ∙ st.is_name in
          absurd (none-some now.0 (sym q ∙ ap (lookup ((set_names names h (ns ++ fresh_names bound k)) h) s2) (sym name) ∙ found st.place now.0 now.1)))
          (λ w. absurd (none-some st.table (sym w.0 ∙ ap old (sym p) ∙ st.is_table)))
          C.was

  bounded_by : (n : ℕ) (y : Owned) → (v : Option Object) → lookup ((set_names names h (ns ++ fresh_names bound k)) h) s2 n ≡ v → pick h (name_in (set_names names h (ns ++ fresh_names bound k)) h) v (g n) ≡ Some y → n < bound + k
  bounded_by n y None q e = let w = R.bounded n y e in omega arith
  bounded_by n y (Some o) q e = let b = lookup_back ((set_names names h (ns ++ fresh_names bound k)) h) s2 n o q in by b.0 (subst (Came b.0) b.2 (came b.0 o b.1))
    where
      by : (i : ℕ) → Came i n → n < bound + k
      by i (was_here lt p at name there) = let w = R.bounded n _ there in omega arith
      by i (is_new j f lt name) = omega arith

  fresh_by : (i : ℕ) (x : Slot) → slice_get s2 i ≡ Some x → length s ≤ i → g (slice_index ((set_names names h (ns ++ fresh_names bound k)) h) i) ≡ None
  fresh_by i x at le = by (g (slice_index ((set_names names h (ns ++ fresh_names bound k)) h) i)) refl
    where
      lt : i < length s2
      lt = slice_get_within s2 i x at

      name : slice_index ((set_names names h (ns ++ fresh_names bound k)) h) i ≡ bound + (i - length s)
      name = let z = C.size in let w = lt in name_new i (i - length s) (omega arith) (omega arith)

      by : (v : Option Owned) → g (slice_index ((set_names names h (ns ++ fresh_names bound k)) h) i) ≡ v → g (slice_index ((set_names names h (ns ++ fresh_names bound k)) h) i) ≡ None
      by None e = e
      by (Some y) e = let w = R.bounded (slice_index ((set_names names h (ns ++ fresh_names bound k)) h) i) y e in let z = name in absurd (omega arith)

  pub remade : (names2 : Naming) × (g2 : Objects) × IsReading new names2 (bound + k) g2 × IsNamed h names names2 × IsRemade h s s2 names names2 g g2
  remade = (
    (set_names names h (ns ++ fresh_names bound k)),
    (made h (name_in (set_names names h (ns ++ fresh_names bound k)) h) ((set_names names h (ns ++ fresh_names bound k)) h) s2 g),
    record { sound = sound_by; reads = reads_by; only = λ n y e. only_by n y (lookup ((set_names names h (ns ++ fresh_names bound k)) h) s2 n) refl e; bounded = λ n y e. bounded_by n y (lookup ((set_names names h (ns ++ fresh_names bound k)) h) s2 n) refl e },
    record { rest = λ j differ. names_of_others names h (ns ++ fresh_names bound k) j differ },
    record { others = g2_others; own = g2_own; kept = name_kept; fresh = fresh_by },
  )

pub remaking_is_a_step : RemakingIsAStep
remaking_is_a_step h k s s2 old new names bound g C R = ⊎_elim
    (λ e. remade h k s s2 old new names bound g C R (names h) (R.reads h s e).size (λ i x at. (e, refl)))
    (λ p. remade h k s s2 old new names bound g C R [] (ap length (sym p.1)) (λ i x at. absurd (none-some x (ap (λ t. slice_get t i) (sym p.1) ∙ at))))
    C.was
