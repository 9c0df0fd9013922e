-- What a put-back does to the whole graph.
use Rattle.std.proofs.Common.{◌≡◌, ℕ, zero, suc, ◌+◌, ◌<◌, ◌⊎◌, ⊎_elim, inl, inr, Bool, true, false, nat_eq, eq-eqb, List, [], ◌∷◌, length, map, cond, slice_get, Option, Some, None, Contains, sym, ap, ◌∙◌, subst, refl, arith}
use Rattle.std.specs.Prelude.{slice_index}
use Rattle.std.proofs.lemmas.Bool.{eqb-true}
use Rattle.std.proofs.lemmas.List.{length-map}
use Rattle.std.proofs.lemmas.Option.{same_Some, slice_get_within, slice_get-get_or, get_or_from_slice_get, none-some}
use Rattle.rr_space.specs.Graph.{Name, Own, Published, Value, Plain, At, Label, Object, IsAt}
use Rattle.rr_space.specs.Tables.{Slot, Here, Led, Table, renamed, renamed_triple, renamed_object}
use Rattle.rr_space.specs.Readings.{Owner, Space, Hand, Shared, owner_eq, Owned, Objects, Naming, Layout, HasPlace, IsInLayout, IsSound, IsReading, name_in, named}
use Rattle.rr_space.specs.Steps.{Remakes, IsRemade, IsNamed, IsDropped, name_beside, old_name}
use Rattle.rr_space.specs.Moves.{home_name, here_home}
use Rattle.rr_space.specs.Views.{emptied}
use Rattle.rr_space.proofs.Drops.{dropping_is_a_step}
use Rattle.rr_space.proofs.Frames.{owner_cases, owner_same, owner_refl, object_same}
use Rattle.rr_space.proofs.Remaking.{remaking_is_a_step}
use Rattle.rr_space.proofs.Renaming.{contains_at, at_contains, mapped_at, map_at, contains_map, contains_map_back}
use Rattle.rr_space.proofs.Keeping.{list_has}
use Rattle.rr_space.proofs.Sounds.{gets}
use Rattle.rr_move.specs.Laws.{PutsBack, PuttingBackUndoes}
use Rattle.rr_move.specs.declared.home.Detached.{Detached}
use Rattle.rr_move.proofs.Shells.{shared_hand, shared_space, space_hand, here_led, same_here}

-- the name beside the one at a place, where that one stands there alone
beside_at : (left right : List ℕ) (j n m : ℕ) → slice_get left j ≡ Some n → slice_get right j ≡ Some m → ((i : ℕ) → slice_get right i ≡ Some m → i ≡ j) → name_beside left right m ≡ n
beside_at [] right j n m l r one = absurd (none-some n l)
beside_at (x ∷ left) [] j n m l r one = absurd (none-some m r)
beside_at (x ∷ left) (y ∷ right) zero n m l r one = ap (λ v. cond v x (name_beside left right m)) (eq-eqb m y (sym (same_Some y m r))) ∙ same_Some x n l
beside_at (x ∷ left) (y ∷ right) (suc j) n m l r one = by (nat_eq m y) refl (beside_at left right j n m l r (λ i at. let w = one (suc i) at in omega (arith, w)))
  where
    by : (v : Bool) → nat_eq m y ≡ v → name_beside left right m ≡ n → name_beside (x ∷ left) (y ∷ right) m ≡ n
    by true e more = let w = one 0 (ap Some (sym (eqb-true m y e))) in absurd (let z : ⊥ = omega (arith, w) in z)
    by false e more = ap (λ v. cond v x (name_beside left right m)) e ∙ more

-- what has no pair keeps its name
beside_none : (left right : List ℕ) (m : ℕ) → ((i : ℕ) → slice_get right i ≡ Some m → ⊥) → name_beside left right m ≡ m
beside_none [] right m out = refl
beside_none (x ∷ left) [] m out = refl
beside_none (x ∷ left) (y ∷ right) m out = by (nat_eq m y) refl (beside_none left right m (λ i at. out (suc i) at))
  where
    by : (v : Bool) → nat_eq m y ≡ v → name_beside left right m ≡ m → name_beside (x ∷ left) (y ∷ right) m ≡ m
    by true e more = absurd (out 0 (ap Some (sym (eqb-true m y e))))
    by false e more = ap (λ v. cond v x (name_beside left right m)) e ∙ more

-- two maps in turn are two others, where they are so on the elements
map_twice : {A : Type 0} (f f2 h h2 : A → A) (xs : List A) → ((x : A) → Contains xs x → f (f2 x) ≡ h (h2 x)) → map f (map f2 xs) ≡ map h (map h2 xs)
map_twice f f2 h h2 [] same = refl
map_twice f f2 h h2 (x ∷ xs) same =
    ap (λ y. y ∷ map f (map f2 xs)) (same x (0, omega arith, refl)) ∙ ap (λ ys. h (h2 x) ∷ ys) (map_twice f f2 h h2 xs (λ y has. same y (suc has.0, let lt = has.1 in omega (arith, lt), has.2)))

renamed_twice : (f f2 h h2 : Name → Name) (o : Object) → ((l : Label) (x : Value) → Contains o.triples (l, x) → renamed f (renamed f2 x) ≡ renamed h (renamed h2 x))
    → renamed_object f (renamed_object f2 o) ≡ renamed_object h (renamed_object h2 o)
renamed_twice f f2 h h2 o same = ap (λ ts. record o { triples = ts })
    (map_twice (renamed_triple f) (renamed_triple f2) (renamed_triple h) (renamed_triple h2) o.triples (λ t has. ap (λ v. (t.0, v)) (same t.0 t.1 has)))

-- the tables without those of one owner
abbrev without_table : Owner → Layout → Layout
without_table a old h = cond (owner_eq h a) None (old h)

table_gone : (a : Owner) (old : Layout) → without_table a old a ≡ None
table_gone a old = ap (λ v. cond v None (old a)) (owner_refl a)

table_stays : (a : Owner) (old : Layout) (h : Owner) → (h ≡ a → ⊥) → without_table a old h ≡ old h
table_stays a old h differ = by (owner_eq h a) refl
  where
    by : (v : Bool) → owner_eq h a ≡ v → without_table a old h ≡ old h
    by true p = absurd (differ (owner_same h a p))
    by false p = ap (λ v. cond v None (old h)) p

module _ (r : ℕ) (d : Detached) (now new : Table) (old after : Layout) (names : Naming) (bound : ℕ) (g : Objects) (P : PutsBack r d now new old after) (R : IsReading old names bound g) where
  abbrev os : List Object
  os = d.message.objects

  abbrev hs : List Slot
  hs = map Here os

  abbrev slots : List ℕ
  slots = d.home.slots

  abbrev mid : Layout
  mid = without_table (Hand r) old

  abbrev left : List ℕ
  left = map (slice_index (names (Space r))) slots

  place_mid : (c p : ℕ) → HasPlace old c p → HasPlace mid c p
  place_mid c p (u, o, is, at) = (u, o, table_stays (Hand r) old (Shared c) (shared_hand c r) ∙ is, at)

  dropped : (g1 : Objects) × IsReading mid names bound g1 × IsDropped (Hand r) g g1
  dropped = dropping_is_a_step (Hand r) old mid names bound g (record { gone = table_gone (Hand r) old; rest = λ h differ. table_stays (Hand r) old h differ; unshared = λ c e. shared_hand c r (sym e) }) R

  -- the object that comes back into a slot of the home
  returned : (n : ℕ) → Contains slots n → (i : ℕ) × (o : Object) × (slice_get hs i ≡ Some (Here o)) × (slice_get new.slots n ≡ Some (here_home slots o))
  returned n has =
      let a = at_contains slots n has in
      let o = gets os a.0 (let lt = slice_get_within slots a.0 n a.1 in let size = P.home.size in omega (arith, lt, size)) in
      (a.0, o.0, map_at Here os a.0 o.0 o.1, P.back.slots.named n a.0 (here_home slots o.0) a.1 (map_at (here_home slots) os a.0 o.0 o.1))

  -- the slot of a place of the home
  slot_at : (j : ℕ) → j < length hs → (s : ℕ) × (slice_get slots j ≡ Some s) × (slice_index slots j ≡ s)
  slot_at j lt =
      let s = gets slots j (let same = length-map os Here in let size = P.home.size in omega (arith, lt, same, size)) in
      (s.0, s.1, get_or_from_slice_get slots j s.0 0 s.1)

  inside : (x : Value) → IsInLayout old now.slots x → IsInLayout mid new.slots x
  inside (Plain n) w = tt
  inside (At (Own i)) w = let s = P.back.slots.size in omega (arith, w, s)
  inside (At (Published c p)) w = place_mid c p w

  at_home : (x : Value) → IsInLayout old hs x → IsInLayout mid new.slots (renamed (home_name slots) x)
  at_home (Plain n) w = tt
  at_home (At (Own j)) w =
      let s = slot_at j w in
      let lt = slice_get_within now.slots s.0 (Here emptied) (P.shells s.0 (contains_at slots j s.0 s.1)) in
      let size = P.back.slots.size in let is = s.2 in omega (arith, lt, size, is)
  at_home (At (Published c p)) w = place_mid c p w

  returned_inside : (i : ℕ) (o p : Object) (l : Label) (x : Value) → slice_get hs i ≡ Some (Here p) → renamed_object (home_name slots) p ≡ o → Contains o.triples (l, x) → IsInLayout mid new.slots x
  returned_inside i o p l x at is has =
      let w = contains_map_back (renamed_triple (home_name slots)) p.triples (l, x) (subst (λ (q : Object). Contains q.triples (l, x)) (sym is) has) in
      subst (IsInLayout mid new.slots) (ap (λ (t : Label × Value). t.1) w.2) (at_home w.0.1 ((R.sound (Hand r) hs P.hand).within i p w.0.0 w.0.1 at w.1))

  shell_led : (i c p : ℕ) → Contains slots i → slice_get now.slots i ≡ Some (Led c p) → ⊥
  shell_led i c p has at = here_led emptied c p (same_Some (Here emptied) (Led c p) (sym (P.shells i has) ∙ at))

  new_sound : IsSound mid new.slots
  new_sound = record {
    within = λ i o l x at has. ⊎_elim
        (λ w. let b = returned i w in returned_inside b.0 o b.1 l x b.2 (same_here (renamed_object (home_name slots) b.1) o (same_Some (here_home slots b.1) (Here o) (sym b.3 ∙ at))) has)
        (λ out. inside x ((R.sound (Space r) now.slots P.space).within i o l x (sym (P.back.slots.others i out) ∙ at) has))
        (list_has slots i);
    led = λ i c p at. ⊎_elim
        (λ w. let b = returned i w in absurd (here_led (renamed_object (home_name slots) b.1) c p (same_Some (here_home slots b.1) (Led c p) (sym b.3 ∙ at))))
        (λ out. place_mid c p ((R.sound (Space r) now.slots P.space).led i c p (sym (P.back.slots.others i out) ∙ at)))
        (list_has slots i);
  }

  after_mid : (h : Owner) → (h ≡ Space r → ⊥) → ((h ≡ Hand r) ⊎ (h ≡ Hand r → ⊥)) → after h ≡ mid h
  after_mid h differ (inl e) = subst (λ k. after k ≡ mid k) (sym e) (P.hand_after ∙ sym (table_gone (Hand r) old))
  after_mid h differ (inr other) = P.rest h differ other ∙ sym (table_stays (Hand r) old h other)

  remakes : Remakes (Space r) 0 now.slots new.slots mid after
  remakes = record {
    was = inl (table_stays (Hand r) old (Space r) (space_hand r) ∙ P.space);
    now = P.space_after;
    rest = λ h differ. after_mid h differ (owner_cases h (Hand r));
    unshared = λ c e. shared_space c r (sym e);
    size = let s = P.back.slots.size in omega (arith, s);
    kept_here = λ i o at. ⊎_elim (λ w. let b = returned i w in (renamed_object (home_name slots) b.1, b.3)) (λ out. (o, P.back.slots.others i out ∙ at)) (list_has slots i);
    kept_led = λ i c p at. ⊎_elim (λ w. absurd (shell_led i c p w at)) (λ out. P.back.slots.others i out ∙ at) (list_has slots i);
    fresh_here = λ i c p at. let lt = slice_get_within new.slots i (Led c p) at in let s = P.back.slots.size in omega (arith, lt, s);
    sound = new_sound;
  }

  remade : (names2 : Naming) × (g2 : Objects) × IsReading after names2 (bound + 0) g2 × IsNamed (Space r) names names2 × IsRemade (Space r) now.slots new.slots names names2 dropped.0 g2
  remade = remaking_is_a_step (Space r) 0 now.slots new.slots mid after names bound dropped.0 remakes dropped.1

  stay_space : (i : ℕ) (x : Slot) → slice_get now.slots i ≡ Some x → slice_index (remade.0 (Space r)) i ≡ slice_index (names (Space r)) i
  stay_space i x at = remade.4.kept i x at

  -- where the hand's objects are gone and nothing else is, nothing comes
  none_stays : (n : ℕ) → dropped.0 n ≡ None → remade.1 n ≡ None
  none_stays n none = by (remade.1 n) refl
    where
      in_space : (i : ℕ) (raw : Object) (s : Slot) → slice_get new.slots i ≡ Some (Here raw) → slice_get now.slots i ≡ Some s → slice_index (remade.0 (Space r)) i ≡ n → ⊥
      in_space i raw (Here o) here at name =
          let mid_space = table_stays (Hand r) old (Space r) (space_hand r) ∙ P.space in
          none-some _ (sym none ∙ ap dropped.0 (sym name ∙ stay_space i (Here o) at) ∙ (dropped.1.reads (Space r) now.slots mid_space).here i o at)
      in_space i raw (Led c p) here at name = here_led raw c p (same_Some (Here raw) (Led c p) (sym here ∙ remakes.kept_led i c p at))

      stands : (h : Owner) (t : List Slot) (i : ℕ) (raw : Object) → after h ≡ Some t → slice_get t i ≡ Some (Here raw) → slice_index (remade.0 h) i ≡ n → ((h ≡ Space r) ⊎ (h ≡ Space r → ⊥)) → ⊥
      stands h t i raw table at name (inl e) =
          let is : t ≡ new.slots = same_Some t new.slots (sym table ∙ ap after e ∙ P.space_after) in
          let here : slice_get new.slots i ≡ Some (Here raw) = subst (λ u. slice_get u i ≡ Some (Here raw)) is at in
          let s = gets now.slots i (let lt = slice_get_within new.slots i (Here raw) here in let size = P.back.slots.size in omega (arith, lt, size)) in
          in_space i raw s.0 here s.1 (ap (λ k. slice_index (remade.0 k) i) (sym e) ∙ name)
      stands h t i raw table at name (inr differ) =
          let there = (dropped.1.reads h t (sym (after_mid h differ (owner_cases h (Hand r))) ∙ table)).here i raw at in
          none-some _ (sym none ∙ ap dropped.0 (sym name ∙ ap (λ (ns : List ℕ). slice_index ns i) (remade.3.rest h differ)) ∙ there)

      by : (v : Option Owned) → remade.1 n ≡ v → remade.1 n ≡ None
      by None e = e
      by (Some y) e = let st = remade.2.only n y e in absurd (stands y.owner st.table st.place st.raw st.is_table st.is_raw st.is_name (owner_cases y.owner (Space r)))

  others_stay : (n : ℕ) (x : Owned) → g n ≡ Some x → (Contains left n → ⊥) → (x.owner ≡ Hand r → ⊥) → remade.1 n ≡ Some x
  others_stay n x there out differ = let st = R.only n x there in by st.table st.place st.raw st.is_table st.is_raw st.is_name (owner_cases x.owner (Space r))
    where
      by : (t : List Slot) (i : ℕ) (raw : Object) → old x.owner ≡ Some t → slice_get t i ≡ Some (Here raw) → slice_index (names x.owner) i ≡ n → ((x.owner ≡ Space r) ⊎ (x.owner ≡ Space r → ⊥)) → remade.1 n ≡ Some x
      by t i raw table at name (inr other) = remade.4.others n x (dropped.2.kept n x there differ) other
      by t i raw table at name (inl e) =
          let is : t ≡ now.slots = same_Some t now.slots (sym table ∙ ap old e ∙ P.space) in
          let here : slice_get now.slots i ≡ Some (Here raw) = subst (λ u. slice_get u i ≡ Some (Here raw)) is at in
          let same : slice_index (names (Space r)) i ≡ n = ap (λ k. slice_index (names k) i) (sym e) ∙ name in
          let apart : Contains slots i → ⊥ = λ has. out (subst (λ k. Contains left k) same (contains_map (slice_index (names (Space r))) slots i has)) in
          let stood = (R.reads (Space r) now.slots P.space).here i raw here in
          let object = object_same old now.slots (Space r) (Space r) names remade.0 i raw
          (λ j lt. let s = gets now.slots j lt in stay_space j s.0 s.1) (λ c u w. remade.3.rest (Shared c) (shared_space c r)) (R.sound (Space r) now.slots P.space) here in
          ap remade.1 (sym same ∙ sym (stay_space i (Here raw) here)) ∙ remade.4.own i raw (P.back.slots.others i apart ∙ here)
          ∙ ap (λ (o : Object). Some (record { owner = Space r; object = o })) object ∙ sym stood ∙ ap g same ∙ there

  -- the name that a place of the message has in the hand, and the object there
  hand_at : (i m : ℕ) (o : Object) → slice_get hs i ≡ Some (Here o) → slice_get (names (Hand r)) i ≡ Some m → g m ≡ Some (record { owner = Hand r; object = named names (Hand r) o })
  hand_at i m o at is = ap g (sym (get_or_from_slice_get (names (Hand r)) i m 0 is)) ∙ (R.reads (Hand r) hs P.hand).here i o at

  hand_size : length (names (Hand r)) ≡ length hs
  hand_size = (R.reads (Hand r) hs P.hand).size

  object_of : (i m : ℕ) → slice_get (names (Hand r)) i ≡ Some m → (o : Object) × (slice_get hs i ≡ Some (Here o))
  object_of i m is =
      let lt = slice_get_within (names (Hand r)) i m is in
      let o = gets os i (let same = length-map os Here in let size = hand_size in omega (arith, lt, same, size)) in
      (o.0, map_at Here os i o.0 o.1)

  -- a value of the message has its old name again
  old_names : (x : Value) → IsInLayout old hs x → renamed (name_in remade.0 (Space r)) (renamed (home_name slots) x) ≡ renamed (old_name left (names (Hand r))) (renamed (name_in names (Hand r)) x)
  old_names (Plain n) w = refl
  old_names (At (Own j)) w =
      let s = slot_at j w in
      let m = slice_index (names (Hand r)) j in
      let m_at : slice_get (names (Hand r)) j ≡ Some m = slice_get-get_or (names (Hand r)) j 0 (let size = hand_size in omega (arith, w, size)) in
      let one : (i : ℕ) → slice_get (names (Hand r)) i ≡ Some m → i ≡ j = λ i at.
      let o = object_of i m at in let p = object_of j m m_at in
      (R.reads (Hand r) hs P.hand).one i j o.0 p.0 o.1 p.1 (get_or_from_slice_get (names (Hand r)) i m 0 at) in
      let beside = beside_at left (names (Hand r)) j (slice_index (names (Space r)) s.0) m (map_at (slice_index (names (Space r))) slots j s.0 s.1) m_at one in
      ap (λ n. At (Own n)) (ap (slice_index (remade.0 (Space r))) s.2 ∙ stay_space s.0 (Here emptied) (P.shells s.0 (contains_at slots j s.0 s.1)) ∙ sym beside)
  old_names (At (Published c p)) (u, o, is, at) =
      let q = slice_index (names (Shared c)) p in
      let out : (i : ℕ) → slice_get (names (Hand r)) i ≡ Some q → ⊥ = λ i here.
      let b = object_of i q here in
      shared_hand c r (ap (λ (y : Owned). y.owner) (same_Some (record { owner = Shared c; object = named names (Shared c) o }) (record { owner = Hand r; object = named names (Hand r) b.0 })
      (sym ((R.reads (Shared c) u is).here p o at) ∙ hand_at i q b.0 b.1 here))) in
      ap (λ n. At (Own n)) (ap (λ (ns : List ℕ). slice_index ns p) (remade.3.rest (Shared c) (shared_space c r)) ∙ sym (beside_none left (names (Hand r)) q out))

  -- each shell is again what its pair is
  came_back : (n m i : ℕ) (x y : Owned) → IsAt left n i → IsAt (names (Hand r)) m i → g n ≡ Some x → g m ≡ Some y
      → remade.1 n ≡ Some (record { owner = x.owner; object = renamed_object (old_name left (names (Hand r))) y.object })
  came_back n m i x y left_at right_at here there =
      let a = mapped_at (slice_index (names (Space r))) slots i n left_at in
      let shell = P.shells a.0 (contains_at slots i a.0 a.1) in
      let o = object_of i m right_at in
      let raw = mapped_at Here os i (Here o.0) o.1 in
      let is : raw.0 ≡ o.0 = same_here raw.0 o.0 raw.2 in
      let back = P.back.slots.named a.0 i (here_home slots raw.0) a.1 (map_at (here_home slots) os i raw.0 raw.1) ∙ ap (λ p. Some (here_home slots p)) is in
      let owner : Space r ≡ x.owner = ap (λ (z : Owned). z.owner) (same_Some (record { owner = Space r; object = named names (Space r) emptied }) x
      (sym ((R.reads (Space r) now.slots P.space).here a.0 emptied shell) ∙ ap g a.2 ∙ here)) in
      let object : named names (Hand r) o.0 ≡ y.object = ap (λ (z : Owned). z.object) (same_Some (record { owner = Hand r; object = named names (Hand r) o.0 }) y (sym (hand_at i m o.0 o.1 right_at) ∙ there)) in
      let same = renamed_twice (name_in remade.0 (Space r)) (home_name slots) (old_name left (names (Hand r))) (name_in names (Hand r)) o.0
      (λ l v has. old_names v ((R.sound (Hand r) hs P.hand).within i o.0 l v o.1 has)) in
      ap remade.1 (sym a.2 ∙ sym (stay_space a.0 (Here emptied) shell)) ∙ remade.4.own a.0 (renamed_object (home_name slots) o.0) back
      ∙ ap (λ (p : Object). Some (record { owner = Space r; object = p })) (same ∙ ap (renamed_object (old_name left (names (Hand r)))) object)
      ∙ ap (λ h. Some (record { owner = h; object = renamed_object (old_name left (names (Hand r))) y.object })) owner

pub putting_back_undoes : PuttingBackUndoes
putting_back_undoes r d now new old after names bound g P R =
    let s = remade r d now new old after names bound g P R in
    let t = dropped r d now new old after names bound g P R in (
      s.0,
      s.1,
      subst (λ k. IsReading after s.0 k s.1) (let e : bound + 0 ≡ bound = omega arith in e) s.2,
      record { space = stay_space r d now new old after names bound g P R; rest = λ h differ other. s.3.rest h differ },
      record {
        back = came_back r d now new old after names bound g P R;
        gone = λ m y e own. none_stays r d now new old after names bound g P R m (t.2.gone m y e own);
        kept = λ n x e out differ. others_stay r d now new old after names bound g P R n x e out differ;
        none = λ n e. none_stays r d now new old after names bound g P R n (t.2.none n e);
      },
    )
