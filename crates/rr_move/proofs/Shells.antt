-- What is left of a value that was taken out, in its space and in the whole graph.
use Rattle.std.proofs.Common.{◌≡◌, ℕ, ◌+◌, ◌<◌, ◌⊎◌, ⊎_elim, inl, inr, Bool, true, false, List, [], ◌∷◌, ◌++◌, length, map, cond, slice_get, Some, None, Contains, sym, ap, ◌∙◌, subst, refl, arith}
use Rattle.std.specs.Prelude.{slice_index}
use Rattle.std.specs.Option.{option_and_then}
use Rattle.std.proofs.lemmas.List.{length-map}
use Rattle.std.proofs.lemmas.List.Elements.{Contains-append_right}
use Rattle.std.proofs.lemmas.Option.{same_Some, slice_get_within, slice_get-get_or, get_or_from_slice_get, none-some}
use Rattle.rr_space.specs.Graph.{Graph, Name, Own, Published, Value, Plain, At, Label, Object, Leads, IsPart, IsAlike, Paired}
use Rattle.rr_space.specs.Tables.{Slot, Here, Led, Below, Table, There, joined, numbered_object, resolve, space_graph, object_in, renamed, message_graph}
use Rattle.rr_space.specs.Readings.{Owner, Space, Hand, Shared, owner_eq, Owned, Objects, Naming, Layout, HasPlace, IsInLayout, IsSound, IsReading, Knows, IsShut, name_in, named, whole}
use Rattle.rr_space.specs.Sound.{IsStanding}
use Rattle.rr_space.specs.Steps.{Remakes, IsRemade, IsNamed}
use Rattle.rr_space.specs.Views.{emptied}
use Rattle.rr_space.proofs.Frames.{owner_cases, owner_same, owner_refl, object_same}
use Rattle.rr_space.proofs.Inside.{alike_inside}
use Rattle.rr_space.proofs.Remaking.{remaking_is_a_step}
use Rattle.rr_space.proofs.Renaming.{contains_at, mapped_at, map_at}
use Rattle.rr_space.proofs.Keeping.{list_has}
use Rattle.rr_space.proofs.Sounds.{gets, raw_in, sound_is_sealed, sound_is_shut, joined_in}
use Rattle.rr_space.proofs.Spaces.{spaces_are_inside}
use Rattle.rr_share.proofs.Searching.{at_contains}
use Rattle.rr_copy.proofs.Shut.{message_is_shut}
use Rattle.rr_move.specs.Laws.{MovedIsAShell, TakesOut, TakingOutIsAMove}
use Rattle.rr_move.specs.declared.home.Detached.{Detached}

nothing_in : (l : Label) (x : Value) → Contains emptied.triples (l, x) → ⊥
nothing_in l x has = let lt = has.1 in omega (arith, lt)

pub moved_is_shell : MovedIsAShell
moved_is_shell d was now e n has =
    let here : space_graph now (Own n) ≡ Some emptied = ap (option_and_then (object_in now.slots)) (e.slots.named n has) in
    (here, λ l x under. empty under.0 under.1 l x under.2 under.3 under.4 here)
  where
    empty : (m : Name) (o : Object) (l : Label) (x : Value) → At (Own n) ≡ At m → space_graph now m ≡ Some o → Contains o.triples (l, x) → space_graph now (Own n) ≡ Some emptied → ⊥
    empty m o l x same at under here =
        let name : Own n ≡ m = cc in
        let is : emptied ≡ o = same_Some emptied o (sym here ∙ ap (space_graph now) name ∙ at) in
        nothing_in l x (subst (λ (y : Object). Contains y.triples (l, x)) (sym is) under)

-- what a value reaches in a shut graph is there
reach_there : (g : Graph) → IsShut g → (v : Value) → There g v → (n : Name) → (path : List Label) → Leads g v path (At n) → (o : Object) × (g n ≡ Some o)
reach_there g shut v there n [] e = there n e
reach_there g shut v there n (l ∷ path) (x, under, more) = reach_there g shut x (shut.all under.0 under.1 l x under.3 under.4) n path more

-- the tables once the message's objects stand in the hand, while the space is as it was
abbrev with_hand : Layout → ℕ → List Slot → Layout
with_hand old r t h = cond (owner_eq h (Hand r)) (Some t) (old h)

with_same : (old : Layout) (r : ℕ) (t : List Slot) → with_hand old r t (Hand r) ≡ Some t
with_same old r t = ap (λ v. cond v (Some t) (old (Hand r))) (owner_refl (Hand r))

with_other : (old : Layout) (r : ℕ) (t : List Slot) (h : Owner) → (h ≡ Hand r → ⊥) → with_hand old r t h ≡ old h
with_other old r t h differ = by (owner_eq h (Hand r)) refl
  where
    by : (v : Bool) → owner_eq h (Hand r) ≡ v → with_hand old r t h ≡ old h
    by true p = absurd (differ (owner_same h (Hand r) p))
    by false p = ap (λ v. cond v (Some t) (old h)) p

pub shared_hand : (c r : ℕ) → Shared c ≡ Hand r → ⊥
shared_hand c r e = cc

pub shared_space : (c r : ℕ) → Shared c ≡ Space r → ⊥
shared_space c r e = cc

pub space_hand : (r : ℕ) → Space r ≡ Hand r → ⊥
space_hand r e = cc

hand_space : (r : ℕ) → Hand r ≡ Space r → ⊥
hand_space r e = cc

pub here_led : (o : Object) (c p : ℕ) → Here o ≡ Led c p → ⊥
here_led o c p e = cc

pub same_here : (o p : Object) → Here o ≡ Here p → o ≡ p
same_here o p e = cc

same_own : (n m : ℕ) → Own n ≡ Own m → n ≡ m
same_own n m e = cc

module _ (r : ℕ) (v : Value) (d : Detached) (was now : Table) (old new : Layout) (names : Naming) (bound : ℕ) (g : Objects) (T : TakesOut r v d was now old new) (R : IsReading old names bound g) where
  abbrev os : List Object
  os = d.message.objects

  abbrev hs : List Slot
  hs = map Here os

  abbrev mid : Layout
  mid = with_hand old r hs

  not_led : (i c p : ℕ) → slice_get hs i ≡ Some (Led c p) → ⊥
  not_led i c p at = let m = mapped_at Here os i (Led c p) at in here_led m.0 c p m.2

  place_mid : (c p : ℕ) → HasPlace old c p → HasPlace mid c p
  place_mid c p (u, o, is, at) = (u, o, with_other old r hs (Shared c) (shared_hand c r) ∙ is, at)

  place_known : (c p : ℕ) (ps : List Object) → Contains (d.message.root_below ++ joined d.message.below) (c, ps) → p < length ps → HasPlace old c p
  place_known c p ps has lt =
      let k = T.message_knows.known c ps has in
      let same : length ps ≡ length k.0 = ap length (sym k.2) ∙ length-map k.0 (numbered_object c) in
      let raw = gets k.0 p (omega (arith, lt, same)) in
      (map Here k.0, raw.0, k.1, map_at Here k.0 p raw.0 raw.1)

  hand_within : (i : ℕ) (o : Object) (l : Label) (x : Value) → slice_get hs i ≡ Some (Here o) → Contains o.triples (l, x) → IsInLayout old hs x
  hand_within i o l x at has =
      let lt = slice_get_within hs i (Here o) at in
      let b = gets d.message.below i (omega (arith, lt, T.message_sound.objects.count)) in
      by b.0 (λ e h. Contains-append_right d.message.root_below (joined d.message.below) e (joined_in d.message.below i b.0 e b.1 h)) x (T.message_sound.objects.slots i (Here o) b.0 at b.1 l x has)
    where
      by : (b : Below) → ((e : ℕ × List Object) → Contains b e → Contains (d.message.root_below ++ joined d.message.below) e) → (x : Value) → IsStanding (length hs) b x → IsInLayout old hs x
      by b more (Plain n) s = tt
      by b more (At (Own n)) s = s
      by b more (At (Published c p)) s = place_known c p s.0 (more (c, s.0) s.1) s.2

  packed : Remakes (Hand r) (length os) [] hs old mid
  packed = record {
    was = inr (T.hand, refl);
    now = with_same old r hs;
    rest = with_other old r hs;
    unshared = λ c e. shared_hand c r (sym e);
    size = let same = length-map os Here in omega (arith, same);
    kept_here = λ i o at. absurd (none-some _ at);
    kept_led = λ i c p at. absurd (none-some _ at);
    fresh_here = λ i c p at. absurd (not_led i c p at);
    sound = record { within = hand_within; led = λ i c p at. absurd (not_led i c p at) };
  }

  first : (names2 : Naming) × (g2 : Objects) × IsReading mid names2 (bound + length os) g2 × IsNamed (Hand r) names names2 × IsRemade (Hand r) [] hs names names2 g g2
  first = remaking_is_a_step (Hand r) (length os) [] hs old mid names bound g packed R

  shut_was : IsShut (space_graph was)
  shut_was = sound_is_shut old was.slots was.below T.sound T.knows

  -- an object stands in each slot of the home
  is_here : (n : ℕ) → Contains d.home.slots n → (o : Object) × (slice_get was.slots n ≡ Some (Here o))
  is_here n has =
      let a = at_contains d.home.slots n has in
      let p = T.copy.alike.left n a.0 a.1 in
      let o = reach_there (space_graph was) shut_was (resolve was.slots v) T.there (Own n) p.0.0 p.0.1 in
      let w = raw_in was.slots (joined was.below) n o.0 o.1 in
      (w.0, w.1)

  not_mine : (i c p : ℕ) → Contains d.home.slots i → slice_get was.slots i ≡ Some (Led c p) → ⊥
  not_mine i c p has at = let h = is_here i has in here_led h.0 c p (same_Some (Here h.0) (Led c p) (sym h.1 ∙ at))

  gone : (i : ℕ) (o : Object) (l : Label) (x : Value) → slice_get now.slots i ≡ Some (Here o) → Contains o.triples (l, x) → Contains d.home.slots i → ⊥
  gone i o l x at under has =
      let is : emptied ≡ o = same_here emptied o (same_Some (Here emptied) (Here o) (sym (T.emptied.slots.named i has) ∙ at)) in
      nothing_in l x (subst (λ (y : Object). Contains y.triples (l, x)) (sym is) under)

  inside : (x : Value) → IsInLayout old was.slots x → IsInLayout mid now.slots x
  inside (Plain n) w = tt
  inside (At (Own i)) w = let s = T.emptied.slots.size in omega (arith, w, s)
  inside (At (Published c p)) w = place_mid c p w

  by_hand : (h : Owner) → (h ≡ Space r → ⊥) → ((h ≡ Hand r) ⊎ (h ≡ Hand r → ⊥)) → new h ≡ mid h
  by_hand h differ (inl e) = subst (λ k. new k ≡ mid k) (sym e) (T.hand_after ∙ sym (with_same old r hs))
  by_hand h differ (inr other) = T.rest h differ other ∙ sym (with_other old r hs h other)

  now_sound : IsSound mid now.slots
  now_sound = record {
    within = λ i o l x at has. ⊎_elim (λ w. absurd (gone i o l x at has w))
        (λ no. inside x ((R.sound (Space r) was.slots T.space).within i o l x (sym (T.emptied.slots.others i no) ∙ at) has)) (list_has d.home.slots i);
    led = λ i c p at. ⊎_elim (λ w. absurd (here_led emptied c p (same_Some (Here emptied) (Led c p) (sym (T.emptied.slots.named i w) ∙ at))))
        (λ no. place_mid c p ((R.sound (Space r) was.slots T.space).led i c p (sym (T.emptied.slots.others i no) ∙ at))) (list_has d.home.slots i);
  }

  shelled : Remakes (Space r) 0 was.slots now.slots mid new
  shelled = record {
    was = inl (with_other old r hs (Space r) (space_hand r) ∙ T.space);
    now = T.space_after;
    rest = λ h differ. by_hand h differ (owner_cases h (Hand r));
    unshared = λ c e. shared_space c r (sym e);
    size = let s = T.emptied.slots.size in omega (arith, s);
    kept_here = λ i o at. ⊎_elim (λ has. (emptied, T.emptied.slots.named i has)) (λ no. (o, T.emptied.slots.others i no ∙ at)) (list_has d.home.slots i);
    kept_led = λ i c p at. ⊎_elim (λ has. absurd (not_mine i c p has at)) (λ no. T.emptied.slots.others i no ∙ at) (list_has d.home.slots i);
    fresh_here = λ i c p at. let lt = slice_get_within now.slots i (Led c p) at in let s = T.emptied.slots.size in omega (arith, lt, s);
    sound = now_sound;
  }

  second : (names2 : Naming) × (g2 : Objects) × IsReading new names2 (bound + length os + 0) g2 × IsNamed (Space r) first.0 names2 × IsRemade (Space r) was.slots now.slots first.0 names2 first.1 g2
  second = remaking_is_a_step (Space r) 0 was.slots now.slots mid new first.0 (bound + length os) first.1 shelled first.2

  stay_rest : (h : Owner) → (h ≡ Space r → ⊥) → (h ≡ Hand r → ⊥) → second.0 h ≡ names h
  stay_rest h a b = second.3.rest h a ∙ first.3.rest h b

  stay_space : (i : ℕ) (x : Slot) → slice_get was.slots i ≡ Some x → slice_index (second.0 (Space r)) i ≡ slice_index (names (Space r)) i
  stay_space i x at = second.4.kept i x at ∙ ap (λ (ns : List ℕ). slice_index ns i) (first.3.rest (Space r) (space_hand r))

  knows_new : Knows (d.message.root_below ++ joined d.message.below) new
  knows_new = record { known = λ c ps has. let k = T.message_knows.known c ps has in (k.0, T.rest (Shared c) (shared_space c r) (shared_hand c r) ∙ k.1, k.2) }

  hand_size : length (second.0 (Hand r)) ≡ length os
  hand_size = (second.2.reads (Hand r) hs T.hand_after).size ∙ length-map os Here

  right_at : (i : ℕ) → i < length os → slice_get (map Own (second.0 (Hand r))) i ≡ Some (Own (slice_index (second.0 (Hand r)) i))
  right_at i lt = map_at Own (second.0 (Hand r)) i (slice_index (second.0 (Hand r)) i) (slice_get-get_or (second.0 (Hand r)) i 0 (omega (arith, lt, hand_size)))

  abbrev left_names : List Name
  left_names = map (λ n. name_in names (Space r) (Own n)) d.home.slots

  abbrev right_names : List Name
  right_names = map Own (second.0 (Hand r))

  alike : IsAlike (whole g) (renamed (name_in names (Space r)) (resolve was.slots v)) (whole second.1) (renamed (name_in second.0 (Hand r)) d.message.root) (Paired left_names right_names)
  alike =
      let shut = message_is_shut new d.message T.message_sound knows_new in
      let u : Table = record { slots = hs; below = d.message.root_below ∷ d.message.below; keys = d.message.keys; limit = 0; owner = 0; next_message = 0 } in
      alike_inside (space_graph was) (name_in names (Space r)) (whole g) (message_graph d.message) (name_in second.0 (Hand r)) (whole second.1) (resolve was.slots v) d.message.root d.home.slots right_names
      (record {
        left = spaces_are_inside old names bound g (Space r) was R T.space (λ c e. shared_space c r (sym e)) T.knows shut_was;
        right = spaces_are_inside new second.0 (bound + length os + 0) second.1 (Hand r) u second.2 T.hand_after (λ c e. shared_hand c r (sym e)) knows_new shut.0;
        left_sealed = sound_is_sealed was.slots was.below T.sound;
        right_sealed = T.message_sealed;
        published = λ c p. ap (λ (ns : List ℕ). Own (slice_index ns p)) (sym (stay_rest (Shared c) (shared_space c r) (shared_hand c r)));
      })
      T.there shut.1 T.copy.alike
      (λ i o e. let w = raw_in hs (d.message.root_below ++ joined d.message.below) i o e in let lt = slice_get_within hs i (Here w.0) w.1 in right_at i (let same = length-map os Here in omega (arith, lt, same)))

  -- the name at a place of the hand's list is new
  fresh_at : (i n : ℕ) → slice_get right_names i ≡ Some (Own n) → g n ≡ None
  fresh_at i n e =
      let m = mapped_at Own (second.0 (Hand r)) i (Own n) e in
      let lt = slice_get_within (second.0 (Hand r)) i m.0 m.1 in
      let slot = gets hs i (let same = length-map os Here in let size = hand_size in omega (arith, lt, same, size)) in
      let none = first.4.fresh i slot.0 slot.1 (omega arith) in
      let place : slice_index (second.0 (Hand r)) i ≡ m.0 = get_or_from_slice_get (second.0 (Hand r)) i m.0 0 m.1 in
      let name : n ≡ slice_index (first.0 (Hand r)) i = sym (same_own m.0 n m.2) ∙ sym place ∙ ap (λ (ns : List ℕ). slice_index ns i) (second.3.rest (Hand r) (hand_space r)) in
      ap g name ∙ none

  left_at : (i s : ℕ) → slice_get d.home.slots i ≡ Some s → slice_get left_names i ≡ Some (Own (slice_index (names (Space r)) s))
  left_at i s at = map_at (λ n. name_in names (Space r) (Own n)) d.home.slots i s at

  -- the name at a place of the hand's list is of the part of the root
  hand_part : (i : ℕ) → i < length os → IsPart (whole second.1) (renamed (name_in second.0 (Hand r)) d.message.root) (Own (slice_index (second.0 (Hand r)) i))
  hand_part i lt =
      let s = gets d.home.slots i (let size = T.copy.size in omega (arith, lt, size)) in
      alike.right (Own (slice_index (names (Space r)) s.0)) (Own (slice_index (second.0 (Hand r)) i)) (i, left_at i s.0 s.1, right_at i lt)

  -- the name of a slot of the home is of the part of the value
  space_part : (s : ℕ) → Contains d.home.slots s → IsPart (whole g) (renamed (name_in names (Space r)) (resolve was.slots v)) (Own (slice_index (names (Space r)) s))
  space_part s has =
      let a = at_contains d.home.slots s has in
      let lt = slice_get_within d.home.slots a.0 s a.1 in
      alike.left (Own (slice_index (names (Space r)) s)) (Own (slice_index (second.0 (Hand r)) a.0)) (a.0, left_at a.0 s a.1, right_at a.0 (let size = T.copy.size in omega (arith, lt, size)))

  space_fresh : (i : ℕ) (raw : Object) (s : Slot) → slice_get now.slots i ≡ Some (Here raw) → slice_get was.slots i ≡ Some s → g (slice_index (second.0 (Space r)) i) ≡ None → ⊥
  space_fresh i raw (Here o) here at none = none-some _ (sym none ∙ ap g (stay_space i (Here o) at) ∙ (R.reads (Space r) was.slots T.space).here i o at)
  space_fresh i raw (Led c p) here at none = here_led raw c p (same_Some (Here raw) (Led c p) (sym here ∙ shelled.kept_led i c p at))

  new_is_hands : (n : ℕ) (y : Owned) → g n ≡ None → second.1 n ≡ Some y → (y.owner ≡ Hand r) × IsPart (whole second.1) (renamed (name_in second.0 (Hand r)) d.message.root) (Own n)
  new_is_hands n y none there = let st = second.2.only n y there in by y.owner st.table st.place st.raw st.is_table st.is_raw st.is_name (owner_cases y.owner (Hand r)) (owner_cases y.owner (Space r))
    where
      by : (h : Owner) (t : List Slot) (i : ℕ) (raw : Object) → new h ≡ Some t → slice_get t i ≡ Some (Here raw) → slice_index (second.0 h) i ≡ n
          → ((h ≡ Hand r) ⊎ (h ≡ Hand r → ⊥)) → ((h ≡ Space r) ⊎ (h ≡ Space r → ⊥)) → (h ≡ Hand r) × IsPart (whole second.1) (renamed (name_in second.0 (Hand r)) d.message.root) (Own n)
      by h t i raw table at name (inl e) w =
          let is : t ≡ hs = same_Some t hs (sym table ∙ ap new e ∙ T.hand_after) in
          let lt = slice_get_within hs i (Here raw) (subst (λ u. slice_get u i ≡ Some (Here raw)) is at) in
          let same : slice_index (second.0 (Hand r)) i ≡ n = ap (λ k. slice_index (second.0 k) i) (sym e) ∙ name in
          (e, subst (λ k. IsPart (whole second.1) (renamed (name_in second.0 (Hand r)) d.message.root) (Own k)) same (hand_part i (let size = length-map os Here in omega (arith, lt, size))))
      by h t i raw table at name (inr a) (inl e) =
          let is : t ≡ now.slots = same_Some t now.slots (sym table ∙ ap new e ∙ T.space_after) in
          let here : slice_get now.slots i ≡ Some (Here raw) = subst (λ u. slice_get u i ≡ Some (Here raw)) is at in
          let lt = slice_get_within now.slots i (Here raw) here in
          let s = gets was.slots i (let size = T.emptied.slots.size in omega (arith, lt, size)) in
          absurd (space_fresh i raw s.0 here s.1 (ap g (ap (λ k. slice_index (second.0 k) i) (sym e) ∙ name) ∙ none))
      by h t i raw table at name (inr a) (inr b) =
          let there = (R.reads h t (sym (T.rest h b a) ∙ table)).here i raw at in
          absurd (none-some _ (sym none ∙ ap g (sym name ∙ ap (λ (ns : List ℕ). slice_index ns i) (stay_rest h b a)) ∙ there))

  part_is_shells : (n : ℕ) (x : Owned) → IsPart (whole g) (renamed (name_in names (Space r)) (resolve was.slots v)) (Own n) → g n ≡ Some x → second.1 n ≡ Some (record { owner = x.owner; object = emptied })
  part_is_shells n x part there =
      let m = alike.has_left (Own n) part in
      let a = mapped_at (λ k. name_in names (Space r) (Own k)) d.home.slots m.1.0 (Own n) m.1.1 in
      let has = contains_at d.home.slots m.1.0 a.0 a.1 in
      let raw = is_here a.0 has in
      let name : slice_index (names (Space r)) a.0 ≡ n = same_own _ n a.2 in
      let stood = (R.reads (Space r) was.slots T.space).here a.0 raw.0 raw.1 in
      let owner : Space r ≡ x.owner = ap (λ (y : Owned). y.owner) (same_Some (record { owner = Space r; object = named names (Space r) raw.0 }) x (sym stood ∙ ap g name ∙ there)) in
      ap second.1 (sym name ∙ sym (stay_space a.0 (Here raw.0) raw.1)) ∙ second.4.own a.0 emptied (T.emptied.slots.named a.0 has) ∙ ap (λ h. Some (record { owner = h; object = emptied })) owner

  others_stay : (n : ℕ) (x : Owned) → (IsPart (whole g) (renamed (name_in names (Space r)) (resolve was.slots v)) (Own n) → ⊥) → g n ≡ Some x → second.1 n ≡ Some x
  others_stay n x apart there = let st = R.only n x there in by st.table st.place st.raw st.is_table st.is_raw st.is_name (owner_cases x.owner (Space r))
    where
      by : (t : List Slot) (i : ℕ) (raw : Object) → old x.owner ≡ Some t → slice_get t i ≡ Some (Here raw) → slice_index (names x.owner) i ≡ n → ((x.owner ≡ Space r) ⊎ (x.owner ≡ Space r → ⊥)) → second.1 n ≡ Some x
      by t i raw table at name (inr a) = second.4.others n x (first.4.others n x there (λ e. none-some t (sym T.hand ∙ ap old (sym e) ∙ table))) a
      by t i raw table at name (inl e) =
          let is : t ≡ was.slots = same_Some t was.slots (sym table ∙ ap old e ∙ T.space) in
          let here : slice_get was.slots i ≡ Some (Here raw) = subst (λ u. slice_get u i ≡ Some (Here raw)) is at in
          let same : slice_index (names (Space r)) i ≡ n = ap (λ k. slice_index (names k) i) (sym e) ∙ name in
          let out : Contains d.home.slots i → ⊥ = λ has. apart (subst (λ k. IsPart (whole g) (renamed (name_in names (Space r)) (resolve was.slots v)) (Own k)) same (space_part i has)) in
          let stood = (R.reads (Space r) was.slots T.space).here i raw here in
          let object = object_same old was.slots (Space r) (Space r) names second.0 i raw
          (λ j lt. let s = gets was.slots j lt in stay_space j s.0 s.1) (λ c u at. stay_rest (Shared c) (shared_space c r) (shared_hand c r)) (R.sound (Space r) was.slots T.space) here in
          ap second.1 (sym same ∙ sym (stay_space i (Here raw) here)) ∙ second.4.own i raw (T.emptied.slots.others i out ∙ here)
          ∙ ap (λ (o : Object). Some (record { owner = Space r; object = o })) object ∙ sym stood ∙ ap g same ∙ there

pub taking_out_is_move : TakingOutIsAMove
taking_out_is_move r v d was now old new names bound g T R =
    let s = second r v d was now old new names bound g T R in
    let a = alike r v d was now old new names bound g T R in (
      s.0,
      bound + length d.message.objects + 0,
      s.1,
      s.2,
      record { space = stay_space r v d was now old new names bound g T R; rest = stay_rest r v d was now old new names bound g T R },
      record {
        alike = a;
        part = λ n part. let m = a.has_right (Own n) part in fresh_at r v d was now old new names bound g T R m.1.0 n m.1.2;
        fresh = new_is_hands r v d was now old new names bound g T R;
        shells = part_is_shells r v d was now old new names bound g T R;
        kept = others_stay r v d was now old new names bound g T R;
      },
    )
