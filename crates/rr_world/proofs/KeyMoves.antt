-- Each key of a hash is the key that its key object is, where objects are copied, moved away, put back and published.
use Rattle.std.proofs.Common.{◌≡◌, ℕ, zero, suc, ◌*◌, ◌<◌, ◌≤◌, ◌⊎◌, ⊎_elim, inl, inr, Bool, true, false, ◌&&◌, if◌then◌else◌, List, [], ◌∷◌, length, map, Option, Some, None, slice_get, Contains, sym, ap, ◌∙◌, subst, refl, arith}
use Rattle.std.specs.Prelude.{slice_index}
use Rattle.std.specs.List.{AllZip}
use Rattle.std.specs.Option.{option_and_then}
use Rattle.std.proofs.lemmas.List.{length-map}
use Rattle.std.proofs.lemmas.Option.{none-some, same_Some, slice_get_within, slice_get-get_or}
use Rattle.rr_space.specs.Graph.{Graph, Name, Kind, Object, Value, Plain, At, Own, Published, Label, Leads, IsPart, IsShareable, IsSolid, IsAt, Matches, SameTriple, text, array, hash, plain, exception, shell}
use Rattle.rr_space.specs.KeyObjects.{HasKey, slot_key, value_key}
use Rattle.rr_space.specs.Lookups.{key_of_frozen, is_text}
use Rattle.rr_space.specs.Moves.{IsCopy, IsEmptied, IsPutBack, IsPlanned, IsPromotedTo, home_name, here_home}
use Rattle.rr_space.specs.Readings.{Layout, Knows}
use Rattle.rr_space.specs.Tables.{Table, Packed, Slot, Here, Led, Below, Whole, HashKey, TextKey, joined, below_hold, outer_objects, published_at, numbered_object, renamed, renamed_triple, resolve, resolve_object, resolve_triple, space_graph, object_in}
use Rattle.rr_space.specs.Views.{emptied}
use Rattle.rr_space.proofs.KeyCopies.{copies_are_named}
use Rattle.rr_space.proofs.KeyObjects.{KeepsKeys, steps}
use Rattle.rr_space.proofs.Keeping.{list_has}
use Rattle.rr_space.proofs.Renaming.{at_contains, map_at, mapped_at}
use Rattle.rr_space.proofs.Sounds.{finds, gets, none_in, raw_in}
use Rattle.rr_space.proofs.Spaces.{entry_of}
use Rattle.rr_space.proofs.Zips.{zip_back}
use Rattle.rr_copy.proofs.Contained.{message_at}
use Rattle.rr_world.specs.Layouts.{HasAllClusters, AreKeysKnown}
use Rattle.rr_world.proofs.KeyTables.{listed, same_here}

-- ---- A frozen text is shareable.

kind_text : (k : Kind) → is_text k ≡ true → k ≡ text
kind_text text e = refl
kind_text array e = cc
kind_text hash e = cc
kind_text plain e = cc
kind_text exception e = cc
kind_text shell e = cc

both_hold : (b f : Bool) (x k : HashKey) → (if b && f then Some x else None) ≡ Some k → (b ≡ true) × (f ≡ true)
both_hold true true x k e = (refl, refl)
both_hold true false x k e = absurd (none-some k e)
both_hold false f x k e = absurd (none-some k e)

-- what is a key is a frozen text
frozen_text : (o : Object) (k : HashKey) → key_of_frozen (Some o) ≡ Some k → (o.kind ≡ text) × (o.frozen ≡ true)
frozen_text o k e = let z = both_hold (is_text o.kind) o.frozen (TextKey o.bytes) k e in (kind_text o.kind z.0, z.1)

same_name : (n m : Name) → At n ≡ At m → n ≡ m
same_name n m e = cc

-- a name without an object leads to nothing that could be open
alone : (g : Graph) (n : Name) → g n ≡ None → IsShareable g (At n)
alone g n none m o (path, leads) at = by path leads
  where
    by : (path : List Label) → Leads g (At n) path (At m) → IsSolid o
    by [] e = absurd (none-some o (sym none ∙ ap g (same_name n m e) ∙ at))
    by (l ∷ path) (x, (k, p, is, here, has), rest) = absurd (none-some p (sym none ∙ ap g (same_name n k is) ∙ here))

-- nor does a frozen object that leads to nothing
leaf : (g : Graph) (n : Name) (p : Object) → g n ≡ Some p → IsSolid p → p.triples ≡ [] → IsShareable g (At n)
leaf g n p here solid bare m o (path, leads) at = by path leads
  where
    by : (path : List Label) → Leads g (At n) path (At m) → IsSolid o
    by [] e = subst IsSolid (same_Some p o (sym here ∙ ap g (same_name n m e) ∙ at)) solid
    by (l ∷ path) (x, (k, q, is, there, has), rest) =
        let same : p ≡ q = same_Some p q (sym here ∙ ap g (same_name n k is) ∙ there) in
        absurd (none_in (l, x) (subst (λ ts. Contains ts (l, x)) (ap (λ (y : Object). y.triples) (sym same) ∙ bare) has))

-- an object of the part of a value stands in its slot
part_here : (t : Table) (v : Value) (n : ℕ) → IsPart (space_graph t) v (Own n) → (raw : Object) × (slice_get t.slots n ≡ Some (Here raw))
part_here t v n part = by (space_graph t (Own n)) refl
  where
    by : (o : Option Object) → space_graph t (Own n) ≡ o → (raw : Object) × (slice_get t.slots n ≡ Some (Here raw))
    by None e = absurd (part.1 (alone (space_graph t) (Own n) e))
    by (Some o) e = let r = raw_in t.slots (joined t.below) n o e in (r.0, r.1)

none_zips : {A B : Type 0} (R : A → B → Type 0) (xs : List A) (ys : List B) → AllZip R xs ys → xs ≡ [] → ys ≡ []
none_zips R xs [] z e = refl
none_zips R xs (y ∷ ys) z e = let a = zip_back R xs (y ∷ ys) 0 y z refl in absurd (none-some a.0 (ap (λ zs. slice_get zs 0) (sym e) ∙ a.1))

-- ---- A copy.

module _ (tables : Layout) (t : Table) (v : Value) (names : List ℕ) (m : Packed) (C : IsCopy t v names m) (K : AreKeysKnown tables t.slots t.keys) where
  paired : (n i : ℕ) (p : Object) → IsAt names n i → slice_get m.objects i ≡ Some p → (o : Object) × (slice_get t.slots n ≡ Some (Here o)) × Matches (IsAt names) (resolve_object t.slots o) p
  paired n i p at there =
      let o = part_here t (resolve t.slots v) n (C.alike.left n i at) in
      (o.0, o.1, C.alike.same n i (resolve_object t.slots o.0) p at (ap (option_and_then (object_in t.slots)) o.1) (message_at m i p there))

  source : (i : ℕ) (p : Object) → slice_get m.objects i ≡ Some p → (n : ℕ) × IsAt names n i
  source i p at = gets names i (let lt = slice_get_within m.objects i p at in let e = C.size in omega (arith, lt, e))

  never_none : (n i : ℕ) → IsAt names n i → slice_get m.objects i ≡ None → ⊥
  never_none n i at none =
      let p = gets m.objects i (let lt = slice_get_within names i n at in let e = C.size in omega (arith, lt, e)) in
      none-some p.0 (sym none ∙ p.1)

  copied_texts : (i : ℕ) (p : Object) → slice_get (map Here m.objects) i ≡ Some (Here p) → p.kind ≡ text → p.triples ≡ []
  copied_texts i p at is =
      let q = mapped_at Here m.objects i (Here p) at in
      let there : slice_get m.objects i ≡ Some p = q.1 ∙ ap (λ x. Some x) (same_here q.0 p q.2) in
      let n = source i p there in
      let s = paired n.0 i p n.1 there in
      none_zips (SameTriple (IsAt names)) (resolve_object t.slots s.0).triples p.triples s.2.triples (ap (map (resolve_triple t.slots)) (K.texts n.0 s.0 s.1 (s.2.kind ∙ is)))

  -- a list of keys for each object: the space has one for each slot
  keys_there : (i : ℕ) → i < length m.objects → (ks : List HashKey) × (slice_get m.keys i ≡ Some ks)
  keys_there i lt =
      let p = gets m.objects i lt in
      let n = source i p.0 p.1 in
      let s = paired n.0 i p.0 n.1 p.1 in
      let ks = gets t.keys n.0 (let l = slice_get_within t.slots n.0 (Here s.0) s.1 in let c = K.count in omega (arith, l, c)) in
      (ks.0, C.keys n.0 i n.1 ∙ ks.1)

  pub copied_keys : AreKeysKnown tables (map Here m.objects) m.keys
  copied_keys = record {
    count = let e = length-map m.objects Here in let le = as_many (length m.objects) keys_there in omega (arith, e, le);
    texts = copied_texts;
    named = λ below H. copies_are_named below t.slots t.keys names m.objects m.keys (K.named below H) paired source never_none (λ n i ks at has. sym (C.keys n i at) ∙ has);
  }
    where
      as_many : (k : ℕ) → ((i : ℕ) → i < k → (ks : List HashKey) × (slice_get m.keys i ≡ Some ks)) → k ≤ length m.keys
      as_many zero each = omega arith
      as_many (suc k) each = let ks = each k (omega arith) in let lt = slice_get_within m.keys k ks.0 ks.1 in omega (arith, lt)

  -- ---- What was copied is moved away.

  module _ (now : Table) (E : IsEmptied names t now) where
    -- an object that is moved away was no key
    no_key : (below : Below) (n : ℕ) (k : HashKey) → Contains names n → slot_key below (slice_get t.slots n) ≡ Some k → ⊥
    no_key below n k has e =
        let i = at_contains names n has in
        let part = C.alike.left n i.0 i.1 in
        let o = part_here t (resolve t.slots v) n part in
        let is = frozen_text o.0 k (sym (ap (slot_key below) o.1) ∙ e) in
        part.1 (leaf (space_graph t) (Own n) (resolve_object t.slots o.0) (ap (option_and_then (object_in t.slots)) o.1)
        (record { frozen = is.1; no_shell = λ z. let y : text ≡ shell = sym is.0 ∙ z in cc })
        (ap (map (resolve_triple t.slots)) (K.texts n o.0 o.1 is.0)))

    keeps : (below : Below) → KeepsKeys below t.slots now.slots
    keeps below (Plain i) k e = e
    keeps below (At (Published c p)) k e = e
    keeps below (At (Own n)) k e = ⊎_elim (λ has. absurd (no_key below n k has e)) (λ out. ap (slot_key below) (E.slots.others n out) ∙ e) (list_has names n)

    -- an object that is left was there
    left : (n : ℕ) (o : Object) → slice_get now.slots n ≡ Some (Here o) → (o.kind ≡ shell) ⊎ ((slice_get t.slots n ≡ Some (Here o)) × (slice_get now.keys n ≡ slice_get t.keys n))
    left n o at = ⊎_elim
        (λ has. inl (sym (ap (λ (y : Object). y.kind) (same_here emptied o (same_Some (Here emptied) (Here o) (sym (E.slots.named n has) ∙ at))))))
        (λ out. inr (sym (E.slots.others n out) ∙ at, E.keys.others n out))
        (list_has names n)

    pub emptied_keys : AreKeysKnown tables now.slots now.keys
    emptied_keys = record {
      count = let a = E.slots.size in let b = E.keys.size in let c = K.count in omega (arith, a, b, c);
      texts = λ n o at is. ⊎_elim (λ gone. absurd (let z : shell ≡ text = sym gone ∙ is in cc)) (λ was. K.texts n o was.0 is) (left n o at);
      named = λ below H. steps below t.slots now.slots t.keys now.keys (K.named below H) (keeps below)
          (λ n i k x h. ⊎_elim
          (λ gone. absurd (let z : shell ≡ hash = sym gone ∙ h.4 in cc))
          (λ was. inl (n, i, (h.0, h.1, h.2, was.0, h.4, sym was.1 ∙ h.5, h.6, h.7)))
          (left n h.0 h.3));
    }

-- ---- A message comes back into its home.

module _ (tables : Layout) (names : List ℕ) (m : Packed) (old now : Table) (B : IsPutBack names m old now) (size : length m.objects ≡ length names)
    (shells : (n : ℕ) → Contains names n → slice_get old.slots n ≡ Some (Here emptied)) (K : AreKeysKnown tables old.slots old.keys) (M : AreKeysKnown tables (map Here m.objects) m.keys) where
  back_keeps : (below : Below) → KeepsKeys below old.slots now.slots
  back_keeps below (Plain i) k e = e
  back_keeps below (At (Published c p)) k e = e
  back_keeps below (At (Own n)) k e = ⊎_elim
      (λ has. absurd (none-some k (sym (ap (slot_key below) (shells n has)) ∙ e)))
      (λ out. ap (slot_key below) (B.slots.others n out) ∙ e)
      (list_has names n)

  -- what is put back, with its keys
  put : (n : ℕ) → Contains names n → (i : ℕ) × (o : Object) × (ks : List HashKey) × IsAt names n i × (slice_get m.objects i ≡ Some o) × (slice_get m.keys i ≡ Some ks)
      × (slice_get now.slots n ≡ Some (here_home names o)) × (slice_get now.keys n ≡ Some ks)
  put n has =
      let i = at_contains names n has in
      let lt = slice_get_within names i.0 n i.1 in
      let o = gets m.objects i.0 (omega (arith, lt, size)) in
      let ks = gets m.keys i.0 (let c = M.count in let e = length-map m.objects Here in omega (arith, lt, size, c, e)) in
      (i.0, o.0, ks.0, i.1, o.1, ks.1, B.slots.named n i.0 (here_home names o.0) i.1 (map_at (here_home names) m.objects i.0 o.0 o.1), B.keys.named n i.0 ks.0 i.1 ks.1)

  -- a key of the message is one at home
  home_key : (below : Below) (x : Value) (k : HashKey) → value_key below (map Here m.objects) x ≡ Some k → value_key below now.slots (renamed (home_name names) x) ≡ Some k
  home_key below (Plain i) k e = e
  home_key below (At (Published c p)) k e = e
  home_key below (At (Own j)) k e = by (slice_get (map Here m.objects) j) refl
    where
      by : (s : Option Slot) → slice_get (map Here m.objects) j ≡ s → slot_key below (slice_get now.slots (slice_index names j)) ≡ Some k
      by None q = absurd (none-some k (sym (ap (slot_key below) q) ∙ e))
      by (Some s) q =
          let o = mapped_at Here m.objects j s q in
          let named : IsAt names (slice_index names j) j = slice_get-get_or names j 0 (let lt = slice_get_within m.objects j o.0 o.1 in omega (arith, lt, size)) in
          ap (slot_key below) (B.slots.named (slice_index names j) j (here_home names o.0) named (map_at (here_home names) m.objects j o.0 o.1))
          ∙ sym (ap (slot_key below) (q ∙ ap (λ y. Some y) (sym o.2))) ∙ e

  abbrev home_object : Object → Object
  home_object o = record o { triples = map (renamed_triple (home_name names)) o.triples }

  pub returned_keys : AreKeysKnown tables now.slots now.keys
  returned_keys = record {
    count = let a = B.slots.size in let b = B.keys.size in let c = K.count in omega (arith, a, b, c);
    texts = λ n x at is. ⊎_elim
        (λ has.
        let p = put n has in
        let same : home_object p.1 ≡ x = same_here (home_object p.1) x (same_Some (here_home names p.1) (Here x) (sym p.6 ∙ at)) in
        subst (λ (y : Object). y.triples ≡ []) same (ap (map (renamed_triple (home_name names))) (M.texts p.0 p.1 (map_at Here m.objects p.0 p.1 p.4) (ap (λ (y : Object). y.kind) same ∙ is))))
        (λ out. K.texts n x (sym (B.slots.others n out) ∙ at) is)
        (list_has names n);
    named = λ below H. steps below old.slots now.slots old.keys now.keys (K.named below H) (back_keeps below) (λ n i k x h. ⊎_elim
        (λ has. inr (own below H n i k x has h))
        (λ out. inl (n, i, (h.0, h.1, h.2, sym (B.slots.others n out) ∙ h.3, h.4, sym (B.keys.others n out) ∙ h.5, h.6, h.7)))
        (list_has names n));
  }
    where
      own : (below : Below) → HasAllClusters tables below → (n i : ℕ) (k : HashKey) (x : Value) → Contains names n → HasKey now.slots now.keys n i k x → value_key below now.slots x ≡ Some k
      own below H n i k x has h =
          let p = put n has in
          let same : home_object p.1 ≡ h.0 = same_here (home_object p.1) h.0 (same_Some (here_home names p.1) (Here h.0) (sym p.6 ∙ h.3)) in
          let ks : p.2 ≡ h.1 = same_Some p.2 h.1 (sym p.7 ∙ h.5) in
          let triple = mapped_at (renamed_triple (home_name names)) p.1.triples (2 * i) (h.2, x) (ap (λ (y : Object). slice_get y.triples (2 * i)) same ∙ h.7) in
          let named = M.named below H p.0 i k triple.0.1
          (p.1, p.2, triple.0.0, map_at Here m.objects p.0 p.1 p.4, ap (λ (y : Object). y.kind) same ∙ h.4, p.5, ap (λ (zs : List HashKey). slice_get zs i) ks ∙ h.6, triple.1) in
          ap (value_key below now.slots) (sym (ap (λ (z : Label × Value). z.1) triple.2)) ∙ home_key below triple.0.1 k named

-- ---- Slots are forwards to what was published.

module _ (tables : Layout) (w : Whole) (places : List ℕ) (old now : Table) (P : IsPlanned old w places) (T : IsPromotedTo w places old now) (W : Knows (below_hold w) tables) (K : AreKeysKnown tables old.slots old.keys) where
  -- a place of the cluster, in a list that has it
  place_at : (below : Below) → HasAllClusters tables below → (i : ℕ) (p : Object) → slice_get w.own i ≡ Some p → published_at below w.number i ≡ Some (numbered_object w.number p)
  place_at below H i p at =
      let has = listed tables below (below_hold w) H W (w.number, outer_objects w) (0, omega arith, refl) in
      let f = finds below w.number (outer_objects w) has in
      let same : f.0 ≡ outer_objects w = H.one w.number f.0 (outer_objects w) (entry_of below w.number f.0 f.1) has in
      ap (option_and_then (λ (os : List Object). slice_get os i)) f.1 ∙ ap (λ (os : List Object). slice_get os i) same ∙ map_at (numbered_object w.number) w.own i p at

  matched_key : (o p : Object) → Matches (IsAt places) (resolve_object old.slots o) p → key_of_frozen (Some p) ≡ key_of_frozen (Some o)
  matched_key o p s =
      ap (λ y. if is_text y && p.frozen then Some (TextKey p.bytes) else None) (sym s.kind)
      ∙ ap (λ f. if is_text o.kind && f then Some (TextKey p.bytes) else None) (sym s.frozen)
      ∙ ap (λ bs. if is_text o.kind && o.frozen then Some (TextKey bs) else None) (sym s.bytes)

  led_keeps : (below : Below) → HasAllClusters tables below → KeepsKeys below old.slots now.slots
  led_keeps below H (Plain i) k e = e
  led_keeps below H (At (Published c p)) k e = e
  led_keeps below H (At (Own n)) k e = ⊎_elim
      (λ has.
      let i = at_contains places n has in
      let s = P.same n i.0 i.1 in
      ap (slot_key below) (T.slots.named n i.0 i.1) ∙ ap key_of_frozen (place_at below H i.0 s.1 s.3) ∙ matched_key s.0 s.1 s.5 ∙ sym (ap (slot_key below) s.2) ∙ e)
      (λ out. ap (slot_key below) (T.slots.others n out) ∙ e)
      (list_has places n)

  not_led : (n : ℕ) (o : Object) → slice_get now.slots n ≡ Some (Here o) → Contains places n → ⊥
  not_led n o at has = let i = at_contains places n has in let z : Led w.number i.0 ≡ Here o = same_Some (Led w.number i.0) (Here o) (sym (T.slots.named n i.0 i.1) ∙ at) in cc

  pub promoted_keys : AreKeysKnown tables now.slots now.keys
  promoted_keys = record {
    count = let a = T.slots.size in let b = T.keys.size in let c = K.count in omega (arith, a, b, c);
    texts = λ n o at is. K.texts n o (sym (T.slots.others n (not_led n o at)) ∙ at) is;
    named = λ below H. steps below old.slots now.slots old.keys now.keys (K.named below H) (led_keeps below H) (λ n i k x h.
        let out = not_led n h.0 h.3 in inl (n, i, (h.0, h.1, h.2, sym (T.slots.others n out) ∙ h.3, h.4, sym (T.keys.others n out) ∙ h.5, h.6, h.7)));
  }
