-- Each key of a hash is the key that its key object is, where objects arrive and where they are copied.
use Rattle.std.proofs.Common.{◌≡◌, ℕ, zero, suc, ◌+◌, ◌*◌, ◌<◌, ◌⊎◌, ⊎_elim, inl, inr, ◌&&◌, if◌then◌else◌, List, [], ◌∷◌, ◌++◌, length, map, slice_get, slice_set, Option, Some, None, Contains, sym, ap, ◌∙◌, subst, refl, arith}
use Rattle.std.specs.Option.{option_and_then, option_map}
use Rattle.std.proofs.lemmas.Option.{slice_get-map, slice_get_within, same_Some, none-some}
use Rattle.std.proofs.lemmas.List.{set-append_left}
use Rattle.rr_space.specs.Graph.{Object, Own, Published, Value, Plain, At, Label, KeyAt, ValueAt, IsAt, Matches, SameValue, SameTriple}
use Rattle.rr_space.specs.Tables.{Slot, Here, Led, Below, HashKey, TextKey, published_at, cluster_at, below_hold, renamed, renamed_triple, renamed_object, behind, here_behind, resolve, resolve_slot, resolve_triple, resolve_object}
use Rattle.rr_space.specs.Lookups.{key_of_frozen, is_text, frozen_text, IsOneEach}
use Rattle.rr_space.specs.Views.{slot_object}
use Rattle.rr_space.specs.KeyObjects.{slot_key, value_key, HasKey, AreKeysNamed, KeyIsNamed, TextPairIsAdded, ObjectsArrive, CopiesAreNamed}
use Rattle.rr_space.specs.declared.refer.Ref.TheVariants.{Nil, False, True, Int, Symbol, Class, Ractor, Local, Shared}
use Rattle.rr_space.proofs.Zips.{zip_back}
use Rattle.rr_space.proofs.Extending.{get_front, get_seam}
use Rattle.rr_space.proofs.KeyObjects.{append_keeps, steps, object_is_made, pair_is_added}
use Rattle.rr_space.proofs.Renaming.{mapped_at, map_at}
use Rattle.rr_space.proofs.Parting.{hold_first}
use Rattle.rr_space.proofs.Sounds.{finds, joined_in}
use Rattle.rr_space.proofs.Spaces.{entry_of}

-- ---- The key of a reference is the key of its value.

-- a look-up among fewer clusters gives what one among more gives
found_more : (less more : Below) (c p : ℕ) (k : HashKey) → IsOneEach more → ((e : ℕ × List Object) → Contains less e → Contains more e)
    → key_of_frozen (published_at less c p) ≡ Some k → key_of_frozen (published_at more c p) ≡ Some k
found_more less more c p k one all e = by (cluster_at less c) refl
  where
    by : (os : Option (List Object)) → cluster_at less c ≡ os → key_of_frozen (published_at more c p) ≡ Some k
    by None q = absurd (none-some k (sym (ap (λ o. key_of_frozen (option_and_then (λ (os : List Object). slice_get os p) o)) q) ∙ e))
    by (Some os) q =
        let there = all (c, os) (entry_of less c os q) in
        let f = finds more c os there in
        let same : f.0 ≡ os = one c f.0 os (entry_of more c f.0 f.1) there in
        ap (λ o. key_of_frozen (option_and_then (λ (os : List Object). slice_get os p) o)) f.1 ∙ ap (λ (os : List Object). key_of_frozen (slice_get os p)) same
        ∙ sym (ap (λ o. key_of_frozen (option_and_then (λ (os : List Object). slice_get os p) o)) q) ∙ e

pub key_is_named : KeyIsNamed
key_is_named t below Nil k one all among e = e
key_is_named t below False k one all among e = e
key_is_named t below True k one all among e = e
key_is_named t below (Int z) k one all among e = e
key_is_named t below (Symbol s) k one all among e = e
key_is_named t below (Class c) k one all among e = e
key_is_named t below (Ractor r) k one all among e = e
key_is_named t below (Shared p c) k one all among e = found_more (below_hold c.now) below c.now.number p k one among (ap key_of_frozen (hold_first c.now p) ∙ e)
key_is_named t below (Local n) k one all among e = by (slice_get t.slots n) (slice_get t.below n) refl refl
  where
    seen : (s : Option Slot) (b : Option Below) → slice_get t.slots n ≡ s → slice_get t.below n ≡ b → key_of_frozen (slot_object s b) ≡ Some k
    seen s b p q = ap (λ x. key_of_frozen (slot_object x b)) (sym p) ∙ ap (λ y. key_of_frozen (slot_object (slice_get t.slots n) y)) (sym q) ∙ e

    by : (s : Option Slot) (b : Option Below) → slice_get t.slots n ≡ s → slice_get t.below n ≡ b → slot_key below (slice_get t.slots n) ≡ Some k
    by None b p q = absurd (none-some k (seen None b p q))
    by (Some (Here o)) b p q = ap (slot_key below) p ∙ seen (Some (Here o)) b p q
    by (Some (Led c m)) None p q = absurd (none-some k (seen (Some (Led c m)) None p q))
    by (Some (Led c m)) (Some bs) p q = ap (slot_key below) p ∙ found_more bs below c m k one (λ x has. all x (joined_in t.below n bs x q has)) (seen (Some (Led c m)) (Some bs) p q)

-- ---- A pair comes with a new text as its key object.

pub text_pair_is_added : TextPairIsAdded
text_pair_is_added below slots keys n o ks bytes v named even at unfrozen kind keys_at pairs =
    let text_slot : Slot = Here (frozen_text bytes) in
    let made = object_is_made below slots keys (frozen_text bytes) [] named even (λ i k l x is there. absurd (none-some k there)) in
    let in_slots = slice_get_within slots n (Here o) at in
    let in_keys = slice_get_within keys n ks keys_at in
    let name : Value = At (Own (length slots)) in
    let key : value_key below (slots ++ text_slot ∷ []) name ≡ Some (TextKey bytes) = ap (slot_key below) (get_seam slots text_slot) in
    let added = pair_is_added below (slots ++ text_slot ∷ []) (keys ++ [] ∷ []) n o ks (TextKey bytes) name v made (get_front slots (text_slot ∷ []) n in_slots ∙ at) unfrozen kind
    (get_front keys ([] ∷ []) n in_keys ∙ keys_at) pairs key in
    let p : Slot = Here (record o { triples = o.triples ++ (KeyAt (length ks), name) ∷ (ValueAt (length ks), v) ∷ [] }) in
    subst (λ (ss : List Slot). AreKeysNamed below ss (slice_set keys n (ks ++ TextKey bytes ∷ []) ++ [] ∷ [])) (set-append_left slots (text_slot ∷ []) n p in_slots)
    (subst (AreKeysNamed below (slice_set (slots ++ text_slot ∷ []) n p)) (set-append_left keys ([] ∷ []) n (ks ++ TextKey bytes ∷ []) in_keys) added)

-- ---- Objects come behind the slots.

get_behind : {A : Type 0} (xs ys : List A) (m : ℕ) → slice_get (xs ++ ys) (length xs + m) ≡ slice_get ys m
get_behind [] ys m = ap (slice_get ys) (let z : 0 + m ≡ m = omega arith in z)
get_behind (x ∷ xs) ys m = ap (slice_get (x ∷ xs ++ ys)) (let z : suc (length xs) + m ≡ suc (length xs + m) = omega arith in z) ∙ get_behind xs ys m

behind_cases : (n k : ℕ) → (n < k) ⊎ ((m : ℕ) × (k + m ≡ n))
behind_cases n zero = inr (n, omega arith)
behind_cases zero (suc k) = inl (omega arith)
behind_cases (suc n) (suc k) = ⊎_elim (λ lt. inl (omega (arith, lt))) (λ w. inr (w.0, let e = w.1 in omega (arith, e))) (behind_cases n k)

module _ (below : Below) (slots : List Slot) (os : List Object) where
  abbrev more : List Slot
  more = map (here_behind (length slots)) os

  moved : (y : Value) (k : HashKey) → value_key below (map Here os) y ≡ Some k → value_key below (slots ++ more) (renamed (behind (length slots)) y) ≡ Some k
  moved (Plain i) k e = e
  moved (At (Published c p)) k e = e
  moved (At (Own q)) k e = by (slice_get os q) refl
    where
      by : (o : Option Object) → slice_get os q ≡ o → slot_key below (slice_get (slots ++ more) (length slots + q)) ≡ Some k
      by None w = absurd (none-some k (sym (ap (slot_key below) (slice_get-map Here os q ∙ ap (option_map Here) w)) ∙ e))
      by (Some o) w = ap (slot_key below) (get_behind slots more q ∙ map_at (here_behind (length slots)) os q o w) ∙ sym (ap (slot_key below) (map_at Here os q o w)) ∙ e

  module _ (keys kss : List (List HashKey)) (even : length keys ≡ length slots) (arriving : AreKeysNamed below (map Here os) kss) where
    arrived_key : (n i m : ℕ) (k : HashKey) (x : Value) → length slots + m ≡ n → HasKey (slots ++ more) (keys ++ kss) n i k x → value_key below (slots ++ more) x ≡ Some k
    arrived_key n i m k x e h =
        let slot = mapped_at (here_behind (length slots)) os m (Here h.0) (sym (get_behind slots more m) ∙ ap (slice_get (slots ++ more)) e ∙ h.3) in
        let one : renamed_object (behind (length slots)) slot.0 ≡ h.0 = let same = slot.2 in cc in
        let place : length keys + m ≡ n = omega (arith, e, even) in
        let triple = mapped_at (renamed_triple (behind (length slots))) slot.0.triples (2 * i) (h.2, x) (ap (λ (q : Object). slice_get q.triples (2 * i)) one ∙ h.7) in
        let named = arriving m i k triple.0.1
        (slot.0, h.1, triple.0.0, map_at Here os m slot.0 slot.1, ap (λ (q : Object). q.kind) one ∙ h.4, sym (get_behind keys kss m) ∙ ap (slice_get (keys ++ kss)) place ∙ h.5, h.6, triple.1) in
        ap (value_key below (slots ++ more)) (sym (ap (λ (t : Label × Value). t.1) triple.2)) ∙ moved triple.0.1 k named

    arrived_cases : (n i : ℕ) (k : HashKey) (x : Value) → HasKey (slots ++ more) (keys ++ kss) n i k x → (n < length slots) ⊎ ((m : ℕ) × (length slots + m ≡ n))
        → ((a : ℕ) × (j : ℕ) × HasKey slots keys a j k x) ⊎ (value_key below (slots ++ more) x ≡ Some k)
    arrived_cases n i k x h (inl lt) = inl (
      n,
      i,
      (h.0, h.1, h.2, sym (get_front slots more n lt) ∙ h.3, h.4, sym (get_front keys kss n (let w : n < length keys = omega (arith, lt, even) in w)) ∙ h.5, h.6, h.7),
    )
    arrived_cases n i k x h (inr w) = inr (arrived_key n i w.0 k x w.1 h)

pub objects_arrive : ObjectsArrive
objects_arrive below slots keys os kss named even arriving =
    steps below slots (slots ++ more below slots os) keys (keys ++ kss) named (append_keeps below slots (more below slots os))
    (λ n i k x h. arrived_cases below slots os keys kss even arriving n i k x h (behind_cases n (length slots)))

-- ---- Objects are copied.

module _ (below : Below) (slots : List Slot) (names : List ℕ) (os : List Object)
    (match : (n i : ℕ) (p : Object) → IsAt names n i → slice_get os i ≡ Some p → (o : Object) × (slice_get slots n ≡ Some (Here o)) × Matches (IsAt names) (resolve_object slots o) p)
    (there : (n i : ℕ) → IsAt names n i → slice_get os i ≡ None → ⊥) where
  matched_key : (o p : Object) → Matches (IsAt names) (resolve_object slots o) p → key_of_frozen (Some p) ≡ key_of_frozen (Some o)
  matched_key o p m =
      ap (λ y. if is_text y && p.frozen then Some (TextKey p.bytes) else None) (sym m.kind)
      ∙ ap (λ f. if is_text o.kind && f then Some (TextKey p.bytes) else None) (sym m.frozen)
      ∙ ap (λ bs. if is_text o.kind && o.frozen then Some (TextKey bs) else None) (sym m.bytes)

  -- the copy of a text is the same key
  copied_text : (n i : ℕ) (o : Object) → slice_get slots n ≡ Some (Here o) → IsAt names n i → slot_key below (slice_get (map Here os) i) ≡ key_of_frozen (Some o)
  copied_text n i o at paired = by (slice_get os i) refl
    where
      by : (p : Option Object) → slice_get os i ≡ p → slot_key below (slice_get (map Here os) i) ≡ key_of_frozen (Some o)
      by None q = absurd (there n i paired q)
      by (Some p) q =
          let w = match n i p paired q in
          let slot : Here w.0 ≡ Here o = same_Some (Here w.0) (Here o) (sym w.1 ∙ at) in
          let one : w.0 ≡ o = cc in
          ap (slot_key below) (map_at Here os i p q) ∙ matched_key w.0 p w.2 ∙ ap (λ (x : Object). key_of_frozen (Some x)) one

  copied_key : (x y : Value) (k : HashKey) → SameValue (IsAt names) (resolve slots x) y → value_key below slots x ≡ Some k → value_key below (map Here os) y ≡ Some k
  copied_key (Plain i) (Plain j) k same e = ap (λ a. value_key below (map Here os) (Plain a)) (sym same) ∙ e
  copied_key (Plain i) (At m) k same e = absurd same
  copied_key (At (Published c p)) (Plain j) k same e = absurd same
  copied_key (At (Published c p)) (At (Own m)) k same e = absurd same
  copied_key (At (Published c p)) (At (Published d q)) k same e = ap (λ a. key_of_frozen (published_at below a q)) (sym same.0) ∙ ap (λ b. key_of_frozen (published_at below c b)) (sym same.1) ∙ e
  copied_key (At (Own n)) y k same e = by (slice_get slots n) y refl (subst (λ s. SameValue (IsAt names) (At (resolve_slot s n)) y) refl same)
    where
      by : (s : Option Slot) (v : Value) → slice_get slots n ≡ s → SameValue (IsAt names) (At (resolve_slot s n)) v → value_key below (map Here os) v ≡ Some k
      by None v q r = absurd (none-some k (sym (ap (slot_key below) q) ∙ e))
      by (Some (Here o)) (Plain j) q r = absurd r
      by (Some (Here o)) (At (Own m)) q r = copied_text n m o q r ∙ sym (ap (slot_key below) q) ∙ e
      by (Some (Here o)) (At (Published d p)) q r = absurd r
      by (Some (Led c p)) (Plain j) q r = absurd r
      by (Some (Led c p)) (At (Own m)) q r = absurd r
      by (Some (Led c p)) (At (Published d m)) q r =
          ap (λ a. key_of_frozen (published_at below a m)) (sym r.0) ∙ ap (λ b. key_of_frozen (published_at below c b)) (sym r.1) ∙ sym (ap (slot_key below) q) ∙ e

pub copies_are_named : CopiesAreNamed
copies_are_named below slots keys names os kss named match source there kept i j k y h =
    let slot = mapped_at Here os i (Here h.0) h.3 in
    let one : slot.0 ≡ h.0 = let same = slot.2 in cc in
    let paired = source i slot.0 slot.1 in
    let from = match paired.0 i slot.0 paired.1 slot.1 in
    let triple = zip_back (SameTriple (IsAt names)) (map (resolve_triple slots) from.0.triples) slot.0.triples (2 * j) (h.2, y) from.2.triples (ap (λ (q : Object). slice_get q.triples (2 * j)) one ∙ h.7) in
    let was = mapped_at (resolve_triple slots) from.0.triples (2 * j) triple.0 triple.1 in
    let key = named paired.0 j k was.0.1
    (from.0, h.1, was.0.0, from.1, from.2.kind ∙ ap (λ (q : Object). q.kind) one ∙ h.4, kept paired.0 i h.1 paired.1 h.5, h.6, was.1) in
    copied_key below slots names os match there was.0.1 y k (subst (λ v. SameValue (IsAt names) v y) (sym (ap (λ (t : Label × Value). t.1) was.2)) triple.2.1) key
