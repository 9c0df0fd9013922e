-- Each key of a hash is the key that its key object is, after each change.
use Rattle.std.proofs.Common.{◌≡◌, ℕ, zero, suc, ◌+◌, ◌*◌, ◌<◌, ◌⊎◌, ⊎_elim, inl, inr, Bool, true, false, ◌&&◌, if◌then◌else◌, List, [], ◌∷◌, ◌++◌, length, length-append, remove, slice_get, slice_set, Option, Some, None, sym, ap, ◌∙◌, subst, refl, arith}
use Rattle.std.proofs.lemmas.Option.{slice_get_within, same_Some, none-some}
use Rattle.rr_space.specs.Graph.{Object, hash, shell, Own, Published, Value, Plain, At, Label, KeyAt, ValueAt}
use Rattle.rr_space.specs.Tables.{Slot, Here, Led, Below, HashKey, TextKey}
use Rattle.rr_space.specs.Lookups.{key_of_frozen, is_text}
use Rattle.rr_space.specs.Views.{emptied, paired_from}
use Rattle.rr_space.specs.KeyObjects.{slot_key, value_key, HasKey, AreKeysNamed, OtherIsWritten, ValueIsWritten, PairIsAdded, PairIsTaken, ObjectIsFrozen, ObjectIsMade, ObjectIsForwarded, ObjectIsEmptied, ObjectIsPutBack}
use Rattle.rr_space.proofs.Extending.{get_front, get_seam}
use Rattle.rr_space.proofs.Keeping.{set_same, set_other, nat_cases}

last_cases : (a b : ℕ) → a < b + 1 → (a < b) ⊎ (a ≡ b)
last_cases a b lt = grind arith

set_is : {A : Type 0} (xs : List A) (n : ℕ) (x y : A) → slice_get (slice_set xs n x) n ≡ Some y → x ≡ y
set_is [] n x y e = absurd (none-some y e)
set_is (z ∷ xs) zero x y e = same_Some x y e
set_is (z ∷ xs) (suc n) x y e = set_is xs n x y e

pair_seam : {A : Type 0} (xs : List A) (y z : A) → slice_get (xs ++ y ∷ z ∷ []) (length xs) ≡ Some y
pair_seam [] y z = refl
pair_seam (x ∷ xs) y z = pair_seam xs y z

-- ---- What was a key stays one.

abbrev pub KeepsKeys : Below → List Slot → List Slot → Type 0
KeepsKeys below slots slots2 = (x : Value) (k : HashKey) → value_key below slots x ≡ Some k → value_key below slots2 x ≡ Some k

pub set_keeps : (below : Below) (slots : List Slot) (n : ℕ) (s s2 : Slot) → slice_get slots n ≡ Some s
    → ((k : HashKey) → slot_key below (Some s) ≡ Some k → slot_key below (Some s2) ≡ Some k) → KeepsKeys below slots (slice_set slots n s2)
set_keeps below slots n s s2 at same (Plain i) k e = e
set_keeps below slots n s s2 at same (At (Published c p)) k e = e
set_keeps below slots n s s2 at same (At (Own m)) k e = by (nat_cases n m)
  where
    by : (n ≡ m) ⊎ (n ≡ m → ⊥) → slot_key below (slice_get (slice_set slots n s2) m) ≡ Some k
    by (inl q) =
        ap (λ j. slot_key below (slice_get (slice_set slots n s2) j)) (sym q) ∙ ap (slot_key below) (set_same slots n s2 (slice_get_within slots n s at))
        ∙ same k (ap (slot_key below) (sym at ∙ ap (slice_get slots) q) ∙ e)
    by (inr differ) = ap (slot_key below) (set_other slots n m s2 differ) ∙ e

pub append_keeps : (below : Below) (slots more : List Slot) → KeepsKeys below slots (slots ++ more)
append_keeps below slots more (Plain i) k e = e
append_keeps below slots more (At (Published c p)) k e = e
append_keeps below slots more (At (Own m)) k e = by (slice_get slots m) refl
  where
    by : (s : Option Slot) → slice_get slots m ≡ s → slot_key below (slice_get (slots ++ more) m) ≡ Some k
    by (Some s) q = ap (slot_key below) (get_front slots more m (slice_get_within slots m s q)) ∙ e
    by None q = absurd (none-some k (sym (ap (slot_key below) q) ∙ e))

pub steps : (below : Below) (slots slots2 : List Slot) (keys keys2 : List (List HashKey)) → AreKeysNamed below slots keys → KeepsKeys below slots slots2
    → ((n i : ℕ) (k : HashKey) (x : Value) → HasKey slots2 keys2 n i k x → ((m : ℕ) × (j : ℕ) × HasKey slots keys m j k x) ⊎ (value_key below slots2 x ≡ Some k))
    → AreKeysNamed below slots2 keys2
steps below slots slots2 keys keys2 named keeps old n i k x has = ⊎_elim (λ h. keeps x k (named h.0 h.1 k x h.2)) (λ e. e) (old n i k x has)

-- ---- One slot is set.

setting : (below : Below) (slots : List Slot) (keys keys2 : List (List HashKey)) (n : ℕ) (s s2 : Slot) → AreKeysNamed below slots keys → slice_get slots n ≡ Some s
    → ((k : HashKey) → slot_key below (Some s) ≡ Some k → slot_key below (Some s2) ≡ Some k) → ((m : ℕ) → (n ≡ m → ⊥) → slice_get keys2 m ≡ slice_get keys m)
    → ((i : ℕ) (k : HashKey) (x : Value) → HasKey (slice_set slots n s2) keys2 n i k x → ((j : ℕ) × HasKey slots keys n j k x) ⊎ (value_key below (slice_set slots n s2) x ≡ Some k))
    → AreKeysNamed below (slice_set slots n s2) keys2
setting below slots keys keys2 n s s2 named at same others own =
    steps below slots (slice_set slots n s2) keys keys2 named (set_keeps below slots n s s2 at same) (λ m i k x h. by m i k x h (nat_cases n m))
  where
    by : (m i : ℕ) (k : HashKey) (x : Value) → HasKey (slice_set slots n s2) keys2 m i k x → (n ≡ m) ⊎ (n ≡ m → ⊥)
        → ((a : ℕ) × (j : ℕ) × HasKey slots keys a j k x) ⊎ (value_key below (slice_set slots n s2) x ≡ Some k)
    by m i k x h (inl q) = ⊎_elim (λ u. inl (n, u.0, u.1)) (λ e. inr e) (own i k x (subst (λ a. HasKey (slice_set slots n s2) keys2 a i k x) (sym q) h))
    by m i k x h (inr differ) = inl (m, i, (h.0, h.1, h.2, sym (set_other slots n m s2 differ) ∙ h.3, h.4, sym (others m differ) ∙ h.5, h.6, h.7))

none_open : (b : Bool) (k : HashKey) → (if b && false then Some k else None) ≡ None
none_open true k = refl
none_open false k = refl

-- an object that is not frozen is no key
open_none : (o : Object) → o.frozen ≡ false → key_of_frozen (Some o) ≡ None
open_none o e = ap (λ f. if is_text o.kind && f then Some (TextKey o.bytes) else None) e ∙ none_open (is_text o.kind) (TextKey o.bytes)

frozen_stays : (b f : Bool) (x k : HashKey) → (if b && f then Some x else None) ≡ Some k → (if b && true then Some x else None) ≡ Some k
frozen_stays true true x k e = e
frozen_stays true false x k e = absurd (none-some k e)
frozen_stays false f x k e = absurd (none-some k e)

-- the object that a slot was set to
set_object : (slots : List Slot) (n : ℕ) (p q : Object) → slice_get (slice_set slots n (Here p)) n ≡ Some (Here q) → p ≡ q
set_object slots n p q e = let same : Here p ≡ Here q = set_is slots n (Here p) (Here q) e in cc

pub other_is_written : OtherIsWritten
other_is_written below slots keys n o p named at unfrozen no_hash =
    setting below slots keys keys n (Here o) (Here p) named at (λ k e. absurd (none-some k (sym (open_none o unfrozen) ∙ e))) (λ m differ. refl)
    (λ i k x h. absurd (no_hash (ap (λ (q : Object). q.kind) (set_object slots n p h.0 h.3) ∙ h.4)))

pub value_is_written : ValueIsWritten
value_is_written below slots keys n i o v named at unfrozen =
    let p : Object = record o { triples = slice_set o.triples (2 * i + 1) (ValueAt i, v) } in
    setting below slots keys keys n (Here o) (Here p) named at (λ k e. absurd (none-some k (sym (open_none o unfrozen) ∙ e))) (λ m differ. refl)
    (λ j k x h.
    let e = set_object slots n p h.0 h.3 in
    inl (
      j,
      (
        o,
        h.1,
        h.2,
        at,
        ap (λ (q : Object). q.kind) e ∙ h.4,
        h.5,
        h.6,
        sym (set_other o.triples (2 * i + 1) (2 * j) (ValueAt i, v) (λ z. let w : ⊥ = omega (arith, z) in w)) ∙ ap (λ (q : Object). slice_get q.triples (2 * j)) e ∙ h.7,
      ),
    ))

pub object_is_frozen : ObjectIsFrozen
object_is_frozen below slots keys n o named at =
    let p : Object = record o { frozen = true } in
    setting below slots keys keys n (Here o) (Here p) named at (λ k e. frozen_stays (is_text o.kind) o.frozen (TextKey o.bytes) k e) (λ m differ. refl)
    (λ j k x h. let e = set_object slots n p h.0 h.3 in inl (j, (o, h.1, h.2, at, ap (λ (q : Object). q.kind) e ∙ h.4, h.5, h.6, ap (λ (q : Object). slice_get q.triples (2 * j)) e ∙ h.7)))

pub object_is_emptied : ObjectIsEmptied
object_is_emptied below slots keys n o named at none =
    setting below slots keys (slice_set keys n []) n (Here o) (Here emptied) named at (λ k e. absurd (none-some k (sym none ∙ e))) (λ m differ. set_other keys n m [] differ)
    (λ i k x h. absurd (let e : shell ≡ hash = ap (λ (q : Object). q.kind) (set_object slots n emptied h.0 h.3) ∙ h.4 in cc))

pub object_is_put_back : ObjectIsPutBack
object_is_put_back below slots keys n o ks named at fits =
    setting below slots keys (slice_set keys n ks) n (Here emptied) (Here o) named at (λ k e. absurd (none-some k e)) (λ m differ. set_other keys n m ks differ)
    (λ i k x h.
    let e = set_object slots n o h.0 h.3 in
    let same = set_is keys n ks h.1 h.5 in
    inr (fits i k h.2 x (ap (λ (q : Object). q.kind) e ∙ h.4) (ap (λ (zs : List HashKey). slice_get zs i) same ∙ h.6) (ap (λ (q : Object). slice_get q.triples (2 * i)) e ∙ h.7)))

pub object_is_forwarded : ObjectIsForwarded
object_is_forwarded below slots keys n c p o q named at there kind bytes frozen =
    setting below slots keys (slice_set keys n []) n (Here o) (Led c p) named at
    (λ k e. ap key_of_frozen there ∙ same k e) (λ m differ. set_other keys n m [] differ)
    (λ i k x h. absurd (let e : Led c p ≡ Here h.0 = set_is slots n (Led c p) (Here h.0) h.3 in cc))
  where
    same : (k : HashKey) → key_of_frozen (Some o) ≡ Some k → key_of_frozen (Some q) ≡ Some k
    same k e =
        ap (λ y. if is_text y && q.frozen then Some (TextKey q.bytes) else None) kind
        ∙ ap (λ f. if is_text o.kind && f then Some (TextKey q.bytes) else None) frozen
        ∙ ap (λ bs. if is_text o.kind && true then Some (TextKey bs) else None) bytes
        ∙ frozen_stays (is_text o.kind) o.frozen (TextKey o.bytes) k e

-- ---- A pair comes, and a pair goes.

pub pair_is_added : PairIsAdded
pair_is_added below slots keys n o ks k x v named at unfrozen kind keys_at pairs key =
    setting below slots keys (slice_set keys n (ks ++ k ∷ [])) n (Here o) (Here p) named at same (λ m differ. set_other keys n m (ks ++ k ∷ []) differ)
    (λ j k2 x2 h. by j k2 x2 h (last_cases j (length ks) (within j k2 x2 h)))
  where
    p : Object
    p = record o { triples = o.triples ++ (KeyAt (length ks), x) ∷ (ValueAt (length ks), v) ∷ [] }

    same : (k2 : HashKey) → slot_key below (Some (Here o)) ≡ Some k2 → slot_key below (Some (Here p)) ≡ Some k2
    same k2 e = absurd (none-some k2 (sym (open_none o unfrozen) ∙ e))

    there : (j : ℕ) (k2 : HashKey) (x2 : Value) (h : HasKey (slice_set slots n (Here p)) (slice_set keys n (ks ++ k ∷ [])) n j k2 x2) → slice_get (ks ++ k ∷ []) j ≡ Some k2
    there j k2 x2 h = ap (λ (zs : List HashKey). slice_get zs j) (set_is keys n (ks ++ k ∷ []) h.1 h.5) ∙ h.6

    within : (j : ℕ) (k2 : HashKey) (x2 : Value) → HasKey (slice_set slots n (Here p)) (slice_set keys n (ks ++ k ∷ [])) n j k2 x2 → j < length ks + 1
    within j k2 x2 h = let lt = slice_get_within (ks ++ k ∷ []) j k2 (there j k2 x2 h) in let e = length-append ks (k ∷ []) in omega (arith, lt, e)

    by : (j : ℕ) (k2 : HashKey) (x2 : Value) (h : HasKey (slice_set slots n (Here p)) (slice_set keys n (ks ++ k ∷ [])) n j k2 x2) → (j < length ks) ⊎ (j ≡ length ks)
        → ((i : ℕ) × HasKey slots keys n i k2 x2) ⊎ (value_key below (slice_set slots n (Here p)) x2 ≡ Some k2)
    by j k2 x2 h (inl lt) = inl (
      j,
      (
        o,
        ks,
        h.2,
        at,
        kind,
        keys_at,
        sym (get_front ks (k ∷ []) j lt) ∙ there j k2 x2 h,
        sym (get_front o.triples ((KeyAt (length ks), x) ∷ (ValueAt (length ks), v) ∷ []) (2 * j) (let w : 2 * j < length o.triples = omega (arith, lt, pairs) in w))
            ∙ ap (λ (q : Object). slice_get q.triples (2 * j)) (set_object slots n p h.0 h.3) ∙ h.7,
      ),
    )
    by j k2 x2 h (inr e) =
        let one : k ≡ k2 = same_Some k k2 (sym (ap (slice_get (ks ++ k ∷ [])) e ∙ get_seam ks k) ∙ there j k2 x2 h) in
        let place : 2 * j ≡ length o.triples = omega (arith, e, pairs) in
        let last : slice_get p.triples (2 * j) ≡ Some (KeyAt (length ks), x) = ap (slice_get p.triples) place ∙ pair_seam o.triples (KeyAt (length ks), x) (ValueAt (length ks), v) in
        let name : (KeyAt (length ks), x) ≡ (h.2, x2) = same_Some (KeyAt (length ks), x) (h.2, x2) (sym last ∙ ap (λ (q : Object). slice_get q.triples (2 * j)) (set_object slots n p h.0 h.3) ∙ h.7) in
        inr (ap (value_key below (slice_set slots n (Here p))) (sym (ap (λ (t : Label × Value). t.1) name)) ∙ set_keeps below slots n (Here o) (Here p) at same x k key ∙ ap Some one)

-- the index in a list that an index behind the removal of one comes from
abbrev skip : ℕ → ℕ → ℕ
skip zero j = suc j
skip (suc place) zero = zero
skip (suc place) (suc j) = suc (skip place j)

removed_at : {A : Type 0} (xs : List A) (place j : ℕ) → slice_get (remove xs place) j ≡ slice_get xs (skip place j)
removed_at [] zero j = refl
removed_at [] (suc place) j = refl
removed_at (x ∷ xs) zero j = refl
removed_at (x ∷ xs) (suc place) zero = refl
removed_at (x ∷ xs) (suc place) (suc j) = removed_at xs place j

paired_there : (m : ℕ) (ps : List (Value × Value)) (j : ℕ) (l : Label) (x : Value) → slice_get (paired_from m ps) (2 * j) ≡ Some (l, x) → (p : Value × Value) × (slice_get ps j ≡ Some p) × (p.0 ≡ x)
paired_there m [] j l x e = absurd (none-some (l, x) e)
paired_there m (p ∷ ps) zero l x e = (p, refl, ap (λ (t : Label × Value). t.1) (same_Some (KeyAt m, p.0) (l, x) e))
paired_there m (p ∷ ps) (suc j) l x e =
    paired_there (m + 1) ps j l x (ap (slice_get (paired_from m (p ∷ ps))) (let z : suc (suc (2 * j)) ≡ 2 * suc j = omega arith in z) ∙ e)

paired_back : (m : ℕ) (ps : List (Value × Value)) (j : ℕ) (p : Value × Value) → slice_get ps j ≡ Some p → (l : Label) × (slice_get (paired_from m ps) (2 * j) ≡ Some (l, p.0))
paired_back m [] j p e = absurd (none-some p e)
paired_back m (q ∷ ps) zero p e = (KeyAt m, ap (λ (r : Value × Value). Some (KeyAt m, r.0)) (same_Some q p e))
paired_back m (q ∷ ps) (suc j) p e =
    let r = paired_back (m + 1) ps j p e in
    (r.0, ap (slice_get (paired_from m (q ∷ ps))) (let z : 2 * suc j ≡ suc (suc (2 * j)) = omega arith in z) ∙ r.1)

pub pair_is_taken : PairIsTaken
pair_is_taken below slots keys n place o ps ks named at unfrozen kind keys_at pairs =
    setting below slots keys (slice_set keys n (remove ks place)) n (Here o) (Here p) named at (λ k e. absurd (none-some k (sym (open_none o unfrozen) ∙ e)))
    (λ m differ. set_other keys n m (remove ks place) differ) (λ j k x h. inl (own j k x h))
  where
    p : Object
    p = record o { triples = paired_from 0 (remove ps place) }

    own : (j : ℕ) (k : HashKey) (x : Value) → HasKey (slice_set slots n (Here p)) (slice_set keys n (remove ks place)) n j k x → (i : ℕ) × HasKey slots keys n i k x
    own j k x h =
        let key : slice_get (remove ks place) j ≡ Some k = ap (λ (zs : List HashKey). slice_get zs j) (set_is keys n (remove ks place) h.1 h.5) ∙ h.6 in
        let there = paired_there 0 (remove ps place) j h.2 x (ap (λ (q : Object). slice_get q.triples (2 * j)) (set_object slots n p h.0 h.3) ∙ h.7) in
        let was = paired_back 0 ps (skip place j) there.0 (sym (removed_at ps place j) ∙ there.1) in (
          skip place j,
          (
            o,
            ks,
            was.0,
            at,
            kind,
            keys_at,
            sym (removed_at ks place j) ∙ key,
            ap (λ (ts : List (Label × Value)). slice_get ts (2 * skip place j)) pairs ∙ was.1 ∙ ap (λ y. Some (was.0, y)) there.2,
          ),
        )

-- ---- An object comes into the next slot.

module _ (below : Below) (slots : List Slot) (keys : List (List HashKey)) (o : Object) (ks : List HashKey) (even : length keys ≡ length slots) where
  -- a key behind one more object is an old one, or one of the object
  made_cases : (n i : ℕ) (k : HashKey) (x : Value) (h : HasKey (slots ++ Here o ∷ []) (keys ++ ks ∷ []) n i k x)
      → HasKey slots keys n i k x ⊎ ((o.kind ≡ hash) × (slice_get ks i ≡ Some k) × (slice_get o.triples (2 * i) ≡ Some (h.2, x)))
  made_cases n i k x h = by (last_cases n (length slots) within)
    where
      within : n < length slots + 1
      within = let lt = slice_get_within (slots ++ Here o ∷ []) n (Here h.0) h.3 in let e = length-append slots (Here o ∷ []) in omega (arith, lt, e)

      by : (n < length slots) ⊎ (n ≡ length slots) → HasKey slots keys n i k x ⊎ ((o.kind ≡ hash) × (slice_get ks i ≡ Some k) × (slice_get o.triples (2 * i) ≡ Some (h.2, x)))
      by (inl lt) =
          inl (h.0, h.1, h.2, sym (get_front slots (Here o ∷ []) n lt) ∙ h.3, h.4, sym (get_front keys (ks ∷ []) n (let w : n < length keys = omega (arith, lt, even) in w)) ∙ h.5, h.6, h.7)
      by (inr e) =
          let slot : Here o ≡ Here h.0 = same_Some (Here o) (Here h.0) (sym (ap (slice_get (slots ++ Here o ∷ [])) e ∙ get_seam slots (Here o)) ∙ h.3) in
          let one : o ≡ h.0 = cc in
          let place : n ≡ length keys = e ∙ sym even in
          let same : ks ≡ h.1 = same_Some ks h.1 (sym (ap (slice_get (keys ++ ks ∷ [])) place ∙ get_seam keys ks) ∙ h.5) in
          inr (ap (λ (q : Object). q.kind) one ∙ h.4, ap (λ (zs : List HashKey). slice_get zs i) same ∙ h.6, ap (λ (q : Object). slice_get q.triples (2 * i)) one ∙ h.7)

pub object_is_made : ObjectIsMade
object_is_made below slots keys o ks named even fits =
    steps below slots (slots ++ Here o ∷ []) keys (keys ++ ks ∷ []) named (append_keeps below slots (Here o ∷ []))
    (λ n i k x h. ⊎_elim (λ g. inl (n, i, g)) (λ g. inr (append_keeps below slots (Here o ∷ []) x k (fits i k h.2 x g.0 g.1 g.2))) (made_cases below slots keys o ks even n i k x h))
