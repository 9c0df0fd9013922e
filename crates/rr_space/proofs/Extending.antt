-- A table with one more text, and a table without what stands behind.
use Rattle.std.proofs.Common.{◌≡◌, ◌≤◌, ◌<◌, ◌+◌, ℕ, zero, suc, List, [], ◌∷◌, ◌++◌, length, length-append, map, take, get_or, slice_get, slice_set, Option, Some, None, IsTrue, Contains, sym, ap, ◌∙◌, subst, refl, arith}
use Rattle.std.proofs.lemmas.Bool.{false≢true}
use Rattle.std.proofs.lemmas.List.{length-take-le, take-map, set-append_left, take_at}
use Rattle.std.proofs.lemmas.Option.{slice_get_within, slice_get-get_or}
use Rattle.rr_space.specs.Graph.{Label, Value, Plain, At, Own, Published, Object, array}
use Rattle.rr_space.specs.Tables.{Slot, Here, Led, Below, Table, HashKey, TextKey, IsRestKept, IsBelow}
use Rattle.rr_space.specs.Sound.{IsStanding, IsWell}
use Rattle.rr_space.specs.Lookups.{frozen_text, key_at, key_of_frozen}
use Rattle.rr_space.specs.Parts.{Parts, value_of, value_triple}
use Rattle.rr_space.specs.Kinds.{kind_at, object_kind, kind_named}
use Rattle.rr_space.specs.Views.{is_open, can_write_at, slot_object, IsWithin, AllWithin, IsHeldWithin, AllHeldWithin, slot_of, below_held, held_keys, node_parts, node_kind, node_object, IsHeadKept, placed_from}
use Rattle.rr_space.specs.declared.refer.Ref.{Ref}
use Rattle.rr_space.specs.declared.refer.Ref.TheVariants.{Nil, False, True, Int, Symbol, Class, Ractor, Local, Shared}
use Rattle.rr_space.specs.declared.node.Node.{Node}
use Rattle.rr_space.specs.declared.node.Node.TheVariants.{Text, Array, Hash, Object as PlainObject, Exception}
use Rattle.rr_space.specs.declared.node.Held.{Held}
use Rattle.rr_space.specs.declared.node.Held.TheVariants.{Whole, Shell, Forward}
use Rattle.rr_space.proofs.Placing.{table_of}
use Rattle.rr_space.proofs.Removing.{values_placed}
use Rattle.rr_space.proofs.Within.{ref_later}

pub get_front : {A : Type 0} (xs ys : List A) (n : ℕ) → n < length xs → slice_get (xs ++ ys) n ≡ slice_get xs n
get_front [] ys n lt = absurd (let w : ⊥ = omega (arith, lt) in w)
get_front (x ∷ xs) ys zero lt = refl
get_front (x ∷ xs) ys (suc n) lt = get_front xs ys n (omega (arith, lt))

pub get_seam : {A : Type 0} (xs : List A) (y : A) → slice_get (xs ++ y ∷ []) (length xs) ≡ Some y
get_seam [] y = refl
get_seam (x ∷ xs) y = get_seam xs y

-- what may be written is an object of a slot
pub open_there : (t : Table) (v : Ref) → IsTrue (can_write_at t v) → (n : ℕ) × (o : Object) × (v ≡ Local n) × (slice_get t.slots n ≡ Some (Here o))
open_there t (Local n) h = by (slice_get t.slots n) refl h
  where
    by : (s : Option Slot) → slice_get t.slots n ≡ s → IsTrue (is_open s) → (m : ℕ) × (o : Object) × (Local n ≡ Local m) × (slice_get t.slots m ≡ Some (Here o))
    by (Some (Here o)) at h = (n, o, refl, at)
    by (Some (Led c p)) at h = absurd (false≢true h)
    by None at h = absurd (false≢true h)
open_there t Nil h = absurd (false≢true h)
open_there t False h = absurd (false≢true h)
open_there t True h = absurd (false≢true h)
open_there t (Int z) h = absurd (false≢true h)
open_there t (Symbol s) h = absurd (false≢true h)
open_there t (Class c) h = absurd (false≢true h)
open_there t (Ractor r) h = absurd (false≢true h)
open_there t (Shared p c) h = absurd (false≢true h)

kind_here : (t : Table) (n : ℕ) (o : Object) → slice_get t.slots n ≡ Some (Here o) → kind_at t (Local n) ≡ kind_named o.kind
kind_here t n o at = ap (λ s. object_kind (slot_object s (slice_get t.below n))) at

standing_below : (k : ℕ) (b : Below) (x : Value) → IsStanding k b x → IsBelow k x
standing_below k b (Plain i) h = tt
standing_below k b (At (Own n)) h = h
standing_below k b (At (Published c p)) h = tt

-- a table, and the same with a text behind its slots
module _ (t u : Table) (bytes : List ℕ) (slots : u.slots ≡ t.slots ++ Here (frozen_text bytes) ∷ []) where
  pub count_later : length u.slots ≡ length t.slots + 1
  count_later = ap length slots ∙ length-append t.slots (Here (frozen_text bytes) ∷ [])

  pub at_later : (n : ℕ) (s : Slot) → slice_get t.slots n ≡ Some s → slice_get u.slots n ≡ Some s
  at_later n s at = ap (λ ss. slice_get ss n) slots ∙ get_front t.slots (Here (frozen_text bytes) ∷ []) n (slice_get_within t.slots n s at) ∙ at

  pub can_later : (v : Ref) → IsTrue (can_write_at t v) → IsTrue (can_write_at u v)
  can_later v can =
      let w = open_there t v can in
      let was : IsTrue (can_write_at t (Local w.0)) = subst (λ r. IsTrue (can_write_at t r)) w.2 can in
      let now : IsTrue (is_open (Some (Here w.1))) = subst (λ s. IsTrue (is_open s)) w.3 was in
      subst (λ r. IsTrue (can_write_at u r)) (sym w.2) (subst (λ s. IsTrue (is_open s)) (sym (at_later w.0 (Here w.1) w.3)) now)

  pub kind_later : (v : Ref) → IsTrue (can_write_at t v) → kind_at u v ≡ kind_at t v
  kind_later v can =
      let w = open_there t v can in
      ap (kind_at u) w.2 ∙ kind_here u w.0 w.1 (at_later w.0 (Here w.1) w.3) ∙ sym (kind_here t w.0 w.1 w.3) ∙ ap (kind_at t) (sym w.2)

  pub within_later : (r : Ref) → IsWithin (length t.slots) r → IsWithin (length u.slots) r
  within_later r w = ref_later (length t.slots) (length u.slots) (omega (arith, count_later)) r w

  pub name_within : (r : Ref) → r ≡ Local (length t.slots) → IsWithin (length u.slots) r
  name_within r is = subst (IsWithin (length u.slots)) (sym is) (let z : length t.slots < length u.slots = omega (arith, count_later) in z)

  pub name_key : (r : Ref) → r ≡ Local (length t.slots) → key_at u r ≡ Some (TextKey bytes)
  name_key r is =
      let k = length t.slots in
      ap (key_at u) is ∙ ap (λ s. key_of_frozen (slot_object s (slice_get u.below k))) (ap (λ ss. slice_get ss k) slots ∙ get_seam t.slots (Here (frozen_text bytes)))

  -- no slot of the old ones leads to the text
  pub apart_later : IsWell t → (n : ℕ) (o : Object) (l : Label) (x : Value) → n < length t.slots → slice_get u.slots n ≡ Some (Here o) → Contains o.triples (l, x) → IsBelow (length t.slots) x
  apart_later well n o l x lt at has =
      let was : slice_get t.slots n ≡ Some (Here o) = sym (ap (λ ss. slice_get ss n) slots ∙ get_front t.slots (Here (frozen_text bytes) ∷ []) n lt) ∙ at in
      let b = get_or t.below n [] in
      let led : slice_get t.below n ≡ Some b = slice_get-get_or t.below n [] (omega (arith, lt, well.sound.count)) in
      standing_below (length t.slots) b x (well.sound.slots n (Here o) b was led l x has)

  pub written_later : (n : ℕ) (s : Slot) → n < length t.slots → slice_set u.slots n s ≡ slice_set t.slots n s ++ Here (frozen_text bytes) ∷ []
  written_later n s lt = ap (λ ss. slice_set ss n s) slots ∙ set-append_left t.slots (Here (frozen_text bytes) ∷ []) n s lt

  -- without the text it is the old table
  pub taken_back : u.below ≡ t.below ++ [] ∷ [] → u.keys ≡ t.keys ++ [] ∷ [] → IsRestKept t u → IsWell t → (count : ℕ) → count ≡ length t.slots → (w new : Table) → w ≡ u
      → new ≡ record w { slots = take count w.slots; below = take count w.below; keys = take count w.keys } → new ≡ t
  taken_back below keys rest well count is w new same e =
      e ∙ ap (λ (z : Table). record z { slots = take count z.slots; below = take count z.below; keys = take count z.keys }) same
      ∙ ap (λ z. record u { slots = z; below = take count u.below; keys = take count u.keys }) (ap (take count) slots ∙ take_at t.slots (Here (frozen_text bytes) ∷ []) count (sym is))
      ∙ ap (λ z. record u { slots = t.slots; below = z; keys = take count u.keys }) (ap (take count) below ∙ take_at t.below ([] ∷ []) count (well.sound.count ∙ sym is))
      ∙ ap (λ z. record u { slots = t.slots; below = t.below; keys = z }) (ap (take count) keys ∙ take_at t.keys ([] ∷ []) count (well.keyed.count ∙ sym is))
      ∙ ap (λ z. record u { slots = t.slots; below = t.below; keys = t.keys; limit = z }) rest.limit
      ∙ ap (λ z. record u { slots = t.slots; below = t.below; keys = t.keys; limit = t.limit; owner = z }) rest.owner
      ∙ ap (λ z. record u { slots = t.slots; below = t.below; keys = t.keys; limit = t.limit; owner = t.owner; next_message = z }) rest.next_message

pub keys_later : (t u : Table) (n : ℕ) (ks : List HashKey) → u.keys ≡ t.keys ++ [] ∷ [] → slice_get t.keys n ≡ Some ks → slice_get u.keys n ≡ Some ks
keys_later t u n ks keys at = ap (λ kss. slice_get kss n) keys ∙ get_front t.keys ([] ∷ []) n (slice_get_within t.keys n ks at) ∙ at

pub keys_written : (t u : Table) (n : ℕ) (was ks : List HashKey) → u.keys ≡ t.keys ++ [] ∷ [] → slice_get t.keys n ≡ Some was → slice_set u.keys n ks ≡ slice_set t.keys n ks ++ [] ∷ []
keys_written t u n was ks keys at = ap (λ kss. slice_set kss n ks) keys ∙ set-append_left t.keys ([] ∷ []) n ks (slice_get_within t.keys n was at)

-- ---- The first slots of a table.

ref_less : (k j : ℕ) (r : Ref) → IsWithin j r → IsBelow k (value_of r) → IsWithin k r
ref_less k j Nil w low = tt
ref_less k j False w low = tt
ref_less k j True w low = tt
ref_less k j (Int z) w low = tt
ref_less k j (Symbol s) w low = tt
ref_less k j (Class c) w low = tt
ref_less k j (Ractor r) w low = tt
ref_less k j (Local n) w low = low
ref_less k j (Shared p c) w low = w

parts_less : (k j : ℕ) (ts : Parts) → AllWithin j ts → ((l : Label) (x : Value) → Contains (map value_triple ts) (l, x) → IsBelow k x) → AllWithin k ts
parts_less k j [] all low = tt
parts_less k j (t ∷ ts) all low = (
  ref_less k j t.1 all.0 (low t.0 (value_of t.1) (0, omega arith, refl)),
  parts_less k j ts all.1 (λ l x (i, lt, e). low l x (suc i, omega (arith, lt), e)),
)

held_less : (k j : ℕ) (h : Held) → IsHeldWithin j h → ((o : Object) (l : Label) (x : Value) → slot_of h ≡ Here o → Contains o.triples (l, x) → IsBelow k x) → IsHeldWithin k h
held_less k j (Whole f node) w low = parts_less k j (node_parts node) w (λ l x has. low (node_object node f) l x refl has)
held_less k j Shell w low = tt
held_less k j (Forward p c) w low = w

first_within : (k j : ℕ) (hs : List Held) (m : ℕ) → AllHeldWithin j hs
    → ((n : ℕ) (h : Held) → n < m → slice_get hs n ≡ Some h → (o : Object) (l : Label) (x : Value) → slot_of h ≡ Here o → Contains o.triples (l, x) → IsBelow k x) → AllHeldWithin k (take m hs)
first_within k j hs zero all low = tt
first_within k j [] (suc m) all low = tt
first_within k j (h ∷ hs) (suc m) all low = (
  held_less k j h all.0 (low 0 h (omega arith) refl),
  first_within k j hs m all.1 (λ n g lt at. low (suc n) g (omega (arith, lt)) at),
)

pub first_well : (hs : List Held) (limit m : ℕ) → (length hs ≤ limit) × AllHeldWithin (length hs) hs → m ≤ length hs
    → ((n : ℕ) (h : Held) → n < m → slice_get hs n ≡ Some h → (o : Object) (l : Label) (x : Value) → slot_of h ≡ Here o → Contains o.triples (l, x) → IsBelow m x)
    → (length (take m hs) ≤ limit) × AllHeldWithin (length (take m hs)) (take m hs)
first_well hs limit m all le low =
    let e = length-take-le m hs le in
    (omega (arith, e, all.0, le), subst (λ k. AllHeldWithin k (take m hs)) (sym e) (first_within m (length hs) hs m all.1 low))

pub take_is : (hs : List Held) (limit owner next : ℕ) (t : Table) (m : ℕ) → table_of hs limit owner next ≡ t
    → table_of (take m hs) limit owner next ≡ record t { slots = take m t.slots; below = take m t.below; keys = take m t.keys }
take_is hs limit owner next t m e = subst (λ (u : Table). table_of (take m hs) limit owner next ≡ record u { slots = take m u.slots; below = take m u.below; keys = take m u.keys }) e
    (ap (λ a. record { slots = a; below = map below_held (take m hs); keys = map held_keys (take m hs); limit = limit; owner = owner; next_message = next }) (sym (take-map slot_of m hs))
    ∙ ap (λ a. record { slots = take m (map slot_of hs); below = a; keys = map held_keys (take m hs); limit = limit; owner = owner; next_message = next }) (sym (take-map below_held m hs))
    ∙ ap (λ a. record { slots = take m (map slot_of hs); below = take m (map below_held hs); keys = a; limit = limit; owner = owner; next_message = next }) (sym (take-map held_keys m hs)))

-- arrays have one head, whatever their elements are
pub array_heads : (a : Node) (items : List Ref) → node_kind a ≡ array → IsHeadKept a (Array items)
array_heads (Array rs) items e = record { kind = refl; class = refl; bytes = refl; keys = refl }
array_heads (Text b) items e = absurd (let w : ⊥ = cc in w)
array_heads (Hash es) items e = absurd (let w : ⊥ = cc in w)
array_heads (PlainObject class fields) items e = absurd (let w : ⊥ = cc in w)
array_heads (Exception class raised) items e = absurd (let w : ⊥ = cc in w)

-- the elements of an array stand under their places
pub array_placed : (a : Node) → node_kind a ≡ array → (vs : List Value) × (map value_triple (node_parts a) ≡ placed_from 0 vs)
array_placed (Array items) e = (map value_of items, values_placed items 0)
array_placed (Text b) e = absurd (let w : ⊥ = cc in w)
array_placed (Hash es) e = absurd (let w : ⊥ = cc in w)
array_placed (PlainObject class fields) e = absurd (let w : ⊥ = cc in w)
array_placed (Exception class raised) e = absurd (let w : ⊥ = cc in w)
