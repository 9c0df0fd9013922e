-- Spaces are sound: what their fields keep says that no reference leads nowhere.
use Rattle.std.proofs.Common.{◌≡◌, ℕ, zero, suc, ◌*◌, ◌≤◌, List, [], ◌∷◌, ◌++◌, length, map, slice_get, Some, Contains, sym, ap, ◌∙◌, subst, refl, arith}
use Rattle.std.proofs.lemmas.List.{length-map}
use Rattle.std.proofs.lemmas.List.Elements.{Contains-append_left, Contains-append_right}
use Rattle.std.proofs.lemmas.Option.{same_Some, none-some}
use Rattle.rr_space.specs.Graph.{Label, Value, Object, IsSolid, shell, hash}
use Rattle.rr_space.specs.Tables.{Here, Whole, Table, below_hold, outer_objects, numbered_object}
use Rattle.rr_space.specs.Parts.{Parts, value_of, value_triple, below_ref, below_parts, below_all, pairs_from, sealed_parts, sealed_object, sealed_kind}
use Rattle.rr_space.specs.Parts.{AllSealedWithin}
use Rattle.rr_space.specs.declared.refer.Sealed.{Sealed}
use Rattle.rr_space.specs.declared.refer.Sealed.TheVariants.{Text, Array, Hash, Object as PlainObject, Exception}
use Rattle.rr_space.proofs.Within.{sealed_within}
use Rattle.rr_space.specs.Sound.{IsKeyed, HasPlaceIn, IsStanding, IsBelowSound, IsSlotSound, IsTableSound, IsWell, IsHold, IsWholeSound}
use Rattle.rr_space.specs.Views.{IsWithin, AllWithin, IsHeldWithin, AllHeldWithin, slot_of, below_held, held_keys, emptied, node_object, node_kind, node_keys, entry_pair, entry_key, node_parts}
use Rattle.rr_space.specs.declared.refer.Ref.{Ref}
use Rattle.rr_space.specs.declared.refer.Ref.TheVariants.{Nil, False, True, Int, Symbol, Class, Ractor, Local, Shared}
use Rattle.rr_space.specs.declared.node.Node.{Node}
use Rattle.rr_space.specs.declared.node.Node.TheVariants.{Text as TextNode, Array as ArrayNode, Hash as HashNode, Object as ObjectNode, Exception as ExceptionNode}
use Rattle.rr_space.specs.declared.node.Held.{Held}
use Rattle.rr_space.specs.declared.node.Held.TheVariants.{Whole as WholeHeld, Shell, Forward}
use Rattle.rr_space.proofs.Listing.{length-pairs_from}
use Rattle.rr_space.proofs.Placing.{table_of, within_at}
use Rattle.rr_space.proofs.Renaming.{mapped_at}
use Rattle.rr_space.proofs.Sounds.{standing_later, append_sound, none_sound, hold_sound}

held_place : (p : ℕ) (w : Whole) → IsHold p w → HasPlaceIn (below_hold w) w.number p
held_place p w h = (outer_objects w, (0, omega arith, refl), let e = length-map w.own (numbered_object w.number) in omega (arith, e, h.within))

ref_standing : (k : ℕ) (r : Ref) → IsWithin k r → IsStanding k (below_ref r) (value_of r)
ref_standing k Nil h = tt
ref_standing k False h = tt
ref_standing k True h = tt
ref_standing k (Int z) h = tt
ref_standing k (Symbol s) h = tt
ref_standing k (Class c) h = tt
ref_standing k (Ractor r) h = tt
ref_standing k (Local n) h = h
ref_standing k (Shared p c) h = held_place p c.now h

ref_below : (k : ℕ) (r : Ref) → IsWithin k r → IsBelowSound (below_ref r)
ref_below k Nil h = none_sound
ref_below k False h = none_sound
ref_below k True h = none_sound
ref_below k (Int z) h = none_sound
ref_below k (Symbol s) h = none_sound
ref_below k (Class c) h = none_sound
ref_below k (Ractor r) h = none_sound
ref_below k (Local n) h = none_sound
ref_below k (Shared p c) h = hold_sound c.now h.sound

parts_standing : (k : ℕ) (ts : Parts) → AllWithin k ts → (l : Label) (x : Value) → Contains (map value_triple ts) (l, x) → IsStanding k (below_parts ts) x
parts_standing k [] all l x (i, lt, e) = absurd (let w : ⊥ = omega (arith, lt) in w)
parts_standing k (t ∷ ts) all l x (zero, lt, e) =
    standing_later k k (below_ref t.1) (below_ref t.1 ++ below_parts ts) (omega arith) (Contains-append_left (below_ref t.1) (below_parts ts)) x
    (subst (IsStanding k (below_ref t.1)) (ap (λ (y : Label × Value). y.1) e) (ref_standing k t.1 all.0))
parts_standing k (t ∷ ts) all l x (suc i, lt, e) =
    standing_later k k (below_parts ts) (below_ref t.1 ++ below_parts ts) (omega arith) (Contains-append_right (below_ref t.1) (below_parts ts)) x
    (parts_standing k ts all.1 l x (i, omega (arith, lt), e))

parts_below : (k : ℕ) (ts : Parts) → AllWithin k ts → IsBelowSound (below_parts ts)
parts_below k [] all = none_sound
parts_below k (t ∷ ts) all = append_sound (below_ref t.1) (below_parts ts) (ref_below k t.1 all.0) (parts_below k ts all.1)

held_slot : (k : ℕ) (h : Held) → IsHeldWithin k h → IsSlotSound k (slot_of h) (below_held h)
held_slot k (WholeHeld f node) w = λ l x has. parts_standing k (node_parts node) w l x has
held_slot k Shell w = λ l x (i, lt, e). absurd (let z : ⊥ = omega (arith, lt) in z)
held_slot k (Forward p c) w = held_place p c.now w

held_below : (k : ℕ) (h : Held) → IsHeldWithin k h → IsBelowSound (below_held h)
held_below k (WholeHeld f node) w = parts_below k (node_parts node) w
held_below k Shell w = none_sound
held_below k (Forward p c) w = hold_sound c.now w.sound

all_sound : (hs : List Held) → AllHeldWithin (length hs) hs → IsTableSound (map slot_of hs) (map below_held hs)
all_sound hs all = record {
  count = length-map hs below_held ∙ sym (length-map hs slot_of);
  slots = λ n s b at bt.
      let h = mapped_at slot_of hs n s at in
      let g = mapped_at below_held hs n b bt in
      let one : g.0 ≡ h.0 = same_Some g.0 h.0 (sym g.1 ∙ h.1) in
      let below : below_held h.0 ≡ b = ap below_held (sym one) ∙ g.2 in
      subst (λ k. IsSlotSound k s b) (sym (length-map hs slot_of))
      (subst (λ x. IsSlotSound (length hs) x b) h.2 (subst (IsSlotSound (length hs) (slot_of h.0)) below (held_slot (length hs) h.0 (within_at (length hs) hs n h.0 all h.1))));
  below = λ n b bt.
      let g = mapped_at below_held hs n b bt in
      subst IsBelowSound g.2 (held_below (length hs) g.0 (within_at (length hs) hs n g.0 all g.1));
}

-- a hash has as many keys as pairs
node_keyed : (node : Node) → node_kind node ≡ hash → length (map value_triple (node_parts node)) ≡ 2 * length (node_keys node)
node_keyed (TextNode b) e = absurd (let w : ⊥ = cc in w)
node_keyed (ArrayNode b) e = absurd (let w : ⊥ = cc in w)
node_keyed (ObjectNode c b) e = absurd (let w : ⊥ = cc in w)
node_keyed (ExceptionNode c b) e = absurd (let w : ⊥ = cc in w)
node_keyed (HashNode es) e =
    let ps = map entry_pair es.value.entries in
    omega (
      arith,
      length-map (pairs_from 0 ps) value_triple,
      length-pairs_from ps 0,
      length-map es.value.entries entry_pair,
      length-map es.value.entries entry_key,
    )

held_keyed : (h : Held) (o : Object) → slot_of h ≡ Here o → o.kind ≡ hash → length o.triples ≡ 2 * length (held_keys h)
held_keyed (WholeHeld f node) o e kind =
    let same : node_object node f ≡ o = cc in
    ap (λ (x : Object). length x.triples) (sym same) ∙ node_keyed node (ap (λ (x : Object). x.kind) same ∙ kind)
held_keyed Shell o e kind = absurd (let same : emptied ≡ o = cc in let w : shell ≡ hash = ap (λ (x : Object). x.kind) same ∙ kind in cc)
held_keyed (Forward p c) o e kind = absurd (let w : ⊥ = cc in w)

all_keyed : (hs : List Held) (limit owner next : ℕ) → IsKeyed (table_of hs limit owner next)
all_keyed hs limit owner next = record {
  count = length-map hs held_keys ∙ sym (length-map hs slot_of);
  pairs = λ n o ks at keys_at kind.
      let h = mapped_at slot_of hs n (Here o) at in
      let g = mapped_at held_keys hs n ks keys_at in
      let one : g.0 ≡ h.0 = same_Some g.0 h.0 (sym g.1 ∙ h.1) in
      held_keyed h.0 o h.2 kind ∙ ap (λ xs. 2 * length xs) (ap held_keys (sym one) ∙ g.2);
}

pub well_is : (hs : List Held) (limit owner next : ℕ) (t : Table) → table_of hs limit owner next ≡ t → (length hs ≤ limit) × AllHeldWithin (length hs) hs → IsWell t
well_is hs limit owner next t e all = subst IsWell e (record { room = let z = length-map hs slot_of in omega (arith, z, all.0); sound = all_sound hs all.1; keyed = all_keyed hs limit owner next })

-- clusters
sealed_solid : (s : Sealed) → IsSolid (sealed_object s)
sealed_solid s = record { frozen = refl; no_shell = whole s }
  where
    whole : (s : Sealed) → sealed_kind s ≡ shell → ⊥
    whole (Text b) e = cc
    whole (Array rs) e = cc
    whole (Hash ps) e = cc
    whole (PlainObject c fs) e = cc
    whole (Exception c r) e = cc

sealed_below : (k : ℕ) (ss : List Sealed) → AllSealedWithin k ss → IsBelowSound (below_all ss)
sealed_below k [] all = none_sound
sealed_below k (s ∷ ss) all = append_sound (below_parts (sealed_parts s)) (below_all ss) (parts_below k (sealed_parts s) all.0) (sealed_below k ss all.1)

pub sealed_in : (ss : List Sealed) (p : ℕ) (s : Sealed) (e : ℕ × List Object) → slice_get ss p ≡ Some s → Contains (below_parts (sealed_parts s)) e → Contains (below_all ss) e
sealed_in [] p s e at has = absurd (none-some s at)
sealed_in (x ∷ ss) zero s e at has = Contains-append_left (below_parts (sealed_parts x)) (below_all ss) e (subst (λ y. Contains (below_parts (sealed_parts y)) e) (sym (same_Some x s at)) has)
sealed_in (x ∷ ss) (suc p) s e at has = Contains-append_right (below_parts (sealed_parts x)) (below_all ss) e (sealed_in ss p s e at has)

abbrev pub cluster_of : ℕ → List Sealed → Whole
cluster_of c ss = record { number = c; own = map sealed_object ss; below = below_all ss }

pub cluster_sound : (c : ℕ) (ss : List Sealed) → AllSealedWithin (length ss) ss → IsWholeSound (cluster_of c ss)
cluster_sound c ss all = record {
  solid = λ p o at. let m = mapped_at sealed_object ss p o at in subst IsSolid m.2 (sealed_solid m.0);
  within = λ p o at l x has.
      let m = mapped_at sealed_object ss p o at in
      let parts = sealed_parts m.0 in
      subst (λ k. IsStanding k (below_all ss) x) (sym (length-map ss sealed_object))
      (standing_later (length ss) (length ss) (below_parts parts) (below_all ss) (omega arith) (λ e h. sealed_in ss p m.0 e m.1 h) x
      (parts_standing (length ss) parts (sealed_within (length ss) ss p m.0 all m.1) l x (subst (λ (y : Object). Contains y.triples (l, x)) (sym m.2) has)));
  below = sealed_below (length ss) ss all;
}

pub is_sound : (c : ℕ) (ss : List Sealed) (w : Whole) → cluster_of c ss ≡ w → AllSealedWithin (length ss) ss → IsWholeSound w
is_sound c ss w e all = subst IsWholeSound e (cluster_sound c ss all)
