-- A message is closed, and what is published in it is frozen and leads to published objects alone.
use Rattle.std.proofs.Common.{◌≡◌, ℕ, zero, suc, List, [], ◌∷◌, length, map, slice_get, Option, Some, None, Contains, sym, ap, ◌∙◌, subst, refl, arith}
use Rattle.std.proofs.lemmas.List.{length-map}
use Rattle.std.proofs.lemmas.List.Elements.{Contains-append_left, Contains-append_right}
use Rattle.std.proofs.lemmas.Option.{same_Some, none-some}
use Rattle.std.specs.Option.{option_and_then}
use Rattle.rr_space.specs.Graph.{Own, Published, Value, Plain, At, Label, Object}
use Rattle.rr_space.specs.Tables.{Below, Slot, Here, Packed, joined, numbered_object, outer_objects, object_in, resolve, resolve_slot, resolve_triple, resolve_object, graph_of, message_graph, IsBelow, IsClosed, IsSealed}
use Rattle.rr_space.specs.Sound.{IsStanding, IsBelowSound, IsSlotSound}
use Rattle.rr_space.specs.Parts.{Parts, value_of, value_triple, below_ref, below_parts}
use Rattle.rr_space.specs.Views.{IsWithin, AllWithin, IsNodeWithin, node_parts, emptied}
use Rattle.rr_space.specs.Views.{AllCarriedWithin, carried_object, carried_below}
use Rattle.rr_space.specs.declared.carried.Carried.{Carried}
use Rattle.rr_space.specs.declared.refer.Ref.{Ref}
use Rattle.rr_space.specs.declared.refer.Ref.TheVariants.{Nil, False, True, Int, Symbol, Class, Ractor, Local, Shared}
use Rattle.rr_space.proofs.Renaming.{mapped_at, map_at}
use Rattle.rr_space.proofs.Sounds.{append_sound, none_sound, hold_sound, sound_is_sealed, standing_later}
use Rattle.rr_copy.specs.Contents.{packed_of}
use Rattle.rr_copy.specs.Messages.{IsMessageSound}

-- ---- closed

pub ref_inside : (k : ℕ) (r : Ref) → IsWithin k r → IsBelow k (value_of r)
ref_inside k Nil h = tt
ref_inside k False h = tt
ref_inside k True h = tt
ref_inside k (Int z) h = tt
ref_inside k (Symbol s) h = tt
ref_inside k (Class c) h = tt
ref_inside k (Ractor r) h = tt
ref_inside k (Local n) h = h
ref_inside k (Shared p c) h = tt

parts_inside : (k : ℕ) (ts : Parts) → AllWithin k ts → (l : Label) (x : Value) → Contains (map value_triple ts) (l, x) → IsBelow k x
parts_inside k [] all l x (i, lt, e) = absurd (let w : ⊥ = omega (arith, lt) in w)
parts_inside k (t ∷ ts) all l x (zero, lt, e) = subst (IsBelow k) (ap (λ (y : Label × Value). y.1) e) (ref_inside k t.1 all.0)
parts_inside k (t ∷ ts) all l x (suc i, lt, e) = parts_inside k ts all.1 l x (i, omega (arith, lt), e)

pub carried_at : (k : ℕ) (cs : List Carried) (i : ℕ) (c : Carried) → AllCarriedWithin k cs → slice_get cs i ≡ Some c → IsNodeWithin k c.node
carried_at k [] i c all at = absurd (none-some c at)
carried_at k (x ∷ cs) zero c all at = subst (λ y. IsNodeWithin k y.node) (same_Some x c at) all.0
carried_at k (x ∷ cs) (suc i) c all at = carried_at k cs i c all.1 at

pub message_closed : (cs : List Carried) (root : Ref) (sender sequence : ℕ) → AllCarriedWithin (length cs) cs → IsWithin (length cs) root → IsClosed (packed_of cs root sender sequence)
message_closed cs root sender sequence all within = record {
  objects = λ n o l x at has.
      let c = mapped_at carried_object cs n o at in
      subst (λ k. IsBelow k x) (sym (length-map cs carried_object))
      (parts_inside (length cs) (node_parts c.0.node) (carried_at (length cs) cs n c.0 all c.1) l x (subst (λ (y : Object). Contains y.triples (l, x)) (sym c.2) has));
  root = subst (λ k. IsBelow k (value_of root)) (sym (length-map cs carried_object)) (ref_inside (length cs) root within);
}

-- ---- sealed

ref_sound : (k : ℕ) (r : Ref) → IsWithin k r → IsBelowSound (below_ref r)
ref_sound k Nil h = none_sound
ref_sound k False h = none_sound
ref_sound k True h = none_sound
ref_sound k (Int z) h = none_sound
ref_sound k (Symbol s) h = none_sound
ref_sound k (Class c) h = none_sound
ref_sound k (Ractor r) h = none_sound
ref_sound k (Local n) h = none_sound
ref_sound k (Shared p c) h = hold_sound c.now h.sound

parts_sound : (k : ℕ) (ts : Parts) → AllWithin k ts → IsBelowSound (below_parts ts)
parts_sound k [] all = none_sound
parts_sound k (t ∷ ts) all = append_sound (below_ref t.1) (below_parts ts) (ref_sound k t.1 all.0) (parts_sound k ts all.1)

-- lists of clusters that are sound each
all_sealed : (slots : List Slot) (bs : List Below) → ((n : ℕ) (b : Below) → slice_get bs n ≡ Some b → IsBelowSound b) → IsSealed (graph_of slots (joined bs))
all_sealed slots bs sound =
    let s = sound_is_sealed (map (λ _. Here emptied) bs) bs (record {
      count = sym (length-map bs (λ _. Here emptied));
      slots = λ n s b at bt. let m = mapped_at (λ (_ : Below). Here emptied) bs n s at in
          subst (λ y. IsSlotSound (length (map (λ (_ : Below). Here emptied) bs)) y b) m.2 (λ l x (i, lt, e). absurd (let w : ⊥ = omega (arith, lt) in w));
      below = sound;
    }) in
    record { solid = λ c p o here. s.solid c p o here; shut = λ c p o l x here has. s.shut c p o l x here has }

pub message_sealed : (cs : List Carried) (root : Ref) (sender sequence : ℕ) → AllCarriedWithin (length cs) cs → IsWithin (length cs) root → IsSealed (message_graph (packed_of cs root sender sequence))
message_sealed cs root sender sequence all within = all_sealed (map Here (map carried_object cs)) (below_ref root ∷ map carried_below cs) sound
  where
    sound : (n : ℕ) (b : Below) → slice_get (below_ref root ∷ map carried_below cs) n ≡ Some b → IsBelowSound b
    sound zero b at = subst IsBelowSound (same_Some (below_ref root) b at) (ref_sound (length cs) root within)
    sound (suc n) b at =
        let c = mapped_at carried_below cs n b at in
        subst IsBelowSound c.2 (parts_sound (length cs) (node_parts c.0.node) (carried_at (length cs) cs n c.0 all c.1))

-- ---- sound

ref_standing : (k : ℕ) (r : Ref) → IsWithin k r → IsStanding k (below_ref r) (value_of r)
ref_standing k Nil h = tt
ref_standing k False h = tt
ref_standing k True h = tt
ref_standing k (Int z) h = tt
ref_standing k (Symbol s) h = tt
ref_standing k (Class c) h = tt
ref_standing k (Ractor r) h = tt
ref_standing k (Local n) h = h
ref_standing k (Shared p c) h = (outer_objects c.now, (0, omega arith, refl), let e = length-map c.now.own (numbered_object c.now.number) in omega (arith, e, h.within))

parts_standing : (k : ℕ) (ts : Parts) → AllWithin k ts → (l : Label) (x : Value) → Contains (map value_triple ts) (l, x) → IsStanding k (below_parts ts) x
parts_standing k [] all l x (i, lt, e) = absurd (let w : ⊥ = omega (arith, lt) in w)
parts_standing k (t ∷ ts) all l x (zero, lt, e) =
    subst (IsStanding k (below_parts (t ∷ ts))) (ap (λ (y : Label × Value). y.1) e)
    (standing_later k k (below_ref t.1) (below_parts (t ∷ ts)) (omega arith) (Contains-append_left (below_ref t.1) (below_parts ts)) (value_of t.1) (ref_standing k t.1 all.0))
parts_standing k (t ∷ ts) all l x (suc i, lt, e) =
    standing_later k k (below_parts ts) (below_parts (t ∷ ts)) (omega arith) (Contains-append_right (below_ref t.1) (below_parts ts)) x (parts_standing k ts all.1 l x (i, omega (arith, lt), e))

pub message_sound : (cs : List Carried) (root : Ref) (sender sequence : ℕ) → AllCarriedWithin (length cs) cs → IsWithin (length cs) root → IsMessageSound (packed_of cs root sender sequence)
message_sound cs root sender sequence all within =
    let many : length (map Here (map carried_object cs)) ≡ length cs = length-map (map carried_object cs) Here ∙ length-map cs carried_object in
    record {
      objects = record {
        count = length-map cs carried_below ∙ sym many;
        slots = λ n s b at bt.
            let o = mapped_at Here (map carried_object cs) n s at in
            let c = mapped_at carried_object cs n o.0 o.1 in
            let d : carried_below c.0 ≡ b = same_Some (carried_below c.0) b (sym (map_at carried_below cs n c.0 c.1) ∙ bt) in
            subst (λ y. IsSlotSound (length (map Here (map carried_object cs))) y b) o.2
            (λ l x has. subst (λ k. IsStanding k b x) (sym many) (subst (λ y. IsStanding (length cs) y x) d
            (parts_standing (length cs) (node_parts c.0.node) (carried_at (length cs) cs n c.0 all c.1) l x (subst (λ (y : Object). Contains y.triples (l, x)) (sym c.2) has))));
        below = λ n b at.
            let c = mapped_at carried_below cs n b at in
            subst IsBelowSound c.2 (parts_sound (length cs) (node_parts c.0.node) (carried_at (length cs) cs n c.0 all c.1));
      };
      root = subst (λ k. IsStanding k (below_ref root) (value_of root)) (sym (length-map cs carried_object)) (ref_standing (length cs) root within);
      root_below = ref_sound (length cs) root within;
    }

-- ---- no slot of a message is a forward

pub still : (os : List Object) (x : Value) → resolve (map Here os) x ≡ x
still os (Plain i) = refl
still os (At (Published c p)) = refl
still os (At (Own n)) = by (slice_get (map Here os) n) refl
  where
    by : (s : Option Slot) → slice_get (map Here os) n ≡ s → At (resolve_slot (slice_get (map Here os) n) n) ≡ At (Own n)
    by None e = ap (λ t. At (resolve_slot t n)) e
    by (Some s) e = let m = mapped_at Here os n s e in ap (λ t. At (resolve_slot t n)) e ∙ ap (λ t. At (resolve_slot (Some t) n)) (sym m.2)

still_triples : (os : List Object) (ts : List (Label × Value)) → map (resolve_triple (map Here os)) ts ≡ ts
still_triples os [] = refl
still_triples os (t ∷ ts) = ap (λ x. (t.0, x) ∷ map (resolve_triple (map Here os)) ts) (still os t.1) ∙ ap (λ us. t ∷ us) (still_triples os ts)

still_object : (os : List Object) (o : Object) → resolve_object (map Here os) o ≡ o
still_object os o = ap (λ ts. record o { triples = ts }) (still_triples os o.triples)

-- the object of a message under its place
pub message_at : (m : Packed) (i : ℕ) (o : Object) → slice_get m.objects i ≡ Some o → message_graph m (Own i) ≡ Some o
message_at m i o at = ap (option_and_then (object_in (map Here m.objects))) (map_at Here m.objects i o at) ∙ ap Some (still_object m.objects o)
