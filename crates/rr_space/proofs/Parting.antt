-- The references of an object, by what stands in its slot.
use Rattle.std.proofs.Common.{◌≡◌, ℕ, eq-eqb, cond, length, slice_get, Some, List, ap, ◌∙◌, subst, sym, refl}
use Rattle.std.specs.Option.{option_and_then}
use Rattle.rr_space.specs.Graph.{Object}
use Rattle.rr_space.specs.Tables.{Whole, Table, below_hold, outer_objects, cluster_at, published_at, numbered}
use Rattle.rr_space.specs.Parts.{value_of}
use Rattle.rr_space.specs.Views.{StandsAt, slot_of, below_held, slot_object, IsHeldWithin, AllHeldWithin}
use Rattle.rr_space.specs.Parts.{IsWithin}
use Rattle.rr_space.specs.Labels.{triples_at, triples_of}
use Rattle.rr_space.specs.declared.refer.Ref.{Ref}
use Rattle.rr_space.specs.declared.refer.Ref.TheVariants.{Nil, False, True, Int, Symbol, Class, Ractor, Local, Shared}
use Rattle.rr_space.specs.declared.node.Held.{Held}
use Rattle.rr_space.proofs.Placing.{table_of, count_is, within_at}

pub triples_here : (t : Table) (n : ℕ) (v : Ref) (h : Held) → v ≡ Local n → StandsAt t n h → triples_at t v ≡ triples_of (slot_object (Some (slot_of h)) (Some (below_held h)))
triples_here t n v h is s =
    ap (triples_at t) is ∙ ap (λ x. triples_of (slot_object x (slice_get t.below n))) s.slot ∙ ap (λ x. triples_of (slot_object (Some (slot_of h)) x)) s.below

pub hold_first : (w : Whole) (p : ℕ) → published_at (below_hold w) w.number p ≡ slice_get (outer_objects w) p
hold_first w p = ap (λ b. option_and_then (λ (os : List Object). slice_get os p) (cond b (Some (outer_objects w)) (cluster_at w.below w.number))) (eq-eqb w.number w.number refl)

-- what stands in a slot is within the table
pub held_within : (hs : List Held) (limit owner next : ℕ) (t : Table) (n : ℕ) (h : Held) → table_of hs limit owner next ≡ t → AllHeldWithin (length hs) hs → slice_get hs n ≡ Some h → IsHeldWithin (length t.slots) h
held_within hs limit owner next t n h e all at = subst (λ k. IsHeldWithin k h) (sym (count_is hs limit owner next t e)) (within_at (length hs) hs n h all at)

-- a value inside a cluster, seen from outside
pub outward_same : (n : ℕ) (r : Ref) → ((q : ℕ) → r ≡ Local q → ⊥) → value_of r ≡ numbered n (value_of r)
outward_same n Nil out = refl
outward_same n False out = refl
outward_same n True out = refl
outward_same n (Int z) out = refl
outward_same n (Symbol s) out = refl
outward_same n (Class c) out = refl
outward_same n (Ractor r) out = refl
outward_same n (Local q) out = absurd (out q refl)
outward_same n (Shared p c) out = refl

pub outward_within : (m n : ℕ) (r : Ref) → ((q : ℕ) → r ≡ Local q → ⊥) → IsWithin m r → IsWithin n r
outward_within m n Nil out w = tt
outward_within m n False out w = tt
outward_within m n True out w = tt
outward_within m n (Int z) out w = tt
outward_within m n (Symbol s) out w = tt
outward_within m n (Class c) out w = tt
outward_within m n (Ractor r) out w = tt
outward_within m n (Local q) out w = absurd (out q refl)
outward_within m n (Shared p c) out w = w
