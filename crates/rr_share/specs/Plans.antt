-- Copies of objects for a cluster.
use Rattle.std.specs.Prelude.{◌≡◌, ◌↔◌, ℕ, List, [], length, Some, slice_get, Contains}
use Rattle.rr_space.specs.Graph.{Own, Value, At, Object, Reaches, IsShareable, shell}
use Rattle.rr_space.specs.Graph.{Matches, IsAt}
use Rattle.rr_space.specs.Tables.{Here, Table, joined, resolve_object, Whole, resolve, space_graph}
use Rattle.rr_space.specs.Moves.{IsPlanned, IsPromoted, IsPromotedTo}
use Rattle.rr_space.specs.Sound.{IsTableSound, IsWholeSound}
use Rattle.rr_space.specs.Parts.{sealed_object, sealed_parts, below_parts}
use Rattle.rr_space.specs.Parts.{AllWithin}
use Rattle.rr_space.specs.declared.refer.Sealed.{Sealed}
use Rattle.rr_share.specs.declared.planned.Plan.{Plan}
use Rattle.rr_share.specs.declared.preparing.Prepared.{Prepared}
use Rattle.rr_share.specs.declared.preparing.Prepared.TheVariants.{Found}
use Rattle.rr_share.specs.declared.preparing.Prepared.TheVariants as prepared

-- what a sealed copy of the object in the slot n is, with these names for slots
pub record IsSealedFrom (t : Table) (names : List ℕ) (n : ℕ) (s : Sealed) : Type 0 where
  pub matches : (o : Object) → slice_get t.slots n ≡ Some (Here o) → Matches (IsAt names) (resolve_object t.slots o) (sealed_object s)
  pub within : AllWithin (length names) (sealed_parts s)
  pub below : (e : ℕ × List Object) → Contains (below_parts (sealed_parts s)) e → Contains (joined t.below) e

-- once all shareable objects of the space that a value leads to are forwards to a published cluster, it leads to none
abbrev pub PromotingPublishesAll : Type 0
PromotingPublishesAll = (w : Whole) (places : List ℕ) (v : Value) (old new : Table) → IsPromotedTo w places old new → IsTableSound old.slots old.below → IsTableSound new.slots new.below
    → ((n : ℕ) → Contains places n ↔ (Reaches (space_graph old) (resolve old.slots v) (Own n) × IsShareable (space_graph old) (At (Own n)))) → IsPromoted new v

-- what a search for a value to send found: exactly the objects of the space that it leads to. None of them is a shell, and
-- none is shareable
pub record IsFound (t : Table) (v : Value) (slots : List ℕ) : Type 0 where
  pub exact : (n : ℕ) → Contains slots n ↔ Reaches (space_graph t) (resolve t.slots v) (Own n)
  pub whole : (n : ℕ) → Contains slots n → (o : Object) × (slice_get t.slots n ≡ Some (Here o)) × (o.kind ≡ shell → ⊥)
  pub promoted : IsPromoted t v

-- the plan of what has to be published before a value is sent, where there is such
pub record IsPlanFor (t : Table) (v : Value) (plan : Plan) : Type 0 where
  pub planned : IsPlanned t plan.cluster plan.places
  pub exact : (n : ℕ) → Contains plan.places n ↔ (Reaches (space_graph t) (resolve t.slots v) (Own n) × IsShareable (space_graph t) (At (Own n)))
  pub number : plan.cluster.number ≡ 0
  pub below : (e : ℕ × List Object) → Contains plan.cluster.below e → Contains (joined t.below) e
  pub sound : IsWholeSound plan.cluster
  pub some : plan.places ≡ [] → ⊥

abbrev pub IsPreparedFor : Prepared → Table → Value → Type 0
IsPreparedFor (prepared.Plan plan) t v = IsPlanFor t v plan
IsPreparedFor (Found slots) t v = IsFound t v slots
