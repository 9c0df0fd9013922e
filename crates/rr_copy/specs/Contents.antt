-- What a message has as a graph, and what its type keeps.
use Rattle.std.specs.Prelude.{◌≡◌, ◌<◌, ◌^◌, ℕ, List, length, map, Some, slice_get, Contains}
use Rattle.rr_space.specs.Graph.{Object}
use Rattle.rr_space.specs.Graph.{Matches, IsAt}
use Rattle.rr_space.specs.Tables.{Here, Packed, Table, joined, resolve_object}
use Rattle.rr_space.specs.Parts.{value_of, below_ref}
use Rattle.rr_space.specs.Parts.{IsWithin}
use Rattle.rr_space.specs.Views.{below_node, node_keys, IsNodeWithin}
use Rattle.rr_space.specs.Views.{AllCarriedWithin, carried_object, carried_below, carried_keys}
use Rattle.rr_space.specs.declared.carried.Carried.{Carried}
use Rattle.rr_space.specs.declared.refer.Ref.{Ref}
use Rattle.rr_copy.specs.Messages.{IsEachPart}

abbrev pub packed_of : List Carried → Ref → ℕ → ℕ → Packed
packed_of objects root sender sequence = record {
  objects = map carried_object objects;
  below = map carried_below objects;
  keys = map carried_keys objects;
  root = value_of root;
  root_below = below_ref root;
  sender = sender;
  sequence = sequence;
}

-- places can be counted by 32 bits, references are places among the objects or lead into clusters that have them, and
-- each object is reached from the root and not shareable
pub record IsMessage (objects : List Carried) (root : Ref) : Type 0 where
  pub few : length objects < 2 ^ 32
  pub objects_within : AllCarriedWithin (length objects) objects
  pub root_within : IsWithin (length objects) root
  pub parts : IsEachPart (packed_of objects root 0 0)

-- what a copy of the object in the slot n is, with these names for slots
pub record IsCarriedFrom (t : Table) (names : List ℕ) (n : ℕ) (c : Carried) : Type 0 where
  pub matches : (o : Object) → slice_get t.slots n ≡ Some (Here o) → Matches (IsAt names) (resolve_object t.slots o) (carried_object c)
  pub within : IsNodeWithin (length names) c.node
  pub below : (e : ℕ × List Object) → Contains (below_node c.node) e → Contains (joined t.below) e
  pub keys : slice_get t.keys n ≡ Some (node_keys c.node)
