-- Small graphs, and what the definitions say of each.
use Rattle.std.specs.Prelude.{◌+◌, ◌↔◌, ℕ, Bool, true, false, List, [], ◌∷◌, Contains}
use Rattle.rr_base.specs.declared.name.TheConstants.ClassId.{ARRAY, STRING}
use Rattle.rr_space.specs.Graph.{Graph, Own, Immediate, Value, Plain, At, Label, Place, Object, array, text, Reaches, IsShareable}
use Rattle.rr_space.specs.Graph.{Alike, IsAt}
use Rattle.rr_space.specs.Tables.{Slot, Here, graph_of}
use Rattle.rr_space.specs.Views.{emptied}

-- the objects of these slots under the places of an array, the first of them under k
abbrev pub elements_from : ℕ → List ℕ → List (Label × Value)
elements_from k [] = []
elements_from k (n ∷ ns) = (Place k, At (Own n)) ∷ elements_from (k + 1) ns

-- an array that leads to the objects of these slots
abbrev pub array_object : Bool → List ℕ → Object
array_object frozen ends = record { kind = array; class = ARRAY.0; bytes = []; frozen = frozen; triples = elements_from 0 ends }

abbrev pub array_of : Bool → List ℕ → Slot
array_of frozen ends = Here (array_object frozen ends)

-- the text "a"
abbrev pub text_a : Bool → Slot
text_a frozen = Here (record { kind = text; class = STRING.0; bytes = 97 ∷ []; frozen = frozen; triples = [] })

-- the graph of these slots, without published objects
abbrev pub slots_graph : List Slot → Graph
slots_graph slots = graph_of slots []

-- two arrays that lead to each other
abbrev pub cycle : Bool → List Slot
cycle frozen = array_of frozen (1 ∷ []) ∷ array_of frozen (0 ∷ []) ∷ []

-- frozen arrays over a text
abbrev pub over_text : Bool → List Slot
over_text frozen = array_of true (1 ∷ []) ∷ array_of true (2 ∷ []) ∷ text_a frozen ∷ []

-- a frozen array over a shell
abbrev pub over_shell : List Slot
over_shell = array_of true (1 ∷ []) ∷ Here emptied ∷ []

-- a frozen array, and a text that it doesn't lead to
abbrev pub beside_text : List Slot
beside_text = array_of true [] ∷ text_a false ∷ []

-- two arrays, of which the first leads to the second twice, and the second to the first; once in this order, and once the second first
abbrev pub knot : List Slot
knot = array_of false (1 ∷ 1 ∷ []) ∷ array_of false (0 ∷ []) ∷ []

abbrev pub turned_knot : List Slot
turned_knot = array_of false (1 ∷ []) ∷ array_of false (0 ∷ 0 ∷ []) ∷ []

-- an array that leads to one text twice, and one that leads to two equal texts
abbrev pub one_text_twice : List Slot
one_text_twice = array_of false (1 ∷ 1 ∷ []) ∷ text_a false ∷ []

abbrev pub two_texts : List Slot
two_texts = array_of false (1 ∷ 2 ∷ []) ∷ text_a false ∷ text_a false ∷ []

-- an array that leads to itself
abbrev pub loop : List Slot
loop = array_of false (0 ∷ []) ∷ []

-- the object of slot 0 is shareable
abbrev pub FirstIsShareable : List Slot → Type 0
FirstIsShareable slots = IsShareable (slots_graph slots) (At (Own 0))

-- the object of slot 0 leads to these slots, itself among them, and to no other
abbrev pub FirstReaches : List Slot → List ℕ → Type 0
FirstReaches slots found = (n : ℕ) → Contains found n ↔ Reaches (slots_graph slots) (At (Own 0)) (Own n)

-- the objects are alike by some pairing
abbrev pub HasPairing : List Slot → ℕ → List Slot → ℕ → Type 0
HasPairing g n h m = (names : List ℕ) × Alike (slots_graph g) (At (Own n)) (slots_graph h) (At (Own m)) (IsAt names)

-- what the definitions say of each
pub record Examples : Type 0 where
  pub immediates_are_shareable : (g : Graph) (i : Immediate) → IsShareable g (Plain i)
  pub a_cycle_is_reached : FirstReaches (cycle true) (0 ∷ 1 ∷ [])
  pub a_frozen_cycle_is_shareable : FirstIsShareable (cycle true)
  pub an_open_cycle_is_not : FirstIsShareable (cycle false) → ⊥
  pub frozen_arrays_over_a_frozen_text_are : FirstIsShareable (over_text true)
  pub frozen_arrays_over_an_open_text_are_not : FirstIsShareable (over_text false) → ⊥
  pub a_shell_is_not : FirstIsShareable over_shell → ⊥
  pub what_is_not_reached_is_not_asked : FirstIsShareable beside_text
  pub sharing_and_cycles_are_paired : HasPairing knot 0 turned_knot 1
  pub sharing_is_not_lost : HasPairing one_text_twice 0 two_texts 0 → ⊥
  pub sharing_is_not_made : HasPairing two_texts 0 one_text_twice 0 → ⊥
  pub a_cycle_is_not_unrolled : HasPairing loop 0 (cycle false) 0 → ⊥
