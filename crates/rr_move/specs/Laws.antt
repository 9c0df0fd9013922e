-- What follows from moving a value out of a space, and from putting it back.
use Rattle.std.specs.Prelude.{◌≡◌, ℕ, ◌++◌, length, map, slice_get, slice_index, None, Some, Contains}
use Rattle.rr_space.specs.Graph.{Own, Value, At, Label, HasUnder, Reaches, IsShareable}
use Rattle.rr_space.specs.Tables.{Slot, Here, IsSealed, Table, There, joined, message_graph, renamed, resolve, space_graph}
use Rattle.rr_space.specs.Sound.{IsTableSound}
use Rattle.rr_space.specs.Readings.{Owner, Space, Hand, Objects, Naming, Layout, IsReading, Knows, name_in}
use Rattle.rr_space.specs.Steps.{IsMoved, IsUndone}
use Rattle.rr_space.specs.Moves.{IsCopy, IsEmptied, IsPutBack, IsKept}
use Rattle.rr_space.specs.Views.{emptied}
use Rattle.rr_copy.specs.Messages.{IsMessageSound}
use Rattle.rr_move.specs.Homes.{IsHomeOf}
use Rattle.rr_move.specs.declared.home.Detached.{Detached}

-- what is moved out of a space and comes back to its home is kept
abbrev pub BackHomeIsKept : Type 0
BackHomeIsKept = (v : Value) (d : Detached) (was now new : Table) → length was.keys ≡ length was.slots
    → IsCopy was v d.home.slots d.message → IsEmptied d.home.slots was now → IsPutBack d.home.slots d.message now new → IsKept was new

-- what leads to a slot of a home whose message is away is not shareable, so that it is not published
abbrev pub MovedIsNotShareable : Type 0
MovedIsNotShareable = (d : Detached) (was now : Table) → IsEmptied d.home.slots was now → (n : ℕ) → Contains d.home.slots n
    → (v : Value) → Reaches (space_graph now) v (Own n) → IsShareable (space_graph now) v → ⊥

-- each path that led to what was moved ends at a shell: under its old name is a shell, and nothing is under a label of it
abbrev pub MovedIsAShell : Type 0
MovedIsAShell = (d : Detached) (was now : Table) → IsEmptied d.home.slots was now → (n : ℕ) → Contains d.home.slots n
    → (space_graph now (Own n) ≡ Some emptied) × ((l : Label) (x : Value) → HasUnder (space_graph now) (At (Own n)) l x → ⊥)

-- the tables before and after a value of r's space is taken out into r's hand, which is empty; all other tables stay
pub record TakesOut (r : ℕ) (v : Value) (d : Detached) (was now : Table) (old new : Layout) : Type 0 where
  pub space : old (Space r) ≡ Some was.slots
  pub hand : old (Hand r) ≡ None
  pub space_after : new (Space r) ≡ Some now.slots
  pub hand_after : new (Hand r) ≡ Some (map Here d.message.objects)
  pub rest : (h : Owner) → (h ≡ Space r → ⊥) → (h ≡ Hand r → ⊥) → new h ≡ old h
  pub copy : IsCopy was v d.home.slots d.message
  pub emptied : IsEmptied d.home.slots was now
  pub sound : IsTableSound was.slots was.below
  pub message_sound : IsMessageSound d.message
  pub message_sealed : IsSealed (message_graph d.message)
  pub knows : Knows (joined was.below) old
  pub message_knows : Knows (d.message.root_below ++ joined d.message.below) old
  pub there : There (space_graph was) (resolve was.slots v)

-- all that was named keeps its name
pub record NamesStay (r : ℕ) (was : Table) (names names2 : Naming) : Type 0 where
  pub space : (i : ℕ) (x : Slot) → slice_get was.slots i ≡ Some x → slice_index (names2 (Space r)) i ≡ slice_index (names (Space r)) i
  pub rest : (h : Owner) → (h ≡ Space r → ⊥) → (h ≡ Hand r → ⊥) → names2 h ≡ names h

-- to take a value out into the hand is a move of the whole graph, in each reading of it
abbrev pub TakingOutIsAMove : Type 0
TakingOutIsAMove = (r : ℕ) (v : Value) (d : Detached) (was now : Table) (old new : Layout) (names : Naming) (bound : ℕ) (g : Objects)
    → TakesOut r v d was now old new → IsReading old names bound g
    → (names2 : Naming) × (bound2 : ℕ) × (g2 : Objects) × IsReading new names2 bound2 g2 × NamesStay r was names names2
    × IsMoved r (renamed (name_in names (Space r)) (resolve was.slots v)) (renamed (name_in names2 (Hand r)) d.message.root)
    (map (λ n. name_in names (Space r) (Own n)) d.home.slots) (map Own (names2 (Hand r))) g g2

-- the tables before and after a message in r's hand is put back into the shells of its home; all other tables stay
pub record PutsBack (r : ℕ) (d : Detached) (now new : Table) (old after : Layout) : Type 0 where
  pub space : old (Space r) ≡ Some now.slots
  pub hand : old (Hand r) ≡ Some (map Here d.message.objects)
  pub space_after : after (Space r) ≡ Some new.slots
  pub hand_after : after (Hand r) ≡ None
  pub rest : (h : Owner) → (h ≡ Space r → ⊥) → (h ≡ Hand r → ⊥) → after h ≡ old h
  pub home : IsHomeOf d.home d.message
  pub shells : (n : ℕ) → Contains d.home.slots n → slice_get now.slots n ≡ Some (Here emptied)
  pub back : IsPutBack d.home.slots d.message now new

-- to put a message back is the end of its move, in each reading of the whole graph
abbrev pub PuttingBackUndoes : Type 0
PuttingBackUndoes = (r : ℕ) (d : Detached) (now new : Table) (old after : Layout) (names : Naming) (bound : ℕ) (g : Objects)
    → PutsBack r d now new old after → IsReading old names bound g
    → (names2 : Naming) × (g2 : Objects) × IsReading after names2 bound g2 × NamesStay r now names names2
    × IsUndone r (map (slice_index (names (Space r))) d.home.slots) (names (Hand r)) g g2
