-- Why a call of the store is refused, and what each call leaves.
use Rattle.std.specs.Prelude.{◌≡◌, ◌≢◌, length, Some, None}
use Rattle.rr_base.specs.declared.name.Sym.{Sym}
use Rattle.rr_base.specs.declared.name.RactorNo.{RactorNo}
use Rattle.rr_base.specs.declared.fault.Fault.{Fault}
use Rattle.rr_base.specs.declared.fault.Fault.TheVariants.{Memory, HistoryFull, NotMain, NotShareable, Unknown}
use Rattle.rr_base.specs.declared.event.StoreEvent.{StoreEvent}
use Rattle.rr_base.specs.declared.event.StoreEvent.TheVariants as event
use Rattle.rr_space.specs.Tables.{Whole}
use Rattle.rr_store.specs.declared.constant.ConstValue.{ConstValue}
use Rattle.rr_store.specs.declared.constant.ConstValue.TheVariants.{Shareable, Own}
use Rattle.rr_store.specs.Stores.{Store, HasEvent, constant_of}

-- The main ractor is number 1.
abbrev pub IsMain : RactorNo → Type 0
IsMain who = who.0 ≡ 1

-- the cluster under the next number
abbrev pub numbered_next : Store → Whole → Whole
numbered_next s w = record w { number = length s.clusters }

-- a set constant has the value, all others stay, and so does all else but the history
pub record IsSet (s : Store) (name : Sym) (value : ConstValue) (t : Store) : Type 0 where
  pub here : constant_of t name ≡ Some value
  pub others : (n : Sym) → n ≢ name → constant_of t n ≡ constant_of s n

-- the event that setting a constant leaves
abbrev pub told_of_value : ConstValue → Sym → RactorNo → StoreEvent Sym
told_of_value (Shareable v) name who = event.Shared name who
told_of_value Own name who = event.Own name who

-- who may set a constant to this value
abbrev pub MaySet : RactorNo → ConstValue → Type 0
MaySet who (Shareable v) = Unit {0}
MaySet who Own = IsMain who

-- the faults of a set in their order; no other is answered
abbrev pub SetRefusal : Fault → Store → RactorNo → ConstValue → Type 0
SetRefusal HistoryFull s who v = ¬ HasEvent s
SetRefusal Memory s who v = HasEvent s
SetRefusal NotShareable s who v = HasEvent s × (¬ MaySet who v)
SetRefusal _ s who v = ⊥

-- the faults of a publish in their order; no other is answered
abbrev pub PublishRefusal : Fault → Store → Type 0
PublishRefusal HistoryFull s = ¬ HasEvent s
PublishRefusal Memory s = HasEvent s
PublishRefusal _ s = ⊥

-- who may read a constant that has this value
abbrev pub MayGet : RactorNo → ConstValue → Type 0
MayGet who (Shareable v) = Unit {0}
MayGet who Own = IsMain who

-- why a constant is not read: another ractor keeps its value, or it has none
abbrev pub GetRefusal : Fault → Store → RactorNo → Sym → Type 0
GetRefusal NotMain s who name = (constant_of s name ≡ Some Own) × (¬ IsMain who)
GetRefusal (Unknown n) s who name = (n ≡ name) × (constant_of s name ≡ None)
GetRefusal _ s who name = ⊥
