-- Where a construct is begun and not ended: in which of several parts.
use Rattle.std.specs.Prelude.{◌≡◌, Bool, true, false, Some}
use Rattle.rr_base.specs.declared.name.Sym.{Sym}
use Rattle.rr_parser.specs.declared.word.Behind.{Behind}
use Rattle.rr_parser.specs.declared.word.Fence.{Fence}
use Rattle.rr_parser.specs.declared.word.Part.{Part}
use Rattle.rr_parser.specs.declared.word.Part.TheVariants as parts
use Rattle.rr_parser.specs.Places.{Place, Look, at}
use Rattle.rr_parser.specs.Grammar.Fences.{taking, opened}

-- F s z: from s on, as many constructs as F tells are begun, and the innermost begins at z
pub record Fronts : Type 1 where
  pub part : Part → Place → Place → Type 0
  pub bracketed : Place → Place → Type 0
  pub ordered : Sym → Place → Place → Type 0
  pub value : Bool → Place → Place → Type 0
  pub values : Place → Place → Type 0

-- in the first of a chain, or in a later one, where those before it are spelled
pub data ChainFront {X S : Type 0} (between : Look X) (C : Place → S → Place → Type 0) (F : Place → Place → Type 0) : Place → Place → Type 0 where
  in_one : {s z : Place} → F s z → ChainFront between C F s z
  in_more : {s m n z : Place} {l : S} {x : X} → C s l m → at between m ≡ Some (x, n) → F n z → ChainFront between C F s z

-- in what P spells, or behind it and what is seen there
pub data AcrossFront {X A : Type 0} (look : Look X) (P : Place → A → Place → Type 0) (F G : Place → Place → Type 0) : Place → Place → Type 0 where
  in_former : {s z : Place} → F s z → AcrossFront look P F G s z
  in_latter : {s m n z : Place} {a : A} {x : X} → P s a m → at look m ≡ Some (x, n) → G n z → AcrossFront look P F G s z

-- in what comes first, or in what follows it
pub data TrailFront {X A : Type 0} (look : Look X) (T : Place → A → Place → Type 0) (F : Place → Place → Type 0) (G : X → A → Place → Place → Type 0) : Place → Place → Type 0 where
  in_head : {s z : Place} → F s z → TrailFront look T F G s z
  in_tail : {s m n z : Place} {l : A} {x : X} → T s l m → at look m ≡ Some (x, n) → G x l n z → TrailFront look T F G s z

-- in what is read where calls take the word `do`, or not
abbrev pub TakingFront : Bool → (Place → Place → Type 0) → Place → Place → Type 0
TakingFront b F s z = F (taking b s) z

abbrev pub EnclosedFront : Bool → (Place → Place → Type 0) → Place → Place → Type 0
EnclosedFront true F = TakingFront true F
EnclosedFront false F = F

-- in the block of a call or of a command
pub data BlockedFront (F : Fronts) (q : Behind) : Place → Place → Type 0 where
  in_block : {s m z : Place} {f : Fence} → opened q s ≡ Some (f, m) → F.part (parts.Block f) m z → BlockedFront F q s z

-- in the arguments, which P spells, or in the block
pub data PassedFront {A : Type 0} (F : Fronts) (q : Behind) (P : Place → A → Place → Type 0) (G : Place → Place → Type 0) : Place → Place → Type 0 where
  in_passed : {s z : Place} → G s z → PassedFront F q P G s z
  in_its_block : {s m z : Place} {a : A} → P s a m → BlockedFront F q m z → PassedFront F q P G s z
