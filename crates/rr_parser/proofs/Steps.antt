-- What is left behind what is seen.
use Rattle.std.proofs.Common.{◌≡◌, suc, List, ◌∷◌, length, Bool, Option, Some, None, refl, ap, arith, ◌<◌, ◌≤◌, ℕ, []}
use Rattle.std.proofs.lemmas.Option.{none-some}
use Rattle.rr_parser.specs.declared.word.Naming.{Naming}
use Rattle.rr_parser.specs.declared.word.Naming.TheVariants as namings
use Rattle.rr_parser.specs.declared.word.Caught.{Caught}
use Rattle.rr_parser.specs.declared.word.WordKind.{WordKind}
use Rattle.rr_parser.specs.declared.word.WordKind.TheVariants as kind
use Rattle.rr_tree.specs.declared.node.Path.{Path}
use Rattle.rr_tree.specs.declared.node.Path.TheVariants as paths
use Rattle.rr_parser.specs.declared.word.Behind.{Behind}
use Rattle.rr_parser.specs.Grammar.Fences.{opening}
use Rattle.rr_base.specs.declared.name.Sym.{Sym}
use Rattle.rr_parser.specs.Places.{Known, Place, placed, word}
use Rattle.rr_parser.specs.declared.word.Word.{Word}
use Rattle.rr_parser.specs.Grammar.Names.{told_behind, name, variable, head, bracket}
use Rattle.rr_parser.specs.Grammar.Operands.{scope_sign, tight_constant, behind_sign, inner_constant, joined}
use Rattle.rr_parser.specs.Grammar.Operators.{operator, connective}
use Rattle.rr_parser.specs.Grammar.Calls.{target_word, label, comma, sign}
use Rattle.rr_parser.specs.Grammar.Sequences.{modifier}
use Rattle.rr_parser.specs.Grammar.Interpolations.{text_middle, text_tail}
use Rattle.rr_parser.specs.Grammar.Classes.{own_name, below_sign, with_path, below_or, behind_name, class_head}
use Rattle.rr_parser.specs.Grammar.Control.{thens, elsif}
use Rattle.rr_parser.specs.Grammar.Bodies.{path_from, path_of_kind, path, before_thens, named_thens, behind_arrow, caught, rescues}
use Rattle.rr_parser.proofs.Looks.{Steps, Steps-first_as, Steps-word, Steps-thens, left, some_place}

pub Steps-joined : Steps joined
Steps-joined = Steps-first_as _

pub Steps-scope_sign : Steps scope_sign
Steps-scope_sign = Steps-first_as _

pub Steps-tight_constant : Steps tight_constant
Steps-tight_constant = Steps-first_as _

inner_steps : (s z : Place) (x : Sym) (o : Option (Unit {0} × List Word)) → scope_sign s.rest ≡ o → placed s.known (behind_sign o) ≡ Some (x, z) → left z < left s
inner_steps s z x None g e = absurd cc
inner_steps s z x (Some r) g e =
    let m : Place = record { known = s.known; rest = r.1 } in
    omega (arith, Steps-scope_sign s m r.0 (ap (placed s.known) g), Steps-tight_constant m z x e)

pub Steps-inner_constant : (n : Naming) → Steps (inner_constant n)
Steps-inner_constant namings.Ractor s z x e = inner_steps s z x (scope_sign s.rest) refl e
Steps-inner_constant namings.Class s z x e = absurd cc
Steps-inner_constant namings.Free s z x e = absurd cc
Steps-inner_constant namings.Opened s z x e = absurd cc

-- ---- classes and clauses

path-less : (known : Known) (ws : List Word) (x : Path) (z : Place) → placed known (path ws) ≡ Some (x, z) → left z < length ws
path-less known [] x z e = absurd cc
path-less known (w ∷ ws) x z e = by_kind w.kind e
  where
    by_inner : (y : Sym) (outer : Naming) (o : Option (Sym × List Word)) → inner_constant outer ws ≡ o → placed known (Some (path_from y ws o)) ≡ Some (x, z) → left z < suc (length ws)
    by_inner y outer None g h =
        let n : Place = record { known = known; rest = ws } in
        omega (arith, ap left (some_place (paths.Plain y) x n z h))
    by_inner y outer (Some r) g h =
        let s : Place = record { known = known; rest = ws } in
        let n : Place = record { known = known; rest = r.1 } in
        omega (arith, Steps-inner_constant outer s n r.0 (ap (placed known) g), ap left (some_place (paths.Ractor r.0) x n z h))

    by_kind : (k : WordKind) → placed known (path_of_kind k ws) ≡ Some (x, z) → left z < suc (length ws)
    by_kind (kind.Constant y outer) h = by_inner y outer (inner_constant outer ws) refl h
    by_kind _ h = absurd (none-some (x, z) h)

pub Steps-path : Steps path
Steps-path s z x e = path-less s.known s.rest x z e

pub Steps-variable : Steps variable
Steps-variable = Steps-first_as _

thens-less : (known : Known) (y x : Option Caught) (ws : List Word) (z : Place) (o : Option (Unit {0} × List Word)) → thens ws ≡ o → placed known (before_thens y o) ≡ Some (x, z) → left z < length ws
thens-less known y x ws z None g e = absurd cc
thens-less known y x ws z (Some r) g e =
    let s : Place = record { known = known; rest = ws } in
    let n : Place = record { known = known; rest = r.1 } in
    omega (arith, Steps-thens s n r.0 (ap (placed known) g), ap left (some_place y x n z e))

named-less : (known : Known) (x : Option Caught) (ws : List Word) (z : Place) (o : Option (Sym × List Word)) → variable ws ≡ o → placed known (named_thens o) ≡ Some (x, z) → left z < length ws
named-less known x ws z None g e = absurd cc
named-less known x ws z (Some r) g e =
    let s : Place = record { known = known; rest = ws } in
    let n : Place = record { known = known; rest = r.1 } in
    let y : Caught = record { name = r.0; behind = told_behind r.1 } in
    omega (arith, Steps-variable s n r.0 (ap (placed known) g), thens-less known (Some y) x r.1 z (thens r.1) refl e)

caught-less : (s z : Place) (x : Option Caught) (o : Option (Unit {0} × List Word)) → word kind.Arrow s.rest ≡ o → placed s.known (behind_arrow s.rest o) ≡ Some (x, z) → left z < left s
caught-less s z x None g e = thens-less s.known None x s.rest z (thens s.rest) refl e
caught-less s z x (Some r) g e =
    let n : Place = record { known = s.known; rest = r.1 } in
    omega (arith, Steps-word kind.Arrow s n r.0 (ap (placed s.known) g), named-less s.known x r.1 z (variable r.1) refl e)

pub Steps-caught : Steps caught
Steps-caught s z x e = caught-less s z x (word kind.Arrow s.rest) refl e

pub Steps-own_name : Steps own_name
Steps-own_name = Steps-first_as _

path-after : (known : Known) (y : Sym) (x : Sym × Option Path) (ws : List Word) (z : Place) (o : Option (Path × List Word)) → path ws ≡ o → placed known (with_path y o) ≡ Some (x, z) → left z < length ws
path-after known y x ws z None g e = absurd cc
path-after known y x ws z (Some r) g e =
    let s : Place = record { known = known; rest = ws } in
    let n : Place = record { known = known; rest = r.1 } in
    let w : Sym × Option Path = (y, Some r.0) in
    omega (arith, Steps-path s n r.0 (ap (placed known) g), ap left (some_place w x n z e))

below-less : (known : Known) (y : Sym) (x : Sym × Option Path) (ws : List Word) (z : Place) (o : Option (Unit {0} × List Word)) → word below_sign ws ≡ o → placed known (below_or y ws o) ≡ Some (x, z) → left z ≤ length ws
below-less known y x ws z None g e =
    let n : Place = record { known = known; rest = ws } in
    let w : Sym × Option Path = (y, None) in
    omega (arith, ap left (some_place w x n z e))
below-less known y x ws z (Some r) g e =
    let s : Place = record { known = known; rest = ws } in
    let n : Place = record { known = known; rest = r.1 } in
    omega (arith, Steps-word below_sign s n r.0 (ap (placed known) g), path-after known y x r.1 z (path r.1) refl e)

head-less : (s z : Place) (x : Sym × Option Path) (o : Option (Sym × List Word)) → own_name s.rest ≡ o → placed s.known (behind_name o) ≡ Some (x, z) → left z < left s
head-less s z x None g e = absurd cc
head-less s z x (Some r) g e =
    let n : Place = record { known = s.known; rest = r.1 } in
    omega (arith, Steps-own_name s n r.0 (ap (placed s.known) g), below-less s.known r.0 x r.1 z (word below_sign r.1) refl e)

pub Steps-class_head : Steps class_head
Steps-class_head s z x e = head-less s z x (own_name s.rest) refl e

pub Steps-rescues : Steps rescues
Steps-rescues = Steps-word kind.Rescue

pub Steps-middle : Steps text_middle
Steps-middle = Steps-first_as _

pub Steps-text_tail : Steps text_tail
Steps-text_tail = Steps-first_as _

pub Steps-name : Steps name
Steps-name = Steps-first_as _

pub Steps-opening : (q : Behind) (b : Bool) → Steps (opening q b)
Steps-opening q b = Steps-first_as _

pub Steps-head : Steps head
Steps-head = Steps-first_as _

pub Steps-bracket : Steps bracket
Steps-bracket = Steps-first_as _

pub Steps-connective : (level : ℕ) → Steps (connective level)
Steps-connective level = Steps-first_as _

pub Steps-operator : (level : ℕ) → Steps (operator level)
Steps-operator level = Steps-first_as _

pub Steps-sign : Steps sign
Steps-sign = Steps-first_as _

pub Steps-target_word : Steps target_word
Steps-target_word = Steps-first_as _

pub Steps-label : Steps label
Steps-label = Steps-first_as _

pub Steps-modifier : Steps modifier
Steps-modifier = Steps-first_as _

pub Steps-comma : Steps comma
Steps-comma = Steps-word kind.Comma

pub Steps-elsif : Steps elsif
Steps-elsif = Steps-word kind.Elsif
