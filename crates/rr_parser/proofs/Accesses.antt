-- Attributes of classes, and what stands between the members of a class.
use Rattle.std.proofs.Common.{◌≡◌, Bool, true, false, List, Option, Some, None, Ok, refl, ap, ◌∙◌, arith}
use Rattle.std.specs.Prelude.{is_some}
use Rattle.std.proofs.lemmas.Option.{none-some}
use Rattle.rr_base.specs.declared.name.Sym.{Sym}
use Rattle.rr_parser.specs.declared.word.Access.{Access}
use Rattle.rr_parser.specs.declared.word.Word.{Word}
use Rattle.rr_parser.specs.declared.word.WordKind.{WordKind}
use Rattle.rr_parser.specs.declared.word.WordKind.TheVariants as kind
use Rattle.rr_parser.specs.Places.{Known, Place, unless, is_kind, word, placed, at, separators}
use Rattle.rr_parser.specs.Grammar.Chains.{all_of, and_all}
use Rattle.rr_parser.specs.Grammar.Calls.{comma}
use Rattle.rr_parser.specs.Grammar.Classes.{access_of_kind, access_word, symbol_of_kind, symbol, attribute_methods, Attribute, an_attribute, Attributes, word_behind, row_of, member_row}
use Rattle.rr_parser.specs.Reading.Classes.{attribute_or, attribute_of, attributes_of}
use Rattle.rr_parser.proofs.Looks.{Steps, Steps-first_as, Steps-separators, seen_as, other-word, placed_some, separators-next, row-parts}
use Rattle.rr_parser.proofs.Steps.{Steps-comma}
use Rattle.rr_parser.proofs.Chains.{IsSound, IsShrinking, Shrinks, shrinks_by, at_answer, chain_sound, chain_shrinking}

-- ---- what is seen

pub Steps-access : Steps access_word
Steps-access = Steps-first_as (λ w. access_of_kind w.kind)

pub Steps-symbol : Steps symbol
Steps-symbol = Steps-first_as (λ w. symbol_of_kind w.kind)

access_no_end : (k : WordKind) (a : Access) → access_of_kind k ≡ Some a → is_kind k kind.End ≡ false
access_no_end (kind.Name x k) a e = refl
access_no_end _ a e = absurd (none-some a e)

-- the word before attributes is no `end`
pub access-no_end : (s z : Place) (a : Access) → at access_word s ≡ Some (a, z) → at (word kind.End) s ≡ None
access-no_end s z a e = let h = seen_as (λ w. access_of_kind w.kind) s z a e in other-word kind.End h.kind s z h.here (access_no_end h.kind a h.told)

pub row-separated : (s z : Place) (u : Unit {0}) → at member_row s ≡ Some (u, z) → at separators s ≡ Some (u, z)
row-separated s z u e = by_end (is_some (row_of kind.End s.rest)) e
  where
    by_end : (b : Bool) → placed s.known (unless b (separators s.rest)) ≡ Some (u, z) → at separators s ≡ Some (u, z)
    by_end true h = absurd cc
    by_end false h = h

pub Steps-member_row : Steps member_row
Steps-member_row s m u e = Steps-separators s m u (row-separated s m u e)

unplaced : (known : Known) (o : Option (Unit {0} × List Word)) → placed known o ≡ None → o ≡ None
unplaced known None e = refl
unplaced known (Some r) e = absurd cc

-- separators with no `end` behind them
pub separated-row : (s z : Place) (u : Unit {0}) → at separators s ≡ Some (u, z) → at (word kind.End) z ≡ None → at member_row s ≡ Some (u, z)
separated-row s z u e f =
    let h = placed_some s.known (separators s.rest) u z e in
    ap (λ (o : Option (Unit {0} × List Word)). placed s.known (unless (is_some o) (separators s.rest))) (ap (word_behind kind.End) h.0 ∙ unplaced z.known (word kind.End z.rest) f) ∙ e

-- the `end` behind separators
pub ended-no_row : (s z : Place) (u : Unit {0}) → at (row_of kind.End) s ≡ Some (u, z) → at member_row s ≡ None
ended-no_row s z u e =
    let h = placed_some s.known (row_of kind.End s.rest) u z e in
    ap (λ (o : Option (Unit {0} × List Word)). placed s.known (unless (is_some o) (separators s.rest))) h.0

pub separated-no_comma : (s z : Place) (u : Unit {0}) → at separators s ≡ Some (u, z) → at comma s ≡ None
separated-no_comma s z u e = let h = separators-next s z u e in other-word kind.Comma kind.Separator s h.0 h.1 refl

pub ended-no_comma : (s z : Place) (u : Unit {0}) → at (row_of kind.End) s ≡ Some (u, z) → at comma s ≡ None
ended-no_comma s z u e = let h = row-parts kind.End s z u e in separated-no_comma s h.1 h.0 h.2

-- ---- what is read is spelled

pub attribute_sound : (a : Access) → IsSound (attribute_of a) (Attribute a)
attribute_sound a s z l e = by_symbol (at symbol s) refl e
  where
    by_symbol : (o : Option (Sym × Place)) → at symbol s ≡ o → attribute_or a o ≡ Ok (l, z) → Attribute a s l z
    by_symbol None f g = absurd cc
    by_symbol (Some x) f g = at_answer (Attribute a s) (attribute_methods a x.0) l x.1 z g (an_attribute f)

pub attributes_sound : (a : Access) → IsSound (attributes_of a) (Attributes a)
unfolding attributes_of
attributes_sound a = chain_sound comma comma all_of and_all (attribute_of a) (Attribute a) (λ m n x e. e) (attribute_sound a)

attribute_shrinking : (a : Access) → IsShrinking (Attribute a)
attribute_shrinking a s z l (an_attribute {x = x} e) = omega (arith, Steps-symbol s z x e)

pub attributes_shrinking : (a : Access) → IsShrinking (Attributes a)
attributes_shrinking a = chain_shrinking comma all_of and_all (Attribute a) Steps-comma (attribute_shrinking a)

pub attribute_shrinks : (a : Access) → Shrinks (attribute_of a)
attribute_shrinks a = shrinks_by (attribute_of a) (Attribute a) (attribute_sound a) (attribute_shrinking a)
