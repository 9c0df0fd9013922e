-- What begins with no operand: a target with a sign behind it, or a word before an operand.
use Rattle.std.proofs.Common.{◌≡◌, false, ◌||◌, List, Option, Some, None, is_some, refl, ap, ◌∙◌}
use Rattle.rr_parser.specs.declared.word.Aim.{Aim}
use Rattle.rr_parser.specs.declared.word.Word.{Word}
use Rattle.rr_parser.specs.declared.word.WordKind.TheVariants as kind
use Rattle.rr_parser.specs.Places.{Known, Place, placed, word, at}
use Rattle.rr_parser.specs.Grammar.Calls.{target}
use Rattle.rr_parser.specs.Reading.Operands.{prefix_minus}
use Rattle.rr_parser.specs.Reading.Calls.{is_prefixed}

pub unplaced : {X : Type 0} (known : Known) (o : Option (X × List Word)) → placed known o ≡ None → o ≡ None
unplaced known None e = refl
unplaced known (Some x) e = absurd cc

pub not_prefixed : (s : Place) → at target s ≡ None → at prefix_minus s ≡ None → at (word kind.Bang) s ≡ None → is_prefixed s.rest ≡ false
not_prefixed s e f g =
    ap (λ o. is_some o || is_some (prefix_minus s.rest) || is_some (word kind.Bang s.rest)) (unplaced s.known (target s.rest) e)
    ∙ ap (λ o. is_some o || is_some (word kind.Bang s.rest)) (unplaced s.known (prefix_minus s.rest) f)
    ∙ ap (λ o. is_some o) (unplaced s.known (word kind.Bang s.rest) g)

pub unprefixed : (s : Place) → is_prefixed s.rest ≡ false → (at target s ≡ None) × (at prefix_minus s ≡ None) × (at (word kind.Bang) s ≡ None)
unprefixed s e = by_looks (target s.rest) (prefix_minus s.rest) (word kind.Bang s.rest) e
  where
    by_looks : (o : Option (Aim × List Word)) (p q : Option (Unit {0} × List Word)) → (is_some o || is_some p || is_some q) ≡ false → (placed s.known o ≡ None) × (placed s.known p ≡ None) × (placed s.known q ≡ None)
    by_looks None None None e = (refl, refl, refl)
    by_looks (Some x) p q e = absurd cc
    by_looks None (Some x) q e = absurd cc
    by_looks None None (Some x) e = absurd cc
