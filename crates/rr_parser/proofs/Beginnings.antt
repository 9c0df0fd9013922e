-- Expressions from behind their first operand.
use Rattle.std.proofs.Common.{◌≡◌, true, false, ◌||◌, List, Option, Some, None, is_some, Result, Ok, Err, refl, ap, ◌∙◌}
use Rattle.rr_tree.specs.Tree.{Tree}
use Rattle.rr_parser.specs.declared.word.Word.{Word}
use Rattle.rr_parser.specs.declared.word.WordKind.TheVariants as kind
use Rattle.rr_parser.specs.Places.{Place, placed, word, at}
use Rattle.rr_parser.specs.Grammar.Names.{command}
use Rattle.rr_parser.specs.Reading.Answers.{◌>>=◌, Refused, Answer, from}
use Rattle.rr_parser.specs.Reading.Nesting.{Readers}
use Rattle.rr_parser.specs.Reading.Operands.{postfix_of}
use Rattle.rr_parser.specs.Reading.Calls.{assigned_or, assigned_of, behind_bang, behind_minus, settled_by, order_on, phrase_or, phrase_of, is_prefixed}
use Rattle.rr_parser.specs.Reading.Sequences.{negation_or, negation_of, connected_on, expression_of, expression_on, is_led}
use Rattle.rr_parser.proofs.Prefixes.{unplaced, unprefixed}

bind_twice : {A B C : Type 0} (r : Result A Refused) (f : A → Result B Refused) (g : B → Result C Refused) → ((r >>= f) >>= g) ≡ (r >>= λ x. f x >>= g)
bind_twice (Ok x) f g = refl
bind_twice (Err e) f g = refl

-- what begins no operand
pub not_led : (s : Place) → at (word kind.NotWord) s ≡ None → at (command s.known) s ≡ None → is_prefixed s.rest ≡ false → is_led s.known s.rest ≡ false
not_led s e f g =
    ap (λ o. is_some o || is_some (command s.known s.rest) || is_prefixed s.rest) (unplaced s.known (word kind.NotWord s.rest) e)
    ∙ ap (λ o. is_some o || is_prefixed s.rest) (unplaced s.known (command s.known s.rest) f)
    ∙ g

pub unled : (s : Place) → is_led s.known s.rest ≡ false → (at (word kind.NotWord) s ≡ None) × (at (command s.known) s ≡ None) × (is_prefixed s.rest ≡ false)
unled s e = by_looks (word kind.NotWord s.rest) (command s.known s.rest) e
  where
    by_looks : {X : Type 0} (o : Option (Unit {0} × List Word)) (p : Option (X × List Word)) → (is_some o || is_some p || is_prefixed s.rest) ≡ false → (placed s.known o ≡ None) × (placed s.known p ≡ None) × (is_prefixed s.rest ≡ false)
    by_looks None None e = (refl, refl, e)
    by_looks (Some x) p e = absurd cc
    by_looks None (Some x) e = absurd cc

module _ (N : Readers) (s : Place) (led : is_led s.known s.rest ≡ false) where
  -- the first operand, and what goes on from it
  negation_from : negation_of N s ≡ from (postfix_of N) (order_on N) s
  unfolding negation_of assigned_of phrase_of settled_by
  negation_from =
      let u = unled s led in
      let p = unprefixed s u.2 in
      ap (negation_or N s) u.0
      ∙ ap (assigned_or N true (phrase_of N) s) p.0
      ∙ ap (phrase_or N s) u.1
      ∙ ap (behind_minus N (order_on N) s) p.1
      ∙ ap (behind_bang N (order_on N) s) p.2

  pub expression_from : expression_of N s ≡ (postfix_of N s >>= λ x. expression_on N x.0 x.1)
  unfolding expression_of expression_on
  expression_from = ap (λ (q : Answer Tree). q >>= λ x. connected_on N x.0 x.1) negation_from ∙ bind_twice (postfix_of N s) (λ x. order_on N x.0 x.1) (λ x. connected_on N x.0 x.1)
