-- Arguments of commands from behind the operand that they begin with.
use Rattle.std.proofs.Common.{◌≡◌, false, ◌||◌, List, Option, Some, None, is_some, Result, Ok, Err, refl, ap, ◌∙◌}
use Rattle.rr_tree.specs.Tree.{Tree}
use Rattle.rr_parser.specs.declared.word.Listed.TheVariants as listings
use Rattle.rr_parser.specs.declared.word.Word.{Word}
use Rattle.rr_parser.specs.Places.{Place, placed, word, at}
use Rattle.rr_parser.specs.Grammar.Calls.{label, star, Member, nothing, with_member, contents}
use Rattle.rr_parser.specs.Reading.Answers.{◌>>=◌, Refused, Answer, built, from}
use Rattle.rr_parser.specs.Reading.Nesting.{Readers}
use Rattle.rr_parser.specs.Reading.Operands.{postfix_of}
use Rattle.rr_parser.specs.Reading.Calls.{assigned_or, assigned_of, argument_of, behind_bang, behind_minus, settled_of, settled_by, reached_on, key_on, star_or, unlabeled_of, label_or, member_of, adding_of, members_on, members_of, listed_of, is_prefixed, is_introduced, first_on, listed_on}
use Rattle.rr_parser.proofs.Prefixes.{unplaced, unprefixed}

-- what begins no operand
pub not_introduced : (s : Place) → at label s ≡ None → at (word star) s ≡ None → is_prefixed s.rest ≡ false → is_introduced s.rest ≡ false
not_introduced s e f g =
    ap (λ o. is_some o || is_some (word star s.rest) || is_prefixed s.rest) (unplaced s.known (label s.rest) e)
    ∙ ap (λ o. is_some o || is_prefixed s.rest) (unplaced s.known (word star s.rest) f)
    ∙ g

pub unintroduced : (s : Place) → is_introduced s.rest ≡ false → (at label s ≡ None) × (at (word star) s ≡ None) × (is_prefixed s.rest ≡ false)
unintroduced s e = by_looks (label s.rest) (word star s.rest) e
  where
    by_looks : {X : Type 0} (o : Option (X × List Word)) (p : Option (Unit {0} × List Word)) → (is_some o || is_some p || is_prefixed s.rest) ≡ false → (placed s.known o ≡ None) × (placed s.known p ≡ None) × (is_prefixed s.rest ≡ false)
    by_looks None None e = (refl, refl, e)
    by_looks (Some x) p e = absurd cc
    by_looks None (Some x) e = absurd cc

-- a first step, and those behind it
steps_on : {A B C E F G : Type 0} (r : Result A Refused) (f : A → Result B Refused) (g : B → Result C Refused) (h : C → Result E Refused) (i : E → Result F Refused) (j : F → Result G Refused)
    → (((((r >>= f) >>= g) >>= h) >>= i) >>= j) ≡ (r >>= λ x. ((((f x >>= g) >>= h) >>= i) >>= j))
steps_on (Ok x) f g h i j = refl
steps_on (Err e) f g h i j = refl

module _ (N : Readers) (s : Place) (plain : is_introduced s.rest ≡ false) where
  argument_from : argument_of N s ≡ from (postfix_of N) (reached_on N false) s
  unfolding assigned_of settled_by
  argument_from =
      let p = unprefixed s (unintroduced s plain).2 in
      ap (assigned_or N false (settled_of N) s) p.0
      ∙ ap (behind_minus N (reached_on N false) s) p.1
      ∙ ap (behind_bang N (reached_on N false) s) p.2

  member_from : member_of N false s ≡ (from (postfix_of N) (reached_on N false) s >>= λ x. key_on N false x.0 x.1)
  unfolding member_of unlabeled_of
  member_from =
      let u = unintroduced s plain in
      ap (label_or N false s) u.0
      ∙ ap (star_or N false s) u.1
      ∙ ap (λ (q : Answer Tree). q >>= λ x. key_on N false x.0 x.1) argument_from

  -- the first operand, and what goes on from it
  pub listed_from : listed_of N listings.Command s ≡ (postfix_of N s >>= λ x. listed_on N x.0 x.1)
  unfolding listed_of members_of adding_of listed_on first_on
  listed_from =
      ap (λ (q : Answer Member). built (contents listings.Command) (built (with_member nothing) q >>= λ r. members_on N listings.Command r.0 r.1)) member_from
      ∙ steps_on (postfix_of N s) (λ x. reached_on N false x.0 x.1) (λ x. key_on N false x.0 x.1) (λ x. Ok (with_member nothing x.0, x.1)) (λ r. members_on N listings.Command r.0 r.1) (λ q. Ok (contents listings.Command q.0, q.1))
