-- A select moves at most one value.
use Rattle.std.proofs.Common.{ℕ, ◌≤◌, ◌≡◌, ◌⊎◌, inl, inr, Bool, List, [], ◌∷◌, ◌++◌, refl, sym, arith, ap, ◌∙◌, Some}
use Rattle.rr_select.specs.declared.round.Act.{Act}
use Rattle.rr_select.specs.declared.round.Act.TheVariants.{Try, Offer, Sleep, Withdraw, End}
use Rattle.rr_select.specs.declared.round.Answer.{Answer}
use Rattle.rr_select.specs.declared.round.Answer.TheVariants.{Gave, Nothing, Closed, Failed, Shown, Refused, Woken, Back, Taken}
use Rattle.rr_select.specs.declared.round.Ending.{Ending}
use Rattle.rr_select.specs.declared.round.Ending.TheVariants as ending
use Rattle.rr_select.specs.Rounds.{ends, act_after, moves, takes, over_more}
use Rattle.rr_select.proofs.Ends.{ended, stays_over}

-- an act moves nothing, or one value and ends the select
moves_or_ends : (act : Act) (a : Answer) → (moves act a ≡ 0) ⊎ ((moves act a ≡ 1) × (e : Ending) × (ends act a ≡ Some e))
moves_or_ends (Try k) Gave = inr (refl, ending.Got k, refl)
moves_or_ends (Try k) Nothing = inl refl
moves_or_ends (Try k) Closed = inl refl
moves_or_ends (Try k) Failed = inl refl
moves_or_ends (Try k) Shown = inl refl
moves_or_ends (Try k) Refused = inl refl
moves_or_ends (Try k) Woken = inl refl
moves_or_ends (Try k) Back = inl refl
moves_or_ends (Try k) Taken = inl refl
moves_or_ends Offer a = inl refl
moves_or_ends Sleep a = inl refl
moves_or_ends Withdraw Gave = inl refl
moves_or_ends Withdraw Nothing = inl refl
moves_or_ends Withdraw Closed = inl refl
moves_or_ends Withdraw Failed = inl refl
moves_or_ends Withdraw Shown = inl refl
moves_or_ends Withdraw Refused = inl refl
moves_or_ends Withdraw Woken = inl refl
moves_or_ends Withdraw Back = inl refl
moves_or_ends Withdraw Taken = inr (refl, ending.Yielded, refl)
moves_or_ends (End e) a = inl refl

-- nothing is counted after the end
pub still : (counts : Act → Answer → ℕ) → ((e : Ending) (a : Answer) → counts (End e) a ≡ 0)
    → (n : ℕ) (own : Bool) (before after : List Answer) (e : Ending) → act_after n own before ≡ End e → over_more counts n own before after ≡ 0
still counts none n own before [] e is = refl
still counts none n own before (a ∷ rest) e is =
    let here : counts (act_after n own before) a ≡ 0 = ap (λ x. counts x a) is ∙ none e a in
    let later : over_more counts n own (before ++ a ∷ []) rest ≡ 0 = still counts none n own (before ++ a ∷ []) rest e (stays_over n own before a e is) in
    omega (arith, here, later)

pub once : (n : ℕ) (own : Bool) (before after : List Answer) → over_more moves n own before after ≤ 1
once n own before [] = omega arith
once n own before (a ∷ rest) =
    elim (moves_or_ends (act_after n own before) a) [
      | inl none ↦ let later : over_more moves n own (before ++ a ∷ []) rest ≤ 1 = once n own (before ++ a ∷ []) rest in
          omega (arith, none, later)
      | inr some ↦
          let over : act_after n own (before ++ a ∷ []) ≡ End some.1 = sym (ended n own before a some.1 (act_after n own before) refl some.2) in
          let later : over_more moves n own (before ++ a ∷ []) rest ≡ 0 = still moves (λ e b. refl) n own (before ++ a ∷ []) rest some.1 over in
          let one : moves (act_after n own before) a ≡ 1 = some.0 in
          omega (arith, one, later)
    ]

pub none_after_own : (n : ℕ) (own : Bool) (before after : List Answer) → act_after n own before ≡ Withdraw → over_more takes n own (before ++ Taken ∷ []) after ≡ 0
none_after_own n own before after is =
    still takes (λ e b. refl) n own (before ++ Taken ∷ []) after ending.Yielded (sym (ended n own before Taken ending.Yielded (act_after n own before) refl (ap (λ x. ends x Taken) is)))
