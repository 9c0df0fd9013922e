-- The rounds of a select.
use Rattle.std.specs.Prelude.{ℕ, ◌≡◌, ◌+◌, ◌%◌, Bool, nat_lt, if◌then◌else◌, List, [], ◌∷◌, ◌++◌, length, map, get_or, Option, Some, None}
use Rattle.std.specs.List.{range_with_len}
use Rattle.std.specs.Option.{option_or}
use Rattle.rr_select.specs.declared.round.Act.{Act}
use Rattle.rr_select.specs.declared.round.Act.TheVariants.{Try, Offer, Sleep, Withdraw, End}
use Rattle.rr_select.specs.declared.round.Answer.{Answer}
use Rattle.rr_select.specs.declared.round.Answer.TheVariants as answer
use Rattle.rr_select.specs.declared.round.Ending.{Ending}
use Rattle.rr_select.specs.declared.round.Ending.TheVariants as ending

-- One round: the entries are tried in order; then the own value, where there is one, is shown, and taken back after a sleep.
unfoldable pub round : ℕ → Bool → List Act
round count own = map Try (range_with_len 0 count) ++ (if own then Offer ∷ Sleep ∷ Withdraw ∷ [] else Sleep ∷ [])

-- Round after round, as long as nothing ends the select: the act after so many others.
unfoldable pub asked : ℕ → Bool → ℕ → Act
asked count own i = get_or (round count own) (i % length (round count own)) Sleep

-- What an answer ends the select with: an entry gives a value, is closed or holds a fault, or the own value cannot be shown
-- or was taken. Any other answer ends nothing.
abbrev pub ends : Act → Answer → Option Ending
ends (Try place) answer.Gave = Some (ending.Got place)
ends (Try place) answer.Closed = Some (ending.Closed place)
ends (Try place) answer.Failed = Some (ending.Failed place)
ends Offer answer.Refused = Some ending.Refused
ends Withdraw answer.Taken = Some ending.Yielded
ends _ _ = None

-- the first of the answers that ends the select, the first of them answering the i-th act
unfoldable pub first_end : ℕ → Bool → ℕ → List Answer → Option Ending
first_end count own i [] = None
first_end count own i (a ∷ rest) = option_or (ends (asked count own i) a) (first_end count own (i + 1) rest)

-- the end, where there is one, and else the act
abbrev pub end_or : Option Ending → Act → Act
end_or None act = act
end_or (Some e) act = End e

-- What is to be done after these answers, from the first on.
unfoldable pub act_after : ℕ → Bool → List Answer → Act
act_after count own answers = end_or (first_end count own 0 answers) (asked count own (length answers))

-- a select: how many entries there are, whether there is an own value, and the next act
pub record Rounds : Type 0 where
  pub count : ℕ
  pub own : Bool
  pub act : Act

-- behind so many entries that were tried: the next entry, where there is one; else the own value is shown, or the sleep begins
abbrev pub act_behind_entries : ℕ → Bool → ℕ → Act
act_behind_entries count own tried = if nat_lt tried count then Try tried else (if own then Offer else Sleep)

-- what comes in a round behind an act, and behind its last act the first one
abbrev pub act_behind : ℕ → Bool → Act → Act
act_behind count own (Try place) = act_behind_entries count own (place + 1)
act_behind count own Offer = Sleep
act_behind count own Sleep = if own then Withdraw else act_behind_entries count own 0
act_behind count own Withdraw = act_behind_entries count own 0
act_behind count own (End e) = End e

-- the select after an answer: at the end that the answer makes, or else at the act behind
abbrev pub next_of : Rounds → Answer → Rounds
next_of r a = record r { act = end_or (ends r.act a) (act_behind r.count r.own r.act) }

-- the select is where these answers lead
abbrev pub IsAfter : Rounds → List Answer → Type 0
IsAfter r answers = r.act ≡ act_after r.count r.own answers

-- how many values an entry gave by an act and its answer
abbrev pub takes : Act → Answer → ℕ
takes (Try place) answer.Gave = 1
takes _ _ = 0

-- how many values an act and its answer moved: an entry gave one, or the own value was taken
abbrev pub moves : Act → Answer → ℕ
moves (Try place) answer.Gave = 1
moves Withdraw answer.Taken = 1
moves _ _ = 0

-- a count summed over more answers, behind those that came before
abbrev pub over_more : (Act → Answer → ℕ) → ℕ → Bool → List Answer → List Answer → ℕ
over_more counts count own before [] = 0
over_more counts count own before (a ∷ rest) = counts (act_after count own before) a + over_more counts count own (before ++ a ∷ []) rest
