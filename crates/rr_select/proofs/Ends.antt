-- What a select does after one answer more.
use Rattle.std.proofs.Common.{ℕ, ◌<◌, ◌+◌, ◌≡◌, Bool, true, false, List, [], ◌∷◌, ◌++◌, length, get_or, refl, sym, zero-add, arith, ap, ◌∙◌, Option, Some, None}
use Rattle.std.specs.Option.{option_or}
use Rattle.std.proofs.lemmas.List.{length-append}
use Rattle.std.proofs.Math.Nat.{mod-eq_of_lt}
use Rattle.rr_select.specs.declared.round.Act.{Act}
use Rattle.rr_select.specs.declared.round.Act.TheVariants.{Try, Sleep, End}
use Rattle.rr_select.specs.declared.round.Answer.{Answer}
use Rattle.rr_select.specs.declared.round.Ending.{Ending}
use Rattle.rr_select.specs.Rounds.{Rounds, round, asked, ends, first_end, end_or, act_after}
use Rattle.rr_select.proofs.Walks.{asked_is, round_len, asks_no_end, tries_within}

either_none : (a b c : Option Ending) → option_or (option_or a b) c ≡ option_or a (option_or b c)
either_none None b c = refl
either_none (Some e) b c = refl

or_none : (a : Option Ending) → option_or a None ≡ a
or_none None = refl
or_none (Some e) = refl

-- one answer more, behind the others
first_end_more : (n : ℕ) (own : Bool) (i j : ℕ) (before : List Answer) (a : Answer) → i + length before ≡ j
    → first_end n own i (before ++ a ∷ []) ≡ option_or (first_end n own i before) (ends (asked n own j) a)
unfolding first_end
first_end_more n own i j [] a is =
    let same : i ≡ j = omega arith in
    or_none (ends (asked n own i) a) ∙ ap (λ x. ends (asked n own x) a) same
first_end_more n own i j (b ∷ rest) a is =
    let later : i + 1 + length rest ≡ j = omega arith in
    ap (option_or (ends (asked n own i) b)) (first_end_more n own (i + 1) j rest a later) ∙ sym (either_none (ends (asked n own i) b) (first_end n own (i + 1) rest) (ends (asked n own j) a))

pub more : (n : ℕ) (own : Bool) (before : List Answer) (a : Answer)
    → act_after n own (before ++ a ∷ []) ≡ end_or (option_or (first_end n own 0 before) (ends (asked n own (length before)) a)) (asked n own (length before + 1))
unfolding act_after
more n own before a =
    let len : length (before ++ a ∷ []) ≡ length before + 1 = length-append before (a ∷ []) in
    ap (λ x. end_or x (asked n own (length (before ++ a ∷ [])))) (first_end_more n own 0 (length before) before a (zero-add (length before)))
    ∙ ap (λ x. end_or (option_or (first_end n own 0 before) (ends (asked n own (length before)) a)) (asked n own x)) len

pub is_end_or : (n : ℕ) (own : Bool) (before : List Answer) → act_after n own before ≡ end_or (first_end n own 0 before) (asked n own (length before))
unfolding act_after
is_end_or n own before = refl

abbrev pub placed : ℕ → Bool → Act → Rounds
placed n own act = record { count = n; own = own; act = act }

pub at_first : (n : ℕ) (own : Bool) → act_after n own [] ≡ get_or (round n own) 0 Sleep
unfolding act_after first_end
at_first n true =
    let len : length (round n true) ≡ n + 3 = round_len n true in
    asked_is n true 0 0 (mod-eq_of_lt (omega arith))
at_first n false =
    let len : length (round n false) ≡ n + 1 = round_len n false in
    asked_is n false 0 0 (mod-eq_of_lt (omega arith))

-- the same, where it is known whether the answers before ended it
more_from : (n : ℕ) (own : Bool) (before : List Answer) (a : Answer) (act : Act) (over : Option Ending) → first_end n own 0 before ≡ over → act ≡ asked n own (length before)
    → act_after n own (before ++ a ∷ []) ≡ end_or (option_or over (ends act a)) (asked n own (length before + 1))
more_from n own before a act over is here =
    more n own before a
    ∙ ap (λ x. end_or (option_or x (ends (asked n own (length before)) a)) (asked n own (length before + 1))) is
    ∙ ap (λ x. end_or (option_or over (ends x a)) (asked n own (length before + 1))) (sym here)

over_from : (n : ℕ) (own : Bool) (before : List Answer) (a : Answer) (f : Ending) → first_end n own 0 before ≡ Some f → act_after n own (before ++ a ∷ []) ≡ End f
over_from n own before a f is =
    more n own before a ∙ ap (λ x. end_or (option_or x (ends (asked n own (length before)) a)) (asked n own (length before + 1))) is

-- an answer that ends the select
ended_from : (n : ℕ) (own : Bool) (before : List Answer) (a : Answer) (e : Ending) (act : Act) (over : Option Ending) → first_end n own 0 before ≡ over
    → act ≡ end_or over (asked n own (length before)) → ends act a ≡ Some e → End e ≡ act_after n own (before ++ a ∷ [])
ended_from n own before a e act None is here end = sym (more_from n own before a act None is here ∙ ap (λ x. end_or x (asked n own (length before + 1))) end)
ended_from n own before a e act (Some f) is here end =
    let none : None ≡ Some e = sym (ap (λ x. ends x a) here) ∙ end in
    absurd (cc)

pub ended : (n : ℕ) (own : Bool) (before : List Answer) (a : Answer) (e : Ending) (act : Act) → act ≡ act_after n own before → ends act a ≡ Some e → End e ≡ act_after n own (before ++ a ∷ [])
ended n own before a e act here end = ended_from n own before a e act (first_end n own 0 before) refl (here ∙ is_end_or n own before) end

-- an answer that ends nothing
went_from : (n : ℕ) (own : Bool) (before : List Answer) (a : Answer) (act next : Act) (over : Option Ending) → first_end n own 0 before ≡ over
    → act ≡ end_or over (asked n own (length before)) → ends act a ≡ None
    → ((i : ℕ) → act ≡ asked n own i → next ≡ asked n own (i + 1)) → ((e : Ending) → act ≡ End e → next ≡ End e)
    → next ≡ act_after n own (before ++ a ∷ [])
went_from n own before a act next None is here goes step stay =
    step (length before) here ∙ sym (more_from n own before a act None is here ∙ ap (λ x. end_or x (asked n own (length before + 1))) goes)
went_from n own before a act next (Some f) is here goes step stay = stay f here ∙ sym (over_from n own before a f is)

pub went_on : (n : ℕ) (own : Bool) (before : List Answer) (a : Answer) (act next : Act) → act ≡ act_after n own before → ends act a ≡ None
    → ((i : ℕ) → act ≡ asked n own i → next ≡ asked n own (i + 1)) → ((e : Ending) → act ≡ End e → next ≡ End e)
    → next ≡ act_after n own (before ++ a ∷ [])
went_on n own before a act next here goes step stay = went_from n own before a act next (first_end n own 0 before) refl (here ∙ is_end_or n own before) goes step stay

-- only an entry of the list is tried
within_from : (n : ℕ) (own : Bool) (i k : ℕ) (over : Option Ending) → Try k ≡ end_or over (asked n own i) → k < n
within_from n own i k None is = tries_within n own i k is
within_from n own i k (Some e) is = absurd (cc)

pub within : (n : ℕ) (own : Bool) (before : List Answer) (k : ℕ) → Try k ≡ act_after n own before → k < n
within n own before k is = within_from n own (length before) k (first_end n own 0 before) (is ∙ is_end_or n own before)

over_by : (n : ℕ) (own : Bool) (before : List Answer) (a : Answer) (e : Ending) (over : Option Ending) → first_end n own 0 before ≡ over → End e ≡ end_or over (asked n own (length before))
    → act_after n own (before ++ a ∷ []) ≡ End e
over_by n own before a e None is here = absurd (asks_no_end n own (length before) e here)
over_by n own before a e (Some f) is here = over_from n own before a f is ∙ sym here

-- after the end
pub stays_over : (n : ℕ) (own : Bool) (before : List Answer) (a : Answer) (e : Ending) → act_after n own before ≡ End e → act_after n own (before ++ a ∷ []) ≡ End e
stays_over n own before a e is = over_by n own before a e (first_end n own 0 before) refl (sym is ∙ is_end_or n own before)
