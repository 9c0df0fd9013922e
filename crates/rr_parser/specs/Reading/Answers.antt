-- What reading answers, and reading one thing after another.
use Rattle.std.specs.Prelude.{ℕ, zero, suc, length, Bool, true, false, Option, Some, None, Result, Ok, Err}
use Rattle.rr_parser.specs.declared.word.WordKind.{WordKind}
use Rattle.rr_parser.specs.Places.{Place, Look, word, at}
use Rattle.rr_parser.specs.Grammar.Fences.{taking, taking_as}

-- why nothing is read: no tree is spelled, or it nests too deep
pub data Refused : Type 0 where
  wrong : Refused
  deep : Refused

abbrev pub Answer : Type 0 → Type 0
Answer A = Result (A × Place) Refused

abbrev pub Parse : Type 0 → Type 0
Parse A = Place → Answer A

infixl 10 ◌>>=◌
abbrev pub ◌>>=◌ : {A B : Type 0} → Result A Refused → (A → Result B Refused) → Result B Refused
(Ok x) >>= f = f x
(Err e) >>= f = Err e

-- what was read is changed, the place stays
abbrev pub built : {A B : Type 0} → (A → B) → Answer A → Answer B
built f r = r >>= λ x. Ok (f x.0, x.1)

-- what was read, where the word that ends it was seen behind it
abbrev pub ended_by : {A : Type 0} → A → Option (Unit {0} × Place) → Answer A
ended_by t None = Err wrong
ended_by t (Some x) = Ok (t, x.1)

-- what was read, and a word of this kind behind it
abbrev pub closed : {A : Type 0} → WordKind → Answer A → Answer A
closed k r = r >>= λ x. ended_by x.0 (at (word k) x.1)

-- one thing, and another that goes on from it
abbrev pub from : {A B : Type 0} → Parse A → (A → Parse B) → Parse B
from p on s = p s >>= λ x. on x.0 x.1

abbrev pub on_seen : {B C : Type 0} → (B → C) → Parse B → Option (Unit {0} × Place) → Answer C
on_seen f p None = Err wrong
on_seen f p (Some x) = built f (p x.1)

-- what was read, what is seen behind it, and what p reads there
abbrev pub across : {A B C : Type 0} → (A → B → C) → Look (Unit {0}) → Parse B → Answer A → Answer C
across f look p r = r >>= λ a. on_seen (f a.0) p (at look a.1)

-- what p reads where calls take the word `do`, or not
abbrev pub taking_of : {A : Type 0} → Bool → Parse A → Parse A
taking_of b p s = p (taking b s) >>= λ x. Ok (x.0, taking_as s x.1)

abbrev pub enclosed_of : {A : Type 0} → Bool → Parse A → Parse A
enclosed_of true p = taking_of true p
enclosed_of false p = p

-- ---- chains

abbrev pub turn : {X R S : Type 0} → (X → S → R → S) → Parse R → (S → Parse S) → S → Place → Option (X × Place) → Answer S
turn join p go l s None = Ok (l, s)
turn join p go l s (Some x) = p x.1 >>= λ r. go (join x.0 l r.0) r.1

abbrev pub trail_turn : {X A : Type 0} → (X → A → Parse A) → (A → Parse A) → A → Place → Option (X × Place) → Answer A
trail_turn q go l s None = Ok (l, s)
trail_turn q go l s (Some x) = q x.0 l x.1 >>= λ r. go r.0 r.1

-- what a trail gives of which l has come; the number bounds the turns
unfoldable pub trail_from : {X A : Type 0} → Look X → (X → A → Parse A) → ℕ → A → Parse A
trail_from look q zero l s = Ok (l, s)
trail_from look q (suc n) l s = trail_turn q (trail_from look q n) l s (at look s)

-- the same with turns enough
unfoldable pub trail_on : {X A : Type 0} → Look X → (X → A → Parse A) → A → Parse A
trail_on look q l s = trail_from look q (length s.rest) l s

-- what a chain gives of which l has come; the number bounds the turns
unfoldable pub chain_from : {X R S : Type 0} → Look X → (X → S → R → S) → Parse R → ℕ → S → Parse S
chain_from between join p zero l s = Ok (l, s)
chain_from between join p (suc n) l s = turn join p (chain_from between join p n) l s (at between s)

-- the same with turns enough
unfoldable pub chain_on : {X R S : Type 0} → Look X → (X → S → R → S) → Parse R → S → Parse S
chain_on between join p l s = chain_from between join p (length s.rest) l s

unfoldable pub chain : {X R S : Type 0} → Look X → (R → S) → (X → S → R → S) → Parse R → Parse S
chain between first join p s = p s >>= λ r. chain_on between join p (first r.0) r.1
