-- What readers answer, and chains of what they read.
use Rattle.std.proofs.Common.{◌≡◌, ℕ, zero, suc, ◌<◌, ◌≤◌, length, Option, Some, None, Result, Ok, Err, refl, sym, ap, ◌∙◌, subst, arith}
use Rattle.rr_parser.specs.declared.word.WordKind.{WordKind}
use Rattle.rr_parser.specs.Places.{Place, Look, word, at, next}
use Rattle.rr_parser.specs.Grammar.Chains.{Chain, one, more}
use Rattle.rr_parser.specs.Reading.Answers.{◌>>=◌, Refused, Answer, Parse, built, ended_by, closed, from, on_seen, across, turn, chain_from, chain_on, chain}
use Rattle.rr_parser.proofs.Told.{Told}
use Rattle.rr_parser.proofs.Looks.{left, Steps, word-next}

-- the value of a step that did not fail
pub bind_ok : {A B : Type 0} (r : Result A Refused) (f : A → Result B Refused) (y : B) → (r >>= f) ≡ Ok y → (x : A) × (r ≡ Ok x) × (f x ≡ Ok y)
bind_ok (Ok x) f y e = (x, refl, e)
bind_ok (Err d) f y e = absurd cc

abbrev pub done : {A : Type 0} → A → Place → Answer A
done t z = Ok (t, z)

pub ok_place : {A : Type 0} (t u : A) (s z : Place) → done t s ≡ done u z → s ≡ z
ok_place {A} t u s z e = let h : ◌≡◌ {A = A × Place} (t, s) (u, z) = cc in ap (λ (p : A × Place). p.1) h

pub ok_what : {A : Type 0} (t u : A) (s z : Place) → done t s ≡ done u z → t ≡ u
ok_what {A} t u s z e = let h : ◌≡◌ {A = A × Place} (t, s) (u, z) = cc in ap (λ (p : A × Place). p.0) h

pub built_ok : {A B : Type 0} (f : A → B) (r : Answer A) (t : B) (z : Place) → built f r ≡ Ok (t, z) → (u : A) × (r ≡ Ok (u, z)) × (t ≡ f u)
built_ok f (Ok x) t z e = (x.0, ap (λ (q : Place). Ok (x.0, q)) (ok_place (f x.0) t x.1 z e), sym (ok_what (f x.0) t x.1 z e))
built_ok f (Err d) t z e = absurd cc

-- a word of this kind comes behind what was read
pub closed_ok : {A : Type 0} (k : WordKind) → Told k → (r : Answer A) (z : Place) (t : A) → closed k r ≡ Ok (t, z) → (n : Place) × (r ≡ Ok (t, n)) × (next n ≡ Some (k, z))
closed_ok {A} k told (Ok x) z t e = by_word (at (word k) x.1) refl e
  where
    by_word : (o : Option (Unit {0} × Place)) → at (word k) x.1 ≡ o → ended_by x.0 o ≡ Ok (t, z) → (n : Place) × (done x.0 x.1 ≡ Ok (t, n)) × (next n ≡ Some (k, z))
    by_word None g h = absurd cc
    by_word (Some y) g h = (
      x.1,
      ap (λ (q : A). done q x.1) (ok_what x.0 t y.1 z h),
      word-next k told x.1 y.1 y.0 g ∙ ap (λ (q : Place). Some (k, q)) (ok_place x.0 t y.1 z h),
    )
closed_ok k told (Err d) z t e = absurd cc

-- a fact at what was answered
pub at_answer : {A : Type 0} (P : A → Place → Type 0) (t u : A) (s z : Place) → done t s ≡ done u z → P t s → P u z
at_answer {A} P t u s z e h = subst (λ (q : Place). P u q) (ok_place t u s z e) (subst (λ (q : A). P q s) (ok_what t u s z e) h)

-- what is left after reading is no longer than what was there
abbrev pub Shrinks : {A : Type 0} → Parse A → Type 0
Shrinks {A} p = (s z : Place) (t : A) → p s ≡ Ok (t, z) → left z ≤ left s

abbrev pub IsSound : {A : Type 0} → Parse A → (Place → A → Place → Type 0) → Type 0
IsSound {A} p P = (s z : Place) (t : A) → p s ≡ Ok (t, z) → P s t z

-- the same for what is spelled
abbrev pub IsShrinking : {A : Type 0} → (Place → A → Place → Type 0) → Type 0
IsShrinking {A} P = (s z : Place) (t : A) → P s t z → left z ≤ left s

pub shrinks_by : {A : Type 0} (p : Parse A) (P : Place → A → Place → Type 0) → IsSound p P → IsShrinking P → Shrinks p
shrinks_by p P sound smaller s z t e = smaller s z t (sound s z t e)

-- what goes on from what U spells reads only what P spells
abbrev pub IsSoundOn : {A B : Type 0} → (A → Parse B) → (Place → A → Place → Type 0) → (Place → B → Place → Type 0) → Type 0
IsSoundOn {A} {B} on U P = (s m z : Place) (l : A) (t : B) → U s l m → on l m ≡ Ok (t, z) → P s t z

pub from_sound : {A B : Type 0} (p : Parse A) (on : A → Parse B) (U : Place → A → Place → Type 0) (P : Place → B → Place → Type 0) → IsSound p U → IsSoundOn on U P → IsSound (from p on) P
from_sound p on U P sound sound_on s z t e =
    let b = bind_ok (p s) (λ x. on x.0 x.1) (t, z) e in
    sound_on s b.0.1 z b.0.0 t (sound s b.0.1 b.0.0 b.1) b.2

-- what was read, what was seen behind it, and what was read there
pub record Across {A B C : Type 0} (f : A → B → C) (look : Look (Unit {0})) (p : Parse B) (r : Answer A) (z : Place) (t : C) : Type 0 where
  pub a : A
  pub m : Place
  pub n : Place
  pub u : Unit {0}
  pub b : B
  pub former : r ≡ Ok (a, m)
  pub seen : at look m ≡ Some (u, n)
  pub latter : p n ≡ Ok (b, z)
  pub tree : t ≡ f a b

pub across_ok : {A B C : Type 0} (f : A → B → C) (look : Look (Unit {0})) (p : Parse B) (r : Answer A) (z : Place) (t : C) → across f look p r ≡ Ok (t, z) → Across f look p r z t
across_ok f look p (Err d) z t e = absurd cc
across_ok {A} {B} {C} f look p (Ok a) z t e = by_look (at look a.1) refl e
  where
    by_look : (o : Option (Unit {0} × Place)) → at look a.1 ≡ o → on_seen (f a.0) p o ≡ Ok (t, z) → Across f look p (Ok a) z t
    by_look None g h = absurd cc
    by_look (Some x) g h =
        let b = built_ok (f a.0) (p x.1) t z h in
        record { a = a.0; m = a.1; n = x.1; u = x.0; b = b.0; former = refl; seen = g; latter = b.1; tree = b.2 }

-- ---- chains

pub chain_shrinking : {X R S : Type 0} (between : Look X) (first : R → S) (join : X → S → R → S) (P : Place → R → Place → Type 0) → Steps between → IsShrinking P → IsShrinking (Chain between first join P)
chain_shrinking between first join P steps smaller s z t (one {t = u} h) = smaller s z u h
chain_shrinking between first join P steps smaller s z t (more {m = m} {n = n} {l = l} {r = r} {x = x} c e h) =
    omega (arith, chain_shrinking between first join P steps smaller s m l c, steps m n x e, smaller n z r h)

module _ {X R S : Type 0} (between : Look X) (join : X → S → R → S) (p : Parse R) (steps : Steps between) (shrinks : Shrinks p) where
  -- the turns that are left over do not matter
  turn-enough : (go went : S → Parse S) (l : S) (s : Place) (o : Option (X × Place)) → ((x : X) (m : Place) → o ≡ Some (x, m) → left m < left s)
      → ((u : S) (m : Place) → left m < left s → go u m ≡ went u m) → turn join p go l s o ≡ turn join p went l s o
  turn-enough go went l s None h i = refl
  turn-enough go went l s (Some x) h i = go_on (p x.1) refl
    where
      go_on : (r : Answer R) → p x.1 ≡ r → (r >>= λ r. go (join x.0 l r.0) r.1) ≡ (r >>= λ r. went (join x.0 l r.0) r.1)
      go_on (Ok r) f = i (join x.0 l r.0) r.1 (omega (arith, h x.0 x.1 refl, shrinks x.1 r.1 r.0 f))
      go_on (Err d) f = refl

  pub chain_from-enough : (n k : ℕ) (l : S) (s : Place) → left s ≤ n → left s ≤ k → chain_from between join p n l s ≡ chain_from between join p k l s
  unfolding chain_from
  chain_from-enough zero zero l s a b = refl
  chain_from-enough zero (suc k) l s a b = none (at between s) (λ x m f. steps s m x f)
    where
      none : (o : Option (X × Place)) → ((x : X) (m : Place) → o ≡ Some (x, m) → left m < left s) → Ok (l, s) ≡ turn join p (chain_from between join p k) l s o
      none None h = refl
      none (Some x) h = let never : ⊥ = omega (arith, h x.0 x.1 refl) in absurd never
  chain_from-enough (suc n) zero l s a b = none (at between s) (λ x m f. steps s m x f)
    where
      none : (o : Option (X × Place)) → ((x : X) (m : Place) → o ≡ Some (x, m) → left m < left s) → turn join p (chain_from between join p n) l s o ≡ Ok (l, s)
      none None h = refl
      none (Some x) h = let never : ⊥ = omega (arith, h x.0 x.1 refl) in absurd never
  chain_from-enough (suc n) (suc k) l s a b = turn-enough (chain_from between join p n) (chain_from between join p k) l s (at between s) (λ x m f. steps s m x f) (λ u m lt. chain_from-enough n k u m (omega arith) (omega arith))

  -- a chain with nothing more
  pub chain_on-ends : (l : S) (s : Place) → at between s ≡ None → chain_on between join p l s ≡ Ok (l, s)
  unfolding chain_on chain_from
  chain_on-ends l s e = chain_from-enough (length s.rest) (suc (length s.rest)) l s (omega arith) (omega arith) ∙ ap (turn join p (chain_from between join p (length s.rest)) l s) e

  -- one more turn of it
  pub chain_on-turn : (l : S) (s m : Place) (x : X) → at between s ≡ Some (x, m) → chain_on between join p l s ≡ (p m >>= λ r. chain_on between join p (join x l r.0) r.1)
  unfolding chain_on chain_from
  chain_on-turn l s m x e =
      chain_from-enough (length s.rest) (suc (length s.rest)) l s (omega arith) (omega arith)
      ∙ ap (turn join p (chain_from between join p (length s.rest)) l s) e
      ∙ go_on (p m) refl
    where
      go_on : (r : Answer R) → p m ≡ r → (r >>= λ r. chain_from between join p (length s.rest) (join x l r.0) r.1) ≡ (r >>= λ r. chain_from between join p (length r.1.rest) (join x l r.0) r.1)
      go_on (Ok r) f = chain_from-enough (length s.rest) (length r.1.rest) (join x l r.0) r.1 (omega (arith, steps s m x e, shrinks m r.1 r.0 f)) (omega arith)
      go_on (Err d) f = refl

module _ {X R S : Type 0} (between step : Look X) (first : R → S) (join : X → S → R → S) (p : Parse R) (P : Place → R → Place → Type 0)
    (steps : (m n : Place) (x : X) → at step m ≡ Some (x, n) → at between m ≡ Some (x, n)) (sound : IsSound p P) where
  turn_sound : (go : S → Parse S) (s : Place) (l : S) (m z : Place) (t : S) (o : Option (X × Place)) → at step m ≡ o → Chain between first join P s l m
      → ((u : S) (n : Place) → Chain between first join P s u n → go u n ≡ Ok (t, z) → Chain between first join P s t z) → turn join p go l m o ≡ Ok (t, z) → Chain between first join P s t z
  turn_sound go s l m z t None f c i e = at_answer (Chain between first join P s) l t m z e c
  turn_sound go s l m z t (Some x) f c i e =
      let b = bind_ok (p x.1) (λ r. go (join x.0 l r.0) r.1) (t, z) e in
      i (join x.0 l b.0.0) b.0.1 (more c (steps m x.1 x.0 f) (sound x.1 b.0.1 b.0.0 b.1)) b.2

  chain_from-sound : (n : ℕ) (s : Place) (l : S) (m z : Place) (t : S) → Chain between first join P s l m → chain_from step join p n l m ≡ Ok (t, z) → Chain between first join P s t z
  unfolding chain_from
  chain_from-sound zero s l m z t c e = at_answer (Chain between first join P s) l t m z e c
  chain_from-sound (suc n) s l m z t c e = turn_sound (chain_from step join p n) s l m z t (at step m) refl c (λ u o d f. chain_from-sound n s u o z t d f) e

  pub chain_on-sound : (s : Place) (l : S) (m z : Place) (t : S) → Chain between first join P s l m → chain_on step join p l m ≡ Ok (t, z) → Chain between first join P s t z
  unfolding chain_on
  chain_on-sound s l m z t c e = chain_from-sound (length m.rest) s l m z t c e

  pub chain_sound : IsSound (chain step first join p) (Chain between first join P)
  unfolding chain chain_on
  chain_sound s z t e =
      let b = bind_ok (p s) (λ r. chain_from step join p (length r.1.rest) (first r.0) r.1) (t, z) e in
      chain_from-sound (length b.0.1.rest) s (first b.0.0) b.0.1 z t (one (sound s b.0.1 b.0.0 b.1)) b.2
