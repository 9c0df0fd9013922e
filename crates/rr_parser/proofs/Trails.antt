-- Trails: what follows an operand, time after time.
use Rattle.std.proofs.Common.{◌≡◌, zero, suc, ◌<◌, ◌≤◌, ◌⊎◌, inl, inr, length, Option, Some, None, Ok, Err, refl, sym, ap, ◌∙◌, arith, ℕ}
use Rattle.rr_parser.specs.Places.{Place, Look, at}
use Rattle.rr_parser.specs.Grammar.Chains.{Trail, at_first, and_then}
use Rattle.rr_parser.specs.Reading.Answers.{◌>>=◌, deep, Answer, Parse, from, trail_turn, trail_from, trail_on}
use Rattle.rr_parser.specs.Fronts.{TrailFront, in_tail}
use Rattle.rr_parser.proofs.Looks.{left, Steps}
use Rattle.rr_parser.proofs.Chains.{bind_ok, at_answer, IsSoundOn, IsShrinking}
use Rattle.rr_parser.proofs.Leading.{Leads, leads_bind, leads_trans, leads_eq, IsFull}

pub trail_shrinking : {X A : Type 0} (look : Look X) (P : Place → A → Place → Type 0) (Q : X → A → Place → A → Place → Type 0) → Steps look → IsShrinking P → ((x : X) (l : A) (n z : Place) (t : A) → Q x l n t z → left z ≤ left n)
    → IsShrinking (Trail look P Q)
trail_shrinking look P Q steps first later s z t (at_first h) = first s z t h
trail_shrinking look P Q steps first later s z t (and_then {m = m} {n = n} {l = l} {x = x} c e h) = omega (arith, trail_shrinking look P Q steps first later s m l c, steps m n x e, later x l n z t h)

module _ {X A : Type 0} (look : Look X) (q : X → A → Parse A) (steps : Steps look) (smaller : (x : X) (l : A) (n z : Place) (t : A) → q x l n ≡ Ok (t, z) → left z ≤ left n) where
  -- the turns that are left over do not matter
  turn-enough : (go went : A → Parse A) (l : A) (s : Place) (o : Option (X × Place)) → ((x : X) (m : Place) → o ≡ Some (x, m) → left m < left s)
      → ((u : A) (m : Place) → left m < left s → go u m ≡ went u m) → trail_turn q go l s o ≡ trail_turn q went l s o
  turn-enough go went l s None h i = refl
  turn-enough go went l s (Some x) h i = go_on (q x.0 l x.1) refl
    where
      go_on : (r : Answer A) → q x.0 l x.1 ≡ r → (r >>= λ r. go r.0 r.1) ≡ (r >>= λ r. went r.0 r.1)
      go_on (Ok r) f = i r.0 r.1 (omega (arith, h x.0 x.1 refl, smaller x.0 l x.1 r.1 r.0 f))
      go_on (Err d) f = refl

  none_left : (go : A → Parse A) (l : A) (s : Place) (o : Option (X × Place)) → left s ≤ 0 → ((x : X) (m : Place) → o ≡ Some (x, m) → left m < left s) → Ok (l, s) ≡ trail_turn q go l s o
  none_left go l s None a h = refl
  none_left go l s (Some x) a h = let never : ⊥ = omega (arith, h x.0 x.1 refl, a) in absurd never

  trail_from-enough : (n k : ℕ) (l : A) (s : Place) → left s ≤ n → left s ≤ k → trail_from look q n l s ≡ trail_from look q k l s
  unfolding trail_from
  trail_from-enough zero zero l s a b = refl
  trail_from-enough zero (suc k) l s a b = none_left (trail_from look q k) l s (at look s) a (λ x m f. steps s m x f)
  trail_from-enough (suc n) zero l s a b = sym (none_left (trail_from look q n) l s (at look s) b (λ x m f. steps s m x f))
  trail_from-enough (suc n) (suc k) l s a b = turn-enough (trail_from look q n) (trail_from look q k) l s (at look s) (λ x m f. steps s m x f) (λ u m lt. trail_from-enough n k u m (omega arith) (omega arith))

  pub trail_on-ends : (l : A) (s : Place) → at look s ≡ None → trail_on look q l s ≡ Ok (l, s)
  unfolding trail_on trail_from
  trail_on-ends l s e = trail_from-enough (length s.rest) (suc (length s.rest)) l s (omega arith) (omega arith) ∙ ap (trail_turn q (trail_from look q (length s.rest)) l s) e

  pub trail_on-turn : (l : A) (s m : Place) (x : X) → at look s ≡ Some (x, m) → trail_on look q l s ≡ (q x l m >>= λ r. trail_on look q r.0 r.1)
  unfolding trail_on trail_from
  trail_on-turn l s m x e =
      trail_from-enough (length s.rest) (suc (length s.rest)) l s (omega arith) (omega arith)
      ∙ ap (trail_turn q (trail_from look q (length s.rest)) l s) e
      ∙ go_on (q x l m) refl
    where
      go_on : (r : Answer A) → q x l m ≡ r → (r >>= λ r. trail_from look q (length s.rest) r.0 r.1) ≡ (r >>= λ r. trail_from look q (length r.1.rest) r.0 r.1)
      go_on (Ok r) f = trail_from-enough (length s.rest) (length r.1.rest) r.0 r.1 (omega (arith, steps s m x e, smaller x l m r.1 r.0 f)) (omega arith)
      go_on (Err d) f = refl

-- what comes first in a trail
pub trail_head : {X A : Type 0} (look : Look X) (P : Place → A → Place → Type 0) (Q : X → A → Place → A → Place → Type 0) (s z : Place) (t : A) → Trail look P Q s t z → (u : A) × (y : Place) × P s u y
trail_head look P Q s z t (at_first h) = (t, z, h)
trail_head look P Q s z t (and_then {m = m} {l = l} c e h) = trail_head look P Q s m l c

-- what P spells first, and where it is stopped
pub record StoppedHead {A : Type 0} (P : Place → A → Place → Type 0) (Stops : Place → Type 0) (s : Place) : Type 0 where
  pub first : A
  pub behind : Place
  pub spelled : P s first behind
  pub stops : Stops behind

-- what comes first in a trail is stopped where the whole is
pub trail_first : {X A : Type 0} (look : Look X) (P : Place → A → Place → Type 0) (Q : X → A → Place → A → Place → Type 0) (Stops : Place → Type 0) → ((m n : Place) (x : X) → at look m ≡ Some (x, n) → Stops m)
    → (s z : Place) (t : A) → Trail look P Q s t z → Stops z → StoppedHead P Stops s
trail_first look P Q Stops stops_at s z t (at_first h) stops = record { first = t; behind = z; spelled = h; stops = stops }
trail_first look P Q Stops stops_at s z t (and_then {m = m} {n = n} {l = l} {x = x} c e h) stops = trail_first look P Q Stops stops_at s m l c (stops_at m n x e)

module _ {X A : Type 0} (between look : Look X) (q : X → A → Parse A) (steps : Steps look) (smaller : (x : X) (l : A) (n z : Place) (t : A) → q x l n ≡ Ok (t, z) → left z ≤ left n)
    (p : Parse A) (P : Place → A → Place → Type 0) (Q : X → A → Place → A → Place → Type 0) (D : Type 0) (Stops : Place → Type 0)
    (stops_at : (m n : Place) (x : X) → at between m ≡ Some (x, n) → Stops m)
    (step_on : (m n z : Place) (x : X) (l t : A) → at between m ≡ Some (x, n) → Q x l n t z → at look m ≡ Some (x, n))
    (full : IsFull p P Stops D) (later : (x : X) (l : A) → IsFull (q x l) (Q x l) Stops D) where
  trail_leads : (s z : Place) (t : A) → Trail between P Q s t z → Stops z → Leads (from p (trail_on look q) s) (trail_on look q t z) D
  trail_leads s z t (at_first h) stops = leads_bind (p s) (t, z) (λ x. trail_on look q x.0 x.1) (full s z t h stops)
  trail_leads s z t (and_then {m = m} {n = n} {l = l} {x = x} c e h) stops =
      leads_trans (from p (trail_on look q) s) (trail_on look q l m) (trail_on look q t z) (trail_leads s m l c (stops_at m n x e))
      (leads_eq (trail_on look q l m) (q x l n >>= λ r. trail_on look q r.0 r.1) (trail_on look q t z) (trail_on-turn look q steps smaller l m n x (step_on m n z x l t e h))
      (leads_bind (q x l n) (t, z) (λ r. trail_on look q r.0 r.1) (later x l n z t h stops)))

  pub trail_full : (s z : Place) (t : A) → Trail between P Q s t z → Stops z → at look z ≡ None → Leads (from p (trail_on look q) s) (Ok (t, z)) D
  trail_full s z t c stops none = leads_trans (from p (trail_on look q) s) (trail_on look q t z) (Ok (t, z)) (trail_leads s z t c stops) (inl (trail_on-ends look q steps smaller t z none))

module _ {X A : Type 0} (between look : Look X) (tells : (m n : Place) (x : X) → at look m ≡ Some (x, n) → at between m ≡ Some (x, n)) (q : X → A → Parse A) (P : Place → A → Place → Type 0) (Q : X → A → Place → A → Place → Type 0) (sound : (x : X) (l : A) (n z : Place) (t : A) → q x l n ≡ Ok (t, z) → Q x l n t z) where
  turn_sound : (go : A → Parse A) (s : Place) (l : A) (m z : Place) (t : A) (o : Option (X × Place)) → at look m ≡ o → Trail between P Q s l m
      → ((u : A) (n : Place) → Trail between P Q s u n → go u n ≡ Ok (t, z) → Trail between P Q s t z) → trail_turn q go l m o ≡ Ok (t, z) → Trail between P Q s t z
  turn_sound go s l m z t None f c i e = at_answer (Trail between P Q s) l t m z e c
  turn_sound go s l m z t (Some x) f c i e =
      let b = bind_ok (q x.0 l x.1) (λ r. go r.0 r.1) (t, z) e in
      i b.0.0 b.0.1 (and_then c (tells m x.1 x.0 f) (sound x.0 l x.1 b.0.1 b.0.0 b.1)) b.2

  turns_sound : (n : ℕ) (s : Place) (l : A) (m z : Place) (t : A) → Trail between P Q s l m → trail_from look q n l m ≡ Ok (t, z) → Trail between P Q s t z
  unfolding trail_from
  turns_sound zero s l m z t c e = at_answer (Trail between P Q s) l t m z e c
  turns_sound (suc n) s l m z t c e = turn_sound (trail_from look q n) s l m z t (at look m) refl c (λ u o d f. turns_sound n s u o z t d f) e

  pub trail_sound : IsSoundOn (trail_on look q) P (Trail between P Q)
  unfolding trail_on
  trail_sound s m z l t h e = turns_sound (length m.rest) s l m z t (at_first h) e

  module _ (F : Place → Place → Type 0) (G : X → A → Place → Place → Type 0) (is_deep : (x : X) (l : A) (n : Place) → q x l n ≡ Err deep → (z : Place) × G x l n z)
      (bind_deep : (r : Answer A) (f : A × Place → Answer A) → (r >>= f) ≡ Err deep → (r ≡ Err deep) ⊎ ((x : A × Place) × (r ≡ Ok x) × (f x ≡ Err deep))) where
    turn_deep : (go : A → Parse A) (s : Place) (l : A) (m : Place) (o : Option (X × Place)) → at look m ≡ o → Trail between P Q s l m
        → ((u : A) (n : Place) → Trail between P Q s u n → go u n ≡ Err deep → (z : Place) × TrailFront between (Trail between P Q) F G s z) → trail_turn q go l m o ≡ Err deep → (z : Place) × TrailFront between (Trail between P Q) F G s z
    turn_deep go s l m None f c i e = absurd cc
    turn_deep go s l m (Some x) f c i e =
        elim (bind_deep (q x.0 l x.1) (λ r. go r.0 r.1) e) [
          | inl g ↦ (let d = is_deep x.0 l x.1 g in (d.0, in_tail c (tells m x.1 x.0 f) d.1))
          | inr b ↦ i b.0.0 b.0.1 (and_then c (tells m x.1 x.0 f) (sound x.0 l x.1 b.0.1 b.0.0 b.1)) b.2
        ]

    turns_deep : (n : ℕ) (s : Place) (l : A) (m : Place) → Trail between P Q s l m → trail_from look q n l m ≡ Err deep → (z : Place) × TrailFront between (Trail between P Q) F G s z
    unfolding trail_from
    turns_deep zero s l m c e = absurd cc
    turns_deep (suc n) s l m c e = turn_deep (trail_from look q n) s l m (at look m) refl c (λ u o d f. turns_deep n s u o d f) e

    pub trail_deep : (s m : Place) (l : A) → P s l m → trail_on look q l m ≡ Err deep → (z : Place) × TrailFront between (Trail between P Q) F G s z
    unfolding trail_on
    trail_deep s m l h e = turns_deep (length m.rest) s l m (at_first h) e
