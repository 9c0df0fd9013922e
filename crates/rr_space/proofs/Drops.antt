-- A table that is gone takes its objects with it.
use Rattle.std.proofs.Common.{◌≡◌, ℕ, ⊎_elim, Bool, true, false, List, Option, Some, None, sym, ap, ◌∙◌, refl, cond}
use Rattle.std.proofs.lemmas.Option.{same_Some, none-some}
use Rattle.rr_space.specs.Tables.{Slot}
use Rattle.rr_space.specs.Readings.{Owner, Shared, owner_eq, Owned, Objects, Naming, Layout, HasPlace, IsReading}
use Rattle.rr_space.specs.Steps.{Goneby, DroppingIsAStep}
use Rattle.rr_space.proofs.Frames.{owner_same, owner_refl, owner_cases, reads_kept, sound_kept}

abbrev pub left : Owner → Option Owned → Option Owned
left a None = None
left a (Some x) = cond (owner_eq x.owner a) None (Some x)

abbrev pub without : Owner → Objects → Objects
without a g n = left a (g n)

left_gone : (a : Owner) (x : Owned) → x.owner ≡ a → left a (Some x) ≡ None
left_gone a x e = ap (λ v. cond v None (Some x)) (ap (λ o. owner_eq o a) e ∙ owner_refl a)

left_kept : (a : Owner) (x : Owned) → (x.owner ≡ a → ⊥) → left a (Some x) ≡ Some x
left_kept a x differ = by (owner_eq x.owner a) refl
  where
    by : (v : Bool) → owner_eq x.owner a ≡ v → left a (Some x) ≡ Some x
    by true p = absurd (differ (owner_same x.owner a p))
    by false p = ap (λ v. cond v None (Some x)) p

left_back : (a : Owner) (o : Option Owned) (y : Owned) → left a o ≡ Some y → (o ≡ Some y) × (y.owner ≡ a → ⊥)
left_back a None y e = absurd (none-some y e)
left_back a (Some x) y e = ⊎_elim
    (λ p. absurd (none-some y (sym (left_gone a x p) ∙ e)))
    (λ p. let same : x ≡ y = same_Some x y (sym (left_kept a x p) ∙ e) in (ap (λ z. Some z) same, λ q. p (ap (λ (z : Owned). z.owner) same ∙ q)))
    (owner_cases x.owner a)

module _ (a : Owner) (old new : Layout) (names : Naming) (bound : ℕ) (g : Objects) (D : Goneby a old new) (R : IsReading old names bound g) where
  old_table : (h : Owner) (t : List Slot) → new h ≡ Some t → (h ≡ a → ⊥) × (old h ≡ Some t)
  old_table h t e = let differ : h ≡ a → ⊥ = λ p. none-some t (sym D.gone ∙ ap new (sym p) ∙ e) in (differ, sym (D.rest h differ) ∙ e)

  places : (c p : ℕ) → HasPlace old c p → HasPlace new c p
  places c p (u, o, e, at) = (u, o, D.rest (Shared c) (λ q. D.unshared c (sym q)) ∙ e, at)

  reading : IsReading new names bound (without a g)
  reading = record {
    sound = λ h t e. sound_kept old new t places (R.sound h t (old_table h t e).1);
    reads = λ h t e. let w = old_table h t e in
        reads_kept old new names names g (without a g) h t (R.sound h t w.1) refl (λ c u x. refl)
        (λ n o x. ap (left a) x ∙ left_kept a (record { owner = h; object = o }) w.0) (R.reads h t w.1);
    only = λ n y e. let b = left_back a (g n) y e in let st = R.only n y b.0 in
        record { table = st.table; place = st.place; raw = st.raw; is_table = D.rest y.owner b.1 ∙ st.is_table; is_raw = st.is_raw; is_name = st.is_name };
    bounded = λ n y e. R.bounded n y (left_back a (g n) y e).0;
  }

pub dropping_is_a_step : DroppingIsAStep
dropping_is_a_step a old new names bound g D R = (
  without a g,
  reading a old new names bound g D R,
  record {
    gone = λ n x e p. ap (left a) e ∙ left_gone a x p;
    kept = λ n x e p. ap (left a) e ∙ left_kept a x p;
    none = λ n e. ap (left a) e;
  },
)
