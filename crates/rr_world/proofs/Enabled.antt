-- Which steps are enabled, by the World's own lists.
use Rattle.std.proofs.Common.{◌≡◌, ℕ, ◌≤◌, ◌⊎◌, ⊎_elim, inl, inr, length, slice_get, Option, Some, None, sym, ap, ◌∙◌, subst, refl, arith}
use Rattle.std.specs.Option.{option_map}
use Rattle.std.proofs.lemmas.Option.{none-some, same_Some, slice_get_within}
use Rattle.rr_base.specs.declared.name.RactorNo.{RactorNo}
use Rattle.rr_space.specs.Tables.{Packed}
use Rattle.rr_space.specs.Readings.{Naming, Objects, Hand}
use Rattle.rr_inbox.specs.Inboxes.{Inbox}
use Rattle.rr_world.specs.Views.{Member, Assembly, HasToDrop, IsFree}
use Rattle.rr_world.specs.States.{Actor}
use Rattle.rr_world.specs.Readings.{actor_in, shells_in, planned_in, published_names, mailbox_in, parcel_in, state_in}
use Rattle.rr_world.specs.Enabling.{IsTested, StandsAt, HasInbox, Holds, HoldsPlan, IsFreeHand, Allows, IsPossible}
use Rattle.rr_world.specs.declared.step.Action.TheVariants.{Offer, Close}
use Rattle.rr_world.specs.declared.step.Step.{Step}
use Rattle.rr_world.proofs.Lists.{each_at, each_back}

pub actor_at : (w : Assembly) (names : Naming) (g : Objects) (k : ℕ) (m : Member) → slice_get w.ractors k ≡ Some m
    → slice_get (state_in w names g).ractors k ≡ Some (actor_in names k m)
actor_at w names g k m at = each_at (actor_in names) 0 w.ractors k k m (omega arith) at

pub mailbox_at : (w : Assembly) (names : Naming) (g : Objects) (c : ℕ) (i : Inbox) → slice_get w.channels.inboxes c ≡ Some i
    → slice_get (state_in w names g).post.inboxes c ≡ Some (mailbox_in names c i)
mailbox_at w names g c i at = each_at (mailbox_in names) 0 w.channels.inboxes c c i (omega arith) at

-- what an enabled step needs, it needs of the ractor that stands there
pub allowed : (w : Assembly) (names : Naming) (g : Objects) (step : Step) (k : ℕ) (m : Member) → StandsAt step.who k → slice_get w.ractors k ≡ Some m
    → IsPossible (state_in w names g) step → Allows (state_in w names g) step.who (actor_in names k m) step.action
allowed w names g step k m stands at (j, a, there, is, allows, tested) =
    let same : j ≡ k = omega (arith, stands, there) in
    let one : a ≡ actor_in names k m = same_Some a (actor_in names k m) (sym is ∙ ap (slice_get (state_in w names g).ractors) same ∙ actor_at w names g k m at) in
    subst (λ (b : Actor). Allows (state_in w names g) step.who b step.action) one allows

-- and so it is with what it tests
pub tested_at : (w : Assembly) (names : Naming) (g : Objects) (step : Step) (k : ℕ) (m : Member) → StandsAt step.who k → slice_get w.ractors k ≡ Some m
    → IsPossible (state_in w names g) step → IsTested (state_in w names g) (actor_in names k m) step.action
tested_at w names g step k m stands at (j, a, there, is, allows, tested) =
    let same : j ≡ k = omega (arith, stands, there) in
    let one : a ≡ actor_in names k m = same_Some a (actor_in names k m) (sym is ∙ ap (slice_get (state_in w names g).ractors) same ∙ actor_at w names g k m at) in
    subst (λ (b : Actor). IsTested (state_in w names g) b step.action) one tested

pub nobody : (w : Assembly) (names : Naming) (g : Objects) (step : Step) → ((k : ℕ) → StandsAt step.who k → length w.ractors ≤ k) → IsPossible (state_in w names g) step → ⊥
nobody w names g step none (k, a, there, is, allows, tested) =
    let b = each_back (actor_in names) 0 w.ractors k k a (omega arith) is in
    let lt = slice_get_within w.ractors k b.0 b.1 in
    let le = none k there in
    absurd (omega arith)

pub no_inbox : (w : Assembly) (names : Naming) (g : Objects) (to : RactorNo) → ((k : ℕ) → StandsAt to k → length w.channels.inboxes ≤ k) → HasInbox (state_in w names g) to → ⊥
no_inbox w names g to none (c, b, there, is) =
    let x = each_back (mailbox_in names) 0 w.channels.inboxes c c b (omega arith) is in
    let lt = slice_get_within w.channels.inboxes c x.0 x.1 in
    let le = none c there in
    absurd (omega arith)

pub holds_not : (names : Naming) (k : ℕ) (m : Member) → m.hand ≡ None → Holds (actor_in names k m) → ⊥
holds_not names k m none holds = none-some holds.0 (sym (ap (option_map (parcel_in names (Hand k))) none) ∙ holds.1)

pub holds : (names : Naming) (k : ℕ) (m : Member) (p : Packed) → m.hand ≡ Some p → (actor_in names k m).hand ≡ Some (parcel_in names (Hand k) p)
holds names k m p is = ap (option_map (parcel_in names (Hand k))) is

pub free : (names : Naming) (k : ℕ) (m : Member) → IsFree m → IsFreeHand (actor_in names k m)
free names k m is = (ap (option_map (parcel_in names (Hand k))) is.hand, ap (option_map (shells_in names k)) is.home, is.ticket, ap (option_map (planned_in names k)) is.plan, ap (option_map (published_names names k)) is.published)

pub none_back : {A B : Type 0} (f : A → B) (x : Option A) → option_map f x ≡ None → x ≡ None
none_back f None e = refl
none_back f (Some a) e = absurd (none-some (f a) (sym e))

pub free_back : (names : Naming) (k : ℕ) (m : Member) → IsFreeHand (actor_in names k m) → IsFree m
free_back names k m is = record { hand = none_back (parcel_in names (Hand k)) m.hand is.0; home = none_back (shells_in names k) m.home is.1; ticket = is.2; plan = none_back (planned_in names k) m.plan is.3; published = none_back (published_names names k) m.published is.4 }

pub no_offer : (w : Assembly) (names : Naming) (g : Objects) (step : Step) (to : RactorNo) → step.action ≡ Offer to → ((k : ℕ) → StandsAt to k → length w.channels.inboxes ≤ k)
    → IsPossible (state_in w names g) step → ⊥
no_offer w names g step to is none (k, a, there, at, allows, tested) =
    no_inbox w names g to none (subst (λ x. Allows (state_in w names g) step.who a x) is allows).1

pub no_close : (w : Assembly) (names : Naming) (g : Objects) (step : Step) (to : RactorNo) → step.action ≡ Close to → ((k : ℕ) → StandsAt to k → length w.channels.inboxes ≤ k)
    → IsPossible (state_in w names g) step → ⊥
no_close w names g step to is none (k, a, there, at, allows, tested) =
    no_inbox w names g to none (subst (λ x. Allows (state_in w names g) step.who a x) is allows)

-- a message or a plan is in the hand, and none
pub holds_one : (names : Naming) (k : ℕ) (m : Member) → HasToDrop m → Holds (actor_in names k m) ⊎ HoldsPlan (actor_in names k m)
holds_one names k m has = ⊎_elim (λ z. inl (parcel_in names (Hand k) z.0, holds names k m z.0 z.1)) (λ z. inr (planned_in names k z.0, ap (option_map (planned_in names k)) z.1)) has

pub holds_none : (names : Naming) (k : ℕ) (m : Member) → m.hand ≡ None → m.plan ≡ None → Holds (actor_in names k m) ⊎ HoldsPlan (actor_in names k m) → ⊥
holds_none names k m none no_plan has =
    ⊎_elim (λ z. holds_not names k m none z) (λ z. none-some z.0 (sym (ap (option_map (planned_in names k)) no_plan) ∙ z.1)) has
