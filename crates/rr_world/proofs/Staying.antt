-- Steps that leave all as it was, or all but what is beside the objects.
use Rattle.std.proofs.Common.{◌≡◌, ℕ, sym, subst, refl, length, ◌∙◌, ap, ⊎_elim, ◌<◌, Some, slice_get}
use Rattle.rr_space.specs.Readings.{Naming, Objects, Owner, Space}
use Rattle.rr_world.specs.Views.{Assembly, Member}
use Rattle.rr_world.specs.Layouts.{IsRead}
use Rattle.rr_world.specs.States.{State, IsSame}
use Rattle.rr_world.specs.Readings.{state_in}
use Rattle.rr_world.specs.Enabling.{IsPossible}
use Rattle.rr_world.specs.Cases.{IsOutcome}
use Rattle.rr_world.specs.Naming.{IsRenamed, AreNamesKept}
use Rattle.rr_world.specs.Outcomes.{reply_of}
use Rattle.rr_world.specs.Runs.{HasOutcome}
use Rattle.rr_world.specs.declared.outcome.Outcome.{Outcome}
use Rattle.rr_world.specs.declared.step.Step.{Step}
use Rattle.rr_world.specs.declared.step.Reply.{Reply}
use Rattle.rr_world.specs.declared.step.Reply.TheVariants.{NotEnabled}
use Rattle.rr_space.specs.Steps.{IsNamed}
use Rattle.std.specs.Prelude.{slice_index}
use Rattle.std.proofs.lemmas.Option.{same_Some}
use Rattle.rr_world.proofs.Lists.{eq_cases}

pub same_state : (s : State) → IsSame s s
same_state s = record { objects = λ n. refl; ractors = refl; post = refl }

-- the World is as it was, and the case says so
pub stays : (step : Step) (reply : Reply) (w w2 : Assembly) → w2 ≡ w → ((names : Naming) (g : Objects) → IsOutcome step reply (state_in w names g) (state_in w names g)) → HasOutcome step reply w w2
stays step reply w w2 same case names bound g R =
    subst (λ (v : Assembly). (names2 : Naming) × (bound2 : ℕ) × (g2 : Objects) × IsRead v names2 bound2 g2 × IsOutcome step reply (state_in w names g) (state_in v names2 g2) × AreNamesKept w step names names2)
    (sym same) (names, bound, g, R, case names g, record { others = λ h off. refl; slots = λ j x i there lt off. refl })

pub refused : (step : Step) (w w2 : Assembly) → w2 ≡ w → ((names : Naming) (g : Objects) → IsPossible (state_in w names g) step → ⊥) → HasOutcome step NotEnabled w w2
refused step w w2 same not = stays step NotEnabled w w2 same (λ names g. (not names g, same_state (state_in w names g)))

-- the same, where the case follows from the reading
pub stays_read : (step : Step) (reply : Reply) (w w2 : Assembly) → w2 ≡ w → ((names : Naming) (bound : ℕ) (g : Objects) → IsRead w names bound g → IsOutcome step reply (state_in w names g) (state_in w names g))
    → HasOutcome step reply w w2
stays_read step reply w w2 same case names bound g R =
    subst (λ (v : Assembly). (names2 : Naming) × (bound2 : ℕ) × (g2 : Objects) × IsRead v names2 bound2 g2 × IsOutcome step reply (state_in w names g) (state_in v names2 g2) × AreNamesKept w step names names2)
    (sym same) (names, bound, g, R, case names bound g R, record { others = λ h off. refl; slots = λ j x i there lt off. refl })

-- one list of names is another, which is no space's, and the step acts on it
pub one_renamed : {names names2 : Naming} (w : Assembly) (b : Owner) (step : Step) → IsNamed b names names2 → IsRenamed w step.who step.action b → ((j : ℕ) → Space j ≡ b → ⊥) → AreNamesKept w step names names2
one_renamed {names} {names2} w b step N may apart = record {
  others = λ h off. N.rest h (λ e. off (subst (IsRenamed w step.who step.action) (sym e) may));
  slots = λ j x i there lt off. ap (λ ns. slice_index ns i) (N.rest (Space j) (apart j));
}

own_space : (j k : ℕ) → Space j ≡ Space k → j ≡ k
own_space j k e = cc

-- the list of a space is another, in which the slots have their names
pub space_renamed : {names names2 : Naming} (w : Assembly) (k : ℕ) (m : Member) (step : Step) → slice_get w.ractors k ≡ Some m → IsNamed (Space k) names names2 → IsRenamed w step.who step.action (Space k)
    → ((i : ℕ) → i < length m.space.slots → slice_index (names2 (Space k)) i ≡ slice_index (names (Space k)) i) → AreNamesKept w step names names2
space_renamed {names} {names2} w k m step at N may stand = record {
  others = λ h off. N.rest h (λ e. off (subst (IsRenamed w step.who step.action) (sym e) may));
  slots = λ j x i there lt off. ⊎_elim
      (λ same.
      let one : x ≡ m = same_Some x m (sym there ∙ ap (slice_get w.ractors) same ∙ at) in
      ap (λ n. slice_index (names2 (Space n)) i) same ∙ stand i (subst (λ (y : Member). i < length y.space.slots) one lt) ∙ ap (λ n. slice_index (names (Space n)) i) (sym same))
      (λ differ. ap (λ ns. slice_index ns i) (N.rest (Space j) (λ e. differ (own_space j k e))))
      (eq_cases j k);
}

-- what a ractor's own step came to is what the step answers
pub replied : (step : Step) (r : Outcome) (reply : Reply) (w w2 : Assembly) → reply ≡ reply_of r → HasOutcome step (reply_of r) w w2 → HasOutcome step reply w w2
replied step r reply w w2 same out = subst (λ q. HasOutcome step q w w2) (sym same) out
