-- Which ractors run, and what a step of a ractor that runs is to the machine.
use Rattle.std.proofs.Common.{ℕ, ap, ◌∙◌, arith, refl}
use Rattle.rr_base.specs.declared.name.RactorNo.{RactorNo}
use Rattle.rr_space.specs.Readings.{Naming, Objects}
use Rattle.rr_world.specs.Views.{Assembly, RunsAt}
use Rattle.rr_world.specs.States.{State, Actor}
use Rattle.rr_world.specs.Readings.{actor_in, state_in}
use Rattle.rr_world.specs.Enabling.{StandsAt, IsRunning}
use Rattle.rr_world.specs.Cases.{IsCase, IsOutcome}
use Rattle.rr_world.specs.Runs.{HasOutcome, IsStep}
use Rattle.rr_world.specs.declared.step.Step.{Step}
use Rattle.rr_world.specs.declared.step.Reply.{Reply}
use Rattle.rr_world.specs.declared.step.Reply.TheVariants.{NotEnabled, Done, Offered, Empty, EmptyAndClosed, WasClosed, Refused, Started, Settled, GrabbedLast, OfMain, Published}
use Rattle.rr_world.proofs.Enabled.{actor_at}
use Rattle.rr_world.proofs.Lists.{each_back}
use Rattle.rr_world.proofs.Staying.{same_state}

case_of : (step : Step) (r : Reply) (s t : State) → IsRunning s step.who → IsOutcome step r s t → IsCase step r s t
case_of step NotEnabled s t runs o = (λ e. o.0 e.1, o.1)
case_of step Done s t runs o = (runs, o)
case_of step (Offered n) s t runs o = (runs, o)
case_of step Empty s t runs o = (runs, o)
case_of step EmptyAndClosed s t runs o = (runs, o)
case_of step (WasClosed b) s t runs o = (runs, o)
case_of step (Started n) s t runs o = (runs, o)
case_of step (Settled what) s t runs o = (runs, o)
case_of step (GrabbedLast l) s t runs o = (runs, o)
case_of step (Refused f) s t runs o = (runs, o)
case_of step OfMain s t runs o = (runs, o)
case_of step (Published n) s t runs o = (runs, o)

-- the outcome of a step of a ractor that runs is a step of the machine
pub ran : (w w2 : Assembly) (step : Step) (k : ℕ) (r : Reply) → StandsAt step.who k → RunsAt w k → HasOutcome step r w w2 → IsStep step r w w2
ran w w2 step k r stands (m, at, runs) out names bound g R =
    let q = out names bound g R in
    (q.0, q.1, q.2, q.3, case_of step r (state_in w names g) (state_in w2 q.0 q.2) (k, actor_in names k m, stands, actor_at w names g k m at, runs) q.4, q.5)

runs_back : (w : Assembly) (names : Naming) (g : Objects) (who : RactorNo) → IsRunning (state_in w names g) who → (k : ℕ) × StandsAt who k × RunsAt w k
runs_back w names g who (k, a, stands, at, runs) =
    let b = each_back (actor_in names) 0 w.ractors k k a (omega arith) at in
    (k, stands, (b.0, b.1, ap (λ (x : Actor). x.runs) b.2 ∙ runs))

-- a ractor that does not run makes no step
pub none_runs : (w : Assembly) (step : Step) → ((k : ℕ) → StandsAt step.who k → RunsAt w k → ⊥) → IsStep step NotEnabled w w
none_runs w step none names bound g R = (names, bound, g, R, (λ e. let b = runs_back w names g step.who e.0 in none b.0 b.1 b.2, same_state (state_in w names g)), record { others = λ h off. refl; slots = λ j x i there lt off. refl })
