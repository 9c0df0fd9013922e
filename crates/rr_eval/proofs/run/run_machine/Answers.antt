-- What one turn did, and how its request was served.
use Rattle.std.proofs.Common.{ℕ, List, inl, sym, subst, ◌∙◌, arith, ap, length, ◌≤◌, Some, None}
use Rattle.rr_text.specs.Reads.{IsReadWith}
use Rattle.rr_eval.specs.declared.call.Arguments.TheVariants.{Two}
use Rattle.rr_eval.specs.declared.call.Task.TheVariants.{SetField}
use Rattle.rr_eval.specs.declared.request.Request.TheVariants.{Call, Do}
use Rattle.rr_eval.specs.Published.{published}
use Rattle.rr_space.specs.Tables.{Table}
use Rattle.rr_space.specs.declared.refer.Ref.{Ref}
use Rattle.rr_store.specs.Stores.{Store}
use Rattle.rr_eval.specs.declared.run.Outcome.{Outcome}
use Rattle.rr_eval.specs.declared.run.Outcome.TheVariants as outcomes
use Rattle.rr_eval.specs.Context.{Context}
use Rattle.rr_eval.specs.Exceptions.{IsTold}
use Rattle.rr_eval.specs.Script.{World, Outcome as Evaluated, objects_of}
use Rattle.rr_eval.specs.Served.{Exchange}
use Rattle.rr_eval.specs.Alone.{AloneExceeds}
use Rattle.rr_eval.specs.Apart.{assignment_asked}
use Rattle.rr_eval.specs.Turns.{context_of}
use Rattle.rr_eval.specs.Requests.{asked_of}
use Rattle.rr_eval.specs.Runs.{EndsRaised, FitsSlots, IsRaised, Leaves, StopsWhereFull, program_meaning, text_of}
use Rattle.rr_eval.specs.Within.{reach, AreReached, IsRequestReached}
use Rattle.rr_eval.specs.Written.{Written, written_to, WritesAll, WritesBeginning, FallsShort}
use Rattle.rr_eval.proofs.Holding.{within_more, reached_more, reached_wider, response_within}
use Rattle.rr_eval.proofs.Running.{running_first, running_on, running_more, running_silent, running_failed, running_raised, running_stopped, running_done, running_spent, running_fits, running_full, running_passes}
use Rattle.rr_eval.proofs.run.run_machine.Goals as goal

-- what is told of an exception that nothing rescues, or that there is no memory for it
raised_leaves : (c : Context) (old now : Written) (o : Evaluated) (t : Table) (v : Ref) (ended : Outcome) → EndsRaised t v ended → ((told : List ℕ) → IsTold t v told → IsRaised o told × WritesAll old now (text_of c o)) → WritesBeginning old now (text_of c o) → Leaves c old now o ended
raised_leaves c old now o t v (outcomes.Raised told) is raises stops = raises told.items is
raised_leaves c old now o t v (outcomes.Stopped fault) is raises stops = (inl is, stops)
raised_leaves c old now o t v _ is raises stops = absurd is

raised_fits : (slots : ℕ) (o : Evaluated) (ended : Outcome) → objects_of o ≤ slots → FitsSlots slots o ended
raised_fits slots o outcomes.Done fits = fits
raised_fits slots o (outcomes.Raised told) fits = fits
raised_fits slots o outcomes.StepLimit fits = fits
raised_fits slots o _ fits = tt

raised_full : (c : Context) (slots : ℕ) (exchanges : List Exchange) (store : Store) (meaning : World → Evaluated) (t : Table) (v : Ref) (ended : Outcome) → EndsRaised t v ended → StopsWhereFull c slots exchanges store meaning ended
raised_full c slots exchanges store meaning t v (outcomes.Stopped fault) is = λ full. absurd (cc (is, full))
raised_full c slots exchanges store meaning t v _ is = tt

pub loop-set-init : goal.loop-set-init
loop-set-init g c =
    let p = c.args.prepared.now.program in
    let fresh = sym (ap published c.new-store.ensures) in
    record {
      within = c.requires.within;
      reached = subst (λ below. AreReached (reach (length c.args.space.now.slots) (Some below)) c.args.machine) fresh c.requires.reached;
      read = subst (IsReadWith c.args.space.now) fresh c.requires.read;
      limit = c.requires.limit;
      running = rw c.new-store.ensures (running_first c.args.limits.events p c.args.machine c.args.space.now (program_meaning p c.args.limits) _ c.requires.whole);
    }

pub loop-set-preserved-in-Other-Ok-More : goal.loop-set-preserved-in-Other-Ok-More
loop-set-preserved-in-Other-Ok-More g c =
    let on = c.in-Other-Ok-More.ensures in
    let before = c.loop-set.invariant in
    let turned = rw c.in-Other-Ok-More.field-0-0-is at rw c.in-Other-Ok-More.field-0-is at on.turned in
    let below = published c.loop-set.store in
    record {
      within = on.within;
      reached = on.reach (Some below) before.reached;
      read = on.read below before.read before.reached;
      limit = on.limit ∙ before.limit;
      running = running_on c.args.limits.events c.args.prepared.now.program _ _ _ _ _ _ before.running c.turn_apart-apart.new.self c.turn_apart-apart.new.space turned.1;
    }

pub serve_alone-requires-clause-read : goal.serve_alone-requires-clause-read
serve_alone-requires-clause-read g c = c.in-Other-Ok-Ask.ensures.read (published c.loop-set.store) c.loop-set.invariant.read c.loop-set.invariant.reached

pub serve_alone-requires-clause-reached : goal.serve_alone-requires-clause-reached
serve_alone-requires-clause-reached g c = rw c.in-Other-Ok-Ask.field-0-0-is at rw c.in-Other-Ok-Ask.field-0-is at (c.in-Other-Ok-Ask.ensures.ends_reach (Some (published c.loop-set.store)) c.loop-set.invariant.reached)

pub returns-in-Err-serve_alone : goal.returns-in-Err-serve_alone
returns-in-Err-serve_alone g c =
    let p = c.args.prepared.now.program in
    let asks = c.in-Other-Ok-Ask.ensures in
    let running = c.loop-set.invariant.running in
    let turned = rw c.in-Other-Ok-Ask.field-0-0-is at rw c.in-Other-Ok-Ask.field-0-is at asks.turned in
    let q = asked_of c.turn_apart-apart.new.space c.in-Other-Ok-Ask.request in
    let limit = asks.limit ∙ c.loop-set.invariant.limit in
    record {
      exchanges = running.exchanges;
      store = c.loop-set.store;
      served = running.served;
      leaves = λ w so. (c.in-Err-serve_alone.ensures.refused.refused, running_stopped c.args.limits.events p _ _ _ _ _ _ running w so);
      fits = λ w so. tt;
      full = λ is. running_full c.args.limits.events p _ _ _ _ _ _ running c.args.limits.slots c.turn_apart-apart.new.self c.turn_apart-apart.new.space q turned.1
          (subst (λ slots. AloneExceeds (context_of p) c.loop-set.store slots q c.turn_apart-apart.new.space) limit (c.in-Err-serve_alone.ensures.refused.full is));
    }

pub returns-then-not-put : goal.returns-then-not-put
returns-then-not-put g c =
    let p = c.args.prepared.now.program in
    let turned = rw c.in-Other-Ok-Ask.field-0-0-is at rw c.in-Other-Ok-Ask.field-0-is at c.in-Other-Ok-Ask.ensures.turned in
    let running = c.loop-set.invariant.running in
    let now = written_to g.O.Output.contents g.O.Output.failures c.loop-set.output in
    let new = written_to g.O.Output.contents g.O.Output.failures c.put.new.output in
    let q = asked_of c.turn_apart-apart.new.space c.in-Other-Ok-Ask.request in
    record {
      exchanges = running.exchanges;
      store = c.loop-set.store;
      served = running.served;
      leaves = running_failed c.args.limits.events p _ _ _ _ _ _ running c.turn_apart-apart.new.self c.turn_apart-apart.new.space new q turned.1
          (subst (λ text. FallsShort now new text) (c.as_slice.ensures.value ∙ c.in-Ok-serve_alone.ensures.piece) c.if-not-put.ensures);
      fits = λ w so. tt;
      full = tt;
    }

pub set_alone-requires-clause-read : goal.set_alone-requires-clause-read
set_alone-requires-clause-read g c = c.in-Assigns.ensures.read (published c.loop-set.store) c.loop-set.invariant.read c.loop-set.invariant.reached

pub set_alone-requires-clause-reached : goal.set_alone-requires-clause-reached
set_alone-requires-clause-reached g c = c.in-Assigns.ensures.ends_reach (Some (published c.loop-set.store)) c.loop-set.invariant.reached

pub returns-in-Err : goal.returns-in-Err
returns-in-Err g c =
    let p = c.args.prepared.now.program in
    let asks = c.in-Assigns.ensures in
    let running = c.loop-set.invariant.running in
    let q = asked_of c.turn_apart-apart.new.space (assignment_asked c.in-Assigns.set) in
    let limit = asks.limit ∙ c.loop-set.invariant.limit in
    record {
      exchanges = running.exchanges;
      store = c.loop-set.store;
      served = running.served;
      leaves = λ w so. (c.in-Err.ensures.refused.refused, running_stopped c.args.limits.events p _ _ _ _ _ _ running w so);
      fits = λ w so. tt;
      full = λ is. running_full c.args.limits.events p _ _ _ _ _ _ running c.args.limits.slots c.turn_apart-apart.new.self c.turn_apart-apart.new.space q asks.turned.1
          (subst (λ slots. AloneExceeds (context_of p) c.loop-set.store slots q c.turn_apart-apart.new.space) limit (c.in-Err.ensures.refused.full is));
    }

pub loop-set-preserved-in-Ok : goal.loop-set-preserved-in-Ok
loop-set-preserved-in-Ok g c =
    let p = c.args.prepared.now.program in
    let below = published c.loop-set.store in
    let asks = c.in-Assigns.ensures in
    let before = c.loop-set.invariant in
    let q = asked_of c.turn_apart-apart.new.space (assignment_asked c.in-Assigns.set) in
    let k = length c.set_alone.new.space.slots in
    let left = c.in-Ok.ensures.left in
    record {
      within = c.answer.ensures.within (reach k None) (within_more _ _ left.grows _ asks.within) (response_within k (Some below) _ left.reached);
      reached = c.answer.ensures.within (reach k (Some below)) (reached_more _ _ (Some below) left.grows _ (asks.reach (Some below) before.reached)) left.reached;
      read = left.read;
      limit = left.rest.limit ∙ asks.limit ∙ before.limit;
      running = rw c.answer.ensures.goes (running_silent c.args.limits.events p _ _ _ _ _ _ before.running c.turn_apart-apart.new.self c.turn_apart-apart.new.space c.set_alone.new.space q c.in-Ok.response asks.turned.1 c.in-Ok.ensures.replied c.set_alone.ensures.piece);
    }

pub set_alone-requires-in-Some-clause-read : goal.set_alone-requires-in-Some-clause-read
set_alone-requires-in-Some-clause-read g c = c.in-Other-Ok-Ask.ensures.read (published c.loop-set.store) c.loop-set.invariant.read c.loop-set.invariant.reached

pub set_alone-requires-in-Some-clause-reached : goal.set_alone-requires-in-Some-clause-reached
set_alone-requires-in-Some-clause-reached g c =
    let asked = rw c.in-Other-Ok-Ask.field-0-0-is at rw c.in-Other-Ok-Ask.field-0-is at (c.in-Other-Ok-Ask.ensures.ends_reach (Some (published c.loop-set.store)) c.loop-set.invariant.reached) in
    subst (IsRequestReached (reach (length c.turn_apart-apart.new.space.slots) (Some (published c.loop-set.store)))) c.in-Some.ensures asked

pub returns-in-Err-set_alone : goal.returns-in-Err-set_alone
returns-in-Err-set_alone g c =
    let p = c.args.prepared.now.program in
    let asks = c.in-Other-Ok-Ask.ensures in
    let running = c.loop-set.invariant.running in
    let turned = rw c.in-Some.ensures at (rw c.in-Other-Ok-Ask.field-0-0-is at rw c.in-Other-Ok-Ask.field-0-is at asks.turned) in
    let q = asked_of c.turn_apart-apart.new.space (Do (SetField c.in-Some.name) (Two c.in-Some.object c.in-Some.value)) in
    let limit = asks.limit ∙ c.loop-set.invariant.limit in
    record {
      exchanges = running.exchanges;
      store = c.loop-set.store;
      served = running.served;
      leaves = λ w so. (c.in-Err-set_alone.ensures.refused.refused, running_stopped c.args.limits.events p _ _ _ _ _ _ running w so);
      fits = λ w so. tt;
      full = λ is. running_full c.args.limits.events p _ _ _ _ _ _ running c.args.limits.slots c.turn_apart-apart.new.self c.turn_apart-apart.new.space q turned.1
          (subst (λ slots. AloneExceeds (context_of p) c.loop-set.store slots q c.turn_apart-apart.new.space) limit (c.in-Err-set_alone.ensures.refused.full is));
    }

pub loop-set-preserved-in-Some : goal.loop-set-preserved-in-Some
loop-set-preserved-in-Some g c =
    let p = c.args.prepared.now.program in
    let below = published c.loop-set.store in
    let asks = c.in-Other-Ok-Ask.ensures in
    let before = c.loop-set.invariant in
    let turned = rw c.in-Some.ensures at (rw c.in-Other-Ok-Ask.field-0-0-is at rw c.in-Other-Ok-Ask.field-0-is at asks.turned) in
    let q = asked_of c.turn_apart-apart.new.space (Do (SetField c.in-Some.name) (Two c.in-Some.object c.in-Some.value)) in
    let k = length c.set_alone-in-Some.new.space.slots in
    let left = c.in-Ok-set_alone.ensures.left in
    record {
      within = c.answer-in-Ok-set_alone.ensures.within (reach k None) (within_more _ _ left.grows _ asks.within) (response_within k (Some below) _ left.reached);
      reached = c.answer-in-Ok-set_alone.ensures.within (reach k (Some below)) (reached_more _ _ (Some below) left.grows _ (asks.reach (Some below) before.reached)) left.reached;
      read = left.read;
      limit = left.rest.limit ∙ asks.limit ∙ before.limit;
      running = rw c.answer-in-Ok-set_alone.ensures.goes (running_silent c.args.limits.events p _ _ _ _ _ _ before.running c.turn_apart-apart.new.self c.turn_apart-apart.new.space c.set_alone-in-Some.new.space q c.in-Ok-set_alone.response turned.1 c.in-Ok-set_alone.ensures.replied c.set_alone-in-Some.ensures.piece);
    }

pub call_alone-requires-clause-read : goal.call_alone-requires-clause-read
call_alone-requires-clause-read g c = c.in-Other-Ok-Ask.ensures.read (published c.loop-set.store) c.loop-set.invariant.read c.loop-set.invariant.reached

pub call_alone-requires-clause-reached : goal.call_alone-requires-clause-reached
call_alone-requires-clause-reached g c =
    let asked = rw c.in-Other-Ok-Ask.field-0-0-is at rw c.in-Other-Ok-Ask.field-0-is at (c.in-Other-Ok-Ask.ensures.ends_reach (Some (published c.loop-set.store)) c.loop-set.invariant.reached) in
    subst (IsRequestReached (reach (length c.turn_apart-apart.new.space.slots) (Some (published c.loop-set.store)))) c.in-Some-own_call.ensures.0 asked

pub returns-in-Err-call_alone : goal.returns-in-Err-call_alone
returns-in-Err-call_alone g c =
    let p = c.args.prepared.now.program in
    let asks = c.in-Other-Ok-Ask.ensures in
    let running = c.loop-set.invariant.running in
    let turned = rw c.in-Some-own_call.ensures.0 at (rw c.in-Other-Ok-Ask.field-0-0-is at rw c.in-Other-Ok-Ask.field-0-is at asks.turned) in
    let q = asked_of c.turn_apart-apart.new.space (Call c.in-Some-own_call.call.now) in
    let limit = asks.limit ∙ c.loop-set.invariant.limit in
    record {
      exchanges = running.exchanges;
      store = c.loop-set.store;
      served = running.served;
      leaves = λ w so. (c.in-Err-call_alone.ensures.refused.refused, running_stopped c.args.limits.events p _ _ _ _ _ _ running w so);
      fits = λ w so. tt;
      full = λ is. running_full c.args.limits.events p _ _ _ _ _ _ running c.args.limits.slots c.turn_apart-apart.new.self c.turn_apart-apart.new.space q turned.1
          (subst (λ slots. AloneExceeds (context_of p) c.loop-set.store slots q c.turn_apart-apart.new.space) limit (c.in-Err-call_alone.ensures.refused.full is));
    }

pub loop-set-preserved-in-Some-own_call : goal.loop-set-preserved-in-Some-own_call
loop-set-preserved-in-Some-own_call g c =
    let p = c.args.prepared.now.program in
    let below = published c.loop-set.store in
    let asks = c.in-Other-Ok-Ask.ensures in
    let before = c.loop-set.invariant in
    let turned = rw c.in-Some-own_call.ensures.0 at (rw c.in-Other-Ok-Ask.field-0-0-is at rw c.in-Other-Ok-Ask.field-0-is at asks.turned) in
    let q = asked_of c.turn_apart-apart.new.space (Call c.in-Some-own_call.call.now) in
    let k = length c.call_alone.new.space.slots in
    let left = c.in-Ok-call_alone.ensures.left in
    record {
      within = c.answer-in-Ok-call_alone.ensures.within (reach k None) (within_more _ _ left.grows _ asks.within) (response_within k (Some below) _ left.reached);
      reached = c.answer-in-Ok-call_alone.ensures.within (reach k (Some below)) (reached_more _ _ (Some below) left.grows _ (asks.reach (Some below) before.reached)) left.reached;
      read = left.read;
      limit = left.rest.limit ∙ asks.limit ∙ before.limit;
      running = rw c.answer-in-Ok-call_alone.ensures.goes (running_silent c.args.limits.events p _ _ _ _ _ _ before.running c.turn_apart-apart.new.self c.turn_apart-apart.new.space c.call_alone.new.space q c.in-Ok-call_alone.response turned.1 c.in-Ok-call_alone.ensures.replied c.call_alone.ensures.piece);
    }

pub loop-set-preserved : goal.loop-set-preserved
loop-set-preserved g c =
    let p = c.args.prepared.now.program in
    let old = published c.loop-set.store in
    let below = published c.serve_alone.new.store in
    let asks = c.in-Other-Ok-Ask.ensures in
    let before = c.loop-set.invariant in
    let turned = rw c.in-Other-Ok-Ask.field-0-0-is at rw c.in-Other-Ok-Ask.field-0-is at asks.turned in
    let now = written_to g.O.Output.contents g.O.Output.failures c.loop-set.output in
    let new = written_to g.O.Output.contents g.O.Output.failures c.put.new.output in
    let q = asked_of c.turn_apart-apart.new.space c.in-Other-Ok-Ask.request in
    let k = length c.serve_alone.new.space.slots in
    let left = c.in-Ok-serve_alone.ensures.left in
    let reached = reached_wider (length c.turn_apart-apart.new.space.slots) old below c.in-Ok-serve_alone.ensures.more _ (asks.reach (Some old) before.reached) in
    let wrote = subst (λ text. WritesAll now new text) (c.as_slice.ensures.value ∙ c.in-Ok-serve_alone.ensures.piece) c.if-not-put.ensures in
    record {
      within = c.answer-in-Ok-serve_alone.ensures.within (reach k None) (within_more _ _ left.grows _ asks.within) (response_within k (Some below) _ left.reached);
      reached = c.answer-in-Ok-serve_alone.ensures.within (reach k (Some below)) (reached_more _ _ (Some below) left.grows _ reached) left.reached;
      read = left.read;
      limit = left.rest.limit ∙ asks.limit ∙ before.limit;
      running = rw c.answer-in-Ok-serve_alone.ensures.goes (running_more c.args.limits.events p _ _ _ _ _ _ before.running c.turn_apart-apart.new.self c.turn_apart-apart.new.space c.serve_alone.new.space new q c.in-Ok-serve_alone.served.response c.serve_alone.new.store turned.1 c.in-Ok-serve_alone.ensures.replied wrote);
    }

pub returns-in-Other-Err : goal.returns-in-Other-Err
returns-in-Other-Err g c =
    let p = c.args.prepared.now.program in
    let running = c.loop-set.invariant.running in
    let turned = rw c.in-Other-Err.field-0-is at c.in-Other-Err.ensures.turned in
    let passes = rw c.in-Other-Err.field-0-is at c.in-Other-Err.ensures.full in
    record {
      exchanges = running.exchanges;
      store = c.loop-set.store;
      served = running.served;
      leaves = λ w so. (turned.0, running_stopped c.args.limits.events p _ _ _ _ _ _ running w so);
      fits = λ w so. tt;
      full = λ is. running_passes c.args.limits.events p _ _ _ _ _ _ running c.args.limits.slots (λ h adds. let more = passes h adds is in omega (arith, more, c.loop-set.invariant.limit));
    }

pub returns-in-Other-Ok-Raised : goal.returns-in-Other-Ok-Raised
returns-in-Other-Ok-Raised g c =
    let p = c.args.prepared.now.program in
    let turned = rw c.in-Other-Ok-Raised.field-0-0-is at rw c.in-Other-Ok-Raised.field-0-is at c.in-Other-Ok-Raised.ensures.turned in
    let running = c.loop-set.invariant.running in
    let v = c.in-Other-Ok-Raised.exception in
    let t = c.turn_apart-apart.new.space in
    let ended = c.raised.result in
    let now = written_to g.O.Output.contents g.O.Output.failures c.loop-set.output in
    let fits : length t.slots ≤ c.args.limits.slots = omega (arith, c.objects_fit.ensures, c.in-Other-Ok-Raised.ensures.limit, c.loop-set.invariant.limit) in
    record {
      exchanges = running.exchanges;
      store = c.loop-set.store;
      served = running.served;
      leaves = λ w so. raised_leaves (context_of p) _ now _ t v ended c.raised.ensures (λ told is. running_raised c.args.limits.events p _ _ _ _ _ _ running c.turn_apart-apart.new.self t v told turned.1 is w so) (running_stopped c.args.limits.events p _ _ _ _ _ _ running w so);
      fits = λ w so. raised_fits c.args.limits.slots _ ended (running_fits c.args.limits.events p _ _ _ _ _ _ running c.args.limits.slots _ turned.1 (λ h. fits) w so);
      full = raised_full (context_of p) c.args.limits.slots running.exchanges c.loop-set.store _ t v ended c.raised.ensures;
    }

pub returns-in-Other-Ok-Done : goal.returns-in-Other-Ok-Done
returns-in-Other-Ok-Done g c =
    let p = c.args.prepared.now.program in
    let turned = rw c.in-Other-Ok-Done.field-0-0-is at rw c.in-Other-Ok-Done.field-0-is at c.in-Other-Ok-Done.ensures.turned in
    let running = c.loop-set.invariant.running in
    let fits : length c.turn_apart-apart.new.space.slots ≤ c.args.limits.slots = omega (arith, c.objects_fit.ensures, c.in-Other-Ok-Done.ensures.limit, c.loop-set.invariant.limit) in
    record {
      exchanges = running.exchanges;
      store = c.loop-set.store;
      served = running.served;
      leaves = running_done c.args.limits.events p _ _ _ _ _ _ running c.turn_apart-apart.new.self c.turn_apart-apart.new.space _ turned.1;
      fits = running_fits c.args.limits.events p _ _ _ _ _ _ running c.args.limits.slots _ turned.1 (λ h. fits);
      full = tt;
    }

pub returns-in-Other-Ok-StepLimit : goal.returns-in-Other-Ok-StepLimit
returns-in-Other-Ok-StepLimit g c =
    let p = c.args.prepared.now.program in
    let turned = rw c.in-Other-Ok-StepLimit.field-0-0-is at rw c.in-Other-Ok-StepLimit.field-0-is at c.in-Other-Ok-StepLimit.ensures.turned in
    let running = c.loop-set.invariant.running in
    let fits : length c.turn_apart-apart.new.space.slots ≤ c.args.limits.slots = omega (arith, c.objects_fit.ensures, c.in-Other-Ok-StepLimit.ensures.limit, c.loop-set.invariant.limit) in
    record {
      exchanges = running.exchanges;
      store = c.loop-set.store;
      served = running.served;
      leaves = running_spent c.args.limits.events p _ _ _ _ _ _ running c.turn_apart-apart.new.self c.turn_apart-apart.new.space turned.2;
      fits = running_fits c.args.limits.events p _ _ _ _ _ _ running c.args.limits.slots _ turned.2 (λ h. fits);
      full = tt;
    }

pub put-requires : goal.put-requires
put-requires g c =
    let none : World = λ asked q t. None in
    let kept = (c.loop-set.invariant.running.wrote none).failed in
    omega (arith, kept, c.requires.room)
