use Rattle.std.proofs.Common.{◌+◌, ◌<◌, ◌++◌, ◌∷◌, [], List, sym, ap, ◌∙◌, subst, take, get_or, length, length-append, arith}
use Rattle.std.proofs.lemmas.List.{take_more}
use Rattle.rr_world.specs.Runs.{IsRun}
use Rattle.rr_world.specs.declared.step.Step.{Step}
use Rattle.rr_world.specs.declared.step.Action.TheVariants.{Alloc}
use Rattle.rr_world.specs.declared.step.NewObject.TheVariants.{Text}
use Rattle.rr_world.specs.declared.step.Reply.{Reply}
use Rattle.rr_world.proofs.Chains.{run_on}
use Rattle.rr_world.proofs.world.World.run_steps.Goals as goal

pub loop-step-preserved : goal.loop-step-preserved
loop-step-preserved c =
    let steps = c.args.steps.now in
    let i = c.loop-step.step-index in
    let blank : Step = record { who = record { 0 = 0 }; action = Alloc Text } in
    let lt : i < length steps = omega arith in
    let r = run_on c.args.self.now c.loop-step.self c.step-reply.new.self (take i steps) c.loop-step.replies.items (get_or steps i blank) c.step-reply.result
    c.loop-step.invariant.run c.step-reply.ensures.step in
    let more = subst (λ (xs : List Step). IsRun xs (c.loop-step.replies.items ++ c.step-reply.result ∷ []) c.args.self.now c.step-reply.new.self) (sym (take_more steps i blank lt)) r in
    record {
      run = subst (λ (rs : List Reply). IsRun (take (i + 1) steps) rs c.args.self.now c.step-reply.new.self) (sym c.push_reserved.ensures.items) more;
      count = ap length c.push_reserved.ensures.items ∙ length-append c.loop-step.replies.items (c.step-reply.result ∷ []) ∙ ap (λ n. n + 1) c.loop-step.invariant.count;
      room = omega (arith, c.push_reserved.ensures.capacity, c.loop-step.invariant.room);
    }
