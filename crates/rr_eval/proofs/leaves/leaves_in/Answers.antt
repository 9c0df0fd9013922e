-- The walk begins with the value, and goes on with the array on top.
use Rattle.std.proofs.Common.{◌∙◌, [], Some, length, ap, sym, arith}
use Rattle.std.proofs.lemmas.List.Elements.{All-nil, All-pop, All-same}
use Rattle.rr_eval.specs.Leaves.{whole_of, ahead, IsItemReached}
use Rattle.rr_eval.specs.Within.{reach, IsReached}
use Rattle.rr_eval.specs.declared.leaves.Going.{Going}
use Rattle.rr_eval.specs.declared.leaves.Opened.{Opened}
use Rattle.rr_eval.proofs.Inside.{one_reached, starts, ends}
use Rattle.rr_eval.proofs.leaves.leaves_in.Goals as goal

pub loop-top-init : goal.loop-top-init
loop-top-init c = record {
  fit = c.in_ok-show.ensures.grown.fit;
  same =
      starts c.args.how c.args.space.now c.args.levels c.new.result.items c.new-2.result.items c.args.value c.new.ensures.items c.new-2.ensures.items
      ∙ c.in_ok-show.ensures.showed
      ∙ ap (λ (now : Going). ahead c.args.how c.args.space.now c.args.levels now c.show.new.self.arrays.items c.show.new.self.found.items) c.in-On.is;
  opened = λ clusters one.
      let k = reach (length c.args.space.now.slots) clusters in
      c.in_ok-show.ensures.opened k (All-same (λ (f : Opened). IsReached k f.array) c.new.result.items [] c.new.ensures.items (All-nil (λ (f : Opened). IsReached k f.array))) (one_reached k c.args.value one);
  found = λ clusters one.
      let k = reach (length c.args.space.now.slots) clusters in
      c.in_ok-show.ensures.found k (All-same (IsItemReached k) c.new-2.result.items [] c.new-2.ensures.items (All-nil (IsItemReached k))) (one_reached k c.args.value one);
}

pub loop-top-preserved : goal.loop-top-preserved
loop-top-preserved c = record {
  fit = c.in_ok-step.ensures.fit;
  same =
      c.loop-top.invariant.same
      ∙ ap (λ xs. whole_of c.args.how c.args.space.now c.args.levels xs c.loop-top.leaves.found.items) c.in-Some.ensures.items
      ∙ c.in_ok-step.ensures.stepped
      ∙ ap (λ (now : Going). ahead c.args.how c.args.space.now c.args.levels now c.step.new.self.arrays.items c.step.new.self.found.items) c.in-On-2.is;
  opened = λ clusters one.
      let k = reach (length c.args.space.now.slots) clusters in
      let popped = All-pop (λ (f : Opened). IsReached k f.array) c.loop-top.leaves.arrays.items c.pop.new.self.items (Some c.in-Some.top) c.in-Some.ensures.items (c.loop-top.invariant.opened clusters one) in
      c.in_ok-step.ensures.opened clusters popped.0 popped.1;
  found = λ clusters one. c.in_ok-step.ensures.found clusters (c.loop-top.invariant.found clusters one);
}

pub returns-in-Deep-clause-are : goal.returns-in-Deep-clause-are
returns-in-Deep-clause-are c =
    sym (starts c.args.how c.args.space.now c.args.levels c.new.result.items c.new-2.result.items c.args.value c.new.ensures.items c.new-2.ensures.items
    ∙ c.in_ok-show.ensures.showed
    ∙ ap (λ (now : Going). ahead c.args.how c.args.space.now c.args.levels now c.show.new.self.arrays.items c.show.new.self.found.items) c.in-Deep.is)

pub returns-in-Circular-clause-are : goal.returns-in-Circular-clause-are
returns-in-Circular-clause-are c =
    sym (starts c.args.how c.args.space.now c.args.levels c.new.result.items c.new-2.result.items c.args.value c.new.ensures.items c.new-2.ensures.items
    ∙ c.in_ok-show.ensures.showed
    ∙ ap (λ (now : Going). ahead c.args.how c.args.space.now c.args.levels now c.show.new.self.arrays.items c.show.new.self.found.items) c.in-Circular.is)

pub returns-in-Deep-2-clause-are : goal.returns-in-Deep-2-clause-are
returns-in-Deep-2-clause-are c =
    sym (c.loop-top.invariant.same
    ∙ ap (λ xs. whole_of c.args.how c.args.space.now c.args.levels xs c.loop-top.leaves.found.items) c.in-Some.ensures.items
    ∙ c.in_ok-step.ensures.stepped
    ∙ ap (λ (now : Going). ahead c.args.how c.args.space.now c.args.levels now c.step.new.self.arrays.items c.step.new.self.found.items) c.in-Deep-2.is)

pub returns-in-Circular-2-clause-are : goal.returns-in-Circular-2-clause-are
returns-in-Circular-2-clause-are c =
    sym (c.loop-top.invariant.same
    ∙ ap (λ xs. whole_of c.args.how c.args.space.now c.args.levels xs c.loop-top.leaves.found.items) c.in-Some.ensures.items
    ∙ c.in_ok-step.ensures.stepped
    ∙ ap (λ (now : Going). ahead c.args.how c.args.space.now c.args.levels now c.step.new.self.arrays.items c.step.new.self.found.items) c.in-Circular-2.is)

pub returns-clause-are : goal.returns-clause-are
returns-clause-are c =
    sym (c.loop-top.invariant.same
    ∙ ends c.args.how c.args.space.now c.args.levels c.loop-top.leaves.arrays.items c.loop-top.leaves.found.items (omega (arith, c.in_default.ensures.cases.0)))
