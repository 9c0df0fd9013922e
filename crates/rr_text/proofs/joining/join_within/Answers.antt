use Rattle.std.proofs.Common.{◌∙◌, List, [], Some, ap, sym, subst, arith, false}
use Rattle.std.proofs.lemmas.List.Elements.{All-nil, All-pop, All-same}
use Rattle.rr_space.specs.Parts.{value_of}
use Rattle.rr_space.specs.Tables.{graph_of, resolve}
use Rattle.rr_text.specs.Walk.{Wrote, Deep, Circular, Shell}
use Rattle.rr_text.specs.Names.{names_of}
use Rattle.rr_text.specs.Forms.{spelled}
use Rattle.rr_text.specs.Reads.{IsAmong}
use Rattle.rr_text.specs.Joining.{whole_of, ahead, IsEmptied}
use Rattle.rr_text.specs.declared.joining.Opened.{Opened}
use Rattle.rr_text.specs.declared.joining.Going.{Going}
use Rattle.rr_text.proofs.Spelling.{filled_spelled}
use Rattle.rr_text.proofs.Joins.{starts, ends, joined_is}
use Rattle.rr_text.proofs.joining.join_within.Goals as goal

pub loop-top-init : goal.loop-top-init
loop-top-init c = record {
  fit = c.in_ok-show.ensures.grown.fit;
  none = subst (λ (now : Going). IsEmptied now c.show.new.self.walk.frames.items) c.in-On.is c.in_ok-show.ensures.none;
  among = λ below read one.
      c.in_ok-show.ensures.among below (All-same (λ (f : Opened). IsAmong below f.array) c.new.result.items [] c.new.ensures.items (All-nil (λ (f : Opened). IsAmong below f.array))) one;
  same = λ below read one.
      let names = names_of c.args.program.now in
      let slots = c.args.space.now.slots in
      let g = graph_of slots below in
      starts names g (λ _. false) c.args.levels c.args.separator.now slots c.new.result.items (spelled c.new-2.result.out.items) (resolve slots (value_of c.args.array)) c.new.ensures.items (ap spelled c.new-2.ensures.out)
      ∙ c.in_ok-show.ensures.showed below c.args.separator.now read one
      ∙ ap (λ (now : Going). ahead names g (λ _. false) c.args.levels c.args.separator.now slots now c.show.new.self.arrays.items (spelled c.show.new.self.walk.out.items)) c.in-On.is;
}

pub loop-top-preserved : goal.loop-top-preserved
loop-top-preserved c = record {
  fit = c.in_ok-step.ensures.fit;
  none = subst (λ (now : Going). IsEmptied now c.step.new.self.walk.frames.items) c.in-On-2.is c.in_ok-step.ensures.none;
  among = λ below read one.
      let popped = All-pop (λ (f : Opened). IsAmong below f.array) c.loop-top.joining.arrays.items c.pop.new.self.items (Some c.in-Some.top) c.in-Some.ensures.items (c.loop-top.invariant.among below read one) in
      c.in_ok-step.ensures.among below read popped.0 popped.1;
  same = λ below read one.
      let names = names_of c.args.program.now in
      let slots = c.args.space.now.slots in
      let g = graph_of slots below in
      let popped = All-pop (λ (f : Opened). IsAmong below f.array) c.loop-top.joining.arrays.items c.pop.new.self.items (Some c.in-Some.top) c.in-Some.ensures.items (c.loop-top.invariant.among below read one) in
      c.loop-top.invariant.same below read one
      ∙ ap (λ (xs : List Opened). whole_of names g (λ _. false) c.args.levels c.args.separator.now slots xs (spelled c.loop-top.joining.walk.out.items)) c.in-Some.ensures.items
      ∙ c.in_ok-step.ensures.stepped below read popped.1
      ∙ ap (λ (now : Going). ahead names g (λ _. false) c.args.levels c.args.separator.now slots now c.step.new.self.arrays.items (spelled c.step.new.self.walk.out.items)) c.in-On-2.is;
}

pub returns-in-Deep-clause-is : goal.returns-in-Deep-clause-is
returns-in-Deep-clause-is c = λ below read one.
    let names = names_of c.args.program.now in
    let slots = c.args.space.now.slots in
    let g = graph_of slots below in
    joined_is names g c.args.levels c.args.separator.now (resolve slots (value_of c.args.array)) Deep
    (starts names g (λ _. false) c.args.levels c.args.separator.now slots c.new.result.items (spelled c.new-2.result.out.items) (resolve slots (value_of c.args.array)) c.new.ensures.items (ap spelled c.new-2.ensures.out)
    ∙ c.in_ok-show.ensures.showed below c.args.separator.now read one
    ∙ ap (λ (now : Going). ahead names g (λ _. false) c.args.levels c.args.separator.now slots now c.show.new.self.arrays.items (spelled c.show.new.self.walk.out.items)) c.in-Deep.is)

pub returns-in-Circular-clause-is : goal.returns-in-Circular-clause-is
returns-in-Circular-clause-is c = λ below read one.
    let names = names_of c.args.program.now in
    let slots = c.args.space.now.slots in
    let g = graph_of slots below in
    joined_is names g c.args.levels c.args.separator.now (resolve slots (value_of c.args.array)) Circular
    (starts names g (λ _. false) c.args.levels c.args.separator.now slots c.new.result.items (spelled c.new-2.result.out.items) (resolve slots (value_of c.args.array)) c.new.ensures.items (ap spelled c.new-2.ensures.out)
    ∙ c.in_ok-show.ensures.showed below c.args.separator.now read one
    ∙ ap (λ (now : Going). ahead names g (λ _. false) c.args.levels c.args.separator.now slots now c.show.new.self.arrays.items (spelled c.show.new.self.walk.out.items)) c.in-Circular.is)

pub returns-in-Shell-clause-is : goal.returns-in-Shell-clause-is
returns-in-Shell-clause-is c = λ below read one.
    let names = names_of c.args.program.now in
    let slots = c.args.space.now.slots in
    let g = graph_of slots below in
    joined_is names g c.args.levels c.args.separator.now (resolve slots (value_of c.args.array)) Shell
    (starts names g (λ _. false) c.args.levels c.args.separator.now slots c.new.result.items (spelled c.new-2.result.out.items) (resolve slots (value_of c.args.array)) c.new.ensures.items (ap spelled c.new-2.ensures.out)
    ∙ c.in_ok-show.ensures.showed below c.args.separator.now read one
    ∙ ap (λ (now : Going). ahead names g (λ _. false) c.args.levels c.args.separator.now slots now c.show.new.self.arrays.items (spelled c.show.new.self.walk.out.items)) c.in-Shell.is)

pub returns-in-Deep-2-clause-is : goal.returns-in-Deep-2-clause-is
returns-in-Deep-2-clause-is c = λ below read one.
    let names = names_of c.args.program.now in
    let slots = c.args.space.now.slots in
    let g = graph_of slots below in
    let popped = All-pop (λ (f : Opened). IsAmong below f.array) c.loop-top.joining.arrays.items c.pop.new.self.items (Some c.in-Some.top) c.in-Some.ensures.items (c.loop-top.invariant.among below read one) in
    joined_is names g c.args.levels c.args.separator.now (resolve slots (value_of c.args.array)) Deep
    (c.loop-top.invariant.same below read one
    ∙ ap (λ (xs : List Opened). whole_of names g (λ _. false) c.args.levels c.args.separator.now slots xs (spelled c.loop-top.joining.walk.out.items)) c.in-Some.ensures.items
    ∙ c.in_ok-step.ensures.stepped below read popped.1
    ∙ ap (λ (now : Going). ahead names g (λ _. false) c.args.levels c.args.separator.now slots now c.step.new.self.arrays.items (spelled c.step.new.self.walk.out.items)) c.in-Deep-2.is)

pub returns-in-Circular-2-clause-is : goal.returns-in-Circular-2-clause-is
returns-in-Circular-2-clause-is c = λ below read one.
    let names = names_of c.args.program.now in
    let slots = c.args.space.now.slots in
    let g = graph_of slots below in
    let popped = All-pop (λ (f : Opened). IsAmong below f.array) c.loop-top.joining.arrays.items c.pop.new.self.items (Some c.in-Some.top) c.in-Some.ensures.items (c.loop-top.invariant.among below read one) in
    joined_is names g c.args.levels c.args.separator.now (resolve slots (value_of c.args.array)) Circular
    (c.loop-top.invariant.same below read one
    ∙ ap (λ (xs : List Opened). whole_of names g (λ _. false) c.args.levels c.args.separator.now slots xs (spelled c.loop-top.joining.walk.out.items)) c.in-Some.ensures.items
    ∙ c.in_ok-step.ensures.stepped below read popped.1
    ∙ ap (λ (now : Going). ahead names g (λ _. false) c.args.levels c.args.separator.now slots now c.step.new.self.arrays.items (spelled c.step.new.self.walk.out.items)) c.in-Circular-2.is)

pub returns-in-Shell-2-clause-is : goal.returns-in-Shell-2-clause-is
returns-in-Shell-2-clause-is c = λ below read one.
    let names = names_of c.args.program.now in
    let slots = c.args.space.now.slots in
    let g = graph_of slots below in
    let popped = All-pop (λ (f : Opened). IsAmong below f.array) c.loop-top.joining.arrays.items c.pop.new.self.items (Some c.in-Some.top) c.in-Some.ensures.items (c.loop-top.invariant.among below read one) in
    joined_is names g c.args.levels c.args.separator.now (resolve slots (value_of c.args.array)) Shell
    (c.loop-top.invariant.same below read one
    ∙ ap (λ (xs : List Opened). whole_of names g (λ _. false) c.args.levels c.args.separator.now slots xs (spelled c.loop-top.joining.walk.out.items)) c.in-Some.ensures.items
    ∙ c.in_ok-step.ensures.stepped below read popped.1
    ∙ ap (λ (now : Going). ahead names g (λ _. false) c.args.levels c.args.separator.now slots now c.step.new.self.arrays.items (spelled c.step.new.self.walk.out.items)) c.in-Shell-2.is)

pub returns-clause-is : goal.returns-clause-is
returns-clause-is c = λ below read one.
    let names = names_of c.args.program.now in
    let slots = c.args.space.now.slots in
    let g = graph_of slots below in
    ap Wrote (sym (filled_spelled c.loop-top.joining.walk.out.items []))
    ∙ joined_is names g c.args.levels c.args.separator.now (resolve slots (value_of c.args.array)) (Wrote (spelled c.loop-top.joining.walk.out.items))
    (c.loop-top.invariant.same below read one
    ∙ ends names g (λ _. false) c.args.levels c.args.separator.now slots c.loop-top.joining.arrays.items (spelled c.loop-top.joining.walk.out.items)
    (omega (arith, c.in_default.ensures.cases.0)))
