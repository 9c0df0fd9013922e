use Rattle.std.proofs.Common.{◌∙◌, List, [], Some, ap, arith, false}
use Rattle.std.proofs.lemmas.List.Elements.{All-nil, All-pop, All-same}
use Rattle.rr_space.specs.Parts.{value_of}
use Rattle.rr_space.specs.Tables.{graph_of, resolve}
use Rattle.rr_text.specs.Forms.{spelled}
use Rattle.rr_text.specs.Names.{names_of}
use Rattle.rr_text.specs.Ways.{way_of}
use Rattle.rr_text.specs.Reads.{IsAmong}
use Rattle.rr_text.specs.Frames.{whole_of, ahead}
use Rattle.rr_text.specs.declared.walk.Frame.{Frame}
use Rattle.rr_text.specs.declared.walk.Going.{Going}
use Rattle.rr_text.proofs.Turning.{starts, ends}
use Rattle.rr_text.proofs.walk.Walk.write.Goals as goal

pub loop-top-init : goal.loop-top-init
loop-top-init c = record {
  fit = c.in_ok-show.ensures.grown.fit;
  among = λ below read one.
      c.in_ok-show.ensures.among below read (All-same (λ (f : Frame). IsAmong below f.object) c.args.self.now.frames.items [] c.requires.none (All-nil (λ (f : Frame). IsAmong below f.object))) one;
  same = λ below read one.
      let names = names_of c.args.program.now in
      let g = graph_of c.args.space.now.slots below in
      starts names g (λ _. false) c.args.levels c.args.self.now.frames.items (spelled c.args.self.now.out.items) (way_of c.args.form) (resolve c.args.space.now.slots (value_of c.args.value)) c.requires.none
      ∙ c.in_ok-show.ensures.showed below read one
      ∙ ap (λ (r : Going). ahead names g (λ _. false) c.args.levels r c.show.new.self.frames.items (spelled c.show.new.self.out.items)) c.in-On.is;
}

pub loop-top-preserved : goal.loop-top-preserved
loop-top-preserved c = record {
  fit = c.in_ok-step.ensures.fit;
  among = λ below read one.
      let popped = All-pop (λ (f : Frame). IsAmong below f.object) c.loop-top.self.frames.items c.pop.new.self.items (Some c.in-Some.top) c.in-Some.ensures.items (c.loop-top.invariant.among below read one) in
      c.in_ok-step.ensures.among below read popped.0 popped.1;
  same = λ below read one.
      let names = names_of c.args.program.now in
      let g = graph_of c.args.space.now.slots below in
      let popped = All-pop (λ (f : Frame). IsAmong below f.object) c.loop-top.self.frames.items c.pop.new.self.items (Some c.in-Some.top) c.in-Some.ensures.items (c.loop-top.invariant.among below read one) in
      c.loop-top.invariant.same below read one
      ∙ ap (λ (xs : List Frame). whole_of names g (λ _. false) c.args.levels xs (spelled c.loop-top.self.out.items)) c.in-Some.ensures.items
      ∙ c.in_ok-step.ensures.stepped below read popped.1
      ∙ ap (λ (r : Going). ahead names g (λ _. false) c.args.levels r c.step.new.self.frames.items (spelled c.step.new.self.out.items)) c.in-On-2.is;
}

pub returns-in-Deep-clause-written : goal.returns-in-Deep-clause-written
returns-in-Deep-clause-written c = λ below read one.
    let names = names_of c.args.program.now in
    let g = graph_of c.args.space.now.slots below in
    starts names g (λ _. false) c.args.levels c.args.self.now.frames.items (spelled c.args.self.now.out.items) (way_of c.args.form) (resolve c.args.space.now.slots (value_of c.args.value)) c.requires.none
    ∙ c.in_ok-show.ensures.showed below read one
    ∙ ap (λ (r : Going). ahead names g (λ _. false) c.args.levels r c.show.new.self.frames.items (spelled c.show.new.self.out.items)) c.in-Deep.is

pub returns-in-Deep-2-clause-written : goal.returns-in-Deep-2-clause-written
returns-in-Deep-2-clause-written c = λ below read one.
    let names = names_of c.args.program.now in
    let g = graph_of c.args.space.now.slots below in
    let popped = All-pop (λ (f : Frame). IsAmong below f.object) c.loop-top.self.frames.items c.pop.new.self.items (Some c.in-Some.top) c.in-Some.ensures.items (c.loop-top.invariant.among below read one) in
    c.loop-top.invariant.same below read one
    ∙ ap (λ (xs : List Frame). whole_of names g (λ _. false) c.args.levels xs (spelled c.loop-top.self.out.items)) c.in-Some.ensures.items
    ∙ c.in_ok-step.ensures.stepped below read popped.1
    ∙ ap (λ (r : Going). ahead names g (λ _. false) c.args.levels r c.step.new.self.frames.items (spelled c.step.new.self.out.items)) c.in-Deep-2.is

pub returns-in-Shell-clause-written : goal.returns-in-Shell-clause-written
returns-in-Shell-clause-written c = λ below read one.
    let names = names_of c.args.program.now in
    let g = graph_of c.args.space.now.slots below in
    starts names g (λ _. false) c.args.levels c.args.self.now.frames.items (spelled c.args.self.now.out.items) (way_of c.args.form) (resolve c.args.space.now.slots (value_of c.args.value)) c.requires.none
    ∙ c.in_ok-show.ensures.showed below read one
    ∙ ap (λ (r : Going). ahead names g (λ _. false) c.args.levels r c.show.new.self.frames.items (spelled c.show.new.self.out.items)) c.in-Shell.is

pub returns-in-Shell-2-clause-written : goal.returns-in-Shell-2-clause-written
returns-in-Shell-2-clause-written c = λ below read one.
    let names = names_of c.args.program.now in
    let g = graph_of c.args.space.now.slots below in
    let popped = All-pop (λ (f : Frame). IsAmong below f.object) c.loop-top.self.frames.items c.pop.new.self.items (Some c.in-Some.top) c.in-Some.ensures.items (c.loop-top.invariant.among below read one) in
    c.loop-top.invariant.same below read one
    ∙ ap (λ (xs : List Frame). whole_of names g (λ _. false) c.args.levels xs (spelled c.loop-top.self.out.items)) c.in-Some.ensures.items
    ∙ c.in_ok-step.ensures.stepped below read popped.1
    ∙ ap (λ (r : Going). ahead names g (λ _. false) c.args.levels r c.step.new.self.frames.items (spelled c.step.new.self.out.items)) c.in-Shell-2.is

pub returns-clause-written : goal.returns-clause-written
returns-clause-written c = λ below read one.
    let names = names_of c.args.program.now in
    let g = graph_of c.args.space.now.slots below in
    c.loop-top.invariant.same below read one
    ∙ ends names g (λ _. false) c.args.levels c.loop-top.self.frames.items (spelled c.loop-top.self.out.items) (omega (arith, c.in_default.ensures.cases.0))
