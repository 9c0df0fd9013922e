use Rattle.std.proofs.Common.{◌∙◌, List, [], Some, ap, sym}
use Rattle.std.proofs.lemmas.List.Elements.{All-nil, All-pop, All-same}
use Rattle.rr_text.specs.Comparing.{same_pair, look_pair}
use Rattle.rr_text.specs.Rest.{whole}
use Rattle.rr_text.specs.Keys.{reading}
use Rattle.rr_text.specs.Beside.{resolved, begun_of, AreSidesAmong, ahead}
use Rattle.rr_text.specs.declared.beside.Sides.{Sides}
use Rattle.rr_text.specs.declared.sight.Compared.{Compared}
use Rattle.rr_text.specs.declared.comparing.Beside.{Beside}
use Rattle.rr_text.proofs.Compares.{starts}
use Rattle.rr_text.proofs.comparing.compare_within.Goals as goal

pub returns-in-Differs-clause-is : goal.returns-in-Differs-clause-is
returns-in-Differs-clause-is c = λ below read al ar.
    let slots = c.args.space.now.slots in
    let r = reading c.args.space.now below in
    let s : Sides = record { left = c.args.left; right = c.args.right } in
    sym (starts slots r c.args.levels c.new-frames.result.items (resolved slots s) c.new-frames.ensures.items ∙ c.in_ok-show.ensures.showed below read al ar
    ∙ ap (λ (now : Compared). ahead r slots c.args.levels now c.show.new.frames.items) c.in-Differs.is)

pub returns-in-Deep-clause-is : goal.returns-in-Deep-clause-is
returns-in-Deep-clause-is c = λ below read al ar.
    let slots = c.args.space.now.slots in
    let r = reading c.args.space.now below in
    let s : Sides = record { left = c.args.left; right = c.args.right } in
    sym (starts slots r c.args.levels c.new-frames.result.items (resolved slots s) c.new-frames.ensures.items ∙ c.in_ok-show.ensures.showed below read al ar
    ∙ ap (λ (now : Compared). ahead r slots c.args.levels now c.show.new.frames.items) c.in-Deep.is)

pub returns-in-Shell-clause-is : goal.returns-in-Shell-clause-is
returns-in-Shell-clause-is c = λ below read al ar.
    let slots = c.args.space.now.slots in
    let r = reading c.args.space.now below in
    let s : Sides = record { left = c.args.left; right = c.args.right } in
    sym (starts slots r c.args.levels c.new-frames.result.items (resolved slots s) c.new-frames.ensures.items ∙ c.in_ok-show.ensures.showed below read al ar
    ∙ ap (λ (now : Compared). ahead r slots c.args.levels now c.show.new.frames.items) c.in-Shell.is)

pub returns-in-Differs-2-clause-is : goal.returns-in-Differs-2-clause-is
returns-in-Differs-2-clause-is c = λ below read al ar.
    let slots = c.args.space.now.slots in
    let r = reading c.args.space.now below in
    let popped = All-pop (λ (f : Beside). AreSidesAmong below f.sides.items) c.loop-top.frames.items c.pop.new.self.items (Some c.in-Some.top) c.in-Some.ensures.items (c.loop-top.invariant.among below read al ar) in
    sym (c.loop-top.invariant.same below read al ar
    ∙ ap (λ (xs : List Beside). whole (look_pair r) same_pair (begun_of slots) c.args.levels xs []) c.in-Some.ensures.items
    ∙ c.in_ok-step.ensures.stepped below read popped.1
    ∙ ap (λ (now : Compared). ahead r slots c.args.levels now c.step.new.frames.items) c.in-Differs-2.is)

pub returns-in-Deep-2-clause-is : goal.returns-in-Deep-2-clause-is
returns-in-Deep-2-clause-is c = λ below read al ar.
    let slots = c.args.space.now.slots in
    let r = reading c.args.space.now below in
    let popped = All-pop (λ (f : Beside). AreSidesAmong below f.sides.items) c.loop-top.frames.items c.pop.new.self.items (Some c.in-Some.top) c.in-Some.ensures.items (c.loop-top.invariant.among below read al ar) in
    sym (c.loop-top.invariant.same below read al ar
    ∙ ap (λ (xs : List Beside). whole (look_pair r) same_pair (begun_of slots) c.args.levels xs []) c.in-Some.ensures.items
    ∙ c.in_ok-step.ensures.stepped below read popped.1
    ∙ ap (λ (now : Compared). ahead r slots c.args.levels now c.step.new.frames.items) c.in-Deep-2.is)

pub returns-in-Shell-2-clause-is : goal.returns-in-Shell-2-clause-is
returns-in-Shell-2-clause-is c = λ below read al ar.
    let slots = c.args.space.now.slots in
    let r = reading c.args.space.now below in
    let popped = All-pop (λ (f : Beside). AreSidesAmong below f.sides.items) c.loop-top.frames.items c.pop.new.self.items (Some c.in-Some.top) c.in-Some.ensures.items (c.loop-top.invariant.among below read al ar) in
    sym (c.loop-top.invariant.same below read al ar
    ∙ ap (λ (xs : List Beside). whole (look_pair r) same_pair (begun_of slots) c.args.levels xs []) c.in-Some.ensures.items
    ∙ c.in_ok-step.ensures.stepped below read popped.1
    ∙ ap (λ (now : Compared). ahead r slots c.args.levels now c.step.new.frames.items) c.in-Shell-2.is)

pub loop-top-init : goal.loop-top-init
loop-top-init c = record {
  fit = c.in_ok-show.ensures.grown.fit;
  among = λ below read al ar.
      c.in_ok-show.ensures.among below read (All-same (λ (f : Beside). AreSidesAmong below f.sides.items) c.new-frames.result.items [] c.new-frames.ensures.items (All-nil (λ (f : Beside). AreSidesAmong below f.sides.items))) al ar;
  same = λ below read al ar.
      let slots = c.args.space.now.slots in
      let r = reading c.args.space.now below in
      let s : Sides = record { left = c.args.left; right = c.args.right } in
      starts slots r c.args.levels c.new-frames.result.items (resolved slots s) c.new-frames.ensures.items ∙ c.in_ok-show.ensures.showed below read al ar
      ∙ ap (λ (now : Compared). ahead r slots c.args.levels now c.show.new.frames.items) c.in-Same.is;
}

pub loop-top-preserved : goal.loop-top-preserved
loop-top-preserved c = record {
  fit = c.in_ok-step.ensures.fit;
  among = λ below read al ar.
      let popped = All-pop (λ (f : Beside). AreSidesAmong below f.sides.items) c.loop-top.frames.items c.pop.new.self.items (Some c.in-Some.top) c.in-Some.ensures.items (c.loop-top.invariant.among below read al ar) in
      c.in_ok-step.ensures.among below read popped.0 popped.1;
  same = λ below read al ar.
      let slots = c.args.space.now.slots in
      let r = reading c.args.space.now below in
      let popped = All-pop (λ (f : Beside). AreSidesAmong below f.sides.items) c.loop-top.frames.items c.pop.new.self.items (Some c.in-Some.top) c.in-Some.ensures.items (c.loop-top.invariant.among below read al ar) in
      c.loop-top.invariant.same below read al ar
      ∙ ap (λ (xs : List Beside). whole (look_pair r) same_pair (begun_of slots) c.args.levels xs []) c.in-Some.ensures.items
      ∙ c.in_ok-step.ensures.stepped below read popped.1
      ∙ ap (λ (now : Compared). ahead r slots c.args.levels now c.step.new.frames.items) c.in-Same-2.is;
}
