-- A refused growth puts the frame back.
use Rattle.std.proofs.Common.{◌∙◌, ◌++◌, ◌∷◌, [], sym, ap, length, subst, None, Some}
use Rattle.rr_eval.specs.declared.problem.Answer.TheVariants.{Gave}
use Rattle.rr_eval.specs.Frames.{outcome_of}
use Rattle.rr_eval.specs.Runs.{no_objects}
use Rattle.rr_eval.specs.Turns.{code_of, state_of, remaining, remaining_with, IsNested}
use Rattle.rr_eval.specs.Views.{view_of}
use Rattle.rr_eval.specs.Within.{reach, AreReached, IsControlReached}
use Rattle.rr_eval.proofs.Holding.{with_frame, given_within}
use Rattle.rr_eval.proofs.Unwind.{frame_back, given, nested_push}
use Rattle.rr_eval.proofs.engine.Engine.give_object.Goals as goal

pub returns-in-Ok-clause-goes : goal.returns-in-Ok-clause-goes
returns-in-Ok-clause-goes c = λ h.
    let p = c.args.prepared.now.program in
    let t = c.args.space.now in
    c.in-Ok.ensures.goes h c.args.self.now.left
    ∙ ap (remaining_with p (view_of c.begin_object.new.self) t h) (sym c.begin_object.ensures.left)
    ∙ c.throw_begun.ensures.goes h

pub returns-in-Ok-clause-within : goal.returns-in-Ok-clause-within
returns-in-Ok-clause-within c clusters h frame =
    let k = reach (length c.args.space.now.slots) clusters in
    c.throw_begun.ensures.within clusters (c.begin_object.ensures.within clusters h (given_within k (view_of c.args.self.now) (Gave c.args.object) c.requires.control h))

pub returns-in-Err-clause-nested : goal.returns-in-Err-clause-nested
returns-in-Err-clause-nested c =
    let m = view_of c.args.self.now in
    let back = frame_back m (view_of c.begin_object.new.self) (no_objects 0) c.args.frame c.in-Err.fault c.push_within.new.items.items (c.in-Err.ensures.err (no_objects 0)) c.push_within.ensures in
    subst IsNested back (nested_push m.frames c.args.frame m.held c.requires.base c.requires.nested)

pub returns-in-Err-clause-within : goal.returns-in-Err-clause-within
returns-in-Err-clause-within c clusters h frame =
    let k = reach (length c.args.space.now.slots) clusters in
    let m = view_of c.args.self.now in
    let back = frame_back m (view_of c.begin_object.new.self) (no_objects 0) c.args.frame c.in-Err.fault c.push_within.new.items.items (c.in-Err.ensures.err (no_objects 0)) c.push_within.ensures in
    subst (AreReached k) back (with_frame k m c.args.frame m.control h frame (subst (IsControlReached k) (sym c.requires.control) (given_within k m (Gave c.args.object) c.requires.control h)))

pub returns-in-Err-clause-goes : goal.returns-in-Err-clause-goes
returns-in-Err-clause-goes c = λ h.
    let t = c.args.space.now in
    let p = c.args.prepared.now.program in
    let m = view_of c.args.self.now in
    let back = frame_back m (view_of c.begin_object.new.self) t c.args.frame c.in-Err.fault c.push_within.new.items.items (c.in-Err.ensures.err t) c.push_within.ensures in
    sym (given (code_of p h.world) m.frames c.args.frame m.held (Gave c.args.object) (state_of p m t h) m.left)
    ∙ ap (λ k. outcome_of (code_of p h.world) (m.frames ++ c.args.frame ∷ []) m.held k (state_of p m t h) m.left) (sym c.requires.control)
    ∙ ap (λ v. remaining p v t h) back

pub throw_begun-requires-clause-within : goal.throw_begun-requires-clause-within
throw_begun-requires-clause-within c =
    let k = reach (length c.args.space.now.slots) None in
    c.begin_object.ensures.within None c.requires.within (given_within k (view_of c.args.self.now) (Gave c.args.object) c.requires.control c.requires.within)

pub returns-in-Ok-clause-read : goal.returns-in-Ok-clause-read
returns-in-Ok-clause-read c below read h =
    let k = reach (length c.args.space.now.slots) (Some below) in
    c.throw_begun.ensures.read below read (c.begin_object.ensures.within (Some below) h (given_within k (view_of c.args.self.now) (Gave c.args.object) c.requires.control h))
