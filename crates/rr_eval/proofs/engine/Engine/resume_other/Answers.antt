-- A refused growth puts the frame back.
use Rattle.std.proofs.Common.{◌∙◌, ◌++◌, ◌∷◌, [], sym, ap, length, subst}
use Rattle.rr_eval.specs.declared.problem.Answer.TheVariants.{Gave}
use Rattle.rr_eval.specs.Frames.{outcome_of}
use Rattle.rr_eval.specs.Runs.{no_objects}
use Rattle.rr_eval.specs.Turns.{code_of, state_of, remaining, IsNested}
use Rattle.rr_eval.specs.Views.{view_of}
use Rattle.rr_eval.specs.Within.{reach, AreReached, IsControlReached}
use Rattle.rr_eval.proofs.Holding.{with_frame}
use Rattle.rr_eval.proofs.Unwind.{frame_back, given, nested_push}
use Rattle.rr_eval.proofs.engine.Engine.resume_other.Goals as goal

pub returns-in-Err-clause-nested : goal.returns-in-Err-clause-nested
returns-in-Err-clause-nested c =
    let m = view_of c.args.self.now in
    let back = frame_back m (view_of c.resume_value.new.self) (no_objects 0) c.args.frame c.in-Err.fault c.push_within.new.items.items (c.in-Err.ensures.err (no_objects 0)) c.push_within.ensures in
    subst IsNested back (nested_push m.frames c.args.frame m.held c.requires.base c.requires.nested)

pub returns-in-Err-clause-within : goal.returns-in-Err-clause-within
returns-in-Err-clause-within c clusters h frame value =
    let k = reach (length c.args.space.now.slots) clusters in
    let m = view_of c.args.self.now in
    let back = frame_back m (view_of c.resume_value.new.self) (no_objects 0) c.args.frame c.in-Err.fault c.push_within.new.items.items (c.in-Err.ensures.err (no_objects 0)) c.push_within.ensures in
    subst (AreReached k) back (with_frame k m c.args.frame m.control h frame (subst (IsControlReached k) (sym c.requires.control) value))

pub returns-in-Err-clause-back : goal.returns-in-Err-clause-back
returns-in-Err-clause-back c h =
    let t = c.args.space.now in
    let p = c.args.prepared.now.program in
    let m = view_of c.args.self.now in
    let back = frame_back m (view_of c.resume_value.new.self) t c.args.frame c.in-Err.fault c.push_within.new.items.items (c.in-Err.ensures.err t) c.push_within.ensures in
    sym (given (code_of p h.world) m.frames c.args.frame m.held (Gave c.args.value) (state_of p m t h) m.left)
    ∙ ap (λ k. outcome_of (code_of p h.world) (m.frames ++ c.args.frame ∷ []) m.held k (state_of p m t h) m.left) (sym c.requires.control)
    ∙ ap (λ v. remaining p v t h) back
