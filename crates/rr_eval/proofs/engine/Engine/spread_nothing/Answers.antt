-- A refused growth puts the frame back.
use Rattle.std.proofs.Common.{◌∙◌, ◌++◌, ◌∷◌, [], refl, sym, ap, length, subst}
use Rattle.rr_eval.specs.declared.frame.Frame.TheVariants.{Item}
use Rattle.rr_eval.specs.Runs.{no_objects}
use Rattle.rr_eval.specs.Turns.{remaining, IsNested}
use Rattle.rr_eval.specs.Views.{view_of}
use Rattle.rr_eval.specs.Within.{reach, AreReached, IsControlReached}
use Rattle.rr_eval.proofs.Holding.{with_frame}
use Rattle.rr_eval.proofs.Splatted.{put_back}
use Rattle.rr_eval.proofs.Unwind.{frame_back, nested_push}
use Rattle.rr_eval.proofs.engine.Engine.spread_nothing.Goals as goal

pub returns-in-Err-clause-nested : goal.returns-in-Err-clause-nested
returns-in-Err-clause-nested c =
    let m = view_of c.args.self.now in
    let f = Item c.args.target c.args.end 0 c.args.base in
    let back = frame_back m (view_of c.finish_nothing.new.self) (no_objects 0) f c.in-Err.fault c.push_within.new.items.items (c.in-Err.ensures.err (no_objects 0)) c.push_within.ensures in
    subst IsNested back (nested_push m.frames f m.held c.requires.base c.requires.nested)

pub returns-in-Err-clause-within : goal.returns-in-Err-clause-within
returns-in-Err-clause-within c clusters h value =
    let k = reach (length c.args.space.now.slots) clusters in
    let m = view_of c.args.self.now in
    let f = Item c.args.target c.args.end 0 c.args.base in
    let back = frame_back m (view_of c.finish_nothing.new.self) (no_objects 0) f c.in-Err.fault c.push_within.new.items.items (c.in-Err.ensures.err (no_objects 0)) c.push_within.ensures in
    subst (AreReached k) back (with_frame k m f m.control h tt (subst (IsControlReached k) (sym c.requires.control) value))

pub returns-in-Err-clause-back : goal.returns-in-Err-clause-back
returns-in-Err-clause-back c h =
    let p = c.args.prepared.now.program in
    let t = c.args.space.now in
    let m = view_of c.args.self.now in
    let f = Item c.args.target c.args.end 0 c.args.base in
    let back = frame_back m (view_of c.finish_nothing.new.self) t f c.in-Err.fault c.push_within.new.items.items (c.in-Err.ensures.err t) c.push_within.ensures in
    put_back p m t f c.args.value (m.frames ++ f ∷ []) h c.requires.control refl ∙ ap (λ v. remaining p v t h) back
