-- The new object is reached, or would be one too many.
use Rattle.std.proofs.Common.{◌≡◌, [], None, Some, ap, length, subst, sym}
use Rattle.std.proofs.lemmas.List.{append-nil}
use Rattle.rr_eval.specs.declared.problem.Answer.TheVariants.{Gave}
use Rattle.rr_eval.specs.Acts.{Passes}
use Rattle.rr_eval.specs.Dispatch.{making}
use Rattle.rr_eval.specs.Frames.{outcome_of}
use Rattle.rr_eval.specs.Script.{Ret, objects_of}
use Rattle.rr_eval.specs.Turns.{context_of, code_of, state_of, remaining, after_script}
use Rattle.rr_eval.specs.Views.{view_of}
use Rattle.rr_eval.specs.Within.{reach}
use Rattle.rr_eval.proofs.Holding.{ref_among, ref_within}
use Rattle.rr_eval.proofs.Changing.{changes_trans}
use Rattle.rr_eval.proofs.NewObjects.{cause_reached, making_passes, new_more, new_given}
use Rattle.rr_eval.proofs.engine.Engine.make_new.Goals as goal

pub make_object-requires : goal.make_object-requires
make_object-requires c =
    let k = length c.args.space.now.slots in
    record { cause = ref_within k None c.args.cause (cause_reached (reach k None) (view_of c.args.self.now) c.args.class c.args.cause c.requires.control c.requires.within) }

pub give_new-requires-clause-within : goal.give_new-requires-clause-within
give_new-requires-clause-within c =
    let t = c.args.space.now in
    let u = c.make_object.new.space in
    let lt = new_more (context_of c.args.prepared.now.program) c.args.class c.args.cause t u c.in-Ok.ensures.made in
    let m = view_of c.args.self.now in
    new_given (length t.slots) (length u.slots) None m m.frames [] c.in-Ok.object lt (sym (append-nil m.frames)) c.in-Ok.ensures.name c.requires.within

pub returns-clause-within : goal.returns-clause-within
returns-clause-within c clusters h =
    let t = c.args.space.now in
    let u = c.make_object.new.space in
    let m = view_of c.args.self.now in
    let lt = new_more (context_of c.args.prepared.now.program) c.args.class c.args.cause t u c.in-Ok.ensures.made in
    c.give_new.ensures.within clusters (new_given (length t.slots) (length u.slots) clusters m m.frames [] c.in-Ok.object lt (sym (append-nil m.frames)) c.in-Ok.ensures.name h)

pub returns-clause-read : goal.returns-clause-read
returns-clause-read c below read h =
    let t = c.args.space.now in
    let u = c.make_object.new.space in
    let m = view_of c.args.self.now in
    let lt = new_more (context_of c.args.prepared.now.program) c.args.class c.args.cause t u c.in-Ok.ensures.made in
    let k = length t.slots in
    c.give_new.ensures.read below (c.in-Ok.ensures.read below read (ref_among k below c.args.cause (cause_reached (reach k (Some below)) m c.args.class c.args.cause c.requires.control h)))
    (new_given k (length u.slots) (Some below) m m.frames [] c.in-Ok.object lt (sym (append-nil m.frames)) c.in-Ok.ensures.name h)

pub returns-clause-changed : goal.returns-clause-changed
returns-clause-changed c = changes_trans c.args.space.now c.make_object.new.space c.give_new.new.space c.in-Ok.ensures.changed c.give_new.ensures.changed

pub returns-in-Err-clause-full : goal.returns-in-Err-clause-full
returns-in-Err-clause-full c = λ h adds.
    let p = c.args.prepared.now.program in
    let m = view_of c.args.self.now in
    let t = c.args.space.now in
    let f = c.in-Err.fault in
    let at : remaining p m t h ≡ after_script p m t (making (context_of p) c.args.class c.args.cause (λ v. Ret (Gave v))) h m.left = ap (λ k. outcome_of (code_of p h.world) m.frames m.held k (state_of p m t h) m.left) c.requires.control in
    subst (λ o. Passes f t.limit (objects_of o)) (sym at) (making_passes p m t c.args.class c.args.cause f h m.left adds c.in-Err.ensures.full)
