-- The array is reached, or would be one too many.
use Rattle.std.proofs.Common.{◌≡◌, [], ◌∷◌, None, Some, ap, length, subst, sym}
use Rattle.rr_eval.specs.declared.problem.Answer.TheVariants.{Gave}
use Rattle.rr_eval.specs.Acts.{Passes}
use Rattle.rr_eval.specs.Frames.{outcome_of}
use Rattle.rr_eval.specs.Pairs.{paired}
use Rattle.rr_eval.specs.Script.{Ret, objects_of}
use Rattle.rr_eval.specs.Turns.{code_of, state_of, remaining, after_script}
use Rattle.rr_eval.specs.Views.{view_of}
use Rattle.rr_eval.specs.Within.{reach}
use Rattle.rr_eval.proofs.Holding.{ref_among, ref_within}
use Rattle.rr_eval.proofs.Changing.{changes_trans}
use Rattle.rr_eval.proofs.NewObjects.{new_given, waiting_reached}
use Rattle.rr_eval.proofs.PairArrays.{both_more, both_reached, paired_passes}
use Rattle.rr_eval.proofs.engine.Engine.make_pair.Goals as goal

pub make_both-requires : goal.make_both-requires
make_both-requires c =
    let k = length c.args.space.now.slots in
    let both = both_reached (reach k None) (view_of c.args.self.now) c.args.first c.args.last c.requires.control c.requires.within in
    record { first = ref_within k None c.args.first both.0; last = ref_within k None c.args.last both.1 }

pub give_object-requires-clause-within : goal.give_object-requires-clause-within
give_object-requires-clause-within c =
    let t = c.args.space.now in
    let u = c.make_both.new.space in
    let lt = both_more c.args.first c.args.last t u c.in-Ok.ensures.made in
    new_given (length t.slots) (length u.slots) None (view_of c.args.self.now) c.pop.new.self.items (c.in-Some.frame ∷ []) c.in-Ok.array lt c.in-Some.ensures.items c.in-Ok.ensures.name c.requires.within

pub returns-in-Some-clause-within : goal.returns-in-Some-clause-within
returns-in-Some-clause-within c clusters h =
    let t = c.args.space.now in
    let u = c.make_both.new.space in
    let m = view_of c.args.self.now in
    let lt = both_more c.args.first c.args.last t u c.in-Ok.ensures.made in
    c.give_object.ensures.within clusters
    (new_given (length t.slots) (length u.slots) clusters m c.pop.new.self.items (c.in-Some.frame ∷ []) c.in-Ok.array lt c.in-Some.ensures.items c.in-Ok.ensures.name h)
    (waiting_reached (length t.slots) (length u.slots) clusters m c.pop.new.self.items c.in-Some.frame lt c.in-Some.ensures.items h)

pub returns-in-Some-clause-read : goal.returns-in-Some-clause-read
returns-in-Some-clause-read c below read h =
    let t = c.args.space.now in
    let u = c.make_both.new.space in
    let lt = both_more c.args.first c.args.last t u c.in-Ok.ensures.made in
    let k = length t.slots in
    let both = both_reached (reach k (Some below)) (view_of c.args.self.now) c.args.first c.args.last c.requires.control h in
    c.give_object.ensures.read below (c.in-Ok.ensures.read below read (ref_among k below c.args.first both.0) (ref_among k below c.args.last both.1))
    (new_given (length t.slots) (length u.slots) (Some below) (view_of c.args.self.now) c.pop.new.self.items (c.in-Some.frame ∷ []) c.in-Ok.array lt c.in-Some.ensures.items c.in-Ok.ensures.name h)

pub returns-in-Some-clause-changed : goal.returns-in-Some-clause-changed
returns-in-Some-clause-changed c = changes_trans c.args.space.now c.make_both.new.space c.give_object.new.space c.in-Ok.ensures.changed c.give_object.ensures.changed

pub returns-in-None-clause-within : goal.returns-in-None-clause-within
returns-in-None-clause-within c clusters h =
    let t = c.args.space.now in
    let u = c.make_both.new.space in
    let lt = both_more c.args.first c.args.last t u c.in-Ok.ensures.made in
    new_given (length t.slots) (length u.slots) clusters (view_of c.args.self.now) c.pop.new.self.items [] c.in-Ok.array lt c.in-None.ensures.items c.in-Ok.ensures.name h

pub returns-in-None-clause-read : goal.returns-in-None-clause-read
returns-in-None-clause-read c below read h =
    let k = length c.args.space.now.slots in
    let both = both_reached (reach k (Some below)) (view_of c.args.self.now) c.args.first c.args.last c.requires.control h in
    c.in-Ok.ensures.read below read (ref_among k below c.args.first both.0) (ref_among k below c.args.last both.1)

pub returns-in-Err-clause-full : goal.returns-in-Err-clause-full
returns-in-Err-clause-full c = λ h adds.
    let p = c.args.prepared.now.program in
    let m = view_of c.args.self.now in
    let t = c.args.space.now in
    let f = c.in-Err.fault in
    let at : remaining p m t h ≡ after_script p m t (paired c.args.first c.args.last (λ a. Ret (Gave a))) h m.left = ap (λ k. outcome_of (code_of p h.world) m.frames m.held k (state_of p m t h) m.left) c.requires.control in
    subst (λ o. Passes f t.limit (objects_of o)) (sym at) (paired_passes p m t c.args.first c.args.last f h m.left adds c.in-Err.ensures.full)
