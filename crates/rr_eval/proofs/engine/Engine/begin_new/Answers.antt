-- A new object is made for the frame that initializes it.
use Rattle.std.proofs.Common.{◌∙◌, ap, sym}
use Rattle.rr_eval.specs.declared.frame.Making.{Making}
use Rattle.rr_eval.specs.declared.frame.Control.TheVariants.{New}
use Rattle.rr_eval.specs.Frames.{outcome_of}
use Rattle.rr_eval.specs.Turns.{code_of, state_of}
use Rattle.rr_eval.specs.Views.{view_of}
use Rattle.rr_eval.proofs.Holding.{new_reached}
use Rattle.rr_eval.proofs.Unwind.{begins_new}
use Rattle.rr_eval.proofs.engine.Engine.begin_new.Goals as goal

pub returns-clause-goes : goal.returns-clause-goes
returns-clause-goes c p t h n =
    let m = view_of c.args.self.now in
    let code = code_of p h.world in
    let s = state_of p m t h in
    let x : Making = record { class = c.args.class; block = c.args.block; passing = c.args.passing; base = c.first_standing-base.result; raises = c.args.raises } in
    begins_new code m.frames x c.args.cause c.args.frame m.held c.hold_last.new.held.items c.args.last s n c.in_ok-hold_last.ensures.held c.first_standing-base.ensures.inside c.first_standing-base.ensures.stand c.first_standing-base.ensures.below
    ∙ ap (λ fs. outcome_of code fs c.hold_last.new.held.items (New c.args.class c.args.cause) s n) (sym c.push_within.ensures)

pub returns-clause-within : goal.returns-clause-within
returns-clause-within c k h cause last =
    let x : Making = record { class = c.args.class; block = c.args.block; passing = c.args.passing; base = c.first_standing-base.result; raises = c.args.raises } in
    new_reached k (view_of c.args.self.now) x c.args.cause _ _ c.args.last c.push_within.ensures c.in_ok-hold_last.ensures.held h cause last
