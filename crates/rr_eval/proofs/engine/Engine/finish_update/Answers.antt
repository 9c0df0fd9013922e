-- What is assigned to is read, over its receiver and its index.
use Rattle.std.proofs.Common.{◌∙◌, ap, sym, refl, subst, reverse, take, ◌++◌, ◌∷◌, []}
use Rattle.std.proofs.lemmas.List.{take-append-le}
use Rattle.rr_eval.specs.declared.updating.Place.TheVariants.{Sent}
use Rattle.rr_eval.specs.declared.updating.Updating.{Updating}
use Rattle.rr_eval.specs.Frames.{Nested}
use Rattle.rr_eval.specs.Turns.{state_of}
use Rattle.rr_eval.specs.Views.{view_of}
use Rattle.rr_eval.proofs.Holding.{held_reached, with_value}
use Rattle.rr_eval.proofs.Updates.{reads_over}
use Rattle.rr_eval.proofs.engine.Engine.finish_update.Goals as goal

pub send_over-requires-clause-nested : goal.send_over-requires-clause-nested
send_over-requires-clause-nested c =
    let m = view_of c.args.self.now in
    let base = c.first_standing-base.result in
    let below = ap (take base) c.push_reserved.ensures.items ∙ take-append-le base m.held (c.args.last ∷ []) c.first_standing-base.ensures.inside ∙ c.first_standing-base.ensures.below in
    subst (λ l. Nested (reverse m.frames) l) (sym below) c.requires.nested

pub returns-clause-goes : goal.returns-clause-goes
returns-clause-goes c = λ _ p t h n.
    let m = view_of c.args.self.now in
    let u : Updating = record { place = Sent c.args.setter; how = c.args.how; value = c.args.part; base = c.first_standing-base.result } in
    reads_over p h.world m.frames c.args.frame u c.args.getter c.args.setter m.held c.push_reserved.new.self.items c.args.last c.in-Some.receiver c.in-Some.argument (state_of p m t h) n
    refl c.push_reserved.ensures.items c.first_standing-base.ensures.inside c.first_standing-base.ensures.stand c.first_standing-base.ensures.below
    (ap (λ l. l ++ c.args.last ∷ []) (sym c.standing.ensures.is) ∙ c.in-Some.ensures.are)
    ∙ c.send_over.ensures.goes p t h n

pub returns-clause-within : goal.returns-clause-within
returns-clause-within c k h value =
    let m = view_of c.args.self.now in
    let there = c.in-Some.ensures.within k (c.standing.ensures.within k (held_reached k m h)) value in
    c.send_over.ensures.within k (with_value k m c.push_reserved.new.self.items c.args.last c.push_reserved.ensures.items h value) tt there.0 there.1
