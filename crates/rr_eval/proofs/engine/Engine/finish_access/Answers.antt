-- What is assigned to is read, over its receiver and its index.
use Rattle.std.proofs.Common.{◌∙◌, ap, sym, refl, subst, reverse, take, ◌++◌, ◌∷◌, []}
use Rattle.std.proofs.lemmas.List.{take-append-le}
use Rattle.rr_tree.specs.Tree.{tree_at}
use Rattle.rr_eval.specs.declared.updating.Place.TheVariants.{Sent}
use Rattle.rr_eval.specs.declared.updating.Updating.{Updating}
use Rattle.rr_eval.specs.Frames.{Nested}
use Rattle.rr_eval.specs.Turns.{context_of, state_of, after_values}
use Rattle.rr_eval.specs.Updating.{accessed}
use Rattle.rr_eval.specs.Views.{view_of}
use Rattle.rr_eval.proofs.Holding.{held_reached, with_value}
use Rattle.rr_eval.proofs.Updates.{reads_over, accessed_else}
use Rattle.rr_eval.proofs.engine.Engine.finish_access.Goals as goal

pub send_over-requires-clause-nested : goal.send_over-requires-clause-nested
send_over-requires-clause-nested c =
    let m = view_of c.args.self.now in
    let base = c.first_standing-base.result in
    let below = ap (take base) c.in_ok-push-in-Some.ensures.items ∙ take-append-le base m.held (c.args.value ∷ []) c.first_standing-base.ensures.inside ∙ c.first_standing-base.ensures.below in
    subst (λ l. Nested (reverse m.frames) l) (sym below) c.requires.nested

pub returns-in_ok-push-in-Some-clause-goes : goal.returns-in_ok-push-in-Some-clause-goes
returns-in_ok-push-in-Some-clause-goes c p t h n =
    let m = view_of c.args.self.now in
    let u : Updating = record { place = Sent c.args.setter; how = c.args.how; value = c.args.part; base = c.first_standing-base.result } in
    reads_over p h.world m.frames c.args.frame u c.args.getter c.args.setter m.held c.push.new.self.items c.args.value c.in-Some.receiver c.in-Some.argument (state_of p m t h) n
    refl c.in_ok-push-in-Some.ensures.items c.first_standing-base.ensures.inside c.first_standing-base.ensures.stand c.first_standing-base.ensures.below
    (ap (λ l. l ++ c.args.value ∷ []) (sym c.standing.ensures.is) ∙ c.in-Some.ensures.are)
    ∙ c.send_over.ensures.goes p t h n

pub returns-in_ok-push-in-Some-clause-within : goal.returns-in_ok-push-in-Some-clause-within
returns-in_ok-push-in-Some-clause-within c k h value =
    let m = view_of c.args.self.now in
    let there = c.in-Some.ensures.within k (c.standing.ensures.within k (held_reached k m h)) value in
    c.send_over.ensures.within k (with_value k m c.push.new.self.items c.args.value c.in_ok-push-in-Some.ensures.items h value) tt there.0 there.1

pub returns-in-None-clause-goes : goal.returns-in-None-clause-goes
returns-in-None-clause-goes c p t h n =
    let m = view_of c.args.self.now in
    let own = context_of p in
    ap (λ l. after_values p m t c.args.frame (accessed own c.args.getter c.args.setter c.args.how (tree_at p.nodes.items c.args.part) (l ++ c.args.value ∷ [])) h n) (sym c.standing.ensures.is)
    ∙ ap (λ r. after_values p m t c.args.frame r h n) (accessed_else own c.args.getter c.args.setter c.args.how (tree_at p.nodes.items c.args.part) (c.standing.result.now ++ c.args.value ∷ []) (c.accessed.ensures.more c.in-None.is))
    ∙ c.refuse.ensures.goes p t h n
