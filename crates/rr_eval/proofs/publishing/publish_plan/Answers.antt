-- The plan is one still once it is written down, so that its cluster may be published and its slots may become forwards.
use Rattle.std.proofs.Common.{◌∙◌, ◌++◌, ◌∷◌, [], ap, length, subst, sym, arith}
use Rattle.rr_base.specs.declared.event.StoreEvent.TheVariants.{Published as Event}
use Rattle.rr_space.specs.Moves.{IsPlanned, IsPromotedTo}
use Rattle.rr_share.proofs.Forwards.{planned_few}
use Rattle.rr_store.specs.Answers.{numbered_next}
use Rattle.rr_eval.specs.Published.{published}
use Rattle.rr_eval.specs.Publishing.{Notes}
use Rattle.rr_eval.proofs.Noted.{noted_stands, planned_inside, planned_numbered, planned_stays}
use Rattle.rr_eval.proofs.Published.{promoted_read, published_more, read_kept}
use Rattle.rr_eval.proofs.publishing.publish_plan.Goals as goal

pub note_places-requires : goal.note_places-requires
note_places-requires c = planned_inside c.args.plan.places c.args.space.now c.args.plan.cluster c.requires.planned

pub returns-in_err-note_places-clause-read : goal.returns-in_err-note_places-clause-read
returns-in_err-note_places-clause-read c = c.note_places.ensures.read (published c.args.store.now) c.requires.read

pub publish-requires : goal.publish-requires
publish-requires c =
    let few = planned_few c.args.space.now c.args.plan.cluster c.args.plan.places c.requires.planned c.len-places.ensures.distinct in
    let count = c.requires.planned.count in
    omega (arith, few, count, c.len-slots.ensures.count, c.len-slots.ensures.room, c.len-slots.ensures.few)

pub promote-requires : goal.promote-requires
promote-requires c =
    let t = c.args.space.now in
    let places = c.args.plan.places in
    let w = c.args.plan.cluster in
    let noted = c.note_places.new.space in
    let stands = noted_stands c.count.result places t noted c.in_ok-note_places.ensures.notes in
    subst (λ x. IsPlanned noted x places) (sym c.in-Ok.ensures.published.0)
    (planned_numbered places noted w (length c.args.store.now.clusters) (planned_stays places t noted stands w c.requires.planned))

pub returns-in-Ok-clause-published : goal.returns-in-Ok-clause-published
returns-in-Ok-clause-published c =
    let t = c.args.space.now in
    let places = c.args.plan.places in
    let noted = c.note_places.new.space in
    let stands = noted_stands c.count.result places t noted c.in_ok-note_places.ensures.notes in
    record {
      noted = noted;
      notes = subst (λ n. Notes n places t noted) c.count.ensures c.in_ok-note_places.ensures.notes;
      planned = planned_stays places t noted stands c.args.plan.cluster c.requires.planned;
      room = c.in-Ok.ensures.published.1;
      clusters = c.in-Ok.ensures.clusters;
      history = c.in-Ok.ensures.history ∙ ap (λ n. c.args.store.now.history ++ Event (length c.args.store.now.clusters) (length c.args.plan.cluster.own) (record { 0 = n }) ∷ []) c.owner-who.ensures;
      promoted = subst (λ x. IsPromotedTo x places noted c.promote.new.space) c.in-Ok.ensures.published.0 c.promote.ensures.promoted;
    }

pub returns-in-Ok-clause-read : goal.returns-in-Ok-clause-read
returns-in-Ok-clause-read c =
    let s = c.args.store.now in
    let w = numbered_next s c.args.plan.cluster in
    let places = c.args.plan.places in
    let noted = c.note_places.new.space in
    promoted_read s c.publish.new.self w c.in-Ok.ensures.clusters places noted c.promote.new.space c.history-events.ensures.numbered
    (c.note_places.ensures.read (published s) c.requires.read)
    (subst (λ x. IsPromotedTo x places noted c.promote.new.space) c.in-Ok.ensures.published.0 c.promote.ensures.promoted)
    (λ e has. c.requires.read.all e (c.requires.below e has))

pub returns-in-Ok-clause-more : goal.returns-in-Ok-clause-more
returns-in-Ok-clause-more c = published_more c.args.store.now c.publish.new.self (numbered_next c.args.store.now c.args.plan.cluster) c.in-Ok.ensures.clusters

pub returns-in-Err-clause-read : goal.returns-in-Err-clause-read
returns-in-Err-clause-read c =
    read_kept c.args.store.now c.publish.new.self c.note_places.new.space c.in-Err.ensures.clusters (c.note_places.ensures.read (published c.args.store.now) c.requires.read)
