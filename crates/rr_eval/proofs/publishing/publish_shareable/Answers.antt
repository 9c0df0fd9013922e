-- The value leads to nothing shareable of the space any more, and is itself no slot where it is shareable.
use Rattle.std.proofs.Common.{length, subst}
use Rattle.rr_space.specs.Parts.{value_of}
use Rattle.rr_share.specs.Plans.{IsPreparedFor, IsFound, IsPlanFor}
use Rattle.rr_share.specs.declared.preparing.Prepared.{Prepared}
use Rattle.rr_store.specs.Answers.{numbered_next}
use Rattle.rr_eval.proofs.Cleared.{cleared, cleared_public, found_public}
use Rattle.rr_eval.proofs.Noted.{noted_stands, planned_numbered}
use Rattle.rr_eval.proofs.publishing.publish_shareable.Goals as goal

pub returns-clause-promoted : goal.returns-clause-promoted
returns-clause-promoted c =
    let t = c.args.space.now in
    let s = c.args.store.now in
    let v = value_of c.args.value in
    let plan = c.in-Plan.plan in
    let P = c.in_ok-publish_plan-in-Plan.ensures.published in
    let number = length s.clusters in
    let prepared : IsPlanFor t v plan = subst (λ (p : Prepared). IsPreparedFor p t v) c.in-Plan.is c.in_ok-prepare.ensures.prepared in
    cleared (numbered_next s plan.cluster) plan.places t P.noted c.publish_plan.new.space (noted_stands number plan.places t P.noted P.notes)
    (planned_numbered plan.places P.noted plan.cluster number P.planned) P.promoted v c.len-before.ensures.well.sound c.len-after.ensures.well.sound prepared.exact

pub returns-in-Found-clause-public : goal.returns-in-Found-clause-public
returns-in-Found-clause-public c =
    let t = c.args.space.now in
    let v = value_of c.args.value in
    let found : IsFound t v c.in-Found.field-0 = subst (λ (p : Prepared). IsPreparedFor p t v) c.in-Found.is c.in_ok-prepare.ensures.prepared in
    found_public t v found.promoted

pub returns-clause-public : goal.returns-clause-public
returns-clause-public c =
    let t = c.args.space.now in
    let s = c.args.store.now in
    let v = value_of c.args.value in
    let plan = c.in-Plan.plan in
    let P = c.in_ok-publish_plan-in-Plan.ensures.published in
    let number = length s.clusters in
    let prepared : IsPlanFor t v plan = subst (λ (p : Prepared). IsPreparedFor p t v) c.in-Plan.is c.in_ok-prepare.ensures.prepared in
    cleared_public (numbered_next s plan.cluster) plan.places t P.noted c.publish_plan.new.space (noted_stands number plan.places t P.noted P.notes)
    (planned_numbered plan.places P.noted plan.cluster number P.planned) P.promoted v prepared.exact
