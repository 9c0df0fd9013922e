use Rattle.std.proofs.Common.{sym, subst}
use Rattle.rr_space.specs.Moves.{IsPlanned}
use Rattle.rr_space.specs.Tables.{Whole}
use Rattle.examples_objects.proofs.tests_share.publish_plan.Goals as goal

pub promote-requires : goal.promote-requires
promote-requires c =
    let p = c.requires in
    subst (λ (w : Whole). IsPlanned c.args.space.now w c.args.plan.places) (sym c.in-Ok.ensures.done) (record { distinct = p.distinct; count = p.count; same = p.same })
