use Rattle.std.proofs.lemmas.Bool.{OnTrue_at, OnTrue_from}
use Rattle.rr_world.proofs.Hands.{cleared}
use Rattle.rr_world.proofs.ractor.Ractor.clear.Goals as goal

pub returns-clause-gone : goal.returns-clause-gone
returns-clause-gone c = OnTrue_from c.clear.result _ (λ holds.
    cleared c.args.self.now c.self.inside.space c.self.inside.roots.items c.self.inside.hand c.clear.new.self c.self.inside.limits c.self.inside.runs c.self.view_is
    (c.clear.ensures.may.0 holds) (OnTrue_at holds c.clear.ensures.gone))
