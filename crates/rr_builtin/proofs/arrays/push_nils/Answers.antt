use Rattle.std.proofs.Common.{◌≡◌, ◌+◌, suc, subst, arith}
use Rattle.rr_builtin.proofs.Gathering.{IsPadded, padded_more}
use Rattle.rr_builtin.proofs.arrays.push_nils.Goals as goal

pub loop-preserved : goal.loop-preserved
loop-preserved c =
    let n = c.loop.counter in
    subst (IsPadded c.args.items.now.items c.push.new.self.items) (let z : suc n ≡ n + 1 = omega arith in z)
    (padded_more c.args.items.now.items c.loop.items.items c.push.new.self.items n c.loop.invariant c.in_ok-push.ensures.items)
