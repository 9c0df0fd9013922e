-- The frame is put over all.
use Rattle.std.proofs.Common.{sym, subst}
use Rattle.rr_eval.specs.declared.frame.Control.TheVariants.{Operate}
use Rattle.rr_eval.specs.Views.{view_of}
use Rattle.rr_eval.specs.Within.{AreReached}
use Rattle.rr_eval.proofs.Holding.{with_frame}
use Rattle.rr_eval.proofs.engine.Engine.operate_above.Goals as goal

pub returns-clause-within : goal.returns-clause-within
returns-clause-within c k h frame =
    let m = view_of c.args.self.now in
    let next = Operate c.args.op c.args.a c.args.b in
    subst (λ fs. AreReached k (record m { control = next; frames = fs })) (sym c.push_within.ensures) (with_frame k m c.args.frame next h frame tt)
