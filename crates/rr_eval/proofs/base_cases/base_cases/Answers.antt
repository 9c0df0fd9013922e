-- One method more.
use Rattle.std.proofs.Common.{subst, sym}
use Rattle.rr_eval.specs.BaseCases.{AreBases}
use Rattle.rr_eval.proofs.BaseCases.{bases_more}
use Rattle.rr_eval.proofs.base_cases.base_cases.Goals as goal

pub loop-method-preserved : goal.loop-method-preserved
loop-method-preserved c =
    let ns = c.args.program.now.nodes.items in
    subst (AreBases ns) (sym c.in_ok-push.ensures.items) (bases_more ns c.loop-method.bases.items c.base_case_of.result c.loop-method.invariant c.base_case_of.ensures)
