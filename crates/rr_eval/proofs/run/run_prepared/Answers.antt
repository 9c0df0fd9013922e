-- The program that was made ready is the one that is run.
use Rattle.std.proofs.Common.{inl, refl, subst}
use Rattle.rr_tree.specs.declared.program.Program.{Program}
use Rattle.rr_base.specs.declared.fault.Fault.TheVariants.{Memory}
use Rattle.rr_eval.specs.Runs.{IsRun, program_meaning}
use Rattle.rr_eval.specs.Turns.{context_of}
use Rattle.rr_eval.specs.Written.{written_to}
use Rattle.rr_eval.proofs.Running.{stopped_first}
use Rattle.rr_eval.proofs.run.run_prepared.Goals as goal

pub returns-in-Ok : goal.returns-in-Ok
returns-in-Ok g c =
    let old = written_to g.O.Output.contents g.O.Output.failures c.args.output.now in
    let new = written_to g.O.Output.contents g.O.Output.failures c.run_program.new.output in
    subst (λ (p : Program). IsRun (context_of p) (program_meaning p c.args.limits) c.args.limits old new c.run_program.result) c.in-Ok.ensures c.run_program.ensures

pub returns-in-Err : goal.returns-in-Err
returns-in-Err g c = stopped_first c.args.program c.args.limits _ Memory (inl refl) (λ is. absurd (cc is))
