-- The status of failed output is the one of no other ending.
use Rattle.rr_base.specs.declared.limits.TheConstants.Limits.{DEFAULT}
use Rattle.rr_eval.specs.Counted.{counted}
use Rattle.ractor.proofs.Telling.{failed_status}
use Rattle.ractor.proofs.execute.run_file.Goals as goal

pub returns-clause-failed : goal.returns-clause-failed
returns-clause-failed g c =
    let seen = counted g.O.Write.contents in
    failed_status c.args.bytes.now DEFAULT (seen c.args.output.now) (seen c.run_source_leaving_objects-ended.new.output) c.run_source_leaving_objects-ended.result c.status_of.result c.run_source_leaving_objects-ended.ensures c.status_of.ensures
