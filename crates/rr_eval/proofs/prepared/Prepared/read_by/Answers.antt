-- The method that is found only reads.
use Rattle.std.proofs.Common.{◌∙◌, ap, sym, Some}
use Rattle.std.specs.Option.{option_map}
use Rattle.rr_eval.specs.Prepared.{callable_of, work_in}
use Rattle.rr_eval.proofs.prepared.Prepared.read_by.Goals as goal

pub returns-in-Read : goal.returns-in-Read
returns-in-Read c =
    let ns = c.args.self.now.program.nodes.items in
    ap (option_map (λ f. f.work)) (sym c.method_for.ensures ∙ ap (option_map (callable_of ns)) c.in-Some.is) ∙ ap (λ w. Some (work_in ns w)) c.in-Read.is
