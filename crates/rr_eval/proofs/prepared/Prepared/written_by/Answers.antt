-- The method that is found only writes.
use Rattle.std.proofs.Common.{◌∙◌, ap, sym, Some}
use Rattle.std.specs.Option.{option_map}
use Rattle.rr_eval.specs.Prepared.{callable_of, work_in}
use Rattle.rr_eval.proofs.prepared.Prepared.written_by.Goals as goal

pub returns-in-Write : goal.returns-in-Write
returns-in-Write c =
    let ns = c.args.self.now.program.nodes.items in
    record {
      joins = sym c.joined_by.ensures ∙ c.in-None.is;
      method = ap (option_map (λ f. f.work)) (sym c.method_looked_up.ensures ∙ ap (option_map (callable_of ns)) c.in-Some.is) ∙ ap (λ w. Some (work_in ns w)) c.in-Write.is;
    }
