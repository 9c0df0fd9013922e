-- The program's method is the one that is found.
use Rattle.std.proofs.Common.{◌∙◌, ap, sym, subst}
use Rattle.std.specs.Option.{option_map}
use Rattle.rr_eval.specs.Heard.{IsHeardBy}
use Rattle.rr_eval.specs.Prepared.{callable_of}
use Rattle.rr_eval.proofs.hearing.hear.Goals as goal

pub returns-in-Some-clause-is : goal.returns-in-Some-clause-is
returns-in-Some-clause-is c =
    let p = c.args.prepared.now.program in
    subst (λ f. IsHeardBy p c.args.space.now f c.args.name c.args.value c.hear_method.result) (ap (option_map (callable_of p.nodes.items)) (sym c.in-Some.is) ∙ c.sayer.ensures)
    (c.hear_method.ensures.is p c.args.name)
