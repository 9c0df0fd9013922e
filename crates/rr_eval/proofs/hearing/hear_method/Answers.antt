-- An attribute is read.
use Rattle.std.proofs.Common.{sym, subst, Some}
use Rattle.rr_eval.specs.Heard.{IsHeardBy}
use Rattle.rr_eval.specs.Prepared.{work_in}
use Rattle.rr_eval.proofs.hearing.hear_method.Goals as goal

pub returns-in-Read-clause-is : goal.returns-in-Read-clause-is
returns-in-Read-clause-is c = λ p x.
    subst (λ w. IsHeardBy p c.args.space.now (Some (record { class = c.args.method.class; work = work_in p.nodes.items w })) x c.args.value c.hear_field.result) (sym c.in-Read.is)
    (c.hear_field.ensures.is p x c.args.method.class)
