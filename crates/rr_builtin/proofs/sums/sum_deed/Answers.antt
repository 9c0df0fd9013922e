use Rattle.std.proofs.Common.{◌∙◌, ap, sym}
use Rattle.rr_builtin.specs.declared.problem.Problem.TheVariants.{WrongType}
use Rattle.rr_builtin.specs.Acts.{Answers, Raises}
use Rattle.rr_builtin.specs.Sums.{summed}
use Rattle.rr_builtin.proofs.Among.{among_of, of_among}
use Rattle.rr_builtin.proofs.Classing.{class_is}
use Rattle.rr_builtin.proofs.sums.sum_deed.Goals as goal

pub returns-in-Err-clause-act : goal.returns-in-Err-clause-act
returns-in-Err-clause-act c = λ below read among.
    let t = c.args.space.now in
    let r = c.in-Err.other in
    c.raise.ensures.act
    ∙ ap (λ k. Answers (Raises (WrongType k))) (c.class_of.ensures ∙ class_is t below r c.len-count.ensures.well.sound read (among_of below r (c.in-Err.ensures.among below read (of_among below c.args.array among))))
    ∙ sym (ap (summed below t) c.in-Err.ensures.other)
