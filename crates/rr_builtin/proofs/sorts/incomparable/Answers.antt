use Rattle.std.proofs.Common.{◌∙◌, ap}
use Rattle.rr_builtin.specs.declared.problem.Problem.TheVariants.{Incomparable}
use Rattle.rr_space.specs.Parts.{value_of}
use Rattle.rr_builtin.specs.Acts.{Answers, Raises}
use Rattle.rr_builtin.specs.ValueClasses.{class_of_value}
use Rattle.rr_builtin.proofs.Classing.{class_is}
use Rattle.rr_builtin.proofs.sorts.incomparable.Goals as goal

pub returns-clause-act : goal.returns-clause-act
returns-clause-act c = λ below read first other.
    let t = c.args.space.now in
    let sound = c.len-count.ensures.well.sound in
    c.raise.ensures.act
    ∙ ap (λ k. Answers (Raises (Incomparable k c.class_of-2.result))) (c.class_of.ensures ∙ class_is t below c.args.first sound read first)
    ∙ ap (λ k. Answers (Raises (Incomparable (class_of_value below t (value_of c.args.first)) k))) (c.class_of-2.ensures ∙ class_is t below c.args.other sound read other)
