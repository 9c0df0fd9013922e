-- A variable is read, and a text in it is said.
use Rattle.std.proofs.Common.{◌∙◌, sym, subst, length, Some}
use Rattle.rr_eval.specs.declared.hearing.Heard.TheVariants.{Said}
use Rattle.rr_eval.specs.Heard.{IsHeardBy}
use Rattle.rr_eval.specs.Methods.{Reads}
use Rattle.rr_eval.specs.Within.{reach, IsResponseReached}
use Rattle.rr_eval.proofs.Answered.{reads_heard, moved_heard, no_throw, text_reached}
use Rattle.rr_builtin.specs.Fields.{field_at}
use Rattle.rr_eval.proofs.hearing.hear_field.Goals as goal

pub returns-in-Gives-clause-is : goal.returns-in-Gives-clause-is
returns-in-Gives-clause-is c p x class =
    subst (λ o. IsHeardBy p c.args.space.now (Some (record { class = class; work = Reads c.args.field })) x c.args.value (Said o)) (sym c.text_in.ensures)
    (reads_heard p c.args.space.now x c.args.value class c.args.field c.in-Gives.said (sym c.read_field.ensures.is ∙ c.in-Gives.is))

pub returns-in-Gives-clause-within : goal.returns-in-Gives-clause-within
returns-in-Gives-clause-within c clusters =
    let k = reach (length c.args.space.now.slots) clusters in
    text_reached k c.args.space.now c.in-Gives.said c.text_in.result c.text_in.ensures (subst (IsResponseReached k) c.in-Gives.is (c.read_field.ensures.within clusters))

pub unreachable-requires : goal.unreachable-requires
unreachable-requires c = no_throw c.args.space.now (field_at c.args.space.now c.args.value c.args.field.0) _ (sym c.read_field.ensures.is ∙ c.in-Throws.is)

pub returns-in-Fails-clause-is : goal.returns-in-Fails-clause-is
returns-in-Fails-clause-is c p x class = moved_heard p c.args.space.now x c.args.value class c.args.field c.in-Fails.problem (sym c.read_field.ensures.is ∙ c.in-Fails.is)
