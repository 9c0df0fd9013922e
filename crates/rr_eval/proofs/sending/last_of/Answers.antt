-- The last value is the one that stands apart, or else the last of the others.
use Rattle.std.proofs.Common.{◌++◌, ◌∙◌, ap, sym, arith}
use Rattle.std.proofs.lemmas.List.{append-nil}
use Rattle.rr_frames.specs.Frames.{list_of}
use Rattle.rr_eval.specs.Dispatch.{last_of}
use Rattle.rr_eval.proofs.Lasts.{last_push, last_at}
use Rattle.rr_eval.proofs.sending.last_of.Goals as goal

pub returns-in-Some-clause-is : goal.returns-in-Some-clause-is
returns-in-Some-clause-is c = last_push c.args.values.now c.in-Some.value ∙ ap (λ l. last_of (c.args.values.now ++ list_of l)) (sym c.in-Some.is)

pub returns-in-len1-up-clause-is : goal.returns-in-len1-up-clause-is
returns-in-len1-up-clause-is c =
    let vs = c.args.values.now in
    c.value-item.is ∙ last_at vs c.value-item.result (omega (arith, c.in-len1-up.len_at_least)) ∙ ap last_of (sym (append-nil vs)) ∙ ap (λ l. last_of (vs ++ list_of l)) (sym c.in-None.is)
