use Rattle.std.proofs.Common.{sym, ap, ◌∙◌, if◌then◌else◌}
use Rattle.rr_select.specs.declared.round.Act.TheVariants.{Withdraw}
use Rattle.rr_select.specs.Rounds.{act_behind, act_behind_entries}
use Rattle.rr_select.proofs.Walks.{behind_try, behind_offer, behind_sleep, behind_rest, behind_withdraw, asks_no_end}
use Rattle.rr_select.proofs.choice.following.Goals as goal

pub returns-in-Try-clause-goes_on : goal.returns-in-Try-clause-goes_on
returns-in-Try-clause-goes_on c = λ i h. c.entry.ensures.round ∙ behind_try c.args.count c.args.own i c.in-Try.place (sym c.in-Try.is ∙ h)

pub returns-in-Offer-clause-goes_on : goal.returns-in-Offer-clause-goes_on
returns-in-Offer-clause-goes_on c = λ i h. behind_offer c.args.count c.args.own i (sym c.in-Offer.is ∙ h)

pub returns-then-own-clause-goes_on : goal.returns-then-own-clause-goes_on
returns-then-own-clause-goes_on c = λ i h. behind_sleep c.args.count c.args.own i (sym c.in-Sleep.is ∙ h) c.if-own.true

pub returns-else-own-clause-goes_on : goal.returns-else-own-clause-goes_on
returns-else-own-clause-goes_on c = λ i h. c.entry-else-own.ensures.round ∙ behind_rest c.args.count c.args.own i (sym c.in-Sleep.is ∙ h) c.if-own.false

pub returns-in-Withdraw-clause-goes_on : goal.returns-in-Withdraw-clause-goes_on
returns-in-Withdraw-clause-goes_on c = λ i h. c.entry-in-Withdraw.ensures.round ∙ behind_withdraw c.args.count c.args.own i (sym c.in-Withdraw.is ∙ h)

pub returns-in-End-clause-goes_on : goal.returns-in-End-clause-goes_on
returns-in-End-clause-goes_on c = λ i h. absurd (asks_no_end c.args.count c.args.own i c.in-End.field-0 (sym c.in-End.is ∙ h))

pub returns-in-Try-clause-behind : goal.returns-in-Try-clause-behind
returns-in-Try-clause-behind c = c.entry.ensures.behind ∙ sym (ap (act_behind c.args.count c.args.own) c.in-Try.is)

pub returns-else-own-clause-behind : goal.returns-else-own-clause-behind
returns-else-own-clause-behind c =
    c.entry-else-own.ensures.behind
    ∙ sym (ap (act_behind c.args.count c.args.own) c.in-Sleep.is ∙ ap (λ own. if own then Withdraw else act_behind_entries c.args.count c.args.own 0) c.if-own.false)

pub returns-in-Withdraw-clause-behind : goal.returns-in-Withdraw-clause-behind
returns-in-Withdraw-clause-behind c = c.entry-in-Withdraw.ensures.behind ∙ sym (ap (act_behind c.args.count c.args.own) c.in-Withdraw.is)
