use Rattle.std.proofs.Common.{sym, ◌∙◌}
use Rattle.rr_select.proofs.Ends.{ended, went_on}
use Rattle.rr_select.proofs.choice.after.Goals as goal

pub returns-in-Some-clause-after : goal.returns-in-Some-clause-after
returns-in-Some-clause-after c = λ answers h. ended c.args.count c.args.own answers c.args.answer c.in-Some.ending c.args.act h (sym c.ending.ensures ∙ c.in-Some.is)

pub returns-in-None-clause-after : goal.returns-in-None-clause-after
returns-in-None-clause-after c = λ answers h. went_on c.args.count c.args.own answers c.args.answer c.args.act c.following.result h (sym c.ending.ensures ∙ c.in-None.is) c.following.ensures.goes_on c.following.ensures.stays
