use Rattle.std.proofs.Common.{◌∙◌}
use Rattle.rr_move.proofs.Held.{moved_again}
use Rattle.rr_move.proofs.hand.Hand.of_message.Goals as goal

pub returns-in-Some-clause-back : goal.returns-in-Some-clause-back
returns-in-Some-clause-back c = λ before message home. moved_again c.in-Some.home c.args.message _ before message (home ∙ c.in-Some.is)
