use Rattle.std.proofs.Common.{sym}
use Rattle.rr_parser.proofs.Assigning.{made_targeted}
use Rattle.rr_parser.proofs.parser.Parser.targeted_word.Goals as goal

pub returns : goal.returns
returns c = made_targeted c.args.self.now c.aim.new.self c.put_target.new.self c.args.target _ _ _ _ c.told_behind-behind.ensures (sym c.if-not-settable.ensures) c.in_ok-variable.ensures c.in_ok-put_target.ensures
