use Rattle.std.proofs.Common.{length}
use Rattle.rr_builtin.proofs.news.new_deed.Goals as goal

pub returns-in_ok-exception-in-Class-clause-fit : goal.returns-in_ok-exception-in-Class-clause-fit
returns-in_ok-exception-in-Class-clause-fit c = (c.in_ok-exception-in-Class.ensures.within (length c.args.space.now.slots) c.requires, c.in_ok-exception-in-Class.ensures.fields)
