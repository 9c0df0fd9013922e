use Rattle.rr_parser.proofs.Scopes.{seen-added}
use Rattle.rr_parser.proofs.variables.Variables.add.Goals as goal

pub returns-clause-seen : goal.returns-clause-seen
returns-clause-seen c = seen-added c.args.name c.args.self.now.locals c.push.new.self c.args.self.now.level c.args.self.now.count c.in-Some.count c.args.self.now.begun c.args.self.now.in_loop c.args.self.now.in_method c.args.self.now.takes_do c.in_ok-push.ensures.pushed
