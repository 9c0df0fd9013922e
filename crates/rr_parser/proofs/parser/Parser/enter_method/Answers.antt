use Rattle.std.proofs.Common.{refl, ap}
use Rattle.rr_parser.specs.Variables.{known_in}
use Rattle.rr_parser.proofs.Defining.{entered_apart}
use Rattle.rr_parser.proofs.parser.Parser.enter_method.Goals as goal

pub returns : goal.returns
returns c = record {
  nodes = refl;
  known = entered_apart (known_in c.args.self.now.known) c.replace-variables.new.dest c.add_parameters.new.self c.args.parameters.now c.truncate.new.self c.in-Some.begun c.in_ok-add_parameters.ensures c.replace-variables.ensures.after c.truncate.ensures c.in-Some.ensures.1;
  number = refl;
  parameters = c.in_ok-given.ensures;
  outer = ap known_in c.replace-variables.ensures.value;
}
