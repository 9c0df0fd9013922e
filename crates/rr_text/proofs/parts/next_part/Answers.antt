use Rattle.rr_text.specs.Names.{names_of}
use Rattle.rr_text.proofs.parts.next_part.Goals as goal

pub returns-in_ok-next-in-Elements-clause-turned : goal.returns-in_ok-next-in-Elements-clause-turned
returns-in_ok-next-in-Elements-clause-turned c = λ below read among. c.in_ok-next-in-Elements.ensures.turned (names_of c.args.program.now) below read among

pub returns-in-Lines-clause-turned : goal.returns-in-Lines-clause-turned
returns-in-Lines-clause-turned c = λ below read among. c.next_line.ensures.turned (names_of c.args.program.now) below c.args.out.now.items read among
