use Rattle.std.proofs.Common.{◌∙◌, ap}
use Rattle.rr_lexer.specs.Contexts.{state_of}
use Rattle.rr_lexer.specs.Scans.{element_at}
use Rattle.rr_lexer.proofs.Begins.{begins}
use Rattle.rr_lexer.proofs.lexing.begins_at.Goals as goal

pub returns : goal.returns
returns c = begins (state_of c.args.context.now) c.args.rest.now c.element_at.result c.requires
    (c.element_at.ensures ∙ ap (λ x. element_at x c.args.context.now.after_dot c.args.rest.now) c.is_inside.ensures)
