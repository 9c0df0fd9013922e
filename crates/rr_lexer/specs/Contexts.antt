-- The state that a context keeps.
use Rattle.std.specs.Prelude.{reverse}
use Rattle.rr_lexer.specs.Tokens.{State}
use Rattle.rr_lexer.specs.declared.context.Context.{Context}

abbrev pub state_of : Context → State
state_of c = record { frames = reverse c.frames.items; after_dot = c.after_dot; blank = c.blank }
