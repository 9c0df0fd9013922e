use Rattle.std.proofs.Common.{sym, ◌∙◌}
use Rattle.rr_select.proofs.Ends.{within}
use Rattle.rr_select.proofs.choice.Choice.next.Goals as goal

pub after-self-inside-requires : goal.after-self-inside-requires
after-self-inside-requires c = λ place is. within c.self.inside.count c.self.inside.own c.self.invariant.0 place (sym is ∙ c.self.invariant.1)
