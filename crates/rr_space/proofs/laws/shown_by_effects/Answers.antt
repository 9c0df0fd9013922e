use Rattle.rr_space.proofs.Effects.{deep_freezing_keeps, emptying_nothing, promoted_is_published, closed_stands_behind}
use Rattle.rr_space.proofs.laws.shown_by_effects.Goals as goal

pub returns-clause-freezing : goal.returns-clause-freezing
returns-clause-freezing c = deep_freezing_keeps

pub returns-clause-emptying : goal.returns-clause-emptying
returns-clause-emptying c = emptying_nothing

pub returns-clause-promoted : goal.returns-clause-promoted
returns-clause-promoted c = promoted_is_published

pub returns-clause-closed : goal.returns-clause-closed
returns-clause-closed c = closed_stands_behind
