-- What the value leads to is frozen, and nothing else is changed.
use Rattle.std.proofs.Common.{ap, length, Some, if◌then◌else◌}
use Rattle.std.proofs.Math.Logic.{⊎_elim}
use Rattle.rr_space.specs.Parts.{value_of}
use Rattle.rr_builtin.specs.declared.problem.Problem.TheVariants.{Moved}
use Rattle.rr_eval.specs.declared.problem.Problem.TheVariants.{BuiltIn}
use Rattle.rr_eval.specs.declared.problem.Response.TheVariants.{Gives, Fails}
use Rattle.rr_eval.specs.Effects.{Says}
use Rattle.rr_eval.specs.Published.{published}
use Rattle.rr_eval.specs.Sharing.{deep_frozen, frozen_reply, fails}
use Rattle.rr_eval.proofs.Shares.{below_of, no_shell, a_shell, frozen_replied, same_replied}
use Rattle.rr_eval.proofs.sharing.make_shareable.Goals as goal

pub deep_freeze-requires : goal.deep_freeze-requires
deep_freeze-requires c = below_of (length c.args.space.now.slots) (Some (published c.args.store.now)) c.args.value c.requires.value

pub returns-in-Ok-clause-replied : goal.returns-in-Ok-clause-replied
returns-in-Ok-clause-replied c =
    let t = c.args.space.now in
    let v = c.args.value in
    let well = c.len-before.ensures.well.sound in
    let free = no_shell t well v c.in-Ok.ensures.free in
    frozen_replied t c.deep_freeze.new.space well v c.in-Ok.ensures.frozen.2 (published c.args.store.now) (frozen_reply v t) (Gives v)
    (ap (λ b. if b then fails (BuiltIn Moved) t else record { said = Says (value_of v); table = deep_frozen v t }) free)
    c.in-Ok.ensures.keys c.in-Ok.ensures.rest c.requires.read c.requires.value

pub returns-in-Err-HoldsShell-clause-replied : goal.returns-in-Err-HoldsShell-clause-replied
returns-in-Err-HoldsShell-clause-replied c =
    let t = c.args.space.now in
    let v = c.args.value in
    let shell = ⊎_elim (λ m. absurd (cc m)) (λ s. a_shell t c.len-before.ensures.well.sound v s.1) c.in-Err-HoldsShell.ensures.fault in
    same_replied (published c.args.store.now) (frozen_reply v t) t c.deep_freeze.new.space (Fails (BuiltIn Moved))
    (ap (λ b. if b then fails (BuiltIn Moved) t else record { said = Says (value_of v); table = deep_frozen v t }) shell)
    c.in-Err-HoldsShell.ensures.refused c.requires.read tt
