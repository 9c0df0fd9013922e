-- The last frame goes, and its block.
use Rattle.std.proofs.Common.{◌≡◌, ◌∙◌, ◌-◌, ap, arith, length, refl, take}
use Rattle.std.specs.Prelude.{vec_len}
use Rattle.rr_eval.specs.Views.{view_of}
use Rattle.rr_eval.proofs.Invoking.{leaves}
use Rattle.rr_eval.proofs.engine.Engine.pop_call.Goals as goal

pub returns-clause-state : goal.returns-clause-state
returns-clause-state c p t h =
    let m = view_of c.args.self.now in
    let count : vec_len c.args.self.now.blocks ≡ length m.blocks = omega arith in
    leaves p m (record m { calls = c.pop.new.self; blocks = c.pop-block.new.self.items }) t h c.pop.ensures.frames c.pop.ensures.limit (c.pop-block.ensures.rest ∙ ap (λ k. take (k - 1) m.blocks) count) refl
