-- No value stands behind.
use Rattle.std.proofs.Common.{◌≡◌, ◌++◌, ◌∷◌, [], subst, OnOk}
use Rattle.std.proofs.lemmas.List.{append-nil}
use Rattle.rr_frames.specs.Frames.{laid}
use Rattle.rr_eval.specs.Blocks.{activation_in}
use Rattle.rr_eval.proofs.call_stack.CallStack.push_all.Goals as goal

pub returns-clause-pushed : goal.returns-clause-pushed
returns-clause-pushed c =
    subst (λ vs. OnOk c.push.result (c.push.new.self.frames ≡ c.args.self.now.frames ++ record { variables = laid c.args.shape.parameters c.args.shape.size vs; activation = activation_in c.args.entry c.args.self.now.frames } ∷ []))
    (append-nil c.args.values.now) c.push.ensures.pushed
