-- The machine begins with the statements of the program.
use Rattle.std.proofs.Common.{◌∙◌, ap, reverse}
use Rattle.rr_space.specs.declared.refer.Ref.TheVariants.{Nil}
use Rattle.rr_tree.specs.Tree.{tree_at}
use Rattle.rr_eval.specs.Rules.{concluded}
use Rattle.rr_eval.specs.Frames.{means, unwind}
use Rattle.rr_eval.specs.Script.{State}
use Rattle.rr_eval.specs.Turns.{code_of, blocks_of}
use Rattle.rr_eval.proofs.Holding.{first_reached}
use Rattle.rr_eval.proofs.Invoking.{no_blocks}
use Rattle.rr_eval.proofs.machine.Machine.new.Goals as goal

pub returns-clause-within : goal.returns-clause-within
returns-clause-within c k itself = first_reached k _ tt c.new.ensures.items c.new-2.ensures.items (c.in_ok-first_calls.ensures.within k itself) tt

pub returns-clause-whole : goal.returns-clause-whole
returns-clause-whole c t h =
    let p = c.args.prepared.now.program in
    let code = code_of p h.world in
    let n = c.args.limits.steps in
    let tree = tree_at p.nodes.items p.root in
    let s : State = record { memory = record { calls = c.in_ok-first_calls.field-0; blocks = blocks_of p.nodes.items c.in_ok-first_blocks.field-0.items; table = t; rescuing = Nil }; asked = h.asked } in
    ap (λ fs. unwind code (reverse fs) c.new-2.result.items (means code tree s n)) c.new.ensures.items
    ∙ ap (λ m. concluded (means code tree (record { memory = m; asked = h.asked }) n)) (ap (λ b. record { calls = c.in_ok-first_calls.field-0; blocks = b; table = t; rescuing = Nil }) (ap (blocks_of p.nodes.items) c.in_ok-first_blocks.ensures.is ∙ no_blocks p.nodes.items) ∙ c.in_ok-first_calls.ensures.calls t)
