-- The block is called in the frame of a program.
use Rattle.std.proofs.Common.{◌∙◌, [], ◌++◌, ap, sym, length, reverse, Some}
use Rattle.std.proofs.lemmas.List.{append-nil}
use Rattle.std.specs.List.{All}
use Rattle.rr_space.specs.declared.refer.Ref.TheVariants.{Nil}
use Rattle.rr_tree.specs.Tree.{tree_at}
use Rattle.rr_eval.specs.Blocks.{called}
use Rattle.rr_eval.specs.Frames.{runs_in, unwind}
use Rattle.rr_eval.specs.Rules.{concluded}
use Rattle.rr_eval.specs.Script.{Memory}
use Rattle.rr_eval.specs.Turns.{context_of, code_of, blocks_of, remaining_with}
use Rattle.rr_eval.specs.Views.{view_of}
use Rattle.rr_eval.specs.Within.{reach, IsReached}
use Rattle.std.proofs.Common.{subst}
use Rattle.rr_eval.proofs.Holding.{all_nil, begun_reached}
use Rattle.rr_eval.proofs.Invoking.{no_blocks}
use Rattle.rr_eval.proofs.machine.Machine.for_block.Goals as goal

pub returns-clause-within : goal.returns-clause-within
returns-clause-within c clusters itself arguments =
    let k = reach (length c.args.space.now.slots) clusters in
    c.call_at.ensures.within clusters
    (begun_reached k _ tt (c.reserve.ensures.items ∙ c.new.ensures.items) (subst (All (IsReached k)) (sym c.in_ok-from_slice.ensures.items) arguments) (c.in_ok-first_calls.ensures.within k itself) tt)
    (all_nil (IsReached k))

pub returns-clause-whole : goal.returns-clause-whole
returns-clause-whole c h =
    let p = c.args.prepared.now.program in
    let t = c.args.space.now in
    let code = code_of p h.world in
    let n = c.args.limits.steps in
    let tree = tree_at p.nodes.items c.args.block in
    let calls = c.in_ok-first_calls.field-0 in
    let held = c.in_ok-from_slice.field-0.items in
    let memory : Memory = record { calls = calls; blocks = blocks_of p.nodes.items c.in_ok-first_blocks.field-0.items; table = t; rescuing = Nil } in
    ap (remaining_with p (view_of c.call_at.new.self) t h) c.call_at.ensures.left
    ∙ sym (c.in_ok-call_at.ensures.goes h n)
    ∙ ap (λ fs. unwind code (reverse fs) [] (runs_in code (called (context_of p) (Some tree) 0 (held ++ []) memory) (record { memory = memory; asked = h.asked }) n)) (c.reserve.ensures.items ∙ c.new.ensures.items)
    ∙ ap (λ vs. concluded (runs_in code (called (context_of p) (Some tree) 0 vs memory) (record { memory = memory; asked = h.asked }) n)) (append-nil held ∙ c.in_ok-from_slice.ensures.items)
    ∙ ap (λ m. concluded (runs_in code (called (context_of p) (Some tree) 0 c.args.arguments.now m) (record { memory = m; asked = h.asked }) n))
    (ap (λ b. record { calls = calls; blocks = b; table = t; rescuing = Nil }) (ap (blocks_of p.nodes.items) c.in_ok-first_blocks.ensures.is ∙ no_blocks p.nodes.items) ∙ c.in_ok-first_calls.ensures.calls t)
