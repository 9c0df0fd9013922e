-- A part that is no splat is kept as a receiver's argument is.
use Rattle.std.proofs.Common.{◌≡◌, ◌∙◌, ◌-◌, ap, sym, false}
use Rattle.rr_parser.specs.Grammar.Names.{is_splat}
use Rattle.rr_tree.specs.Tree.{tree_at}
use Rattle.rr_eval.proofs.Finishing.{one_waits}
use Rattle.rr_eval.proofs.engine.Engine.resume_one.Goals as goal

pub resume_next-requires-clause-waits : goal.resume_next-requires-clause-waits
resume_next-requires-clause-waits c = λ m h n.
    let p = c.args.prepared.now.program in
    let plain : is_splat (tree_at p.nodes.items (c.args.end - 1)) ≡ false = ap (λ k. is_splat (tree_at p.nodes.items k)) (sym c.saturating_sub.ensures) ∙ sym c.is_splat.ensures.is ∙ c.if-is_splat.false in
    one_waits p m c.args.space.now c.args.target c.args.end c.args.base c.args.value h n plain
