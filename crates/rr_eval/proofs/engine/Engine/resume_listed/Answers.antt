-- A part that is no splat is kept as a receiver is.
use Rattle.std.proofs.Common.{◌≡◌, ◌∙◌, ◌-◌, suc, ap, sym, false, arith}
use Rattle.rr_parser.specs.Grammar.Names.{is_splat}
use Rattle.rr_tree.specs.Tree.{tree_at}
use Rattle.rr_eval.specs.declared.problem.Answer.TheVariants.{Gave}
use Rattle.rr_eval.specs.Turns.{after_answer}
use Rattle.rr_eval.proofs.Finishing.{item_waits}
use Rattle.rr_eval.proofs.engine.Engine.resume_listed.Goals as goal

pub resume_next-requires-in-Item-clause-waits : goal.resume_next-requires-in-Item-clause-waits
resume_next-requires-in-Item-clause-waits c = λ m h n.
    let p = c.args.prepared.now.program in
    let t = c.args.space.now in
    let v = c.args.value in
    let call = c.in-Item in
    let place : c.saturating_sub-part.result ≡ call.end - suc call.count = omega arith in
    let plain : is_splat (tree_at p.nodes.items (call.end - suc call.count)) ≡ false = ap (λ k. is_splat (tree_at p.nodes.items k)) (sym place) ∙ sym c.is_splat.ensures.is ∙ c.if-is_splat.false in
    ap (λ f. after_answer p m t f (Gave v) h n) call.is ∙ item_waits p m t call.target call.end call.count call.base v h n plain
