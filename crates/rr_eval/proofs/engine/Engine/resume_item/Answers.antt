-- A part that is no splat is kept as any other.
use Rattle.std.proofs.Common.{◌≡◌, ◌∙◌, ◌-◌, suc, ap, sym, false, arith}
use Rattle.rr_parser.specs.Grammar.Names.{is_splat}
use Rattle.rr_tree.specs.Tree.{tree_at}
use Rattle.rr_eval.specs.Views.{view_of}
use Rattle.rr_eval.proofs.Finishing.{item_waits}
use Rattle.rr_eval.proofs.Invoking.{if_ok}
use Rattle.rr_eval.proofs.Splatted.{if_err}
use Rattle.rr_eval.proofs.engine.Engine.resume_item.Goals as goal

pub returns-else-is_splat-clause-goes : goal.returns-else-is_splat-clause-goes
returns-else-is_splat-clause-goes c =
    let p = c.args.prepared.now.program in
    let ns = p.nodes.items in
    let m = view_of c.args.self.now in
    let t = c.args.space.now in
    let place : c.saturating_sub-part.result ≡ c.args.end - suc c.args.count = omega arith in
    let plain : is_splat (tree_at ns (c.args.end - suc c.args.count)) ≡ false = ap (λ i. is_splat (tree_at ns i)) (sym place) ∙ sym c.is_splat.ensures.is ∙ c.if-is_splat.false in
    if_ok c.resume_other.result _ _ (λ q goes h. item_waits p m t c.args.target c.args.end c.args.count c.args.base c.args.value h m.left plain ∙ goes h) c.resume_other.ensures.goes

pub returns-else-is_splat-clause-back : goal.returns-else-is_splat-clause-back
returns-else-is_splat-clause-back c =
    let p = c.args.prepared.now.program in
    let ns = p.nodes.items in
    let m = view_of c.args.self.now in
    let t = c.args.space.now in
    let place : c.saturating_sub-part.result ≡ c.args.end - suc c.args.count = omega arith in
    let plain : is_splat (tree_at ns (c.args.end - suc c.args.count)) ≡ false = ap (λ i. is_splat (tree_at ns i)) (sym place) ∙ sym c.is_splat.ensures.is ∙ c.if-is_splat.false in
    if_err c.resume_other.result _ _ (λ f back h. item_waits p m t c.args.target c.args.end c.args.count c.args.base c.args.value h m.left plain ∙ back h) c.resume_other.ensures.back
