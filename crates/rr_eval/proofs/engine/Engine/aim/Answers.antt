-- The next part of a target comes next, or else the right side.
use Rattle.std.proofs.Common.{◌∙◌, ap, drop}
use Rattle.rr_tree.specs.Nodes.{trees_before}
use Rattle.rr_tree.specs.Tree.{tree_at}
use Rattle.rr_eval.specs.Basics.{values, with_value}
use Rattle.rr_eval.specs.Several.{several}
use Rattle.rr_eval.specs.declared.frame.Frame.TheVariants.{Aim}
use Rattle.rr_eval.specs.Turns.{context_of, after_values}
use Rattle.rr_eval.specs.Views.{view_of}
use Rattle.rr_eval.proofs.engine.Engine.aim.Goals as goal

pub returns-in-Some-clause-goes : goal.returns-in-Some-clause-goes
returns-in-Some-clause-goes c t h n =
    let p = c.args.program.now in
    let ns = p.nodes.items in
    let m = view_of c.args.self.now in
    let own = context_of p in
    let x = c.args.aiming in
    let ts = trees_before ns x.end x.count in
    ap (λ l. after_values p m t (Aim x) (values l (drop x.base m.held) (λ ps. with_value (tree_at ns x.value) (several own ts ps))) h n) c.in-Some.ensures.some
    ∙ c.enter_over.ensures.goes p t h n

pub returns-in-None-clause-goes : goal.returns-in-None-clause-goes
returns-in-None-clause-goes c t h n =
    let p = c.args.program.now in
    let ns = p.nodes.items in
    let m = view_of c.args.self.now in
    let own = context_of p in
    let x = c.args.aiming in
    let ts = trees_before ns x.end x.count in
    ap (λ l. after_values p m t (Aim x) (values l (drop x.base m.held) (λ ps. with_value (tree_at ns x.value) (several own ts ps))) h n) (c.first_part.ensures.none c.in-None.is)
    ∙ c.enter_over-in-None.ensures.goes p t h n

pub returns-in-Some-clause-within : goal.returns-in-Some-clause-within
returns-in-Some-clause-within c k h = c.enter_over.ensures.within k h tt

pub returns-in-None-clause-within : goal.returns-in-None-clause-within
returns-in-None-clause-within c k h = c.enter_over-in-None.ensures.within k h tt
