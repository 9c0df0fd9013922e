-- Each link goes on from what those before it give.
use Rattle.std.proofs.Common.{◌∙◌, ap, sym, arith, length, drop, get_or}
use Rattle.std.proofs.lemmas.List.{length-take}
use Rattle.rr_tree.specs.Tree.{binary, tree_at}
use Rattle.rr_tree.specs.declared.node.BinaryOperator.TheVariants.{Add}
use Rattle.rr_eval.specs.SimpleParts.{linked}
use Rattle.rr_eval.specs.declared.chains.Link.{Link}
use Rattle.rr_eval.proofs.Linked.{front}
use Rattle.rr_eval.proofs.engine.Engine.chain_unframed.Goals as goal

pub loop-links-init : goal.loop-links-init
loop-links-init c =
    let p = c.args.prepared.now.program in
    let first = tree_at p.nodes.items c.args.chain.first in
    let count = ap length c.in_ok-links.ensures ∙ length-take c.args.chain.count (drop c.args.chain.from c.args.prepared.now.simple.links.items) in
    let ends = ap (linked p first) c.in_ok-links.ensures ∙ c.requires.1.1 in
    record {
      takes = (first, c.in_ok-found.ensures.takes, ends);
      few = omega (arith, c.requires.2, count, c.in_ok-found.ensures.few);
      within = c.in_ok-found.ensures.within;
    }

pub loop-links-preserved : goal.loop-links-preserved
loop-links-preserved c =
    let p = c.args.prepared.now.program in
    let now = c.loop-links.invariant in
    let rest = c.loop-links.links.now in
    let none : Link = record { op = Add; right = 0 } in
    let link = get_or rest 0 none in
    let tree = now.takes.0 in
    let first = front rest none c.in-len1-up.len_at_least in
    record {
      takes = (binary link.op tree (tree_at p.nodes.items link.right), c.in_ok-found-2.ensures.takes tree now.takes.1, ap (linked p tree) (sym first) ∙ now.takes.2);
      few = omega (arith, now.few, c.in_ok-found-2.ensures.few, ap length first);
      within = c.in_ok-found-2.ensures.within;
    }
