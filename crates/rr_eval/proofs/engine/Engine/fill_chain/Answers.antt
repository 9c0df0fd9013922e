-- Each link goes on from what those before it give.
use Rattle.std.proofs.Common.{◌≡◌, ◌∙◌, ap, sym, subst, arith, length, drop, get_or}
use Rattle.std.proofs.lemmas.List.{length-take}
use Rattle.rr_tree.specs.Tree.{binary, tree_at}
use Rattle.rr_tree.specs.declared.node.BinaryOperator.TheVariants.{Add}
use Rattle.rr_eval.specs.Filled.{FillsInside}
use Rattle.rr_eval.specs.SimpleParts.{linked, links_of}
use Rattle.rr_eval.specs.Views.{view_of}
use Rattle.rr_eval.specs.declared.chains.Link.{Link}
use Rattle.rr_eval.proofs.Filled.{leaf_fills}
use Rattle.rr_eval.proofs.Linked.{front, no_links}
use Rattle.rr_eval.proofs.engine.Engine.fill_chain.Goals as goal

pub loop-links-init : goal.loop-links-init
loop-links-init c =
    let p = c.args.prepared.now.program in
    let m = view_of c.args.self.now in
    let first = tree_at p.nodes.items c.args.chain.first in
    let count = ap length c.in_ok-links.ensures ∙ length-take c.args.chain.count (drop c.args.chain.from c.args.prepared.now.simple.links.items) in
    let v = c.in_ok-leaf_at.field-0 in
    record {
      fills = (first, λ trees home leaves. leaf_fills p m trees home first v c.in_ok-leaf_at.ensures.is, ap (linked p first) c.in_ok-links.ensures);
      few = omega (arith, c.requires.short, count);
      within = c.in_ok-leaf_at.ensures.within;
    }

pub loop-links-preserved : goal.loop-links-preserved
loop-links-preserved c =
    let p = c.args.prepared.now.program in
    let now = c.loop-links.invariant in
    let rest = c.loop-links.links.now in
    let none : Link = record { op = Add; right = 0 } in
    let link = get_or rest 0 none in
    let tree = now.fills.0 in
    let first = front rest none c.in-len1-up.len_at_least in
    record {
      fills = (binary link.op tree (tree_at p.nodes.items link.right), λ trees home leaves. c.in_ok-found.ensures.fills trees home tree leaves (now.fills.1 trees home leaves), ap (linked p tree) (sym first) ∙ now.fills.2);
      few = omega (arith, now.few, c.in_ok-found.ensures.few, ap length first);
      within = λ k h. c.in_ok-found.ensures.within k;
    }

pub returns-clause-fills : goal.returns-clause-fills
returns-clause-fills c = λ trees home leaves.
    let p = c.args.prepared.now.program in
    let m = view_of c.args.self.now in
    let found = c.loop-links.found in
    let now = c.loop-links.invariant.fills in
    let none = no_links c.loop-links.links.now c.in_default.len_below in
    let whole = linked p (tree_at p.nodes.items c.args.chain.first) (links_of c.args.prepared.now.simple.links.items c.args.chain) in
    let same : now.0 ≡ whole = ap (linked p now.0) (sym none) ∙ now.2 in
    subst (λ z. FillsInside p m trees home z found.steps found.value) same (now.1 trees home leaves)
