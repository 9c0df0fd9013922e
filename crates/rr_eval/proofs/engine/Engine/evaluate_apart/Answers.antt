-- The part is what it is taken for.
use Rattle.std.proofs.Common.{◌≤◌, IfSome, None, Option, Some, arith, subst}
use Rattle.rr_tree.specs.Tree.{tree_at}
use Rattle.rr_eval.specs.declared.usual.Quick.{Quick}
use Rattle.rr_eval.specs.SimpleParts.{IsApart, IsSimple}
use Rattle.rr_eval.proofs.engine.Engine.evaluate_apart.Goals as goal

pub chained-requires : goal.chained-requires
chained-requires c =
    let p = c.args.prepared.now.program in
    let links = c.args.prepared.now.simple.links.items in
    let tree = tree_at p.nodes.items c.args.place in
    subst (IsApart p links tree) c.in-Chain.is (subst (IsSimple p links tree) c.in-Some-Apart.field-0-is c.in-Some-Apart.ensures)

few : (o : Option Quick) → IfSome o (λ q. q.steps ≤ 2) → IfSome o (λ q. q.steps ≤ 31)
few (Some q) h = omega (arith, h)
few None h = tt

pub returns-in_default-apart : goal.returns-in_default-apart
returns-in_default-apart c =
    let p = c.args.prepared.now.program in
    let links = c.args.prepared.now.simple.links.items in
    let tree = tree_at p.nodes.items c.args.place in
    let is = subst (IsSimple p links tree) c.in-Some-Apart.field-0-is c.in-Some-Apart.ensures in
    let reads = c.read_apart.ensures in
    record { takes = reads.takes links tree is; plain = reads.plain links tree is; some = reads.some; few = few c.read_apart.result reads.few; within = reads.within }
