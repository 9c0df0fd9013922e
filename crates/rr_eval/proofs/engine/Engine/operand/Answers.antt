-- The part is what it is taken for.
use Rattle.std.proofs.Common.{subst}
use Rattle.rr_tree.specs.Tree.{tree_at}
use Rattle.rr_eval.specs.SimpleParts.{IsSimple}
use Rattle.rr_eval.proofs.engine.Engine.operand.Goals as goal

pub returns-in-Some-Apart-clause-takes : goal.returns-in-Some-Apart-clause-takes
returns-in-Some-Apart-clause-takes c =
    let p = c.args.prepared.now.program in
    let links = c.args.prepared.now.simple.links.items in
    let tree = tree_at p.nodes.items c.args.place in
    c.read_apart.ensures.takes links tree (subst (IsSimple p links tree) c.in-Some-Apart.field-0-is c.in-Some-Apart.ensures)

pub returns-in-Some-Apart-clause-plain : goal.returns-in-Some-Apart-clause-plain
returns-in-Some-Apart-clause-plain c =
    let p = c.args.prepared.now.program in
    let links = c.args.prepared.now.simple.links.items in
    let tree = tree_at p.nodes.items c.args.place in
    c.read_apart.ensures.plain links tree (subst (IsSimple p links tree) c.in-Some-Apart.field-0-is c.in-Some-Apart.ensures)
