-- One link more stands behind the others.
use Rattle.std.proofs.Common.{◌≡◌, ◌+◌, ◌<◌, sym, subst, arith, length}
use Rattle.rr_tree.specs.Tree.{binary, tree_at}
use Rattle.rr_eval.specs.declared.chains.Link.{Link}
use Rattle.rr_eval.specs.SimpleParts.{AreSimple, IsChain}
use Rattle.rr_eval.proofs.Linked.{chain_longer, parts_wider}
use Rattle.rr_eval.proofs.chains.chain_behind.Goals as goal

pub returns-clause-chain : goal.returns-clause-chain
returns-clause-chain c =
    let p = c.args.program.now in
    let links = c.args.links.now.items in
    let chain = c.in-Some.chain in
    let tree = tree_at p.nodes.items c.args.a in
    let l : Link = record { op = c.args.op; right = c.args.b } in
    let is = c.in-Some.ensures links c.requires (omega (arith, c.in-Ok.ensures, c.len.ensures)) in
    let short : chain.count < 7 = omega (arith, c.len-else-chain-ge-LONGEST.ensures) in
    let ends : chain.from + chain.count ≡ length links = omega (arith, c.if-chain-len.false, c.len-else-chain-ge-LONGEST.ensures) in
    subst (λ ls. IsChain p ls (record chain { count = chain.count + 1 }) (binary c.args.op tree (tree_at p.nodes.items c.args.b))) (sym c.in_ok-push.ensures.items) (chain_longer p links chain l tree is short ends)

pub returns-clause-parts : goal.returns-clause-parts
returns-clause-parts c =
    let p = c.args.program.now in
    let parts = c.args.parts.now.items in
    let l : Link = record { op = c.args.op; right = c.args.b } in
    subst (λ ls. AreSimple p ls parts) (sym c.in_ok-push.ensures.items) (parts_wider p c.args.links.now.items l parts c.requires)
