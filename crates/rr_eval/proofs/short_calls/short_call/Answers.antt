-- The links of the chain stand behind the others.
use Rattle.std.proofs.Common.{◌≡◌, ◌+◌, ◌∙◌, ◌≤◌, ◌++◌, Some, ap, arith, length, length-append, subst, sym, true}
use Rattle.rr_tree.specs.Nodes.{trees_before}
use Rattle.rr_tree.specs.Tree.{listed, tree_at}
use Rattle.rr_tree.specs.declared.node.Node.TheVariants.{Sequence}
use Rattle.rr_eval.specs.declared.chains.Chain.{Chain}
use Rattle.rr_eval.specs.Basics.{items}
use Rattle.rr_eval.specs.Nodes.{evaluated_tree}
use Rattle.rr_eval.specs.SimpleParts.{AreSimple, are_leaves, filled, filled_list, linked, links_of, most}
use Rattle.rr_eval.proofs.Filled.{trees_as_many}
use Rattle.rr_eval.proofs.Becoming.{filled_single, known_some, links_behind, parts_wider_all}
use Rattle.rr_eval.proofs.Trees.{items_listed}
use Rattle.rr_eval.proofs.short_calls.short_call.Goals as goal

pub returns-clause-parts : goal.returns-clause-parts
returns-clause-parts c =
    let p = c.args.program.now in
    let parts = c.args.parts.now.items in
    let made = c.in-Some-2.made.links.items in
    let all = c.in_ok-extend_from_slice.ensures.items ∙ ap (λ l. c.args.links.now.items ++ l) c.as_slice.ensures.value in
    subst (λ l. AreSimple p l parts) (sym all) (parts_wider_all p c.args.links.now.items made parts c.requires.simple)

pub returns-clause-call : goal.returns-clause-call
returns-clause-call c =
    let p = c.args.program.now in
    let ns = p.nodes.items in
    let given = c.args.given in
    let links = c.args.links.now.items in
    let made = c.in-Some-2.made in
    let more = made.links.items in
    let trees = trees_before ns (given.first + given.count) given.count in
    let own = items (listed trees) in
    let same : trees ≡ own = sym (items_listed trees) in
    let from = c.in-Ok-Ok.from in
    let count = c.in-Ok-Ok.count in
    let few = c.if-count-gt-MOST.false in
    let fewer = c.if-given-gt-MOST.false in
    let all = c.in_ok-extend_from_slice.ensures.items ∙ ap (λ l. links ++ l) c.as_slice.ensures.value in
    let begin : from ≡ length links = omega (arith, c.in-Ok-Ok.ensures, c.len.ensures) in
    let size : count ≡ length more = omega (arith, c.in-Ok-Ok.ensures', c.len-2.ensures) in
    let statements = c.in-Sequence-default-eq1 in
    let one = statements.count-test in
    let single : statements.count ≡ 1 = omega (arith, one) in
    let is = subst (λ n. tree_at ns c.in-Some.body.node ≡ evaluated_tree ns (Sequence statements.first n)) single statements.ensures.tree in
    let fills = known_some c.in_ok-made.field-0 made (λ f. filled trees (tree_at ns statements.first) ≡ Some (linked p (tree_at ns f.first) f.links.items)) c.in-Some-2.is c.in_ok-made.ensures in
    let chain : Chain = record { first = made.first; from = from; count = count } in
    let behind : links_of c.extend_from_slice.new.self.items chain ≡ more = ap (λ l. links_of l chain) all ∙ links_behind links more from count begin size in
    let fit : from + count ≤ length c.extend_from_slice.new.self.items = omega (arith, begin, size, ap length all, length-append links more) in
    let short : count ≤ most = omega (arith, few) in
    let many : length trees ≤ most = omega (arith, fewer, trees_as_many ns (given.first + given.count) given.count) in
    let leaves = c.are_leaves.ensures c.if-not-are_leaves.false links c.requires.simple in
    let whole : filled_list trees (tree_at ns c.in-Some.body.node) ≡ Some (linked p (tree_at ns made.first) (links_of c.extend_from_slice.new.self.items chain)) =
    filled_single ns trees (tree_at ns c.in-Some.body.node) statements.first is ∙ fills ∙ ap (λ l. Some (linked p (tree_at ns made.first) l)) (sym behind) in
    (fit, short, subst (λ l. length l ≤ most) same many, subst (λ l. are_leaves l ≡ true) same leaves, subst (λ l. filled_list l (tree_at ns c.in-Some.body.node) ≡ Some (linked p (tree_at ns made.first) (links_of c.extend_from_slice.new.self.items chain))) same whole)
