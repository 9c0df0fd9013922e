-- The chain of the statement becomes another.
use Rattle.std.proofs.Common.{◌≡◌, ◌+◌, ◌∙◌, ◌<◌, List, Some, ap, arith, length, slice_get, subst, sym}
use Rattle.std.proofs.lemmas.Bool.Decides.{nat_tests}
use Rattle.std.proofs.lemmas.Option.{slice_get-get_or}
use Rattle.rr_tree.specs.Nodes.{trees_before}
use Rattle.rr_tree.specs.Tree.{Tree, tree_at}
use Rattle.rr_eval.specs.declared.chains.Link.{Link}
use Rattle.rr_eval.specs.declared.simple_parts.SimplePart.TheVariants.{Apart}
use Rattle.rr_eval.specs.SimpleParts.{AreSimple, IsSimple, filled, linked}
use Rattle.rr_eval.proofs.Becoming.{known_inside, known_some}
use Rattle.rr_eval.proofs.short_calls.filled_statement.Goals as goal

pub returns-in-Some-2 : goal.returns-in-Some-2
returns-in-Some-2 c =
    let p = c.args.program.now in
    let ns = p.nodes.items in
    let given = c.args.given in
    let x = c.args.place in
    let links = c.args.links.now.items in
    let trees = trees_before ns (given.first + given.count) given.count in
    let part = c.in-Some-Apart-Chain in
    let found = part.field-0.now in
    let all = c.deref.result.now in
    let test = part.ensures.lookup.0 in
    let inside : x < length all = grind (arith, nat_tests) in
    let at : slice_get all x ≡ Some found = slice_get-get_or all x found inside ∙ ap Some (sym part.ensures.lookup.1) in
    let there : slice_get c.args.parts.now.items x ≡ Some found = ap (λ l. slice_get l x) (sym c.deref.ensures.value) ∙ at in
    let simple = subst (IsSimple p links (tree_at ns x)) (part.field-0-is ∙ ap Apart part.field-0-0-is) (c.requires.simple x found there) in
    let first = tree_at ns part.chain.first in
    let own = c.in-Some.own.now in
    let begun = c.in-Some-2.begun in
    let is : linked p first own ≡ tree_at ns x = ap (linked p first) c.in-Some.ensures ∙ simple.1.1 in
    let begins = known_some c.in_ok-begun.field-0 begun (λ made. (every : List Link) → AreSimple p every c.args.parts.now.items → filled trees first ≡ Some (linked p (tree_at ns made.first) made.links.items)) c.in-Some-2.is c.in_ok-begun.ensures in
    known_inside c.filled_links.result (λ made. (every : List Link) (a : Tree) → AreSimple p every c.args.parts.now.items → filled trees a ≡ Some (linked p (tree_at ns begun.first) begun.links.items) → filled trees (linked p a own) ≡ Some (linked p (tree_at ns made.first) made.links.items))
    (λ made. filled trees (tree_at ns x) ≡ Some (linked p (tree_at ns made.first) made.links.items)) (λ made fills. ap (filled trees) (sym is) ∙ fills links first c.requires.simple (begins links c.requires.simple)) c.filled_links.ensures
