-- One link more becomes another.
use Rattle.std.proofs.Common.{◌≡◌, ◌+◌, ◌∙◌, ◌++◌, ◌∷◌, [], Some, ap, get_or, refl, subst, sym}
use Rattle.std.proofs.lemmas.List.{append-nil, append_assoc}
use Rattle.rr_tree.specs.Nodes.{trees_before}
use Rattle.rr_tree.specs.Tree.{tree_at}
use Rattle.rr_tree.specs.declared.node.BinaryOperator.TheVariants.{Add}
use Rattle.rr_eval.specs.declared.chains.Link.{Link}
use Rattle.rr_eval.specs.SimpleParts.{filled, linked}
use Rattle.rr_eval.proofs.Becoming.{link_fills}
use Rattle.rr_eval.proofs.Linked.{front, no_links}
use Rattle.rr_eval.proofs.short_calls.filled_links.Goals as goal

pub loop-rest-init : goal.loop-rest-init
loop-rest-init c =
    record { done = ([], refl, λ all a simple e. e) }

pub loop-rest-preserved : goal.loop-rest-preserved
loop-rest-preserved c =
    let p = c.args.program.now in
    let given = c.args.given in
    let trees = trees_before p.nodes.items (given.first + given.count) given.count in
    let now = c.loop-rest.invariant.done in
    let rest = c.loop-rest.rest.now in
    let none : Link = record { op = Add; right = 0 } in
    let link = get_or rest 0 none in
    let first = front rest none c.in-len1-up.len_at_least in
    let made = c.loop-rest.made.items in
    let to = c.in-Some.right in
    record {
      done = (
        now.0 ++ link ∷ [],
        append_assoc now.0 (link ∷ []) _ ∙ ap (λ l. now.0 ++ l) (sym first) ∙ now.1,
        λ all a simple e. subst (λ l. filled trees (linked p a (now.0 ++ link ∷ [])) ≡ Some (linked p (tree_at p.nodes.items c.args.begun.first) l)) (sym c.in_ok-push.ensures.items)
            (link_fills p trees a (tree_at p.nodes.items c.args.begun.first) now.0 made link.op link.right to (now.2 all a simple e) (c.in-Some.ensures all simple)),
      );
    }

pub returns : goal.returns
returns c = λ all a simple e.
    let p = c.args.program.now in
    let given = c.args.given in
    let trees = trees_before p.nodes.items (given.first + given.count) given.count in
    let now = c.loop-rest.invariant.done in
    let none = no_links c.loop-rest.rest.now c.in_default.len_below in
    let same : now.0 ≡ c.args.links.now = sym (append-nil now.0) ∙ ap (λ l. now.0 ++ l) (sym none) ∙ now.1 in
    subst (λ l. filled trees (linked p a l) ≡ Some (linked p (tree_at p.nodes.items c.args.begun.first) c.loop-rest.made.items)) same (now.2 all a simple e)
