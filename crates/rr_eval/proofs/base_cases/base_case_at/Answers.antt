-- The choice is what it is taken for.
use Rattle.std.proofs.Common.{◌≡◌, ◌<◌, ◌∙◌, Some, ap, arith, length, slice_get, subst, sym, rules, w64, to_z, of_z}
use Rattle.std.proofs.lemmas.Bool.Decides.{nat_tests}
use Rattle.std.proofs.lemmas.Option.{slice_get-get_or}
use Rattle.rr_tree.specs.Tree.{tree_at}
use Rattle.rr_eval.specs.declared.simple_parts.SimplePart.TheVariants.{WithInt}
use Rattle.rr_eval.specs.BaseCases.{base_of, part_of}
use Rattle.rr_eval.specs.SimpleParts.{IsSimple, simple_of}
use Rattle.rr_eval.proofs.BaseCases.{base_known}
use Rattle.rr_eval.proofs.base_cases.base_case_at.Goals as goal

pub returns : goal.returns
returns c =
    let p = c.args.program.now in
    let ns = p.nodes.items in
    let node = c.in-Choose in
    let part = c.in-Some-WithInt in
    let found = part.field-0.now in
    let x = node.condition in
    let all = c.deref.result.now in
    let test = part.ensures.lookup.0 in
    let inside : x < length all = grind (arith, nat_tests) in
    let at : slice_get all x ≡ Some found = slice_get-get_or all x found inside ∙ ap Some (sym part.ensures.lookup.1) in
    let there : slice_get c.args.simple.now.parts.items x ≡ Some found = ap (λ l. slice_get l x) (sym c.deref.ensures.value) ∙ at in
    let simple : WithInt part.op part.variable part.integer ≡ simple_of (tree_at ns x) = subst (IsSimple p c.args.simple.now.links.items (tree_at ns x)) part.field-0-is (c.requires x found there) in
    let own = c.if-variable-ne0.false in
    let whole : to_z w64 (of_z w64 part.integer) ≡ part.integer = search rules in
    let ending = c.in_ok-ending.ending in
    let is = base_known (tree_at ns c.args.place) (tree_at ns x) (tree_at ns node.yes) (tree_at ns node.no) part.op part.variable part.integer (ending.returns, (tree_at ns ending.value, ending.steps)) (part_of ns c.unless_nil.result)
    node.ensures.tree simple (omega (arith, own)) c.in_ok-ending.ensures.is c.unless_nil.ensures in
    (subst (λ z. base_of (tree_at ns c.args.place) ≡ Some (WithInt part.op (record { depth = 0; slot = part.variable.slot }) z, ((ending.returns, (tree_at ns ending.value, ending.steps)), part_of ns c.unless_nil.result))) (sym whole) is, c.in_ok-ending.ensures.few)
