-- One definition more.
use Rattle.std.proofs.Common.{◌≡◌, ◌<◌, ◌∙◌, ◌++◌, List, length, map, take, get_or, ap, sym, arith}
use Rattle.std.specs.Prelude.{flat_map}
use Rattle.std.proofs.Math.Seq.{take-length}
use Rattle.std.proofs.lemmas.List.{get_or-map, length-map}
use Rattle.std.proofs.lemmas.List.Elements.{filter-append}
use Rattle.rr_tree.specs.Tree.{Tree, nil, tree_at}
use Rattle.rr_tree.specs.Methods.{Definition, calls, called, definitions_in}
use Rattle.rr_tree.proofs.Defined.{top_more}
use Rattle.rr_tree.proofs.method_table.MethodTable.of.Goals as goal

pub loop-number-preserved : goal.loop-number-preserved
loop-number-preserved c = (
  c.put_top.ensures.named,
  λ x.
      let ns = c.args.program.now.nodes.items in
      let places = c.args.program.now.definitions.items in
      let ts = map (tree_at ns) places in
      let n = c.loop-number.number in
      let lt : n < length places = omega (arith, c.loop-number-test.true, c.len-number-end.ensures) in
      let below : n < length ts = omega (arith, length-map places (tree_at ns)) in
      let so_far = flat_map definitions_in (take n ts) in
      let there : get_or ts n nil ≡ tree_at ns c.index.result.now = get_or-map (tree_at ns) places n c.index.result.now nil lt ∙ ap (tree_at ns) (sym c.index.ensures) in
      c.in_ok-put_top.ensures.adds x
      ∙ ap (λ (l : List Definition). l ++ called c.args.program.now x (definitions_in (tree_at ns c.index.result.now))) (c.loop-number.invariant.1 x)
      ∙ sym (filter-append (λ (d : Definition). calls c.args.program.now x d.tree) so_far (definitions_in (tree_at ns c.index.result.now)))
      ∙ ap (called c.args.program.now x) (ap (λ (t : Tree). so_far ++ definitions_in t) (sym there) ∙ top_more ts n below),
)

pub put_top-requires : goal.put_top-requires
put_top-requires c = c.loop-number.invariant.0

pub returns : goal.returns
returns c x =
    let ts = map (tree_at c.args.program.now.nodes.items) c.args.program.now.definitions.items in
    let all : c.loop-number.number ≡ length ts = omega (arith, length-map c.args.program.now.definitions.items (tree_at c.args.program.now.nodes.items), c.len-number-end.ensures) in
    c.loop-number.invariant.1 x ∙ ap (λ (l : List Tree). called c.args.program.now x (flat_map definitions_in l)) (ap (λ k. take k ts) all ∙ take-length ts)
