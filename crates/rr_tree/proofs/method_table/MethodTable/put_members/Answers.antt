-- One member more.
use Rattle.std.proofs.Common.{◌≡◌, ◌+◌, ◌∙◌, [], ◌∷◌, ◌++◌, List, Some, length, take, ap, arith}
use Rattle.std.proofs.Math.Seq.{take-length}
use Rattle.rr_tree.specs.Tree.{Tree, tree_at}
use Rattle.rr_tree.specs.Nodes.{trees_in}
use Rattle.rr_tree.specs.Methods.{Definition, standing_in, called, kept_under}
use Rattle.rr_tree.proofs.Defined.{adds_more, member_more, length-trees_in}
use Rattle.rr_tree.proofs.method_table.MethodTable.put_members.Goals as goal

pub loop-number-preserved : goal.loop-number-preserved
loop-number-preserved c = (
  c.put.ensures.named,
  λ x.
      let ns = c.args.program.now.nodes.items in
      let class = Some c.args.class.0 in
      let first = c.args.first in
      let n = c.loop-number.number in
      let so_far = standing_in class (take n (trees_in ns first c.args.count)) in
      let one = standing_in class (tree_at ns (first + n) ∷ []) in
      adds_more c.args.program.now c.args.self.now c.loop-number.self c.put.new.self so_far one c.loop-number.invariant.1 c.in_ok-put.ensures.adds x
      ∙ ap (λ (ds : List Definition). kept_under ns c.args.self.now x ++ called c.args.program.now x ds) (member_more ns class first c.args.count n c.requires.within (omega arith)),
)

pub put-requires : goal.put-requires
put-requires c = c.loop-number.invariant.0

pub returns-clause-named : goal.returns-clause-named
returns-clause-named c = c.loop-number.invariant.0

pub returns-clause-adds : goal.returns-clause-adds
returns-clause-adds c x =
    let ns = c.args.program.now.nodes.items in
    let ts = trees_in ns c.args.first c.args.count in
    let size = length-trees_in ns c.args.first c.args.count c.requires.within in
    let all : c.loop-number.number ≡ length ts = omega (arith, size) in
    c.loop-number.invariant.1 x ∙ ap (λ (l : List Tree). kept_under ns c.args.self.now x ++ called c.args.program.now x (standing_in (Some c.args.class.0) l)) (ap (λ k. take k ts) all ∙ take-length ts)
