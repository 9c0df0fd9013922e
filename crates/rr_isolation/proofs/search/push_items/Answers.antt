use Rattle.std.proofs.Common.{◌∙◌, sym, ap, arith, ◌+◌, ◌-◌, ◌++◌, ◌∷◌, [], List, append_assoc}
use Rattle.std.specs.List.{range_with_len}
use Rattle.rr_isolation.specs.Numbers.{spots}
use Rattle.rr_isolation.specs.declared.search.Spot.{Spot}
use Rattle.rr_isolation.proofs.Spots.{spot, spots_more}
use Rattle.rr_isolation.proofs.search.push_items.Goals as goal

pub loop-node-preserved : goal.loop-node-preserved
loop-node-preserved c =
    let old = c.args.pending.now.items in
    let first = c.args.first in
    let node = c.loop-node.node in
    let before = spots c.args.blocks (range_with_len first (node - first)) in
    let one = spot c.args.blocks node ∷ [] in
    c.in_ok-push.ensures.items
    ∙ ap (λ (l : List Spot). l ++ one) c.loop-node.invariant
    ∙ append_assoc old before one
    ∙ ap (λ (l : List Spot). old ++ l) (sym (spots_more c.args.blocks first (node - first) (node + 1 - first) node (omega arith) (omega arith)))
