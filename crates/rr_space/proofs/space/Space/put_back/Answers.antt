use Rattle.std.proofs.Common.{length, slice_set, ap, ◌∙◌}
use Rattle.rr_space.specs.Tables.{Table}
use Rattle.rr_space.specs.Views.{node_parts}
use Rattle.rr_space.proofs.Taking.{within_one, home_within, home_slot, home_below}
use Rattle.rr_space.proofs.space.Space.put_back.Goals as goal

pub renumbered-node-requires : goal.renumbered-node-requires
renumbered-node-requires c = λ k p at. within_one (length c.args.home.now) (node_parts c.args.object.node) k p c.requires.within at

pub put-requires-clause-within : goal.put-requires-clause-within
put-requires-clause-within c =
    home_within c.args.home.now (length c.args.self.now.slots) c.requires.home (node_parts c.args.object.node) (node_parts c.renumbered-node.result) c.renumbered-node.ensures.parts c.requires.within

pub returns-clause-slots : goal.returns-clause-slots
returns-clause-slots c =
    ap (λ (t : Table). t.slots) c.put.ensures
    ∙ ap (slice_set c.args.self.now.slots c.args.slot) (home_slot c.args.home.now c.args.object.node c.renumbered-node.result c.args.object.frozen c.renumbered-node.ensures.head c.renumbered-node.ensures.parts)

pub returns-clause-below : goal.returns-clause-below
returns-clause-below c =
    ap (λ (t : Table). t.below) c.put.ensures
    ∙ ap (slice_set c.args.self.now.below c.args.slot) (home_below c.args.home.now (node_parts c.args.object.node) (node_parts c.renumbered-node.result) c.renumbered-node.ensures.parts)

pub returns-clause-keys : goal.returns-clause-keys
returns-clause-keys c = ap (λ (t : Table). t.keys) c.put.ensures ∙ ap (slice_set c.args.self.now.keys c.args.slot) c.renumbered-node.ensures.head.keys
