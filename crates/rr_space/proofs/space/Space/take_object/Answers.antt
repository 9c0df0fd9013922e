use Rattle.std.proofs.Common.{IsTrue, Some, ap, sym, subst, ◌∙◌}
use Rattle.rr_space.specs.Tables.{Table}
use Rattle.rr_space.specs.Views.{is_whole, node_object, node_parts}
use Rattle.rr_space.proofs.Carrying.{known_part, copy_matches, copy_below, copied_within, not_whole}
use Rattle.rr_space.proofs.Taking.{known_mid, parts_mid}
use Rattle.rr_space.proofs.space.Space.take_object.Goals as goal

pub renumbered-node-requires : goal.renumbered-node-requires
renumbered-node-requires c = λ k p at.
    let t = c.args.self.now in
    let n = c.args.slot in
    let node = c.in-Whole.node in
    let f = c.in-Whole.frozen in
    let mid = c.take.new.self in
    let here = c.in-Whole.ensures.stood.slot in (
      c.requires.few,
      known_mid t mid n (node_object node f) here (ap (λ (u : Table). u.slots) c.in-Whole.ensures.rest) (ap (λ (u : Table). u.below) c.in-Whole.ensures.rest) c.args.names.now p.1
          (known_part t c.args.names.now n node node f here c.requires.known k p at),
    )

pub returns-clause-matches : goal.returns-clause-matches
returns-clause-matches c =
    let t = c.args.self.now in
    let n = c.args.slot in
    let node = c.in-Whole.node in
    let f = c.in-Whole.frozen in
    let here = c.in-Whole.ensures.stood.slot in
    let parts = parts_mid t c.take.new.self n (node_object node f) here (ap (λ (u : Table). u.slots) c.in-Whole.ensures.rest) (ap (λ (u : Table). u.below) c.in-Whole.ensures.rest) c.args.names.now
    (node_parts node) (node_parts c.renumbered-node.result) c.renumbered-node.ensures.parts in
    copy_matches t c.args.names.now n node c.renumbered-node.result f here parts c.renumbered-node.ensures.head

pub returns-clause-within : goal.returns-clause-within
returns-clause-within c =
    let t = c.args.self.now in
    let n = c.args.slot in
    let node = c.in-Whole.node in
    let f = c.in-Whole.frozen in
    let here = c.in-Whole.ensures.stood.slot in
    let parts = parts_mid t c.take.new.self n (node_object node f) here (ap (λ (u : Table). u.slots) c.in-Whole.ensures.rest) (ap (λ (u : Table). u.below) c.in-Whole.ensures.rest) c.args.names.now
    (node_parts node) (node_parts c.renumbered-node.result) c.renumbered-node.ensures.parts in
    copied_within t c.args.names.now (node_parts node) (node_parts c.renumbered-node.result) parts c.in-Whole.ensures.within

pub returns-clause-clusters : goal.returns-clause-clusters
returns-clause-clusters c =
    let t = c.args.self.now in
    let n = c.args.slot in
    let node = c.in-Whole.node in
    let f = c.in-Whole.frozen in
    let here = c.in-Whole.ensures.stood.slot in
    let parts = parts_mid t c.take.new.self n (node_object node f) here (ap (λ (u : Table). u.slots) c.in-Whole.ensures.rest) (ap (λ (u : Table). u.below) c.in-Whole.ensures.rest) c.args.names.now
    (node_parts node) (node_parts c.renumbered-node.result) c.renumbered-node.ensures.parts in
    copy_below t c.args.names.now n node c.renumbered-node.result f here parts c.renumbered-node.ensures.head c.in-Whole.ensures.stood.below

pub returns-clause-its_keys : goal.returns-clause-its_keys
returns-clause-its_keys c = c.in-Whole.ensures.stood.keys ∙ ap Some (sym c.renumbered-node.ensures.head.keys)

pub unreachable-requires : goal.unreachable-requires
unreachable-requires c = not_whole c.take.result (subst (λ v. IsTrue (is_whole v)) c.take.ensures.stood.slot c.requires.whole) c.in_default.not-Whole
