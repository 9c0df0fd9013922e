use Rattle.std.proofs.Common.{Some, length, IsTrue, subst, sym, ap, ◌∙◌}
use Rattle.rr_space.specs.Views.{node_parts, is_whole, StandsAt, IsHeldWithin}
use Rattle.rr_space.proofs.Carrying.{known_part, copy_matches, copy_below, copied_within, not_whole, whole_stands, whole_within}
use Rattle.rr_space.proofs.space.Space.copy_object.Goals as goal

pub carried_node-requires-clause-known : goal.carried_node-requires-clause-known
carried_node-requires-clause-known c =
    let t = c.args.self.now in
    let n = c.args.slot in
    let s = subst (StandsAt t n) c.in-Whole.is (whole_stands c.self.inside.slots.items c.self.inside.limit c.self.inside.owner.0 c.self.inside.next_message t n c.index.result.now c.self.view_is c.requires.whole c.index.ensures) in
    known_part t c.args.names.now n c.in-Whole.node c.in-Whole.node c.in-Whole.frozen s.slot c.requires.known

pub unreachable-requires : goal.unreachable-requires
unreachable-requires c =
    let t = c.args.self.now in
    let n = c.args.slot in
    let h = c.index.result.now in
    let s = whole_stands c.self.inside.slots.items c.self.inside.limit c.self.inside.owner.0 c.self.inside.next_message t n h c.self.view_is c.requires.whole c.index.ensures in
    not_whole h (subst (λ v. IsTrue (is_whole v)) s.slot c.requires.whole) c.in_default.not-Whole

pub returns-clause-matches : goal.returns-clause-matches
returns-clause-matches c =
    let t = c.args.self.now in
    let n = c.args.slot in
    let copy = c.in_ok-carried_node-in-Whole in
    let s = subst (StandsAt t n) c.in-Whole.is (whole_stands c.self.inside.slots.items c.self.inside.limit c.self.inside.owner.0 c.self.inside.next_message t n c.index.result.now c.self.view_is c.requires.whole c.index.ensures) in
    copy_matches t c.args.names.now n c.in-Whole.node copy.field-0 c.in-Whole.frozen s.slot copy.ensures.parts copy.ensures.head

pub returns-clause-within : goal.returns-clause-within
returns-clause-within c =
    let t = c.args.self.now in
    let copy = c.in_ok-carried_node-in-Whole in
    let w = whole_within c.self.inside.slots.items c.self.inside.limit c.self.inside.owner.0 c.self.inside.next_message t c.args.slot c.index.result.now c.self.view_is c.requires.whole c.index.ensures c.self.invariant.1 in
    copied_within t c.args.names.now (node_parts c.in-Whole.node) (node_parts copy.field-0) copy.ensures.parts (subst (IsHeldWithin (length t.slots)) c.in-Whole.is w)

pub returns-clause-below : goal.returns-clause-below
returns-clause-below c =
    let t = c.args.self.now in
    let n = c.args.slot in
    let copy = c.in_ok-carried_node-in-Whole in
    let s = subst (StandsAt t n) c.in-Whole.is (whole_stands c.self.inside.slots.items c.self.inside.limit c.self.inside.owner.0 c.self.inside.next_message t n c.index.result.now c.self.view_is c.requires.whole c.index.ensures) in
    copy_below t c.args.names.now n c.in-Whole.node copy.field-0 c.in-Whole.frozen s.slot copy.ensures.parts copy.ensures.head s.below

pub returns-clause-keys : goal.returns-clause-keys
returns-clause-keys c =
    let t = c.args.self.now in
    let n = c.args.slot in
    let s = subst (StandsAt t n) c.in-Whole.is (whole_stands c.self.inside.slots.items c.self.inside.limit c.self.inside.owner.0 c.self.inside.next_message t n c.index.result.now c.self.view_is c.requires.whole c.index.ensures) in
    s.keys ∙ ap Some (sym c.in_ok-carried_node-in-Whole.ensures.head.keys)
