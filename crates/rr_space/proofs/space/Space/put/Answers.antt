use Rattle.std.proofs.Common.{◌∙◌, ap, subst, length, List}
use Rattle.rr_space.specs.Views.{IsHeldWithin}
use Rattle.rr_space.specs.declared.node.Held.{Held}
use Rattle.rr_space.proofs.Placing.{put_is, set_well, count_is, table_of}
use Rattle.rr_space.proofs.space.Space.put.Goals as goal

pub invariant_of-self : goal.invariant_of-self
invariant_of-self c =
    let items = c.self.inside.slots.items in
    let w : IsHeldWithin (length items) c.args.held = subst (λ k. IsHeldWithin k c.args.held) (count_is items c.self.inside.limit c.self.inside.owner.0 c.self.inside.next_message c.args.self.now c.self.view_is) c.requires.within in
    rw c.replace_at.ensures.items (set_well items c.self.inside.limit c.args.slot c.args.held c.self.invariant w)

pub returns : goal.returns
returns c =
    ap (λ (hs : List Held). table_of hs c.self.inside.limit c.self.inside.owner.0 c.self.inside.next_message) c.replace_at.ensures.items
    ∙ put_is c.self.inside.slots.items c.self.inside.limit c.self.inside.owner.0 c.self.inside.next_message c.args.self.now c.args.slot c.args.held c.self.view_is
