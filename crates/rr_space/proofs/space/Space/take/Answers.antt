use Rattle.std.proofs.Common.{◌∙◌, ap, sym, subst, length, List}
use Rattle.rr_space.specs.Views.{IsHeldWithin}
use Rattle.rr_space.specs.declared.node.Held.{Held}
use Rattle.rr_space.specs.declared.node.Held.TheVariants.{Shell}
use Rattle.rr_space.proofs.Placing.{put_is, stands, within_at, set_well, count_is, table_of}
use Rattle.rr_space.proofs.space.Space.take.Goals as goal

pub invariant_of-self : goal.invariant_of-self
invariant_of-self c = rw c.replace_at.ensures.items (set_well c.self.inside.slots.items c.self.inside.limit c.args.slot Shell c.self.invariant tt)

pub returns-clause-stood : goal.returns-clause-stood
returns-clause-stood c =
    stands c.self.inside.slots.items c.self.inside.limit c.self.inside.owner.0 c.self.inside.next_message c.args.self.now c.args.slot c.replace_at.result c.self.view_is c.replace_at.ensures.was

pub returns-clause-within : goal.returns-clause-within
returns-clause-within c =
    let items = c.self.inside.slots.items in
    subst (λ k. IsHeldWithin k c.replace_at.result) (sym (count_is items c.self.inside.limit c.self.inside.owner.0 c.self.inside.next_message c.args.self.now c.self.view_is))
    (within_at (length items) items c.args.slot c.replace_at.result c.self.invariant.1 c.replace_at.ensures.was)

pub returns-clause-rest : goal.returns-clause-rest
returns-clause-rest c =
    ap (λ (hs : List Held). table_of hs c.self.inside.limit c.self.inside.owner.0 c.self.inside.next_message) c.replace_at.ensures.items
    ∙ put_is c.self.inside.slots.items c.self.inside.limit c.self.inside.owner.0 c.self.inside.next_message c.args.self.now c.args.slot Shell c.self.view_is
