use Rattle.std.proofs.Common.{◌∙◌, ap, List, arith}
use Rattle.rr_space.specs.declared.node.Held.{Held}
use Rattle.rr_space.proofs.Extending.{first_well, take_is}
use Rattle.rr_space.proofs.Placing.{count_is, stands, table_of}
use Rattle.rr_space.specs.Tables.{Slot}
use Rattle.std.proofs.Common.{Some}
use Rattle.rr_space.proofs.space.Space.forget_behind.Goals as goal

pub invariant_of-self : goal.invariant_of-self
invariant_of-self c =
    let hs = c.self.inside.slots.items in
    let size = count_is hs c.self.inside.limit c.self.inside.owner.0 c.self.inside.next_message c.args.self.now c.self.view_is in
    rw c.truncate.ensures.items (first_well hs c.self.inside.limit c.args.count c.self.invariant (omega (arith, size, c.requires.count))
    (λ n h lt at o l x is has. c.requires.apart n o l x lt ((stands hs c.self.inside.limit c.self.inside.owner.0 c.self.inside.next_message c.args.self.now n h c.self.view_is at).slot ∙ ap (λ (s : Slot). Some s) is) has))

pub returns : goal.returns
returns c =
    ap (λ (hs : List Held). table_of hs c.self.inside.limit c.self.inside.owner.0 c.self.inside.next_message) c.truncate.ensures.items
    ∙ take_is c.self.inside.slots.items c.self.inside.limit c.self.inside.owner.0 c.self.inside.next_message c.args.self.now c.args.count c.self.view_is
