use Rattle.std.proofs.Common.{refl, true}
use Rattle.rr_space.specs.Views.{StandsAt, node_object}
use Rattle.rr_space.specs.declared.node.Held.TheVariants.{Whole, Shell}
use Rattle.rr_space.proofs.Placing.{put_after, changed_slots, below_back, keys_back}
use Rattle.rr_space.proofs.space.Space.freeze.Goals as goal

pub returns-in-Whole-clause-slots : goal.returns-in-Whole-clause-slots
returns-in-Whole-clause-slots c = λ m o is at.
    let t = c.args.self.now in
    let s : StandsAt t c.in-Local.slot (Whole c.in-Whole.field-0 c.in-Whole.node) = c.in-Whole.ensures.stood in
    changed_slots (λ x. record x { frozen = true }) t c.put.new.self c.in-Local.slot m c.args.value (Whole c.in-Whole.field-0 c.in-Whole.node) (Whole true c.in-Whole.node) o (node_object c.in-Whole.node c.in-Whole.field-0)
    c.in-Local.is is s refl refl (put_after t c.take.new.self c.put.new.self c.in-Local.slot Shell (Whole true c.in-Whole.node) c.in-Whole.ensures.rest c.put.ensures) at

pub returns-in-Whole-clause-below : goal.returns-in-Whole-clause-below
returns-in-Whole-clause-below c =
    below_back c.args.self.now c.put.new.self c.in-Local.slot (Whole c.in-Whole.field-0 c.in-Whole.node) (Whole true c.in-Whole.node) c.in-Whole.ensures.stood
    (put_after c.args.self.now c.take.new.self c.put.new.self c.in-Local.slot Shell (Whole true c.in-Whole.node) c.in-Whole.ensures.rest c.put.ensures) refl

pub returns-in-Whole-clause-keys : goal.returns-in-Whole-clause-keys
returns-in-Whole-clause-keys c =
    keys_back c.args.self.now c.put.new.self c.in-Local.slot (Whole c.in-Whole.field-0 c.in-Whole.node) (Whole true c.in-Whole.node) c.in-Whole.ensures.stood
    (put_after c.args.self.now c.take.new.self c.put.new.self c.in-Local.slot Shell (Whole true c.in-Whole.node) c.in-Whole.ensures.rest c.put.ensures) refl
