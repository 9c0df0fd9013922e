use Rattle.std.proofs.Common.{refl}
use Rattle.std.proofs.lemmas.Bool.{and_parts}
use Rattle.rr_space.specs.Kinds.{kind_at}
use Rattle.rr_space.specs.Parts.{value_of, below_ref}
use Rattle.rr_space.specs.Views.{can_write_at}
use Rattle.rr_builtin.specs.Kinds.{is_exception}
use Rattle.rr_builtin.specs.Messages.{with_message}
use Rattle.rr_builtin.proofs.Among.{among_of}
use Rattle.rr_builtin.proofs.Fixing.{fixed_written}
use Rattle.rr_builtin.proofs.Messaging.{exception_is, writable_within}
use Rattle.rr_builtin.proofs.Performing.{writable, writable_among, written_done, read_led}
use Rattle.rr_builtin.proofs.Serving.{served_written}
use Rattle.rr_builtin.proofs.messages.put_message.Goals as goal

pub write_raised-requires-clause-can : goal.write_raised-requires-clause-can
write_raised-requires-clause-can c = (and_parts (is_exception (kind_at c.args.space.now c.args.exception)) (can_write_at c.args.space.now c.args.exception) c.requires.can).1

pub write_raised-requires-clause-kind : goal.write_raised-requires-clause-kind
write_raised-requires-clause-kind c =
    exception_is (kind_at c.args.space.now c.args.exception) (and_parts (is_exception (kind_at c.args.space.now c.args.exception)) (can_write_at c.args.space.now c.args.exception) c.requires.can).0

pub returns : goal.returns
returns c =
    let t = c.args.space.now in
    let new = c.write_raised.new.self in
    let v = c.args.exception in
    let can = (and_parts (is_exception (kind_at t v)) (can_write_at t v) c.requires.can).1 in
    let w = writable t v can in
    let slots = c.write_raised.ensures.slots w.slot w.object w.named w.here in
    record {
      act = λ below read among.
          written_done below t new (with_message (value_of c.args.message)) v v (value_of v) w slots c.write_raised.ensures.keys c.write_raised.ensures.rest
          (read_led below (below_ref c.args.message) t new w.slot read (c.write_raised.ensures.below w.slot w.named) (among_of below c.args.message among)) refl (writable_within t v w) (writable_among below t v w);
      served = served_written t new w.slot _ v slots c.write_raised.ensures.rest (writable_within t v w);
      fixed = fixed_written t v w new.slots _ can slots;
    }
