use Rattle.std.proofs.Common.{◌∙◌, ap, sym, refl}
use Rattle.std.proofs.lemmas.Bool.{and_parts}
use Rattle.rr_space.specs.Kinds.{kind_at}
use Rattle.rr_space.specs.Parts.{value_of, below_ref}
use Rattle.rr_space.specs.Views.{can_write_at}
use Rattle.rr_builtin.specs.Causes.{with_cause}
use Rattle.rr_builtin.specs.Kinds.{is_exception}
use Rattle.rr_builtin.proofs.Among.{among_of}
use Rattle.rr_builtin.proofs.Causing.{takes_open, caused_written, caused_none, written_slots}
use Rattle.rr_builtin.proofs.Fixing.{fixed_none, fixed_written}
use Rattle.rr_builtin.proofs.Messaging.{exception_is}
use Rattle.rr_builtin.proofs.Performing.{writable, read_led}
use Rattle.rr_builtin.proofs.causes.set_cause.Goals as goal

pub write_raised-requires-clause-can : goal.write_raised-requires-clause-can
write_raised-requires-clause-can c =
    let t = c.args.space.now in
    let v = c.args.exception in
    (and_parts (is_exception (kind_at t v)) (can_write_at t v) (takes_open t (value_of c.args.cause) v (sym c.takes_cause.ensures ∙ c.if-takes_cause.true))).1

pub write_raised-requires-clause-kind : goal.write_raised-requires-clause-kind
write_raised-requires-clause-kind c =
    let t = c.args.space.now in
    let v = c.args.exception in
    exception_is (kind_at t v) (and_parts (is_exception (kind_at t v)) (can_write_at t v) (takes_open t (value_of c.args.cause) v (sym c.takes_cause.ensures ∙ c.if-takes_cause.true))).0

pub returns-then-takes_cause : goal.returns-then-takes_cause
returns-then-takes_cause c =
    let t = c.args.space.now in
    let new = c.write_raised.new.self in
    let v = c.args.exception in
    let takes = sym c.takes_cause.ensures ∙ c.if-takes_cause.true in
    let can = (and_parts (is_exception (kind_at t v)) (can_write_at t v) (takes_open t (value_of c.args.cause) v takes)).1 in
    let w = writable t v can in
    let slots = c.write_raised.ensures.slots w.slot w.object w.named w.here in
    record {
      slots = written_slots t new (with_cause (value_of c.args.cause)) v w slots ∙ sym (ap (λ u. u.slots) (caused_written (value_of c.args.cause) v t takes));
      keys = c.write_raised.ensures.keys;
      rest = c.write_raised.ensures.rest;
      read = λ below read among. read_led below (below_ref c.args.cause) t new w.slot read (c.write_raised.ensures.below w.slot w.named) (among_of below c.args.cause among);
      fixed = fixed_written t v w new.slots _ can slots;
    }

pub returns-else-takes_cause : goal.returns-else-takes_cause
returns-else-takes_cause c =
    let t = c.args.space.now in
    let not = sym c.takes_cause.ensures ∙ c.if-takes_cause.false in
    record {
      slots = sym (ap (λ u. u.slots) (caused_none (value_of c.args.cause) c.args.exception t not));
      keys = refl;
      rest = record { limit = refl; owner = refl; next_message = refl };
      read = λ below read among. read;
      fixed = fixed_none t.slots;
    }
