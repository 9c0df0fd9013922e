use Rattle.std.proofs.Common.{suc, refl}
use Rattle.rr_space.specs.Graph.{Message, Cause, Ractor}
use Rattle.rr_space.proofs.Renumbered.{may_field, zip_fields}
use Rattle.rr_space.proofs.renumber.renumber_raised.Goals as goal

pub renumbered-raised-requires : goal.renumbered-raised-requires
renumbered-raised-requires g c = c.requires 0 (Message, c.args.raised.now.message) refl

pub renumbered-raised-requires-2 : goal.renumbered-raised-requires-2
renumbered-raised-requires-2 g c = c.requires 1 (Cause, c.args.raised.now.cause) refl

pub renumbered-raised-requires-3 : goal.renumbered-raised-requires-3
renumbered-raised-requires-3 g c = c.requires 2 (Ractor, c.args.raised.now.ractor) refl

pub renumber_fields-requires : goal.renumber_fields-requires
renumber_fields-requires g c = may_field (g.R.Renumber.may c.args.by.now) c.args.raised.now.fields.items (λ i p here. c.requires (suc (suc (suc i))) p here)

pub returns : goal.returns
returns g c = (
  record { label = refl; value = c.renumbered-raised.ensures },
  (
    record { label = refl; value = c.renumbered-raised-2.ensures },
    (
      record { label = refl; value = c.renumbered-raised-3.ensures },
      zip_fields (g.R.Renumber.gives c.args.by.now) c.args.raised.now.fields.items c.renumber_fields.new.fields.items c.renumber_fields.ensures,
    ),
  ),
)
