use Rattle.std.proofs.Common.{take}
use Rattle.std.specs.List.{AllZip}
use Rattle.rr_space.specs.Views.{IsCarriedField}
use Rattle.rr_space.proofs.space.Space.carried_fields.Given as goal

abbrev pub invariant-loop-field : goal.invariant-loop-field
invariant-loop-field l = AllZip (IsCarriedField l.self l.names) (take l.field-index l.fields) l.copies.items
