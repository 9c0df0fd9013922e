use Rattle.std.proofs.Common.{◌∙◌, ap, length, slice_get, slice_set, []}
use Rattle.std.proofs.Math.Seq.{set-append_seam}
use Rattle.rr_space.specs.Tables.{Here}
use Rattle.rr_space.specs.Lookups.{frozen_text, text_object}
use Rattle.rr_space.proofs.Extending.{get_seam}
use Rattle.rr_space.proofs.space.Space.alloc_frozen.Goals as goal

pub returns-clause-slots : goal.returns-clause-slots
returns-clause-slots c =
    let old = c.args.self.now.slots in
    let bytes = c.args.bytes.items in
    let e = c.in_ok-name.ensures in
    c.freeze.ensures.slots (length old) (text_object bytes) e.name (ap (λ ss. slice_get ss (length old)) e.slots ∙ get_seam old (Here (text_object bytes)))
    ∙ ap (λ ss. slice_set ss (length old) (Here (frozen_text bytes))) e.slots ∙ set-append_seam old (Here (text_object bytes)) [] (Here (frozen_text bytes))
