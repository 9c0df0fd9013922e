use Rattle.std.proofs.Common.{◌∷◌, map, ◌∙◌, ap}
use Rattle.rr_space.specs.Graph.{Message, Cause, Ractor}
use Rattle.rr_space.specs.Views.{ref_behind}
use Rattle.rr_space.specs.Parts.{Parts, field_part}
use Rattle.rr_space.proofs.Shifting.{fields_behind}
use Rattle.rr_space.proofs.behind.raised_behind.Goals as goal

pub returns : goal.returns
returns c =
    let k = c.args.count in
    let e = c.args.raised.now in
    rw (c.behind-raised.ensures, c.behind-raised-2.ensures, c.behind-raised-3.ensures)
    (ap (λ (ts : Parts). (Message, ref_behind k e.message) ∷ (Cause, ref_behind k e.cause) ∷ (Ractor, ref_behind k e.ractor) ∷ ts) (ap (map field_part) c.fields_behind.ensures ∙ fields_behind k e.fields.items))
