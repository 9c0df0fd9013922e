use Rattle.std.proofs.Common.{◌≡◌, ◌-◌, suc, List, map, ap, ◌∙◌, slice_get, arith}
use Rattle.rr_base.specs.declared.name.Sym.{Sym}
use Rattle.rr_space.specs.Parts.{raised_parts, field_part}
use Rattle.rr_space.specs.declared.refer.Ref.{Ref}
use Rattle.rr_space.proofs.part.nth_of_raised.Goals as goal

pub returns-in_default : goal.returns-in_default
returns-in_default c =
    c.nth_field.ensures
    ∙ ap (λ (xs : List (Sym × Ref)). slice_get (map field_part xs) (c.args.k - 3)) c.deref.ensures.value
    ∙ ap (slice_get (raised_parts c.args.raised.now)) (let e : suc (suc (suc (c.args.k - 3))) ≡ c.args.k = omega arith in e)
