-- References whose forwards are followed.
use Rattle.std.proofs.Common.{◌≡◌, ℕ, ◌≤◌, length, sym, ap, ◌∙◌}
use Rattle.std.proofs.lemmas.Option.{slice_get_past}
use Rattle.rr_space.specs.Graph.{At}
use Rattle.rr_space.specs.Tables.{Table, resolve, resolve_slot, end_of}
use Rattle.rr_space.specs.Parts.{value_of}
use Rattle.rr_space.specs.Views.{StandsAt, slot_of}
use Rattle.rr_space.specs.declared.refer.Ref.{Ref}
use Rattle.rr_space.specs.declared.refer.Ref.TheVariants.{Local}
use Rattle.rr_space.specs.declared.node.Held.{Held}

-- where a slot leads, by what stands in it
pub resolved_here : (t : Table) (n : ℕ) (v : Ref) (h : Held) → v ≡ Local n → StandsAt t n h → resolve t.slots (value_of v) ≡ At (end_of (slot_of h) n)
resolved_here t n v h is s = ap (λ x. resolve t.slots (value_of x)) is ∙ ap (λ x. At (resolve_slot x n)) s.slot

-- a slot that is not there leads nowhere else
pub resolved_past : (t : Table) (n : ℕ) (v : Ref) → v ≡ Local n → length t.slots ≤ n → resolve t.slots (value_of v) ≡ value_of v
resolved_past t n v is past =
    ap (λ x. resolve t.slots (value_of x)) is ∙ ap (λ x. At (resolve_slot x n)) (slice_get_past t.slots n past) ∙ sym (ap value_of is)
