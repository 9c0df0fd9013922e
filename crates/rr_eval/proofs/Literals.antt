-- A new text that is frozen at once.
use Rattle.std.proofs.Common.{◌≡◌, ◌∙◌, ap, ℕ, List, [], length, Some, slice_get, slice_set}
use Rattle.std.proofs.Math.Seq.{set-append_seam}
use Rattle.rr_space.specs.Tables.{Table, Here, IsRestKept}
use Rattle.rr_space.specs.Lookups.{text_object, frozen_text}
use Rattle.rr_space.proofs.Extending.{get_seam}
use Rattle.rr_builtin.specs.Acts.{with_text, with_frozen}

-- the new text stands last
pub stands_last : (bytes : List ℕ) (t : Table) → slice_get (with_text bytes t).slots (length t.slots) ≡ Some (Here (text_object bytes))
stands_last bytes t = get_seam t.slots (Here (text_object bytes))

-- once it is frozen, the table has one frozen text more
pub froze_last : (bytes : List ℕ) (t u : Table) → u.slots ≡ slice_set (with_text bytes t).slots (length t.slots) (Here (frozen_text bytes))
    → u.below ≡ (with_text bytes t).below → u.keys ≡ (with_text bytes t).keys → IsRestKept (with_text bytes t) u → u ≡ with_frozen bytes t
froze_last bytes t u slots below keys rest =
    let w = with_frozen bytes t in
    let last = slots ∙ set-append_seam t.slots (Here (text_object bytes)) [] (Here (frozen_text bytes)) in
    ap (λ x. record { slots = x; below = u.below; keys = u.keys; limit = u.limit; owner = u.owner; next_message = u.next_message }) last
    ∙ ap (λ x. record { slots = w.slots; below = x; keys = u.keys; limit = u.limit; owner = u.owner; next_message = u.next_message }) below
    ∙ ap (λ x. record { slots = w.slots; below = w.below; keys = x; limit = u.limit; owner = u.owner; next_message = u.next_message }) keys
    ∙ ap (λ x. record { slots = w.slots; below = w.below; keys = w.keys; limit = x; owner = u.owner; next_message = u.next_message }) rest.limit
    ∙ ap (λ x. record { slots = w.slots; below = w.below; keys = w.keys; limit = w.limit; owner = x; next_message = u.next_message }) rest.owner
    ∙ ap (λ x. record { slots = w.slots; below = w.below; keys = w.keys; limit = w.limit; owner = w.owner; next_message = x }) rest.next_message
