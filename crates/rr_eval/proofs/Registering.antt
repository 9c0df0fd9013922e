-- A new array without elements.
use Rattle.std.proofs.Common.{◌≡◌, ◌∙◌, ap, List, [], ◌∷◌, ◌++◌}
use Rattle.rr_builtin.specs.Acts.{with_array}
use Rattle.rr_space.specs.Parts.{places_from, below_parts}
use Rattle.rr_space.specs.Tables.{Table, Here, IsRestKept}
use Rattle.rr_space.specs.Views.{object_of}
use Rattle.rr_space.specs.declared.node.Node.TheVariants.{Array}
use Rattle.rr_space.specs.declared.refer.Ref.{Ref}

pub one_array : (t u : Table) (items : List Ref) → items ≡ [] → u.slots ≡ t.slots ++ Here (object_of (Array items)) ∷ [] → u.below ≡ t.below ++ below_parts (places_from 0 items) ∷ []
    → u.keys ≡ t.keys ++ [] ∷ [] → IsRestKept t u → u ≡ with_array [] t
one_array t u items none slots below keys rest =
    let w = with_array [] t in
    let first = slots ∙ ap (λ (l : List Ref). t.slots ++ Here (object_of (Array l)) ∷ []) none in
    let second = below ∙ ap (λ (l : List Ref). t.below ++ below_parts (places_from 0 l) ∷ []) none in
    ap (λ x. record { slots = x; below = u.below; keys = u.keys; limit = u.limit; owner = u.owner; next_message = u.next_message }) first
    ∙ ap (λ x. record { slots = w.slots; below = x; keys = u.keys; limit = u.limit; owner = u.owner; next_message = u.next_message }) second
    ∙ ap (λ x. record { slots = w.slots; below = w.below; keys = x; limit = u.limit; owner = u.owner; next_message = u.next_message }) keys
    ∙ ap (λ x. record { slots = w.slots; below = w.below; keys = w.keys; limit = x; owner = u.owner; next_message = u.next_message }) rest.limit
    ∙ ap (λ x. record { slots = w.slots; below = w.below; keys = w.keys; limit = w.limit; owner = x; next_message = u.next_message }) rest.owner
    ∙ ap (λ x. record { slots = w.slots; below = w.below; keys = w.keys; limit = w.limit; owner = w.owner; next_message = x }) rest.next_message
