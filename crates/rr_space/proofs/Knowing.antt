-- Where the clusters that a reference leads to are listed.
use Rattle.std.proofs.Common.{◌≡◌, ℕ, zero, suc, ◌+◌, List, [], ◌∷◌, ◌++◌, slice_get, Option, Some, None, IfSome, Contains, sym, ap, ◌∙◌, subst, ⊎_elim}
use Rattle.std.specs.Option.{option_map}
use Rattle.std.proofs.lemmas.List.Elements.{Contains-append_left, Contains-append_right, Contains-append_cases}
use Rattle.std.proofs.lemmas.Option.{same_Some, none-some}
use Rattle.rr_space.specs.Graph.{Label, Place, Object}
use Rattle.rr_space.specs.Parts.{Parts, places_from, pairs_from, below_ref, below_parts}
use Rattle.rr_space.specs.Labels.{labelled}
use Rattle.rr_space.specs.declared.label.Label.{Label as CodeLabel}
use Rattle.rr_space.specs.declared.refer.Ref.{Ref}
use Rattle.rr_space.proofs.Listing.{place_first}

pub if_some : {A : Type 0} (r : Option A) (P Q : A → Type 0) → ((x : A) → P x → Q x) → IfSome r P → IfSome r Q
if_some None P Q f h = tt
if_some (Some x) P Q f h = f x h

part_in : (ts : Parts) (k : ℕ) (p : Label × Ref) (e : ℕ × List Object) → slice_get ts k ≡ Some p → Contains (below_ref p.1) e → Contains (below_parts ts) e
part_in [] k p e at has = absurd (none-some p at)
part_in (t ∷ ts) zero p e at has = Contains-append_left (below_ref t.1) (below_parts ts) e (subst (λ (y : Label × Ref). Contains (below_ref y.1) e) (sym (same_Some t p at)) has)
part_in (t ∷ ts) (suc k) p e at has = Contains-append_right (below_ref t.1) (below_parts ts) e (part_in ts k p e at has)

-- the clusters of a part are those of its object
pub part_below : (ts : Parts) (k : ℕ) (r : Option (CodeLabel × Ref)) → option_map labelled r ≡ slice_get ts k → IfSome r (λ p. (e : ℕ × List Object) → Contains (below_ref p.1) e → Contains (below_parts ts) e)
part_below ts k None e = tt
part_below ts k (Some p) e = λ d has. part_in ts k (labelled p) d (sym e) has

pub place_below : (rs : List Ref) (k : ℕ) (r : Ref) (e : ℕ × List Object) → slice_get rs k ≡ Some r → Contains (below_ref r) e → Contains (below_parts (places_from 0 rs)) e
place_below rs k r e at has = part_in (places_from 0 rs) k (Place k, r) e (place_first rs k ∙ ap (option_map (λ (x : Ref). (Place k, x))) at) has

pub pair_below : (ps : List (Ref × Ref)) (j k : ℕ) → IfSome (slice_get ps k) (λ p. (e : ℕ × List Object) → Contains (below_ref p.0 ++ below_ref p.1) e → Contains (below_parts (pairs_from j ps)) e)
pair_below [] j k = tt
pair_below (p ∷ ps) j zero = λ e has. (
    let rest = below_parts (pairs_from (j + 1) ps) in
    ⊎_elim (λ w. Contains-append_left (below_ref p.0) (below_ref p.1 ++ rest) e w)
    (λ w. Contains-append_right (below_ref p.0) (below_ref p.1 ++ rest) e (Contains-append_left (below_ref p.1) rest e w))
    (Contains-append_cases (below_ref p.0) (below_ref p.1) e has))
pair_below (p ∷ ps) j (suc k) =
    let rest = below_parts (pairs_from (j + 1) ps) in
    if_some (slice_get ps k) _ _ (λ q inside e has. Contains-append_right (below_ref p.0) (below_ref p.1 ++ rest) e (Contains-append_right (below_ref p.1) rest e (inside e has)))
    (pair_below ps (j + 1) k)
