-- What a store has published, and what of it a table leads to.
use Rattle.std.proofs.Common.{◌≡◌, ◌∙◌, ℕ, ⊎_elim, List, [], ◌∷◌, ◌++◌, map, Contains, Some, slice_get, sym, ap, subst, refl, arith}
use Rattle.std.proofs.lemmas.List.{map-append}
use Rattle.std.proofs.lemmas.List.Elements.{Contains-append_left, Contains-append_right}
use Rattle.std.proofs.lemmas.Option.{same_Some}
use Rattle.rr_space.specs.Graph.{Object}
use Rattle.rr_space.specs.Tables.{Whole, Below, Table, below_hold, outer_objects}
use Rattle.rr_space.specs.Lookups.{IsOneEach}
use Rattle.rr_space.specs.Moves.{IsPromotedTo}
use Rattle.rr_space.proofs.Keeping.{list_has}
use Rattle.rr_space.proofs.Renaming.{at_contains, contains_map_back}
use Rattle.rr_space.proofs.Sounds.{in_first, joined_back, joined_in}
use Rattle.rr_store.specs.Stores.{Store, AreNumbered}
use Rattle.rr_text.specs.Reads.{IsReadWith}
use Rattle.rr_eval.specs.Published.{entry_of, published}

-- a number names one cluster of a store
pub published_one : (s : Store) → AreNumbered s.clusters → IsOneEach (published s)
published_one s numbered c os ps first second =
    let a = contains_map_back entry_of s.clusters (c, os) first in
    let b = contains_map_back entry_of s.clusters (c, ps) second in
    let i = at_contains s.clusters a.0 a.1 in
    let j = at_contains s.clusters b.0 b.1 in
    let left : i.0 ≡ c = sym (numbered i.0 a.0 i.1) ∙ ap (λ (e : ℕ × List Object). e.0) a.2 in
    let right : j.0 ≡ c = sym (numbered j.0 b.0 j.1) ∙ ap (λ (e : ℕ × List Object). e.0) b.2 in
    let same : a.0 ≡ b.0 = same_Some a.0 b.0 (sym i.1 ∙ ap (slice_get s.clusters) (left ∙ sym right) ∙ j.1) in
    ap (λ (e : ℕ × List Object). e.1) (sym a.2 ∙ ap entry_of same ∙ b.2)

-- what is published stays so
module _ (s u : Store) (w : Whole) (more : u.clusters ≡ s.clusters ++ w ∷ []) where
  published_is : published u ≡ published s ++ entry_of w ∷ []
  published_is = ap (map entry_of) more ∙ map-append entry_of s.clusters (w ∷ [])

  pub published_more : (e : ℕ × List Object) → Contains (published s) e → Contains (published u) e
  published_more e has = subst (λ (b : Below). Contains b e) (sym published_is) (Contains-append_left (published s) (entry_of w ∷ []) e has)

  published_last : Contains (published u) (w.number, outer_objects w)
  published_last = subst (λ (b : Below). Contains b (entry_of w)) (sym published_is) (Contains-append_right (published s) (entry_of w ∷ []) (entry_of w) (0, omega arith, refl))

  -- a table is read with the store's clusters when a cluster more is published and promoted
  pub promoted_read : (places : List ℕ) (noted new : Table) → AreNumbered u.clusters → IsReadWith noted (published s) → IsPromotedTo w places noted new
      → ((e : ℕ × List Object) → Contains w.below e → Contains (published s) e) → IsReadWith new (published u)
  promoted_read places noted new numbered read promoted below = record {
    one = published_one u numbered;
    all = λ e has. by e (joined_back new.below e has);
  }
    where
      by : (e : ℕ × List Object) → (n : ℕ) × (b : Below) × (slice_get new.below n ≡ Some b) × Contains b e → Contains (published u) e
      by e (n, b, at, has) = ⊎_elim
          (λ inside. ⊎_elim (λ (first : (w.number, outer_objects w) ≡ e). subst (λ x. Contains (published u) x) first published_last) (λ later. published_more e (below e later))
          (in_first (w.number, outer_objects w) w.below e (subst (λ (x : Below). Contains x e) (same_Some b (below_hold w) (sym at ∙ promoted.below.named n inside)) has)))
          (λ out. published_more e (read.all e (joined_in noted.below n b e (sym (promoted.below.others n out) ∙ at) has)))
          (list_has places n)

-- with the same clusters a table is read as before
pub read_kept : (s u : Store) (t : Table) → u.clusters ≡ s.clusters → IsReadWith t (published s) → IsReadWith t (published u)
read_kept s u t same read = subst (λ (ws : List Whole). IsReadWith t (map entry_of ws)) (sym same) read
