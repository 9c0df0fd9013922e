-- What leads to each object, noted place by place.
use Rattle.std.proofs.Common.{◌≡◌, ℕ, ◌+◌, ◌≤◌, ◌≢◌, ◌↔◌, nat_eq, List, [], ◌∷◌, length, replicate, slice_get, slice_set, Some, Contains, ◌⊎◌, ⊎_elim, inl, inr, sym, ap, ◌∙◌, subst, refl, arith, length-set}
use Rattle.std.proofs.lemmas.Option.{slice_get_within, same_Some}
use Rattle.std.proofs.lemmas.List.Elements.{Contains-append_right, Contains-append_cases}
use Rattle.std.proofs.lemmas.List.{length-replicate}
use Rattle.std.specs.List.{IsDistinct}
use Rattle.rr_space.specs.Graph.{Graph}
use Rattle.rr_space.specs.Tables.{Table, space_graph}
use Rattle.rr_space.specs.Labels.{triples_at}
use Rattle.rr_space.specs.declared.refer.Ref.TheVariants.{Local}
use Rattle.rr_space.proofs.Keeping.{set_same, set_other}
use Rattle.rr_share.specs.Search.{IsSettled, LeadsAt, LeadsBelow, LeadsOn}
use Rattle.rr_share.specs.Marks.{Sourced, LeadsBefore}
use Rattle.rr_share.proofs.Searching.{none_in, one_in, contains_at, at_contains, below_cases}
use Rattle.rr_share.proofs.Places.{one_place, same_or_not, replicate_at}
use Rattle.rr_share.proofs.Ends.{below_on, below_more, below_last, below_skip, below_all}

-- nothing is noted yet
pub sourced_none : (found : List ℕ) (D : ℕ → ℕ → Type 0) (count : ℕ) (lists : List (List ℕ)) → count ≡ length found → lists ≡ replicate count [] → ((n m : ℕ) → D n m → ⊥) → Sourced found D lists
sourced_none found D count lists is empty never = record {
  size = ap length empty ∙ length-replicate count [] ∙ is;
  exact = λ i m list at here n.
      let e = replicate_at count [] list i (ap (λ xs. slice_get xs i) (sym empty) ∙ here) in
      (λ w. absurd (none_in n (subst (λ xs. Contains xs n) (sym e) w)), λ d. absurd (never n m d));
}

-- the same notes under another name
pub sourced_as : (found : List ℕ) (D F : ℕ → ℕ → Type 0) (lists : List (List ℕ)) → Sourced found D lists
    → ((m n : ℕ) → Contains found m → D n m → F n m) → ((m n : ℕ) → Contains found m → F n m → D n m) → Sourced found F lists
sourced_as found D F lists h on back = record {
  size = h.size;
  exact = λ i m list at here n. let has = contains_at found i m at in (λ w. on m n has ((h.exact i m list at here n).0 w), λ f. (h.exact i m list at here n).1 (back m n has f));
}

-- one more note, of n at the place of m
module _ (found : List ℕ) (D F : ℕ → ℕ → Type 0) (lists new : List (List ℕ)) (p n m : ℕ) (list : List ℕ)
    (distinct : IsDistinct nat_eq found) (h : Sourced found D lists) (at : slice_get found p ≡ Some m) (here : slice_get lists p ≡ Some list) (is : new ≡ slice_set lists p (n ∷ list))
    (on : (a b : ℕ) → D a b → F a b) (noted : F n m) (cases : (a b : ℕ) → F a b → D a b ⊎ ((n ≡ a) × (m ≡ b))) where
  this : (i b : ℕ) (l : List ℕ) → i ≡ p → slice_get found i ≡ Some b → slice_get new i ≡ Some l → (a : ℕ) → Contains l a ↔ F a b
  this i b l e found_at new_at a =
      let same : m ≡ b = same_Some m b (sym at ∙ ap (slice_get found) (sym e) ∙ found_at) in
      let grown : n ∷ list ≡ l = same_Some (n ∷ list) l (sym (set_same lists p (n ∷ list) (slice_get_within lists p list here)) ∙ ap (λ xs. slice_get xs p) (sym is) ∙ ap (slice_get new) (sym e) ∙ new_at) in
      let old = h.exact p b list (at ∙ ap Some same) here a in (
        λ w. ⊎_elim (λ u. on a b (old.0 u)) (λ u. subst (λ y. F y b) u (subst (F n) same noted)) (⊎_elim (λ x. inr (one_in n a x)) (λ x. inl x) (Contains-append_cases (n ∷ []) list a (subst (λ xs. Contains xs a) (sym grown) w))),
        λ f. subst (λ xs. Contains xs a) grown (⊎_elim (λ d. Contains-append_right (n ∷ []) list a (old.1 d)) (λ u. subst (Contains (n ∷ list)) u.0 (0, omega arith, refl)) (cases a b f)),
      )

  other : (i b : ℕ) (l : List ℕ) → i ≢ p → slice_get found i ≡ Some b → slice_get new i ≡ Some l → (a : ℕ) → Contains l a ↔ F a b
  other i b l ne found_at new_at a =
      let old = h.exact i b l found_at (sym (set_other lists p i (n ∷ list) (λ e. ne (sym e))) ∙ ap (λ xs. slice_get xs i) (sym is) ∙ new_at) a in (
        λ w. on a b (old.0 w),
        λ f. ⊎_elim (λ d. old.1 d) (λ u. absurd (ne (one_place found m i p distinct (found_at ∙ ap Some (sym u.1)) at))) (cases a b f),
      )

  pub sourced_more : Sourced found F new
  sourced_more = record {
    size = ap length is ∙ length-set lists p (n ∷ list) ∙ h.size;
    exact = λ i b l found_at new_at a. ⊎_elim (λ e. this i b l e found_at new_at a) (λ ne. other i b l ne found_at new_at a) (same_or_not i p);
  }

pub before_none : (g : Graph) (found : List ℕ) (n m : ℕ) → LeadsBefore g found 0 0 n m → ⊥
before_none g found n m (inl w) = let lt = w.1 in omega (arith, lt)
before_none g found n m (inr w) = let lt = w.1.1 in omega (arith, lt)

module _ (g : Graph) (found : List ℕ) (p k : ℕ) where
  pub before_more : (n m : ℕ) → LeadsBefore g found p k n m → LeadsBefore g found p (k + 1) n m
  before_more n m (inl w) = inl w
  before_more n m (inr w) = inr (w.0, below_more g n k m w.1)

  -- the next triple of the slot at p ends at e
  pub before_on : (s e : ℕ) → slice_get found p ≡ Some s → LeadsAt g s k e → (n m : ℕ) → LeadsBefore g found p (k + 1) n m → LeadsBefore g found p k n m ⊎ ((s ≡ n) × (e ≡ m))
  before_on s e at leads n m (inl w) = inl (inl w)
  before_on s e at leads n m (inr w) =
      let same = same_Some s n (sym at ∙ w.0) in
      ⊎_elim (λ u. inl (inr (w.0, u))) (λ u. inr (same, u)) (below_on g n k e m (subst (λ y. LeadsAt g y k e) same leads) w.1)

  pub before_last : (s e : ℕ) → slice_get found p ≡ Some s → LeadsAt g s k e → LeadsBefore g found p (k + 1) s e
  before_last s e at leads = inr (at, below_last g s k e leads)

  -- or at no slot
  pub before_skip : (s : ℕ) → slice_get found p ≡ Some s → ((m : ℕ) → LeadsAt g s k m → ⊥) → (n m : ℕ) → LeadsBefore g found p (k + 1) n m → LeadsBefore g found p k n m
  before_skip s at never n m (inl w) = inl w
  before_skip s at never n m (inr w) =
      let same = same_Some s n (sym at ∙ w.0) in
      inr (w.0, below_skip g n k m (λ y l. never y (subst (λ x. LeadsAt g x k y) (sym same) l)) w.1)

-- where the slot at p has no more triples, the next slot begins
pub before_next : (g : Graph) (found : List ℕ) (p k n m : ℕ) → LeadsBefore g found p k n m → LeadsBefore g found (p + 1) 0 n m
before_next g found p k n m (inl w) = let lt = w.1 in inl (w.0, omega (arith, lt), w.2, w.3)
before_next g found p k n m (inr w) = inl (p, omega arith, w.0, (w.1.0, w.1.2))

pub before_past : (t : Table) (found : List ℕ) (p k s : ℕ) → slice_get found p ≡ Some s → IsSettled t.slots s → length (triples_at t (Local s)) ≤ k
    → (n m : ℕ) → LeadsBefore (space_graph t) found (p + 1) 0 n m → LeadsBefore (space_graph t) found p k n m
before_past t found p k s at settled past n m (inl w) = ⊎_elim
    (λ lt. inl (w.0, lt, w.2, w.3))
    (λ e. let here : slice_get found p ≡ Some n = ap (slice_get found) (sym e) ∙ w.2 in
    let same = same_Some s n (sym at ∙ here) in
    inr (here, subst (λ y. LeadsBelow (space_graph t) y k m) same (below_all t s k m settled past (subst (λ y. LeadsOn (space_graph t) y m) (sym same) w.3))))
    (below_cases w.0 p w.1)
before_past t found p k s at settled past n m (inr w) = absurd (let lt = w.1.1 in let z : ⊥ = omega (arith, lt) in z)

-- at the end all that leads from one slot to another is noted
pub before_all : (g : Graph) (found : List ℕ) (p n m : ℕ) → length found ≤ p → Contains found n × LeadsOn g n m → LeadsBefore g found p 0 n m
before_all g found p n m past (has, leads) = let q = at_contains found n has in let lt = slice_get_within found q.0 n q.1 in inl (q.0, omega (arith, lt, past), q.1, leads)

pub before_back : (g : Graph) (found : List ℕ) (p n m : ℕ) → LeadsBefore g found p 0 n m → Contains found n × LeadsOn g n m
before_back g found p n m (inl w) = (contains_at found w.0 n w.2, w.3)
before_back g found p n m (inr w) = absurd (let lt = w.1.1 in let z : ⊥ = omega (arith, lt) in z)
