-- Chains of links that lead back.
use Rattle.std.proofs.Common.{◌≡◌, ℕ, zero, suc, ◌+◌, ◌<◌, ◌≤◌, List, [], ◌∷◌, ◌++◌, length, map, replicate, slice_get, slice_set, Option, Some, None, Contains, nat_eq, ⊎_elim, sym, ap, ◌∙◌, subst, refl, arith}
use Rattle.std.specs.Option.{option_map}
use Rattle.std.proofs.lemmas.List.{length-map, length-append, append_assoc}
use Rattle.std.proofs.lemmas.List.Elements.{Contains-append_left, Contains-push, Contains-push_cases}
use Rattle.indexmap.specs.IndexSet.{insert_key}
use Rattle.std.proofs.lemmas.Option.{slice_get_within, slice_get-map, same_Some, none-some}
use Rattle.rr_space.proofs.Keeping.{set_same, set_other}
use Rattle.rr_space.proofs.Placing.{map_set}
use Rattle.rr_share.specs.declared.sources.Source.{Source}
use Rattle.rr_share.specs.Chains.{Falls, AreLinked, IsLinked, Walked, chain, chained}
use Rattle.rr_share.proofs.Searching.{below_cases, adds_one}
use Rattle.rr_share.proofs.Places.{same_or_not, replicate_at}

pub falls_more : (i k : ℕ) (at : Option ℕ) → i ≤ k → Falls i at → Falls k at
falls_more i k None le f = tt
falls_more i k (Some j) le f = omega (arith, le, f)

get_left : {A : Type 0} (xs ys : List A) (i : ℕ) → i < length xs → slice_get (xs ++ ys) i ≡ slice_get xs i
get_left [] ys i h = absurd (let w : ⊥ = omega (arith, h) in w)
get_left (x ∷ xs) ys zero h = refl
get_left (x ∷ xs) ys (suc i) h = get_left xs ys i (omega (arith, h))

get_last : {A : Type 0} (xs : List A) (x : A) → slice_get (xs ++ x ∷ []) (length xs) ≡ Some x
get_last [] x = refl
get_last (y ∷ xs) x = get_last xs x

ends : (all : List Source) (k : ℕ) → chain all k None ≡ []
ends all zero = refl
ends all (suc k) = refl

-- a chain is one, however many links it may have
enough : (all : List Source) → AreLinked all → (k m : ℕ) (at : Option ℕ) → Falls k at → Falls m at → chain all k at ≡ chain all m at
enough all linked zero m None f g = sym (ends all m)
enough all linked zero m (Some i) f g = absurd (let w : ⊥ = omega (arith, f) in w)
enough all linked (suc k) m None f g = sym (ends all m)
enough all linked (suc k) zero (Some i) f g = absurd (let w : ⊥ = omega (arith, g) in w)
enough all linked (suc k) (suc m) (Some i) f g = by (slice_get all i) refl (λ s e. enough all linked k m s.before (falls_more i k s.before (omega (arith, f)) (linked i s e)) (falls_more i m s.before (omega (arith, g)) (linked i s e)))
  where
    by : (o : Option Source) → slice_get all i ≡ o → ((s : Source) → slice_get all i ≡ Some s → chain all k s.before ≡ chain all m s.before)
        → chained (λ a. chain all k a) (slice_get all i) ≡ chained (λ a. chain all m a) (slice_get all i)
    by None q rest = ap (chained (λ a. chain all k a)) q ∙ sym (ap (chained (λ a. chain all m a)) q)
    by (Some s) q rest = ap (chained (λ a. chain all k a)) q ∙ ap (λ xs. s.slot ∷ xs) (rest s q) ∙ sym (ap (chained (λ a. chain all m a)) q)

-- and another link leaves it
later : (all : List Source) (x : Source) → AreLinked all → (k : ℕ) (at : Option ℕ) → Falls (length all) at → chain (all ++ x ∷ []) k at ≡ chain all k at
later all x linked zero at f = refl
later all x linked (suc k) None f = refl
later all x linked (suc k) (Some i) f = ap (chained (λ a. chain (all ++ x ∷ []) k a)) (get_left all (x ∷ []) i f) ∙ by (slice_get all i) refl (λ s e. later all x linked k s.before (falls_more i (length all) s.before (omega (arith, f)) (linked i s e)))
  where
    by : (o : Option Source) → slice_get all i ≡ o → ((s : Source) → slice_get all i ≡ Some s → chain (all ++ x ∷ []) k s.before ≡ chain all k s.before)
        → chained (λ a. chain (all ++ x ∷ []) k a) (slice_get all i) ≡ chained (λ a. chain all k a) (slice_get all i)
    by None q rest = ap (chained (λ a. chain (all ++ x ∷ []) k a)) q ∙ sym (ap (chained (λ a. chain all k a)) q)
    by (Some s) q rest = ap (chained (λ a. chain (all ++ x ∷ []) k a)) q ∙ ap (λ xs. s.slot ∷ xs) (rest s q) ∙ sym (ap (chained (λ a. chain all k a)) q)

-- the first link, and the rest
pub chain_next : (all : List Source) → AreLinked all → (n i : ℕ) (s : Source) → i < n → slice_get all i ≡ Some s → chain all n (Some i) ≡ s.slot ∷ chain all n s.before
chain_next all linked zero i s f at = absurd (let w : ⊥ = omega (arith, f) in w)
chain_next all linked (suc n) i s f at =
    ap (chained (λ a. chain all n a)) at
    ∙ ap (λ xs. s.slot ∷ xs) (enough all linked n (suc n) s.before (falls_more i n s.before (omega (arith, f)) (linked i s at)) (falls_more i (suc n) s.before (omega (arith, f)) (linked i s at)))

map_agree : {A B : Type 0} (f g : A → B) (xs : List A) → ((p : ℕ) (x : A) → slice_get xs p ≡ Some x → f x ≡ g x) → map f xs ≡ map g xs
map_agree f g [] same = refl
map_agree f g (x ∷ xs) same = ap (λ y. y ∷ map f xs) (same 0 x refl) ∙ ap (λ ys. g x ∷ ys) (map_agree f g xs (λ p y e. same (suc p) y e))

module _ (last : List (Option ℕ)) (all : List Source) (h : IsLinked last all) (p : ℕ) (s : Source) (at : slice_get last p ≡ Some s.before) where
  one_more : length (all ++ s ∷ []) ≡ length all + 1
  one_more = length-append all (s ∷ [])

  linked_more : AreLinked (all ++ s ∷ [])
  linked_more k x e = let lt = slice_get_within (all ++ s ∷ []) k x e in ⊎_elim
      (λ w. h.back k x (sym (get_left all (s ∷ []) k w) ∙ e))
      (λ w. let q : s ≡ x = same_Some s x (sym (get_last all s) ∙ ap (slice_get (all ++ s ∷ [])) (sym w) ∙ e) in
      falls_more (length all) k x.before (omega (arith, w)) (subst (λ (y : Source). Falls (length all) y.before) q (h.last_within p s.before at)))
      (below_cases k (length all) (omega (arith, lt, one_more)))

  -- a place that was there leads to what it led to
  same_chain : (from : Option ℕ) → Falls (length all) from → chain (all ++ s ∷ []) (length (all ++ s ∷ [])) from ≡ chain all (length all) from
  same_chain from f =
      enough (all ++ s ∷ []) linked_more (length (all ++ s ∷ [])) (length all) from (falls_more (length all) (length (all ++ s ∷ [])) from (omega (arith, one_more)) f) f
      ∙ later all s h.back (length all) from f

  first_chain : chain (all ++ s ∷ []) (length (all ++ s ∷ [])) (Some (length all)) ≡ s.slot ∷ chain all (length all) s.before
  first_chain =
      chain_next (all ++ s ∷ []) linked_more (length (all ++ s ∷ [])) (length all) s (omega (arith, one_more)) (get_last all s)
      ∙ ap (λ xs. s.slot ∷ xs) (same_chain s.before (h.last_within p s.before at))

  -- a link is added at a place
  pub link_added : (now : List (List ℕ)) → map (chain all (length all)) last ≡ now
      → (x : List ℕ) × (slice_get now p ≡ Some x) × (map (chain (all ++ s ∷ []) (length (all ++ s ∷ []))) (slice_set last p (Some (length all))) ≡ slice_set now p (s.slot ∷ x))
  link_added now is = (
    chain all (length all) s.before,
    ap (λ xs. slice_get xs p) (sym is) ∙ slice_get-map (chain all (length all)) last p ∙ ap (option_map (chain all (length all))) at,
    map_set (chain (all ++ s ∷ []) (length (all ++ s ∷ []))) last p (Some (length all))
        ∙ ap (λ xs. slice_set xs p (chain (all ++ s ∷ []) (length (all ++ s ∷ [])) (Some (length all))))
        (map_agree (chain (all ++ s ∷ []) (length (all ++ s ∷ []))) (chain all (length all)) last (λ q y e. same_chain y (h.last_within q y e)) ∙ is)
        ∙ ap (slice_set now p) first_chain,
  )

  pub link_kept : IsLinked (slice_set last p (Some (length all))) (all ++ s ∷ [])
  link_kept = record {
    last_within = λ q y e. ⊎_elim
        (λ w. let r : Some (length all) ≡ y = same_Some (Some (length all)) y (sym (set_same last p (Some (length all)) (slice_get_within last p s.before at)) ∙ ap (slice_get (slice_set last p (Some (length all)))) (sym w) ∙ e) in
        subst (Falls (length (all ++ s ∷ []))) r (omega (arith, one_more)))
        (λ ne. falls_more (length all) (length (all ++ s ∷ [])) y (omega (arith, one_more)) (h.last_within q y (sym (set_other last p q (Some (length all)) (λ w. ne (sym w))) ∙ e)))
        (same_or_not q p);
    back = linked_more;
  }

-- without links nothing leads anywhere
pub none_linked : (last : List (Option ℕ)) (all : List Source) (k : ℕ) → last ≡ replicate k None → all ≡ [] → IsLinked last all
none_linked last all k is none = record {
  last_within = λ p at e. subst (Falls (length all)) (replicate_at k None at p (ap (λ xs. slice_get xs p) (sym is) ∙ e)) tt;
  back = λ j s e. absurd (none-some s (ap (λ xs. slice_get xs j) (sym none) ∙ e));
}

pub walked_more : (old mid new whole rest left : List ℕ) (n : ℕ) → Walked old mid whole rest → rest ≡ n ∷ left → new ≡ insert_key nat_eq mid n → Walked old new whole left
walked_more old mid new whole rest left n h e ins = record {
  done = h.done ++ n ∷ [];
  is = h.is ∙ ap (λ xs. h.done ++ xs) e ∙ sym (append_assoc h.done (n ∷ []) left);
  added = adds_one (Contains h.done) (Contains (h.done ++ n ∷ [])) old mid new n h.added ins (λ m w. Contains-push_cases h.done n m w) (λ m w. Contains-append_left h.done (n ∷ []) m w) (Contains-push h.done n);
}

module _ (last : List (Option ℕ)) (all : List Source) (h : IsLinked last all) (p : ℕ) (s : Source) (at : slice_get last p ≡ Some s.before) (n : ℕ) (new : List Source) (count : n ≡ length all) (more : new ≡ all ++ s ∷ []) where
  pub kept_as : IsLinked (slice_set last p (Some n)) new
  kept_as = subst (λ m. IsLinked (slice_set last p (Some m)) new) (sym count) (subst (IsLinked (slice_set last p (Some (length all)))) (sym more) (link_kept last all h p s at))

  pub added_as : (now : List (List ℕ)) → map (chain all (length all)) last ≡ now → (x : List ℕ) × (slice_get now p ≡ Some x) × (map (chain new (length new)) (slice_set last p (Some n)) ≡ slice_set now p (s.slot ∷ x))
  added_as now is =
      let r = link_added last all h p s at now is in
      (r.0, r.1, ap (λ m. map (chain new (length new)) (slice_set last p (Some m))) count ∙ ap (λ ys. map (chain ys (length ys)) (slice_set last p (Some (length all)))) more ∙ r.2)

-- as many lists as places
pub inside : {A B : Type 0} (f : A → B) (xs : List A) (now : List B) (p : ℕ) → map f xs ≡ now → p < length now → p < length xs
inside f xs now p is lt = subst (λ k. p < k) (ap length (sym is) ∙ length-map xs f) lt

pub none_chained : (last : List (Option ℕ)) (all : List Source) (count k : ℕ) → last ≡ replicate k None → k ≡ count → all ≡ [] → map (chain all (length all)) last ≡ replicate count []
none_chained last all count k is e none = ap (λ ys. map (chain ys (length ys)) last) none ∙ ap (map (chain [] 0)) is ∙ by k ∙ ap (λ j. replicate j []) e
  where
    by : (k : ℕ) → map (chain [] 0) (replicate k None) ≡ replicate k []
    by zero = refl
    by (suc k) = ap (λ ys. [] ∷ ys) (by k)
