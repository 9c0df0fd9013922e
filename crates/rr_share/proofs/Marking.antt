-- Marks that spread from what is not solid to what leads there.
use Rattle.std.proofs.Common.{◌≡◌, ℕ, ◌≤◌, Bool, true, false, List, [], ◌∷◌, length, slice_get, Option, Some, None, Contains, ◌⊎◌, ⊎_elim, inl, inr, sym, ◌∙◌, subst, refl}
use Rattle.rr_space.specs.Graph.{Kind, Own, At, Object, IsSolid, text, array, hash, plain, exception, shell}
use Rattle.rr_space.specs.Tables.{Slot, Here, Led, Table, resolve_object, space_graph}
use Rattle.rr_space.specs.Sound.{IsTableSound}
use Rattle.rr_space.specs.Laws.{Marked}
use Rattle.rr_space.proofs.Sounds.{sound_is_sealed}
use Rattle.rr_share.specs.Search.{IsSolidAt, LeadsOn, Searched}
use Rattle.rr_share.specs.Marks.{Closed, IsMarkable}
use Rattle.rr_share.proofs.Searching.{contains_at, at_contains, searched_end}
use Rattle.rr_share.proofs.Solids.{graph_here, solid_at}

-- an object is solid or not
solid_or_not : (o : Object) → IsSolid o ⊎ (IsSolid o → ⊥)
solid_or_not o = by o.frozen refl o.kind refl
  where
    kept : o.frozen ≡ true → (o.kind ≡ shell → ⊥) → IsSolid o ⊎ (IsSolid o → ⊥)
    kept f k = inl (record { frozen = f; no_shell = k })

    by : (b : Bool) → o.frozen ≡ b → (k : Kind) → o.kind ≡ k → IsSolid o ⊎ (IsSolid o → ⊥)
    by false f k e = inr (λ s. let w : true ≡ false = sym s.frozen ∙ f in let z : ⊥ = cc in z)
    by true f shell e = inr (λ s. s.no_shell e)
    by true f text e = kept f (λ w. let q : text ≡ shell = sym e ∙ w in let z : ⊥ = cc in z)
    by true f array e = kept f (λ w. let q : array ≡ shell = sym e ∙ w in let z : ⊥ = cc in z)
    by true f hash e = kept f (λ w. let q : hash ≡ shell = sym e ∙ w in let z : ⊥ = cc in z)
    by true f plain e = kept f (λ w. let q : plain ≡ shell = sym e ∙ w in let z : ⊥ = cc in z)
    by true f exception e = kept f (λ w. let q : exception ≡ shell = sym e ∙ w in let z : ⊥ = cc in z)

module _ (t : Table) (found : List ℕ) where
  -- what is not solid is to be marked
  pub markable_here : (n : ℕ) → Contains found n → (IsSolidAt t.slots n → ⊥) → IsMarkable t found n
  markable_here n has bad = by (slice_get t.slots n) refl
    where
      never : {s : Option Slot} → slice_get t.slots n ≡ s → ((o : Object) → s ≡ Some (Here o) → ⊥) → IsMarkable t found n
      never q out = absurd (bad (λ o here. absurd (out o (sym q ∙ here))))

      by : (s : Option Slot) → slice_get t.slots n ≡ s → IsMarkable t found n
      by None q = never q (λ o e. let z : ⊥ = cc in z)
      by (Some (Led c p)) q = never q (λ o e. let z : ⊥ = cc in z)
      by (Some (Here o)) q = record {
        found = has;
        leads = (
          n,
          resolve_object t.slots o,
          ([], refl),
          graph_here t n o q,
          λ s. bad (λ p here.
              let e : ◌≡◌ {A = Option Slot} (Some (Here o)) (Some (Here p)) = sym q ∙ here in
              subst IsSolid (same o p e) (record { frozen = s.frozen; no_shell = s.no_shell })),
        );
      }
        where
          same : (o p : Object) → ◌≡◌ {A = Option Slot} (Some (Here o)) (Some (Here p)) → o ≡ p
          same o p e = cc

  -- and so is what leads to what is to be marked
  pub markable_back : (n m : ℕ) → IsMarkable t found n → Contains found m → LeadsOn (space_graph t) m n → IsMarkable t found m
  markable_back n m h has (k, (o, l, here, at)) =
      let s = h.leads in
      record { found = has; leads = (s.0, s.1, (l ∷ s.2.0, (At (Own n), (Own m, o, refl, here, contains_at o.triples k (l, At (Own n)) at), s.2.1)), s.3, s.4) }

  -- marks that spread no more decide
  pub marked_all : IsTableSound t.slots t.below → Closed t found → (cursor : ℕ) (marked : List ℕ)
      → Searched (λ m. Contains found m × (IsSolidAt t.slots m → ⊥)) (λ n m. Contains found m × LeadsOn (space_graph t) m n) (IsMarkable t found) cursor marked
      → length marked ≤ cursor → Marked (space_graph t) found marked
  marked_all well closed cursor marked h past = record {
    sealed = sound_is_sealed t.slots t.below well;
    closed = λ n m o l has here in_o. let q = at_contains o.triples (l, At (Own m)) in_o in closed.shut n m has (q.0, (o, l, here, q.1));
    decides = λ n o has here. ⊎_elim (λ s. inl s) (λ bad. inr (h.start n (has, λ all. bad (solid_at t n o here all)))) (solid_or_not o);
    back = λ n m o l has here in_o bad. let q = at_contains o.triples (l, At (Own m)) in_o in
        searched_end (λ m. Contains found m × (IsSolidAt t.slots m → ⊥)) (λ n m. Contains found m × LeadsOn (space_graph t) m n) (IsMarkable t found) cursor marked h past m n bad (has, (q.0, (o, l, here, q.1)));
    sound = λ n has. (h.sound n has).leads;
  }
