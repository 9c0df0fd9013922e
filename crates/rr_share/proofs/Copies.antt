-- Copies of what is planned, and the cluster that they make.
use Rattle.std.proofs.Common.{◌≡◌, ℕ, ◌+◌, nat_eq, true, List, [], ◌∷◌, ◌++◌, length, map, take, slice_get, Some, Contains, ⊎_elim, sym, ap, ◌∙◌, subst, refl}
use Rattle.std.proofs.lemmas.List.{length-map, take_more}
use Rattle.std.proofs.lemmas.List.Elements.{Contains-append_cases}
use Rattle.std.proofs.lemmas.Option.{slice_get_within, get_or_from_slice_get}
use Rattle.std.specs.List.{AllZip, IsDistinct}
use Rattle.rr_space.specs.Graph.{Graph, Name, Own, At, Label, Object, IsShareable}
use Rattle.rr_space.specs.Graph.{Matches, IsAt}
use Rattle.rr_space.specs.Moves.{IsPlanned}
use Rattle.rr_space.specs.Parts.{Parts, sealed_object, sealed_parts, below_all, below_parts}
use Rattle.rr_space.specs.Tables.{Slot, Here, Whole, Table, joined, resolve_slot, resolve_object, space_graph}
use Rattle.rr_space.specs.Parts.{AllWithin, AllSealedWithin}
use Rattle.rr_space.specs.Views.{node_object, node_parts, below_node, IsNodeWithin}
use Rattle.rr_space.specs.Views.{carried_object}
use Rattle.rr_space.specs.declared.carried.Carried.{Carried}
use Rattle.rr_space.specs.declared.refer.Sealed.{Sealed}
use Rattle.rr_space.proofs.Renaming.{map_at}
use Rattle.rr_share.specs.Search.{IsSettled}
use Rattle.rr_share.specs.Plans.{IsSealedFrom}
use Rattle.rr_share.proofs.Searching.{contains_at, none_in}
use Rattle.rr_share.proofs.Places.{one_place}
use Rattle.rr_share.proofs.Solids.{graph_here}
use Rattle.rr_share.proofs.Zips.{zip_length}
use Rattle.rr_space.proofs.Zips.{zip_at}

pub take_next : {A : Type 0} (xs ys : List A) (k : ℕ) (x : A) → slice_get xs k ≡ Some x → ys ≡ take k xs → ys ++ x ∷ [] ≡ take (k + 1) xs
take_next xs ys k x at is =
    ap (λ zs. zs ++ x ∷ []) is
    ∙ sym (take_more xs k x (slice_get_within xs k x at) ∙ ap (λ a. take k xs ++ a ∷ []) (get_or_from_slice_get xs k x x at))

-- what a shareable object leads to is shareable
pub shareable_on : (g : Graph) (n m : Name) (o : Object) (l : Label) → IsShareable g (At n) → g n ≡ Some o → Contains o.triples (l, At m) → IsShareable g (At m)
shareable_on g n m o l all here has = λ k p reach there. all k p (l ∷ reach.0, (At m, (n, o, refl, here, has), reach.1)) there

-- an object that is shareable is frozen
pub shareable_frozen : (t : Table) (n : ℕ) (o : Object) → IsShareable (space_graph t) (At (Own n)) → slice_get t.slots n ≡ Some (Here o) → o.frozen ≡ true
shareable_frozen t n o all here = let s = all (Own n) (resolve_object t.slots o) ([], refl) (graph_here t n o here) in s.frozen

pub here_settled : (slots : List Slot) (n : ℕ) (o : Object) → slice_get slots n ≡ Some (Here o) → IsSettled slots n
here_settled slots n o here = ap (λ s. resolve_slot s n) here

-- the copy of a frozen object, sealed
pub sealed_from : (t : Table) (names : List ℕ) (n : ℕ) (c : Carried) (s : Sealed) (o : Object) → slice_get t.slots n ≡ Some (Here o) → o.frozen ≡ true
    → ((o : Object) → slice_get t.slots n ≡ Some (Here o) → Matches (IsAt names) (resolve_object t.slots o) (carried_object c)) → IsNodeWithin (length names) c.node
    → ((e : ℕ × List Object) → Contains (below_node c.node) e → Contains (joined t.below) e) → sealed_object s ≡ node_object c.node true → sealed_parts s ≡ node_parts c.node → IsSealedFrom t names n s
sealed_from t names n c s o here frozen matches within below object parts =
    let m = matches o here in
    let flag : c.frozen ≡ true = sym m.frozen ∙ frozen in
    let same : carried_object c ≡ sealed_object s = ap (node_object c.node) flag ∙ sym object in
    record {
      matches = λ p at. subst (Matches (IsAt names) (resolve_object t.slots p)) same (matches p at);
      within = subst (AllWithin (length names)) (sym parts) within;
      below = λ e has. below e (subst (λ (ps : Parts). Contains (below_parts ps) e) parts has);
    }

sealed_within : (t : Table) (names xs : List ℕ) (ss : List Sealed) → AllZip (IsSealedFrom t names) xs ss → AllSealedWithin (length names) ss
sealed_within t names [] [] z = tt
sealed_within t names [] (s ∷ ss) z = absurd z
sealed_within t names (x ∷ xs) [] z = absurd z
sealed_within t names (x ∷ xs) (s ∷ ss) z = (z.0.within, sealed_within t names xs ss z.1)

pub copies_within : (t : Table) (names : List ℕ) (ss : List Sealed) → AllZip (IsSealedFrom t names) names ss → AllSealedWithin (length ss) ss
copies_within t names ss z = subst (λ k. AllSealedWithin k ss) (zip_length (IsSealedFrom t names) names ss z) (sealed_within t names names ss z)

copies_known : (t : Table) (names xs : List ℕ) (ss : List Sealed) → AllZip (IsSealedFrom t names) xs ss → (e : ℕ × List Object) → Contains (below_all ss) e → Contains (joined t.below) e
copies_known t names [] [] z e has = absurd (none_in e has)
copies_known t names [] (s ∷ ss) z e has = absurd z
copies_known t names (x ∷ xs) [] z e has = absurd z
copies_known t names (x ∷ xs) (s ∷ ss) z e has =
    ⊎_elim (λ w. z.0.below e w) (λ w. copies_known t names xs ss z.1 e w) (Contains-append_cases (below_parts (sealed_parts s)) (below_all ss) e has)

pub no_copies : (t : Table) (ss : List Sealed) → ss ≡ [] → AllZip (IsSealedFrom t []) [] ss
no_copies t ss none = subst (AllZip (IsSealedFrom t []) []) (sym none) tt

module _ (t : Table) (names : List ℕ) (ss : List Sealed) (w : Whole) (own : w.own ≡ map sealed_object ss) (below : w.below ≡ below_all ss) (z : AllZip (IsSealedFrom t names) names ss) where
  pub copies_below : (e : ℕ × List Object) → Contains w.below e → Contains (joined t.below) e
  copies_below e has = copies_known t names names ss z e (subst (λ b. Contains b e) below has)

  pub copies_planned : IsDistinct nat_eq names → ((n : ℕ) → Contains names n → (o : Object) × (slice_get t.slots n ≡ Some (Here o)) × (o.frozen ≡ true)) → IsPlanned t w names
  copies_planned distinct whole = record {
    distinct = λ n i j a b. one_place names n i j distinct a b;
    count = ap length own ∙ length-map ss sealed_object ∙ sym (zip_length (IsSealedFrom t names) names ss z);
    same = λ n i at.
        let o = whole n (contains_at names i n at) in
        let s = zip_at (IsSealedFrom t names) names ss i n z at in
        (o.0, sealed_object s.0, o.1, ap (λ os. slice_get os i) own ∙ map_at sealed_object ss i s.0 s.1, o.2, s.2.matches o.0 o.1);
  }
