-- After a promotion no shareable object of the space is left in what the value leads to.
use Rattle.std.proofs.Common.{◌≡◌, ℕ, ◌⊎◌, ⊎_elim, inl, inr, nat_eq, Bool, true, false, List, [], ◌∷◌, ◌++◌, map, slice_get, Some, Contains, sym, ap, ◌∙◌, subst, refl}
use Rattle.std.specs.List.{list_any}
use Rattle.std.proofs.lemmas.Bool.{eqb-true}
use Rattle.std.proofs.lemmas.Cmp.{nat_eq_equiv}
use Rattle.std.proofs.lemmas.Map.Views.{list_any-from_Contains}
use Rattle.indexmap.proofs.CallerLemmas.{Contains-list_any}
use Rattle.rr_space.specs.Graph.{Graph, Name, Own, Published, Value, Plain, At, Label, Object, HasUnder, Leads, Reaches, IsSolid, IsShareable}
use Rattle.rr_space.specs.Tables.{Slot, Here, Whole, Table, joined, resolve, resolve_slot, resolve_triple, resolve_object, space_graph, IsSealed, IsPublished}
use Rattle.rr_space.specs.Moves.{IsPromotedTo}
use Rattle.rr_space.specs.Sound.{IsTableSound}
use Rattle.rr_space.proofs.Renaming.{contains_map}
use Rattle.rr_space.proofs.Sounds.{raw_in, resolved_back, sound_is_sealed}
use Rattle.rr_share.specs.Plans.{PromotingPublishesAll}
use Rattle.rr_share.proofs.Searching.{at_contains, none_in}
use Rattle.rr_share.proofs.Ends.{unresolved, reaches_in, leads_on}
use Rattle.rr_share.proofs.Solids.{graph_here}

in_or_not : (xs : List ℕ) (n : ℕ) → Contains xs n ⊎ (Contains xs n → ⊥)
in_or_not xs n = by (list_any (nat_eq n) xs) refl
  where
    by : (b : Bool) → list_any (nat_eq n) xs ≡ b → Contains xs n ⊎ (Contains xs n → ⊥)
    by true e = inl (Contains-list_any nat_eq eqb-true xs n e)
    by false e = inr (λ has. let t : list_any (nat_eq n) xs ≡ true = list_any-from_Contains nat_eq_equiv n xs has in let w : true ≡ false = sym t ∙ e in absurd (cc))

-- what is published leads to solid objects alone
published_solid : (g : Graph) → IsSealed g → (path : List Label) (x : Value) (m : Name) (o : Object) → IsPublished x → Leads g x path (At m) → g m ≡ Some o → IsSolid o
published_solid g sealed [] x (Own n) o out e here = absurd (subst IsPublished e out)
published_solid g sealed [] x (Published c p) o out e here = sealed.solid c p o here
published_solid g sealed (l ∷ path) x m o out (z, (Own k, p, is, here, has), rest) there = absurd (subst IsPublished is out)
published_solid g sealed (l ∷ path) x m o out (z, (Published c q, p, is, here, has), rest) there = published_solid g sealed path z m o (sealed.shut c q p l z here has) rest there

module _ (w : Whole) (places : List ℕ) (old new : Table) (h : IsPromotedTo w places old new) where
  -- what is a slot in the new space is the same slot in the old one, and no place of the plan
  still_own : (x : Value) (n : ℕ) → resolve new.slots x ≡ At (Own n) → (resolve old.slots x ≡ At (Own n)) × (Contains places n → ⊥)
  still_own x n e =
      let u = unresolved new.slots x n e in
      let out : Contains places n → ⊥ = λ has.
      let q = at_contains places n has in
      let led = h.slots.named n q.0 q.1 in
      let z : Published w.number q.0 ≡ Own n = sym (ap (λ s. resolve_slot s n) led) ∙ u.1 in
      absurd (cc) in
      let same : slice_get new.slots n ≡ slice_get old.slots n = h.slots.others n out in
      (ap (resolve old.slots) u.0 ∙ ap At (sym (ap (λ s. resolve_slot s n) same) ∙ u.1), out)

  -- and the other way about
  own_still : (x : Value) (n : ℕ) → resolve old.slots x ≡ At (Own n) → (Contains places n → ⊥) → resolve new.slots x ≡ At (Own n)
  own_still x n e out =
      let u = unresolved old.slots x n e in
      ap (resolve new.slots) u.0 ∙ ap At (ap (λ s. resolve_slot s n) (h.slots.others n out) ∙ u.1)

  triple_there : (slots : List Slot) (ts : List (Label × Value)) (l : Label) (x : Value) → Contains ts (l, x) → Contains (map (resolve_triple slots) ts) (l, resolve slots x)
  triple_there slots ts l x has = contains_map (resolve_triple slots) ts (l, x) has

  module _ (sound : IsTableSound new.slots new.below) where
    -- a path between slots of the new space is one of the old space
    path_back : (path : List Label) (y : Value) (n : ℕ) → Leads (space_graph new) (resolve new.slots y) path (At (Own n)) → Leads (space_graph old) (resolve old.slots y) path (At (Own n)) × (Contains places n → ⊥)
    path_back [] y n e = still_own y n e
    path_back (l ∷ path) y n (z, (Published c p, o, is, here, has), rest) =
        let out = (sound_is_sealed new.slots new.below sound).shut c p o l z here has in
        absurd (none_in n (reaches_in new [] z sound (λ m e. absurd (subst IsPublished e out)) (λ k m has leads. absurd (none_in k has)) n (path, rest)))
    path_back (l ∷ path) y n (z, (Own k, o, is, here, has), rest) =
        let s = still_own y k is in
        let r = raw_in new.slots (joined new.below) k o here in
        let z0 = resolved_back new.slots r.0.triples l z (subst (λ (t : Object). Contains t.triples (l, z)) (sym r.2) has) in
        let later = path_back path z0.0 n (subst (λ v. Leads (space_graph new) v path (At (Own n))) (sym z0.2) rest) in
        let was : slice_get old.slots k ≡ Some (Here r.0) = sym (h.slots.others k s.1) ∙ r.1 in
        ((resolve old.slots z0.0, (Own k, resolve_object old.slots r.0, s.0, graph_here old k r.0 was, triple_there old.slots r.0.triples l z0.0 z0.1), later.0), later.1)

  module _ (sound : IsTableSound old.slots old.below) (shared : (n : ℕ) → Contains places n → IsShareable (space_graph old) (At (Own n))) (v : Value) (all : IsShareable (space_graph new) v) where
    -- where all that v leads to in the new space is solid, so is it in the old one
    solid_back : (path : List Label) (k : ℕ) (m : Name) (o : Object) → (Contains places k → ⊥) → Reaches (space_graph new) v (Own k) → Leads (space_graph old) (At (Own k)) path (At m) → space_graph old m ≡ Some o → IsSolid o
    solid_back [] k m o out reach e here =
        let same : Own k ≡ m = cc in
        let r = raw_in old.slots (joined old.below) k o (ap (space_graph old) same ∙ here) in
        let s = all (Own k) (resolve_object new.slots r.0) reach (graph_here new k r.0 (h.slots.others k out ∙ r.1)) in
        subst IsSolid r.2 (record { frozen = s.frozen; no_shell = s.no_shell })
    solid_back (l ∷ path) k m o out reach (z, (Published c p, q, is, here, has), rest) there = absurd (let w : ⊥ = cc in w)
    solid_back (l ∷ path) k m o out reach (z, (Own j, q, is, here, has), rest) there =
        let same : j ≡ k = cc in
        let r = raw_in old.slots (joined old.below) k q (ap (λ i. space_graph old (Own i)) (sym same) ∙ here) in
        let z0 = resolved_back old.slots r.0.triples l z (subst (λ (t : Object). Contains t.triples (l, z)) (sym r.2) has) in
        by z refl rest r z0 (λ i outside on leads. solid_back path i m o outside on leads there)
      where
        by : (y : Value) → y ≡ z → Leads (space_graph old) z path (At m) → (r : (raw : Object) × (slice_get old.slots k ≡ Some (Here raw)) × (resolve_object old.slots raw ≡ q)) → (y0 : Value) × Contains r.0.triples (l, y0) × (resolve old.slots y0 ≡ z)
            → ((i : ℕ) → (Contains places i → ⊥) → Reaches (space_graph new) v (Own i) → Leads (space_graph old) (At (Own i)) path (At m) → IsSolid o) → IsSolid o
        by (Plain i) e rest r z0 later = absurd (plain_leads path (subst (λ x. Leads (space_graph old) x path (At m)) (sym e) rest))
          where
            plain_leads : (path : List Label) → Leads (space_graph old) (Plain i) path (At m) → ⊥
            plain_leads [] f = cc
            plain_leads (j ∷ js) (y, (n, p, is, here, has), rest) = let w : Plain i ≡ At n = is in cc
        by (At (Published c p)) e rest r z0 later = published_solid (space_graph old) (sound_is_sealed old.slots old.below sound) path (At (Published c p)) m o tt (subst (λ x. Leads (space_graph old) x path (At m)) (sym e) rest) there
        by (At (Own i)) e rest r z0 later =
            let leads = subst (λ x. Leads (space_graph old) x path (At m)) (sym e) rest in
            ⊎_elim
            (λ inside. shared i inside m o (path, leads) there)
            (λ outside.
            let ends : resolve new.slots z0.0 ≡ At (Own i) = own_still z0.0 i (z0.2 ∙ sym e) outside in
            let under : HasUnder (space_graph new) (At (Own k)) l (At (Own i)) = (Own k, resolve_object new.slots r.0, refl, graph_here new k r.0 (h.slots.others k out ∙ r.1), subst (λ x. Contains (map (resolve_triple new.slots) r.0.triples) (l, x)) ends (triple_there new.slots r.0.triples l z0.0 z0.1)) in
            later i outside (reach.0 ++ l ∷ [], leads_on (space_graph new) reach.0 v (At (Own k)) (At (Own i)) l reach.1 under) leads)
            (in_or_not places i)

pub promoting_publishes_all : PromotingPublishesAll
promoting_publishes_all w places v old new h was is exact n reach share =
    let b = path_back w places old new h is reach.0 v n reach.1 in
    let shared : (k : ℕ) → Contains places k → IsShareable (space_graph old) (At (Own k)) = λ k has. ((exact k).0 has).1 in
    let solid : IsShareable (space_graph old) (At (Own n)) = λ m o r there. solid_back w places old new h was shared (At (Own n)) share r.0 n m o b.1 ([], refl) r.1 there in
    b.1 ((exact n).1 ((reach.0, b.0), solid))
