-- Once what is shareable of a value is written down, published and promoted, the value leads to nothing shareable of its space.
use Rattle.std.proofs.Common.{◌≡◌, ◌∙◌, ℕ, ◌↔◌, ◌⊎◌, ⊎_elim, inl, inr, List, [], ◌∷◌, ◌++◌, length, map, Contains, Some, slice_get, sym, ap, subst, refl}
use Rattle.rr_space.specs.Graph.{Graph, Name, Own, Published, Value, Plain, At, Label, Object, HasUnder, Leads, Reaches, IsSolid, IsShareable, IsAt}
use Rattle.rr_space.specs.Moves.{IsPlanned, IsPromoted, IsPromotedTo}
use Rattle.rr_space.specs.Sound.{IsTableSound}
use Rattle.rr_space.specs.Tables.{Slot, Here, Whole, Table, IsPublished, IsSealed, joined, resolve, resolve_slot, resolve_triple, resolve_object, space_graph}
use Rattle.rr_space.proofs.Keeping.{list_has, nat_cases}
use Rattle.rr_space.proofs.Renaming.{at_contains, contains_map}
use Rattle.rr_space.proofs.Sounds.{raw_in, resolved_back, sound_is_sealed}
use Rattle.rr_share.proofs.Ends.{unresolved, leads_on}
use Rattle.rr_share.proofs.Solids.{graph_here}
use Rattle.rr_eval.proofs.Noted.{IsStanding, resolve_same}

same_own : (n m : ℕ) → At (Own n) ≡ At (Own m) → n ≡ m
same_own n m e = cc

same_name : (n : Name) (m : Name) → At n ≡ At m → n ≡ m
same_name n m e = cc

is_out : (x : Value) (c p : ℕ) → x ≡ At (Published c p) → IsPublished x
is_out x c p e = subst IsPublished (sym e) tt

-- what is published leads to no slot
published_none : (g : Graph) → IsSealed g → (path : List Label) (x : Value) (n : ℕ) → IsPublished x → Leads g x path (At (Own n)) → ⊥
published_none g sealed [] x n out e = subst IsPublished e out
published_none g sealed (l ∷ path) x n out (z, (Own k, p, is, here, has), rest) = subst IsPublished is out
published_none g sealed (l ∷ path) x n out (z, (Published c q, p, is, here, has), rest) = published_none g sealed path z n (sealed.shut c q p l z here has) rest

-- and to solid objects alone
published_solid : (g : Graph) → IsSealed g → (path : List Label) (x : Value) (m : Name) (o : Object) → IsPublished x → Leads g x path (At m) → g m ≡ Some o → IsSolid o
published_solid g sealed [] x (Own n) o out e here = absurd (subst IsPublished e out)
published_solid g sealed [] x (Published c p) o out e here = sealed.solid c p o here
published_solid g sealed (l ∷ path) x m o out (z, (Own k, p, is, here, has), rest) there = absurd (subst IsPublished is out)
published_solid g sealed (l ∷ path) x m o out (z, (Published c q, p, is, here, has), rest) there = published_solid g sealed path z m o (sealed.shut c q p l z here has) rest there

triple_there : (slots : List Slot) (ts : List (Label × Value)) (l : Label) (x : Value) → Contains ts (l, x) → Contains (map (resolve_triple slots) ts) (l, resolve slots x)
triple_there slots ts l x has = contains_map (resolve_triple slots) ts (l, x) has

module _ (w : Whole) (places : List ℕ) (old noted new : Table) (S : IsStanding places old noted) (plan : IsPlanned noted w places) (h : IsPromotedTo w places noted new) where
  abbrev next : ℕ
  next = length old.slots

  abbrev Held : Type 0
  Held = (a : Object) × (slice_get new.slots next ≡ Some (Here a))

  -- the new array is no place of the plan
  array_out : Contains places next → ⊥
  array_out has =
      let q = at_contains places next has in
      let s = plan.same next q.0 q.1 in
      (S.array s.0 s.2).0 s.4

  array_here : (a : Object) → slice_get new.slots next ≡ Some (Here a) → slice_get noted.slots next ≡ Some (Here a)
  array_here a at = sym (h.slots.others next array_out) ∙ at

  -- what was a place of the plan is published
  leads_out : (z x : Value) (m i : ℕ) → resolve new.slots x ≡ z → x ≡ At (Own m) → IsAt places m i → IsPublished z
  leads_out z x m i end is at = is_out z w.number i (sym end ∙ ap (resolve new.slots) is ∙ ap At (ap (λ s. resolve_slot s m) (h.slots.named m i at)))

  -- what came into the registry ends at the new array
  came_end : (z x : Value) (a : Object) → resolve new.slots x ≡ z → x ≡ At (Own next) → slice_get new.slots next ≡ Some (Here a) → z ≡ At (Own next)
  came_end z x a end is there = sym end ∙ ap (resolve new.slots) is ∙ ap At (ap (λ s. resolve_slot s next) there)

  -- what is a slot in the new space is the same slot in the old one, and no place of the plan
  still_own : (x : Value) (n : ℕ) → resolve new.slots x ≡ At (Own n) → (resolve old.slots x ≡ At (Own n)) × (Contains places n → ⊥)
  still_own x n e =
      let u = unresolved new.slots x n e in
      let out : Contains places n → ⊥ = λ has.
      let q = at_contains places n has in
      let z : Published w.number q.0 ≡ Own n = sym (ap (λ s. resolve_slot s n) (h.slots.named n q.0 q.1)) ∙ u.1 in
      absurd (cc) in (
        sym (resolve_same places old noted S x) ∙ ap (resolve noted.slots) u.0 ∙ ap At (sym (ap (λ s. resolve_slot s n) (h.slots.others n out)) ∙ u.1),
        out,
      )

  -- and the other way about
  own_still : (x : Value) (n : ℕ) → resolve old.slots x ≡ At (Own n) → (Contains places n → ⊥) → resolve new.slots x ≡ At (Own n)
  own_still x n e out =
      let u = unresolved noted.slots x n (resolve_same places old noted S x ∙ e) in
      ap (resolve new.slots) u.0 ∙ ap At (ap (λ s. resolve_slot s n) (h.slots.others n out) ∙ u.1)

  module _ (sound : IsTableSound new.slots new.below) where
    sealed : IsSealed (space_graph new)
    sealed = sound_is_sealed new.slots new.below sound

    -- the new array leads to no other slot
    from_array : (path : List Label) (n : ℕ) → Leads (space_graph new) (At (Own next)) path (At (Own n)) → n ≡ next
    from_array [] n e = sym (same_own next n e)
    from_array (l ∷ path) n (z, (Published c p, o, is, here, has), rest) = absurd (let no : ⊥ = cc in no)
    from_array (l ∷ path) n (z, (Own k, o, is, here, has), rest) =
        let r = raw_in new.slots (joined new.below) next o (ap (λ i. space_graph new (Own i)) (same_own next k is) ∙ here) in
        let z0 = resolved_back new.slots r.0.triples l z (subst (λ (t : Object). Contains t.triples (l, z)) (sym r.2) has) in
        let m = (S.array r.0 (array_here r.0 r.1)).1 l z0.0 z0.1 in
        let q = at_contains places m.0 m.2 in
        absurd (published_none (space_graph new) sealed path z n (leads_out z z0.0 m.0 q.0 z0.2 m.1 q.1) rest)

    -- a path between slots of the new space is one of the old space, or ends at the new array
    path_back : (path : List Label) (y : Value) (n : ℕ) → Leads (space_graph new) (resolve new.slots y) path (At (Own n))
        → (Leads (space_graph old) (resolve old.slots y) path (At (Own n)) × (Contains places n → ⊥)) ⊎ ((n ≡ next) × Held)
    path_back [] y n e = inl (still_own y n e)
    path_back (l ∷ path) y n (z, (Published c p, o, is, here, has), rest) =
        absurd (published_none (space_graph new) sealed path z n (sealed.shut c p o l z here has) rest)
    path_back (l ∷ path) y n (z, (Own k, o, is, here, has), rest) =
        let r = raw_in new.slots (joined new.below) k o here in
        ⊎_elim
        (λ (e : k ≡ next). inr (
          from_array (l ∷ path) n (z, (Own next, o, refl, ap (λ i. space_graph new (Own i)) (sym e) ∙ here, has), rest),
          (r.0, ap (slice_get new.slots) (sym e) ∙ r.1),
        ))
        (λ off.
        let s = still_own y k is in
        let was = S.step k r.0 off (sym (h.slots.others k s.1) ∙ r.1) in
        let z0 = resolved_back new.slots r.0.triples l z (subst (λ (t : Object). Contains t.triples (l, z)) (sym r.2) has) in
        ⊎_elim
        (λ kept. ⊎_elim
        (λ later. inl ((resolve old.slots z0.0, (Own k, resolve_object old.slots was.0, s.0, graph_here old k was.0 was.1, triple_there old.slots was.0.triples l z0.0 kept), later.0), later.1))
        (λ found. inr found)
        (path_back path z0.0 n (subst (λ v. Leads (space_graph new) v path (At (Own n))) (sym z0.2) rest)))
        (λ came.
        let there : slice_get new.slots next ≡ Some (Here came.1.0) = h.slots.others next array_out ∙ came.1.1 in
        inr (from_array path n (subst (λ v. Leads (space_graph new) v path (At (Own n))) (came_end z z0.0 came.1.0 z0.2 came.0 there) rest), (came.1.0, there)))
        (was.2 l z0.0 z0.1))
        (nat_cases k next)

  module _ (sound : IsTableSound old.slots old.below) (shared : (n : ℕ) → Contains places n → IsShareable (space_graph old) (At (Own n))) (v : Value) (all : IsShareable (space_graph new) v) where
    -- a slot that is shareable in the new space was the same in the old one
    in_new : (k : ℕ) (r : Object) → (Contains places k → ⊥) → Reaches (space_graph new) v (Own k) → slice_get old.slots k ≡ Some (Here r) → (slice_get new.slots k ≡ Some (Here r)) × IsSolid r
    in_new k r out reach at =
        let b = S.back k r at in
        let there : slice_get new.slots k ≡ Some (Here b.0) = h.slots.others k out ∙ b.1 in
        let s = all (Own k) (resolve_object new.slots b.0) reach (graph_here new k b.0 there) in
        let is = b.2 s.frozen in
        subst (λ (o : Object). (slice_get new.slots k ≡ Some (Here o)) × IsSolid o) is (there, record { frozen = s.frozen; no_shell = s.no_shell })

    -- where all that v leads to in the new space is solid, so is it in the old one
    solid_back : (path : List Label) (k : ℕ) (m : Name) (o : Object) → (Contains places k → ⊥) → Reaches (space_graph new) v (Own k) → Leads (space_graph old) (At (Own k)) path (At m) → space_graph old m ≡ Some o → IsSolid o
    solid_back [] k m o out reach e here =
        let r = raw_in old.slots (joined old.below) k o (ap (space_graph old) (same_name (Own k) m e) ∙ here) in
        let s = (in_new k r.0 out reach r.1).1 in
        subst IsSolid r.2 (record { frozen = s.frozen; no_shell = s.no_shell })
    solid_back (l ∷ path) k m o out reach (z, (Published c p, q, is, here, has), rest) there = absurd (let no : ⊥ = cc in no)
    solid_back (l ∷ path) k m o out reach (z, (Own j, q, is, here, has), rest) there =
        let same : j ≡ k = sym (same_own k j is) in
        let r = raw_in old.slots (joined old.below) k q (ap (λ i. space_graph old (Own i)) (sym same) ∙ here) in
        let z0 = resolved_back old.slots r.0.triples l z (subst (λ (t : Object). Contains t.triples (l, z)) (sym r.2) has) in
        by z refl rest r z0 (λ i outside on leads. solid_back path i m o outside on leads there)
      where
        by : (y : Value) → y ≡ z → Leads (space_graph old) z path (At m) → (r : (raw : Object) × (slice_get old.slots k ≡ Some (Here raw)) × (resolve_object old.slots raw ≡ q)) → (y0 : Value) × Contains r.0.triples (l, y0) × (resolve old.slots y0 ≡ z)
            → ((i : ℕ) → (Contains places i → ⊥) → Reaches (space_graph new) v (Own i) → Leads (space_graph old) (At (Own i)) path (At m) → IsSolid o) → IsSolid o
        by (Plain i) e rest r z0 later = absurd (plain_leads path (subst (λ x. Leads (space_graph old) x path (At m)) (sym e) rest))
          where
            plain_leads : (path : List Label) → Leads (space_graph old) (Plain i) path (At m) → ⊥
            plain_leads [] f = cc
            plain_leads (j ∷ js) (y, (n, p, is, here, has), rest) = let w : Plain i ≡ At n = is in cc
        by (At (Published c p)) e rest r z0 later = published_solid (space_graph old) (sound_is_sealed old.slots old.below sound) path (At (Published c p)) m o tt (subst (λ x. Leads (space_graph old) x path (At m)) (sym e) rest) there
        by (At (Own i)) e rest r z0 later =
            let leads = subst (λ x. Leads (space_graph old) x path (At m)) (sym e) rest in
            ⊎_elim
            (λ inside. shared i inside m o (path, leads) there)
            (λ outside.
            let stands = (in_new k r.0 out reach r.1).0 in
            let ends : resolve new.slots z0.0 ≡ At (Own i) = own_still z0.0 i (z0.2 ∙ sym e) outside in
            let under : HasUnder (space_graph new) (At (Own k)) l (At (Own i)) = (Own k, resolve_object new.slots r.0, refl, graph_here new k r.0 stands, subst (λ x. Contains (map (resolve_triple new.slots) r.0.triples) (l, x)) ends (triple_there new.slots r.0.triples l z0.0 z0.1)) in
            later i outside (reach.0 ++ l ∷ [], leads_on (space_graph new) reach.0 v (At (Own k)) (At (Own i)) l reach.1 under) leads)
            (list_has places i)

  pub cleared : (v : Value) → IsTableSound old.slots old.below → IsTableSound new.slots new.below
      → ((n : ℕ) → Contains places n ↔ (Reaches (space_graph old) (resolve old.slots v) (Own n) × IsShareable (space_graph old) (At (Own n)))) → IsPromoted new v
  cleared v was is exact n reach share = ⊎_elim
      (λ b.
      let shared : (k : ℕ) → Contains places k → IsShareable (space_graph old) (At (Own k)) = λ k has. ((exact k).0 has).1 in
      let solid : IsShareable (space_graph old) (At (Own n)) = λ m o r there. solid_back was shared (At (Own n)) share r.0 n m o b.1 ([], refl) r.1 there in
      b.1 ((exact n).1 ((reach.0, b.0), solid)))
      (λ found.
      let here : slice_get new.slots n ≡ Some (Here found.1.0) = ap (slice_get new.slots) found.0 ∙ found.1.1 in
      let s = share (Own n) (resolve_object new.slots found.1.0) ([], refl) (graph_here new n found.1.0 here) in
      (S.array found.1.0 (array_here found.1.0 found.1.1)).0 s.frozen)
      (path_back is reach.0 v n reach.1)

  -- what is shareable was published: it is no slot any more
  pub cleared_public : (v : Value)
      → ((n : ℕ) → Contains places n ↔ (Reaches (space_graph old) (resolve old.slots v) (Own n) × IsShareable (space_graph old) (At (Own n))))
      → IsShareable (space_graph old) (resolve old.slots v) → (n : ℕ) → resolve new.slots v ≡ At (Own n) → ⊥
  cleared_public v exact share n e =
      let s = still_own v n e in
      s.1 ((exact n).1 (([], s.0), subst (IsShareable (space_graph old)) s.0 share))

-- where nothing shareable of the space is found, a shareable value is no slot
pub found_public : (t : Table) (v : Value) → IsPromoted t v → IsShareable (space_graph t) (resolve t.slots v) → (n : ℕ) → resolve t.slots v ≡ At (Own n) → ⊥
found_public t v promoted share n e = promoted n ([], e) (subst (IsShareable (space_graph t)) e share)
