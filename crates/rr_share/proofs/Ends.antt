-- What the references of a slot are in the graph of its space.
use Rattle.std.proofs.Common.{◌≡◌, ℕ, ◌+◌, ◌<◌, ◌≤◌, ◌⊎◌, ⊎_elim, inl, inr, List, [], ◌∷◌, ◌++◌, length, slice_get, Option, Some, None, Result, Ok, Err, IfErr, Contains, sym, ap, ◌∙◌, subst, refl, arith}
use Rattle.std.specs.Option.{option_and_then}
use Rattle.std.proofs.lemmas.Option.{slice_get_within, same_Some, none-some, slice_get-map, some_pair_parts}
use Rattle.rr_space.specs.Graph.{Graph, Own, Published, Value, Plain, At, Label, Object, HasUnder, Leads, Reaches}
use Rattle.rr_space.specs.Tables.{Slot, Here, Led, Below, Table, IsBelow, joined, resolve, resolve_slot, resolve_triple, resolve_object, object_in, space_graph}
use Rattle.rr_space.specs.Sound.{IsStanding, IsTableSound}
use Rattle.rr_space.specs.Parts.{value_of}
use Rattle.rr_space.specs.Views.{slot_object}
use Rattle.rr_space.specs.Labels.{triples_of, triples_at}
use Rattle.rr_space.specs.declared.refer.Ref.{Ref}
use Rattle.rr_space.specs.declared.refer.Ref.TheVariants.{Nil, False, True, Int, Symbol, Class, Ractor, Local, Shared}
use Rattle.rr_space.proofs.Renaming.{mapped_at}
use Rattle.rr_space.proofs.Sounds.{gets, raw_in, resolved_back, sound_is_sealed}
use Rattle.rr_space.proofs.Leaves.{found_all}
use Rattle.rr_share.specs.Search.{IsSettled, LeadsAt, LeadsBelow, LeadsOn, IsReached, slots_to}
use Rattle.rr_share.proofs.Searching.{contains_at, at_contains, none_in, below_cases}

-- a reference that is the slot m
pub local_of : (r : Ref) (m : ℕ) → value_of r ≡ At (Own m) → r ≡ Local m
local_of Nil m e = absurd (let w : ⊥ = cc in w)
local_of False m e = absurd (let w : ⊥ = cc in w)
local_of True m e = absurd (let w : ⊥ = cc in w)
local_of (Int z) m e = absurd (let w : ⊥ = cc in w)
local_of (Symbol s) m e = absurd (let w : ⊥ = cc in w)
local_of (Class c) m e = absurd (let w : ⊥ = cc in w)
local_of (Ractor r) m e = absurd (let w : ⊥ = cc in w)
local_of (Local n) m e = let q : n ≡ m = cc in ap Local q
local_of (Shared p c) m e = absurd (let w : ⊥ = cc in w)

same_own : (n m : ℕ) → At (Own n) ≡ At (Own m) → n ≡ m
same_own n m e = cc

-- what a value is that is a slot once it is resolved: that slot
pub unresolved : (slots : List Slot) (x : Value) (m : ℕ) → resolve slots x ≡ At (Own m) → (x ≡ At (Own m)) × IsSettled slots m
unresolved slots (Plain i) m e = absurd (let w : ⊥ = cc in w)
unresolved slots (At (Published c p)) m e = absurd (let w : ⊥ = cc in w)
unresolved slots (At (Own n)) m e = by (slice_get slots n) refl e
  where
    by : (s : Option Slot) → slice_get slots n ≡ s → At (resolve_slot s n) ≡ At (Own m) → (At (Own n) ≡ At (Own m)) × IsSettled slots m
    by None q w = (w, subst (λ j. resolve_slot (slice_get slots j) j ≡ Own j) (same_own n m w) (ap (λ s. resolve_slot s n) q))
    by (Some (Here o)) q w = (w, subst (λ j. resolve_slot (slice_get slots j) j ≡ Own j) (same_own n m w) (ap (λ s. resolve_slot s n) q))
    by (Some (Led c p)) q w = absurd (let z : ⊥ = cc in z)

-- what stands in a settled slot is an object
pub settled_here : (slots : List Slot) (n : ℕ) → IsSettled slots n → n < length slots → (o : Object) × (slice_get slots n ≡ Some (Here o))
settled_here slots n settled lt = let s = gets slots n lt in by s.0 s.1
  where
    by : (s : Slot) → slice_get slots n ≡ Some s → (o : Object) × (slice_get slots n ≡ Some (Here o))
    by (Here o) q = (o, q)
    by (Led c p) q = absurd (let e : Published c p ≡ Own n = sym (ap (λ s. resolve_slot s n) q) ∙ settled in let w : ⊥ = cc in w)

module _ (t : Table) (n k : ℕ) (settled : IsSettled t.slots n) where
  -- a reference that is a slot once it is resolved is a triple between slots
  pub leads_at : (l : Label) (x : Value) (m : ℕ) → slice_get (triples_at t (Local n)) k ≡ Some (l, x) → resolve t.slots x ≡ At (Own m) → LeadsAt (space_graph t) n k m
  leads_at l x m at is = by (slice_get t.slots n) refl
    where
      read : (s : Option Slot) → slice_get t.slots n ≡ s → slice_get (triples_of (slot_object s (slice_get t.below n))) k ≡ Some (l, x)
      read s q = subst (λ s. slice_get (triples_of (slot_object s (slice_get t.below n))) k ≡ Some (l, x)) q at

      by : (s : Option Slot) → slice_get t.slots n ≡ s → LeadsAt (space_graph t) n k m
      by None q = absurd (none-some (l, x) (read None q))
      by (Some (Here o)) q = (
        resolve_object t.slots o,
        l,
        ap (option_and_then (object_in t.slots)) q,
        slice_get-map (resolve_triple t.slots) o.triples k ∙ ap (λ (e : Option (Label × Value)). option_and_then (λ y. Some (resolve_triple t.slots y)) e) (read (Some (Here o)) q) ∙ ap (λ v. Some (l, v)) is,
      )
      by (Some (Led c p)) q = absurd (let e : Published c p ≡ Own n = sym (ap (λ s. resolve_slot s n) q) ∙ settled in let w : ⊥ = cc in w)

  -- and a triple between slots is such a reference
  pub leads_back : (m : ℕ) → LeadsAt (space_graph t) n k m → (l : Label) × (x : Value) × (slice_get (triples_at t (Local n)) k ≡ Some (l, x)) × (resolve t.slots x ≡ At (Own m))
  leads_back m (o, l, here, at) =
      let r = raw_in t.slots (joined t.below) n o here in
      let q = mapped_at (resolve_triple t.slots) r.0.triples k (l, At (Own m)) (subst (λ (y : Object). slice_get y.triples k ≡ Some (l, At (Own m))) (sym r.2) at) in
      (q.0.0, q.0.1, ap (λ s. slice_get (triples_of (slot_object s (slice_get t.below n))) k) r.1 ∙ q.1, ap (λ (e : Label × Value). e.1) q.2)

module _ (t : Table) (well : IsTableSound t.slots t.below) where
  standing : (below : Below) (x : Value) (m : ℕ) → IsStanding (length t.slots) below x → resolve t.slots x ≡ At (Own m) → m < length t.slots
  standing below (Plain i) m s e = absurd (let w : ⊥ = cc in w)
  standing below (At (Published c p)) m s e = absurd (let w : ⊥ = cc in w)
  standing below (At (Own n)) m s e = let q = same_own n m (unresolved t.slots (At (Own n)) m e).0 in subst (λ j. j < length t.slots) q s

  -- a triple between slots ends at a slot that is there, and at no forward
  pub leads_within : (n k m : ℕ) → LeadsAt (space_graph t) n k m → IsSettled t.slots m × (m < length t.slots)
  leads_within n k m (o, l, here, at) =
      let r = raw_in t.slots (joined t.below) n o here in
      let y = resolved_back t.slots r.0.triples l (At (Own m)) (subst (λ (z : Object). Contains z.triples (l, At (Own m))) (sym r.2) (contains_at o.triples k (l, At (Own m)) at)) in
      let lt = slice_get_within t.slots n (Here r.0) r.1 in
      let b = gets t.below n (omega (arith, lt, well.count)) in
      ((unresolved t.slots y.0 m y.2).1, standing b.0 y.0 m (well.slots n (Here r.0) b.0 r.1 b.1 l y.0 y.1) y.2)

-- a path and one more label
pub leads_on : (g : Graph) (path : List Label) (v x y : Value) (l : Label) → Leads g v path x → HasUnder g x l y → Leads g v (path ++ l ∷ []) y
leads_on g [] v x y l here under = (y, subst (λ w. HasUnder g w l y) (sym here) under, refl)
leads_on g (m ∷ path) v x y l (z, step, rest) under = (z, step, leads_on g path z x y l rest under)

pub reaches_on : (g : Graph) (v : Value) (n k m : ℕ) → Reaches g v (Own n) → LeadsAt g n k m → Reaches g v (Own m)
reaches_on g v n k m (path, leads) (o, l, here, at) = (path ++ l ∷ [], leads_on g path v (At (Own n)) (At (Own m)) l leads (Own n, o, refl, here, contains_at o.triples k (l, At (Own m)) at))

module _ (t : Table) (root : Ref) where
  -- the root itself
  pub reached_root : (m : ℕ) → resolve t.slots (value_of root) ≡ At (Own m) → IsReached t root m
  reached_root m e =
      let u = unresolved t.slots (value_of root) m e in
      let l = local_of root m u.0 in
      record { reach = ([], e); settled = u.1; near = inr l; local = (m, l) }

  -- and what an object that was reached leads to
  pub reached_on : IsTableSound t.slots t.below → (n m : ℕ) → IsReached t root n → LeadsOn (space_graph t) n m → IsReached t root m
  reached_on well n m r (k, leads) =
      let w = leads_within t well n k m leads in
      record { reach = reaches_on (space_graph t) (resolve t.slots (value_of root)) n k m r.reach leads; settled = w.0; near = inl w.1; local = r.local }

  pub reached_below : (m : ℕ) → IsReached t root m → m < length t.slots + slots_to root
  reached_below m r = ⊎_elim (λ lt. omega (arith, lt)) (λ e. let q : slots_to root ≡ m + 1 = ap slots_to e in omega (arith, q)) r.near

  pub reached_here : (m : ℕ) → IsReached t root m → IsBelow (length t.slots) (value_of root) → (o : Object) × (slice_get t.slots m ≡ Some (Here o))
  reached_here m r below = settled_here t.slots m r.settled (⊎_elim (λ lt. lt) (λ e. subst (λ x. IsBelow (length t.slots) (value_of x)) e below) r.near)

-- a list that has the root's slot and is closed under triples has all slots that the root leads to
pub reaches_in : (t : Table) (found : List ℕ) (v : Value) → IsTableSound t.slots t.below → ((m : ℕ) → v ≡ At (Own m) → Contains found m)
    → ((n m : ℕ) → Contains found n → LeadsOn (space_graph t) n m → Contains found m) → (n : ℕ) → Reaches (space_graph t) v (Own n) → Contains found n
reaches_in t found v well root closed n r =
    found_all (space_graph t) found (sound_is_sealed t.slots t.below well)
    (λ n m o l w here has. let q = at_contains o.triples (l, At (Own m)) has in closed n m w (q.0, (o, l, here, q.1))) r.0 v n root r.1

-- what is no slot of the space leads to none
pub none_reached : (t : Table) (root : Ref) → IsTableSound t.slots t.below → ((s : ℕ) → root ≡ Local s → ⊥) → (n : ℕ) → Reaches (space_graph t) (resolve t.slots (value_of root)) (Own n) → ⊥
none_reached t root well outside n r =
    none_in n (reaches_in t [] (resolve t.slots (value_of root)) well (λ m e. absurd (outside m (local_of root m (unresolved t.slots (value_of root) m e).0))) (λ k m has leads. absurd (none_in k has)) n r)

-- the next reference is a slot, or none
module _ (g : Graph) (n k : ℕ) where
  same_end : (e m : ℕ) → LeadsAt g n k e → LeadsAt g n k m → e ≡ m
  same_end e m (o, l, here, at) (p, j, there, also) =
      let q : o ≡ p = same_Some o p (sym here ∙ there) in
      let r = some_pair_parts l j (At (Own e)) (At (Own m)) (sym at ∙ ap (λ (y : Object). slice_get y.triples k) q ∙ also) in
      same_own e m r.1

  pub below_on : (e m : ℕ) → LeadsAt g n k e → LeadsBelow g n (k + 1) m → LeadsBelow g n k m ⊎ (e ≡ m)
  below_on e m here (i, lt, leads) = ⊎_elim
      (λ w. inl (i, w, leads))
      (λ w. inr (same_end e m here (subst (λ j. LeadsAt g n j m) w leads)))
      (below_cases i k lt)

  pub below_skip : (m : ℕ) → ((m : ℕ) → LeadsAt g n k m → ⊥) → LeadsBelow g n (k + 1) m → LeadsBelow g n k m
  below_skip m never (i, lt, leads) = ⊎_elim
      (λ w. (i, w, leads))
      (λ w. absurd (never m (subst (λ j. LeadsAt g n j m) w leads)))
      (below_cases i k lt)

  pub below_more : (m : ℕ) → LeadsBelow g n k m → LeadsBelow g n (k + 1) m
  below_more m (i, lt, leads) = (i, omega (arith, lt), leads)

  pub below_last : (e : ℕ) → LeadsAt g n k e → LeadsBelow g n (k + 1) e
  below_last e leads = (k, omega arith, leads)

-- past its references a slot leads to nothing more
pub below_all : (t : Table) (n k m : ℕ) → IsSettled t.slots n → length (triples_at t (Local n)) ≤ k → LeadsOn (space_graph t) n m → LeadsBelow (space_graph t) n k m
below_all t n k m settled past (i, leads) =
    let b = leads_back t n i settled m leads in
    let lt = slice_get_within (triples_at t (Local n)) i (b.0, b.1) b.2 in
    (i, omega (arith, lt, past), leads)

-- a fact that needs no fault
pub at_err : {X Y P : Type 0} (r : Result X Y) → P → IfErr r (λ _. P)
at_err (Ok x) p = tt
at_err (Err e) p = p
