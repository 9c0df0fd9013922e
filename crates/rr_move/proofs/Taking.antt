-- Objects that are taken out of their slots, one after another.
use Rattle.std.proofs.Common.{◌≡◌, ◌⊎◌, ⊎_elim, inl, inr, ◌<◌, ℕ, ◌+◌, zero, suc, nat_eq, List, [], ◌∷◌, ◌++◌, length, length-set, take, map, slice_get, slice_set, Some, Contains, IsTrue, sym, ap, ◌∙◌, subst, refl, arith}
use Rattle.std.proofs.lemmas.Option.{same_Some, none-some, slice_get_within, get_or_from_slice_get}
use Rattle.std.proofs.lemmas.List.{take_more}
use Rattle.std.proofs.lemmas.List.Elements.{Contains-append_left, Contains-append_right, Contains-append_cases}
use Rattle.std.specs.List.{IsDistinct}
use Rattle.rr_space.specs.Graph.{Own, Published, Value, Plain, At, Label, Object, shell}
use Rattle.rr_space.specs.Graph.{IsAt, Matches}
use Rattle.rr_space.specs.Tables.{Slot, Here, Below, Table, IsRestKept, joined, resolve, resolve_slot, resolve_triple, resolve_object}
use Rattle.rr_space.specs.Moves.{IsSetAt}
use Rattle.rr_space.specs.Views.{emptied, is_whole, below_node, node_keys, IsNodeWithin}
use Rattle.rr_space.specs.Sound.{IsTableSound}
use Rattle.rr_space.specs.Views.{carried_object}
use Rattle.rr_space.specs.declared.carried.Carried.{Carried}
use Rattle.rr_space.proofs.Renaming.{contains_at, at_contains}
use Rattle.rr_copy.specs.Contents.{IsCarriedFrom}
use Rattle.rr_share.proofs.Froze.{whole_here}
use Rattle.rr_share.proofs.Places.{one_place}
use Rattle.rr_space.proofs.Keeping.{set_same, set_other, list_has}
use Rattle.rr_space.proofs.Sounds.{joined_in, joined_back}

-- ---- lists in which named places have x

pub set_none : {A : Type 0} (x : A) (xs : List A) → IsSetAt [] x xs xs
set_none x xs = record { size = refl; named = λ n h. absurd (let w = h.1 in let z : ⊥ = omega (arith, w) in z); others = λ n out. refl }

one_in : (n m : ℕ) → Contains (n ∷ []) m → n ≡ m
one_in n m (zero, lt, e) = e
one_in n m (suc i, lt, e) = absurd (let w : ⊥ = omega (arith, lt) in w)

pub set_more : {A : Type 0} (names : List ℕ) (n : ℕ) (x : A) (old mid : List A) → IsSetAt names x old mid → n < length old → IsSetAt (names ++ n ∷ []) x old (slice_set mid n x)
set_more {A} names n x old mid s lt = record {
  size = length-set mid n x ∙ s.size;
  named = λ m has. ⊎_elim (λ h. named m h) (λ h. subst (λ k. slice_get (slice_set mid n x) k ≡ Some x) (one_in n m h) here) (Contains-append_cases names (n ∷ []) m has);
  others = λ m out. set_other mid n m x (λ e. out (Contains-append_right names (n ∷ []) m (0, omega arith, e))) ∙ s.others m (λ has. out (Contains-append_left names (n ∷ []) m has));
}
  where
    here : slice_get (slice_set mid n x) n ≡ Some x
    here = set_same mid n x (omega (arith, lt, s.size))

    named : (m : ℕ) → Contains names m → slice_get (slice_set mid n x) m ≡ Some x
    named m has = ⊎_elim (λ one. subst (λ k. slice_get (slice_set mid n x) k ≡ Some x) (one_in n m one) here) (λ out. set_other mid n m x (λ e. out (0, omega arith, e)) ∙ s.named m has) (list_has (n ∷ []) m)

-- the first i + 1 names are the first i and the one that stands there
pub take_one : (names : List ℕ) (i n : ℕ) → slice_get names i ≡ Some n → take (i + 1) names ≡ take i names ++ n ∷ []
take_one names i n at = take_more names i n (slice_get_within names i n at) ∙ ap (λ a. take i names ++ a ∷ []) (get_or_from_slice_get names i n n at)

-- ---- what is emptied resolves as it did

module _ (names : List ℕ) (ss us : List Slot) (set : IsSetAt names (Here emptied) ss us) (here : (n : ℕ) → Contains names n → (o : Object) × (slice_get ss n ≡ Some (Here o))) where
  pub same_value : (x : Value) → resolve us x ≡ resolve ss x
  same_value (Plain i) = refl
  same_value (At (Published c p)) = refl
  same_value (At (Own n)) = ⊎_elim
      (λ has. let o = here n has in ap (λ s. At (resolve_slot s n)) (set.named n has) ∙ sym (ap (λ s. At (resolve_slot s n)) o.1))
      (λ out. ap (λ s. At (resolve_slot s n)) (set.others n out)) (list_has names n)

  same_triples : (ts : List (Label × Value)) → map (resolve_triple us) ts ≡ map (resolve_triple ss) ts
  same_triples [] = refl
  same_triples (t ∷ ts) = ap (λ x. (t.0, x) ∷ map (resolve_triple us) ts) (same_value t.1) ∙ ap (λ rest. resolve_triple ss t ∷ rest) (same_triples ts)

  pub same_object : (o : Object) → resolve_object us o ≡ resolve_object ss o
  same_object o = ap (λ ts. record o { triples = ts }) (same_triples o.triples)

-- ---- what is emptied leads to no cluster more

pub less_below : (names : List ℕ) (bs cs : List Below) → IsSetAt names [] bs cs → (e : ℕ × List Object) → Contains (joined cs) e → Contains (joined bs) e
less_below names bs cs set e has = let b = joined_back cs e has in by b.0 b.1 b.2 b.3 (list_has names b.0) where
  by : (n : ℕ) (b : Below) → slice_get cs n ≡ Some b → Contains b e → (Contains names n ⊎ (Contains names n → ⊥)) → Contains (joined bs) e
  by n b at in_b (inl named) =
      let empty : [] ≡ b = same_Some [] b (sym (set.named n named) ∙ at) in
      let w = subst (λ (y : Below). Contains y e) (sym empty) in_b in
      absurd (let lt = w.1 in let z : ⊥ = omega (arith, lt) in z)
  by n b at in_b (inr out) = joined_in bs n b e (sym (set.others n out) ∙ at) in_b

-- ---- one after another

-- of a space the objects of the first k slots were taken, and nothing else changed
pub record IsTakenFirst (t : Table) (names : List ℕ) (k : ℕ) (now : Table) : Type 0 where
  pub slots : IsSetAt (take k names) (Here emptied) t.slots now.slots
  pub below : IsSetAt (take k names) [] t.below now.below
  pub keys : IsSetAt (take k names) [] t.keys now.keys
  pub rest : IsRestKept t now

pub taken_none : (t : Table) (names : List ℕ) → IsTakenFirst t names 0 t
taken_none t names = record { slots = set_none (Here emptied) t.slots; below = set_none [] t.below; keys = set_none [] t.keys; rest = record { limit = refl; owner = refl; next_message = refl } }

take_get : (xs : List ℕ) (k i n : ℕ) → slice_get (take k xs) i ≡ Some n → (i < k) × (slice_get xs i ≡ Some n)
take_get xs zero i n at = absurd (none-some n at)
take_get [] (suc k) i n at = absurd (none-some n at)
take_get (x ∷ xs) (suc k) zero n at = (omega arith, at)
take_get (x ∷ xs) (suc k) (suc i) n at = let r = take_get xs k i n at in (omega (arith, r.0), r.1)

-- one more object is taken, out of the slot that the name at k names
module _ (t : Table) (names : List ℕ) (distinct : IsDistinct nat_eq names) (k : ℕ) (now : Table) (n : ℕ) (at : slice_get names k ≡ Some n)
    (whole : (m : ℕ) → Contains names m → (o : Object) × (slice_get t.slots m ≡ Some (Here o)) × (o.kind ≡ shell → ⊥))
    (inv : IsTakenFirst t names k now) where
  fresh : Contains (take k names) n → ⊥
  fresh has =
      let p = at_contains (take k names) n has in
      let q = take_get names k p.0 n p.1 in
      let z = one_place names n p.0 k distinct q.1 at in
      omega (arith, q.0, z)

  first_here : (m : ℕ) → Contains (take k names) m → (o : Object) × (slice_get t.slots m ≡ Some (Here o))
  first_here m has =
      let p = at_contains (take k names) m has in
      let q = take_get names k p.0 m p.1 in
      let o = whole m (contains_at names p.0 m q.1) in
      (o.0, o.1)

  its : (o : Object) × (slice_get t.slots n ≡ Some (Here o)) × (o.kind ≡ shell → ⊥)
  its = whole n (contains_at names k n at)

  same_slot : slice_get now.slots n ≡ slice_get t.slots n
  same_slot = inv.slots.others n fresh

  pub next_there : n < length now.slots
  next_there = slice_get_within now.slots n (Here its.0) (same_slot ∙ its.1)

  pub next_whole : IsTrue (is_whole (slice_get now.slots n))
  next_whole = whole_here now.slots n its.0 (same_slot ∙ its.1) its.2

  same_now : (o : Object) → resolve_object now.slots o ≡ resolve_object t.slots o
  same_now = same_object (take k names) t.slots now.slots inv.slots first_here

  pub next_known : ((n m : ℕ) (o : Object) (l : Label) → Contains names n → slice_get t.slots n ≡ Some (Here o) → Contains (resolve_object t.slots o).triples (l, At (Own m)) → Contains names m)
      → (o : Object) (l : Label) (m : ℕ) → slice_get now.slots n ≡ Some (Here o) → Contains (resolve_object now.slots o).triples (l, At (Own m)) → Contains names m
  next_known closed o l m here has =
      closed n m o l (contains_at names k n at) (sym same_slot ∙ here) (subst (λ (p : Object). Contains p.triples (l, At (Own m))) (same_now o) has)

  pub next_carried : (c : Carried) → ((o : Object) → slice_get now.slots n ≡ Some (Here o) → Matches (IsAt names) (resolve_object now.slots o) (carried_object c))
      → IsNodeWithin (length names) c.node → ((e : ℕ × List Object) → Contains (below_node c.node) e → Contains (joined now.below) e) → slice_get now.keys n ≡ Some (node_keys c.node)
      → IsCarriedFrom t names n c
  next_carried c matches within clusters keys = record {
    matches = λ o here. subst (λ p. Matches (IsAt names) p (carried_object c)) (same_now o) (matches o (same_slot ∙ here));
    within = within;
    below = λ e has. less_below (take k names) t.below now.below inv.below e (clusters e has);
    keys = sym (inv.keys.others n fresh) ∙ keys;
  }

  pub next_taken : (new : Table) → IsTableSound t.slots t.below → length t.keys ≡ length t.slots → new.slots ≡ slice_set now.slots n (Here emptied) → new.below ≡ slice_set now.below n [] → new.keys ≡ slice_set now.keys n [] → IsRestKept now new
      → IsTakenFirst t names (k + 1) new
  next_taken new sound counted slots below keys rest =
      let lt = slice_get_within t.slots n (Here its.0) its.1 in
      let one = sym (take_one names k n at) in
      record {
        slots = subst (λ l. IsSetAt l (Here emptied) t.slots new.slots) one (subst (IsSetAt (take k names ++ n ∷ []) (Here emptied) t.slots) (sym slots) (set_more (take k names) n (Here emptied) t.slots now.slots inv.slots lt));
        below = subst (λ l. IsSetAt l [] t.below new.below) one (subst (IsSetAt (take k names ++ n ∷ []) [] t.below) (sym below) (set_more (take k names) n [] t.below now.below inv.below (omega (arith, lt, sound.count))));
        keys = subst (λ l. IsSetAt l [] t.keys new.keys) one (subst (IsSetAt (take k names ++ n ∷ []) [] t.keys) (sym keys) (set_more (take k names) n [] t.keys now.keys inv.keys (omega (arith, lt, counted))));
        rest = record { limit = rest.limit ∙ inv.rest.limit; owner = rest.owner ∙ inv.rest.owner; next_message = rest.next_message ∙ inv.rest.next_message };
      }
