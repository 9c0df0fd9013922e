-- What is left of a table once it is written down in the registry which slots objects are published from.
use Rattle.std.proofs.Common.{◌≡◌, ◌∙◌, ℕ, zero, suc, ◌+◌, ◌<◌, ◌≤◌, ◌⊎◌, ⊎_elim, inl, inr, true, false, List, [], ◌∷◌, ◌++◌, length, map, take, Contains, Option, Some, None, slice_get, slice_set, sym, ap, subst, refl, arith}
use Rattle.std.proofs.lemmas.List.{map-append, length-append, length-set}
use Rattle.std.proofs.lemmas.Bool.{false≢true}
use Rattle.std.proofs.lemmas.Option.{same_Some, none-some, slice_get_within}
use Rattle.rr_base.specs.declared.name.TheConstants.ClassId.{ARRAY}
use Rattle.rr_space.specs.Graph.{Value, Plain, At, Own, Published, Label, Place, Object, Matches, IsAt, array}
use Rattle.rr_space.specs.Moves.{IsPlanned}
use Rattle.rr_space.specs.Parts.{value_of, below_parts, places_from}
use Rattle.rr_space.specs.Tables.{Slot, Here, Below, Whole, Table, IsRestKept, resolve, resolve_slot, resolve_triple, resolve_object}
use Rattle.rr_space.specs.Views.{AllWithin, placed_from, object_of, below_node, IsLedAlso}
use Rattle.rr_space.specs.declared.node.Node.TheVariants.{Array}
use Rattle.rr_space.specs.declared.refer.Ref.{Ref}
use Rattle.rr_space.specs.declared.refer.Ref.TheVariants.{Local}
use Rattle.rr_space.proofs.Hands.{append_left}
use Rattle.rr_space.proofs.Keeping.{nat_cases, set_same, set_other}
use Rattle.rr_space.proofs.Renaming.{at_contains, contains_at, contains_map_back}
use Rattle.rr_space.proofs.Removing.{values_placed}
use Rattle.rr_share.proofs.Searching.{below_cases}
use Rattle.rr_text.specs.Reads.{IsReadWith}
use Rattle.rr_builtin.specs.Acts.{with_put}
use Rattle.rr_builtin.proofs.Arraying.{put_behind, put_inside}
use Rattle.rr_builtin.proofs.Performing.{read_grown}
use Rattle.rr_eval.specs.Responses.{registry_slot}
use Rattle.rr_eval.specs.Publishing.{own_value, slots_array, IsRegistry, IsNoted, Notes, IsUnpublished}

-- ---- The array of the slots.

pub locals_are : (places : List ℕ) → map value_of (map Local places) ≡ map own_value places
locals_are [] = refl
locals_are (n ∷ ns) = ap (λ vs. At (Own n) ∷ vs) (locals_are ns)

pub locals_below : (k : ℕ) (places : List ℕ) → below_parts (places_from k (map Local places)) ≡ []
locals_below k [] = refl
locals_below k (n ∷ ns) = locals_below (k + 1) ns

pub locals_within : (size k : ℕ) (places : List ℕ) → ((n : ℕ) → Contains places n → n < size) → AllWithin size (places_from k (map Local places))
locals_within size k [] within = tt
locals_within size k (n ∷ ns) within = (within n (0, omega arith, refl), locals_within size (k + 1) ns (λ m (i, lt, e). within m (suc i, omega (arith, lt), e)))

-- each value of it is a slot
placed_in : (k : ℕ) (vs : List Value) (l : Label) (x : Value) → Contains (placed_from k vs) (l, x) → Contains vs x
placed_in k [] l x (i, lt, e) = absurd (let no : ⊥ = omega (arith, lt) in no)
placed_in k (v ∷ vs) l x (zero, lt, e) = (0, omega arith, ap (λ (t : Label × Value). t.1) e)
placed_in k (v ∷ vs) l x (suc i, lt, e) = let r = placed_in (k + 1) vs l x (i, omega (arith, lt), e) in (suc r.0, (let at = r.1 in omega (arith, at)), r.2)

slots_in : (places : List ℕ) (l : Label) (x : Value) → Contains (slots_array places).triples (l, x) → (n : ℕ) × (x ≡ At (Own n)) × Contains places n
slots_in places l x has =
    let m = contains_map_back own_value places x (placed_in 0 (map own_value places) l x has) in
    (m.0, sym m.2, m.1)

-- ---- The registry.

set_at : {A : Type 0} (xs : List A) (k i : ℕ) (y x : A) → slice_get (slice_set xs k y) i ≡ Some x → (slice_get xs i ≡ Some x) ⊎ (x ≡ y)
set_at [] k i y x at = absurd (none-some x at)
set_at (z ∷ zs) zero zero y x at = inr (sym (same_Some y x at))
set_at (z ∷ zs) zero (suc i) y x at = inl at
set_at (z ∷ zs) (suc k) zero y x at = inl at
set_at (z ∷ zs) (suc k) (suc i) y x at = set_at zs k i y x at

set_in : {A : Type 0} (xs : List A) (k : ℕ) (y x : A) → Contains (slice_set xs k y) x → Contains xs x ⊎ (x ≡ y)
set_in xs k y x has =
    let q = at_contains (slice_set xs k y) x has in
    ⊎_elim (λ at. inl (contains_at xs q.0 x at)) (λ e. inr e) (set_at xs k q.0 y x q.1)

last_in : (ts : List (Label × Value)) (s t : Label × Value) → Contains (ts ++ s ∷ []) t → Contains ts t ⊎ (t ≡ s)
last_in [] s t (zero, lt, e) = inr (sym e)
last_in [] s t (suc i, lt, e) = absurd (let no : ⊥ = omega (arith, lt) in no)
last_in (u ∷ us) s t (zero, lt, e) = inl (0, omega arith, e)
last_in (u ∷ us) s t (suc i, lt, e) = ⊎_elim (λ (j, le, q). inl (suc j, omega (arith, le), q)) (λ q. inr q) (last_in us s t (i, omega (arith, lt), e))

-- each value of the registry was there, or is the one that came
put_in : (k : ℕ) (v : Value) (o : Object) → k ≤ length o.triples → (l : Label) (x : Value) → Contains (with_put k v o).triples (l, x) → Contains o.triples (l, x) ⊎ (x ≡ v)
put_in k v o room l x has = ⊎_elim
    (λ inside. ⊎_elim (λ old. inl old) (λ (e : (l, x) ≡ (Place k, v)). inr (ap (λ (t : Label × Value). t.1) e))
    (set_in o.triples k (Place k, v) (l, x) (subst (λ (p : Object). Contains p.triples (l, x)) (sym (put_inside k v o inside)) has)))
    (λ behind. ⊎_elim (λ old. inl old) (λ (e : (l, x) ≡ (Place (length o.triples), v)). inr (ap (λ (t : Label × Value). t.1) e))
    (last_in o.triples (Place (length o.triples), v) (l, x) (subst (λ (p : Object). Contains p.triples (l, x)) (sym (put_behind k v o behind)) has)))
    (below_cases k (length o.triples) (omega (arith, room)))

-- ---- What stands in the slots.

grown_at : (ss : List Slot) (s : Slot) (n : ℕ) → (n ≡ length ss → ⊥) → slice_get (ss ++ s ∷ []) n ≡ slice_get ss n
grown_at [] s zero off = absurd (off refl)
grown_at [] s (suc n) off = refl
grown_at (r ∷ ss) s zero off = refl
grown_at (r ∷ ss) s (suc n) off = grown_at ss s n (λ e. off (ap suc e))

grown_last : (ss : List Slot) (s : Slot) → slice_get (ss ++ s ∷ []) (length ss) ≡ Some s
grown_last [] s = refl
grown_last (r ∷ ss) s = grown_last ss s

pub none_behind : (ss : List Slot) (s : Slot) → slice_get ss (length ss) ≡ Some s → ⊥
none_behind ss s at = let lt = slice_get_within ss (length ss) s at in omega (arith, lt)

grown_within : (ss : List Slot) (s : Slot) → length (ss ++ s ∷ []) ≡ length ss + 1
grown_within ss s = length-append ss (s ∷ [])

-- Each slot that was there ends where it ended, and its object leads to no more than before but the new array. What was
-- frozen stays. The new array, if there is one, is the last slot; it is not frozen, and leads to slots of the places.
pub record IsStanding (places : List ℕ) (t noted : Table) : Type 0 where
  pub ends : (n : ℕ) → resolve_slot (slice_get noted.slots n) n ≡ resolve_slot (slice_get t.slots n) n
  pub step : (n : ℕ) (o : Object) → (n ≡ length t.slots → ⊥) → slice_get noted.slots n ≡ Some (Here o)
      → (p : Object) × (slice_get t.slots n ≡ Some (Here p)) × ((l : Label) (x : Value) → Contains o.triples (l, x) → Contains p.triples (l, x) ⊎ ((x ≡ At (Own (length t.slots))) × ((a : Object) × (slice_get noted.slots (length t.slots) ≡ Some (Here a)))))
  pub back : (n : ℕ) (p : Object) → slice_get t.slots n ≡ Some (Here p) → (o : Object) × (slice_get noted.slots n ≡ Some (Here o)) × (o.frozen ≡ true → o ≡ p)
  pub stay : (n : ℕ) (p : Object) → slice_get t.slots n ≡ Some (Here p) → p.frozen ≡ true → slice_get noted.slots n ≡ slice_get t.slots n
  pub array : (o : Object) → slice_get noted.slots (length t.slots) ≡ Some (Here o) → (o.frozen ≡ true → ⊥) × ((l : Label) (x : Value) → Contains o.triples (l, x) → (m : ℕ) × (x ≡ At (Own m)) × Contains places m)

module _ (c : ℕ) (places : List ℕ) (t noted : Table) (N : IsNoted c places t noted) where
  abbrev item : Object
  item = with_put c (At (Own (length t.slots))) N.object

  abbrev grown : List Slot
  grown = t.slots ++ Here (slots_array places) ∷ []

  inside : registry_slot < length t.slots
  inside = slice_get_within t.slots registry_slot (Here N.object) N.is.here

  at_registry : slice_get noted.slots registry_slot ≡ Some (Here item)
  at_registry = ap (λ ss. slice_get ss registry_slot) N.slots ∙ set_same grown registry_slot (Here item) (let lt = inside in let size = grown_within t.slots (Here (slots_array places)) in omega (arith, lt, size))

  at_array : slice_get noted.slots (length t.slots) ≡ Some (Here (slots_array places))
  at_array =
      ap (λ ss. slice_get ss (length t.slots)) N.slots
      ∙ set_other grown registry_slot (length t.slots) (Here item) (λ e. let lt = inside in omega (arith, lt, e))
      ∙ grown_last t.slots (Here (slots_array places))

  at_other : (n : ℕ) → (registry_slot ≡ n → ⊥) → (n ≡ length t.slots → ⊥) → slice_get noted.slots n ≡ slice_get t.slots n
  at_other n off new =
      ap (λ ss. slice_get ss n) N.slots ∙ set_other grown registry_slot n (Here item) off ∙ grown_at t.slots (Here (slots_array places)) n new

  -- a slot is the registry, the new array or another one
  which : {P : Type 0} (n : ℕ) → (registry_slot ≡ n → P) → (n ≡ length t.slots → P) → ((registry_slot ≡ n → ⊥) → (n ≡ length t.slots → ⊥) → P) → P
  which n is_registry is_array other = ⊎_elim
      (λ e. is_registry (sym e))
      (λ off. ⊎_elim is_array (λ new. other (λ e. off (sym e)) new) (nat_cases n (length t.slots)))
      (nat_cases n registry_slot)

  behind : slice_get t.slots (length t.slots) ≡ None
  behind = by (slice_get t.slots (length t.slots)) refl
    where
      by : (s : Option Slot) → slice_get t.slots (length t.slots) ≡ s → s ≡ None
      by None e = refl
      by (Some s) e = absurd (none_behind t.slots s e)

  ends_at : (n : ℕ) → resolve_slot (slice_get noted.slots n) n ≡ resolve_slot (slice_get t.slots n) n
  ends_at n = which n
      (λ e. subst (λ k. resolve_slot (slice_get noted.slots k) k ≡ resolve_slot (slice_get t.slots k) k) e
      (ap (λ s. resolve_slot s registry_slot) at_registry ∙ sym (ap (λ s. resolve_slot s registry_slot) N.is.here)))
      (λ e. subst (λ k. resolve_slot (slice_get noted.slots k) k ≡ resolve_slot (slice_get t.slots k) k) (sym e)
      (ap (λ s. resolve_slot s (length t.slots)) at_array ∙ sym (ap (λ s. resolve_slot s (length t.slots)) behind)))
      (λ off new. ap (λ s. resolve_slot s n) (at_other n off new))

  abbrev Steps : ℕ → Object → Type 0
  Steps n o = (p : Object) × (slice_get t.slots n ≡ Some (Here p)) × ((l : Label) (x : Value) → Contains o.triples (l, x) → Contains p.triples (l, x) ⊎ ((x ≡ At (Own (length t.slots))) × ((a : Object) × (slice_get noted.slots (length t.slots) ≡ Some (Here a)))))

  same_here : (o p : Object) → Here o ≡ Here p → o ≡ p
  same_here o p e = cc

  step_at : (n : ℕ) (o : Object) → (n ≡ length t.slots → ⊥) → slice_get noted.slots n ≡ Some (Here o) → Steps n o
  step_at n o new at = which n
      (λ e.
      let is : item ≡ o = same_here item o (same_Some (Here item) (Here o) (sym at_registry ∙ ap (slice_get noted.slots) e ∙ at)) in (
        N.object,
        ap (slice_get t.slots) (sym e) ∙ N.is.here,
        λ l x has. ⊎_elim (λ old. inl old) (λ put. inr (put, (slots_array places, at_array)))
            (put_in c (At (Own (length t.slots))) N.object N.is.room l x (subst (λ (p : Object). Contains p.triples (l, x)) (sym is) has)),
      ))
      (λ e. absurd (new e))
      (λ off outside. (o, sym (at_other n off outside) ∙ at, λ l x has. inl has))

  back_at : (n : ℕ) (p : Object) → slice_get t.slots n ≡ Some (Here p) → (o : Object) × (slice_get noted.slots n ≡ Some (Here o)) × (o.frozen ≡ true → o ≡ p)
  back_at n p at = which n
      (λ e. (item, ap (slice_get noted.slots) (sym e) ∙ at_registry, λ frozen. absurd (false≢true (sym N.is.writable ∙ frozen))))
      (λ e. absurd (none_behind t.slots (Here p) (ap (slice_get t.slots) (sym e) ∙ at)))
      (λ off new. (p, at_other n off new ∙ at, λ frozen. refl))

  stay_at : (n : ℕ) (p : Object) → slice_get t.slots n ≡ Some (Here p) → p.frozen ≡ true → slice_get noted.slots n ≡ slice_get t.slots n
  stay_at n p at frozen = which n
      (λ e.
      let is : N.object ≡ p = same_here N.object p (same_Some (Here N.object) (Here p) (sym N.is.here ∙ ap (slice_get t.slots) e ∙ at)) in
      absurd (false≢true (sym N.is.writable ∙ ap (λ (o : Object). o.frozen) is ∙ frozen)))
      (λ e. absurd (none_behind t.slots (Here p) (ap (slice_get t.slots) (sym e) ∙ at)))
      (λ off new. at_other n off new)

  array_at : (o : Object) → slice_get noted.slots (length t.slots) ≡ Some (Here o) → (o.frozen ≡ true → ⊥) × ((l : Label) (x : Value) → Contains o.triples (l, x) → (m : ℕ) × (x ≡ At (Own m)) × Contains places m)
  array_at o at =
      let is : slots_array places ≡ o = same_here (slots_array places) o (same_Some (Here (slots_array places)) (Here o) (sym at_array ∙ at)) in
      (λ frozen. false≢true (ap (λ (p : Object). p.frozen) is ∙ frozen), λ l x has. slots_in places l x (subst (λ (p : Object). Contains p.triples (l, x)) (sym is) has))

pub noted_stands : (c : ℕ) (places : List ℕ) (t noted : Table) → Notes c places t noted → IsStanding places t noted
noted_stands c places t noted (inl N) = record {
  ends = ends_at c places t noted N;
  step = step_at c places t noted N;
  back = back_at c places t noted N;
  stay = stay_at c places t noted N;
  array = array_at c places t noted N;
}
noted_stands c places t noted (inr (none, same)) = subst (IsStanding places t) (sym same) (record {
  ends = λ n. refl;
  step = λ n o new at. (o, at, λ l x has. inl has);
  back = λ n p at. (p, at, λ frozen. refl);
  stay = λ n p at frozen. refl;
  array = λ o at. absurd (none_behind t.slots (Here o) at);
})

-- ---- What is written down.

pub took : (xs : List ℕ) (i x : ℕ) → slice_get xs i ≡ Some x → map Local (take (i + 1) xs) ≡ map Local (take i xs) ++ Local x ∷ []
took xs i x at = ap (λ n. map Local (take n xs)) (let z : i + 1 ≡ suc i = omega arith in z) ∙ ap (map Local) (more xs i at) ∙ map-append Local (take i xs) (x ∷ [])
  where
    more : (xs : List ℕ) (i : ℕ) → slice_get xs i ≡ Some x → take (suc i) xs ≡ take i xs ++ x ∷ []
    more [] i at = absurd (none-some x at)
    more (y ∷ ys) zero at = ap (λ z. z ∷ []) (same_Some y x at)
    more (y ∷ ys) (suc i) at = ap (λ zs. y ∷ zs) (more ys i at)

pub registry_on : (c : ℕ) (t mid : Table) (o : Object) (s : Slot) → IsRegistry c t o → mid.slots ≡ t.slots ++ s ∷ [] → IsRegistry c mid o
registry_on c t mid o s R is = record {
  here = ap (λ ss. slice_get ss registry_slot) is ∙ append_left t.slots (s ∷ []) registry_slot (Here o) R.here;
  writable = R.writable;
  kind = R.kind;
  room = R.room;
}

-- an array of references to the slots, behind the objects
module _ (places : List ℕ) (t mid : Table) (its : List Ref) (are : its ≡ map Local places) (slots : mid.slots ≡ t.slots ++ Here (object_of (Array its)) ∷ []) (below : mid.below ≡ t.below ++ below_node (Array its) ∷ [])
    (keys : mid.keys ≡ t.keys ++ [] ∷ []) (rest : IsRestKept t mid) where
  mid_slots : mid.slots ≡ t.slots ++ Here (slots_array places) ∷ []
  mid_slots = slots ∙ ap (λ ts. t.slots ++ Here (record { kind = array; class = ARRAY.0; bytes = []; frozen = false; triples = ts }) ∷ []) (values_placed its 0 ∙ ap (placed_from 0) (ap (map value_of) are ∙ locals_are places))

  mid_below : mid.below ≡ t.below ++ [] ∷ []
  mid_below = below ∙ ap (λ b. t.below ++ b ∷ []) (ap (λ rs. below_parts (places_from 0 rs)) are ∙ locals_below 0 places)

  pub array_read : (all : Below) → IsReadWith t all → IsReadWith mid all
  array_read all read = read_grown all t mid read mid_below

  pub noted_from : (c : ℕ) (noted : Table) (o : Object) (new : Ref) → IsRegistry c t o → new ≡ Local (length t.slots) → noted.slots ≡ slice_set mid.slots registry_slot (Here (with_put c (value_of new) o))
      → IsLedAlso [] registry_slot mid.below noted.below → noted.keys ≡ mid.keys → IsRestKept mid noted → IsNoted c places t noted
  noted_from c noted o new R name put led kept on = record {
    object = o;
    is = R;
    slots = put ∙ ap (λ ss. slice_set ss registry_slot (Here (with_put c (value_of new) o))) mid_slots
        ∙ ap (λ r. slice_set (t.slots ++ Here (slots_array places) ∷ []) registry_slot (Here (with_put c (value_of r) o))) name;
    below = subst (λ b. IsLedAlso [] registry_slot b noted.below) mid_below led;
    keys = kept ∙ keys;
    rest = record { limit = on.limit ∙ rest.limit; owner = on.owner ∙ rest.owner; next_message = on.next_message ∙ rest.next_message };
  }

  -- no object that was there is another one
  pub array_unpublished : IsUnpublished t mid
  array_unpublished = record {
    slots = λ n lt off. ap (λ ss. slice_get ss n) mid_slots ∙ grown_at t.slots (Here (slots_array places)) n (λ e. omega (arith, lt, e));
    grows = let size = ap length mid_slots in let grown = grown_within t.slots (Here (slots_array places)) in omega (arith, size, grown);
    rest = rest;
  }

-- no slot is lost
pub noted_grows : (c : ℕ) (places : List ℕ) (t noted : Table) → Notes c places t noted → length t.slots ≤ length noted.slots
noted_grows c places t noted (inl N) =
    let size = ap length N.slots ∙ length-set (t.slots ++ Here (slots_array places) ∷ []) registry_slot (Here (with_put c (At (Own (length t.slots))) N.object)) in
    let grown = grown_within t.slots (Here (slots_array places)) in
    omega (arith, size, grown)
noted_grows c places t noted (inr (none, same)) = let size = ap (λ (x : Table). length x.slots) same in omega (arith, size)

pub same_unpublished : (t new : Table) → new ≡ t → IsUnpublished t new
same_unpublished t new same = subst (IsUnpublished t) (sym same) (record { slots = λ n lt off. refl; grows = omega arith; rest = record { limit = refl; owner = refl; next_message = refl } })

-- no object that was there is another one, but the registry
pub noted_unpublished : (c : ℕ) (places : List ℕ) (t noted : Table) → Notes c places t noted → IsUnpublished t noted
noted_unpublished c places t noted (inl N) = record {
  slots = λ n lt off. at_other c places t noted N n off (λ e. omega (arith, lt, e));
  grows = noted_grows c places t noted (inl N);
  rest = N.rest;
}
noted_unpublished c places t noted (inr (none, same)) = same_unpublished t noted same

-- ---- What was planned still is.

module _ (places : List ℕ) (t noted : Table) (S : IsStanding places t noted) where
  pub resolve_same : (x : Value) → resolve noted.slots x ≡ resolve t.slots x
  resolve_same (Plain i) = refl
  resolve_same (At (Own n)) = ap At (S.ends n)
  resolve_same (At (Published c p)) = refl

  triples_same : (ts : List (Label × Value)) → map (resolve_triple noted.slots) ts ≡ map (resolve_triple t.slots) ts
  triples_same [] = refl
  triples_same (s ∷ ts) = ap (λ x. (s.0, x) ∷ map (resolve_triple noted.slots) ts) (resolve_same s.1) ∙ ap (λ us. (s.0, resolve t.slots s.1) ∷ us) (triples_same ts)

  object_same : (o : Object) → resolve_object noted.slots o ≡ resolve_object t.slots o
  object_same o = ap (λ ts. record o { triples = ts }) (triples_same o.triples)

  pub planned_stays : (w : Whole) → IsPlanned t w places → IsPlanned noted w places
  planned_stays w P = record {
    distinct = P.distinct;
    count = P.count;
    same = λ n i at. let s = P.same n i at in
        (s.0, s.1, S.stay n s.0 s.2 s.4 ∙ s.2, s.3, s.4, subst (λ o. Matches (IsAt places) o s.1) (sym (object_same s.0)) s.5);
  }

-- under another number it is as much a plan
pub planned_numbered : (places : List ℕ) (t : Table) (w : Whole) (c : ℕ) → IsPlanned t w places → IsPlanned t (record w { number = c }) places
planned_numbered places t w c P = record { distinct = P.distinct; count = P.count; same = P.same }

pub planned_inside : (places : List ℕ) (t : Table) (w : Whole) → IsPlanned t w places → (n : ℕ) → Contains places n → n < length t.slots
planned_inside places t w P n has =
    let q = at_contains places n has in
    let s = P.same n q.0 q.1 in
    slice_get_within t.slots n (Here s.0) s.2
