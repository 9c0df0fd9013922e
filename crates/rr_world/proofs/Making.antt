-- Changes of one object, as cases of the machine.
use Rattle.std.proofs.Common.{◌≡◌, ℕ, zero, suc, ◌<◌, ◌⊎◌, ⊎_elim, inl, inr, List, [], ◌∷◌, ◌++◌, length, map, Option, Some, None, slice_get, Contains, true, false, sym, ap, ◌∙◌, subst, refl, arith}
use Rattle.std.specs.Prelude.{slice_index, slice_set}
use Rattle.std.specs.Option.{option_map}
use Rattle.std.proofs.lemmas.List.{length-map, map-append}
use Rattle.std.proofs.lemmas.List.Elements.{Contains-append_cases}
use Rattle.std.proofs.lemmas.Option.{none-some, same_Some}
use Rattle.rr_base.specs.declared.name.RactorNo.{RactorNo}
use Rattle.rr_base.specs.declared.fault.Fault.{Fault}
use Rattle.rr_base.specs.declared.name.Sym.{Sym}
use Rattle.rr_space.specs.Graph.{Kind, text, array, hash, plain, shell, Own, Published, Value, Plain, At, Label, Place, Name, Object, exception}
use Rattle.rr_space.specs.Tables.{Slot, Here, Led, renamed_triple}
use Rattle.rr_space.specs.Parts.{value_of, below_ref}
use Rattle.rr_space.specs.Readings.{Owner, Space, Shared, Owned, Objects, Naming, Knows, named, name_in, whole}
use Rattle.rr_space.specs.Steps.{IsNewValue, IsNamed}
use Rattle.rr_space.specs.declared.refer.Ref.{Ref}
use Rattle.rr_space.specs.declared.refer.Ref.TheVariants as ref
use Rattle.rr_space.proofs.Frames.{named_same}
use Rattle.rr_space.proofs.Hands.{some_back}
use Rattle.rr_space.proofs.Renaming.{contains_at, contains_map}
use Rattle.rr_space.proofs.Sounds.{none_in, in_first}
use Rattle.rr_world.specs.Views.{Member, Assembly, seen_slots}
use Rattle.rr_world.specs.Layouts.{layout, space_slots, IsRead}
use Rattle.rr_world.specs.Readings.{root_in, value_in, actor_in, state_in}
use Rattle.rr_world.specs.Enabling.{StandsAt, IsOwn, MayChange, IsNoShell, IsOpen, HasElement, HasFields, IsValue, IsPossible, named_value}
use Rattle.rr_world.specs.ObjectCases.{IsMade, frozen, appended, pushed, written, with_field, cleared, without, with_part, part_label}
use Rattle.rr_world.specs.Cases.{IsOutcome}
use Rattle.rr_world.specs.Changing.{IsSlot, MayChangeSlot, IsMadeOf, IsNamedRef, HasRootsWithin, Freezes, Appends, Pushes, Writes, Sets, Clears, Takes, SetsRaised}
use Rattle.rr_world.specs.Packing.{named_ref}
use Rattle.rr_world.specs.Runs.{HasOutcome}
use Rattle.rr_world.specs.declared.step.Operand.{Operand}
use Rattle.rr_world.specs.declared.step.Operand.TheVariants as operand
use Rattle.rr_world.specs.declared.step.Action.{Action}
use Rattle.rr_world.specs.declared.step.Action.TheVariants.{Freeze, Append, Push, Write, SetField, Clear, Take, SetRaised}
use Rattle.rr_world.specs.declared.step.Reply.TheVariants.{NotEnabled, Refused}
use Rattle.rr_world.specs.Outcomes.{reply_of}
use Rattle.rr_world.specs.declared.outcome.Outcome.{Outcome}
use Rattle.rr_world.specs.declared.outcome.Outcome.TheVariants as outcome
use Rattle.rr_world.proofs.Forwarding.{seen_length}
use Rattle.rr_world.proofs.Enabled.{actor_at, allowed}
use Rattle.rr_world.proofs.Fields.{set_renamed, field_values}
use Rattle.rr_world.proofs.Insides.{set_again, same_assembly}
use Rattle.rr_world.proofs.Published.{at_place, in_place}
use Rattle.rr_world.proofs.Operands.{value_named, known_named, ref_within}
use Rattle.rr_world.proofs.Rewrites.{rewritten}
use Rattle.rr_world.proofs.Staying.{stays_read, same_state, space_renamed}
use Rattle.rr_space.specs.Labels.{raised_place}
use Rattle.rr_world.specs.declared.step.RaisedPart.{RaisedPart}
use Rattle.rr_world.proofs.Taking.{left_values, without_same}

-- a root's value is an immediate or one that the roots reach
root_reached : (g : Objects) (names : Naming) (h : Owner) (rs : List Ref) (v : Ref) → Contains rs v → IsNewValue g (map (root_in names h) rs) (root_in names h v)
root_reached g names h rs v has = by (value_of v) refl
  where
    by : (x : Value) → value_of v ≡ x → IsNewValue g (map (root_in names h) rs) (root_in names h v)
    by (Plain i) e = subst (λ y. IsNewValue g (map (root_in names h) rs) (value_in names h y)) (sym e) tt
    by (At n) e = at_name (name_in names h n) (ap (value_in names h) e)
      where
        at_name : (q : Name) → root_in names h v ≡ At q → IsNewValue g (map (root_in names h) rs) (root_in names h v)
        at_name (Own j) f = subst (IsNewValue g (map (root_in names h) rs)) (sym f) (inl (root_in names h v, contains_map (root_in names h) rs v has, ([], f)))
        at_name (Published c q) f = absurd (never n (sym (ap (value_in names h) e) ∙ f))
          where
            never : (i : Name) → At (name_in names h i) ≡ At (Published c q) → ⊥
            never (Own i) z = cc
            never (Published d i) z = cc

-- what an operand is
pub named_new : (g : Objects) (names : Naming) (h : Owner) (rs : List Ref) (op : Operand) (v : Ref) → named_ref rs op ≡ Some v → IsNewValue g (map (root_in names h) rs) (root_in names h v)
named_new g names h rs operand.Nil v is = subst (λ r. IsNewValue g (map (root_in names h) rs) (root_in names h r)) (same_Some _ v is) tt
named_new g names h rs (operand.Truth true) v is = subst (λ r. IsNewValue g (map (root_in names h) rs) (root_in names h r)) (same_Some _ v is) tt
named_new g names h rs (operand.Truth false) v is = subst (λ r. IsNewValue g (map (root_in names h) rs) (root_in names h r)) (same_Some _ v is) tt
named_new g names h rs (operand.Int b) v is = subst (λ r. IsNewValue g (map (root_in names h) rs) (root_in names h r)) (same_Some _ v is) tt
named_new g names h rs (operand.Symbol b) v is = subst (λ r. IsNewValue g (map (root_in names h) rs) (root_in names h r)) (same_Some _ v is) tt
named_new g names h rs (operand.Class b) v is = subst (λ r. IsNewValue g (map (root_in names h) rs) (root_in names h r)) (same_Some _ v is) tt
named_new g names h rs (operand.Ractor b) v is = subst (λ r. IsNewValue g (map (root_in names h) rs) (root_in names h r)) (same_Some _ v is) tt
named_new g names h rs (operand.Root n) v is = root_reached g names h rs v (contains_at rs n v is)

pub map_set : {A B : Type 0} (f : A → B) (xs : List A) (i : ℕ) (x : A) → map f (slice_set xs i x) ≡ slice_set (map f xs) i (f x)
map_set f [] i x = refl
map_set f (y ∷ ys) zero x = refl
map_set f (y ∷ ys) (suc i) x = ap (λ zs. f y ∷ zs) (map_set f ys i x)

module _ (w : Assembly) (names : Naming) (bound : ℕ) (g : Objects) (R : IsRead w names bound g) (k : ℕ) (m : Member) (at : slice_get w.ractors k ≡ Some m) where
  here_space : layout w (Space k) ≡ Some (seen_slots m)
  unfolding layout
  here_space = ap (option_map space_slots) at

  -- an operand that is an object of the ractor's own is a slot of the space
  slot_named : (op : Operand) (n : ℕ) (y : Owned) → HasRootsWithin m → named_value (actor_in names k m).roots op ≡ Some (At (Own n)) → g n ≡ Some y → y.owner ≡ Space k
      → (i : ℕ) × (raw : Object) × IsSlot op m i raw × (slice_index (names (Space k)) i ≡ n)
  slot_named op n y within is own mine =
      let b = some_back (root_in names (Space k)) (named_ref m.roots op) (At (Own n)) (sym (value_named names (Space k) m.roots op) ∙ is) in
      by b.0 b.1 b.2
    where
      not_shared : (c : ℕ) (x : Owned) → g n ≡ Some x → x.owner ≡ Shared c → (i : ℕ) × (raw : Object) × IsSlot op m i raw × (slice_index (names (Space k)) i ≡ n)
      not_shared c x here its = let both : Space k ≡ Shared c = sym mine ∙ ap (λ (z : Owned). z.owner) (same_Some y x (sym own ∙ here)) ∙ its in let z : ⊥ = cc in absurd z

      at_slot : (i : ℕ) → i < length (seen_slots m) → named_ref m.roots op ≡ Some (ref.Local i) → slice_index (names (Space k)) i ≡ n → (x : Option Slot) → slice_get (seen_slots m) i ≡ x
          → (j : ℕ) × (raw : Object) × IsSlot op m j raw × (slice_index (names (Space k)) j ≡ n)
      at_slot i lt is_named name None e = absurd (none_there (seen_slots m) i lt e)
        where
          none_there : (xs : List Slot) (j : ℕ) → j < length xs → slice_get xs j ≡ None → ⊥
          none_there [] j l none = absurd (omega arith)
          none_there (y ∷ ys) zero l none = none-some y (sym none)
          none_there (y ∷ ys) (suc j) l none = none_there ys j (omega arith) none
      at_slot i lt is_named name (Some (Led c q)) e =
          let x = at_place (layout w) names bound g R.tables c q ((R.tables.sound (Space k) (seen_slots m) here_space).led i c q e) in
          not_shared c x.0 (ap g (sym name ∙ (R.tables.reads (Space k) (seen_slots m) here_space).led i c q e) ∙ x.1) x.2
      at_slot i lt is_named name (Some (Here raw)) e = (i, raw, record { named = is_named; here = e }, name)

      by : (v : Ref) → named_ref m.roots op ≡ Some v → root_in names (Space k) v ≡ At (Own n) → (i : ℕ) × (raw : Object) × IsSlot op m i raw × (slice_index (names (Space k)) i ≡ n)
      by ref.Nil is_named e = absurd (let z : ⊥ = cc in z)
      by ref.False is_named e = absurd (let z : ⊥ = cc in z)
      by ref.True is_named e = absurd (let z : ⊥ = cc in z)
      by (ref.Int b) is_named e = absurd (let z : ⊥ = cc in z)
      by (ref.Symbol b) is_named e = absurd (let z : ⊥ = cc in z)
      by (ref.Class b) is_named e = absurd (let z : ⊥ = cc in z)
      by (ref.Ractor b) is_named e = absurd (let z : ⊥ = cc in z)
      by (ref.Local i) is_named e = at_slot i (let lt = ref_within (length m.space.slots) m.roots op (ref.Local i) within is_named in omega (arith, lt, seen_length m.published m.space.slots)) is_named (let z : At (Own (slice_index (names (Space k)) i)) ≡ At (Own n) = e in cc) (slice_get (seen_slots m) i) refl
      by (ref.Shared q c) is_named e =
          let known = known_named (layout w) m.roots op (ref.Shared q c) (R.knows.ractors k m at).roots is_named in
          let h = ref_within (length m.space.slots) m.roots op (ref.Shared q c) within is_named in
          let x = at_place (layout w) names bound g R.tables c.now.number q (in_place (layout w) (length m.space.slots) (ref.Shared q c) h known) in
          let name : slice_index (names (Shared c.now.number)) q ≡ n = cc in
          not_shared c.now.number x.0 (ap g (sym name) ∙ x.1) x.2

  -- what may be changed in the machine may be changed in the space
  pub may_back : (who : RactorNo) (op : Operand) (may : Object → Type 0) → StandsAt who k → HasRootsWithin m → ((o : Object) → may (named names (Space k) o) → may o)
      → MayChange (state_in w names g) who (actor_in names k m) op may → MayChangeSlot op may m
  may_back who op may stands within keeps (j, n, o, there, own, holds) =
      let same : j ≡ k = omega (arith, stands, there) in
      let s = slot_named op n _ within own.named own.here (ap Space same) in
      let read = (R.tables.reads (Space k) (seen_slots m) here_space).here s.0 s.1 s.2.here in
      let owned : Some (record { owner = Space k; object = named names (Space k) s.1 }) ≡ Some (record { owner = Space j; object = o }) = sym read ∙ ap g s.3 ∙ own.here in
      let one : named names (Space k) s.1 ≡ o = ap (λ (y : Owned). y.object) (same_Some _ _ owned) in
      (s.0, s.1, s.2, keeps s.1 (subst may (sym one) holds))

  -- an object of the space that an operand is, in the machine
  pub own_slot : (op : Operand) (n : ℕ) (o : Object) → IsSlot op m n o → IsOwn (state_in w names g) k (actor_in names k m) op (slice_index (names (Space k)) n) (named names (Space k) o)
  own_slot op n o s = record {
    named = value_named names (Space k) m.roots op ∙ ap (option_map (root_in names (Space k))) s.named;
    here = (R.tables.reads (Space k) (seen_slots m) here_space).here n o s.here;
  }

  pub may_on : (who : RactorNo) (op : Operand) (may : Object → Type 0) → StandsAt who k → ((o : Object) → may o → may (named names (Space k) o)) → MayChangeSlot op may m
      → MayChange (state_in w names g) who (actor_in names k m) op may
  may_on who op may stands keeps (n, o, s, holds) = (k, slice_index (names (Space k)) n, named names (Space k) o, stands, own_slot op n o s, keeps o holds)

  pub value_on : (op : Operand) (v : Ref) → named_ref m.roots op ≡ Some v → named_value (actor_in names k m).roots op ≡ Some (root_in names (Space k) v)
  value_on op v is = value_named names (Space k) m.roots op ∙ ap (option_map (root_in names (Space k))) is

  pub value_back : (op : Operand) → IsValue (actor_in names k m) op → IsNamedRef op m
  value_back op (x, is) = let b = some_back (root_in names (Space k)) (named_ref m.roots op) x (sym (value_named names (Space k) m.roots op) ∙ is) in (b.0, b.1)

-- what a list of one has
pub only : (v u : Ref) → Contains (v ∷ []) u → v ≡ u
only v u has = ⊎_elim (λ one. one) (λ none. absurd (none_in u none)) (in_first v [] u has)

module _ (w w2 : Assembly) (k : ℕ) (m m2 : Member) (at : slice_get w.ractors k ≡ Some m) (rs : w2.ractors ≡ slice_set w.ractors k m2) (is : w2.channels ≡ w.channels) where
  -- a change of an object of the space is one of the machine's, of an object that may be changed there
  pub making : (op : Operand) (may : Object → Type 0) (raw change : Object → Object) (vs : List Ref) → IsMadeOf op may raw vs m m2 → (names : Naming) (bound : ℕ) (g : Objects) → IsRead w names bound g
      → ((v : Ref) → Contains vs v → Knows (below_ref v) (layout w)) → ((v : Ref) → Contains vs v → IsNewValue g (actor_in names k m).roots (root_in names (Space k) v))
      → (may2 : Object → Type 0) → ((n : ℕ) (o : Object) → IsSlot op m n o → may o → may2 (named names (Space k) o)) → ((o : Object) → may o → (o.frozen ≡ true) ⊎ (o.kind ≡ shell) → raw o ≡ o)
      → ((o : Object) (l : Label) (x : Value) → Contains (raw o).triples (l, x) → ((j : Label) × Contains o.triples (j, x)) ⊎ ((v : Ref) × Contains vs v × (x ≡ value_of v)))
      → ((o : Object) → named names (Space k) (raw o) ≡ change (named names (Space k) o))
      → (names2 : Naming) × (bound2 : ℕ) × (g2 : Objects) × IsRead w2 names2 bound2 g2
      × IsMade k (actor_in names k m) op may2 change (state_in w names g) (state_in w2 names2 g2) × IsNamed (Space k) names names2
      × ((i : ℕ) → i < length m.space.slots → slice_index (names2 (Space k)) i ≡ slice_index (names (Space k)) i)
  making op may raw change vs (n, o, slot, holds, A) names bound g R K rooted may2 keeps shut values same =
      let q = rewritten w w2 k n m m2 o (raw o) vs at slot.here A rs is (values o) names bound g R K (shut o holds) rooted in
      let now : named q.0 (Space k) (raw o) ≡ change (named names (Space k) o) = named_same (name_in q.0 (Space k)) (name_in names (Space k)) (raw o) q.5 ∙ same o in
      let changed = q.4 in (
        q.0,
        q.1,
        q.2,
        q.3,
        (
          slice_index (names (Space k)) n,
          named names (Space k) o,
          own_slot w names bound g R k m at op n o slot,
          keeps n o slot holds,
          record {
            was = changed.was;
            now = changed.now ∙ ap (λ (p : Object). Some (record { owner = Space k; object = p })) now;
            others = changed.others;
            objects = changed.objects;
            ractors = changed.ractors;
            post = changed.post;
          },
        ),
        q.6,
        q.7,
      )

  -- so it is of one that no value comes into
  pub making_none : (op : Operand) (may : Object → Type 0) (raw change : Object → Object) → IsMadeOf op may raw [] m m2 → (names : Naming) (bound : ℕ) (g : Objects) → IsRead w names bound g
      → ((o : Object) → may o → may (named names (Space k) o)) → ((o : Object) → may o → (o.frozen ≡ true) ⊎ (o.kind ≡ shell) → raw o ≡ o)
      → ((o : Object) (l : Label) (x : Value) → Contains (raw o).triples (l, x) → (j : Label) × Contains o.triples (j, x))
      → ((o : Object) → named names (Space k) (raw o) ≡ change (named names (Space k) o))
      → (names2 : Naming) × (bound2 : ℕ) × (g2 : Objects) × IsRead w2 names2 bound2 g2
      × IsMade k (actor_in names k m) op may change (state_in w names g) (state_in w2 names2 g2) × IsNamed (Space k) names names2
      × ((i : ℕ) → i < length m.space.slots → slice_index (names2 (Space k)) i ≡ slice_index (names (Space k)) i)
  making_none op may raw change a names bound g R keeps shut values same =
      making op may raw change [] a names bound g R (λ v has. absurd (none_in v has)) (λ v has. absurd (none_in v has)) may (λ n o slot holds. keeps o holds) shut (λ o l x has. inl (values o l x has)) same

  -- and of one that the value of an operand comes into
  pub making_one : (op : Operand) (may : Object → Type 0) (raw change : Object → Object) (value : Operand) (v : Ref) → named_ref m.roots value ≡ Some v → IsMadeOf op may raw (v ∷ []) m m2
      → (names : Naming) (bound : ℕ) (g : Objects) → IsRead w names bound g
      → ((o : Object) → may o → may (named names (Space k) o)) → ((o : Object) → may o → (o.frozen ≡ true) ⊎ (o.kind ≡ shell) → raw o ≡ o)
      → ((o : Object) (l : Label) (x : Value) → Contains (raw o).triples (l, x) → ((j : Label) × Contains o.triples (j, x)) ⊎ (x ≡ value_of v))
      → ((o : Object) → named names (Space k) (raw o) ≡ change (named names (Space k) o))
      → (names2 : Naming) × (bound2 : ℕ) × (g2 : Objects) × IsRead w2 names2 bound2 g2
      × IsMade k (actor_in names k m) op may change (state_in w names g) (state_in w2 names2 g2) × IsNamed (Space k) names names2
      × ((i : ℕ) → i < length m.space.slots → slice_index (names2 (Space k)) i ≡ slice_index (names (Space k)) i)
  making_one op may raw change value v is_named a names bound g R keeps shut values same =
      making op may raw change (v ∷ []) a names bound g R
      (λ u has. subst (λ (r : Ref). Knows (below_ref r) (layout w)) (only v u has) (known_named (layout w) m.roots value v (R.knows.ractors k m at).roots is_named))
      (λ u has. subst (λ (r : Ref). IsNewValue g (map (root_in names (Space k)) m.roots) (root_in names (Space k) r)) (only v u has) (named_new g names (Space k) m.roots value v is_named))
      may (λ n o slot holds. keeps o holds) shut (λ o l x has. ⊎_elim (λ old. inl old) (λ new. inr (v, contains_at (v ∷ []) 0 v refl, new)) (values o l x has)) same

frozen_same : (o : Object) → IsNoShell o → (o.frozen ≡ true) ⊎ (o.kind ≡ shell) → frozen o ≡ o
frozen_same o whole (inl e) = ap (λ b. let x : Object = record o { frozen = b } in x) (sym e)
frozen_same o whole (inr e) = absurd (whole e)

pub open_never : (kind : Kind) (o p : Object) → (kind ≡ shell → ⊥) → IsOpen kind o → (o.frozen ≡ true) ⊎ (o.kind ≡ shell) → p ≡ o
open_never kind o p differ (is, thawed) (inl e) = absurd (let z : false ≡ true = sym thawed ∙ e in cc)
open_never kind o p differ (is, thawed) (inr e) = absurd (differ (sym is ∙ e))

pub text_differs : text ≡ shell → ⊥
text_differs e = cc

pub array_differs : array ≡ shell → ⊥
array_differs e = cc

plain_differs : plain ≡ shell → ⊥
plain_differs e = cc

pub exception_differs : exception ≡ shell → ⊥
exception_differs e = cc

pub hash_differs : hash ≡ shell → ⊥
hash_differs e = cc

pushed_values : (v : Value) (o : Object) (l : Label) (x : Value) → Contains (pushed v o).triples (l, x) → ((j : Label) × Contains o.triples (j, x)) ⊎ (x ≡ v)
pushed_values v o l x has = ⊎_elim
    (λ old. inl (l, old))
    (λ new. ⊎_elim (λ one. inr (sym (ap (λ (t : Label × Value). t.1) one))) (λ none. absurd (none_in (l, x) none)) (in_first (Place (length o.triples), v) [] (l, x) new))
    (Contains-append_cases o.triples ((Place (length o.triples), v) ∷ []) (l, x) has)

later : (a : Label × Value) (xs : List (Label × Value)) (y : Label × Value) → Contains xs y → Contains (a ∷ xs) y
later a xs y (n, lt, e) = (suc n, omega (arith, lt), e)

pub set_values : (ts : List (Label × Value)) (i : ℕ) (t : Label × Value) (l : Label) (x : Value) → Contains (slice_set ts i t) (l, x) → ((j : Label) × Contains ts (j, x)) ⊎ (x ≡ t.1)
set_values [] i t l x has = absurd (none_in (l, x) has)
set_values (s ∷ ts) zero t l x has = ⊎_elim
    (λ one. inr (sym (ap (λ (z : Label × Value). z.1) one)))
    (λ old. inl (l, later s ts (l, x) old))
    (in_first t ts (l, x) has)
set_values (s ∷ ts) (suc i) t l x has = ⊎_elim
    (λ one. inl (l, subst (λ y. Contains (s ∷ ts) y) one (0, omega arith, refl)))
    (λ old. ⊎_elim (λ z. inl (z.0, later s ts (z.0, x) z.1)) (λ z. inr z) (set_values ts i t l x old))
    (in_first s (slice_set ts i t) (l, x) has)

pushed_same : (names : Naming) (h : Owner) (v : Ref) (o : Object) → named names h (pushed (value_of v) o) ≡ pushed (root_in names h v) (named names h o)
pushed_same names h v o =
    ap (λ ts. let x : Object = record o { triples = ts } in x) (map-append (renamed_triple (name_in names h)) o.triples ((Place (length o.triples), value_of v) ∷ [])
    ∙ ap (λ n. map (renamed_triple (name_in names h)) o.triples ++ (Place n, root_in names h v) ∷ []) (sym (length-map o.triples (renamed_triple (name_in names h)))))

field_same : (names : Naming) (h : Owner) (x : ℕ) (v : Ref) (o : Object) → named names h (with_field x (value_of v) o) ≡ with_field x (root_in names h v) (named names h o)
field_same names h x v o = ap (λ ts. let y : Object = record o { triples = ts } in y) (set_renamed (name_in names h) x (value_of v) o.triples)

written_same : (names : Naming) (h : Owner) (i : ℕ) (v : Ref) (o : Object) → named names h (written i (value_of v) o) ≡ written i (root_in names h v) (named names h o)
written_same names h i v o = ap (λ ts. let x : Object = record o { triples = ts } in x) (map_set (renamed_triple (name_in names h)) o.triples i (Place i, value_of v))

part_same : (names : Naming) (h : Owner) (part : RaisedPart) (v : Ref) (o : Object) → named names h (with_part part (value_of v) o) ≡ with_part part (root_in names h v) (named names h o)
part_same names h part v o = ap (λ ts. let x : Object = record o { triples = ts } in x) (map_set (renamed_triple (name_in names h)) o.triples (raised_place (part_label part)) (part_label part, value_of v))

has_on : (names : Naming) (h : Owner) (i : ℕ) (o : Object) → HasElement i o → HasElement i (named names h o)
has_on names h i o (opened, lt) = (opened, omega (arith, lt, length-map o.triples (renamed_triple (name_in names h))))

has_back : (names : Naming) (h : Owner) (i : ℕ) (o : Object) → HasElement i (named names h o) → HasElement i o
has_back names h i o (opened, lt) = (opened, omega (arith, lt, length-map o.triples (renamed_triple (name_in names h))))

-- nothing is changed
pub unmade : (w w2 : Assembly) (who : RactorNo) (k : ℕ) (m m2 : Member) (action : Action) → slice_get w.ractors k ≡ Some m → w2.ractors ≡ slice_set w.ractors k m2 → w2.channels ≡ w.channels → m2 ≡ m
    → ((names : Naming) (bound : ℕ) (g : Objects) → IsRead w names bound g → IsPossible (state_in w names g) (record { who = who; action = action }) → ⊥) → HasOutcome (record { who = who; action = action }) NotEnabled w w2
unmade w w2 who k m m2 action at rs is same never =
    stays_read (record { who = who; action = action }) NotEnabled w w2 (same_assembly w2.ractors w.ractors w2.channels w.channels (rs ∙ set_again w.ractors w.ractors k m2 m refl at same) is)
    (λ names bound g R. (never names bound g R, same_state (state_in w names g)))

-- a growth was refused, and all is as it was
pub unmade_for : (w w2 : Assembly) (who : RactorNo) (k : ℕ) (m m2 : Member) (action : Action) (f : Fault) → slice_get w.ractors k ≡ Some m → w2.ractors ≡ slice_set w.ractors k m2 → w2.channels ≡ w.channels → m2 ≡ m
    → ((names : Naming) (bound : ℕ) (g : Objects) → IsRead w names bound g → IsOutcome (record { who = who; action = action }) (Refused f) (state_in w names g) (state_in w names g))
    → HasOutcome (record { who = who; action = action }) (Refused f) w w2
unmade_for w w2 who k m m2 action f at rs is same case =
    stays_read (record { who = who; action = action }) (Refused f) w w2 (same_assembly w2.ractors w.ractors w2.channels w.channels (rs ∙ set_again w.ractors w.ractors k m2 m refl at same) is) case

-- whatever a freeze answers
pub frozen_by : (w w2 : Assembly) (who : RactorNo) (k : ℕ) (m m2 : Member) (op : Operand) (r : Outcome) → slice_get w.ractors k ≡ Some m → w2.ractors ≡ slice_set w.ractors k m2 → w2.channels ≡ w.channels
    → StandsAt who k → Freezes op r m m2 → HasOutcome (record { who = who; action = Freeze op }) (reply_of r) w w2
frozen_by w w2 who k m m2 op outcome.Done at rs is stands a = λ names bound g R.
    let q = making_none w w2 k m m2 at rs is op IsNoShell frozen frozen a names bound g R (λ o whole. whole) (λ o whole shut. frozen_same o whole shut) (λ o l x has. (l, has)) (λ o. refl) in
    (q.0, q.1, q.2, q.3, (k, actor_in names k m, stands, actor_at w names g k m at, may_on w names bound g R k m at who op IsNoShell stands (λ o whole. whole) (a.0, a.1, a.2, a.3), q.4), space_renamed w k m (record { who = who; action = Freeze op }) at q.5 stands q.6)
frozen_by w w2 who k m m2 op outcome.NotEnabled at rs is stands a =
    unmade w w2 who k m m2 (Freeze op) at rs is a.2 (λ names bound g R e.
    a.1 (may_back w names bound g R k m at who op IsNoShell stands a.0 (λ o whole. whole) (allowed w names g (record { who = who; action = Freeze op }) k m stands at e)))
frozen_by w w2 who k m m2 op (outcome.Refused f) at rs is stands a = absurd a

-- whatever an append answers
pub appended_by : (w w2 : Assembly) (who : RactorNo) (k : ℕ) (m m2 : Member) (op : Operand) (byte : ℕ) (r : Outcome) → slice_get w.ractors k ≡ Some m → w2.ractors ≡ slice_set w.ractors k m2 → w2.channels ≡ w.channels
    → StandsAt who k → Appends op byte r m m2 → HasOutcome (record { who = who; action = Append op byte }) (reply_of r) w w2
appended_by w w2 who k m m2 op byte outcome.Done at rs is stands a = λ names bound g R.
    let q = making_none w w2 k m m2 at rs is op (IsOpen text) (appended byte) (appended byte) a names bound g R (λ o whole. whole)
    (λ o opened shut. open_never text o (appended byte o) text_differs opened shut) (λ o l x has. (l, has)) (λ o. refl) in
    (q.0, q.1, q.2, q.3, (k, actor_in names k m, stands, actor_at w names g k m at, may_on w names bound g R k m at who op (IsOpen text) stands (λ o whole. whole) (a.0, a.1, a.2, a.3), q.4), space_renamed w k m (record { who = who; action = Append op byte }) at q.5 stands q.6)
appended_by w w2 who k m m2 op byte outcome.NotEnabled at rs is stands a =
    unmade w w2 who k m m2 (Append op byte) at rs is a.2 (λ names bound g R e.
    a.1 (may_back w names bound g R k m at who op (IsOpen text) stands a.0 (λ o whole. whole) (allowed w names g (record { who = who; action = Append op byte }) k m stands at e)))
appended_by w w2 who k m m2 op byte (outcome.Refused f) at rs is stands a =
    unmade_for w w2 who k m m2 (Append op byte) f at rs is a.2 (λ names bound g R.
    (k, actor_in names k m, stands, actor_at w names g k m at, may_on w names bound g R k m at who op (IsOpen text) stands (λ o whole. whole) a.1, (a.0, same_state (state_in w names g))))

-- whatever a push answers
pub pushed_by : (w w2 : Assembly) (who : RactorNo) (k : ℕ) (m m2 : Member) (op value : Operand) (r : Outcome) → slice_get w.ractors k ≡ Some m → w2.ractors ≡ slice_set w.ractors k m2 → w2.channels ≡ w.channels
    → StandsAt who k → Pushes op value r m m2 → HasOutcome (record { who = who; action = Push op value }) (reply_of r) w w2
pushed_by w w2 who k m m2 op value outcome.Done at rs is stands (v, is_named, a) = λ names bound g R.
    let q = making_one w w2 k m m2 at rs is op (IsOpen array) (pushed (value_of v)) (pushed (root_in names (Space k) v)) value v is_named a names bound g R
    (λ o whole. whole)
    (λ o opened shut. open_never array o (pushed (value_of v) o) array_differs opened shut) (λ o l x has. pushed_values (value_of v) o l x has) (λ o. pushed_same names (Space k) v o) in (
      q.0,
      q.1,
      q.2,
      q.3,
      (
        k,
        actor_in names k m,
        stands,
        actor_at w names g k m at,
        (may_on w names bound g R k m at who op (IsOpen array) stands (λ o whole. whole) (a.0, a.1, a.2, a.3), (root_in names (Space k) v, value_on w names bound g R k m at value v is_named)),
        (root_in names (Space k) v, value_on w names bound g R k m at value v is_named, q.4),
      ),
      space_renamed w k m (record { who = who; action = Push op value }) at q.5 stands q.6,
    )
pushed_by w w2 who k m m2 op value outcome.NotEnabled at rs is stands a =
    unmade w w2 who k m m2 (Push op value) at rs is a.2 (λ names bound g R e.
    let z = allowed w names g (record { who = who; action = Push op value }) k m stands at e in
    a.1 (may_back w names bound g R k m at who op (IsOpen array) stands a.0 (λ o whole. whole) z.0) (value_back w names bound g R k m at value z.1))
pushed_by w w2 who k m m2 op value (outcome.Refused f) at rs is stands a =
    unmade_for w w2 who k m m2 (Push op value) f at rs is a.3 (λ names bound g R. (
      k,
      actor_in names k m,
      stands,
      actor_at w names g k m at,
      (may_on w names bound g R k m at who op (IsOpen array) stands (λ o whole. whole) a.1, (root_in names (Space k) a.2.0, value_on w names bound g R k m at value a.2.0 a.2.1)),
      (a.0, same_state (state_in w names g)),
    ))

-- whatever a write answers
pub written_by : (w w2 : Assembly) (who : RactorNo) (k : ℕ) (m m2 : Member) (op : Operand) (i : ℕ) (value : Operand) (r : Outcome) → slice_get w.ractors k ≡ Some m → w2.ractors ≡ slice_set w.ractors k m2 → w2.channels ≡ w.channels
    → StandsAt who k → Writes op i value r m m2 → HasOutcome (record { who = who; action = Write op i value }) (reply_of r) w w2
written_by w w2 who k m m2 op i value outcome.Done at rs is stands (v, is_named, a) = λ names bound g R.
    let q = making_one w w2 k m m2 at rs is op (HasElement i) (written i (value_of v)) (written i (root_in names (Space k) v)) value v is_named a names bound g R
    (λ o has. has_on names (Space k) i o has)
    (λ o has shut. open_never array o (written i (value_of v) o) array_differs has.0 shut) (λ o l x has. set_values o.triples i (Place i, value_of v) l x has) (λ o. written_same names (Space k) i v o) in (
      q.0,
      q.1,
      q.2,
      q.3,
      (
        k,
        actor_in names k m,
        stands,
        actor_at w names g k m at,
        (may_on w names bound g R k m at who op (HasElement i) stands (λ o has. has_on names (Space k) i o has) (a.0, a.1, a.2, a.3), (root_in names (Space k) v, value_on w names bound g R k m at value v is_named)),
        (root_in names (Space k) v, value_on w names bound g R k m at value v is_named, q.4),
      ),
      space_renamed w k m (record { who = who; action = Write op i value }) at q.5 stands q.6,
    )
written_by w w2 who k m m2 op i value outcome.NotEnabled at rs is stands a =
    unmade w w2 who k m m2 (Write op i value) at rs is a.2 (λ names bound g R e.
    let z = allowed w names g (record { who = who; action = Write op i value }) k m stands at e in
    a.1 (may_back w names bound g R k m at who op (HasElement i) stands a.0 (λ o has. has_back names (Space k) i o has) z.0) (value_back w names bound g R k m at value z.1))
written_by w w2 who k m m2 op i value (outcome.Refused f) at rs is stands a = absurd a

fields_never : (o p : Object) → HasFields o → (o.frozen ≡ true) ⊎ (o.kind ≡ shell) → p ≡ o
fields_never o p (inl opened) shut = open_never plain o p plain_differs opened shut
fields_never o p (inr opened) shut = open_never exception o p exception_differs opened shut

-- whatever setting a field answers
pub set_by : (w w2 : Assembly) (who : RactorNo) (k : ℕ) (m m2 : Member) (op : Operand) (name : Sym) (value : Operand) (r : Outcome) → slice_get w.ractors k ≡ Some m → w2.ractors ≡ slice_set w.ractors k m2 → w2.channels ≡ w.channels
    → StandsAt who k → Sets op name.0 value r m m2 → HasOutcome (record { who = who; action = SetField op name value }) (reply_of r) w w2
set_by w w2 who k m m2 op name value outcome.Done at rs is stands (v, is_named, a) = λ names bound g R.
    let q = making_one w w2 k m m2 at rs is op HasFields (with_field name.0 (value_of v)) (with_field name.0 (root_in names (Space k) v)) value v is_named a names bound g R
    (λ o whole. whole)
    (λ o opened shut. fields_never o (with_field name.0 (value_of v) o) opened shut) (λ o l x has. field_values name.0 (value_of v) o.triples l x has) (λ o. field_same names (Space k) name.0 v o) in (
      q.0,
      q.1,
      q.2,
      q.3,
      (
        k,
        actor_in names k m,
        stands,
        actor_at w names g k m at,
        (may_on w names bound g R k m at who op HasFields stands (λ o whole. whole) (a.0, a.1, a.2, a.3), (root_in names (Space k) v, value_on w names bound g R k m at value v is_named)),
        (root_in names (Space k) v, value_on w names bound g R k m at value v is_named, q.4),
      ),
      space_renamed w k m (record { who = who; action = SetField op name value }) at q.5 stands q.6,
    )
set_by w w2 who k m m2 op name value outcome.NotEnabled at rs is stands a =
    unmade w w2 who k m m2 (SetField op name value) at rs is a.2 (λ names bound g R e.
    let z = allowed w names g (record { who = who; action = SetField op name value }) k m stands at e in
    a.1 (may_back w names bound g R k m at who op HasFields stands a.0 (λ o whole. whole) z.0) (value_back w names bound g R k m at value z.1))
set_by w w2 who k m m2 op name value (outcome.Refused f) at rs is stands a =
    unmade_for w w2 who k m m2 (SetField op name value) f at rs is a.3 (λ names bound g R. (
      k,
      actor_in names k m,
      stands,
      actor_at w names g k m at,
      (may_on w names bound g R k m at who op HasFields stands (λ o whole. whole) a.1, (root_in names (Space k) a.2.0, value_on w names bound g R k m at value a.2.0 a.2.1)),
      (a.0, same_state (state_in w names g)),
    ))

-- whatever clearing a text answers
pub cleared_by : (w w2 : Assembly) (who : RactorNo) (k : ℕ) (m m2 : Member) (op : Operand) (r : Outcome) → slice_get w.ractors k ≡ Some m → w2.ractors ≡ slice_set w.ractors k m2 → w2.channels ≡ w.channels
    → StandsAt who k → Clears op r m m2 → HasOutcome (record { who = who; action = Clear op }) (reply_of r) w w2
cleared_by w w2 who k m m2 op outcome.Done at rs is stands a = λ names bound g R.
    let q = making_none w w2 k m m2 at rs is op (IsOpen text) cleared cleared a names bound g R (λ o whole. whole)
    (λ o opened shut. open_never text o (cleared o) text_differs opened shut) (λ o l x has. (l, has)) (λ o. refl) in
    (q.0, q.1, q.2, q.3, (k, actor_in names k m, stands, actor_at w names g k m at, may_on w names bound g R k m at who op (IsOpen text) stands (λ o whole. whole) (a.0, a.1, a.2, a.3), q.4), space_renamed w k m (record { who = who; action = Clear op }) at q.5 stands q.6)
cleared_by w w2 who k m m2 op outcome.NotEnabled at rs is stands a =
    unmade w w2 who k m m2 (Clear op) at rs is a.2 (λ names bound g R e.
    a.1 (may_back w names bound g R k m at who op (IsOpen text) stands a.0 (λ o whole. whole) (allowed w names g (record { who = who; action = Clear op }) k m stands at e)))
cleared_by w w2 who k m m2 op (outcome.Refused f) at rs is stands a = absurd a

-- whatever taking an element answers
pub taken_by : (w w2 : Assembly) (who : RactorNo) (k : ℕ) (m m2 : Member) (op : Operand) (i : ℕ) (r : Outcome) → slice_get w.ractors k ≡ Some m → w2.ractors ≡ slice_set w.ractors k m2 → w2.channels ≡ w.channels
    → StandsAt who k → Takes op i r m m2 → HasOutcome (record { who = who; action = Take op i }) (reply_of r) w w2
taken_by w w2 who k m m2 op i outcome.Done at rs is stands a = λ names bound g R.
    let q = making_none w w2 k m m2 at rs is op (HasElement i) (without i) (without i) a names bound g R (λ o has. has_on names (Space k) i o has)
    (λ o has shut. open_never array o (without i o) array_differs has.0 shut) (λ o l x has. left_values o i l x has) (λ o. without_same names (Space k) i o) in
    (q.0, q.1, q.2, q.3, (k, actor_in names k m, stands, actor_at w names g k m at, may_on w names bound g R k m at who op (HasElement i) stands (λ o has. has_on names (Space k) i o has) (a.0, a.1, a.2, a.3), q.4), space_renamed w k m (record { who = who; action = Take op i }) at q.5 stands q.6)
taken_by w w2 who k m m2 op i outcome.NotEnabled at rs is stands a =
    unmade w w2 who k m m2 (Take op i) at rs is a.2 (λ names bound g R e.
    a.1 (may_back w names bound g R k m at who op (HasElement i) stands a.0 (λ o has. has_back names (Space k) i o has) (allowed w names g (record { who = who; action = Take op i }) k m stands at e)))
taken_by w w2 who k m m2 op i (outcome.Refused f) at rs is stands a = absurd a

-- whatever setting a part of an exception answers
pub raised_by : (w w2 : Assembly) (who : RactorNo) (k : ℕ) (m m2 : Member) (op : Operand) (part : RaisedPart) (value : Operand) (r : Outcome) → slice_get w.ractors k ≡ Some m → w2.ractors ≡ slice_set w.ractors k m2 → w2.channels ≡ w.channels
    → StandsAt who k → SetsRaised op part value r m m2 → HasOutcome (record { who = who; action = SetRaised op part value }) (reply_of r) w w2
raised_by w w2 who k m m2 op part value outcome.Done at rs is stands (v, is_named, a) = λ names bound g R.
    let q = making_one w w2 k m m2 at rs is op (IsOpen exception) (with_part part (value_of v)) (with_part part (root_in names (Space k) v)) value v is_named a names bound g R
    (λ o whole. whole)
    (λ o opened shut. open_never exception o (with_part part (value_of v) o) exception_differs opened shut)
    (λ o l x has. set_values o.triples (raised_place (part_label part)) (part_label part, value_of v) l x has) (λ o. part_same names (Space k) part v o) in (
      q.0,
      q.1,
      q.2,
      q.3,
      (
        k,
        actor_in names k m,
        stands,
        actor_at w names g k m at,
        (may_on w names bound g R k m at who op (IsOpen exception) stands (λ o whole. whole) (a.0, a.1, a.2, a.3), (root_in names (Space k) v, value_on w names bound g R k m at value v is_named)),
        (root_in names (Space k) v, value_on w names bound g R k m at value v is_named, q.4),
      ),
      space_renamed w k m (record { who = who; action = SetRaised op part value }) at q.5 stands q.6,
    )
raised_by w w2 who k m m2 op part value outcome.NotEnabled at rs is stands a =
    unmade w w2 who k m m2 (SetRaised op part value) at rs is a.2 (λ names bound g R e.
    let z = allowed w names g (record { who = who; action = SetRaised op part value }) k m stands at e in
    a.1 (may_back w names bound g R k m at who op (IsOpen exception) stands a.0 (λ o whole. whole) z.0) (value_back w names bound g R k m at value z.1))
raised_by w w2 who k m m2 op part value (outcome.Refused f) at rs is stands a = absurd a
