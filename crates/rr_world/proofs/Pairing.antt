-- Setting and deleting a pair of a hash, as cases of the machine.
use Rattle.std.proofs.Common.{◌≡◌, ℕ, ◌*◌, ⊎_elim, inl, inr, List, [], ◌∷◌, length, map, Option, Some, None, IsSome, slice_get, Contains, sym, ap, ◌∙◌, subst, refl, arith}
use Rattle.std.specs.Prelude.{slice_set, slice_index}
use Rattle.std.proofs.lemmas.Option.{none-some, same_Some}
use Rattle.rr_base.specs.declared.name.RactorNo.{RactorNo}
use Rattle.rr_space.specs.Graph.{hash, Own, Published, Value, Plain, At, Label, Object}
use Rattle.rr_space.specs.KeyObjects.{slot_key, value_key}
use Rattle.rr_space.specs.Lookups.{key_at, key_of_frozen}
use Rattle.rr_space.specs.Parts.{value_of, below_ref, IsWithin}
use Rattle.rr_space.specs.Readings.{Space, Shared, Objects, Naming, Knows, named, name_in}
use Rattle.rr_space.specs.Sound.{IsWell}
use Rattle.rr_space.specs.Steps.{IsNewValue}
use Rattle.rr_space.specs.Tables.{HashKey, Slot, Here, Led, published_at}
use Rattle.rr_space.specs.Views.{object_at}
use Rattle.rr_space.specs.declared.refer.Ref.{Ref}
use Rattle.rr_space.specs.declared.refer.Ref.TheVariants as ref
use Rattle.rr_space.proofs.Hands.{some_back}
use Rattle.rr_space.proofs.Renaming.{contains_at, map_at, mapped_at}
use Rattle.rr_space.proofs.Sounds.{gets}
use Rattle.rr_space.proofs.Spaces.{known_at}
use Rattle.rr_world.specs.Views.{Member, Assembly, IsPublishedFit, seen_slots}
use Rattle.rr_world.specs.Layouts.{layout, IsRead}
use Rattle.rr_world.specs.Readings.{value_in, root_in, actor_in, state_in}
use Rattle.rr_world.specs.Enabling.{StandsAt, IsOpen, IsKeyValue, HasPair, HasPairs, key_in, owned_key}
use Rattle.rr_world.specs.Changing.{IsSlot}
use Rattle.rr_world.specs.ObjectCases.{HasKeyAt, IsPairOfKey, HasNoPairOfKey, with_value, with_pair, without_pair, pairs_of}
use Rattle.rr_world.specs.Packing.{named_ref}
use Rattle.rr_world.specs.Pairing.{IsReadable, IsKeyRef, HasKeyRef, HasKeys, IsValueMade, IsPairAdded, SetsPair, DeletesPair}
use Rattle.rr_world.specs.Runs.{HasOutcome}
use Rattle.rr_world.specs.Outcomes.{reply_of}
use Rattle.rr_world.specs.declared.step.Operand.{Operand}
use Rattle.rr_world.specs.declared.step.Action.TheVariants.{SetPair, DeletePair}
use Rattle.rr_world.specs.declared.outcome.Outcome.{Outcome}
use Rattle.rr_world.specs.declared.outcome.Outcome.TheVariants as outcome
use Rattle.rr_world.proofs.Clusters.{clusters_of, clusters_known, clusters_listed}
use Rattle.rr_world.proofs.Enabled.{actor_at, allowed}
use Rattle.rr_world.proofs.Forwarding.{seen_here, seen_out}
use Rattle.rr_world.proofs.Making.{making, making_none, may_back, may_on, value_on, value_back, named_new, open_never, hash_differs, unmade, unmade_for}
use Rattle.rr_world.proofs.Operands.{value_named, known_named, ref_within}
use Rattle.rr_world.proofs.PairTriples.{pairs_at, pairs_there, pair_renamed, pairs_renamed, both, value_same, pair_same, has_pair_on, has_pair_back, has_pairs_on, set_value_in, pair_value_in, left_pair_values, without_pair_same}
use Rattle.rr_world.proofs.Reading.{object_seen, object_there}
use Rattle.rr_world.proofs.Seeing.{space_table}
use Rattle.rr_world.proofs.Staying.{same_state, space_renamed}
use Rattle.rr_world.proofs.Turned.{forward_seen, raw_seen}

module _ (w : Assembly) (names : Naming) (bound : ℕ) (g : Objects) (R : IsRead w names bound g) (k : ℕ) (m : Member) (at : slice_get w.ractors k ≡ Some m) (fit : IsPublishedFit m.space m.published) where
  -- the key of a text that a value leads to
  text_same : (r : Ref) (n : ℕ) → Knows (below_ref r) (layout w) → IsWell m.space → IsWithin (length m.space.slots) r → root_in names (Space k) r ≡ At (Own n) → key_of_frozen (object_at m.space r) ≡ key_in g (At (Own n))
  text_same r n K well within is =
      let o = object_there w names bound g R k m at fit r n well within is in
      let q = object_seen w names bound g R k m at fit r K o.0 o.1 in
      let name : q.0 ≡ n = let z : At (Own q.0) ≡ At (Own n) = sym q.2 ∙ is in cc in
      ap key_of_frozen o.1 ∙ sym (ap (λ (y : Object). key_of_frozen (Some y)) q.4) ∙ sym (ap owned_key (ap g (sym name) ∙ q.3))

  -- the key that a value of the space is, it is in the machine
  pub key_same : (r : Ref) → Knows (below_ref r) (layout w) → IsWell m.space → IsWithin (length m.space.slots) r → key_at m.space r ≡ key_in g (root_in names (Space k) r)
  key_same ref.Nil K well within = refl
  key_same ref.False K well within = refl
  key_same ref.True K well within = refl
  key_same (ref.Int b) K well within = refl
  key_same (ref.Symbol b) K well within = refl
  key_same (ref.Class b) K well within = refl
  key_same (ref.Ractor b) K well within = refl
  key_same (ref.Local i) K well within = text_same (ref.Local i) _ K well within refl
  key_same (ref.Shared p c) K well within = text_same (ref.Shared p c) _ K well within refl

  -- what is a key in a place of a cluster, is it in the machine
  place_key : (c q : ℕ) (key : HashKey) → key_of_frozen (published_at (clusters_of w) c q) ≡ Some key → owned_key (g (slice_index (names (Shared c)) q)) ≡ Some key
  place_key c q key is = by (published_at (clusters_of w) c q) refl
    where
      by : (o : Option Object) → published_at (clusters_of w) c q ≡ o → owned_key (g (slice_index (names (Shared c)) q)) ≡ Some key
      by None e = absurd (none-some key (sym (ap key_of_frozen e) ∙ is))
      by (Some o) e =
          let a = known_at (clusters_of w) (layout w) (clusters_known w) c q o e in
          ap owned_key ((R.tables.reads (Shared c) a.0 a.2).here q a.1 a.3) ∙ ap (λ (y : Object). key_of_frozen (Some y)) a.4 ∙ sym (ap key_of_frozen e) ∙ is

  -- and what is a key in the space's slots
  value_key_seen : (x : Value) (key : HashKey) → value_key (clusters_of w) m.space.slots x ≡ Some key → key_in g (value_in names (Space k) x) ≡ Some key
  value_key_seen (Plain i) key is = is
  value_key_seen (At (Published c q)) key is = place_key c q key is
  value_key_seen (At (Own n)) key is = by (slice_get m.space.slots n) refl
    where
      by : (s : Option Slot) → slice_get m.space.slots n ≡ s → owned_key (g (slice_index (names (Space k)) n)) ≡ Some key
      by None e = absurd (none-some key (sym (ap (slot_key (clusters_of w)) e) ∙ is))
      by (Some (Here o)) e =
          let x = raw_seen w names bound g R k m at fit n o e in
          ap owned_key x.1 ∙ ap (λ (y : Object). key_of_frozen (Some y)) x.2 ∙ sym (ap (slot_key (clusters_of w)) e) ∙ is
      by (Some (Led c q)) e =
          ap (λ i. owned_key (g i)) ((R.tables.reads (Space k) (seen_slots m) (space_table w k m at)).led n c q (forward_seen m fit n c q e))
          ∙ place_key c q key (sym (ap (slot_key (clusters_of w)) e) ∙ is)

  -- the key object of a pair of a hash is its key
  pub pair_key : (n i : ℕ) (o : Object) (ks : List HashKey) (key : HashKey) (l : Label) (x : Value) → slice_get m.space.slots n ≡ Some (Here o) → o.kind ≡ hash → slice_get m.space.keys n ≡ Some ks → slice_get ks i ≡ Some key
      → slice_get o.triples (2 * i) ≡ Some (l, x) → key_in g (value_in names (Space k) x) ≡ Some key
  pair_key n i o ks key l x here kind keys there triple =
      value_key_seen x key ((R.knows.ractors k m at).keyed.named (clusters_of w) (clusters_listed w) n i key x (o, ks, l, here, kind, keys, there, triple))

  pub key_value_on : (op : Operand) (r : Ref) → IsReadable m → IsKeyRef op m r → IsKeyValue (state_in w names g) (actor_in names k m) op
  key_value_on op r can is = (
    root_in names (Space k) r,
    value_on w names bound g R k m at op r is.named,
    subst (λ (x : Option HashKey). IsSome x) (key_same r (known_named (layout w) m.roots op r (R.knows.ractors k m at).roots is.named) can.well is.within) is.key,
  )

  pub key_value_back : (op : Operand) → IsReadable m → IsKeyValue (state_in w names g) (actor_in names k m) op → HasKeyRef op m
  key_value_back op can (x, is, key) =
      let b = some_back (root_in names (Space k)) (named_ref m.roots op) x (sym (value_named names (Space k) m.roots op) ∙ is) in
      let within = ref_within (length m.space.slots) m.roots op b.0 can.roots b.1 in
      let same = key_same b.0 (known_named (layout w) m.roots op b.0 (R.knows.ractors k m at).roots b.1) can.well within in (
        b.0,
        record {
          named = b.1;
          key = subst (λ (y : Option HashKey). IsSome y) (sym (same ∙ ap (key_in g) b.2)) key;
          within = within;
        },
      )

-- the pair that is set, in the machine
module _ (w : Assembly) (names : Naming) (bound : ℕ) (g : Objects) (R : IsRead w names bound g) (k : ℕ) (m : Member) (at : slice_get w.ractors k ≡ Some m) (can : IsReadable m)
    (op : Operand) (key : HashKey) (ks : List HashKey) (H : HasKeys op m ks) (y : Value) (is : key_in g y ≡ Some key) where
  -- the slot of the hash
  hash_slot : (n : ℕ) (o : Object) → IsSlot op m n o → (slice_get m.space.slots n ≡ Some (Here o)) × (slice_get m.space.keys n ≡ Some ks)
  hash_slot n o slot =
      let same : ref.Local H.slot ≡ ref.Local n = same_Some (ref.Local H.slot) (ref.Local n) (sym H.named ∙ slot.named) in
      let place : H.slot ≡ n = cc in (
        sym (seen_out m.space m.published n can.fit (seen_here m.space m.published n o can.fit slot.here)) ∙ slot.here,
        ap (slice_get m.space.keys) (sym place) ∙ H.here,
      )

  -- a pair that has the key in the machine has it in the space
  key_back : (n : ℕ) (o : Object) → IsSlot op m n o → IsOpen hash o → (j : ℕ) → HasKeyAt g y j (named names (Space k) o) → slice_get ks j ≡ Some key
  key_back n o slot opened j (p, there, (one, named_is, key_is)) =
      let s = hash_slot n o slot in
      let f = name_in names (Space k) in
      let raw = mapped_at (pair_renamed f) (pairs_of o.triples) j p (ap (λ ps. slice_get ps j) (pairs_renamed f o.triples) ∙ there) in
      let t = pairs_at o.triples j raw.0 raw.1 in
      let many = can.well.keyed.pairs n o ks s.0 s.1 opened.0 in
      let found = gets ks j (let lt = t.2 in omega (arith, lt, many)) in
      let seen = pair_key w names bound g R k m at can.fit n j o ks found.0 t.0 raw.0.0 s.0 opened.0 s.1 found.1 t.1 in
      let value : value_in names (Space k) raw.0.0 ≡ p.0 = ap (λ (q : Value × Value). q.0) raw.2 in
      let same : found.0 ≡ one = same_Some found.0 one (sym seen ∙ ap (key_in g) value ∙ named_is) in
      found.1 ∙ ap (λ x. Some x) same ∙ sym key_is ∙ is

  pub present_on : (i : ℕ) → slice_get ks i ≡ Some key → (n : ℕ) (o : Object) → IsSlot op m n o → HasPair i o → IsPairOfKey g y i (named names (Space k) o)
  present_on i here n o slot has =
      let s = hash_slot n o slot in
      let f = name_in names (Space k) in
      let p = pairs_there o.triples i has.1 in
      let t = pairs_at o.triples i p.0 p.1 in
      let seen = pair_key w names bound g R k m at can.fit n i o ks key t.0 p.0.0 s.0 has.0.0 s.1 here t.1 in (
        has.0,
        (pair_renamed f p.0, ap (λ ps. slice_get ps i) (sym (pairs_renamed f o.triples)) ∙ map_at (pair_renamed f) (pairs_of o.triples) i p.0 p.1, (key, seen, is)),
        λ j other. H.distinct j i key (key_back n o slot has.0 j other) here,
      )

  pub absent_on : (i : ℕ) → (Contains ks key → ⊥) → (n : ℕ) (o : Object) → IsSlot op m n o → HasPairs i o → HasNoPairOfKey g y i (named names (Space k) o)
  absent_on i none n o slot has = (has_pairs_on names (Space k) i o has, λ j other. none (contains_at ks j key (key_back n o slot has.0 j other)))

-- whatever setting a pair answers
pub paired_by : (w w2 : Assembly) (who : RactorNo) (k : ℕ) (m m2 : Member) (op key value : Operand) (r : Outcome) → slice_get w.ractors k ≡ Some m → w2.ractors ≡ slice_set w.ractors k m2 → w2.channels ≡ w.channels
    → StandsAt who k → SetsPair op key value r m m2 → HasOutcome (record { who = who; action = SetPair op key value }) (reply_of r) w w2
paired_by w w2 who k m m2 op key value outcome.Done at rs is stands (r, v, can, named, is_named, made) = λ names bound g R.
    let known = (R.knows.ractors k m at).roots in
    let y = root_in names (Space k) r in
    let x = root_in names (Space k) v in
    let key_is = sym (key_same w names bound g R k m at can.fit r (known_named (layout w) m.roots key r known named.named) can.well named.within) ∙ made.2 in
    let K = both (λ u. Knows (below_ref u) (layout w)) r v (known_named (layout w) m.roots key r known named.named) (known_named (layout w) m.roots value v known is_named) in
    let N = both (λ u. IsNewValue g (map (root_in names (Space k)) m.roots) (root_in names (Space k) u)) r v (named_new g names (Space k) m.roots key r named.named) (named_new g names (Space k) m.roots value v is_named) in
    let keyed = key_value_on w names bound g R k m at can.fit key r can named in
    let key_named = value_on w names bound g R k m at key r named.named in
    let valued = value_on w names bound g R k m at value v is_named in
    ⊎_elim
    (λ (z : IsValueMade op made.0 made.1 r v m m2).
    let q = making w w2 k m m2 at rs is op (HasPair z.0) (with_value z.0 (value_of v)) (with_value z.0 x) (r ∷ v ∷ []) z.2 names bound g R K N
    (IsPairOfKey g y z.0) (present_on w names bound g R k m at can op made.0 made.1 made.3 y key_is z.0 z.1)
    (λ o has shut. open_never hash o (with_value z.0 (value_of v) o) hash_differs has.0 shut) (λ o l u has. set_value_in z.0 r v o l u has) (λ o. value_same names (Space k) z.0 v o) in (
      q.0,
      q.1,
      q.2,
      q.3,
      (
        k,
        actor_in names k m,
        stands,
        actor_at w names g k m at,
        (may_on w names bound g R k m at who op (IsOpen hash) stands (λ o whole. whole) (z.2.0, z.2.1, z.2.2, z.2.3.0), keyed, (x, valued)),
        (y, x, key_named, valued, inl (z.0, q.4)),
      ),
      space_renamed w k m (record { who = who; action = SetPair op key value }) at q.5 stands q.6,
    ))
    (λ (z : IsPairAdded op made.0 made.1 r v m m2).
    let q = making w w2 k m m2 at rs is op (HasPairs z.1) (with_pair z.1 (value_of r) (value_of v)) (with_pair z.1 y x) (r ∷ v ∷ []) z.2 names bound g R K N
    (HasNoPairOfKey g y z.1) (absent_on w names bound g R k m at can op made.0 made.1 made.3 y key_is z.1 z.0)
    (λ o has shut. open_never hash o (with_pair z.1 (value_of r) (value_of v) o) hash_differs has.0 shut) (λ o l u has. pair_value_in z.1 r v o l u has) (λ o. pair_same names (Space k) z.1 r v o) in (
      q.0,
      q.1,
      q.2,
      q.3,
      (
        k,
        actor_in names k m,
        stands,
        actor_at w names g k m at,
        (may_on w names bound g R k m at who op (IsOpen hash) stands (λ o whole. whole) (z.2.0, z.2.1, z.2.2, z.2.3.0), keyed, (x, valued)),
        (y, x, key_named, valued, inr (z.1, q.4)),
      ),
      space_renamed w k m (record { who = who; action = SetPair op key value }) at q.5 stands q.6,
    ))
    made.4
paired_by w w2 who k m m2 op key value outcome.NotEnabled at rs is stands (can, never, same) =
    unmade w w2 who k m m2 (SetPair op key value) at rs is same (λ names bound g R e.
    let z = allowed w names g (record { who = who; action = SetPair op key value }) k m stands at e in
    never (may_back w names bound g R k m at who op (IsOpen hash) stands can.roots (λ o whole. whole) z.0) (key_value_back w names bound g R k m at can.fit key can z.1) (value_back w names bound g R k m at value z.2))
paired_by w w2 who k m m2 op key value (outcome.Refused f) at rs is stands (memory, can, open_hash, keyed, valued, same) =
    unmade_for w w2 who k m m2 (SetPair op key value) f at rs is same (λ names bound g R. (
      k,
      actor_in names k m,
      stands,
      actor_at w names g k m at,
      (may_on w names bound g R k m at who op (IsOpen hash) stands (λ o whole. whole) open_hash, key_value_on w names bound g R k m at can.fit key keyed.0 can keyed.1, (root_in names (Space k) valued.0, value_on w names bound g R k m at value valued.0 valued.1)),
      (memory, same_state (state_in w names g)),
    ))

-- whatever deleting a pair answers
pub unpaired_by : (w w2 : Assembly) (who : RactorNo) (k : ℕ) (m m2 : Member) (op : Operand) (i : ℕ) (r : Outcome) → slice_get w.ractors k ≡ Some m → w2.ractors ≡ slice_set w.ractors k m2 → w2.channels ≡ w.channels
    → StandsAt who k → DeletesPair op i r m m2 → HasOutcome (record { who = who; action = DeletePair op i }) (reply_of r) w w2
unpaired_by w w2 who k m m2 op i outcome.Done at rs is stands a = λ names bound g R.
    let q = making_none w w2 k m m2 at rs is op (HasPair i) (without_pair i) (without_pair i) a names bound g R (λ o has. has_pair_on names (Space k) i o has)
    (λ o has shut. open_never hash o (without_pair i o) hash_differs has.0 shut) (λ o l x has. left_pair_values o i l x has) (λ o. without_pair_same names (Space k) i o) in
    (q.0, q.1, q.2, q.3, (k, actor_in names k m, stands, actor_at w names g k m at, may_on w names bound g R k m at who op (HasPair i) stands (λ o has. has_pair_on names (Space k) i o has) (a.0, a.1, a.2, a.3), q.4), space_renamed w k m (record { who = who; action = DeletePair op i }) at q.5 stands q.6)
unpaired_by w w2 who k m m2 op i outcome.NotEnabled at rs is stands a =
    unmade w w2 who k m m2 (DeletePair op i) at rs is a.2 (λ names bound g R e.
    a.1 (may_back w names bound g R k m at who op (HasPair i) stands a.0 (λ o has. has_pair_back names (Space k) i o has) (allowed w names g (record { who = who; action = DeletePair op i }) k m stands at e)))
unpaired_by w w2 who k m m2 op i (outcome.Refused f) at rs is stands a = absurd a
