-- Constants are set and got.
use Rattle.std.proofs.Common.{◌≡◌, ℕ, ⊎_elim, List, [], ◌∷◌, ◌++◌, zero, suc, length, map, Option, Some, None, slice_get, sym, ap, ◌∙◌, subst, refl, arith}
use Rattle.std.specs.Prelude.{slice_index, slice_set}
use Rattle.std.specs.Option.{option_map, option_and_then}
use Rattle.std.proofs.lemmas.List.{map-append}
use Rattle.std.proofs.lemmas.List.Elements.{Contains-append_cases}
use Rattle.std.proofs.lemmas.Option.{same_Some}
use Rattle.rr_base.specs.declared.name.RactorNo.{RactorNo}
use Rattle.rr_base.specs.declared.name.Sym.{Sym}
use Rattle.rr_base.specs.declared.fault.Fault.{Fault}
use Rattle.rr_base.specs.declared.fault.Fault.TheVariants as fault
use Rattle.rr_base.specs.declared.event.StoreEvent.{StoreEvent}
use Rattle.rr_base.specs.declared.event.StoreEvent.TheVariants as event
use Rattle.rr_space.specs.Graph.{Own, Published, At}
use Rattle.rr_space.specs.Tables.{Slot, Here, Led, joined, resolve, resolve_slot}
use Rattle.rr_space.specs.Parts.{value_of, below_ref, IsWithin}
use Rattle.rr_space.specs.Readings.{Owner, Space, Hand, Mail, Shown, Shared, Owned, Objects, Naming, Layout, IsReading, Knows, named}
use Rattle.rr_space.specs.declared.refer.Ref.{Ref}
use Rattle.rr_space.specs.declared.refer.Ref.TheVariants as ref
use Rattle.rr_space.proofs.Frames.{reading_same}
use Rattle.rr_space.proofs.Hands.{some_back}
use Rattle.rr_space.proofs.Sounds.{gets, none_in, in_first}
use Rattle.rr_store.specs.Stores.{Store, HasEvent, constant_of}
use Rattle.rr_store.specs.Stores as stores
use Rattle.rr_store.specs.Answers.{IsSet, SetRefusal, GetRefusal}
use Rattle.rr_store.specs.declared.constant.ConstValue.{ConstValue}
use Rattle.rr_store.specs.declared.constant.ConstValue.TheVariants.{Shareable}
use Rattle.rr_store.specs.declared.constant.ConstValue.TheVariants as store
use Rattle.rr_world.specs.Views.{Member, Channels, Assembly}
use Rattle.rr_world.specs.Layouts.{layout, space_slots, hand_slots, inbox_slots, port_slots, cluster_slots, MemberKnows, IsKnowing, IsRead}
use Rattle.rr_world.specs.States.{Actor, Held, constant_at, itself}
use Rattle.rr_world.specs.Readings.{each_from, actor_in, mailbox_in, showcase_in, root_in, value_in, public_value, constant_in, archive_in, post_in, state_in, published_names}
use Rattle.rr_world.specs.Enabling.{StandsAt, IsPublicValue, named_value, MaySet}
use Rattle.rr_world.specs.ConstantCases.{IsSetRefused, IsSetOwnRefused, IsGetRefused, IsConstantSet, IsMain}
use Rattle.rr_world.specs.Getting.{IsOwnRef, IsPublicRef, Joins}
use Rattle.rr_world.specs.Packing.{named_ref}
use Rattle.rr_world.specs.Runs.{HasOutcome}
use Rattle.rr_world.specs.declared.step.Operand.{Operand}
use Rattle.rr_world.specs.declared.step.Action.TheVariants.{SetConst, SetOwn, GetConst}
use Rattle.rr_world.specs.declared.step.Reply.TheVariants.{NotEnabled, Done, Refused, OfMain}
use Rattle.rr_world.specs.Outcomes.{reply_of}
use Rattle.rr_world.specs.declared.outcome.Outcome.{Outcome}
use Rattle.rr_world.specs.declared.outcome.Outcome.TheVariants as outcome
use Rattle.rr_world.proofs.Forwarding.{seen_plain}
use Rattle.rr_world.proofs.Enabled.{actor_at, allowed, none_back}
use Rattle.rr_world.proofs.Insides.{set_again, same_assembly}
use Rattle.rr_world.proofs.Knowing.{knows_either, knows_on, member_on, order_on, read_set, message_on}
use Rattle.rr_world.proofs.Published.{at_place, in_place}
use Rattle.rr_world.proofs.Seeing.{space_table, value_resolved}
use Rattle.rr_world.proofs.Lists.{eq_cases, seen_same, each_set}
use Rattle.rr_world.proofs.Operands.{known_named, value_named}
use Rattle.rr_world.proofs.Staying.{stays, stays_read, same_state}
use Rattle.rr_world.proofs.Fitting.{waits_same, fits_same}
use Rattle.rr_world.proofs.Rooting.{roots_and_more, within_more}
use Rattle.rr_world.proofs.Holding.{rooted_same, inboxes_same, ports_same}

get_mapped : {A B : Type 0} (f : A → B) (xs : List A) (i : ℕ) → slice_get (map f xs) i ≡ option_map f (slice_get xs i)
get_mapped f [] i = refl
get_mapped f (x ∷ xs) zero = refl
get_mapped f (x ∷ xs) (suc i) = get_mapped f xs i

flat : (names : Naming) (x : Option (Option ConstValue)) → option_and_then itself (option_map (option_map (constant_in names)) x) ≡ option_map (constant_in names) (option_and_then stores.itself x)
flat names None = refl
flat names (Some c) = refl

-- what a name has in the machine it has in the store
seen : (names : Naming) (s : Store) (n : Sym) → constant_at (archive_in names s) n.0 ≡ option_map (constant_in names) (constant_of s n)
seen names s n = ap (option_and_then itself) (get_mapped (option_map (constant_in names)) s.constants n.0) ∙ flat names (slice_get s.constants n.0)

public_root : (names : Naming) (h : Owner) (v : Ref) → IsWithin 0 v → root_in names h v ≡ public_value names (value_of v)
public_root names h ref.Nil i = refl
public_root names h ref.False i = refl
public_root names h ref.True i = refl
public_root names h (ref.Int b) i = refl
public_root names h (ref.Symbol b) i = refl
public_root names h (ref.Class b) i = refl
public_root names h (ref.Ractor b) i = refl
public_root names h (ref.Local n) i = absurd (omega (arith, i))
public_root names h (ref.Shared p c) i = refl

-- a value that every ractor may have is an immediate or shared
public_seen : (tables : Layout) (names : Naming) (bound : ℕ) (g : Objects) (h : Owner) → IsReading tables names bound g → (v : Ref) → IsWithin 0 v → Knows (below_ref v) tables → IsPublicValue g (root_in names h v)
public_seen tables names bound g h R ref.Nil i K = tt
public_seen tables names bound g h R ref.False i K = tt
public_seen tables names bound g h R ref.True i K = tt
public_seen tables names bound g h R (ref.Int b) i K = tt
public_seen tables names bound g h R (ref.Symbol b) i K = tt
public_seen tables names bound g h R (ref.Class b) i K = tt
public_seen tables names bound g h R (ref.Ractor b) i K = tt
public_seen tables names bound g h R (ref.Local n) i K = absurd (omega (arith, i))
public_seen tables names bound g h R (ref.Shared p c) i K =
    let x = at_place tables names bound g R c.now.number p (in_place tables 0 (ref.Shared p c) i K) in
    (x.0, x.1, (c.now.number, x.2))

module _ (w w2 : Assembly) (name : Sym) (c : ConstValue) (rs : w2.ractors ≡ w.ractors) (boxes : w2.channels.inboxes ≡ w.channels.inboxes) (ports : w2.channels.ports ≡ w.channels.ports) (clusters : w2.channels.store.clusters ≡ w.channels.store.clusters) (S : IsSet w.channels.store name c w2.channels.store) where
  same_tables : (h : Owner) → layout w2 h ≡ layout w h
  unfolding layout
  same_tables (Space j) = ap (λ xs. option_map space_slots (slice_get xs j)) rs
  same_tables (Hand j) = ap (λ xs. option_and_then hand_slots (slice_get xs j)) rs
  same_tables (Mail d u) = ap (λ xs. option_and_then (inbox_slots u) (slice_get xs d)) boxes
  same_tables (Shown d u) = ap (λ xs. option_and_then (port_slots u) (slice_get xs d)) ports
  same_tables (Shared d) = ap (λ xs. option_map cluster_slots (slice_get xs d)) clusters

  named_one : (n : Sym) → n.0 ≡ name.0 → n ≡ name
  named_one n e = ap (λ i. let s : Sym = record { 0 = i } in s) e

  set_knows : ((v : Ref) → c ≡ Shareable v → Knows (below_ref v) (layout w)) → IsKnowing w → IsKnowing w2
  set_knows known K = record {
    ractors = λ j m at. member_on w w2 clusters m (K.ractors j m (ap (λ xs. slice_get xs j) (sym rs) ∙ at));
    store = λ n v here. knows_on w w2 clusters (below_ref v) (⊎_elim
        (λ same. known v (same_Some c (Shareable v) (sym S.here ∙ ap (constant_of w2.channels.store) (sym (named_one n same)) ∙ here)))
        (λ other. K.store n v (sym (S.others n (λ e. other (ap (λ (s : Sym). s.0) e))) ∙ here))
        (eq_cases n.0 name.0));
    inboxes = λ d i e at has. message_on w w2 clusters e.message (K.inboxes d i e (ap (λ xs. slice_get xs d) (sym boxes) ∙ at) has);
    ports = λ d p e at has. message_on w w2 clusters e.message (K.ports d p e (ap (λ xs. slice_get xs d) (sym ports) ∙ at) has);
  }

  set_read : (names : Naming) (bound : ℕ) (g : Objects) → ((v : Ref) → c ≡ Shareable v → Knows (below_ref v) (layout w)) → IsRead w names bound g → IsRead w2 names bound g
  set_read names bound g known R = record {
    tables = reading_same (layout w) (layout w2) names bound g same_tables R.tables;
    knows = set_knows known R.knows;
    owned = λ j m at. R.owned j m (ap (λ xs. slice_get xs j) (sym rs) ∙ at);
    held = record {
      roots = rooted_same w.ractors w2.ractors rs R.held.roots;
      inboxes = inboxes_same w.channels w2.channels boxes R.held.inboxes;
      ports = ports_same w.channels w2.channels ports R.held.ports;
    };
    inboxes = ap length boxes ∙ R.inboxes ∙ sym (ap length rs);
    ports = ap length ports ∙ R.ports ∙ sym (ap length rs);
    fits = fits_same w w2 rs ports R.fits;
    clusters = order_on w w2 clusters R.clusters;
  }

  set_constant : (names : Naming) (g : Objects) (e : StoreEvent Sym) → HasEvent w.channels.store → w2.channels.store.history ≡ w.channels.store.history ++ e ∷ [] → w2.channels.store.limit ≡ w.channels.store.limit
      → IsConstantSet name.0 (constant_in names c) e (state_in w names g) (state_in w2 names g)
  set_constant names g e room history limit = record {
    room = room;
    here = seen names w2.channels.store name ∙ ap (option_map (constant_in names)) S.here;
    others = λ n differ.
        let s : Sym = record { 0 = n } in
        seen names w2.channels.store s ∙ ap (option_map (constant_in names)) (S.others s (λ z. differ (ap (λ (x : Sym). x.0) z))) ∙ sym (seen names w.channels.store s);
    clusters = ap length clusters;
    history = history;
    limit = limit;
    inboxes = ap (each_from (mailbox_in names) 0) boxes;
    ports = ap (each_from (showcase_in names) 0) ports;
    objects = λ n. refl;
    ractors = ap (each_from (actor_in names) 0) rs;
  }

-- a constant has another value in the store, and the history tells of it
pub record IsStored (name : Sym) (c : ConstValue) (e : StoreEvent Sym) (s t : Store) : Type 0 where
  pub set : IsSet s name c t
  pub room : HasEvent s
  pub history : t.history ≡ s.history ++ e ∷ []
  pub limit : t.limit ≡ s.limit
  pub clusters : t.clusters ≡ s.clusters

-- a constant may be set where no published plan is in the hand, and only there
may_set : (names : Naming) (k : ℕ) (m : Member) → m.published ≡ None → MaySet (actor_in names k m)
may_set names k m plain = ap (option_map (published_names names k)) plain

may_set_back : (names : Naming) (k : ℕ) (m : Member) → MaySet (actor_in names k m) → m.published ≡ None
may_set_back names k m may = none_back (published_names names k) m.published may

pub may_not_set : (w w2 : Assembly) (who : RactorNo) (k : ℕ) (m : Member) (name : Sym) (op : Operand) → slice_get w.ractors k ≡ Some m → StandsAt who k → w2 ≡ w → (m.published ≡ None → ⊥)
    → HasOutcome (record { who = who; action = SetConst name op }) NotEnabled w w2
may_not_set w w2 who k m name op at stands same waits =
    stays (record { who = who; action = SetConst name op }) NotEnabled w w2 same (λ names g. (
      λ e. waits (may_set_back names k m (allowed w names g (record { who = who; action = SetConst name op }) k m stands at e).0),
      same_state (state_in w names g),
    ))

pub may_not_set_own : (w w2 : Assembly) (who : RactorNo) (k : ℕ) (m : Member) (name : Sym) → slice_get w.ractors k ≡ Some m → StandsAt who k → w2 ≡ w → (m.published ≡ None → ⊥)
    → HasOutcome (record { who = who; action = SetOwn name }) NotEnabled w w2
may_not_set_own w w2 who k m name at stands same waits =
    stays (record { who = who; action = SetOwn name }) NotEnabled w w2 same (λ names g. (
      λ e. waits (may_set_back names k m (allowed w names g (record { who = who; action = SetOwn name }) k m stands at e)),
      same_state (state_in w names g),
    ))

-- what the operand names, in the machine
module _ (w : Assembly) (names : Naming) (bound : ℕ) (g : Objects) (R : IsRead w names bound g) (k : ℕ) (m : Member) (op : Operand) (r : Ref) (at : slice_get w.ractors k ≡ Some m) (plain : m.published ≡ None) (P : IsPublicRef m op r) where
  public_known : Knows (below_ref r) (layout w)
  public_known = knows_either (layout w) (joined m.space.below) (below_ref P.value) (below_ref r) P.known (R.knows.ractors k m at).space
      (known_named (layout w) m.roots op P.value (R.knows.ractors k m at).roots P.named)

  one_name : root_in names (Space k) r ≡ root_in names (Space k) P.value
  one_name = ap (value_in names (Space k)) (P.resolves ∙ ap (λ (ss : List Slot). resolve ss (value_of P.value)) (sym (seen_plain m plain))) ∙ value_resolved w names bound g R k m at (value_of P.value)

  public_is : named_value (actor_in names k m).roots op ≡ Some (root_in names (Space k) r)
  public_is = value_named names (Space k) m.roots op ∙ ap (option_map (root_in names (Space k))) P.named ∙ ap (λ x. Some x) (sym one_name)

  public_value_is : IsPublicValue g (root_in names (Space k) r)
  public_value_is = public_seen (layout w) names bound g (Space k) R.tables r P.public public_known

-- a constant is set to an immediate or a published object
pub constant_set : (w w2 : Assembly) (who : RactorNo) (k : ℕ) (m : Member) (name : Sym) (op : Operand) (r : Ref) → slice_get w.ractors k ≡ Some m → m.published ≡ None → StandsAt who k → IsPublicRef m op r
    → w2.ractors ≡ w.ractors → w2.channels.inboxes ≡ w.channels.inboxes → w2.channels.ports ≡ w.channels.ports → IsStored name (Shareable r) (event.Shared name who) w.channels.store w2.channels.store
    → HasOutcome (record { who = who; action = SetConst name op }) Done w w2
constant_set w w2 who k m name op r at plain stands P rs boxes ports T names bound g R =
    let value = public_is w names bound g R k m op r at plain P in
    let known = public_known w names bound g R k m op r at plain P in (
      names,
      bound,
      g,
      set_read w w2 name (Shareable r) rs boxes ports T.clusters T.set names bound g (λ z q. subst (λ (x : Ref). Knows (below_ref x) (layout w)) (let same : r ≡ z = cc in same) known) R,
      (
        k,
        actor_in names k m,
        stands,
        actor_at w names g k m at,
        (may_set names k m plain, root_in names (Space k) r, value, public_value_is w names bound g R k m op r at plain P),
        (
          root_in names (Space k) r,
          value,
          subst (λ x. IsConstantSet name.0 (Held x) (event.Shared name who) (state_in w names g) (state_in w2 names g)) (sym (public_root names (Space k) r P.public))
              (set_constant w w2 name (Shareable r) rs boxes ports T.clusters T.set names g (event.Shared name who) T.room T.history T.limit),
        ),
      ),
      record { others = λ h off. refl; slots = λ j x i there lt off. refl },
    )

-- the value is an object of the ractor's own, so that it is not set
pub not_set : (w w2 : Assembly) (who : RactorNo) (k : ℕ) (m : Member) (name : Sym) (op : Operand) → slice_get w.ractors k ≡ Some m → m.published ≡ None → StandsAt who k → w2 ≡ w
    → ((v : Ref) → named_ref m.roots op ≡ Some v → IsOwnRef m v) → HasOutcome (record { who = who; action = SetConst name op }) NotEnabled w w2
not_set w w2 who k m name op at plain stands same none =
    stays_read (record { who = who; action = SetConst name op }) NotEnabled w w2 same (λ names bound g R. (
      λ e.
          let z = allowed w names g (record { who = who; action = SetConst name op }) k m stands at e in
          let b = some_back (root_in names (Space k)) (named_ref m.roots op) z.1 (sym (value_named names (Space k) m.roots op) ∙ z.2) in
          let own = none b.0 b.1 in
          never names bound g R b.0 own.0 own.1.0 own.1.1 (subst (IsPublicValue g) (sym b.2) z.3),
      same_state (state_in w names g),
    ))
  where
    standing : (names : Naming) (bound : ℕ) (g : Objects) → IsRead w names bound g → (i j : ℕ) (x : Slot) → slice_get m.space.slots i ≡ Some x → At (resolve_slot (slice_get m.space.slots i) i) ≡ At (Own j)
        → IsPublicValue g (At (Own (slice_index (names (Space k)) i))) → ⊥
    standing names bound g R i j (Led c p) here own public = let led : At (Published c p) ≡ At (Own j) = ap (λ z. At (resolve_slot z i)) (sym here) ∙ own in cc
    standing names bound g R i j (Here o) here own (y, its, (c, shared)) =
        let read = (R.tables.reads (Space k) m.space.slots (space_table w k m at ∙ ap (λ (ss : List Slot). Some ss) (seen_plain m plain))).here i o here in
        let owned : record { owner = Space k; object = named names (Space k) o } ≡ y = same_Some _ y (sym read ∙ its) in
        let apart : Space k ≡ Shared c = ap (λ (x : Owned). x.owner) owned ∙ shared in
        cc

    never : (names : Naming) (bound : ℕ) (g : Objects) → IsRead w names bound g → (v : Ref) → IsWithin (length m.space.slots) v → (j : ℕ) → resolve m.space.slots (value_of v) ≡ At (Own j)
        → IsPublicValue g (root_in names (Space k) v) → ⊥
    never names bound g R ref.Nil h j own p = cc
    never names bound g R ref.False h j own p = cc
    never names bound g R ref.True h j own p = cc
    never names bound g R (ref.Int b) h j own p = cc
    never names bound g R (ref.Symbol b) h j own p = cc
    never names bound g R (ref.Class b) h j own p = cc
    never names bound g R (ref.Ractor b) h j own p = cc
    never names bound g R (ref.Shared q c) h j own p = cc
    never names bound g R (ref.Local i) h j own p = let x = gets m.space.slots i h in standing names bound g R i j x.0 x.1 own p

-- a constant is set to what the main ractor keeps
pub own_set : (w w2 : Assembly) (who : RactorNo) (k : ℕ) (m : Member) (name : Sym) → slice_get w.ractors k ≡ Some m → m.published ≡ None → StandsAt who k → IsMain who
    → w2.ractors ≡ w.ractors → w2.channels.inboxes ≡ w.channels.inboxes → w2.channels.ports ≡ w.channels.ports → IsStored name store.Own (event.Own name who) w.channels.store w2.channels.store
    → HasOutcome (record { who = who; action = SetOwn name }) Done w w2
own_set w w2 who k m name at plain stands main rs boxes ports T names bound g R = (
  names,
  bound,
  g,
  set_read w w2 name store.Own rs boxes ports T.clusters T.set names bound g (λ v e. absurd (let z : ⊥ = cc in z)) R,
  (k, actor_in names k m, stands, actor_at w names g k m at, may_set names k m plain, (main, set_constant w w2 name store.Own rs boxes ports T.clusters T.set names g (event.Own name who) T.room T.history T.limit)),
  record { others = λ h off. refl; slots = λ j x i there lt off. refl },
)

-- a set that is refused
pub set_refused : (w w2 : Assembly) (who : RactorNo) (k : ℕ) (m : Member) (name : Sym) (op : Operand) (r : Ref) (f : Fault) → slice_get w.ractors k ≡ Some m → m.published ≡ None → StandsAt who k → IsPublicRef m op r
    → w2 ≡ w → SetRefusal f w.channels.store who (Shareable r) → HasOutcome (record { who = who; action = SetConst name op }) (Refused f) w w2
set_refused w w2 who k m name op r f at plain stands P same why =
    stays_read (record { who = who; action = SetConst name op }) (Refused f) w w2 same (λ names bound g R. (
      k,
      actor_in names k m,
      stands,
      actor_at w names g k m at,
      (may_set names k m plain, root_in names (Space k) r, public_is w names bound g R k m op r at plain P, public_value_is w names bound g R k m op r at plain P),
      refusal f why names g,
    ))
  where
    refusal : (f : Fault) → SetRefusal f w.channels.store who (Shareable r) → (names : Naming) (g : Objects) → IsSetRefused f (state_in w names g) (state_in w names g)
    refusal fault.HistoryFull y names g = (y, same_state (state_in w names g))
    refusal fault.Memory y names g = (y, same_state (state_in w names g))
    refusal fault.NotShareable y names g = absurd (y.1 tt)
    refusal fault.Closed y names g = absurd y
    refusal (fault.Syntax line column kind) y names g = absurd y
    refusal (fault.Limit kind) y names g = absurd y
    refusal fault.HoldsShell y names g = absurd y
    refusal fault.NotMain y names g = absurd y
    refusal (fault.Unknown n) y names g = absurd y
    refusal fault.NotShown y names g = absurd y
    refusal (fault.UsesOuter ns) y names g = absurd y
    refusal fault.UsesYield y names g = absurd y
    refusal fault.StepLimit y names g = absurd y
    refusal (fault.BadTrace line) y names g = absurd y
    refusal fault.NotMine y names g = absurd y

pub own_refused : (w w2 : Assembly) (who : RactorNo) (k : ℕ) (m : Member) (name : Sym) (f : Fault) → slice_get w.ractors k ≡ Some m → m.published ≡ None → StandsAt who k
    → w2 ≡ w → SetRefusal f w.channels.store who store.Own → HasOutcome (record { who = who; action = SetOwn name }) (Refused f) w w2
own_refused w w2 who k m name f at plain stands same why =
    stays (record { who = who; action = SetOwn name }) (Refused f) w w2 same (λ names g. (k, actor_in names k m, stands, actor_at w names g k m at, may_set names k m plain, refusal f why names g))
  where
    refusal : (f : Fault) → SetRefusal f w.channels.store who store.Own → (names : Naming) (g : Objects) → IsSetOwnRefused who f (state_in w names g) (state_in w names g)
    refusal fault.HistoryFull y names g = (y, same_state (state_in w names g))
    refusal fault.Memory y names g = (y, same_state (state_in w names g))
    refusal fault.NotShareable y names g = (y.0, y.1, same_state (state_in w names g))
    refusal fault.Closed y names g = absurd y
    refusal (fault.Syntax line column kind) y names g = absurd y
    refusal (fault.Limit kind) y names g = absurd y
    refusal fault.HoldsShell y names g = absurd y
    refusal fault.NotMain y names g = absurd y
    refusal (fault.Unknown n) y names g = absurd y
    refusal fault.NotShown y names g = absurd y
    refusal (fault.UsesOuter ns) y names g = absurd y
    refusal fault.UsesYield y names g = absurd y
    refusal fault.StepLimit y names g = absurd y
    refusal (fault.BadTrace line) y names g = absurd y
    refusal fault.NotMine y names g = absurd y

-- ---- Getting.

abbrev joined_by : Member → Ref → Member
joined_by m v = record m { roots = m.roots ++ v ∷ [] }

module _ (w w2 : Assembly) (who : RactorNo) (k : ℕ) (m : Member) (name : Sym) (v : Ref) (at : slice_get w.ractors k ≡ Some m) (stands : StandsAt who k) (here : constant_of w.channels.store name ≡ Some (Shareable v))
    (public : IsWithin 0 v) (rs : w2.ractors ≡ slice_set w.ractors k (joined_by m v)) (is : w2.channels ≡ w.channels) where
  got_tables : (h : Owner) → layout w2 h ≡ layout w h
  unfolding layout
  got_tables (Space j) = ap (λ xs. option_map space_slots (slice_get xs j)) rs ∙ seen_same (option_map space_slots) w.ractors k j m (joined_by m v) at refl
  got_tables (Hand j) = ap (λ xs. option_and_then hand_slots (slice_get xs j)) rs ∙ seen_same (option_and_then hand_slots) w.ractors k j m (joined_by m v) at refl
  got_tables (Mail d u) = ap (λ (x : Channels). option_and_then (inbox_slots u) (slice_get x.inboxes d)) is
  got_tables (Shown d u) = ap (λ (x : Channels). option_and_then (port_slots u) (slice_get x.ports d)) is
  got_tables (Shared d) = ap (λ (x : Channels). option_map cluster_slots (slice_get x.store.clusters d)) is

  got_knows : (names : Naming) (bound : ℕ) (g : Objects) → IsRead w names bound g → MemberKnows (layout w) (joined_by m v)
  got_knows names bound g R =
      let K = R.knows.ractors k m at in
      record {
        space = K.space;
        roots = λ r has. ⊎_elim
            (λ old. K.roots r old)
            (λ new. ⊎_elim (λ (one : v ≡ r). subst (λ (x : Ref). Knows (below_ref x) (layout w)) one (R.knows.store name v here)) (λ none. absurd (none_in r none)) (in_first v [] r new))
            (Contains-append_cases m.roots (v ∷ []) r has);
        hand = K.hand;
        plan = K.plan;
        published = K.published;
        keyed = K.keyed;
      }

  pub got : HasOutcome (record { who = who; action = GetConst name }) Done w w2
  got names bound g R = (
    names,
    bound,
    g,
    read_set w w2 k m (joined_by m v) at rs is refl (waits_same m (joined_by m v) refl refl)
        (roots_and_more (length m.space.slots) (length m.space.slots) m.roots v (omega arith) (R.held.roots k m at) (within_more 0 (length m.space.slots) v (omega arith) public)) (got_knows names bound g R) R (reading_same (layout w) (layout w2) names bound g got_tables R.tables),
    (
      k,
      actor_in names k m,
      stands,
      actor_at w names g k m at,
      tt,
      (
        public_value names (value_of v),
        record {
          here = seen names w.channels.store name ∙ ap (option_map (constant_in names)) here;
          objects = λ n. refl;
          ractors = ap (each_from (actor_in names) 0) rs
              ∙ each_set (actor_in names) (actor_in names) 0 w.ractors k k (joined_by m v) (omega arith) (λ j n x d z a. refl)
              ∙ ap (λ vs. slice_set (each_from (actor_in names) 0 w.ractors) k (let a : Actor = record (actor_in names k m) { roots = vs } in a))
              (map-append (root_in names (Space k)) m.roots (v ∷ []) ∙ ap (λ x. map (root_in names (Space k)) m.roots ++ x ∷ []) (public_root names (Space k) v public));
          post = ap (post_in names) is;
        },
      ),
    ),
    record { others = λ h off. refl; slots = λ j x i there lt off. refl },
  )

-- what a get answers where the constant has a value
pub got_by : (w w2 : Assembly) (who : RactorNo) (k : ℕ) (m m2 : Member) (name : Sym) (v : Ref) (r : Outcome) → slice_get w.ractors k ≡ Some m → StandsAt who k → constant_of w.channels.store name ≡ Some (Shareable v) → IsWithin 0 v
    → w2.ractors ≡ slice_set w.ractors k m2 → w2.channels ≡ w.channels → Joins v r m m2 → HasOutcome (record { who = who; action = GetConst name }) (reply_of r) w w2
got_by w w2 who k m m2 name v outcome.Done at stands here public rs is a = got w w2 who k m name v at stands here public (rs ∙ ap (slice_set w.ractors k) a) is
got_by w w2 who k m m2 name v (outcome.Refused f) at stands here public rs is (memory, same) =
    subst (λ (x : Fault). HasOutcome (record { who = who; action = GetConst name }) (Refused x) w w2) (sym memory)
    (stays (record { who = who; action = GetConst name }) (Refused fault.Memory) w w2 (same_assembly w2.ractors w.ractors w2.channels w.channels (rs ∙ set_again w.ractors w.ractors k m2 m refl at same) is)
    (λ names g. (
      k,
      actor_in names k m,
      stands,
      actor_at w names g k m at,
      tt,
      ((public_value names (value_of v), seen names w.channels.store name ∙ ap (option_map (constant_in names)) here), same_state (state_in w names g)),
    )))
got_by w w2 who k m m2 name v outcome.NotEnabled at stands here public rs is a = absurd a

-- the main ractor keeps the value itself, and it is this one
pub of_main : (w w2 : Assembly) (who : RactorNo) (k : ℕ) (m : Member) (name : Sym) → slice_get w.ractors k ≡ Some m → StandsAt who k → w2 ≡ w
    → constant_of w.channels.store name ≡ Some store.Own → IsMain who → HasOutcome (record { who = who; action = GetConst name }) OfMain w w2
of_main w w2 who k m name at stands same here main =
    stays (record { who = who; action = GetConst name }) OfMain w w2 same
    (λ names g. (k, actor_in names k m, stands, actor_at w names g k m at, tt, (seen names w.channels.store name ∙ ap (option_map (constant_in names)) here, main, same_state (state_in w names g))))

pub get_refused : (w w2 : Assembly) (who : RactorNo) (k : ℕ) (m : Member) (name : Sym) (f : Fault) → slice_get w.ractors k ≡ Some m → StandsAt who k
    → w2 ≡ w → GetRefusal f w.channels.store who name → HasOutcome (record { who = who; action = GetConst name }) (Refused f) w w2
get_refused w w2 who k m name f at stands same why =
    stays (record { who = who; action = GetConst name }) (Refused f) w w2 same (λ names g. (k, actor_in names k m, stands, actor_at w names g k m at, tt, refusal f why names g))
  where
    refusal : (f : Fault) → GetRefusal f w.channels.store who name → (names : Naming) (g : Objects) → IsGetRefused who name f (state_in w names g) (state_in w names g)
    refusal fault.NotMain y names g = (seen names w.channels.store name ∙ ap (option_map (constant_in names)) y.0, y.1, same_state (state_in w names g))
    refusal (fault.Unknown n) y names g = (y.0, seen names w.channels.store name ∙ ap (option_map (constant_in names)) y.1, same_state (state_in w names g))
    refusal fault.HistoryFull y names g = absurd y
    refusal fault.Memory y names g = absurd y
    refusal fault.NotShareable y names g = absurd y
    refusal fault.Closed y names g = absurd y
    refusal (fault.Syntax line column kind) y names g = absurd y
    refusal (fault.Limit kind) y names g = absurd y
    refusal fault.HoldsShell y names g = absurd y
    refusal fault.NotShown y names g = absurd y
    refusal (fault.UsesOuter ns) y names g = absurd y
    refusal fault.UsesYield y names g = absurd y
    refusal fault.StepLimit y names g = absurd y
    refusal (fault.BadTrace line) y names g = absurd y
    refusal fault.NotMine y names g = absurd y
