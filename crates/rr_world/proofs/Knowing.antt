-- What the tables of a World know of clusters, step by step.
use Rattle.std.proofs.Common.{◌≡◌, ℕ, ◌+◌, ◌⊎◌, ⊎_elim, inl, inr, List, [], ◌∷◌, length, length-set, Option, Some, None, slice_get, Contains, sym, ap, ◌∙◌, subst}
use Rattle.std.specs.Prelude.{slice_set}
use Rattle.std.proofs.lemmas.List.Elements.{Contains-append_cases, Contains-append_left, Contains-append_right}
use Rattle.std.proofs.lemmas.Option.{none-some, same_Some, slice_get_within}
use Rattle.rr_space.specs.Graph.{Object}
use Rattle.rr_space.specs.Tables.{Packed, Below, joined, below_hold}
use Rattle.rr_space.specs.Parts.{value_of, below_ref}
use Rattle.rr_space.specs.Readings.{Shared, Knows, Layout, Naming, Objects, IsReading, AreClustersInOrder}
use Rattle.std.specs.Option.{option_map}
use Rattle.rr_space.specs.declared.refer.Ref.{Ref}
use Rattle.rr_space.proofs.Hands.{append_cases}
use Rattle.rr_space.proofs.Sounds.{joined_back, joined_in, none_in, in_first}
use Rattle.rr_inbox.specs.Inboxes.{Inbox}
use Rattle.rr_move.specs.declared.home.Home.{Home}
use Rattle.rr_store.specs.Stores.{constant_of}
use Rattle.rr_inbox.specs.declared.entry.Entry.{Entry}
use Rattle.rr_world.specs.Views.{Member, Channels, Assembly, AreRootsWithin, with_inbox}
use Rattle.rr_world.specs.Layouts.{cluster_slots, layout, message_slots, message_below, IsMessageKnown, MemberKnows, IsKnowing, AreFound, AreOwned, IsRead}
use Rattle.rr_world.specs.Opening.{IsOpenedBy}
use Rattle.rr_world.proofs.Fitting.{WaitsAsBefore, fits_set}
use Rattle.rr_world.proofs.KeyTables.{keys_on, opened_keys}
use Rattle.rr_world.proofs.Lists.{eq_cases, set_at, set_cases, set_off}
use Rattle.rr_world.proofs.Holding.{rooted_set, inboxes_same, inboxes_set, ports_same}

-- the tables of the clusters stay, where the store keeps them
pub clusters_same : (w w2 : Assembly) → w2.channels.store.clusters ≡ w.channels.store.clusters → (c : ℕ) → layout w2 (Shared c) ≡ layout w (Shared c)
unfolding layout
clusters_same w w2 same c = ap (λ xs. option_map cluster_slots (slice_get xs c)) same

pub knows_on : (w w2 : Assembly) → w2.channels.store.clusters ≡ w.channels.store.clusters → (b : Below) → Knows b (layout w) → Knows b (layout w2)
knows_on w w2 same b K = record { known = λ c os has. let q = K.known c os has in (q.0, clusters_same w w2 same c ∙ q.1, q.2) }

-- so a message is known still
pub message_on : (w w2 : Assembly) → w2.channels.store.clusters ≡ w.channels.store.clusters → (m : Packed) → IsMessageKnown (layout w) m → IsMessageKnown (layout w2) m
message_on w w2 same m K = record {
  below = knows_on w w2 same (message_below m) K.below;
  own = K.own;
  root = λ c p is. let q = K.root c p is in (q.0, q.1, clusters_same w w2 same c ∙ q.2, q.3);
  keyed = keys_on (layout w) (layout w2) (message_slots m) m.keys (λ c u is. clusters_same w w2 same c ∙ is) K.keyed;
}

-- and so does their order
pub order_on : (w w2 : Assembly) → w2.channels.store.clusters ≡ w.channels.store.clusters → AreClustersInOrder (layout w) → AreClustersInOrder (layout w2)
order_on w w2 same O = record {
  solid = λ c p u o is at. O.solid c p u o (sym (clusters_same w w2 same c) ∙ is) at;
  earlier = λ c p d q u o l is at has. O.earlier c p d q u o l (sym (clusters_same w w2 same c) ∙ is) at has;
}

pub knows_fewer : (tables : Layout) (a b : Below) → ((e : ℕ × List Object) → Contains a e → Contains b e) → Knows b tables → Knows a tables
knows_fewer tables a b fewer K = record { known = λ c os has. K.known c os (fewer (c, os) has) }

pub knows_either : (tables : Layout) (a b d : Below) → ((e : ℕ × List Object) → Contains d e → Contains a e ⊎ Contains b e) → Knows a tables → Knows b tables → Knows d tables
knows_either tables a b d either K L = record { known = λ c os has. ⊎_elim (K.known c os) (L.known c os) (either (c, os) has) }

pub member_on : (w w2 : Assembly) → w2.channels.store.clusters ≡ w.channels.store.clusters → (m : Member) → MemberKnows (layout w) m → MemberKnows (layout w2) m
member_on w w2 same m K = record {
  space = knows_on w w2 same (joined m.space.below) K.space;
  roots = λ r has. knows_on w w2 same (below_ref r) (K.roots r has);
  hand = λ p is. message_on w w2 same p (K.hand p is);
  plan = λ p is. knows_on w w2 same p.cluster.below (K.plan p is);
  published = λ p is. knows_on w w2 same (below_hold p.cluster) (K.published p is);
  keyed = keys_on (layout w) (layout w2) m.space.slots m.space.keys (λ c u is. clusters_same w w2 same c ∙ is) K.keyed;
}

-- the spaces stay whose they are
pub owned_set : (w w2 : Assembly) (k : ℕ) (m m2 : Member) → slice_get w.ractors k ≡ Some m → w2.ractors ≡ slice_set w.ractors k m2 → m2.space.owner ≡ m.space.owner → AreOwned w → AreOwned w2
owned_set w w2 k m m2 at rs same all j x here = ⊎_elim
    (λ one. ap (λ (y : Member). y.space.owner) (same_Some x m2 (sym (ap (λ xs. slice_get xs j) (sym rs) ∙ here) ∙ ap (slice_get (slice_set w.ractors k m2)) one ∙ set_at w.ractors k m2 (slice_get_within w.ractors k m at))) ∙ same ∙ all k m at
    ∙ ap (λ n. n + 1) (sym one))
    (λ other. all j x (sym (set_off w.ractors k j m2 other) ∙ ap (λ xs. slice_get xs j) (sym rs) ∙ here))
    (eq_cases j k)

-- one ractor is another
pub knows_set : (w w2 : Assembly) (k : ℕ) (m2 : Member) → w2.ractors ≡ slice_set w.ractors k m2 → w2.channels ≡ w.channels → MemberKnows (layout w) m2 → IsKnowing w → IsKnowing w2
knows_set w w2 k m2 rs is M K = record {
  ractors = λ j m at. member_on w w2 (ap (λ (x : Channels). x.store.clusters) is) m (⊎_elim (λ same. subst (MemberKnows (layout w)) same M) (λ there. K.ractors j m there) (set_cases w.ractors k j m2 m (ap (λ xs. slice_get xs j) (sym rs) ∙ at)));
  store = λ n v here. knows_on w w2 (ap (λ (x : Channels). x.store.clusters) is) (below_ref v) (K.store n v (ap (λ (x : Channels). constant_of x.store n) (sym is) ∙ here));
  inboxes = λ c i e at has. message_on w w2 (ap (λ (x : Channels). x.store.clusters) is) e.message (K.inboxes c i e (ap (λ (x : Channels). slice_get x.inboxes c) (sym is) ∙ at) has);
  ports = λ c p e at has. message_on w w2 (ap (λ (x : Channels). x.store.clusters) is) e.message (K.ports c p e (ap (λ (x : Channels). slice_get x.ports c) (sym is) ∙ at) has);
}

-- one ractor and one inbox are others
pub knows_both : (w w2 : Assembly) (k c : ℕ) (m2 : Member) (i2 : Inbox) → w2.ractors ≡ slice_set w.ractors k m2 → w2.channels ≡ with_inbox w.channels c i2 → MemberKnows (layout w) m2
    → ((e : Entry) → Contains i2.inside e → IsMessageKnown (layout w) e.message) → IsKnowing w → IsKnowing w2
knows_both w w2 k c m2 i2 rs is M I K = record {
  ractors = λ j m at. member_on w w2 (ap (λ (x : Channels). x.store.clusters) is) m (⊎_elim (λ same. subst (MemberKnows (layout w)) same M) (λ there. K.ractors j m there) (set_cases w.ractors k j m2 m (ap (λ xs. slice_get xs j) (sym rs) ∙ at)));
  store = λ n v here. knows_on w w2 (ap (λ (x : Channels). x.store.clusters) is) (below_ref v) (K.store n v (ap (λ (x : Channels). constant_of x.store n) (sym is) ∙ here));
  inboxes = λ d i e at has. message_on w w2 (ap (λ (x : Channels). x.store.clusters) is) e.message (⊎_elim
      (λ same. I e (subst (λ (x : Inbox). Contains x.inside e) (sym same) has))
      (λ there. K.inboxes d i e there has)
      (set_cases w.channels.inboxes c d i2 i (ap (λ (x : Channels). slice_get x.inboxes d) (sym is) ∙ at)));
  ports = λ c p e at has. message_on w w2 (ap (λ (x : Channels). x.store.clusters) is) e.message (K.ports c p e (ap (λ (x : Channels). slice_get x.ports c) (sym is) ∙ at) has);
}

-- one inbox is another with the same messages
pub knows_told : (w w2 : Assembly) (c : ℕ) (i i2 : Inbox) → slice_get w.channels.inboxes c ≡ Some i → i2.inside ≡ i.inside → w2.ractors ≡ w.ractors → w2.channels ≡ with_inbox w.channels c i2 → IsKnowing w → IsKnowing w2
knows_told w w2 c i i2 box inside rs is K = record {
  ractors = λ j m at. member_on w w2 (ap (λ (x : Channels). x.store.clusters) is) m (K.ractors j m (ap (λ xs. slice_get xs j) (sym rs) ∙ at));
  store = λ n v here. knows_on w w2 (ap (λ (x : Channels). x.store.clusters) is) (below_ref v) (K.store n v (ap (λ (x : Channels). constant_of x.store n) (sym is) ∙ here));
  inboxes = λ d x e at has. message_on w w2 (ap (λ (x : Channels). x.store.clusters) is) e.message (⊎_elim
      (λ same. K.inboxes c i e box (subst (λ xs. Contains xs e) inside (subst (λ (y : Inbox). Contains y.inside e) (sym same) has)))
      (λ there. K.inboxes d x e there has)
      (set_cases w.channels.inboxes c d i2 x (ap (λ (x : Channels). slice_get x.inboxes d) (sym is) ∙ at)));
  ports = λ c p e at has. message_on w w2 (ap (λ (x : Channels). x.store.clusters) is) e.message (K.ports c p e (ap (λ (x : Channels). slice_get x.ports c) (sym is) ∙ at) has);
}

-- a reading of the World with one ractor in another's place
pub read_set : {names names2 : Naming} {bound bound2 : ℕ} {g g2 : Objects} (w w2 : Assembly) (k : ℕ) (m m2 : Member) → slice_get w.ractors k ≡ Some m → w2.ractors ≡ slice_set w.ractors k m2
    → w2.channels ≡ w.channels → m2.space.owner ≡ m.space.owner → WaitsAsBefore m m2 → AreRootsWithin (length m2.space.slots) m2.roots → MemberKnows (layout w) m2 → IsRead w names bound g → IsReading (layout w2) names2 bound2 g2 → IsRead w2 names2 bound2 g2
read_set w w2 k m m2 at rs is same waits within M R tables = record {
  tables = tables;
  knows = knows_set w w2 k m2 rs is M R.knows;
  owned = owned_set w w2 k m m2 at rs same R.owned;
  held = record {
    roots = rooted_set w.ractors w2.ractors k m2 rs within R.held.roots;
    inboxes = inboxes_same w.channels w2.channels (ap (λ (x : Channels). x.inboxes) is) R.held.inboxes;
    ports = ports_same w.channels w2.channels (ap (λ (x : Channels). x.ports) is) R.held.ports;
  };
  inboxes = ap (λ (x : Channels). length x.inboxes) is ∙ R.inboxes ∙ sym (length-set w.ractors k m2) ∙ sym (ap length rs);
  ports = ap (λ (x : Channels). length x.ports) is ∙ R.ports ∙ sym (length-set w.ractors k m2) ∙ sym (ap length rs);
  fits = fits_set w w2 k m m2 at rs (ap (λ (x : Channels). x.ports) is) waits R.fits;
  clusters = order_on w w2 (ap (λ (x : Channels). x.store.clusters) is) R.clusters;
}

-- and with one inbox in another's place
pub read_both : {names names2 : Naming} {bound bound2 : ℕ} {g g2 : Objects} (w w2 : Assembly) (k c : ℕ) (m m2 : Member) (i2 : Inbox) → slice_get w.ractors k ≡ Some m → w2.ractors ≡ slice_set w.ractors k m2
    → w2.channels ≡ with_inbox w.channels c i2 → m2.space.owner ≡ m.space.owner → WaitsAsBefore m m2 → AreRootsWithin (length m2.space.slots) m2.roots → AreFound i2.inside → MemberKnows (layout w) m2 → ((e : Entry) → Contains i2.inside e → IsMessageKnown (layout w) e.message)
    → IsRead w names bound g → IsReading (layout w2) names2 bound2 g2 → IsRead w2 names2 bound2 g2
read_both w w2 k c m m2 i2 at rs is same waits within found M I R tables = record {
  tables = tables;
  knows = knows_both w w2 k c m2 i2 rs is M I R.knows;
  owned = owned_set w w2 k m m2 at rs same R.owned;
  held = record {
    roots = rooted_set w.ractors w2.ractors k m2 rs within R.held.roots;
    inboxes = inboxes_set w.channels w2.channels c i2 (ap (λ (x : Channels). x.inboxes) is) found R.held.inboxes;
    ports = ports_same w.channels w2.channels (ap (λ (x : Channels). x.ports) is) R.held.ports;
  };
  inboxes = ap (λ (x : Channels). length x.inboxes) is ∙ length-set w.channels.inboxes c i2 ∙ R.inboxes ∙ sym (length-set w.ractors k m2) ∙ sym (ap length rs);
  ports = ap (λ (x : Channels). length x.ports) is ∙ R.ports ∙ sym (length-set w.ractors k m2) ∙ sym (ap length rs);
  fits = fits_set w w2 k m m2 at rs (ap (λ (x : Channels). x.ports) is) waits R.fits;
  clusters = order_on w w2 (ap (λ (x : Channels). x.store.clusters) is) R.clusters;
}

-- with the hand empty, less is known
pub emptied_knows : (tables : Layout) (m : Member) (home : Option Home) (ticket : Option ℕ) → MemberKnows tables m → MemberKnows tables (record m { hand = None; home = home; ticket = ticket })
emptied_knows tables m home ticket K = record { space = K.space; roots = K.roots; hand = λ p is. absurd (none-some p is); plan = K.plan; published = K.published; keyed = K.keyed }

pub holding_knows : (tables : Layout) (m : Member) (p : Packed) (ticket : Option ℕ) → MemberKnows tables m → IsMessageKnown tables p → MemberKnows tables (record m { hand = Some p; ticket = ticket })
holding_knows tables m p ticket K L = record { space = K.space; roots = K.roots; hand = λ q is. subst (λ (x : Packed). IsMessageKnown tables x) (same_Some p q is) L; plan = K.plan; published = K.published; keyed = K.keyed }

-- what is opened brings what it knows
pub opened_knows : (tables : Layout) (p : Packed) (root : Ref) (m m2 : Member) → IsOpenedBy p root m m2 → MemberKnows tables m → MemberKnows tables m2
opened_knows tables p root m m2 O K =
    let L = (K.hand p O.held).below in
    record {
      space = knows_either tables (joined m.space.below) (message_below p) (joined m2.space.below) split K.space L;
      roots = λ r has. ⊎_elim
          (λ old. K.roots r old)
          (λ new. ⊎_elim
          (λ (same : root ≡ r). subst (λ (x : Ref). Knows (below_ref x) tables) same (knows_fewer tables (below_ref root) (message_below p)
          (λ e h. Contains-append_left p.root_below (joined p.below) e (subst (λ (b : Below). Contains b e) O.below h)) L))
          (λ none. absurd (none_in r none))
          (in_first root [] r new))
          (Contains-append_cases m.roots (root ∷ []) r (subst (λ (rs : List Ref). Contains rs r) O.roots has));
      hand = λ q is. absurd (none-some q (sym O.hand ∙ is));
      plan = λ q is. absurd (none-some q (sym O.plan ∙ is));
      published = λ q is. absurd (none-some q (sym O.published ∙ is));
      keyed = opened_keys tables p m.space m2.space (value_of root) O.opened O.even K.keyed (K.hand p O.held).keyed;
    }
  where
    split : (e : ℕ × List Object) → Contains (joined m2.space.below) e → Contains (joined m.space.below) e ⊎ Contains (message_below p) e
    split e has =
        let b = joined_back m2.space.below e has in
        ⊎_elim
        (λ old. inl (joined_in m.space.below b.0 b.1 e old b.3))
        (λ new. inr (Contains-append_right p.root_below (joined p.below) e (joined_in p.below new.0 b.1 e new.2 b.3)))
        (append_cases m.space.below p.below b.0 b.1 (ap (λ bs. slice_get bs b.0) (sym O.opened.below) ∙ b.2))
