-- What new lists of names do to values, messages, ractors and inboxes.
use Rattle.std.proofs.Common.{◌≡◌, ℕ, suc, ◌+◌, ◌<◌, List, [], ◌∷◌, ◌++◌, length, map, Bool, Option, Some, None, Contains, sym, ap, ◌∙◌, refl, arith}
use Rattle.std.specs.Prelude.{slice_index}
use Rattle.std.specs.Option.{option_map}
use Rattle.std.proofs.lemmas.List.{length-map}
use Rattle.std.proofs.lemmas.Option.{slice_get_within}
use Rattle.rr_base.specs.declared.event.InboxEvent.{InboxEvent}
use Rattle.rr_base.specs.declared.limits.Limits.{Limits}
use Rattle.rr_space.specs.Graph.{Own, Published, Value, Plain, At, Object}
use Rattle.rr_space.specs.Tables.{Table, Slot, Here, Packed, renamed, behind, here_behind}
use Rattle.rr_space.specs.Views.{emptied}
use Rattle.rr_space.specs.Parts.{IsWithin}
use Rattle.rr_space.specs.Readings.{Owner, Space, Hand, Mail, Shown, Shared, Objects, Naming, Layout, IsReading}
use Rattle.rr_space.specs.Steps.{Goes, IsNamed, IsJoined}
use Rattle.rr_space.specs.declared.refer.Ref.{Ref}
use Rattle.rr_space.specs.declared.refer.Ref.TheVariants.{Nil, False, True, Int, Symbol, Class, Ractor, Local, Shared as SharedRef}
use Rattle.rr_space.proofs.Frames.{map_same}
use Rattle.rr_copy.specs.Messages.{size_of}
use Rattle.rr_move.specs.declared.home.Home.{Home}
use Rattle.rr_share.specs.declared.planned.Plan.{Plan}
use Rattle.rr_inbox.specs.Inboxes.{Inbox}
use Rattle.rr_inbox.specs.declared.entry.Entry.{Entry}
use Rattle.rr_port.specs.Lasts.{message_of, is_fault}
use Rattle.rr_port.specs.Ports.{Port}
use Rattle.rr_port.specs.declared.last.LastGiven.{LastGiven}
use Rattle.rr_port.specs.declared.last.Shown.{Shown as ShownMessage}
use Rattle.rr_world.specs.Views.{PublishedPlan, Member, Channels, AreAway, ArePlacesBelow, AreRootsWithin, IsPublishedFit, with_inbox, with_port}
use Rattle.rr_world.specs.States.{Parcel, Letter, Farewell, Showcase, Mailbox, Actor, Archive, Held, Post, with_box, with_case}
use Rattle.rr_store.specs.Stores.{Store}
use Rattle.rr_store.specs.declared.constant.ConstValue.{ConstValue}
use Rattle.rr_store.specs.declared.constant.ConstValue.TheVariants.{Shareable}
use Rattle.rr_store.specs.declared.constant.ConstValue.TheVariants as store
use Rattle.rr_space.specs.Parts.{value_of}
use Rattle.rr_world.specs.Readings.{value_in, root_in, parcel_in, shells_in, planned_in, published_names, letter_in, mailbox_in, shown_in, farewell_in, showcase_in, actor_in, post_in, public_value, constant_in, archive_in, each_from}
use Rattle.rr_world.proofs.Forwarding.{published_below}
use Rattle.rr_world.proofs.Lists.{each_same, each_set}

-- clusters have the names that they had
abbrev pub KeepsShared : Naming → Naming → Type 0
KeepsShared names names2 = (c : ℕ) → names2 (Shared c) ≡ names (Shared c)

pub value_same : (names names2 : Naming) (h : Owner) (v : Value) → names2 h ≡ names h → KeepsShared names names2 → value_in names2 h v ≡ value_in names h v
value_same names names2 h (Plain i) own shared = refl
value_same names names2 h (At (Own i)) own shared = ap (λ ns. At (Own (slice_index ns i))) own
value_same names names2 h (At (Published c p)) own shared = ap (λ ns. At (Own (slice_index ns p))) (shared c)

abbrev pub box_with : List Letter → Bool → ℕ → List InboxEvent → ℕ → Mailbox
box_with ls c n es l = record { inside = ls; closed = c; next = n; history = es; limit = l }

abbrev pub parcel_with : Packed → Value → List ℕ → Parcel
parcel_with m v ns = record { root = v; names = ns; size = size_of m; sender = m.sender; sequence = m.sequence }

pub parcel_same : (names names2 : Naming) (h : Owner) (m : Packed) → names2 h ≡ names h → KeepsShared names names2 → parcel_in names2 h m ≡ parcel_in names h m
parcel_same names names2 h m own shared = ap (λ v. parcel_with m v (names2 h)) (value_same names names2 h m.root own shared) ∙ ap (parcel_with m (value_in names h m.root)) own

pub hand_same : (names names2 : Naming) (h : Owner) (x : Option Packed) → names2 h ≡ names h → KeepsShared names names2
    → option_map (parcel_in names2 h) x ≡ option_map (parcel_in names h) x
hand_same names names2 h None own shared = refl
hand_same names names2 h (Some m) own shared = ap (λ (p : Parcel). Some p) (parcel_same names names2 h m own shared)

pub roots_same : (names names2 : Naming) (h : Owner) (rs : List Ref) → names2 h ≡ names h → KeepsShared names names2
    → map (root_in names2 h) rs ≡ map (root_in names h) rs
roots_same names names2 h [] own shared = refl
roots_same names names2 h (r ∷ rs) own shared =
    ap (λ v. v ∷ map (root_in names2 h) rs) (value_same names names2 h _ own shared)
    ∙ ap (λ vs. root_in names h r ∷ vs) (roots_same names names2 h rs own shared)

-- a ractor is what is in it
abbrev pub actor_with : List Value → Option Parcel → Option (List ℕ) → Option ℕ → Option (List ℕ) → Option (List ℕ) → ℕ → ℕ → ℕ → Limits → Bool → Actor
actor_with vs h o w v u s l n z r = record { roots = vs; hand = h; home = o; ticket = w; plan = v; published = u; slots = s; limit = l; next = n; limits = z; runs = r }

pub same_actor : {vs ws : List Value} {h i : Option Parcel} {o p : Option (List ℕ)} {w x : Option ℕ} {π ρ φ ψ : Option (List ℕ)} {s t l j n q : ℕ} {z y : Limits} {r u : Bool} → vs ≡ ws → h ≡ i → o ≡ p → w ≡ x → π ≡ ρ → φ ≡ ψ → s ≡ t → l ≡ j → n ≡ q
    → z ≡ y → r ≡ u → actor_with vs h o w π φ s l n z r ≡ actor_with ws i p x ρ ψ t j q y u
same_actor {vs} {ws} {h} {i} {o} {p} {w} {x} {π} {ρ} {φ} {ψ} {s} {t} {l} {j} {n} {q} {z} {y} {r} {u} a b c m planned published d e f g k =
    ap (λ v. actor_with v h o w π φ s l n z r) a ∙ ap (λ v. actor_with ws v o w π φ s l n z r) b ∙ ap (λ v. actor_with ws i v w π φ s l n z r) c ∙ ap (λ v. actor_with ws i p v π φ s l n z r) m
    ∙ ap (λ v. actor_with ws i p x v φ s l n z r) planned ∙ ap (λ v. actor_with ws i p x ρ v s l n z r) published
    ∙ ap (λ v. actor_with ws i p x ρ ψ v l n z r) d ∙ ap (λ v. actor_with ws i p x ρ ψ t v n z r) e ∙ ap (λ v. actor_with ws i p x ρ ψ t j v z r) f ∙ ap (λ v. actor_with ws i p x ρ ψ t j q v r) g
    ∙ ap (λ v. actor_with ws i p x ρ ψ t j q y v) k

pub home_same : (names names2 : Naming) (k : ℕ) (x : Option Home) → names2 (Space k) ≡ names (Space k) → option_map (shells_in names2 k) x ≡ option_map (shells_in names k) x
home_same names names2 k None own = refl
home_same names names2 k (Some h) own = ap (λ ns. Some (map (slice_index ns) h.slots)) own

pub plan_same : (names names2 : Naming) (k : ℕ) (x : Option Plan) → names2 (Space k) ≡ names (Space k) → option_map (planned_in names2 k) x ≡ option_map (planned_in names k) x
plan_same names names2 k None own = refl
plan_same names names2 k (Some p) own = ap (λ ns. Some (map (slice_index ns) p.places)) own

-- a plan has the names that it had, where the slots have
pub plan_stands : (names names2 : Naming) (k count : ℕ) (x : Option Plan) → ArePlacesBelow count x
    → ((i : ℕ) → i < count → slice_index (names2 (Space k)) i ≡ slice_index (names (Space k)) i) → option_map (planned_in names2 k) x ≡ option_map (planned_in names k) x
plan_stands names names2 k count None within stand = refl
plan_stands names names2 k count (Some p) within stand =
    ap (λ (ns : List ℕ). Some ns) (map_same (slice_index (names2 (Space k))) (slice_index (names (Space k))) p.places (λ n has. stand n (within n has)))

-- and so it is with a published plan
pub published_same : (names names2 : Naming) (k : ℕ) (x : Option PublishedPlan) → names2 (Space k) ≡ names (Space k) → option_map (published_names names2 k) x ≡ option_map (published_names names k) x
published_same names names2 k None own = refl
published_same names names2 k (Some p) own = ap (λ ns. Some (map (slice_index ns) p.places)) own

pub published_stands : (names names2 : Naming) (k : ℕ) (t : Table) (x : Option PublishedPlan) → IsPublishedFit t x
    → ((i : ℕ) → i < length t.slots → slice_index (names2 (Space k)) i ≡ slice_index (names (Space k)) i) → option_map (published_names names2 k) x ≡ option_map (published_names names k) x
published_stands names names2 k t None fit stand = refl
published_stands names names2 k t (Some p) fit stand =
    ap (λ (ns : List ℕ). Some ns) (map_same (slice_index (names2 (Space k))) (slice_index (names (Space k))) p.places (λ n has. stand n (published_below t p fit n has)))

-- where there is none, there is none under other names
pub no_published_same : (names names2 : Naming) (k : ℕ) (x y : Option PublishedPlan) → x ≡ None → y ≡ None → option_map (published_names names2 k) x ≡ option_map (published_names names k) y
no_published_same names names2 k x y none none2 = ap (option_map (published_names names2 k)) none ∙ sym (ap (option_map (published_names names k)) none2)

-- where there is no plan, there is none under other names
pub no_plan_same : (names names2 : Naming) (k : ℕ) (x y : Option Plan) → x ≡ None → y ≡ None → option_map (planned_in names2 k) x ≡ option_map (planned_in names k) y
no_plan_same names names2 k x y none none2 = ap (option_map (planned_in names2 k)) none ∙ sym (ap (option_map (planned_in names k)) none2)

-- a home has the names that it had, where the slots have
pub home_stands : (names names2 : Naming) (k : ℕ) (slots : List Slot) (hand : Option Packed) (x : Option Home) → AreAway slots hand x
    → ((i : ℕ) → i < length slots → slice_index (names2 (Space k)) i ≡ slice_index (names (Space k)) i) → option_map (shells_in names2 k) x ≡ option_map (shells_in names k) x
home_stands names names2 k slots hand None away stand = refl
home_stands names names2 k slots None (Some h) away stand =
    ap (λ (ns : List ℕ). Some ns) (map_same (slice_index (names2 (Space k))) (slice_index (names (Space k))) h.slots (λ n has. stand n (slice_get_within slots n (Here emptied) (away n has))))
home_stands names names2 k slots (Some p) (Some h) away stand =
    ap (λ (ns : List ℕ). Some ns) (map_same (slice_index (names2 (Space k))) (slice_index (names (Space k))) h.slots (λ n has. stand n (slice_get_within slots n (Here emptied) (away.shells n has))))

pub actor_same : (names names2 : Naming) (k : ℕ) (r : Member) → names2 (Space k) ≡ names (Space k) → names2 (Hand k) ≡ names (Hand k) → KeepsShared names names2
    → actor_in names2 k r ≡ actor_in names k r
actor_same names names2 k r space hand shared =
    same_actor (roots_same names names2 (Space k) r.roots space shared) (hand_same names names2 (Hand k) r.hand hand shared) (home_same names names2 k r.home space) refl (plan_same names names2 k r.plan space) (published_same names names2 k r.published space) refl refl refl refl refl

-- a ractor with another message in its hand
pub handed : (names names2 : Naming) (k : ℕ) (r : Member) (p : Packed) (ticket : Option ℕ) → names2 (Space k) ≡ names (Space k) → KeepsShared names names2
    → actor_in names2 k (record r { hand = Some p; ticket = ticket }) ≡ record (actor_in names k r) { hand = Some (parcel_in names2 (Hand k) p); ticket = ticket }
handed names names2 k r p ticket space shared = same_actor (roots_same names names2 (Space k) r.roots space shared) refl (home_same names names2 k r.home space) refl (plan_same names names2 k r.plan space) (published_same names names2 k r.published space) refl refl refl refl refl

pub letters_same : (names names2 : Naming) (c : ℕ) (es : List Entry) → ((e : Entry) → Contains es e → names2 (Mail c e.ticket) ≡ names (Mail c e.ticket)) → KeepsShared names names2
    → map (letter_in names2 c) es ≡ map (letter_in names c) es
letters_same names names2 c es own shared =
    map_same (letter_in names2 c) (letter_in names c) es
    (λ e has. ap (λ p. let l : Letter = record { ticket = e.ticket; parcel = p } in l) (parcel_same names names2 (Mail c e.ticket) e.message (own e has) shared))

pub mailbox_same : (names names2 : Naming) (c : ℕ) (i : Inbox) → ((e : Entry) → Contains i.inside e → names2 (Mail c e.ticket) ≡ names (Mail c e.ticket)) → KeepsShared names names2
    → mailbox_in names2 c i ≡ mailbox_in names c i
mailbox_same names names2 c i own shared =
    ap (λ ls. let b : Mailbox = record { inside = ls; closed = i.closed; next = i.next; history = i.history; limit = i.limit } in b) (letters_same names names2 c i.inside own shared)

public_same : (names names2 : Naming) (v : Value) → KeepsShared names names2 → public_value names2 v ≡ public_value names v
public_same names names2 (Plain i) shared = refl
public_same names names2 (At (Own n)) shared = refl
public_same names names2 (At (Published c p)) shared = ap (λ ns. At (Own (slice_index ns p))) (shared c)

constant_same : (names names2 : Naming) (c : Option ConstValue) → KeepsShared names names2 → option_map (constant_in names2) c ≡ option_map (constant_in names) c
constant_same names names2 None shared = refl
constant_same names names2 (Some (Shareable v)) shared = ap (λ x. Some (Held x)) (public_same names names2 (value_of v) shared)
constant_same names names2 (Some store.Own) shared = refl

-- constants have the values that they had
pub archive_same : (names names2 : Naming) (s : Store) → KeepsShared names names2 → archive_in names2 s ≡ archive_in names s
archive_same names names2 s shared =
    ap (λ cs. let a : Archive = record { clusters = length s.clusters; constants = cs; history = s.history; limit = s.limit } in a)
    (map_same (option_map (constant_in names2)) (option_map (constant_in names)) s.constants (λ c has. constant_same names names2 c shared))

abbrev pub case_with : Option Letter → Option Farewell → Port → Showcase
case_with s l p = record { shown = s; last = l; given = p.given; closed = p.closed; next = p.next; history = p.history; limit = p.limit }

shown_same : (names names2 : Naming) (c : ℕ) (x : Option ShownMessage) → ((u : ℕ) → names2 (Shown c u) ≡ names (Shown c u)) → KeepsShared names names2
    → option_map (shown_in names2 c) x ≡ option_map (shown_in names c) x
shown_same names names2 c None own shared = refl
shown_same names names2 c (Some e) own shared = ap (λ p. Some (let l : Letter = record { ticket = e.ticket; parcel = p } in l)) (parcel_same names names2 (Shown c e.ticket) e.message (own e.ticket) shared)

last_same : (names names2 : Naming) (c : ℕ) (x : Option LastGiven) → ((u : ℕ) → names2 (Shown c u) ≡ names (Shown c u)) → KeepsShared names names2
    → option_map (farewell_in names2 c) x ≡ option_map (farewell_in names c) x
last_same names names2 c None own shared = refl
last_same names names2 c (Some l) own shared =
    ap (λ p. Some (let f : Farewell = record { letter = record { ticket = l.ticket; parcel = p }; is_fault = is_fault l.last } in f))
    (parcel_same names names2 (Shown c l.ticket) (message_of l.last) (own l.ticket) shared)

pub showcase_same : (names names2 : Naming) (c : ℕ) (p : Port) → ((u : ℕ) → names2 (Shown c u) ≡ names (Shown c u)) → KeepsShared names names2
    → showcase_in names2 c p ≡ showcase_in names c p
showcase_same names names2 c p own shared =
    ap (λ s. case_with s (option_map (farewell_in names2 c) p.last) p) (shown_same names names2 c p.shown own shared)
    ∙ ap (λ l. case_with (option_map (shown_in names c) p.shown) l p) (last_same names names2 c p.last own shared)

abbrev pub post_with : List Mailbox → List Showcase → Archive → Post
post_with bs ps a = record { inboxes = bs; ports = ps; archive = a }

pub same_post : {bs ds : List Mailbox} {ps qs : List Showcase} {a b : Archive} → bs ≡ ds → ps ≡ qs → a ≡ b → post_with bs ps a ≡ post_with ds qs b
same_post {bs} {ds} {ps} {qs} {a} {b} e f g = ap (λ x. post_with x ps a) e ∙ ap (λ x. post_with ds x a) f ∙ ap (post_with ds qs) g

-- the ports of a list
pub ports_same : (names names2 : Naming) (ps : List Port) → ((c u : ℕ) → names2 (Shown c u) ≡ names (Shown c u)) → KeepsShared names names2
    → each_from (showcase_in names2) 0 ps ≡ each_from (showcase_in names) 0 ps
ports_same names names2 ps own shared = each_same (showcase_in names) (showcase_in names2) 0 ps (λ j n p e at. showcase_same names names2 n p (own n) shared)

-- what lies between ractors
pub post_same : (names names2 : Naming) (x : Channels) → ((c u : ℕ) → names2 (Mail c u) ≡ names (Mail c u)) → ((c u : ℕ) → names2 (Shown c u) ≡ names (Shown c u)) → KeepsShared names names2
    → post_in names2 x ≡ post_in names x
post_same names names2 x own shows shared =
    same_post (each_same (mailbox_in names) (mailbox_in names2) 0 x.inboxes (λ j n i e at. mailbox_same names names2 n i (λ y has. own n y.ticket) shared))
    (ports_same names names2 x.ports shows shared) (archive_same names names2 x.store shared)

-- and with another inbox in one's place
pub post_set : (names names2 : Naming) (x : Channels) (c : ℕ) (i : Inbox) → ((d u : ℕ) → (d ≡ c → ⊥) → names2 (Mail d u) ≡ names (Mail d u)) → ((d u : ℕ) → names2 (Shown d u) ≡ names (Shown d u))
    → KeepsShared names names2 → post_in names2 (with_inbox x c i) ≡ with_box (post_in names x) c (mailbox_in names2 c i)
post_set names names2 x c i own shows shared =
    same_post (each_set (mailbox_in names) (mailbox_in names2) 0 x.inboxes c c i (omega arith) (λ j n y differ e at. mailbox_same names names2 n y (λ z has. own n z.ticket (λ same. differ (omega arith))) shared))
    (ports_same names names2 x.ports shows shared) (archive_same names names2 x.store shared)

-- or another port
pub post_shown : (names names2 : Naming) (x : Channels) (c : ℕ) (p : Port) → ((d u : ℕ) → names2 (Mail d u) ≡ names (Mail d u)) → ((d u : ℕ) → (d ≡ c → ⊥) → names2 (Shown d u) ≡ names (Shown d u))
    → KeepsShared names names2 → post_in names2 (with_port x c p) ≡ with_case (post_in names x) c (showcase_in names2 c p)
post_shown names names2 x c p own shows shared =
    same_post (each_same (mailbox_in names) (mailbox_in names2) 0 x.inboxes (λ j n i e at. mailbox_same names names2 n i (λ y has. own n y.ticket) shared))
    (each_set (showcase_in names) (showcase_in names2) 0 x.ports c c p (omega arith) (λ j n y differ e at. showcase_same names names2 n y (λ u. shows n u (λ same. differ (omega arith))) shared))
    (archive_same names names2 x.store shared)

-- ---- A table that went behind another's.

module _ (tables : Layout) (a b : Owner) (os : List Object) (s : List Slot) (names names2 : Naming)
    (N : IsNamed b names names2) (J : IsJoined tables a b os s names names2) (unshared : (c : ℕ) → b ≡ Shared c → ⊥) where
  pub shared_kept : KeepsShared names names2
  shared_kept c = N.rest (Shared c) (λ e. unshared c (sym e))

  -- a value of the table that went has the name that it had
  pub value_moved : (v : Value) → value_in names2 b (renamed (behind (length s)) v) ≡ value_in names a v
  value_moved (Plain i) = refl
  value_moved (At (Own i)) = ap (λ n. At (Own n)) (J.come i)
  value_moved (At (Published c p)) = ap (λ ns. At (Own (slice_index ns p))) (shared_kept c)

  root_stands : (r : Ref) → IsWithin (length s) r → root_in names2 b r ≡ root_in names b r
  root_stands Nil w = refl
  root_stands False w = refl
  root_stands True w = refl
  root_stands (Int x) w = refl
  root_stands (Symbol x) w = refl
  root_stands (Class x) w = refl
  root_stands (Ractor x) w = refl
  root_stands (Local n) w = ap (λ n. At (Own n)) (J.stand n w)
  root_stands (SharedRef p c) w = ap (λ ns. At (Own (slice_index ns p))) (shared_kept c.now.number)

  pub roots_stand : (rs : List Ref) → AreRootsWithin (length s) rs → map (root_in names2 b) rs ≡ map (root_in names b) rs
  roots_stand [] w = refl
  roots_stand (r ∷ rs) w = ap (λ v. v ∷ map (root_in names2 b) rs) (root_stands r w.0) ∙ ap (λ vs. root_in names b r ∷ vs) (roots_stand rs w.1)

-- behind no slots nothing is renamed
pub value_stays : (v : Value) → renamed (behind 0) v ≡ v
value_stays (Plain n) = refl
value_stays (At (Own i)) = ap (λ k. At (Own k)) (let e : 0 + i ≡ i = omega arith in e)
value_stays (At (Published c p)) = refl

same_list : (xs ys : List ℕ) → length xs ≡ length ys → ((i : ℕ) → slice_index xs i ≡ slice_index ys i) → xs ≡ ys
same_list [] [] size same = refl
same_list [] (y ∷ ys) size same = absurd (omega (arith, size))
same_list (x ∷ xs) [] size same = absurd (omega (arith, size))
same_list (x ∷ xs) (y ∷ ys) size same = ap (λ z. z ∷ xs) (same 0) ∙ ap (λ zs. y ∷ zs) (same_list xs ys (omega (arith, size)) (λ i. same (suc i)))

-- a table that went to an owner who had nothing has the list of names that it had
pub names_moved : {old new : Layout} {a b : Owner} {os : List Object} {names names2 : Naming} {bound bound2 : ℕ} {g g2 : Objects} → Goes a b os [] old new → IsReading old names bound g
    → IsReading new names2 bound2 g2 → IsJoined old a b os [] names names2 → names2 b ≡ names a
names_moved {old} {new} {a} {b} {os} {names} {names2} G R S J =
    same_list (names2 b) (names a)
    ((S.reads b ([] ++ map (here_behind 0) os) G.come).size ∙ length-map os (here_behind 0) ∙ sym (length-map os Here) ∙ sym (R.reads a (map Here os) G.from).size)
    (λ i. ap (slice_index (names2 b)) (let e : i ≡ 0 + i = omega arith in e) ∙ J.come i)

-- and its message is what it was
pub parcel_moved : (tables : Layout) (a b : Owner) (os : List Object) (names names2 : Naming) (m : Packed) → IsNamed b names names2 → IsJoined tables a b os [] names names2
    → ((c : ℕ) → b ≡ Shared c → ⊥) → names2 b ≡ names a → parcel_in names2 b m ≡ parcel_in names a m
parcel_moved tables a b os names names2 m N J unshared same =
    ap (λ v. parcel_with m v (names2 b)) (ap (value_in names2 b) (sym (value_stays m.root)) ∙ value_moved tables a b os [] names names2 N J unshared m.root)
    ∙ ap (parcel_with m (value_in names a m.root)) same

-- an inbox is what is in it
pub same_box : (ls : List Letter) (c d : Bool) (n k : ℕ) (es fs : List InboxEvent) (l j : ℕ) → c ≡ d → n ≡ k → es ≡ fs → l ≡ j → box_with ls c n es l ≡ box_with ls d k fs j
same_box ls c d n k es fs l j p q r s =
    ap (λ x. box_with ls x n es l) p ∙ ap (λ x. box_with ls d x es l) q ∙ ap (λ x. box_with ls d k x l) r ∙ ap (λ x. box_with ls d k fs x) s
