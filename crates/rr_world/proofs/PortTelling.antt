-- A port changes beside its messages: it is closed.
use Rattle.std.proofs.Common.{◌≡◌, ℕ, length, length-set, Bool, cond, true, [], ◌∷◌, ◌++◌, ◌≤◌, Some, slice_get, ⊎_elim, Contains, sym, ap, ◌∙◌, subst, refl, arith}
use Rattle.std.specs.Option.{option_map, option_and_then}
use Rattle.std.proofs.lemmas.Option.{slice_get_within}
use Rattle.rr_base.specs.declared.name.RactorNo.{RactorNo}
use Rattle.rr_base.specs.declared.event.PortEvent.TheVariants as event
use Rattle.rr_space.specs.Readings.{Owner, Space, Hand, Mail, Shown, Shared, Naming, Objects}
use Rattle.rr_space.proofs.Frames.{reading_same}
use Rattle.rr_port.specs.Ports.{Port}
use Rattle.rr_store.specs.Stores.{constant_of}
use Rattle.rr_world.specs.Views.{Member, Channels, Assembly, with_port}
use Rattle.rr_world.specs.Layouts.{cluster_slots, layout, space_slots, hand_slots, inbox_slots, port_slots, port_inside, mail_slots, IsKnowing, AreFound}
use Rattle.rr_world.specs.States.{IsSame, with_case}
use Rattle.rr_world.specs.Readings.{each_from, actor_in, showcase_in, post_in, state_in}
use Rattle.rr_world.specs.Enabling.{StandsAt, HasPort, IsPossible}
use Rattle.rr_world.specs.Cases.{IsOutcome}
use Rattle.rr_world.specs.Runs.{HasOutcome}
use Rattle.rr_world.specs.declared.step.Step.{Step}
use Rattle.rr_world.specs.declared.step.Reply.{Reply}
use Rattle.rr_world.specs.declared.step.Action.TheVariants.{ClosePort}
use Rattle.rr_world.specs.declared.step.Reply.TheVariants.{WasClosed}
use Rattle.rr_world.specs.Enabling.{Allows}
use Rattle.rr_world.proofs.Enabled.{actor_at}
use Rattle.rr_world.proofs.Fitting.{WaitsAsBefore, ShowsAsBefore, fits_on, same_as_before, set_as_before, shows_same, shows_still, waits_still}
use Rattle.rr_world.proofs.Knowing.{order_on, knows_on, member_on, message_on}
use Rattle.rr_world.proofs.Lists.{each_at, each_back, seen_same, set_cases}
use Rattle.rr_world.proofs.Namings.{post_shown}
use Rattle.rr_world.proofs.Holding.{rooted_same, inboxes_same, ports_set}

pub showcase_at : (w : Assembly) (names : Naming) (g : Objects) (c : ℕ) (p : Port) → slice_get w.channels.ports c ≡ Some p
    → slice_get (state_in w names g).post.ports c ≡ Some (showcase_in names c p)
showcase_at w names g c p at = each_at (showcase_in names) 0 w.channels.ports c c p (omega arith) at

pub no_port : (w : Assembly) (names : Naming) (g : Objects) (to : RactorNo) → ((k : ℕ) → StandsAt to k → length w.channels.ports ≤ k) → HasPort (state_in w names g) to → ⊥
no_port w names g to none (c, b, there, is) =
    let x = each_back (showcase_in names) 0 w.channels.ports c c b (omega arith) is in
    let lt = slice_get_within w.channels.ports c x.0 x.1 in
    let le = none c there in
    absurd (omega arith)

pub no_port_closed : (w : Assembly) (names : Naming) (g : Objects) (step : Step) (to : RactorNo) → step.action ≡ ClosePort to → ((k : ℕ) → StandsAt to k → length w.channels.ports ≤ k)
    → IsPossible (state_in w names g) step → ⊥
no_port_closed w names g step to is none (k, a, there, at, allows, tested) =
    no_port w names g to none (subst (λ x. Allows (state_in w names g) step.who a x) is allows)

module _ (w w2 : Assembly) (c : ℕ) (p p2 : Port) (port : slice_get w.channels.ports c ≡ Some p) (inside : port_inside p2 ≡ port_inside p) (shown : p2.shown ≡ p.shown) (rs : w2.ractors ≡ w.ractors) (is : w2.channels ≡ with_port w.channels c p2) where
  tables : (h : Owner) → layout w2 h ≡ layout w h
  unfolding layout
  tables (Space j) = ap (λ xs. option_map space_slots (slice_get xs j)) rs
  tables (Hand j) = ap (λ xs. option_and_then hand_slots (slice_get xs j)) rs
  tables (Mail d u) = ap (λ (x : Channels). option_and_then (inbox_slots u) (slice_get x.inboxes d)) is
  tables (Shown d u) = ap (λ (x : Channels). option_and_then (port_slots u) (slice_get x.ports d)) is ∙ seen_same (option_and_then (port_slots u)) w.channels.ports c d p p2 port (ap (mail_slots u) inside)
  tables (Shared d) = ap (λ (x : Channels). option_map cluster_slots (slice_get x.store.clusters d)) is

  told_knows : IsKnowing w → IsKnowing w2
  told_knows K = record {
    ractors = λ j m at. member_on w w2 (ap (λ (x : Channels). x.store.clusters) is) m (K.ractors j m (ap (λ xs. slice_get xs j) (sym rs) ∙ at));
    store = λ n v here. knows_on w w2 (ap (λ (x : Channels). x.store.clusters) is) _ (K.store n v (ap (λ (x : Channels). constant_of x.store n) (sym is) ∙ here));
    inboxes = λ d i e at has. message_on w w2 (ap (λ (x : Channels). x.store.clusters) is) e.message (K.inboxes d i e (ap (λ (x : Channels). slice_get x.inboxes d) (sym is) ∙ at) has);
    ports = λ d x e at has. message_on w w2 (ap (λ (x : Channels). x.store.clusters) is) e.message (⊎_elim
        (λ same. K.ports c p e port (subst (λ xs. Contains xs e) inside (subst (λ (y : Port). Contains (port_inside y) e) (sym same) has)))
        (λ there. K.ports d x e there has)
        (set_cases w.channels.ports c d p2 x (ap (λ (x : Channels). slice_get x.ports d) (sym is) ∙ at)));
  }

  -- the objects, the ractors and the messages are as they were
  pub port_told : (step : Step) (reply : Reply)
      → ((names : Naming) (g : Objects) → IsSame (record (state_in w names g) { post = with_case (post_in names w.channels) c (showcase_in names c p2) }) (state_in w2 names g)
      → IsOutcome step reply (state_in w names g) (state_in w2 names g)) → HasOutcome step reply w w2
  port_told step reply case names bound g R = (
    names,
    bound,
    g,
    record {
      tables = reading_same (layout w) (layout w2) names bound g tables R.tables;
      knows = told_knows R.knows;
      owned = λ j m at. R.owned j m (ap (λ xs. slice_get xs j) (sym rs) ∙ at);
      held = record {
        roots = rooted_same w.ractors w2.ractors rs R.held.roots;
        inboxes = inboxes_same w.channels w2.channels (ap (λ (x : Channels). x.inboxes) is) R.held.inboxes;
        ports = ports_set w.channels w2.channels c p2 (ap (λ (x : Channels). x.ports) is) (subst AreFound (sym inside) (R.held.ports c p port)) R.held.ports;
      };
      inboxes = ap (λ (x : Channels). length x.inboxes) is ∙ R.inboxes ∙ sym (ap length rs);
      ports = ap (λ (x : Channels). length x.ports) is ∙ length-set w.channels.ports c p2 ∙ R.ports ∙ sym (ap length rs);
      fits = fits_on w w2 (same_as_before WaitsAsBefore w.ractors w2.ractors rs waits_still)
          (set_as_before ShowsAsBefore w.channels.ports w2.channels.ports c p p2 port (ap (λ (x : Channels). x.ports) is) (shows_same p p2 shown) shows_still) R.fits;
      clusters = order_on w w2 (ap (λ (x : Channels). x.store.clusters) is) R.clusters;
    },
    case names g (record {
      objects = λ n. refl;
      ractors = ap (each_from (actor_in names) 0) rs;
      post = ap (post_in names) is ∙ post_shown names names w.channels c p2 (λ d u. refl) (λ d u z. refl) (λ d. refl);
    }),
    record { others = λ h off. refl; slots = λ j x i there lt off. refl },
  )

-- a port that is closed now
abbrev pub port_shut_by : Port → RactorNo → Port
port_shut_by p who = record p { closed = true; history = p.history ++ cond p.closed [] (event.Closed who ∷ []) }

pub port_closed_by : (w w2 : Assembly) (who to : RactorNo) (k c : ℕ) (m : Member) (p p2 : Port) (already : Bool) → slice_get w.ractors k ≡ Some m → slice_get w.channels.ports c ≡ Some p
    → w2.ractors ≡ w.ractors → w2.channels ≡ with_port w.channels c p2 → p2 ≡ port_shut_by p who → already ≡ p.closed → StandsAt who k → StandsAt to c
    → HasOutcome (record { who = who; action = ClosePort to }) (WasClosed already) w w2
port_closed_by w w2 who to k c m p p2 already at port rs is shut was stands there =
    port_told w w2 c p p2 port (ap port_inside shut) (ap (λ (x : Port). x.shown) shut) rs is (record { who = who; action = ClosePort to }) (WasClosed already)
    (λ names g same. (
      k,
      actor_in names k m,
      stands,
      actor_at w names g k m at,
      (c, showcase_in names c p, there, showcase_at w names g c p port),
      (
        c,
        showcase_in names c p,
        (there, showcase_at w names g c p port),
        record {
          was = was;
          objects = same.objects;
          ractors = same.ractors;
          post = same.post ∙ ap (with_case (post_in names w.channels) c) (ap (showcase_in names c) shut);
        },
      ),
    ))
