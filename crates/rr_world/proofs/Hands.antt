-- What a ractor's hand has, as contracts see it.
use Rattle.std.proofs.Common.{◌≡◌, ℕ, ◌⊎◌, ◌<◌, ◌^◌, inl, inr, Bool, List, [], ◌∷◌, ◌++◌, length, Option, Some, None, sym, ap, ◌∙◌, subst, refl}
use Rattle.rr_base.specs.declared.limits.Limits.{Limits}
use Rattle.std.proofs.lemmas.List.{length-map}
use Rattle.rr_space.specs.Tables.{Table, Packed, Slot, Here, IsRestKept}
use Rattle.rr_space.specs.Moves.{IsPlanned, IsPromotedTo, IsPutBack}
use Rattle.rr_space.specs.declared.refer.Ref.{Ref}
use Rattle.rr_space.specs.declared.refer.Ref.TheVariants.{Local}
use Rattle.rr_share.specs.declared.planned.Plan.{Plan}
use Rattle.rr_move.specs.Hands.{message_in, home_in, MayDrop}
use Rattle.rr_move.specs.declared.home.Home.{Home}
use Rattle.rr_move.specs.declared.home.Detached.{Detached}
use Rattle.rr_move.specs.declared.hand.Hand.{Hand}
use Rattle.rr_move.specs.declared.hand.Hand.TheVariants.{Empty, Planned, Published as InHand, Message, Moved, Shown}
use Rattle.rr_world.specs.Views.{PublishedPlan, Member, AreRootsWithin, AreAway, HasToDrop, IsAway, IsHandFit, IsPublishedFit, plan_in, published_in, ticket_in}
use Rattle.rr_world.specs.Allocating.{IsAllocatedBy}
use Rattle.rr_world.specs.ObjectCases.{new_object}
use Rattle.rr_world.specs.declared.step.NewObject.{NewObject}
use Rattle.rr_world.specs.Moving.{IsMovedFrom, IsMovedBy, IsPutBackBy}
use Rattle.rr_world.specs.Packing.{named_ref}
use Rattle.rr_world.specs.Planning.{IsPlanOf, IsPlanTaken, IsPromotedIn, Plans, kept_plan}
use Rattle.rr_space.specs.Sound.{IsWholeSound}
use Rattle.rr_space.specs.declared.published.Published.{Published}
use Rattle.rr_world.specs.declared.step.Operand.{Operand}
use Rattle.rr_world.specs.declared.outcome.Outcome.TheVariants.{Done}
use Rattle.rr_world.proofs.Changes.{member, held_plan, held_published, held_ticket}
use Rattle.rr_world.proofs.Forwarding.{plan_below}

abbrev holding : Table → List Ref → Option Packed → Option Home → Option ℕ → Option Plan → Option PublishedPlan → Limits → Bool → Member
holding space roots hand home ticket plan published limits runs = record { space = space; roots = roots; hand = hand; home = home; ticket = ticket; plan = plan; published = published; limits = limits; runs = runs }

pub moved_by : (op : Operand) (v : Ref) (d : Detached) (old : Member) (sp new : Table) (rs : List Ref) (hand now : Hand) (limits : Limits) (runs : Bool) → member sp rs hand limits runs ≡ old → hand ≡ Empty
    → named_ref old.roots op ≡ Some v → AreRootsWithin (length sp.slots) rs → IsMovedFrom sp v d new → message_in now ≡ Some d.message → home_in now ≡ Some d.home
    → IsMovedBy op v d old (member new rs now limits runs)
moved_by op v d old sp new rs hand now limits runs is empty named rooted moved held home =
    subst (λ (m : Member). IsMovedBy op v d m (member new rs now limits runs)) is (record {
      empty = record { hand = ap message_in empty; home = ap home_in empty; ticket = ap ticket_in empty; plan = ap plan_in empty; published = ap published_in empty };
      named = subst (λ (m : Member). named_ref m.roots op ≡ Some v) (sym is) named;
      rooted = rooted;
      moved = moved;
      now_is = ap (λ h. holding new rs h (home_in now) (ticket_in now) (plan_in now) (published_in now) limits runs) held ∙ ap (λ h. holding new rs (Some d.message) h (ticket_in now) (plan_in now) (published_in now) limits runs) home
          ∙ ap (λ t. holding new rs (Some d.message) (Some d.home) t (plan_in now) (published_in now) limits runs) (held_ticket now d.message held ∙ sym (ap ticket_in empty))
          ∙ ap (λ e. holding new rs (Some d.message) (Some d.home) (ticket_in hand) e (published_in now) limits runs) (held_plan now d.message held ∙ sym (ap plan_in empty))
          ∙ ap (λ e. holding new rs (Some d.message) (Some d.home) (ticket_in hand) (plan_in hand) e limits runs) (held_published now d.message held ∙ sym (ap published_in empty));
    })

pub put_by : (d : Detached) (old : Member) (sp new : Table) (rs : List Ref) (hand now : Hand) (limits : Limits) (runs : Bool) → member sp rs hand limits runs ≡ old → hand ≡ Moved d → now ≡ Empty
    → AreRootsWithin (length sp.slots) rs → AreAway sp.slots (message_in hand) (home_in hand) → IsPutBack d.home.slots d.message sp new → IsPutBackBy d old (member new rs now limits runs)
put_by d old sp new rs hand now limits runs is was empty rooted away back =
    let gone : IsAway sp.slots d.message d.home = subst (λ (h : Hand). AreAway sp.slots (message_in h) (home_in h)) was away in
    subst (λ (m : Member). IsPutBackBy d m (member new rs now limits runs)) is (record {
      held = ap message_in was;
      home = ap home_in was;
      no_plan = ap plan_in was;
      no_published = ap published_in was;
      rooted = rooted;
      shells = gone.shells;
      count = gone.count;
      back = back;
      now_is = ap (λ (h : Hand). member new rs h limits runs) empty ∙ ap (λ t. holding new rs None None t None None limits runs) (sym (ap ticket_in was))
          ∙ ap (λ e. holding new rs None None (ticket_in hand) e None limits runs) (sym (ap plan_in was))
          ∙ ap (λ e. holding new rs None None (ticket_in hand) (plan_in hand) e limits runs) (sym (ap published_in was));
    })

-- what is dropped is a message or a plan, beside which nothing waits
pub dropped_one : (h : Hand) → MayDrop h → ((p : Packed) × (message_in h ≡ Some p)) ⊎ ((p : Plan) × (plan_in h ≡ Some p))
dropped_one Empty may = absurd may
dropped_one (Planned plan) may = inr (plan, refl)
dropped_one (InHand places published) may = absurd may
dropped_one (Message p) may = inl (p, refl)
dropped_one (Moved d) may = inl (d.message, refl)
dropped_one (Shown home ticket) may = absurd may

pub dropped_alone : (h : Hand) → MayDrop h → ticket_in h ≡ None
dropped_alone Empty may = refl
dropped_alone (Planned plan) may = refl
dropped_alone (InHand places published) may = refl
dropped_alone (Message p) may = refl
dropped_alone (Moved d) may = refl
dropped_alone (Shown home ticket) may = absurd may

pub dropped_unpublished : (h : Hand) → MayDrop h → published_in h ≡ None
dropped_unpublished Empty may = refl
dropped_unpublished (Planned plan) may = refl
dropped_unpublished (InHand places published) may = absurd may
dropped_unpublished (Message p) may = refl
dropped_unpublished (Moved d) may = refl
dropped_unpublished (Shown home ticket) may = refl

pub dropped_none : (h : Hand) → (MayDrop h → ⊥) → (message_in h ≡ None) × (plan_in h ≡ None)
dropped_none Empty may = (refl, refl)
dropped_none (Planned plan) may = absurd (may tt)
dropped_none (InHand places published) may = (refl, refl)
dropped_none (Message p) may = absurd (may tt)
dropped_none (Moved d) may = absurd (may tt)
dropped_none (Shown home ticket) may = (refl, refl)

-- the hand that holds a plan, or nothing where it is one of no objects
abbrev pub hand_of_plan : List ℕ → Plan → Hand
hand_of_plan [] p = Empty
hand_of_plan (n ∷ ns) p = Planned p

planned_cases : (p : Plan) (h : Hand) → (p.places ≡ [] → h ≡ Empty) → ((p.places ≡ [] → ⊥) → h ≡ Planned p) → (xs : List ℕ) → p.places ≡ xs → h ≡ hand_of_plan xs p
planned_cases p h none some [] is = none is
planned_cases p h none some (n ∷ ns) is = some (λ e. let z : n ∷ ns ≡ [] = sym is ∙ e in cc)

pub planned_hand : (p : Plan) (h : Hand) → (p.places ≡ [] → h ≡ Empty) → ((p.places ≡ [] → ⊥) → h ≡ Planned p) → h ≡ hand_of_plan p.places p
planned_hand p h none some = planned_cases p h none some p.places refl

pub planned_fits : (t : Table) (p : Plan) (xs : List ℕ) → IsPlanned t p.cluster p.places → IsHandFit t (hand_of_plan xs p)
planned_fits t p [] planned = (tt, tt)
planned_fits t p (n ∷ ns) planned = (planned, tt)

pub planned_away : (slots : List Slot) (p : Plan) (xs : List ℕ) → AreAway slots (message_in (hand_of_plan xs p)) (home_in (hand_of_plan xs p))
planned_away slots p [] = tt
planned_away slots p (n ∷ ns) = tt

planned_seen : (sp : Table) (rs : List Ref) (limits : Limits) (runs : Bool) (p : Plan) (xs : List ℕ)
    → member sp rs (hand_of_plan xs p) limits runs ≡ record (member sp rs Empty limits runs) { plan = kept_plan xs p }
planned_seen sp rs limits runs p [] = refl
planned_seen sp rs limits runs p (n ∷ ns) = refl

pub plan_by : (op : Operand) (v : Ref) (p : Plan) (old : Member) (sp : Table) (rs : List Ref) (hand now : Hand) (limits : Limits) (runs : Bool) → member sp rs hand limits runs ≡ old → hand ≡ Empty
    → named_ref old.roots op ≡ Some v → now ≡ hand_of_plan p.places p → IsPlanOf sp v p → Plans op Done old (member sp rs now limits runs)
plan_by op v p old sp rs hand now limits runs is empty named held P =
    subst (λ (m : Member). Plans op Done m (member sp rs now limits runs)) is (
      v,
      p,
      record { hand = ap message_in empty; home = ap home_in empty; ticket = ap ticket_in empty; plan = ap plan_in empty; published = ap published_in empty },
      subst (λ (m : Member). named_ref m.roots op ≡ Some v) (sym is) named,
      P,
      ap (λ (h : Hand). member sp rs h limits runs) held ∙ planned_seen sp rs limits runs p p.places
          ∙ ap (λ (h : Hand). let m : Member = record (member sp rs h limits runs) { plan = kept_plan p.places p } in m) (sym empty),
    )

pub cleared : (old : Member) (sp : Table) (rs : List Ref) (hand now : Hand) (limits : Limits) (runs : Bool) → member sp rs hand limits runs ≡ old → MayDrop hand → now ≡ Empty
    → HasToDrop old × (member sp rs now limits runs ≡ record old { hand = None; home = None; plan = None })
cleared old sp rs hand now limits runs is may empty =
    subst (λ (m : Member). HasToDrop m × (member sp rs now limits runs ≡ record m { hand = None; home = None; plan = None })) is (
      dropped_one hand may,
      ap (λ (h : Hand). member sp rs h limits runs) empty ∙ ap (λ t. holding sp rs None None t None None limits runs) (sym (dropped_alone hand may))
          ∙ ap (λ e. holding sp rs None None (ticket_in hand) None e limits runs) (sym (dropped_unpublished hand may)),
    )

-- what was moved out is away from its home
pub moved_away : (d : Detached) (v : Ref) (sp new : Table) (now : Hand) → IsMovedFrom sp v d new → message_in now ≡ Some d.message → home_in now ≡ Some d.home
    → AreAway new.slots (message_in now) (home_in now)
moved_away d v sp new now moved held home =
    subst (λ h. AreAway new.slots (message_in now) h) (sym home) (subst (λ p. AreAway new.slots p (Some d.home)) (sym held)
    (record { shells = moved.emptied.slots.named; count = moved.sound.objects.count ∙ length-map d.message.objects Here }))

-- a new object comes behind the slots, and last in the roots
pub alloc_by : (new : NewObject) (old : Member) (sp now : Table) (rs all : List Ref) (hand : Hand) (limits : Limits) (runs : Bool) → member sp rs hand limits runs ≡ old
    → length sp.slots < sp.limit → now.slots ≡ sp.slots ++ Here (new_object new) ∷ [] → now.below ≡ sp.below ++ [] ∷ [] → now.keys ≡ sp.keys ++ [] ∷ [] → length sp.keys ≡ length sp.slots → IsRestKept sp now → all ≡ rs ++ Local (length sp.slots) ∷ []
    → AreRootsWithin (length sp.slots) rs → IsHandFit sp hand → AreAway sp.slots (message_in hand) (home_in hand) → IsAllocatedBy new old (member now all hand limits runs)
alloc_by new old sp now rs all hand limits runs is room slots below keys even rest roots within fit away =
    subst (λ (m : Member). IsAllocatedBy new m (member now all hand limits runs)) is (record {
      room = room;
      within = within;
      slots = slots;
      below = below;
      keys = keys;
      even = even;
      limit = rest.limit;
      roots = roots;
      hand = refl;
      home = refl;
      ticket = refl;
      plan = refl;
      planned = plan_below sp (plan_in hand) fit.0;
      published = refl;
      fit = fit.1;
      away = away;
      next = rest.next_message;
      owner = rest.owner;
      limits = refl;
      runs = refl;
    })

-- a plan came out of the hand
pub taken_plan : (p : Plan) (old : Member) (sp : Table) (rs : List Ref) (hand now : Hand) (limits : Limits) (runs : Bool) → member sp rs hand limits runs ≡ old → hand ≡ Planned p → now ≡ Empty
    → IsPlanned sp p.cluster p.places → IsWholeSound p.cluster → length p.cluster.own < 2 ^ 32 → IsPlanTaken p old (member sp rs now limits runs)
taken_plan p old sp rs hand now limits runs is was empty planned sound few =
    subst (λ (m : Member). IsPlanTaken p m (member sp rs now limits runs)) is (record {
      held = ap plan_in was;
      planned = planned;
      sound = sound;
      few = few;
      now_is = ap (λ (h : Hand). member sp rs h limits runs) empty ∙ ap (λ (h : Hand). let m : Member = record (member sp rs h limits runs) { plan = None } in m) (sym was);
      empty = record { hand = ap message_in empty; home = ap home_in empty; ticket = ap ticket_in empty; plan = ap plan_in empty; published = ap published_in empty };
    })

abbrev pub plan_of_hand : List ℕ → Published → PublishedPlan
plan_of_hand places published = record { places = places; cluster = published.cluster.now }

-- the slots of a published plan are forwards, and the hand is empty
pub promoted_in : (places : List ℕ) (published : Published) (old : Member) (sp new : Table) (rs : List Ref) (hand now : Hand) (limits : Limits) (runs : Bool) → member sp rs hand limits runs ≡ old
    → hand ≡ InHand places published → now ≡ Empty → AreRootsWithin (length sp.slots) rs → IsHandFit sp hand → IsPromotedTo published.cluster.now places sp new
    → IsPromotedIn (plan_of_hand places published) old (member new rs now limits runs)
promoted_in places published old sp new rs hand now limits runs is was empty within fit promoted =
    subst (λ (m : Member). IsPromotedIn (plan_of_hand places published) m (member new rs now limits runs)) is (record {
      held = ap published_in was;
      within = within;
      planned = subst (IsPublishedFit sp) (ap published_in was) fit.1;
      promoted = promoted;
      now_is = ap (λ (h : Hand). member new rs h limits runs) empty ∙ ap (λ (h : Hand). let m : Member = record (member new rs h limits runs) { published = None } in m) (sym was);
      empty = record { hand = ap message_in empty; home = ap home_in empty; ticket = ap ticket_in empty; plan = ap plan_in empty; published = ap published_in empty };
    })
