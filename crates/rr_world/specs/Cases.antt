-- The cases of the graph machine, one after another.
use Rattle.std.specs.Prelude.{◌≡◌, ℕ, true, false, List, [], Some, None, slice_get}
use Rattle.rr_base.specs.declared.name.RactorNo.{RactorNo as Number}
use Rattle.rr_space.specs.Graph.{text, array, exception, Value}
use Rattle.rr_world.specs.States.{Farewell, Parcel, Letter, Mailbox, Showcase, Actor, Held, State, IsSame, constant_at}
use Rattle.rr_world.specs.States as constant
use Rattle.rr_base.specs.declared.event.StoreEvent.TheVariants as store
use Rattle.rr_world.specs.declared.step.Action.{Action}
use Rattle.rr_space.specs.Labels.{label_of}
use Rattle.rr_world.specs.declared.step.Action.TheVariants.{Alloc, Pack, Plan, Publish, Promote, Discard, Offer, Accept, Open, Close, ClosePort, ShowLast, Show, Withdraw, Settle, Grab, Freeze, Append, Clear, Push, Write, Take, SetField, SetRaised, SetPair, DeletePair, Read, Start, End, Detach, PutBack, SetConst, SetOwn, GetConst}
use Rattle.rr_world.specs.declared.step.Step.{Step}
use Rattle.rr_world.specs.declared.step.Reply.{Reply}
use Rattle.rr_world.specs.declared.step.Reply.TheVariants.{NotEnabled, Done, Offered, Empty, EmptyAndClosed, WasClosed, Refused, Started, Settled, GrabbedLast, OfMain, Published}
use Rattle.rr_world.specs.Enabling.{StandsAt, IsRunning, IsPossible, named_value, IsNoShell, IsOpen, HasElement, HasFields, HasPair, Allows, IsEnabled}
use Rattle.rr_world.specs.ObjectCases.{IsAllocated, IsAllocRefused, frozen, appended, cleared, pushed, written, without, with_field, with_part, without_pair, IsMade, IsPairSet, IsMemoryRefused, IsReadAs, IsStarted, IsEnded, IsStartRefused}
use Rattle.rr_world.specs.MessageCases.{IsPacked, IsPackRefusedFor, IsDetached, IsDetachRefusedFor, IsReturned, IsDiscarded, IsOffered, IsOfferRefused, IsAccepted, IsOpenedAs, IsOpenRefused, IsClosedBy}
use Rattle.rr_world.specs.PlanCases.{IsPlannedAs, IsPublishedAs, IsPromotedBy}
use Rattle.rr_world.specs.PortCases.{IsPortClosedBy, IsLastLeft, IsLastRefused, IsGrabbed, IsShown, IsShowRefused, IsWithdrawn, IsWithdrawRefused, IsSettledAs, is_of_fault, grabbed}
use Rattle.rr_world.specs.ConstantCases.{IsMain, IsConstantSet, IsSetRefused, IsSetOwnRefused, IsGot, IsGetRefused}

-- the inbox of this number, in a clause of its own
abbrev pub InboxIs : State → Number → ℕ → Mailbox → Type 0
InboxIs s to c b = StandsAt to c × (slice_get s.post.inboxes c ≡ Some b)

-- the port of this number
abbrev pub PortIs : State → Number → ℕ → Showcase → Type 0
PortIs s to c b = StandsAt to c × (slice_get s.post.ports c ≡ Some b)

-- what an action of the ractor a at k does under each reply
abbrev pub Effect : Number → ℕ → Actor → Action → Reply → State → State → Type 0
Effect who k a (Alloc new) Done s t = IsAllocated k a new s t
Effect who k a (Alloc new) (Refused f) s t = IsAllocRefused a f s t
Effect who k a (Pack op) Done s t = (x : Value) × (p : Parcel) × (named_value a.roots op ≡ Some x) × IsPacked k a x p s t
Effect who k a (Pack op) (Refused f) s t = (x : Value) × (named_value a.roots op ≡ Some x) × IsPackRefusedFor x f s t
Effect who k a (Detach op) Done s t = (x : Value) × (p : Parcel) × (home : List ℕ) × (named_value a.roots op ≡ Some x) × IsDetached k a x p home s t
Effect who k a (Detach op) (Refused f) s t = (x : Value) × (named_value a.roots op ≡ Some x) × IsDetachRefusedFor a x f s t
Effect who k a (Plan op) Done s t = (x : Value) × (ns : List ℕ) × (named_value a.roots op ≡ Some x) × IsPlannedAs k a x ns s t
Effect who k a (Plan op) (Refused f) s t = (x : Value) × (named_value a.roots op ≡ Some x) × IsPackRefusedFor x f s t
Effect who k a Publish (Published c) s t = (ns : List ℕ) × (a.plan ≡ Some ns) × IsPublishedAs who k a ns c s t
Effect who k a Publish (Refused f) s t = IsSetRefused f s t
Effect who k a Promote Done s t = IsPromotedBy k a s t
Effect who k a PutBack Done s t = (p : Parcel) × (home : List ℕ) × (a.hand ≡ Some p) × (a.home ≡ Some home) × IsReturned k a p home s t
Effect who k a Discard Done s t = IsDiscarded k a s t
Effect who k a (Offer to) (Offered n) s t = (c : ℕ) × (b : Mailbox) × (p : Parcel) × InboxIs s to c b × (a.hand ≡ Some p) × IsOffered who k c a p b n s t
Effect who k a (Offer to) (Refused f) s t = (c : ℕ) × (b : Mailbox) × (p : Parcel) × InboxIs s to c b × (a.hand ≡ Some p) × IsOfferRefused who c p b f s t
Effect who k a Accept Done s t = (b : Mailbox) × (e : Letter) × (es : List Letter) × InboxIs s who k b × IsAccepted who k a e es b s t
Effect who k a Accept Empty s t = (b : Mailbox) × InboxIs s who k b × (b.inside ≡ []) × (b.closed ≡ false) × IsSame s t
Effect who k a Accept EmptyAndClosed s t = (b : Mailbox) × InboxIs s who k b × (b.inside ≡ []) × (b.closed ≡ true) × IsSame s t
Effect who k a Open Done s t = (p : Parcel) × (a.hand ≡ Some p) × IsOpenedAs k a p s t
Effect who k a Open (Refused f) s t = (p : Parcel) × (a.hand ≡ Some p) × IsOpenRefused a p f s t
Effect who k a (Close to) (WasClosed already) s t = (c : ℕ) × (b : Mailbox) × InboxIs s to c b × IsClosedBy who c b already s t
Effect who k a (ClosePort to) (WasClosed already) s t = (c : ℕ) × (b : Showcase) × PortIs s to c b × IsPortClosedBy who c b already s t
Effect who k a (ShowLast mark) (Offered n) s t = (b : Showcase) × (p : Parcel) × PortIs s who k b × (a.hand ≡ Some p) × IsLastLeft who mark k a p b n s t
Effect who k a (ShowLast mark) (Refused f) s t = (b : Showcase) × (p : Parcel) × PortIs s who k b × (a.hand ≡ Some p) × IsLastRefused who k p b f s t
Effect who k a Show (Offered n) s t = (b : Showcase) × (p : Parcel) × PortIs s who k b × (a.hand ≡ Some p) × IsShown who k a p b n s t
Effect who k a Show (Refused f) s t = (b : Showcase) × (p : Parcel) × PortIs s who k b × (a.hand ≡ Some p) × IsShowRefused who k p b f s t
Effect who k a (Withdraw ticket) Done s t = (b : Showcase) × (e : Letter) × PortIs s who k b × (b.shown ≡ Some e) × (e.ticket ≡ ticket) × IsWithdrawn who k a e b s t
Effect who k a (Withdraw ticket) (Refused f) s t = (b : Showcase) × PortIs s who k b × IsWithdrawRefused k a ticket b f s t
Effect who k a (Settle ticket) (Settled what) s t = (b : Showcase) × PortIs s who k b × IsSettledAs k a ticket b what s t
Effect who k a (Grab to) Done s t = (c : ℕ) × (b : Showcase) × (e : Letter) × PortIs s to c b × (b.last ≡ None) × (b.closed ≡ false) × (b.shown ≡ Some e)
    × IsGrabbed k c a e (grabbed (record b { shown = None }) e who) s t
Effect who k a (Grab to) (GrabbedLast mark) s t = (c : ℕ) × (b : Showcase) × (l : Farewell) × PortIs s to c b × (b.last ≡ Some l) × (l.is_fault ≡ is_of_fault mark)
    × IsGrabbed k c a l.letter (grabbed (record b { last = None }) l.letter who) s t
Effect who k a (Grab to) Empty s t = (c : ℕ) × (b : Showcase) × PortIs s to c b × (b.last ≡ None) × (b.closed ≡ false) × (b.shown ≡ None) × IsSame s t
Effect who k a (Grab to) EmptyAndClosed s t = (c : ℕ) × (b : Showcase) × PortIs s to c b × (b.last ≡ None) × (b.closed ≡ true) × IsSame s t
Effect who k a (Freeze op) Done s t = IsMade k a op IsNoShell frozen s t
Effect who k a (Append op byte) Done s t = IsMade k a op (IsOpen text) (appended byte) s t
Effect who k a (Append op byte) (Refused f) s t = IsMemoryRefused f s t
Effect who k a (Clear op) Done s t = IsMade k a op (IsOpen text) cleared s t
Effect who k a (Push op x) Done s t = (y : Value) × (named_value a.roots x ≡ Some y) × IsMade k a op (IsOpen array) (pushed y) s t
Effect who k a (Push op x) (Refused f) s t = IsMemoryRefused f s t
Effect who k a (Write op i x) Done s t = (y : Value) × (named_value a.roots x ≡ Some y) × IsMade k a op (HasElement i) (written i y) s t
Effect who k a (Take op i) Done s t = IsMade k a op (HasElement i) (without i) s t
Effect who k a (SetField op name x) Done s t = (y : Value) × (named_value a.roots x ≡ Some y) × IsMade k a op HasFields (with_field name.0 y) s t
Effect who k a (SetField op name x) (Refused f) s t = IsMemoryRefused f s t
Effect who k a (SetRaised op part x) Done s t = (y : Value) × (named_value a.roots x ≡ Some y) × IsMade k a op (IsOpen exception) (with_part part y) s t
Effect who k a (SetPair op key x) Done s t = (y z : Value) × (named_value a.roots key ≡ Some y) × (named_value a.roots x ≡ Some z) × IsPairSet k a op y z s t
Effect who k a (SetPair op key x) (Refused f) s t = IsMemoryRefused f s t
Effect who k a (DeletePair op i) Done s t = IsMade k a op (HasPair i) (without_pair i) s t
Effect who k a (SetConst name op) Done s t = (x : Value) × (named_value a.roots op ≡ Some x) × IsConstantSet name.0 (Held x) (store.Shared name who) s t
Effect who k a (SetConst name op) (Refused f) s t = IsSetRefused f s t
Effect who k a (SetOwn name) Done s t = IsMain who × IsConstantSet name.0 constant.Own (store.Own name who) s t
Effect who k a (SetOwn name) (Refused f) s t = IsSetOwnRefused who f s t
Effect who k a (GetConst name) Done s t = (x : Value) × IsGot k a name.0 x s t
Effect who k a (GetConst name) OfMain s t = (constant_at s.post.archive name.0 ≡ Some constant.Own) × IsMain who × IsSame s t
Effect who k a (GetConst name) (Refused f) s t = IsGetRefused who name f s t
Effect who k a Start (Started number) s t = IsStarted number a s t
Effect who k a Start (Refused f) s t = IsStartRefused a f s t
Effect who k a End Done s t = IsEnded k a s t
Effect who k a (Read op l) Done s t = IsReadAs k a op (label_of l) s t
Effect who k a (Read op l) (Refused f) s t = IsMemoryRefused f s t
Effect who k a _ _ s t = ⊥

-- what a step of a ractor that runs answers and does: it is not possible, and nothing changes; or it is, and does what its case says
abbrev pub IsOutcome : Step → Reply → State → State → Type 0
IsOutcome step NotEnabled s t = (IsPossible s step → ⊥) × IsSame s t
IsOutcome step reply s t = (k : ℕ) × (a : Actor) × StandsAt step.who k × (slice_get s.ractors k ≡ Some a) × Allows s step.who a step.action
    × Effect step.who k a step.action reply s t

-- a step of the machine: it is not enabled, and nothing changes; or the ractor runs, and the step does what its case says
abbrev pub IsCase : Step → Reply → State → State → Type 0
IsCase step NotEnabled s t = (IsEnabled s step → ⊥) × IsSame s t
IsCase step reply s t = IsRunning s step.who × IsOutcome step reply s t
