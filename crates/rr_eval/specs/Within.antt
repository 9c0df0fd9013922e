-- Each reference that the machine holds leads somewhere.
use Rattle.std.specs.Prelude.{ℕ, ◌<◌, ◌∷◌, ◌++◌, length, List, Option, Some, None, Contains}
use Rattle.std.specs.List.{All}
use Rattle.rr_frames.specs.Frames.{Frame as Activated, list_of}
use Rattle.rr_space.specs.Graph.{Object}
use Rattle.rr_space.specs.Sound.{IsHold}
use Rattle.rr_space.specs.Tables.{Below, Table, Whole, below_hold}
use Rattle.rr_space.specs.declared.refer.Ref.{Ref}
use Rattle.rr_space.specs.declared.refer.Ref.TheVariants.{Local, Shared}
use Rattle.rr_text.specs.Reads.{IsReadWith}
use Rattle.rr_eval.specs.declared.call.Call.{Call}
use Rattle.rr_eval.specs.declared.call_stack.CallValue.{CallValue}
use Rattle.rr_eval.specs.declared.call_stack.CallValue.TheVariants.{Other, Raises}
use Rattle.rr_eval.specs.declared.call_stack.Entry.{Entry}
use Rattle.rr_eval.specs.declared.call_stack.Entry.TheVariants.{OfMethod, OfBlock}
use Rattle.rr_eval.specs.declared.invoke.Way.{Way}
use Rattle.rr_eval.specs.declared.iterating.Ahead.{Ahead}
use Rattle.rr_eval.specs.declared.iterating.Ahead.TheVariants.{Another, Finished, Stopped}
use Rattle.rr_eval.specs.declared.problem.Answer.{Answer}
use Rattle.rr_eval.specs.declared.problem.Answer.TheVariants.{Gave, Raised, Broke, Done, Returned, Ends}
use Rattle.rr_eval.specs.declared.problem.Response.{Response}
use Rattle.rr_eval.specs.declared.problem.Response.TheVariants.{Gives, Throws, Fails}
use Rattle.rr_eval.specs.declared.frame.Frame.{Frame}
use Rattle.rr_eval.specs.declared.frame.Frame.TheVariants.{Right, Combine, Back, Class, Handling, Kept}
use Rattle.rr_eval.specs.declared.frame.Control.{Control}
use Rattle.rr_eval.specs.declared.frame.Control.TheVariants.{Give, Raise, RaiseValue, New, Pair, Send, Assign}
use Rattle.rr_eval.specs.declared.spot.Spot.{Spot}
use Rattle.rr_eval.specs.declared.spot.Spot.TheVariants as spots
use Rattle.rr_eval.specs.declared.request.Request.{Request}
use Rattle.rr_eval.specs.declared.request.Request.TheVariants as requests
use Rattle.rr_eval.specs.declared.engine.Turn.{Turn}
use Rattle.rr_eval.specs.declared.engine.Turn.TheVariants as turns
use Rattle.rr_eval.specs.declared.environment.Ending.{Ending}
use Rattle.rr_eval.specs.declared.environment.Ending.TheVariants as endings
use Rattle.rr_eval.specs.Requests.{arguments_of}
use Rattle.rr_eval.specs.View.{View}

-- how far references may lead: to so many slots, and to these clusters, or to any
pub record Reach : Type 0 where
  pub slots : ℕ
  pub clusters : Option Below

abbrev pub reach : ℕ → Option Below → Reach
reach k clusters = record { slots = k; clusters = clusters }

-- each cluster that a hold leads to is one of these
abbrev pub IsHeldAmong : Option Below → Whole → Type 0
IsHeldAmong None c = Unit {0}
IsHeldAmong (Some below) c = (e : ℕ × List Object) → Contains (below_hold c) e → Contains below e

-- the reference is an immediate, a slot there, or a place that its cluster has, and that cluster and those below it are there
abbrev pub IsReached : Reach → Ref → Type 0
IsReached k (Local n) = n < k.slots
IsReached k (Shared p c) = IsHold p c.now × IsHeldAmong k.clusters c.now
IsReached k _ = Unit {0}

abbrev pub IsAnswerReached : Reach → Answer → Type 0
IsAnswerReached k (Gave v) = IsReached k v
IsAnswerReached k (Raised e) = IsReached k e
IsAnswerReached k (Broke v) = IsReached k v
IsAnswerReached k (Done v) = IsReached k v
IsAnswerReached k (Returned v) = IsReached k v
IsAnswerReached k (Ends number v) = IsReached k v

abbrev pub IsResponseReached : Reach → Response → Type 0
IsResponseReached k (Gives v) = IsReached k v
IsResponseReached k (Throws e) = IsReached k e
IsResponseReached k (Fails e) = Unit {0}

-- `self` of a method, and its variables
abbrev pub AreVariablesReached : Reach → Activated → Type 0
AreVariablesReached k f = All (IsReached k) (f.activation.itself ∷ f.variables)

abbrev pub IsCallValueReached : Reach → CallValue → Type 0
IsCallValueReached k (Other v) = IsReached k v
IsCallValueReached k (Raises e) = IsReached k e
IsCallValueReached k _ = Unit {0}

-- the receiver of a call, and its value
abbrev pub IsWayReached : Reach → Way → Type 0
IsWayReached k w = IsReached k w.receiver × IsCallValueReached k w.value

-- `self` of a call, and its value
abbrev pub IsEntryReached : Reach → Entry → Type 0
IsEntryReached k (OfMethod call) = IsReached k call.itself × IsCallValueReached k call.value
IsEntryReached k (OfBlock home) = Unit {0}

abbrev pub IsFrameReached : Reach → Frame → Type 0
IsFrameReached k (Right op v) = IsReached k v
IsFrameReached k (Combine x) = IsReached k x.old
IsFrameReached k (Back by) = IsCallValueReached k by
IsFrameReached k (Class r) = IsReached k r.exception
IsFrameReached k (Handling old) = IsReached k old
IsFrameReached k (Kept a) = IsAnswerReached k a
IsFrameReached k _ = Unit {0}

-- the receiver and the index of a target
abbrev pub IsSpotReached : Reach → Spot → Type 0
IsSpotReached k (spots.Attribute x r) = IsReached k r
IsSpotReached k (spots.Element r i) = IsReached k r × IsReached k i
IsSpotReached k _ = Unit {0}

abbrev pub IsControlReached : Reach → Control → Type 0
IsControlReached k (Give a) = IsAnswerReached k a
IsControlReached k (Raise class message) = IsReached k message
IsControlReached k (RaiseValue v message) = IsReached k v × All (IsReached k) (list_of message)
IsControlReached k (New class cause) = IsReached k cause
IsControlReached k (Pair v w) = IsReached k v × IsReached k w
IsControlReached k (Send callee v w) = IsReached k v × All (IsReached k) (list_of w)
IsControlReached k (Assign spot v) = IsSpotReached k spot × IsReached k v
IsControlReached k _ = Unit {0}

-- the receiver and the arguments of a call
pub record IsCallReached (k : Reach) (call : Call) : Type 0 where
  pub receiver : IsReached k call.receiver
  pub arguments : All (IsReached k) (arguments_of call.arguments)

abbrev pub IsRequestReached : Reach → Request → Type 0
IsRequestReached k (requests.Do task values) = All (IsReached k) (arguments_of values)
IsRequestReached k (requests.Call call) = IsCallReached k call

abbrev pub IsAskedReached : Reach → Option Request → Type 0
IsAskedReached k None = Unit {0}
IsAskedReached k (Some q) = IsRequestReached k q

-- what the block is given in a turn of an iteration
abbrev pub IsAheadReached : Reach → Ahead → Type 0
IsAheadReached k (Another first last more) = All (IsReached k) (list_of first ++ list_of last)
IsAheadReached k Finished = Unit {0}
IsAheadReached k (Stopped problem) = Unit {0}

-- what a turn, or a run, ends with
abbrev pub IsTurnReached : Reach → Turn → Type 0
IsTurnReached k (turns.Ask q) = IsRequestReached k q
IsTurnReached k (turns.Done v) = IsReached k v
IsTurnReached k (turns.Raised e) = IsReached k e
IsTurnReached k _ = Unit {0}

abbrev pub IsEndingReached : Reach → Ending → Type 0
IsEndingReached k (endings.Done v) = IsReached k v
IsEndingReached k (endings.Raised e) = IsReached k e
IsEndingReached k _ = Unit {0}

-- each reference that is held is reached
pub record RefsReached (k : Reach) (m : View) : Type 0 where
  pub control : IsControlReached k m.control
  pub frames : All (IsFrameReached k) m.frames
  pub held : All (IsReached k) m.held
  pub calls : All (AreVariablesReached k) m.calls.frames
  pub rescuing : IsReached k m.rescuing

-- the same, as one fact
unfoldable pub AreReached : Reach → View → Type 0
AreReached k m = RefsReached k m

-- what held references lead to is reached afterwards, where it was reached before
abbrev pub KeepsReach : View → Table → View → Table → Type 0
KeepsReach m t n u = (clusters : Option Below) → AreReached (reach (length t.slots) clusters) m → AreReached (reach (length u.slots) clusters) n

-- the clusters with which the table was read are enough afterwards
abbrev pub KeepsRead : View → Table → Table → Type 0
KeepsRead m t u = (below : Below) → IsReadWith t below → AreReached (reach (length t.slots) (Some below)) m → IsReadWith u below

-- each reference is an immediate, a slot below k, or a place that its cluster has
abbrev pub AreWithin : ℕ → View → Type 0
AreWithin k m = AreReached (reach k None) m

abbrev pub IsResponseWithin : ℕ → Response → Type 0
IsResponseWithin k r = IsResponseReached (reach k None) r

abbrev pub IsTurnWithin : ℕ → Turn → Type 0
IsTurnWithin k turn = IsTurnReached (reach k None) turn

abbrev pub IsEndingWithin : ℕ → Ending → Type 0
IsEndingWithin k ending = IsEndingReached (reach k None) ending
