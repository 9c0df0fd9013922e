-- What the machine holds leads somewhere.
use Rattle.std.proofs.Common.{◌≡◌, Contains, ℕ, ◌<◌, ◌≤◌, sym, subst, refl, arith, true, false, nat_lt, nat_eq, map, List, [], ◌∷◌, ◌++◌, length, get_or, set, take, drop, replicate, ◌-◌, zero, suc, Option, Some, None}
use Rattle.std.specs.List.{All, IsDistinct}
use Rattle.std.proofs.lemmas.Bool.Decides.{nat_tests}
use Rattle.std.proofs.lemmas.List.Elements.{All-get_or, All-set, All-push, All-weaker}
use Rattle.std.proofs.Math.ListN.{get_or-eq_default}
use Rattle.rr_base.specs.declared.name.ClassId.{ClassId}
use Rattle.rr_base.specs.declared.name.Sym.{Sym}
use Rattle.rr_space.specs.Graph.{Object}
use Rattle.rr_space.specs.Parts.{IsWithin}
use Rattle.rr_base.specs.declared.fault.Fault.{Fault}
use Rattle.rr_space.specs.Tables.{Below, Table}
use Rattle.rr_eval.specs.Turns.{Stands}
use Rattle.rr_builtin.specs.Acts.{IsRefAmong}
use Rattle.rr_space.specs.Views.{field_number}
use Rattle.rr_frames.specs.Frames.{Stack, Frame as Activated, frame_at, no_frame, laid, left, list_of}
use Rattle.rr_space.specs.declared.refer.Ref.{Ref}
use Rattle.rr_space.specs.declared.refer.Ref.TheVariants as refs
use Rattle.rr_eval.specs.declared.problem.Answer.{Answer}
use Rattle.rr_eval.specs.declared.problem.Answer.TheVariants.{Gave, Raised, Broke, Done, Returned, Ends}
use Rattle.rr_eval.specs.declared.problem.Response.{Response}
use Rattle.rr_eval.specs.declared.problem.Response.TheVariants.{Gives, Throws, Fails}
use Rattle.rr_eval.specs.declared.frame.Frame.{Frame}
use Rattle.rr_eval.specs.declared.frame.Making.{Making}
use Rattle.rr_eval.specs.declared.iterating.Iterating.{Iterating}
use Rattle.rr_eval.specs.declared.frame.Frame.TheVariants as frames
use Rattle.rr_eval.specs.declared.frame.Control.{Control}
use Rattle.rr_eval.specs.declared.frame.Control.TheVariants.{Enter, Operate, Give, Throw, Raise, RaiseValue, Start, New, Pair, Send, Assign}
use Rattle.rr_eval.specs.declared.spot.Spot.{Spot}
use Rattle.rr_eval.specs.declared.spot.Spot.TheVariants as spots
use Rattle.rr_eval.specs.View.{View}
use Rattle.rr_eval.specs.declared.call_stack.CallValue.{CallValue}
use Rattle.rr_eval.specs.declared.call_stack.CallValue.TheVariants as values
use Rattle.rr_eval.specs.declared.call_stack.Entry.TheVariants.{OfMethod, OfBlock}
use Rattle.rr_eval.specs.Blocks.{activation_in}
use Rattle.rr_eval.specs.Frames.{below_of, waits_for}
use Rattle.rr_frames.specs.declared.activation.Activation.{Activation}
use Rattle.rr_eval.specs.Variables.{top, outer, read_variable, write_variable}
use Rattle.rr_eval.specs.declared.call_stack.Variable.{Variable}
use Rattle.rr_eval.specs.declared.call_stack.Entry.{Entry}
use Rattle.rr_eval.specs.Within.{Reach, reach, AreVariablesReached, IsEntryReached, IsCallValueReached, IsReached, IsAnswerReached, IsFrameReached, IsSpotReached, IsControlReached, IsResponseReached, AreReached, AreWithin}

-- more slots
pub ref_more : (k l : ℕ) (cs : Option Below) → k ≤ l → (r : Ref) → IsReached (reach k cs) r → IsReached (reach l cs) r
ref_more k l cs le (refs.Local n) h = omega arith
ref_more k l cs le (refs.Shared p c) h = h
ref_more k l cs le refs.Nil h = tt
ref_more k l cs le refs.False h = tt
ref_more k l cs le refs.True h = tt
ref_more k l cs le (refs.Int z) h = tt
ref_more k l cs le (refs.Symbol s) h = tt
ref_more k l cs le (refs.Class c) h = tt
ref_more k l cs le (refs.Ractor r) h = tt

-- what one reach has, another has too
abbrev pub RefsReachMore : Reach → Reach → Type 0
RefsReachMore j k = (r : Ref) → IsReached j r → IsReached k r

call_value_by : (j k : Reach) → RefsReachMore j k → (by : CallValue) → IsCallValueReached j by → IsCallValueReached k by
call_value_by j k more values.Method h = tt
call_value_by j k more (values.Other v) h = more v h
call_value_by j k more values.Opposite h = tt
call_value_by j k more (values.Raises e) h = more e h

answer_by : (j k : Reach) → RefsReachMore j k → (a : Answer) → IsAnswerReached j a → IsAnswerReached k a
answer_by j k more (Gave v) h = more v h
answer_by j k more (Raised e) h = more e h
answer_by j k more (Broke v) h = more v h
answer_by j k more (Done v) h = more v h
answer_by j k more (Returned v) h = more v h
answer_by j k more (Ends number v) h = more v h

frame_by : (j k : Reach) → RefsReachMore j k → (f : Frame) → IsFrameReached j f → IsFrameReached k f
frame_by j k more (frames.Right op v) h = more v h
frame_by j k more frames.Not h = tt
frame_by j k more (frames.And b) h = tt
frame_by j k more (frames.Or b) h = tt
frame_by j k more (frames.Condition until body loop) h = tt
frame_by j k more (frames.Body loop) h = tt
frame_by j k more frames.Negation h = tt
frame_by j k more (frames.Left op b) h = tt
frame_by j k more (frames.Store x) h = tt
frame_by j k more (frames.SetField x) h = tt
frame_by j k more (frames.Branch b d) h = tt
frame_by j k more frames.Break h = tt
frame_by j k more frames.Next h = tt
frame_by j k more frames.Return h = tt
frame_by j k more (frames.Back by) h = call_value_by j k more by h
frame_by j k more frames.Past h = tt
frame_by j k more (frames.Rest end count) h = tt
frame_by j k more (frames.Argument target end count base) h = tt
frame_by j k more (frames.Receiver target end count base) h = tt
frame_by j k more (frames.Item target end count base) h = tt
frame_by j k more (frames.Aim x) h = tt
frame_by j k more (frames.Several end count base) h = tt
frame_by j k more (frames.Assigned x) h = tt
frame_by j k more (frames.Key next end count base) h = tt
frame_by j k more (frames.Value end count base) h = tt
frame_by j k more (frames.Asking a) h = tt
frame_by j k more (frames.Asked a) h = tt
frame_by j k more (frames.Element b end) h = tt
frame_by j k more (frames.Read u) h = tt
frame_by j k more (frames.Combine x) h = more x.old h
frame_by j k more (frames.Put place base) h = tt
frame_by j k more (frames.Rescue end count otherwise) h = tt
frame_by j k more (frames.Class r) h = more r.exception h
frame_by j k more (frames.Handling old) h = more old h
frame_by j k more (frames.Ensure part) h = tt
frame_by j k more (frames.Kept a) h = answer_by j k more a h
frame_by j k more (frames.Round i) h = tt
frame_by j k more (frames.Turned i) h = tt
frame_by j k more (frames.Paired i) h = tt
frame_by j k more (frames.Initialize x) h = tt

spot_by : (j k : Reach) → RefsReachMore j k → (x : Spot) → IsSpotReached j x → IsSpotReached k x
spot_by j k more (spots.Field x) h = tt
spot_by j k more (spots.Global x) h = tt
spot_by j k more (spots.Constant x) h = tt
spot_by j k more (spots.Attribute x r) h = more r h
spot_by j k more (spots.Element r i) h = (more r h.0, more i h.1)

control_by : (j k : Reach) → RefsReachMore j k → (c : Control) → IsControlReached j c → IsControlReached k c
control_by j k more (Enter part) h = tt
control_by j k more (Operate op a b) h = tt
control_by j k more (Give a) h = answer_by j k more a h
control_by j k more (Throw e) h = tt
control_by j k more (Raise class message) h = more message h
control_by j k more (RaiseValue v message) h = (more v h.0, All-weaker (IsReached j) (IsReached k) more (list_of message) h.1)
control_by j k more (Start block problem) h = tt
control_by j k more (New class cause) h = more cause h
control_by j k more (Pair v w) h = (more v h.0, more w h.1)
control_by j k more (Send callee v w) h = (more v h.0, All-weaker (IsReached j) (IsReached k) more (list_of w) h.1)
control_by j k more (Assign spot v) h = (spot_by j k more spot h.0, more v h.1)

pub reached_by : (j k : Reach) → RefsReachMore j k → (m : View) → AreReached j m → AreReached k m
unfolding AreReached
reached_by j k more m h = record {
  control = control_by j k more m.control h.control;
  frames = All-weaker (IsFrameReached j) (IsFrameReached k) (frame_by j k more) m.frames h.frames;
  held = All-weaker (IsReached j) (IsReached k) more m.held h.held;
  calls = All-weaker (AreVariablesReached j) (AreVariablesReached k) (λ f. All-weaker (IsReached j) (IsReached k) more (f.activation.itself ∷ f.variables)) m.calls.frames h.calls;
  rescuing = more m.rescuing h.rescuing;
}

pub reached_more : (k l : ℕ) (cs : Option Below) → k ≤ l → (m : View) → AreReached (reach k cs) m → AreReached (reach l cs) m
reached_more k l cs le m h = reached_by (reach k cs) (reach l cs) (ref_more k l cs le) m h

-- more clusters
pub ref_wider : (k : ℕ) (a b : Below) → ((e : ℕ × List Object) → Contains a e → Contains b e) → (r : Ref) → IsReached (reach k (Some a)) r → IsReached (reach k (Some b)) r
ref_wider k a b wide (refs.Local n) h = h
ref_wider k a b wide (refs.Shared p c) h = (h.0, λ e has. wide e (h.1 e has))
ref_wider k a b wide refs.Nil h = tt
ref_wider k a b wide refs.False h = tt
ref_wider k a b wide refs.True h = tt
ref_wider k a b wide (refs.Int z) h = tt
ref_wider k a b wide (refs.Symbol s) h = tt
ref_wider k a b wide (refs.Class c) h = tt
ref_wider k a b wide (refs.Ractor r) h = tt

pub reached_wider : (k : ℕ) (a b : Below) → ((e : ℕ × List Object) → Contains a e → Contains b e) → (m : View) → AreReached (reach k (Some a)) m → AreReached (reach k (Some b)) m
reached_wider k a b wide m h = reached_by (reach k (Some a)) (reach k (Some b)) (ref_wider k a b wide) m h

pub within_more : (k l : ℕ) → k ≤ l → (m : View) → AreWithin k m → AreWithin l m
within_more k l le m h = reached_more k l None le m h

-- with fewer demands
pub ref_within : (k : ℕ) (cs : Option Below) (r : Ref) → IsReached (reach k cs) r → IsWithin k r
ref_within k cs (refs.Local n) h = h
ref_within k cs (refs.Shared p c) h = h.0
ref_within k cs refs.Nil h = tt
ref_within k cs refs.False h = tt
ref_within k cs refs.True h = tt
ref_within k cs (refs.Int z) h = tt
ref_within k cs (refs.Symbol s) h = tt
ref_within k cs (refs.Class c) h = tt
ref_within k cs (refs.Ractor r) h = tt

ref_less : (k : ℕ) (cs : Option Below) (r : Ref) → IsReached (reach k cs) r → IsReached (reach k None) r
ref_less k cs (refs.Local n) h = h
ref_less k cs (refs.Shared p c) h = (h.0, tt)
ref_less k cs refs.Nil h = tt
ref_less k cs refs.False h = tt
ref_less k cs refs.True h = tt
ref_less k cs (refs.Int z) h = tt
ref_less k cs (refs.Symbol s) h = tt
ref_less k cs (refs.Class c) h = tt
ref_less k cs (refs.Ractor r) h = tt

pub response_within : (k : ℕ) (cs : Option Below) (r : Response) → IsResponseReached (reach k cs) r → IsResponseReached (reach k None) r
response_within k cs (Gives v) h = ref_less k cs v h
response_within k cs (Throws e) h = ref_less k cs e h
response_within k cs (Fails e) h = tt

pub ref_among : (k : ℕ) (below : Below) (r : Ref) → IsReached (reach k (Some below)) r → IsRefAmong below r
ref_among k below (refs.Local n) h = tt
ref_among k below (refs.Shared p c) h = h.1
ref_among k below refs.Nil h = tt
ref_among k below refs.False h = tt
ref_among k below refs.True h = tt
ref_among k below (refs.Int z) h = tt
ref_among k below (refs.Symbol s) h = tt
ref_among k below (refs.Class c) h = tt
ref_among k below (refs.Ractor r) h = tt

pub ref_reached : (k : ℕ) (below : Below) (r : Ref) → IsWithin k r → IsRefAmong below r → IsReached (reach k (Some below)) r
ref_reached k below (refs.Local n) h among = h
ref_reached k below (refs.Shared p c) h among = (h, among)
ref_reached k below refs.Nil h among = tt
ref_reached k below refs.False h among = tt
ref_reached k below refs.True h among = tt
ref_reached k below (refs.Int z) h among = tt
ref_reached k below (refs.Symbol s) h among = tt
ref_reached k below (refs.Class c) h among = tt
ref_reached k below (refs.Ractor r) h among = tt

-- an element, where there is one, and what stands for it otherwise
all_at : {A : Type 0} (P : A → Type 0) (xs : List A) (i : ℕ) (d : A) → P d → All P xs → P (get_or xs i d)
all_at P xs i d none h = elim (nat_lt i (length xs)) as (λ b. nat_lt i (length xs) ≡ b → P (get_or xs i d)) [
  | true ↦ λ e. let lt : i < length xs = grind (arith, nat_tests) in All-get_or P xs i d lt h
  | false ↦ λ e. let past : length xs ≤ i = grind (arith, nat_tests) in subst P (sym (get_or-eq_default xs d past)) none
] refl

pub all_nil : {A : Type 0} (P : A → Type 0) → All P []
all_nil P = λ i d lt. absurd (omega (arith, lt))

-- parts of lists
pub all_rest : {A : Type 0} (P : A → Type 0) (x : A) (xs : List A) → All P (x ∷ xs) → All P xs
all_rest P x xs h = λ i d lt. h (suc i) d (omega (arith, lt))

pub all_cons : {A : Type 0} (P : A → Type 0) (x : A) (xs : List A) → P x → All P xs → All P (x ∷ xs)
all_cons P x xs first rest zero d lt = first
all_cons P x xs first rest (suc i) d lt = rest i d (omega (arith, lt))

pub all_drop : {A : Type 0} (P : A → Type 0) (n : ℕ) (xs : List A) → All P xs → All P (drop n xs)
all_drop P zero xs h = h
all_drop P (suc n) [] h = h
all_drop P (suc n) (x ∷ xs) h = all_drop P n xs (all_rest P x xs h)

pub all_take : {A : Type 0} (P : A → Type 0) (n : ℕ) (xs : List A) → All P xs → All P (take n xs)
all_take P zero xs h = all_nil P
all_take P (suc n) [] h = h
all_take P (suc n) (x ∷ xs) h = all_cons P x (take n xs) (h zero x (omega arith)) (all_take P n xs (all_rest P x xs h))

pub all_append : {A : Type 0} (P : A → Type 0) (xs ys : List A) → All P xs → All P ys → All P (xs ++ ys)
all_append P [] ys h i = i
all_append P (x ∷ xs) ys h i = all_cons P x (xs ++ ys) (h zero x (omega arith)) (all_append P xs ys (all_rest P x xs h) i)

-- `self` of a frame, and its variables
whole_within : (k : Reach) (fs : List Activated) (number : ℕ) → All (AreVariablesReached k) fs → AreVariablesReached k (frame_at number fs)
whole_within k fs number h = all_at (AreVariablesReached k) fs number no_frame (all_cons (IsReached k) refs.Nil [] tt (all_nil (IsReached k))) h

pub itself_within : (k : Reach) (fs : List Activated) (number : ℕ) → All (AreVariablesReached k) fs → IsReached k (frame_at number fs).activation.itself
itself_within k fs number h = whole_within k fs number h zero refs.Nil (omega arith)

pub frame_within : (k : Reach) (fs : List Activated) (number : ℕ) → All (AreVariablesReached k) fs → All (IsReached k) (frame_at number fs).variables
frame_within k fs number h = all_rest (IsReached k) (frame_at number fs).activation.itself (frame_at number fs).variables (whole_within k fs number h)

-- `self` of a new frame
pub activation_within : (k : Reach) (entry : Entry) (fs : List Activated) → All (AreVariablesReached k) fs → IsEntryReached k entry → IsReached k (activation_in entry fs).itself
activation_within k (OfMethod call) fs h entry = entry.0
activation_within k (OfBlock home) fs h itself = itself_within k fs home h

-- the value of a variable
pub variable_within : (k : Reach) (fs : List Activated) (x : Variable) → All (AreVariablesReached k) fs → IsReached k (read_variable x fs)
variable_within k fs x h =
    let number = outer x.depth (top fs) fs in
    all_at (IsReached k) (frame_at number fs).variables x.slot refs.Nil tt (frame_within k fs number h)

-- a variable has another value
pub written_within : (k : Reach) (fs : List Activated) (x : Variable) (v : Ref) → All (AreVariablesReached k) fs → IsReached k v → All (AreVariablesReached k) (write_variable x v fs)
written_within k fs x v h value =
    let number = outer x.depth (top fs) fs in
    let old = frame_at number fs in
    All-set (AreVariablesReached k) fs number (record old { variables = set old.variables x.slot v })
    (all_cons (IsReached k) old.activation.itself (set old.variables x.slot v) (itself_within k fs number h) (All-set (IsReached k) old.variables x.slot v value (frame_within k fs number h))) h

-- the variables of a new frame
replicated : (k : Reach) (n : ℕ) → All (IsReached k) (replicate n refs.Nil)
replicated k zero = all_nil (IsReached k)
replicated k (suc n) = all_cons (IsReached k) refs.Nil (replicate n refs.Nil) tt (replicated k n)

pub laid_within : (k : Reach) (parameters size : ℕ) (vs : List Ref) → All (IsReached k) vs → All (IsReached k) (laid parameters size vs)
laid_within k parameters size vs h =
    let kept = take parameters vs in
    all_append (IsReached k) (take size kept) (replicate (size - length kept) refs.Nil) (all_take (IsReached k) size kept (all_take (IsReached k) parameters vs h)) (replicated k (size - length kept))

-- one frame more, or less
pub entered_within : (k : Reach) (fs : List Activated) (f : Activated) → All (AreVariablesReached k) fs → IsReached k f.activation.itself → All (IsReached k) f.variables → All (AreVariablesReached k) (fs ++ f ∷ [])
entered_within k fs f h itself new = All-push (AreVariablesReached k) fs f h (all_cons (IsReached k) f.activation.itself f.variables itself new)

pub left_within : (k : Reach) (fs : List Activated) → All (AreVariablesReached k) fs → All (AreVariablesReached k) (left fs)
left_within k fs h = all_take (AreVariablesReached k) (length fs - 1) fs h

-- other fields as they are
pub with_control : (k : Reach) (m : View) (c : Control) → AreReached k m → IsControlReached k c → AreReached k (record m { control = c })
unfolding AreReached
with_control k m c h here = record { control = here; frames = h.frames; held = h.held; calls = h.calls; rescuing = h.rescuing }

pub with_frame : (k : Reach) (m : View) (f : Frame) (c : Control) → AreReached k m → IsFrameReached k f → IsControlReached k c → AreReached k (record m { control = c; frames = m.frames ++ f ∷ [] })
unfolding AreReached
with_frame k m f c h frame here = record { control = here; frames = All-push (IsFrameReached k) m.frames f h.frames frame; held = h.held; calls = h.calls; rescuing = h.rescuing }

pub with_value : (k : Reach) (m : View) (held : List Ref) (v : Ref) → held ≡ m.held ++ v ∷ [] → AreReached k m → IsReached k v → AreReached k (record m { held = held })
unfolding AreReached
with_value k m held v e h value = record { control = h.control; frames = h.frames; held = subst (All (IsReached k)) (sym e) (All-push (IsReached k) m.held v h.held value); calls = h.calls; rescuing = h.rescuing }

pub with_left : (k : Reach) (m : View) (n : ℕ) → AreReached k m → AreReached k (record m { left = n })
unfolding AreReached
with_left k m n h = record { control = h.control; frames = h.frames; held = h.held; calls = h.calls; rescuing = h.rescuing }

pub with_frames : (k : Reach) (m : View) (fs : List Frame) → fs ≡ m.frames → AreReached k m → AreReached k (record m { frames = fs })
unfolding AreReached
with_frames k m fs e h = record { control = h.control; frames = subst (All (IsFrameReached k)) (sym e) h.frames; held = h.held; calls = h.calls; rescuing = h.rescuing }

pub with_calls : (k : Reach) (m : View) (calls : Stack) (c : Control) → AreReached k m → All (AreVariablesReached k) calls.frames → IsControlReached k c → AreReached k (record m { control = c; calls = calls })
unfolding AreReached
with_calls k m calls c h variables here = record { control = here; frames = h.frames; held = h.held; calls = variables; rescuing = h.rescuing }

pub with_variable : (k : Reach) (m : View) (calls : Stack) (x : Variable) (v : Ref) (c : Control) → calls.frames ≡ write_variable x v m.calls.frames → AreReached k m → IsReached k v → IsControlReached k c → AreReached k (record m { control = c; calls = calls })
unfolding AreReached
with_variable k m calls x v c e h value here = with_calls k m calls c h (subst (All (AreVariablesReached k)) (sym e) (written_within k m.calls.frames x v h.calls value)) here

pub calls_reached : (k : Reach) (m : View) → AreReached k m → All (AreVariablesReached k) m.calls.frames
unfolding AreReached
calls_reached k m h = h.calls

-- the value, or the exception, that is given
pub given_within : (k : Reach) (m : View) (a : Answer) → m.control ≡ Give a → AreReached k m → IsAnswerReached k a
unfolding AreReached
given_within k m a e h = subst (IsControlReached k) e h.control

-- no fields have distinct names
pub none_distinct : (fields : List (Sym × Ref)) → fields ≡ [] → IsDistinct nat_eq (map field_number fields)
unfolding IsDistinct
none_distinct fields e = subst (λ l. IsDistinct nat_eq (map field_number l)) (sym e) tt

-- the message of an exception that is raised
pub raised_reached : (k : Reach) (m : View) (class : ClassId) (message : Ref) → m.control ≡ Raise class message → AreReached k m → IsReached k message
unfolding AreReached
raised_reached k m class message e h = subst (IsControlReached k) e h.control

pub held_reached : (k : Reach) (m : View) → AreReached k m → All (IsReached k) m.held
unfolding AreReached
held_reached k m h = h.held

-- the values below a frame
below_reached : (P : Ref → Type 0) (f : Frame) (held : List Ref) → All P held → All P (below_of f held)
below_reached P (frames.Argument target end count base) held h = all_take P base held h
below_reached P (frames.Receiver target end count base) held h = all_take P base held h
below_reached P (frames.Item target end count base) held h = all_take P base held h
below_reached P (frames.Aim x) held h = all_take P x.base held h
below_reached P (frames.Several end count base) held h = all_take P base held h
below_reached P (frames.Assigned x) held h = all_take P x.base held h
below_reached P (frames.Key next end count base) held h = all_take P base held h
below_reached P (frames.Value end count base) held h = all_take P base held h
below_reached P (frames.Asking a) held h = all_take P a.base held h
below_reached P (frames.Asked a) held h = all_take P a.base held h
below_reached P (frames.Read u) held h = all_take P u.base held h
below_reached P (frames.Combine x) held h = all_take P x.base held h
below_reached P (frames.Put place base) held h = all_take P base held h
below_reached P (frames.Round i) held h = all_take P i.base held h
below_reached P (frames.Turned i) held h = all_take P i.base held h
below_reached P (frames.Paired i) held h = all_take P i.base held h
below_reached P (frames.Initialize x) held h = all_take P x.base held h
below_reached P _ held h = h

-- without the values of a frame
pub with_cleared : (k : Reach) (m : View) (f : Frame) (held : List Ref) (c : Control) → held ≡ below_of f m.held → AreReached k m → IsControlReached k c → AreReached k (record m { control = c; held = held })
unfolding AreReached
with_cleared k m f held c cleared h here = record { control = here; frames = h.frames; held = subst (All (IsReached k)) (sym cleared) (below_reached (IsReached k) f m.held h.held); calls = h.calls; rescuing = h.rescuing }

pub without_values : (k : Reach) (m : View) (f : Frame) (held : List Ref) → held ≡ below_of f m.held → AreReached k m → AreReached k (record m { held = held })
unfolding AreReached
without_values k m f held cleared h = record { control = h.control; frames = h.frames; held = subst (All (IsReached k)) (sym cleared) (below_reached (IsReached k) f m.held h.held); calls = h.calls; rescuing = h.rescuing }

-- a frame that initializes a new object, with the values that stand for it
pub new_reached : (k : Reach) (m : View) (x : Making) (cause : Ref) (fs : List Frame) (held : List Ref) (last : Option Ref) → fs ≡ m.frames ++ frames.Initialize x ∷ [] → held ≡ m.held ++ list_of last → AreReached k m → IsReached k cause → All (IsReached k) (list_of last)
    → AreReached k (record m { control = New x.class cause; frames = fs; held = held })
unfolding AreReached
new_reached k m x cause fs held last pushed holds h why value = record {
  control = why;
  frames = subst (All (IsFrameReached k)) (sym pushed) (All-push (IsFrameReached k) m.frames (frames.Initialize x) h.frames tt);
  held = subst (All (IsReached k)) (sym holds) (all_append (IsReached k) m.held (list_of last) h.held value);
  calls = h.calls;
  rescuing = h.rescuing;
}

-- a frame that waits for an array of two values
pub paired_reached : (k : Reach) (m : View) (i : Iterating) (v w : Ref) (fs : List Frame) → fs ≡ m.frames ++ frames.Paired i ∷ [] → AreReached k m → IsReached k v → IsReached k w → AreReached k (record m { control = Pair v w; frames = fs })
unfolding AreReached
paired_reached k m i v w fs pushed h first second = record {
  control = (first, second);
  frames = subst (All (IsFrameReached k)) (sym pushed) (All-push (IsFrameReached k) m.frames (frames.Paired i) h.frames tt);
  held = h.held;
  calls = h.calls;
  rescuing = h.rescuing;
}

-- a value that is raised, and its message
pub raise_value_reached : (k : Reach) (m : View) (v : Ref) (message : Option Ref) → m.control ≡ RaiseValue v message → AreReached k m → IsReached k v × All (IsReached k) (list_of message)
unfolding AreReached
raise_value_reached k m v message e h = subst (IsControlReached k) e h.control

-- a frame that waits for a body
waiting_reached : (k : Reach) (entry : Entry) → IsEntryReached k entry → IsFrameReached k (waits_for entry)
waiting_reached k (OfMethod call) h = h.1
waiting_reached k (OfBlock home) h = tt

-- a new frame, with the values of its parameters
pub enter_reached : (k : Reach) (m : View) (f : Frame) (fs : List Frame) (held : List Ref) (calls : Stack) (blocks : List (Option ℕ)) (entry : Entry) (parameters size body : ℕ) (vs : List Ref) (a : Activation) → fs ≡ m.frames ++ waits_for entry ∷ [] → held ≡ below_of f m.held
    → calls.frames ≡ m.calls.frames ++ record { variables = laid parameters size vs; activation = a } ∷ [] → AreReached k m → IsEntryReached k entry → IsReached k a.itself → All (IsReached k) vs
    → AreReached k (record { control = Enter body; frames = fs; held = held; calls = calls; blocks = blocks; rescuing = m.rescuing; left = m.left })
unfolding AreReached
enter_reached k m f fs held calls blocks entry parameters size body vs a pushed cleared entered h called itself values = record {
  control = tt;
  frames = subst (All (IsFrameReached k)) (sym pushed) (All-push (IsFrameReached k) m.frames (waits_for entry) h.frames (waiting_reached k entry called));
  held = subst (All (IsReached k)) (sym cleared) (below_reached (IsReached k) f m.held h.held);
  calls = subst (All (AreVariablesReached k)) (sym entered) (entered_within k m.calls.frames (record { variables = laid parameters size vs; activation = a }) h.calls itself (laid_within k parameters size vs values));
  rescuing = h.rescuing;
}

-- all stands
pub stands_reached : (k : Reach) (m n : View) (t u : Table) (f : Fault) → Stands m n t u f → AreReached k m → AreReached k n
unfolding AreReached
stands_reached k m n t u f is h = record {
  control = subst (IsControlReached k) (sym is.control) h.control;
  frames = subst (All (IsFrameReached k)) (sym is.frames) h.frames;
  held = subst (All (IsReached k)) (sym is.held) h.held;
  calls = subst (λ s. All (AreVariablesReached k) s.frames) (sym is.calls) h.calls;
  rescuing = subst (IsReached k) (sym is.rescuing) h.rescuing;
}

-- a turn of an iteration, with the values of its parameters
pub turn_reached : (k : Reach) (m : View) (i : Iterating) (fs : List Frame) (calls : Stack) (blocks : List (Option ℕ)) (parameters size body : ℕ) (vs : List Ref) (a : Activation) → fs ≡ m.frames ++ frames.Round i ∷ []
    → calls.frames ≡ m.calls.frames ++ record { variables = laid parameters size vs; activation = a } ∷ [] → AreReached k m → IsReached k a.itself → All (IsReached k) vs
    → AreReached k (record { control = Enter body; frames = fs; held = m.held; calls = calls; blocks = blocks; rescuing = m.rescuing; left = m.left })
unfolding AreReached
turn_reached k m i fs calls blocks parameters size body vs a pushed entered h itself values = record {
  control = tt;
  frames = subst (All (IsFrameReached k)) (sym pushed) (All-push (IsFrameReached k) m.frames (frames.Round i) h.frames tt);
  held = h.held;
  calls = subst (All (AreVariablesReached k)) (sym entered) (entered_within k m.calls.frames (record { variables = laid parameters size vs; activation = a }) h.calls itself (laid_within k parameters size vs values));
  rescuing = h.rescuing;
}

-- other frames of methods
pub same_calls : (k : Reach) (m : View) (calls : Stack) → calls ≡ m.calls → AreReached k m → AreReached k (record m { calls = calls })
same_calls k m calls e h = subst (λ s. AreReached k (record m { calls = s })) (sym e) h

-- a machine that begins, with the values that stand
pub begun_reached : (k : Reach) (m : View) → IsControlReached k m.control → m.frames ≡ [] → All (IsReached k) m.held → All (AreVariablesReached k) m.calls.frames → IsReached k m.rescuing → AreReached k m
unfolding AreReached
begun_reached k m control frames held calls rescuing = record {
  control = control;
  frames = subst (All (IsFrameReached k)) (sym frames) (all_nil (IsFrameReached k));
  held = held;
  calls = calls;
  rescuing = rescuing;
}

-- a machine that begins
pub first_reached : (k : Reach) (m : View) → IsControlReached k m.control → m.frames ≡ [] → m.held ≡ [] → All (AreVariablesReached k) m.calls.frames → IsReached k m.rescuing → AreReached k m
first_reached k m control frames held calls rescuing = begun_reached k m control frames (subst (All (IsReached k)) (sym held) (all_nil (IsReached k))) calls rescuing

-- the exception that is being rescued
pub rescuing_reached : (k : Reach) (m : View) → AreReached k m → IsReached k m.rescuing
unfolding AreReached
rescuing_reached k m h = h.rescuing

pub with_rescuing : (k : Reach) (m : View) (e : Ref) (c : Control) → AreReached k m → IsReached k e → IsControlReached k c → AreReached k (record m { control = c; rescuing = e })
unfolding AreReached
with_rescuing k m e c h value here = record { control = here; frames = h.frames; held = h.held; calls = h.calls; rescuing = value }

-- a clause takes an exception
pub caught_reached : (k : Reach) (m : View) (fs : List Frame) (calls : Stack) (e : Ref) (c : Control) → fs ≡ m.frames ++ frames.Handling m.rescuing ∷ [] → AreReached k m → All (AreVariablesReached k) calls.frames → IsReached k e → IsControlReached k c → AreReached k (record m { control = c; frames = fs; calls = calls; rescuing = e })
unfolding AreReached
caught_reached k m fs calls e c pushed h variables value here = record {
  control = here;
  frames = subst (All (IsFrameReached k)) (sym pushed) (All-push (IsFrameReached k) m.frames (frames.Handling m.rescuing) h.frames h.rescuing);
  held = h.held;
  calls = variables;
  rescuing = value;
}

pub caught_variable : (k : Reach) (m : View) (calls : Stack) (x : Variable) (e : Ref) → calls.frames ≡ write_variable x e m.calls.frames → AreReached k m → IsReached k e → AreReached k (record m { calls = calls; rescuing = e })
unfolding AreReached
caught_variable k m calls x e written h value = record { control = h.control; frames = h.frames; held = h.held; calls = subst (All (AreVariablesReached k)) (sym written) (written_within k m.calls.frames x e h.calls value); rescuing = value }

-- the last frame goes
pub left_reached : (k : Reach) (m : View) (calls : Stack) (blocks : List (Option ℕ)) → calls.frames ≡ left m.calls.frames → AreReached k m → AreReached k (record m { calls = calls; blocks = blocks })
unfolding AreReached
left_reached k m calls blocks e h = record { control = h.control; frames = h.frames; held = h.held; calls = subst (All (AreVariablesReached k)) (sym e) (left_within k m.calls.frames h.calls); rescuing = h.rescuing }

-- a growth of the frames was refused, where there is room for a block
pub refused_reached : (k : Reach) (m : View) (calls : Stack) (blocks : List (Option ℕ)) → calls ≡ m.calls → blocks ≡ m.blocks → AreReached k m → AreReached k (record m { calls = calls; blocks = blocks })
refused_reached k m calls blocks e same h = subst (λ b. AreReached k (record m { calls = calls; blocks = b })) (sym same) (subst (λ s. AreReached k (record m { calls = s })) (sym e) h)
