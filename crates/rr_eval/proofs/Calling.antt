-- What a call leaves.
use Rattle.std.proofs.Common.{◌≡◌, ◌∙◌, ◌≤◌, ◌<◌, ℕ, zero, ap, map, sym, refl, subst, inl, inr, arith, List, [], ◌∷◌, length, length-append, length-set, Contains, Option, Some, None, Result, Ok, Err, true, false, Bool, if◌then◌else◌, slice_get, slice_set}
use Rattle.std.proofs.Math.Logic.{⊎_elim}
use Rattle.std.specs.List.{All}
use Rattle.rr_base.specs.declared.fault.Fault.{Fault}
use Rattle.rr_space.specs.Graph.{Object, Value, At, Own}
use Rattle.rr_space.specs.Lookups.{text_object, frozen_text}
use Rattle.rr_space.specs.Parts.{value_of}
use Rattle.rr_space.specs.Kinds.{kind_at, class_at}
use Rattle.rr_space.specs.Tables.{Table, Slot, Here, Led, Below, HashKey, TextKey, joined}
use Rattle.rr_space.specs.Views.{is_shell}
use Rattle.rr_space.specs.declared.refer.Ref.{Ref}
use Rattle.rr_space.specs.declared.refer.Ref.TheVariants as refs
use Rattle.rr_text.specs.Reads.{IsReadWith, IsAmong}
use Rattle.rr_builtin.proofs.Among.{among_of, none_in}
use Rattle.rr_builtin.specs.Acts.{Act, Answers, Makes, Freezes, Appends, Pushes, Takes, MakesArray, Puts, SetsValue, AddsPair, AddsText, TakesPair, MakesObject, Outcome, Gives, Raises, outcome_of, performed, changed, changed_slot, froze, froze_slot, added, with_key, array_object, with_pair, without_pair, without_key, key_count, IsRefAmong, IsBuiltWithin, IsBuiltAmong, IsDone, Acts, IsRefusal as ActRefusal}
use Rattle.rr_builtin.specs.Calls.{call_act}
use Rattle.rr_builtin.specs.Causes.{with_cause, takes_cause, caused}
use Rattle.rr_builtin.specs.Fields.{can_set, set_field, with_field}
use Rattle.rr_builtin.specs.Kinds.{is_shell_kind}
use Rattle.rr_builtin.specs.Messages.{is_open_exception, with_message, write_message}
use Rattle.rr_builtin.specs.News.{empty_hash}
use Rattle.rr_builtin.specs.declared.built.Built.{Built}
use Rattle.rr_builtin.specs.declared.built.Built.TheVariants as built
use Rattle.rr_builtin.specs.declared.method.BuiltInMethod.{BuiltInMethod}
use Rattle.rr_builtin.specs.declared.problem.Problem.TheVariants.{Frozen, Moved}
use Rattle.rr_eval.specs.declared.call.Call.{Call}
use Rattle.rr_eval.specs.declared.problem.Problem.{Problem}
use Rattle.rr_eval.specs.declared.problem.Problem.TheVariants.{MissingMethod}
use Rattle.rr_eval.specs.Callees.{method_of}
use Rattle.rr_eval.specs.Calls.{sent, reply_with, call_reply}
use Rattle.rr_eval.specs.Context.{Context}
use Rattle.rr_eval.specs.Effects.{said, said_of, led}
use Rattle.rr_eval.specs.Requests.{arguments_of}
use Rattle.rr_eval.specs.Responses.{receiver_of, response_from}
use Rattle.rr_eval.specs.Serves.{IsReplied, IsRefusedBy, IsRefused}
use Rattle.rr_eval.specs.Tasks.{array_reply, empty_reply}
use Rattle.rr_eval.specs.Within.{reach, IsReached, IsCallReached, IsResponseReached}
use Rattle.rr_eval.proofs.Holding.{all_cons, all_rest, ref_among, ref_reached}
use Rattle.rr_eval.proofs.Led.{led_has, led_read, reached_among, reached_refs}

-- a call takes no object away
abbrev count : Table → ℕ
count t = length t.slots

changed_slots : (f : Object → Object) (slots : List Slot) (n : ℕ) (s : Option Slot) → length slots ≤ length (changed_slot f slots n s)
changed_slots f slots n (Some (Here o)) = omega (arith, length-set slots n (Here (f o)))
changed_slots f slots n (Some (Led c p)) = omega arith
changed_slots f slots n None = omega arith

changed_adds : (f : Object → Object) (v : Ref) (t : Table) → count t ≤ count (changed f v t)
changed_adds f (refs.Local n) t = changed_slots f t.slots n (slice_get t.slots n)
changed_adds f _ t = omega arith

frozen_here : (slots : List Slot) (n : ℕ) (o : Object) (shell : Bool) → length slots ≤ length (if shell then slots else slice_set slots n (Here (record o { frozen = true })))
frozen_here slots n o true = omega arith
frozen_here slots n o false = omega (arith, length-set slots n (Here (record o { frozen = true })))

froze_slots : (slots : List Slot) (n : ℕ) (s : Option Slot) → length slots ≤ length (froze_slot slots n s)
froze_slots slots n (Some (Here o)) = frozen_here slots n o (is_shell o.kind)
froze_slots slots n (Some (Led c p)) = omega arith
froze_slots slots n None = omega arith

froze_adds : (v : Ref) (t : Table) → count t ≤ count (froze v t)
froze_adds (refs.Local n) t = froze_slots t.slots n (slice_get t.slots n)
froze_adds _ t = omega arith

with_key_adds : (key : HashKey) (v : Ref) (t : Table) → count t ≤ count (with_key key v t)
with_key_adds key (refs.Local n) t = omega arith
with_key_adds key _ t = omega arith

added_adds : (name : Value) (key : HashKey) (x : Value) (v : Ref) (t : Table) → count t ≤ count (added name key x v t)
added_adds name key x v t =
    let u = changed (with_pair (key_count t v) name x) v t in
    let first = changed_adds (with_pair (key_count t v) name x) v t in
    let second = with_key_adds key v u in
    omega arith

without_key_adds : (i : ℕ) (v : Ref) (t : Table) → count t ≤ count (without_key i v t)
without_key_adds i (refs.Local n) t = omega arith
without_key_adds i _ t = omega arith

act_adds : (act : Act) (v : Ref) (t : Table) → count t ≤ count (performed act v t).1
act_adds (Answers o) v t = omega arith
act_adds (Makes bytes) v t = omega (arith, length-append t.slots (Here (text_object bytes) ∷ []))
act_adds Freezes v t = froze_adds v t
act_adds (Appends bytes) v t = changed_adds _ v t
act_adds (Pushes x) v t = changed_adds _ v t
act_adds (MakesArray values) v t = omega (arith, length-append t.slots (Here (array_object values) ∷ []))
act_adds (Puts k x) v t = changed_adds _ v t
act_adds (SetsValue i x) v t = changed_adds _ v t
act_adds (AddsPair name key x) v t = added_adds name key x v t
act_adds (AddsText bytes x) v t =
    let u = added (At (Own (length t.slots))) (TextKey bytes) x v t in
    let first = added_adds (At (Own (length t.slots))) (TextKey bytes) x v t in
    omega (arith, length-append u.slots (Here (frozen_text bytes) ∷ []))
act_adds (Takes k) v t = changed_adds _ v t
act_adds (TakesPair i) v t =
    let u = changed (without_pair i) v t in
    let first = changed_adds (without_pair i) v t in
    let second = without_key_adds i v u in
    omega arith
act_adds (MakesObject o keys) v t = omega (arith, length-append t.slots (Here o ∷ []))

pub sent_adds : (c : Context) (below : Below) (v : Ref) (m : Option BuiltInMethod) (args : List Ref) (t : Table) → count t ≤ count (sent c below v m args t).1
sent_adds c below v None args t = omega arith
sent_adds c below v (Some m) args t = act_adds (call_act c.program below v m args t) v t

-- the reference of what was built says it
said_is : (missing : Problem) (b : Built) → said (response_from missing b) ≡ said_of missing (outcome_of b)
said_is missing (built.Value r) = refl
said_is missing (built.Raised p) = refl
said_is missing built.Missing = refl

response_reached : (k : ℕ) (below : Below) (missing : Problem) (b : Built) → IsBuiltWithin k b → IsBuiltAmong below b → IsResponseReached (reach k (Some below)) (response_from missing b)
response_reached k below missing (built.Value r) within among = ref_reached k below r within among
response_reached k below missing (built.Raised p) within among = tt
response_reached k below missing built.Missing within among = tt

-- What is done is the reply. It may be told with other clusters than those that all lead to.
pub done_replied : (missing : Problem) (below led : Below) (t u : Table) (done other : Outcome × Table) (b : Built) → IsDone led done t u b → IsDone below other t u b → length t.slots ≤ length done.1.slots
    → IsReplied below (reply_with missing done) t (response_from missing b) u
done_replied missing below led t u done other b told is adds = record {
  said = said_is missing b ∙ ap (said_of missing) told.outcome;
  slots = told.slots;
  keys = told.keys;
  left = record {
    read = is.read;
    reached = response_reached (length u.slots) below missing b is.within is.among;
    grows = omega (arith, ap (λ l. length l) told.slots, adds);
    rest = is.rest;
  };
}

-- a refused act did nothing
pub act_refused : (limit objects : ℕ) (f : Fault) → ActRefusal f limit objects → IsRefusedBy (limit < objects) f
act_refused limit objects f is = record {
  refused = ⊎_elim (λ m. inl m) (λ s. inr s.0) is;
  full = λ e. ⊎_elim (λ m. absurd (cc (sym m ∙ e))) (λ s. s.1) is;
}

-- a call, where the receiver and the arguments are reached
abbrev pub CallActs : Context → Call → Option BuiltInMethod → Table → Table → Result Built Fault → Type 0
CallActs p call m t u r = (below : Below) → IsReadWith t below → IsAmong below call.receiver → All (IsRefAmong below) (arguments_of call.arguments) → Acts below (sent p below call.receiver m (arguments_of call.arguments)) t u r

module _ (p : Context) (call : Call) (t u : Table) (m : Option BuiltInMethod) (below : Below) (read : IsReadWith t below) (reached : IsCallReached (reach (length t.slots) (Some below)) call) (is : m ≡ method_of p call.callee) where
  abbrev args : List Ref
  args = arguments_of call.arguments

  abbrev all : All (IsReached (reach (length t.slots) (Some below))) (call.receiver ∷ args)
  all = all_cons (IsReached (reach (length t.slots) (Some below))) call.receiver args reached.receiver reached.arguments

  abbrev lead : Below
  lead = led t (call.receiver ∷ args)

  told : (r : Result Built Fault) → CallActs p call m t u r → Acts lead (sent p lead call.receiver (method_of p call.callee) args) t u r
  told r acts =
      let has = led_has t (call.receiver ∷ args) in
      let first = among_of lead call.receiver (has zero call.receiver (omega arith)) in
      let others = all_rest (IsRefAmong lead) call.receiver args has in
      subst (λ (x : Option BuiltInMethod). Acts lead (sent p lead call.receiver x args) t u r) is
      (acts lead (led_read t (call.receiver ∷ args) below read (reached_among (length t.slots) below (call.receiver ∷ args) all)) first others)

  done : (r : Result Built Fault) → CallActs p call m t u r → Acts below (sent p below call.receiver m args) t u r
  done r acts = acts below read (among_of below call.receiver (ref_among (length t.slots) below call.receiver reached.receiver)) (reached_refs (length t.slots) below args reached.arguments)

  pub call_replied : (missing : Problem) (b : Built) → CallActs p call m t u (Ok b) → missing ≡ MissingMethod call.callee (receiver_of t call.receiver) → IsReplied below (call_reply p call.receiver call.callee args t) t (response_from missing b) u
  call_replied missing b acts e =
      let d = sent p lead call.receiver (method_of p call.callee) args t in
      subst (λ x. IsReplied below (reply_with x d) t (response_from missing b) u) e
      (done_replied missing below lead t u d (sent p below call.receiver m args t) b (told (Ok b) acts) (done (Ok b) acts) (sent_adds p lead call.receiver (method_of p call.callee) args t))

  pub call_refused : (f : Fault) → CallActs p call m t u (Err f) → IsRefused (call_reply p call.receiver call.callee args t) t f
  call_refused f acts = act_refused t.limit _ f (told (Err f) acts).1

pub array_adds : (vs : List Ref) (t : Table) → count t ≤ count (array_reply vs t).table
array_adds vs t = act_adds (MakesArray (map value_of vs)) refs.Nil t

pub empty_adds : (t : Table) → count t ≤ count (empty_reply t).table
empty_adds t = act_adds (MakesObject empty_hash []) refs.Nil t

-- one of two
pick_adds : (t : Table) (b : Bool) (d e : Outcome × Table) → count t ≤ count d.1 → count t ≤ count e.1 → count t ≤ count (if b then d else e).1
pick_adds t true d e first second = first
pick_adds t false d e first second = second

pub set_field_adds : (name : ℕ) (x : Value) (v : Ref) (t : Table) → count t ≤ count (set_field name x v t).1
set_field_adds name x v t =
    pick_adds t (is_shell_kind (kind_at t v)) (Raises Moved, t) _ (omega arith)
    (pick_adds t (can_set t v) (Gives x, changed (with_field name x) v t) (Raises (Frozen (class_at t v)), t) (changed_adds (with_field name x) v t) (omega arith))

pub write_message_adds : (x : Value) (v : Ref) (t : Table) → count t ≤ count (write_message x v t).1
write_message_adds x v t =
    pick_adds t (is_shell_kind (kind_at t v)) (Raises Moved, t) _ (omega arith)
    (pick_adds t (is_open_exception t v) (Gives (value_of v), changed (with_message x) v t) (Raises (Frozen (class_at t v)), t) (changed_adds (with_message x) v t) (omega arith))

either_adds : (t : Table) (b : Bool) (u w : Table) → count t ≤ count u → count t ≤ count w → count t ≤ count (if b then u else w)
either_adds t true u w first second = first
either_adds t false u w first second = second

pub caused_adds : (x : Value) (v : Ref) (t : Table) → count t ≤ count (caused x v t)
caused_adds x v t = either_adds t (takes_cause t x v) (changed (with_cause x) v t) t (changed_adds (with_cause x) v t) (omega arith)

-- a space without objects leads to no cluster
pub none_read : (t : Table) → t.below ≡ [] → IsReadWith t []
none_read t e = record {
  one = λ c os ps first second. none_in (c, os) first;
  all = λ x has. subst (λ (bs : List Below). Contains (joined bs) x) e has;
}
