-- What an assignment to an instance variable, a new message and a new cause leave.
use Rattle.std.proofs.Common.{◌≡◌, ◌∙◌, ap, sym, subst, arith, ℕ, ◌≤◌, [], ◌∷◌, length, Some, Ok, Err, refl}
use Rattle.rr_base.specs.declared.fault.Fault.{Fault}
use Rattle.rr_space.specs.Graph.{Value}
use Rattle.rr_space.specs.Parts.{value_of}
use Rattle.rr_space.specs.Tables.{Table, Below, IsRestKept}
use Rattle.rr_text.specs.Reads.{IsReadWith}
use Rattle.rr_space.specs.declared.refer.Ref.{Ref}
use Rattle.rr_builtin.specs.Acts.{Acts, IsDone}
use Rattle.rr_builtin.specs.Causes.{caused}
use Rattle.rr_builtin.specs.Fields.{set_field}
use Rattle.rr_builtin.specs.Messages.{write_message}
use Rattle.rr_builtin.specs.declared.built.Built.{Built}
use Rattle.rr_builtin.proofs.Causing.{caused_keys}
use Rattle.rr_eval.specs.declared.problem.Problem.TheVariants.{NotHere}
use Rattle.rr_eval.specs.declared.problem.Response.{Response}
use Rattle.rr_eval.specs.declared.problem.Response.TheVariants.{Throws}
use Rattle.rr_eval.specs.Calls.{reply_with}
use Rattle.rr_eval.specs.Responses.{response_from}
use Rattle.rr_eval.specs.Serves.{IsReplied, IsRefused}
use Rattle.rr_eval.specs.Tasks.{cause_reply}
use Rattle.rr_eval.specs.Within.{reach, IsReached}
use Rattle.rr_eval.proofs.Calling.{done_replied, act_refused, set_field_adds, write_message_adds, caused_adds}
use Rattle.rr_eval.proofs.Holding.{ref_more}

pub set_field_replied : (below : Below) (name : ℕ) (x : Value) (v : Ref) (t u : Table) (b : Built) (r : Response) → Acts below (set_field name x v) t u (Ok b) → r ≡ response_from NotHere b → IsReplied below (reply_with NotHere (set_field name x v t)) t r u
set_field_replied below name x v t u b r is e =
    let done = set_field name x v t in
    subst (λ a. IsReplied below (reply_with NotHere done) t a u) (sym e) (done_replied NotHere below below t u done done b is is (set_field_adds name x v t))

pub set_field_refused : (below : Below) (name : ℕ) (x : Value) (v : Ref) (t u : Table) (f : Fault) → Acts below (set_field name x v) t u (Err f) → IsRefused (reply_with NotHere (set_field name x v t)) t f
set_field_refused below name x v t u f is = act_refused t.limit _ f is.1

-- the message of an exception is another one
pub message_replied : (below : Below) (x : Value) (v : Ref) (t u : Table) (b : Built) (r : Response) → IsDone below (write_message x v t) t u b → r ≡ response_from NotHere b → IsReplied below (reply_with NotHere (write_message x v t)) t r u
message_replied below x v t u b r is e =
    let done = write_message x v t in
    subst (λ a. IsReplied below (reply_with NotHere done) t a u) (sym e) (done_replied NotHere below below t u done done b is is (write_message_adds x v t))

-- an exception gets a cause, and is raised
pub cause_replied : (below : Below) (cause exception : Ref) (t u : Table) → u.slots ≡ (caused (value_of cause) exception t).slots → u.keys ≡ t.keys → IsRestKept t u → IsReadWith u below → IsReached (reach (length t.slots) (Some below)) exception
    → IsReplied below (cause_reply (exception ∷ cause ∷ []) t) t (Throws exception) u
cause_replied below cause exception t u slots keys rest read reached =
    let more : length t.slots ≤ length u.slots = omega (arith, ap (λ l. length l) slots, caused_adds (value_of cause) exception t) in
    record {
      said = refl;
      slots = slots;
      keys = keys ∙ sym (caused_keys (value_of cause) exception t);
      left = record { read = read; reached = ref_more (length t.slots) (length u.slots) (Some below) more exception reached; grows = more; rest = rest };
    }
