-- What a new array and a new text leave.
use Rattle.std.proofs.Common.{◌≡◌, ◌∙◌, ap, sym, subst, map, ◌≤◌, ℕ, false, List, length, Some, Result, Ok, Err, IfOk}
use Rattle.std.specs.List.{All}
use Rattle.rr_base.specs.declared.fault.Fault.{Fault}
use Rattle.rr_space.specs.Parts.{value_of}
use Rattle.rr_space.specs.Tables.{Table, Below}
use Rattle.rr_space.specs.declared.refer.Ref.{Ref}
use Rattle.rr_space.specs.declared.refer.Ref.TheVariants as refs
use Rattle.rr_text.specs.Reads.{IsReadWith}
use Rattle.rr_builtin.specs.Acts.{MakesArray, performed, IsRefAmong, Acts}
use Rattle.rr_builtin.specs.declared.built.Built.{Built}
use Rattle.rr_eval.specs.declared.problem.Problem.TheVariants.{NotHere}
use Rattle.rr_eval.specs.declared.problem.Response.{Response}
use Rattle.rr_eval.specs.Acts.{Acts as Makes}
use Rattle.rr_eval.specs.Effects.{said}
use Rattle.rr_eval.specs.Operators.{make}
use Rattle.rr_eval.specs.Responses.{response_from}
use Rattle.rr_eval.specs.Serves.{IsReplied, IsRefused}
use Rattle.rr_eval.specs.Tasks.{array_reply, text_reply}
use Rattle.rr_eval.specs.Within.{reach, IsReached, IsResponseReached}
use Rattle.rr_eval.proofs.Calling.{done_replied, act_refused, array_adds}
use Rattle.rr_eval.proofs.Led.{reached_refs}

-- the values of a new array
pub array_acts : (below : Below) (items values : List Ref) (t u : Table) (r : Result Built Fault) → items ≡ values
    → ((below : Below) (v : Ref) → IsReadWith t below → All (IsRefAmong below) items → Acts below (performed (MakesArray (map value_of items)) v) t u r)
    → IsReadWith t below → All (IsReached (reach (length t.slots) (Some below))) values → Acts below (performed (MakesArray (map value_of values)) refs.Nil) t u r
array_acts below items values t u r e acts read reached =
    subst (λ vs. Acts below (performed (MakesArray (map value_of vs)) refs.Nil) t u r) e
    (acts below refs.Nil read (subst (All (IsRefAmong below)) (sym e) (reached_refs (length t.slots) below values reached)))

pub array_replied : (below : Below) (vs : List Ref) (t u : Table) (b : Built) (r : Response) → Acts below (performed (MakesArray (map value_of vs)) refs.Nil) t u (Ok b) → r ≡ response_from NotHere b → IsReplied below (array_reply vs t) t r u
array_replied below vs t u b r is e =
    let done = performed (MakesArray (map value_of vs)) refs.Nil t in
    subst (λ x. IsReplied below (array_reply vs t) t x u) (sym e) (done_replied NotHere below below t u done done b is is (array_adds vs t))

pub array_refused : (below : Below) (vs : List Ref) (t u : Table) (f : Fault) → Acts below (performed (MakesArray (map value_of vs)) refs.Nil) t u (Err f) → IsRefused (array_reply vs t) t f
array_refused below vs t u f is = act_refused t.limit _ f is.1

-- a new text
pub text_replied : (below : Below) (bytes items : List ℕ) (t u : Table) (r : Result Response Fault) → items ≡ bytes → Makes (make false items) t u r → IfOk r (IsResponseReached (reach (length u.slots) (Some below)))
    → IsReadWith u below → length t.slots ≤ length u.slots → IfOk r (λ x. IsReplied below (text_reply bytes t) t x u)
text_replied below bytes items t u (Ok x) e acts reached read grows = record {
  said = sym (ap (λ d. said d.0) acts);
  slots = sym (ap (λ d. d.1.slots) acts) ∙ ap (λ s. (make false s t).1.slots) e;
  keys = sym (ap (λ d. d.1.keys) acts);
  left = record {
    read = read;
    reached = reached;
    grows = grows;
    rest = record { limit = sym (ap (λ d. d.1.limit) acts); owner = sym (ap (λ d. d.1.owner) acts); next_message = sym (ap (λ d. d.1.next_message) acts) };
  };
}
text_replied below bytes items t u (Err f) e acts reached read grows = tt
