-- Attributes that are read and written at once.
use Rattle.std.proofs.Common.{◌≡◌, ℕ, ◌+◌, ◌-◌, ◌<◌, ◌≤◌, ap, sym, ◌∙◌, arith, List, [], ◌∷◌, ◌++◌, drop, get_or, length, Option, Some, None}
use Rattle.std.specs.Option.{option_map}
use Rattle.rr_base.specs.declared.name.Sym.{Sym}
use Rattle.rr_space.specs.Tables.{Table}
use Rattle.rr_space.specs.declared.refer.Ref.{Ref}
use Rattle.rr_builtin.specs.Fields.{field_at}
use Rattle.rr_tree.specs.Tree.{tree_at}
use Rattle.rr_tree.specs.declared.program.Program.{Program}
use Rattle.rr_eval.specs.declared.call.Callee.TheVariants.{Name, Setter}
use Rattle.rr_eval.specs.declared.call.Target.TheVariants.{Call}
use Rattle.rr_eval.specs.declared.call.Task.TheVariants.{SetField}
use Rattle.rr_eval.specs.declared.call_stack.CallValue.TheVariants.{Method}
use Rattle.rr_eval.specs.declared.frame.Control.TheVariants.{Enter}
use Rattle.rr_eval.specs.declared.frame.Frame.TheVariants.{Put}
use Rattle.rr_eval.specs.declared.problem.Answer.TheVariants.{Gave}
use Rattle.rr_eval.specs.declared.updating.Place.TheVariants.{Sent}
use Rattle.rr_eval.specs.Basics.{settled}
use Rattle.rr_eval.specs.Context.{Context}
use Rattle.rr_eval.specs.Dispatch.{dispatched, method_for, run_work, valued_response, way_of, write_rule}
use Rattle.rr_eval.specs.Fields.{field_response}
use Rattle.rr_eval.specs.Joins.{joined_or_sent}
use Rattle.rr_eval.specs.Methods.{Callable, Work, Reads, Writes, NoWork}
use Rattle.rr_eval.specs.Requests.{Course}
use Rattle.rr_eval.specs.Rules.{rule, finish}
use Rattle.rr_eval.specs.Script.{See, Does}
use Rattle.rr_eval.specs.Turns.{context_of, remaining, after_script, after_answer, after_values, asking_with}
use Rattle.rr_eval.specs.Updating.{sent_first}
use Rattle.rr_eval.specs.Usual.{ComesTo, GoesOnAsking, WritesField}
use Rattle.rr_eval.specs.View.{View}
use Rattle.rr_eval.proofs.QuickSends.{comes_first}

-- what is done by a method that is there
abbrev there : Option Work → Work
there None = NoWork
there (Some w) = w

-- a method that only writes an instance variable asks for it
pub writes_known : (c : Context) (o : Option Callable) (x : Sym) (v w : Ref) (field : Sym) → option_map (λ f. f.work) o ≡ Some (Writes field) → dispatched c o (Setter x) None v (w ∷ []) ≡ write_rule c field v (w ∷ [])
writes_known c None x v w field is = cc is
writes_known c (Some f) x v w field is = ap (λ k. run_work c f.class k (way_of (Setter x) None v (w ∷ [])) (w ∷ [])) (ap there is)

-- and one that only reads one gives it
pub reads_known : (c : Context) (o : Option Callable) (x : Sym) (v : Ref) (field : Sym) → option_map (λ f. f.work) o ≡ Some (Reads field)
    → dispatched c o (Name x) None v [] ≡ See (λ k. settled c (valued_response Method (field_response k.table (field_at k.table v field.0))))
reads_known c None x v field is = cc is
reads_known c (Some f) x v field is = ap (λ k. run_work c f.class k (way_of (Name x) None v []) []) (ap there is)

-- an assignment to an attribute whose values are known is asked
pub attribute_asked : (p : Program) (m : View) (t : Table) (here steps : ℕ) (x field : Sym) (v w : Ref) (h : Course) → m.control ≡ Enter here
    → ComesTo p m t (rule (context_of p) (tree_at p.nodes.items here)) steps (finish (context_of p) (Call (Setter x)) (v ∷ w ∷ [])) → WritesField (context_of p) t x v field → steps < m.left
    → remaining p m t h ≡ asking_with p m t (Does (SetField field) (v ∷ w ∷ []) t) h (m.left - (steps + 1))
attribute_asked p m t here steps x field v w h at comes is less =
    let own = context_of p in
    let n = m.left - (steps + 1) in
    comes_first p m t here steps (finish own (Call (Setter x)) (v ∷ w ∷ [])) h at comes less
    ∙ ap (λ o. after_script p m t (joined_or_sent own o (Setter x) v (w ∷ [])) h n) is.joins
    ∙ ap (λ r. after_script p m t r h n) (writes_known own (method_for own t v (Setter x)) x v w field is.method)

-- the value that is assigned to an attribute is there
pub attribute_waits : (p : Program) (m : View) (t : Table) (base : ℕ) (x field : Sym) (v w : Ref) → drop base m.held ≡ v ∷ [] → WritesField (context_of p) t x v field → GoesOnAsking p m t (Put (Sent (Setter x)) base) w 0 (Does (SetField field) (v ∷ w ∷ []) t)
attribute_waits p m t base x field v w stand is = λ fs h n.
    let own = context_of p in
    let k = record m { frames = fs } in
    let f = Put (Sent (Setter x)) base in
    let none : 0 + n ≡ n = omega arith in
    ap (λ i. after_answer p k t f (Gave w) h i) none
    ∙ ap (λ (l : List Ref). after_values p k t f (sent_first own (Setter x) (l ++ w ∷ [])) h n) stand
    ∙ ap (λ r. after_values p k t f r h n) (writes_known own (method_for own t v (Setter x)) x v w field is.method)

-- a list of one
pub only_one : (vs : List Ref) (v : Ref) → 1 ≤ length vs → length vs < 2 → v ≡ get_or vs 0 v → vs ≡ v ∷ []
only_one [] v some few is = absurd (omega (arith, some))
only_one (u ∷ []) v some few is = ap (λ w. w ∷ []) (sym is)
only_one (u ∷ w ∷ vs) v some few is = absurd (omega (arith, few))
