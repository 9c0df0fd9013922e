-- Parts that read what an object holds.
use Rattle.std.proofs.Common.{◌≡◌, ℕ, suc, ◌+◌, ap, ◌∙◌, sym, arith, refl, subst, [], ◌∷◌, Option, Some, None, Bool, true, false, if◌then◌else◌, slice_index_or}
use Rattle.rr_base.specs.ClassNames.{class_named}
use Rattle.rr_base.specs.Classes.{class_id}
use Rattle.rr_base.specs.declared.class.BuiltInClass.{BuiltInClass}
use Rattle.rr_base.specs.declared.name.Sym.{Sym}
use Rattle.rr_space.specs.Tables.{Table}
use Rattle.rr_space.specs.declared.refer.Ref.{Ref}
use Rattle.rr_space.specs.declared.refer.Ref.TheVariants.{Class}
use Rattle.rr_parser.specs.Grammar.Names.{is_splat}
use Rattle.rr_tree.specs.Tree.{Tree, constant, field, global, send, splat, empty}
use Rattle.rr_tree.specs.declared.node.Path.TheVariants.{Plain}
use Rattle.rr_tree.specs.declared.program.Program.{Program}
use Rattle.rr_builtin.specs.Fields.{field_at}
use Rattle.rr_eval.specs.declared.call.Callee.TheVariants.{Name}
use Rattle.rr_eval.specs.declared.call.Target.TheVariants.{Call}
use Rattle.rr_eval.specs.declared.call_stack.CallValue.TheVariants.{Method}
use Rattle.rr_eval.specs.declared.prepared.Definition.{Definition}
use Rattle.rr_eval.specs.declared.prepared.Work.TheVariants.{Read}
use Rattle.rr_eval.specs.declared.problem.Answer.{Answer}
use Rattle.rr_eval.specs.declared.problem.Answer.TheVariants.{Gave}
use Rattle.rr_eval.specs.declared.problem.Problem.TheVariants.{IsolatedGlobal}
use Rattle.rr_eval.specs.declared.problem.Response.{Response}
use Rattle.rr_eval.specs.declared.problem.Response.TheVariants.{Gives}
use Rattle.rr_eval.specs.Blocks.{running}
use Rattle.rr_eval.specs.Constants.{asked_constant, constant_rule, own_class, plain_constant, set_response, unless_set}
use Rattle.rr_eval.specs.declared.call_stack.Variable.{Variable as Local}
use Rattle.rr_eval.specs.declared.simple_parts.SimplePart.{SimplePart}
use Rattle.rr_eval.specs.declared.simple_parts.SimplePart.TheVariants.{Variable}
use Rattle.rr_eval.specs.SimpleParts.{attribute_in, named_operand, operand_of}
use Rattle.rr_eval.specs.Variables.{read_variable}
use Rattle.rr_eval.specs.Context.{Context}
use Rattle.rr_eval.specs.Dispatch.{dispatched, method_for, run_work, way_of, valued_response}
use Rattle.rr_eval.specs.Fields.{field_response}
use Rattle.rr_eval.specs.Frames.{Code, means, runs_in}
use Rattle.rr_eval.specs.Globals.{globals}
use Rattle.rr_eval.specs.Joins.{joined_by, joined_or_sent}
use Rattle.rr_eval.specs.Prepared.{callable_of, work_in}
use Rattle.rr_eval.specs.Owners.{is_main}
use Rattle.rr_eval.specs.Rules.{on_value, settled, throw, arguments, finish}
use Rattle.rr_eval.specs.Script.{State, Ended, Ret}
use Rattle.rr_eval.specs.Turns.{context_of, code_of, state_of}
use Rattle.rr_eval.specs.Usual.{GivesAtOnce, TakesNow}
use Rattle.rr_eval.specs.View.{View}
use Rattle.rr_eval.proofs.Depth.{meaning_rule}
use Rattle.rr_eval.proofs.Quickly.{answers}
use Rattle.rr_eval.proofs.QuickParts.{part_comes}
use Rattle.rr_eval.proofs.Simply.{operand_takes}

-- what is not set is what follows, in the main ractor as in another one
class_given : (own : Context) (c : Code) (s : State) (a : Answer) (n : ℕ) (b : Bool) (o : Option Response) → (b ≡ true → None ≡ o) → runs_in c (if b then unless_set own o (Ret a) else Ret a) s n ≡ Ended a s n
class_given own c s a n true o set = ap (λ r. runs_in c (unless_set own r (Ret a)) s n) (sym (set refl))
class_given own c s a n false o set = refl

-- an instance variable of `self`
pub field_takes : (p : Program) (m : View) (t : Table) (x : Sym) (v : Ref) → field_response t (field_at t (running m.calls.frames).itself x.0) ≡ Gives v → TakesNow p m t (field x.0) 1 v
field_takes p m t x v is = λ h.
    let c = code_of p h.world in
    answers c (field x.0) (field x.0) (state_of p m t h) v refl (λ n. ap (λ r. runs_in c (settled c.context r) (state_of p m t h) n) is)

-- a global variable, which the main ractor reads
pub global_takes : (p : Program) (m : View) (t : Table) (x : Sym) (v : Ref) → is_main t ≡ true → field_response t (field_at t globals x.0) ≡ Gives v → TakesNow p m t (global x.0) 1 v
global_takes p m t x v main is = λ h.
    let c = code_of p h.world in
    let s = state_of p m t h in
    answers c (global x.0) (global x.0) s v refl (λ n.
    ap (λ b. runs_in c (if b then settled c.context (field_response t (field_at t globals x.0)) else throw c.context (IsolatedGlobal x)) s n) main
    ∙ ap (λ r. runs_in c (settled c.context r) s n) is)

-- a constant whose rule gives a value at once
pub constant_takes : (p : Program) (m : View) (t : Table) (x : Sym) (v : Ref) → GivesAtOnce p t (plain_constant (context_of p) (own_class p x.0) x) v → TakesNow p m t (constant (Plain x)) 1 v
constant_takes p m t x v gives = λ h. answers (code_of p h.world) (constant (Plain x)) (constant (Plain x)) (state_of p m t h) v refl (λ n. gives m h n)

-- a constant that the main ractor set
pub set_gives : (p : Program) (t : Table) (x : Sym) (v : Ref) (b : Bool) (o : Option Response) → is_main t ≡ b → (b ≡ true → o ≡ set_response t (field_at t globals x.0)) → (b ≡ false → o ≡ None) → o ≡ Some (Gives v) → GivesAtOnce p t (plain_constant (context_of p) None x) v
set_gives p t x v true o main set other is = λ m h n.
    let own = context_of p in
    let c = code_of p h.world in
    let s = state_of p m t h in
    let named = class_named (slice_index_or own.symbols x.0 []) in
    ap (λ d. runs_in c (if d then unless_set own (set_response t (field_at t globals x.0)) (constant_rule own named x) else asked_constant own named x t) s n) main
    ∙ ap (λ r. runs_in c (unless_set own r (constant_rule own named x)) s n) (sym (set refl) ∙ is)
set_gives p t x v false o main set other is = absurd (cc (sym (other refl) ∙ is))

-- a built-in class, to whose name nothing was set
pub class_gives : (p : Program) (t : Table) (x : Sym) (k : BuiltInClass) (b : Bool) → is_main t ≡ b → (b ≡ true → None ≡ set_response t (field_at t globals x.0)) → class_named (slice_index_or (context_of p).symbols x.0 []) ≡ Some k → GivesAtOnce p t (plain_constant (context_of p) None x) (Class (class_id k))
class_gives p t x k b main set named = λ m h n.
    let own = context_of p in
    let c = code_of p h.world in
    let s = state_of p m t h in
    ap (λ o. runs_in c (if is_main t then unless_set own (set_response t (field_at t globals x.0)) (constant_rule own o x) else asked_constant own o x t) s n) named
    ∙ ap (λ d. runs_in c (if d then unless_set own (set_response t (field_at t globals x.0)) (Ret (Gave (Class (class_id k)))) else Ret (Gave (Class (class_id k)))) s n) main
    ∙ class_given own c s (Gave (Class (class_id k))) n b (set_response t (field_at t globals x.0)) set

-- a method that reads an instance variable of the receiver
pub attribute_comes : (p : Program) (t : Table) (v w : Ref) (x name : Sym) (d : Definition) → joined_by (context_of p) t (Name x) v ≡ None → Some (callable_of p.nodes.items d) ≡ method_for (context_of p) t v (Name x) → d.work ≡ Read name → field_response t (field_at t v name.0) ≡ Gives w
    → GivesAtOnce p t (finish (context_of p) (Call (Name x)) (v ∷ [])) w
attribute_comes p t v w x name d joins method reads is = λ m h n.
    let own = context_of p in
    let c = code_of p h.world in
    let s = state_of p m t h in
    ap (λ o. runs_in c (joined_or_sent own o (Name x) v []) s n) joins
    ∙ ap (λ g. runs_in c (dispatched own g (Name x) None v []) s n) (sym method)
    ∙ ap (λ k. runs_in c (run_work own d.class (work_in p.nodes.items k) (way_of (Name x) None v []) []) s n) reads
    ∙ ap (λ r. runs_in c (settled own (valued_response Method r)) s n) is

-- a call without arguments takes a step, behind those of its receiver
pub attribute_takes : (p : Program) (m : View) (t : Table) (a : Tree) (x : Sym) (i : ℕ) (v w : Ref) → TakesNow p m t a i v → GivesAtOnce p t (finish (context_of p) (Call (Name x)) (v ∷ [])) w → TakesNow p m t (send a x.0 empty) (i + 1) w
attribute_takes p m t a x i v w takes gives = λ h n.
    let own = context_of p in
    let c = code_of p h.world in
    let s = state_of p m t h in
    let one : i + 1 + n ≡ suc (i + n) = omega arith in
    ap (means c (send a x.0 empty) s) one
    ∙ meaning_rule c.context c.world (send a x.0 empty) s (i + n)
    ∙ part_comes p m t a i v (on_value (λ u. arguments own [] (u ∷ []) (finish own (Call (Name x))))) takes h n
    ∙ gives m h n

-- a call without arguments of what a variable holds takes two steps
named_takes : (p : Program) (m : View) (t : Table) (a : Tree) (s : SimplePart) (x : ℕ) (v : Local) (y : Sym) (w : Ref) → operand_of a ≡ s → named_operand s x ≡ Some (v, y.0)
    → GivesAtOnce p t (finish (context_of p) (Call (Name y)) (read_variable v m.calls.frames ∷ [])) w → TakesNow p m t (send a x empty) 2 w
named_takes p m t a (Variable u) x v y w is e gives =
    let same : Path (Local × ℕ) (u, x) (v, y.0) = cc e in
    let here = subst (λ z. operand_of a ≡ Variable z) (ap (λ (q : Local × ℕ). q.0) same) is in
    subst (λ n. TakesNow p m t (send a n empty) 2 w) (sym (ap (λ (q : Local × ℕ). q.1) same)) (attribute_takes p m t a y 1 (read_variable v m.calls.frames) w (operand_takes p m t a v here) gives)
named_takes p m t a _ x v y w is e gives = absurd (cc e)

pub attribute_read : (p : Program) (m : View) (t : Table) (tree : Tree) (v : Local) (y : Sym) (w : Ref) → attribute_in tree ≡ Some (v, y.0)
    → GivesAtOnce p t (finish (context_of p) (Call (Name y)) (read_variable v m.calls.frames ∷ [])) w → TakesNow p m t tree 2 w
attribute_read p m t (send a x empty) v y w e gives = named_takes p m t a (operand_of a) x v y w refl e gives
attribute_read p m t _ v y w e gives = absurd (cc e)

pub attribute_plain : (tree : Tree) (v : Local) (x : ℕ) → attribute_in tree ≡ Some (v, x) → is_splat tree ≡ false
attribute_plain (splat a) v x e = absurd (cc e)
attribute_plain _ v x e = refl
