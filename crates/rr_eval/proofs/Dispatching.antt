-- Calls take no object away.
use Rattle.std.proofs.Common.{nat_eq, ◌≤◌, ℕ, Bool, true, false, arith, List, [], ◌∷◌, length, length-append, Option, Some, None}
use Rattle.rr_base.specs.declared.name.ClassId.{ClassId}
use Rattle.rr_base.specs.declared.name.Sym.{Sym}
use Rattle.rr_space.specs.Kinds.{kind_at}
use Rattle.rr_space.specs.Tables.{Table, Here}
use Rattle.rr_space.specs.declared.kind.Kind.{Kind}
use Rattle.rr_space.specs.declared.kind.Kind.TheVariants as kinds
use Rattle.rr_space.specs.declared.refer.Ref.{Ref}
use Rattle.rr_space.specs.declared.refer.Ref.TheVariants.{Nil, Int, Local}
use Rattle.rr_builtin.specs.Fields.{field_at}
use Rattle.rr_builtin.specs.News.{new_plain, is_exception_class}
use Rattle.rr_builtin.specs.declared.iterations.Iteration.{Iteration}
use Rattle.rr_builtin.specs.declared.problem.Problem.TheVariants.{Count}
use Rattle.rr_frames.specs.declared.activation.Activation.{Activation}
use Rattle.rr_tree.specs.Tree.{Tree}
use Rattle.rr_tree.specs.declared.node.BinaryOperator.{BinaryOperator}
use Rattle.rr_eval.specs.declared.call.Callee.{Callee}
use Rattle.rr_eval.specs.declared.call.Callee.TheVariants as callees
use Rattle.rr_eval.specs.declared.call_stack.Entry.TheVariants.{OfMethod}
use Rattle.rr_eval.specs.declared.problem.Problem.TheVariants.{BuiltIn, NotHere}
use Rattle.rr_eval.specs.Above.{method_above, initialize_above, is_initialize, super_sent, super_rule}
use Rattle.rr_eval.specs.Blocks.{Way, invocation, running}
use Rattle.rr_eval.specs.Callees.{method_of}
use Rattle.rr_eval.specs.Context.{Context}
use Rattle.rr_eval.specs.Dispatch.{counted, valued_response, last_of, write_rule, run_work, run_method, method_for, way_of, handed_by, initializer, made_by, initialized, making, built_in, dispatched, send_rule, operation, negation, iteration_of, made_object, made_value, made_rule}
use Rattle.rr_eval.specs.Fields.{field_response}
use Rattle.rr_eval.specs.Methods.{Work, Runs, Reads, Writes, NoWork, Callable}
use Rattle.rr_eval.specs.Operators.{integers, opposite}
use Rattle.rr_eval.specs.Rules.{throw, self_rule, block_sent, sent_block}
use Rattle.rr_eval.specs.Script.{Script}
use Rattle.rr_eval.specs.RactorMethods.{ractor_method}
use Rattle.rr_eval.proofs.Isolating.{with_block_keeps}
use Rattle.rr_eval.proofs.Keeping.{count, Keeps, if_keeps, throw_keeps, settled_keeps, framed_keeps, iteration_keeps, exception_keeps}

pub counted_keeps : (c : Context) (wanted : ℕ) (vs : List Ref) (next : Script) → Keeps next → Keeps (counted c wanted vs next)
counted_keeps c wanted vs next kept = if_keeps (nat_eq (length vs) wanted) next (throw c (BuiltIn (Count (length vs) wanted wanted))) kept (throw_keeps c (BuiltIn (Count (length vs) wanted wanted)))

write_keeps : (c : Context) (x : Sym) (v : Ref) (vs : List Ref) → Keeps (write_rule c x v vs)
write_keeps c x v [] = tt
write_keeps c x v (w ∷ ws) = λ m. settled_keeps c

work_keeps : (c : Context) (class : ClassId) (f : Work) (w : Way) (vs : List Ref) → Keeps (run_work c class f w vs)
work_keeps c class (Runs m) w vs = counted_keeps c m.parameters vs _ (λ k. framed_keeps c (OfMethod (invocation w class m)) m.parameters m.size vs w.tree m.body k.calls)
work_keeps c class (Reads x) w vs = counted_keeps c 0 vs _ (λ k. settled_keeps c (valued_response w.value (field_response k.table (field_at k.table w.receiver x.0))))
work_keeps c class (Writes x) w vs = counted_keeps c 1 vs (write_rule c x w.receiver vs) (write_keeps c x w.receiver vs)
work_keeps c class NoWork w vs = throw_keeps c NotHere

pub method_keeps : (c : Context) (f : Callable) (w : Way) (vs : List Ref) → Keeps (run_method c f w vs)
method_keeps c f w vs = work_keeps c f.class f.work w vs

pub initialized_keeps : (c : Context) (raises : Bool) (f : Option Callable) (b : Option Tree) (o : Ref) (vs : List Ref) → Keeps (initialized c raises f b o vs)
initialized_keeps c raises None b o vs = tt
initialized_keeps c raises (Some f) b o vs = method_keeps c f (record { receiver = o; block = handed_by b; tree = b; value = made_value raises o }) vs

object_keeps : (is : Bool) (class : ClassId) (cause : Ref) (t : Table) → count t ≤ count (made_object is class cause t)
object_keeps true class cause t = exception_keeps class Nil cause t
object_keeps false class cause t = omega (arith, length-append t.slots (Here (new_plain class.0) ∷ []))

pub making_keeps : (c : Context) (class : ClassId) (cause : Ref) (next : Ref → Script) → ((v : Ref) → Keeps (next v)) → Keeps (making c class cause next)
making_keeps c class cause next kept = λ m. (λ k. object_keeps (is_exception_class c.program class.0) class cause k.table, kept (Local (length m.table.slots)))

pub made_keeps : (c : Context) (class : ClassId) (cause : Ref) (raises : Bool) (b : Option Tree) (vs : List Ref) → Keeps (made_rule c class cause raises b vs)
made_keeps c class cause raises b vs = making_keeps c class cause _ (λ o. initialized_keeps c raises (initializer c class) b o vs)

built_in_keeps : (c : Context) (made : Option ClassId) (callee : Callee) (b : Option Tree) (v : Ref) (vs : List Ref) → Keeps (built_in c made callee b v vs)
built_in_keeps c (Some class) callee b v vs = made_keeps c class Nil false b vs
built_in_keeps c None callee None v vs = settled_keeps c
built_in_keeps c None callee (Some b) v vs = with_block_keeps c (ractor_method c v callee) callee b v (last_of vs)

pub dispatched_keeps : (c : Context) (f : Option Callable) (callee : Callee) (b : Option Tree) (v : Ref) (vs : List Ref) → Keeps (dispatched c f callee b v vs)
dispatched_keeps c (Some f) callee b v vs = method_keeps c f (way_of callee b v vs) vs
dispatched_keeps c None callee b v vs = built_in_keeps c (made_by c (method_of c callee) v) callee b v vs

pub send_keeps : (c : Context) (callee : Callee) (b : Option Tree) (v : Ref) (vs : List Ref) → Keeps (send_rule c callee b v vs)
send_keeps c callee b v vs = λ m. dispatched_keeps c (method_for c m.table v callee) callee b v vs

pub self_keeps : (c : Context) (x : Sym) (b : Option Tree) (vs : List Ref) → Keeps (self_rule c x b vs)
self_keeps c x b vs = λ m. send_keeps c (callees.Name x) b (running m.calls.frames).itself vs

block_sent_keeps : (c : Context) (f : Option Callable) (i : Option Iteration) (x : Sym) (b : Tree) (v : Ref) (vs : List Ref) → Keeps (block_sent c f i x b v vs)
block_sent_keeps c None (Some i) x b v vs = iteration_keeps c x b (v ∷ vs)
block_sent_keeps c None None x b v vs = dispatched_keeps c None (callees.Name x) (Some b) v vs
block_sent_keeps c (Some f) i x b v vs = dispatched_keeps c (Some f) (callees.Name x) (Some b) v vs

pub sent_block_keeps : (c : Context) (x : Sym) (b : Tree) (vs : List Ref) → Keeps (sent_block c x b vs)
sent_block_keeps c x b [] = tt
sent_block_keeps c x b (v ∷ vs) = λ m. block_sent_keeps c (method_for c m.table v (callees.Name x)) (iteration_of c (callees.Name x)) x b v vs

pub operates : (c : Context) (op : BinaryOperator) (v w : Ref) → Keeps (operation c op v w)
operates c op (Int x) (Int y) = settled_keeps c (integers op x y)
operates c op v w = send_keeps c (callees.Operator op) None v (w ∷ [])

pub negates : (c : Context) (v : Ref) → Keeps (negation c v)
negates c (Int x) = settled_keeps c (opposite x)
negates c v = send_keeps c callees.Opposite None v []

-- `super`
initialize_keeps : (c : Context) (k : Kind) (v : Ref) (vs : List Ref) → Keeps (initialize_above c k v vs)
initialize_keeps c kinds.Exception v [] = λ m. settled_keeps c
initialize_keeps c kinds.Exception v (w ∷ []) = λ m. settled_keeps c
initialize_keeps c kinds.Exception v (w ∷ x ∷ vs) = throw_keeps c (BuiltIn (Count (length (w ∷ x ∷ vs)) 0 1))
initialize_keeps c k v [] = tt
initialize_keeps c k v (w ∷ vs) = throw_keeps c (BuiltIn (Count (length (w ∷ vs)) 0 0))

super_sent_keeps : (c : Context) (f : Option Callable) (a : Activation) (t : Table) (vs : List Ref) → Keeps (super_sent c f a t vs)
super_sent_keeps c (Some f) a t vs = method_keeps c f _ vs
super_sent_keeps c None a t vs = if_keeps (is_initialize c a.name) _ _ (initialize_keeps c (kind_at t a.itself) a.itself vs) (settled_keeps c)

pub super_keeps : (c : Context) (vs : List Ref) → Keeps (super_rule c vs)
super_keeps c vs = λ m. super_sent_keeps c (method_above c (running m.calls.frames) m.table) (running m.calls.frames) m.table vs
