-- What is asked before it is printed takes no object away.
use Rattle.std.proofs.Common.{List, [], ◌∷◌, ◌++◌, Option, Some, None}
use Rattle.rr_base.specs.declared.name.Sym.{Sym}
use Rattle.rr_space.specs.declared.refer.Ref.{Ref}
use Rattle.rr_eval.specs.declared.asking.Asking.{Asking}
use Rattle.rr_eval.specs.declared.asking.Saying.{Saying}
use Rattle.rr_eval.specs.declared.asking.Saying.TheVariants as sayings
use Rattle.rr_eval.specs.declared.call.Callee.{Callee}
use Rattle.rr_eval.specs.declared.leaves.Taking.TheVariants as takings
use Rattle.rr_eval.specs.declared.call.Task.{Task}
use Rattle.rr_eval.specs.declared.call_stack.CallValue.{CallValue}
use Rattle.rr_eval.specs.declared.problem.Answer.{Answer}
use Rattle.rr_eval.specs.Blocks.{back}
use Rattle.rr_eval.specs.Bound.{bind}
use Rattle.rr_eval.specs.Context.{Context}
use Rattle.rr_eval.specs.Methods.{Callable}
use Rattle.rr_eval.specs.Script.{Script, Ret, Evaluate, See, Do, Ask}
use Rattle.rr_eval.specs.Speaking.{saying_of, symbol_asked, sayer, text_in, heard, asked_by, printed_for, asked_all, named_rule, said_rule, saying_rule, task_rule, asked_on}
use Rattle.rr_eval.proofs.Keeping.{Keeps, on_value_keeps, settled_keeps, back_keeps}
use Rattle.rr_eval.specs.Joins.{separator, joined_by, joined, joined_or_sent, joining_call}
use Rattle.rr_eval.specs.Leaves.{leaves_of, between}
use Rattle.rr_eval.proofs.Dispatching.{method_keeps, send_keeps}
use Rattle.rr_eval.proofs.Splatted.{items_keep}

-- a script, and then what follows
pub bind_keeps : (s : Script) (next : Answer → Script) → Keeps s → ((a : Answer) → Keeps (next a)) → Keeps (bind s next)
bind_keeps (Ret a) next kept more = more a
bind_keeps (Evaluate part rest) next kept more = λ a. bind_keeps (rest a) next (kept a) more
bind_keeps (See look) next kept more = λ m. bind_keeps (look m) next (kept m) more
bind_keeps (Do act rest) next kept more = (kept.0, bind_keeps rest next kept.1 more)
bind_keeps (Ask q rest) next kept more = λ r. bind_keeps (rest r) next (kept r) more

heard_keeps : (next : Option Ref → Script) → ((said : Option Ref) → Keeps (next said)) → (a : Answer) → Keeps (heard next a)
heard_keeps next kept a = on_value_keeps _ (λ w. λ m. kept (text_in m.table w)) a

asked_by_keeps : (c : Context) (f : Option Callable) (x : Sym) (v : Ref) (next : Option Ref → Script) → ((said : Option Ref) → Keeps (next said)) → Keeps (asked_by c f x v next)
asked_by_keeps c None x v next kept = kept None
asked_by_keeps c (Some f) x v next kept = bind_keeps _ (heard next) (method_keeps c f _ []) (heard_keeps next kept)

asked_all_keeps : (c : Context) (s : Saying) (x : Sym) (vs done : List Ref) → Keeps (asked_all c s x vs done)
asked_all_keeps c s x [] done = λ m. settled_keeps c
asked_all_keeps c s x (v ∷ vs) done = λ m. asked_by_keeps c (sayer c m.table x v) x v _ (λ said. asked_all_keeps c s x vs (done ++ printed_for s v said))

named_keeps : (c : Context) (s : Saying) (x : Sym) (vs : List Ref) → Keeps (named_rule c s x vs)
named_keeps c sayings.Puts x vs = λ m. items_keep c (leaves_of takings.Lines m.table vs) _ (λ ws. asked_all_keeps c sayings.Puts x ws [])
named_keeps c sayings.Inspect x vs = asked_all_keeps c sayings.Inspect x vs []
named_keeps c sayings.Print x vs = asked_all_keeps c sayings.Print x vs []
named_keeps c sayings.Text x vs = asked_all_keeps c sayings.Text x vs []

said_keeps : (c : Context) (task : Task) (s : Saying) (x : Option Sym) (vs : List Ref) → Keeps (said_rule c task s x vs)
said_keeps c task s None vs = λ m. settled_keeps c
said_keeps c task s (Some x) vs = named_keeps c s x vs

saying_keeps : (c : Context) (task : Task) (s : Option Saying) (vs : List Ref) → Keeps (saying_rule c task s vs)
saying_keeps c task None vs = λ m. settled_keeps c
saying_keeps c task (Some s) vs = said_keeps c task s (symbol_asked c s) vs

pub task_keeps : (c : Context) (task : Task) (vs : List Ref) → Keeps (task_rule c task vs)
task_keeps c task [] = λ m. settled_keeps c
task_keeps c task (v ∷ vs) = saying_keeps c task (saying_of task) (v ∷ vs)

-- calls of `join`
joined_keeps : (c : Context) (x : Sym) (s : Option Ref) (callee : Callee) (v : Ref) (vs : List Ref) → Keeps (joined c x s callee v vs)
joined_keeps c x None callee v vs = send_keeps c callee None v vs
joined_keeps c x (Some s) callee v vs = λ m. items_keep c (leaves_of takings.Joint m.table (v ∷ [])) _ (λ ws. asked_all_keeps c sayings.Text x (between s ws) [])

joined_or_keeps : (c : Context) (x : Option Sym) (callee : Callee) (v : Ref) (vs : List Ref) → Keeps (joined_or_sent c x callee v vs)
joined_or_keeps c None callee v vs = send_keeps c callee None v vs
joined_or_keeps c (Some x) callee v vs = λ m. joined_keeps c x (separator m.table vs) callee v vs

pub joining_call_keeps : (c : Context) (callee : Callee) (v : Ref) (vs : List Ref) → Keeps (joining_call c callee v vs)
joining_call_keeps c callee v vs = λ m. joined_or_keeps c (joined_by c m.table callee v) callee v vs

-- behind a value that was asked
pub asked_on_keeps : (c : Context) (a : Asking) (stand : List Ref) (answer : Answer) → Keeps (heard (asked_on c a stand) answer)
asked_on_keeps c a stand answer = heard_keeps (asked_on c a stand) (λ said. asked_all_keeps c a.saying a.name _ _) answer

pub asking_on_keeps : (c : Context) (a : Asking) (stand : List Ref) (by : CallValue) (answer : Answer) → Keeps (bind (back by answer) (heard (asked_on c a stand)))
asking_on_keeps c a stand by answer = bind_keeps (back by answer) (heard (asked_on c a stand)) (back_keeps by answer) (asked_on_keeps c a stand)
