-- Calls that are asked for at once.
use Rattle.std.proofs.Common.{◌≡◌, ℕ, ◌+◌, ◌-◌, ◌<◌, ◌≤◌, ap, sym, subst, ◌∙◌, arith, false, List, [], ◌∷◌, ◌++◌, length, take, drop, reverse, suc, Option, None}
use Rattle.std.proofs.lemmas.List.{drop_all}
use Rattle.rr_space.specs.Tables.{Table}
use Rattle.rr_space.specs.declared.refer.Ref.{Ref}
use Rattle.rr_tree.specs.Nodes.{trees_before}
use Rattle.rr_tree.specs.Tree.{Tree, tree_at}
use Rattle.rr_tree.specs.declared.program.Program.{Program}
use Rattle.rr_parser.specs.Grammar.Names.{is_splat}
use Rattle.rr_tree.specs.declared.node.BinaryOperator.{BinaryOperator}
use Rattle.rr_eval.specs.declared.call.Callee.{Callee}
use Rattle.rr_eval.specs.declared.call.Callee.TheVariants.{Operator}
use Rattle.rr_eval.specs.declared.call.Target.TheVariants.{Call}
use Rattle.rr_eval.specs.declared.frame.Control.TheVariants.{Enter, Give, Send}
use Rattle.rr_eval.specs.declared.frame.Frame.{Frame}
use Rattle.rr_eval.specs.declared.frame.Frame.TheVariants.{Argument, Put, Right}
use Rattle.rr_eval.specs.declared.updating.Place.TheVariants.{Sent}
use Rattle.rr_eval.specs.declared.problem.Answer.TheVariants.{Gave}
use Rattle.rr_eval.specs.Dispatch.{built_in, dispatched, operation, part_called, send_rule}
use Rattle.rr_eval.specs.Frames.{below_of, runs_in, unwind, outcome_of}
use Rattle.rr_eval.specs.Joins.{joined_by, joined_or_sent}
use Rattle.rr_eval.specs.Requests.{Course}
use Rattle.rr_eval.specs.Rules.{rule, on_value, with_value, values, arguments, finish}
use Rattle.rr_eval.specs.Script.{Script, Calls}
use Rattle.rr_eval.specs.Turns.{context_of, code_of, state_of, remaining, after_script, after_answer, after_values, asking_with}
use Rattle.rr_eval.specs.Updating.{sent_first}
use Rattle.rr_eval.specs.Usual.{TakesNow, TakesTwo, ComesTo, GoesOnAsCall, IsAskedFor}
use Rattle.rr_eval.specs.View.{View}
use Rattle.rr_frames.specs.Frames.{list_of}
use Rattle.rr_eval.proofs.CallParts.{call_steps}
use Rattle.rr_eval.proofs.QuickParts.{argument_comes, part_comes, comes_then}
use Rattle.rr_eval.proofs.QuickSends.{comes_first}
use Rattle.rr_eval.proofs.Unwind.{given}

-- a call whose values are known is asked
pub asked_known : (p : Program) (m : View) (t : Table) (here steps : ℕ) (v : Ref) (vs : List Ref) (callee : Callee) (h : Course) → m.control ≡ Enter here
    → ComesTo p m t (rule (context_of p) (tree_at p.nodes.items here)) steps (finish (context_of p) (Call callee) (v ∷ vs)) → IsAskedFor (context_of p) t callee v → steps < m.left
    → remaining p m t h ≡ asking_with p m t (Calls v callee vs) h (m.left - (steps + 1))
asked_known p m t here steps v vs callee h at comes is less =
    let own = context_of p in
    let k = m.left - (steps + 1) in
    comes_first p m t here steps (finish own (Call callee) (v ∷ vs)) h at comes less
    ∙ ap (λ o. after_script p m t (joined_or_sent own o callee v vs) h k) is.joins
    ∙ ap (λ g. after_script p m t (dispatched own g callee None v vs) h k) is.method
    ∙ ap (λ g. after_script p m t (built_in own g callee None v vs) h k) is.makes

-- an operator that is a call is asked
pub operator_asked : (p : Program) (m : View) (t : Table) (op : BinaryOperator) (v w : Ref) (h : Course) (n : ℕ) → operation (context_of p) op v w ≡ send_rule (context_of p) (Operator op) None v (w ∷ []) → IsAskedFor (context_of p) t (Operator op) v
    → after_answer p m t (Right op v) (Gave w) h n ≡ asking_with p m t (Calls v (Operator op) (w ∷ [])) h n
operator_asked p m t op v w h n called is =
    let own = context_of p in
    ap (λ r. after_script p m t r h n) called
    ∙ ap (λ g. after_script p m t (dispatched own g (Operator op) None v (w ∷ [])) h n) is.method
    ∙ ap (λ g. after_script p m t (built_in own g (Operator op) None v (w ∷ [])) h n) is.makes

-- a call that comes first is asked
pub part_asked : (p : Program) (m : View) (t : Table) (callee : Callee) (v : Ref) (w : Option Ref) (h : Course) → m.control ≡ Send callee v w → 0 < m.left → ((u : Ref) (vs : List Ref) → part_called (context_of p) callee u vs ≡ send_rule (context_of p) callee None u vs) → IsAskedFor (context_of p) t callee v
    → remaining p m t h ≡ asking_with p m t (Calls v callee (list_of w)) h (m.left - 1)
part_asked p m t callee v w h at some sent is =
    let own = context_of p in
    let n = m.left - 1 in
    let one : m.left ≡ suc n = omega (arith, some) in
    call_steps p m t n callee v w at one h
    ∙ ap (λ r. after_script p m t r h n) (sent v (list_of w))
    ∙ ap (λ g. after_script p m t (dispatched own g callee None v (list_of w)) h n) is.method
    ∙ ap (λ g. after_script p m t (built_in own g callee None v (list_of w)) h n) is.makes

-- a call that assigns to an element, over its receiver and its index
pub put_waits : (p : Program) (m : View) (t : Table) (base : ℕ) (x v : Ref) (vs : List Ref) (callee : Callee) → joined_by (context_of p) t callee v ≡ None → v ∷ vs ≡ drop base m.held ++ x ∷ [] → GoesOnAsCall p m t (Put (Sent callee) base) x 0 callee v vs
put_waits p m t base x v vs callee none all = λ fs h n.
    let own = context_of p in
    let k = record m { frames = fs } in
    let zero : 0 + n ≡ n = omega arith in
    ap (λ i. after_answer p k t (Put (Sent callee) base) (Gave x) h i) zero
    ∙ ap (λ (l : List Ref). after_values p k t (Put (Sent callee) base) (sent_first own callee l) h n) (sym all)
    ∙ ap (λ o. after_values p k t (Put (Sent callee) base) (joined_or_sent own o callee v vs) h n) (sym none)

-- one part is evaluated
pub value_comes : (p : Program) (m : View) (t : Table) (script : Script) (a : Tree) (i : ℕ) (v : Ref) (next : Ref → Script) → script ≡ with_value a next → TakesNow p m t a i v → ComesTo p m t script i (next v)
value_comes p m t script a i v next is takes = λ h n.
    ap (λ r. runs_in (code_of p h.world) r (state_of p m t h) (i + n)) is
    ∙ part_comes p m t a i v (on_value next) takes h n

-- two parts are evaluated that are not spread
pub takes_values : (p : Program) (script : Script) (a b : Tree) (next : List Ref → Script) → script ≡ values (a ∷ b ∷ []) [] next → TakesTwo p script a b (λ v w. next (v ∷ w ∷ []))
takes_values p script a b next is = λ m t i j v w first second plain h n.
    ap (λ r. runs_in (code_of p h.world) r (state_of p m t h) (i + j + n)) is
    ∙ comes_then p m t (values (a ∷ b ∷ []) [] next) (values (b ∷ []) (v ∷ []) next) (next (v ∷ w ∷ [])) i j
    (part_comes p m t a i v (on_value (λ u. values (b ∷ []) (u ∷ []) next)) first)
    (part_comes p m t b j w (on_value (λ u. next (v ∷ u ∷ []))) second) h n

-- a receiver and one argument
pub takes_argument : (p : Program) (script : Script) (a : Tree) (first : ℕ) (next : List Ref → Script) → script ≡ with_value a (λ v. arguments (context_of p) (trees_before p.nodes.items (first + 1) 1) (v ∷ []) next)
    → TakesTwo p script a (tree_at p.nodes.items first) (λ v w. next (v ∷ w ∷ []))
takes_argument p script a first next is = λ m t i j v w takes second plain h n.
    let own = context_of p in
    let ns = p.nodes.items in
    let place : first ≡ first + 1 - 1 = omega arith in
    let last = argument_comes p m t (first + 1) 0 j w (v ∷ []) next (subst (λ k. is_splat (tree_at ns k) ≡ false) place plain) (subst (λ k. TakesNow p m t (tree_at ns k) j w) place second) in
    let rest = λ (u : Ref). arguments own (trees_before ns (first + 1) 1) (u ∷ []) next in
    ap (λ r. runs_in (code_of p h.world) r (state_of p m t h) (i + j + n)) is
    ∙ comes_then p m t (with_value a rest) (rest v) (next (v ∷ w ∷ [])) i j (part_comes p m t a i v (on_value rest) takes) last h n

-- three parts are evaluated
pub three_come : (p : Program) (m : View) (t : Table) (script : Script) (a b d : Tree) (i j k : ℕ) (v w x : Ref) (next : List Ref → Script) → script ≡ values (a ∷ b ∷ d ∷ []) [] next → TakesNow p m t a i v → TakesNow p m t b j w → TakesNow p m t d k x
    → ComesTo p m t script (i + j + k) (next (v ∷ w ∷ x ∷ []))
three_come p m t script a b d i j k v w x next is first second third = λ h n.
    let one = values (b ∷ d ∷ []) (v ∷ []) next in
    let two = values (d ∷ []) (v ∷ w ∷ []) next in
    ap (λ r. runs_in (code_of p h.world) r (state_of p m t h) (i + j + k + n)) is
    ∙ comes_then p m t (values (a ∷ b ∷ d ∷ []) [] next) two (next (v ∷ w ∷ x ∷ [])) (i + j) k
    (comes_then p m t (values (a ∷ b ∷ d ∷ []) [] next) one two i j (part_comes p m t a i v (on_value (λ u. values (b ∷ d ∷ []) (u ∷ []) next)) first) (part_comes p m t b j w (on_value (λ u. values (d ∷ []) (v ∷ u ∷ []) next)) second))
    (part_comes p m t d k x (on_value (λ u. next (v ∷ w ∷ u ∷ []))) third) h n

-- a call is asked in the place of the topmost frame
pub asked_standing : (p : Program) (m : View) (t : Table) (rest : List Frame) (held : List Ref) (f : Frame) (steps : ℕ) (v x : Ref) (vs : List Ref) (callee : Callee) (h : Course) → m.control ≡ Give (Gave x) → m.frames ≡ rest ++ f ∷ [] → held ≡ below_of f m.held → steps ≤ m.left
    → GoesOnAsCall p m t f x steps callee v vs → IsAskedFor (context_of p) t callee v
    → remaining p m t h ≡ asking_with p (record m { frames = rest; held = held }) t (Calls v callee vs) h (m.left - steps)
asked_standing p m t rest held f steps v x vs callee h at is below enough call asked =
    let own = context_of p in
    let code = code_of p h.world in
    let s = state_of p m t h in
    let n = m.left - steps in
    let all : m.left ≡ steps + n = omega (arith, enough) in
    let low = record m { frames = rest } in
    ap (λ k. outcome_of code m.frames m.held k s m.left) at
    ∙ ap (λ fs. outcome_of code fs m.held (Give (Gave x)) s m.left) is
    ∙ given code rest f m.held (Gave x) s m.left
    ∙ ap (λ i. after_answer p low t f (Gave x) h i) all
    ∙ call rest h n
    ∙ ap (λ o. after_values p low t f (joined_or_sent own o callee v vs) h n) asked.joins
    ∙ ap (λ g. after_values p low t f (dispatched own g callee None v vs) h n) asked.method
    ∙ ap (λ g. after_values p low t f (built_in own g callee None v vs) h n) asked.makes
    ∙ ap (λ (l : List Ref). asking_with p (record low { held = l }) t (Calls v callee vs) h n) (sym below)

-- the receiver of a call is there, and its one argument is evaluated
pub next_waits : (p : Program) (m : View) (t : Table) (end base place steps : ℕ) (v w : Ref) (callee : Callee) → place ≡ end - 1 → length m.held ≤ base → TakesNow p m t (tree_at p.nodes.items place) steps w
    → GoesOnAsCall p m t (Argument (Call callee) end 1 base) v steps callee v (w ∷ [])
next_waits p m t end base place steps v w callee at le takes = λ fs h n.
    let next = finish (context_of p) (Call callee) in
    let its = subst (λ i. TakesNow p m t (tree_at p.nodes.items i) steps w) at takes in
    let none : drop base m.held ≡ [] = drop_all base m.held le in
    let code = code_of p h.world in
    let k = record m { frames = fs } in
    ap (λ (l : List Ref). unwind code (reverse fs) (take base m.held) (runs_in code (values (trees_before p.nodes.items end 1) (l ++ v ∷ []) next) (state_of p k t h) (steps + n))) none
    ∙ ap (unwind code (reverse fs) (take base m.held)) (part_comes p k t (tree_at p.nodes.items (end - 1)) steps w (on_value (λ u. next (v ∷ u ∷ []))) its h n)

-- the last value of a call is there
pub last_waits : (p : Program) (m : View) (t : Table) (f : Frame) (base : ℕ) (x v : Ref) (vs : List Ref) (callee : Callee)
    → ((k : View) (h : Course) (n : ℕ) → after_answer p k t f (Gave x) h n ≡ after_values p k t f (finish (context_of p) (Call callee) (drop base k.held ++ x ∷ [])) h n)
    → v ∷ vs ≡ drop base m.held ++ x ∷ [] → GoesOnAsCall p m t f x 0 callee v vs
last_waits p m t f base x v vs callee waits all = λ fs h n.
    let k = record m { frames = fs } in
    let none : 0 + n ≡ n = omega arith in
    ap (λ i. after_answer p k t f (Gave x) h i) none
    ∙ waits k h n
    ∙ ap (λ (l : List Ref). after_values p k t f (finish (context_of p) (Call callee) l) h n) (sym all)
