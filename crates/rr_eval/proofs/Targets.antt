-- Several targets get their values.
use Rattle.std.proofs.Common.{◌≡◌, ℕ, zero, suc, ◌+◌, ◌-◌, ◌<◌, ◌≤◌, ◌⊎◌, inl, inr, ◌∙◌, sym, ap, refl, arith, List, [], ◌∷◌, ◌++◌, length, drop, slice_index_or, Option, Some, None}
use Rattle.std.proofs.lemmas.List.{drop-drop}
use Rattle.rr_frames.specs.Frames.{Stack}
use Rattle.rr_space.specs.declared.refer.Ref.{Ref}
use Rattle.rr_space.specs.declared.refer.Ref.TheVariants.{Nil}
use Rattle.rr_tree.specs.Nodes.{trees_before}
use Rattle.rr_tree.specs.Tree.{Tree, tree_at, send, index}
use Rattle.rr_tree.specs.declared.node.Node.{Node}
use Rattle.rr_tree.specs.declared.node.Node.TheVariants as nodes
use Rattle.rr_eval.specs.declared.call.Callee.TheVariants as callees
use Rattle.rr_eval.specs.declared.call_stack.Variable.{Variable}
use Rattle.rr_eval.specs.declared.problem.Problem.TheVariants.{NotHere}
use Rattle.rr_eval.specs.declared.spot.Spot.{Spot}
use Rattle.rr_eval.specs.declared.spot.Spot.TheVariants as spots
use Rattle.rr_eval.specs.Basics.{on_value, values, with_value, variable_of}
use Rattle.rr_eval.specs.Context.{Context}
use Rattle.rr_eval.specs.Frames.{Code, runs_in}
use Rattle.rr_eval.specs.Nodes.{evaluated_tree}
use Rattle.rr_eval.specs.Rules.{rule, not_here}
use Rattle.rr_eval.specs.Script.{State, Script, Evaluate, AssignPart}
use Rattle.rr_eval.specs.Several.{right_values, parts_of, all_parts, spot_of, put_in, assign_to, next_value, assign_each, several, several_rule}
use Rattle.rr_eval.specs.Variables.{write_variable}
use Rattle.rr_eval.proofs.Dispatching.{send_keeps}
use Rattle.rr_eval.proofs.Invoking.{stack_is}
use Rattle.rr_eval.proofs.Mains.{set_global_keeps}
use Rattle.rr_eval.proofs.Keeping.{Keeps, on_value_keeps, settled_keeps, to_given_keeps, throw_keeps}
use Rattle.rr_eval.proofs.Trees.{items_listed}

-- no object goes
pub put_in_keeps : (c : Context) (spot : Spot) (v : Ref) → Keeps (put_in c spot v)
put_in_keeps c (spots.Field x) v = λ m. settled_keeps c
put_in_keeps c (spots.Global x) v = set_global_keeps c x v
put_in_keeps c (spots.Constant x) v = λ m. settled_keeps c
put_in_keeps c (spots.Attribute x r) v = send_keeps c (callees.Setter x) None r (v ∷ [])
put_in_keeps c (spots.Element r i) v = send_keeps c callees.SetIndex None r (i ∷ v ∷ [])

to_keeps : (c : Context) (x : Option Variable) (spot : Option Spot) (v : Ref) (next : Script) → Keeps next → Keeps (assign_to c x spot v next)
to_keeps c (Some x) spot v next kept = (λ m. omega arith, kept)
to_keeps c None (Some spot) v next kept = on_value_keeps (λ w. next) (λ w. kept)
to_keeps c None None v next kept = throw_keeps c NotHere

pub each_keeps : (c : Context) (ts : List Tree) (ps vs : List Ref) (right : Ref) → Keeps (assign_each c ts ps vs right)
each_keeps c [] ps vs right = tt
each_keeps c (t ∷ ts) ps vs right =
    let rest = drop (length (parts_of t)) ps in
    to_keeps c (variable_of t) (spot_of t ps) (next_value vs) (assign_each c ts rest (drop 1 vs) right) (each_keeps c ts rest (drop 1 vs) right)

pub several_keeps : (c : Context) (ts : List Tree) (ps : List Ref) (v : Ref) → Keeps (several c ts ps v)
several_keeps c ts ps v = λ m. to_given_keeps c (right_values m.table v) _ (λ vs. each_keeps c ts ps vs v)

pub aimed_keeps : (c : Context) (ts : List Tree) (a : Tree) (parts : List Tree) (stand : List Ref) → Keeps (values parts stand (λ ps. with_value a (several c ts ps)))
aimed_keeps c ts a [] stand = on_value_keeps _ (several_keeps c ts stand)
aimed_keeps c ts a (part ∷ parts) stand = on_value_keeps _ (λ v. aimed_keeps c ts a parts (stand ++ v ∷ []))

-- the targets are a list
pub several_is : (ns : List Node) (c : Context) (first count a : ℕ) → several_rule c (trees_before ns (first + count) count) (tree_at ns a) ≡ rule c (evaluated_tree ns (nodes.MultipleAssign first count a))
several_is ns c first count a = ap (λ ts. several_rule c ts (tree_at ns a)) (sym (items_listed (trees_before ns (first + count) count)))

-- the parts of the first of several targets stand before those of the others
pub parts_next : (ns : List Node) (end place left : ℕ) (ts : List Tree) → 0 < left → place ≡ end - left → parts_of (tree_at ns place) ≡ ts → all_parts (trees_before ns end left) ≡ ts ++ all_parts (trees_before ns end (left - 1))
parts_next ns end place zero ts some at are = absurd (omega arith)
parts_next ns end place (suc more) ts some at are =
    let k : suc more - 1 ≡ more = omega arith in
    ap (λ l. l ++ all_parts (trees_before ns end more)) (ap (λ p. parts_of (tree_at ns p)) (sym at) ∙ are)
    ∙ ap (λ m. ts ++ all_parts (trees_before ns end m)) (sym k)

-- a local variable has no parts
no_parts : (t : Tree) (x : Variable) → variable_of t ≡ Some x → parts_of t ≡ []
no_parts (send a x list) v is = absurd (cc is)
no_parts (index a i) v is = absurd (cc is)
no_parts _ v is = refl

-- the first of several targets gets its value
abbrev pub with_calls : State → Stack → State
with_calls s calls = record s { memory = record s.memory { calls = calls } }

pub variable_assigned : (c : Code) (end place left : ℕ) (ps vs rest : List Ref) (right v : Ref) (x : Variable) (old new : Stack) (s : State) (n : ℕ) → 0 < left → place ≡ end - left → Some x ≡ variable_of (tree_at c.nodes place)
    → v ≡ next_value vs → rest ≡ drop 1 vs → new.frames ≡ write_variable x v old.frames → new.limit ≡ old.limit
    → runs_in c (assign_each c.context (trees_before c.nodes end left) ps vs right) (with_calls s old) n ≡ runs_in c (assign_each c.context (trees_before c.nodes end (left - 1)) ps rest right) (with_calls s new) n
variable_assigned c end place zero ps vs rest right v x old new s n some at is value behind frames limit = absurd (omega arith)
variable_assigned c end place (suc more) ps vs rest right v x old new s n some at is value behind frames limit =
    let k : suc more - 1 ≡ more = omega arith in
    let t = tree_at c.nodes (end - suc more) in
    let known : variable_of t ≡ Some x = ap (λ p. variable_of (tree_at c.nodes p)) (sym at) ∙ sym is in
    let next = λ (qs : List Ref). assign_each c.context (trees_before c.nodes end more) qs (drop 1 vs) right in
    let own = drop (length (parts_of t)) ps in
    let written : new.frames ≡ write_variable x (next_value vs) old.frames = frames ∙ ap (λ w. write_variable x w old.frames) value in
    ap (λ o. runs_in c (assign_to c.context o (spot_of t ps) (next_value vs) (next own)) (with_calls s old) n) known
    ∙ ap (λ calls. runs_in c (next own) (with_calls s calls) n) (sym (stack_is new (write_variable x (next_value vs) old.frames) old.limit written limit))
    ∙ ap (λ l. runs_in c (next (drop (length l) ps)) (with_calls s new) n) (no_parts t x known)
    ∙ ap (λ l. runs_in c (assign_each c.context (trees_before c.nodes end more) ps l right) (with_calls s new) n) (sym behind)
    ∙ ap (λ m. runs_in c (assign_each c.context (trees_before c.nodes end m) ps rest right) (with_calls s new) n) (sym k)

-- any other target that is known is a step
pub spot_assigned : (c : Code) (end place left : ℕ) (ps vs : List Ref) (right : Ref) (spot : Spot) (s : State) (n : ℕ) → 0 < left → place ≡ end - left → variable_of (tree_at c.nodes place) ≡ None → spot_of (tree_at c.nodes place) ps ≡ Some spot
    → runs_in c (assign_each c.context (trees_before c.nodes end left) ps vs right) s n
    ≡ runs_in c (Evaluate (AssignPart spot (next_value vs)) (on_value (λ w. assign_each c.context (trees_before c.nodes end (left - 1)) (drop (length (parts_of (tree_at c.nodes place))) ps) (drop 1 vs) right))) s n
spot_assigned c end place zero ps vs right spot s n some at other is = absurd (omega arith)
spot_assigned c end place (suc more) ps vs right spot s n some at other is =
    let k : suc more - 1 ≡ more = omega arith in
    let here = λ (p : ℕ). tree_at c.nodes p in
    let next = λ (m p : ℕ). assign_each c.context (trees_before c.nodes end m) (drop (length (parts_of (here p))) ps) (drop 1 vs) right in
    ap (λ p. runs_in c (assign_to c.context (variable_of (here p)) (spot_of (here p) ps) (next_value vs) (next more p)) s n) (sym at)
    ∙ ap (λ o. runs_in c (assign_to c.context o (spot_of (here place) ps) (next_value vs) (next more place)) s n) other
    ∙ ap (λ o. runs_in c (assign_to c.context None o (next_value vs) (next more place)) s n) is
    ∙ ap (λ m. runs_in c (Evaluate (AssignPart spot (next_value vs)) (on_value (λ w. next m place))) s n) (sym k)

pub none_assigned : (c : Code) (end place left : ℕ) (ps vs : List Ref) (right : Ref) (s : State) (n : ℕ) → 0 < left → place ≡ end - left → variable_of (tree_at c.nodes place) ≡ None → spot_of (tree_at c.nodes place) ps ≡ None
    → runs_in c (assign_each c.context (trees_before c.nodes end left) ps vs right) s n ≡ runs_in c (not_here c.context) s n
none_assigned c end place zero ps vs right s n some at other is = absurd (omega arith)
none_assigned c end place (suc more) ps vs right s n some at other is =
    let here = λ (p : ℕ). tree_at c.nodes p in
    let next = λ (p : ℕ). assign_each c.context (trees_before c.nodes end more) (drop (length (parts_of (here p))) ps) (drop 1 vs) right in
    ap (λ p. runs_in c (assign_to c.context (variable_of (here p)) (spot_of (here p) ps) (next_value vs) (next p)) s n) (sym at)
    ∙ ap (λ o. runs_in c (assign_to c.context o (spot_of (here place) ps) (next_value vs) (next place)) s n) other
    ∙ ap (λ o. runs_in c (assign_to c.context None o (next_value vs) (next place)) s n) is

-- the value at a place is the next one of those from there on
pub next_at : (vs : List Ref) (place : ℕ) → slice_index_or vs place Nil ≡ next_value (drop place vs)
next_at [] zero = refl
next_at [] (suc place) = refl
next_at (v ∷ vs) zero = refl
next_at (v ∷ vs) (suc place) = next_at vs place

-- the values from the next place on
pub behind_next : (vs : List Ref) (place : ℕ) → drop (place + 1) vs ≡ drop 1 (drop place vs)
behind_next vs place = sym (drop-drop 1 place vs)

-- where each target behind one is a variable, and that one is too
pub variables_more : (ns : List Node) (end left count k place : ℕ) (x : Variable) → place ≡ end - left → variable_of (tree_at ns place) ≡ Some x → ((j : ℕ) → left < j → j ≤ count → variable_of (tree_at ns (end - j)) ≡ None → ⊥)
    → (left ≡ k) ⊎ (left < k) → k ≤ count → variable_of (tree_at ns (end - k)) ≡ None → ⊥
variables_more ns end left count k place x at is others (inl same) le none = cc (sym is ∙ ap (λ i. variable_of (tree_at ns i)) (at ∙ ap (λ j. end - j) same) ∙ none)
variables_more ns end left count k place x at is others (inr less) le none = others k less le none

-- none is left that is no variable
pub none_left : (n : ℕ) → (0 < n → ⊥) → n ≡ 0
none_left zero never = refl
none_left (suc n) never = absurd (never (omega arith))
