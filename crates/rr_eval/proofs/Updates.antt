-- Assignments that also read.
use Rattle.std.proofs.Common.{◌≡◌, ◌∙◌, ◌+◌, ◌-◌, ◌<◌, ◌≤◌, ◌++◌, ℕ, refl, sym, ap, arith, Bool, true, false, not, List, [], ◌∷◌, length, take, drop, reverse, Option, Some, None}
use Rattle.std.proofs.lemmas.List.{take-append-le, drop-append-le}
use Rattle.rr_base.specs.declared.name.Sym.{Sym}
use Rattle.rr_frames.specs.Frames.{list_of}
use Rattle.rr_space.specs.declared.refer.Ref.{Ref}
use Rattle.rr_space.specs.Tables.{Table}
use Rattle.rr_tree.specs.Tree.{Tree, tree_at, constant, index, send}
use Rattle.rr_tree.specs.declared.node.Path.TheVariants.{Plain}
use Rattle.rr_tree.specs.declared.node.BinaryOperator.{BinaryOperator}
use Rattle.rr_tree.specs.declared.node.Node.{Node}
use Rattle.rr_tree.specs.declared.node.Node.TheVariants as nodes
use Rattle.rr_builtin.specs.Objects.{is_truthy}
use Rattle.rr_eval.specs.declared.call.Callee.{Callee}
use Rattle.rr_eval.specs.declared.call.Callee.TheVariants as callees
use Rattle.rr_eval.specs.declared.call.Target.TheVariants.{Update as UpdateTarget}
use Rattle.rr_eval.specs.declared.frame.Frame.{Frame}
use Rattle.rr_eval.specs.declared.frame.Frame.TheVariants.{Argument, Read}
use Rattle.rr_eval.specs.declared.updating.Updating.{Updating}
use Rattle.rr_eval.specs.Frames.{runs_in, resumed, stand_of, below_of, unwind}
use Rattle.rr_eval.specs.Turns.{context_of, code_of, state_of}
use Rattle.rr_tree.specs.declared.program.Program.{Program}
use Rattle.rr_eval.specs.declared.problem.Answer.TheVariants.{Gave}
use Rattle.rr_eval.specs.declared.problem.Problem.TheVariants.{NotHere}
use Rattle.rr_eval.specs.declared.updating.Place.{Place}
use Rattle.rr_eval.specs.declared.updating.Place.TheVariants as places
use Rattle.rr_eval.specs.declared.updating.Update.{Update}
use Rattle.rr_eval.specs.declared.updating.Update.TheVariants as updates
use Rattle.rr_eval.specs.Context.{Context}
use Rattle.rr_eval.specs.Basics.{on_value, with_value, values, not_here}
use Rattle.rr_eval.specs.Nodes.{evaluated_tree, IsEvaluated}
use Rattle.rr_eval.specs.Rules.{finish}
use Rattle.rr_eval.specs.Script.{State, World, Script, Evaluate, CallPart, Go, Ret}
use Rattle.rr_eval.specs.Updating.{sent_first, place_of, put, put_unless, updated, accessed, access_rule, operator_rule, update_rule, or_rule}
use Rattle.rr_eval.proofs.Keeping.{Keeps, on_value_keeps, settled_keeps, throw_keeps}
use Rattle.rr_eval.proofs.Dispatching.{send_keeps}
use Rattle.rr_eval.specs.Usual.{TakesNow, ComesTo}
use Rattle.rr_eval.specs.View.{View}
use Rattle.rr_eval.proofs.Mains.{set_global_keeps}
use Rattle.rr_eval.proofs.QuickParts.{part_comes}

-- they take no object away
sent_first_keeps : (c : Context) (callee : Callee) (vs : List Ref) → Keeps (sent_first c callee vs)
sent_first_keeps c callee [] = tt
sent_first_keeps c callee (v ∷ vs) = send_keeps c callee None v vs

pub put_keeps : (c : Context) (place : Place) (stand : List Ref) (v : Ref) → Keeps (put c place stand v)
put_keeps c (places.Variable x) stand v = (λ m. omega arith, tt)
put_keeps c (places.Field x) stand v = λ m. settled_keeps c
put_keeps c (places.Global x) stand v = set_global_keeps c x v
put_keeps c (places.Constant x) stand v = λ m. settled_keeps c
put_keeps c (places.Sent setter) stand v = sent_first_keeps c setter (stand ++ v ∷ [])

put_unless_keeps : (there : Bool) (b : Tree) (assign : Ref → Script) → ((v : Ref) → Keeps (assign v)) → (old : Ref) → Keeps (put_unless there b assign old)
put_unless_keeps true b assign kept old = tt
put_unless_keeps false b assign kept old = on_value_keeps assign kept

pub updated_keeps : (how : Update) (b : Tree) (assign : Ref → Script) → ((v : Ref) → Keeps (assign v)) → (old : Ref) → Keeps (updated how b assign old)
updated_keeps (updates.Combine callee) b assign kept old = on_value_keeps _ (λ w. on_value_keeps assign kept)
updated_keeps updates.Or b assign kept old = put_unless_keeps (is_truthy old) b assign kept old
updated_keeps updates.And b assign kept old = put_unless_keeps (not (is_truthy old)) b assign kept old

pub accessed_keeps : (c : Context) (getter setter : Callee) (how : Update) (b : Tree) (vs : List Ref) → Keeps (accessed c getter setter how b vs)
accessed_keeps c getter setter how b [] = throw_keeps c NotHere
accessed_keeps c getter setter how b (v ∷ []) = on_value_keeps _ (updated_keeps how b (put c (places.Sent setter) (v ∷ [])) (put_keeps c (places.Sent setter) (v ∷ [])))
accessed_keeps c getter setter how b (v ∷ i ∷ []) = on_value_keeps _ (updated_keeps how b (put c (places.Sent setter) (v ∷ i ∷ [])) (put_keeps c (places.Sent setter) (v ∷ i ∷ [])))
accessed_keeps c getter setter how b (v ∷ i ∷ j ∷ js) = throw_keeps c NotHere

values_keep : (c : Context) (getter setter : Callee) (how : Update) (b : Tree) (ts : List Tree) (stand : List Ref) → Keeps (values ts stand (accessed c getter setter how b))
values_keep c getter setter how b [] stand = accessed_keeps c getter setter how b stand
values_keep c getter setter how b (t ∷ ts) stand = on_value_keeps _ (λ v. values_keep c getter setter how b ts (stand ++ v ∷ []))

access_keeps : (c : Context) (how : Update) (a b : Tree) → Keeps (access_rule c how a b)
access_keeps c how (index a i) b = values_keep c callees.Index callees.SetIndex how b (a ∷ i ∷ []) []
access_keeps c how (send a x list) b = values_keep c (callees.Name (record { 0 = x })) (callees.Setter (record { 0 = x })) how b (a ∷ []) []
access_keeps c how _ b = throw_keeps c NotHere

pub operator_keeps : (c : Context) (op : BinaryOperator) (a b : Tree) (place : Option Place) → Keeps (operator_rule c op a b place)
operator_keeps c op a b (Some place) = on_value_keeps _ (put_keeps c place [])
operator_keeps c op a b None = access_keeps c (updates.Combine (callees.Operator op)) a b

pub update_keeps : (c : Context) (how : Update) (a b : Tree) (place : Option Place) → Keeps (update_rule c how a b place)
update_keeps c how a b (Some place) = on_value_keeps _ (updated_keeps how b (put c place []) (put_keeps c place []))
update_keeps c how a b None = access_keeps c how a b

-- the receiver, and the index where there is one
pub accessed_is : (c : Context) (getter setter : Callee) (how : Update) (b : Tree) (vs : List Ref) (v : Ref) (w : Option Ref) → vs ≡ v ∷ list_of w → accessed c getter setter how b vs ≡ Evaluate (CallPart getter v (list_of w)) (on_value (updated how b (put c (places.Sent setter) vs)))
accessed_is c getter setter how b vs v None is =
    ap (accessed c getter setter how b) is ∙ ap (λ l. Evaluate (CallPart getter v []) (on_value (updated how b (put c (places.Sent setter) l)))) (sym is)
accessed_is c getter setter how b vs v (Some w) is =
    ap (accessed c getter setter how b) is ∙ ap (λ l. Evaluate (CallPart getter v (w ∷ [])) (on_value (updated how b (put c (places.Sent setter) l)))) (sym is)

-- what is there is read for a frame that assigns, over the values that stand for a frame and one more
pub reads_over : (p : Program) (w : World) (fs : List Frame) (f : Frame) (u : Updating) (getter setter : Callee) (held all : List Ref) (value v : Ref) (i : Option Ref) (s : State) (n : ℕ)
    → u.place ≡ places.Sent setter → all ≡ held ++ value ∷ [] → u.base ≤ length held → drop u.base held ≡ stand_of f held → take u.base held ≡ below_of f held → stand_of f held ++ value ∷ [] ≡ v ∷ list_of i
    → unwind (code_of p w) (reverse fs) (below_of f held) (runs_in (code_of p w) (finish (context_of p) (UpdateTarget getter setter u.how u.value) (stand_of f held ++ value ∷ [])) s n)
    ≡ unwind (code_of p w) (reverse fs) (below_of (Read u) all) (runs_in (code_of p w) (Evaluate (CallPart getter v (list_of i)) (resumed (code_of p w) (Read u) (stand_of (Read u) all))) s n)
reads_over p w fs f u getter setter held all value v i s n at push le stand below are =
    let c = code_of p w in
    let tree = tree_at p.nodes.items u.value in
    let stands = stand_of f held ++ value ∷ [] in
    let under : below_of f held ≡ take u.base all = sym below ∙ sym (take-append-le u.base held (value ∷ []) le) ∙ ap (take u.base) (sym push) in
    let over : stands ≡ drop u.base all = ap (λ l. l ++ value ∷ []) (sym stand) ∙ sym (drop-append-le u.base held (value ∷ []) le) ∙ ap (drop u.base) (sym push) in
    let reading = λ (place : Place) (l : List Ref). runs_in c (Evaluate (CallPart getter v (list_of i)) (on_value (updated u.how tree (put (context_of p) place l)))) s n in
    ap (λ x. unwind c (reverse fs) (below_of f held) (runs_in c x s n)) (accessed_is (context_of p) getter setter u.how tree stands v i are)
    ∙ ap (λ l. unwind c (reverse fs) l (reading (places.Sent setter) stands)) under
    ∙ ap (λ l. unwind c (reverse fs) (take u.base all) (reading (places.Sent setter) l)) over
    ∙ ap (λ place. unwind c (reverse fs) (take u.base all) (reading place (drop u.base all))) (sym at)

pub accessed_else : (c : Context) (getter setter : Callee) (how : Update) (b : Tree) (vs : List Ref) → 2 < length vs → accessed c getter setter how b vs ≡ not_here c
accessed_else c getter setter how b [] more = absurd (omega (arith, more))
accessed_else c getter setter how b (v ∷ []) more = absurd (omega (arith, more))
accessed_else c getter setter how b (v ∷ i ∷ []) more = absurd (omega (arith, more))
accessed_else c getter setter how b (v ∷ i ∷ j ∷ js) more = refl

-- the receiver of an element or an attribute comes first
pub index_accessed : (p : Program) (w : World) (how : Update) (a i value base : ℕ) → access_rule (context_of p) how (evaluated_tree p.nodes.items (nodes.Index a i)) (tree_at p.nodes.items value) ≡ Go (tree_at p.nodes.items a) (resumed (code_of p w) (Argument (UpdateTarget callees.Index callees.SetIndex how value) (i + 1) 1 base) [])
index_accessed p w how a i value base =
    let ns = p.nodes.items in
    let e : i + 1 - 1 ≡ i = omega arith in
    ap (λ k. with_value (tree_at ns a) (λ v. values (tree_at ns k ∷ []) (v ∷ []) (accessed (context_of p) callees.Index callees.SetIndex how (tree_at ns value)))) (sym e)

pub attribute_accessed : (p : Program) (w : World) (how : Update) (a : ℕ) (x : Sym) (first count site value base : ℕ) (n : Node) → n ≡ nodes.Send a x first count site → access_rule (context_of p) how (evaluated_tree p.nodes.items n) (tree_at p.nodes.items value) ≡ Go (tree_at p.nodes.items a) (resumed (code_of p w) (Argument (UpdateTarget (callees.Name x) (callees.Setter x) how value) 0 0 base) [])
attribute_accessed p w how a x first count site value base n is = ap (λ m. access_rule (context_of p) how (evaluated_tree p.nodes.items m) (tree_at p.nodes.items value)) is

-- no other target is assigned to yet
pub no_access : (ns : List Node) (c : Context) (how : Update) (n : Node) (b : Tree) → ((x0 x1 : ℕ) → n ≡ nodes.Index x0 x1 → ⊥) → ((x0 : ℕ) (x1 : Sym) (x2 x3 x4 : ℕ) → n ≡ nodes.Send x0 x1 x2 x3 x4 → ⊥) → IsEvaluated n → access_rule c how (evaluated_tree ns n) b ≡ not_here c
no_access ns c how (nodes.Index x0 x1) b no_index no_send used = absurd (no_index x0 x1 refl)
no_access ns c how (nodes.Send x0 x1 x2 x3 x4) b no_index no_send used = absurd (no_send x0 x1 x2 x3 x4 refl)
no_access ns c how (nodes.Item x0) b no_index no_send used = absurd used
no_access ns c how _ b no_index no_send used = refl

abbrev placed : Place → Option Place → Place
placed other None = other
placed other (Some place) = place

-- a variable that is true stays, as `||=` leaves it
or_is : (c : Context) (a b : Tree) (place : Place) → place_of a ≡ Some place → ((x : Sym) → place ≡ places.Constant x → ⊥) → or_rule c a b ≡ with_value a (updated updates.Or b (put c place []))
or_is c (constant (Plain x)) b place is other = absurd (other x (sym (ap (placed place) is)))
or_is c a b place is other = ap (update_rule c updates.Or a b) is

pub or_leaves : (p : Program) (m : View) (t : Table) (a b : Tree) (place : Place) (script : Script) (steps : ℕ) (v : Ref) → script ≡ or_rule (context_of p) a b → place_of a ≡ Some place → ((x : Sym) → place ≡ places.Constant x → ⊥)
    → TakesNow p m t a steps v → is_truthy v ≡ true → ComesTo p m t script steps (Ret (Gave v))
or_leaves p m t a b place script steps v is known other takes truthy = λ h n.
    let own = context_of p in
    let code = code_of p h.world in
    let assign = put own place [] in
    ap (λ r. runs_in code r (state_of p m t h) (steps + n)) (is ∙ or_is own a b place known other)
    ∙ part_comes p m t a steps v (on_value (updated updates.Or b assign)) takes h n
    ∙ ap (λ there. runs_in code (put_unless there b assign v) (state_of p m t h) n) truthy
