-- What the frames of the machine stand for.
use Rattle.std.specs.Prelude.{◌≡◌, ℕ, suc, ◌-◌, ◌≤◌, List, [], ◌∷◌, ◌++◌, if◌then◌else◌, not, length, take, drop, slice_index_or, reverse, Option, Some, None, ◌+◌}
use Rattle.rr_frames.specs.Frames.{list_of}
use Rattle.rr_parser.specs.Grammar.Names.{is_splat}
use Rattle.rr_space.specs.Parts.{truth_ref}
use Rattle.rr_space.specs.declared.refer.Ref.{Ref}
use Rattle.rr_space.specs.declared.refer.Ref.TheVariants.{Nil}
use Rattle.rr_tree.specs.Tree.{Tree, binary, tree_at}
use Rattle.rr_tree.specs.declared.node.Node.{Node}
use Rattle.rr_eval.specs.declared.call.Callee.TheVariants.{SetIndex}
use Rattle.rr_eval.specs.declared.call_stack.CallValue.TheVariants.{Method}
use Rattle.rr_eval.specs.declared.call_stack.Entry.{Entry}
use Rattle.rr_eval.specs.declared.call_stack.Entry.TheVariants.{OfMethod, OfBlock}
use Rattle.rr_eval.specs.declared.call.Target.TheVariants.{Do as DoTarget, Call}
use Rattle.rr_eval.specs.declared.call.Task.TheVariants.{MakeHash}
use Rattle.rr_eval.specs.declared.problem.Answer.{Answer}
use Rattle.rr_eval.specs.declared.problem.Answer.TheVariants.{Gave, Broke, Done}
use Rattle.rr_eval.specs.declared.frame.Frame.{Frame}
use Rattle.rr_eval.specs.declared.frame.Trial.{Trial}
use Rattle.rr_eval.specs.declared.frame.Frame.TheVariants.{Not, Negation, And, Or, Left, Right, Store, SetField, Branch, Condition, Body, Break, Next, Return, Back, Past, Rest, Argument, Key, Value, Element, Read, Combine, Put, Rescue, Class, Handling, Ensure, Kept, Round, Turned, Paired, Initialize, Receiver, Item, Aim, Several, Assigned, Asking as AskingFrame, Asked as AskedFrame}
use Rattle.rr_eval.specs.declared.frame.Control.{Control}
use Rattle.rr_eval.specs.declared.frame.Control.TheVariants.{Enter, Operate, Give, Throw, Raise, RaiseValue, Start, New, Pair, Send, Assign}
use Rattle.rr_eval.specs.declared.iterating.Iterating.{Iterating}
use Rattle.std.specs.Option.{option_map}
use Rattle.rr_eval.specs.Dispatch.{making, initialized, initializer, passed_on}
use Rattle.rr_eval.specs.Iterating.{continued_with, turned, array_turn}
use Rattle.rr_eval.specs.Pairs.{paired}
use Rattle.rr_eval.specs.Script.{State, Iterated, Script, Ret, Evaluate, Go, CallPart, AssignPart, World, Evaluation, Outcome, Ended, run, after}
use Rattle.rr_builtin.specs.Objects.{is_truthy}
use Rattle.rr_eval.specs.Fields.{set_field_rule}
use Rattle.rr_eval.specs.Starting.{start_rule}
use Rattle.rr_eval.specs.Updating.{put, updated}
use Rattle.rr_eval.specs.Rules.{Context, throw, raise, on_value, with_value, in_loop, turn_rule, operation, negation, write, statements, values, pair_parts, finish, back, past, return_rule, concluded, meaning_of, meaning, spread, arguments}
use Rattle.rr_eval.specs.Bound.{bind}
use Rattle.rr_eval.specs.Speaking.{heard, asked_on}
use Rattle.rr_eval.specs.Raising.{raise_value}
use Rattle.rr_eval.specs.Several.{all_parts, several, assign_each}
use Rattle.rr_eval.specs.Rescuing.{taken_by, restored, fitted, tried_classes, tried, rescue_rule, ensure_rule}
use Rattle.rr_tree.specs.Nodes.{trees_before}

-- a program: its nodes, what its trees refer to, and the environment that it runs in
pub record Code : Type 0 where
  pub nodes : List Node
  pub context : Context
  pub world : World

-- what parts, trees and scripts of a program do
abbrev pub evaluates : Code → Evaluation
evaluates c = meaning_of c.context c.world

abbrev pub means : Code → Tree → State → ℕ → Outcome
means c = meaning c.context c.world

abbrev pub runs_in : Code → Script → State → ℕ → Outcome
runs_in c = run c.world (evaluates c)

-- an iteration of a program, by the values that stand for it
abbrev pub iterated : Code → Iterating → List Ref → Iterated
iterated c i stand = record { visits = i.visits; stand = stand; block = tree_at c.nodes i.block }

-- a class of a clause: the clause takes the exception, or what stands behind the class is tried
abbrev pub taker : Code → Trial → Script
taker c r = taken_by (tree_at c.nodes (r.end - suc r.clauses)) r.exception

abbrev pub behind_class : Code → Trial → Script
behind_class c r = tried_classes c.context r.exception (trees_before c.nodes r.last r.classes) (taker c r) (tried c.context r.exception (trees_before c.nodes r.end r.clauses))

-- the tree of a node, where there is one
abbrev pub option_trees : List Node → Option ℕ → List Tree
option_trees ns None = []
option_trees ns (Some part) = tree_at ns part ∷ []

-- what a frame does with the answer that it waits for; `stand` are the values that stand for it
abbrev pub resumed : Code → Frame → List Ref → Answer → Script
resumed c Not stand = on_value (λ v. Ret (Gave (truth_ref (not (is_truthy v)))))
resumed c (And b) stand = on_value (λ v. if is_truthy v then Go (tree_at c.nodes b) Ret else Ret (Gave v))
resumed c (Or b) stand = on_value (λ v. if is_truthy v then Ret (Gave v) else Go (tree_at c.nodes b) Ret)
resumed c Negation stand = on_value (negation c.context)
resumed c (Left op b) stand = on_value (λ v. with_value (tree_at c.nodes b) (operation c.context op v))
resumed c (Right op v) stand = on_value (operation c.context op v)
resumed c (Store x) stand = on_value (λ v. write x v)
resumed c (SetField x) stand = on_value (set_field_rule c.context x)
resumed c (Branch b d) stand = on_value (λ v. Go (if is_truthy v then tree_at c.nodes b else tree_at c.nodes d) Ret)
resumed c (Condition until body loop) stand = in_loop (Go (tree_at c.nodes loop) Ret) (turn_rule until (tree_at c.nodes body) (Go (tree_at c.nodes loop) Ret))
resumed c (Body loop) stand = in_loop (Go (tree_at c.nodes loop) Ret) (λ w. Go (tree_at c.nodes loop) Ret)
resumed c Break stand = on_value (λ v. Ret (Broke v))
resumed c Next stand = on_value (λ v. Ret (Done v))
resumed c Return stand = on_value (return_rule c.context)
resumed c (Back by) stand = back by
resumed c Past stand = past c.context
resumed c (Rest end count) stand = on_value (λ v. statements (trees_before c.nodes end count))
resumed c (Argument target end count base) stand = on_value (λ v. values (trees_before c.nodes end count) (stand ++ v ∷ []) (finish c.context target))
resumed c (Receiver target end count base) stand = on_value (λ v. arguments c.context (trees_before c.nodes end count) (stand ++ v ∷ []) (finish c.context target))
resumed c (Item target end count base) stand = on_value (λ v. spread c.context (is_splat (tree_at c.nodes (end - suc count))) v (λ ws. arguments c.context (trees_before c.nodes end count) (stand ++ ws) (finish c.context target)))
resumed c (Aim x) stand = on_value (λ v. values (option_trees c.nodes x.index ++ all_parts (trees_before c.nodes x.end x.left)) (stand ++ v ∷ []) (λ ps. with_value (tree_at c.nodes x.value) (several c.context (trees_before c.nodes x.end x.count) ps)))
resumed c (Several end count base) stand = on_value (several c.context (trees_before c.nodes end count) stand)
resumed c (Assigned x) stand = on_value (λ w. assign_each c.context (trees_before c.nodes x.end x.left) (drop x.used (take x.parts stand)) (drop x.place stand) (slice_index_or stand x.parts Nil))
resumed c (Key next end count base) stand = on_value (λ v. values (tree_at c.nodes next ∷ pair_parts (trees_before c.nodes end count)) (stand ++ v ∷ []) (finish c.context (DoTarget MakeHash)))
resumed c (Value end count base) stand = on_value (λ v. values (pair_parts (trees_before c.nodes end count)) (stand ++ v ∷ []) (finish c.context (DoTarget MakeHash)))
resumed c (AskingFrame a) stand = λ answer. bind (back Method answer) (heard (asked_on c.context a stand))
resumed c (AskedFrame a) stand = heard (asked_on c.context a stand)
resumed c (Element b end) stand = on_value (λ v. values (tree_at c.nodes b ∷ trees_before c.nodes end 1) (v ∷ []) (finish c.context (Call SetIndex)))
resumed c (Read u) stand = on_value (updated u.how (tree_at c.nodes u.value) (put c.context u.place stand))
resumed c (Combine x) stand = on_value (λ w. Evaluate (CallPart x.callee x.old (w ∷ [])) (on_value (put c.context x.place stand)))
resumed c (Put place base) stand = on_value (put c.context place stand)
resumed c (Rescue end count otherwise) stand = rescue_rule c.context (trees_before c.nodes end count) (tree_at c.nodes otherwise)
resumed c (Class r) stand = on_value (λ v. fitted c.context r.exception v (taker c r) (behind_class c r))
resumed c (Handling old) stand = restored old
resumed c (Ensure part) stand = ensure_rule (tree_at c.nodes part)
resumed c (Kept a) stand = on_value (λ v. Ret a)
resumed c (Round i) stand = turned c.context (iterated c i stand)
resumed c (Turned i) stand = on_value (λ v. continued_with c.context (iterated c i stand) v)
resumed c (Paired i) stand = on_value (array_turn c.context (iterated c i stand))
resumed c (Initialize x) stand = on_value (λ v. initialized c.context x.raises (initializer c.context x.class) (option_map (tree_at c.nodes) x.block) v (passed_on x.passing stand))

-- the frame that waits for the answer of a body that has a frame of its own
abbrev pub waits_for : Entry → Frame
waits_for (OfMethod call) = Back call.value
waits_for (OfBlock home) = Past

-- the values that stand for a frame, and those below
abbrev pub stand_of : Frame → List Ref → List Ref
stand_of (Argument target end count base) held = drop base held
stand_of (Receiver target end count base) held = drop base held
stand_of (Item target end count base) held = drop base held
stand_of (Aim x) held = drop x.base held
stand_of (Several end count base) held = drop base held
stand_of (Assigned x) held = drop x.base held
stand_of (Key next end count base) held = drop base held
stand_of (Value end count base) held = drop base held
stand_of (AskingFrame a) held = drop a.base held
stand_of (AskedFrame a) held = drop a.base held
stand_of (Read u) held = drop u.base held
stand_of (Combine x) held = drop x.base held
stand_of (Put place base) held = drop base held
stand_of (Round i) held = drop i.base held
stand_of (Turned i) held = drop i.base held
stand_of (Paired i) held = drop i.base held
stand_of (Initialize x) held = drop x.base held
stand_of _ held = []

abbrev pub below_of : Frame → List Ref → List Ref
below_of (Argument target end count base) held = take base held
below_of (Receiver target end count base) held = take base held
below_of (Item target end count base) held = take base held
below_of (Aim x) held = take x.base held
below_of (Several end count base) held = take base held
below_of (Assigned x) held = take x.base held
below_of (Key next end count base) held = take base held
below_of (Value end count base) held = take base held
below_of (AskingFrame a) held = take a.base held
below_of (AskedFrame a) held = take a.base held
below_of (Read u) held = take u.base held
below_of (Combine x) held = take x.base held
below_of (Put place base) held = take base held
below_of (Round i) held = take i.base held
below_of (Turned i) held = take i.base held
below_of (Paired i) held = take i.base held
below_of (Initialize x) held = take x.base held
below_of _ held = held

-- a new frame has no values yet
abbrev pub IsNew : Frame → ℕ → Type 0
IsNew (Argument target end count base) n = base ≡ n
IsNew (Receiver target end count base) n = base ≡ n
IsNew (Item target end count base) n = base ≡ n
IsNew (Aim x) n = x.base ≡ n
IsNew (Several end count base) n = base ≡ n
-- targets that get values have them
IsNew (Assigned x) n = ⊥
IsNew (Key next end count base) n = base ≡ n
IsNew (Value end count base) n = base ≡ n
-- one that asks has values
IsNew (AskingFrame a) n = ⊥
IsNew (AskedFrame a) n = ⊥
IsNew (Read u) n = u.base ≡ n
IsNew (Combine x) n = x.base ≡ n
IsNew (Put place base) n = base ≡ n
IsNew (Round i) n = i.base ≡ n
IsNew (Turned i) n = i.base ≡ n
IsNew (Paired i) n = i.base ≡ n
IsNew (Initialize x) n = x.base ≡ n
IsNew _ n = Unit {0}

-- what the frames, the topmost first, do with an outcome, and what comes after all of them
abbrev pub unwind : Code → List Frame → List Ref → Outcome → Outcome
unwind c [] held o = concluded o
unwind c (f ∷ fs) held o = unwind c fs (below_of f held) (after o (λ a. runs_in c (resumed c f (stand_of f held) a)))

-- where a frame's values begin
abbrev pub base_of : Frame → ℕ
base_of (Argument target end count base) = base
base_of (Receiver target end count base) = base
base_of (Item target end count base) = base
base_of (Aim x) = x.base
base_of (Several end count base) = base
-- with those of the parts of targets
base_of (Assigned x) = x.base + x.parts
base_of (Key next end count base) = base
base_of (Value end count base) = base
-- with those that are asked
base_of (AskingFrame a) = a.base + a.count
base_of (AskedFrame a) = a.base + a.count
base_of (Read u) = u.base
base_of (Combine x) = x.base
base_of (Put place base) = base
base_of (Round i) = i.base
base_of (Turned i) = i.base
base_of (Paired i) = i.base
base_of (Initialize x) = x.base
base_of _ = 0

-- each frame's values begin within those that its upper frames leave
abbrev pub Nested : List Frame → List Ref → Type 0
Nested [] held = Unit {0}
Nested (f ∷ fs) held = (base_of f ≤ length held) × Nested fs (below_of f held)

-- a frame that may need the objects or memory for its value
abbrev pub IsRareFrame : Frame → Type 0
IsRareFrame Negation = Unit {0}
IsRareFrame (Right op w) = Unit {0}
IsRareFrame (SetField x) = Unit {0}
IsRareFrame (Argument target end count base) = Unit {0}
IsRareFrame (Receiver target end count base) = Unit {0}
IsRareFrame (Item target end count base) = Unit {0}
IsRareFrame (Aim x) = Unit {0}
IsRareFrame (Several end count base) = Unit {0}
IsRareFrame (Assigned x) = Unit {0}
IsRareFrame (Key next end count base) = Unit {0}
IsRareFrame (Value end count base) = Unit {0}
IsRareFrame (AskingFrame a) = Unit {0}
IsRareFrame (AskedFrame a) = Unit {0}
IsRareFrame (Element b end) = Unit {0}
IsRareFrame (Read u) = Unit {0}
IsRareFrame (Combine x) = Unit {0}
IsRareFrame (Put place base) = Unit {0}
IsRareFrame (Rescue end count otherwise) = Unit {0}
IsRareFrame (Class r) = Unit {0}
IsRareFrame (Handling old) = Unit {0}
IsRareFrame (Ensure part) = Unit {0}
IsRareFrame (Kept a) = Unit {0}
IsRareFrame (Round i) = Unit {0}
IsRareFrame (Turned i) = Unit {0}
IsRareFrame (Paired i) = Unit {0}
IsRareFrame (Initialize x) = Unit {0}
IsRareFrame _ = ⊥

-- one of these frames that asks nothing for its value
abbrev pub IsAloneFrame : Frame → Type 0
IsAloneFrame (Aim x) = Unit {0}
IsAloneFrame (Several end count base) = Unit {0}
IsAloneFrame (Assigned x) = Unit {0}
IsAloneFrame (Read u) = Unit {0}
IsAloneFrame (Combine x) = Unit {0}
IsAloneFrame (Rescue end count otherwise) = Unit {0}
IsAloneFrame (Class r) = Unit {0}
IsAloneFrame (Handling old) = Unit {0}
IsAloneFrame (Ensure part) = Unit {0}
IsAloneFrame (Kept a) = Unit {0}
IsAloneFrame (Paired i) = Unit {0}
IsAloneFrame (Initialize x) = Unit {0}
IsAloneFrame _ = ⊥

-- and that takes no memory for it
abbrev pub IsQuietFrame : Frame → Type 0
IsQuietFrame (Assigned x) = Unit {0}
IsQuietFrame (Read u) = Unit {0}
IsQuietFrame (Combine x) = Unit {0}
IsQuietFrame (Rescue end count otherwise) = Unit {0}
IsQuietFrame (Class r) = Unit {0}
IsQuietFrame (Handling old) = Unit {0}
IsQuietFrame (Ensure part) = Unit {0}
IsQuietFrame (Kept a) = Unit {0}
IsQuietFrame _ = ⊥

-- what comes first
abbrev pub start : Code → Control → State → ℕ → Outcome
start c (Enter part) s n = means c (tree_at c.nodes part) s n
start c (Operate op a b) s n = means c (binary op (tree_at c.nodes a) (tree_at c.nodes b)) s n
start c (Give a) s n = Ended a s n
start c (Throw e) s n = runs_in c (throw c.context e) s n
start c (Raise class message) s n = runs_in c (raise class message) s n
start c (RaiseValue v message) s n = runs_in c (raise_value c.context v message) s n
start c (Start block problem) s n = runs_in c (start_rule c.context (tree_at c.nodes block) problem) s n
start c (New class cause) s n = runs_in c (making c.context class cause (λ v. Ret (Gave v))) s n
start c (Pair v w) s n = runs_in c (paired v w (λ a. Ret (Gave a))) s n
start c (Send callee v w) s n = evaluates c (CallPart callee v (list_of w)) s n
start c (Assign spot v) s n = evaluates c (AssignPart spot v) s n

-- the tree that comes first, where one does
abbrev pub first_tree : List Node → Control → Option Tree
first_tree ns (Enter part) = Some (tree_at ns part)
first_tree ns (Operate op a b) = Some (binary op (tree_at ns a) (tree_at ns b))
first_tree ns _ = None

-- how all ends that frames and what comes first have still to do
abbrev pub outcome_of : Code → List Frame → List Ref → Control → State → ℕ → Outcome
outcome_of c frames held control s n = unwind c (reverse frames) held (start c control s n)
