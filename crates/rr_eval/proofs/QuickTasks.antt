-- Tasks that are asked for at once.
use Rattle.std.proofs.Common.{◌≡◌, ℕ, zero, suc, ◌+◌, ◌-◌, ◌<◌, ◌≤◌, ap, sym, subst, ◌∙◌, arith, List, [], ◌∷◌, ◌++◌}
use Rattle.std.proofs.lemmas.List.{append-nil, append_assoc}
use Rattle.rr_space.specs.Tables.{Table}
use Rattle.rr_space.specs.declared.refer.Ref.{Ref}
use Rattle.rr_tree.specs.Nodes.{trees_before}
use Rattle.rr_tree.specs.Tree.{Tree, tree_at}
use Rattle.rr_tree.specs.declared.program.Program.{Program}
use Rattle.rr_eval.specs.declared.call.Target.TheVariants.{Do}
use Rattle.rr_eval.specs.declared.call.Task.{Task}
use Rattle.rr_eval.specs.declared.call.Task.TheVariants.{MakeHash}
use Rattle.rr_eval.specs.declared.frame.Control.TheVariants.{Enter, Give}
use Rattle.rr_eval.specs.declared.frame.Frame.{Frame}
use Rattle.rr_eval.specs.declared.problem.Answer.TheVariants.{Gave}
use Rattle.rr_eval.specs.Frames.{below_of, runs_in, stand_of, outcome_of}
use Rattle.rr_eval.specs.Requests.{Course}
use Rattle.rr_eval.specs.Rules.{rule, on_value, values, arguments, finish, key_part, value_part, pair_parts}
use Rattle.rr_eval.specs.Script.{Script, Asked, Does}
use Rattle.rr_eval.specs.Speaking.{request, task_rule}
use Rattle.rr_eval.specs.Turns.{context_of, code_of, state_of, remaining, after_script, after_answer, after_values, asking_with}
use Rattle.rr_eval.specs.Usual.{TakesNow, ComesTo, TakeFirst, ValuesFirst, GoesOnAsking}
use Rattle.rr_eval.specs.View.{View}
use Rattle.rr_eval.proofs.QuickParts.{part_comes, comes_then}
use Rattle.rr_eval.proofs.QuickSends.{comes_first}
use Rattle.rr_eval.proofs.Unwind.{given}

-- a task whose values are known is asked
pub task_asked : (p : Program) (m : View) (t : Table) (here steps : ℕ) (task : Task) (vs : List Ref) (h : Course) → m.control ≡ Enter here
    → ComesTo p m t (rule (context_of p) (tree_at p.nodes.items here)) steps (finish (context_of p) (Do task) vs) → task_rule (context_of p) task vs ≡ request (context_of p) task vs → steps < m.left
    → remaining p m t h ≡ asking_with p m t (Does task vs t) h (m.left - (steps + 1))
task_asked p m t here steps task vs h at comes is less =
    comes_first p m t here steps (finish (context_of p) (Do task) vs) h at comes less
    ∙ ap (λ r. after_script p m t r h (m.left - (steps + 1))) is

-- all parts of a list are evaluated
pub list_comes : (p : Program) (m : View) (t : Table) (script : Script) (ts : List Tree) (end rest steps : ℕ) (vs : List Ref) (task : Task) → script ≡ arguments (context_of p) ts [] (finish (context_of p) (Do task))
    → TakeFirst p m t ts steps vs (trees_before p.nodes.items end rest) → rest ≡ 0 → ComesTo p m t script steps (finish (context_of p) (Do task) vs)
list_comes p m t script ts end rest steps vs task is takes none = λ h n.
    let own = context_of p in
    ap (λ r. runs_in (code_of p h.world) r (state_of p m t h) (steps + n)) is
    ∙ takes [] (finish own (Do task)) h n
    ∙ ap (λ k. runs_in (code_of p h.world) (arguments own (trees_before p.nodes.items end k) vs (finish own (Do task))) (state_of p m t h) n) none

-- and all keys and values of pairs
pub pairs_come : (p : Program) (m : View) (t : Table) (script : Script) (ts : List Tree) (end rest steps : ℕ) (vs : List Ref) → script ≡ values ts [] (finish (context_of p) (Do MakeHash))
    → ValuesFirst p m t ts steps vs (pair_parts (trees_before p.nodes.items end rest)) → rest ≡ 0 → ComesTo p m t script steps (finish (context_of p) (Do MakeHash) vs)
pairs_come p m t script ts end rest steps vs is takes none = λ h n.
    let own = context_of p in
    ap (λ r. runs_in (code_of p h.world) r (state_of p m t h) (steps + n)) is
    ∙ takes [] (finish own (Do MakeHash)) h n
    ∙ ap (λ k. runs_in (code_of p h.world) (values (pair_parts (trees_before p.nodes.items end k)) vs (finish own (Do MakeHash))) (state_of p m t h) n) none

-- no pair is evaluated yet
pub pairs_none : (p : Program) (m : View) (t : Table) (trees : List Tree) (vs : List Ref) → vs ≡ [] → ValuesFirst p m t trees 0 vs trees
pairs_none p m t trees vs none = λ stand next h n.
    let k : 0 + n ≡ n = omega arith in
    ap (λ i. runs_in (code_of p h.world) (values trees stand next) (state_of p m t h) i) k
    ∙ ap (λ l. runs_in (code_of p h.world) (values trees l next) (state_of p m t h) n) (sym (append-nil stand) ∙ ap (λ l. stand ++ l) (sym none))

-- one more is
pub pairs_more : (p : Program) (m : View) (t : Table) (trees : List Tree) (end spent i j rest place more : ℕ) (vs ws : List Ref) (v w : Ref) → ValuesFirst p m t trees spent vs (pair_parts (trees_before p.nodes.items end rest)) → 0 < rest → place ≡ end - rest → more ≡ rest - 1
    → ws ≡ vs ++ v ∷ w ∷ [] → TakesNow p m t (key_part (tree_at p.nodes.items place)) i v → TakesNow p m t (value_part (tree_at p.nodes.items place)) j w → ValuesFirst p m t trees (spent + i + j) ws (pair_parts (trees_before p.nodes.items end more))
pairs_more p m t trees end spent i j zero place more vs ws v w first some at less is key value = absurd (omega (arith, some))
pairs_more p m t trees end spent i j (suc rest) place more vs ws v w first some at less is key value = λ stand next.
    let ns = p.nodes.items in
    let pair = tree_at ns (end - suc rest) in
    let others = λ (k : ℕ). pair_parts (trees_before ns end k) in
    let all = stand ++ vs in
    let one = values (value_part pair ∷ others rest) (all ++ v ∷ []) next in
    let two = values (others rest) ((all ++ v ∷ []) ++ w ∷ []) next in
    let first_key = subst (λ k. TakesNow p m t (key_part (tree_at ns k)) i v) at key in
    let first_value = subst (λ k. TakesNow p m t (value_part (tree_at ns k)) j w) at value in
    let fewer : rest ≡ more = omega (arith, less) in
    let stands : (all ++ v ∷ []) ++ w ∷ [] ≡ stand ++ ws = append_assoc all (v ∷ []) (w ∷ []) ∙ append_assoc stand vs (v ∷ w ∷ []) ∙ ap (λ l. stand ++ l) (sym is) in
    let begin = values trees stand next in
    let last : ComesTo p m t begin (spent + i + j) two = comes_then p m t begin one two (spent + i) j
    (comes_then p m t begin (values (others (suc rest)) all next) one spent i (first stand next) (part_comes p m t (key_part pair) i v (on_value (λ u. values (value_part pair ∷ others rest) (all ++ u ∷ []) next)) first_key))
    (part_comes p m t (value_part pair) j w (on_value (λ u. values (others rest) ((all ++ v ∷ []) ++ u ∷ []) next)) first_value) in
    λ h n. last h n
    ∙ ap (λ l. runs_in (code_of p h.world) (values (others rest) l next) (state_of p m t h) n) stands
    ∙ ap (λ k. runs_in (code_of p h.world) (values (others k) (stand ++ ws) next) (state_of p m t h) n) fewer

-- a request is asked in the place of the topmost frame
pub standing_asked : (p : Program) (m : View) (t : Table) (rest : List Frame) (held : List Ref) (f : Frame) (steps : ℕ) (x : Ref) (q : Asked) (h : Course) → m.control ≡ Give (Gave x) → m.frames ≡ rest ++ f ∷ [] → held ≡ below_of f m.held → steps ≤ m.left
    → GoesOnAsking p m t f x steps q → remaining p m t h ≡ asking_with p (record m { frames = rest; held = held }) t q h (m.left - steps)
standing_asked p m t rest held f steps x q h at is below enough goes =
    let code = code_of p h.world in
    let s = state_of p m t h in
    let n = m.left - steps in
    let all : m.left ≡ steps + n = omega (arith, enough) in
    let low = record m { frames = rest } in
    ap (λ k. outcome_of code m.frames m.held k s m.left) at
    ∙ ap (λ fs. outcome_of code fs m.held (Give (Gave x)) s m.left) is
    ∙ given code rest f m.held (Gave x) s m.left
    ∙ ap (λ i. after_answer p low t f (Gave x) h i) all
    ∙ goes rest h n
    ∙ ap (λ (l : List Ref). asking_with p (record low { held = l }) t q h n) (sym below)

-- the last value of a task is there
pub task_waits : (p : Program) (m : View) (t : Table) (f : Frame) (task : Task) (x : Ref) (vs : List Ref)
    → ((k : View) (h : Course) (n : ℕ) → after_answer p k t f (Gave x) h n ≡ after_values p k t f (finish (context_of p) (Do task) (stand_of f k.held ++ x ∷ [])) h n)
    → vs ≡ stand_of f m.held ++ x ∷ [] → task_rule (context_of p) task vs ≡ request (context_of p) task vs → GoesOnAsking p m t f x 0 (Does task vs t)
task_waits p m t f task x vs waits all is = λ fs h n.
    let own = context_of p in
    let k = record m { frames = fs } in
    let none : 0 + n ≡ n = omega arith in
    ap (λ i. after_answer p k t f (Gave x) h i) none
    ∙ waits k h n
    ∙ ap (λ (l : List Ref). after_values p k t f (task_rule own task l) h n) (sym all)
    ∙ ap (λ r. after_values p k t f r h n) is
