-- Statements that assign the value of one part to a local variable are done without frames, and so are rounds of loops that have such
-- statements alone.
use Rattle.std.proofs.Common.{◌≡◌, ◌∙◌, ℕ, zero, suc, ◌+◌, ◌-◌, ◌<◌, ap, sym, subst, arith, Bool, true, false, if◌then◌else◌, [], ◌∷◌, ◌++◌, reverse, Option, None, Some}
use Rattle.rr_frames.specs.Frames.{Stack}
use Rattle.rr_space.specs.Tables.{Table}
use Rattle.rr_space.specs.declared.refer.Ref.{Ref}
use Rattle.rr_space.specs.declared.refer.Ref.TheVariants.{Nil}
use Rattle.rr_tree.specs.Nodes.{trees_before}
use Rattle.rr_tree.specs.Tree.{Tree, Trees, nil, local, choose, assign, operator_assign, rescue, sequence, empty, then_one, listed, tree_at}
use Rattle.rr_tree.specs.declared.node.BinaryOperator.{BinaryOperator}
use Rattle.rr_tree.specs.declared.node.Node.TheVariants.{Loop}
use Rattle.rr_tree.specs.declared.program.Program.{Program}
use Rattle.rr_eval.specs.declared.call_stack.Variable.{Variable as Local}
use Rattle.rr_eval.specs.declared.frame.Control.TheVariants.{Enter, Give}
use Rattle.rr_eval.specs.declared.frame.Frame.TheVariants.{Body, Condition}
use Rattle.rr_eval.specs.declared.problem.Answer.{Answer}
use Rattle.rr_eval.specs.declared.problem.Answer.TheVariants.{Gave}
use Rattle.rr_eval.specs.Frames.{means, runs_in, resumed, start, unwind}
use Rattle.rr_eval.specs.Nodes.{evaluated_tree}
use Rattle.rr_eval.specs.Requests.{Course}
use Rattle.rr_eval.specs.Context.{Context}
use Rattle.rr_eval.specs.Rules.{rule, operation, on_value, in_loop, loop_rule, turn_rule, statements, write, items}
use Rattle.rr_eval.specs.Rescuing.{rescue_rule}
use Rattle.rr_eval.specs.Script.{World, Go, Ret, Ended, after}
use Rattle.rr_eval.specs.Straight.{assigned_by}
use Rattle.rr_eval.specs.StraightRounds.{SetsNow, SetFirst, left_over}
use Rattle.rr_eval.specs.Turns.{context_of, code_of, state_of, remaining, after_script}
use Rattle.rr_eval.specs.Usual.{TakesNow}
use Rattle.rr_builtin.specs.Objects.{is_truthy}
use Rattle.rr_eval.specs.Values.{goes_on}
use Rattle.rr_eval.specs.Variables.{read_variable, write_variable}
use Rattle.rr_eval.specs.View.{View}
use Rattle.rr_eval.proofs.Depth.{meaning_rule}
use Rattle.rr_eval.proofs.Quickly.{leaf_takes, under}
use Rattle.rr_eval.proofs.Simply.{operation_takes}
use Rattle.rr_eval.proofs.Trees.{items_listed}
use Rattle.rr_eval.proofs.Unwind.{asking_frame, part_only}

-- the frames that run, where a variable has another value
abbrev pub assigned : Local → Ref → View → View
assigned x v m = record m { calls = record m.calls { frames = write_variable x v m.calls.frames } }

-- an assignment whose value is known
pub assignment_sets : (p : Program) (m : View) (t : Table) (depth slot x behind steps : ℕ) (a : Tree) (v : Ref) → TakesNow p m t a steps v → SetsNow p m t (assign depth slot x behind a) (steps + 1) v (assigned (record { depth = depth; slot = slot }) v m)
assignment_sets p m t depth slot x behind steps a v takes = λ h i.
    let c = code_of p h.world in
    let s = state_of p m t h in
    let tree = assign depth slot x behind a in
    let sum : steps + 1 + i ≡ suc (steps + i) = omega arith in
    ap (means c tree s) sum
    ∙ meaning_rule (context_of p) h.world tree s (steps + i)
    ∙ ap (λ o. after o (λ (r : Answer). runs_in c (on_value (λ w. write (record { depth = depth; slot = slot }) w) r))) (takes h i)

-- an assignment with an operator, both operands of which are known
pub update_sets : (p : Program) (m : View) (t : Table) (op : BinaryOperator) (depth slot x behind steps all : ℕ) (tree a b : Tree) (v w total : Ref) → tree ≡ operator_assign op a b → a ≡ local depth slot x behind → v ≡ read_variable (record { depth = depth; slot = slot }) m.calls.frames → TakesNow p m t b steps w
    → ((c : Context) → operation c op v w ≡ Ret (Gave total)) → all ≡ steps + 3 → SetsNow p m t tree all total (assigned (record { depth = depth; slot = slot }) total m)
update_sets p m t op depth slot x behind steps all tree a b v w total is at reads takes gives sum = λ h i.
    let c = code_of p h.world in
    let s = state_of p m t h in
    let target = local depth slot x behind in
    let own = operator_assign op target b in
    let left : TakesNow p m t target 1 v = leaf_takes p m t target v (ap Some (sym reads)) in
    let both = operation_takes p m t op target b 1 steps v w total left takes gives in
    let one : all + i ≡ suc (1 + steps + 1 + i) = omega (arith, sum) in
    ap (λ z. means c z s (all + i)) (is ∙ ap (λ z. operator_assign op z b) at)
    ∙ ap (means c own s) one
    ∙ meaning_rule (context_of p) h.world own s (1 + steps + 1 + i)
    ∙ ap (λ o. after o (λ (r : Answer). runs_in c (on_value (λ z. write (record { depth = depth; slot = slot }) z) r))) (both h i)

-- statements that clauses rescue, and that are one which is known
rescued_sets : (p : Program) (m n : View) (t : Table) (steps : ℕ) (clauses : Trees) (a : Tree) (v : Ref) → SetsNow p m t a (steps + 1) v n → SetsNow p m t (rescue (sequence (then_one empty a)) clauses nil) (steps + 3) v n
rescued_sets p m n t steps clauses a v sets = λ h i.
    let c = code_of p h.world in
    let s = state_of p m t h in
    let list = sequence (then_one empty a) in
    let tree = rescue list clauses nil in
    let sum : steps + 3 + i ≡ suc (suc (steps + 1 + i)) = omega arith in
    let inner : means c list s (suc (steps + 1 + i)) ≡ Ended (Gave v) (state_of p n t h) i =
    meaning_rule (context_of p) h.world list s (steps + 1 + i) ∙ ap (λ o. after o (λ (r : Answer). runs_in c (Ret r))) (sets h i) in
    ap (means c tree s) sum
    ∙ meaning_rule (context_of p) h.world tree s (suc (steps + 1 + i))
    ∙ ap (λ o. after o (λ (r : Answer). runs_in c (rescue_rule (context_of p) (items clauses) nil r))) inner

-- what an option has, or this
abbrev inside : Option (Local × (Tree × ℕ)) → Local × (Tree × ℕ) → Local × (Tree × ℕ)
inside None other = other
inside (Some found) other = found

-- the frames that run are those that were written
pub sets_calls : (p : Program) (m : View) (t : Table) (tree : Tree) (steps : ℕ) (x : Local) (v : Ref) (calls : Stack) → calls.frames ≡ write_variable x v m.calls.frames → calls.limit ≡ m.calls.limit → SetsNow p m t tree steps v (assigned x v m) → SetsNow p m t tree steps v (record m { calls = calls })
sets_calls p m t tree steps x v calls frames limit sets =
    let written = write_variable x v m.calls.frames in
    let same : record m.calls { frames = written } ≡ calls = ap (λ l. record calls { frames = written; limit = l }) (sym limit) ∙ ap (λ f. record calls { frames = f }) (sym frames) in
    subst (λ k. SetsNow p m t tree steps v (record m { calls = k })) same sets

-- a statement whose value is known
pub statement_sets : (p : Program) (m : View) (t : Table) (tree : Tree) (x : Local) (a : Tree) (around steps : ℕ) (v : Ref) → assigned_by tree ≡ Some (x, (a, around)) → TakesNow p m t a steps v → SetsNow p m t tree (steps + around) v (assigned x v m)
statement_sets p m t (assign depth slot y behind b) x a around steps v e takes =
    let same = ap (λ o. inside o (x, (a, around))) e in
    let variable = ap (λ q. q.0) same in
    let value = ap (λ q. q.1.0) same in
    let one = ap (λ q. q.1.1) same in
    let its = subst (λ z. TakesNow p m t z steps v) (sym value) takes in
    let done = assignment_sets p m t depth slot y behind steps b v its in
    subst (λ k. SetsNow p m t (assign depth slot y behind b) (steps + k) v (assigned x v m)) one
    (subst (λ z. SetsNow p m t (assign depth slot y behind b) (steps + 1) v (assigned z v m)) variable done)
statement_sets p m t (rescue (sequence (then_one empty (assign depth slot y behind b))) clauses nil) x a around steps v e takes =
    let same = ap (λ o. inside o (x, (a, around))) e in
    let variable = ap (λ q. q.0) same in
    let value = ap (λ q. q.1.0) same in
    let three = ap (λ q. q.1.1) same in
    let its = subst (λ z. TakesNow p m t z steps v) (sym value) takes in
    let all = rescue (sequence (then_one empty (assign depth slot y behind b))) clauses nil in
    let done = rescued_sets p m (assigned (record { depth = depth; slot = slot }) v m) t steps clauses (assign depth slot y behind b) v (assignment_sets p m t depth slot y behind steps b v its) in
    subst (λ k. SetsNow p m t all (steps + k) v (assigned x v m)) three
    (subst (λ z. SetsNow p m t all (steps + 3) v (assigned z v m)) variable done)
statement_sets p m t _ x a around steps v e takes = absurd (cc e)

-- a list of one statement that is known
pub list_sets : (p : Program) (m n : View) (t : Table) (steps : ℕ) (tree a : Tree) (v : Ref) → tree ≡ sequence (listed (a ∷ [])) → SetsNow p m t a steps v n → SetsNow p m t tree (steps + 1) v n
list_sets p m n t steps tree a v is sets = λ h i.
    let c = code_of p h.world in
    let s = state_of p m t h in
    let own = sequence (listed (a ∷ [])) in
    let sum : steps + 1 + i ≡ suc (steps + i) = omega arith in
    ap (λ z. means c z s (steps + 1 + i)) is
    ∙ ap (means c own s) sum
    ∙ meaning_rule (context_of p) h.world own s (steps + i)
    ∙ ap (λ o. after o (λ (r : Answer). runs_in c (Ret r))) (sets h i)

-- nothing is chosen
pub nil_sets : (p : Program) (m : View) (t : Table) (tree : Tree) → tree ≡ nil → SetsNow p m t tree 1 Nil m
nil_sets p m t tree is = λ h i.
    let c = code_of p h.world in
    let s = state_of p m t h in
    let one : 1 + i ≡ suc i = omega arith in
    ap (λ z. means c z s (1 + i)) is ∙ ap (means c nil s) one ∙ meaning_rule (context_of p) h.world nil s i

-- a choice, of which the part that is chosen is known
pub choice_sets : (p : Program) (m n : View) (t : Table) (j k all : ℕ) (tree a b d : Tree) (v w : Ref) → tree ≡ choose a b d → TakesNow p m t a j v → SetsNow p m t (if is_truthy v then b else d) k w n → all ≡ j + k + 1 → SetsNow p m t tree all w n
choice_sets p m n t j k all tree a b d v w is takes sets sum = λ h i.
    let c = code_of p h.world in
    let s = state_of p m t h in
    let own = choose a b d in
    let parts : all + i ≡ suc (j + (k + i)) = omega (arith, sum) in
    ap (λ z. means c z s (all + i)) is
    ∙ ap (means c own s) parts
    ∙ meaning_rule (context_of p) h.world own s (j + (k + i))
    ∙ ap (λ o. after o (λ (r : Answer). runs_in c (on_value (λ z. Go (if is_truthy z then b else d) Ret) r))) (takes h (k + i))
    ∙ ap (λ o. after o (λ (r : Answer). runs_in c (Ret r))) (sets h i)

-- none of the statements is done yet
pub first_unset : (p : Program) (m : View) (t : Table) (end count : ℕ) → SetFirst p m t end count count 0 Nil m
first_unset p m t end zero = λ h i. let k : 0 + i ≡ i = omega arith in ap (runs_in (code_of p h.world) (Ret (Gave Nil)) (state_of p m t h)) k
first_unset p m t end (suc count) = λ h i. let k : 0 + i ≡ i = omega arith in ap (runs_in (code_of p h.world) (statements (trees_before p.nodes.items end (suc count))) (state_of p m t h)) k

-- the first of some statements is done
pub next_set : (p : Program) (m n : View) (t : Table) (end rest steps : ℕ) (v : Ref) → SetsNow p m t (tree_at p.nodes.items (end - suc rest)) steps v n → SetFirst p m t end (suc rest) rest steps v n
next_set p m n t end zero steps v sets = λ h i. ap (λ o. after o (λ (r : Answer). runs_in (code_of p h.world) (Ret r))) (sets h i)
next_set p m n t end (suc rest) steps v sets = λ h i.
    ap (λ o. after o (λ (r : Answer). runs_in (code_of p h.world) (on_value (λ w. statements (trees_before p.nodes.items end (suc rest))) r))) (sets h i)

-- one more is
pub more_set : (p : Program) (m n o : View) (t : Table) (end count rest spent steps place more all : ℕ) (v w : Ref) → SetFirst p m t end count rest spent w n → 0 < rest → place ≡ end - rest → more ≡ rest - 1 → all ≡ spent + steps
    → SetsNow p n t (tree_at p.nodes.items place) steps v o → SetFirst p m t end count more all v o
more_set p m n o t end count zero spent steps place more all v w first some at less sum sets = absurd (omega (arith, some))
more_set p m n o t end count (suc rest) spent steps place more all v w first some at less sum sets = λ h i.
    let c = code_of p h.world in
    let its = subst (λ k. SetsNow p n t (tree_at p.nodes.items k) steps v o) at sets in
    let fewer : rest ≡ more = omega (arith, less) in
    let parts : all + i ≡ spent + (steps + i) = omega (arith, sum) in
    ap (runs_in c (statements (trees_before p.nodes.items end count)) (state_of p m t h)) parts
    ∙ first h (steps + i)
    ∙ next_set p n o t end rest steps v its h i
    ∙ ap (λ k. left_over p o t end k v h i) fewer

-- the condition of a loop that comes next has a value
tested : (p : Program) (m : View) (t : Table) (here condition body steps : ℕ) (until : Bool) (v : Ref) (h : Course) → m.control ≡ Enter here
    → ((w : World) → rule (context_of p) (tree_at p.nodes.items here) ≡ Go (tree_at p.nodes.items condition) (resumed (code_of p w) (Condition until body here) [])) → TakesNow p m t (tree_at p.nodes.items condition) steps v → steps < m.left
    → remaining p m t h ≡ after_script p m t (turn_rule until (tree_at p.nodes.items body) (Go (tree_at p.nodes.items here) Ret) v) h (m.left - (steps + 1))
tested p m t here condition body steps until v h at script takes less = under p m t here condition steps v (Condition until body here) h at script tt takes less

-- the loop ends
pub loop_over : (p : Program) (m : View) (t : Table) (here condition body steps k : ℕ) (until : Bool) (v : Ref) (h : Course) → m.control ≡ Enter here
    → ((w : World) → rule (context_of p) (tree_at p.nodes.items here) ≡ Go (tree_at p.nodes.items condition) (resumed (code_of p w) (Condition until body here) [])) → TakesNow p m t (tree_at p.nodes.items condition) steps v → steps < m.left
    → goes_on until v ≡ false → k ≡ m.left - (steps + 1) → remaining p m t h ≡ remaining p (record m { control = Give (Gave Nil); left = k }) t h
loop_over p m t here condition body steps k until v h at script takes less ends is =
    let again = Go (tree_at p.nodes.items here) Ret in
    tested p m t here condition body steps until v h at script takes less
    ∙ ap (λ b. after_script p m t (if b then Go (tree_at p.nodes.items body) (in_loop again (λ w. again)) else Ret (Gave Nil)) h (m.left - (steps + 1))) ends
    ∙ ap (λ i. remaining p (record m { control = Give (Gave Nil); left = i }) t h) (sym is)

-- a round goes on behind the statements that are done
round_done : (p : Program) (m n : View) (t : Table) (here condition body steps end count rest spent k : ℕ) (until : Bool) (v w : Ref) (h : Course) → m.control ≡ Enter here
    → ((w : World) → rule (context_of p) (tree_at p.nodes.items here) ≡ Go (tree_at p.nodes.items condition) (resumed (code_of p w) (Condition until body here) [])) → TakesNow p m t (tree_at p.nodes.items condition) steps v
    → goes_on until v ≡ true → tree_at p.nodes.items body ≡ sequence (listed (trees_before p.nodes.items end count)) → SetFirst p m t end count rest spent w n → m.left ≡ k + spent + steps + 2
    → remaining p m t h ≡ unwind (code_of p h.world) (reverse m.frames) m.held (after (left_over p n t end rest w h k) (λ (r : Answer). runs_in (code_of p h.world) (in_loop (Go (tree_at p.nodes.items here) Ret) (λ _. Go (tree_at p.nodes.items here) Ret) r)))
round_done p m n t here condition body steps end count rest spent k until v w h at script takes goes list sets spends =
    let c = code_of p h.world in
    let s = state_of p m t h in
    let ns = p.nodes.items in
    let again = Go (tree_at ns here) Ret in
    let next = λ (r : Answer). runs_in c (in_loop again (λ _. again) r) in
    let trees = trees_before ns end count in
    let some : steps < m.left = omega (arith, spends) in
    let others : m.left - (steps + 1) ≡ suc (spent + k) = omega (arith, spends) in
    let inner : means c (tree_at ns body) s (suc (spent + k)) ≡ left_over p n t end rest w h k =
    ap (λ x. means c x s (suc (spent + k))) list
    ∙ meaning_rule (context_of p) h.world (sequence (listed trees)) s (spent + k)
    ∙ ap (λ ts. runs_in c (statements ts) s (spent + k)) (items_listed trees)
    ∙ sets h k in
    tested p m t here condition body steps until v h at script takes some
    ∙ ap (λ b. after_script p m t (if b then Go (tree_at ns body) (in_loop again (λ _. again)) else Ret (Gave Nil)) h (m.left - (steps + 1))) goes
    ∙ ap (λ i. unwind c (reverse m.frames) m.held (after (means c (tree_at ns body) s i) next)) others
    ∙ ap (λ o. unwind c (reverse m.frames) m.held (after o next)) inner

-- all statements are done, and the loop comes next
pub round_again : (p : Program) (m n : View) (t : Table) (here condition body steps end count spent k : ℕ) (until : Bool) (v w : Ref) (h : Course) → m.control ≡ Enter here
    → ((w : World) → rule (context_of p) (tree_at p.nodes.items here) ≡ Go (tree_at p.nodes.items condition) (resumed (code_of p w) (Condition until body here) [])) → TakesNow p m t (tree_at p.nodes.items condition) steps v
    → goes_on until v ≡ true → tree_at p.nodes.items body ≡ sequence (listed (trees_before p.nodes.items end count)) → SetFirst p m t end count 0 spent w n → m.left ≡ k + spent + steps + 2
    → remaining p m t h ≡ remaining p (record m { calls = n.calls; blocks = n.blocks; rescuing = n.rescuing; left = k }) t h
round_again p m n t here condition body steps end count spent k until v w h at script takes goes list sets spends =
    let c = code_of p h.world in
    round_done p m n t here condition body steps end count 0 spent k until v w h at script takes goes list sets spends
    ∙ ap (unwind c (reverse m.frames) m.held) (part_only c here (state_of p n t h) k)
    ∙ ap (λ x. unwind c (reverse m.frames) m.held (start c x (state_of p n t h) k)) (sym at)

-- so many statements are left
pub round_left : (p : Program) (m n : View) (t : Table) (here condition body steps end count rest spent k : ℕ) (until : Bool) (v w : Ref) (h : Course) → m.control ≡ Enter here
    → ((w : World) → rule (context_of p) (tree_at p.nodes.items here) ≡ Go (tree_at p.nodes.items condition) (resumed (code_of p w) (Condition until body here) [])) → TakesNow p m t (tree_at p.nodes.items condition) steps v
    → goes_on until v ≡ true → tree_at p.nodes.items body ≡ sequence (listed (trees_before p.nodes.items end count)) → SetFirst p m t end count (suc rest) spent w n → m.left ≡ k + spent + steps + 2
    → remaining p m t h ≡ after_script p (record m { frames = m.frames ++ Body here ∷ []; calls = n.calls; blocks = n.blocks; rescuing = n.rescuing; left = k }) t (statements (trees_before p.nodes.items end (suc rest))) h k
round_left p m n t here condition body steps end count rest spent k until v w h at script takes goes list sets spends =
    let c = code_of p h.world in
    round_done p m n t here condition body steps end count (suc rest) spent k until v w h at script takes goes list sets spends
    ∙ asking_frame c m.frames (Body here) m.held (left_over p n t end (suc rest) w h k) tt

-- the rule of a loop is what its frame waits for
pub loop_script : (p : Program) (here : ℕ) (until : Bool) (condition body : ℕ) → tree_at p.nodes.items here ≡ evaluated_tree p.nodes.items (Loop until condition body) → (w : World) → rule (context_of p) (tree_at p.nodes.items here) ≡ Go (tree_at p.nodes.items condition) (resumed (code_of p w) (Condition until body here) [])
loop_script p here until condition body at w =
    let ns = p.nodes.items in
    ap (rule (context_of p)) at ∙ ap (λ loop. loop_rule until (tree_at ns condition) (tree_at ns body) (Go loop Ret)) (sym at)
