-- A `break` with which the block of an iteration begins, and the iteration that ends with it.
use Rattle.std.proofs.Common.{◌≡◌, ◌∙◌, ℕ, zero, suc, ◌+◌, ◌-◌, ◌<◌, ap, sym, subst, refl, arith, nat_lt, true, false, if◌then◌else◌, List, [], ◌∷◌, ◌++◌, length, Option, None, Some, Ok}
use Rattle.rr_frames.specs.declared.activation.Shape.{Shape}
use Rattle.rr_space.specs.Tables.{Table}
use Rattle.rr_space.specs.declared.refer.Ref.{Ref}
use Rattle.rr_space.specs.declared.refer.Ref.TheVariants.{Nil}
use Rattle.rr_tree.specs.Nodes.{trees_before}
use Rattle.rr_tree.specs.Tree.{Tree, block, break, choose, sequence, listed, tree_at}
use Rattle.rr_tree.specs.declared.program.Program.{Program}
use Rattle.rr_base.specs.declared.name.Sym.{Sym}
use Rattle.rr_builtin.specs.Objects.{is_truthy}
use Rattle.rr_builtin.specs.declared.iterations.Iteration.{Iteration}
use Rattle.rr_builtin.specs.declared.problem.Problem.TheVariants.{TooDeep}
use Rattle.rr_eval.specs.declared.call.Callee.TheVariants.{Name}
use Rattle.rr_eval.specs.declared.call.Target.TheVariants.{Iterate}
use Rattle.rr_eval.specs.declared.call_stack.Entry.TheVariants.{OfBlock}
use Rattle.rr_eval.specs.declared.iterating.Ahead.TheVariants.{Another}
use Rattle.rr_eval.specs.declared.iterating.Iterating.{Iterating}
use Rattle.rr_eval.specs.declared.iterating.Visits.{Visits}
use Rattle.rr_eval.specs.declared.problem.Answer.{Answer}
use Rattle.rr_eval.specs.declared.problem.Answer.TheVariants.{Gave, Broke}
use Rattle.rr_eval.specs.declared.problem.Problem.TheVariants.{BuiltIn}
use Rattle.rr_eval.specs.Basics.{throw}
use Rattle.rr_eval.specs.Blocks.{shape_in, with_frame}
use Rattle.rr_eval.specs.Dispatch.{method_for, iteration_of}
use Rattle.rr_eval.specs.Endings.{BreaksInside, EndsNow}
use Rattle.rr_eval.specs.Frames.{evaluates, iterated, means, runs_in}
use Rattle.rr_eval.specs.Iterating.{ahead, beginning, begun, begun_over, continued, continued_by, continued_with, kept, stand_of_first, taken_up, takes_array, turn_of, turn_over, turned}
use Rattle.rr_eval.specs.Requests.{Course}
use Rattle.rr_eval.specs.Rules.{block_sent, finish, on_value, statements}
use Rattle.rr_eval.specs.Script.{Ret, Do, Go, Evaluate, TurnPart, Iterated, Ended, after}
use Rattle.rr_eval.specs.Turns.{context_of, code_of, state_of}
use Rattle.rr_eval.specs.Unframed.{framed_with}
use Rattle.rr_eval.specs.Usual.{TakesNow}
use Rattle.rr_eval.specs.Variables.{top}
use Rattle.rr_eval.specs.View.{View}
use Rattle.rr_builtin.proofs.Gathering.{append_nil}
use Rattle.rr_eval.proofs.Depth.{meaning_rule}
use Rattle.rr_eval.proofs.Frameless.{frame_of, lies_called, put_up, taken_down}
use Rattle.rr_eval.proofs.Rounds.{turn_means}
use Rattle.rr_eval.proofs.Trees.{items_listed}
use Rattle.rr_eval.proofs.Unwind.{after_ended}

-- a `break` of what has a value
pub break_ends : (p : Program) (m : View) (t : Table) (tree a : Tree) (k all : ℕ) (v : Ref) → tree ≡ break a → TakesNow p m t a k v → all ≡ k + 1 → EndsNow p m t tree all (Broke v)
break_ends p m t tree a k all v is takes one = λ h n.
    let c = code_of p h.world in
    let s = state_of p m t h in
    let sum : all + n ≡ suc (k + n) = omega (arith, one) in
    ap (λ z. means c z s (all + n)) is
    ∙ ap (means c (break a) s) sum
    ∙ meaning_rule (context_of p) h.world (break a) s (k + n)
    ∙ ap (λ o. after o (λ (r : Answer). runs_in c (on_value (λ w. Ret (Broke w)) r))) (takes h n)

-- a choice whose chosen part ends what is around it
pub choice_ends : (p : Program) (m : View) (t : Table) (j k all : ℕ) (tree a b d : Tree) (w : Ref) (r : Answer) → tree ≡ choose a b d → TakesNow p m t a j w → EndsNow p m t (if is_truthy w then b else d) k r → all ≡ j + k + 1 → EndsNow p m t tree all r
choice_ends p m t j k all tree a b d w r is takes ends one = λ h n.
    let c = code_of p h.world in
    let s = state_of p m t h in
    let sum : all + n ≡ suc (j + (k + n)) = omega (arith, one) in
    ap (λ z. means c z s (all + n)) is
    ∙ ap (means c (choose a b d) s) sum
    ∙ meaning_rule (context_of p) h.world (choose a b d) s (j + (k + n))
    ∙ ap (λ o. after o (λ (q : Answer). runs_in c (on_value (λ y. Go (if is_truthy y then b else d) Ret) q))) (takes h (k + n))
    ∙ ap (λ o. after o (λ (q : Answer). runs_in c (Ret q))) (ends h n)

-- statements that begin with a `break`
list_breaks : (p : Program) (m : View) (t : Table) (end count place steps : ℕ) (v : Ref) → 0 < count → place ≡ end - count → EndsNow p m t (tree_at p.nodes.items place) steps (Broke v)
    → (h : Course) (n : ℕ) → runs_in (code_of p h.world) (statements (trees_before p.nodes.items end count)) (state_of p m t h) (steps + n) ≡ Ended (Broke v) (state_of p m t h) n
list_breaks p m t end zero place steps v some at ends = absurd (omega (arith, some))
list_breaks p m t end (suc zero) place steps v some at ends = λ h n.
    let its = subst (λ x. EndsNow p m t (tree_at p.nodes.items x) steps (Broke v)) at ends in
    ap (λ o. after o (λ (r : Answer). runs_in (code_of p h.world) (Ret r))) (its h n)
list_breaks p m t end (suc (suc more)) place steps v some at ends = λ h n.
    let its = subst (λ x. EndsNow p m t (tree_at p.nodes.items x) steps (Broke v)) at ends in
    ap (λ o. after o (λ (r : Answer). runs_in (code_of p h.world) (on_value (λ w. statements (trees_before p.nodes.items end (suc more))) r))) (its h n)

list_of_breaks : (p : Program) (m : View) (t : Table) (end count place steps all : ℕ) (tree : Tree) (v : Ref) → tree ≡ sequence (listed (trees_before p.nodes.items end count)) → 0 < count → place ≡ end - count
    → EndsNow p m t (tree_at p.nodes.items place) steps (Broke v) → all ≡ steps + 1 → EndsNow p m t tree all (Broke v)
list_of_breaks p m t end count place steps all tree v is some at ends one = λ h n.
    let c = code_of p h.world in
    let s = state_of p m t h in
    let trees = trees_before p.nodes.items end count in
    let sum : all + n ≡ suc (steps + n) = omega (arith, one) in
    ap (λ z. means c z s (all + n)) is
    ∙ ap (means c (sequence (listed trees)) s) sum
    ∙ meaning_rule (context_of p) h.world (sequence (listed trees)) s (steps + n)
    ∙ ap (λ ts. runs_in c (statements ts) s (steps + n)) (items_listed trees)
    ∙ list_breaks p m t end count place steps v some at ends h n

-- a block that does
pub block_breaks : (p : Program) (m : View) (t : Table) (x parameters size end count place steps all : ℕ) (tree list : Tree) (v : Ref) → tree ≡ block x parameters size list → list ≡ sequence (listed (trees_before p.nodes.items end count)) → 0 < count → place ≡ end - count
    → EndsNow p m t (tree_at p.nodes.items place) steps (Broke v) → all ≡ steps + 2 → EndsNow p m t tree all (Broke v)
block_breaks p m t x parameters size end count place steps all tree list v is lists some at ends two = λ h n.
    let c = code_of p h.world in
    let s = state_of p m t h in
    let own = block x parameters size list in
    let sum : all + n ≡ suc (steps + 1 + n) = omega (arith, two) in
    ap (λ z. means c z s (all + n)) is
    ∙ ap (means c own s) sum
    ∙ meaning_rule (context_of p) h.world own s (steps + 1 + n)
    ∙ ap (λ o. after o (λ (r : Answer). runs_in c (Ret r))) (list_of_breaks p m t end count place steps (steps + 1) list v lists some at ends refl h n)

-- a turn whose block does ends its iteration
pub turn_breaks : (p : Program) (m : View) (t : Table) (h : Course) (i : Iterating) (stand : List Ref) (visits : Visits) (given v w : Ref) (size steps k : ℕ)
    → kept i.visits v stand t ≡ Ok None → ahead i.visits stand t ≡ Another (Some given) None visits → ((shape : Option Shape) → takes_array visits shape ≡ false)
    → shape_in (Some (tree_at p.nodes.items i.block)) ≡ Some (record { parameters = 1; size = size }) → 0 < size → nat_lt (length m.calls.frames) m.calls.limit ≡ true
    → BreaksInside p m (given ∷ []) (top m.calls.frames) (tree_at p.nodes.items i.block) steps w
    → runs_in (code_of p h.world) (continued_with (context_of p) (iterated (code_of p h.world) i stand) v) (state_of p m t h) (steps + k) ≡ Ended (Gave w) (state_of p m t h) k
turn_breaks p m t h i stand visits given v w size steps k keeps next apart shape some room breaks =
    let own = context_of p in
    let c = code_of p h.world in
    let s = state_of p m t h in
    let tree = tree_at p.nodes.items i.block in
    let its : Iterated = record { visits = i.visits; stand = stand; block = tree } in
    let more : Iterated = record { visits = visits; stand = stand; block = tree } in
    let entry = OfBlock (top m.calls.frames) in
    let f = frame_of entry 1 size (given ∷ []) m.calls.frames in
    let lies = lies_called entry 1 size (top m.calls.frames) (given ∷ []) m.calls.frames refl (omega (arith, some)) refl in
    let turn = Evaluate (TurnPart more) Ret in
    let after_turn = λ (a : Answer). runs_in c (turned own more a) in
    let above = state_of p (framed_with f m) t h in
    ap (λ x. runs_in c (continued_by own its x) s (steps + k)) keeps
    ∙ ap (λ (vs : List Ref). runs_in c (continued own (record its { stand = vs })) s (steps + k)) (sym (append_nil stand))
    ∙ ap (λ a. runs_in c (taken_up own its a s.memory) s (steps + k)) next
    ∙ ap (λ x. runs_in c (turn_over own more x (Some given) None s.memory) s (steps + k)) (apart (shape_in (Some tree)))
    ∙ ap (λ x. runs_in c (turn_of own more x (given ∷ []) s.memory) s (steps + k)) shape
    ∙ ap (λ x. runs_in c (if x then Do (with_frame f None) turn else throw own (BuiltIn TooDeep)) s (steps + k)) room
    ∙ ap (λ x. runs_in c turn x (steps + k)) (put_up p m t h f)
    ∙ after_ended (evaluates c (TurnPart more) above (steps + k))
    ∙ turn_means c visits stand tree (record { parameters = 1; size = size }) shape above (steps + k)
    ∙ ap (λ o. after o after_turn) (breaks f t lies h k)
    ∙ ap (λ x. Ended (Gave w) x k) (taken_down p m t h f)

-- an iteration that begins goes on as one does behind a turn of which nothing is kept
pub begins_turns : (p : Program) (m : View) (t : Table) (h : Course) (x : Sym) (b : ℕ) (v w : Ref) (visits : Visits) (i : Option Iteration) (n : ℕ)
    → method_for (context_of p) t v (Name x) ≡ None → iteration_of (context_of p) (Name x) ≡ i → beginning x i (v ∷ []) t ≡ Ok visits → stand_of_first visits (v ∷ []) t ≡ Some (v ∷ []) → kept visits w (v ∷ []) t ≡ Ok None
    → runs_in (code_of p h.world) (finish (context_of p) (Iterate x b) (v ∷ [])) (state_of p m t h) n
    ≡ runs_in (code_of p h.world) (continued_with (context_of p) (record { visits = visits; stand = v ∷ []; block = tree_at p.nodes.items b }) w) (state_of p m t h) n
begins_turns p m t h x b v w visits None n none is begins first keeps = absurd (cc begins)
begins_turns p m t h x b v w visits (Some i) n none is begins first keeps =
    let own = context_of p in
    let c = code_of p h.world in
    let s = state_of p m t h in
    let tree = tree_at p.nodes.items b in
    let its : Iterated = record { visits = visits; stand = v ∷ []; block = tree } in
    ap (λ f. runs_in c (block_sent own f (iteration_of own (Name x)) x tree v []) s n) none
    ∙ ap (λ j. runs_in c (block_sent own None j x tree v []) s n) is
    ∙ ap (λ j. runs_in c (begun own (beginning x j (v ∷ []) t) (v ∷ []) tree t) s n) is
    ∙ ap (λ r. runs_in c (begun own r (v ∷ []) tree t) s n) begins
    ∙ ap (λ stand. runs_in c (begun_over own visits tree stand) s n) first
    ∙ sym (ap (λ r. runs_in c (continued_by own its r) s n) keeps)
