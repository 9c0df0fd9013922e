-- Parts whose value needs no frame, and what waits for them.
use Rattle.std.proofs.Common.{◌≡◌, ℕ, suc, ◌+◌, ◌-◌, ◌<◌, ap, ◌∙◌, arith, refl, ℤ, Some, [], length, reverse, ◌≤◌}
use Rattle.rr_space.specs.Tables.{Table}
use Rattle.rr_space.specs.declared.refer.Ref.{Ref}
use Rattle.rr_space.specs.declared.refer.Ref.TheVariants.{Int}
use Rattle.rr_tree.specs.Tree.{Tree, int, local, tree_at}
use Rattle.rr_tree.specs.declared.node.BinaryOperator.{BinaryOperator}
use Rattle.rr_tree.specs.declared.program.Program.{Program}
use Rattle.rr_eval.specs.declared.frame.Frame.{Frame}
use Rattle.rr_eval.specs.declared.frame.Frame.TheVariants.{Left}
use Rattle.rr_eval.specs.declared.frame.Control.TheVariants.{Enter}
use Rattle.rr_eval.specs.declared.problem.Answer.{Answer}
use Rattle.rr_eval.specs.declared.problem.Answer.TheVariants.{Gave}
use Rattle.rr_eval.specs.Frames.{Code, means, runs_in, resumed, first_tree, unwind, IsNew, base_of, below_of, Nested}
use Rattle.rr_eval.specs.Operators.{integers}
use Rattle.rr_eval.specs.Requests.{Course}
use Rattle.rr_eval.specs.Rules.{rule, on_value, operation, settled}
use Rattle.rr_eval.specs.Script.{State, World, Go, Ended, after}
use Rattle.rr_eval.specs.Turns.{context_of, code_of, state_of, remaining, after_script, after_answer, leaf_value}
use Rattle.rr_eval.specs.Usual.{Takes, TakesNow}
use Rattle.rr_eval.specs.View.{View}
use Rattle.rr_eval.proofs.Depth.{meaning_rule}
use Rattle.rr_eval.proofs.Entered.{stepped}
use Rattle.rr_eval.proofs.Unwind.{asking_frame, given, nested_new, nested_pop}

-- a tree whose rule answers at once
pub answers : (c : Code) (tree same : Tree) (s : State) (v : Ref) → tree ≡ same → ((n : ℕ) → runs_in c (rule c.context same) s n ≡ Ended (Gave v) s n) → Takes c tree s 1 v
answers c tree same s v there is = λ n.
    let one : 1 + n ≡ suc n = omega arith in
    ap (means c tree s) one
    ∙ meaning_rule c.context c.world tree s n
    ∙ ap (λ x. runs_in c (rule c.context x) s n) there
    ∙ is n

-- a leaf takes one step
pub leaf_takes : (p : Program) (m : View) (t : Table) (tree : Tree) (v : Ref) → leaf_value tree m.calls.frames ≡ Some v → TakesNow p m t tree 1 v
leaf_takes p m t (int z) v e = λ h. answers (code_of p h.world) (int z) (int z) (state_of p m t h) v refl (λ n. ap (λ x. Ended (Gave x) (state_of p m t h) n) (cc e))
leaf_takes p m t (local depth slot x behind) v e = λ h. answers (code_of p h.world) (local depth slot x behind) (local depth slot x behind) (state_of p m t h) v refl (λ n. ap (λ y. Ended (Gave y) (state_of p m t h) n) (cc e))
leaf_takes p m t _ v e = absurd (cc e)

-- What comes first evaluates a part first, for which a frame waits: the frame gets the value.
pub under_tree : (p : Program) (m : View) (t : Table) (tree part : Tree) (steps : ℕ) (v : Ref) (f : Frame) (h : Course) → first_tree p.nodes.items m.control ≡ Some tree
    → ((w : World) → rule (context_of p) tree ≡ Go part (resumed (code_of p w) f [])) → IsNew f (length m.held) → TakesNow p m t part steps v → steps < m.left
    → remaining p m t h ≡ after_answer p m t f (Gave v) h (m.left - (steps + 1))
under_tree p m t tree part steps v f h at script new takes less =
    let c = code_of p h.world in
    let s = state_of p m t h in
    let n = m.left - (steps + 1) in
    let next = λ (a : Answer). runs_in c (resumed c f [] a) in
    let one : m.left ≡ suc (m.left - 1) = omega (arith, less) in
    let others : m.left - 1 ≡ steps + n = omega (arith, less) in
    stepped p m t (m.left - 1) tree at one h
    ∙ ap (λ r. after_script p m t r h (m.left - 1)) (script h.world)
    ∙ ap (λ k. unwind c (reverse m.frames) m.held (after (means c part s k) next)) others
    ∙ ap (λ o. unwind c (reverse m.frames) m.held (after o next)) (takes h n)
    ∙ asking_frame c m.frames f m.held (Ended (Gave v) s n) new
    ∙ given c m.frames f m.held (Gave v) s n

-- so does a node
pub under : (p : Program) (m : View) (t : Table) (here part steps : ℕ) (v : Ref) (f : Frame) (h : Course) → m.control ≡ Enter here
    → ((w : World) → rule (context_of p) (tree_at p.nodes.items here) ≡ Go (tree_at p.nodes.items part) (resumed (code_of p w) f [])) → IsNew f (length m.held) → TakesNow p m t (tree_at p.nodes.items part) steps v → steps < m.left
    → remaining p m t h ≡ after_answer p m t f (Gave v) h (m.left - (steps + 1))
under p m t here part steps v f h at script new takes less =
    under_tree p m t (tree_at p.nodes.items here) (tree_at p.nodes.items part) steps v f h (ap (first_tree p.nodes.items) at) script new takes less

-- a frame that waits for a part begins within what stands
pub waits_within : (m : View) (f : Frame) → IsNew f (length m.held) → Nested (reverse m.frames) m.held → (base_of f ≤ length m.held) × Nested (reverse m.frames) (below_of f m.held)
waits_within m f new nested = nested_pop m.frames f m.held (nested_new m.frames f m.held new nested)

-- an operator on an integer and a right operand that has a value
pub quick_right : (p : Program) (m : View) (t : Table) (b steps : ℕ) (op : BinaryOperator) (x y : ℤ) (h : Course) → TakesNow p m t (tree_at p.nodes.items b) steps (Int y) → steps ≤ m.left
    → after_script p m t (resumed (code_of p h.world) (Left op b) [] (Gave (Int x))) h m.left ≡ after_script p m t (settled (context_of p) (integers op x y)) h (m.left - steps)
quick_right p m t b steps op x y h takes less =
    let c = code_of p h.world in
    let n = m.left - steps in
    let all : m.left ≡ steps + n = omega (arith, less) in
    ap (after_script p m t (resumed c (Left op b) [] (Gave (Int x))) h) all
    ∙ ap (λ o. unwind c (reverse m.frames) m.held (after o (λ r. runs_in c (on_value (operation c.context op (Int x)) r)))) (takes h n)
