-- A node is evaluated by its rule.
use Rattle.std.proofs.Common.{◌≡◌, ℕ, suc, sym, ap, ◌∙◌, refl, Some, List, [], ◌∷◌, reverse, ℤ}
use Rattle.rr_space.specs.Tables.{Table}
use Rattle.rr_space.specs.declared.refer.Ref.{Ref}
use Rattle.rr_space.specs.declared.refer.Ref.TheVariants.{Int}
use Rattle.rr_tree.specs.Tree.{Tree, int, local, binary, tree_at}
use Rattle.rr_tree.specs.declared.node.BinaryOperator.{BinaryOperator}
use Rattle.rr_eval.specs.declared.problem.Answer.TheVariants.{Gave}
use Rattle.rr_eval.specs.declared.problem.Response.{Response}
use Rattle.rr_eval.specs.declared.problem.Response.TheVariants.{Gives, Throws, Fails}
use Rattle.rr_eval.specs.Operators.{integers}
use Rattle.rr_tree.specs.declared.node.Node.{Node}
use Rattle.rr_tree.specs.declared.program.Program.{Program}
use Rattle.rr_eval.specs.declared.frame.Frame.{Frame}
use Rattle.rr_eval.specs.declared.frame.Control.{Control}
use Rattle.rr_eval.specs.declared.frame.Control.TheVariants.{Enter, Operate, Give, Throw, Raise, RaiseValue, Start, New, Pair, Send, Assign}
use Rattle.rr_eval.specs.View.{View}
use Rattle.rr_eval.specs.Script.{State, Script, World, Spent, Ended, Waits, run, after, taken}
use Rattle.rr_eval.specs.Requests.{Course, asking}
use Rattle.rr_eval.specs.Rules.{Context, rule, meaning_of, meaning, on_value, with_value, settled, operation}
use Rattle.rr_eval.specs.Nodes.{evaluated_tree}
use Rattle.rr_eval.specs.Frames.{Code, means, runs_in, start, first_tree, unwind, outcome_of, below_of}
use Rattle.rr_eval.specs.Turns.{context_of, code_of, state_of, remaining, after_script, control_of, Replied, leaf_value}
use Rattle.rr_eval.proofs.Depth.{meaning_rule}

-- what comes first does what its tree does
pub first_is : (c : Code) (k : Control) (tree : Tree) → first_tree c.nodes k ≡ Some tree → (s : State) (n : ℕ) → start c k s n ≡ means c tree s n
first_is c (Enter part) tree e s n = ap (λ x. means c x s n) (cc e)
first_is c (Operate op a b) tree e s n = ap (λ x. means c x s n) (cc e)
first_is c (Give a) tree e s n = absurd (cc e)
first_is c (Throw problem) tree e s n = absurd (cc e)
first_is c (Raise class message) tree e s n = absurd (cc e)
first_is c (RaiseValue v message) tree e s n = absurd (cc e)
first_is c (Start block problem) tree e s n = absurd (cc e)
first_is c (New class cause) tree e s n = absurd (cc e)
first_is c (Pair v w) tree e s n = absurd (cc e)
first_is c (Send callee v w) tree e s n = absurd (cc e)
first_is c (Assign spot v) tree e s n = absurd (cc e)

pub stepped : (p : Program) (m : View) (t : Table) (n : ℕ) (tree : Tree) → first_tree p.nodes.items m.control ≡ Some tree → m.left ≡ suc n → (h : Course) → remaining p m t h ≡ after_script p m t (rule (context_of p) tree) h n
stepped p m t n tree at left h =
    ap (unwind (code_of p h.world) (reverse m.frames) m.held)
    (first_is (code_of p h.world) m.control tree at (state_of p m t h) m.left
    ∙ ap (λ k. means (code_of p h.world) tree (state_of p m t h) k) left
    ∙ meaning_rule (context_of p) h.world tree (state_of p m t h) n)

pub entered : (p : Program) (m : View) (t : Table) (here n : ℕ) (node : Node) (script : Script) → m.control ≡ Enter here → m.left ≡ suc n → tree_at p.nodes.items here ≡ evaluated_tree p.nodes.items node → script ≡ rule (context_of p) (evaluated_tree p.nodes.items node) → (h : Course) → remaining p m t h ≡ after_script p m t script h n
entered p m t here n node script at left there is h =
    ap (λ k. outcome_of (code_of p h.world) m.frames m.held k (state_of p m t h) m.left) at
    ∙ ap (λ k. outcome_of (code_of p h.world) m.frames m.held (Enter here) (state_of p m t h) k) left
    ∙ ap (unwind (code_of p h.world) (reverse m.frames) m.held) (meaning_rule (context_of p) h.world (tree_at p.nodes.items here) (state_of p m t h) n)
    ∙ ap (λ tree. after_script p m t (rule (context_of p) tree) h n) there
    ∙ ap (λ r. after_script p m t r h n) (sym is)

unwind_spent : (c : Code) (fs : List Frame) (held : List Ref) (s : State) → unwind c fs held (Spent s) ≡ Spent s
unwind_spent c [] held s = refl
unwind_spent c (f ∷ fs) held s = unwind_spent c fs (below_of f held) s

unwind_waits : (c : Code) (fs : List Frame) (held : List Ref) (s : State) → unwind c fs held (Waits s) ≡ Waits s
unwind_waits c [] held s = refl
unwind_waits c (f ∷ fs) held s = unwind_waits c fs (below_of f held) s

-- what a reply does
settled_start : (p : Program) (w : World) (r : Response) (s : State) (n : ℕ) → runs_in (code_of p w) (settled (context_of p) r) s n ≡ start (code_of p w) (control_of r) s n
settled_start p w (Gives v) s n = refl
settled_start p w (Throws e) s n = refl
settled_start p w (Fails e) s n = refl

pub replied : (p : Program) (m : View) (a : Response) → Replied p m a
replied p m a = record {
  goes = λ t u q h e.
      ap (λ r. unwind (code_of p h.world) (reverse m.frames) m.held (taken r (state_of p m t (asking q h)) (λ x v. runs_in (code_of p h.world) (settled (context_of p) x) v m.left))) e
      ∙ ap (unwind (code_of p h.world) (reverse m.frames) m.held) (settled_start p h.world a (state_of p m u (asking q h)) m.left);
  none = λ t q h e.
      ap (λ r. unwind (code_of p h.world) (reverse m.frames) m.held (taken r (state_of p m t (asking q h)) (λ x v. runs_in (code_of p h.world) (settled (context_of p) x) v m.left))) e
      ∙ unwind_waits (code_of p h.world) (reverse m.frames) m.held (state_of p m t (asking q h));
}

-- without steps a part is out of steps
pub limit : (p : Program) (m : View) (t : Table) (tree : Tree) → first_tree p.nodes.items m.control ≡ Some tree → m.left ≡ 0 → (h : Course) → remaining p m t h ≡ Spent (state_of p m t h)
limit p m t tree at left h =
    ap (unwind (code_of p h.world) (reverse m.frames) m.held)
    (first_is (code_of p h.world) m.control tree at (state_of p m t h) m.left
    ∙ ap (λ k. means (code_of p h.world) tree (state_of p m t h) k) left)
    ∙ unwind_spent (code_of p h.world) (reverse m.frames) m.held (state_of p m t h)

-- a leaf takes one step and changes nothing
leaf_of : (c : Context) (w : World) (tree : Tree) (s : State) (n : ℕ) (v : Ref) → leaf_value tree s.memory.calls.frames ≡ Some v → run w (meaning_of c w) (rule c tree) s n ≡ Ended (Gave v) s n
leaf_of c w (int z) s n v e = ap (λ x. Ended (Gave x) s n) (cc e)
leaf_of c w (local depth slot x behind) s n v e = ap (λ y. Ended (Gave y) s n) (cc e)
leaf_of c w _ s n v e = cc e

leaf : (c : Context) (w : World) (tree : Tree) (s : State) (n : ℕ) (v : Ref) → leaf_value tree s.memory.calls.frames ≡ Some v → meaning c w tree s (suc n) ≡ Ended (Gave v) s n
leaf c w tree s n v e = meaning_rule c w tree s n ∙ leaf_of c w tree s n v e

-- an operator on two leaves that are integers
pub leaves : (p : Program) (m : View) (t : Table) (n a b : ℕ) (op : BinaryOperator) (x y : ℤ) → first_tree p.nodes.items m.control ≡ Some (binary op (tree_at p.nodes.items a) (tree_at p.nodes.items b)) → m.left ≡ suc (suc (suc n)) → leaf_value (tree_at p.nodes.items a) m.calls.frames ≡ Some (Int x) → leaf_value (tree_at p.nodes.items b) m.calls.frames ≡ Some (Int y) → (h : Course) → remaining p m t h ≡ after_script p m t (settled (context_of p) (integers op x y)) h n
leaves p m t n a b op x y at left first second h =
    let c = context_of p in
    let ns = p.nodes.items in
    let s = state_of p m t h in
    stepped p m t (suc (suc n)) (binary op (tree_at ns a) (tree_at ns b)) at left h
    ∙ ap (unwind (code_of p h.world) (reverse m.frames) m.held)
    (ap (λ o. after o (λ r. run h.world (meaning_of c h.world) (on_value (λ v. with_value (tree_at ns b) (operation c op v)) r))) (leaf c h.world (tree_at ns a) s (suc n) (Int x) first)
    ∙ ap (λ o. after o (λ r. run h.world (meaning_of c h.world) (on_value (operation c op (Int x)) r))) (leaf c h.world (tree_at ns b) s n (Int y) second))
