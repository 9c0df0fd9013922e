-- Parts of a list that need no frame are evaluated one after the other.
use Rattle.std.proofs.Common.{◌≡◌, ℕ, zero, suc, ◌+◌, ◌-◌, ◌<◌, ◌≤◌, sym, ap, subst, ◌∙◌, arith, false, List, [], ◌∷◌, ◌++◌, length, take, reverse}
use Rattle.std.proofs.lemmas.List.{append-nil, append_assoc, take-append-le}
use Rattle.rr_base.specs.declared.fault.Fault.{Fault}
use Rattle.rr_parser.specs.Grammar.Names.{is_splat}
use Rattle.rr_space.specs.Tables.{Table}
use Rattle.rr_space.specs.declared.refer.Ref.{Ref}
use Rattle.rr_tree.specs.Nodes.{trees_before}
use Rattle.rr_tree.specs.Tree.{Tree, tree_at}
use Rattle.rr_tree.specs.declared.program.Program.{Program}
use Rattle.rr_eval.specs.declared.call.Target.{Target}
use Rattle.rr_eval.specs.declared.frame.Control.TheVariants.{Enter}
use Rattle.rr_eval.specs.declared.frame.Frame.TheVariants.{Argument}
use Rattle.rr_eval.specs.declared.problem.Answer.{Answer}
use Rattle.rr_eval.specs.declared.problem.Answer.TheVariants.{Gave}
use Rattle.rr_eval.specs.Frames.{runs_in, first_tree, unwind, Nested}
use Rattle.rr_eval.specs.Requests.{Course}
use Rattle.rr_eval.specs.Rules.{rule, on_value, arguments}
use Rattle.rr_eval.specs.Script.{Script, Go, after}
use Rattle.rr_eval.specs.Splats.{spread}
use Rattle.rr_eval.specs.Turns.{context_of, code_of, state_of, blocks_of, remaining, after_values, IsNested, Stands}
use Rattle.rr_eval.specs.Usual.{Takes, TakesNow, ComesTo, TakeFirst, HoldsMore}
use Rattle.rr_eval.specs.View.{View}
use Rattle.rr_eval.proofs.Entered.{stepped}

-- the state is the same where more values are held
pub same_state : (p : Program) (m n : View) (t : Table) (h : Course) → HoldsMore m n → state_of p n t h ≡ state_of p m t h
same_state p m n t h is =
    let ns = p.nodes.items in
    ap (λ k. record { memory = record { calls = k; blocks = blocks_of ns n.blocks; table = t; rescuing = n.rescuing }; asked = h.asked }) is.calls
    ∙ ap (λ b. record { memory = record { calls = m.calls; blocks = blocks_of ns b; table = t; rescuing = n.rescuing }; asked = h.asked }) is.blocks
    ∙ ap (λ r. record { memory = record { calls = m.calls; blocks = blocks_of ns m.blocks; table = t; rescuing = r }; asked = h.asked }) is.rescuing

pub takes_before : (p : Program) (m n : View) (t : Table) (tree : Tree) (steps : ℕ) (v : Ref) → HoldsMore m n → TakesNow p n t tree steps v → TakesNow p m t tree steps v
takes_before p m n t tree steps v is takes = λ h. subst (λ s. Takes (code_of p h.world) tree s steps v) (same_state p m n t h is) (takes h)

-- a part is evaluated, and then what follows
pub part_comes : (p : Program) (m : View) (t : Table) (tree : Tree) (steps : ℕ) (v : Ref) (next : Answer → Script) → TakesNow p m t tree steps v → ComesTo p m t (Go tree next) steps (next (Gave v))
part_comes p m t tree steps v next takes = λ h n. ap (λ o. after o (λ (a : Answer). runs_in (code_of p h.world) (next a))) (takes h n)

-- one after the other
pub comes_then : (p : Program) (m : View) (t : Table) (a b d : Script) (i j : ℕ) → ComesTo p m t a i b → ComesTo p m t b j d → ComesTo p m t a (i + j) d
comes_then p m t a b d i j first second = λ h n.
    let sum : i + j + n ≡ i + (j + n) = omega arith in
    ap (λ k. runs_in (code_of p h.world) a (state_of p m t h) k) sum ∙ first h (j + n) ∙ second h n

-- the next part of a list, which is no splat
pub argument_comes : (p : Program) (m : View) (t : Table) (end rest steps : ℕ) (v : Ref) (stand : List Ref) (next : List Ref → Script) → is_splat (tree_at p.nodes.items (end - suc rest)) ≡ false → TakesNow p m t (tree_at p.nodes.items (end - suc rest)) steps v
    → ComesTo p m t (arguments (context_of p) (trees_before p.nodes.items end (suc rest)) stand next) steps (arguments (context_of p) (trees_before p.nodes.items end rest) (stand ++ v ∷ []) next)
argument_comes p m t end rest steps v stand next plain takes = λ h n.
    let own = context_of p in
    let ns = p.nodes.items in
    let tree = tree_at ns (end - suc rest) in
    let go_on = λ (ws : List Ref). arguments own (trees_before ns end rest) (stand ++ ws) next in
    part_comes p m t tree steps v (on_value (λ w. spread own (is_splat tree) w go_on)) takes h n
    ∙ ap (λ b. runs_in (code_of p h.world) (spread own b v go_on) (state_of p m t h) n) plain

-- none of the parts is evaluated yet
pub first_none : (p : Program) (m : View) (t : Table) (trees : List Tree) (vs : List Ref) → vs ≡ [] → TakeFirst p m t trees 0 vs trees
first_none p m t trees vs none = λ stand next h n.
    let k : 0 + n ≡ n = omega arith in
    ap (λ i. runs_in (code_of p h.world) (arguments (context_of p) trees stand next) (state_of p m t h) i) k
    ∙ ap (λ l. runs_in (code_of p h.world) (arguments (context_of p) trees l next) (state_of p m t h) n) (sym (append-nil stand) ∙ ap (λ l. stand ++ l) (sym none))

-- one more is
pub first_more : (p : Program) (m : View) (t : Table) (trees : List Tree) (end spent rest steps place more : ℕ) (vs ws : List Ref) (v : Ref) → TakeFirst p m t trees spent vs (trees_before p.nodes.items end rest) → 0 < rest → place ≡ end - rest → more ≡ rest - 1 → ws ≡ vs ++ v ∷ []
    → is_splat (tree_at p.nodes.items place) ≡ false → TakesNow p m t (tree_at p.nodes.items place) steps v → TakeFirst p m t trees (spent + steps) ws (trees_before p.nodes.items end more)
first_more p m t trees end spent zero steps place more vs ws v first some at less is plain takes = absurd (omega (arith, some))
first_more p m t trees end spent (suc rest) steps place more vs ws v first some at less is plain takes = λ stand next.
    let own = context_of p in
    let ns = p.nodes.items in
    let script = λ (k : ℕ) (l : List Ref). arguments own (trees_before ns end k) l next in
    let no_splat = subst (λ i. is_splat (tree_at ns i) ≡ false) at plain in
    let its = subst (λ i. TakesNow p m t (tree_at ns i) steps v) at takes in
    let fewer : rest ≡ more = omega (arith, less) in
    let last = argument_comes p m t end rest steps v (stand ++ vs) next no_splat its in
    let values : (stand ++ vs) ++ v ∷ [] ≡ stand ++ ws = append_assoc stand vs (v ∷ []) ∙ ap (λ l. stand ++ l) (sym is) in
    comes_then p m t (arguments own trees stand next) (script (suc rest) (stand ++ vs)) (script more (stand ++ ws)) spent steps (first stand next)
    (λ h n. last h n ∙ ap (λ l. runs_in (code_of p h.world) (script rest l) (state_of p m t h) n) values ∙ ap (λ k. runs_in (code_of p h.world) (script k (stand ++ ws)) (state_of p m t h) n) fewer)

-- one value more is held
pub holds_more : (m n : View) (held : List Ref) (v : Ref) → HoldsMore m n → length m.held ≤ length n.held → held ≡ n.held ++ v ∷ [] → HoldsMore m (record n { held = held })
holds_more m n held v is le pushed = record {
  control = is.control;
  frames = is.frames;
  held = ap (take (length m.held)) pushed ∙ take-append-le (length m.held) n.held (v ∷ []) le ∙ is.held;
  calls = is.calls;
  blocks = is.blocks;
  rescuing = is.rescuing;
  left = is.left;
}

-- A node comes to what is done with the values that are held.
pub held_comes : (p : Program) (m n : View) (t : Table) (here base steps end : ℕ) (target : Target) (next : Script) (h : Course) → m.control ≡ Enter here → base ≡ length m.held → HoldsMore m n → ComesTo p m t (rule (context_of p) (tree_at p.nodes.items here)) steps next → steps < m.left
    → remaining p m t h ≡ after_values p n t (Argument target end 0 base) next h (n.left - (steps + 1))
held_comes p m n t here base steps end target next h at all is comes less =
    let c = code_of p h.world in
    let s = state_of p m t h in
    let left = is.left in
    let k = n.left - (steps + 1) in
    let tree = tree_at p.nodes.items here in
    let one : m.left ≡ suc (m.left - 1) = omega (arith, less) in
    let others : m.left - 1 ≡ steps + k = omega (arith, less, left) in
    stepped p m t (m.left - 1) tree (ap (first_tree p.nodes.items) at) one h
    ∙ ap (λ i. unwind c (reverse m.frames) m.held (runs_in c (rule (context_of p) tree) s i)) others
    ∙ ap (unwind c (reverse m.frames) m.held) (comes h k)
    ∙ ap (λ fs. unwind c (reverse fs) m.held (runs_in c next s k)) (sym is.frames)
    ∙ ap (λ l. unwind c (reverse n.frames) l (runs_in c next s k)) (sym is.held)
    ∙ ap (λ b. unwind c (reverse n.frames) (take b n.held) (runs_in c next s k)) (sym all)
    ∙ ap (λ x. unwind c (reverse n.frames) (take base n.held) (runs_in c next x k)) (sym (same_state p m n t h is))

-- what stands below them is nested
pub held_nested : (m n : View) (base : ℕ) → base ≡ length m.held → HoldsMore m n → IsNested m → Nested (reverse n.frames) (take base n.held)
held_nested m n base all is nested =
    subst (λ b. Nested (reverse n.frames) (take b n.held)) (sym all) (subst (Nested (reverse n.frames)) (sym is.held) (subst (λ fs. Nested (reverse fs) m.held) (sym is.frames) nested))

-- a growth was refused behind them, and they go
pub stands_below : (m n k : View) (t : Table) (f : Fault) (base : ℕ) (held : List Ref) → base ≡ length m.held → HoldsMore m n → Stands n k t t f → held ≡ take base k.held → Stands m (record k { held = held }) t t f
stands_below m n k t f base held all is stands kept = record {
  control = stands.control ∙ is.control;
  frames = stands.frames ∙ is.frames;
  held = kept ∙ ap (take base) stands.held ∙ ap (λ b. take b n.held) all ∙ is.held;
  calls = stands.calls ∙ is.calls;
  blocks = stands.blocks ∙ is.blocks;
  rescuing = stands.rescuing ∙ is.rescuing;
  left = stands.left ∙ is.left;
  objects = stands.objects;
  refusal = stands.refusal;
}

pub nested_stands : (m n : View) (t : Table) (f : Fault) → Stands m n t t f → IsNested m → IsNested n
nested_stands m n t f is nested = subst (λ fs. Nested (reverse fs) n.held) (sym is.frames) (subst (Nested (reverse m.frames)) (sym is.held) nested)

-- the values that were held more are let go
pub view_back : (m n k : View) (base : ℕ) (held : List Ref) → base ≡ length m.held → HoldsMore m n → k ≡ n → held ≡ take base k.held → record k { held = held } ≡ m
view_back m n k base held at is same cut =
    let there : held ≡ m.held = cut ∙ ap (λ (v : View). take base v.held) same ∙ ap (λ b. take b n.held) at ∙ is.held in
    ap (λ (v : View). record v { held = held }) same
    ∙ ap (λ h. record n { held = h }) there
    ∙ ap (λ x. record n { control = x; held = m.held }) is.control
    ∙ ap (λ x. record n { control = m.control; frames = x; held = m.held }) is.frames
    ∙ ap (λ x. record n { control = m.control; frames = m.frames; held = m.held; calls = x }) is.calls
    ∙ ap (λ x. record n { control = m.control; frames = m.frames; held = m.held; calls = m.calls; blocks = x }) is.blocks
    ∙ ap (λ x. record n { control = m.control; frames = m.frames; held = m.held; calls = m.calls; blocks = m.blocks; rescuing = x }) is.rescuing
    ∙ ap (λ x. record n { control = m.control; frames = m.frames; held = m.held; calls = m.calls; blocks = m.blocks; rescuing = m.rescuing; left = x }) is.left
