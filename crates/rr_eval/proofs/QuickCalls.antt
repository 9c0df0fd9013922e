-- Calls with arguments that need no frame.
use Rattle.std.proofs.Common.{◌≡◌, ℕ, suc, ◌+◌, ◌-◌, ◌<◌, sym, ap, ◌∙◌, arith, false, List, [], ◌∷◌, ◌++◌, length, drop, reverse, subst, Some, None}
use Rattle.rr_base.specs.declared.name.Sym.{Sym}
use Rattle.rr_parser.specs.Grammar.Names.{is_splat}
use Rattle.rr_space.specs.Tables.{Table}
use Rattle.rr_space.specs.declared.refer.Ref.{Ref}
use Rattle.rr_tree.specs.Nodes.{trees_before}
use Rattle.rr_builtin.proofs.Gathering.{append_nil}
use Rattle.rr_frames.specs.Frames.{Stack}
use Rattle.rr_tree.specs.Tree.{Tree, tree_at}
use Rattle.rr_tree.specs.declared.program.Program.{Program}
use Rattle.rr_eval.specs.declared.call.Callee.TheVariants.{Name}
use Rattle.rr_eval.specs.declared.call.Target.TheVariants.{Own, Yield}
use Rattle.rr_eval.specs.declared.frame.Control.TheVariants.{Enter}
use Rattle.rr_eval.specs.declared.frame.Frame.TheVariants.{Argument}
use Rattle.rr_eval.specs.declared.problem.Answer.{Answer}
use Rattle.rr_eval.specs.Blocks.{running, yield_rule}
use Rattle.rr_eval.specs.Dispatch.{dispatched, run_method, way_of}
use Rattle.rr_eval.specs.Frames.{means, runs_in, first_tree, unwind}
use Rattle.rr_eval.specs.Methods.{Callable}
use Rattle.rr_eval.specs.Requests.{Course}
use Rattle.rr_eval.specs.Rules.{rule, on_value, arguments, finish, call_rule, own_method, printing, raises, awaited}
use Rattle.rr_eval.specs.Script.{Script, See, after}
use Rattle.rr_eval.specs.Splats.{spread}
use Rattle.rr_eval.specs.Turns.{context_of, code_of, state_of, remaining, after_script, after_values}
use Rattle.rr_eval.specs.Usual.{TakesNow, ComesTo, TakeFirst, HoldsMore}
use Rattle.rr_eval.specs.View.{View}
use Rattle.rr_eval.proofs.Entered.{stepped}
use Rattle.rr_eval.proofs.QuickParts.{held_comes}

-- the argument's value
pub argument_first : (p : Program) (m : View) (t : Table) (first steps : ℕ) (v : Ref) (next : List Ref → Script) (h : Course) → is_splat (tree_at p.nodes.items first) ≡ false → TakesNow p m t (tree_at p.nodes.items first) steps v → steps < m.left
    → after_script p m t (arguments (context_of p) (trees_before p.nodes.items (first + 1) 1) [] next) h (m.left - 1) ≡ after_script p m t (next (v ∷ [])) h (m.left - (steps + 1))
argument_first p m t first steps v next h plain takes less =
    let ns = p.nodes.items in
    let own = context_of p in
    let c = code_of p h.world in
    let s = state_of p m t h in
    let n = m.left - (steps + 1) in
    let place : first + 1 - 1 ≡ first = omega arith in
    let others : m.left - 1 ≡ steps + n = omega (arith, less) in
    let go_on = λ (a : Answer). runs_in c (on_value (λ w. spread own (is_splat (tree_at ns first)) w (λ ws. arguments own [] ([] ++ ws) next)) a) in
    ap (λ i. after_script p m t (arguments own (tree_at ns i ∷ []) [] next) h (m.left - 1)) place
    ∙ ap (λ k. unwind c (reverse m.frames) m.held (after (means c (tree_at ns first) s k) go_on)) others
    ∙ ap (λ o. unwind c (reverse m.frames) m.held (after o go_on)) (takes h n)
    ∙ ap (λ b. unwind c (reverse m.frames) m.held (runs_in c (spread own b v (λ ws. arguments own [] ([] ++ ws) next)) s n)) plain

-- a method of the program is called on `self`
pub own_called : (p : Program) (m : View) (t : Table) (here first steps : ℕ) (x : Sym) (f : Callable) (v : Ref) (h : Course) → m.control ≡ Enter here
    → rule (context_of p) (tree_at p.nodes.items here) ≡ See (λ k. call_rule (context_of p) (own_method (context_of p) x.0 k) (printing (context_of p) x.0) (raises (context_of p) x.0) (awaited (context_of p) x.0) x (trees_before p.nodes.items (first + 1) 1))
    → is_splat (tree_at p.nodes.items first) ≡ false → Some f ≡ own_method (context_of p) x.0 (state_of p m t h).memory → TakesNow p m t (tree_at p.nodes.items first) steps v → steps < m.left
    → remaining p m t h ≡ after_script p m t (run_method (context_of p) f (way_of (Name x) None (running m.calls.frames).itself (v ∷ [])) (v ∷ [])) h (m.left - (steps + 1))
own_called p m t here first steps x f v h at script plain method takes less =
    let ns = p.nodes.items in
    let own = context_of p in
    let one : m.left ≡ suc (m.left - 1) = omega (arith, less) in
    stepped p m t (m.left - 1) (tree_at ns here) (ap (first_tree ns) at) one h
    ∙ ap (λ r. after_script p m t r h (m.left - 1)) script
    ∙ ap (λ g. after_script p m t (call_rule own g (printing own x.0) (raises own x.0) (awaited own x.0) x (trees_before ns (first + 1) 1)) h (m.left - 1)) (sym method)
    ∙ argument_first p m t first steps v (finish own (Own x None)) h plain takes less
    ∙ ap (λ g. after_script p m t (dispatched own g (Name x) None (running m.calls.frames).itself (v ∷ [])) h (m.left - (steps + 1))) (sym method)

-- a block is called
pub one_yielded : (p : Program) (m : View) (t : Table) (here first steps : ℕ) (v : Ref) (h : Course) → m.control ≡ Enter here
    → rule (context_of p) (tree_at p.nodes.items here) ≡ arguments (context_of p) (trees_before p.nodes.items (first + 1) 1) [] (finish (context_of p) Yield)
    → is_splat (tree_at p.nodes.items first) ≡ false → TakesNow p m t (tree_at p.nodes.items first) steps v → steps < m.left
    → remaining p m t h ≡ after_script p m t (yield_rule (context_of p) (v ∷ [])) h (m.left - (steps + 1))
one_yielded p m t here first steps v h at script plain takes less =
    let ns = p.nodes.items in
    let own = context_of p in
    let one : m.left ≡ suc (m.left - 1) = omega (arith, less) in
    stepped p m t (m.left - 1) (tree_at ns here) (ap (first_tree ns) at) one h
    ∙ ap (λ r. after_script p m t r h (m.left - 1)) script
    ∙ argument_first p m t first steps v (finish own Yield) h plain takes less

-- A method of the program is called on `self` with parts of which the first are evaluated at once.
pub own_comes : (p : Program) (m : View) (t : Table) (here steps : ℕ) (x : Sym) (f : Callable) (trees others : List Tree) (vs : List Ref)
    → rule (context_of p) (tree_at p.nodes.items here) ≡ See (λ k. call_rule (context_of p) (own_method (context_of p) x.0 k) (printing (context_of p) x.0) (raises (context_of p) x.0) (awaited (context_of p) x.0) x trees)
    → ((h : Course) → Some f ≡ own_method (context_of p) x.0 (state_of p m t h).memory) → TakeFirst p m t trees steps vs others
    → ComesTo p m t (rule (context_of p) (tree_at p.nodes.items here)) steps (arguments (context_of p) others vs (finish (context_of p) (Own x None)))
own_comes p m t here steps x f trees others vs script method takes = λ h n.
    let own = context_of p in
    let c = code_of p h.world in
    let s = state_of p m t h in
    ap (λ r. runs_in c r s (steps + n)) script
    ∙ ap (λ g. runs_in c (call_rule own g (printing own x.0) (raises own x.0) (awaited own x.0) x trees) s (steps + n)) (sym (method h))
    ∙ takes [] (finish own (Own x None)) h n

-- it runs with the values of all, which are held
pub own_held : (p : Program) (m n : View) (t : Table) (here base steps end rest : ℕ) (x : Sym) (f : Callable) (trees : List Tree) (h : Course) → m.control ≡ Enter here
    → rule (context_of p) (tree_at p.nodes.items here) ≡ See (λ k. call_rule (context_of p) (own_method (context_of p) x.0 k) (printing (context_of p) x.0) (raises (context_of p) x.0) (awaited (context_of p) x.0) x trees)
    → ((h : Course) → Some f ≡ own_method (context_of p) x.0 (state_of p m t h).memory) → base ≡ length m.held → HoldsMore m n → TakeFirst p m t trees steps (drop (length m.held) n.held) (trees_before p.nodes.items end rest) → rest ≡ 0 → steps < m.left
    → remaining p m t h ≡ after_values p n t (Argument (Own x None) end 0 base) (run_method (context_of p) f (way_of (Name x) None (running n.calls.frames).itself (drop base n.held ++ [])) (drop base n.held ++ [])) h (n.left - (steps + 1))
own_held p m n t here base steps end rest x f trees h at script method all is takes none less =
    let own = context_of p in
    let vs = drop (length m.held) n.held in
    let frame = Argument (Own x None) end 0 base in
    let k = n.left - (steps + 1) in
    let others = subst (λ r. TakeFirst p m t trees steps vs (trees_before p.nodes.items end r)) none takes in
    let comes : ComesTo p m t (rule own (tree_at p.nodes.items here)) steps (run_method own f (way_of (Name x) None (running m.calls.frames).itself vs) vs) = λ g i.
    own_comes p m t here steps x f trees [] vs script method others g i
    ∙ ap (λ o. runs_in (code_of p g.world) (dispatched own o (Name x) None (running m.calls.frames).itself vs) (state_of p m t g) i) (sym (method g)) in
    held_comes p m n t here base steps end (Own x None) (run_method own f (way_of (Name x) None (running m.calls.frames).itself vs) vs) h at all is comes less
    ∙ ap (λ (l : List Ref). after_values p n t frame (run_method own f (way_of (Name x) None (running m.calls.frames).itself l) l) h k) (ap (λ b. drop b n.held) (sym all) ∙ append_nil (drop base n.held))
    ∙ ap (λ (fs : Stack). after_values p n t frame (run_method own f (way_of (Name x) None (running fs.frames).itself (drop base n.held ++ [])) (drop base n.held ++ [])) h k) (sym is.calls)

-- the next part is evaluated
pub own_waits : (p : Program) (m n : View) (t : Table) (here base steps end rest : ℕ) (x : Sym) (f : Callable) (trees : List Tree) (h : Course) → m.control ≡ Enter here
    → rule (context_of p) (tree_at p.nodes.items here) ≡ See (λ k. call_rule (context_of p) (own_method (context_of p) x.0 k) (printing (context_of p) x.0) (raises (context_of p) x.0) (awaited (context_of p) x.0) x trees)
    → ((h : Course) → Some f ≡ own_method (context_of p) x.0 (state_of p m t h).memory) → base ≡ length m.held → HoldsMore m n → TakeFirst p m t trees steps (drop (length m.held) n.held) (trees_before p.nodes.items end rest) → steps < m.left
    → remaining p m t h ≡ after_values p n t (Argument (Own x None) end 0 base) (arguments (context_of p) (trees_before p.nodes.items end rest) (drop base n.held) (finish (context_of p) (Own x None))) h (n.left - (steps + 1))
own_waits p m n t here base steps end rest x f trees h at script method all is takes less =
    let others = trees_before p.nodes.items end rest in
    let its = subst (λ b. TakeFirst p m t trees steps (drop b n.held) others) (sym all) takes in
    held_comes p m n t here base steps end (Own x None) (arguments (context_of p) others (drop base n.held) (finish (context_of p) (Own x None))) h at all is (own_comes p m t here steps x f trees others (drop base n.held) script method its) less

-- A block is called with parts of which the first are evaluated at once.
pub yield_comes : (p : Program) (m : View) (t : Table) (here steps : ℕ) (trees others : List Tree) (vs : List Ref) → rule (context_of p) (tree_at p.nodes.items here) ≡ arguments (context_of p) trees [] (finish (context_of p) Yield) → TakeFirst p m t trees steps vs others
    → ComesTo p m t (rule (context_of p) (tree_at p.nodes.items here)) steps (arguments (context_of p) others vs (finish (context_of p) Yield))
yield_comes p m t here steps trees others vs script takes = λ h n.
    ap (λ r. runs_in (code_of p h.world) r (state_of p m t h) (steps + n)) script ∙ takes [] (finish (context_of p) Yield) h n

-- it is given the values of all, which are held
pub yield_held : (p : Program) (m n : View) (t : Table) (here base steps end rest : ℕ) (trees : List Tree) (h : Course) → m.control ≡ Enter here → rule (context_of p) (tree_at p.nodes.items here) ≡ arguments (context_of p) trees [] (finish (context_of p) Yield)
    → base ≡ length m.held → HoldsMore m n → TakeFirst p m t trees steps (drop (length m.held) n.held) (trees_before p.nodes.items end rest) → rest ≡ 0 → steps < m.left
    → remaining p m t h ≡ after_values p n t (Argument Yield end 0 base) (yield_rule (context_of p) (drop base n.held ++ [])) h (n.left - (steps + 1))
yield_held p m n t here base steps end rest trees h at script all is takes none less =
    let vs = drop (length m.held) n.held in
    let others = subst (λ r. TakeFirst p m t trees steps vs (trees_before p.nodes.items end r)) none takes in
    held_comes p m n t here base steps end Yield (yield_rule (context_of p) vs) h at all is (yield_comes p m t here steps trees [] vs script others) less
    ∙ ap (λ (l : List Ref). after_values p n t (Argument Yield end 0 base) (yield_rule (context_of p) l) h (n.left - (steps + 1))) (ap (λ b. drop b n.held) (sym all) ∙ append_nil (drop base n.held))

-- the next part is evaluated
pub yield_waits : (p : Program) (m n : View) (t : Table) (here base steps end rest : ℕ) (trees : List Tree) (h : Course) → m.control ≡ Enter here → rule (context_of p) (tree_at p.nodes.items here) ≡ arguments (context_of p) trees [] (finish (context_of p) Yield)
    → base ≡ length m.held → HoldsMore m n → TakeFirst p m t trees steps (drop (length m.held) n.held) (trees_before p.nodes.items end rest) → steps < m.left
    → remaining p m t h ≡ after_values p n t (Argument Yield end 0 base) (arguments (context_of p) (trees_before p.nodes.items end rest) (drop base n.held) (finish (context_of p) Yield)) h (n.left - (steps + 1))
yield_waits p m n t here base steps end rest trees h at script all is takes less =
    let others = trees_before p.nodes.items end rest in
    let its = subst (λ b. TakeFirst p m t trees steps (drop b n.held) others) (sym all) takes in
    held_comes p m n t here base steps end Yield (arguments (context_of p) others (drop base n.held) (finish (context_of p) Yield)) h at all is (yield_comes p m t here steps trees others (drop base n.held) script its) less
