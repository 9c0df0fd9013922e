-- A method of the program comes first, and then `loop`.
use Rattle.std.proofs.Common.{◌≡◌, ◌∙◌, ◌+◌, ℕ, nat_eq, Bool, true, false, ◌&&◌, if◌then◌else◌, [], Option, None, Some, ap, sym}
use Rattle.std.specs.Option.{option_map}
use Rattle.rr_tree.specs.Nodes.{trees_before}
use Rattle.rr_tree.specs.Tree.{Tree, tree_at}
use Rattle.rr_eval.specs.Prepared.{callable_of}
use Rattle.rr_base.specs.declared.name.Sym.{Sym}
use Rattle.rr_space.specs.Tables.{Table}
use Rattle.rr_tree.specs.declared.program.Program.{Program}
use Rattle.rr_eval.specs.Methods.{Callable}
use Rattle.rr_eval.specs.Requests.{Course}
use Rattle.rr_eval.specs.Rules.{arguments, block_call_rule, loops, not_here, only_own, self_rule}
use Rattle.rr_eval.specs.View.{View}
use Rattle.rr_eval.specs.Turns.{context_of, after_script}
use Rattle.rr_eval.specs.Views.{view_of}
use Rattle.rr_eval.proofs.Invoking.{if_ok}
use Rattle.rr_eval.proofs.Looping.{looped, not_looped}
use Rattle.rr_eval.proofs.engine.Engine.open_block_call.Goals as goal

pub returns-in-Some-clause-goes : goal.returns-in-Some-clause-goes
returns-in-Some-clause-goes c =
    let p = c.args.prepared.now.program in
    let own = context_of p in
    let x = c.args.name.0 in
    let b = tree_at p.nodes.items c.args.block in
    let ts = trees_before p.nodes.items (c.args.first + c.args.count) c.args.count in
    if_ok c.open_own.result _ _
    (λ q goes h n.
    ap (λ f. after_script p (view_of c.args.self.now) c.args.space.now (block_call_rule own f (loops own x) (only_own own x) c.args.name ts b) h n) (sym (c.own_method.ensures h) ∙ ap (option_map (callable_of p.nodes.items)) c.in-Some.is)
    ∙ goes h n)
    c.open_own.ensures.goes

pub returns-in_ok-open_loop-in-None-clause-goes : goal.returns-in_ok-open_loop-in-None-clause-goes
returns-in_ok-open_loop-in-None-clause-goes c h n =
    let p = c.args.prepared.now.program in
    let own = context_of p in
    let x = c.args.name in
    let ns = p.nodes.items in
    let b = tree_at ns c.args.block in
    let m = view_of c.args.self.now in
    let t = c.args.space.now in
    let ts = trees_before ns (c.args.first + c.args.count) c.args.count in
    ap (λ f. after_script p m t (block_call_rule own f (loops own x.0) (only_own own x.0) x ts b) h n) (sym (c.own_method.ensures h) ∙ ap (option_map (callable_of ns)) c.in-None.is)
    ∙ ap (λ r. after_script p m t r h n) (looped ns own (loops own x.0) (only_own own x.0) x c.args.first c.args.count b (sym c.starts_loop.ensures ∙ c.if-starts_loop.true))
    ∙ c.in_ok-open_loop-in-None.ensures.goes h n

-- a name that only `self` has, or another
others : (p : Program) (m : View) (t : Table) (f : Option Callable) (x : Sym) (first count : ℕ) (b : Tree) (own : Bool) (h : Course) (n : ℕ) → f ≡ None → nat_eq count 0 && loops (context_of p) x.0 ≡ false → only_own (context_of p) x.0 ≡ own
    → after_script p m t (block_call_rule (context_of p) f (loops (context_of p) x.0) (only_own (context_of p) x.0) x (trees_before p.nodes.items (first + count) count) b) h n
    ≡ after_script p m t (if own then not_here (context_of p) else arguments (context_of p) (trees_before p.nodes.items (first + count) count) [] (self_rule (context_of p) x (Some b))) h n
others p m t f x first count b own h n none unlooped is =
    let c = context_of p in
    let ts = trees_before p.nodes.items (first + count) count in
    ap (λ g. after_script p m t (block_call_rule c g (loops c x.0) (only_own c x.0) x ts b) h n) none
    ∙ ap (λ r. after_script p m t r h n) (not_looped p.nodes.items c (loops c x.0) (only_own c x.0) x first count b unlooped)
    ∙ ap (λ o. after_script p m t (if o then not_here c else arguments c ts [] (self_rule c x (Some b))) h n) is

pub returns-in-None-2-clause-goes : goal.returns-in-None-2-clause-goes
returns-in-None-2-clause-goes c h n =
    let p = c.args.prepared.now.program in
    others p (view_of c.args.self.now) c.args.space.now _ c.args.name c.args.first c.args.count (tree_at p.nodes.items c.args.block) true h n (sym (c.own_method.ensures h) ∙ ap (option_map (callable_of p.nodes.items)) c.in-None-2.is) (sym c.starts_loop.ensures ∙ c.if-starts_loop.false) (sym c.is_only_own.ensures ∙ c.if-is_only_own.true)

pub returns-in-None-3-clause-goes : goal.returns-in-None-3-clause-goes
returns-in-None-3-clause-goes c =
    let p = c.args.prepared.now.program in
    if_ok c.open_own-in-None-3.result _ _
    (λ q goes h n.
    others p (view_of c.args.self.now) c.args.space.now _ c.args.name c.args.first c.args.count (tree_at p.nodes.items c.args.block) false h n (sym (c.own_method.ensures h) ∙ ap (option_map (callable_of p.nodes.items)) c.in-None-3.is) (sym c.starts_loop.ensures ∙ c.if-starts_loop.false) (sym c.is_only_own.ensures ∙ c.if-is_only_own.false)
    ∙ goes h n)
    c.open_own-in-None-3.ensures.goes
