-- What is done with values, the last of which came last.
use Rattle.std.proofs.lemmas.List.{drop_all, take_all}
use Rattle.std.proofs.Common.{◌≡◌, ◌≤◌, ◌∙◌, ◌-◌, ℕ, suc, sym, length, ap, false, List, [], ◌∷◌, ◌++◌, take, drop, reverse, slice_index_or, Some, None}
use Rattle.rr_parser.specs.Grammar.Names.{is_splat}
use Rattle.rr_base.specs.declared.name.Sym.{Sym}
use Rattle.rr_space.specs.Tables.{Table}
use Rattle.rr_space.specs.declared.refer.Ref.{Ref}
use Rattle.rr_space.specs.declared.refer.Ref.TheVariants.{Nil}
use Rattle.rr_tree.specs.declared.program.Program.{Program}
use Rattle.rr_tree.specs.Nodes.{trees_before}
use Rattle.rr_tree.specs.Tree.{tree_at}
use Rattle.rr_eval.specs.declared.call.Callee.TheVariants.{Name}
use Rattle.rr_eval.specs.declared.call.Target.{Target}
use Rattle.rr_eval.specs.declared.frame.Control.TheVariants.{Give}
use Rattle.rr_eval.specs.declared.frame.Frame.{Frame}
use Rattle.rr_eval.specs.declared.frame.Frame.TheVariants.{Argument, Item, Receiver}
use Rattle.rr_eval.specs.declared.problem.Answer.TheVariants.{Gave}
use Rattle.rr_eval.specs.Dispatch.{dispatched, method_for, run_method, way_of}
use Rattle.rr_eval.specs.Frames.{runs_in, unwind}
use Rattle.rr_eval.specs.Methods.{Callable}
use Rattle.rr_eval.specs.Requests.{Course}
use Rattle.rr_eval.specs.Rules.{on_value, arguments, finish}
use Rattle.rr_eval.specs.Script.{Go}
use Rattle.rr_eval.specs.Splats.{spread}
use Rattle.rr_eval.specs.Turns.{context_of, code_of, state_of, after_answer, after_values, remaining_with}
use Rattle.rr_eval.specs.Updating.{sent_first}
use Rattle.rr_eval.specs.Usual.{GivesAtOnce}
use Rattle.rr_eval.specs.View.{View}

-- the first of them is sent the others, and has a method of the program
pub run_first : (p : Program) (m : View) (t : Table) (f : Frame) (x : Sym) (method : Callable) (vs : List Ref) (v : Ref) (h : Course) (n : ℕ) → Some method ≡ method_for (context_of p) t (slice_index_or (vs ++ v ∷ []) 0 Nil) (Name x)
    → after_values p m t f (sent_first (context_of p) (Name x) (vs ++ v ∷ [])) h n
    ≡ after_values p m t f (run_method (context_of p) method (way_of (Name x) None (slice_index_or (vs ++ v ∷ []) 0 Nil) (drop 1 (vs ++ v ∷ []))) (drop 1 (vs ++ v ∷ []))) h n
run_first p m t f x method [] v h n is = ap (λ g. after_values p m t f (dispatched (context_of p) g (Name x) None v []) h n) (sym is)
run_first p m t f x method (u ∷ us) v h n is = ap (λ g. after_values p m t f (dispatched (context_of p) g (Name x) None u (us ++ v ∷ [])) h n) (sym is)

-- one part that is still to be evaluated, and is no splat, is kept as a receiver's only argument is
pub one_waits : (p : Program) (m : View) (t : Table) (target : Target) (end base : ℕ) (v : Ref) (h : Course) (n : ℕ) → is_splat (tree_at p.nodes.items (end - 1)) ≡ false
    → after_answer p m t (Argument target end 1 base) (Gave v) h n ≡ after_answer p m t (Receiver target end 1 base) (Gave v) h n
one_waits p m t target end base v h n plain =
    let own = context_of p in
    let code = code_of p h.world in
    ap (λ b. unwind code (reverse m.frames) (take base m.held) (runs_in code (Go (tree_at p.nodes.items (end - 1)) (on_value (λ w. spread own b w (λ ws. finish own target ((drop base m.held ++ v ∷ []) ++ ws))))) (state_of p m t h) n)) (sym plain)

-- a part of a list that is no splat is kept as a receiver is
pub item_waits : (p : Program) (m : View) (t : Table) (target : Target) (end count base : ℕ) (v : Ref) (h : Course) (n : ℕ) → is_splat (tree_at p.nodes.items (end - suc count)) ≡ false
    → after_answer p m t (Item target end count base) (Gave v) h n ≡ after_answer p m t (Receiver target end count base) (Gave v) h n
item_waits p m t target end count base v h n plain =
    let own = context_of p in
    let code = code_of p h.world in
    let next = λ (ws : List Ref). arguments own (trees_before p.nodes.items end count) (drop base m.held ++ ws) (finish own target) in
    ap (λ b. unwind code (reverse m.frames) (take base m.held) (runs_in code (spread own b v next) (state_of p m t h) n)) plain

-- a receiver for which no value stands, and what is done with it has a value at once
pub reads_at_once : (p : Program) (m : View) (t : Table) (target : Target) (end base : ℕ) (v r : Ref) (h : Course) (n : ℕ) → length m.held ≤ base → GivesAtOnce p t (finish (context_of p) target (v ∷ [])) r
    → after_answer p m t (Receiver target end 0 base) (Gave v) h n ≡ remaining_with p (record m { control = Give (Gave r) }) t h n
reads_at_once p m t target end base v r h n none gives =
    let own = context_of p in
    let code = code_of p h.world in
    ap (λ vs. unwind code (reverse m.frames) (take base m.held) (runs_in code (finish own target (vs ++ v ∷ [])) (state_of p m t h) n)) (drop_all base m.held none)
    ∙ ap (λ held. unwind code (reverse m.frames) held (runs_in code (finish own target (v ∷ [])) (state_of p m t h) n)) (take_all base m.held none)
    ∙ ap (unwind code (reverse m.frames) m.held) (gives m h n)
