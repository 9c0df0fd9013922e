-- The program's `initialize` has the values that stand for the frame.
use Rattle.std.proofs.Common.{◌∙◌, ◌++◌, ℕ, None, ap, sym, subst, drop}
use Rattle.std.specs.Option.{option_map}
use Rattle.rr_frames.specs.Frames.{list_of}
use Rattle.rr_space.specs.Tables.{Table}
use Rattle.rr_tree.specs.Tree.{tree_at}
use Rattle.rr_eval.specs.declared.call_stack.CallValue.{CallValue}
use Rattle.rr_eval.specs.declared.frame.Control.TheVariants.{Give}
use Rattle.rr_eval.specs.declared.frame.Frame.TheVariants.{Initialize}
use Rattle.rr_eval.specs.declared.problem.Answer.TheVariants.{Gave}
use Rattle.rr_eval.specs.Frames.{outcome_of}
use Rattle.rr_eval.specs.Begun.{IsBegun}
use Rattle.rr_eval.specs.Blocks.{valued}
use Rattle.rr_eval.specs.Dispatch.{made_value, passed_on, run_work}
use Rattle.rr_eval.specs.Methods.{Runs}
use Rattle.rr_eval.specs.Prepared.{method_of}
use Rattle.rr_eval.specs.Requests.{Course}
use Rattle.rr_eval.specs.Turns.{context_of, code_of, state_of, after_values}
use Rattle.rr_eval.specs.Views.{view_of}
use Rattle.rr_eval.proofs.Holding.{with_cleared}
use Rattle.rr_eval.proofs.Invoking.{on_ok}
use Rattle.rr_eval.proofs.NewObjects.{initializes, initializes_none, made_is_begun}
use Rattle.rr_eval.proofs.engine.Engine.initialize.Goals as goal

pub returns-in-Some-clause-goes : goal.returns-in-Some-clause-goes
returns-in-Some-clause-goes c =
    let p = c.args.prepared.now.program in
    let m = view_of c.args.self.now in
    let x = c.args.making in
    let f = c.in-Some.method in
    let ns = p.nodes.items in
    let b = option_map (tree_at ns) x.block in
    let runs = λ (by : CallValue) (t : Table) (h : Course) (n : ℕ). after_values p m t (Initialize x) (run_work (context_of p) f.class (Runs (method_of ns f.body)) (record { receiver = c.args.object; block = c.handed_by.result; tree = b; value = by }) (passed_on x.passing (drop x.base m.held ++ list_of None))) h n in
    on_ok c.run_usual.result _ _
    (λ goes t h n.
    initializes p m t x c.args.object c.initializer.result f c.handed_by.result h n c.initializer.ensures c.in-Some.is (c.handed_by.ensures p)
    ∙ ap (λ by. runs by t h n) (sym c.made_value.ensures.is)
    ∙ goes p t h n)
    c.run_usual.ensures.goes

pub returns-in-None-clause-goes : goal.returns-in-None-clause-goes
returns-in-None-clause-goes c t h n =
    let p = c.args.prepared.now.program in
    let m = view_of c.args.self.now in
    initializes_none p m t c.args.making c.args.object c.initializer.result h n c.initializer.ensures c.in-None.is
    ∙ ap (λ held. outcome_of (code_of p h.world) m.frames held (Give (valued (made_value c.args.making.raises c.args.object) (Gave c.args.object))) (state_of p m t h) n) (sym c.clear.ensures)
    ∙ ap (λ a. outcome_of (code_of p h.world) m.frames c.clear.new.held.items (Give a) (state_of p m t h) n) (sym c.made.ensures.is)

pub returns-in-None-clause-within : goal.returns-in-None-clause-within
returns-in-None-clause-within c k h object = with_cleared k (view_of c.args.self.now) (Initialize c.args.making) c.clear.new.held.items (Give c.made.result) c.clear.ensures h (c.made.ensures.within k object)

pub returns-in-None-clause-begun : goal.returns-in-None-clause-begun
returns-in-None-clause-begun c = subst (λ a. IsBegun (Give a)) (sym c.made.ensures.is) (made_is_begun c.args.making.raises c.args.object)
