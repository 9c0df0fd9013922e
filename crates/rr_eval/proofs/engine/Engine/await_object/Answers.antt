-- A new object is made for the frame that initializes it.
use Rattle.std.proofs.Common.{◌∙◌, ap, sym, refl, drop, take, reverse, None}
use Rattle.std.specs.Option.{option_map}
use Rattle.rr_builtin.proofs.Gathering.{append_nil}
use Rattle.rr_space.specs.declared.refer.Ref.TheVariants.{Nil}
use Rattle.rr_tree.specs.Tree.{tree_at}
use Rattle.rr_eval.specs.declared.frame.Control.TheVariants.{New}
use Rattle.rr_eval.specs.declared.frame.Frame.TheVariants.{Initialize}
use Rattle.rr_eval.specs.Dispatch.{made_rule, passed_on}
use Rattle.rr_eval.specs.Frames.{outcome_of, runs_in, unwind}
use Rattle.rr_eval.specs.Turns.{code_of, state_of}
use Rattle.rr_eval.specs.Views.{view_of}
use Rattle.rr_eval.specs.Within.{IsReached}
use Rattle.rr_eval.proofs.Holding.{all_nil, new_reached}
use Rattle.rr_eval.proofs.Unwind.{begins_new}
use Rattle.rr_eval.proofs.engine.Engine.await_object.Goals as goal

pub returns-clause-goes : goal.returns-clause-goes
returns-clause-goes c p t h n =
    let m = view_of c.args.self.now in
    let code = code_of p h.world in
    let s = state_of p m t h in
    let x = c.args.making in
    ap (λ vs. unwind code (reverse m.frames) (take x.base m.held) (runs_in code (made_rule code.context x.class Nil x.raises (option_map (tree_at code.nodes) x.block) (passed_on x.passing vs)) s n)) (append_nil (drop x.base m.held))
    ∙ begins_new code m.frames x Nil (Initialize x) m.held m.held None s n (append_nil m.held) c.requires.base refl refl
    ∙ ap (λ fs. outcome_of code fs m.held (New x.class Nil) s n) (sym c.push_within.ensures)

pub returns-clause-within : goal.returns-clause-within
returns-clause-within c k h =
    let m = view_of c.args.self.now in
    new_reached k m c.args.making Nil _ m.held None c.push_within.ensures (append_nil m.held) h tt (all_nil (IsReached k))
