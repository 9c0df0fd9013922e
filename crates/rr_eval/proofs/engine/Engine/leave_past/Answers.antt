-- A block ends with what its statements end with.
use Rattle.std.proofs.Common.{◌∙◌, ap, sym}
use Rattle.rr_eval.specs.Blocks.{left_block, owner_in, running}
use Rattle.rr_eval.specs.Script.{See}
use Rattle.rr_eval.specs.Turns.{context_of, after_script}
use Rattle.rr_eval.specs.Views.{view_of}
use Rattle.rr_eval.proofs.Holding.{with_control}
use Rattle.rr_eval.proofs.engine.Engine.leave_past.Goals as goal

pub returns-clause-goes : goal.returns-clause-goes
returns-clause-goes c p t h n =
    let m = view_of c.args.self.now in
    let u = view_of c.drop_frame.new.self in
    let root = (running m.calls.frames).root in
    let owner = owner_in (running u.calls.frames) in
    c.drop_frame.ensures.goes p (See (λ k. left_block (context_of p) (owner_in (running k.calls.frames)) root c.args.answer)) t h n
    ∙ ap (λ r. after_script p u t (left_block (context_of p) owner r c.args.answer) h n) (ap (λ a. a.root) (sym c.running-root.ensures))
    ∙ ap (λ r. after_script p u t (left_block (context_of p) r c.running-root.result.root c.args.answer) h n) (ap owner_in (sym c.running.ensures) ∙ sym c.owner_in-owner.ensures)
    ∙ c.left_block-self.ensures.goes p u t h n

pub returns-clause-within : goal.returns-clause-within
returns-clause-within c k h answer = with_control k (view_of c.drop_frame.new.self) c.left_block-self.result (c.drop_frame.ensures.within k h) (c.left_block-self.ensures.within k answer)
