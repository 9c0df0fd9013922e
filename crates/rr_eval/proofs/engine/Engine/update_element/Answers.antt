-- The element is read, over its receiver and its index.
use Rattle.std.proofs.Common.{◌≡◌, ◌∙◌, ◌+◌, ◌-◌, ◌≤◌, ◌++◌, ◌∷◌, [], ap, arith, drop, length, refl, Some}
use Rattle.std.proofs.Math.Seq.{drop-append_seam}
use Rattle.rr_eval.specs.declared.call.Callee.TheVariants.{Index, Operator, SetIndex}
use Rattle.rr_eval.specs.declared.call.Target.{Target}
use Rattle.rr_eval.specs.declared.call.Target.TheVariants as targets
use Rattle.rr_eval.specs.declared.frame.Frame.TheVariants.{Argument}
use Rattle.rr_eval.specs.declared.updating.Place.TheVariants.{Sent}
use Rattle.rr_eval.specs.declared.updating.Update.TheVariants.{Combine}
use Rattle.rr_eval.specs.declared.updating.Updating.{Updating}
use Rattle.rr_eval.specs.Turns.{state_of, remaining_with}
use Rattle.rr_eval.specs.Views.{view_of}
use Rattle.rr_eval.specs.Within.{reach, IsReached}
use Rattle.rr_eval.proofs.Holding.{all_cons, all_nil, with_left, with_value}
use Rattle.rr_eval.proofs.QuickParts.{held_nested}
use Rattle.rr_eval.proofs.QuickSends.{holds_behind, holds_push, last_comes, pair_first}
use Rattle.rr_eval.proofs.Updates.{reads_over}
use Rattle.rr_eval.proofs.engine.Engine.update_element.Goals as goal

pub send_over-requires-clause-nested : goal.send_over-requires-clause-nested
send_over-requires-clause-nested c =
    let m = view_of c.args.self.now in
    let ones = c.push_reserved.new.self.items in
    let all = c.push_reserved-2.new.self.items in
    held_nested m (record m { held = all }) c.len-base.result (omega arith) (holds_behind m (record m { held = all }) ones c.in-Some.found.value c.push_reserved.ensures.items (holds_push (record m { held = ones }) all c.in-Some-quick_before.last.value c.push_reserved-2.ensures.items)) c.requires.nested

pub returns-clause-goes : goal.returns-clause-goes
returns-clause-goes c = λ _ h.
    let p = c.args.prepared.now.program in
    let t = c.args.space.now in
    let m = view_of c.args.self.now in
    let found = c.in-Some.found in
    let last = c.in-Some-quick_before.last in
    let base = c.len-base.result in
    let ones = c.push_reserved.new.self.items in
    let all = c.push_reserved-2.new.self.items in
    let n = record m { held = ones } in
    let how = Combine (Operator c.args.op) in
    let target : Target = targets.Update Index SetIndex how c.args.part in
    let u : Updating = record { place = Sent SetIndex; how = how; value = c.args.part; base = base } in
    let at : base ≡ length m.held = omega arith in
    let pushed = c.push_reserved.ensures.items in
    let enough = c.in-Some.ensures.enough in
    let more = c.in-Some-quick_before.ensures.enough in
    let before = c.steps_together-before.ensures in
    let k = m.left - (found.steps + last.steps + 1) in
    let over : base ≤ length ones = omega arith in
    let are = ap (λ l. l ++ last.value ∷ []) (ap (drop base) pushed ∙ ap (λ b. drop b (m.held ++ found.value ∷ [])) at ∙ drop-append_seam m.held (found.value ∷ [])) in
    let spent : k ≡ c.send_over.new.self.left - found.steps - last.steps - 1 = omega arith in
    pair_first p m t c.args.here base c.args.receiver c.args.index found.steps found.value ones target h c.requires.control c.requires.script c.in-Some.ensures.takes at pushed (omega (arith, enough))
    ∙ last_comes p n t base c.args.index found.steps last.steps last.value target h c.in-Some-quick_before.ensures.takes (omega (arith, enough, more, before))
    ∙ reads_over p h.world m.frames (Argument target 0 0 base) u Index SetIndex ones all last.value found.value (Some last.value) (state_of p m t h) k refl c.push_reserved-2.ensures.items over refl refl are
    ∙ c.send_over.ensures.goes p t h k
    ∙ ap (remaining_with p (view_of c.send_over.new.self) t h) spent

pub returns-clause-within : goal.returns-clause-within
returns-clause-within c clusters h =
    let k = reach (length c.args.space.now.slots) clusters in
    let m = view_of c.args.self.now in
    let v = c.in-Some.found.value in
    let w = c.in-Some-quick_before.last.value in
    let first = c.in-Some.ensures.within clusters h in
    let second = c.in-Some-quick_before.ensures.within clusters h in
    let ones = with_value k m c.push_reserved.new.self.items v c.push_reserved.ensures.items h first in
    let all = with_value k (record m { held = c.push_reserved.new.self.items }) c.push_reserved-2.new.self.items w c.push_reserved-2.ensures.items ones second in
    with_left k (view_of c.send_over.new.self) _ (c.send_over.ensures.within k all tt first (all_cons (IsReached k) w [] second (all_nil (IsReached k))))
