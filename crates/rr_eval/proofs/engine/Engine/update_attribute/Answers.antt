-- The attribute is read, over its receiver.
use Rattle.std.proofs.Common.{◌≡◌, ◌∙◌, ◌+◌, ◌-◌, ◌++◌, ◌∷◌, [], ap, arith, drop, length, sym}
use Rattle.std.proofs.Math.Seq.{drop-append_seam}
use Rattle.rr_tree.specs.Tree.{tree_at}
use Rattle.rr_eval.specs.declared.call.Callee.TheVariants.{Name, Operator, Setter}
use Rattle.rr_eval.specs.declared.call.Target.{Target}
use Rattle.rr_eval.specs.declared.call.Target.TheVariants as targets
use Rattle.rr_eval.specs.declared.frame.Frame.TheVariants.{Argument}
use Rattle.rr_eval.specs.declared.updating.Place.TheVariants.{Sent}
use Rattle.rr_eval.specs.declared.updating.Update.TheVariants.{Combine}
use Rattle.rr_eval.specs.Basics.{on_value}
use Rattle.rr_eval.specs.Rules.{rule, finish}
use Rattle.rr_eval.specs.Script.{CallPart, Evaluate}
use Rattle.rr_eval.specs.Turns.{context_of, after_values, remaining_with}
use Rattle.rr_eval.specs.Updating.{put, updated}
use Rattle.rr_eval.specs.Usual.{ComesTo}
use Rattle.rr_eval.specs.Views.{view_of}
use Rattle.rr_eval.specs.Within.{reach, IsReached}
use Rattle.rr_eval.proofs.Holding.{all_nil, with_left, with_value}
use Rattle.rr_eval.proofs.QuickParts.{held_comes, held_nested}
use Rattle.rr_eval.proofs.QuickRequests.{value_comes}
use Rattle.rr_eval.proofs.QuickSends.{holds_push}
use Rattle.rr_eval.proofs.engine.Engine.update_attribute.Goals as goal

pub send_over-requires-clause-nested : goal.send_over-requires-clause-nested
send_over-requires-clause-nested c =
    let m = view_of c.args.self.now in
    let ones = c.push_reserved.new.self.items in
    held_nested m (record m { held = ones }) c.len-base.result (omega arith) (holds_push m ones c.in-Some.found.value c.push_reserved.ensures.items) c.requires.nested

pub returns-clause-goes : goal.returns-clause-goes
returns-clause-goes c = λ _ h.
    let p = c.args.prepared.now.program in
    let ns = p.nodes.items in
    let own = context_of p in
    let t = c.args.space.now in
    let m = view_of c.args.self.now in
    let found = c.in-Some.found in
    let v = found.value in
    let base = c.len-base.result in
    let ones = c.push_reserved.new.self.items in
    let n = record m { held = ones } in
    let name = c.args.name in
    let how = Combine (Operator c.args.op) in
    let part = tree_at ns c.args.part in
    let target : Target = targets.Update (Name name) (Setter name) how c.args.part in
    let at : base ≡ length m.held = omega arith in
    let pushed = c.push_reserved.ensures.items in
    let enough = c.in-Some.ensures.enough in
    let k = m.left - (found.steps + 1) in
    let one : v ∷ [] ≡ drop base ones = sym (ap (drop base) pushed ∙ ap (λ b. drop b (m.held ++ v ∷ [])) at ∙ drop-append_seam m.held (v ∷ [])) in
    let comes : ComesTo p m t (rule own (tree_at ns c.args.here)) found.steps (finish own target (v ∷ [])) = value_comes p m t (rule own (tree_at ns c.args.here)) (tree_at ns c.args.receiver) found.steps v (λ u. finish own target (u ∷ [])) c.requires.script c.in-Some.ensures.takes in
    let spent : k ≡ c.send_over.new.self.left - found.steps - 1 = omega arith in
    held_comes p m n t c.args.here base found.steps 0 target (finish own target (v ∷ [])) h c.requires.control at (holds_push m ones v pushed) comes (omega (arith, enough))
    ∙ ap (λ l. after_values p n t (Argument target 0 0 base) (Evaluate (CallPart (Name name) v []) (on_value (updated how part (put own (Sent (Setter name)) l)))) h k) one
    ∙ c.send_over.ensures.goes p t h k
    ∙ ap (remaining_with p (view_of c.send_over.new.self) t h) spent

pub returns-clause-within : goal.returns-clause-within
returns-clause-within c clusters h =
    let k = reach (length c.args.space.now.slots) clusters in
    let m = view_of c.args.self.now in
    let v = c.in-Some.found.value in
    let first = c.in-Some.ensures.within clusters h in
    let ones = with_value k m c.push_reserved.new.self.items v c.push_reserved.ensures.items h first in
    with_left k (view_of c.send_over.new.self) _ (c.send_over.ensures.within k ones tt first (all_nil (IsReached k)))
