-- The iteration begins with its turns.
use Rattle.std.proofs.Common.{◌≡◌, ◌∙◌, ◌+◌, ◌-◌, ◌++◌, ◌∷◌, [], List, ap, arith, drop, length, refl, reverse, sym, take}
use Rattle.std.proofs.Math.Seq.{drop-append_seam}
use Rattle.rr_space.specs.declared.refer.Ref.{Ref}
use Rattle.rr_space.specs.declared.refer.Ref.TheVariants.{Nil}
use Rattle.rr_tree.specs.Tree.{tree_at}
use Rattle.rr_eval.specs.declared.call.Callee.TheVariants.{Name}
use Rattle.rr_eval.specs.declared.call.Target.TheVariants.{Iterate}
use Rattle.rr_eval.specs.declared.frame.Frame.TheVariants.{Turned}
use Rattle.rr_eval.specs.declared.iterating.Iterating.{Iterating}
use Rattle.rr_eval.specs.Dispatch.{iteration_of}
use Rattle.rr_eval.specs.Frames.{iterated, unwind}
use Rattle.rr_eval.specs.Iterating.{continued_with}
use Rattle.rr_eval.specs.Rules.{finish}
use Rattle.rr_eval.specs.Turns.{context_of, code_of, after_values}
use Rattle.rr_eval.specs.Views.{view_of}
use Rattle.rr_eval.specs.Within.{reach}
use Rattle.rr_eval.proofs.Breaks.{begins_turns}
use Rattle.rr_eval.proofs.Holding.{with_left, with_value}
use Rattle.rr_eval.proofs.QuickParts.{held_comes}
use Rattle.rr_eval.proofs.QuickSends.{holds_push}
use Rattle.rr_eval.proofs.engine.Engine.start_turns.Goals as goal

pub returns-clause-goes : goal.returns-clause-goes
returns-clause-goes c _ = λ h.
    let p = c.args.prepared.now.program in
    let own = context_of p in
    let code = code_of p h.world in
    let t = c.args.space.now in
    let m = view_of c.args.self.now in
    let name = c.args.name in
    let block = c.args.block in
    let v = c.args.found.value in
    let steps = c.args.found.steps in
    let base = c.len-base.result in
    let ones = c.push_reserved.new.self.items in
    let n = record m { held = ones } in
    let begun = c.in-Some in
    let iteration : Iterating = record { visits = begun.visits; block = block; base = base } in
    let target = Iterate name block in
    let at : base ≡ length m.held = omega arith in
    let pushed = c.push_reserved.ensures.items in
    let enough = c.requires.enough in
    let k = m.left - (steps + 1) in
    let spent : k ≡ m.left - steps - 1 = omega arith in
    let one : v ∷ [] ≡ drop base ones = sym (ap (drop base) pushed ∙ ap (λ b. drop b (m.held ++ v ∷ [])) at ∙ drop-append_seam m.held (v ∷ [])) in
    held_comes p m n t c.args.here base steps 0 target (finish own target (v ∷ [])) h c.requires.control at (holds_push m ones v pushed) c.requires.comes (omega (arith, enough))
    ∙ ap (unwind code (reverse m.frames) (take base ones)) (begins_turns p n t h name block v Nil begun.visits (iteration_of own (Name name)) k begun.ensures.method refl begun.ensures.begins (begun.ensures.first (v ∷ []) t) (begun.ensures.keeps Nil))
    ∙ ap (λ (l : List Ref). after_values p n t (Turned iteration) (continued_with own (record { visits = begun.visits; stand = l; block = tree_at p.nodes.items block }) Nil) h k) one
    ∙ ap (λ j. after_values p n t (Turned iteration) (continued_with own (iterated code iteration (drop base ones)) Nil) h j) spent
    ∙ c.go_on_often.ensures.goes h

pub returns-clause-within : goal.returns-clause-within
returns-clause-within c clusters h =
    let k = reach (length c.args.space.now.slots) clusters in
    let m = view_of c.args.self.now in
    let v = c.args.found.value in
    let ones = c.push_reserved.new.self.items in
    c.go_on_often.ensures.within clusters (with_left k (record m { held = ones }) (m.left - c.args.found.steps - 1) (with_value k m ones v c.push_reserved.ensures.items h (c.requires.value clusters h))) tt
