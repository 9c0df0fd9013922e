-- The receiver's value stands for nothing yet.
use Rattle.std.proofs.Common.{◌≡◌, ◌∙◌, ◌+◌, ◌-◌, ◌++◌, ◌∷◌, [], ap, sym, refl, arith, length}
use Rattle.std.proofs.lemmas.List.{take_all, drop_all}
use Rattle.rr_eval.specs.declared.call.Target.TheVariants.{Iterate}
use Rattle.rr_eval.specs.declared.frame.Frame.TheVariants.{Argument}
use Rattle.rr_eval.specs.Rules.{finish}
use Rattle.rr_eval.specs.Turns.{context_of, after_values, continuing}
use Rattle.rr_eval.specs.Usual.{HoldsMore}
use Rattle.rr_eval.specs.View.{View}
use Rattle.rr_eval.specs.Views.{view_of}
use Rattle.rr_eval.specs.Within.{reach}
use Rattle.rr_eval.proofs.Holding.{with_left}
use Rattle.rr_eval.proofs.QuickParts.{held_comes, held_nested, nested_stands}
use Rattle.rr_eval.proofs.engine.Engine.call_with_block.Goals as goal

as_held : (m : View) → HoldsMore m m
as_held m = record { control = refl; frames = refl; held = take_all (length m.held) m.held (omega arith); calls = refl; blocks = refl; rescuing = refl; left = refl }

pub send_block-requires-clause-nested : goal.send_block-requires-clause-nested
send_block-requires-clause-nested c = let m = view_of c.args.self.now in held_nested m m c.len.result (omega arith) (as_held m) c.requires.nested

pub returns-in-Ok-clause-goes : goal.returns-in-Ok-clause-goes
returns-in-Ok-clause-goes c h =
    let p = c.args.prepared.now.program in
    let m = view_of c.args.self.now in
    let t = c.args.space.now in
    let steps = c.args.found.steps in
    let v = c.args.found.value in
    let base = c.len.result in
    let target = Iterate c.args.name c.args.block in
    let own = context_of p in
    let spent : c.send_block.new.self.left - (steps + 1) ≡ c.send_block.new.self.left - steps - 1 = omega arith in
    let enough = c.requires.enough in
    held_comes p m m t c.args.here base steps 0 target (finish own target (v ∷ [])) h c.requires.control (omega arith) (as_held m) c.requires.comes (omega (arith, enough))
    ∙ ap (λ l. after_values p m t (Argument target 0 0 base) (finish own target (l ++ v ∷ [])) h (m.left - (steps + 1))) (sym (drop_all base m.held (omega arith)))
    ∙ c.in-Ok.ensures.goes h (m.left - (steps + 1))
    ∙ ap (λ i. continuing p (view_of c.send_block.new.self) t c.in-Ok.request h (i - (steps + 1))) (sym c.in-Ok.ensures.left)
    ∙ ap (λ i. continuing p (view_of c.send_block.new.self) t c.in-Ok.request h i) spent

pub returns-in-Ok-clause-within : goal.returns-in-Ok-clause-within
returns-in-Ok-clause-within c clusters h = with_left (reach (length c.args.space.now.slots) clusters) (view_of c.send_block.new.self) _ (c.in-Ok.ensures.within clusters h (c.requires.value clusters h))

pub returns-in-Err-clause-nested : goal.returns-in-Err-clause-nested
returns-in-Err-clause-nested c = nested_stands (view_of c.args.self.now) (view_of c.send_block.new.self) c.args.space.now c.in-Err.fault (c.in-Err.ensures.err c.args.space.now) c.requires.nested
