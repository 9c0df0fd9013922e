-- An operator on two integers gives what it computes.
use Rattle.std.proofs.Common.{◌≡◌, sym, ap, ◌∙◌, rules, w64, to_z, of_z}
use Rattle.rr_space.specs.declared.refer.Ref.TheVariants.{Int}
use Rattle.rr_eval.specs.Operators.{integers}
use Rattle.rr_eval.specs.Rules.{operation, settled}
use Rattle.rr_eval.proofs.usual.operated.Goals as goal

pub returns-in-Ok-clause-gives : goal.returns-in-Ok-clause-gives
returns-in-Ok-clause-gives c own =
    let op = c.args.op in
    let x = c.in-Int-Int.x in
    let y = c.in-Int-Int.y in
    let fx : to_z w64 (of_z w64 x) ≡ x = search rules in
    let fy : to_z w64 (of_z w64 y) ≡ y = search rules in
    let read = ap (λ z. integers op z (to_z w64 (of_z w64 y))) fx ∙ ap (integers op x) fy in
    ap (λ v. operation own op v c.args.right) c.in-Int-Int.is-0
    ∙ ap (operation own op (Int x)) c.in-Int-Int.is-1
    ∙ ap (settled own) (sym read ∙ c.in-Ok.ensures.gives)
