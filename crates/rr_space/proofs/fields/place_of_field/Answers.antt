use Rattle.std.proofs.Common.{◌≡◌, ◌==◌, below_more, sym, ap, ◌∙◌, arith}
use Rattle.std.proofs.lemmas.Bool.{false≢true}
use Rattle.std.proofs.lemmas.Bool.Decides.{Decides-eqb}
use Rattle.std.proofs.lemmas.Option.{same_Some}
use Rattle.rr_space.specs.Views.{field_names}
use Rattle.rr_space.proofs.Fielding.{name_at, contains_at, length-field_names}
use Rattle.rr_space.proofs.fields.place_of_field.Goals as goal

pub loop-k-preserved : goal.loop-k-preserved
loop-k-preserved c =
    below_more _ _ c.loop-k.invariant
    (λ e.
    let f = c.index-fields-k.result in
    let at = name_at c.args.fields.now c.loop-k.k f c.loop-k-test.true c.index-fields-k.is in
    let same : f.0.0 ≡ c.args.name.0 = same_Some f.0.0 c.args.name.0 (sym at ∙ e) in
    false≢true (sym c.if-eq.false ∙ c.eq.ensures ∙ ap (λ g. g.0.0 == c.args.name.0) (sym c.index-fields-k.is) ∙ (Decides-eqb f.0.0 c.args.name.0).1 same))

pub returns : goal.returns
returns c =
    let fs = c.args.fields.now in
    contains_at (field_names fs) c.args.name.0 (λ j lt. c.loop-k.invariant j (omega (arith, lt, length-field_names fs, c.loop-k-test.false)))
