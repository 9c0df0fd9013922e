use Rattle.std.proofs.Common.{◌≡◌, ◌∙◌, ◌<◌, ◌≤◌, length, refl, ap, sym, arith}
use Rattle.rr_space.specs.Labels.{triples_at}
use Rattle.rr_text.specs.Beside.{outcome_of}
use Rattle.rr_text.specs.declared.sight.Compared.TheVariants as compared
use Rattle.rr_text.proofs.Looking.{among_child}
use Rattle.rr_text.proofs.Searches.{searched_end, tried_next, tried_last}
use Rattle.rr_text.proofs.searching.search.Goals as goal

pub loop-place-init : goal.loop-place-init
loop-place-init c = λ below read among_array among_value. refl

pub loop-place-preserved : goal.loop-place-preserved
loop-place-preserved c = λ below read among_array among_value.
    let t = c.args.space.now in
    let among_item = among_child t below c.args.array c.value_at.result read among_array c.value_at.ensures.known in
    let lt : c.loop-place.place < length (triples_at t c.args.array) = omega (arith, c.loop-place-test.true, c.arity-place-end.ensures.count) in
    c.loop-place.invariant below read among_array among_value
    ∙ tried_next t below c.len-count.ensures.well.sound read c.args.array c.args.value among_array c.value_at.result c.loop-place.place c.in_ok-compare_item.field-0 lt among_item c.value_at.ensures.is
    (c.in_ok-compare_item.ensures.is below read among_item among_value) c.in-Differs.is

pub returns-clause-is : goal.returns-clause-is
returns-clause-is c = λ below read among_array among_value.
    let t = c.args.space.now in
    let le : length (triples_at t c.args.array) ≤ c.loop-place.place = omega (arith, c.loop-place-test.false, c.arity-place-end.ensures.count) in
    sym (c.loop-place.invariant below read among_array among_value
    ∙ searched_end t below c.len-count.ensures.well.sound read c.args.array c.args.value among_array c.loop-place.place le)

pub returns-in-Same-clause-is : goal.returns-in-Same-clause-is
returns-in-Same-clause-is c = λ below read among_array among_value.
    let t = c.args.space.now in
    let among_item = among_child t below c.args.array c.value_at.result read among_array c.value_at.ensures.known in
    let lt : c.loop-place.place < length (triples_at t c.args.array) = omega (arith, c.loop-place-test.true, c.arity-place-end.ensures.count) in
    ap outcome_of (sym c.in-Same.is)
    ∙ tried_last t below c.len-count.ensures.well.sound read c.args.array c.args.value among_array c.value_at.result c.loop-place.place c.in_ok-compare_item.field-0 lt among_item c.value_at.ensures.is
    (c.in_ok-compare_item.ensures.is below read among_item among_value) (λ e. let no : compared.Same ≡ compared.Differs = sym c.in-Same.is ∙ e in let w : ⊥ = cc in w)
    ∙ sym (c.loop-place.invariant below read among_array among_value)

pub returns-in-Deep-clause-is : goal.returns-in-Deep-clause-is
returns-in-Deep-clause-is c = λ below read among_array among_value.
    let t = c.args.space.now in
    let among_item = among_child t below c.args.array c.value_at.result read among_array c.value_at.ensures.known in
    let lt : c.loop-place.place < length (triples_at t c.args.array) = omega (arith, c.loop-place-test.true, c.arity-place-end.ensures.count) in
    ap outcome_of (sym c.in-Deep.is)
    ∙ tried_last t below c.len-count.ensures.well.sound read c.args.array c.args.value among_array c.value_at.result c.loop-place.place c.in_ok-compare_item.field-0 lt among_item c.value_at.ensures.is
    (c.in_ok-compare_item.ensures.is below read among_item among_value) (λ e. let no : compared.Deep ≡ compared.Differs = sym c.in-Deep.is ∙ e in let w : ⊥ = cc in w)
    ∙ sym (c.loop-place.invariant below read among_array among_value)

pub returns-in-Shell-clause-is : goal.returns-in-Shell-clause-is
returns-in-Shell-clause-is c = λ below read among_array among_value.
    let t = c.args.space.now in
    let among_item = among_child t below c.args.array c.value_at.result read among_array c.value_at.ensures.known in
    let lt : c.loop-place.place < length (triples_at t c.args.array) = omega (arith, c.loop-place-test.true, c.arity-place-end.ensures.count) in
    ap outcome_of (sym c.in-Shell.is)
    ∙ tried_last t below c.len-count.ensures.well.sound read c.args.array c.args.value among_array c.value_at.result c.loop-place.place c.in_ok-compare_item.field-0 lt among_item c.value_at.ensures.is
    (c.in_ok-compare_item.ensures.is below read among_item among_value) (λ e. let no : compared.Shell ≡ compared.Differs = sym c.in-Shell.is ∙ e in let w : ⊥ = cc in w)
    ∙ sym (c.loop-place.invariant below read among_array among_value)
