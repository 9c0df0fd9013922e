use Rattle.std.proofs.Common.{◌≡◌, ◌∙◌, List, Ok, Err, IfOk, IfErr, map, length, sym, ap, subst}
use Rattle.std.specs.List.{All}
use Rattle.rr_space.specs.Tables.{Below}
use Rattle.rr_space.specs.Parts.{value_of, IsWithin}
use Rattle.rr_space.specs.declared.refer.Ref.{Ref}
use Rattle.rr_text.specs.Reads.{IsReadWith}
use Rattle.rr_space.specs.declared.refer.Ref.TheVariants as ref
use Rattle.rr_builtin.specs.Acts.{MakesArray, IsRefAmong}
use Rattle.rr_builtin.specs.Elements.{elements_of, each_as}
use Rattle.rr_builtin.specs.Sums.{integer_of}
use Rattle.rr_builtin.specs.Sorts.{sorted, is_less, integer_value, in_order}
use Rattle.rr_builtin.proofs.Among.{among_of, of_among}
use Rattle.rr_builtin.proofs.Items.{numbers_are, all_numbers}
use Rattle.rr_builtin.proofs.sorts.sorted_numbers.Goals as goal

pub returns-in_ok-number_refs-in-Ok-clause-act : goal.returns-in_ok-number_refs-in-Ok-clause-act
returns-in_ok-number_refs-in-Ok-clause-act c = λ below read array first.
    let t = c.args.space.now in
    let seen : each_as integer_of (elements_of t c.args.array) ≡ Ok c.in-Ok.numbers.items = subst (λ r. IfOk r (λ numbers. each_as integer_of (elements_of t c.args.array) ≡ Ok numbers.items)) c.in-Ok.is c.in_ok-numbers.ensures.all in
    let order : c.deref.result.now ≡ sorted is_less c.in-Ok.numbers.items = c.deref.ensures.value ∙ c.in_ok-sort_numbers-in-Ok.ensures in
    ap (λ rs. MakesArray (map value_of rs)) (c.in_ok-number_refs-in-Ok.ensures ∙ ap (map (λ z. ref.Int z)) order)
    ∙ ap MakesArray (numbers_are (sorted is_less c.in-Ok.numbers.items))
    ∙ sym (ap (in_order below t is_less integer_value (value_of c.args.first)) seen)

pub returns-in_ok-number_refs-in-Ok-clause-fit : goal.returns-in_ok-number_refs-in-Ok-clause-fit
returns-in_ok-number_refs-in-Ok-clause-fit c =
    subst (λ (rs : List Ref). All (IsWithin (length c.args.space.now.slots)) rs) (sym c.in_ok-number_refs-in-Ok.ensures) (all_numbers (IsWithin (length c.args.space.now.slots)) (λ z. tt) c.deref.result.now)

pub returns-in_ok-number_refs-in-Ok-clause-among : goal.returns-in_ok-number_refs-in-Ok-clause-among
returns-in_ok-number_refs-in-Ok-clause-among c = λ below.
    subst (λ (rs : List Ref). All (IsRefAmong below) rs) (sym c.in_ok-number_refs-in-Ok.ensures) (all_numbers (IsRefAmong below) (λ z. tt) c.deref.result.now)

pub returns-in-Err-clause-act : goal.returns-in-Err-clause-act
returns-in-Err-clause-act c = λ below read array first.
    let t = c.args.space.now in
    let seen : each_as integer_of (elements_of t c.args.array) ≡ Err (value_of c.in-Err.other) = subst (λ r. IfErr r (λ x. each_as integer_of (elements_of t c.args.array) ≡ Err (value_of x))) c.in-Err.is c.in_ok-numbers.ensures.other in
    let among = subst (λ r. IfErr r (λ x. (b : Below) → IsReadWith t b → IsRefAmong b c.args.array → IsRefAmong b x)) c.in-Err.is c.in_ok-numbers.ensures.among in
    c.incomparable.ensures.act below read first (among_of below c.in-Err.other (among below read (of_among below c.args.array array)))
    ∙ sym (ap (in_order below t is_less integer_value (value_of c.args.first)) seen)

pub returns-in-Err-clause-fit : goal.returns-in-Err-clause-fit
returns-in-Err-clause-fit c = c.incomparable.ensures.fit c.args.array
