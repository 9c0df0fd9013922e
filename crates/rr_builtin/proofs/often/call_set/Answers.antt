use Rattle.std.proofs.Common.{◌≡◌, ◌∙◌, ℤ, List, [], ◌∷◌, Ok, Some, w64, refl, sym, ap, rules}
use Rattle.std.proofs.lemmas.Int.{to_z-of_z}
use mir.Val.{SFits, of_z, to_z}
use Rattle.rr_space.specs.Parts.{value_of}
use Rattle.rr_space.specs.declared.refer.Ref.{Ref}
use Rattle.rr_builtin.specs.declared.method.ContentMethod.TheVariants.{SetAt}
use Rattle.rr_builtin.specs.declared.method.BuiltInMethod.TheVariants.{Content}
use Rattle.rr_builtin.specs.Acts.{Act, Puts, performed}
use Rattle.rr_builtin.specs.Calls.{call_act, called}
use Rattle.rr_builtin.specs.Contents.{place_of}
use Rattle.rr_builtin.specs.Elements.{count_at}
use Rattle.rr_builtin.proofs.Answering.{two_of, second_among, array_set}
use Rattle.rr_builtin.proofs.Performing.{acts_same}
use Rattle.rr_builtin.proofs.often.call_set.Goals as goal

pub returns-clause-act : goal.returns-clause-act
returns-clause-act c = λ below read receiver arguments.
    let p = c.args.program.now in
    let v = c.args.receiver in
    let args = c.args.arguments.now in
    let t = c.args.space.now in
    let z = c.in-Int.index in
    let x = c.value-item.result in
    let two : args ≡ c.argument-item.result ∷ x ∷ [] = two_of args c.argument-item.result x c.in-len2.len_at_least c.in-len2.len_below c.argument-item.is c.value-item.is in
    let fits : SFits w64 z = search rules in
    let back : to_z w64 (of_z w64 z) ≡ z = to_z-of_z w64 z fits in
    let at : place_of z (count_at t v) ≡ Some c.in-Some.place = ap (place_of z) (sym c.arity-count.ensures.count) ∙ ap (λ (y : ℤ). place_of y c.arity-count.result) (sym back) ∙ sym c.place_of.ensures ∙ c.in-Some.is in
    let act : call_act p below v (Content SetAt) args t ≡ Puts c.in-Some.place (value_of x) =
    ap (λ (rs : List Ref). call_act p below v (Content SetAt) rs t) (two ∙ ap (λ (r : Ref). r ∷ x ∷ []) c.in-Int.is)
    ∙ array_set p below v z x c.in-Some.place t (c.if-is_open_array.ensures.array refl) (c.if-is_open_array.ensures.open refl) at in
    acts_same below (performed (Puts c.in-Some.place (value_of x)) v) (called p below v (Content SetAt) args) t c.put_inside.new.space (Ok c.put_inside.result) (ap (λ (y : Act). performed y v t) (sym act))
    (c.put_inside.ensures.act below read (second_among below args c.argument-item.result x two arguments))
