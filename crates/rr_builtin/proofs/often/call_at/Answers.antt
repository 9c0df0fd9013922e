use Rattle.std.proofs.Common.{◌≡◌, ◌∙◌, ℤ, List, [], ◌∷◌, Ok, w64, refl, sym, ap, rules}
use Rattle.std.proofs.lemmas.Int.{to_z-of_z}
use mir.Val.{SFits, of_z, to_z}
use Rattle.rr_space.specs.Parts.{value_of}
use Rattle.rr_space.specs.Kinds.{kind_at}
use Rattle.rr_space.specs.declared.kind.Kind.TheVariants as kind
use Rattle.rr_space.specs.declared.refer.Ref.{Ref}
use Rattle.rr_space.specs.declared.refer.Ref.TheVariants.{Int}
use Rattle.rr_space.specs.Graph.{Value}
use Rattle.rr_builtin.specs.declared.built.Built.TheVariants as built
use Rattle.rr_builtin.specs.declared.method.ContentMethod.TheVariants.{At}
use Rattle.rr_builtin.specs.declared.method.BuiltInMethod.TheVariants.{Content}
use Rattle.rr_builtin.specs.Acts.{Answers, Gives, performed}
use Rattle.rr_builtin.specs.Calls.{call_act, called}
use Rattle.rr_builtin.specs.Contents.{element_of, place_of}
use Rattle.rr_builtin.specs.Elements.{count_at}
use Rattle.rr_builtin.specs.Hashes.{hash_read}
use Rattle.rr_builtin.proofs.Among.{of_among, on_if_ok}
use Rattle.rr_builtin.proofs.Answering.{one_of, array_at, hash_at, answer_acts}
use Rattle.rr_builtin.proofs.Performing.{acts_same}
use Rattle.rr_builtin.proofs.often.call_at.Goals as goal

pub returns-in-Int-clause-act : goal.returns-in-Int-clause-act
returns-in-Int-clause-act c = λ below read receiver arguments.
    let p = c.args.program.now in
    let v = c.args.receiver in
    let args = c.args.arguments.now in
    let t = c.args.space.now in
    let array : kind_at t v ≡ kind.Array = sym c.kind_of.ensures ∙ c.in-Array.is in
    let one : args ≡ Int c.in-Int.index ∷ [] = one_of args c.argument-item.result c.in-len1.len_at_least c.in-len1.len_below c.argument-item.is ∙ ap (λ (r : Ref). r ∷ []) c.in-Int.is in
    let fits : SFits w64 c.in-Int.index = search rules in
    let back : to_z w64 (of_z w64 c.in-Int.index) ≡ c.in-Int.index = to_z-of_z w64 c.in-Int.index fits in
    let named : value_of c.element_named.result ≡ element_of t v (place_of c.in-Int.index (count_at t v)) = c.element_named.ensures.is ∙ ap (λ (z : ℤ). element_of t v (place_of z (count_at t v))) back in
    let act : call_act p below v (Content At) args t ≡ Answers (Gives (value_of c.element_named.result)) =
    ap (λ (rs : List Ref). call_act p below v (Content At) rs t) one ∙ array_at p below v (Int c.in-Int.index) t array ∙ ap (λ (x : Value). Answers (Gives x)) (sym named) in
    answer_acts below (call_act p below v (Content At) args t) v t (Ok (built.Value c.element_named.result)) read act c.element_named.ensures.within (c.element_named.ensures.among below read (of_among below v receiver)) tt

pub returns-in-Hash-clause-act : goal.returns-in-Hash-clause-act
returns-in-Hash-clause-act c = λ below read receiver arguments.
    let p = c.args.program.now in
    let v = c.args.receiver in
    let args = c.args.arguments.now in
    let t = c.args.space.now in
    let a = c.argument-item.result in
    let r = c.hash_value.result in
    let hash : kind_at t v ≡ kind.Hash = sym c.kind_of.ensures ∙ c.in-Hash.is in
    let one : args ≡ a ∷ [] = one_of args a c.in-len1.len_at_least c.in-len1.len_below c.argument-item.is in
    let act : call_act p below v (Content At) args t ≡ hash_read below v a t = ap (λ (rs : List Ref). call_act p below v (Content At) rs t) one ∙ hash_at p below v a t hash in
    acts_same below (performed (call_act p below v (Content At) args t) v) (called p below v (Content At) args) t t r refl
    (answer_acts below (call_act p below v (Content At) args t) v t r read (on_if_ok _ _ r c.hash_value.ensures.is (λ b h. act ∙ sym (h below read receiver))) c.hash_value.ensures.within
    (on_if_ok _ _ r c.hash_value.ensures.among (λ b h. h below read (of_among below v receiver))) c.hash_value.ensures.fault)
