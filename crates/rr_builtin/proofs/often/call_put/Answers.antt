use Rattle.std.proofs.Common.{◌≡◌, ◌∙◌, List, [], ◌∷◌, Some, refl, sym, ap}
use Rattle.std.specs.Option.{option_map}
use Rattle.rr_space.specs.Views.{key_of}
use Rattle.rr_space.specs.Lookups.{key_at}
use Rattle.rr_space.specs.declared.refer.Ref.{Ref}
use Rattle.rr_text.specs.Keys.{pair_with}
use Rattle.rr_builtin.specs.declared.method.ContentMethod.TheVariants.{SetAt}
use Rattle.rr_builtin.specs.declared.method.BuiltInMethod.TheVariants.{Content}
use Rattle.rr_builtin.specs.Acts.{Act, performed}
use Rattle.rr_builtin.specs.Calls.{call_act, called}
use Rattle.rr_builtin.specs.Hashes.{stored}
use Rattle.rr_builtin.proofs.Answering.{two_of, front_among, second_among, hash_set}
use Rattle.rr_builtin.proofs.Performing.{acts_same}
use Rattle.rr_builtin.proofs.Putting.{keyed_frozen}
use Rattle.rr_builtin.proofs.Storing.{given_frozen}
use Rattle.rr_builtin.proofs.often.call_put.Goals as goal

pub returns-in-Some-clause-act : goal.returns-in-Some-clause-act
returns-in-Some-clause-act c = λ below read receiver arguments.
    let p = c.args.program.now in
    let v = c.args.receiver in
    let args = c.args.arguments.now in
    let t = c.args.space.now in
    let a = c.argument-item.result in
    let x = c.value-item.result in
    let key = key_of c.in-Some.key in
    let two : args ≡ a ∷ x ∷ [] = two_of args a x c.in-len2.len_at_least c.in-len2.len_below c.argument-item.is c.value-item.is in
    let fit = c.if-is_open_hash.ensures refl in
    let named : key_at t a ≡ Some key = sym c.in_ok-key.ensures.key ∙ ap (λ o. option_map key_of o) c.in-Some.is in
    let act : call_act p below v (Content SetAt) args t ≡ stored key (pair_with below t v key) a x t =
    ap (λ (rs : List Ref). call_act p below v (Content SetAt) rs t) two ∙ hash_set p below v a x key t fit.1 fit.0 (sym (given_frozen t a (keyed_frozen t a key named)) ∙ named) in
    acts_same below (performed (stored key (pair_with below t v key) a x t) v) (called p below v (Content SetAt) args) t c.store.new.space c.store.result (ap (λ (y : Act). performed y v t) (sym act))
    (c.store.ensures.act below read (front_among below args a x two arguments) (second_among below args a x two arguments))
