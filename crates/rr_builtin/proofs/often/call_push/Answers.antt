use Rattle.std.proofs.Common.{◌≡◌, ◌∙◌, List, [], ◌∷◌, refl, sym, ap}
use Rattle.rr_space.specs.Parts.{value_of}
use Rattle.rr_space.specs.declared.refer.Ref.{Ref}
use Rattle.rr_builtin.specs.declared.method.BuiltInMethod.TheVariants.{Content}
use Rattle.rr_builtin.specs.Acts.{Act, Pushes, performed}
use Rattle.rr_builtin.specs.Calls.{call_act, called}
use Rattle.rr_builtin.proofs.Answering.{one_of, first_among, array_push}
use Rattle.rr_builtin.proofs.Performing.{acts_same}
use Rattle.rr_builtin.proofs.often.call_push.Goals as goal

pub returns-clause-act : goal.returns-clause-act
returns-clause-act c = λ below read receiver arguments.
    let p = c.args.program.now in
    let v = c.args.receiver in
    let m = c.args.method in
    let args = c.args.arguments.now in
    let t = c.args.space.now in
    let a = c.value-item.result in
    let one : args ≡ a ∷ [] = one_of args a c.in-len1.len_at_least c.in-len1.len_below c.value-item.is in
    let act : call_act p below v (Content m) args t ≡ Pushes (value_of a) =
    ap (λ (rs : List Ref). call_act p below v (Content m) rs t) one ∙ array_push p below v a m t c.requires.pushes (c.if-is_open_array.ensures.array refl) (c.if-is_open_array.ensures.open refl) in
    acts_same below (performed (Pushes (value_of a)) v) (called p below v (Content m) args) t c.push.new.space c.push.result (ap (λ (x : Act). performed x v t) (sym act))
    (c.push.ensures.act below read (first_among below args a one arguments))
