use Rattle.std.proofs.Common.{◌∙◌, ◌++◌, ◌∷◌, [], take, sym, ap, map, refl, arith}
use Rattle.std.proofs.lemmas.List.{take_all, map_push}
use Rattle.rr_space.specs.Views.{entry_pair}
use Rattle.rr_space.specs.declared.node.Key.{Key}
use Rattle.rr_space.specs.declared.refer.Ref.{Ref}
use Rattle.rr_share.proofs.Copies.{take_next}
use Rattle.rr_share.proofs.sealing.pairs.Goals as goal

pub loop-k-preserved : goal.loop-k-preserved
loop-k-preserved c =
    let es = c.args.entries.now.entries in
    let k = c.loop-k.k in
    let e : Key × (Ref × Ref) = (c.in-Some.field-0-0.now, c.in-Some.pair.now) in
    c.in_ok-push-in-Some.ensures.items ∙ ap (λ ps. ps ++ e.1 ∷ []) c.loop-k.invariant ∙ sym (map_push entry_pair (take k es) e)
    ∙ ap (map entry_pair) (take_next es (take k es) k e (sym c.in-Some.ensures.entry) refl)

pub returns-clause-pairs : goal.returns-clause-pairs
returns-clause-pairs c = c.loop-k.invariant ∙ ap (map entry_pair) (take_all c.loop-k.k c.args.entries.now.entries (omega (arith, c.len-k-end.ensures.len, c.loop-k-test.false)))
