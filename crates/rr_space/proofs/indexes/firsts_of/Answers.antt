use Rattle.std.proofs.Common.{◌≡◌, ◌+◌, length, map, Option, Some, None, refl, sym, ap, ◌∙◌, subst, arith}
use Rattle.std.proofs.lemmas.Option.{slice_get_read}
use Rattle.std.specs.Option.{option_map}
use Rattle.rr_space.specs.Parts.{sealed_object}
use Rattle.rr_space.specs.Views.{key_of}
use Rattle.rr_space.specs.declared.node.Key.{Key}
use Rattle.rr_space.specs.Indexes.{IsIndexOf, name_key}
use Rattle.rr_space.specs.declared.refer.Ref.{Ref}
use Rattle.rr_space.proofs.Indexing.{passed, noted, enough}
use Rattle.rr_space.proofs.indexes.firsts_of.Goals as goal
use Rattle.rr_space.proofs.indexes.firsts_of.Goals.{in-Some+in_ok-keep_first, in_default}

no_key : (o : Option Key) → ((key : Key) → o ≡ Some key → ⊥) → o ≡ None
no_key None out = refl
no_key (Some key) out = absurd (out key refl)

pub loop-k-preserved : goal.loop-k-preserved
loop-k-preserved c =
    let own = map sealed_object c.args.nodes.now in
    let ps = c.args.pairs.now in
    let k = c.loop-k.k in
    let es = c.loop-k.firsts.entries in
    let p = c.index-pairs-k.result in
    let at = slice_get_read ps (length ps) k p refl c.loop-k-test.true c.index-pairs-k.is in
    let said = c.in_ok-key.ensures.key ∙ ap (λ (x : Ref × Ref). name_key own x.0) (sym c.index-pairs-k.is) in
    elim c.match-branch-3.branch [
      | in-Some+in_ok-keep_first w ↦
          subst (λ m. IsIndexOf own ps (k + 1) m.entries) (sym w.firsts-is)
          (noted own ps k es p w.in-Some.key at (sym said ∙ ap (option_map key_of) w.in-Some.is) c.loop-k.invariant _ (w.in_ok-keep_first.ensures.kept))
      | in_default w ↦
          subst (λ m. IsIndexOf own ps (k + 1) m.entries) (sym w.firsts-is)
          (passed own ps k es p at (sym said ∙ ap (option_map key_of) (no_key c.in_ok-key.field-0 w.in_default.not-Some)) c.loop-k.invariant)
    ]

pub returns-clause-firsts : goal.returns-clause-firsts
returns-clause-firsts c = enough (map sealed_object c.args.nodes.now) c.args.pairs.now c.loop-k.k c.loop-k.firsts.entries (omega (arith, c.loop-k-test.false)) c.loop-k.invariant
