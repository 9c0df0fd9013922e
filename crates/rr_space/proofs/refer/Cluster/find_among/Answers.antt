use Rattle.std.proofs.Common.{◌≡◌, ◌↔◌, ℕ, List, length, Some, Contains, IsTrue, below_more, refl, sym, ap, ◌∙◌, subst, arith}
use Rattle.std.proofs.lemmas.Bool.{false≢true}
use Rattle.std.proofs.lemmas.Option.{slice_get_read, slice_get_within, same_Some}
use Rattle.rr_space.specs.Graph.{Object}
use Rattle.rr_space.specs.Tables.{Whole, below_hold, numbered}
use Rattle.rr_space.specs.Parts.{value_of, below_ref}
use Rattle.rr_space.specs.Views.{key_of}
use Rattle.rr_space.specs.Lookups.{IsOneEach, key_of_value}
use Rattle.rr_space.specs.declared.node.Key.{Key}
use Rattle.rr_space.specs.declared.refer.Ref.{Ref}
use Rattle.rr_space.proofs.PublishedKeys.{pair_below}
use Rattle.rr_space.proofs.refer.Cluster.find_among.Goals as goal

-- what a test of the first of a pair says
abbrev Says : Whole → Key → Type 0 → Ref × Ref → Type 0
Says w key holds p =
    IsOneEach (below_hold w) → ((e : ℕ × List Object) → Contains (below_ref p.0) e → Contains (below_hold w) e)
    → (holds ↔ (key_of_value (below_hold w) (numbered w.number (value_of p.0)) ≡ Some (key_of key)))

pub returns-then-is_key-clause-found : goal.returns-then-is_key-clause-found
returns-then-is_key-clause-found c = λ one more.
    let p = c.index-pairs-k.result in
    let at = slice_get_read c.args.pairs.now (length c.args.pairs.now) c.loop-k.k p refl c.loop-k-test.true c.index-pairs-k.is in
    let says : Says c.args.self.now c.args.key.now (IsTrue c.is_key.result) p = subst (Says c.args.self.now c.args.key.now (IsTrue c.is_key.result)) (sym c.index-pairs-k.is) c.is_key.ensures in
    let h = says one (λ e has. more e (pair_below c.args.pairs.now 0 c.loop-k.k p e at has)) in
    ((p, at, h.0 c.if-is_key.true), c.loop-k.invariant one more)

pub loop-k-preserved : goal.loop-k-preserved
loop-k-preserved c = λ one more.
    let p = c.index-pairs-k.result in
    let w = c.args.self.now in
    let at = slice_get_read c.args.pairs.now (length c.args.pairs.now) c.loop-k.k p refl c.loop-k-test.true c.index-pairs-k.is in
    let says : Says w c.args.key.now (IsTrue c.is_key.result) p = subst (Says w c.args.key.now (IsTrue c.is_key.result)) (sym c.index-pairs-k.is) c.is_key.ensures in
    let h = says one (λ e has. more e (pair_below c.args.pairs.now 0 c.loop-k.k p e at has)) in
    below_more _ _ (c.loop-k.invariant one more)
    (λ (q, q_at, e).
    let same : p ≡ q = same_Some p q (sym at ∙ q_at) in
    false≢true (sym c.if-is_key.false ∙ h.1 (ap (λ (x : Ref × Ref). key_of_value (below_hold w) (numbered w.number (value_of x.0))) same ∙ e)))

pub returns-clause-found : goal.returns-clause-found
returns-clause-found c = λ one more i (q, q_at, e).
    let lt = slice_get_within c.args.pairs.now i q q_at in
    c.loop-k.invariant one more i (omega (arith, lt, c.loop-k-test.false)) (q, q_at, e)
