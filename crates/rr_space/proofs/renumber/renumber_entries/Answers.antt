use Rattle.std.proofs.Common.{◌≡◌, ℕ, ◌≤◌, List, length, map, slice_get, Some, ◌∙◌, sym, subst, refl, arith}
use Rattle.rr_space.specs.Views.{IsRenumberedEntry}
use Rattle.rr_space.specs.Views.{entry_pair}
use Rattle.rr_space.specs.declared.node.Key.{Key}
use Rattle.rr_space.specs.declared.refer.Ref.{Ref}
use Rattle.rr_space.proofs.Renaming.{mapped_at}
use Rattle.rr_space.proofs.Renumbered.{IsPartly, begun, next, ended, set_value_is}
use Rattle.rr_space.proofs.renumber.renumber_entries.Goals as goal

-- the entry that comes next is the one that was there
record Next (old cur : List (Key × (Ref × Ref))) (k : ℕ) (v : Ref × Ref) : Type 0 where
  entry : Key × (Ref × Ref)
  was : slice_get old k ≡ Some entry
  here : slice_get cur k ≡ Some entry
  value : entry.1 ≡ v

entry_at : (R : Ref → Ref → Type 0) (old cur : List (Key × (Ref × Ref))) (k : ℕ) (v : Ref × Ref) → IsPartly (IsRenumberedEntry R) k old cur → slice_get (map entry_pair cur) k ≡ Some v → Next old cur k v
entry_at R old cur k v p at =
    let m = mapped_at entry_pair cur k v at in
    record { entry = m.0; was = sym (p.rest k (omega arith)) ∙ m.1; here = m.1; value = m.2 }

pub loop-k-init : goal.loop-k-init
loop-k-init g c = begun (IsRenumberedEntry (g.R.Renumber.gives c.args.by.now)) c.args.entries.now.entries

pub index-requires : goal.index-requires
index-requires g c =
    let size = c.loop-k.invariant.size in
    omega (arith, size, c.loop-k-test.true, c.len-k-end.ensures.len)

pub renumbered-requires : goal.renumbered-requires
renumbered-requires g c =
    let n = entry_at (g.R.Renumber.gives c.args.by.now) c.args.entries.now.entries c.loop-k.entries.entries c.loop-k.k c.index.result.now c.loop-k.invariant c.index.ensures in
    subst (λ (v : Ref × Ref). g.R.Renumber.may c.args.by.now v.0) n.value (c.requires c.loop-k.k n.entry n.was).0

pub renumbered-requires-in-loop-k : goal.renumbered-requires-in-loop-k
renumbered-requires-in-loop-k g c =
    let n = entry_at (g.R.Renumber.gives c.args.by.now) c.args.entries.now.entries c.loop-k.entries.entries c.loop-k.k c.index.result.now c.loop-k.invariant c.index.ensures in
    subst (λ (v : Ref × Ref). g.R.Renumber.may c.args.by.now v.1) n.value (c.requires c.loop-k.k n.entry n.was).1

pub replace_value-requires : goal.replace_value-requires
replace_value-requires g c =
    let size = c.loop-k.invariant.size in
    omega (arith, size, c.loop-k-test.true, c.len-k-end.ensures.len)

pub loop-k-preserved : goal.loop-k-preserved
loop-k-preserved g c =
    let R = g.R.Renumber.gives c.args.by.now in
    let old = c.args.entries.now.entries in
    let cur = c.loop-k.entries.entries in
    let k = c.loop-k.k in
    let n = entry_at R old cur k c.index.result.now c.loop-k.invariant c.index.ensures in
    let pair : Ref × Ref = (c.renumbered.result, c.renumbered-in-loop-k.result) in
    next (IsRenumberedEntry R) old cur c.replace_value.new.entries.entries k n.entry (n.entry.0, pair) c.loop-k.invariant n.was
    (record {
      key = refl;
      name = subst (λ (v : Ref × Ref). R v.0 c.renumbered.result) (sym n.value) c.renumbered.ensures;
      value = subst (λ (v : Ref × Ref). R v.1 c.renumbered-in-loop-k.result) (sym n.value) c.renumbered-in-loop-k.ensures;
    })
    (c.replace_value.ensures ∙ set_value_is cur k n.entry pair n.here)

pub returns : goal.returns
returns g c =
    let old = c.args.entries.now.entries in
    let le : length old ≤ c.loop-k.k = omega (arith, c.loop-k-test.false, c.len-k-end.ensures.len) in
    ended (IsRenumberedEntry (g.R.Renumber.gives c.args.by.now)) old c.loop-k.entries.entries c.loop-k.k c.loop-k.invariant le
