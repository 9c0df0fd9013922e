use Rattle.std.proofs.Common.{◌≤◌, ◌-◌, length, map, IfSome, refl, subst, arith, ◌∙◌, ap}
use Rattle.indexmap.specs.IndexMap.{set_value_at}
use Rattle.rr_space.specs.Views.{ref_behind, entry_behind}
use Rattle.rr_space.specs.Views.{entry_pair, IsWithin}
use Rattle.rr_space.proofs.Removing.{pair_within}
use Rattle.rr_space.proofs.Shifting.{read_next_value, write_next_value, written_all, length-map_first}
use Rattle.rr_space.proofs.behind.entries_behind.Goals as goal

pub index-requires : goal.index-requires
index-requires c =
    let same = ap length c.loop-k.invariant ∙ length-map_first (entry_behind c.args.count) c.args.entries.now.entries c.loop-k.k in
    omega (arith, same, c.loop-k-test.true, c.len-k-end.ensures.len)

pub behind-requires : goal.behind-requires
behind-requires c =
    let old = c.args.entries.now.entries in
    let m = 4294967296 - c.args.count in
    let at = read_next_value (entry_behind c.args.count) (λ p. (ref_behind c.args.count p.0, ref_behind c.args.count p.1)) (λ e. refl) old c.loop-k.entries.entries c.loop-k.k c.index.result.now c.loop-k.invariant c.index.ensures in
    (subst (λ o. IfSome o (λ p. IsWithin m p.0 × IsWithin m p.1)) at (pair_within m (map entry_pair old) c.loop-k.k 0 c.requires)).0

pub behind-requires-in-loop-k : goal.behind-requires-in-loop-k
behind-requires-in-loop-k c =
    let old = c.args.entries.now.entries in
    let m = 4294967296 - c.args.count in
    let at = read_next_value (entry_behind c.args.count) (λ p. (ref_behind c.args.count p.0, ref_behind c.args.count p.1)) (λ e. refl) old c.loop-k.entries.entries c.loop-k.k c.index.result.now c.loop-k.invariant c.index.ensures in
    (subst (λ o. IfSome o (λ p. IsWithin m p.0 × IsWithin m p.1)) at (pair_within m (map entry_pair old) c.loop-k.k 0 c.requires)).1

pub replace_value-requires : goal.replace_value-requires
replace_value-requires c =
    let same = ap length c.loop-k.invariant ∙ length-map_first (entry_behind c.args.count) c.args.entries.now.entries c.loop-k.k in
    omega (arith, same, c.loop-k-test.true, c.len-k-end.ensures.len)

pub loop-k-preserved : goal.loop-k-preserved
loop-k-preserved c =
    let old = c.args.entries.now.entries in
    let cur = c.loop-k.entries.entries in
    let v = c.index.result.now in
    let at = read_next_value (entry_behind c.args.count) (λ p. (ref_behind c.args.count p.0, ref_behind c.args.count p.1)) (λ e. refl) old cur c.loop-k.k v c.loop-k.invariant c.index.ensures in
    write_next_value (entry_behind c.args.count) (λ p. (ref_behind c.args.count p.0, ref_behind c.args.count p.1)) (λ e. refl) old cur c.replace_value.new.entries.entries c.loop-k.k v c.loop-k.invariant at
    (c.replace_value.ensures ∙ ap (λ r. set_value_at cur c.loop-k.k (r, c.behind-in-loop-k.result)) c.behind.ensures
    ∙ ap (λ r. set_value_at cur c.loop-k.k (ref_behind c.args.count v.0, r)) c.behind-in-loop-k.ensures)

pub returns : goal.returns
returns c =
    let old = c.args.entries.now.entries in
    let le : length old ≤ c.loop-k.k = omega (arith, c.loop-k-test.false, c.len-k-end.ensures.len) in
    written_all (entry_behind c.args.count) old c.loop-k.entries.entries c.loop-k.k c.loop-k.invariant le
