use Rattle.std.proofs.Common.{◌≡◌, ◌<◌, ◌≤◌, ◌+◌, ◌*◌, ◌/◌, length, ap, arith}
use Rattle.rr_space.specs.Labels.{triples_at}
use Rattle.rr_builtin.proofs.HashCopying.{no_entries, paired_none, paired_next, paired_all}
use Rattle.rr_builtin.proofs.hash_copies.pairs.Goals as goal

pub loop-pair-init : goal.loop-pair-init
loop-pair-init c = paired_none c.args.space.now c.args.hash c.in_ok-pairs.pairs.entries (no_entries c.in_ok-pairs.pairs.entries c.in_ok-pairs.ensures.len)

pub loop-pair-preserved : goal.loop-pair-preserved
loop-pair-preserved c =
    let t = c.args.space.now in
    let v = c.args.hash in
    let k = c.loop-pair.pair in
    let half : c.arity-count.result / 2 ≡ length (triples_at t v) / 2 = ap (λ m. m / 2) c.arity-count.ensures.count in
    let lt : 2 * k + 1 < length (triples_at t v) = omega (arith, c.loop-pair-test.true, half) in
    paired_next t v c.element-name.result c.element-value.result c.loop-pair.pairs.entries c.add_pair.new.pairs.entries k c.loop-pair.invariant c.len-count.ensures.well.sound lt
    c.element-name.ensures.is c.element-value.ensures.is c.element-name.ensures.within c.element-value.ensures.within c.element-name.ensures.among c.element-value.ensures.among
    c.in_ok-key.key c.in_ok-key.ensures.key c.in_ok-add_pair.ensures.pairs

pub returns-clause-are : goal.returns-clause-are
returns-clause-are c =
    let t = c.args.space.now in
    let v = c.args.hash in
    let half : c.arity-count.result / 2 ≡ length (triples_at t v) / 2 = ap (λ m. m / 2) c.arity-count.ensures.count in
    let le : length (triples_at t v) ≤ 2 * c.loop-pair.pair + 1 = omega (arith, c.loop-pair-test.false, half) in
    paired_all t v c.loop-pair.pairs.entries c.loop-pair.pair c.loop-pair.invariant le
