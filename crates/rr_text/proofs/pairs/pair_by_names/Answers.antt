use Rattle.std.proofs.Common.{◌≡◌, ◌∙◌, ◌+◌, ◌*◌, ◌/◌, ◌<◌, ◌≤◌, drop, length, map, Some, ap, sym, arith}
use Rattle.std.specs.Option.{option_map}
use Rattle.std.proofs.lemmas.Bool.{false≢true}
use Rattle.rr_space.specs.Labels.{triples_at}
use Rattle.rr_space.specs.Parts.{value_of}
use Rattle.rr_space.specs.Tables.{graph_of, resolve}
use Rattle.rr_space.specs.Views.{key_of}
use Rattle.rr_text.specs.Keys.{key_in, pairs_in, place_among}
use Rattle.rr_text.specs.Comparing.{value_in}
use Rattle.rr_text.specs.Same.{triples_in}
use Rattle.rr_text.proofs.Finding.{key_seen, place_first, place_found, place_later}
use Rattle.rr_text.proofs.Fronts.{pairs_next}
use Rattle.rr_text.proofs.Looking.{among_child}
use Rattle.rr_text.proofs.Sided.{count_told, value_told, pairs_told_end}
use Rattle.rr_text.proofs.pairs.pair_by_names.Goals as goal

pub loop-pair-init : goal.loop-pair-init
loop-pair-init c = λ below read among.
    let t = c.args.space.now in
    let g = graph_of t.slots below in
    place_first (key_of c.args.key.now) (map (λ p. key_in g p.0) (pairs_in (triples_in g (resolve t.slots (value_of c.args.hash)))))

pub returns-then-is_key-clause-is : goal.returns-then-is_key-clause-is
returns-then-is_key-clause-is c = λ below read among.
    let t = c.args.space.now in
    let g = graph_of t.slots below in
    let v = c.args.hash in
    let n = c.loop-pair.pair in
    let key = key_of c.args.key.now in
    let sound = c.len-count.ensures.well.sound in
    let ts = triples_in g (resolve t.slots (value_of v)) in
    let x = c.value_at.result in
    let half : c.arity-pair-end.result / 2 ≡ length (triples_at t v) / 2 = ap (λ m. m / 2) c.arity-pair-end.ensures.count in
    let lt : 2 * n + 1 < length ts = omega (arith, c.loop-pair-test.true, half, count_told t below sound read v among) in
    let seen = key_seen t below x sound read (among_child t below v x read among c.value_at.ensures.known) in
    let is : key_in g (value_in ts (2 * n)) ≡ Some key = ap (key_in g) (value_told t below sound read v x (2 * n) among c.value_at.ensures.is) ∙ seen ∙ c.is_key.ensures.0 c.if-is_key.true in
    sym (c.loop-pair.invariant below read among
    ∙ ap (λ ps. option_map (λ i. n + i) (place_among key (map (λ p. key_in g p.0) ps))) (pairs_next ts n lt)
    ∙ place_found key (key_in g (value_in ts (2 * n))) (map (λ p. key_in g p.0) (drop (n + 1) (pairs_in ts))) n is)

pub loop-pair-preserved : goal.loop-pair-preserved
loop-pair-preserved c = λ below read among.
    let t = c.args.space.now in
    let g = graph_of t.slots below in
    let v = c.args.hash in
    let n = c.loop-pair.pair in
    let key = key_of c.args.key.now in
    let sound = c.len-count.ensures.well.sound in
    let ts = triples_in g (resolve t.slots (value_of v)) in
    let x = c.value_at.result in
    let half : c.arity-pair-end.result / 2 ≡ length (triples_at t v) / 2 = ap (λ m. m / 2) c.arity-pair-end.ensures.count in
    let lt : 2 * n + 1 < length ts = omega (arith, c.loop-pair-test.true, half, count_told t below sound read v among) in
    let seen = key_seen t below x sound read (among_child t below v x read among c.value_at.ensures.known) in
    let told : key_in g (value_in ts (2 * n)) ≡ key_in g (resolve t.slots (value_of x)) = ap (key_in g) (value_told t below sound read v x (2 * n) among c.value_at.ensures.is) in
    c.loop-pair.invariant below read among
    ∙ ap (λ ps. option_map (λ i. n + i) (place_among key (map (λ p. key_in g p.0) ps))) (pairs_next ts n lt)
    ∙ place_later key (key_in g (value_in ts (2 * n))) (map (λ p. key_in g p.0) (drop (n + 1) (pairs_in ts))) n
    (λ e. false≢true (sym c.if-is_key.false ∙ c.is_key.ensures.1 (sym seen ∙ sym told ∙ e)))

pub returns-clause-is : goal.returns-clause-is
returns-clause-is c = λ below read among.
    let t = c.args.space.now in
    let g = graph_of t.slots below in
    let v = c.args.hash in
    let n = c.loop-pair.pair in
    let half : c.arity-pair-end.result / 2 ≡ length (triples_at t v) / 2 = ap (λ m. m / 2) c.arity-pair-end.ensures.count in
    let le : length (triples_at t v) ≤ 2 * n + 1 = omega (arith, c.loop-pair-test.false, half) in
    sym (c.loop-pair.invariant below read among
    ∙ ap (λ ps. option_map (λ i. n + i) (place_among (key_of c.args.key.now) (map (λ p. key_in g p.0) ps))) (pairs_told_end t below c.len-count.ensures.well.sound read v n among le))
