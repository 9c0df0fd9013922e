-- One name more is found.
use Rattle.std.proofs.Common.{◌≡◌, ◌<◌, ◌+◌, ◌-◌, ◌∙◌, Bool, Bor, ℕ, List, [], Option, Some, length, get_or, take, drop, sym, ap, arith, if◌then◌else◌, length-take}
use Rattle.std.specs.Str.{bytes_eq}
use Rattle.std.specs.List.{position_from}
use Rattle.std.specs.Map.{lookup}
use Rattle.std.proofs.lemmas.Cmp.{nat_list_eq_equiv}
use Rattle.std.proofs.lemmas.Iterator.Adapters.{position_from-zero}
use Rattle.std.proofs.lemmas.List.{get_or-take, length-map}
use Rattle.indexmap.specs.IndexMap.{get}
use Rattle.rr_tree.specs.Names.{symbols_of}
use Rattle.rr_tree.proofs.Placed.{place_next, place_past}
use Rattle.rr_tree.proofs.name_index.NameIndex.of.Goals as goal

pub loop-number-init : goal.loop-number-init
loop-number-init c =
    let all = symbols_of c.args.program.now in
    let some = take 4294967295 all in
    let size = length-map c.args.program.now.symbols.items (λ s. s.items) in
    let end : c.min-number.result ≡ length some = omega (arith, length-take 4294967295 all, size, c.min-number.ensures, c.len.ensures) in (
      omega (arith, end),
      λ (k : Bor (List ℕ)).
          ap (lookup (λ (y : Bor (List ℕ)). bytes_eq k.now y.now)) c.new-numbers.ensures.empty
          ∙ sym (place_past (bytes_eq k.now) some c.min-number.result (omega (arith, end))),
    )

pub loop-number-preserved : goal.loop-number-preserved
loop-number-preserved c =
    let some = take 4294967295 (symbols_of c.args.program.now) in
    let n = c.loop-number.number - 1 in
    let below : n < length some = omega (arith, c.loop-number.invariant.0, c.loop-number-test.true) in
    let most : n < 4294967295 = omega (arith, length-take 4294967295 (symbols_of c.args.program.now), c.loop-number.invariant.0, c.loop-number-test.true) in
    let next : n + 1 ≡ c.loop-number.number = omega (arith, c.loop-number-test.true) in
    let key = c.symbol_bytes.result in
    let there : key.now ≡ get_or some n [] = c.symbol_bytes.ensures ∙ sym (get_or-take 4294967295 (symbols_of c.args.program.now) n [] most) in (
      omega (arith, c.loop-number.invariant.0),
      λ (k : Bor (List ℕ)).
          let test = bytes_eq k.now in
          let rest : Option ℕ = position_from test (n + 1) (drop (n + 1) some) in
          c.in_ok-insert.ensures.updates.0 k
          ∙ ap (λ (b : Bool). if b then Some n else get (λ (x y : Bor (List ℕ)). bytes_eq x.now y.now) c.loop-number.numbers k) (nat_list_eq_equiv.symm key.now k.now ∙ ap test there)
          ∙ ap (λ (o : Option ℕ). if test (get_or some n []) then Some n else o) (c.loop-number.invariant.1 k ∙ ap (λ (m : ℕ). position_from test m (drop m some)) (sym next))
          ∙ sym (place_next test some n [] below),
    )

pub returns : goal.returns
returns c k =
    let some = take 4294967295 (symbols_of c.args.program.now) in
    let first : c.loop-number.number ≡ 0 = omega (arith, c.loop-number-test.false) in
    c.loop-number.invariant.1 k
    ∙ ap (λ (m : ℕ). position_from (bytes_eq k.now) m (drop m some)) first
    ∙ sym (position_from-zero (bytes_eq k.now) some)
