-- One name further.
use Rattle.std.proofs.Common.{◌≡◌, ◌<◌, ◌≤◌, ◌+◌, ◌∙◌, Bool, true, false, [], Some, length, get_or, take, drop, sym, ap, arith, if◌then◌else◌, length-take}
use Rattle.std.specs.Str.{bytes_eq}
use Rattle.std.specs.List.{position_from}
use Rattle.std.proofs.lemmas.Iterator.Adapters.{position_from-zero}
use Rattle.std.proofs.lemmas.List.{get_or-take, length-map}
use Rattle.rr_tree.specs.Names.{symbols_of}
use Rattle.rr_tree.proofs.Placed.{place_next, place_past}
use Rattle.rr_tree.proofs.program.Program.symbol_named.Goals as goal

pub returns-then-eq : goal.returns-then-eq
returns-then-eq c =
    let all = symbols_of c.args.self.now in
    let some = take 4294967295 all in
    let test = bytes_eq c.args.bytes.now in
    let n = c.loop-number.number in
    let size = length-map c.args.self.now.symbols.items (λ s. s.items) in
    let below : n < length some = omega (arith, length-take 4294967295 all, size, c.min-count.ensures, c.len.ensures, c.loop-number-test.true) in
    let here : test (get_or some n []) ≡ true = ap test (get_or-take 4294967295 all n [] (omega (arith, c.min-count.ensures, c.loop-number-test.true)) ∙ sym c.symbol_bytes.ensures) ∙ sym c.eq.ensures ∙ c.if-eq.true in
    sym (
    position_from-zero test some
    ∙ c.loop-number.invariant
    ∙ place_next test some n [] below
    ∙ ap (λ (b : Bool). if b then Some n else position_from test (n + 1) (drop (n + 1) some)) here
    )

pub loop-number-preserved : goal.loop-number-preserved
loop-number-preserved c =
    let all = symbols_of c.args.self.now in
    let some = take 4294967295 all in
    let test = bytes_eq c.args.bytes.now in
    let n = c.loop-number.number in
    let size = length-map c.args.self.now.symbols.items (λ s. s.items) in
    let below : n < length some = omega (arith, length-take 4294967295 all, size, c.min-count.ensures, c.len.ensures, c.loop-number-test.true) in
    let here : test (get_or some n []) ≡ false = ap test (get_or-take 4294967295 all n [] (omega (arith, c.min-count.ensures, c.loop-number-test.true)) ∙ sym c.symbol_bytes.ensures) ∙ sym c.eq.ensures ∙ c.if-eq.false in
    c.loop-number.invariant
    ∙ place_next test some n [] below
    ∙ ap (λ (b : Bool). if b then Some n else position_from test (n + 1) (drop (n + 1) some)) here

pub returns : goal.returns
returns c =
    let all = symbols_of c.args.self.now in
    let some = take 4294967295 all in
    let test = bytes_eq c.args.bytes.now in
    let n = c.loop-number.number in
    let size = length-map c.args.self.now.symbols.items (λ s. s.items) in
    let past : length some ≤ n = omega (arith, length-take 4294967295 all, size, c.min-count.ensures, c.len.ensures, c.loop-number-test.false) in
    sym (position_from-zero test some ∙ c.loop-number.invariant ∙ place_past test some n past)
