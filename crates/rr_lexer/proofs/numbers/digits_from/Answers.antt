use Rattle.std.proofs.Common.{◌≡◌, true, arith, ap, get_or}
use Rattle.rr_lexer.specs.Numbers.{is_digit_of}
use Rattle.rr_lexer.proofs.Digits.{grows_here}
use Rattle.rr_lexer.proofs.numbers.digits_from.Goals as goal

pub returns-then-next-gt-LARGEST-clause-is : goal.returns-then-next-gt-LARGEST-clause-is
returns-then-next-gt-LARGEST-clause-is c =
    let s = c.args.rest.now in
    let q : is_digit_of c.args.base (get_or s c.loop-i.i 0) ≡ true = cc in
    let g = grows_here c.args.base c.requires.some s c.loop-i.i c.loop-i.value c.loop-i-test.true q in
    let e = ap (λ p. p.0) c.loop-i.invariant.same in
    let t = rw (c.from.ensures, c.from-then-is_digit_of.ensures, c.from-then-is_digit_of-2.ensures, c.digit_value.ensures) at c.if-next-gt-LARGEST.true in
    omega (arith, e, g, t)
