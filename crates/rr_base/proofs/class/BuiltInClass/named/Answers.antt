-- The classes are looked at by their numbers.
use Rattle.std.proofs.Common.{◌≡◌, ◌∙◌, ◌≤◌, sym, ap, arith, true, false}
use Rattle.std.specs.Str.{bytes_eq}
use Rattle.rr_base.specs.Classes.{class_name}
use Rattle.rr_base.proofs.Classes.{named_first, named_here, named_next, named_none}
use Rattle.rr_base.proofs.class.BuiltInClass.named.Goals as goal

pub loop-number-init : goal.loop-number-init
loop-number-init c = named_first c.args.name.now

pub returns-then-eq : goal.returns-then-eq
returns-then-eq c =
    let name = c.args.name.now in
    let is : bytes_eq (class_name c.in-Some.class) name ≡ true = ap (λ s. bytes_eq s name) (sym (c.as_bytes.ensures.value ∙ c.name.ensures)) ∙ sym c.if-eq.ensures in
    sym (c.loop-number.invariant ∙ named_here name c.in-Some.class c.loop-number.number c.in-Some.ensures c.loop-number-test.true is)

pub loop-number-preserved : goal.loop-number-preserved
loop-number-preserved c =
    let name = c.args.name.now in
    let is : bytes_eq (class_name c.in-Some.class) name ≡ false = ap (λ s. bytes_eq s name) (sym (c.as_bytes.ensures.value ∙ c.name.ensures)) ∙ sym c.if-eq.ensures in
    c.loop-number.invariant ∙ named_next name c.in-Some.class c.loop-number.number c.in-Some.ensures c.loop-number-test.true is

pub returns : goal.returns
returns c =
    let past : 32 ≤ c.loop-number.number = omega (arith, c.loop-number-test.false) in
    sym (c.loop-number.invariant ∙ named_none c.args.name.now c.loop-number.number past)
