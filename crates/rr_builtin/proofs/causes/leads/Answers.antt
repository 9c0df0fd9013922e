-- One cause after the other, up to the slot, or to the last one.
use Rattle.std.proofs.Common.{◌≡◌, ◌∙◌, ◌+◌, ◌-◌, ◌<◌, suc, length, sym, ap, arith}
use Rattle.rr_space.specs.Parts.{value_of}
use Rattle.rr_space.specs.declared.refer.Ref.{Ref}
use Rattle.rr_builtin.specs.Acts.{element_at}
use Rattle.rr_builtin.specs.Causes.{leads}
use Rattle.rr_builtin.proofs.Causing.{leads_here, leads_next, leads_none}
use Rattle.rr_builtin.proofs.causes.leads.Goals as goal

pub loop-preserved : goal.loop-preserved
loop-preserved c = λ k e.
    let t = c.args.space.now in
    let n = c.args.slot in
    let more : suc k + c.loop.counter ≡ length t.slots = omega (arith, e) in
    c.loop.invariant (suc k) more
    ∙ ap (λ (r : Ref). leads (suc k) t (value_of r) n) c.in-Local.is
    ∙ leads_next k t c.in-Local.found n c.if-found-slot.false
    ∙ ap (λ x. leads k t x n) (ap (λ (r : Ref). element_at t r 1) (sym c.in-Local.is) ∙ sym c.cause_of-at.ensures)

pub returns-then-found-slot : goal.returns-then-found-slot
returns-then-found-slot c =
    let t = c.args.space.now in
    let n = c.args.slot in
    let lt : c.loop.counter < length t.slots = omega (arith, c.loop-test.true, c.len-end.ensures.count) in
    let k = length t.slots - suc c.loop.counter in
    let more : suc k + c.loop.counter ≡ length t.slots = omega (arith, lt) in
    sym (
    c.loop.invariant (suc k) more
    ∙ ap (λ (r : Ref). leads (suc k) t (value_of r) n) c.in-Local.is
    ∙ leads_here k t c.in-Local.found n c.if-found-slot.true)

pub returns-in_default : goal.returns-in_default
returns-in_default c =
    let t = c.args.space.now in
    let lt : c.loop.counter < length t.slots = omega (arith, c.loop-test.true, c.len-end.ensures.count) in
    let k = length t.slots - c.loop.counter in
    let more : k + c.loop.counter ≡ length t.slots = omega (arith, lt) in
    sym (c.loop.invariant k more ∙ leads_none k t c.loop.at c.args.slot c.in_default.not-Local)

pub returns : goal.returns
returns c =
    let t = c.args.space.now in
    let all : 0 + c.loop.counter ≡ length t.slots = omega (arith, c.loop-test.false, c.loop.auto.counter-end, c.len-end.ensures.count) in
    sym (c.loop.invariant 0 all)
