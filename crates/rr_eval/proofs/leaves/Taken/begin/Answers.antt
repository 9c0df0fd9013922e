-- An array is begun, unless it is empty or begun already, or would be too deep.
use Rattle.std.proofs.Common.{◌≡◌, ◌∙◌, ◌<◌, ◌^◌, refl, ap, sym, subst, arith}
use Rattle.std.specs.List.{list_any}
use Rattle.rr_builtin.specs.Elements.{count_at}
use Rattle.rr_builtin.specs.Objects.{identical}
use Rattle.rr_eval.specs.Leaves.{IsGrown}
use Rattle.rr_eval.specs.declared.leaves.Opened.{Opened}
use Rattle.rr_eval.proofs.Inside.{found_empty, begun_again, begun_deep, begun_inside, again_reached, grown_same, grown_push}
use Rattle.rr_eval.proofs.leaves.Taken.begin.Goals as goal

pub returns-then-arity-eq0-clause-showed : goal.returns-then-arity-eq0-clause-showed
returns-then-arity-eq0-clause-showed c =
    let none : count_at c.args.space.now c.args.array ≡ 0 = omega (arith, c.arity.ensures.count, c.if-arity-eq0.true) in
    found_empty c.args.how c.args.space.now c.args.levels c.args.self.now.arrays.items c.args.self.now.found.items c.push.new.self.items c.args.array c.requires.array none c.in_ok-push.ensures.items

pub returns-then-arity-eq0-clause-grown : goal.returns-then-arity-eq0-clause-grown
returns-then-arity-eq0-clause-grown c = grown_same c.args.space.now c.args.levels c.args.self.now.arrays.items c.requires.fit

pub returns-then-is_above-clause-showed : goal.returns-then-is_above-clause-showed
returns-then-is_above-clause-showed c =
    let t = c.args.space.now in
    let v = c.args.array in
    let some : count_at t v ≡ 0 → ⊥ = λ z. omega (arith, z, c.arity.ensures.count, c.if-arity-eq0.false) in
    begun_again c.args.how t c.args.levels c.args.self.now.arrays.items c.come_again.new.self.arrays.items c.args.self.now.found.items c.come_again.new.self.found.items v c.in_ok-going.going c.requires.array some
    (ap (list_any (λ (f : Opened). identical t v f.array)) (sym c.deref.ensures.value) ∙ sym c.is_above.ensures ∙ c.if-is_above.true) c.come_again.ensures.arrays c.in_ok-going.ensures.found

pub returns-then-is_above-clause-grown : goal.returns-then-is_above-clause-grown
returns-then-is_above-clause-grown c =
    let fs = c.args.self.now.arrays.items in
    subst (IsGrown c.args.space.now c.args.levels fs) (sym c.come_again.ensures.arrays) (grown_same c.args.space.now c.args.levels fs c.requires.fit)

pub returns-then-is_above-clause-found : goal.returns-then-is_above-clause-found
returns-then-is_above-clause-found c = λ k all one.
    again_reached k c.args.how c.args.array c.in_ok-going.going c.args.self.now.found.items c.come_again.new.self.found.items c.in_ok-going.ensures.found all one

pub returns-then-len-levels-clause-showed : goal.returns-then-len-levels-clause-showed
returns-then-len-levels-clause-showed c =
    let t = c.args.space.now in
    let v = c.args.array in
    let some : count_at t v ≡ 0 → ⊥ = λ z. omega (arith, z, c.arity.ensures.count, c.if-arity-eq0.false) in
    begun_deep c.args.how t c.args.levels c.args.self.now.arrays.items c.args.self.now.found.items v c.requires.array some
    (ap (list_any (λ (f : Opened). identical t v f.array)) (sym c.deref.ensures.value) ∙ sym c.is_above.ensures ∙ c.if-is_above.false) (omega (arith, c.len.ensures, c.if-len-levels.true))

pub returns-then-len-levels-clause-grown : goal.returns-then-len-levels-clause-grown
returns-then-len-levels-clause-grown c = grown_same c.args.space.now c.args.levels c.args.self.now.arrays.items c.requires.fit

pub returns-clause-showed : goal.returns-clause-showed
returns-clause-showed c =
    let t = c.args.space.now in
    let v = c.args.array in
    let f : Opened = record { array = v; next = 0 } in
    let some : count_at t v ≡ 0 → ⊥ = λ z. omega (arith, z, c.arity.ensures.count, c.if-arity-eq0.false) in
    begun_inside c.args.how t c.args.levels c.args.self.now.arrays.items c.args.self.now.found.items v c.requires.array some f c.push-2.new.self.items
    (ap (list_any (λ (f : Opened). identical t v f.array)) (sym c.deref.ensures.value) ∙ sym c.is_above.ensures ∙ c.if-is_above.false) (omega (arith, c.len.ensures, c.if-len-levels.false)) refl c.in_ok-push-2.ensures.items

pub returns-clause-grown : goal.returns-clause-grown
returns-clause-grown c =
    let f : Opened = record { array = c.args.array; next = 0 } in
    let few : count_at c.args.space.now c.args.array < 2 ^ 64 = omega (arith, c.arity.ensures.count) in
    grown_push c.args.space.now c.args.levels c.args.self.now.arrays.items c.push-2.new.self.items f c.in_ok-push-2.ensures.items (omega (arith, c.len.ensures, c.if-len-levels.false)) few
