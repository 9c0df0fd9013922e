-- The next element is shown, or the array is at its end.
use Rattle.std.proofs.Common.{◌∙◌, ◌<◌, ◌+◌, length, refl, arith}
use Rattle.std.proofs.lemmas.List.Elements.{All-same, All-push}
use Rattle.rr_builtin.specs.Elements.{count_at}
use Rattle.rr_eval.specs.Leaves.{rest_of}
use Rattle.rr_eval.specs.Within.{reach, IsReached}
use Rattle.rr_eval.specs.declared.leaves.Opened.{Opened}
use Rattle.rr_eval.proofs.Inside.{element_next, lighter_next, lighter_closed}
use Rattle.rr_eval.proofs.leaves.Taken.step.Goals as goal

pub returns-then-top-arity-clause-lighter : goal.returns-then-top-arity-clause-lighter
returns-then-top-arity-clause-lighter c = lighter_closed c.args.space.now c.args.levels c.args.self.now.arrays.items c.args.top

pub returns-clause-stepped : goal.returns-clause-stepped
returns-clause-stepped c =
    let t = c.args.space.now in
    let f : Opened = record { array = c.args.top.array; next = c.args.top.next + 1 } in
    let lt : c.args.top.next < count_at t c.args.top.array = omega (arith, c.arity.ensures.count, c.if-top-arity.false) in
    element_next c.args.how t c.args.levels c.args.self.now.arrays.items c.args.top c.args.self.now.found.items c.push.new.self.items f c.element-item.result lt c.element-item.ensures.is refl c.in_ok-push.ensures.items
    ∙ c.in_ok-going.ensures.showed

pub returns-clause-lighter : goal.returns-clause-lighter
returns-clause-lighter c =
    let t = c.args.space.now in
    let f : Opened = record { array = c.args.top.array; next = c.args.top.next + 1 } in
    let less : rest_of t f < rest_of t c.args.top = omega (arith, c.arity.ensures.count, c.if-top-arity.false) in
    lighter_next t c.args.levels c.args.self.now.arrays.items c.push.new.self.items c.show.new.self.arrays.items c.args.top f c.in_ok-push.ensures.items c.requires.depth less c.in_ok-going.ensures.grown

pub returns-clause-opened : goal.returns-clause-opened
returns-clause-opened c = λ clusters all one.
    let k = reach (length c.args.space.now.slots) clusters in
    let f : Opened = record { array = c.args.top.array; next = c.args.top.next + 1 } in
    c.in_ok-going.ensures.opened k (All-same (λ (f : Opened). IsReached k f.array) _ _ c.in_ok-push.ensures.items (All-push (λ (f : Opened). IsReached k f.array) c.args.self.now.arrays.items f all one)) (c.element-item.ensures.within clusters)

pub returns-clause-found : goal.returns-clause-found
returns-clause-found c = λ clusters all. c.in_ok-going.ensures.found (reach (length c.args.space.now.slots) clusters) all (c.element-item.ensures.within clusters)
