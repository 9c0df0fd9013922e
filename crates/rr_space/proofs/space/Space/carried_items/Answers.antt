use Rattle.std.proofs.Common.{◌≤◌, length, sym, ◌∙◌, arith}
use Rattle.rr_space.specs.Views.{IsCarried}
use Rattle.rr_space.proofs.Carrying.{zip_none, zip_one, zip_two}
use Rattle.rr_space.proofs.space.Space.carried_items.Goals as goal

pub returns-in_default-clause-items : goal.returns-in_default-clause-items
returns-in_default-clause-items c = zip_none (IsCarried c.args.self.now c.args.names.now) c.args.items.now c.new.result (sym c.get.ensures ∙ c.in_default.is) c.new.ensures

pub returns-in-None-clause-items : goal.returns-in-None-clause-items
returns-in-None-clause-items c =
    let a = c.carried-first.ensures in
    zip_one (IsCarried c.args.self.now c.args.names.now) c.args.items.now c.one.result c.in-Some.first c.carried-first.result
    (sym c.get.ensures ∙ c.in-Some.is) (sym c.get-2.ensures ∙ c.in-None.is) (record { same = a.same; within = a.within; below = a.below }) c.one.ensures

pub returns-in-Some-get-clause-items : goal.returns-in-Some-get-clause-items
returns-in-Some-get-clause-items c =
    let a = c.carried-first.ensures in
    let b = c.carried.ensures in
    let few : length c.args.items.now ≤ 2 = omega (arith, c.if-len-gt2.false, c.len.ensures) in
    zip_two (IsCarried c.args.self.now c.args.names.now) c.args.items.now c.two.result c.in-Some.first c.in-Some-get.second c.carried-first.result c.carried.result
    (sym c.get.ensures ∙ c.in-Some.is) (sym c.get-2.ensures ∙ c.in-Some-get.is) few
    (record { same = a.same; within = a.within; below = a.below }) (record { same = b.same; within = b.within; below = b.below }) c.two.ensures
