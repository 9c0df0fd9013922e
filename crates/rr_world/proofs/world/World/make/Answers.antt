use Rattle.std.proofs.Common.{length, ap, sym, subst, refl, arith}
use Rattle.rr_world.specs.Views.{Assembly}
use Rattle.rr_world.specs.Runs.{HasOutcome}
use Rattle.rr_world.specs.declared.step.Action.{Action}
use Rattle.rr_world.proofs.Enabled.{no_offer, no_close}
use Rattle.rr_world.proofs.Acts.{alone_else}
use Rattle.rr_world.proofs.Staying.{refused}
use Rattle.rr_world.proofs.world.World.make.Goals as goal

pub returns-in-None : goal.returns-in-None
returns-in-None c =
    let w = c.args.self.now in
    let many = ap length (ap (λ (v : Assembly). v.channels.inboxes) c.self.view_is) in
    refused (record { who = c.args.who; action = c.args.action }) w w refl
    (λ names g e. no_offer w names g (record { who = c.args.who; action = c.args.action }) c.in-Offer.to c.in-Offer.is (λ k there. let le = c.in-None.ensures.none refl k there in omega (arith, le, many, c.len.ensures)) e)

pub returns-in-None-place_of : goal.returns-in-None-place_of
returns-in-None-place_of c =
    let w = c.args.self.now in
    let many = ap length (ap (λ (v : Assembly). v.channels.inboxes) c.self-in-Close.view_is) in
    refused (record { who = c.args.who; action = c.args.action }) w w refl
    (λ names g e. no_close w names g (record { who = c.args.who; action = c.args.action }) c.in-Close.to c.in-Close.is (λ k there. let le = c.in-None-place_of.ensures.none refl k there in omega (arith, le, many, c.len-in-Close.ensures)) e)

pub returns-in-Discard : goal.returns-in-Discard
returns-in-Discard c =
    subst (λ (a : Action). HasOutcome (record { who = c.args.who; action = a }) c.discard.result c.args.self.now c.discard.new.self) (sym c.in-Discard.is) c.discard.ensures

pub returns-in-Accept : goal.returns-in-Accept
returns-in-Accept c =
    subst (λ (a : Action). HasOutcome (record { who = c.args.who; action = a }) c.accept.result c.args.self.now c.accept.new.self) (sym c.in-Accept.is) c.accept.ensures

pub returns-in-Start : goal.returns-in-Start
returns-in-Start c =
    subst (λ (a : Action). HasOutcome (record { who = c.args.who; action = a }) c.start.result c.args.self.now c.start.new.self) (sym c.in-Start.is) c.start.ensures

pub returns-in-SetConst : goal.returns-in-SetConst
returns-in-SetConst c =
    subst (λ (a : Action). HasOutcome (record { who = c.args.who; action = a }) c.set_const.result c.args.self.now c.set_const.new.self) (sym c.in-SetConst.is) c.set_const.ensures

pub returns-in-SetOwn : goal.returns-in-SetOwn
returns-in-SetOwn c =
    subst (λ (a : Action). HasOutcome (record { who = c.args.who; action = a }) c.set_own.result c.args.self.now c.set_own.new.self) (sym c.in-SetOwn.is) c.set_own.ensures

pub returns-in-GetConst : goal.returns-in-GetConst
returns-in-GetConst c =
    subst (λ (a : Action). HasOutcome (record { who = c.args.who; action = a }) c.get_const.result c.args.self.now c.get_const.new.self) (sym c.in-GetConst.is) c.get_const.ensures

pub returns-in-End : goal.returns-in-End
returns-in-End c =
    subst (λ (a : Action). HasOutcome (record { who = c.args.who; action = a }) c.end.result c.args.self.now c.end.new.self) (sym c.in-End.is) c.end.ensures

pub returns-in-Show : goal.returns-in-Show
returns-in-Show c =
    subst (λ (a : Action). HasOutcome (record { who = c.args.who; action = a }) c.show.result c.args.self.now c.show.new.self) (sym c.in-Show.is) c.show.ensures

pub returns-in-Withdraw : goal.returns-in-Withdraw
returns-in-Withdraw c =
    subst (λ (a : Action). HasOutcome (record { who = c.args.who; action = a }) c.withdraw.result c.args.self.now c.withdraw.new.self) (sym c.in-Withdraw.is) c.withdraw.ensures

pub returns-in-Settle : goal.returns-in-Settle
returns-in-Settle c =
    subst (λ (a : Action). HasOutcome (record { who = c.args.who; action = a }) c.settle.result c.args.self.now c.settle.new.self) (sym c.in-Settle.is) c.settle.ensures

pub returns-in-ShowLast : goal.returns-in-ShowLast
returns-in-ShowLast c =
    subst (λ (a : Action). HasOutcome (record { who = c.args.who; action = a }) c.show_last.result c.args.self.now c.show_last.new.self) (sym c.in-ShowLast.is) c.show_last.ensures

pub returns-in-Grab : goal.returns-in-Grab
returns-in-Grab c =
    subst (λ (a : Action). HasOutcome (record { who = c.args.who; action = a }) c.grab.result c.args.self.now c.grab.new.self) (sym c.in-Grab.is) c.grab.ensures

pub returns-in-ClosePort : goal.returns-in-ClosePort
returns-in-ClosePort c =
    subst (λ (a : Action). HasOutcome (record { who = c.args.who; action = a }) c.close_port.result c.args.self.now c.close_port.new.self) (sym c.in-ClosePort.is) c.close_port.ensures

pub act-requires-clause-alone : goal.act-requires-clause-alone
act-requires-clause-alone c = alone_else c.args.action c.in_default.not-Publish c.in_default.not-Discard c.in_default.not-Offer c.in_default.not-Accept c.in_default.not-Close c.in_default.not-ClosePort c.in_default.not-ShowLast c.in_default.not-Show c.in_default.not-Withdraw c.in_default.not-Settle c.in_default.not-Grab c.in_default.not-Start c.in_default.not-End c.in_default.not-SetConst c.in_default.not-SetOwn c.in_default.not-GetConst
