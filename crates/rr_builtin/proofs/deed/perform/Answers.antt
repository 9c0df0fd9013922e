use Rattle.std.proofs.Common.{ℕ, List, sym, subst}
use Rattle.rr_builtin.specs.declared.deed.Deed.{Deed}
use Rattle.rr_builtin.specs.Acts.{Acts, Appends, IsDone, performed}
use Rattle.rr_builtin.specs.Deeds.{act_of, IsDeedAmong}
use Rattle.rr_builtin.specs.Deeds.{IsFit}
use Rattle.rr_builtin.specs.Acts.{IsServed}
use Rattle.std.proofs.Common.{Ok}
use Rattle.rr_space.specs.Tables.{Table}
use Rattle.rr_builtin.specs.declared.built.Built.TheVariants as built
use Rattle.rr_builtin.proofs.Serving.{served_same, served_frozen}
use Rattle.rr_builtin.proofs.deed.perform.Goals as goal

pub returns-in-Make-clause-act : goal.returns-in-Make-clause-act
returns-in-Make-clause-act c = λ below read receiver among.
    subst (λ (d : Deed). Acts below (performed (act_of d) c.args.receiver) c.args.space.now c.make.new.space c.make.result) (sym c.in-Make.is) (c.make.ensures.act below c.args.receiver read)

pub returns-in-Append-clause-act : goal.returns-in-Append-clause-act
returns-in-Append-clause-act c = λ below read receiver among.
    subst (λ (d : Deed). Acts below (performed (act_of d) c.args.receiver) c.args.space.now c.append.new.space c.append.result) (sym c.in-Append.is)
    (subst (λ (bytes : List ℕ). Acts below (performed (Appends bytes) c.args.receiver) c.args.space.now c.append.new.space c.append.result) c.deref.ensures.value (c.append.ensures.act below read))

pub returns-in-Push-clause-act : goal.returns-in-Push-clause-act
returns-in-Push-clause-act c = λ below read receiver among.
    subst (λ (d : Deed). Acts below (performed (act_of d) c.args.receiver) c.args.space.now c.push.new.space c.push.result) (sym c.in-Push.is)
    (c.push.ensures.act below read (subst (λ (d : Deed). IsDeedAmong below d) c.in-Push.is among))

pub returns-in-Take-clause-act : goal.returns-in-Take-clause-act
returns-in-Take-clause-act c = λ below read receiver among.
    subst (λ (d : Deed). IsDone below (performed (act_of d) c.args.receiver c.args.space.now) c.args.space.now c.take.new.space c.take.result) (sym c.in-Take.is) (c.take.ensures.act below read)

pub returns-in-MakeArray-clause-act : goal.returns-in-MakeArray-clause-act
returns-in-MakeArray-clause-act c = λ below read receiver among.
    subst (λ (d : Deed). Acts below (performed (act_of d) c.args.receiver) c.args.space.now c.make_array.new.space c.make_array.result) (sym c.in-MakeArray.is)
    (c.make_array.ensures.act below c.args.receiver read (subst (λ (d : Deed). IsDeedAmong below d) c.in-MakeArray.is among))

pub returns-in-Put-clause-act : goal.returns-in-Put-clause-act
returns-in-Put-clause-act c = λ below read receiver among.
    subst (λ (d : Deed). Acts below (performed (act_of d) c.args.receiver) c.args.space.now c.put.new.space c.put.result) (sym c.in-Put.is)
    (c.put.ensures.act below read (subst (λ (d : Deed). IsDeedAmong below d) c.in-Put.is among))

pub returns-in-Refill-clause-act : goal.returns-in-Refill-clause-act
returns-in-Refill-clause-act c = λ below read receiver among.
    let parts = subst (λ (d : Deed). IsDeedAmong below d) c.in-Refill.is among in
    subst (λ (d : Deed). IsDone below (performed (act_of d) c.args.receiver c.args.space.now) c.args.space.now c.refill.new.space c.refill.result) (sym c.in-Refill.is) (c.refill.ensures.act below read parts.0 parts.1)

pub returns-in-SetValue-clause-act : goal.returns-in-SetValue-clause-act
returns-in-SetValue-clause-act c = λ below read receiver among.
    subst (λ (d : Deed). Acts below (performed (act_of d) c.args.receiver) c.args.space.now c.set_value.new.space c.set_value.result) (sym c.in-SetValue.is)
    (c.set_value.ensures.act below read (subst (λ (d : Deed). IsDeedAmong below d) c.in-SetValue.is among))

pub returns-in-AddPair-clause-act : goal.returns-in-AddPair-clause-act
returns-in-AddPair-clause-act c = λ below read receiver among.
    let parts = subst (λ (d : Deed). IsDeedAmong below d) c.in-AddPair.is among in
    subst (λ (d : Deed). Acts below (performed (act_of d) c.args.receiver) c.args.space.now c.add_pair.new.space c.add_pair.result) (sym c.in-AddPair.is) (c.add_pair.ensures.act below read parts.0 parts.1)

pub returns-in-AddText-clause-act : goal.returns-in-AddText-clause-act
returns-in-AddText-clause-act c = λ below read receiver among.
    subst (λ (d : Deed). Acts below (performed (act_of d) c.args.receiver) c.args.space.now c.add_text.new.space c.add_text.result) (sym c.in-AddText.is)
    (c.add_text.ensures.act below read (subst (λ (d : Deed). IsDeedAmong below d) c.in-AddText.is among))

pub returns-in-TakePair-clause-act : goal.returns-in-TakePair-clause-act
returns-in-TakePair-clause-act c = λ below read receiver among.
    subst (λ (d : Deed). IsDone below (performed (act_of d) c.args.receiver c.args.space.now) c.args.space.now c.take_pair.new.space c.take_pair.result) (sym c.in-TakePair.is) (c.take_pair.ensures.act below read)

pub returns-in-MakeNode-clause-act : goal.returns-in-MakeNode-clause-act
returns-in-MakeNode-clause-act c = λ below read receiver among.
    subst (λ (d : Deed). Acts below (performed (act_of d) c.args.receiver) c.args.space.now c.make_node.new.space c.make_node.result) (sym c.in-MakeNode.is)
    (c.make_node.ensures.act below c.args.receiver read (subst (λ (d : Deed). IsDeedAmong below d) c.in-MakeNode.is among))

pub returns-in-Answer-clause-served : goal.returns-in-Answer-clause-served
returns-in-Answer-clause-served c = served_same c.args.space.now c.in-Answer.built (subst (λ (d : Deed). IsFit c.args.space.now c.args.receiver d) c.in-Answer.is c.requires.fit)

pub returns-in-Freeze-clause-served : goal.returns-in-Freeze-clause-served
returns-in-Freeze-clause-served c = subst (λ (t : Table). IsServed c.args.space.now t (Ok (built.Value c.args.receiver))) (sym c.freeze.ensures) (served_frozen c.args.space.now c.args.receiver c.requires.within)
