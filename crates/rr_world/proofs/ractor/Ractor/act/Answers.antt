use Rattle.std.proofs.Common.{sym, subst}
use Rattle.rr_world.specs.Acting.{ActsByItself}
use Rattle.rr_world.specs.declared.step.Action.{Action}
use Rattle.rr_world.proofs.Acts.{not_alone}
use Rattle.rr_world.proofs.ractor.Ractor.act.Goals as goal

pub returns-in-Alloc : goal.returns-in-Alloc
returns-in-Alloc c =
    subst (λ (a : Action). ActsByItself a c.alloc.result c.args.self.now c.alloc.new.self) (sym c.in-Alloc.is) c.alloc.ensures

pub returns-in-Pack : goal.returns-in-Pack
returns-in-Pack c =
    subst (λ (a : Action). ActsByItself a c.pack.result c.args.self.now c.pack.new.self) (sym c.in-Pack.is) c.pack.ensures

pub returns-in-Detach : goal.returns-in-Detach
returns-in-Detach c =
    subst (λ (a : Action). ActsByItself a c.detach.result c.args.self.now c.detach.new.self) (sym c.in-Detach.is) c.detach.ensures

pub returns-in-PutBack : goal.returns-in-PutBack
returns-in-PutBack c =
    subst (λ (a : Action). ActsByItself a c.put_back.result c.args.self.now c.put_back.new.self) (sym c.in-PutBack.is) c.put_back.ensures

pub returns-in-Plan : goal.returns-in-Plan
returns-in-Plan c =
    subst (λ (a : Action). ActsByItself a c.plan.result c.args.self.now c.plan.new.self) (sym c.in-Plan.is) c.plan.ensures

pub returns-in-Promote : goal.returns-in-Promote
returns-in-Promote c =
    subst (λ (a : Action). ActsByItself a c.promote.result c.args.self.now c.promote.new.self) (sym c.in-Promote.is) c.promote.ensures

pub returns-in-Open : goal.returns-in-Open
returns-in-Open c =
    subst (λ (a : Action). ActsByItself a c.open_held.result c.args.self.now c.open_held.new.self) (sym c.in-Open.is) c.open_held.ensures

pub returns-in-Freeze : goal.returns-in-Freeze
returns-in-Freeze c =
    subst (λ (a : Action). ActsByItself a c.freeze.result c.args.self.now c.freeze.new.self) (sym c.in-Freeze.is) c.freeze.ensures

pub returns-in-Append : goal.returns-in-Append
returns-in-Append c =
    subst (λ (a : Action). ActsByItself a c.append.result c.args.self.now c.append.new.self) (sym c.in-Append.is) c.append.ensures

pub returns-in-Clear : goal.returns-in-Clear
returns-in-Clear c =
    subst (λ (a : Action). ActsByItself a c.clear_text.result c.args.self.now c.clear_text.new.self) (sym c.in-Clear.is) c.clear_text.ensures

pub returns-in-Push : goal.returns-in-Push
returns-in-Push c =
    subst (λ (a : Action). ActsByItself a c.push.result c.args.self.now c.push.new.self) (sym c.in-Push.is) c.push.ensures

pub returns-in-Write : goal.returns-in-Write
returns-in-Write c =
    subst (λ (a : Action). ActsByItself a c.write.result c.args.self.now c.write.new.self) (sym c.in-Write.is) c.write.ensures

pub returns-in-Take : goal.returns-in-Take
returns-in-Take c =
    subst (λ (a : Action). ActsByItself a c.take_element.result c.args.self.now c.take_element.new.self) (sym c.in-Take.is) c.take_element.ensures

pub returns-in-SetField : goal.returns-in-SetField
returns-in-SetField c =
    subst (λ (a : Action). ActsByItself a c.set_field.result c.args.self.now c.set_field.new.self) (sym c.in-SetField.is) c.set_field.ensures

pub returns-in-SetRaised : goal.returns-in-SetRaised
returns-in-SetRaised c =
    subst (λ (a : Action). ActsByItself a c.set_raised.result c.args.self.now c.set_raised.new.self) (sym c.in-SetRaised.is) c.set_raised.ensures

pub returns-in-SetPair : goal.returns-in-SetPair
returns-in-SetPair c =
    subst (λ (a : Action). ActsByItself a c.set_pair.result c.args.self.now c.set_pair.new.self) (sym c.in-SetPair.is) c.set_pair.ensures

pub returns-in-DeletePair : goal.returns-in-DeletePair
returns-in-DeletePair c =
    subst (λ (a : Action). ActsByItself a c.delete_pair.result c.args.self.now c.delete_pair.new.self) (sym c.in-DeletePair.is) c.delete_pair.ensures

pub returns-in-Read : goal.returns-in-Read
returns-in-Read c =
    subst (λ (a : Action). ActsByItself a c.read.result c.args.self.now c.read.new.self) (sym c.in-Read.is) c.read.ensures

pub returns-in_default : goal.returns-in_default
returns-in_default c = absurd (not_alone c.args.action c.in_default.not-Alloc c.in_default.not-Pack c.in_default.not-Detach c.in_default.not-PutBack c.in_default.not-Plan c.in_default.not-Promote c.in_default.not-Open c.in_default.not-Freeze c.in_default.not-Append c.in_default.not-Clear c.in_default.not-Push c.in_default.not-Write c.in_default.not-Take c.in_default.not-SetField c.in_default.not-SetRaised c.in_default.not-SetPair c.in_default.not-DeletePair c.in_default.not-Read c.requires)
