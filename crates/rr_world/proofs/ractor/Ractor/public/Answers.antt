use Rattle.std.proofs.Common.{sym, ap}
use Rattle.rr_world.specs.Views.{Member}
use Rattle.rr_world.proofs.Operands.{public_ref}
use Rattle.rr_world.proofs.ractor.Ractor.public.Goals as goal

pub returns-in_default-value : goal.returns-in_default-value
returns-in_default-value c = record {
  some = public_ref c.args.self.now c.self.inside.space (ap (λ (m : Member). m.space) c.self.view_is) c.args.operand c.in-Some.named c.resolve-value.result (sym c.in-Some.ensures.is) c.in-Some.ensures.within
      c.resolve-value.ensures.value c.resolve-value.ensures.within c.resolve-value.ensures.below c.in_default-value.not-Local;
  none = tt;
}
