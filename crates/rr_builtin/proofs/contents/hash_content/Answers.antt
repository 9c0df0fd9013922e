use Rattle.std.proofs.Common.{◌≡◌, refl}
use Rattle.rr_space.specs.Tables.{Table, Below}
use Rattle.rr_space.specs.declared.refer.Ref.{Ref}
use Rattle.rr_builtin.specs.declared.method.ContentMethod.{ContentMethod}
use Rattle.rr_builtin.specs.declared.method.ContentMethod.TheVariants as method
use Rattle.rr_builtin.specs.Acts.{Answers, Lacks}
use Rattle.rr_builtin.specs.Containers.{hash_content}
use Rattle.rr_builtin.proofs.contents.hash_content.Goals as goal

lacking : (below : Below) (m : ContentMethod) (v a b : Ref) (t : Table) → (m ≡ method.Size → ⊥) → (m ≡ method.Length → ⊥) → (m ≡ method.IsEmpty → ⊥) → (m ≡ method.At → ⊥) → (m ≡ method.SetAt → ⊥) → (m ≡ method.HasKey → ⊥) → (m ≡ method.Delete → ⊥) → (m ≡ method.Keys → ⊥) → (m ≡ method.Values → ⊥) → Answers Lacks ≡ hash_content below m v a b t
lacking below method.Size v a b t size long empty at set has delete keys values = absurd (size refl)
lacking below method.Length v a b t size long empty at set has delete keys values = absurd (long refl)
lacking below method.IsEmpty v a b t size long empty at set has delete keys values = absurd (empty refl)
lacking below method.First v a b t size long empty at set has delete keys values = refl
lacking below method.Last v a b t size long empty at set has delete keys values = refl
lacking below method.At v a b t size long empty at set has delete keys values = absurd (at refl)
lacking below method.SetAt v a b t size long empty at set has delete keys values = absurd (set refl)
lacking below method.Append v a b t size long empty at set has delete keys values = refl
lacking below method.Push v a b t size long empty at set has delete keys values = refl
lacking below method.Pop v a b t size long empty at set has delete keys values = refl
lacking below method.Shift v a b t size long empty at set has delete keys values = refl
lacking below method.Includes v a b t size long empty at set has delete keys values = refl
lacking below method.Keys v a b t size long empty at set has delete keys values = absurd (keys refl)
lacking below method.Values v a b t size long empty at set has delete keys values = absurd (values refl)
lacking below method.HasKey v a b t size long empty at set has delete keys values = absurd (has refl)
lacking below method.Delete v a b t size long empty at set has delete keys values = absurd (delete refl)
lacking below method.Sum v a b t size long empty at set has delete keys values = refl
lacking below method.Sort v a b t size long empty at set has delete keys values = refl
lacking below method.Join v a b t size long empty at set has delete keys values = refl

pub returns-in_default-clause-act : goal.returns-in_default-clause-act
returns-in_default-clause-act c =
    λ below read hash. lacking below c.args.method c.args.hash c.args.argument c.args.second c.args.space.now c.in_default.not-Size c.in_default.not-Length c.in_default.not-IsEmpty c.in_default.not-At c.in_default.not-SetAt c.in_default.not-HasKey c.in_default.not-Delete c.in_default.not-Keys c.in_default.not-Values

pub returns-in_ok-names-in-Keys-clause-among : goal.returns-in_ok-names-in-Keys-clause-among
returns-in_ok-names-in-Keys-clause-among c = λ below read hash argument second. c.in_ok-names-in-Keys.ensures.among below read hash

pub returns-in_ok-values-in-Values-clause-among : goal.returns-in_ok-values-in-Values-clause-among
returns-in_ok-values-in-Values-clause-among c = λ below read hash argument second. c.in_ok-values-in-Values.ensures.among below read hash
