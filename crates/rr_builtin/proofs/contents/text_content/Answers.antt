use Rattle.std.proofs.Common.{◌≡◌, refl}
use Rattle.rr_space.specs.Tables.{Table}
use Rattle.rr_space.specs.declared.refer.Ref.{Ref}
use Rattle.rr_builtin.specs.declared.method.ContentMethod.{ContentMethod}
use Rattle.rr_builtin.specs.declared.method.ContentMethod.TheVariants as method
use Rattle.rr_builtin.specs.Acts.{Answers, Lacks}
use Rattle.rr_builtin.specs.Contents.{text_content}
use Rattle.rr_builtin.proofs.contents.text_content.Goals as goal

lacking : (m : ContentMethod) (v a : Ref) (t : Table) → (m ≡ method.Size → ⊥) → (m ≡ method.Length → ⊥) → (m ≡ method.IsEmpty → ⊥) → (m ≡ method.Append → ⊥) → (m ≡ method.Includes → ⊥) → (m ≡ method.At → ⊥) → Answers Lacks ≡ text_content m v a t
lacking method.Size v a t size long empty append includes at = absurd (size refl)
lacking method.Length v a t size long empty append includes at = absurd (long refl)
lacking method.IsEmpty v a t size long empty append includes at = absurd (empty refl)
lacking method.First v a t size long empty append includes at = refl
lacking method.Last v a t size long empty append includes at = refl
lacking method.At v a t size long empty append includes at = absurd (at refl)
lacking method.SetAt v a t size long empty append includes at = refl
lacking method.Append v a t size long empty append includes at = absurd (append refl)
lacking method.Push v a t size long empty append includes at = refl
lacking method.Pop v a t size long empty append includes at = refl
lacking method.Shift v a t size long empty append includes at = refl
lacking method.Includes v a t size long empty append includes at = absurd (includes refl)
lacking method.Keys v a t size long empty append includes at = refl
lacking method.Values v a t size long empty append includes at = refl
lacking method.HasKey v a t size long empty append includes at = refl
lacking method.Delete v a t size long empty append includes at = refl
lacking method.Sum v a t size long empty append includes at = refl
lacking method.Sort v a t size long empty append includes at = refl
lacking method.Join v a t size long empty append includes at = refl

pub returns-in_default-clause-act : goal.returns-in_default-clause-act
returns-in_default-clause-act c =
    lacking c.args.method c.args.text c.args.argument c.args.space.now c.in_default.not-Size c.in_default.not-Length c.in_default.not-IsEmpty c.in_default.not-Append c.in_default.not-Includes c.in_default.not-At
