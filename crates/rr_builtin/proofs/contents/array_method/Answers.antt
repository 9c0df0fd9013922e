use Rattle.std.proofs.Common.{◌≡◌, ◌∙◌, refl}
use Rattle.rr_space.specs.Tables.{Table, Below}
use Rattle.rr_text.specs.Names.{names_of}
use Rattle.rr_text.specs.Forms.{Names}
use Rattle.rr_space.specs.declared.refer.Ref.{Ref}
use Rattle.rr_builtin.specs.declared.method.ContentMethod.{ContentMethod}
use Rattle.rr_builtin.specs.declared.method.ContentMethod.TheVariants as method
use Rattle.rr_builtin.specs.Containers.{array_content, array_method}
use Rattle.rr_builtin.proofs.Among.{on_if_ok}
use Rattle.rr_builtin.proofs.contents.array_method.Goals as goal

not_included : (names : Names) (below : Below) (m : ContentMethod) (v a b : Ref) (t : Table) → (m ≡ method.Includes → ⊥) → (m ≡ method.Join → ⊥) → array_content below m v a b t ≡ array_method names below m v a b t
not_included names below method.Size v a b t out none = refl
not_included names below method.Length v a b t out none = refl
not_included names below method.IsEmpty v a b t out none = refl
not_included names below method.First v a b t out none = refl
not_included names below method.Last v a b t out none = refl
not_included names below method.At v a b t out none = refl
not_included names below method.Append v a b t out none = refl
not_included names below method.Push v a b t out none = refl
not_included names below method.Pop v a b t out none = refl
not_included names below method.Shift v a b t out none = refl
not_included names below method.Includes v a b t out none = absurd (out refl)
not_included names below method.SetAt v a b t out none = refl
not_included names below method.Keys v a b t out none = refl
not_included names below method.Values v a b t out none = refl
not_included names below method.HasKey v a b t out none = refl
not_included names below method.Delete v a b t out none = refl
not_included names below method.Sum v a b t out none = refl
not_included names below method.Sort v a b t out none = refl
not_included names below method.Join v a b t out none = absurd (none refl)

pub returns-in_default-clause-act : goal.returns-in_default-clause-act
returns-in_default-clause-act c =
    on_if_ok _ _ c.array_content.result c.array_content.ensures.act
    (λ d h below read array argument. h below read array ∙ not_included (names_of c.args.program.now) below c.args.method c.args.array c.args.argument c.args.second c.args.space.now c.in_default.not-Includes c.in_default.not-Join)

pub returns-in-Includes-clause-among : goal.returns-in-Includes-clause-among
returns-in-Includes-clause-among c = on_if_ok _ _ c.included_deed.result c.included_deed.ensures.among (λ d h below read array argument second. h below)

pub returns-in-Join-clause-among : goal.returns-in-Join-clause-among
returns-in-Join-clause-among c = on_if_ok _ _ c.join_deed.result c.join_deed.ensures.among (λ d h below read array argument second. h below)
