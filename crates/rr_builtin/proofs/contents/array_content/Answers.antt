use Rattle.std.proofs.Common.{◌≡◌, refl}
use Rattle.rr_space.specs.Tables.{Table, Below}
use Rattle.rr_space.specs.declared.refer.Ref.{Ref}
use Rattle.rr_builtin.specs.declared.method.ContentMethod.{ContentMethod}
use Rattle.rr_builtin.specs.declared.method.ContentMethod.TheVariants as method
use Rattle.rr_builtin.specs.Acts.{Answers, Lacks}
use Rattle.rr_builtin.specs.Containers.{array_content}
use Rattle.rr_builtin.proofs.contents.array_content.Goals as goal

lacking : (below : Below) (m : ContentMethod) (v a b : Ref) (t : Table) → (m ≡ method.Size → ⊥) → (m ≡ method.Length → ⊥) → (m ≡ method.IsEmpty → ⊥) → (m ≡ method.First → ⊥) → (m ≡ method.Last → ⊥) → (m ≡ method.At → ⊥) → (m ≡ method.Append → ⊥) → (m ≡ method.Push → ⊥) → (m ≡ method.Pop → ⊥) → (m ≡ method.Shift → ⊥) → (m ≡ method.SetAt → ⊥) → (m ≡ method.Sum → ⊥) → (m ≡ method.Sort → ⊥) → Answers Lacks ≡ array_content below m v a b t
lacking below method.Size v a b t size long empty first last at append push pop shift set sum sort = absurd (size refl)
lacking below method.Length v a b t size long empty first last at append push pop shift set sum sort = absurd (long refl)
lacking below method.IsEmpty v a b t size long empty first last at append push pop shift set sum sort = absurd (empty refl)
lacking below method.First v a b t size long empty first last at append push pop shift set sum sort = absurd (first refl)
lacking below method.Last v a b t size long empty first last at append push pop shift set sum sort = absurd (last refl)
lacking below method.At v a b t size long empty first last at append push pop shift set sum sort = absurd (at refl)
lacking below method.SetAt v a b t size long empty first last at append push pop shift set sum sort = absurd (set refl)
lacking below method.Append v a b t size long empty first last at append push pop shift set sum sort = absurd (append refl)
lacking below method.Push v a b t size long empty first last at append push pop shift set sum sort = absurd (push refl)
lacking below method.Pop v a b t size long empty first last at append push pop shift set sum sort = absurd (pop refl)
lacking below method.Shift v a b t size long empty first last at append push pop shift set sum sort = absurd (shift refl)
lacking below method.Includes v a b t size long empty first last at append push pop shift set sum sort = refl
lacking below method.Keys v a b t size long empty first last at append push pop shift set sum sort = refl
lacking below method.Values v a b t size long empty first last at append push pop shift set sum sort = refl
lacking below method.HasKey v a b t size long empty first last at append push pop shift set sum sort = refl
lacking below method.Delete v a b t size long empty first last at append push pop shift set sum sort = refl
lacking below method.Sum v a b t size long empty first last at append push pop shift set sum sort = absurd (sum refl)
lacking below method.Sort v a b t size long empty first last at append push pop shift set sum sort = absurd (sort refl)
lacking below method.Join v a b t size long empty first last at append push pop shift set sum sort = refl

pub returns-in_default-clause-act : goal.returns-in_default-clause-act
returns-in_default-clause-act c =
    λ below read array. lacking below c.args.method c.args.array c.args.argument c.args.second c.args.space.now c.in_default.not-Size c.in_default.not-Length c.in_default.not-IsEmpty c.in_default.not-First c.in_default.not-Last c.in_default.not-At c.in_default.not-Append c.in_default.not-Push c.in_default.not-Pop c.in_default.not-Shift c.in_default.not-SetAt c.in_default.not-Sum c.in_default.not-Sort

pub returns-in-First-clause-among : goal.returns-in-First-clause-among
returns-in-First-clause-among c = λ below read array argument second. c.element_at.ensures.among below read array

pub returns-in-Last-clause-among : goal.returns-in-Last-clause-among
returns-in-Last-clause-among c = λ below read array argument second. c.element_at-in-Last.ensures.among below read array

pub returns-in-At-clause-among : goal.returns-in-At-clause-among
returns-in-At-clause-among c = λ below read array argument second. c.indexed.ensures.among below read array

pub returns-in-Append-clause-among : goal.returns-in-Append-clause-among
returns-in-Append-clause-among c = λ below read array argument second. c.push_deed.ensures.among below argument

pub returns-in-Push-clause-among : goal.returns-in-Push-clause-among
returns-in-Push-clause-among c = λ below read array argument second. c.push_deed-in-Push.ensures.among below argument

pub returns-in-Sum-clause-among : goal.returns-in-Sum-clause-among
returns-in-Sum-clause-among c = λ below read array argument second. c.sum_deed.ensures.among below
