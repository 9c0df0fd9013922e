-- The class above a class, by numbers.
use Rattle.std.proofs.Common.{◌≡◌, ◌∙◌, ℕ, zero, suc, ◌+◌, ◌-◌, ◌<◌, ◌≤◌, Bool, true, false, nat_eq, nat_lt, slice_get, slice_index_or, if◌then◌else◌, refl, ap, arith}
use Rattle.std.proofs.lemmas.Bool.Decides.{nat_tests, eqb_tells}
use Rattle.std.proofs.Math.Logic.{⊎_elim}
use Rattle.rr_base.specs.Classes.{class_id}
use Rattle.rr_base.specs.declared.class.BuiltInClass.{BuiltInClass}
use Rattle.rr_base.specs.declared.class.BuiltInClass.TheVariants as built_in
use Rattle.rr_base.specs.ClassNames.{built_in_classes}
use Rattle.rr_tree.specs.declared.program.Program.{Program}
use Rattle.rr_tree.specs.Ancestors.{parent_of, number_of, parent_in, superclass_of, holds_of, is_among}

pub above_built_in : (p : Program) (b : BuiltInClass) → superclass_of p (class_id b).0 ≡ number_of (parent_of b)
unfolding superclass_of
above_built_in p built_in.BasicObject = refl
above_built_in p built_in.MovedObject = refl
above_built_in p built_in.Object = refl
above_built_in p built_in.Integer = refl
above_built_in p built_in.String = refl
above_built_in p built_in.Symbol = refl
above_built_in p built_in.Array = refl
above_built_in p built_in.Hash = refl
above_built_in p built_in.NilClass = refl
above_built_in p built_in.TrueClass = refl
above_built_in p built_in.FalseClass = refl
above_built_in p built_in.Class = refl
above_built_in p built_in.Ractor = refl
above_built_in p built_in.Exception = refl
above_built_in p built_in.SystemStackError = refl
above_built_in p built_in.StandardError = refl
above_built_in p built_in.ArgumentError = refl
above_built_in p built_in.IndexError = refl
above_built_in p built_in.StopIteration = refl
above_built_in p built_in.ClosedError = refl
above_built_in p built_in.LocalJumpError = refl
above_built_in p built_in.NameError = refl
above_built_in p built_in.NoMethodError = refl
above_built_in p built_in.RangeError = refl
above_built_in p built_in.RuntimeError = refl
above_built_in p built_in.FrozenError = refl
above_built_in p built_in.TypeError = refl
above_built_in p built_in.ZeroDivisionError = refl
above_built_in p built_in.RactorError = refl
above_built_in p built_in.RemoteError = refl
above_built_in p built_in.MovedError = refl
above_built_in p built_in.IsolationError = refl

pub above_other : (p : Program) (n : ℕ) → 32 ≤ n → superclass_of p n ≡ parent_in (slice_get p.classes.items (n - 32))
unfolding superclass_of
above_other p n h =
    let past : nat_lt n 32 ≡ false = grind (arith, nat_tests) in
    ap (λ (b : Bool). if b then number_of (parent_of (slice_index_or built_in_classes n built_in.BasicObject)) else parent_in (slice_get p.classes.items (n - 32))) past

-- one step more
pub stepped : (p : Program) (steps c d : ℕ) → nat_eq c d ≡ false → is_among p (suc steps) c d ≡ holds_of (λ s. is_among p steps s d) (superclass_of p c)
stepped p steps c d other = ap (λ (t : Bool). if t then true else holds_of (λ s. is_among p steps s d) (superclass_of p c)) other

-- with k steps of which some are left
pub one_less : (p : Program) (n k c d : ℕ) → k < n → nat_eq c d ≡ false → is_among p (n - k) c d ≡ holds_of (λ s. is_among p (n - (k + 1)) s d) (superclass_of p c)
one_less p n k c d h other =
    let e : n - k ≡ suc (n - (k + 1)) = omega arith in
    ap (λ (m : ℕ). is_among p m c d) e ∙ stepped p (n - (k + 1)) c d other

pub found_at : (p : Program) (n c d : ℕ) → nat_eq c d ≡ true → is_among p n c d ≡ true
found_at p zero c d e = e
found_at p (suc n) c d e = ap (λ (t : Bool). if t then true else holds_of (λ s. is_among p n s d) (superclass_of p c)) e

pub differ : (c d : ℕ) → (c ≡ d → ⊥) → nat_eq c d ≡ false
differ c d h = ⊎_elim (λ same. absurd (h same.1)) (λ other. other.0) (eqb_tells c d)
