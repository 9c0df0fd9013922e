-- The built-in classes stand in the list by their numbers.
use Rattle.std.proofs.Common.{◌≡◌, ◌∙◌, ◌+◌, ◌<◌, ◌≤◌, ℕ, List, ◌∷◌, ◌++◌, length, drop, true, false, Some, None, if◌then◌else◌, ap, sym, arith, refl, get_or}
use Rattle.std.proofs.lemmas.List.{drop_more, drop_all}
use Rattle.std.specs.Prelude.{codes}
use Rattle.std.specs.Str.{bytes_eq}
use Rattle.rr_base.specs.Classes.{class_name}
use Rattle.rr_base.specs.declared.name.ClassId.{ClassId}
use Rattle.rr_base.specs.Classes.{class_id}
use Rattle.rr_base.specs.declared.class.BuiltInClass.{BuiltInClass}
use Rattle.rr_base.specs.declared.class.BuiltInClass.TheVariants as built_in
use Rattle.rr_base.specs.ClassNames.{built_in_classes, class_among, class_named}

pub of_number : (k d : BuiltInClass) → get_or built_in_classes (class_id k).0 d ≡ k
of_number built_in.BasicObject d = refl
of_number built_in.MovedObject d = refl
of_number built_in.Object d = refl
of_number built_in.Integer d = refl
of_number built_in.String d = refl
of_number built_in.Symbol d = refl
of_number built_in.Array d = refl
of_number built_in.Hash d = refl
of_number built_in.NilClass d = refl
of_number built_in.TrueClass d = refl
of_number built_in.FalseClass d = refl
of_number built_in.Class d = refl
of_number built_in.Ractor d = refl
of_number built_in.Exception d = refl
of_number built_in.SystemStackError d = refl
of_number built_in.StandardError d = refl
of_number built_in.ArgumentError d = refl
of_number built_in.IndexError d = refl
of_number built_in.StopIteration d = refl
of_number built_in.ClosedError d = refl
of_number built_in.LocalJumpError d = refl
of_number built_in.NameError d = refl
of_number built_in.NoMethodError d = refl
of_number built_in.RangeError d = refl
of_number built_in.RuntimeError d = refl
of_number built_in.FrozenError d = refl
of_number built_in.TypeError d = refl
of_number built_in.ZeroDivisionError d = refl
of_number built_in.RactorError d = refl
of_number built_in.RemoteError d = refl
of_number built_in.MovedError d = refl
of_number built_in.IsolationError d = refl

classes_length : length built_in_classes ≡ 32
classes_length = refl

next_class : (k : BuiltInClass) (n : ℕ) → class_id k ≡ record { 0 = n } → n < 32 → drop n built_in_classes ≡ k ∷ drop (n + 1) built_in_classes
next_class k n e lt =
    let count = classes_length in
    let number : (class_id k).0 ≡ n = ap (λ (c : ClassId). c.0) e in
    drop_more built_in_classes n k (omega (arith, lt, count))
    ∙ ap (λ x. x ∷ drop (n + 1) built_in_classes) (ap (λ m. get_or built_in_classes m k) (sym number) ∙ of_number k k)

-- all of them are looked at
pub named_first : (name : List ℕ) → class_named name ≡ class_among name (drop 0 built_in_classes)
unfolding class_named
named_first name = refl

-- a class that has the name, and one that has not
pub named_here : (name : List ℕ) (k : BuiltInClass) (n : ℕ) → class_id k ≡ record { 0 = n } → n < 32 → bytes_eq (class_name k) name ≡ true → class_among name (drop n built_in_classes) ≡ Some k
named_here name k n e lt is =
    ap (class_among name) (next_class k n e lt) ∙ ap (λ b. if b then Some k else class_among name (drop (n + 1) built_in_classes)) is

pub named_next : (name : List ℕ) (k : BuiltInClass) (n : ℕ) → class_id k ≡ record { 0 = n } → n < 32 → bytes_eq (class_name k) name ≡ false → class_among name (drop n built_in_classes) ≡ class_among name (drop (n + 1) built_in_classes)
named_next name k n e lt is =
    ap (class_among name) (next_class k n e lt) ∙ ap (λ b. if b then Some k else class_among name (drop (n + 1) built_in_classes)) is

-- none is left
pub named_none : (name : List ℕ) (n : ℕ) → 32 ≤ n → class_among name (drop n built_in_classes) ≡ None
named_none name n past =
    let count = classes_length in
    ap (class_among name) (drop_all n built_in_classes (omega (arith, past, count)))

-- the classes whose names begin with `Ractor::`
pub in_ractor : (name : List ℕ) → class_named (codes "Ractor::" ++ name) ≡
    (if bytes_eq (codes "MovedObject") name then Some built_in.MovedObject else
    if bytes_eq (codes "ClosedError") name then Some built_in.ClosedError else
    if bytes_eq (codes "Error") name then Some built_in.RactorError else
    if bytes_eq (codes "RemoteError") name then Some built_in.RemoteError else
    if bytes_eq (codes "MovedError") name then Some built_in.MovedError else
    if bytes_eq (codes "IsolationError") name then Some built_in.IsolationError else None)
unfolding class_named
in_ractor name = refl
