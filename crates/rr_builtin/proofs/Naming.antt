-- Names find the built-in methods that have them.
use Rattle.std.proofs.Common.{◌≡◌, ℕ, zero, suc, Bool, true, false, List, [], ◌∷◌, Vec, Option, Some, None, map, slice_index_or, if◌then◌else◌, refl, ap}
use Rattle.std.specs.Str.{bytes_eq}
use Rattle.std.proofs.lemmas.Slice.Eq.{bytes_eq-Decides}
use Rattle.rr_tree.specs.declared.node.BinaryOperator.TheVariants as operator
use Rattle.rr_builtin.specs.declared.method.NumberMethod.TheVariants as number
use Rattle.rr_builtin.specs.declared.method.ObjectMethod.TheVariants as object
use Rattle.rr_builtin.specs.declared.method.ContentMethod.TheVariants as content
use Rattle.rr_builtin.specs.declared.method.TellingMethod.TheVariants as telling
use Rattle.rr_builtin.specs.declared.method.BuiltInMethod.{BuiltInMethod}
use Rattle.rr_builtin.specs.declared.method.BuiltInMethod.TheVariants.{Operator, Number, Object, Content, Telling, New}
use Rattle.rr_builtin.specs.Methods.{method_name, method_named, named_among, or_else, arithmetic, comparisons, number_methods, object_methods, reading_methods, writing_methods, whole_methods, telling_methods, NamesAreOne, NamesAreMet, TableIsByName}

pub names_are_one : NamesAreOne
unfolding method_named
names_are_one (Operator operator.Add) = refl
names_are_one (Operator operator.Subtract) = refl
names_are_one (Operator operator.Multiply) = refl
names_are_one (Operator operator.Divide) = refl
names_are_one (Operator operator.Remainder) = refl
names_are_one (Operator operator.Less) = refl
names_are_one (Operator operator.LessOrEqual) = refl
names_are_one (Operator operator.Greater) = refl
names_are_one (Operator operator.GreaterOrEqual) = refl
names_are_one (Operator operator.Compare) = refl
names_are_one (Operator operator.Equal) = refl
names_are_one (Operator operator.NotEqual) = refl
names_are_one (Number number.Opposite) = refl
names_are_one (Number number.Absolute) = refl
names_are_one (Number number.IsEven) = refl
names_are_one (Number number.IsOdd) = refl
names_are_one (Number number.IsZero) = refl
names_are_one (Object object.Class) = refl
names_are_one (Object object.IsA) = refl
names_are_one (Object object.KindOf) = refl
names_are_one (Object object.IsNil) = refl
names_are_one (Object object.IsIdentical) = refl
names_are_one (Object object.Not) = refl
names_are_one (Object object.Freeze) = refl
names_are_one (Object object.IsFrozen) = refl
names_are_one (Object object.ToS) = refl
names_are_one (Object object.Inspect) = refl
names_are_one (Object object.Dup) = refl
names_are_one (Content content.Size) = refl
names_are_one (Content content.Length) = refl
names_are_one (Content content.IsEmpty) = refl
names_are_one (Content content.First) = refl
names_are_one (Content content.Last) = refl
names_are_one (Content content.At) = refl
names_are_one (Content content.Append) = refl
names_are_one (Content content.Push) = refl
names_are_one (Content content.Pop) = refl
names_are_one (Content content.Shift) = refl
names_are_one (Content content.Includes) = refl
names_are_one (Content content.SetAt) = refl
names_are_one (Content content.Keys) = refl
names_are_one (Content content.Values) = refl
names_are_one (Content content.HasKey) = refl
names_are_one (Content content.Delete) = refl
names_are_one (Content content.Sum) = refl
names_are_one (Content content.Sort) = refl
names_are_one (Content content.Join) = refl
names_are_one (Telling telling.Name) = refl
names_are_one (Telling telling.Message) = refl
names_are_one (Telling telling.Cause) = refl
names_are_one (Telling telling.Ractor) = refl
names_are_one New = refl

-- a method that is taken only where a test holds
taken : (b : Bool) (m n : BuiltInMethod) (rest : Option BuiltInMethod) (P : Type 0) → (b ≡ true → m ≡ n → P) → (rest ≡ Some n → P) → (if b then Some m else rest) ≡ Some n → P
taken true m n rest P here there e = let is : m ≡ n = cc in here refl is
taken false m n rest P here there e = there e

met_among : (name : List ℕ) (ms : List BuiltInMethod) (m : BuiltInMethod) → named_among name ms ≡ Some m → method_name m ≡ name
met_among name [] m e = let none : ⊥ = cc in absurd none
met_among name (k ∷ ms) m e =
    taken (bytes_eq name (method_name k)) k m (named_among name ms) (method_name m ≡ name)
    (λ same is. let met : name ≡ method_name k = (bytes_eq-Decides name (method_name k)).0 same in let turned : method_name k ≡ method_name m = ap method_name is in cc)
    (met_among name ms m) e

met_else : (name : List ℕ) (a b : Option BuiltInMethod) (m : BuiltInMethod) → (a ≡ Some m → method_name m ≡ name) → (b ≡ Some m → method_name m ≡ name) → or_else a b ≡ Some m → method_name m ≡ name
met_else name (Some k) b m left right e = left e
met_else name None b m left right e = right e

pub names_are_met : NamesAreMet
unfolding method_named
names_are_met name m e =
    met_else name (named_among name arithmetic) _ m (met_among name arithmetic m)
    (met_else name (named_among name comparisons) _ m (met_among name comparisons m)
    (met_else name (named_among name number_methods) _ m (met_among name number_methods m)
    (met_else name (named_among name object_methods) _ m (met_among name object_methods m)
    (met_else name (named_among name reading_methods) _ m (met_among name reading_methods m)
    (met_else name (named_among name writing_methods) _ m (met_among name writing_methods m)
    (met_else name (named_among name whole_methods) _ m (met_among name whole_methods m) (met_among name telling_methods m))))))) e

at_name : {A : Type 0} (ss : List (Vec ℕ A)) (n : ℕ) → slice_index_or (map (λ s. method_named s.items) ss) n None ≡ method_named (slice_index_or (map (λ s. s.items) ss) n [])
unfolding method_named
at_name [] n = refl
at_name (s ∷ ss) zero = refl
at_name (s ∷ ss) (suc n) = at_name ss n

pub table_is_by_name : TableIsByName
table_is_by_name p n = at_name p.symbols.items n
