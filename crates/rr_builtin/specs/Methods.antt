-- The names of the built-in methods.
use Rattle.std.specs.Prelude.{◌≡◌, ℕ, List, [], ◌∷◌, codes, Option, Some, None, if◌then◌else◌, map, slice_index_or}
use Rattle.std.specs.Str.{bytes_eq}
use Rattle.rr_tree.specs.Names.{symbol_text}
use Rattle.rr_tree.specs.declared.program.Program.{Program}
use Rattle.rr_tree.specs.declared.node.BinaryOperator.{BinaryOperator}
use Rattle.rr_tree.specs.declared.node.BinaryOperator.TheVariants as operator
use Rattle.rr_builtin.specs.declared.method.NumberMethod.{NumberMethod}
use Rattle.rr_builtin.specs.declared.method.NumberMethod.TheVariants as number
use Rattle.rr_builtin.specs.declared.method.ObjectMethod.{ObjectMethod}
use Rattle.rr_builtin.specs.declared.method.ObjectMethod.TheVariants as object
use Rattle.rr_builtin.specs.declared.method.ContentMethod.{ContentMethod}
use Rattle.rr_builtin.specs.declared.method.ContentMethod.TheVariants as content
use Rattle.rr_builtin.specs.declared.method.TellingMethod.{TellingMethod}
use Rattle.rr_builtin.specs.declared.method.TellingMethod.TheVariants as telling
use Rattle.rr_builtin.specs.declared.method.BuiltInMethod.{BuiltInMethod}
use Rattle.rr_builtin.specs.declared.method.BuiltInMethod.TheVariants.{Operator, Number, Object, Content, Telling, New}

abbrev pub operator_name : BinaryOperator → List ℕ
operator_name operator.Add = codes "+"
operator_name operator.Subtract = codes "-"
operator_name operator.Multiply = codes "*"
operator_name operator.Divide = codes "/"
operator_name operator.Remainder = codes "%"
operator_name operator.Less = codes "<"
operator_name operator.LessOrEqual = codes "<="
operator_name operator.Greater = codes ">"
operator_name operator.GreaterOrEqual = codes ">="
operator_name operator.Compare = codes "<=>"
operator_name operator.Equal = codes "=="
operator_name operator.NotEqual = codes "!="

abbrev pub number_name : NumberMethod → List ℕ
number_name number.Opposite = codes "-@"
number_name number.Absolute = codes "abs"
number_name number.IsEven = codes "even?"
number_name number.IsOdd = codes "odd?"
number_name number.IsZero = codes "zero?"

abbrev pub object_name : ObjectMethod → List ℕ
object_name object.Class = codes "class"
object_name object.IsNil = codes "nil?"
object_name object.IsA = codes "is_a?"
object_name object.KindOf = codes "kind_of?"
object_name object.IsIdentical = codes "equal?"
object_name object.Not = codes "!"
object_name object.Freeze = codes "freeze"
object_name object.IsFrozen = codes "frozen?"
object_name object.ToS = codes "to_s"
object_name object.Inspect = codes "inspect"
object_name object.Dup = codes "dup"

abbrev pub content_name : ContentMethod → List ℕ
content_name content.Size = codes "size"
content_name content.Length = codes "length"
content_name content.IsEmpty = codes "empty?"
content_name content.First = codes "first"
content_name content.Last = codes "last"
content_name content.At = codes "[]"
content_name content.Append = codes "<<"
content_name content.Push = codes "push"
content_name content.Pop = codes "pop"
content_name content.Shift = codes "shift"
content_name content.Includes = codes "include?"
content_name content.SetAt = codes "[]="
content_name content.Keys = codes "keys"
content_name content.Values = codes "values"
content_name content.HasKey = codes "key?"
content_name content.Delete = codes "delete"
content_name content.Sum = codes "sum"
content_name content.Sort = codes "sort"
content_name content.Join = codes "join"

abbrev pub telling_name : TellingMethod → List ℕ
telling_name telling.Name = codes "name"
telling_name telling.Message = codes "message"
telling_name telling.Cause = codes "cause"
telling_name telling.Ractor = codes "ractor"

abbrev pub method_name : BuiltInMethod → List ℕ
method_name (Operator m) = operator_name m
method_name (Number m) = number_name m
method_name (Object m) = object_name m
method_name (Content m) = content_name m
method_name (Telling m) = telling_name m
method_name New = codes "new"

abbrev pub arithmetic : List BuiltInMethod
arithmetic = Operator operator.Add ∷ Operator operator.Subtract ∷ Operator operator.Multiply ∷ Operator operator.Divide ∷ Operator operator.Remainder ∷ []

abbrev pub comparisons : List BuiltInMethod
comparisons = Operator operator.Less ∷ Operator operator.LessOrEqual ∷ Operator operator.Greater ∷ Operator operator.GreaterOrEqual ∷ Operator operator.Compare
    ∷ Operator operator.Equal ∷ Operator operator.NotEqual ∷ []

abbrev pub number_methods : List BuiltInMethod
number_methods = Number number.Opposite ∷ Number number.Absolute ∷ Number number.IsEven ∷ Number number.IsOdd ∷ Number number.IsZero ∷ []

abbrev pub object_methods : List BuiltInMethod
object_methods = Object object.Class ∷ Object object.IsA ∷ Object object.KindOf ∷ Object object.IsNil ∷ Object object.IsIdentical ∷ Object object.Not ∷ Object object.Freeze ∷ Object object.IsFrozen
    ∷ Object object.ToS ∷ Object object.Inspect ∷ Object object.Dup ∷ []

-- what tells of what is in a value
abbrev pub reading_methods : List BuiltInMethod
reading_methods = Content content.Size ∷ Content content.Length ∷ Content content.IsEmpty ∷ Content content.First ∷ Content content.Last ∷ Content content.At
    ∷ Content content.Includes ∷ []

-- what changes what is in a value
abbrev pub writing_methods : List BuiltInMethod
writing_methods = Content content.Append ∷ Content content.Push ∷ Content content.Pop ∷ Content content.Shift ∷ Content content.SetAt ∷ Content content.Delete ∷ []

-- what hashes are asked about their pairs, and what comes of all elements of an array
abbrev pub whole_methods : List BuiltInMethod
whole_methods = Content content.Keys ∷ Content content.Values ∷ Content content.HasKey ∷ Content content.Sum ∷ Content content.Sort ∷ Content content.Join ∷ []

abbrev pub telling_methods : List BuiltInMethod
telling_methods = Telling telling.Name ∷ Telling telling.Message ∷ Telling telling.Cause ∷ Telling telling.Ractor ∷ New ∷ []

-- the first of these methods that has the name
abbrev pub named_among : List ℕ → List BuiltInMethod → Option BuiltInMethod
named_among name [] = None
named_among name (m ∷ ms) = if bytes_eq name (method_name m) then Some m else named_among name ms

abbrev pub or_else : Option BuiltInMethod → Option BuiltInMethod → Option BuiltInMethod
or_else (Some m) other = Some m
or_else None other = other

-- the built-in method of a name
unfoldable pub method_named : List ℕ → Option BuiltInMethod
method_named name =
    or_else (named_among name arithmetic) (or_else (named_among name comparisons) (or_else (named_among name number_methods)
    (or_else (named_among name object_methods) (or_else (named_among name reading_methods) (or_else (named_among name writing_methods)
    (or_else (named_among name whole_methods) (named_among name telling_methods)))))))

-- each built-in method has a name of its own
abbrev pub NamesAreOne : Type 0
NamesAreOne = (m : BuiltInMethod) → method_named (method_name m) ≡ Some m

-- what a name finds has that name
abbrev pub NamesAreMet : Type 0
NamesAreMet = (name : List ℕ) (m : BuiltInMethod) → method_named name ≡ Some m → method_name m ≡ name

-- the table of a program's names has for each name the method of its bytes, and none past them
abbrev pub TableIsByName : Type 0
TableIsByName = (p : Program) (n : ℕ) → slice_index_or (map (λ s. method_named s.items) p.symbols.items) n None ≡ method_named (symbol_text p n)
