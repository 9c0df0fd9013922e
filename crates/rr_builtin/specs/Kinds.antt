-- Which methods the values of a kind have, and how many arguments they take.
use Rattle.std.specs.Prelude.{ℕ, Bool, true, false, not, ◌&&◌}
use Rattle.rr_space.specs.declared.kind.Kind.{Kind}
use Rattle.rr_space.specs.declared.kind.Kind.TheVariants as kind
use Rattle.rr_tree.specs.declared.node.BinaryOperator.{BinaryOperator}
use Rattle.rr_tree.specs.declared.node.BinaryOperator.TheVariants.{Add, Subtract, Multiply, Divide, Remainder, Less, LessOrEqual, Greater, GreaterOrEqual, Compare, Equal, NotEqual}
use Rattle.rr_builtin.specs.declared.method.ObjectMethod.{ObjectMethod}
use Rattle.rr_builtin.specs.declared.method.ObjectMethod.TheVariants.{IsA, KindOf, IsIdentical, ToS}
use Rattle.rr_builtin.specs.declared.method.ContentMethod.{ContentMethod}
use Rattle.rr_builtin.specs.declared.method.ContentMethod.TheVariants.{Size, Length, IsEmpty, First, Last, At, Append, Push, Pop, Shift, Includes, SetAt, Keys, Values, HasKey, Delete, Sum, Sort, Join}
use Rattle.rr_builtin.specs.declared.method.TellingMethod.{TellingMethod}
use Rattle.rr_builtin.specs.declared.method.TellingMethod.TheVariants as telling
use Rattle.rr_builtin.specs.declared.method.BuiltInMethod.{BuiltInMethod}
use Rattle.rr_builtin.specs.declared.method.BuiltInMethod.TheVariants.{Operator, Number, Object, Content, Telling, New}

abbrev pub is_shell_kind : Kind → Bool
is_shell_kind kind.Shell = true
is_shell_kind _ = false

abbrev pub is_integer_kind : Kind → Bool
is_integer_kind kind.Integer = true
is_integer_kind _ = false

abbrev pub is_array_kind : Kind → Bool
is_array_kind kind.Array = true
is_array_kind _ = false

-- which kinds have `*`, `<` and its kin, which have `+`, and which have `<=>`
abbrev pub is_added : Kind → Bool
is_added kind.Integer = true
is_added kind.Text = true
is_added _ = false

abbrev pub is_joined : Kind → Bool
is_joined kind.Integer = true
is_joined kind.Text = true
is_joined kind.Array = true
is_joined _ = false

abbrev pub has_order : Kind → Bool
has_order kind.Integer = true
has_order kind.Text = true
has_order kind.Symbol = true
has_order _ = false

-- the operators of values of the kind
abbrev pub has_operator : Kind → BinaryOperator → Bool
has_operator k Add = is_joined k
has_operator k Multiply = is_added k
has_operator k Subtract = is_integer_kind k
has_operator k Divide = is_integer_kind k
has_operator k Remainder = is_integer_kind k
has_operator k Less = is_added k
has_operator k LessOrEqual = is_added k
has_operator k Greater = is_added k
has_operator k GreaterOrEqual = is_added k
has_operator k Compare = has_order k
has_operator k Equal = true
has_operator k NotEqual = true

-- texts, arrays and hashes
abbrev pub has_size : Kind → Bool
has_size kind.Text = true
has_size kind.Array = true
has_size kind.Hash = true
has_size _ = false

abbrev pub is_text_kind : Kind → Bool
is_text_kind kind.Text = true
is_text_kind _ = false

-- texts and arrays
abbrev pub is_appended : Kind → Bool
is_appended kind.Text = true
is_appended kind.Array = true
is_appended _ = false

abbrev pub is_container : Kind → Bool
is_container kind.Array = true
is_container kind.Hash = true
is_container _ = false

abbrev pub is_hash : Kind → Bool
is_hash kind.Hash = true
is_hash _ = false

abbrev pub has_content : Kind → ContentMethod → Bool
has_content k Size = has_size k
has_content k Length = has_size k
has_content k IsEmpty = has_size k
has_content k Append = is_appended k
has_content k First = is_array_kind k
has_content k Last = is_array_kind k
has_content k At = has_size k
has_content k Push = is_array_kind k
has_content k Pop = is_array_kind k
has_content k Shift = is_array_kind k
has_content k Includes = is_appended k
has_content k SetAt = is_container k
has_content k Keys = is_hash k
has_content k HasKey = is_hash k
has_content k Values = is_hash k
has_content k Delete = is_hash k
has_content k Sum = is_array_kind k
has_content k Sort = is_array_kind k
has_content k Join = is_array_kind k

abbrev pub is_class : Kind → Bool
is_class kind.Class = true
is_class _ = false

abbrev pub is_exception : Kind → Bool
is_exception kind.Exception = true
is_exception _ = false

abbrev pub has_telling : Kind → TellingMethod → Bool
has_telling k telling.Name = is_class k
has_telling k telling.Message = is_exception k
has_telling k telling.Cause = is_exception k
has_telling k telling.Ractor = is_exception k

-- whether values of the kind have the method
abbrev pub has : Kind → BuiltInMethod → Bool
has k (Operator op) = has_operator k op
has k (Number m) = is_integer_kind k
has k (Object m) = true
has k (Content m) = has_content k m
has k (Telling m) = has_telling k m
has k New = is_class k

abbrev pub is_equality : BinaryOperator → Bool
is_equality Equal = true
is_equality NotEqual = true
is_equality _ = false

-- integers, symbols, classes, texts and exceptions have a `to_s` of their own
abbrev pub has_own_text : Kind → Bool
has_own_text kind.Integer = true
has_own_text kind.Symbol = true
has_own_text kind.Class = true
has_own_text kind.Text = true
has_own_text kind.Exception = true
has_own_text _ = false

abbrev pub has_own : Kind → ObjectMethod → Bool
has_own k ToS = has_own_text k
has_own k _ = false

-- whether values of the kind have the method by a class below Object: it then comes before a program's method in Object
abbrev pub stands_below_object : Kind → BuiltInMethod → Bool
stands_below_object k (Operator op) = has_operator k op && not (is_equality op)
stands_below_object k (Number m) = is_integer_kind k
stands_below_object k (Object m) = has_own k m
stands_below_object k (Content m) = has_content k m
stands_below_object k (Telling m) = has_telling k m
stands_below_object k New = is_class k

abbrev pub object_count : ObjectMethod → ℕ
object_count IsIdentical = 1
object_count IsA = 1
object_count KindOf = 1
object_count _ = 0

abbrev pub content_count : ContentMethod → ℕ
content_count At = 1
content_count Append = 1
content_count Push = 1
content_count Includes = 1
content_count SetAt = 2
content_count HasKey = 1
content_count Delete = 1
content_count _ = 0

abbrev pub is_new : BuiltInMethod → Bool
is_new (Operator op) = false
is_new (Number m) = false
is_new (Object m) = false
is_new (Content m) = false
is_new (Telling m) = false
is_new New = true

-- whether the method joins an array
abbrev pub is_join : BuiltInMethod → Bool
is_join (Content Join) = true
is_join _ = false

abbrev pub asks_ractor : TellingMethod → Bool
asks_ractor telling.Name = false
asks_ractor telling.Message = false
asks_ractor telling.Cause = false
asks_ractor telling.Ractor = true

-- whether remote errors alone have the method
abbrev pub is_of_remote_errors : BuiltInMethod → Bool
is_of_remote_errors (Operator op) = false
is_of_remote_errors (Number m) = false
is_of_remote_errors (Object m) = false
is_of_remote_errors (Content m) = false
is_of_remote_errors (Telling m) = asks_ractor m
is_of_remote_errors New = false

-- how many arguments the method takes at least
abbrev pub count_of : BuiltInMethod → ℕ
count_of (Operator op) = 1
count_of (Number m) = 0
count_of (Object m) = object_count m
count_of (Content m) = content_count m
count_of (Telling m) = 0
count_of New = 0
