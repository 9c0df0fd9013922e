-- Arrays in order: of integers alone, or of texts alone.
use Rattle.std.specs.Prelude.{ℕ, ℤ, Bool, List, [], ◌∷◌, map, Option, Some, None, Result, Ok, Err, nat_eq, if◌then◌else◌}
use Rattle.std.specs.Ordering.{is_lt, nat_cmp, int_cmp}
use Rattle.std.specs.Cmp.Lexicographic.{slice_cmp}
use Rattle.rr_space.specs.Graph.{Value, Plain, Integer}
use Rattle.rr_space.specs.Tables.{Table, Below}
use Rattle.rr_space.specs.Parts.{value_of}
use Rattle.rr_space.specs.declared.refer.Ref.{Ref}
use Rattle.rr_builtin.specs.declared.problem.Problem.TheVariants.{Incomparable}
use Rattle.rr_builtin.specs.declared.sorts.TextItem.{TextItem}
use Rattle.rr_builtin.specs.Acts.{Act, Answers, Raises, MakesArray, element_at}
use Rattle.rr_builtin.specs.Elements.{count_at, elements_of, each_as}
use Rattle.rr_builtin.specs.Kinds.{is_integer_kind}
use Rattle.rr_builtin.specs.Objects.{is_text_kind}
use Rattle.rr_builtin.specs.Sums.{integer_of}
use Rattle.rr_builtin.specs.ValueClasses.{class_of_value, kind_of_value, bytes_of_value}

-- an element before the first that is not before it
abbrev pub inserted : {X : Type 0} → (X → X → Bool) → X → List X → List X
inserted lt x [] = x ∷ []
inserted lt x (y ∷ ys) = if lt y x then y ∷ inserted lt x ys else x ∷ y ∷ ys

-- the elements in order; of two with one rank the first stays before the other
abbrev pub sorted : {X : Type 0} → (X → X → Bool) → List X → List X
sorted lt [] = []
sorted lt (x ∷ xs) = inserted lt x (sorted lt xs)

abbrev pub is_less : ℤ → ℤ → Bool
is_less a b = is_lt (int_cmp a b)

-- a text and its bytes
abbrev pub KeyedText : Type 0
KeyedText = List ℕ × Value

abbrev pub is_text_before : KeyedText → KeyedText → Bool
is_text_before a b = is_lt (slice_cmp nat_cmp a.0 b.0)

abbrev pub text_of : Below → Table → Value → Option KeyedText
text_of below t x = if is_text_kind (kind_of_value below t x) then Some (bytes_of_value below t x, x) else None

abbrev pub integer_value : ℤ → Value
integer_value z = Plain (Integer z)

abbrev pub text_value : KeyedText → Value
text_value p = p.1

abbrev pub incomparable : Below → Table → Value → Value → Act
incomparable below t x y = Answers (Raises (Incomparable (class_of_value below t x) (class_of_value below t y)))

-- a new array in order, or the first element and one that has no order with it
abbrev pub in_order : {A : Type 0} → Below → Table → (A → A → Bool) → (A → Value) → Value → Result (List A) Value → Act
in_order below t lt value first (Ok ys) = MakesArray (map value (sorted lt ys))
in_order below t lt value first (Err x) = incomparable below t first x

-- by the kind of the first element
abbrev pub sorted_like : Below → Table → Value → List Value → Act
sorted_like below t first xs =
    if is_integer_kind (kind_of_value below t first) then in_order below t is_less integer_value first (each_as integer_of xs) else
    if is_text_kind (kind_of_value below t first) then in_order below t is_text_before text_value first (each_as (text_of below t) xs) else incomparable below t first first

abbrev pub sort_act : Below → Ref → Table → Act
sort_act below v t = if nat_eq (count_at t v) 0 then MakesArray [] else sorted_like below t (element_at t v 0) (elements_of t v)

-- a text of the code
abbrev pub item_of : TextItem → KeyedText
item_of i = (i.bytes.now, value_of i.value)
