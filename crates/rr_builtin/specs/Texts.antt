-- The methods of texts.
use Rattle.std.specs.Prelude.{ℤ, pos, negsuc, Bool, true, false, not, ◌++◌, if◌then◌else◌}
use Rattle.std.specs.List.{repeat}
use Rattle.std.specs.Ordering.{nat_cmp}
use Rattle.std.specs.Cmp.Lexicographic.{slice_cmp}
use Rattle.std.specs.declared.cmp.Ordering.{Ordering}
use Rattle.std.specs.declared.cmp.Ordering.TheVariants as ordering
use Rattle.rr_base.specs.declared.name.ClassId.{ClassId}
use Rattle.rr_base.specs.declared.name.TheConstants.ClassId.{STRING}
use Rattle.rr_space.specs.Graph.{Plain, Integer, Truth, Nil}
use Rattle.rr_space.specs.Tables.{Table}
use Rattle.rr_space.specs.Views.{text_at}
use Rattle.rr_space.specs.Kinds.{kind_at, class_at}
use Rattle.rr_space.specs.declared.refer.Ref.{Ref}
use Rattle.rr_space.specs.declared.refer.Ref.TheVariants as ref
use Rattle.rr_tree.specs.declared.node.BinaryOperator.{BinaryOperator}
use Rattle.rr_tree.specs.declared.node.BinaryOperator.TheVariants.{Add, Multiply, Less, LessOrEqual, Greater, GreaterOrEqual, Compare, Equal, NotEqual}
use Rattle.rr_builtin.specs.declared.problem.Problem.TheVariants.{Incomparable, WrongType, Negative}
use Rattle.rr_builtin.specs.Acts.{Act, Answers, Makes, Outcome, Gives, Raises, Lacks}
use Rattle.rr_builtin.specs.Objects.{is_text_kind, equals, truth}

-- both texts, the first before the second
abbrev pub sum_act : Ref → Ref → Table → Act
sum_act v a t = if is_text_kind (kind_at t a) then Makes (text_at t v ++ text_at t a) else Answers (Raises (WrongType (class_at t a)))

-- a text so many times
abbrev pub product_act : Ref → Ref → Table → Act
product_act v (ref.Int (pos n)) t = Makes (repeat n (text_at t v))
product_act v (ref.Int (negsuc n)) t = Answers (Raises Negative)
product_act v a t = Answers (Raises (WrongType (class_at t a)))

-- the number that `<=>` gives
abbrev pub order_number : Ordering → ℤ
order_number ordering.Less = negsuc 0
order_number ordering.Equal = pos 0
order_number ordering.Greater = pos 1

abbrev pub is_below : Ordering → Bool
is_below ordering.Less = true
is_below ordering.Equal = false
is_below ordering.Greater = false

abbrev pub is_above : Ordering → Bool
is_above ordering.Less = false
is_above ordering.Equal = false
is_above ordering.Greater = true

-- an operator of order on values that stand so
abbrev pub ordered : BinaryOperator → Ordering → Outcome
ordered Less o = Gives (Plain (Truth (is_below o)))
ordered LessOrEqual o = Gives (Plain (Truth (not (is_above o))))
ordered Greater o = Gives (Plain (Truth (is_above o)))
ordered GreaterOrEqual o = Gives (Plain (Truth (not (is_below o))))
ordered Compare o = Gives (Plain (Integer (order_number o)))
ordered _ o = Lacks

-- an operator of order on a value of the first class and one that has no order with it
abbrev pub unordered : BinaryOperator → ClassId → ClassId → Outcome
unordered Compare c d = Gives (Plain Nil)
unordered _ c d = Raises (Incomparable c d)

abbrev pub order_outcome : BinaryOperator → Ref → Ref → Table → Outcome
order_outcome op v a t = if is_text_kind (kind_at t a) then ordered op (slice_cmp nat_cmp (text_at t v) (text_at t a)) else unordered op STRING (class_at t a)

-- an operator on a text
abbrev pub text_operator : BinaryOperator → Ref → Ref → Table → Act
text_operator Add v a t = sum_act v a t
text_operator Multiply v a t = product_act v a t
text_operator Equal v a t = truth (equals t v a)
text_operator NotEqual v a t = truth (not (equals t v a))
text_operator op v a t = Answers (order_outcome op v a t)
