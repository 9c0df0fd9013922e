-- What a call of a built-in method comes to.
use Rattle.std.specs.Prelude.{ℕ, Bool, true, false, not, ◌&&◌, ◌||◌, nat_lt, List, length, slice_index_or, if◌then◌else◌}
use Rattle.std.specs.Cmp.Lexicographic.{slice_cmp}
use Rattle.std.specs.Ordering.{nat_cmp}
use Rattle.rr_space.specs.Graph.{Plain, Nil as NilValue}
use Rattle.rr_space.specs.Tables.{Table, Below, resolve}
use Rattle.rr_space.specs.Parts.{value_of}
use Rattle.rr_base.specs.declared.limits.TheConstants.Limits.{DEFAULT}
use Rattle.rr_text.specs.Walk.{Walked, Wrote, Differs, Deep, Circular, Shell}
use Rattle.rr_text.specs.Keys.{reading}
use Rattle.rr_text.specs.Comparing.{compared}
use Rattle.rr_space.specs.Kinds.{kind_at, class_at}
use Rattle.rr_base.specs.declared.name.TheConstants.ClassId.{REMOTE_ERROR}
use Rattle.rr_space.specs.declared.kind.Kind.{Kind}
use Rattle.rr_space.specs.declared.kind.Kind.TheVariants as kind
use Rattle.rr_space.specs.declared.refer.Ref.{Ref}
use Rattle.rr_space.specs.declared.refer.Ref.TheVariants.{Nil, Int, Symbol}
use Rattle.rr_tree.specs.declared.node.BinaryOperator.{BinaryOperator}
use Rattle.rr_tree.specs.declared.node.BinaryOperator.TheVariants.{Add, Compare, Equal, NotEqual}
use Rattle.rr_tree.specs.declared.program.Program.{Program}
use Rattle.rr_text.specs.Forms.{Names, spoken}
use Rattle.rr_builtin.specs.declared.method.TellingMethod.{TellingMethod}
use Rattle.rr_builtin.specs.declared.method.TellingMethod.TheVariants.{Name, Message, Cause, Ractor}
use Rattle.rr_text.specs.Names.{names_of}
use Rattle.rr_builtin.specs.declared.problem.Problem.TheVariants.{Moved, Count, TooDeep, Circular as CircularProblem}
use Rattle.rr_builtin.specs.declared.method.NumberMethod.{NumberMethod}
use Rattle.rr_builtin.specs.declared.method.BuiltInMethod.{BuiltInMethod}
use Rattle.rr_builtin.specs.declared.method.BuiltInMethod.TheVariants.{Operator, Number, Object, Content, Telling, New}
use Rattle.rr_builtin.specs.Acts.{Act, Answers, Outcome, Gives, Raises, Lacks, outcome_of, element_at, performed}
use Rattle.rr_builtin.specs.Numbers.{on_integer, number_answer}
use Rattle.rr_builtin.specs.Objects.{equals, truth, told, printed_text, object_act}
use Rattle.rr_builtin.specs.Texts.{text_operator, ordered}
use Rattle.rr_builtin.specs.Containers.{content_act}
use Rattle.rr_builtin.specs.Arrays.{array_sum}
use Rattle.rr_builtin.specs.News.{may_make, takes_message, new_act}
use Rattle.rr_builtin.specs.Kinds.{is_shell_kind, has, is_new, is_join, is_of_remote_errors, count_of}
use Rattle.rr_tree.specs.Ancestors.{descends}

-- `==` and `!=` of values that are equal or not
abbrev pub equality : BinaryOperator → Bool → Act
equality Equal same = truth same
equality NotEqual same = truth (not same)
equality _ same = Answers Lacks

-- an operator on a symbol
abbrev pub symbol_order : Names → ℕ → Ref → Table → Outcome
symbol_order names s (Symbol other) t = ordered Compare (slice_cmp nat_cmp (names.symbol s) (names.symbol other.0))
symbol_order names s a t = Gives (Plain NilValue)

abbrev pub symbol_operator : Names → BinaryOperator → ℕ → Ref → Ref → Table → Act
symbol_operator names Compare s v a t = Answers (symbol_order names s a t)
symbol_operator names op s v a t = equality op (equals t v a)

-- an operator on a value that is no text
abbrev pub plain_operator : Names → BinaryOperator → Ref → Ref → Table → Act
plain_operator names op (Int x) a t = Answers (outcome_of (on_integer op x a t))
plain_operator names op (Symbol s) a t = symbol_operator names op s.0 (Symbol s) a t
plain_operator names op v a t = equality op (equals t v a)

-- whether two values are equal, with the limit of levels that scripts have
unfoldable pub compared_at : Below → Table → Ref → Ref → Walked
compared_at below t v a = compared (reading t below) DEFAULT.levels (resolve t.slots (value_of v)) (resolve t.slots (value_of a))

-- `==` and `!=` of a container, by what comparing it came to
abbrev pub walked_equality : BinaryOperator → Walked → Act
walked_equality op (Wrote s) = equality op true
walked_equality op Differs = equality op false
walked_equality op Circular = Answers (Raises CircularProblem)
walked_equality op Deep = Answers (Raises TooDeep)
walked_equality op Shell = Answers (Raises Moved)

-- an operator on an array or a hash: both have `==` and `!=`
abbrev pub container_operator : Below → BinaryOperator → Ref → Ref → Table → Act
container_operator below Equal v a t = walked_equality Equal (compared_at below t v a)
container_operator below NotEqual v a t = walked_equality NotEqual (compared_at below t v a)
container_operator below _ v a t = Answers Lacks

-- an operator on an array
abbrev pub array_operator : Below → BinaryOperator → Ref → Ref → Table → Act
array_operator below Add v a t = array_sum v a t
array_operator below op v a t = container_operator below op v a t

abbrev pub operator_act : Names → Below → Kind → BinaryOperator → Ref → Ref → Table → Act
operator_act names below kind.Text op v a t = text_operator op v a t
operator_act names below kind.Array op v a t = array_operator below op v a t
operator_act names below kind.Hash op v a t = container_operator below op v a t
operator_act names below _ op v a t = plain_operator names op v a t

abbrev pub number_act : NumberMethod → Ref → Act
number_act m (Int x) = Answers (outcome_of (number_answer m x))
number_act m v = Answers Lacks

-- the name of a class, and the message, the cause and the ractor of an exception, which are the first things that it leads to
abbrev pub telling_act : Names → Below → TellingMethod → Ref → Table → Act
telling_act names below Name v t = told (printed_text names below spoken t v)
telling_act names below Message v t = told (printed_text names below spoken t v)
telling_act names below Cause v t = Answers (Gives (element_at t v 1))
telling_act names below Ractor v t = Answers (Gives (element_at t v 2))

-- what a method does that the receiver has, with its first two arguments
abbrev pub method_act : Program → Below → BuiltInMethod → Ref → Ref → Ref → Table → Act
method_act p below (Operator op) v a b t = operator_act (names_of p) below (kind_at t v) op v a t
method_act p below (Number m) v a b t = number_act m v
method_act p below (Object m) v a b t = object_act p below m v a t
method_act p below (Content m) v a b t = content_act (names_of p) below (kind_at t v) m v a b t
method_act p below (Telling m) v a b t = telling_act (names_of p) below m v t
method_act p below New v a b t = new_act p v a

-- whether a value of the kind has the method: `new` is not a method of each class, nor `ractor` of each exception
abbrev pub responds : Program → Table → Kind → Ref → BuiltInMethod → Bool
responds p t k v m = (has k m && (not (is_new m) || may_make p v)) && (not (is_of_remote_errors m) || descends p (class_at t v).0 REMOTE_ERROR.0)

-- how many arguments the method takes at most: `new` of an exception takes a message, and `join` a separator
abbrev pub most_of : Program → Ref → BuiltInMethod → ℕ
most_of p v m = if (is_new m && takes_message p v) || is_join m then 1 else count_of m

abbrev pub is_between : ℕ → ℕ → ℕ → Bool
is_between least most n = not (nat_lt n least) && not (nat_lt most n)

-- what a call does: first it is asked whether the receiver was moved away, then whether it has the method, and then
-- whether the number of arguments is right
abbrev pub call_act : Program → Below → Ref → BuiltInMethod → List Ref → Table → Act
call_act p below v m args t =
    if is_shell_kind (kind_at t v) then Answers (Raises Moved) else
    if responds p t (kind_at t v) v m then
    (if is_between (count_of m) (most_of p v m) (length args) then method_act p below m v (slice_index_or args 0 Nil) (slice_index_or args 1 Nil) t else Answers (Raises (Count (length args) (count_of m) (most_of p v m))))
    else Answers Lacks

-- what a call comes to, and the table then
abbrev pub called : Program → Below → Ref → BuiltInMethod → List Ref → Table → Outcome × Table
called p below v m args t = performed (call_act p below v m args t) v t
