-- The methods of texts, arrays and hashes.
use Rattle.std.specs.Prelude.{ℕ, ℤ, pos, negsuc, suc, ◌-◌, ◌/◌, Bool, nat_eq, nat_lt, count_by, length, List, Option, Some, None, if◌then◌else◌}
use Rattle.std.specs.Option.{is_some}
use Rattle.memchr.specs.Find.{matches, first_of}
use Rattle.rr_space.specs.Graph.{Value, Plain, Nil}
use Rattle.rr_space.specs.Tables.{Table}
use Rattle.rr_space.specs.Views.{text_at, can_write_at}
use Rattle.rr_space.specs.Kinds.{kind_at, class_at}
use Rattle.rr_space.specs.declared.kind.Kind.{Kind}
use Rattle.rr_space.specs.declared.kind.Kind.TheVariants as kind
use Rattle.rr_space.specs.declared.refer.Ref.{Ref}
use Rattle.rr_space.specs.declared.refer.Ref.TheVariants as ref
use Rattle.rr_builtin.specs.declared.problem.Problem.TheVariants.{Frozen, WrongType}
use Rattle.rr_builtin.specs.declared.method.ContentMethod.{ContentMethod}
use Rattle.rr_builtin.specs.declared.method.ContentMethod.TheVariants.{Size, Length, IsEmpty, At as AtMethod, Append, Includes}
use Rattle.rr_builtin.specs.Integers.{given}
use Rattle.rr_builtin.specs.Numbers.{number_given}
use Rattle.rr_builtin.specs.Acts.{Act, Answers, Makes, Appends, Takes, Outcome, Gives, Raises, Lacks, outcome_of, element_at}
use Rattle.rr_builtin.specs.Objects.{is_text_kind, truth}
use Rattle.rr_builtin.specs.Elements.{count_at}
use Rattle.rr_builtin.specs.Characters.{begins_character, from_character, first_character}

-- the characters of a text, the elements of an array, the pairs of a hash
abbrev pub size_at : Kind → Table → Ref → ℕ
size_at kind.Text t v = count_by begins_character (text_at t v)
size_at kind.Hash t v = count_at t v / 2
size_at _ t v = count_at t v

abbrev pub size_act : Kind → Ref → Table → Act
size_act k v t = Answers (outcome_of (number_given (given (pos (size_at k t v)))))

-- no bytes, and no values
abbrev pub is_empty : Kind → Table → Ref → Bool
is_empty kind.Text t v = nat_eq (length (text_at t v)) 0
is_empty _ t v = nat_eq (count_at t v) 0

-- the place that an index names among so many: a negative one counts from the end
abbrev pub place_of : ℤ → ℕ → Option ℕ
place_of (pos k) n = Some k
place_of (negsuc k) n = if nat_lt k n then Some (n - suc k) else None

abbrev pub element_of : Table → Ref → Option ℕ → Value
element_of t v (Some k) = element_at t v k
element_of t v None = Plain Nil

-- the element that an index names, or nil
abbrev pub indexed : Ref → Ref → Table → Outcome
indexed v (ref.Int z) t = Gives (element_of t v (place_of z (count_at t v)))
indexed v a t = Raises (WrongType (class_at t a))

-- the character that an index names, as a new text, or nil
abbrev pub character_of : List ℕ → Option ℕ → Act
character_of text (Some k) = if nat_lt k (count_by begins_character text) then Makes (first_character (from_character k text)) else Answers (Gives (Plain Nil))
character_of text None = Answers (Gives (Plain Nil))

abbrev pub character_act : Ref → Ref → Table → Act
character_act v (ref.Int z) t = character_of (text_at t v) (place_of z (count_by begins_character (text_at t v)))
character_act v a t = Answers (Raises (WrongType (class_at t a)))

-- what changes the receiver, unless it is frozen
abbrev pub unless_frozen : Ref → Table → Act → Act
unless_frozen v t act = if can_write_at t v then act else Answers (Raises (Frozen (class_at t v)))

-- a text behind the receiver's bytes
abbrev pub text_append : Ref → Table → Act
text_append a t = if is_text_kind (kind_at t a) then Appends (text_at t a) else Answers (Raises (WrongType (class_at t a)))

-- an element is taken out; nil where there is none
abbrev pub taken : Ref → ℕ → Table → Act
taken v k t = unless_frozen v t (if nat_lt k (count_at t v) then Takes k else Answers (Gives (Plain Nil)))

-- the last element is taken out; nil where there is none
abbrev pub popped : Ref → Table → Act
popped v t = unless_frozen v t (if nat_lt 0 (count_at t v) then Takes (count_at t v - 1) else Answers (Gives (Plain Nil)))

-- whether a text stands somewhere in another
unfoldable pub includes : List ℕ → List ℕ → Bool
includes text part = is_some (first_of (matches text part 0))

abbrev pub includes_act : Ref → Ref → Table → Act
includes_act v a t = if is_text_kind (kind_at t a) then truth (includes (text_at t v) (text_at t a)) else Answers (Raises (WrongType (class_at t a)))

-- a method of texts
abbrev pub text_content : ContentMethod → Ref → Ref → Table → Act
text_content Size v a t = size_act kind.Text v t
text_content Length v a t = size_act kind.Text v t
text_content IsEmpty v a t = truth (is_empty kind.Text t v)
text_content Append v a t = unless_frozen v t (text_append a t)
text_content Includes v a t = includes_act v a t
text_content AtMethod v a t = character_act v a t
text_content _ v a t = Answers Lacks
