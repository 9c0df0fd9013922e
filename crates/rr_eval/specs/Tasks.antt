-- What an environment does with values: it prints them, or makes an array, a text or a hash of them.
use Rattle.std.specs.Prelude.{ℕ, false, List, [], ◌∷◌, ◌++◌, codes, map, Option, Some, None, if◌then◌else◌}
use Rattle.std.specs.Str.{bytes_eq}
use Rattle.rr_base.specs.declared.name.Sym.{Sym}
use Rattle.rr_space.specs.Kinds.{kind_at}
use Rattle.rr_space.specs.Parts.{value_of}
use Rattle.rr_space.specs.Tables.{Table}
use Rattle.rr_space.specs.declared.refer.Ref.{Ref}
use Rattle.rr_space.specs.declared.refer.Ref.TheVariants.{Nil}
use Rattle.rr_text.specs.Walk.{Walked, Wrote, Deep}
use Rattle.rr_text.specs.Forms.{Names, spoken, inspected, lines, within_text}
use Rattle.rr_builtin.specs.Acts.{MakesArray, MakesObject, performed}
use Rattle.rr_builtin.specs.Causes.{caused}
use Rattle.rr_builtin.specs.Fields.{set_field}
use Rattle.rr_builtin.specs.Kinds.{is_array_kind}
use Rattle.rr_builtin.specs.Messages.{write_message}
use Rattle.rr_builtin.specs.News.{empty_hash}
use Rattle.rr_builtin.specs.Objects.{printed_text}
use Rattle.rr_builtin.specs.declared.problem.Problem.{Problem as BuiltInProblem}
use Rattle.rr_builtin.specs.declared.problem.Problem.TheVariants.{Moved, TooDeep}
use Rattle.rr_eval.specs.declared.call.Task.{Task}
use Rattle.rr_eval.specs.declared.call.Task.TheVariants.{Puts, Inspect, Print, MakeArray, MakeText, MakeHash, SetField, SetMessage, SetCause, SetGlobal, SetConstant, GetConstant, FindConstant, Show, Lines}
use Rattle.rr_eval.specs.declared.problem.Problem.TheVariants.{BuiltIn, NotHere}
use Rattle.rr_eval.specs.Calls.{reply_with}
use Rattle.rr_eval.specs.Effects.{Effect, Says, SaysRaised, SaysFailed, said, led}
use Rattle.rr_eval.specs.Globals.{globals}
use Rattle.rr_eval.specs.Operators.{make}

-- what a name prints by
abbrev pub task_named : List ℕ → Option Task
task_named name =
    if bytes_eq name (codes "puts") then Some Puts else
    if bytes_eq name (codes "p") then Some Inspect else
    if bytes_eq name (codes "print") then Some Print else None

-- What is written of a value: `puts` ends it with a line end, unless it ends with one; where it has taken arrays apart, one that is left stands
-- inside itself. `p` inspects it and ends the line.
abbrev pub written_by : Task → Names → Table → Ref → Walked
written_by Puts names t v = printed_text names (led t (v ∷ [])) lines t v
written_by Lines names t v = if is_array_kind (kind_at t v) then Wrote (codes "[...]" ++ 10 ∷ []) else printed_text names (led t (v ∷ [])) lines t v
written_by Inspect names t v = within_text (λ s. s ++ 10 ∷ []) (printed_text names (led t (v ∷ [])) inspected t v)
written_by _ names t v = printed_text names (led t (v ∷ [])) spoken t v

-- what `p` writes of a value whose class has an `inspect` of the program: the text that this gave, or else as it inspects it
abbrev pub shown_by : Names → Table → Ref → Ref → Walked
shown_by names t v Nil = written_by Inspect names t v
shown_by names t v said = within_text (λ s. s ++ 10 ∷ []) (printed_text names (led t (said ∷ [])) spoken t said)

-- the same of values and what they said, which stand by turns
abbrev pub texts_shown : Names → Table → List Ref → List Walked
texts_shown names t [] = []
texts_shown names t (v ∷ []) = []
texts_shown names t (v ∷ said ∷ vs) = shown_by names t v said ∷ texts_shown names t vs

-- the values among them
abbrev pub values_shown : List Ref → List Ref
values_shown [] = []
values_shown (v ∷ []) = []
values_shown (v ∷ said ∷ vs) = v ∷ values_shown vs

-- what is written of values, from left to right; `puts` of none is a line end
abbrev pub texts_of : Task → Names → Table → List Ref → List Walked
texts_of MakeArray names t vs = []
texts_of MakeHash names t vs = []
texts_of (SetField x) names t vs = []
texts_of SetMessage names t vs = []
texts_of SetCause names t vs = []
texts_of Show names t vs = texts_shown names t vs
texts_of (SetGlobal x) names t vs = []
texts_of (SetConstant x) names t vs = []
texts_of (GetConstant x) names t vs = []
texts_of (FindConstant x) names t vs = []
texts_of Puts names t [] = Wrote (10 ∷ []) ∷ []
texts_of task names t vs = map (written_by task names t) vs

-- texts, one after the other, up to a value that has none
abbrev pub joined_texts : List Walked → List ℕ
joined_texts [] = []
joined_texts (Wrote s ∷ ws) = s ++ joined_texts ws
joined_texts (_ ∷ ws) = []

-- why a value has none, where one has none
abbrev pub lack_of : List Walked → Option BuiltInProblem
lack_of [] = None
lack_of (Wrote s ∷ ws) = lack_of ws
lack_of (Deep ∷ ws) = Some TooDeep
lack_of (_ ∷ ws) = Some Moved

-- what is printed where these are the texts: a text that is made is not
abbrev pub printed_by : Task → List ℕ → List ℕ
printed_by MakeText s = []
printed_by _ s = s

-- what is printed
abbrev pub piece_of : Task → Names → Table → List Ref → List ℕ
piece_of task names t vs = printed_by task (joined_texts (texts_of task names t vs))

-- a new text
abbrev pub text_reply : List ℕ → Table → Effect
text_reply bytes t = record { said = said (make false bytes t).0; table = (make false bytes t).1 }

-- a new array of values
abbrev pub array_reply : List Ref → Table → Effect
array_reply vs t = reply_with NotHere (performed (MakesArray (map value_of vs)) Nil t)

abbrev pub value_reply : Ref → Table → Effect
value_reply v t = record { said = Says (value_of v); table = t }

-- a new hash without pairs
abbrev pub empty_reply : Table → Effect
empty_reply t = reply_with NotHere (performed (MakesObject empty_hash []) Nil t)

-- `p` gives its argument, an array of several, and nil for none; `puts` and `print` give nil
abbrev pub inspected_reply : List Ref → Table → Effect
inspected_reply [] t = value_reply Nil t
inspected_reply (v ∷ []) t = value_reply v t
inspected_reply (v ∷ w ∷ vs) t = array_reply (v ∷ w ∷ vs) t

-- the second of two values becomes an instance variable of the first one, and is given
abbrev pub field_reply : Sym → List Ref → Table → Effect
field_reply x (object ∷ v ∷ vs) t = reply_with NotHere (set_field x.0 (value_of v) object t)
field_reply x vs t = value_reply Nil t

-- the second of two values becomes the message of the first one, an exception, which is given
abbrev pub message_reply : List Ref → Table → Effect
message_reply (exception ∷ v ∷ vs) t = reply_with NotHere (write_message (value_of v) exception t)
message_reply vs t = value_reply Nil t

-- the second of two exceptions becomes the cause of the first one, where it takes one, and the first one is raised
abbrev pub cause_reply : List Ref → Table → Effect
cause_reply (exception ∷ cause ∷ vs) t = record { said = SaysRaised (value_of exception); table = caused (value_of cause) exception t }
cause_reply vs t = value_reply Nil t

-- the value becomes a global variable, or the main ractor's own value of a constant, and is given
abbrev pub global_reply : Sym → List Ref → Table → Effect
global_reply x (v ∷ vs) t = reply_with NotHere (set_field x.0 (value_of v) globals t)
global_reply x [] t = value_reply Nil t

-- what a task gives that makes no hash, where these are the texts of the values, one after the other
abbrev pub given_by : Task → List ℕ → List Ref → Table → Effect
given_by MakeText s vs t = text_reply s t
given_by MakeArray s vs t = array_reply vs t
given_by Inspect s vs t = inspected_reply vs t
given_by Show s vs t = inspected_reply (values_shown vs) t
given_by (SetField x) s vs t = field_reply x vs t
given_by SetMessage s vs t = message_reply vs t
given_by SetCause s vs t = cause_reply vs t
given_by (SetGlobal x) s vs t = global_reply x vs t
-- what asks the store for constants has no reply without it
given_by (SetConstant x) s vs t = record { said = SaysFailed NotHere; table = t }
given_by (GetConstant x) s vs t = record { said = SaysFailed NotHere; table = t }
given_by (FindConstant x) s vs t = record { said = SaysFailed NotHere; table = t }
given_by _ s vs t = value_reply Nil t

-- a value has no text, so that an exception is raised
abbrev pub lacking_reply : BuiltInProblem → Table → Effect
lacking_reply problem t = record { said = SaysFailed (BuiltIn problem); table = t }
