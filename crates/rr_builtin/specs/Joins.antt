-- `join` of arrays.
use Rattle.std.specs.Prelude.{ℕ, nat_eq, List, [], if◌then◌else◌}
use Rattle.rr_base.specs.declared.limits.TheConstants.Limits.{DEFAULT}
use Rattle.rr_space.specs.Tables.{Table, Below, graph_of, resolve}
use Rattle.rr_space.specs.Parts.{value_of}
use Rattle.rr_space.specs.Views.{text_at}
use Rattle.rr_space.specs.Kinds.{kind_at, class_at}
use Rattle.rr_space.specs.declared.refer.Ref.{Ref}
use Rattle.rr_space.specs.declared.refer.Ref.TheVariants as ref
use Rattle.rr_text.specs.Walk.{Walked}
use Rattle.rr_text.specs.Forms.{Names}
use Rattle.rr_text.specs.Joining.{joined}
use Rattle.rr_builtin.specs.declared.problem.Problem.TheVariants.{WrongType}
use Rattle.rr_builtin.specs.Acts.{Act, Answers, Makes, Raises}
use Rattle.rr_builtin.specs.Elements.{count_at}
use Rattle.rr_builtin.specs.Objects.{is_text_kind, told}

-- the text of an array with a separator, with the limit of levels that scripts have
unfoldable pub joined_at : Names → Below → Table → Ref → List ℕ → Walked
joined_at names below t v separator = joined names (graph_of t.slots below) DEFAULT.levels separator (resolve t.slots (value_of v))

-- a text separates; nil, as no argument, is the empty text
abbrev pub join_by : Names → Below → Ref → Ref → Table → Act
join_by names below v ref.Nil t = told (joined_at names below t v [])
join_by names below v a t = if is_text_kind (kind_at t a) then told (joined_at names below t v (text_at t a)) else Answers (Raises (WrongType (class_at t a)))

-- `join`; an array without elements asks nothing of the separator
abbrev pub join_act : Names → Below → Ref → Ref → Table → Act
join_act names below v a t = if nat_eq (count_at t v) 0 then Makes [] else join_by names below v a t
