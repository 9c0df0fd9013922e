-- Assignments to several targets.
use Rattle.std.specs.Prelude.{List, [], ◌∷◌, ◌++◌, length, drop, Option, Some, None, if◌then◌else◌}
use Rattle.rr_builtin.specs.Elements.{count_at}
use Rattle.rr_builtin.specs.Kinds.{is_array_kind}
use Rattle.rr_space.specs.Kinds.{kind_at}
use Rattle.rr_space.specs.Tables.{Table}
use Rattle.rr_space.specs.declared.refer.Ref.{Ref}
use Rattle.rr_space.specs.declared.refer.Ref.TheVariants.{Nil}
use Rattle.rr_tree.specs.Tree.{Tree, field, global, constant, send, index}
use Rattle.rr_tree.specs.declared.node.Path.TheVariants.{Plain}
use Rattle.rr_eval.specs.declared.call.Callee.TheVariants as callees
use Rattle.rr_eval.specs.declared.call_stack.Variable.{Variable}
use Rattle.rr_eval.specs.declared.problem.Answer.TheVariants.{Gave}
use Rattle.rr_eval.specs.declared.spot.Spot.{Spot}
use Rattle.rr_eval.specs.declared.spot.Spot.TheVariants as spots
use Rattle.rr_eval.specs.Basics.{not_here, on_value, values, variable_of, with_value}
use Rattle.rr_eval.specs.Blocks.{spread_from, to_given}
use Rattle.rr_eval.specs.Constants.{set_constant_rule}
use Rattle.rr_eval.specs.Context.{Context}
use Rattle.rr_eval.specs.Dispatch.{send_rule}
use Rattle.rr_eval.specs.Fields.{set_field_rule}
use Rattle.rr_eval.specs.Globals.{set_global_rule}
use Rattle.rr_eval.specs.Script.{Script, Ret, Evaluate, AssignPart, See, Do}
use Rattle.rr_eval.specs.Variables.{write_variable}

-- What the right side gives to the targets: the elements of an array, where each that is published is known, or any other value itself.
abbrev pub right_values : Table → Ref → Option (List Ref)
right_values t v = if is_array_kind (kind_at t v) then spread_from t v 0 (count_at t v) else Some (v ∷ [])

-- The parts of a target, which are evaluated before the right side: the receiver of an element or an attribute, and then the index of an
-- element. An attribute that is a target has no arguments.
abbrev pub parts_of : Tree → List Tree
parts_of (index a i) = a ∷ i ∷ []
parts_of (send a x list) = a ∷ []
parts_of _ = []

abbrev pub all_parts : List Tree → List Tree
all_parts [] = []
all_parts (t ∷ ts) = parts_of t ++ all_parts ts

-- what a target other than a local variable is, where its own are the first of these values of parts
abbrev pub spot_of : Tree → List Ref → Option Spot
spot_of (field x) ps = Some (spots.Field (record { 0 = x }))
spot_of (global x) ps = Some (spots.Global (record { 0 = x }))
spot_of (constant (Plain x)) ps = Some (spots.Constant x)
spot_of (send a x list) (r ∷ ps) = Some (spots.Attribute (record { 0 = x }) r)
spot_of (index a i) (r ∷ j ∷ ps) = Some (spots.Element r j)
spot_of _ _ = None

-- a value is assigned: to an instance variable of `self`, to a global variable or a constant, or by a call of the receiver
abbrev pub put_in : Context → Spot → Ref → Script
put_in c (spots.Field x) v = set_field_rule c x v
put_in c (spots.Global x) v = set_global_rule c x v
put_in c (spots.Constant x) v = set_constant_rule c x v
put_in c (spots.Attribute x r) v = send_rule c (callees.Setter x) None r (v ∷ [])
put_in c (spots.Element r i) v = send_rule c callees.SetIndex None r (i ∷ v ∷ [])

-- A target gets a value, and then what follows. A local variable gets it at once; any other target is a step.
abbrev pub assign_to : Context → Option Variable → Option Spot → Ref → Script → Script
assign_to c (Some x) spot v next = Do (λ m. record m { calls = record m.calls { frames = write_variable x v m.calls.frames } }) next
assign_to c None (Some spot) v next = Evaluate (AssignPart spot v) (on_value (λ w. next))
assign_to c None None v next = not_here c

-- the next value that a target gets; nil, where none is left
abbrev pub next_value : List Ref → Ref
next_value [] = Nil
next_value (v ∷ vs) = v

-- Targets get these values, from left to right: a missing one is nil, and extra ones are dropped. The values of their parts stand in the
-- same order. The value of all is the right side.
abbrev pub assign_each : Context → List Tree → List Ref → List Ref → Ref → Script
assign_each c [] ps vs right = Ret (Gave right)
assign_each c (t ∷ ts) ps vs right = assign_to c (variable_of t) (spot_of t ps) (next_value vs) (assign_each c ts (drop (length (parts_of t)) ps) (drop 1 vs) right)

-- the right side is there
abbrev pub several : Context → List Tree → List Ref → Ref → Script
several c ts ps v = See (λ m. to_given c (right_values m.table v) (λ vs. assign_each c ts ps vs v))

-- The parts of the targets are evaluated from left to right, then the right side, and then the targets get their values.
abbrev pub several_rule : Context → List Tree → Tree → Script
several_rule c ts a = values (all_parts ts) [] (λ ps. with_value a (several c ts ps))
