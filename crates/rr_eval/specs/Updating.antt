-- Assignments that also read what they assign to: `a op= b`, `a <<= b`, `a ||= b` and `a &&= b`.
use Rattle.std.specs.Prelude.{Bool, true, false, not, List, [], ◌∷◌, ◌++◌, if◌then◌else◌, Option, Some, None}
use Rattle.rr_space.specs.declared.refer.Ref.{Ref}
use Rattle.rr_space.specs.declared.refer.Ref.TheVariants.{Nil}
use Rattle.rr_base.specs.declared.name.Sym.{Sym}
use Rattle.rr_space.specs.Tables.{Table}
use Rattle.rr_tree.specs.Tree.{Tree, local, field, global, constant, index, send, binary}
use Rattle.rr_tree.specs.declared.node.Path.TheVariants.{Plain}
use Rattle.rr_tree.specs.declared.node.BinaryOperator.{BinaryOperator}
use Rattle.rr_builtin.specs.Fields.{field_at}
use Rattle.rr_builtin.specs.Objects.{is_truthy}
use Rattle.rr_eval.specs.declared.call.Callee.{Callee}
use Rattle.rr_eval.specs.declared.call.Callee.TheVariants as callees
use Rattle.rr_eval.specs.declared.call.Task.TheVariants.{FindConstant}
use Rattle.rr_eval.specs.declared.problem.Answer.TheVariants.{Gave}
use Rattle.rr_eval.specs.declared.problem.Response.{Response}
use Rattle.rr_eval.specs.declared.updating.Place.{Place}
use Rattle.rr_eval.specs.declared.updating.Place.TheVariants as places
use Rattle.rr_eval.specs.declared.updating.Update.{Update}
use Rattle.rr_eval.specs.declared.updating.Update.TheVariants as updates
use Rattle.rr_eval.specs.Basics.{on_value, with_value, write, values, settled, not_here}
use Rattle.rr_eval.specs.Bound.{bind}
use Rattle.rr_eval.specs.Constants.{set_response, set_constant_rule}
use Rattle.rr_eval.specs.Context.{Context}
use Rattle.rr_eval.specs.Dispatch.{send_rule}
use Rattle.rr_eval.specs.Fields.{set_field_rule}
use Rattle.rr_eval.specs.Globals.{globals, set_global_rule}
use Rattle.rr_eval.specs.Owners.{is_main}
use Rattle.rr_eval.specs.Script.{Script, Ret, Evaluate, See, Ask, Does, CallPart}

-- the variable, the instance or global variable, or the constant, that a target is, where it is one
abbrev pub place_of : Tree → Option Place
place_of (local depth slot x behind) = Some (places.Variable (record { depth = depth; slot = slot }))
place_of (field x) = Some (places.Field (record { 0 = x }))
place_of (global x) = Some (places.Global (record { 0 = x }))
place_of (constant (Plain x)) = Some (places.Constant x)
place_of _ = None

-- a call of the first of these values with the others
abbrev pub sent_first : Context → Callee → List Ref → Script
sent_first c callee [] = Ret (Gave Nil)
sent_first c callee (v ∷ vs) = send_rule c callee None v vs

-- A value is assigned. An element and an attribute are assigned to by a call of the receiver, which stands, with the index, where one
-- stands, and the value.
abbrev pub put : Context → Place → List Ref → Ref → Script
put c (places.Variable x) stand v = write x v
put c (places.Field x) stand v = set_field_rule c x v
put c (places.Global x) stand v = set_global_rule c x v
put c (places.Constant x) stand v = set_constant_rule c x v
put c (places.Sent setter) stand v = sent_first c setter (stand ++ v ∷ [])

-- What is there stays, and is the value; or the right side is evaluated and assigned.
abbrev pub put_unless : Bool → Tree → (Ref → Script) → Ref → Script
put_unless true b assign old = Ret (Gave old)
put_unless false b assign old = with_value b assign

-- What is there was read. An operator is a call of it with the right side, whose value is assigned; `||=` assigns where nil or false is
-- there, and `&&=` where neither is.
abbrev pub updated : Update → Tree → (Ref → Script) → Ref → Script
updated (updates.Combine callee) b assign old = with_value b (λ w. Evaluate (CallPart callee old (w ∷ [])) (on_value assign))
updated updates.Or b assign old = put_unless (is_truthy old) b assign old
updated updates.And b assign old = put_unless (not (is_truthy old)) b assign old

-- what is read by a call and then assigned to, by the values of the receiver and of the index, where there is one
abbrev pub accessed : Context → Callee → Callee → Update → Tree → List Ref → Script
accessed c getter setter how b (v ∷ []) = Evaluate (CallPart getter v []) (on_value (updated how b (put c (places.Sent setter) (v ∷ []))))
accessed c getter setter how b (v ∷ i ∷ []) = Evaluate (CallPart getter v (i ∷ [])) (on_value (updated how b (put c (places.Sent setter) (v ∷ i ∷ []))))
accessed c getter setter how b vs = not_here c

-- An element or an attribute: its receiver and its index are evaluated once. A target that is a call has no arguments.
abbrev pub access_rule : Context → Update → Tree → Tree → Script
access_rule c how (index a i) b = values (a ∷ i ∷ []) [] (accessed c callees.Index callees.SetIndex how b)
access_rule c how (send a x list) b = values (a ∷ []) [] (accessed c (callees.Name (record { 0 = x })) (callees.Setter (record { 0 = x })) how b)
access_rule c how t b = not_here c

-- `a op= b` is `a = a op b`
abbrev pub operator_rule : Context → BinaryOperator → Tree → Tree → Option Place → Script
operator_rule c op a b (Some place) = with_value (binary op a b) (put c place [])
operator_rule c op a b None = access_rule c (updates.Combine (callees.Operator op)) a b

-- the others read their target first
abbrev pub update_rule : Context → Update → Tree → Tree → Option Place → Script
update_rule c how a b (Some place) = with_value a (updated how b (put c place []))
update_rule c how a b None = access_rule c how a b

-- `||=` of a constant: where it was never set, it is not read, and the right side is assigned
abbrev pub or_constant : Context → Option Response → Sym → Tree → Script
or_constant c None x b = with_value b (set_constant_rule c x)
or_constant c (Some r) x b = update_rule c updates.Or (constant (Plain x)) b (Some (places.Constant x))

-- another ractor than the main one asks for it, and is given nil where it was never set
abbrev pub or_asked : Context → Sym → Tree → Table → Script
or_asked c x b t = Ask (Does (FindConstant x) [] t) (λ r. bind (settled c r) (on_value (updated updates.Or b (put c (places.Constant x) []))))

abbrev pub or_rule : Context → Tree → Tree → Script
or_rule c (constant (Plain x)) b = See (λ m. if is_main m.table then or_constant c (set_response m.table (field_at m.table globals x.0)) x b else or_asked c x b m.table)
or_rule c a b = update_rule c updates.Or a b (place_of a)
