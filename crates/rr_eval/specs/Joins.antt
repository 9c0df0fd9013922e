-- Calls of `join`: the objects in the array are asked by the program's `to_s`, one after the other, and then a text is made of all that stands in
-- it, with the separator between.
use Rattle.std.specs.Prelude.{Bool, false, ◌&&◌, List, [], ◌∷◌, Option, Some, None, if◌then◌else◌}
use Rattle.rr_base.specs.declared.name.Sym.{Sym}
use Rattle.rr_builtin.specs.Kinds.{is_array_kind, is_join, is_text_kind}
use Rattle.rr_builtin.specs.declared.method.BuiltInMethod.{BuiltInMethod}
use Rattle.rr_space.specs.Kinds.{kind_at}
use Rattle.rr_space.specs.Tables.{Table}
use Rattle.rr_space.specs.declared.refer.Ref.{Ref}
use Rattle.rr_space.specs.declared.refer.Ref.TheVariants.{Nil}
use Rattle.rr_eval.specs.declared.asking.Saying.TheVariants.{Text}
use Rattle.rr_eval.specs.declared.call.Callee.{Callee}
use Rattle.rr_eval.specs.declared.leaves.Taking.TheVariants.{Joint}
use Rattle.rr_eval.specs.declared.problem.Answer.TheVariants.{Gave}
use Rattle.rr_eval.specs.Callees.{method_of}
use Rattle.rr_eval.specs.Context.{Context}
use Rattle.rr_eval.specs.Dispatch.{send_rule}
use Rattle.rr_eval.specs.Leaves.{leaves_of, between}
use Rattle.rr_eval.specs.Script.{Script, Ret, See}
use Rattle.rr_eval.specs.Speaking.{symbol_asked, asked_all}
use Rattle.rr_eval.specs.Splats.{on_items}

-- What separates, by the arguments: a text, or nil, as where there is none. Others are not taken, and the call raises.
abbrev pub separator : Table → List Ref → Option Ref
separator t [] = Some Nil
separator t (Nil ∷ []) = Some Nil
separator t (s ∷ []) = if is_text_kind (kind_at t s) then Some s else None
separator t (s ∷ r ∷ vs) = None

abbrev pub joins : Option BuiltInMethod → Bool
joins None = false
joins (Some m) = is_join m

-- whether a call joins an array
abbrev pub joins_array : Context → Table → Callee → Ref → Bool
joins_array c t callee v = is_array_kind (kind_at t v) && joins (method_of c callee)

-- the symbol of the method by which its objects are asked, and what separates, where it joins an array
abbrev pub joined_by : Context → Table → Callee → Ref → Option Sym
joined_by c t callee v = if joins_array c t callee v then symbol_asked c Text else None

abbrev pub joined : Context → Sym → Option Ref → Callee → Ref → List Ref → Script
joined c x None callee v vs = send_rule c callee None v vs
joined c x (Some s) callee v vs = See (λ m. on_items c (leaves_of Joint m.table (v ∷ [])) (λ ws. asked_all c Text x (between s ws) []))

abbrev pub joined_or_sent : Context → Option Sym → Callee → Ref → List Ref → Script
joined_or_sent c None callee v vs = send_rule c callee None v vs
joined_or_sent c (Some x) callee v vs = See (λ m. joined c x (separator m.table vs) callee v vs)

-- the same of the first of these values with the others, where these are the objects
abbrev pub joined_first : Context → Table → Sym → Callee → List Ref → Script
joined_first c t x callee [] = Ret (Gave Nil)
joined_first c t x callee (v ∷ vs) = joined c x (separator t vs) callee v vs

-- a call of a receiver with these arguments
abbrev pub joining_call : Context → Callee → Ref → List Ref → Script
joining_call c callee v vs = See (λ m. joined_or_sent c (joined_by c m.table callee v) callee v vs)
