-- Arguments and items of arrays, among which splats stand.
use Rattle.std.specs.Prelude.{Bool, true, false, List, [], ◌∷◌, ◌++◌, Option, Some, None, Result, Ok, Err}
use Rattle.rr_builtin.specs.Elements.{count_at}
use Rattle.rr_builtin.specs.declared.problem.Problem.TheVariants.{WrongType}
use Rattle.rr_parser.specs.Grammar.Names.{is_splat}
use Rattle.rr_space.specs.Kinds.{class_at, kind_at}
use Rattle.rr_space.specs.Tables.{Table}
use Rattle.rr_space.specs.declared.kind.Kind.{Kind}
use Rattle.rr_space.specs.declared.kind.Kind.TheVariants as kind
use Rattle.rr_space.specs.declared.refer.Ref.{Ref}
use Rattle.rr_tree.specs.Tree.{Tree}
use Rattle.rr_eval.specs.declared.problem.Problem.{Problem}
use Rattle.rr_eval.specs.declared.problem.Problem.TheVariants.{BuiltIn, NotHere}
use Rattle.rr_eval.specs.Basics.{throw, with_value}
use Rattle.rr_eval.specs.Blocks.{spread_from}
use Rattle.rr_eval.specs.Context.{Context}
use Rattle.rr_eval.specs.Script.{Script, See}

-- a published element that is not known is not spread yet
abbrev pub own_items : Option (List Ref) → Result (List Ref) Problem
own_items None = Err NotHere
own_items (Some vs) = Ok vs

-- What a splat stands for, by the kind of its value: an array for its elements, nil for nothing, and any other value for itself. No hash
-- is spread.
abbrev pub splat_items : Kind → Table → Ref → Result (List Ref) Problem
splat_items kind.Array t v = own_items (spread_from t v 0 (count_at t v))
splat_items kind.Nil t v = Ok []
splat_items kind.Hash t v = Err (BuiltIn (WrongType (class_at t v)))
splat_items _ t v = Ok (v ∷ [])

-- goes on with items, or raises
abbrev pub on_items : Context → Result (List Ref) Problem → (List Ref → Script) → Script
on_items c (Ok vs) next = next vs
on_items c (Err e) next = throw c e

-- what the value of a part stands for, where the part may be a splat
abbrev pub spread : Context → Bool → Ref → (List Ref → Script) → Script
spread c false v next = next (v ∷ [])
spread c true v next = See (λ m. on_items c (splat_items (kind_at m.table v) m.table v) next)

-- The values of trees from left to right, after those that stand. A splat is spread before what stands behind it is evaluated.
abbrev pub arguments : Context → List Tree → List Ref → (List Ref → Script) → Script
arguments c [] stand go_on = go_on stand
arguments c (t ∷ ts) stand go_on = with_value t (λ v. spread c (is_splat t) v (λ ws. arguments c ts (stand ++ ws) go_on))
