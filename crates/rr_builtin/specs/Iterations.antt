-- The built-in methods that call their block again and again, and what a call of one is asked before its first round.
use Rattle.std.specs.Prelude.{◌≡◌, ℕ, Bool, nat_eq, List, [], ◌∷◌, length, map, slice_index_or, codes, Option, Some, None, if◌then◌else◌}
use Rattle.std.specs.Str.{bytes_eq}
use Rattle.rr_space.specs.Tables.{Table}
use Rattle.rr_space.specs.Kinds.{kind_at, class_at}
use Rattle.rr_space.specs.declared.kind.Kind.{Kind}
use Rattle.rr_space.specs.declared.refer.Ref.{Ref}
use Rattle.rr_space.specs.declared.refer.Ref.TheVariants.{Nil, Int}
use Rattle.rr_tree.specs.Names.{symbol_text}
use Rattle.rr_tree.specs.declared.program.Program.{Program}
use Rattle.rr_builtin.specs.declared.iterations.Iteration.{Iteration}
use Rattle.rr_builtin.specs.declared.iterations.Iteration.TheVariants.{Times, Upto, Each, EachWithIndex, Map, Select}
use Rattle.rr_builtin.specs.declared.problem.Problem.TheVariants.{Moved, Count, WrongType}
use Rattle.rr_builtin.specs.Acts.{Outcome, Raises, Lacks}
use Rattle.rr_builtin.specs.Methods.{method_named}
use Rattle.rr_builtin.specs.Kinds.{is_shell_kind, is_integer_kind, is_array_kind, is_container}

abbrev pub iteration_name : Iteration → List ℕ
iteration_name Times = codes "times"
iteration_name Upto = codes "upto"
iteration_name Each = codes "each"
iteration_name EachWithIndex = codes "each_with_index"
iteration_name Map = codes "map"
iteration_name Select = codes "select"

abbrev pub all_iterations : List Iteration
all_iterations = Times ∷ Upto ∷ Each ∷ EachWithIndex ∷ Map ∷ Select ∷ []

-- the first of these iterations that has the name
abbrev pub iteration_among : List ℕ → List Iteration → Option Iteration
iteration_among name [] = None
iteration_among name (i ∷ is) = if bytes_eq name (iteration_name i) then Some i else iteration_among name is

-- the iteration of a name
unfoldable pub iteration_named : List ℕ → Option Iteration
iteration_named name = iteration_among name all_iterations

-- each iteration has a name of its own
abbrev pub IterationNamesAreOne : Type 0
IterationNamesAreOne = (i : Iteration) → iteration_named (iteration_name i) ≡ Some i

-- what a name finds has that name
abbrev pub IterationNamesAreMet : Type 0
IterationNamesAreMet = (name : List ℕ) (i : Iteration) → iteration_named name ≡ Some i → iteration_name i ≡ name

-- no method that calls no block has the name of an iteration
abbrev pub IterationsAreApart : Type 0
IterationsAreApart = (i : Iteration) → method_named (iteration_name i) ≡ None

-- the table of a program's names has for each name the iteration of its bytes, and none past them
abbrev pub IterationsAreByName : Type 0
IterationsAreByName = (p : Program) (n : ℕ) → slice_index_or (map (λ s. iteration_named s.items) p.symbols.items) n None ≡ iteration_named (symbol_text p n)

-- which kinds have the iteration: arrays all but those of integers, and hashes `each`
abbrev pub iterates : Kind → Iteration → Bool
iterates k Times = is_integer_kind k
iterates k Upto = is_integer_kind k
iterates k Each = is_container k
iterates k EachWithIndex = is_array_kind k
iterates k Map = is_array_kind k
iterates k Select = is_array_kind k

-- how many arguments the iteration takes
abbrev pub argument_count : Iteration → ℕ
argument_count Upto = 1
argument_count _ = 0

-- a bound that is no integer
abbrev pub bound_wrong : Table → Ref → Option Outcome
bound_wrong t (Int z) = None
bound_wrong t a = Some (Raises (WrongType (class_at t a)))

abbrev pub bound_refusal : Table → Iteration → Ref → Option Outcome
bound_refusal t Upto a = bound_wrong t a
bound_refusal t _ a = None

-- what a call comes to that does not begin: first it is asked whether the receiver was moved away, then whether it has the
-- iteration, whether the number of arguments is right, and whether the bound is an integer
abbrev pub refusal : Table → Ref → Iteration → List Ref → Option Outcome
refusal t v i args =
    if is_shell_kind (kind_at t v) then Some (Raises Moved) else
    if iterates (kind_at t v) i then
    (if nat_eq (length args) (argument_count i) then bound_refusal t i (slice_index_or args 0 Nil) else Some (Raises (Count (length args) (argument_count i) (argument_count i))))
    else Some Lacks
