-- `Ractor.new` with a block, in a script on its own.
use Rattle.std.specs.Prelude.{ℕ, nat_eq, Bool, true, false, ◌&&◌, List, [], ◌∷◌, ◌++◌, length, slice_get, slice_index_or, if◌then◌else◌, codes, Option, Some, None}
use Rattle.std.specs.List.{flat_map}
use Rattle.std.specs.Str.{bytes_eq}
use Rattle.rr_base.specs.Classes.{class_id}
use Rattle.rr_base.specs.declared.class.BuiltInClass.TheVariants as built_in
use Rattle.rr_base.specs.declared.name.ClassId.{ClassId}
use Rattle.rr_space.specs.Graph.{Label, Plain, SymbolNo, Value}
use Rattle.rr_space.specs.Kinds.{class_at, kind_at}
use Rattle.rr_space.specs.Labels.{triples_at}
use Rattle.rr_space.specs.Tables.{Table}
use Rattle.rr_space.specs.declared.kind.Kind.{Kind}
use Rattle.rr_space.specs.declared.kind.Kind.TheVariants as kinds
use Rattle.rr_space.specs.declared.refer.Ref.{Ref}
use Rattle.rr_space.specs.declared.refer.Ref.TheVariants.{Local}
use Rattle.rr_tree.specs.Tree.{Tree}
use Rattle.rr_isolation.specs.Names.{outer_names, uses_yield}
use Rattle.rr_builtin.specs.Acts.{with_text}
use Rattle.rr_builtin.specs.Kinds.{is_hash}
use Rattle.rr_builtin.specs.declared.problem.Problem.TheVariants.{WrongType}
use Rattle.rr_eval.specs.declared.call.Callee.{Callee}
use Rattle.rr_eval.specs.declared.problem.Problem.{Problem}
use Rattle.rr_eval.specs.declared.problem.Problem.TheVariants.{BuiltIn, MissingMethod, UsesYield, NoRactors, NotHere}
use Rattle.rr_eval.specs.declared.ractor_method.RactorMethod.{RactorMethod}
use Rattle.rr_eval.specs.declared.ractor_method.RactorMethod.TheVariants.{Start, WithOthers}
use Rattle.rr_eval.specs.Basics.{raise, throw}
use Rattle.rr_eval.specs.Callees.{has_built_in, method_of}
use Rattle.rr_eval.specs.Context.{Context}
use Rattle.rr_eval.specs.Responses.{own_of, receiver_of}
use Rattle.rr_eval.specs.Script.{Script, See, Do}

-- ---- Its keyword `name:`. The values of a call do not tell keywords from a hash: a hash as the last of them is the keyword, where it has
-- the key `:name` alone.

abbrev pub is_name_key : Context → Option (Label × Value) → Bool
is_name_key c (Some (x, Plain (SymbolNo n))) = bytes_eq (slice_index_or c.symbols n []) (codes "name")
is_name_key c _ = false

abbrev pub gives_name : Context → Table → Ref → Bool
gives_name c t v = is_hash (kind_at t v) && (nat_eq (length (triples_at t v)) 2 && is_name_key c (slice_get (triples_at t v) 0))

-- a text, and nil
abbrev pub is_name : Kind → Bool
is_name kinds.Text = true
is_name kinds.Nil = true
is_name _ = false

-- what is raised once the name was looked at: no ractor starts
abbrev pub named_by : Table → Option Ref → Problem
named_by t None = NotHere
named_by t (Some v) = if is_name (kind_at t v) then NoRactors else BuiltIn (WrongType (class_at t v))

abbrev pub named_in : Table → Option (Label × Value) → Problem
named_in t None = NoRactors
named_in t (Some x) = named_by t (own_of t x.1)

-- what comes of a start whose last argument this is
abbrev pub start_problem : Context → Table → Ref → Problem
start_problem c t v = if gives_name c t v then named_in t (slice_get (triples_at t v) 1) else NoRactors

-- ---- Its block, which may use no variable of the scopes outside, and no `yield`.

-- names, with a comma before each
abbrev pub behind_commas : Context → List ℕ → List ℕ
behind_commas c xs = flat_map (λ x. codes ", " ++ slice_index_or c.symbols x []) xs

-- names, with commas between them
abbrev pub listed_names : Context → List ℕ → List ℕ
listed_names c [] = []
listed_names c (x ∷ xs) = slice_index_or c.symbols x [] ++ behind_commas c xs

abbrev pub outer_text : Context → List ℕ → List ℕ
outer_text c names = codes "can not isolate a Proc because it accesses outer variables (" ++ (listed_names c names ++ codes ").")

-- makes an exception of a class with these bytes as its message, and raises it
abbrev pub raise_text : ClassId → List ℕ → Script
raise_text class bytes = See (λ m. Do (λ k. record k { table = with_text bytes k.table }) (raise class (Local (length m.table.slots))))

-- by the outer names of the block, and whether it yields; else by what comes of the start
abbrev pub isolated_rule : Context → List ℕ → Bool → Problem → Script
isolated_rule c (x ∷ xs) yields problem = raise_text (class_id built_in.ArgumentError) (outer_text c (x ∷ xs))
isolated_rule c [] true problem = throw c UsesYield
isolated_rule c [] false problem = throw c problem

-- a tree of a program is not deeper than the program has nodes
unfoldable pub start_rule : Context → Tree → Problem → Script
start_rule c b problem = isolated_rule c (outer_names (length c.program.nodes.items) b) (uses_yield (length c.program.nodes.items) b) problem

-- Why a call with a block of a method that is none of Ractor is refused: no built-in method but the iterations is given a block yet, and a
-- receiver may have no method of the name.
abbrev pub refused_call : Context → Table → Ref → Callee → Problem
refused_call c t v callee = if has_built_in (kind_at t v) (method_of c callee) then NotHere else MissingMethod callee (receiver_of t v)

-- why a call with a block of what may be a method of Ractor is refused: for no reason where it is `new`
abbrev pub refused_block : Problem → Option RactorMethod → Option Problem
refused_block e None = Some e
refused_block e (Some Start) = None
refused_block e (Some WithOthers) = Some NoRactors
refused_block e (Some m) = Some NotHere

-- a call with a block of a method of Ractor that is `new`, where it is not refused, by the last of its arguments
abbrev pub started : Context → Option Problem → Tree → Ref → Script
started c (Some e) b v = throw c e
started c None b v = See (λ m. start_rule c b (start_problem c m.table v))

-- a call with a block of a receiver, of what may be a method of Ractor, whose last argument this is
unfoldable pub with_block_rule : Context → Option RactorMethod → Callee → Tree → Ref → Ref → Script
with_block_rule c m callee b v last = See (λ k. started c (refused_block (refused_call c k.table v callee) m) b last)
