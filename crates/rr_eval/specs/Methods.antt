-- The methods that a program defines, as a call finds them.
use Rattle.std.specs.Prelude.{ℕ, Option, Some, None}
use Rattle.std.specs.Option.{option_map}
use Rattle.rr_base.specs.declared.name.ClassId.{ClassId}
use Rattle.rr_base.specs.declared.name.Sym.{Sym}
use Rattle.rr_tree.specs.Tree.{Tree, method, reader, writer}
use Rattle.rr_tree.specs.Methods.{Held, nearest_method}
use Rattle.rr_tree.specs.declared.method_table.MethodName.{MethodName}
use Rattle.rr_tree.specs.declared.program.Program.{Program}

-- a method: its name, how many parameters and how many variables it has, and its statements
pub record Method : Type 0 where
  pub name : ℕ
  pub parameters : ℕ
  pub size : ℕ
  pub body : Tree

-- what a call of a method does: it evaluates statements, or reads or writes an instance variable
pub data Work : Type 0 where
  Runs : (method : Method) → Work
  Reads : (name : Sym) → Work
  Writes : (name : Sym) → Work
  -- the tree defines no method
  NoWork : Work

-- a method, and the class in which it stands
pub record Callable : Type 0 where
  pub class : ClassId
  pub work : Work

abbrev pub work_of : Tree → Work
work_of (method x scope parameters size body) = Runs (record { name = x; parameters = parameters; size = size; body = body })
work_of (reader x) = Reads (record { 0 = x })
work_of (writer x) = Writes (record { 0 = x })
work_of _ = NoWork

abbrev pub callable : Held → Callable
callable h = record { class = record { 0 = h.class }; work = work_of h.tree }

-- the method of a class, or of the nearest class above it
abbrev pub method_in : Program → ClassId → MethodName → Option Callable
method_in p class x = option_map callable (nearest_method p class.0 x)

-- the same, where a class stands above
abbrev pub found_above : Program → Option ℕ → MethodName → Option Callable
found_above p None x = None
found_above p (Some class) x = option_map callable (nearest_method p class x)
