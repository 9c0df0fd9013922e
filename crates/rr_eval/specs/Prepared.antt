-- What a prepared program knows of its methods.
use Rattle.std.specs.Prelude.{◌≡◌, ℕ, List, Option, None, Some, codes, slice_get}
use Rattle.std.specs.Option.{option_map}
use Rattle.rr_base.specs.declared.name.Sym.{Sym}
use Rattle.rr_base.specs.declared.name.ClassId.{ClassId}
use Rattle.rr_base.specs.declared.name.TheConstants.ClassId.{CLASS}
use Rattle.rr_builtin.specs.News.{is_exception_class}
use Rattle.rr_space.specs.declared.kind.Kind.TheVariants.{Object}
use Rattle.rr_space.specs.declared.refer.Ref.{Ref}
use Rattle.rr_space.specs.declared.refer.Ref.TheVariants.{Class, Local}
use Rattle.rr_tree.specs.declared.method_table.MethodName.TheVariants.{Plain}
use Rattle.rr_tree.specs.Methods.{number_in, symbol_named}
use Rattle.std.proofs.Props.{props}
use Rattle.rr_tree.specs.Sets.{Tree-set}
use Rattle.rr_tree.specs.Tree.{tree_at}
use Rattle.rr_tree.specs.declared.node.Node.{Node}
use Rattle.rr_tree.specs.declared.program.Program.{Program}
use Rattle.rr_eval.specs.declared.instances.Initializer.{Initializer}
use Rattle.rr_eval.specs.declared.instances.Instances.{Instances}
use Rattle.rr_eval.specs.declared.invoke.Way.{Way as Called}
use Rattle.rr_eval.specs.declared.operator_symbols.OperatorSymbols.{OperatorSymbols}
use Rattle.rr_eval.specs.declared.plain_methods.PlainMethod.{PlainMethod}
use Rattle.rr_eval.specs.declared.prepared.Body.{Body}
use Rattle.rr_eval.specs.declared.prepared.Definition.{Definition}
use Rattle.rr_eval.specs.declared.prepared.Work.{Work as Kept}
use Rattle.rr_eval.specs.declared.prepared.Work.TheVariants as kept
use Rattle.rr_eval.specs.Blocks.{Way}
use Rattle.rr_eval.specs.declared.call.Callee.TheVariants.{Name}
use Rattle.rr_eval.specs.Callees.{method_of as built_in_of}
use Rattle.rr_eval.specs.Context.{Context}
use Rattle.rr_eval.specs.Dispatch.{initializer, is_below, iteration_of, made_by, unless_below}
use Rattle.rr_eval.specs.Methods.{Method, Work, Runs, Reads, Writes, NoWork, Callable, method_in}

abbrev pub method_of : List Node → Body → Method
method_of ns b = record { name = b.name.0; parameters = b.shape.parameters; size = b.shape.size; body = tree_at ns b.node }

abbrev pub work_in : List Node → Kept → Work
work_in ns (kept.Run b) = Runs (method_of ns b)
work_in ns (kept.Read x) = Reads x
work_in ns (kept.Write x) = Writes x
work_in ns kept.Nothing = NoWork

abbrev pub callable_of : List Node → Definition → Callable
callable_of ns d = record { class = d.class; work = work_in ns d.work }

abbrev pub initializer_of : List Node → Initializer → Callable
initializer_of ns i = record { class = i.class; work = Runs (method_of ns i.body) }

-- how a method is called, where the block that stands beside the call is that of a node
abbrev pub way_in : List Node → Called → Way
way_in ns w = record { receiver = w.receiver; block = w.handed; tree = option_map (tree_at ns) w.block; value = w.value }

-- each symbol is the first one with these bytes
pub record AreSymbolsOf (p : Program) (s : OperatorSymbols) : Type 0 where
  pub add : number_in s.add ≡ symbol_named p (codes "+")
  pub subtract : number_in s.subtract ≡ symbol_named p (codes "-")
  pub multiply : number_in s.multiply ≡ symbol_named p (codes "*")
  pub divide : number_in s.divide ≡ symbol_named p (codes "/")
  pub remainder : number_in s.remainder ≡ symbol_named p (codes "%")
  pub less : number_in s.less ≡ symbol_named p (codes "<")
  pub less_or_equal : number_in s.less_or_equal ≡ symbol_named p (codes "<=")
  pub greater : number_in s.greater ≡ symbol_named p (codes ">")
  pub greater_or_equal : number_in s.greater_or_equal ≡ symbol_named p (codes ">=")
  pub compare : number_in s.compare ≡ symbol_named p (codes "<=>")
  pub equal : number_in s.equal ≡ symbol_named p (codes "==")
  pub opposite : number_in s.opposite ≡ symbol_named p (codes "-@")
  pub index : number_in s.index ≡ symbol_named p (codes "[]")
  pub append : number_in s.append ≡ symbol_named p (codes "<<")
  pub set_index : number_in s.set_index ≡ symbol_named p (codes "[]=")
  pub initialize : number_in s.initialize ≡ symbol_named p (codes "initialize")

-- an object of the space itself
abbrev pub IsLocal : Ref → Type 0
IsLocal (Local n) = Unit {0}
IsLocal _ = ⊥

-- the method that a call of a plain object of a class finds
abbrev pub plain_method : Context → ClassId → Sym → Option Callable
plain_method c k x = unless_below (is_below Object (built_in_of c (Name x)) (iteration_of c (Name x))) (method_in c.program k (Plain x))

-- methods by the numbers of their names, each for a class
abbrev pub ArePlain : Context → List PlainMethod → Type 0
ArePlain c found = (x : ℕ) (f : PlainMethod) → slice_get found x ≡ Some f → option_map (callable_of c.program.nodes.items) f.definition ≡ plain_method c f.class (record { 0 = x })

pub ArePlain-prop : (c : Context) (found : List PlainMethod) → IsProp (ArePlain c found)
ArePlain-prop c found = Prim.hlevel (props, Tree-set)

-- a call of a class by a name makes a new object that gets the program's `initialize`, and no method of the program is found before
abbrev pub IsMaker : Context → ClassId → Sym → Type 0
IsMaker c k x = (method_in c.program CLASS (Plain x) ≡ None) × (made_by c (built_in_of c (Name x)) (Class k) ≡ Some k)

abbrev pub IsMakerOf : Context → ClassId → Option Sym → Type 0
IsMakerOf c k None = Unit {0}
IsMakerOf c k (Some x) = IsMaker c k x

IsMakerOf-prop : (c : Context) (k : ClassId) (x : Option Sym) → IsProp (IsMakerOf c k x)
IsMakerOf-prop c k None = Prim.hlevel props
IsMakerOf-prop c k (Some x) = Prim.hlevel (props, Tree-set)

-- what is known of the new objects of a class holds
abbrev pub AreInstances : Context → ClassId → Instances → Type 0
AreInstances c k i = (option_map (initializer_of c.program.nodes.items) i.initializer ≡ initializer c k) × (i.exceptions ≡ is_exception_class c.program k.0) × IsMakerOf c k i.maker

-- and of those of classes, by the numbers of the classes
abbrev pub AreKnown : Context → List Instances → Type 0
AreKnown c known = (k : ℕ) (i : Instances) → slice_get known k ≡ Some i → AreInstances c (record { 0 = k }) i

pub AreKnown-prop : (c : Context) (known : List Instances) → IsProp (AreKnown c known)
AreKnown-prop c known = Prim.hlevel (props, Tree-set, IsMakerOf-prop)
