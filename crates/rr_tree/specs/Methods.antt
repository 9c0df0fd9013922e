-- The methods of classes, and what calls them.
use Rattle.std.specs.Prelude.{◌≡◌, ℕ, zero, suc, ◌+◌, ◌-◌, Bool, false, nat_eq, nat_lt, List, [], ◌∷◌, ◌++◌, length, map, filter, take, drop, position, codes, flat_map, Option, Some, None, option_map, slice_get, slice_index_or, IfSome, if◌then◌else◌}
use Rattle.std.specs.Option.{option_or}
use Rattle.std.specs.Borrow.{Bor}
use Rattle.std.specs.Str.{bytes_eq}
use Rattle.indexmap.specs.IndexMap.{get}
use Rattle.rr_base.specs.Classes.{class_id}
use Rattle.rr_base.specs.declared.class.BuiltInClass.TheVariants as built_in
use Rattle.rr_base.specs.declared.name.Sym.{Sym}
use Rattle.rr_tree.specs.Ancestors.{superclass_of}
use Rattle.rr_tree.specs.Names.{symbols_of, symbol_text}
use Rattle.rr_tree.specs.Tree.{Tree, Trees, empty, then_one, method, reader, writer, class_body, tree_at}
use Rattle.rr_tree.specs.declared.class.Class.{Class}
use Rattle.rr_tree.specs.declared.method_table.Entry.{Entry}
use Rattle.rr_tree.specs.declared.method_table.Found.{Found}
use Rattle.rr_tree.specs.declared.method_table.MethodName.{MethodName}
use Rattle.rr_tree.specs.declared.method_table.MethodName.TheVariants as name
use Rattle.rr_tree.specs.declared.method_table.MethodTable.{MethodTable}
use Rattle.rr_tree.specs.declared.name_index.NameIndex.{NameIndex}
use Rattle.rr_tree.specs.declared.name_index.Named.{Named}
use Rattle.rr_tree.specs.declared.node.Node.{Node}
use Rattle.rr_tree.specs.declared.program.Program.{Program}

-- ---- definitions

-- a definition: the name of the class in whose body it stands, none at top level, and its tree
pub record Definition : Type 0 where
  pub class : Option ℕ
  pub tree : Tree

-- the trees of a list, in order
abbrev pub members : Trees → List Tree
members empty = []
members (then_one l t) = members l ++ t ∷ []

-- trees that stand in the body of a class, or at top level
abbrev pub standing_in : Option ℕ → List Tree → List Definition
standing_in c ts = map (λ t. record { class = c; tree = t }) ts

-- the definitions of a tree at top level
abbrev pub definitions_in : Tree → List Definition
definitions_in (class_body x superclass l) = standing_in (Some x) (members l)
definitions_in t = standing_in None (t ∷ [])

-- the definitions of a program, in the order in which they stand in the source
abbrev pub definitions_of : Program → List Definition
definitions_of p = flat_map definitions_in (map (tree_at p.nodes.items) p.definitions.items)

-- ---- what calls a method

-- the number of the first name with these bytes, among those whose numbers are below the last one
abbrev pub symbol_named : Program → List ℕ → Option ℕ
symbol_named p bytes = position (bytes_eq bytes) (take 4294967295 (symbols_of p))

-- the attribute to which an assignment calls the method of these bytes: the first name that has those before a last `=`
abbrev pub attribute_named : Program → List ℕ → Option ℕ
attribute_named p bytes = if bytes_eq (drop (length bytes - 1) bytes) (codes "=") then symbol_named p (take (length bytes - 1) bytes) else None

abbrev pub attribute_of : Program → ℕ → Option ℕ
attribute_of p x = attribute_named p (symbol_text p x)

-- the method that assignments to this attribute call: the first name that has the attribute's bytes and `=` behind them
abbrev pub writer_of : Program → ℕ → Option ℕ
writer_of p x = symbol_named p (symbol_text p x ++ codes "=")

-- whether the number is that of the name
abbrev pub is_number : ℕ → Option ℕ → Bool
is_number x (Some y) = nat_eq y x
is_number x None = false

-- what calls a method that has this name, and that is called by assignments to this attribute
abbrev pub is_called_by : Option ℕ → Option ℕ → MethodName → Bool
is_called_by plain attribute (name.Plain x) = is_number x.0 plain
is_called_by plain attribute (name.Setter x) = is_number x.0 attribute

-- Whether this calls the method that a tree defines. `attr_writer :x` defines the method `x=`.
abbrev pub calls : Program → MethodName → Tree → Bool
calls p x (method y scope parameters size body) = is_called_by (Some y) (attribute_of p y) x
calls p x (reader y) = is_called_by (Some y) None x
calls p x (writer y) = is_called_by (writer_of p y) (Some y) x
calls p x _ = false

-- the definitions of what is called so, in order
abbrev pub called : Program → MethodName → List Definition → List Definition
called p x ds = filter (λ d. calls p x d.tree) ds

-- ---- the methods of a class

abbrev pub is_class_named : ℕ → Option Class → Bool
is_class_named x (Some c) = nat_eq c.name.0 x
is_class_named x None = false

-- whether the class with this number is a class of the program that has the name
abbrev pub has_name : Program → ℕ → ℕ → Bool
has_name p c x = if nat_lt c 32 then false else is_class_named x (slice_get p.classes.items (c - 32))

-- whether what stands in the body of the class of that name belongs to a class; what stands at top level belongs to Object
abbrev pub belongs : Program → ℕ → Option ℕ → Bool
belongs p c (Some x) = has_name p c x
belongs p c None = nat_eq c (class_id built_in.Object).0

-- the last of these definitions that belongs to a class
abbrev pub last_in : Program → ℕ → List Definition → Option Tree
last_in p c [] = None
last_in p c (d ∷ ds) = option_or (last_in p c ds) (if belongs p c d.class then Some d.tree else None)

-- the class's own method: the last definition counts
unfoldable pub own_method : Program → ℕ → MethodName → Option Tree
own_method p c x = last_in p c (called p x (definitions_of p))

-- a method, and the class that has it
pub record Held : Type 0 where
  pub class : ℕ
  pub tree : Tree

abbrev pub held : ℕ → Option Tree → Option Held
held c t = option_map (λ (m : Tree). record { class = c; tree = m }) t

abbrev pub held_above : (ℕ → Option Held) → Option ℕ → Option Held
held_above f (Some c) = f c
held_above f None = None

-- the method of the class, or of the nearest class above it, among so many classes from this one upwards
abbrev pub nearest_among : Program → MethodName → ℕ → ℕ → Option Held
nearest_among p x zero c = None
nearest_among p x (suc more) c = option_or (held c (own_method p c x)) (held_above (nearest_among p x more) (superclass_of p c))

-- the method that a call finds for a class: there are no more classes than steps
unfoldable pub nearest_method : Program → ℕ → MethodName → Option Held
nearest_method p c x = nearest_among p x (length p.classes.items + 32) c

-- ---- tables

abbrev pub number_in : Option Sym → Option ℕ
number_in o = option_map (λ (x : Sym). x.0) o

-- the definition that an entry of a table stands for
abbrev pub definition_at : List Node → Entry → Definition
definition_at ns e = record { class = number_in e.class; tree = tree_at ns e.node }

-- the entries of a table under a name
abbrev pub entries_under : MethodTable → MethodName → List Entry
entries_under t (name.Plain x) = slice_index_or (map (λ l. l.items) t.plain.items) x.0 []
entries_under t (name.Setter x) = slice_index_or (map (λ l. l.items) t.setters.items) x.0 []

-- what stands in a table under a name
abbrev pub kept_under : List Node → MethodTable → MethodName → List Definition
kept_under ns t x = map (definition_at ns) (entries_under t x)

-- the second table has what the first has and these definitions behind
abbrev pub Adds : Program → MethodTable → MethodTable → List Definition → Type 0
Adds p old new ds = (x : MethodName) → kept_under p.nodes.items new x ≡ kept_under p.nodes.items old x ++ called p x ds

-- the table is the program's: under each name stand the definitions of what is called so
abbrev pub IsTableOf : Program → MethodTable → Type 0
IsTableOf p t = (x : MethodName) → kept_under p.nodes.items t x ≡ called p x (definitions_of p)

-- an index finds each name by its bytes
abbrev pub IsIndexOf : Program → NameIndex → Type 0
IsIndexOf p i = (k : Bor (List ℕ)) → get (λ (x y : Bor (List ℕ)). bytes_eq x.now y.now) i.numbers k ≡ symbol_named p k.now

-- names are found by an index, if there is one already
abbrev pub IsNamedBy : Program → Named → Type 0
IsNamedBy p n = IfSome n.index (IsIndexOf p)

-- a found method, by its tree
abbrev pub held_by : List Node → Found → Held
held_by ns f = record { class = f.class.0; tree = tree_at ns f.node }
