-- The classes and kinds of the values of a graph, and the bytes of its texts.
use Rattle.std.specs.Prelude.{ℕ, List, cond}
use Rattle.rr_base.specs.declared.name.ClassId.{ClassId}
use Rattle.rr_base.specs.declared.name.TheConstants.ClassId.{CLASS, FALSE_CLASS, INTEGER, NIL_CLASS, RACTOR, SYMBOL, TRUE_CLASS}
use Rattle.rr_space.specs.Graph.{Graph, Immediate, Nil, Truth, Integer, SymbolNo, ClassNo, RactorNo, Value, Plain, At}
use Rattle.rr_space.specs.Tables.{Table, Below, graph_of, resolve}
use Rattle.rr_space.specs.Kinds.{object_class}
use Rattle.rr_space.specs.declared.kind.Kind.{Kind}
use Rattle.rr_text.specs.Same.{kind_in, bytes_in}

abbrev pub class_of_immediate : Immediate → ClassId
class_of_immediate Nil = NIL_CLASS
class_of_immediate (Truth b) = cond b TRUE_CLASS FALSE_CLASS
class_of_immediate (Integer z) = INTEGER
class_of_immediate (SymbolNo s) = SYMBOL
class_of_immediate (ClassNo c) = CLASS
class_of_immediate (RactorNo r) = RACTOR

-- the class of a value of a graph; where no object is, that of nil
abbrev pub class_in : Graph → Value → ClassId
class_in g (Plain i) = class_of_immediate i
class_in g (At n) = object_class (g n)

-- the class of a value of a table, forwards followed
unfoldable pub class_of_value : Below → Table → Value → ClassId
class_of_value below t x = class_in (graph_of t.slots below) (resolve t.slots x)

-- what a value of a table is, forwards followed
unfoldable pub kind_of_value : Below → Table → Value → Kind
kind_of_value below t x = kind_in (graph_of t.slots below) (resolve t.slots x)

-- the bytes of the text that a value of a table is, forwards followed
unfoldable pub bytes_of_value : Below → Table → Value → List ℕ
bytes_of_value below t x = bytes_in (graph_of t.slots below) (resolve t.slots x)
