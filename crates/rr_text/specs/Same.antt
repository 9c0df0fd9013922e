-- Values that are one immediate or one object, and what stands at a value of a graph.
use Rattle.std.specs.Prelude.{ℕ, Bool, true, false, not, nat_eq, List, []}
use Rattle.std.specs.Ordering.{int_eq}
use Rattle.rr_space.specs.Graph.{Graph, Immediate, Nil, Truth, Integer, SymbolNo, ClassNo, RactorNo, Value, Plain, At, Label}
use Rattle.rr_space.specs.Parts.{bytes_of}
use Rattle.rr_space.specs.Kinds.{object_kind}
use Rattle.rr_space.specs.Labels.{triples_of}
use Rattle.rr_space.specs.declared.kind.Kind.{Kind}
use Rattle.rr_space.specs.declared.kind.Kind.TheVariants as kind
use Rattle.rr_text.specs.Forms.{same_name}

abbrev pub same_truth : Bool → Bool → Bool
same_truth true b = b
same_truth false b = not b

-- whether two are one immediate
abbrev pub same_immediate : Immediate → Immediate → Bool
same_immediate Nil Nil = true
same_immediate (Truth a) (Truth b) = same_truth a b
same_immediate (Integer x) (Integer y) = int_eq x y
same_immediate (SymbolNo m) (SymbolNo n) = nat_eq m n
same_immediate (ClassNo m) (ClassNo n) = nat_eq m n
same_immediate (RactorNo m) (RactorNo n) = nat_eq m n
same_immediate _ _ = false

-- whether two are one immediate or one object
abbrev pub same_value : Value → Value → Bool
same_value (Plain i) (Plain j) = same_immediate i j
same_value (Plain i) (At n) = false
same_value (At m) (Plain i) = false
same_value (At m) (At n) = same_name m n

abbrev pub kind_of_immediate : Immediate → Kind
kind_of_immediate Nil = kind.Nil
kind_of_immediate (Truth b) = kind.Truth
kind_of_immediate (Integer z) = kind.Integer
kind_of_immediate (SymbolNo s) = kind.Symbol
kind_of_immediate (ClassNo c) = kind.Class
kind_of_immediate (RactorNo r) = kind.Ractor

-- what a value of a graph is; where no object is, as nil
abbrev pub kind_in : Graph → Value → Kind
kind_in g (Plain i) = kind_of_immediate i
kind_in g (At n) = object_kind (g n)

-- the bytes of a text
abbrev pub bytes_in : Graph → Value → List ℕ
bytes_in g (Plain i) = []
bytes_in g (At n) = bytes_of (g n)

-- what an object leads to
abbrev pub triples_in : Graph → Value → List (Label × Value)
triples_in g (Plain i) = []
triples_in g (At n) = triples_of (g n)
