-- Classes: their heads, and the members in them.
use Rattle.std.specs.Prelude.{◌≡◌, List, [], ◌∷◌, Option, Some, None, is_some}
use Rattle.rr_base.specs.declared.name.Sym.{Sym}
use Rattle.rr_base.specs.declared.name.ClassId.{ClassId}
use Rattle.rr_tree.specs.declared.node.BinaryOperator.TheVariants as op
use Rattle.rr_tree.specs.declared.node.Path.{Path}
use Rattle.rr_tree.specs.Tree.{Tree, reader, writer, class_body, listed}
use Rattle.rr_parser.specs.declared.word.Access.{Access}
use Rattle.rr_parser.specs.declared.word.Access.TheVariants as accesses
use Rattle.rr_parser.specs.declared.word.Infix.TheVariants as infixes
use Rattle.rr_parser.specs.declared.word.Opening.{Opening}
use Rattle.rr_parser.specs.declared.word.NameKind.TheVariants as name_kinds
use Rattle.rr_parser.specs.declared.word.Naming.TheVariants as namings
use Rattle.rr_parser.specs.declared.word.Part.TheVariants as parts
use Rattle.rr_parser.specs.declared.word.WordKind.{WordKind}
use Rattle.rr_parser.specs.declared.word.WordKind.TheVariants as kind
use Rattle.rr_parser.specs.declared.word.Word.{Word}
use Rattle.rr_parser.specs.Places.{Place, Look, first_as, unless, word, at, next, separators}
use Rattle.rr_parser.specs.Grammar.Chains.{Chain, all_of, and_all}
use Rattle.rr_parser.specs.Grammar.Nesting.{Nested}
use Rattle.rr_parser.specs.Grammar.Calls.{comma}
use Rattle.rr_parser.specs.Grammar.Bodies.{path}

abbrev pub own_of_kind : WordKind → Option Sym
own_of_kind (kind.Constant x namings.Opened) = Some x
own_of_kind _ = None

-- the name of a class of the program
abbrev pub own_name : Look Sym
own_name = first_as (λ w. own_of_kind w.kind)

-- the sign between a class and its superclass
abbrev pub below_sign : WordKind
below_sign = kind.Operator (infixes.Binary op.Less)

abbrev pub with_path : Sym → Option (Path × List Word) → Option ((Sym × Option Path) × List Word)
with_path x None = None
with_path x (Some r) = Some ((x, Some r.0), r.1)

abbrev pub below_or : Sym → List Word → Option (Unit {0} × List Word) → Option ((Sym × Option Path) × List Word)
below_or x ws None = Some ((x, None), ws)
below_or x ws (Some r) = with_path x (path r.1)

abbrev pub behind_name : Option (Sym × List Word) → Option ((Sym × Option Path) × List Word)
behind_name None = None
behind_name (Some r) = below_or r.0 r.1 (word below_sign r.1)

-- the head of a class: its name, and the path of its superclass, if one is given
abbrev pub class_head : Look (Sym × Option Path)
class_head ws = behind_name (own_name ws)

abbrev pub opening_of_kind : WordKind → Option Opening
opening_of_kind (kind.Class o) = Some o
opening_of_kind _ = None

-- the word `class`, with what is told of the superclass
abbrev pub class_word : Look Opening
class_word = first_as (λ w. opening_of_kind w.kind)

abbrev pub word_behind : WordKind → Option (Unit {0} × List Word) → Option (Unit {0} × List Word)
word_behind k None = None
word_behind k (Some r) = word k r.1

-- separators, and a word of this kind behind them
abbrev pub row_of : WordKind → Look (Unit {0})
row_of k ws = word_behind k (separators ws)

abbrev pub access_of_kind : WordKind → Option Access
access_of_kind (kind.Name x (name_kinds.Accessor a)) = Some a
access_of_kind _ = None

-- the word before attributes
abbrev pub access_word : Look Access
access_word = first_as (λ w. access_of_kind w.kind)

abbrev pub symbol_of_kind : WordKind → Option Sym
symbol_of_kind (kind.Symbol x) = Some x
symbol_of_kind _ = None

abbrev pub symbol : Look Sym
symbol = first_as (λ w. symbol_of_kind w.kind)

-- the methods of an attribute
abbrev pub attribute_methods : Access → Sym → List Tree
attribute_methods accesses.Read x = reader x.0 ∷ []
attribute_methods accesses.Write x = writer x.0 ∷ []
attribute_methods accesses.Both x = reader x.0 ∷ writer x.0 ∷ []

-- an attribute, which a symbol names
pub data Attribute (a : Access) : Place → List Tree → Place → Type 0 where
  an_attribute : {s z : Place} {x : Sym} → at symbol s ≡ Some (x, z) → Attribute a s (attribute_methods a x) z

-- one attribute or more, with commas between them
abbrev pub Attributes : Access → Place → List Tree → Place → Type 0
Attributes a = Chain comma all_of and_all (Attribute a)

-- a member of a class: the definition of a method, or attributes
pub data ClassMember (N : Nested) : Place → List Tree → Place → Type 0 where
  a_definition : {s m z : Place} {t : Tree} → next s ≡ Some (kind.Def, m) → N.part parts.Definition m t z → ClassMember N s (t ∷ []) z
  some_attributes : {s m z : Place} {a : Access} {l : List Tree} → at access_word s ≡ Some (a, m) → Attributes a m l z → ClassMember N s l z

-- the methods of members, with separators between them
abbrev pub Methods : Nested → Place → List Tree → Place → Type 0
Methods N = Chain separators all_of and_all (ClassMember N)

-- separators, unless the `end` of a class stands behind them
abbrev pub member_row : Look (Unit {0})
member_row ws = unless (is_some (row_of kind.End ws)) (separators ws)

-- the methods of the members of a class, which stand behind separators each
pub data Inner (N : Nested) : Place → List Tree → Place → Type 0 where
  no_methods : {s : Place} → Inner N s [] s
  some_methods : {s m z : Place} {u : Unit {0}} {l : List Tree} → at separators s ≡ Some (u, m) → Methods N m l z → Inner N s l z

-- what stands behind the head of a class, with its `end`; separators stand before the `end` too
pub data ClassBody (N : Nested) (x : Sym) (c : ClassId) : Place → Tree → Place → Type 0 where
  a_class_body : {s m z : Place} {u : Unit {0}} {l : List Tree} → Inner N s l m → at (row_of kind.End) m ≡ Some (u, z) → ClassBody N x c s (class_body x.0 c (listed l)) z
