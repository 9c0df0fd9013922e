-- The classes of a program among its words: their names, and what their heads tell.
use Rattle.std.specs.Prelude.{ℕ, ◌+◌, nat_eq, Bool, false, true, not, List, [], ◌∷◌, ◌++◌, map, filter, slice_index_or, position, codes, Option, Some, None, option_map, option_to_list, if◌then◌else◌}
use Rattle.std.specs.List.{list_any}
use Rattle.std.specs.Map.{lookup}
use Rattle.rr_base.specs.ClassNames.{class_named}
use Rattle.indexmap.specs.IndexMap.{insert_entry}
use Rattle.rr_base.specs.Classes.{class_id}
use Rattle.rr_base.specs.declared.class.BuiltInClass.{BuiltInClass}
use Rattle.rr_base.specs.declared.class.BuiltInClass.TheVariants as built_in
use Rattle.rr_base.specs.declared.name.ClassId.{ClassId}
use Rattle.rr_base.specs.declared.name.Sym.{Sym}
use Rattle.rr_tree.specs.declared.class.Class.{Class}
use Rattle.rr_tree.specs.declared.node.Path.{Path}
use Rattle.rr_tree.specs.declared.node.Path.TheVariants as paths
use Rattle.rr_parser.specs.contracts.word.OpeningPartialEq.TheImpl as opening_equality
use Rattle.rr_parser.specs.declared.word.Opening.{Opening}
use Rattle.rr_parser.specs.declared.word.Opening.TheVariants as openings
use Rattle.rr_parser.specs.declared.word.Naming.{Naming}
use Rattle.rr_parser.specs.declared.word.Naming.TheVariants as namings
use Rattle.rr_parser.specs.declared.word.WordKind.{WordKind}
use Rattle.rr_parser.specs.declared.word.WordKind.TheVariants as kind
use Rattle.rr_parser.specs.declared.word.Word.{Word}
use Rattle.rr_parser.specs.Grammar.Classes.{class_head}

abbrev pub constant_number : WordKind → Option ℕ
constant_number (kind.Constant x n) = Some x.0
constant_number _ = None

abbrev pub first_constant : List Word → Option ℕ
first_constant [] = None
first_constant (w ∷ ws) = constant_number w.kind

abbrev pub is_class : WordKind → Bool
is_class (kind.Class o) = true
is_class _ = false

-- the constant behind a word, where that is the word `class`, by the number of its name
abbrev pub class_behind : Word → List Word → Option ℕ
class_behind w ws = if is_class w.kind then first_constant ws else None

-- the constants that stand behind the word `class` somewhere
abbrev pub classes_in : List Word → List ℕ
classes_in [] = []
classes_in (w ∷ ws) = option_to_list (class_behind w ws) ++ classes_in ws

-- these names, with one more where it is new
abbrev pub with_number : List ℕ → Option ℕ → List ℕ
with_number xs None = xs
with_number xs (Some x) = if list_any (nat_eq x) xs then xs else xs ++ x ∷ []

abbrev pub naming_by : Bool → Naming → Naming
naming_by own namings.Free = if own then namings.Opened else namings.Free
naming_by own n = n

-- a word, where these are the names of the program's classes
abbrev pub kind_by : (ℕ → Bool) → WordKind → WordKind
kind_by own (kind.Constant x n) = kind.Constant x (naming_by (own x.0) n)
kind_by own k = k

abbrev pub word_by : (ℕ → Bool) → Word → Word
word_by own w = record { kind = kind_by own w.kind; blank = w.blank }

-- the words, where the names of the program's classes are told from other constants
abbrev pub with_classes : List Word → List Word
with_classes ws = map (word_by (λ x. list_any (nat_eq x) (classes_in ws))) ws

-- ---- superclasses

-- the head of a class: the number of its name, and the path of its superclass, if one is given
abbrev pub Head : Type 0
Head = ℕ × Option Path

abbrev pub head_of : Option ((Sym × Option Path) × List Word) → List Head
head_of None = []
head_of (Some h) = (h.0.0.0, h.0.1) ∷ []

-- the head behind a word, where that is the word `class`
abbrev pub head_behind : WordKind → List Word → List Head
head_behind (kind.Class o) ws = head_of (class_head ws)
head_behind k ws = []

-- the heads of classes, in their order
abbrev pub heads_in : List Word → List Head
heads_in [] = []
heads_in (w ∷ ws) = head_behind w.kind ws ++ heads_in ws

-- numbers, each once, in the order in which they first stand
abbrev pub each_once : List ℕ → List ℕ
each_once [] = []
each_once (x ∷ xs) = x ∷ filter (λ y. not (nat_eq y x)) (each_once xs)

-- the names of the classes with these heads
abbrev pub names_of : List Head → List ℕ
names_of hs = each_once (map (λ h. h.0) hs)

-- the number of the class of a name among these: its place, behind the built-in classes
abbrev pub own_class : List ℕ → ℕ → Option ClassId
own_class xs x = option_map (λ i. record { 0 = i + 32 }) (position (nat_eq x) xs)

abbrev pub name_text : List (List ℕ) → Sym → List ℕ
name_text names x = slice_index_or names x.0 []

-- Object and the classes of exceptions have classes of a program below them.
abbrev pub has_below : BuiltInClass → Bool
has_below built_in.BasicObject = false
has_below built_in.MovedObject = false
has_below built_in.Integer = false
has_below built_in.String = false
has_below built_in.Symbol = false
has_below built_in.Array = false
has_below built_in.Hash = false
has_below built_in.NilClass = false
has_below built_in.TrueClass = false
has_below built_in.FalseClass = false
has_below built_in.Class = false
has_below built_in.Ractor = false
has_below _ = true

abbrev pub below_built_in : Option BuiltInClass → Opening
below_built_in None = openings.Unknown
below_built_in (Some k) = if has_below k then openings.Below (class_id k) else openings.Closed

abbrev pub below_own : Option ClassId → Opening → Opening
below_own None o = o
below_own (Some c) o = openings.Below c

-- what the path of a superclass tells behind classes with these names
abbrev pub below_path : List (List ℕ) → List ℕ → Path → Opening
below_path names xs (paths.Plain x) = below_own (own_class xs x.0) (below_built_in (class_named (name_text names x)))
below_path names xs (paths.Ractor x) = below_built_in (class_named (codes "Ractor::" ++ name_text names x))

abbrev pub is_opening : Opening → Opening → Bool
is_opening = (opening_equality.ghosts).eq

-- What is told of a class: it stands where it stood earlier, and where it is new below Object, unless its head tells otherwise.
abbrev pub opening_by : Option ClassId → Option Opening → Opening
opening_by None None = openings.Below (class_id built_in.Object)
opening_by None (Some o) = o
opening_by (Some c) None = openings.Below c
opening_by (Some c) (Some o) = if is_opening o (openings.Below c) then o else openings.Unknown

-- the superclass that is told; a head that does not tell one is refused
abbrev pub superclass_of : Opening → ClassId
superclass_of (openings.Below c) = c
superclass_of _ = class_id built_in.Object

-- what a head tells of a class that is new, behind classes with these names
abbrev pub new_opening : List (List ℕ) → List ℕ → Option Path → Opening
new_opening names xs path = opening_by None (option_map (below_path names xs) path)

-- classes, each by the number of its name and with its superclass
abbrev pub Earlier : Type 0
Earlier = List (ℕ × ClassId)

-- The classes with heads, behind other heads: each once, by its first head, which tells its superclass among the classes whose heads
-- stand before.
abbrev pub classes_behind : List (List ℕ) → List Head → List Head → Earlier
classes_behind names before [] = []
classes_behind names before (h ∷ hs) =
    (h.0, superclass_of (new_opening names (names_of before) h.1)) ∷ filter (λ e. not (nat_eq e.0 h.0)) (classes_behind names (before ++ h ∷ []) hs)

abbrev pub classes_by : List (List ℕ) → List Head → Earlier
classes_by names hs = classes_behind names [] hs

-- what is told of a class with a head, behind other heads
abbrev pub opening_of : List (List ℕ) → List Head → Option ((Sym × Option Path) × List Word) → Opening
opening_of names hs None = openings.Unknown
opening_of names hs (Some h) = opening_by (lookup (nat_eq h.0.0.0) (classes_by names hs)) (option_map (below_path names (names_of hs)) h.0.1)

-- the word, where these words stand behind it
abbrev pub opened_kind : List (List ℕ) → List Head → WordKind → List Word → WordKind
opened_kind names hs (kind.Class o) ws = kind.Class (opening_of names hs (class_head ws))
opened_kind names hs k ws = k

-- the words behind these heads, where each `class` is told its superclass
abbrev pub opened_words : List (List ℕ) → List Head → List Word → List Word
opened_words names hs [] = []
opened_words names hs (w ∷ ws) = record { kind = opened_kind names hs w.kind ws; blank = w.blank } ∷ opened_words names (hs ++ head_behind w.kind ws) ws

-- the classes, with one more where its name is new
abbrev pub with_class_by : Option ClassId → Earlier → ℕ → ClassId → Earlier
with_class_by None cs x c = insert_entry nat_eq cs x c
with_class_by (Some d) cs x c = cs

abbrev pub with_class : Earlier → ℕ → ClassId → Earlier
with_class cs x c = with_class_by (lookup (nat_eq x) cs) cs x c

-- a class of the program
abbrev pub class_of_entry : ℕ × ClassId → Class
class_of_entry e = record { name = record { 0 = e.0 }; superclass = e.1 }
