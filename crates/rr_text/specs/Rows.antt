-- Worked rows of printed texts.
use Rattle.std.specs.Prelude.{◌≡◌, ℕ, true, false, List, [], ◌∷◌, ◌++◌, pos, codes, slice_get, Some, None}
use Rattle.rr_space.specs.Graph.{Own, Published, Nil, Truth, Integer, SymbolNo, ClassNo, RactorNo, Value, Plain, At, Label, Place, KeyAt, ValueAt, Message, Cause, Ractor, Kind, text, array, hash, plain, exception, shell, Object, Graph}
use Rattle.rr_text.specs.Walk.{Outcome, Walked, Wrote, Deep, Circular, Shell}
use Rattle.rr_text.specs.Forms.{Names, Way, spoken, inspected, lines, line_end, Piece, Ask, spelled, filled, pieced, printed}
use Rattle.rr_text.specs.Joining.{joint, joined}

abbrev pub row_names : Names
row_names = record { symbol = λ s. codes "name"; class = λ c. codes "Foo" }

abbrev pub of_kind : Kind → List (Label × Value) → Object
of_kind k ts = record { kind = k; class = 0; bytes = []; frozen = false; triples = ts }

abbrev pub of_text : List ℕ → Object
of_text s = record { kind = text; class = 0; bytes = s; frozen = false; triples = [] }

abbrev pub row_objects : List Object
row_objects =
    -- 0: [1, itself]
    (of_kind array ((Place 0, Plain (Integer (pos 1))) ∷ (Place 1, At (Own 0)) ∷ [])) ∷
    -- 1: a text
    (of_text (codes "a")) ∷
    -- 2: {name: 1, "a" => 2}
    (of_kind hash ((KeyAt 0, Plain (SymbolNo 0)) ∷ (ValueAt 0, Plain (Integer (pos 1))) ∷ (KeyAt 1, At (Own 1)) ∷ (ValueAt 1, Plain (Integer (pos 2))) ∷ [])) ∷
    -- 3: [1, [], [nil, "a"]]
    (of_kind array ((Place 0, Plain (Integer (pos 1))) ∷ (Place 1, At (Own 4)) ∷ (Place 2, At (Own 5)) ∷ [])) ∷
    (of_kind array []) ∷
    (of_kind array ((Place 0, Plain Nil) ∷ (Place 1, At (Own 1)) ∷ [])) ∷
    -- 6: a shell; 7: ["a", the shell]; 8: [[], the shell]
    (of_kind shell []) ∷
    (of_kind array ((Place 0, At (Own 1)) ∷ (Place 1, At (Own 6)) ∷ [])) ∷
    (of_kind array ((Place 0, At (Own 4)) ∷ (Place 1, At (Own 6)) ∷ [])) ∷
    -- 9: a text with escapes
    (of_text (codes "\"\\\n\t\r" ++ 27 ∷ [] ++ codes "#{#$#@#")) ∷
    -- 10: an exception with a message; 11: one without
    (of_kind exception ((Message, At (Own 1)) ∷ (Cause, Plain Nil) ∷ (Ractor, Plain Nil) ∷ [])) ∷
    (of_kind exception ((Message, Plain Nil) ∷ (Cause, Plain Nil) ∷ (Ractor, Plain Nil) ∷ [])) ∷
    -- 12: a plain object
    (of_kind plain []) ∷
    -- 13: [nil, true, false, :name, Foo, #<Ractor:#3>]
    (of_kind array ((Place 0, Plain Nil) ∷ (Place 1, Plain (Truth true)) ∷ (Place 2, Plain (Truth false)) ∷ (Place 3, Plain (SymbolNo 0)) ∷ (Place 4, Plain (ClassNo 9)) ∷ (Place 5, Plain (RactorNo 3)) ∷ [])) ∷
    -- 14: {nil => itself}
    (of_kind hash ((KeyAt 0, Plain Nil) ∷ (ValueAt 0, At (Own 14)) ∷ [])) ∷
    -- 15: [{nil => itself}]
    (of_kind array ((Place 0, At (Own 14)) ∷ [])) ∷
    -- 16: [the plain object, {nil => the plain object}]
    (of_kind array ((Place 0, At (Own 12)) ∷ (Place 1, At (Own 17)) ∷ [])) ∷
    (of_kind hash ((KeyAt 0, Plain Nil) ∷ (ValueAt 0, At (Own 12)) ∷ [])) ∷
    []

abbrev pub row_graph : Graph
row_graph (Own n) = slice_get row_objects n
row_graph (Published c p) = None

-- a value of that number of objects, with so many levels, is written so
abbrev pub Row : ℕ → Way → ℕ → Walked → Type 0
Row levels way n w = printed row_names row_graph levels way (At (Own n)) ≡ w

-- an array of that number of objects, with so many levels, is joined so
abbrev pub Joins : ℕ → List ℕ → ℕ → Walked → Type 0
Joins levels separator n w = joined row_names row_graph levels separator (At (Own n)) ≡ w

-- a value of that number of objects has these pieces, and an array of that number is joined of these, where every class is asked
abbrev pub Asks : ℕ → Way → ℕ → Outcome Piece → Type 0
Asks levels way n w = pieced row_names row_graph (λ c. true) levels way (At (Own n)) ≡ w

abbrev pub AsksJoined : ℕ → List ℕ → ℕ → Outcome Piece → Type 0
AsksJoined levels separator n w = joint row_names row_graph (λ c. true) levels separator (At (Own n)) ≡ w

-- the plain object, asked
abbrev pub row_ask : Way → Piece
row_ask way = Ask (way, At (Own 12)) (codes "#<Foo>" ++ line_end way)

pub record AllRows : Type 0 where
  pub itself : Row 3 inspected 0 (Wrote (codes "[1, [...]]"))
  pub pairs : Row 3 inspected 2 (Wrote (codes "{name: 1, \"a\" => 2}"))
  pub lined : Row 3 lines 3 (Wrote (codes "1\n\n\na\n"))
  pub lined_itself : Row 3 lines 0 (Wrote (codes "1\n[...]\n"))
  pub lined_hash : Row 3 lines 15 (Wrote (codes "{nil => {...}}\n"))
  pub spoken_text : Row 0 spoken 1 (Wrote (codes "a"))
  pub too_deep : Row 1 inspected 3 Deep
  pub not_too_deep : Row 2 inspected 3 (Wrote (codes "[1, [], [nil, \"a\"]]"))
  pub shell_met : Row 3 inspected 7 Shell
  pub deep_before_shell : Row 1 inspected 8 Deep
  pub escapes : Row 0 inspected 9 (Wrote (codes "\"\\\"\\\\\\n\\t\\r\\e\\#{\\#$\\#@#\""))
  pub raised : Row 0 inspected 10 (Wrote (codes "#<Foo: a>"))
  pub raised_spoken : Row 0 spoken 10 (Wrote (codes "a"))
  pub raised_bare : Row 0 spoken 11 (Wrote (codes "Foo"))
  pub plain_object : Row 0 spoken 12 (Wrote (codes "#<Foo>"))
  pub immediates : Row 1 spoken 13 (Wrote (codes "[nil, true, false, :name, Foo, #<Ractor:#3>]"))
  pub hash_itself : Row 1 inspected 14 (Wrote (codes "{nil => {...}}"))
  pub joined_alike : Joins 2 (codes "-") 3 (Wrote (codes "1---a"))
  pub joined_bare : Joins 2 [] 3 (Wrote (codes "1a"))
  pub joined_itself : Joins 3 (codes "-") 0 Circular
  pub joined_hash : Joins 2 (codes "-") 15 (Wrote (codes "{nil => {...}}"))
  pub joined_too_deep : Joins 1 (codes "-") 3 Deep
  pub joined_hash_too_deep : Joins 1 (codes "-") 15 Deep
  pub joined_shell : Joins 1 (codes "-") 7 Shell
  pub asked : Asks 0 spoken 12 (Wrote (row_ask spoken ∷ []))
  pub asked_lined : Asks 3 lines 16 (Wrote (row_ask lines ∷ spelled (codes "{nil => #<Foo>}\n")))
  pub asked_inside : Asks 3 spoken 16 (Wrote (spelled (codes "[#<Foo>, {nil => #<Foo>}]")))
  pub asked_joined : AsksJoined 3 (codes "-") 16 (Wrote (row_ask spoken ∷ spelled (codes "-{nil => #<Foo>}")))
  pub asked_too_deep : Asks 1 lines 16 Deep
  pub answered_lined : filled (row_ask lines ∷ row_ask lines ∷ []) (Some (codes "a") ∷ Some (codes "b\n") ∷ []) ≡ codes "a\nb\n"
  pub answered_no_text : filled (row_ask spoken ∷ row_ask spoken ∷ row_ask spoken ∷ []) (None ∷ Some (codes "a") ∷ []) ≡ codes "#<Foo>a#<Foo>"
