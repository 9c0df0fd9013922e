-- The printed text of a value: to_s, inspect and puts.
use Rattle.std.specs.Prelude.{ℕ, ◌-◌, Bool, true, false, ◌&&◌, List, [], ◌∷◌, ◌++◌, codes, map, nat_eq, length, slice_index, if◌then◌else◌, Option, Some, None}
use Rattle.std.specs.Fmt.{decimal, signed_decimal}
use Rattle.rr_space.specs.Graph.{Name, Own, Published, Immediate, Nil, Truth, Integer, SymbolNo, ClassNo, RactorNo, Value, Plain, At, Label, Place, Field, KeyAt, ValueAt, Message, Cause, Ractor, Kind, text, array, hash, plain, exception, shell, Object, Graph}
use Rattle.rr_space.specs.Views.{emptied}
use Rattle.rr_text.specs.Walk.{Outcome, Walked, Wrote, Differs, Deep, Circular, Shell, Look, Leaf, Branch, walk}
use Rattle.rr_text.specs.Quoted.{quoted}

-- how a program spells its symbols and classes, by their numbers
pub record Names : Type 0 where
  pub symbol : ℕ → List ℕ
  pub class : ℕ → List ℕ

-- what writes a value: `to_s`, `inspect`, or `puts`, which ends it with a line end
pub data Way : Type 0 where
  spoken : Way
  inspected : Way
  lines : Way

abbrev pub Item : Type 0
Item = Way × Value

-- What is written: bytes, and objects that are asked for their text, as one of these ways writes it. Where an object has no
-- answer the other bytes stand.
pub data Piece : Type 0 where
  Byte : (byte : ℕ) → Piece
  Ask : (asked : Item) (unless : List ℕ) → Piece

abbrev pub spelled : List ℕ → List Piece
spelled s = map Byte s

-- what an object is in while it is written: a container of `inspect`, or an array whose elements stand on lines of their own
pub data Walker : Type 0 where
  inspecting : Walker
  lining : Walker

abbrev pub Key : Type 0
Key = Walker × Value

abbrev pub same_name : Name → Name → Bool
same_name (Own m) (Own n) = nat_eq m n
same_name (Own m) (Published c p) = false
same_name (Published c p) (Own n) = false
same_name (Published c p) (Published d q) = nat_eq c d && nat_eq p q

abbrev pub same_object : Value → Value → Bool
same_object (At m) (At n) = same_name m n
same_object (At m) (Plain i) = false
same_object (Plain i) w = false

abbrev pub same_walker : Walker → Walker → Bool
same_walker inspecting inspecting = true
same_walker inspecting lining = false
same_walker lining inspecting = false
same_walker lining lining = true

-- a hash in an array that `puts` writes is inspected afresh
abbrev pub same_key : Key → Key → Bool
same_key k l = same_walker k.0 l.0 && same_object k.1 l.1

-- the object under a name; a name that leads nowhere is read as a shell
abbrev pub standing : Option Object → Object
standing (Some o) = o
standing None = emptied

-- a line end, unless the text ends with one
abbrev pub ended : List ℕ → List ℕ
ended s = if nat_eq (slice_index s (length s - 1)) 10 then s else s ++ 10 ∷ []

abbrev pub written : Way → List ℕ → List ℕ
written spoken s = s
written inspected s = s
written lines s = ended s

-- the line end after what ends with none
abbrev pub line_end : Way → List ℕ
line_end spoken = []
line_end inspected = []
line_end lines = 10 ∷ []

-- what a text is written as
abbrev pub text_written : Way → List ℕ → List ℕ
text_written spoken s = s
text_written inspected s = quoted s
text_written lines s = ended s

-- what is written around a text that a walk gives
abbrev pub within_text : (List ℕ → List ℕ) → Walked → Walked
within_text f (Wrote s) = Wrote (f s)
within_text f Differs = Differs
within_text f Deep = Deep
within_text f Circular = Circular
within_text f Shell = Shell

abbrev pub is_message : Label → Bool
is_message Message = true
is_message (Place k) = false
is_message (Field s) = false
is_message (KeyAt k) = false
is_message (ValueAt k) = false
is_message Cause = false
is_message Ractor = false

-- the value under the label `message`
abbrev pub message_in : List (Label × Value) → Option Value
message_in [] = None
message_in (t ∷ ts) = if is_message t.0 then Some t.1 else message_in ts

-- values, each after what stands before it: `first` before the first of them, `between` before all others
abbrev pub elements : Way → List ℕ → List ℕ → List (Label × Value) → List (List Piece × Item)
elements way first between [] = []
elements way first between (t ∷ ts) = (spelled first, (way, t.1)) ∷ elements way between between ts

-- whether a way to write asks objects for their text
abbrev pub asks_objects : Way → Bool
asks_objects spoken = true
asks_objects inspected = false
asks_objects lines = true

-- whether a program may give an object of this kind a text
abbrev pub may_answer : Kind → Bool
may_answer text = false
may_answer array = false
may_answer hash = false
may_answer plain = true
may_answer exception = true
may_answer shell = false

-- the text of an object: as it is, or where the object has no answer
abbrev pub text_or_ask : Bool → Item → Walked → Outcome Piece
text_or_ask true i (Wrote s) = Wrote (Ask i s ∷ [])
text_or_ask false i (Wrote s) = Wrote (spelled s)
text_or_ask asked i Differs = Differs
text_or_ask asked i Deep = Deep
text_or_ask asked i Circular = Circular
text_or_ask asked i Shell = Shell

-- what stands where an object was asked: the text that it answered with, if it is one, as it is written
abbrev pub answered : Way → List ℕ → Option (List ℕ) → List ℕ
answered way unless (Some s) = written way s
answered way unless None = unless

-- the first of the answers; where there is none, no text
abbrev pub first_answer : List (Option (List ℕ)) → Option (List ℕ)
first_answer [] = None
first_answer (a ∷ answers) = a

abbrev pub later_answers : List (Option (List ℕ)) → List (Option (List ℕ))
later_answers [] = []
later_answers (a ∷ answers) = answers

-- the bytes of pieces whose objects answered so, from the first on
abbrev pub filled : List Piece → List (Option (List ℕ)) → List ℕ
filled [] answers = []
filled (Byte b ∷ ps) answers = b ∷ filled ps answers
filled (Ask i unless ∷ ps) answers = answered i.0 unless (first_answer answers) ++ filled ps (later_answers answers)

-- the bytes where no object answered
abbrev pub unanswered : Outcome Piece → Walked
unanswered (Wrote ps) = Wrote (filled ps [])
unanswered Differs = Differs
unanswered Deep = Deep
unanswered Circular = Circular
unanswered Shell = Shell

abbrev pub truth_text : Bool → List ℕ
truth_text true = codes "true"
truth_text false = codes "false"

module _ (names : Names) where
  abbrev pub immediate_inspected : Immediate → List ℕ
  immediate_inspected Nil = codes "nil"
  immediate_inspected (Truth b) = truth_text b
  immediate_inspected (Integer z) = signed_decimal z
  immediate_inspected (SymbolNo s) = codes ":" ++ names.symbol s
  immediate_inspected (ClassNo c) = names.class c
  immediate_inspected (RactorNo n) = codes "#<Ractor:#" ++ decimal n ++ codes ">"

  abbrev pub immediate_spoken : Immediate → List ℕ
  immediate_spoken Nil = []
  immediate_spoken (Truth b) = truth_text b
  immediate_spoken (Integer z) = signed_decimal z
  immediate_spoken (SymbolNo s) = names.symbol s
  immediate_spoken (ClassNo c) = names.class c
  immediate_spoken (RactorNo n) = codes "#<Ractor:#" ++ decimal n ++ codes ">"

  abbrev pub immediate_written : Way → Immediate → List ℕ
  immediate_written spoken i = immediate_spoken i
  immediate_written inspected i = immediate_inspected i
  immediate_written lines i = ended (immediate_spoken i)

  -- a plain object
  abbrev pub plain_written : Way → ℕ → List ℕ
  plain_written way c = codes "#<" ++ names.class c ++ codes ">" ++ line_end way

  -- an exception of the class c, by its message
  abbrev pub exception_written : Way → ℕ → List ℕ → List ℕ
  exception_written spoken c message = message
  exception_written inspected c message = codes "#<" ++ names.class c ++ codes ": " ++ message ++ codes ">"
  exception_written lines c message = ended message

  -- the message that an object is; a shell has none to give
  abbrev pub told_by : ℕ → Kind → List ℕ → Walked
  told_by c text bytes = Wrote bytes
  told_by c array bytes = Wrote (names.class c)
  told_by c hash bytes = Wrote (names.class c)
  told_by c plain bytes = Wrote (names.class c)
  told_by c exception bytes = Wrote (names.class c)
  told_by c shell bytes = Shell

  module _ (g : Graph) where
    abbrev pub thing : Name → Object
    thing n = standing (g n)

    -- the message of an exception of the class c: its text, or else the name of the class
    abbrev pub message_text : ℕ → Option Value → Walked
    message_text c None = Wrote (names.class c)
    message_text c (Some (Plain i)) = Wrote (names.class c)
    message_text c (Some (At n)) = told_by c (thing n).kind (thing n).bytes

    -- a key of a hash, which is an immediate or a text, and what stands between it and its value
    abbrev pub key_text : Value → List ℕ
    key_text (Plain Nil) = codes "nil => "
    key_text (Plain (Truth b)) = truth_text b ++ codes " => "
    key_text (Plain (Integer z)) = signed_decimal z ++ codes " => "
    key_text (Plain (SymbolNo s)) = names.symbol s ++ codes ": "
    key_text (Plain (ClassNo c)) = names.class c ++ codes " => "
    key_text (Plain (RactorNo n)) = codes "#<Ractor:#" ++ decimal n ++ codes ">" ++ codes " => "
    key_text (At n) = quoted (thing n).bytes ++ codes " => "

    -- the values of a hash, each after its key; a hash's triples are a key and its value in turn
    abbrev pub entries : List ℕ → List (Label × Value) → List (List Piece × Item)
    entries first [] = []
    entries first (key ∷ []) = []
    entries first (key ∷ value ∷ ts) = (spelled (first ++ key_text key.1), (inspected, value.1)) ∷ entries (codes ", ") ts

    abbrev pub row_look : Value → List (Label × Value) → Look Piece Item Key
    row_look v ts = Branch (inspecting, v) (Wrote (spelled (codes "[...]"))) (spelled (codes "[")) (elements inspected [] (codes ", ") ts) (spelled (codes "]"))

    -- the elements of an array on lines of their own; an empty one is an empty line
    abbrev pub line_look : Value → List (Label × Value) → Look Piece Item Key
    line_look v [] = Leaf (Wrote (spelled (10 ∷ [])))
    line_look v (t ∷ ts) = Branch (lining, v) (Wrote (spelled (codes "[...]" ++ 10 ∷ []))) [] (elements lines [] [] (t ∷ ts)) []

    abbrev pub array_look : Way → Value → List (Label × Value) → Look Piece Item Key
    array_look spoken v ts = row_look v ts
    array_look inspected v ts = row_look v ts
    array_look lines v ts = line_look v ts

    abbrev pub hash_look : Way → Value → List (Label × Value) → Look Piece Item Key
    hash_look way v ts = Branch (inspecting, v) (Wrote (spelled (codes "{...}" ++ line_end way))) (spelled (codes "{")) (entries [] ts) (spelled (codes "}" ++ line_end way))

    -- the text of an object that is no container
    abbrev pub leaf_text : Way → Kind → Object → Walked
    leaf_text way text o = Wrote (text_written way o.bytes)
    leaf_text way array o = Shell
    leaf_text way hash o = Shell
    leaf_text way plain o = Wrote (plain_written way o.class)
    leaf_text way exception o = within_text (exception_written way o.class) (message_text o.class (message_in o.triples))
    leaf_text way shell o = Shell

    -- where objects of these classes are asked for their text
    module _ (asks : ℕ → Bool) where
      abbrev pub leaf_look : Way → Kind → Value → Object → Look Piece Item Key
      leaf_look way k v o = Leaf (text_or_ask (may_answer k && (asks_objects way && asks o.class)) (way, v) (leaf_text way k o))

      abbrev pub object_look : Way → Kind → Value → Object → Look Piece Item Key
      object_look way text v o = leaf_look way text v o
      object_look way array v o = array_look way v o.triples
      object_look way hash v o = hash_look way v o.triples
      object_look way plain v o = leaf_look way plain v o
      object_look way exception v o = leaf_look way exception v o
      object_look way shell v o = leaf_look way shell v o

      -- what is written at a value: its text, or a container's elements between brackets
      abbrev pub look : Item → Look Piece Item Key
      look (way, Plain i) = Leaf (Wrote (spelled (immediate_written way i)))
      look (way, At n) = object_look way (thing n).kind (At n) (thing n)

      -- the pieces of a value where so many containers may be begun inside one another
      abbrev pub pieced : ℕ → Way → Value → Outcome Piece
      pieced levels way v = walk look same_key levels [] (way, v)

    -- the text of a value where no object is asked
    abbrev pub printed : ℕ → Way → Value → Walked
    printed levels way v = unanswered (pieced (λ c. false) levels way v)
