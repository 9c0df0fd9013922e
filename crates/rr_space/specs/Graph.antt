-- Object graphs: values, objects, paths, what it is to be shareable, the part of a value, and when two values are alike.
use Rattle.std.specs.Prelude.{◌≡◌, ℕ, ℤ, Bool, true, List, [], ◌∷◌, Option, Some, Contains, slice_get, ◌⊎◌}
use Rattle.std.specs.List.{AllZip}

-- the name of an object: a slot of a space or a place of a message, or a place of a published cluster
pub data Name : Type 0 where
  Own : (slot : ℕ) → Name
  Published : (number place : ℕ) → Name

-- a value that is no object
pub data Immediate : Type 0 where
  Nil : Immediate
  Truth : (holds : Bool) → Immediate
  Integer : (z : ℤ) → Immediate
  SymbolNo : (n : ℕ) → Immediate
  ClassNo : (n : ℕ) → Immediate
  RactorNo : (n : ℕ) → Immediate

-- a value: an immediate, or the name of an object
pub data Value : Type 0 where
  Plain : (immediate : Immediate) → Value
  At : (name : Name) → Value

-- what a value stands under in an object
pub data Label : Type 0 where
  Place : (k : ℕ) → Label
  Field : (name : ℕ) → Label
  KeyAt : (k : ℕ) → Label
  ValueAt : (k : ℕ) → Label
  Message : Label
  Cause : Label
  Ractor : Label

pub data Kind : Type 0 where
  text : Kind
  array : Kind
  hash : Kind
  plain : Kind
  exception : Kind
  shell : Kind

-- an object: kind, class, the bytes of a text, the frozen flag, and the values under its labels, in order
pub record Object : Type 0 where
  pub kind : Kind
  pub class : ℕ
  pub bytes : List ℕ
  pub frozen : Bool
  pub triples : List (Label × Value)

-- a graph says which object a name has, if any
abbrev pub Graph : Type 0
Graph = Name → Option Object

-- the object that v names has x under the label l
abbrev pub HasUnder : Graph → Value → Label → Value → Type 0
HasUnder g v l x = (n : Name) × (o : Object) × (v ≡ At n) × (g n ≡ Some o) × Contains o.triples (l, x)

-- the path, a list of labels, leads from v to w
abbrev pub Leads : Graph → Value → List Label → Value → Type 0
Leads g v [] w = v ≡ w
Leads g v (l ∷ path) w = (x : Value) × HasUnder g v l x × Leads g x path w

-- some path from v ends at the name n
abbrev pub Reaches : Graph → Value → Name → Type 0
Reaches g v n = (path : List Label) × Leads g v path (At n)

-- frozen, and no shell
pub record IsSolid (o : Object) : Type 0 where
  pub frozen : o.frozen ≡ true
  pub no_shell : o.kind ≡ shell → ⊥

-- no path from v ends at an unfrozen object or at a shell
abbrev pub IsShareable : Graph → Value → Type 0
IsShareable g v = (n : Name) (o : Object) → Reaches g v n → g n ≡ Some o → IsSolid o

-- no path from v ends at a shell
abbrev pub IsFreeOfShells : Graph → Value → Type 0
IsFreeOfShells g v = (n : Name) (o : Object) → Reaches g v n → g n ≡ Some o → o.kind ≡ shell → ⊥

-- the part of v: the objects that it leads to and that are not shareable
abbrev pub IsPart : Graph → Value → Name → Type 0
IsPart g v n = Reaches g v n × (IsShareable g (At n) → ⊥)

-- ---- When two values lead to objects of one shape.

-- one immediate, one published object, or the two names of a pair
abbrev pub SameValue : (ℕ → ℕ → Type 0) → Value → Value → Type 0
SameValue P (Plain p) (Plain q) = p ≡ q
SameValue P (Plain p) (At m) = ⊥
SameValue P (At n) (Plain q) = ⊥
SameValue P (At (Own n)) (At (Own m)) = P n m
SameValue P (At (Own n)) (At (Published c p)) = ⊥
SameValue P (At (Published c p)) (At (Own m)) = ⊥
SameValue P (At (Published c p)) (At (Published d q)) = (c ≡ d) × (p ≡ q)

-- one label, and values under it of which the relation holds
abbrev pub SameTripleBy : (Value → Value → Type 0) → Label × Value → Label × Value → Type 0
SameTripleBy Same s t = (s.0 ≡ t.0) × Same s.1 t.1

-- equal kind, class, contents, frozen flag and labels, with values under the labels of which the relation holds
pub record MatchesBy (Same : Value → Value → Type 0) (o p : Object) : Type 0 where
  pub kind : o.kind ≡ p.kind
  pub class : o.class ≡ p.class
  pub bytes : o.bytes ≡ p.bytes
  pub frozen : o.frozen ≡ p.frozen
  pub triples : AllZip (SameTripleBy Same) o.triples p.triples

-- one label, and the same value under it
abbrev pub SameTriple : (ℕ → ℕ → Type 0) → Label × Value → Label × Value → Type 0
SameTriple P = SameTripleBy (SameValue P)

-- the objects are the same, but for the names of a pair
abbrev pub Matches : (ℕ → ℕ → Type 0) → Object → Object → Type 0
Matches P = MatchesBy (SameValue P)

-- P pairs the part of v in g with the part of w in h, one to one, and paired objects match
pub record Alike (g : Graph) (v : Value) (h : Graph) (w : Value) (P : ℕ → ℕ → Type 0) : Type 0 where
  pub roots : SameValue P v w
  pub same : (n m : ℕ) (o p : Object) → P n m → g (Own n) ≡ Some o → h (Own m) ≡ Some p → Matches P o p
  pub has_left : (n : ℕ) → IsPart g v (Own n) → (m : ℕ) × P n m
  pub has_right : (m : ℕ) → IsPart h w (Own m) → (n : ℕ) × P n m
  pub left : (n m : ℕ) → P n m → IsPart g v (Own n)
  pub right : (n m : ℕ) → P n m → IsPart h w (Own m)
  pub one_left : (n m k : ℕ) → P n m → P n k → m ≡ k
  pub one_right : (n k m : ℕ) → P n m → P k m → n ≡ k

-- the pairing by a list of names: the i-th of them with i
abbrev pub IsAt : List ℕ → ℕ → ℕ → Type 0
IsAt names n i = slice_get names i ≡ Some n

-- ---- When two values of whole graphs lead to objects of one shape.

-- paired objects, or the same shareable value
abbrev pub SameIn : Graph → (Name → Name → Type 0) → Value → Value → Type 0
SameIn g P (Plain p) (Plain q) = p ≡ q
SameIn g P (Plain p) (At m) = ⊥
SameIn g P (At n) (Plain q) = ⊥
SameIn g P (At n) (At m) = P n m ⊎ ((n ≡ m) × IsShareable g (At n))

abbrev pub SameTripleIn : Graph → (Name → Name → Type 0) → Label × Value → Label × Value → Type 0
SameTripleIn g P = SameTripleBy (SameIn g P)

-- the objects are the same, but for the names of a pair
abbrev pub MatchesIn : Graph → (Name → Name → Type 0) → Object → Object → Type 0
MatchesIn g P = MatchesBy (SameIn g P)

-- P pairs the part of v in g with the part of w in h, one to one, and paired objects match
pub record IsAlike (g : Graph) (v : Value) (h : Graph) (w : Value) (P : Name → Name → Type 0) : Type 0 where
  pub roots : SameIn g P v w
  pub same : (n m : Name) (o p : Object) → P n m → g n ≡ Some o → h m ≡ Some p → MatchesIn g P o p
  pub has_left : (n : Name) → IsPart g v n → (m : Name) × P n m
  pub has_right : (m : Name) → IsPart h w m → (n : Name) × P n m
  pub left : (n m : Name) → P n m → IsPart g v n
  pub right : (n m : Name) → P n m → IsPart h w m
  pub one_left : (n m k : Name) → P n m → P n k → m ≡ k
  pub one_right : (n k m : Name) → P n m → P k m → n ≡ k

-- two lists of names, place by place
abbrev pub Paired : List Name → List Name → Name → Name → Type 0
Paired left right n m = (i : ℕ) × (slice_get left i ≡ Some n) × (slice_get right i ≡ Some m)
