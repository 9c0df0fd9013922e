-- What the code owes to reading.
use Rattle.std.specs.Prelude.{◌≡◌, ℕ, ◌<◌, Bool, List, ◌∷◌, ◌++◌, length, take, map, All, Vec, Option, Some, None, Result, Ok, Err, []}
use Rattle.std.specs.declared.alloc.Global.{Global}
use Rattle.std.specs.Borrow.{Bor}
use Rattle.rr_base.specs.declared.name.Sym.{Sym}
use Rattle.rr_tree.specs.declared.node.Node.{Node}
use Rattle.rr_tree.specs.Tree.{Tree, tree_at}
use Rattle.rr_tree.specs.Nodes.{Extends}
use Rattle.rr_parser.specs.declared.word.Word.{Word}
use Rattle.rr_parser.specs.declared.refusal.Refusal.{Refusal}
use Rattle.rr_parser.specs.declared.refusal.Refusal.TheVariants as refusal
use Rattle.rr_parser.specs.declared.parser.Parser.{Parser}
use Rattle.rr_parser.specs.Places.{Known, Place}
use Rattle.rr_parser.specs.Variables.{known_in}
use Rattle.rr_parser.specs.declared.variables.Variable.{Variable}
use Rattle.rr_parser.specs.declared.variables.Variables.{Variables}
use Rattle.rr_parser.specs.declared.variables.Scope.{Scope}
use Rattle.rr_parser.specs.Grammar.Names.{find, seen_from, with_variable, with_loop}
use Rattle.rr_parser.specs.Grammar.Fences.{with_do}
use Rattle.rr_parser.specs.Grammar.Blocks.{inner, with_parameters}
use Rattle.rr_parser.specs.Grammar.Bodies.{with_caught, caught_tree}
use Rattle.rr_parser.specs.Grammar.Calls.{with_target, target_variable, Member, item, entry, Given}
use Rattle.rr_parser.specs.declared.members.Member.{Member as CodeMember}
use Rattle.rr_parser.specs.declared.members.Member.TheVariants as code_member
use Rattle.rr_parser.specs.declared.members.Given.{Given as CodeGiven}
use Rattle.rr_parser.specs.Grammar.Definitions.{apart, rejoined}
use Rattle.rr_parser.specs.Grammar.Programs.{Entry, defines, does, Outline}
use Rattle.rr_parser.specs.declared.definitions.Outside.{Outside}
use Rattle.rr_parser.specs.declared.outline.Entry.{Entry as CodeEntry}
use Rattle.rr_parser.specs.declared.outline.Entry.TheVariants as code_entry
use Rattle.rr_parser.specs.declared.outline.Outline.{Outline as CodeOutline}
use Rattle.rr_parser.specs.declared.word.Caught.{Caught}
use Rattle.rr_parser.specs.declared.word.Target.{Target}
use Rattle.rr_parser.specs.declared.word.Spot.{Spot as CodeSpot}
use Rattle.rr_parser.specs.declared.word.Spot.TheVariants as code_spot
use Rattle.rr_parser.specs.declared.word.Reached.{Reached as CodeReached}
use Rattle.rr_parser.specs.Grammar.Operands.{Spot, element, attribute, Reached}
use Rattle.rr_parser.specs.Reading.Answers.{Answer, Refused, wrong, deep}

abbrev pub known_of : Parser → Known
known_of p = known_in p.known

abbrev pub place : Parser → List Word → Place
place p ws = record { known = known_of p; rest = ws }

-- What the code holds for what is read: the trees by their nodes, which lie below a number.
pub record View (E A : Type 0) : Type 1 where
  pub tree : List Node → E → A
  pub within : ℕ → E → Type 0

-- a tree by the number of its node
abbrev pub nodes : View ℕ Tree
nodes = record { tree = tree_at; within = λ n i. i < n }

abbrev pub pairs : View (ℕ × ℕ) (Tree × Tree)
pairs = record { tree = λ ns p. (tree_at ns p.0, tree_at ns p.1); within = λ n p. (p.0 < n) × (p.1 < n) }

abbrev pub lists : {E A : Type 0} → View E A → View (List E) (List A)
lists v = record { tree = λ ns es. map (v.tree ns) es; within = λ n es. All (v.within n) es }

-- an element or an attribute, by the nodes of its parts
abbrev pub spot_tree : List Node → CodeSpot → Spot
spot_tree ns (code_spot.Element r i) = element (tree_at ns r) (tree_at ns i)
spot_tree ns (code_spot.Attribute r x) = attribute (tree_at ns r) x

abbrev pub spot_within : ℕ → CodeSpot → Type 0
spot_within n (code_spot.Element r i) = (r < n) × (i < n)
spot_within n (code_spot.Attribute r x) = r < n

abbrev pub spots_tree : List Node → Option CodeSpot → Option Spot
spots_tree ns None = None
spots_tree ns (Some p) = Some (spot_tree ns p)

abbrev pub spots_within : ℕ → Option CodeSpot → Type 0
spots_within n None = Unit {0}
spots_within n (Some p) = spot_within n p

-- an operand and how it can be assigned to
abbrev pub reaches : View CodeReached Reached
reaches = record {
  tree = λ ns r. record { tree = tree_at ns r.node; spot = spots_tree ns r.spot };
  within = λ n r. (r.node < n) × spots_within n r.spot;
}

abbrev pub entry_tree : List Node → CodeEntry → Entry
entry_tree ns (code_entry.Definition i) = defines (tree_at ns i)
entry_tree ns (code_entry.Statement i) = does (tree_at ns i)

abbrev pub entry_within : ℕ → CodeEntry → Type 0
entry_within n (code_entry.Definition i) = i < n
entry_within n (code_entry.Statement i) = i < n

-- What was made stands for what is read, and the nodes before it are as they were.
pub record Made {E A : Type 0} (v : View E A) (old new : Parser) (e : E) (rest : List Word) (read : Answer A) : Type 0 where
  pub there : v.within (length new.nodes.items) e
  pub tree : read ≡ Ok (v.tree new.nodes.items e, place new rest)
  pub kept : Extends old.nodes.items new.nodes.items

-- why reading refuses; a want of storage says nothing
abbrev pub Fails : {A : Type 0} → Refusal → Result A Refused → Type 0
Fails (refusal.Storage s) read = Unit {0}
Fails refusal.Nesting read = read ≡ Err deep
Fails (refusal.Unexpected n) read = read ≡ Err wrong
Fails (refusal.Number n) read = read ≡ Err wrong
Fails (refusal.LeftOut n) read = read ≡ Err wrong
Fails (refusal.Constant n) read = read ≡ Err wrong

-- What a function of the parser returned is what reading gives, unless storage ran out.
abbrev pub Gives : Parser → Parser → Result (ℕ × Bor (List Word)) Refusal → Answer Tree → Type 0
Gives old new (Ok x) read = Made nodes old new x.0 x.1.now read
Gives old new (Err e) read = Fails e read

abbrev pub GivesReached : Parser → Parser → Result (CodeReached × Bor (List Word)) Refusal → Answer Reached → Type 0
GivesReached old new (Ok x) read = Made reaches old new x.0 x.1.now read
GivesReached old new (Err e) read = Fails e read

abbrev pub GivesList : Parser → Parser → Result (Vec ℕ Global × Bor (List Word)) Refusal → Answer (List Tree) → Type 0
GivesList old new (Ok x) read = Made (lists nodes) old new x.0.items x.1.now read
GivesList old new (Err e) read = Fails e read

abbrev pub GivesPair : Parser → Parser → Result ((ℕ × ℕ) × Bor (List Word)) Refusal → Answer (Tree × Tree) → Type 0
GivesPair old new (Ok x) read = Made pairs old new x.0 x.1.now read
GivesPair old new (Err e) read = Fails e read

abbrev pub GivesPairs : Parser → Parser → Result (Vec (ℕ × ℕ) Global × Bor (List Word)) Refusal → Answer (List (Tree × Tree)) → Type 0
GivesPairs old new (Ok x) read = Made (lists pairs) old new x.0.items x.1.now read
GivesPairs old new (Err e) read = Fails e read

-- a row of a program
abbrev pub entries : View CodeEntry Entry
entries = record { tree = entry_tree; within = entry_within }

-- the definitions and the statements of a program
abbrev pub outlines : View CodeOutline Outline
outlines = record {
  tree = λ ns o. (map (tree_at ns) o.definitions.items, map (tree_at ns) o.statements.items);
  within = λ n o. All (λ i. i < n) o.definitions.items × All (λ i. i < n) o.statements.items;
}

abbrev pub GivesEntry : Parser → Parser → Result (CodeEntry × Bor (List Word)) Refusal → Answer Entry → Type 0
GivesEntry old new (Ok x) read = Made entries old new x.0 x.1.now read
GivesEntry old new (Err e) read = Fails e read

abbrev pub member_tree : List Node → CodeMember → Member
member_tree ns (code_member.Item i) = item (tree_at ns i)
member_tree ns (code_member.Pair i) = entry (tree_at ns i)

abbrev pub member_within : ℕ → CodeMember → Type 0
member_within n (code_member.Item i) = i < n
member_within n (code_member.Pair i) = i < n

-- a member of a list
abbrev pub members : View CodeMember Member
members = record { tree = member_tree; within = member_within }

-- the items and the pairs of a list
abbrev pub givens : View CodeGiven Given
givens = record {
  tree = λ ns g. record { items = map (tree_at ns) g.items.items; pairs = map (tree_at ns) g.pairs.items };
  within = λ n g. All (λ i. i < n) g.items.items × All (λ i. i < n) g.pairs.items;
}

abbrev pub GivesMember : Parser → Parser → Result (CodeMember × Bor (List Word)) Refusal → Answer Member → Type 0
GivesMember old new (Ok x) read = Made members old new x.0 x.1.now read
GivesMember old new (Err e) read = Fails e read

abbrev pub GivesGiven : Parser → Parser → Result (CodeGiven × Bor (List Word)) Refusal → Answer Given → Type 0
GivesGiven old new (Ok x) read = Made givens old new x.0 x.1.now read
GivesGiven old new (Err e) read = Fails e read

-- one member more
abbrev pub AddsMember : CodeGiven → CodeGiven → CodeMember → Type 0
AddsMember old new (code_member.Item i) = (new.items.items ≡ old.items.items ++ i ∷ []) × (new.pairs.items ≡ old.pairs.items)
AddsMember old new (code_member.Pair i) = (new.items.items ≡ old.items.items) × (new.pairs.items ≡ old.pairs.items ++ i ∷ [])

-- Nodes that stand for these trees are there.
pub record PutsList (old new : Parser) (ts : List Tree) (ids : List ℕ) : Type 0 where
  pub there : All (λ i. i < length new.nodes.items) ids
  pub trees : map (tree_at new.nodes.items) ids ≡ ts
  pub kept : Extends old.nodes.items new.nodes.items
  pub known : new.known ≡ old.known

-- one row more
abbrev pub Adds : CodeOutline → CodeOutline → CodeEntry → Type 0
Adds old new (code_entry.Definition i) = (new.definitions.items ≡ old.definitions.items ++ i ∷ []) × (new.statements.items ≡ old.statements.items)
Adds old new (code_entry.Statement i) = (new.definitions.items ≡ old.definitions.items) × (new.statements.items ≡ old.statements.items ++ i ∷ [])

abbrev pub GivesOutline : Parser → Parser → Result (CodeOutline × Bor (List Word)) Refusal → Answer Outline → Type 0
GivesOutline old new (Ok x) read = Made outlines old new x.0 x.1.now read
GivesOutline old new (Err e) read = Fails e read

-- A node was put behind the others.
pub record Appends (old new : Parser) (n : Node) (id : ℕ) : Type 0 where
  pub at : id ≡ length old.nodes.items
  pub nodes : new.nodes.items ≡ old.nodes.items ++ n ∷ []
  pub known : new.known ≡ old.known

-- A node that stands for this tree was put behind the others.
pub record Puts (old new : Parser) (t : Tree) (id : ℕ) : Type 0 where
  pub there : id < length new.nodes.items
  pub tree : tree_at new.nodes.items id ≡ t
  pub kept : Extends old.nodes.items new.nodes.items
  pub known : new.known ≡ old.known

-- A name became a local variable, which is seen so.
pub record Marks (old new : Parser) (x : Sym) (v : Variable) : Type 0 where
  pub nodes : new.nodes.items ≡ old.nodes.items
  pub known : known_of new ≡ with_variable (known_of old) x (find x.0 (known_of old).locals)
  pub seen : v ≡ seen_from (known_of new) (find x.0 (known_of new).locals)

-- A target became known. Where it is a local variable it is seen so.
pub record Aims (old new : Parser) (x : Target) (v : Variable) : Type 0 where
  pub nodes : new.nodes.items ≡ old.nodes.items
  pub known : (ws : List Word) → place new ws ≡ with_target x (place old ws)
  pub seen : (ws : List Word) → target_variable x (place new ws) ≡ v

-- The variable that gets an exception became known, if there is one, and a node stands for it.
pub record Catches (old new : Parser) (x : Option Caught) (id : ℕ) : Type 0 where
  pub there : id < length new.nodes.items
  pub kept : Extends old.nodes.items new.nodes.items
  pub known : (ws : List Word) → place new ws ≡ with_caught x (place old ws)
  pub tree : (ws : List Word) → tree_at new.nodes.items id ≡ caught_tree x (with_caught x (place old ws))

-- A scope with these parameters was begun, and the mark tells what was known before it.
pub record Begins (old new : Known) (xs : List Sym) (m : Scope) : Type 0 where
  pub known : new ≡ with_parameters xs (inner old)
  pub number : m.number ≡ new.begun
  pub parameters : m.parameters ≡ length xs
  pub locals : m.locals ≡ length old.locals
  pub level : m.level ≡ old.level
  pub count : m.count ≡ old.count
  pub in_loop : m.in_loop ≡ old.in_loop

-- A scope with these parameters was begun, and no node was put.
pub record Enters (old new : Parser) (xs : List Sym) (m : Scope) : Type 0 where
  pub nodes : new.nodes.items ≡ old.nodes.items
  pub begins : Begins (known_of old) (known_of new) xs m

-- what is known behind a scope, by its mark
abbrev pub left_by : Scope → Known → Known
left_by m n = record { locals = take m.locals n.locals; level = m.level; count = m.count; begun = n.begun; in_loop = m.in_loop; in_method = n.in_method; takes_do = n.takes_do }

-- A method with these parameters was begun, and no node was put; the mark holds what was known before it.
pub record Defines (old new : Parser) (xs : List Sym) (m : Outside) : Type 0 where
  pub nodes : new.nodes.items ≡ old.nodes.items
  pub known : known_of new ≡ with_parameters xs (apart (known_of old))
  pub number : m.number ≡ (known_of new).begun
  pub parameters : m.parameters ≡ length xs
  pub outer : known_in m.variables ≡ known_of old

-- A method was left, before which this was known.
pub record Rejoins (old new : Parser) (v : Variables) : Type 0 where
  pub nodes : new.nodes.items ≡ old.nodes.items
  pub known : known_of new ≡ rejoined (known_in v) (known_of old)

-- A scope was left.
pub record Leaves (old new : Parser) (m : Scope) : Type 0 where
  pub nodes : new.nodes.items ≡ old.nodes.items
  pub known : known_of new ≡ left_by m (known_of old)

-- From here on calls take the word `do`, or not.
pub record SetsDo (old new : Parser) (b : Bool) : Type 0 where
  pub nodes : new.nodes.items ≡ old.nodes.items
  pub known : known_of new ≡ with_do b (known_of old)

-- From here on the place is in a loop, or not.
pub record SetsLoop (old new : Parser) (b : Bool) : Type 0 where
  pub nodes : new.nodes.items ≡ old.nodes.items
  pub known : known_of new ≡ with_loop b (known_of old)

-- names that were read, and the words behind them
abbrev pub ReadsNames : Result (Vec Sym Global × Bor (List Word)) Refusal → Option (List Sym × List Word) → Type 0
ReadsNames (Ok x) read = read ≡ Some (x.0.items, x.1.now)
ReadsNames (Err (refusal.Storage s)) read = Unit {0}
ReadsNames (Err (refusal.Unexpected n)) read = read ≡ None
ReadsNames (Err _) read = ⊥

-- what was read, and the words behind it
abbrev pub Reads : {A : Type 0} → Result (A × Bor (List Word)) Refusal → Option (A × List Word) → Type 0
Reads (Ok x) read = read ≡ Some (x.0, x.1.now)
Reads (Err (refusal.Unexpected n)) read = read ≡ None
Reads (Err _) read = ⊥

-- what was seen first, and the words behind it
abbrev pub Sees : {A : Type 0} → Option (A × Bor (List Word)) → Option (A × List Word) → Type 0
Sees None read = read ≡ None
Sees (Some x) read = read ≡ Some (x.0, x.1.now)

-- the same, where only the words behind matter
abbrev pub SeesRest : Option (Bor (List Word)) → Option (Unit {0} × List Word) → Type 0
SeesRest None read = read ≡ None
SeesRest (Some rest) read = read ≡ Some (tt, rest.now)
