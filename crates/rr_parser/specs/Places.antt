-- Places among the words, and what stands first there.
use Rattle.std.specs.Prelude.{ℕ, List, [], ◌∷◌, Bool, true, false, Option, Some, None, if◌then◌else◌}
use Rattle.rr_parser.specs.declared.word.WordKind.{WordKind}
use Rattle.rr_parser.specs.declared.word.WordKind.TheVariants as kind
use Rattle.rr_parser.specs.declared.word.Word.{Word}
use Rattle.rr_parser.specs.declared.locals.Local.{Local}
use Rattle.rr_parser.specs.contracts.word.WordKindPartialEq.TheImpl as kind_equality

-- What is known at a place: the local variables, those of the scopes outside first, each with the level of its scope and its
-- number there; at which level the place is; how many variables its own scope has; how many scopes were begun; whether it is
-- in a loop or a block; whether it is in a method; and whether a call takes a block that begins with the word `do`.
pub record Known : Type 0 where
  pub locals : List Local
  pub level : ℕ
  pub count : ℕ
  pub begun : ℕ
  pub in_loop : Bool
  pub in_method : Bool
  pub takes_do : Bool

-- what is known there, and the words that are left
pub record Place : Type 0 where
  pub known : Known
  pub rest : List Word

-- ---- looking ahead, which goes by the words alone

-- what stands first among words, and the words behind it
abbrev pub Look : Type 0 → Type 0
Look X = List Word → Option (X × List Word)

abbrev pub seen_before : {X : Type 0} → Option X → List Word → Option (X × List Word)
seen_before None ws = None
seen_before (Some x) ws = Some (x, ws)

-- what the first word is by f
abbrev pub first_as : {X : Type 0} → (Word → Option X) → Look X
first_as f [] = None
first_as f (w ∷ ws) = seen_before (f w) ws

abbrev pub unless : {X : Type 0} → Bool → Option X → Option X
unless true o = None
unless false o = o

abbrev pub where_true : Bool → Option (Unit {0})
where_true true = Some tt
where_true false = None

-- two kinds of words are the same
abbrev pub is_kind : WordKind → WordKind → Bool
is_kind = (kind_equality.ghosts).eq

-- a word of this kind
abbrev pub word : WordKind → Look (Unit {0})
word k = first_as (λ w. where_true (is_kind w.kind k))

-- any word, by its kind
abbrev pub any_word : Look WordKind
any_word = first_as (λ w. Some w.kind)

-- what the first word is by f, where no blank stands before it
abbrev pub tight_as : {X : Type 0} → (WordKind → Option X) → Look X
tight_as f = first_as (λ w. unless w.blank (f w.kind))

-- ---- at a place

abbrev pub placed : {X : Type 0} → Known → Option (X × List Word) → Option (X × Place)
placed known None = None
placed known (Some x) = Some (x.0, record { known = known; rest = x.1 })

-- what is seen at a place, and the place behind it
abbrev pub at : {X : Type 0} → Look X → Place → Option (X × Place)
at look s = placed s.known (look s.rest)

-- the next word, by its kind, and the place behind it
abbrev pub next : Place → Option (WordKind × Place)
next s = at any_word s

abbrev pub start : List Word → Place
start ws = record { known = record { locals = []; level = 0; count = 0; begun = 0; in_loop = false; in_method = false; takes_do = true }; rest = ws }

-- ---- separators

abbrev pub without_separators : List Word → List Word
without_separators [] = []
without_separators (w ∷ ws) = if is_kind w.kind kind.Separator then without_separators ws else (w ∷ ws)

-- the place behind the separators that stand first
abbrev pub skip : Place → Place
skip s = record { known = s.known; rest = without_separators s.rest }

abbrev pub behind_separators : Option (Unit {0} × List Word) → Option (Unit {0} × List Word)
behind_separators None = None
behind_separators (Some x) = Some (tt, without_separators x.1)

-- one separator or more
abbrev pub separators : Look (Unit {0})
separators ws = behind_separators (word kind.Separator ws)
