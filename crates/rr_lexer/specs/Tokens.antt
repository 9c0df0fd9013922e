-- Which bytes spell which token, and which tokens a source has.
use Rattle.std.specs.Prelude.{ℕ, ◌+◌, ◌<◌, ◌≤◌, ◌≡◌, ◌==◌, ◌≢◌, ◌⊎◌, not, Bool, true, false, List, [], ◌∷◌, ◌++◌, length, take, drop, slice_index, if◌then◌else◌}
use Rattle.std.specs.Str.{bytes_eq}
use Rattle.std.specs.List.{list_all}
use Rattle.rr_lexer.specs.Bytes.{class_of, is_word_byte}
use Rattle.rr_lexer.specs.Words.{keyword_text, is_left_out, takes_mark, op_text}
use Rattle.rr_lexer.specs.Texts.{IsPieceAfter, IsSingle}
use Rattle.rr_lexer.specs.Numbers.{IsInt}
use Rattle.rr_lexer.specs.Places.{IsAt}
use Rattle.rr_lexer.specs.Reasons.{IsReason}
use Rattle.rr_lexer.specs.Encoding.{refused_from}
use Rattle.rr_lexer.specs.Lines.{joined}
use Rattle.rr_lexer.specs.declared.class.Class.{Class}
use Rattle.rr_lexer.specs.declared.class.Class.TheVariants as classes
use Rattle.rr_lexer.specs.declared.kind.Keyword.{Keyword}
use Rattle.rr_lexer.specs.declared.kind.Op.{Op}
use Rattle.rr_lexer.specs.declared.kind.Op.TheVariants as ops
use Rattle.rr_lexer.specs.declared.kind.Kind.{Kind}
use Rattle.rr_lexer.specs.declared.kind.Kind.TheVariants as kinds
use Rattle.rr_lexer.specs.declared.kind.Token.{Token}
use Rattle.rr_lexer.specs.declared.context.Frame.{Frame}
use Rattle.rr_lexer.specs.declared.context.Frame.TheVariants as frames
use Rattle.rr_base.specs.declared.fault.Fault.{Fault}
use Rattle.rr_base.specs.declared.fault.Fault.TheVariants as faults
use Rattle.rr_base.specs.declared.fault.SyntaxKind.{SyntaxKind}
use Rattle.rr_base.specs.declared.fault.SyntaxKind.TheVariants as syntax
use Rattle.rr_base.specs.declared.limits.LimitKind.TheVariants as limits

-- What the next token depends on: the braces and interpolations that are open, the last one first; whether `.` is the
-- last token, line ends aside; and whether a blank, a comment or a joined line stands directly before.
pub record State : Type 0 where
  pub frames : List Frame
  pub after_dot : Bool
  pub blank : Bool

abbrev pub initial : State
initial = record { frames = []; after_dot = false; blank = false }

-- whether an interpolation is what was opened last
abbrev pub is_inside : List Frame → Bool
is_inside [] = false
is_inside (frames.Brace ∷ more) = false
is_inside (frames.Interpolation ∷ more) = true

-- a word of letters, digits and `_`, the whole run of them, whose first byte is of this class
pub record IsWord (first : Class) (word after : List ℕ) : Type 0 where
  pub starts : class_of (slice_index word 0) ≡ first
  pub goes : list_all is_word_byte word ≡ true
  pub whole : is_word_byte (slice_index after 0) ≡ false

-- such a word that begins with a letter below or `_`, and to which no `?` or `!` behind it belongs
pub record IsPlain (word after : List ℕ) : Type 0 where
  pub is_word : IsWord classes.Lower word after
  pub unmarked : takes_mark (slice_index after 0) (slice_index after 1) ≡ false

-- such a word with the `?` or `!` that belongs to it
pub record IsMarked (word after : List ℕ) : Type 0 where
  pub front : List ℕ
  pub mark : ℕ
  pub word_is : word ≡ front ++ mark ∷ []
  pub is_word : IsWord classes.Lower front (mark ∷ after)
  pub marked : takes_mark mark (slice_index after 0) ≡ true

-- a word, and a colon that no other follows
pub record IsLabel (word after : List ℕ) : Type 0 where
  pub front : List ℕ
  pub word_is : word ≡ front ++ 58 ∷ []
  pub is_word : IsWord classes.Lower front (58 ∷ after) ⊎ IsWord classes.Upper front (58 ∷ after)
  pub free : slice_index after 0 ≢ 58

-- a byte and a word behind it
pub record IsPrefixed (byte : ℕ) (first : Class) (word after : List ℕ) : Type 0 where
  pub name : List ℕ
  pub word_is : word ≡ byte ∷ name
  pub is_word : IsWord first name after

-- a word that is not reserved
pub record IsFree (word : List ℕ) : Type 0 where
  pub no_keyword : (k : Keyword) → word ≢ keyword_text k
  pub not_left_out : is_left_out word ≡ false

-- `#`, and then no line feed
pub record IsComment (word : List ℕ) : Type 0 where
  pub starts : slice_index word 0 ≡ 35
  pub goes : list_all (λ b. not (b == 10)) word ≡ true

-- In this state these bytes, with those after them, spell a token of this kind. Blanks, comments and joined lines are
-- kinds too. Behind `.` a reserved word is a name.
abbrev pub Spells : State → Kind → List ℕ → List ℕ → Type 0
Spells s kinds.Name word after = (IsPlain word after × ((s.after_dot ≡ true) ⊎ IsFree word))
    ⊎ (IsMarked word after × ((s.after_dot ≡ true) ⊎ (is_left_out word ≡ false)))
Spells s kinds.Constant word after = IsWord classes.Upper word after × ((s.after_dot ≡ true) ⊎ (is_left_out word ≡ false))
Spells s kinds.InstanceVariable word after = IsPrefixed 64 classes.Lower word after
Spells s kinds.GlobalVariable word after = IsPrefixed 36 classes.Lower word after
Spells s kinds.Symbol word after = IsPrefixed 58 classes.Lower word after ⊎ IsPrefixed 58 classes.Upper word after
Spells s kinds.Label word after = IsLabel word after
Spells s kinds.Int word after = (v : ℕ) × IsInt word after v
Spells s (kinds.Keyword k) word after = (s.after_dot ≡ false) × IsPlain word after × (word ≡ keyword_text k)
Spells s (kinds.Op o) word after = word ≡ op_text o
Spells s kinds.Single word after = IsSingle word
Spells s kinds.Text word after = IsPieceAfter 34 false word
Spells s kinds.Head word after = IsPieceAfter 34 true word
Spells s kinds.Middle word after = (is_inside s.frames ≡ true) × IsPieceAfter 125 true word
Spells s kinds.Tail word after = (is_inside s.frames ≡ true) × IsPieceAfter 125 false word
Spells s kinds.OpenBrace word after = word ≡ 123 ∷ []
Spells s kinds.CloseBrace word after = (is_inside s.frames ≡ false) × (word ≡ 125 ∷ [])
Spells s kinds.LineEnd word after = (word ≡ 10 ∷ []) ⊎ (word ≡ 13 ∷ 10 ∷ [])
Spells s kinds.Blank word after = (word ≡ 32 ∷ []) ⊎ ((word ≡ 9 ∷ []) ⊎ (word ≡ 13 ∷ []))
Spells s kinds.Comment word after = IsComment word
Spells s kinds.Joined word after = (word ≡ 92 ∷ 10 ∷ []) ⊎ (word ≡ 92 ∷ 13 ∷ 10 ∷ [])

-- The first n bytes are a token of this kind, and each other token that begins here is shorter.
pub record Begins (s : State) (bytes : List ℕ) (kind : Kind) (n : ℕ) : Type 0 where
  pub some : 0 < n
  pub within : n ≤ length bytes
  pub spelled : Spells s kind (take n bytes) (drop n bytes)
  pub longest : (j : Kind) (m : ℕ) → m ≤ length bytes → Spells s j (take m bytes) (drop m bytes) → (m < n) ⊎ ((m ≡ n) × (j ≡ kind))

-- no token begins here
abbrev pub NoneBegins : State → List ℕ → Type 0
NoneBegins s bytes = (j : Kind) (m : ℕ) → m ≤ length bytes → Spells s j (take m bytes) (drop m bytes) → ⊥

abbrev pub is_skipped : Kind → Bool
is_skipped kinds.Blank = true
is_skipped kinds.Comment = true
is_skipped kinds.Joined = true
is_skipped _ = false

-- what is open behind a token
abbrev pub frames_after : Kind → List Frame → List Frame
frames_after kinds.OpenBrace open_frames = frames.Brace ∷ open_frames
frames_after kinds.Head open_frames = frames.Interpolation ∷ open_frames
frames_after kinds.CloseBrace [] = []
frames_after kinds.CloseBrace (f ∷ open_frames) = open_frames
frames_after kinds.Tail [] = []
frames_after kinds.Tail (f ∷ open_frames) = open_frames
frames_after _ open_frames = open_frames

abbrev pub is_dot : Op → Bool
is_dot ops.Dot = true
is_dot _ = false

-- whether what comes behind a token comes behind `.`
abbrev pub dot_after : Kind → Bool → Bool
dot_after (kinds.Op o) before = is_dot o
dot_after kinds.LineEnd before = before
dot_after kinds.Blank before = before
dot_after kinds.Comment before = before
dot_after kinds.Joined before = before
dot_after _ before = false

abbrev pub next : Kind → State → State
next kind s = record { frames = frames_after kind s.frames; after_dot = dot_after kind s.after_dot; blank = is_skipped kind }

-- From place i up to place j the source is these tokens, each the longest at its place, with blanks, comments and
-- joined lines between; the state is s at i and last at j.
pub data Tiles (source : List ℕ) : State → ℕ → List Token → State → ℕ → Type 0 where
  stop : {s : State} {i : ℕ} → Tiles source s i [] s i
  skip : {s last : State} {i n j : ℕ} {kind : Kind} {tokens : List Token} → Begins s (drop i source) kind n → is_skipped kind ≡ true
      → Tiles source (next kind s) (i + n) tokens last j → Tiles source s i tokens last j
  token : {s last : State} {i n j : ℕ} {kind : Kind} {tokens : List Token} → Begins s (drop i source) kind n → is_skipped kind ≡ false
      → Tiles source (next kind s) (i + n) tokens last j
      → Tiles source s i (record { start = i; end = i + n; kind = kind; blank = s.blank } ∷ tokens) last j

-- A leading byte order mark is skipped.
unfoldable pub start_of : List ℕ → ℕ
start_of source = if bytes_eq (take 3 source) (239 ∷ 187 ∷ 191 ∷ []) then 3 else 0

-- The tokens, with every line end, spell the whole source.
abbrev pub Spelled : List ℕ → List Token → Type 0
Spelled source tokens = (last : State) × Tiles source initial (start_of source) tokens last (length source)

abbrev pub source_limit : ℕ
source_limit = 16777216

-- These are the tokens of a source: it is short enough, each byte is allowed, and with the line ends that separate no
-- statements they spell it.
pub record AreTokensOf (source : List ℕ) (tokens : List Token) : Type 0 where
  pub short : length source ≤ source_limit
  pub allowed : refused_from source ≡ length source
  pub all : List Token
  pub spelled : Spelled source all
  pub joined_is : tokens ≡ joined all

-- The first place at which no token begins.
pub record StuckAt (source : List ℕ) (place : ℕ) : Type 0 where
  pub tokens : List Token
  pub state : State
  pub before : Tiles source initial (start_of source) tokens state place
  pub within : place < length source
  pub stuck : NoneBegins state (drop place source)

-- Each byte is allowed, and at this line and column is the first place at which no token begins, for this reason.
pub record IsStuck (source : List ℕ) (kind : SyntaxKind) (line column : ℕ) : Type 0 where
  pub allowed : refused_from source ≡ length source
  pub place : ℕ
  pub stuck : StuckAt source place
  pub at : IsAt source place line column
  pub reason : IsReason kind (drop place source)

-- Why a source has no tokens: its first refused byte, else the first place at which no token begins, else its length.
-- Memory may be wanted only behind the first of these tests.
abbrev pub Faults : List ℕ → Fault → Type 0
Faults source faults.Memory = refused_from source ≡ length source
Faults source (faults.Limit limit) = (limit ≡ limits.Source) × (source_limit < length source)
    × (refused_from source ≡ length source) × ((tokens : List Token) × Spelled source tokens)
Faults source (faults.Syntax line column kind) =
    ((kind ≡ syntax.Encoding) × (refused_from source < length source) × IsAt source (refused_from source) line column)
    ⊎ ((kind ≢ syntax.Encoding) × IsStuck source kind line column)
Faults source _ = ⊥
