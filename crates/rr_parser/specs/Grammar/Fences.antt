-- Which call takes a block: the nearest one takes that in braces, the outermost command that between `do` and `end`.
use Rattle.std.specs.Prelude.{Bool, true, false, ◌&&◌, Option, Some, None, if◌then◌else◌}
use Rattle.rr_parser.specs.declared.word.Behind.{Behind}
use Rattle.rr_parser.specs.declared.word.Behind.TheVariants as behinds
use Rattle.rr_parser.specs.declared.word.Fence.{Fence}
use Rattle.rr_parser.specs.declared.word.Fence.TheVariants as fences
use Rattle.rr_parser.specs.declared.word.Head.{Head}
use Rattle.rr_parser.specs.declared.word.Head.TheVariants as heads
use Rattle.rr_parser.specs.declared.word.WordKind.{WordKind}
use Rattle.rr_parser.specs.declared.word.WordKind.TheVariants as kind
use Rattle.rr_parser.specs.Places.{Known, Place, Look, first_as, at}

-- the same, where a call takes the word `do`, or not
abbrev pub with_do : Bool → Known → Known
with_do b k = record { locals = k.locals; level = k.level; count = k.count; begun = k.begun; in_loop = k.in_loop; in_method = k.in_method; takes_do = b }

abbrev pub taking : Bool → Place → Place
taking b s = record { known = with_do b s.known; rest = s.rest }

-- Behind n a call takes it where it did at s.
abbrev pub taking_as : Place → Place → Place
taking_as s n = taking s.known.takes_do n

-- a P in which calls take it, or not
pub data Taking {A : Type 0} (b : Bool) (P : Place → A → Place → Type 0) : Place → A → Place → Type 0 where
  taken : {s z : Place} {t : A} → P (taking b s) t z → Taking b P s t (taking_as s z)

-- a command that is a call takes what its arguments leave
abbrev pub takes_word : Behind → Bool
takes_word behinds.Call = true
takes_word (behinds.Command (heads.Call x)) = true
takes_word (behinds.Command (heads.Jump j)) = false
takes_word (behinds.Command (heads.Passing p)) = false

-- in the arguments of a command: where it is a call, no other one takes the word
abbrev pub within_head : Head → Bool → Bool
within_head (heads.Call x) b = false
within_head (heads.Jump j) b = b
within_head (heads.Passing p) b = b

abbrev pub brace_behind : Behind → Option Fence
brace_behind behinds.Call = Some fences.Brace
brace_behind (behinds.Command h) = None

abbrev pub fence_of : Behind → Bool → WordKind → Option Fence
fence_of q b kind.OpenBrace = brace_behind q
fence_of q b kind.Do = if takes_word q && b then Some fences.Do else None
fence_of q b _ = None

-- what begins a block
abbrev pub opening : Behind → Bool → Look Fence
opening q b = first_as (λ w. fence_of q b w.kind)

abbrev pub opened : Behind → Place → Option (Fence × Place)
opened q s = at (opening q s.known.takes_do) s

-- the word that ends a block
abbrev pub fence_end : Fence → WordKind
fence_end fences.Brace = kind.CloseBrace
fence_end fences.Do = kind.End
