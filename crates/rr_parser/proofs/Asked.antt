-- Words that are asked for often, by cases on their kinds.
use Rattle.std.proofs.Common.{◌≡◌, Bool, true, false, List, [], ◌∷◌, Option, Some, None, refl, ap}
use Rattle.rr_parser.specs.declared.word.WordKind.{WordKind}
use Rattle.rr_parser.specs.declared.word.WordKind.TheVariants as kind
use Rattle.rr_parser.specs.declared.word.Word.{Word}
use Rattle.rr_parser.specs.Places.{seen_before, first_as, tight_as, unless, where_true, is_kind, word}

-- Where it is not known which kind a word has, comparing it with another kind computes to a case for each pair of kinds. The
-- cases on the one kind alone say the same.
pub word_by_cases : (k : WordKind) (f : WordKind → Option (Unit {0})) → ((q : WordKind) → where_true (is_kind q k) ≡ f q) → (ws : List Word) → word k ws ≡ first_as (λ w. f w.kind) ws
word_by_cases k f same [] = refl
word_by_cases k f same (w ∷ ws) = ap (λ o. seen_before o ws) (same w.kind)

-- the same of a word with no blank before it
pub tight_by_cases : (k : WordKind) (f : WordKind → Option (Unit {0})) → ((q : WordKind) → where_true (is_kind q k) ≡ f q) → (ws : List Word) → tight_as (λ q. where_true (is_kind q k)) ws ≡ tight_as f ws
tight_by_cases k f same [] = refl
tight_by_cases k f same (w ∷ ws) = ap (λ o. seen_before (unless w.blank o) ws) (same w.kind)

abbrev pub comma_case : WordKind → Option (Unit {0})
comma_case kind.Comma = Some tt
comma_case _ = None

pub comma_told : (k : WordKind) → where_true (is_kind k kind.Comma) ≡ comma_case k
comma_told kind.Comma = refl
comma_told _ = refl

abbrev pub dot_case : WordKind → Option (Unit {0})
dot_case kind.Dot = Some tt
dot_case _ = None

pub dot_told : (k : WordKind) → where_true (is_kind k kind.Dot) ≡ dot_case k
dot_told kind.Dot = refl
dot_told _ = refl

abbrev pub minus_case : WordKind → Option (Unit {0})
minus_case kind.Minus = Some tt
minus_case _ = None

pub minus_told : (k : WordKind) → where_true (is_kind k kind.Minus) ≡ minus_case k
minus_told kind.Minus = refl
minus_told _ = refl

abbrev pub bang_case : WordKind → Option (Unit {0})
bang_case kind.Bang = Some tt
bang_case _ = None

pub bang_told : (k : WordKind) → where_true (is_kind k kind.Bang) ≡ bang_case k
bang_told kind.Bang = refl
bang_told _ = refl

abbrev pub not_word_case : WordKind → Option (Unit {0})
not_word_case kind.NotWord = Some tt
not_word_case _ = None

pub not_word_told : (k : WordKind) → where_true (is_kind k kind.NotWord) ≡ not_word_case k
not_word_told kind.NotWord = refl
not_word_told _ = refl

abbrev pub separator_case : WordKind → Option (Unit {0})
separator_case kind.Separator = Some tt
separator_case _ = None

pub separator_told : (k : WordKind) → where_true (is_kind k kind.Separator) ≡ separator_case k
separator_told kind.Separator = refl
separator_told _ = refl

abbrev pub close_case : WordKind → Option (Unit {0})
close_case kind.Close = Some tt
close_case _ = None

pub close_told : (k : WordKind) → where_true (is_kind k kind.Close) ≡ close_case k
close_told kind.Close = refl
close_told _ = refl

abbrev pub close_square_case : WordKind → Option (Unit {0})
close_square_case kind.CloseSquare = Some tt
close_square_case _ = None

pub close_square_told : (k : WordKind) → where_true (is_kind k kind.CloseSquare) ≡ close_square_case k
close_square_told kind.CloseSquare = refl
close_square_told _ = refl

abbrev pub arrow_case : WordKind → Option (Unit {0})
arrow_case kind.Arrow = Some tt
arrow_case _ = None

pub arrow_told : (k : WordKind) → where_true (is_kind k kind.Arrow) ≡ arrow_case k
arrow_told kind.Arrow = refl
arrow_told _ = refl

abbrev pub close_brace_case : WordKind → Option (Unit {0})
close_brace_case kind.CloseBrace = Some tt
close_brace_case _ = None

pub close_brace_told : (k : WordKind) → where_true (is_kind k kind.CloseBrace) ≡ close_brace_case k
close_brace_told kind.CloseBrace = refl
close_brace_told _ = refl

abbrev pub def_word_case : WordKind → Option (Unit {0})
def_word_case kind.Def = Some tt
def_word_case _ = None

pub def_word_told : (k : WordKind) → where_true (is_kind k kind.Def) ≡ def_word_case k
def_word_told kind.Def = refl
def_word_told _ = refl

abbrev pub open_case : WordKind → Option (Unit {0})
open_case kind.Open = Some tt
open_case _ = None

pub open_told : (k : WordKind) → where_true (is_kind k kind.Open) ≡ open_case k
open_told kind.Open = refl
open_told _ = refl

abbrev pub open_square_case : WordKind → Option (Unit {0})
open_square_case kind.OpenSquare = Some tt
open_square_case _ = None

pub open_square_told : (k : WordKind) → where_true (is_kind k kind.OpenSquare) ≡ open_square_case k
open_square_told kind.OpenSquare = refl
open_square_told _ = refl

abbrev pub path_case : WordKind → Option (Unit {0})
path_case kind.Path = Some tt
path_case _ = None

pub path_told : (k : WordKind) → where_true (is_kind k kind.Path) ≡ path_case k
path_told kind.Path = refl
path_told _ = refl

abbrev pub question_case : WordKind → Bool
question_case kind.Question = true
question_case _ = false

pub question_told : (k : WordKind) → is_kind k kind.Question ≡ question_case k
question_told kind.Question = refl
question_told _ = refl
