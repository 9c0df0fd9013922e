-- Which word it is that is the same as another one.
use Rattle.std.proofs.Common.{◌≡◌, true, refl}
use Rattle.std.proofs.lemmas.Bool.{false≢true}
use Rattle.rr_tree.specs.declared.node.BinaryOperator.TheVariants as op
use Rattle.rr_parser.specs.declared.word.Infix.TheVariants as infixes
use Rattle.rr_parser.specs.declared.word.Sign.TheVariants as signs
use Rattle.rr_parser.specs.declared.word.WordKind.{WordKind}
use Rattle.rr_parser.specs.declared.word.WordKind.TheVariants as kind
use Rattle.rr_parser.specs.declared.word.Fence.{Fence}
use Rattle.rr_parser.specs.declared.word.Fence.TheVariants as fences
use Rattle.rr_parser.specs.Places.{is_kind}
use Rattle.rr_parser.specs.Grammar.Fences.{fence_end}
use Rattle.rr_parser.specs.Grammar.Calls.{star}
use Rattle.rr_parser.specs.Grammar.Several.{plain_sign}

abbrev pub Told : WordKind → Type 0
Told k = (q : WordKind) → is_kind q k ≡ true → q ≡ k

pub told_close : Told kind.Close
told_close kind.Close e = refl
told_close _ e = absurd (false≢true e)

pub told_comma : Told kind.Comma
told_comma kind.Comma e = refl
told_comma _ e = absurd (false≢true e)

pub told_separator : Told kind.Separator
told_separator kind.Separator e = refl
told_separator _ e = absurd (false≢true e)

pub told_then : Told kind.Then
told_then kind.Then e = refl
told_then _ e = absurd (false≢true e)

pub told_elsif : Told kind.Elsif
told_elsif kind.Elsif e = refl
told_elsif _ e = absurd (false≢true e)

pub told_else : Told kind.Else
told_else kind.Else e = refl
told_else _ e = absurd (false≢true e)

pub told_end : Told kind.End
told_end kind.End e = refl
told_end _ e = absurd (false≢true e)

pub told_rescue : Told kind.Rescue
told_rescue kind.Rescue e = refl
told_rescue _ e = absurd (false≢true e)

pub told_ensure : Told kind.Ensure
told_ensure kind.Ensure e = refl
told_ensure _ e = absurd (false≢true e)

pub told_def : Told kind.Def
told_def kind.Def e = refl
told_def _ e = absurd (false≢true e)

pub told_minus : Told kind.Minus
told_minus kind.Minus h = refl
told_minus _ e = absurd (false≢true e)

pub told_bang : Told kind.Bang
told_bang kind.Bang e = refl
told_bang _ e = absurd (false≢true e)

pub told_not : Told kind.NotWord
told_not kind.NotWord e = refl
told_not _ e = absurd (false≢true e)

pub told_question : Told kind.Question
told_question kind.Question e = refl
told_question _ e = absurd (false≢true e)

pub told_colon : Told kind.Colon
told_colon kind.Colon e = refl
told_colon _ e = absurd (false≢true e)

pub told_do : Told kind.Do
told_do kind.Do e = refl
told_do _ e = absurd (false≢true e)

pub told_dot : Told kind.Dot
told_dot kind.Dot e = refl
told_dot _ e = absurd (false≢true e)

pub told_arrow : Told kind.Arrow
told_arrow kind.Arrow e = refl
told_arrow _ e = absurd (false≢true e)

pub told_close_square : Told kind.CloseSquare
told_close_square kind.CloseSquare e = refl
told_close_square _ e = absurd (false≢true e)

pub told_close_brace : Told kind.CloseBrace
told_close_brace kind.CloseBrace e = refl
told_close_brace _ e = absurd (false≢true e)

pub told_path : Told kind.Path
told_path kind.Path e = refl
told_path _ e = absurd (false≢true e)

pub told_open_square : Told kind.OpenSquare
told_open_square kind.OpenSquare e = refl
told_open_square _ e = absurd (false≢true e)

pub told_star : Told star
told_star (kind.Operator (infixes.Binary op.Multiply)) e = refl
told_star _ e = absurd (false≢true e)

pub told_plain_sign : Told plain_sign
told_plain_sign (kind.Assign signs.Plain) e = refl
told_plain_sign _ e = absurd (false≢true e)

pub told_fence : (f : Fence) → Told (fence_end f)
told_fence fences.Brace = told_close_brace
told_fence fences.Do = told_end
