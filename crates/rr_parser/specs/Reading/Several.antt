-- Reading several targets, and their right side.
use Rattle.std.specs.Prelude.{List, Bool, true, false, ◌||◌, Option, Some, None, is_some, Ok, Err, if◌then◌else◌, ◌∷◌}
use Rattle.rr_parser.specs.Grammar.Several.{plain_sign, assigned_to_several}
use Rattle.rr_base.specs.declared.name.Sym.{Sym}
use Rattle.rr_tree.specs.Tree.{Tree}
use Rattle.rr_parser.specs.declared.word.Head.{Head}
use Rattle.rr_parser.specs.declared.word.Target.{Target}
use Rattle.rr_parser.specs.declared.word.Word.{Word}
use Rattle.rr_parser.specs.Places.{Place, word, at, Look}
use Rattle.rr_parser.specs.Grammar.Chains.{one_of, and_one}
use Rattle.rr_parser.specs.Grammar.Names.{told_behind, one_value, command}
use Rattle.rr_parser.specs.Grammar.Operands.{order, Reached, Spot}
use Rattle.rr_parser.specs.Grammar.Calls.{target_word, is_settable, with_target, target_tree, target_variable, comma}
use Rattle.rr_parser.specs.Reading.Answers.{wrong, Answer, Parse, built, from, chain_on, chain, across}
use Rattle.rr_parser.specs.Reading.Nesting.{Readers}
use Rattle.rr_parser.specs.Reading.Operands.{postfix_of}
use Rattle.rr_parser.specs.Reading.Calls.{reached_on, is_prefixed, argument_of, headed_of, ordered_of}

-- a comma comes, or the sign
abbrev pub ends_target : List Word → Bool
ends_target ws = is_some (comma ws) || is_some (word plain_sign ws)

abbrev pub where_ended : Option (Target × List Word) → Option (Target × List Word)
where_ended None = None
where_ended (Some x) = if ends_target x.1 then Some (x.0, x.1) else None

-- a target that is a word
abbrev pub lone_target : Look Target
lone_target ws = where_ended (target_word ws)

abbrev pub spot_target : Tree → Option Spot → Place → Answer Tree
spot_target t None m = Err wrong
spot_target t (Some p) m = Ok (t, m)

-- an operand that is an element or an attribute
abbrev pub reached_target : Reached → Parse Tree
reached_target r m = spot_target r.tree r.spot m

-- a word as a target, which is known behind it
unfoldable pub word_target : Target → Parse Tree
word_target x m = if is_settable x m.known then Ok (target_tree x (target_variable x (with_target x m)) (told_behind m.rest), with_target x m) else Err wrong

abbrev pub targeted_or : Readers → Place → Option (Target × Place) → Answer Tree
targeted_or N s None = from (postfix_of N) reached_target s
targeted_or N s (Some x) = word_target x.0 x.1

unfoldable pub targeted_of : Readers → Parse Tree
targeted_of N s = targeted_or N s (at lone_target s)

unfoldable pub targets_of : Readers → Parse (List Tree)
targets_of N = chain comma one_of and_one (targeted_of N)

-- what stands behind the first target and its comma: more targets, the sign, and the right side
unfoldable pub several_on : Readers → Tree → Parse Tree
several_on N t n = across (λ l v. assigned_to_several (t ∷ l) v) (word plain_sign) N.values (targets_of N n)

abbrev pub several_or : Readers → Tree → Option (Unit {0} × Place) → Answer Tree
several_or N t None = Err wrong
several_or N t (Some n) = several_on N t n.1

abbrev pub behind_first : Readers → Tree → Parse Tree
behind_first N t m = several_or N t (at comma m)

-- several targets, the first of which is a word
unfoldable pub several_of : Readers → Parse Tree
several_of N = from (targeted_of N) (behind_first N)

-- the arguments that have come, and those behind them
unfoldable pub values_on : Readers → List Tree → Parse (List Tree)
values_on N l = chain_on comma and_one (argument_of N) l

-- what stands behind the first argument, with it, as one value
unfoldable pub right_on : Readers → Tree → Parse Tree
right_on N t m = built one_value (values_on N (one_of t) m)

abbrev pub sent_or_right : Readers → Reached → Place → Option (Sym × Place) → Answer Tree
sent_or_right N r m None = from (reached_on N false r) (right_on N) m
sent_or_right N r m (Some x) = ordered_of N r.tree x.0 x.1

-- what stands behind an operand: it may be the receiver of a command
unfoldable pub receiver_on : Readers → Reached → Parse Tree
receiver_on N r m = sent_or_right N r m (at order m)

abbrev pub rights_at : Readers → Bool → Parse Tree
rights_at N true = from (argument_of N) (right_on N)
rights_at N false = from (postfix_of N) (receiver_on N)

abbrev pub rights_or : Readers → Place → Option (Head × Place) → Answer Tree
rights_or N s None = rights_at N (is_prefixed s.rest) s
rights_or N s (Some x) = headed_of N x.0 x.1

unfoldable pub rights_of : Readers → Parse Tree
rights_of N s = rights_or N s (at (command s.known) s)
