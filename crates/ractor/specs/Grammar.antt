-- The command line: its commands with their arguments, and what the words of each give.
use Rattle.std.specs.Prelude.{◌≡◌, List, Option, Some, None, true, false, codes}
use Rattle.clap.specs.Words.{App, Row, Rule, Text, first_of, new_app, new_rule, with_rule, with_subcommand}
use Rattle.clap.specs.Words.{app_of, fault_of, kind_of, subcommand_of, IsAmong}
use Rattle.clap.specs.declared.builder.command.Command.TheViews.{out-Command}
use Rattle.clap.specs.declared.builder.command.Command.{Command}
use Rattle.ractor.specs.declared.words.Line.{Line}
use Rattle.ractor.specs.declared.words.Line.TheVariants.{Run}
use Rattle.ractor.specs.declared.words.LineFault.{LineFault}
use Rattle.ractor.specs.declared.words.LineFault.TheVariants.{Words, Memory, NoCommand, Missing}

-- an argument that has to be given, by its place
abbrev pub required : Text → Rule
required id = record (new_rule id) { required = true }

abbrev pub run_grammar : App
run_grammar = with_rule (new_app (codes "run")) (required (codes "file"))

abbrev pub grammar : App
grammar =
    let plain = new_app (codes "ractor") in
    let top = record plain { top = record plain.top { no_binary_name = true } } in
    with_subcommand top run_grammar.top

-- the command is the one described, and has no argument that its subcommands share
abbrev pub IsCommandOf : Command → App → Type 0
IsCommandOf c app = (app_of c ≡ app) × ((out-Command c).has_globals ≡ false)

-- the line has what the command `name` was given, where `given` is the value of each argument
abbrev pub ReadsBy : Text → (Text → Option Text) → Line → Type 0
ReadsBy name given (Run file) = (name ≡ codes "run") × (given (codes "file") ≡ Some file.now)

-- the line has what the words of its command give
abbrev pub Reads : Option (Text × List Row) → Line → Type 0
Reads None l = ⊥
Reads (Some (name, rows)) l = ReadsBy name (λ id. first_of id rows) l

-- the file that the command needs was not given
abbrev pub LacksBy : (Text → Option Text) → LineFault → Type 0
LacksBy given (Missing name) = (name.now ≡ codes "file") × (given (codes "file") ≡ None)
LacksBy given _ = ⊥

-- Why words give no line: the commands refuse them, with a kind of error that is among those of their rules; they name no command
-- that runs; or they give it no file.
abbrev pub IsRefused : List Text → LineFault → Type 0
IsRefused words (Words error) = IsAmong (kind_of error) (fault_of grammar words)
IsRefused words (Memory error) = Unit {0}
IsRefused words NoCommand = (rows : List Row) → subcommand_of grammar words ≡ Some (codes "run", rows) → ⊥
IsRefused words (Missing name) = (rows : List Row) × (subcommand_of grammar words ≡ Some (codes "run", rows)) × LacksBy (λ id. first_of id rows) (Missing name)
