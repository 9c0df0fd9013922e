-- Lemmas on commands that are built up step by step.
use Rattle.std.proofs.Common.{◌≡◌, ◌||◌, ap, ap₂, ◌∙◌, false, Bool, subst}
use Rattle.clap.specs.Words.{AddsArg, AddsSubcommand, App, Rule, rule_of, with_rule, with_subcommand}
use Rattle.clap.specs.declared.builder.arg.Arg.{Arg}
use Rattle.clap.specs.declared.builder.command.Command.{Command}
use Rattle.ractor.specs.Grammar.{IsCommandOf, IsRefused, LacksBy, ReadsBy, Reads, grammar}
use Rattle.std.proofs.Common.{sym, List, true, Some, None, option_map, refl, Result, IfOk, IfErr}
use Rattle.std.proofs.lemmas.Result.{IfOk-weaker, IfErr-weaker}
use Rattle.clap.proofs.WalkLemmas.{first_value-rows}
use Rattle.clap.proofs.OnLiterals.{clap_on_literals}
use Rattle.clap.specs.Words.{Row, first_value, rows_of, found_of, is_simple, subcommand_of, subcommand_name_of, subcommand_rows_of}
use Rattle.std.specs.Box.{box_value}
use Rattle.clap.specs.declared.parser.matches.ArgMatches.{ArgMatches}
use Rattle.clap.specs.declared.parser.matches.ArgMatches.TheViews.{out-ArgMatches, out-SubCommand}
use Rattle.clap.specs.declared.parser.matches.Found.{Found}
use Rattle.ractor.specs.declared.words.LineFault.{LineFault}
use Rattle.ractor.specs.declared.words.LineFault.TheVariants.{Words, Memory, NoCommand, Missing}
use Rattle.std.proofs.Common.{codes, Option}
use Rattle.clap.specs.Words.{Text}
use Rattle.ractor.specs.declared.words.Line.{Line}
use Rattle.ractor.specs.declared.words.Line.TheVariants.{Run}

pub adds_rule : (old : Command) (a : Arg) (new : Command) (app : App) (r : Rule) → IsCommandOf old app → rule_of a ≡ r → a.global ≡ false
    → AddsArg old a new → IsCommandOf new (with_rule app r)
adds_rule old a new app r p e g h = (h.shape g ∙ ap₂ with_rule p.0 e, h.globals ∙ ap₂ (λ (x y : Bool). x || y) p.1 g)

pub adds_subcommand : (old sub new : Command) (app s : App) → IsCommandOf old app → IsCommandOf sub s → AddsSubcommand old sub new
    → IsCommandOf new (with_subcommand app s.top)
adds_subcommand old sub new app s p q h =
    (h.shape q.1 ∙ ap₂ with_subcommand p.0 (ap (λ (a : App). a.top) q.0), h.globals ∙ ap₂ (λ (x y : Bool). x || y) p.1 q.1)

-- what was given is the same by two readings
pub same_reading : (name : Text) (f g : Text → Option Text) (l : Line) → ((id : Text) → f id ≡ g id) → ReadsBy name f l → ReadsBy name g l
same_reading name f g (Run file) e h = rw (← e (codes "file")) h

-- the name and the rows of what was found, one by one and as a pair
pair_found : {X : Type 0} (o : Option X) (k : X → Text × List Row) (n : Text) (r : List Row)
    → Some n ≡ option_map (λ b. (k b).0) o → Some r ≡ option_map (λ (p : Text × List Row). p.1) (option_map k o)
    → option_map k o ≡ Some (n, r)
pair_found None k n r p q = absurd (cc)
pair_found (Some b) k n r p q =
    let name_is : n ≡ (k b).0 = cc in
    let rows_are : r ≡ (k b).1 = cc in
    rw (name_is, rows_are) refl

pub subcommand_found : (m : ArgMatches) (n : Text) (r : List Row) → Some n ≡ subcommand_name_of m
    → Some r ≡ option_map (λ (p : Text × List Row). p.1) (subcommand_rows_of m) → subcommand_rows_of m ≡ Some (n, r)
subcommand_found m n r p q = pair_found (out-ArgMatches m).subcommand
    (λ b. ((out-SubCommand (box_value b)).name.now, rows_of (found_of (out-SubCommand (box_value b)).matches))) n r p q

-- the line of a command whose name is known
pub line_read : (o : Option (Text × List Row)) (name known : Text) (found : Found) (r : Result Line LineFault) → o ≡ Some (name, rows_of found)
    → name ≡ known → IfOk r (λ l. ReadsBy known (first_value found) l) → IfOk r (λ l. Reads o l)
line_read o name known found r e same h = IfOk-weaker r _ _ (λ l read. rw (e, same) (same_reading known _ _ l (λ id. first_value-rows found id) read)) h

pub simple_grammar : is_simple grammar ≡ true
unfolding clap_on_literals
simple_grammar = refl

pub words_read : (a b : App) (words : List Text) (o : Option (Text × List Row)) (x : Option (Text × List Row)) → o ≡ subcommand_of a words → a ≡ b → o ≡ x
    → subcommand_of b words ≡ x
words_read a b words o x p e q = sym (p ∙ ap (λ (k : App). subcommand_of k words) e) ∙ q

-- a value that lacks in what was found lacks in the words
lacks : (words : List Text) (found : Found) (e : LineFault) → subcommand_of grammar words ≡ Some (codes "run", rows_of found) → LacksBy (first_value found) e
    → IsRefused words e
lacks words found (Missing name) is h = (rows_of found, is, (h.0, sym (first_value-rows found (codes "file")) ∙ h.1))
lacks words found (Words error) is h = absurd h
lacks words found (Memory error) is h = absurd h
lacks words found NoCommand is h = absurd h

-- the refusal of a command whose name is known
pub line_lacks : (words : List Text) (name : Text) (found : Found) (r : Result Line LineFault) → subcommand_of grammar words ≡ Some (name, rows_of found)
    → name ≡ codes "run" → IfErr r (λ e. LacksBy (first_value found) e) → IfErr r (λ e. IsRefused words e)
line_lacks words name found r is same h = IfErr-weaker r _ _ (λ e given. lacks words found e (subst (λ (n : Text). subcommand_of grammar words ≡ Some (n, rows_of found)) same is) given) h
