-- What a run of a source leaves.
use Rattle.std.specs.Prelude.{◌≡◌, ◌<◌, ◌≤◌, ◌⊎◌, ℕ, List, [], ◌∷◌, ◌++◌, length, None, Result, Ok, Err, MatchResult, map}
use Rattle.std.specs.List.{flat_map}
use Rattle.std.specs.Io.KnownBytes.{Keeps}
use Rattle.rr_base.specs.declared.fault.Fault.{Fault}
use Rattle.rr_base.specs.declared.fault.Fault.TheVariants as faults
use Rattle.rr_base.specs.declared.limits.Limits.{Limits}
use Rattle.rr_base.specs.declared.limits.LimitKind.TheVariants as limits
use Rattle.rr_base.specs.declared.limits.TheConstants.Limits.{DEFAULT}
use Rattle.rr_lexer.specs.declared.kind.Token.{Token}
use Rattle.rr_lexer.specs.Encoding.{refused_from}
use Rattle.rr_lexer.specs.Freezes.{freezes}
use Rattle.rr_lexer.specs.Lines.{joined}
use Rattle.rr_lexer.specs.Tokens.{AreTokensOf, Faults, Spelled}
use Rattle.rr_parser.specs.Grammar.{Spells, SpellsWithin, SpellsProgram}
use Rattle.rr_parser.specs.Fronts.{NestsBeyond}
use Rattle.rr_parser.specs.Words.{symbols_of, texts_of}
use Rattle.rr_base.specs.declared.name.TheConstants.ClassId.{OBJECT}
use Rattle.rr_space.specs.Tables.{Table}
use Rattle.rr_space.specs.declared.refer.Ref.{Ref}
use Rattle.rr_space.specs.declared.refer.Ref.TheVariants.{Local}
use Rattle.rr_builtin.specs.Acts.{with_array, with_object}
use Rattle.rr_builtin.specs.News.{new_plain}
use Rattle.rr_tree.specs.Tree.{Tree, tree_at}
use Rattle.rr_tree.specs.declared.program.Program.{Program}
use Rattle.rr_eval.specs.declared.problem.Answer.TheVariants.{Gave, Raised}
use Rattle.rr_eval.specs.declared.run.Outcome.{Outcome as RunOutcome}
use Rattle.rr_eval.specs.declared.run.Outcome.TheVariants as outcomes
use Rattle.rr_eval.specs.Tasks.{piece_of}
use Rattle.rr_text.specs.Names.{names_of}
use Rattle.rr_eval.specs.Script.{Asked, Does, Calls, World, Outcome, Ended, Spent, Waits, objects_of}
use Rattle.rr_store.specs.Stores.{Store, new_store}
use Rattle.rr_eval.specs.Alone.{Alone, AloneExceeds}
use Rattle.rr_eval.specs.Requests.{Course, Adds}
use Rattle.rr_eval.specs.Served.{Exchange, course_after, Gives, Served}
use Rattle.rr_eval.specs.Rules.{Context, begun, start_state}
use Rattle.rr_eval.specs.Exceptions.{IsTold}
use Rattle.rr_eval.specs.Written.{Written, WritesAll, WritesBeginning, FallsShort}
use Rattle.rr_eval.specs.Turns.{context_of}
use Rattle.rr_eval.specs.Acts.{IsRefusal}

-- what a request prints
abbrev pub piece_asked : Context → Asked → List ℕ
piece_asked c (Does task vs t) = piece_of task (names_of c.program) t vs
piece_asked c (Calls receiver callee arguments) = []

-- what requests printed
abbrev pub text_asked : Context → List Asked → List ℕ
text_asked c asked = flat_map (piece_asked c) asked

-- what an evaluation printed
abbrev pub text_of : Context → Outcome → List ℕ
text_of c (Ended a s n) = text_asked c s.asked
text_of c (Spent s) = text_asked c s.asked
text_of c (Waits s) = text_asked c s.asked

-- it ended with a value; it raised an exception, of which this is told; it ran out of steps
abbrev pub IsDone : Outcome → Type 0
IsDone (Ended (Gave v) s n) = Unit {0}
IsDone _ = ⊥

abbrev pub IsRaised : Outcome → List ℕ → Type 0
IsRaised (Ended (Raised v) s n) told = IsTold s.memory.table v told
IsRaised _ told = ⊥

abbrev pub IsSpent : Outcome → Type 0
IsSpent (Spent s) = Unit {0}
IsSpent _ = ⊥

-- an exception that nothing rescues is told; there may be no memory for that
abbrev pub EndsRaised : Table → Ref → RunOutcome → Type 0
EndsRaised t v (outcomes.Raised told) = IsTold t v told.items
EndsRaised t v (outcomes.Stopped fault) = fault ≡ faults.Memory
EndsRaised t v _ = ⊥

-- What a run leaves of what a program means.
abbrev pub Leaves : Context → Written → Written → Outcome → RunOutcome → Type 0
Leaves c old new o outcomes.Done = IsDone o × WritesAll old new (text_of c o)
Leaves c old new o (outcomes.Raised told) = IsRaised o told.items × WritesAll old new (text_of c o)
Leaves c old new o outcomes.StepLimit = IsSpent o × WritesAll old new (text_of c o)
Leaves c old new o outcomes.OutputFailed = FallsShort old new (text_of c o)
Leaves c old new o (outcomes.Stopped fault) = IsRefusal fault × WritesBeginning old new (text_of c o)

-- A run that comes to its end makes no more objects than there may be.
abbrev pub FitsSlots : ℕ → Outcome → RunOutcome → Type 0
FitsSlots slots o outcomes.Done = objects_of o ≤ slots
FitsSlots slots o (outcomes.Raised told) = objects_of o ≤ slots
FitsSlots slots o outcomes.StepLimit = objects_of o ≤ slots
FitsSlots slots o _ = Unit {0}

-- ---- What a run leaves of what a program means, which is a function of the environment.

-- nothing was asked yet
abbrev pub first_course : World → Course
first_course w = record { asked = []; world = w }

-- the environment gives these replies to the first requests
abbrev pub RepliesSo : World → List Exchange → Type 0
RepliesSo w exchanges = Gives (first_course w) exchanges

-- it has no reply to the next one
abbrev pub HasNoReply : World → List Exchange → Asked → Table → Type 0
HasNoReply w exchanges q t = w (course_after (first_course w) exchanges).asked q t ≡ None

-- the evaluation ends with this request, which has no reply, and with these objects
abbrev pub IsWaitingFor : Asked → Table → Outcome → Type 0
IsWaitingFor q t (Waits s) = (s.memory.table ≡ t) × ((before : List Asked) × (s.asked ≡ before ++ q ∷ []))
IsWaitingFor q t _ = ⊥

-- More objects are made than there may be: by the program, whatever the environment adds, or by what it asks for next.
abbrev pub IsFull : Context → ℕ → List Exchange → Store → (World → Outcome) → Type 0
IsFull c slots exchanges store meaning =
    ((w : World) → RepliesSo w exchanges → Adds w → slots < objects_of (meaning w))
    ⊎ ((q : Asked) × (t : Table) × AloneExceeds c store slots q t × ((w : World) → RepliesSo w exchanges → HasNoReply w exchanges q t → IsWaitingFor q t (meaning w)))

abbrev pub StopsWhereFull : Context → ℕ → List Exchange → Store → (World → Outcome) → RunOutcome → Type 0
StopsWhereFull c slots exchanges store meaning (outcomes.Stopped fault) = fault ≡ faults.Limit limits.Slots → IsFull c slots exchanges store meaning
StopsWhereFull c slots exchanges store meaning _ = Unit {0}

-- The requests of a run, and the replies that a script has which runs alone. In each environment that replies so, the run leaves what the
-- program means there.
pub record IsRun (c : Context) (meaning : World → Outcome) (within : Limits) (old new : Written) (outcome : RunOutcome) : Type 0 where
  pub exchanges : List Exchange
  pub store : Store
  pub served : Served (Alone c) (new_store within.events) exchanges store
  pub leaves : (w : World) → RepliesSo w exchanges → Leaves c old new (meaning w) outcome
  pub fits : (w : World) → RepliesSo w exchanges → FitsSlots within.slots (meaning w) outcome
  pub full : StopsWhereFull c within.slots exchanges store meaning outcome

-- The grammar gives these definitions and this tree to the bytes, with these names and texts; a comment may freeze the texts.
pub record IsScript (source : List ℕ) (c : Context) (tree : Tree) : Type 0 where
  pub tokens : List Token
  pub lexed : AreTokensOf source tokens
  pub spelled : SpellsProgram DEFAULT.nesting source tokens (map (tree_at c.program.nodes.items) c.program.definitions.items) tree
  pub symbols : c.symbols ≡ symbols_of source tokens
  pub texts : c.texts ≡ texts_of source tokens
  pub freezes : c.program.freezes ≡ freezes source tokens

-- These tokens spell the bytes, however many bytes there are.
pub record SpellBytes (source : List ℕ) (tokens : List Token) : Type 0 where
  pub allowed : refused_from source ≡ length source
  pub all : List Token
  pub spelled : Spelled source all
  pub joined_is : tokens ≡ joined all

-- The grammar gives the bytes no tree, however many they are; none that nests within the limit.
abbrev pub HasNoTree : List ℕ → Type 0
HasNoTree source = (tokens : List Token) (tree : Tree) → SpellBytes source tokens → Spells source tokens tree → ⊥

abbrev pub HasNoTreeWithin : List ℕ → Type 0
HasNoTreeWithin source = (tokens : List Token) (tree : Tree) → SpellBytes source tokens → SpellsWithin DEFAULT.nesting source tokens tree → ⊥

-- the lexer gives the bytes tokens, so that what refuses them is the parser
abbrev pub HasTokens : List ℕ → Type 0
HasTokens source = (tokens : List Token) × AreTokensOf source tokens

-- at some place of the bytes more constructs are open than may be
abbrev pub NestsTooDeep : List ℕ → Type 0
NestsTooDeep source = (tokens : List Token) × (AreTokensOf source tokens × NestsBeyond DEFAULT.nesting source tokens)

-- Why a source could not be read. A fault of the lexer is told as the lexer tells it, with its place and kind.
abbrev pub Refuses : List ℕ → Fault → Type 0
Refuses source faults.Memory = Faults source faults.Memory ⊎ HasTokens source
Refuses source (faults.Syntax line column kind) = HasNoTree source × (Faults source (faults.Syntax line column kind) ⊎ HasTokens source)
Refuses source (faults.Limit limits.Source) = Faults source (faults.Limit limits.Source)
Refuses source (faults.Limit limits.Nesting) = HasNoTreeWithin source × NestsTooDeep source
Refuses source (faults.Limit limits.Slots) = HasTokens source
Refuses source _ = ⊥

-- what was read
abbrev pub Reads : List ℕ → Result Program Fault → Type 0
Reads source (Ok p) = IsScript source (context_of p) (tree_at p.nodes.items p.root)
Reads source (Err fault) = Refuses source fault

-- no object, where there may be so many; the main ractor is 1
abbrev pub no_objects : ℕ → Table
no_objects slots = record { slots = []; below = []; keys = []; limit = slots; owner = 1; next_message = 1 }

-- The objects of a script that begins are two of class Object without fields, its `self` and the one that has its global variables and
-- constants, and the array in which the slots stand that published objects were in, which is empty.
abbrev pub first_objects : ℕ → Table
first_objects slots = with_array [] (with_object (new_plain OBJECT.0) [] (with_object (new_plain OBJECT.0) [] (no_objects slots)))

-- what a script does within limits, in an environment
abbrev pub script_meaning : Context → Tree → Limits → World → Outcome
script_meaning c tree within w = begun c w tree (start_state c within.frames (Local 0) (first_objects within.slots)) within.steps

-- what a program does
abbrev pub program_meaning : Program → Limits → World → Outcome
program_meaning p within = script_meaning (context_of p) (tree_at p.nodes.items p.root) within

-- A run of a source within limits: what was seen of the output before and after it, and how it ended.
pub record Run : Type 0 where
  pub source : List ℕ
  pub limits : Limits
  pub before : Written
  pub after : Written
  pub ended : Result RunOutcome Fault

-- The source was read, and what it spells was run. The classes of the program are those that its parser found.
pub record RunsScript (r : Run) (outcome : RunOutcome) : Type 0 where
  pub context : Context
  pub tree : Tree
  pub script : IsScript r.source context tree
  pub own : context ≡ context_of context.program
  pub run : IsRun context (script_meaning context tree r.limits) r.limits r.before r.after outcome

-- The source was not read, and nothing was written.
pub record RefusesSource (r : Run) (fault : Fault) : Type 0 where
  pub why : Refuses r.source fault
  pub kept : Keeps r.before.bytes r.after.bytes
  pub failed : r.after.failures ≡ r.before.failures

-- What a run of a source leaves: a fault means that it was not read.
abbrev pub Meets : Run → Type 0
Meets r = MatchResult r.ended (RunsScript r) (RefusesSource r)
