-- What values that are asked come to.
use Rattle.std.specs.Prelude.{◌≡◌, ℕ, ◌-◌, List, [], take, drop, length, slice_index_or, Option, None}
use Rattle.std.specs.List.{All}
use Rattle.rr_base.specs.declared.fault.Fault.{Fault}
use Rattle.rr_base.specs.declared.name.Sym.{Sym}
use Rattle.rr_base.specs.declared.name.ClassId.{ClassId}
use Rattle.rr_frames.specs.Frames.{list_of}
use Rattle.rr_space.specs.Tables.{Table}
use Rattle.rr_space.specs.declared.refer.Ref.{Ref}
use Rattle.rr_space.specs.declared.refer.Ref.TheVariants.{Nil}
use Rattle.rr_tree.specs.declared.program.Program.{Program}
use Rattle.rr_eval.specs.declared.asking.Asking.{Asking}
use Rattle.rr_eval.specs.declared.call.Callee.TheVariants as callees
use Rattle.rr_eval.specs.declared.hearing.Heard.{Heard}
use Rattle.rr_eval.specs.declared.hearing.Heard.TheVariants as heards
use Rattle.rr_eval.specs.declared.hearing.Gathered.{Gathered}
use Rattle.rr_eval.specs.declared.hearing.Gathered.TheVariants as gathered
use Rattle.rr_eval.specs.declared.prepared.Body.{Body}
use Rattle.rr_eval.specs.Acts.{IsRefusal}
use Rattle.rr_eval.specs.Basics.{throw}
use Rattle.rr_eval.specs.Blocks.{entered}
use Rattle.rr_eval.specs.Bound.{bind}
use Rattle.rr_eval.specs.Dispatch.{way_of}
use Rattle.rr_eval.specs.Methods.{Callable}
use Rattle.rr_eval.specs.Prepared.{method_of}
use Rattle.rr_eval.specs.Script.{State, Script, See, World, Evaluation, run}
use Rattle.rr_eval.specs.Speaking.{heard, asked_by, request, task_of, asked_all, asked_on}
use Rattle.rr_eval.specs.Turns.{context_of}
use Rattle.rr_eval.specs.View.{View}
use Rattle.rr_eval.specs.Within.{Reach, IsReached}

-- two scripts do the same where these are the objects
abbrev pub SameThere : Table → Script → Script → Type 0
SameThere t a b = (w : World) (go : Evaluation) (s : State) (n : ℕ) → s.memory.table ≡ t → run w go a s n ≡ run w go b s n

-- the statements of the method by which a value is asked, and what follows
abbrev pub runs_asked : Program → Sym → Ref → ClassId → Body → (Option Ref → Script) → Script
runs_asked p x v class body next = See (λ m. bind (entered (context_of p) (way_of (callees.Name x) None v []) class (method_of p.nodes.items body) [] m.calls) (heard next))

-- a value that is asked by a method, or by none, says this at once, or the method runs these statements, or it raises an exception
abbrev pub IsHeardBy : Program → Table → Option Callable → Sym → Ref → Heard → Type 0
IsHeardBy p t f x v (heards.Said said) = (next : Option Ref → Script) → SameThere t (asked_by (context_of p) f x v next) (next said)
IsHeardBy p t f x v (heards.Runs class body) = (next : Option Ref → Script) → SameThere t (asked_by (context_of p) f x v next) (runs_asked p x v class body next)
IsHeardBy p t f x v (heards.Fails problem) = (next : Option Ref → Script) → SameThere t (asked_by (context_of p) f x v next) (throw (context_of p) problem)

-- what is said is reached
abbrev pub IsHeardReached : Reach → Heard → Type 0
IsHeardReached k (heards.Said said) = All (IsReached k) (list_of said)
IsHeardReached k _ = Unit {0}

-- what is still to be done with the values that stand from a base on, and with those behind them
abbrev pub still_asked : Program → Asking → List Ref → Script
still_asked p a held = let stand = drop a.base held in asked_all (context_of p) a.saying a.name (drop a.seen (take a.count stand)) (drop a.count stand)

-- where the values were seen up to one that does not say at once what is printed for it: what follows
abbrev pub script_of : Program → Asking → List Ref → Gathered → Script
script_of p a held gathered.Whole = request (context_of p) (task_of a.saying) (drop a.count (drop a.base held))
script_of p a held (gathered.Runs b class body) = let stand = drop b.base held in runs_asked p b.name (slice_index_or stand (b.seen - 1) Nil) class body (asked_on (context_of p) b stand)
script_of p a held (gathered.Fails problem) = throw (context_of p) problem

-- the same values are asked on
abbrev pub IsOfAsking : Asking → Gathered → Type 0
IsOfAsking a (gathered.Runs b class body) = (b.base ≡ a.base) × (b.count ≡ a.count)
IsOfAsking a _ = Unit {0}

-- a growth was refused, and all stands as before, beside values that may be held behind the others
pub record StandsBelow (old new : View) (f : Fault) : Type 0 where
  pub control : new.control ≡ old.control
  pub frames : new.frames ≡ old.frames
  pub held : take (length old.held) new.held ≡ old.held
  pub calls : new.calls ≡ old.calls
  pub blocks : new.blocks ≡ old.blocks
  pub rescuing : new.rescuing ≡ old.rescuing
  pub left : new.left ≡ old.left
  pub refusal : IsRefusal f
