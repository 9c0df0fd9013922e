-- Parts whose value needs no frame.
use Rattle.std.specs.Prelude.{◌≡◌, ◌+◌, ◌-◌, ◌++◌, ◌∷◌, ℕ, List, Some, None, false, length, slice_get, take}
use Rattle.rr_parser.specs.Grammar.Names.{is_splat}
use Rattle.std.specs.Option.{option_map}
use Rattle.rr_base.specs.declared.name.Sym.{Sym}
use Rattle.rr_space.specs.Tables.{Table}
use Rattle.rr_space.specs.declared.refer.Ref.{Ref}
use Rattle.rr_tree.specs.Tree.{Tree}
use Rattle.rr_tree.specs.declared.program.Program.{Program}
use Rattle.rr_eval.specs.declared.call.Callee.{Callee}
use Rattle.rr_eval.specs.declared.call.Callee.TheVariants.{Setter}
use Rattle.rr_eval.specs.declared.call.Target.TheVariants.{Call}
use Rattle.rr_eval.specs.declared.frame.Frame.{Frame}
use Rattle.rr_eval.specs.declared.problem.Answer.TheVariants.{Gave}
use Rattle.rr_eval.specs.Basics.{settled}
use Rattle.rr_eval.specs.Callees.{method_of}
use Rattle.rr_eval.specs.Context.{Context}
use Rattle.rr_eval.specs.Dispatch.{made_by, method_for}
use Rattle.rr_eval.specs.Frames.{Code, means, runs_in}
use Rattle.rr_eval.specs.Joins.{joined_by}
use Rattle.rr_eval.specs.Methods.{Writes}
use Rattle.rr_eval.specs.Requests.{Course}
use Rattle.rr_eval.specs.Rules.{arguments, values, finish}
use Rattle.rr_eval.specs.Script.{State, Script, Asked, Ask, Ended}
use Rattle.rr_eval.specs.Turns.{context_of, code_of, state_of, after_answer, after_values}
use Rattle.rr_eval.specs.View.{View}

-- a tree takes so many steps, leaves all as it is, and has this value
abbrev pub Takes : Code → Tree → State → ℕ → Ref → Type 0
Takes c tree s steps v = (n : ℕ) → means c tree s (steps + n) ≡ Ended (Gave v) s n

-- the tree does so with these objects, whatever was asked before
abbrev pub TakesNow : Program → View → Table → Tree → ℕ → Ref → Type 0
TakesNow p m t tree steps v = (h : Course) → Takes (code_of p h.world) tree (state_of p m t h) steps v

-- a script takes so many steps, leaves all as it is, and goes on as another
abbrev pub ComesTo : Program → View → Table → Script → ℕ → Script → Type 0
ComesTo p m t script steps next = (h : Course) (n : ℕ) → runs_in (code_of p h.world) script (state_of p m t h) (steps + n) ≡ runs_in (code_of p h.world) next (state_of p m t h) n

-- a script has this value at once and leaves all as it is, whatever was asked before
abbrev pub GivesAtOnce : Program → Table → Script → Ref → Type 0
GivesAtOnce p t script v = (m : View) (h : Course) (n : ℕ) → runs_in (code_of p h.world) script (state_of p m t h) n ≡ Ended (Gave v) (state_of p m t h) n

-- The first of the parts of a list, all but these, take so many steps, leave all as it is, and stand for these values, whatever stands before,
-- and whatever follows.
abbrev pub TakeFirst : Program → View → Table → List Tree → ℕ → List Ref → List Tree → Type 0
TakeFirst p m t trees steps vs others =
    (stand : List Ref) (next : List Ref → Script) → ComesTo p m t (arguments (context_of p) trees stand next) steps (arguments (context_of p) others (stand ++ vs) next)

-- a tree takes so many steps, changes the objects to these and nothing else, and has this value, whatever was asked before
abbrev pub MakesNow : Program → View → Table → Tree → ℕ → Ref → Table → Type 0
MakesNow p m t tree steps v u = (h : Course) (n : ℕ) → means (code_of p h.world) tree (state_of p m t h) (steps + n) ≡ Ended (Gave v) (state_of p m u h) n

-- a script takes so many steps, changes the objects to these and nothing else, and goes on as another
abbrev pub MakesThen : Program → View → Table → Script → ℕ → Table → Script → Type 0
MakesThen p m t script steps u next = (h : Course) (n : ℕ) → runs_in (code_of p h.world) script (state_of p m t h) (steps + n) ≡ runs_in (code_of p h.world) next (state_of p m u h) n

-- The first of the parts of a list, all but these, do so and stand for these values, whatever stands before, and whatever follows.
abbrev pub MakeFirst : Program → View → Table → List Tree → ℕ → List Ref → Table → List Tree → Type 0
MakeFirst p m t trees steps vs u others =
    (stand : List Ref) (next : List Ref → Script) → MakesThen p m t (arguments (context_of p) trees stand next) steps u (arguments (context_of p) others (stand ++ vs) next)

-- the same as of `TakeFirst` of parts none of which is spread
abbrev pub ValuesFirst : Program → View → Table → List Tree → ℕ → List Ref → List Tree → Type 0
ValuesFirst p m t trees steps vs others =
    (stand : List Ref) (next : List Ref → Script) → ComesTo p m t (values trees stand next) steps (values others (stand ++ vs) next)

-- more values are held, behind those that were, and all else is as it was
pub record HoldsMore (old new : View) : Type 0 where
  pub control : new.control ≡ old.control
  pub frames : new.frames ≡ old.frames
  pub held : take (length old.held) new.held ≡ old.held
  pub calls : new.calls ≡ old.calls
  pub blocks : new.blocks ≡ old.blocks
  pub rescuing : new.rescuing ≡ old.rescuing
  pub left : new.left ≡ old.left

-- a frame lies on top of the others
abbrev pub IsTop : List Frame → Frame → Type 0
IsTop fs f = slice_get fs (length fs - 1) ≡ Some f

-- A call of a receiver is asked of the environment as it stands: it joins no array, runs no method of the program, and makes no object
-- that the program initializes.
pub record IsAskedFor (c : Context) (t : Table) (callee : Callee) (v : Ref) : Type 0 where
  pub joins : joined_by c t callee v ≡ None
  pub method : method_for c t v callee ≡ None
  pub makes : made_by c (method_of c callee) v ≡ None

-- an assignment to an attribute of an object is one to its instance variable
pub record WritesField (c : Context) (t : Table) (x : Sym) (v : Ref) (field : Sym) : Type 0 where
  pub joins : joined_by c t (Setter x) v ≡ None
  pub method : option_map (λ f. f.work) (method_for c t v (Setter x)) ≡ Some (Writes field)

-- a script evaluates two trees, of which the second is no splat, and goes on with their values, where both leave all as it is
abbrev pub TakesTwo : Program → Script → Tree → Tree → (Ref → Ref → Script) → Type 0
TakesTwo p script a b next =
    (m : View) (t : Table) (i j : ℕ) (v w : Ref) → TakesNow p m t a i v → TakesNow p m t b j w → is_splat b ≡ false → ComesTo p m t script (i + j) (next v w)

-- a frame that gets a value goes on as a call of a receiver with these arguments, behind so many steps, whatever frames lie below it
abbrev pub GoesOnAsCall : Program → View → Table → Frame → Ref → ℕ → Callee → Ref → List Ref → Type 0
GoesOnAsCall p m t f x steps callee v vs =
    (fs : List Frame) (h : Course) (n : ℕ) → after_answer p (record m { frames = fs }) t f (Gave x) h (steps + n) ≡ after_values p (record m { frames = fs }) t f (finish (context_of p) (Call callee) (v ∷ vs)) h n

-- a frame that gets a value goes on with a request, behind so many steps, whatever frames lie below it
abbrev pub GoesOnAsking : Program → View → Table → Frame → Ref → ℕ → Asked → Type 0
GoesOnAsking p m t f x steps q =
    (fs : List Frame) (h : Course) (n : ℕ) → after_answer p (record m { frames = fs }) t f (Gave x) h (steps + n) ≡ after_values p (record m { frames = fs }) t f (Ask q (settled (context_of p))) h n
