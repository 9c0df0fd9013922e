-- A new object is made and initialized.
use Rattle.std.proofs.Common.{◌≡◌, ◌∙◌, ◌<◌, ◌++◌, ◌∷◌, [], ℕ, zero, Bool, true, false, List, Option, Some, None, ap, sym, subst, arith, length, length-append, drop}
use Rattle.std.specs.List.{All}
use Rattle.std.specs.Option.{option_map}
use Rattle.std.proofs.lemmas.List.{append-nil}
use Rattle.rr_base.specs.declared.fault.Fault.{Fault}
use Rattle.rr_base.specs.declared.name.ClassId.{ClassId}
use Rattle.rr_frames.specs.Frames.{list_of}
use Rattle.rr_space.specs.Tables.{Below, Table, Here}
use Rattle.rr_space.specs.declared.refer.Ref.{Ref}
use Rattle.rr_space.specs.declared.refer.Ref.TheVariants.{Nil, Local}
use Rattle.rr_builtin.specs.News.{new_plain, is_exception_class}
use Rattle.rr_tree.specs.Tree.{tree_at}
use Rattle.rr_tree.specs.declared.program.Program.{Program}
use Rattle.rr_eval.specs.declared.call_stack.Handed.{Handed}
use Rattle.rr_eval.specs.declared.frame.Control.TheVariants.{Give, New}
use Rattle.rr_eval.specs.declared.frame.Frame.{Frame}
use Rattle.rr_eval.specs.declared.frame.Frame.TheVariants.{Initialize}
use Rattle.rr_eval.specs.declared.frame.Making.{Making}
use Rattle.rr_eval.specs.declared.instances.Initializer.{Initializer}
use Rattle.rr_eval.specs.declared.problem.Answer.TheVariants.{Gave}
use Rattle.rr_eval.specs.declared.problem.Response.TheVariants.{Gives}
use Rattle.rr_eval.specs.Acts.{Passes}
use Rattle.rr_eval.specs.Begun.{IsBegun}
use Rattle.rr_eval.specs.Blocks.{valued}
use Rattle.rr_eval.specs.Context.{Context}
use Rattle.rr_eval.specs.Dispatch.{with_new, made_object, made_value, making, handed_by, initialized, initializer, passed_on, run_work}
use Rattle.rr_eval.specs.Exceptions.{exception_object}
use Rattle.rr_eval.specs.Methods.{Runs}
use Rattle.rr_eval.specs.Prepared.{initializer_of, method_of}
use Rattle.rr_eval.specs.Requests.{Course, Adds}
use Rattle.rr_eval.specs.Script.{Ret, objects_of}
use Rattle.rr_eval.specs.Turns.{context_of, after_answer, after_script, after_values}
use Rattle.rr_eval.specs.View.{View}
use Rattle.rr_eval.specs.Within.{Reach, reach, AreReached, IsReached, IsAnswerReached, IsControlReached, IsFrameReached}
use Rattle.rr_eval.proofs.Holding.{all_nil, all_cons, all_rest, reached_more}
use Rattle.rr_eval.proofs.Objects.{act_passes}

-- one object more
object_more : (is : Bool) (class : ClassId) (cause : Ref) (t : Table) → length t.slots < length (made_object is class cause t).slots
object_more true class cause t = omega (arith, length-append t.slots (Here (exception_object class Nil cause) ∷ []))
object_more false class cause t = omega (arith, length-append t.slots (Here (new_plain class.0) ∷ []))

pub new_more : (c : Context) (class : ClassId) (cause : Ref) (t u : Table) → u ≡ with_new c class cause t → length t.slots < length u.slots
new_more c class cause t u made = subst (λ (x : Table). length t.slots < length x.slots) (sym made) (object_more (is_exception_class c.program class.0) class cause t)

-- the new object would be one too many
pub making_passes : (p : Program) (m : View) (t : Table) (class : ClassId) (cause : Ref) (f : Fault) (h : Course) (n : ℕ) → Adds h.world → Passes f t.limit (length (with_new (context_of p) class cause t).slots) → Passes f t.limit (objects_of (after_script p m t (making (context_of p) class cause (λ v. Ret (Gave v))) h n))
making_passes p m t class cause f h n adds passes = act_passes p m t (λ u. (Gives (Local (length u.slots)), with_new (context_of p) class cause u)) f h n adds passes

-- the cause of a new exception is reached
pub cause_reached : (k : Reach) (m : View) (class : ClassId) (cause : Ref) → m.control ≡ New class cause → AreReached k m → IsReached k cause
unfolding AreReached
cause_reached k m class cause e h = subst (IsControlReached k) e h.control

-- a new object that is not initialized is given or raised
pub made_reached : (k : Reach) (raises : Bool) (o : Ref) → IsReached k o → IsAnswerReached k (valued (made_value raises o) (Gave o))
made_reached k true o h = h
made_reached k false o h = h

pub made_is_begun : (raises : Bool) (o : Ref) → IsBegun (Give (valued (made_value raises o) (Gave o)))
made_is_begun true o = tt
made_is_begun false o = tt

-- the first of a list, and its last one
all_front : {A : Type 0} (P : A → Type 0) (xs ys : List A) → All P (xs ++ ys) → All P xs
all_front P [] ys h = all_nil P
all_front P (x ∷ xs) ys h = all_cons P x xs (h zero x (omega arith)) (all_front P xs ys (all_rest P x (xs ++ ys) h))

at_end : {A : Type 0} (P : A → Type 0) (xs : List A) (y : A) → All P (xs ++ y ∷ []) → P y
at_end P [] y h = h zero y (omega arith)
at_end P (x ∷ xs) y h = at_end P xs y (all_rest P x (xs ++ y ∷ []) h)

-- a new object, and the frame that is taken off for it
pub new_given : (k l : ℕ) (cs : Option Below) (m : View) (fs rest : List Frame) (o : Ref) → k < l → m.frames ≡ fs ++ rest → o ≡ Local k → AreReached (reach k cs) m → AreReached (reach l cs) (record m { control = Give (Gave o); frames = fs })
unfolding AreReached
new_given k l cs m fs rest o lt taken is h =
    let more = reached_more k l cs (omega (arith, lt)) m h in
    record {
      control = subst (IsReached (reach l cs)) (sym is) lt;
      frames = all_front (IsFrameReached (reach l cs)) fs rest (subst (All (IsFrameReached (reach l cs))) taken more.frames);
      held = more.held;
      calls = more.calls;
      rescuing = more.rescuing;
    }

pub waiting_reached : (k l : ℕ) (cs : Option Below) (m : View) (fs : List Frame) (f : Frame) → k < l → m.frames ≡ fs ++ f ∷ [] → AreReached (reach k cs) m → IsFrameReached (reach l cs) f
unfolding AreReached
waiting_reached k l cs m fs f lt taken h =
    let more = reached_more k l cs (omega (arith, lt)) m h in
    at_end (IsFrameReached (reach l cs)) fs f (subst (All (IsFrameReached (reach l cs))) taken more.frames)

-- the program's `initialize`, with the arguments among the values that stand for a frame
pub initializes : (p : Program) (m : View) (t : Table) (x : Making) (o : Ref) (found : Option Initializer) (f : Initializer) (given : Handed) (h : Course) (n : ℕ) → option_map (initializer_of p.nodes.items) found ≡ initializer (context_of p) x.class → found ≡ Some f
    → given ≡ handed_by (option_map (tree_at p.nodes.items) x.block)
    → after_answer p m t (Initialize x) (Gave o) h n
    ≡ after_values p m t (Initialize x) (run_work (context_of p) f.class (Runs (method_of p.nodes.items f.body)) (record { receiver = o; block = given; tree = option_map (tree_at p.nodes.items) x.block; value = made_value x.raises o }) (passed_on x.passing (drop x.base m.held ++ list_of None))) h n
initializes p m t x o found f given h n finds is beside =
    let own = context_of p in
    let ns = p.nodes.items in
    let b = option_map (tree_at ns) x.block in
    let vs = drop x.base m.held in
    let does = λ (block : Handed) (values : List Ref). after_values p m t (Initialize x) (run_work own f.class (Runs (method_of ns f.body)) (record { receiver = o; block = block; tree = b; value = made_value x.raises o }) (passed_on x.passing values)) h n in
    ap (λ i. after_values p m t (Initialize x) (initialized own x.raises i b o (passed_on x.passing vs)) h n) (sym finds ∙ ap (option_map (initializer_of ns)) is)
    ∙ ap (λ block. does block vs) (sym beside)
    ∙ ap (does given) (sym (append-nil vs))

-- no `initialize`
pub initializes_none : (p : Program) (m : View) (t : Table) (x : Making) (o : Ref) (found : Option Initializer) (h : Course) (n : ℕ) → option_map (initializer_of p.nodes.items) found ≡ initializer (context_of p) x.class → found ≡ None
    → after_answer p m t (Initialize x) (Gave o) h n ≡ after_values p m t (Initialize x) (initialized (context_of p) x.raises None (option_map (tree_at p.nodes.items) x.block) o (passed_on x.passing (drop x.base m.held))) h n
initializes_none p m t x o found h n finds is =
    let own = context_of p in
    let ns = p.nodes.items in
    ap (λ i. after_values p m t (Initialize x) (initialized own x.raises i (option_map (tree_at ns) x.block) o (passed_on x.passing (drop x.base m.held))) h n) (sym finds ∙ ap (option_map (initializer_of ns)) is)
