-- An assignment to one of several targets is a step, for which a frame waits.
use Rattle.std.proofs.Common.{◌≡◌, ◌∙◌, ◌+◌, ◌-◌, ◌<◌, ◌≤◌, ℕ, suc, refl, sym, ap, subst, List, [], ◌∷◌, ◌++◌, length, take, drop, reverse, slice_index_or, Some, None}
use Rattle.std.proofs.lemmas.List.Elements.{All-push}
use Rattle.std.proofs.Math.Seq.{take-append_seam, drop-append_seam}
use Rattle.std.proofs.lemmas.List.{drop-drop, length-drop, take-append-le, drop-append-le}
use Rattle.std.specs.List.{All}
use Rattle.rr_frames.specs.Frames.{Stack}
use Rattle.rr_space.specs.Tables.{Table}
use Rattle.rr_space.specs.declared.refer.Ref.{Ref}
use Rattle.rr_space.specs.declared.refer.Ref.TheVariants.{Nil}
use Rattle.rr_tree.specs.Nodes.{trees_before}
use Rattle.rr_tree.specs.Tree.{tree_at}
use Rattle.rr_tree.specs.declared.program.Program.{Program}
use Rattle.rr_eval.specs.declared.frame.Control.{Control}
use Rattle.rr_eval.specs.declared.frame.Control.TheVariants.{Assign}
use Rattle.rr_eval.specs.declared.frame.Frame.{Frame}
use Rattle.rr_eval.specs.declared.frame.Frame.TheVariants.{Assigned}
use Rattle.rr_eval.specs.declared.spot.Assigning.{Assigning}
use Rattle.rr_eval.specs.declared.spot.Spot.{Spot}
use Rattle.rr_eval.specs.Basics.{on_value, variable_of}
use Rattle.rr_eval.specs.Frames.{Code, runs_in, unwind, outcome_of, evaluates}
use Rattle.rr_eval.specs.Requests.{Course}
use Rattle.rr_eval.specs.Script.{State, Script, AssignPart, Spent, after}
use Rattle.rr_eval.specs.Several.{parts_of, spot_of, put_in, next_value, assign_each}
use Rattle.rr_eval.specs.Turns.{context_of, code_of, state_of, remaining, after_script}
use Rattle.rr_eval.specs.View.{View}
use Rattle.rr_eval.specs.Within.{Reach, AreVariablesReached, IsFrameReached, AreReached, IsControlReached}
use Rattle.rr_eval.proofs.Depth.{meaning_part}
use Rattle.rr_eval.proofs.Targets.{spot_assigned, next_at, behind_next}
use Rattle.rr_eval.proofs.Unwind.{rest_push}

-- an assignment that comes first is one step
pub assign_steps : (p : Program) (m : View) (t : Table) (n : ℕ) (spot : Spot) (v : Ref) → m.control ≡ Assign spot v → m.left ≡ suc n → (h : Course) → remaining p m t h ≡ after_script p m t (put_in (context_of p) spot v) h n
assign_steps p m t n spot v at left h =
    let c = code_of p h.world in
    let s = state_of p m t h in
    ap (λ k. outcome_of c m.frames m.held k s m.left) at
    ∙ ap (λ k. outcome_of c m.frames m.held (Assign spot v) s k) left
    ∙ ap (unwind c (reverse m.frames) m.held) (meaning_part (context_of p) h.world (AssignPart spot v) s n)

-- without steps it is out of steps
unwind_spent : (c : Code) (fs : List Frame) (held : List Ref) (s : State) → unwind c fs held (Spent s) ≡ Spent s
unwind_spent c [] held s = refl
unwind_spent c (f ∷ fs) held s = unwind_spent c fs _ s

pub assign_limit : (p : Program) (m : View) (t : Table) (spot : Spot) (v : Ref) → m.control ≡ Assign spot v → m.left ≡ 0 → (h : Course) → remaining p m t h ≡ Spent (state_of p m t h)
assign_limit p m t spot v at left h =
    let c = code_of p h.world in
    let s = state_of p m t h in
    ap (λ k. outcome_of c m.frames m.held k s m.left) at
    ∙ ap (λ k. outcome_of c m.frames m.held (Assign spot v) s k) left
    ∙ unwind_spent c (reverse m.frames) m.held s

-- the target and the value are reached
pub assign_reached : (k : Reach) (m : View) (spot : Spot) (v : Ref) → m.control ≡ Assign spot v → AreReached k m → IsControlReached k (Assign spot v)
unfolding AreReached
assign_reached k m spot v at h = subst (IsControlReached k) at h.control

-- a target is a step for a frame with the targets that are left
pub assigns_over : (c : Code) (fs : List Frame) (x : Assigning) (held : List Ref) (place own behind : ℕ) (spot : Spot) (v : Ref) (s : State) (n : ℕ)
    → let stand = drop x.base held in
    let parts = drop x.used (take x.parts stand) in
    let next : Assigning = record { end = x.end; left = x.left - 1; base = x.base; parts = x.parts; used = x.used + own; place = behind } in
    0 < x.left → place ≡ x.end - x.left → variable_of (tree_at c.nodes place) ≡ None → spot_of (tree_at c.nodes place) parts ≡ Some spot → own ≡ length (parts_of (tree_at c.nodes place))
    → v ≡ next_value (drop x.place stand) → drop behind stand ≡ drop 1 (drop x.place stand)
    → unwind c (reverse fs) (take x.base held) (runs_in c (assign_each c.context (trees_before c.nodes x.end x.left) parts (drop x.place stand) (slice_index_or stand x.parts Nil)) s n)
    ≡ outcome_of c (fs ++ Assigned next ∷ []) held (Assign spot v) s n
assigns_over c fs x held place own behind spot v s n some at other is count value rest =
    let stand = drop x.base held in
    let all = take x.parts stand in
    let parts = drop x.used all in
    let right = slice_index_or stand x.parts Nil in
    let ts = trees_before c.nodes x.end (x.left - 1) in
    let next : Assigning = record { end = x.end; left = x.left - 1; base = x.base; parts = x.parts; used = x.used + own; place = behind } in
    let goes = λ (w : Ref) (ps vs : List Ref). unwind c (reverse fs) (take x.base held) (after (evaluates c (AssignPart spot w) s n) (λ a. runs_in c (on_value (λ y. assign_each c.context ts ps vs right) a))) in
    ap (unwind c (reverse fs) (take x.base held)) (spot_assigned c x.end place x.left parts (drop x.place stand) right spot s n some at other is)
    ∙ ap (λ w. goes w (drop (length (parts_of (tree_at c.nodes place))) parts) (drop 1 (drop x.place stand))) (sym value)
    ∙ ap (λ m. goes v (drop m parts) (drop 1 (drop x.place stand))) (sym count)
    ∙ ap (λ ps. goes v ps (drop 1 (drop x.place stand))) (drop-drop own x.used all)
    ∙ ap (λ vs. goes v (drop (x.used + own) all) vs) (sym rest)
    ∙ sym (rest_push c fs (Assigned next) held (evaluates c (AssignPart spot v) s n))

-- an index is held behind others, and a value behind it
pub element_over : (c : Code) (fs : List Frame) (held all : List Ref) (base : ℕ) (i v : Ref) (script : List Ref → Script) (s : State) (n : ℕ) → all ≡ held ++ i ∷ [] → take base all ≡ held → drop base all ≡ i ∷ []
    → unwind c (reverse fs) held (runs_in c (script (i ∷ v ∷ [])) s n) ≡ unwind c (reverse fs) (take base all) (runs_in c (script (drop base all ++ v ∷ [])) s n)
element_over c fs held all base i v script s n is below stand =
    ap (λ l. unwind c (reverse fs) l (runs_in c (script (i ∷ v ∷ [])) s n)) (sym below)
    ∙ ap (λ l. unwind c (reverse fs) (take base all) (runs_in c (script (l ++ v ∷ [])) s n)) (sym stand)

-- more values are held behind those that stand from a base on
pub below_more : (base : ℕ) (held all more : List Ref) → all ≡ held ++ more → base ≤ length held → take base held ≡ take base all
below_more base held all more push le = sym (take-append-le base held more le) ∙ ap (take base) (sym push)

pub above_more : (base : ℕ) (held all more : List Ref) → all ≡ held ++ more → base ≤ length held → drop base held ++ more ≡ drop base all
above_more base held all more push le = sym (drop-append-le base held more le) ∙ ap (drop base) (sym push)

-- the right side, and what it gives to the targets, stand behind the values of their parts
pub right_over : (c : Code) (fs : List Frame) (end count base parts : ℕ) (held all vs : List Ref) (v : Ref) (s : State) (n : ℕ) → all ≡ held ++ v ∷ vs → base ≤ length held → parts ≡ length held - base
    → unwind c (reverse fs) (take base held) (runs_in c (assign_each c.context (trees_before c.nodes end count) (drop base held) vs v) s n)
    ≡ unwind c (reverse fs) (take base all) (runs_in c (assign_each c.context (trees_before c.nodes end count) (take parts (drop base all)) (drop (parts + 1) (drop base all)) (slice_index_or (drop base all) parts Nil)) s n)
right_over c fs end count base parts held all vs v s n push le at =
    let stand = drop base held in
    let ts = trees_before c.nodes end count in
    let there : drop base all ≡ stand ++ v ∷ vs = sym (above_more base held all (v ∷ vs) push le) in
    let whole : parts ≡ length stand = at ∙ sym (length-drop base held) in
    let front : take parts (drop base all) ≡ stand = ap (take parts) there ∙ ap (λ m. take m (stand ++ v ∷ vs)) whole ∙ take-append_seam stand (v ∷ vs) in
    let back : drop parts (drop base all) ≡ v ∷ vs = ap (drop parts) there ∙ ap (λ m. drop m (stand ++ v ∷ vs)) whole ∙ drop-append_seam stand (v ∷ vs) in
    let behind : drop (parts + 1) (drop base all) ≡ vs = behind_next (drop base all) parts ∙ ap (drop 1) back in
    let right : slice_index_or (drop base all) parts Nil ≡ v = next_at (drop base all) parts ∙ ap next_value back in
    let goes = λ (ps us : List Ref) (w : Ref). runs_in c (assign_each c.context ts ps us w) s n in
    ap (λ l. unwind c (reverse fs) l (goes stand vs v)) (below_more base held all (v ∷ vs) push le)
    ∙ ap (λ l. unwind c (reverse fs) (take base all) (goes l vs v)) (sym front)
    ∙ ap (λ l. unwind c (reverse fs) (take base all) (goes (take parts (drop base all)) l v)) (sym behind)
    ∙ ap (λ w. unwind c (reverse fs) (take base all) (goes (take parts (drop base all)) (drop (parts + 1) (drop base all)) w)) (sym right)

-- variables have other values
pub with_variables : (k : Reach) (m : View) (calls : Stack) → AreReached k m → All (AreVariablesReached k) calls.frames → AreReached k (record m { calls = calls })
unfolding AreReached
with_variables k m calls h variables = record { control = h.control; frames = h.frames; held = h.held; calls = variables; rescuing = h.rescuing }

-- a frame more, and what comes first
pub frame_reached : (k : Reach) (m : View) (f : Frame) (fs : List Frame) (c : Control) → fs ≡ m.frames ++ f ∷ [] → AreReached k m → IsFrameReached k f → IsControlReached k c → AreReached k (record m { control = c; frames = fs })
unfolding AreReached
frame_reached k m f fs c push h frame here = record { control = here; frames = subst (All (IsFrameReached k)) (sym push) (All-push (IsFrameReached k) m.frames f h.frames frame); held = h.held; calls = h.calls; rescuing = h.rescuing }
