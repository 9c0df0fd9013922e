-- What is still to be done stays the same over one act of the machine.
use Rattle.std.proofs.Common.{subst, ◌≡◌, ℕ, zero, suc, ◌-◌, ◌<◌, ◌≤◌, sym, ap, arith, refl, ◌∙◌, List, [], ◌∷◌, ◌++◌, length, take, drop, reverse, Option}
use Rattle.std.proofs.lemmas.List.{reverse-append, take_all, drop_all, take-append-le, drop-append-le}
use Rattle.rr_space.specs.declared.refer.Ref.{Ref}
use Rattle.rr_tree.specs.Tree.{tree_at}
use Rattle.std.specs.Option.{option_map}
use Rattle.rr_frames.specs.Frames.{list_of}
use Rattle.rr_eval.specs.declared.problem.Answer.{Answer}
use Rattle.rr_eval.specs.declared.problem.Answer.TheVariants.{Gave}
use Rattle.rr_eval.specs.declared.frame.Making.{Making}
use Rattle.rr_eval.specs.Dispatch.{making, made_rule, passed_on}
use Rattle.rr_eval.specs.Iterating.{array_turn}
use Rattle.rr_eval.specs.Pairs.{paired}
use Rattle.rr_eval.specs.declared.iterating.Iterating.{Iterating}
use Rattle.rr_eval.specs.declared.frame.Frame.{Frame}
use Rattle.rr_eval.specs.declared.frame.Frame.TheVariants.{Left, Argument, Key, Value, Read, Combine, Put, Round, Turned, Paired, Initialize, Receiver, Item, Aim, Several, Assigned, Asking as AskingFrame, Asked as AskedFrame}
use Rattle.rr_eval.specs.declared.frame.Control.TheVariants.{Enter, Give, New, Pair}
use Rattle.rr_eval.specs.Script.{State, Ret, Go, Outcome, Ended, Spent, Waits, after}
use Rattle.rr_eval.specs.Rules.{values, finish}
use Rattle.rr_eval.specs.declared.call.Target.{Target}
use Rattle.rr_eval.specs.View.{View}
use Rattle.rr_eval.specs.Turns.{Stands}
use Rattle.rr_space.specs.Tables.{Table}
use Rattle.rr_base.specs.declared.fault.Fault.{Fault}
use Rattle.rr_tree.specs.Nodes.{trees_before}
use Rattle.rr_eval.specs.Frames.{Code, means, runs_in, iterated, IsNew, resumed, stand_of, below_of, unwind, Nested, base_of, outcome_of}

-- an evaluation whose answer is the answer
pub after_ended : (o : Outcome) → after o Ended ≡ o
after_ended (Ended a s n) = refl
after_ended (Spent s) = refl
after_ended (Waits s) = refl

-- a part whose answer is the answer
pub part_only : (c : Code) (part : ℕ) (s : State) (n : ℕ) → runs_in c (Go (tree_at c.nodes part) Ret) s n ≡ means c (tree_at c.nodes part) s n
part_only c part s n = after_ended (means c (tree_at c.nodes part) s n)

-- a frame on top
pub rest_push : (c : Code) (fs : List Frame) (f : Frame) (held : List Ref) (o : Outcome) → unwind c (reverse (fs ++ f ∷ [])) held o ≡ unwind c (reverse fs) (below_of f held) (after o (λ a. runs_in c (resumed c f (stand_of f held) a)))
rest_push c fs f held o = ap (λ l. unwind c l held o) (reverse-append fs (f ∷ []))

-- a new frame over a request
pub asking_frame : (c : Code) (fs : List Frame) (f : Frame) (held : List Ref) (o : Outcome) → IsNew f (length held) → unwind c (reverse fs) held (after o (λ a. runs_in c (resumed c f [] a))) ≡ unwind c (reverse (fs ++ f ∷ [])) held o
asking_frame c fs (Argument target e k b) held o new =
    ap (λ h. unwind c (reverse fs) h (after o (λ a. runs_in c (resumed c (Argument target e k b) [] a)))) (sym (take_all b held (omega arith)))
    ∙ ap (λ h. unwind c (reverse fs) (take b held) (after o (λ a. runs_in c (resumed c (Argument target e k b) h a)))) (sym (drop_all b held (omega arith)))
    ∙ sym (rest_push c fs (Argument target e k b) held o)
asking_frame c fs (Receiver target e k b) held o new =
    ap (λ h. unwind c (reverse fs) h (after o (λ a. runs_in c (resumed c (Receiver target e k b) [] a)))) (sym (take_all b held (omega arith)))
    ∙ ap (λ h. unwind c (reverse fs) (take b held) (after o (λ a. runs_in c (resumed c (Receiver target e k b) h a)))) (sym (drop_all b held (omega arith)))
    ∙ sym (rest_push c fs (Receiver target e k b) held o)
asking_frame c fs (Item target e k b) held o new =
    ap (λ h. unwind c (reverse fs) h (after o (λ a. runs_in c (resumed c (Item target e k b) [] a)))) (sym (take_all b held (omega arith)))
    ∙ ap (λ h. unwind c (reverse fs) (take b held) (after o (λ a. runs_in c (resumed c (Item target e k b) h a)))) (sym (drop_all b held (omega arith)))
    ∙ sym (rest_push c fs (Item target e k b) held o)
asking_frame c fs (Aim x) held o new =
    ap (λ h. unwind c (reverse fs) h (after o (λ a. runs_in c (resumed c (Aim x) [] a)))) (sym (take_all x.base held (omega arith)))
    ∙ ap (λ h. unwind c (reverse fs) (take x.base held) (after o (λ a. runs_in c (resumed c (Aim x) h a)))) (sym (drop_all x.base held (omega arith)))
    ∙ sym (rest_push c fs (Aim x) held o)
asking_frame c fs (Several e k b) held o new =
    ap (λ h. unwind c (reverse fs) h (after o (λ a. runs_in c (resumed c (Several e k b) [] a)))) (sym (take_all b held (omega arith)))
    ∙ ap (λ h. unwind c (reverse fs) (take b held) (after o (λ a. runs_in c (resumed c (Several e k b) h a)))) (sym (drop_all b held (omega arith)))
    ∙ sym (rest_push c fs (Several e k b) held o)
asking_frame c fs (Assigned x) held o new = absurd new
asking_frame c fs (Key x e k b) held o new =
    ap (λ h. unwind c (reverse fs) h (after o (λ a. runs_in c (resumed c (Key x e k b) [] a)))) (sym (take_all b held (omega arith)))
    ∙ ap (λ h. unwind c (reverse fs) (take b held) (after o (λ a. runs_in c (resumed c (Key x e k b) h a)))) (sym (drop_all b held (omega arith)))
    ∙ sym (rest_push c fs (Key x e k b) held o)
asking_frame c fs (Value e k b) held o new =
    ap (λ h. unwind c (reverse fs) h (after o (λ a. runs_in c (resumed c (Value e k b) [] a)))) (sym (take_all b held (omega arith)))
    ∙ ap (λ h. unwind c (reverse fs) (take b held) (after o (λ a. runs_in c (resumed c (Value e k b) h a)))) (sym (drop_all b held (omega arith)))
    ∙ sym (rest_push c fs (Value e k b) held o)
asking_frame c fs (AskingFrame a) held o new = absurd new
asking_frame c fs (AskedFrame a) held o new = absurd new
asking_frame c fs (Read u) held o new =
    ap (λ h. unwind c (reverse fs) h (after o (λ a. runs_in c (resumed c (Read u) [] a)))) (sym (take_all u.base held (omega arith)))
    ∙ ap (λ h. unwind c (reverse fs) (take u.base held) (after o (λ a. runs_in c (resumed c (Read u) h a)))) (sym (drop_all u.base held (omega arith)))
    ∙ sym (rest_push c fs (Read u) held o)
asking_frame c fs (Combine x) held o new =
    ap (λ h. unwind c (reverse fs) h (after o (λ a. runs_in c (resumed c (Combine x) [] a)))) (sym (take_all x.base held (omega arith)))
    ∙ ap (λ h. unwind c (reverse fs) (take x.base held) (after o (λ a. runs_in c (resumed c (Combine x) h a)))) (sym (drop_all x.base held (omega arith)))
    ∙ sym (rest_push c fs (Combine x) held o)
asking_frame c fs (Put place b) held o new =
    ap (λ h. unwind c (reverse fs) h (after o (λ a. runs_in c (resumed c (Put place b) [] a)))) (sym (take_all b held (omega arith)))
    ∙ ap (λ h. unwind c (reverse fs) (take b held) (after o (λ a. runs_in c (resumed c (Put place b) h a)))) (sym (drop_all b held (omega arith)))
    ∙ sym (rest_push c fs (Put place b) held o)
asking_frame c fs (Round i) held o new =
    ap (λ h. unwind c (reverse fs) h (after o (λ a. runs_in c (resumed c (Round i) [] a)))) (sym (take_all i.base held (omega arith)))
    ∙ ap (λ h. unwind c (reverse fs) (take i.base held) (after o (λ a. runs_in c (resumed c (Round i) h a)))) (sym (drop_all i.base held (omega arith)))
    ∙ sym (rest_push c fs (Round i) held o)
asking_frame c fs (Turned i) held o new =
    ap (λ h. unwind c (reverse fs) h (after o (λ a. runs_in c (resumed c (Turned i) [] a)))) (sym (take_all i.base held (omega arith)))
    ∙ ap (λ h. unwind c (reverse fs) (take i.base held) (after o (λ a. runs_in c (resumed c (Turned i) h a)))) (sym (drop_all i.base held (omega arith)))
    ∙ sym (rest_push c fs (Turned i) held o)
asking_frame c fs (Paired i) held o new =
    ap (λ h. unwind c (reverse fs) h (after o (λ a. runs_in c (resumed c (Paired i) [] a)))) (sym (take_all i.base held (omega arith)))
    ∙ ap (λ h. unwind c (reverse fs) (take i.base held) (after o (λ a. runs_in c (resumed c (Paired i) h a)))) (sym (drop_all i.base held (omega arith)))
    ∙ sym (rest_push c fs (Paired i) held o)
asking_frame c fs (Initialize x) held o new =
    ap (λ h. unwind c (reverse fs) h (after o (λ a. runs_in c (resumed c (Initialize x) [] a)))) (sym (take_all x.base held (omega arith)))
    ∙ ap (λ h. unwind c (reverse fs) (take x.base held) (after o (λ a. runs_in c (resumed c (Initialize x) h a)))) (sym (drop_all x.base held (omega arith)))
    ∙ sym (rest_push c fs (Initialize x) held o)
asking_frame c fs (Left op b) held o new = sym (rest_push c fs (Left op b) held o)
asking_frame c fs f held o new = sym (rest_push c fs f held o)

-- a new frame has nothing of what stands
pub new_frame : (c : Code) (fs : List Frame) (f : Frame) (held : List Ref) (part : ℕ) (s : State) (n : ℕ) → IsNew f (length held) → unwind c (reverse fs) held (runs_in c (Go (tree_at c.nodes part) (resumed c f [])) s n) ≡ unwind c (reverse (fs ++ f ∷ [])) held (means c (tree_at c.nodes part) s n)
new_frame c fs f held part s n new = asking_frame c fs f held (means c (tree_at c.nodes part) s n) new

-- a frame gets its answer
pub given : (c : Code) (fs : List Frame) (f : Frame) (held : List Ref) (a : Answer) (s : State) (n : ℕ) → outcome_of c (fs ++ f ∷ []) held (Give a) s n ≡ unwind c (reverse fs) (below_of f held) (runs_in c (resumed c f (stand_of f held) a) s n)
given c fs f held a s n = rest_push c fs f held (Ended a s n)

-- a frame on top begins within what stands
pub nested_push : (fs : List Frame) (f : Frame) (held : List Ref) → base_of f ≤ length held → Nested (reverse fs) (below_of f held) → Nested (reverse (fs ++ f ∷ [])) held
nested_push fs f held le nested = subst (λ l. Nested l held) (sym (reverse-append fs (f ∷ []))) (le, nested)

pub nested_pop : (fs : List Frame) (f : Frame) (held : List Ref) → Nested (reverse (fs ++ f ∷ [])) held → (base_of f ≤ length held) × Nested (reverse fs) (below_of f held)
nested_pop fs f held nested = subst (λ l. Nested l held) (reverse-append fs (f ∷ [])) nested

pub nested_new : (fs : List Frame) (f : Frame) (held : List Ref) → IsNew f (length held) → Nested (reverse fs) held → Nested (reverse (fs ++ f ∷ [])) held
nested_new fs (Argument target e k b) held new nested = nested_push fs (Argument target e k b) held (omega arith) (subst (λ h. Nested (reverse fs) h) (sym (take_all b held (omega arith))) nested)
nested_new fs (Receiver target e k b) held new nested = nested_push fs (Receiver target e k b) held (omega arith) (subst (λ h. Nested (reverse fs) h) (sym (take_all b held (omega arith))) nested)
nested_new fs (Item target e k b) held new nested = nested_push fs (Item target e k b) held (omega arith) (subst (λ h. Nested (reverse fs) h) (sym (take_all b held (omega arith))) nested)
nested_new fs (Aim x) held new nested = nested_push fs (Aim x) held (omega arith) (subst (λ h. Nested (reverse fs) h) (sym (take_all x.base held (omega arith))) nested)
nested_new fs (Several e k b) held new nested = nested_push fs (Several e k b) held (omega arith) (subst (λ h. Nested (reverse fs) h) (sym (take_all b held (omega arith))) nested)
nested_new fs (Assigned x) held new nested = absurd new
nested_new fs (Key x e k b) held new nested = nested_push fs (Key x e k b) held (omega arith) (subst (λ h. Nested (reverse fs) h) (sym (take_all b held (omega arith))) nested)
nested_new fs (Value e k b) held new nested = nested_push fs (Value e k b) held (omega arith) (subst (λ h. Nested (reverse fs) h) (sym (take_all b held (omega arith))) nested)
nested_new fs (AskingFrame a) held new nested = absurd new
nested_new fs (AskedFrame a) held new nested = absurd new
nested_new fs (Read u) held new nested = nested_push fs (Read u) held (omega arith) (subst (λ h. Nested (reverse fs) h) (sym (take_all u.base held (omega arith))) nested)
nested_new fs (Combine x) held new nested = nested_push fs (Combine x) held (omega arith) (subst (λ h. Nested (reverse fs) h) (sym (take_all x.base held (omega arith))) nested)
nested_new fs (Put place b) held new nested = nested_push fs (Put place b) held (omega arith) (subst (λ h. Nested (reverse fs) h) (sym (take_all b held (omega arith))) nested)
nested_new fs (Round i) held new nested = nested_push fs (Round i) held (omega arith) (subst (λ h. Nested (reverse fs) h) (sym (take_all i.base held (omega arith))) nested)
nested_new fs (Turned i) held new nested = nested_push fs (Turned i) held (omega arith) (subst (λ h. Nested (reverse fs) h) (sym (take_all i.base held (omega arith))) nested)
nested_new fs (Paired i) held new nested = nested_push fs (Paired i) held (omega arith) (subst (λ h. Nested (reverse fs) h) (sym (take_all i.base held (omega arith))) nested)
nested_new fs (Initialize x) held new nested = nested_push fs (Initialize x) held (omega arith) (subst (λ h. Nested (reverse fs) h) (sym (take_all x.base held (omega arith))) nested)
nested_new fs (Left op b) held new nested = nested_push fs (Left op b) held (omega arith) nested
nested_new fs f held new nested = nested_push fs f held (omega arith) nested

-- a value is kept behind those that stand from a base on, and a frame over them all waits
pub kept_over : (c : Code) (fs : List Frame) (f : Frame) (base : ℕ) (held : List Ref) (v : Ref) (o : Outcome) → ((h : List Ref) → below_of f h ≡ take base h) → ((h : List Ref) → stand_of f h ≡ drop base h) → base ≤ length held
    → unwind c (reverse fs) (take base held) (after o (λ a. runs_in c (resumed c f (drop base held ++ v ∷ []) a))) ≡ unwind c (reverse (fs ++ f ∷ [])) (held ++ v ∷ []) o
kept_over c fs f base held v o below stand le =
    let all = held ++ v ∷ [] in
    ap (λ h. unwind c (reverse fs) h (after o (λ a. runs_in c (resumed c f (drop base held ++ v ∷ []) a)))) (sym (take-append-le base held (v ∷ []) le) ∙ sym (below all))
    ∙ ap (λ h. unwind c (reverse fs) (below_of f all) (after o (λ a. runs_in c (resumed c f h a)))) (sym (drop-append-le base held (v ∷ []) le) ∙ sym (stand all))
    ∙ sym (rest_push c fs f all o)

-- the value of an argument is kept, and the next one is evaluated
pub kept : (c : Code) (fs : List Frame) (target : Target) (end count place base : ℕ) (held : List Ref) (v : Ref) (s : State) (n : ℕ) → 0 < count → place ≡ end - count → base ≤ length held → unwind c (reverse fs) (take base held) (runs_in c (values (trees_before c.nodes end count) (drop base held ++ v ∷ []) (finish c.context target)) s n) ≡ outcome_of c (fs ++ Argument target end (count - 1) base ∷ []) (held ++ v ∷ []) (Enter place) s n
kept c fs target end zero place base held v s n h at le = absurd (omega arith)
kept c fs target end (suc more) place base held v s n h at le =
    let f = Argument target end more base in
    let k : suc more - 1 ≡ more = omega arith in
    let below = take-append-le base held (v ∷ []) le in
    let stand = drop-append-le base held (v ∷ []) le in
    let o = means c (tree_at c.nodes place) s n in
    ap (λ p. unwind c (reverse fs) (take base held) (runs_in c (Go (tree_at c.nodes p) (resumed c f (drop base held ++ v ∷ []))) s n)) (sym at)
    ∙ ap (λ h. unwind c (reverse fs) h (after o (λ a. runs_in c (resumed c f (drop base held ++ v ∷ []) a)))) (sym below)
    ∙ ap (λ h. unwind c (reverse fs) (take base (held ++ v ∷ [])) (after o (λ a. runs_in c (resumed c f h a)))) (sym stand)
    ∙ sym (rest_push c fs f (held ++ v ∷ []) o)
    ∙ ap (λ m. unwind c (reverse (fs ++ Argument target end m base ∷ [])) (held ++ v ∷ []) o) (sym k)

-- a new object is made for a frame that initializes it, over the values that stand for it
pub begins_new : (c : Code) (fs : List Frame) (x : Making) (cause : Ref) (f : Frame) (held all : List Ref) (last : Option Ref) (s : State) (n : ℕ) → all ≡ held ++ list_of last → x.base ≤ length held → drop x.base held ≡ stand_of f held → take x.base held ≡ below_of f held
    → unwind c (reverse fs) (below_of f held) (runs_in c (made_rule c.context x.class cause x.raises (option_map (tree_at c.nodes) x.block) (passed_on x.passing (stand_of f held ++ list_of last))) s n) ≡ outcome_of c (fs ++ Initialize x ∷ []) all (New x.class cause) s n
begins_new c fs x cause f held all last s n push le stand below =
    let next = λ (vs : List Ref). runs_in c (made_rule c.context x.class cause x.raises (option_map (tree_at c.nodes) x.block) (passed_on x.passing vs)) s n in
    ap (λ h. unwind c (reverse fs) h (next (stand_of f held ++ list_of last))) (sym below ∙ sym (take-append-le x.base held (list_of last) le) ∙ ap (take x.base) (sym push))
    ∙ ap (λ vs. unwind c (reverse fs) (take x.base all) (next vs)) (ap (λ l. l ++ list_of last) (sym stand) ∙ sym (drop-append-le x.base held (list_of last) le) ∙ ap (drop x.base) (sym push))
    ∙ sym (rest_push c fs (Initialize x) all (runs_in c (making c.context x.class cause (λ v. Ret (Gave v))) s n))

-- an array is made for a frame that begins a turn with it
pub begins_paired : (c : Code) (fs : List Frame) (i : Iterating) (v w : Ref) (held : List Ref) (s : State) (n : ℕ)
    → unwind c (reverse fs) (take i.base held) (runs_in c (paired v w (array_turn c.context (iterated c i (drop i.base held)))) s n) ≡ outcome_of c (fs ++ Paired i ∷ []) held (Pair v w) s n
begins_paired c fs i v w held s n = sym (rest_push c fs (Paired i) held (runs_in c (paired v w (λ a. Ret (Gave a))) s n))

-- a frame that is put back, where all else stands
pub frame_back : (m n : View) (t : Table) (f : Frame) (fault : Fault) (fs : List Frame) → Stands m n t t fault → fs ≡ n.frames ++ f ∷ [] → record m { frames = m.frames ++ f ∷ [] } ≡ record n { frames = fs }
frame_back m n t f fault fs is e =
    ap (λ x. record { control = m.control; frames = x ++ f ∷ []; held = m.held; calls = m.calls; blocks = m.blocks; rescuing = m.rescuing; left = m.left }) (sym is.frames)
    ∙ ap (λ x. record { control = m.control; frames = x; held = m.held; calls = m.calls; blocks = m.blocks; rescuing = m.rescuing; left = m.left }) (sym e)
    ∙ ap (λ x. record { control = x; frames = fs; held = m.held; calls = m.calls; blocks = m.blocks; rescuing = m.rescuing; left = m.left }) (sym is.control)
    ∙ ap (λ x. record { control = n.control; frames = fs; held = x; calls = m.calls; blocks = m.blocks; rescuing = m.rescuing; left = m.left }) (sym is.held)
    ∙ ap (λ x. record { control = n.control; frames = fs; held = n.held; calls = x; blocks = m.blocks; rescuing = m.rescuing; left = m.left }) (sym is.calls)
    ∙ ap (λ x. record { control = n.control; frames = fs; held = n.held; calls = n.calls; blocks = x; rescuing = m.rescuing; left = m.left }) (sym is.blocks)
    ∙ ap (λ x. record { control = n.control; frames = fs; held = n.held; calls = n.calls; blocks = n.blocks; rescuing = x; left = m.left }) (sym is.rescuing)
    ∙ ap (λ x. record { control = n.control; frames = fs; held = n.held; calls = n.calls; blocks = n.blocks; rescuing = n.rescuing; left = x }) (sym is.left)
