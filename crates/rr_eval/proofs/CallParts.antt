-- A call with whose value a rule goes on.
use Rattle.std.proofs.Common.{◌≡◌, ◌∙◌, ℕ, suc, refl, ap, subst, List, [], ◌∷◌, reverse, Option, None}
use Rattle.rr_frames.specs.Frames.{list_of}
use Rattle.rr_space.specs.Tables.{Table}
use Rattle.rr_space.specs.declared.refer.Ref.{Ref}
use Rattle.rr_tree.specs.declared.node.BinaryOperator.{BinaryOperator}
use Rattle.rr_tree.specs.declared.program.Program.{Program}
use Rattle.rr_eval.specs.declared.call.Callee.{Callee}
use Rattle.rr_eval.specs.declared.call.Callee.TheVariants as callees
use Rattle.rr_eval.specs.declared.frame.Control.TheVariants.{Send}
use Rattle.rr_eval.specs.declared.frame.Frame.{Frame}
use Rattle.rr_eval.specs.Context.{Context}
use Rattle.rr_eval.specs.Dispatch.{part_called, send_rule}
use Rattle.rr_eval.specs.Frames.{Code, unwind, outcome_of}
use Rattle.rr_eval.specs.Requests.{Course}
use Rattle.rr_eval.specs.Script.{State, CallPart, Spent}
use Rattle.rr_eval.specs.Turns.{context_of, code_of, state_of, remaining, after_script}
use Rattle.rr_eval.specs.View.{View}
use Rattle.rr_eval.specs.Within.{Reach, AreReached, IsControlReached}
use Rattle.rr_eval.proofs.Depth.{meaning_part}
use Rattle.rr_eval.proofs.Dispatching.{operates, send_keeps}
use Rattle.rr_eval.proofs.Keeping.{Keeps}

-- it takes no object away
pub part_called_keeps : (c : Context) (callee : Callee) (v : Ref) (vs : List Ref) → Keeps (part_called c callee v vs)
part_called_keeps c (callees.Operator op) v [] = send_keeps c (callees.Operator op) None v []
part_called_keeps c (callees.Operator op) v (w ∷ []) = operates c op v w
part_called_keeps c (callees.Operator op) v (w ∷ x ∷ vs) = send_keeps c (callees.Operator op) None v (w ∷ x ∷ vs)
part_called_keeps c callee v vs = send_keeps c callee None v vs

-- what is no operator is sent
pub part_sent : (c : Context) (callee : Callee) (v w : Ref) → ((op : BinaryOperator) → callee ≡ callees.Operator op → ⊥) → part_called c callee v (w ∷ []) ≡ send_rule c callee None v (w ∷ [])
part_sent c (callees.Operator op) v w other = absurd (other op refl)
part_sent c callee v w other = refl

pub part_alone : (c : Context) (callee : Callee) (v : Ref) → part_called c callee v [] ≡ send_rule c callee None v []
part_alone c (callees.Operator op) v = refl
part_alone c callee v = refl

-- a call that comes first is one step
pub call_steps : (p : Program) (m : View) (t : Table) (n : ℕ) (callee : Callee) (v : Ref) (w : Option Ref) → m.control ≡ Send callee v w → m.left ≡ suc n → (h : Course) → remaining p m t h ≡ after_script p m t (part_called (context_of p) callee v (list_of w)) h n
call_steps p m t n callee v w at left h =
    let c = code_of p h.world in
    let s = state_of p m t h in
    ap (λ k. outcome_of c m.frames m.held k s m.left) at
    ∙ ap (λ k. outcome_of c m.frames m.held (Send callee v w) s k) left
    ∙ ap (unwind c (reverse m.frames) m.held) (meaning_part (context_of p) h.world (CallPart callee v (list_of w)) s n)

-- without steps it is out of steps
unwind_spent : (c : Code) (fs : List Frame) (held : List Ref) (s : State) → unwind c fs held (Spent s) ≡ Spent s
unwind_spent c [] held s = refl
unwind_spent c (f ∷ fs) held s = unwind_spent c fs _ s

pub call_limit : (p : Program) (m : View) (t : Table) (callee : Callee) (v : Ref) (w : Option Ref) → m.control ≡ Send callee v w → m.left ≡ 0 → (h : Course) → remaining p m t h ≡ Spent (state_of p m t h)
call_limit p m t callee v w at left h =
    let c = code_of p h.world in
    let s = state_of p m t h in
    ap (λ k. outcome_of c m.frames m.held k s m.left) at
    ∙ ap (λ k. outcome_of c m.frames m.held (Send callee v w) s k) left
    ∙ unwind_spent c (reverse m.frames) m.held s

-- the receiver and the argument are reached
pub call_reached : (k : Reach) (m : View) (callee : Callee) (v : Ref) (w : Option Ref) → m.control ≡ Send callee v w → AreReached k m → IsControlReached k (Send callee v w)
unfolding AreReached
call_reached k m callee v w at h = subst (IsControlReached k) at h.control
