-- The topmost frame gets a value.
use Rattle.std.proofs.Common.{◌≡◌, ℕ, zero, suc, ◌-◌, ◌<◌, ◌≤◌, sym, ap, subst, refl, ◌∙◌, arith, List, [], ◌∷◌, ◌++◌, length, take, reverse, Some, slice_get, slice_set, slice_index_or}
use Rattle.std.specs.List.{All}
use Rattle.std.proofs.lemmas.List.{take_all, length-take-le}
use Rattle.std.proofs.Math.Seq.{set-append_seam}
use Rattle.rr_space.specs.Tables.{Table}
use Rattle.rr_space.specs.declared.refer.Ref.{Ref}
use Rattle.rr_tree.specs.Tree.{tree_at, IsOrdered}
use Rattle.rr_tree.specs.declared.node.Node.{Node}
use Rattle.rr_tree.specs.declared.node.Node.TheVariants as node
use Rattle.rr_tree.specs.declared.program.Program.{Program}
use Rattle.rr_eval.specs.declared.frame.Control.TheVariants.{Enter, Give}
use Rattle.rr_eval.specs.declared.frame.Frame.{Frame}
use Rattle.rr_eval.specs.declared.frame.Frame.TheVariants.{Rest}
use Rattle.rr_eval.specs.declared.problem.Answer.TheVariants.{Gave}
use Rattle.rr_eval.specs.Frames.{outcome_of, runs_in, unwind, Nested}
use Rattle.rr_eval.specs.Requests.{Course}
use Rattle.rr_eval.specs.Turns.{code_of, remaining_with, state_of}
use Rattle.rr_eval.proofs.Lists.{statements_from}
use Rattle.rr_eval.proofs.Unwind.{given, new_frame, nested_new, nested_pop}
use Rattle.rr_eval.specs.Nodes.{evaluated_tree}
use Rattle.rr_eval.specs.Usual.{IsTop}
use Rattle.rr_eval.specs.View.{View}
use Rattle.rr_eval.specs.Within.{Reach, IsFrameReached, AreReached}
use Rattle.rr_eval.proofs.Holding.{all_take}
use Rattle.rr_eval.proofs.Invoking.{same_there}
use Rattle.rr_eval.proofs.Trees.{tree_is}
use Rattle.std.proofs.lemmas.Option.{get_or_from_slice_get, slice_get_within}

taken_front : (fs : List Frame) (f : Frame) (k : ℕ) → k < length fs → slice_get fs k ≡ Some f → take (suc k) fs ≡ take k fs ++ f ∷ []
taken_front [] f k lt e = absurd (omega arith)
taken_front (x ∷ fs) f zero lt e = let h : x ≡ f = cc e in ap (λ y. y ∷ []) h
taken_front (x ∷ fs) f (suc k) lt e = ap (λ l. x ∷ l) (taken_front fs f k (omega arith) e)

-- the frames are those that are left and the one on top
pub taken_off : (fs new : List Frame) (f : Frame) (k : ℕ) → k ≡ length fs - 1 → IsTop fs f → new ≡ take k fs → fs ≡ new ++ f ∷ []
taken_off [] new f k at top is = absurd (cc top)
taken_off (x ∷ fs) new f k at top is =
    let one : suc k ≡ length (x ∷ fs) = omega arith in
    sym (take_all (suc k) (x ∷ fs) (omega arith))
    ∙ taken_front (x ∷ fs) f k (omega arith) (ap (slice_get (x ∷ fs)) at ∙ top)
    ∙ ap (λ l. l ++ f ∷ []) (sym is)

-- statements of which the first one has a value go on with the next one, and the frame on top has one less to wait for
pub counted_frames : (fs new : List Frame) (end count k : ℕ) → k ≡ length fs - 1 → IsTop fs (Rest end count) → new ≡ slice_set fs k (Rest end (count - 1)) → new ≡ take k fs ++ Rest end (count - 1) ∷ []
counted_frames fs new end count k at top is =
    let below = take k fs in
    let f = Rest end count in
    let g = Rest end (count - 1) in
    let split = taken_off fs below f k at top refl in
    let some = slice_get_within fs (length fs - 1) f top in
    let long : length below ≡ k = length-take-le k fs (omega (arith, some)) in
    is ∙ ap (λ l. slice_set l k g) split ∙ ap (λ i. slice_set (below ++ f ∷ []) i g) (sym long) ∙ set-append_seam below f [] g

pub counted_goes : (p : Program) (m : View) (t : Table) (new : List Frame) (end count place k : ℕ) (v : Ref) (h : Course) (n : ℕ) → 2 ≤ count → place ≡ end - count → k ≡ length m.frames - 1 → IsTop m.frames (Rest end count) → new ≡ slice_set m.frames k (Rest end (count - 1))
    → remaining_with p (record m { control = Give (Gave v) }) t h n ≡ remaining_with p (record m { control = Enter place; frames = new }) t h n
counted_goes p m t new end count place k v h n two at last top is =
    let code = code_of p h.world in
    let s = state_of p m t h in
    let ns = p.nodes.items in
    let below = take k m.frames in
    let f = Rest end count in
    let g = Rest end (count - 1) in
    ap (λ fs. outcome_of code fs m.held (Give (Gave v)) s n) (taken_off m.frames below f k last top refl)
    ∙ given code below f m.held (Gave v) s n
    ∙ ap (λ r. unwind code (reverse below) m.held (runs_in code r s n)) (sym (statements_from ns end count place two at))
    ∙ new_frame code below g m.held place s n tt
    ∙ ap (λ fs. outcome_of code fs m.held (Enter place) s n) (sym (counted_frames m.frames new end count k last top is))

pub counted_nested : (m : View) (new : List Frame) (end count k : ℕ) → k ≡ length m.frames - 1 → IsTop m.frames (Rest end count) → new ≡ slice_set m.frames k (Rest end (count - 1)) → Nested (reverse m.frames) m.held → Nested (reverse new) m.held
counted_nested m new end count k last top is nested =
    let below = take k m.frames in
    let f = Rest end count in
    let g = Rest end (count - 1) in
    let popped = nested_pop below f m.held (subst (λ fs. Nested (reverse fs) m.held) (taken_off m.frames below f k last top refl) nested) in
    subst (λ fs. Nested (reverse fs) m.held) (sym (counted_frames m.frames new end count k last top is)) (nested_new below g m.held tt popped.1)

-- the tree of a node that is evaluated
pub tree_found : (ns l : List Node) → IsOrdered ns → (here place : ℕ) (n : Node) → tree_at ns here ≡ tree_at ns place → l ≡ ns → place < length l → n ≡ slice_index_or l place n → tree_at ns here ≡ evaluated_tree ns n
tree_found ns l ordered here place n same are lt is =
    same
    ∙ tree_is ns ordered place
    ∙ ap (λ (xs : List Node). evaluated_tree ns (slice_index_or xs place node.Nil)) (sym are)
    ∙ ap (evaluated_tree ns) (same_there l place node.Nil n lt ∙ sym is)

-- the frame on top, and what is left below it, holds what is reached
pub top_reached : (k : Reach) (m : View) (f : Frame) → IsTop m.frames f → AreReached k m → IsFrameReached k f
unfolding AreReached
top_reached k m f top h = subst (IsFrameReached k) (get_or_from_slice_get m.frames (length m.frames - 1) f f top) (h.frames (length m.frames - 1) f (slice_get_within m.frames (length m.frames - 1) f top))

pub below_top : (k : Reach) (m : View) (new : List Frame) (n : ℕ) → new ≡ take n m.frames → AreReached k m → AreReached k (record m { frames = new })
unfolding AreReached
below_top k m new n is h = record { control = h.control; frames = subst (All (IsFrameReached k)) (sym is) (all_take (IsFrameReached k) n m.frames h.frames); held = h.held; calls = h.calls; rescuing = h.rescuing }
