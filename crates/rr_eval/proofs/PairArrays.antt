-- An array of two values is made for a turn.
use Rattle.std.proofs.Common.{◌≡◌, ◌∙◌, ◌<◌, ◌++◌, ◌∷◌, [], ℕ, List, Option, Some, None, ap, sym, subst, arith, get_or, length, length-append}
use Rattle.std.specs.List.{All}
use Rattle.rr_base.specs.declared.fault.Fault.{Fault}
use Rattle.rr_frames.specs.Frames.{list_of}
use Rattle.rr_space.specs.Parts.{places_from, below_parts}
use Rattle.rr_space.specs.Tables.{Table, Here, IsRestKept}
use Rattle.rr_space.specs.Views.{object_of}
use Rattle.rr_space.specs.declared.node.Node.TheVariants.{Array}
use Rattle.rr_space.specs.declared.refer.Ref.{Ref}
use Rattle.rr_space.specs.declared.refer.Ref.TheVariants.{Local}
use Rattle.rr_tree.specs.declared.program.Program.{Program}
use Rattle.rr_eval.specs.declared.frame.Control.TheVariants.{Pair}
use Rattle.rr_eval.specs.declared.problem.Answer.TheVariants.{Gave}
use Rattle.rr_eval.specs.declared.problem.Response.TheVariants.{Gives}
use Rattle.rr_eval.specs.Acts.{Passes}
use Rattle.rr_eval.specs.Pairs.{both_object, with_both, paired}
use Rattle.rr_eval.specs.Requests.{Course, Adds}
use Rattle.rr_eval.specs.Script.{Ret, objects_of}
use Rattle.rr_eval.specs.Turns.{after_script}
use Rattle.rr_eval.specs.View.{View}
use Rattle.rr_eval.specs.Within.{Reach, AreReached, IsReached, IsControlReached}
use Rattle.rr_eval.proofs.Holding.{all_rest}
use Rattle.rr_eval.proofs.Objects.{act_passes}

-- one array more
pub one_both : (t u : Table) (v w : Ref) (rs : List Ref) → rs ≡ v ∷ w ∷ [] → u.slots ≡ t.slots ++ Here (object_of (Array rs)) ∷ []
    → u.below ≡ t.below ++ below_parts (places_from 0 rs) ∷ [] → u.keys ≡ t.keys ++ [] ∷ [] → IsRestKept t u → u ≡ with_both v w t
one_both t u v w rs are slots below keys rest =
    let x = with_both v w t in
    let first = slots ∙ ap (λ (l : List Ref). t.slots ++ Here (object_of (Array l)) ∷ []) are in
    let second = below ∙ ap (λ (l : List Ref). t.below ++ below_parts (places_from 0 l) ∷ []) are in
    ap (λ y. record { slots = y; below = u.below; keys = u.keys; limit = u.limit; owner = u.owner; next_message = u.next_message }) first
    ∙ ap (λ y. record { slots = x.slots; below = y; keys = u.keys; limit = u.limit; owner = u.owner; next_message = u.next_message }) second
    ∙ ap (λ y. record { slots = x.slots; below = x.below; keys = y; limit = u.limit; owner = u.owner; next_message = u.next_message }) keys
    ∙ ap (λ y. record { slots = x.slots; below = x.below; keys = x.keys; limit = y; owner = u.owner; next_message = u.next_message }) rest.limit
    ∙ ap (λ y. record { slots = x.slots; below = x.below; keys = x.keys; limit = x.limit; owner = y; next_message = u.next_message }) rest.owner
    ∙ ap (λ y. record { slots = x.slots; below = x.below; keys = x.keys; limit = x.limit; owner = x.owner; next_message = y }) rest.next_message

pub both_more : (v w : Ref) (t u : Table) → u ≡ with_both v w t → length t.slots < length u.slots
both_more v w t u made = subst (λ (x : Table). length t.slots < length x.slots) (sym made) (omega (arith, length-append t.slots (Here (both_object v w) ∷ [])))

-- it would be one object too many
pub paired_passes : (p : Program) (m : View) (t : Table) (v w : Ref) (f : Fault) (h : Course) (n : ℕ) → Adds h.world → Passes f t.limit (length (with_both v w t).slots) → Passes f t.limit (objects_of (after_script p m t (paired v w (λ a. Ret (Gave a))) h n))
paired_passes p m t v w f h n adds passes = act_passes p m t (λ u. (Gives (Local (length u.slots)), with_both v w u)) f h n adds passes

-- its values are reached
pub both_reached : (k : Reach) (m : View) (v w : Ref) → m.control ≡ Pair v w → AreReached k m → IsReached k v × IsReached k w
unfolding AreReached
both_reached k m v w e h = subst (IsControlReached k) e h.control

-- the first of up to two values, and the last one
pub first_given : (k : Reach) (first last : Option Ref) → All (IsReached k) (list_of first ++ list_of last) → All (IsReached k) (list_of first)
first_given k None last h = λ i d lt. absurd (omega (arith, lt))
first_given k (Some v) last h = λ i d lt. let is : i ≡ 0 = omega (arith, lt) in subst (λ j. IsReached k (get_or (v ∷ []) j d)) (sym is) (h 0 v (omega arith))

pub last_given : (k : Reach) (first last : Option Ref) → All (IsReached k) (list_of first ++ list_of last) → All (IsReached k) (list_of last)
last_given k None last h = h
last_given k (Some v) last h = all_rest (IsReached k) v (list_of last) h
