-- Frames that need the objects or memory for their value: those that may ask, those that ask nothing, and among them those that take no memory.
use Rattle.std.proofs.Common.{◌≡◌, ℕ, refl}
use Rattle.rr_base.specs.declared.name.Sym.{Sym}
use Rattle.rr_eval.specs.declared.asking.Asking.{Asking}
use Rattle.rr_eval.specs.declared.call.Target.{Target}
use Rattle.rr_eval.specs.declared.frame.Making.{Making}
use Rattle.rr_eval.specs.declared.frame.Trial.{Trial}
use Rattle.rr_eval.specs.declared.iterating.Iterating.{Iterating}
use Rattle.rr_eval.specs.declared.problem.Answer.{Answer}
use Rattle.rr_eval.specs.declared.spot.Aiming.{Aiming}
use Rattle.rr_eval.specs.declared.spot.Assigning.{Assigning}
use Rattle.rr_eval.specs.declared.updating.Combining.{Combining}
use Rattle.rr_eval.specs.declared.updating.Place.{Place}
use Rattle.rr_eval.specs.declared.updating.Updating.{Updating}
use Rattle.rr_space.specs.declared.refer.Ref.{Ref}
use Rattle.rr_tree.specs.declared.node.BinaryOperator.{BinaryOperator}
use Rattle.rr_eval.specs.declared.frame.Frame.{Frame}
use Rattle.rr_eval.specs.declared.frame.Frame.TheVariants as frames
use Rattle.rr_eval.specs.Frames.{IsRareFrame, IsAloneFrame, IsQuietFrame}

-- that a frame is none of those that may ask
pub record AsksNothing (f : Frame) : Type 0 where
  pub no_negation : f ≡ frames.Negation → ⊥
  pub no_right : (x0 : BinaryOperator) (x1 : Ref) → f ≡ frames.Right x0 x1 → ⊥
  pub no_set_field : (x0 : Sym) → f ≡ frames.SetField x0 → ⊥
  pub no_argument : (x0 : Target) (x1 : ℕ) (x2 : ℕ) (x3 : ℕ) → f ≡ frames.Argument x0 x1 x2 x3 → ⊥
  pub no_receiver : (x0 : Target) (x1 : ℕ) (x2 : ℕ) (x3 : ℕ) → f ≡ frames.Receiver x0 x1 x2 x3 → ⊥
  pub no_item : (x0 : Target) (x1 : ℕ) (x2 : ℕ) (x3 : ℕ) → f ≡ frames.Item x0 x1 x2 x3 → ⊥
  pub no_key : (x0 : ℕ) (x1 : ℕ) (x2 : ℕ) (x3 : ℕ) → f ≡ frames.Key x0 x1 x2 x3 → ⊥
  pub no_value : (x0 : ℕ) (x1 : ℕ) (x2 : ℕ) → f ≡ frames.Value x0 x1 x2 → ⊥
  pub no_asking : (x0 : Asking) → f ≡ frames.Asking x0 → ⊥
  pub no_asked : (x0 : Asking) → f ≡ frames.Asked x0 → ⊥
  pub no_element : (x0 : ℕ) (x1 : ℕ) → f ≡ frames.Element x0 x1 → ⊥
  pub no_put : (x0 : Place) (x1 : ℕ) → f ≡ frames.Put x0 x1 → ⊥
  pub no_round : (x0 : Iterating) → f ≡ frames.Round x0 → ⊥
  pub no_turned : (x0 : Iterating) → f ≡ frames.Turned x0 → ⊥

pub rare_alone : (f : Frame) → IsRareFrame f → AsksNothing f → IsAloneFrame f
rare_alone frames.Negation rare h = absurd (h.no_negation refl)
rare_alone (frames.Right x0 x1) rare h = absurd (h.no_right x0 x1 refl)
rare_alone (frames.SetField x0) rare h = absurd (h.no_set_field x0 refl)
rare_alone (frames.Argument x0 x1 x2 x3) rare h = absurd (h.no_argument x0 x1 x2 x3 refl)
rare_alone (frames.Receiver x0 x1 x2 x3) rare h = absurd (h.no_receiver x0 x1 x2 x3 refl)
rare_alone (frames.Item x0 x1 x2 x3) rare h = absurd (h.no_item x0 x1 x2 x3 refl)
rare_alone (frames.Key x0 x1 x2 x3) rare h = absurd (h.no_key x0 x1 x2 x3 refl)
rare_alone (frames.Value x0 x1 x2) rare h = absurd (h.no_value x0 x1 x2 refl)
rare_alone (frames.Asking x0) rare h = absurd (h.no_asking x0 refl)
rare_alone (frames.Asked x0) rare h = absurd (h.no_asked x0 refl)
rare_alone (frames.Element x0 x1) rare h = absurd (h.no_element x0 x1 refl)
rare_alone (frames.Put x0 x1) rare h = absurd (h.no_put x0 x1 refl)
rare_alone (frames.Round x0) rare h = absurd (h.no_round x0 refl)
rare_alone (frames.Turned x0) rare h = absurd (h.no_turned x0 refl)
rare_alone (frames.Aim x0) rare h = tt
rare_alone (frames.Several x0 x1 x2) rare h = tt
rare_alone (frames.Assigned x0) rare h = tt
rare_alone (frames.Read x0) rare h = tt
rare_alone (frames.Combine x0) rare h = tt
rare_alone (frames.Rescue x0 x1 x2) rare h = tt
rare_alone (frames.Class x0) rare h = tt
rare_alone (frames.Handling x0) rare h = tt
rare_alone (frames.Ensure x0) rare h = tt
rare_alone (frames.Kept x0) rare h = tt
rare_alone (frames.Paired x0) rare h = tt
rare_alone (frames.Initialize x0) rare h = tt
rare_alone _ rare h = absurd rare

-- that it is none of those that take memory
pub record TakesNone (f : Frame) : Type 0 where
  pub no_aim : (x0 : Aiming) → f ≡ frames.Aim x0 → ⊥
  pub no_several : (x0 : ℕ) (x1 : ℕ) (x2 : ℕ) → f ≡ frames.Several x0 x1 x2 → ⊥
  pub no_paired : (x0 : Iterating) → f ≡ frames.Paired x0 → ⊥
  pub no_initialize : (x0 : Making) → f ≡ frames.Initialize x0 → ⊥

pub alone_quiet : (f : Frame) → IsAloneFrame f → TakesNone f → IsQuietFrame f
alone_quiet (frames.Aim x0) alone h = absurd (h.no_aim x0 refl)
alone_quiet (frames.Several x0 x1 x2) alone h = absurd (h.no_several x0 x1 x2 refl)
alone_quiet (frames.Paired x0) alone h = absurd (h.no_paired x0 refl)
alone_quiet (frames.Initialize x0) alone h = absurd (h.no_initialize x0 refl)
alone_quiet (frames.Assigned x0) alone h = tt
alone_quiet (frames.Read x0) alone h = tt
alone_quiet (frames.Combine x0) alone h = tt
alone_quiet (frames.Rescue x0 x1 x2) alone h = tt
alone_quiet (frames.Class x0) alone h = tt
alone_quiet (frames.Handling x0) alone h = tt
alone_quiet (frames.Ensure x0) alone h = tt
alone_quiet (frames.Kept x0) alone h = tt
alone_quiet _ alone h = absurd alone

-- that it is none of the others
pub record IsNone (f : Frame) : Type 0 where
  pub no_assigned : (x0 : Assigning) → f ≡ frames.Assigned x0 → ⊥
  pub no_read : (x0 : Updating) → f ≡ frames.Read x0 → ⊥
  pub no_combine : (x0 : Combining) → f ≡ frames.Combine x0 → ⊥
  pub no_rescue : (x0 : ℕ) (x1 : ℕ) (x2 : ℕ) → f ≡ frames.Rescue x0 x1 x2 → ⊥
  pub no_class : (x0 : Trial) → f ≡ frames.Class x0 → ⊥
  pub no_handling : (x0 : Ref) → f ≡ frames.Handling x0 → ⊥
  pub no_ensure : (x0 : ℕ) → f ≡ frames.Ensure x0 → ⊥
  pub no_kept : (x0 : Answer) → f ≡ frames.Kept x0 → ⊥

pub none_quiet : (f : Frame) → IsQuietFrame f → IsNone f → ⊥
none_quiet (frames.Assigned x0) quiet h = h.no_assigned x0 refl
none_quiet (frames.Read x0) quiet h = h.no_read x0 refl
none_quiet (frames.Combine x0) quiet h = h.no_combine x0 refl
none_quiet (frames.Rescue x0 x1 x2) quiet h = h.no_rescue x0 x1 x2 refl
none_quiet (frames.Class x0) quiet h = h.no_class x0 refl
none_quiet (frames.Handling x0) quiet h = h.no_handling x0 refl
none_quiet (frames.Ensure x0) quiet h = h.no_ensure x0 refl
none_quiet (frames.Kept x0) quiet h = h.no_kept x0 refl
none_quiet _ quiet h = quiet
