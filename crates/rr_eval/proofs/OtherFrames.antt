-- Frames that need the objects or memory for a value.
use Rattle.std.proofs.Common.{◌≡◌, ℕ, Bool, refl}
use Rattle.rr_tree.specs.declared.node.BinaryOperator.{BinaryOperator}
use Rattle.rr_eval.specs.declared.call_stack.CallValue.{CallValue}
use Rattle.rr_eval.specs.declared.call_stack.Variable.{Variable}
use Rattle.rr_eval.specs.declared.frame.Frame.{Frame}
use Rattle.rr_eval.specs.declared.frame.Frame.TheVariants as frames
use Rattle.rr_eval.specs.Frames.{IsRareFrame}

-- a frame that is none of those that need neither
pub record IsOther (f : Frame) : Type 0 where
  pub no_left : (op : BinaryOperator) (b : ℕ) → f ≡ frames.Left op b → ⊥
  pub no_store : (x : Variable) → f ≡ frames.Store x → ⊥
  pub no_branch : (b : ℕ) (d : ℕ) → f ≡ frames.Branch b d → ⊥
  pub no_and : (b : ℕ) → f ≡ frames.And b → ⊥
  pub no_or : (b : ℕ) → f ≡ frames.Or b → ⊥
  pub no_not : f ≡ frames.Not → ⊥
  pub no_condition : (until : Bool) (body : ℕ) (loop : ℕ) → f ≡ frames.Condition until body loop → ⊥
  pub no_body : (loop : ℕ) → f ≡ frames.Body loop → ⊥
  pub no_rest : (end : ℕ) (count : ℕ) → f ≡ frames.Rest end count → ⊥
  pub no_break : f ≡ frames.Break → ⊥
  pub no_next : f ≡ frames.Next → ⊥
  pub no_return : f ≡ frames.Return → ⊥
  pub no_back : (by : CallValue) → f ≡ frames.Back by → ⊥
  pub no_past : f ≡ frames.Past → ⊥

pub other_rare : (f : Frame) → IsOther f → IsRareFrame f
other_rare (frames.Left op b) is = absurd (is.no_left op b refl)
other_rare (frames.Store x) is = absurd (is.no_store x refl)
other_rare (frames.Branch b d) is = absurd (is.no_branch b d refl)
other_rare (frames.And b) is = absurd (is.no_and b refl)
other_rare (frames.Or b) is = absurd (is.no_or b refl)
other_rare frames.Not is = absurd (is.no_not refl)
other_rare (frames.Condition until body loop) is = absurd (is.no_condition until body loop refl)
other_rare (frames.Body loop) is = absurd (is.no_body loop refl)
other_rare (frames.Rest end count) is = absurd (is.no_rest end count refl)
other_rare frames.Break is = absurd (is.no_break refl)
other_rare frames.Next is = absurd (is.no_next refl)
other_rare frames.Return is = absurd (is.no_return refl)
other_rare (frames.Back by) is = absurd (is.no_back by refl)
other_rare frames.Past is = absurd (is.no_past refl)
other_rare _ is = tt
