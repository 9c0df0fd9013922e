-- `super` calls what stands above.
use Rattle.std.proofs.Common.{◌≡◌, ◌++◌, ◌∷◌, [], ℕ, zero, suc, nat_eq, false, List, sym, refl, subst, arith, length, slice_index_or}
use Rattle.std.specs.List.{All}
use Rattle.rr_frames.specs.Frames.{Frame as Activated, frame_at, read_at}
use Rattle.rr_frames.specs.declared.activation.Activation.{Activation}
use Rattle.rr_space.specs.declared.kind.Kind.{Kind}
use Rattle.rr_space.specs.declared.kind.Kind.TheVariants.{Exception}
use Rattle.rr_space.specs.declared.refer.Ref.{Ref}
use Rattle.rr_space.specs.declared.refer.Ref.TheVariants.{Nil}
use Rattle.rr_builtin.specs.declared.problem.Problem.TheVariants.{Count}
use Rattle.rr_eval.specs.declared.frame.Frame.{Frame}
use Rattle.rr_eval.specs.declared.problem.Problem.TheVariants.{BuiltIn}
use Rattle.rr_eval.specs.declared.problem.Answer.TheVariants.{Gave}
use Rattle.rr_eval.specs.Above.{initialize_above, with_message}
use Rattle.rr_eval.specs.Basics.{throw}
use Rattle.rr_eval.specs.Script.{Ret}
use Rattle.rr_eval.specs.Blocks.{running}
use Rattle.rr_eval.specs.Context.{Context}
use Rattle.rr_eval.specs.Variables.{top}
use Rattle.rr_eval.specs.View.{View}
use Rattle.rr_eval.specs.Within.{Reach, AreReached, AreVariablesReached, IsReached, IsFrameReached}
use Rattle.rr_eval.proofs.Holding.{all_append, all_rest, frame_within, itself_within, calls_reached}

-- no message for an exception, and nothing for another object
pub no_message : (c : Context) (v : Ref) (vs : List Ref) → length vs ≡ 0 → initialize_above c Exception v vs ≡ with_message c v Nil
no_message c v [] none = refl
no_message c v (w ∷ vs) none = absurd (omega (arith, none))

pub nothing_given : (c : Context) (k : Kind) (v : Ref) (vs : List Ref) → (k ≡ Exception → ⊥) → length vs ≡ 0 → initialize_above c k v vs ≡ Ret (Gave Nil)
nothing_given c Exception v vs other none = absurd (other refl)
nothing_given c k v [] other none = refl
nothing_given c k v (w ∷ vs) other none = absurd (omega (arith, none))

-- more than one message for an exception
pub messages_refused : (c : Context) (v : Ref) (vs : List Ref) → (length vs ≡ 0 → ⊥) → nat_eq (length vs) 1 ≡ false → initialize_above c Exception v vs ≡ throw c (BuiltIn (Count (length vs) 0 1))
messages_refused c v [] some more = absurd (some refl)
messages_refused c v (w ∷ []) some more = absurd (cc more)
messages_refused c v (w ∷ x ∷ vs) some more = refl

-- arguments for another object
pub arguments_refused : (c : Context) (k : Kind) (v : Ref) (vs : List Ref) → (k ≡ Exception → ⊥) → (length vs ≡ 0 → ⊥) → initialize_above c k v vs ≡ throw c (BuiltIn (Count (length vs) 0 0))
arguments_refused c Exception v vs other some = absurd (other refl)
arguments_refused c k v [] other some = absurd (some refl)
arguments_refused c k v (w ∷ vs) other some = refl

-- a variable of a frame
any_at : {A : Type 0} (P : A → Type 0) (xs : List A) (i : ℕ) (d : A) → P d → All P xs → P (slice_index_or xs i d)
any_at P [] i d none h = none
any_at P (x ∷ xs) zero d none h = h zero x (omega arith)
any_at P (x ∷ xs) (suc i) d none h = any_at P xs i d none (all_rest P x xs h)

pub read_within : (k : Reach) (fs : List Activated) (number slot : ℕ) → All (AreVariablesReached k) fs → IsReached k (read_at number slot fs)
read_within k fs number slot h = any_at (IsReached k) (frame_at number fs).variables slot Nil tt (frame_within k fs number h)

-- `self` of the method that runs
pub running_reached : (k : Reach) (m : View) (a : Activation) → a ≡ running m.calls.frames → AreReached k m → IsReached k a.itself
running_reached k m a is h = subst (λ (x : Activation). IsReached k x.itself) (sym is) (itself_within k m.calls.frames (top m.calls.frames) (calls_reached k m h))

-- some values more
pub with_values : (k : Reach) (m : View) (fs : List Frame) (held vs : List Ref) → fs ≡ m.frames → held ≡ m.held ++ vs → AreReached k m → All (IsReached k) vs → AreReached k (record m { frames = fs; held = held })
unfolding AreReached
with_values k m fs held vs same kept h values = record {
  control = h.control;
  frames = subst (All (IsFrameReached k)) (sym same) h.frames;
  held = subst (All (IsReached k)) (sym kept) (all_append (IsReached k) m.held vs h.held values);
  calls = h.calls;
  rescuing = h.rescuing;
}
