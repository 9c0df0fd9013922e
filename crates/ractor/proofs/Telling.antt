-- Lemmas on error lines and on the status of failed output.
use Rattle.std.proofs.Common.{◌≡◌, ℕ, ◌+◌, ◌<◌, List, [], ◌∷◌, ◌++◌, length, take, drop, map, get_or, codes, sym, ap, subst, refl, ◌∙◌, arith, take-append-drop, Result, Ok, Err}
use Rattle.std.proofs.lemmas.List.{take_more, map-append, append-nil}
use Rattle.std.proofs.lemmas.List.Folds.{concat-append}
use Rattle.std.specs.List.{concat}
use Rattle.rr_base.specs.declared.fault.Fault.{Fault}
use Rattle.rr_base.specs.declared.fault.Fault.TheVariants as faults
use Rattle.rr_base.specs.declared.fault.SyntaxKind.{SyntaxKind}
use Rattle.rr_base.specs.declared.limits.LimitKind.{LimitKind}
use Rattle.rr_base.specs.declared.limits.Limits.{Limits}
use Rattle.rr_eval.specs.declared.run.Outcome.{Outcome}
use Rattle.rr_eval.specs.declared.run.Outcome.TheVariants as outcomes
use Rattle.rr_eval.specs.Runs.{Run, RunsScript, Leaves, Meets, script_meaning}
use Rattle.rr_eval.specs.Served.{world_of}
use Rattle.rr_eval.specs.Written.{Written, WritesAll, FallsShort, IsBeginning}
use Rattle.rr_eval.proofs.Replies.{gives}
use Rattle.rr_eval.proofs.Bytes.{writes_both, falls_short_after, falls_short_longer}
use Rattle.ractor.specs.Lines.{fault_line}
use Rattle.ractor.specs.Statuses.{status_of}

-- the joined first pieces, with one more
joined_more : {X : Type 0} (f : X → List ℕ) (xs : List X) (i : ℕ) (d : X) → i < length xs
    → concat (map f (take (i + 1) xs)) ≡ concat (map f (take i xs)) ++ f (get_or xs i d)
joined_more f xs i d h =
    ap (λ l. concat (map f l)) (take_more xs i d h)
    ∙ ap concat (map-append f (take i xs) (get_or xs i d ∷ []))
    ∙ concat-append (map f (take i xs)) (f (get_or xs i d) ∷ [])
    ∙ ap (λ l. concat (map f (take i xs)) ++ l) (append-nil (f (get_or xs i d)))

-- they are a beginning of all
joined_begins : {X : Type 0} (f : X → List ℕ) (xs : List X) (i : ℕ) → IsBeginning (concat (map f (take i xs))) (concat (map f xs))
joined_begins f xs i = (
  concat (map f (drop i xs)),
  ap (λ l. concat (map f l)) (sym (take-append-drop i xs)) ∙ ap concat (map-append f (take i xs) (drop i xs)) ∙ concat-append (map f (take i xs)) (map f (drop i xs)),
)

-- one more piece was written
pub one_more : {X : Type 0} (f : X → List ℕ) (xs : List X) (i : ℕ) (d : X) (a b c : Written) → i < length xs
    → WritesAll a b (concat (map f (take i xs))) → WritesAll b c (f (get_or xs i d)) → WritesAll a c (concat (map f (take (i + 1) xs)))
one_more f xs i d a b c h before piece = subst (WritesAll a c) (sym (joined_more f xs i d h)) (writes_both a b c (concat (map f (take i xs))) (f (get_or xs i d)) before piece)

-- one more piece was not
pub one_short : {X : Type 0} (f : X → List ℕ) (xs : List X) (i : ℕ) (d : X) (a b c : Written) → i < length xs
    → WritesAll a b (concat (map f (take i xs))) → FallsShort b c (f (get_or xs i d)) → FallsShort a c (concat (map f xs))
one_short f xs i d a b c h before piece =
    falls_short_longer a c (concat (map f (take (i + 1) xs))) (concat (map f xs))
    (subst (FallsShort a c) (sym (joined_more f xs i d h)) (falls_short_after a b c (concat (map f (take i xs))) (f (get_or xs i d)) before piece))
    (joined_begins f xs (i + 1))

-- a fault without a line of its own
pub other_line : (f : Fault) → ((l c : ℕ) (k : SyntaxKind) → f ≡ faults.Syntax l c k → ⊥) → ((k : LimitKind) → f ≡ faults.Limit k → ⊥) → fault_line f ≡ codes "ractor: memory\n"
other_line (faults.Syntax l c k) syntax limit = absurd (syntax l c k refl)
other_line (faults.Limit k) syntax limit = absurd (limit k refl)
other_line _ syntax limit = refl

-- what a run leaves, in an environment that replies as it was replied to
left : {r : Run} {outcome : Outcome} (m : RunsScript r outcome) → Leaves m.context r.before r.after (script_meaning m.context m.tree r.limits (world_of 0 m.run.exchanges)) outcome
left m = m.run.leaves (world_of 0 m.run.exchanges) (gives [] m.run.exchanges)

-- the status is the one of failed output exactly where a write failed
pub failed_status : (source : List ℕ) (limits : Limits) (before after : Written) (ended : Result Outcome Fault) (status : ℕ)
    → Meets (record { source = source; limits = limits; before = before; after = after; ended = ended }) → status ≡ status_of ended
    → (status ≡ 4 → after.failures ≡ before.failures + 1) × (after.failures ≡ before.failures + 1 → status ≡ 4)
failed_status source limits before after (Ok outcomes.Done) status m e = let kept = (left m).1.failed in (λ h. absurd (omega arith), λ h. absurd (omega arith))
failed_status source limits before after (Ok (outcomes.Raised told)) status m e = let kept = (left m).1.failed in (λ h. absurd (omega arith), λ h. absurd (omega arith))
failed_status source limits before after (Ok outcomes.StepLimit) status m e = let kept = (left m).1.failed in (λ h. absurd (omega arith), λ h. absurd (omega arith))
failed_status source limits before after (Ok (outcomes.Stopped fault)) status m e = let kept = (left m).1.failed in (λ h. absurd (omega arith), λ h. absurd (omega arith))
failed_status source limits before after (Ok outcomes.OutputFailed) status m e = (λ h. (left m).failed, λ h. e)
failed_status source limits before after (Err (faults.Syntax l c k)) status m e = let kept = m.failed in (λ h. absurd (omega arith), λ h. absurd (omega arith))
failed_status source limits before after (Err (faults.Limit k)) status m e = let kept = m.failed in (λ h. absurd (omega arith), λ h. absurd (omega arith))
failed_status source limits before after (Err _) status m e = let kept = m.failed in (λ h. absurd (omega arith), λ h. absurd (omega arith))
