-- What is kept stands behind what stood before.
use Rattle.std.proofs.Common.{◌≡◌, ◌∙◌, ◌++◌, ◌∷◌, [], ap, sym, subst, arith, length, reverse, take, drop, List, Option, Some}
use Rattle.rr_space.specs.declared.refer.Ref.{Ref}
use Rattle.std.proofs.lemmas.List.{take_all, take-append-le, drop-append-le}
use Rattle.rr_frames.specs.Frames.{list_of}
use Rattle.rr_eval.specs.Frames.{runs_in, unwind, iterated}
use Rattle.rr_eval.specs.Iterating.{continued}
use Rattle.rr_eval.specs.Turns.{context_of, code_of, state_of}
use Rattle.rr_eval.specs.Runs.{no_objects}
use Rattle.rr_eval.specs.Views.{view_of}
use Rattle.rr_eval.specs.Within.{Reach, reach, IsReached}
use Rattle.std.specs.List.{All}
use Rattle.rr_eval.proofs.Holding.{stands_reached, with_value}
use Rattle.rr_eval.proofs.engine.Engine.go_on_with.Goals as goal

pub returns-in-Ok-clause-goes : goal.returns-in-Ok-clause-goes
returns-in-Ok-clause-goes c = λ h n.
    let p = c.args.program.now in
    let m = view_of c.args.self.now in
    let s = state_of p m c.args.space.now h in
    let code = code_of p h.world in
    let i = c.args.iteration in
    let base = i.base in
    let held = c.push.new.self.items in
    let value = c.in-Some.value in
    let script = λ (l : List Ref). continued (context_of p) (iterated code i l) in
    let below : take base held ≡ take base m.held = ap (take base) c.in_ok-push.ensures.items ∙ take-append-le base m.held (value ∷ []) c.requires.base in
    let stand : drop base held ≡ drop base m.held ++ value ∷ [] = ap (drop base) c.in_ok-push.ensures.items ∙ drop-append-le base m.held (value ∷ []) c.requires.base in
    ap (λ found. unwind code (reverse m.frames) (take base m.held) (runs_in code (script (drop base m.held ++ list_of found)) s n)) c.in-Some.is
    ∙ ap (λ l. unwind code (reverse m.frames) l (runs_in code (script (drop base m.held ++ value ∷ [])) s n)) (sym below)
    ∙ ap (λ l. unwind code (reverse m.frames) (take base held) (runs_in code (script l) s n)) (sym stand)
    ∙ c.in-Ok.ensures.goes h n

value_reached : (k : Reach) (found : Option Ref) (value : Ref) → found ≡ Some value → All (IsReached k) (list_of found) → IsReached k value
value_reached k found value is h = subst (λ o. All (IsReached k) (list_of o)) is h 0 value (omega arith)

pub returns-in_default-clause-within : goal.returns-in_default-clause-within
returns-in_default-clause-within c clusters h found = c.go_on.ensures.within clusters h

pub returns-in_default-clause-asks : goal.returns-in_default-clause-asks
returns-in_default-clause-asks c k h found = c.go_on.ensures.asks k h

pub returns-in-Ok-clause-within : goal.returns-in-Ok-clause-within
returns-in-Ok-clause-within c clusters h found =
    let k = reach (length c.args.space.now.slots) clusters in
    c.in-Ok.ensures.within clusters (with_value k (view_of c.args.self.now) _ c.in-Some.value c.in_ok-push.ensures.items h (value_reached k c.args.found c.in-Some.value c.in-Some.is found))

pub returns-in-Ok-clause-asks : goal.returns-in-Ok-clause-asks
returns-in-Ok-clause-asks c k h found =
    c.in-Ok.ensures.asks k (with_value k (view_of c.args.self.now) _ c.in-Some.value c.in_ok-push.ensures.items h (value_reached k c.args.found c.in-Some.value c.in-Some.is found))

pub returns-in-Err-clause-err : goal.returns-in-Err-clause-err
returns-in-Err-clause-err c t =
    let held = (view_of c.args.self.now).held in
    let count = c.len-count.result in
    let is = c.in-Err.ensures.err t in
    record {
      control = is.control;
      frames = is.frames;
      held = c.truncate.ensures.items ∙ ap (take count) (is.held ∙ c.in_ok-push.ensures.items) ∙ take-append-le count held (c.in-Some.value ∷ []) (omega (arith, c.len-count.ensures)) ∙ take_all count held (omega (arith, c.len-count.ensures));
      calls = is.calls;
      blocks = is.blocks;
      rescuing = is.rescuing;
      left = is.left;
      objects = is.objects;
      refusal = is.refusal;
    }

pub returns-in-Err-clause-within : goal.returns-in-Err-clause-within
returns-in-Err-clause-within c clusters h found =
    stands_reached (reach (length c.args.space.now.slots) clusters) (view_of c.args.self.now) _ (no_objects 0) (no_objects 0) c.in-Err.fault (returns-in-Err-clause-err c (no_objects 0)) h
