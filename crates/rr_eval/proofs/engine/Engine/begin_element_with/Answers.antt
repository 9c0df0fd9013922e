-- What is kept stands behind what stood before.
use Rattle.std.proofs.Common.{◌≡◌, ◌∙◌, ◌++◌, ◌∷◌, [], ap, sym, subst, arith, length, reverse, take, drop, List, Option, Some}
use Rattle.rr_space.specs.declared.refer.Ref.{Ref}
use Rattle.std.proofs.lemmas.List.{take-append-le, drop-append-le}
use Rattle.rr_frames.specs.Frames.{list_of}
use Rattle.rr_eval.specs.Frames.{runs_in, unwind, iterated}
use Rattle.rr_eval.specs.Iterating.{continued}
use Rattle.rr_eval.specs.Turns.{context_of, code_of, state_of}
use Rattle.rr_eval.specs.Views.{view_of}
use Rattle.rr_eval.specs.Within.{Reach, reach, IsReached}
use Rattle.std.specs.List.{All}
use Rattle.rr_eval.proofs.Holding.{with_value}
use Rattle.rr_eval.proofs.engine.Engine.begin_element_with.Goals as goal

pub returns-then-begin_element-clause-goes : goal.returns-then-begin_element-clause-goes
returns-then-begin_element-clause-goes c = λ _ h n.
    let p = c.args.program.now in
    let m = view_of c.args.self.now in
    let s = state_of p m c.args.space.now h in
    let code = code_of p h.world in
    let i = c.args.iteration in
    let base = i.base in
    let held = c.push_reserved.new.self.items in
    let value = c.in-Some.value in
    let script = λ (l : List Ref). continued (context_of p) (iterated code i l) in
    let below : take base held ≡ take base m.held = ap (take base) c.push_reserved.ensures.items ∙ take-append-le base m.held (value ∷ []) c.requires.base in
    let stand : drop base held ≡ drop base m.held ++ value ∷ [] = ap (drop base) c.push_reserved.ensures.items ∙ drop-append-le base m.held (value ∷ []) c.requires.base in
    ap (λ found. unwind code (reverse m.frames) (take base m.held) (runs_in code (script (drop base m.held ++ list_of found)) s n)) c.in-Some.is
    ∙ ap (λ l. unwind code (reverse m.frames) l (runs_in code (script (drop base m.held ++ value ∷ [])) s n)) (sym below)
    ∙ ap (λ l. unwind code (reverse m.frames) (take base held) (runs_in code (script l) s n)) (sym stand)
    ∙ c.begin_element-2.ensures.goes c.if-begin_element.true h n

value_reached : (k : Reach) (found : Option Ref) (value : Ref) → found ≡ Some value → All (IsReached k) (list_of found) → IsReached k value
value_reached k found value is h = subst (λ o. All (IsReached k) (list_of o)) is h 0 value (omega arith)

pub returns-in_default-clause-within : goal.returns-in_default-clause-within
returns-in_default-clause-within c clusters h found = c.begin_element.ensures.within clusters h

pub returns-then-begin_element-clause-within : goal.returns-then-begin_element-clause-within
returns-then-begin_element-clause-within c clusters h found =
    let k = reach (length c.args.space.now.slots) clusters in
    c.begin_element-2.ensures.within clusters (with_value k (view_of c.args.self.now) _ c.in-Some.value c.push_reserved.ensures.items h (value_reached k c.args.found c.in-Some.value c.in-Some.is found))
