-- More values stand behind what stood before.
use Rattle.std.proofs.Common.{◌≡◌, ◌∙◌, ◌++◌, ap, sym, arith, length, reverse, take, drop, List}
use Rattle.rr_space.specs.declared.refer.Ref.{Ref}
use Rattle.std.proofs.lemmas.List.{take_all, take-append-le, drop-append-le}
use Rattle.rr_eval.specs.Frames.{runs_in, unwind, iterated}
use Rattle.rr_eval.specs.Iterating.{continued}
use Rattle.rr_eval.specs.Turns.{context_of, code_of, state_of}
use Rattle.rr_eval.specs.Runs.{no_objects}
use Rattle.rr_eval.specs.Views.{view_of}
use Rattle.rr_eval.specs.Within.{reach}
use Rattle.rr_eval.proofs.Holding.{stands_reached}
use Rattle.rr_eval.proofs.PairTurns.{with_values}
use Rattle.rr_eval.proofs.engine.Engine.begin_with.Goals as goal

pub returns-in-Ok-clause-goes : goal.returns-in-Ok-clause-goes
returns-in-Ok-clause-goes c = λ h n.
    let p = c.args.program.now in
    let m = view_of c.args.self.now in
    let s = state_of p m c.args.space.now h in
    let code = code_of p h.world in
    let i = c.args.iteration in
    let base = i.base in
    let held = c.extend_from_slice.new.self.items in
    let more = c.args.more.now in
    let script = λ (l : List Ref). continued (context_of p) (iterated code i l) in
    let is : held ≡ m.held ++ more = c.in_ok-extend_from_slice.ensures.items in
    let below : take base held ≡ take base m.held = ap (take base) is ∙ take-append-le base m.held more c.requires.base in
    let stand : drop base held ≡ drop base m.held ++ more = ap (drop base) is ∙ drop-append-le base m.held more c.requires.base in
    ap (λ l. unwind code (reverse m.frames) l (runs_in code (script (drop base m.held ++ more)) s n)) (sym below)
    ∙ ap (λ l. unwind code (reverse m.frames) (take base held) (runs_in code (script l) s n)) (sym stand)
    ∙ c.in-Ok.ensures.goes h n

pub returns-in-Ok-clause-within : goal.returns-in-Ok-clause-within
returns-in-Ok-clause-within c clusters h more =
    let k = reach (length c.args.space.now.slots) clusters in
    c.in-Ok.ensures.within clusters (with_values k (view_of c.args.self.now) _ c.args.more.now c.in_ok-extend_from_slice.ensures.items h more)

pub returns-in-Err-clause-err : goal.returns-in-Err-clause-err
returns-in-Err-clause-err c t =
    let held = (view_of c.args.self.now).held in
    let count = c.len-count.result in
    let is = c.in-Err.ensures.err t in
    record {
      control = is.control;
      frames = is.frames;
      held = c.truncate.ensures.items ∙ ap (take count) (is.held ∙ c.in_ok-extend_from_slice.ensures.items) ∙ take-append-le count held c.args.more.now (omega (arith, c.len-count.ensures)) ∙ take_all count held (omega (arith, c.len-count.ensures));
      calls = is.calls;
      blocks = is.blocks;
      rescuing = is.rescuing;
      left = is.left;
      objects = is.objects;
      refusal = is.refusal;
    }

pub returns-in-Err-clause-within : goal.returns-in-Err-clause-within
returns-in-Err-clause-within c clusters h more =
    stands_reached (reach (length c.args.space.now.slots) clusters) (view_of c.args.self.now) _ (no_objects 0) (no_objects 0) c.in-Err.fault (returns-in-Err-clause-err c (no_objects 0)) h
