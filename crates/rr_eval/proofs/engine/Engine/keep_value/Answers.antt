-- The value is kept behind the others.
use Rattle.std.proofs.Common.{◌≡◌, sym, ap, subst, ◌∙◌, [], ◌∷◌, ◌++◌, reverse, take, drop}
use Rattle.std.proofs.lemmas.List.{take-append-le, drop-append-le}
use Rattle.rr_tree.specs.Nodes.{trees_before}
use Rattle.rr_eval.specs.declared.call.Target.TheVariants.{Do}
use Rattle.rr_eval.specs.declared.call.Task.TheVariants.{MakeHash}
use Rattle.rr_eval.specs.Frames.{runs_in, unwind, Nested}
use Rattle.rr_eval.specs.Rules.{values, finish, pair_parts}
use Rattle.rr_eval.specs.Turns.{context_of, code_of, state_of}
use Rattle.rr_eval.specs.Views.{view_of}
use Rattle.rr_eval.proofs.Holding.{with_value}
use Rattle.rr_eval.proofs.engine.Engine.keep_value.Goals as goal

pub enter_pair-requires-clause-nested : goal.enter_pair-requires-clause-nested
enter_pair-requires-clause-nested c =
    let m = view_of c.args.self.now in
    let base = c.args.base in
    let below : take base c.push.new.self.items ≡ take base m.held = ap (take base) c.in_ok-push.ensures.items ∙ take-append-le base m.held (c.args.value ∷ []) c.requires.base in
    subst (Nested (reverse m.frames)) (sym below) c.requires.nested

pub returns-clause-goes : goal.returns-clause-goes
returns-clause-goes c t h n =
    let p = c.args.program.now in
    let m = view_of c.args.self.now in
    let s = state_of p m t h in
    let code = code_of p h.world in
    let base = c.args.base in
    let held = c.push.new.self.items in
    let value = c.args.value in
    let parts = pair_parts (trees_before p.nodes.items c.args.end c.args.count) in
    let done = finish (context_of p) (Do MakeHash) in
    let below : take base held ≡ take base m.held = ap (take base) c.in_ok-push.ensures.items ∙ take-append-le base m.held (value ∷ []) c.requires.base in
    let stand : drop base held ≡ drop base m.held ++ value ∷ [] = ap (drop base) c.in_ok-push.ensures.items ∙ drop-append-le base m.held (value ∷ []) c.requires.base in
    ap (λ l. unwind code (reverse m.frames) l (runs_in code (values parts (drop base m.held ++ value ∷ []) done) s n)) (sym below)
    ∙ ap (λ l. unwind code (reverse m.frames) (take base held) (runs_in code (values parts l done) s n)) (sym stand)
    ∙ c.enter_pair.ensures.goes t h n

pub returns-clause-within : goal.returns-clause-within
returns-clause-within c k h value = c.enter_pair.ensures.within k (with_value k (view_of c.args.self.now) _ c.args.value c.in_ok-push.ensures.items h value)
