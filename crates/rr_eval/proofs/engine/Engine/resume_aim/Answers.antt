-- The value of a part is kept behind those before it.
use Rattle.std.proofs.Common.{◌∙◌, ◌++◌, List, ◌∷◌, [], ap, subst, drop, take, reverse}
use Rattle.rr_space.specs.declared.refer.Ref.{Ref}
use Rattle.rr_tree.specs.Nodes.{trees_before}
use Rattle.rr_tree.specs.Tree.{tree_at}
use Rattle.rr_eval.specs.Basics.{values, with_value}
use Rattle.rr_eval.specs.Frames.{Nested, option_trees, runs_in, unwind}
use Rattle.rr_eval.specs.Several.{all_parts, several}
use Rattle.rr_eval.specs.Turns.{context_of, code_of, state_of}
use Rattle.rr_eval.specs.Views.{view_of}
use Rattle.rr_eval.proofs.Holding.{with_value as value_held}
use Rattle.rr_eval.proofs.Spots.{below_more, above_more}
use Rattle.rr_eval.proofs.engine.Engine.resume_aim.Goals as goal

pub aim_on-requires-clause-nested : goal.aim_on-requires-clause-nested
aim_on-requires-clause-nested c =
    let m = view_of c.args.self.now in
    subst (λ l. Nested (reverse m.frames) l) (below_more c.args.aiming.base m.held c.push.new.self.items (c.args.value ∷ []) c.in_ok-push.ensures.items c.requires.base) c.requires.nested

pub returns-clause-goes : goal.returns-clause-goes
returns-clause-goes c t h n =
    let p = c.args.program.now in
    let ns = p.nodes.items in
    let m = view_of c.args.self.now in
    let x = c.args.aiming in
    let code = code_of p h.world in
    let s = state_of p m t h in
    let v = c.args.value in
    let all = c.push.new.self.items in
    let push = c.in_ok-push.ensures.items in
    let parts = option_trees ns x.index ++ all_parts (trees_before ns x.end x.left) in
    let goes = λ (stand : List Ref). runs_in code (values parts stand (λ ps. with_value (tree_at ns x.value) (several (context_of p) (trees_before ns x.end x.count) ps))) s n in
    ap (λ l. unwind code (reverse m.frames) l (goes (drop x.base m.held ++ v ∷ []))) (below_more x.base m.held all (v ∷ []) push c.requires.base)
    ∙ ap (λ l. unwind code (reverse m.frames) (take x.base all) (goes l)) (above_more x.base m.held all (v ∷ []) push c.requires.base)
    ∙ c.aim_on.ensures.goes t h n

pub returns-clause-within : goal.returns-clause-within
returns-clause-within c k h value = c.aim_on.ensures.within k (value_held k (view_of c.args.self.now) c.push.new.self.items c.args.value c.in_ok-push.ensures.items h value)
