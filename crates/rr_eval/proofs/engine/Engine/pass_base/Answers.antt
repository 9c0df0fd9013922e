-- The first statement chooses nothing, or the only one its other part.
use Rattle.std.proofs.Common.{◌≡◌, ◌+◌, ◌-◌, ◌∙◌, ap, arith, suc, sym, subst}
use Rattle.rr_space.specs.declared.refer.Ref.TheVariants.{Nil}
use Rattle.rr_tree.specs.Nodes.{trees_before}
use Rattle.rr_tree.specs.Tree.{tree_at}
use Rattle.rr_tree.specs.declared.node.Node.TheVariants.{Sequence}
use Rattle.rr_eval.specs.declared.frame.Control.TheVariants.{Enter}
use Rattle.rr_eval.specs.BaseCases.{part_of}
use Rattle.rr_eval.specs.Frames.{means}
use Rattle.rr_eval.specs.Nodes.{evaluated_tree}
use Rattle.rr_eval.specs.Rules.{statements}
use Rattle.rr_eval.specs.StraightRounds.{SetsNow}
use Rattle.rr_eval.specs.Turns.{after_script, code_of, remaining, remaining_with, state_of}
use Rattle.rr_eval.specs.Views.{view_of}
use Rattle.rr_eval.specs.Within.{AreReached}
use Rattle.rr_eval.proofs.Bases.{base_chooses, base_passes, other_comes, passed_on}
use Rattle.rr_eval.proofs.Holding.{with_control, with_left}
use Rattle.rr_eval.proofs.engine.Engine.pass_base.Goals as goal

pub returns-clause-goes : goal.returns-clause-goes
returns-clause-goes c = λ t h.
    let p = c.args.prepared.now.program in
    let ns = p.nodes.items in
    let m = view_of c.args.self.now in
    let base = c.args.base.now in
    let first = c.args.first in
    let count = c.args.count in
    let fails = c.requires.fails in
    let more = c.if-count-gt1.true in
    let enough = c.requires.some in
    let rest = count - 2 in
    let k = m.left - 6 in
    let nothing = ap (part_of ns) c.in-None.is in
    let sets = base_passes p m t (tree_at ns base.place) (part_of ns base.otherwise) base.op (record { depth = 0; slot = base.parameter }) base.integer (base.returns, (tree_at ns base.value, base.steps)) fails.0 c.requires.is.0 fails.1 fails.2 nothing in
    let its = subst (λ x. SetsNow p m t (tree_at ns x) 5 Nil m) (sym c.requires.first) sets in
    let many : count ≡ suc (suc rest) = omega (arith, more) in
    let one : suc rest ≡ count - 1 = omega (arith, more) in
    let end : first + count ≡ first + 1 + (count - 1) = omega (arith, more) in
    passed_on p m t c.args.here first count rest k h c.requires.control c.requires.tree its many (omega (arith, enough))
    ∙ ap (λ j. after_script p m t (statements (trees_before ns (first + count) j)) h k) one
    ∙ ap (λ e. after_script p m t (statements (trees_before ns e (count - 1))) h k) end
    ∙ c.begin_list.ensures.goes p t h k
    ∙ ap (λ n. remaining_with p (view_of c.begin_list.new.self) t h (n - 6)) (sym c.begin_list.ensures.left)

pub returns-clause-within : goal.returns-clause-within
returns-clause-within c k h = with_left k (view_of c.begin_list.new.self) _ (c.begin_list.ensures.within k h)

pub returns-2-clause-goes : goal.returns-2-clause-goes
returns-2-clause-goes c = λ t h.
    let p = c.args.prepared.now.program in
    let ns = p.nodes.items in
    let m = view_of c.args.self.now in
    let base = c.args.base.now in
    let first = c.args.first in
    let other = c.in-Some.other in
    let fails = c.requires.fails in
    let enough = c.requires.some in
    let single = c.if-count-eq1.true in
    let one : c.args.count ≡ 1 = omega (arith, single) in
    let k = m.left - 5 in
    let code = code_of p h.world in
    let s = state_of p m t h in
    let goes = base_chooses p m t (tree_at ns base.place) (part_of ns base.otherwise) base.op (record { depth = 0; slot = base.parameter }) base.integer (base.returns, (tree_at ns base.value, base.steps)) fails.0 c.requires.is.0 fails.1 fails.2 h k in
    let its : means code (tree_at ns first) s (4 + k) ≡ means code (tree_at ns other) s k =
    ap (λ x. means code (tree_at ns x) s (4 + k)) c.requires.first ∙ goes ∙ ap (λ o. means code (part_of ns o) s k) c.in-Some.is in
    let is = subst (λ n. tree_at ns c.args.here ≡ evaluated_tree ns (Sequence first n)) one c.requires.tree in
    other_comes p m t c.args.here first other k h c.requires.control is its (omega (arith, enough))
    ∙ ap (λ z. remaining p (record m { control = z; left = k }) t h) (sym c.enter.ensures)

pub returns-2-clause-within : goal.returns-2-clause-within
returns-2-clause-within c k h =
    let m = view_of c.args.self.now in
    subst (λ z. AreReached k (record m { control = z; left = m.left - 5 })) (sym c.enter.ensures) (with_left k (record m { control = Enter c.in-Some.other }) _ (with_control k m (Enter c.in-Some.other) h tt))
