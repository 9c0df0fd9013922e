-- A round is what the rule of a loop says.
use Rattle.std.proofs.Common.{◌≡◌, ◌+◌, ◌-◌, ◌∙◌, ◌++◌, ◌∷◌, [], suc, ℕ, ap, sym, subst, refl, arith, length, true, false}
use Rattle.rr_tree.specs.Nodes.{trees_before}
use Rattle.rr_eval.specs.declared.engine.Engine.{Engine}
use Rattle.rr_eval.specs.declared.frame.Frame.TheVariants.{Body}
use Rattle.rr_eval.specs.Rules.{statements}
use Rattle.rr_eval.specs.StraightRounds.{SetFirst}
use Rattle.rr_eval.specs.Turns.{remaining, after_script}
use Rattle.rr_eval.specs.Values.{goes_on}
use Rattle.rr_eval.specs.Views.{view_of}
use Rattle.rr_eval.specs.Within.{reach}
use Rattle.rr_eval.proofs.Holding.{with_left}
use Rattle.rr_eval.proofs.StraightRounds.{loop_over, round_again, round_left, loop_script}
use Rattle.rr_eval.proofs.engine.Engine.go_straight.Goals as goal

pub returns-then-not-goes_on-clause-goes : goal.returns-then-not-goes_on-clause-goes
returns-then-not-goes_on-clause-goes c h =
    let p = c.args.prepared.now.program in
    let m = view_of c.args.self.now in
    let tested = c.in-Some.tested in
    let few = c.in-Some.ensures.few in
    let ends : goes_on c.args.until tested.value ≡ false = sym c.goes_on.ensures ∙ c.if-not-goes_on.true in
    loop_over p m c.args.space.now c.args.here c.args.condition c.args.body tested.steps (m.left - (tested.steps + 1)) c.args.until tested.value h c.requires.control
    (loop_script p c.args.here c.args.until c.args.condition c.args.body c.requires.tree) c.in-Some.ensures.takes (omega (arith, few)) ends refl

pub returns-then-not-goes_on-clause-within : goal.returns-then-not-goes_on-clause-within
returns-then-not-goes_on-clause-within c clusters h = with_left (reach (length c.args.space.now.slots) clusters) (view_of c.args.self.now) _ h

pub returns-in-0-clause-goes : goal.returns-in-0-clause-goes
returns-in-0-clause-goes c h =
    let p = c.args.prepared.now.program in
    let old = c.args.self.now in
    let m = view_of old in
    let t = c.args.space.now in
    let tested = c.in-Some.tested in
    let few = c.in-Some.ensures.few in
    let done = c.do_statements-done.result in
    let new = c.do_statements-done.new.self in
    let less = c.do_statements-done.ensures.few in
    let others = c.do_statements-done.ensures.others in
    let end = c.args.first + c.args.count in
    let goes : goes_on c.args.until tested.value ≡ true = sym c.goes_on.ensures ∙ c.if-not-goes_on.false in
    let none = subst (λ k. SetFirst p m t end c.args.count k done.steps done.value (view_of new)) c.in-0.is c.do_statements-done.ensures.sets in
    let all = subst (λ (e : Engine). SetFirst p m t end c.args.count 0 done.steps done.value (view_of e)) others none in
    let left : new.left ≡ m.left = ap (λ (e : Engine). e.left) others in
    let k = new.left - (done.steps + tested.steps + 2) in
    round_again p m (view_of (record old { calls = new.calls })) t c.args.here c.args.condition c.args.body tested.steps end c.args.count done.steps k c.args.until tested.value done.value h c.requires.control
    (loop_script p c.args.here c.args.until c.args.condition c.args.body c.requires.tree) c.in-Some.ensures.takes goes c.requires.list all (omega (arith, few, less, left))
    ∙ ap (λ (e : Engine). remaining p (record (view_of e) { left = k }) t h) (sym others)

pub returns-in_default-rest-clause-goes : goal.returns-in_default-rest-clause-goes
returns-in_default-rest-clause-goes c h =
    let p = c.args.prepared.now.program in
    let ns = p.nodes.items in
    let old = c.args.self.now in
    let m = view_of old in
    let t = c.args.space.now in
    let tested = c.in-Some.tested in
    let few = c.in-Some.ensures.few in
    let done = c.do_statements-done.result in
    let new = c.do_statements-done.new.self in
    let less = c.do_statements-done.ensures.few in
    let others = c.do_statements-done.ensures.others in
    let end = c.args.first + c.args.count in
    let goes : goes_on c.args.until tested.value ≡ true = sym c.goes_on.ensures ∙ c.if-not-goes_on.false in
    let more = done.rest - 1 in
    let some : done.rest ≡ suc more = omega arith in
    let first = subst (λ k. SetFirst p m t end c.args.count k done.steps done.value (view_of new)) some c.do_statements-done.ensures.sets in
    let all = subst (λ (e : Engine). SetFirst p m t end c.args.count (suc more) done.steps done.value (view_of e)) others first in
    let left : new.left ≡ m.left = ap (λ (e : Engine). e.left) others in
    let k = new.left - (done.steps + tested.steps + 2) in
    let waiting = λ (e : Engine) (r : ℕ). after_script p (record (view_of e) { frames = e.frames.items ++ Body c.args.here ∷ []; left = k }) t (statements (trees_before ns end r)) h k in
    round_left p m (view_of (record old { calls = new.calls })) t c.args.here c.args.condition c.args.body tested.steps end c.args.count more done.steps k c.args.until tested.value done.value h c.requires.control
    (loop_script p c.args.here c.args.until c.args.condition c.args.body c.requires.tree) c.in-Some.ensures.takes goes c.requires.list all (omega (arith, few, less, left))
    ∙ ap (λ (e : Engine). waiting e (suc more)) (sym others)
    ∙ ap (waiting new) (sym some)

pub returns-in-0-clause-within : goal.returns-in-0-clause-within
returns-in-0-clause-within c clusters h =
    with_left (reach (length c.args.space.now.slots) clusters) (view_of c.do_statements-done.new.self) _ (c.do_statements-done.ensures.within clusters h)

pub returns-in_default-rest-clause-within : goal.returns-in_default-rest-clause-within
returns-in_default-rest-clause-within c clusters h =
    with_left (reach (length c.args.space.now.slots) clusters) (view_of c.do_statements-done.new.self) _ (c.do_statements-done.ensures.within clusters h)
