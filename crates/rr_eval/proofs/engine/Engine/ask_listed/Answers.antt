-- The task is asked with the values that were held, and they go.
use Rattle.std.proofs.Common.{◌≡◌, ◌∙◌, ◌+◌, ◌-◌, ap, sym, subst, refl, arith, drop, length}
use Rattle.rr_tree.specs.Nodes.{trees_before}
use Rattle.rr_tree.specs.Tree.{tree_at}
use Rattle.rr_eval.specs.Requests.{arguments_of}
use Rattle.rr_eval.specs.Rules.{rule}
use Rattle.rr_eval.specs.Script.{Does}
use Rattle.rr_eval.specs.Turns.{context_of, IsNested, asking_with}
use Rattle.rr_eval.specs.View.{View}
use Rattle.rr_eval.specs.Views.{view_of}
use Rattle.rr_eval.specs.Within.{reach, AreReached}
use Rattle.rr_eval.proofs.Holding.{with_left}
use Rattle.rr_eval.proofs.QuickParts.{view_back}
use Rattle.rr_eval.proofs.QuickTasks.{list_comes, task_asked}
use Rattle.rr_eval.proofs.engine.Engine.ask_listed.Goals as goal

pub returns-clause-goes : goal.returns-clause-goes
returns-clause-goes c h =
    let p = c.args.prepared.now.program in
    let ns = p.nodes.items in
    let own = context_of p in
    let m = view_of c.args.self.now in
    let n = view_of c.hold_parts-parts.new.self in
    let t = c.args.space.now in
    let parts = c.hold_parts-parts.result in
    let base = c.len-base.result in
    let end = c.args.first + c.args.count in
    let held = c.truncate-2.new.self.items in
    let ws = drop (length m.held) n.held in
    let k = m.left - (parts.steps + 1) in
    let at : base ≡ length m.held = omega arith in
    let none : parts.rest ≡ 0 = c.in-Some.ensures.all in
    let are : ws ≡ arguments_of c.in-Some.values = ap (λ b. drop b n.held) (sym at) ∙ sym c.in-Some.ensures.are in
    let back = view_back m n n base held at c.hold_parts-parts.ensures.holds refl c.truncate-2.ensures.items in
    let enough = c.hold_parts-parts.ensures.enough in
    let left = c.hold_parts-parts.ensures.holds.left in
    let spent : k ≡ n.left - parts.steps - 1 = omega (arith, left) in
    task_asked p m t c.args.here parts.steps c.args.task ws h c.requires.control (list_comes p m t (rule own (tree_at ns c.args.here)) (trees_before ns end c.args.count) end parts.rest parts.steps ws c.args.task c.requires.script c.hold_parts-parts.ensures.takes none) (c.if-not-asks_nobody.ensures refl ws) (omega (arith, enough))
    ∙ ap (λ vs. asking_with p m t (Does c.args.task vs t) h k) are
    ∙ ap (λ (v : View). asking_with p v t (Does c.args.task (arguments_of c.in-Some.values) t) h k) (sym back)
    ∙ ap (asking_with p (record n { held = held }) t (Does c.args.task (arguments_of c.in-Some.values) t) h) spent

pub returns-clause-nested : goal.returns-clause-nested
returns-clause-nested c =
    let m = view_of c.args.self.now in
    let n = view_of c.hold_parts-parts.new.self in
    let at : c.len-base.result ≡ length m.held = omega arith in
    subst IsNested (sym (view_back m n n c.len-base.result c.truncate-2.new.self.items at c.hold_parts-parts.ensures.holds refl c.truncate-2.ensures.items)) c.requires.nested

pub returns-clause-within : goal.returns-clause-within
returns-clause-within c clusters h =
    let k = reach (length c.args.space.now.slots) clusters in
    let m = view_of c.args.self.now in
    let n = view_of c.hold_parts-parts.new.self in
    let at : c.len-base.result ≡ length m.held = omega arith in
    with_left k (record n { held = c.truncate-2.new.self.items }) _ (subst (AreReached k) (sym (view_back m n n c.len-base.result c.truncate-2.new.self.items at c.hold_parts-parts.ensures.holds refl c.truncate-2.ensures.items)) h)

pub returns-clause-asks : goal.returns-clause-asks
returns-clause-asks c clusters h =
    let k = reach (length c.args.space.now.slots) clusters in
    c.in-Some.ensures.within k (c.hold_parts-parts.ensures.within clusters h)
