-- One value more is held.
use Rattle.std.proofs.Common.{◌≡◌, ◌∙◌, ◌-◌, ◌≤◌, ◌++◌, ◌∷◌, [], ap, refl, arith, length, length-append, drop}
use Rattle.std.proofs.lemmas.List.{take_all, drop_all, drop-append-le}
use Rattle.rr_tree.specs.Nodes.{trees_before}
use Rattle.rr_tree.specs.Tree.{tree_at}
use Rattle.rr_eval.specs.Views.{view_of}
use Rattle.rr_eval.specs.Within.{reach, IsReached}
use Rattle.rr_eval.proofs.Holding.{all_cons, all_nil}
use Rattle.rr_eval.proofs.QuickParts.{first_none, first_more, takes_before, holds_more}
use Rattle.rr_eval.proofs.Splatted.{items_reached}
use Rattle.rr_eval.proofs.engine.Engine.hold_parts.Goals as goal

pub loop-rest-init : goal.loop-rest-init
loop-rest-init c =
    let m = view_of c.args.self.now in
    let at = length m.held in
    record {
      takes = first_none c.args.prepared.now.program m c.args.space.now (trees_before c.args.prepared.now.program.nodes.items c.args.end c.args.count) (drop at m.held) (drop_all at m.held (omega arith));
      fewer = omega arith;
      rest = refl;
      space = c.requires.space;
      enough = omega arith;
      holds = record { control = refl; frames = refl; held = take_all at m.held (omega arith); calls = refl; blocks = refl; rescuing = refl; left = refl };
      reached = λ clusters h. h;
      room = refl;
    }

pub loop-rest-preserved : goal.loop-rest-preserved
loop-rest-preserved c =
    let p = c.args.prepared.now.program in
    let m = view_of c.args.self.now in
    let n = view_of c.loop-rest.self in
    let now = c.loop-rest.invariant in
    let found = c.in-Some.found in
    let v = found.value in
    let at = length m.held in
    let place = c.saturating_sub.result in
    let rest = c.loop-rest.rest in
    let all = c.push_reserved.new.self.items in
    let pushed : all ≡ n.held ++ v ∷ [] = c.push_reserved.ensures.items in
    let le : at ≤ length n.held = omega arith in
    let enough = c.in-Some.ensures.enough in
    let left = now.holds.left in
    let size = ap length pushed ∙ length-append n.held (v ∷ []) in
    let t = c.args.space.now in
    let its = takes_before p m n t (tree_at p.nodes.items place) found.steps v now.holds c.in-Some.ensures.takes in
    record {
      takes = first_more p m t (trees_before p.nodes.items c.args.end c.args.count) c.args.end c.loop-rest.steps rest found.steps place (rest - 1) (drop at n.held) (drop at all) v now.takes (omega arith) c.saturating_sub.ensures refl (ap (drop at) pushed ∙ drop-append-le at n.held (v ∷ []) le) c.in-Some.ensures.plain its;
      fewer = omega arith;
      rest = omega (arith, size);
      space = omega (arith, size);
      enough = omega (arith, enough, left);
      holds = holds_more m n all v now.holds le pushed;
      reached = λ clusters h.
          let k = reach (length t.slots) clusters in
          items_reached k n all (v ∷ []) pushed (now.reached clusters h) (all_cons (IsReached k) v [] (c.in-Some.ensures.within clusters (now.reached clusters h)) (all_nil (IsReached k)));
      room = now.room;
    }
