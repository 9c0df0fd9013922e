-- A key and its value more are held.
use Rattle.std.proofs.Common.{◌≡◌, ◌∙◌, ◌-◌, ◌++◌, ◌∷◌, [], ap, refl, arith, length, length-append, drop}
use Rattle.std.proofs.lemmas.List.{take_all, drop_all, append_assoc, drop-append-le}
use Rattle.rr_tree.specs.Nodes.{trees_before}
use Rattle.rr_tree.specs.Tree.{tree_at}
use Rattle.rr_eval.specs.Rules.{key_part, value_part, pair_parts}
use Rattle.rr_eval.specs.Views.{view_of}
use Rattle.rr_eval.specs.Within.{reach, IsReached}
use Rattle.rr_eval.proofs.Holding.{all_cons, all_nil}
use Rattle.rr_eval.proofs.QuickParts.{takes_before, holds_more}
use Rattle.rr_eval.proofs.QuickTasks.{pairs_none, pairs_more}
use Rattle.rr_eval.proofs.Splatted.{items_reached}
use Rattle.rr_eval.proofs.engine.Engine.hold_pairs.Goals as goal

pub loop-rest-init : goal.loop-rest-init
loop-rest-init c =
    let m = view_of c.args.self.now in
    let at = length m.held in
    record {
      takes = pairs_none c.args.prepared.now.program m c.args.space.now (pair_parts (trees_before c.args.prepared.now.program.nodes.items c.args.end c.args.count)) (drop at m.held) (drop_all at m.held (omega arith));
      fewer = omega arith;
      grows = omega arith;
      space = c.requires.space;
      enough = omega arith;
      holds = record { control = refl; frames = refl; held = take_all at m.held (omega arith); calls = refl; blocks = refl; rescuing = refl; left = refl };
      reached = λ clusters h. h;
    }

pub loop-rest-preserved : goal.loop-rest-preserved
loop-rest-preserved c =
    let p = c.args.prepared.now.program in
    let ns = p.nodes.items in
    let m = view_of c.args.self.now in
    let n = view_of c.loop-rest.self in
    let t = c.args.space.now in
    let now = c.loop-rest.invariant in
    let pair = c.in-Some in
    let key = pair.key in
    let value = pair.value in
    let at = length m.held in
    let place = c.saturating_sub-place.result in
    let rest = c.loop-rest.rest in
    let ones = c.push_reserved.new.self.items in
    let all = c.push_reserved-in-Some.new.self.items in
    let one : ones ≡ n.held ++ key.value ∷ [] = c.push_reserved.ensures.items in
    let two : all ≡ ones ++ value.value ∷ [] = c.push_reserved-in-Some.ensures.items in
    let both : all ≡ n.held ++ key.value ∷ value.value ∷ [] = two ∙ ap (λ l. l ++ value.value ∷ []) one ∙ append_assoc n.held (key.value ∷ []) (value.value ∷ []) in
    let grows = now.grows in
    let space = now.space in
    let fewer = now.fewer in
    let size = ap length both ∙ length-append n.held (key.value ∷ value.value ∷ []) in
    let more = ap length one ∙ length-append n.held (key.value ∷ []) in
    let enough = pair.ensures.enough in
    let left = now.holds.left in
    let first = takes_before p m n t (key_part (tree_at ns place)) key.steps key.value now.holds pair.ensures.key in
    let second = takes_before p m n t (value_part (tree_at ns place)) value.steps value.value now.holds pair.ensures.value in
    let held_one = holds_more m n ones key.value now.holds grows one in
    record {
      takes = pairs_more p m t (pair_parts (trees_before ns c.args.end c.args.count)) c.args.end c.loop-rest.steps key.steps value.steps rest place (rest - 1) (drop at n.held) (drop at all) key.value value.value now.takes (omega arith) c.saturating_sub-place.ensures refl (ap (drop at) both ∙ drop-append-le at n.held (key.value ∷ value.value ∷ []) grows) first second;
      fewer = omega (arith, fewer);
      grows = omega (arith, size, grows);
      space = omega (arith, size, space);
      enough = omega (arith, enough, left);
      holds = holds_more m (record n { held = ones }) all value.value held_one (omega (arith, more, grows)) two;
      reached = λ clusters h.
          let k = reach (length t.slots) clusters in
          let is = pair.ensures.within clusters (now.reached clusters h) in
          items_reached k n all (key.value ∷ value.value ∷ []) both (now.reached clusters h) (all_cons (IsReached k) key.value (value.value ∷ []) is.0 (all_cons (IsReached k) value.value [] is.1 (all_nil (IsReached k))));
    }
