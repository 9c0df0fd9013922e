-- One value more is held.
use Rattle.std.proofs.Common.{◌≡◌, ◌∙◌, ◌-◌, ◌≤◌, ◌++◌, ◌∷◌, [], ap, refl, arith, length, length-append, drop}
use Rattle.std.proofs.lemmas.List.{take_all, drop_all, drop-append-le}
use Rattle.rr_tree.specs.Nodes.{trees_before}
use Rattle.rr_tree.specs.Tree.{tree_at}
use Rattle.rr_eval.specs.Views.{view_of}
use Rattle.rr_eval.specs.Within.{reach, IsReached}
use Rattle.rr_eval.proofs.Changing.{changes_none, changes_trans}
use Rattle.rr_eval.proofs.Holding.{all_cons, all_nil, reached_more}
use Rattle.rr_eval.proofs.MadeTexts.{made_more, makes_before}
use Rattle.rr_eval.proofs.QuickParts.{first_none, holds_more}
use Rattle.rr_eval.proofs.Splatted.{items_reached}
use Rattle.rr_eval.proofs.engine.Engine.hold_made.Goals as goal

pub loop-rest-init : goal.loop-rest-init
loop-rest-init c =
    let m = view_of c.args.self.now in
    let at = length m.held in
    record {
      makes = first_none c.args.prepared.now.program m c.args.space.now (trees_before c.args.prepared.now.program.nodes.items c.args.end c.args.count) (drop at m.held) (drop_all at m.held (omega arith));
      fewer = omega arith;
      rest = refl;
      room = c.requires.space;
      enough = omega arith;
      holds = record { control = refl; frames = refl; held = take_all at m.held (omega arith); calls = refl; blocks = refl; rescuing = refl; left = refl };
      reached = λ clusters h. h;
      read = λ below read. read;
      frames = refl;
      limit = refl;
      changed = changes_none c.args.space.now;
    }

pub loop-rest-preserved : goal.loop-rest-preserved
loop-rest-preserved c =
    let p = c.args.prepared.now.program in
    let m = view_of c.args.self.now in
    let n = view_of c.loop-rest.self in
    let now = c.loop-rest.invariant in
    let found = c.in-Some.found in
    let v = found.value in
    let at = length m.held in
    let place = c.saturating_sub-place.result in
    let rest = c.loop-rest.rest in
    let all = c.push_reserved.new.self.items in
    let pushed : all ≡ n.held ++ v ∷ [] = c.push_reserved.ensures.items in
    let le : at ≤ length n.held = omega arith in
    let enough = c.in-Some.ensures.enough in
    let left = now.holds.left in
    let size = ap length pushed ∙ length-append n.held (v ∷ []) in
    let t = c.args.space.now in
    let u = c.loop-rest.space in
    let w = c.part_or_text.new.space in
    let its = makes_before p m n u w (tree_at p.nodes.items place) found.steps v now.holds c.in-Some.ensures.makes in
    record {
      makes = made_more p m t u w (trees_before p.nodes.items c.args.end c.args.count) c.args.end c.loop-rest.steps rest found.steps place (rest - 1) (drop at n.held) (drop at all) v now.makes (omega arith) c.saturating_sub-place.ensures refl (ap (drop at) pushed ∙ drop-append-le at n.held (v ∷ []) le) c.in-Some.ensures.plain its;
      fewer = omega arith;
      rest = omega (arith, size);
      room = omega (arith, size);
      enough = omega (arith, enough, left);
      holds = holds_more m n all v now.holds le pushed;
      reached = λ clusters h.
          let k = reach (length w.slots) clusters in
          items_reached k n all (v ∷ []) pushed (reached_more (length u.slots) (length w.slots) clusters c.in-Some.ensures.changed.grows n (now.reached clusters h)) (all_cons (IsReached k) v [] (c.in-Some.ensures.within clusters (now.reached clusters h)) (all_nil (IsReached k)));
      read = λ below read. c.in-Some.ensures.read below (now.read below read);
      frames = now.frames;
      limit = c.in-Some.ensures.limit ∙ now.limit;
      changed = changes_trans t u w now.changed c.in-Some.ensures.changed;
    }

pub returns-in-None-clause-read : goal.returns-in-None-clause-read
returns-in-None-clause-read c below read = c.part_or_text.ensures.read below (c.loop-rest.invariant.read below read)
