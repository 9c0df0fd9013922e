use Rattle.std.proofs.Common.{◌≡◌, ◌∙◌, ◌<◌, ◌++◌, ◌∷◌, [], length, ◌^◌, ap, refl, arith, rules, subst, sym, List}
use Rattle.std.specs.List.{list_any}
use Rattle.rr_space.specs.Labels.{triples_at}
use Rattle.rr_text.specs.Forms.{spelled, same_key}
use Rattle.rr_text.specs.Frames.{key_of, IsGrown, AreAmong}
use Rattle.rr_text.specs.declared.walk.Frame.{Frame}
use Rattle.rr_text.proofs.Spelling.{spelled_more}
use Rattle.rr_text.proofs.Looking.{again_entered, newly_entered}
use Rattle.rr_text.proofs.Loads.{grown_same, grown_push, among_push}
use Rattle.rr_text.proofs.walk.Walk.enter.Goals as goal

pub returns-in_ok-extend_from_slice-clause-entered : goal.returns-in_ok-extend_from_slice-clause-entered
returns-in_ok-extend_from_slice-clause-entered c =
    let fs = c.args.self.now.frames.items in
    let bytes = c.args.self.now.out.items in
    again_entered c.args.levels c.args.again.now c.args.opening.now c.args.frame fs fs (spelled bytes) (spelled c.extend_from_slice.new.self.items)
    (ap (list_any (λ e. same_key (key_of c.args.frame) (key_of e))) (sym c.deref.ensures.value) ∙ sym c.is_above.ensures ∙ c.if-is_above.true) refl
    (spelled_more bytes c.extend_from_slice.new.self.items c.args.again.now c.in_ok-extend_from_slice.ensures.items)

pub returns-in_ok-push-clause-entered : goal.returns-in_ok-push-clause-entered
returns-in_ok-push-clause-entered c =
    let fs = c.args.self.now.frames.items in
    let bytes = c.args.self.now.out.items in
    newly_entered c.args.levels c.args.again.now c.args.opening.now c.args.frame fs c.push.new.self.items (spelled bytes) (spelled c.extend_from_slice-else-len-levels.new.self.items)
    (ap (list_any (λ e. same_key (key_of c.args.frame) (key_of e))) (sym c.deref.ensures.value) ∙ sym c.is_above.ensures ∙ c.if-is_above.false)
    (omega (arith, c.len.ensures, c.if-len-levels.false)) c.in_ok-push.ensures.items
    (spelled_more bytes c.extend_from_slice-else-len-levels.new.self.items c.args.opening.now c.in_ok-extend_from_slice-2.ensures.items)

pub returns-in_ok-extend_from_slice-clause-grown : goal.returns-in_ok-extend_from_slice-clause-grown
returns-in_ok-extend_from_slice-clause-grown c = grown_same c.args.space.now c.args.levels c.args.self.now.frames.items c.requires.fit

pub returns-then-len-levels-clause-grown : goal.returns-then-len-levels-clause-grown
returns-then-len-levels-clause-grown c = grown_same c.args.space.now c.args.levels c.args.self.now.frames.items c.requires.fit

pub returns-in_ok-push-clause-grown : goal.returns-in_ok-push-clause-grown
returns-in_ok-push-clause-grown c =
    let is : c.push.new.self.items ≡ c.args.self.now.frames.items ++ c.args.frame ∷ [] = search rules in
    let fits : length c.args.self.now.frames.items < c.args.levels = omega (arith, c.len.ensures, c.if-len-levels.false) in
    let few : length (triples_at c.args.space.now c.args.frame.object) < 2 ^ 64 = omega (arith, c.arity-parts.ensures.count) in
    subst (λ (xs : List Frame). IsGrown c.args.space.now c.args.levels c.args.self.now.frames.items xs) (sym is)
    (grown_push c.args.space.now c.args.levels c.args.self.now.frames.items c.args.frame c.requires.fit c.requires.end fits few)

pub returns-in_ok-push-clause-among : goal.returns-in_ok-push-clause-among
returns-in_ok-push-clause-among c = λ below all one.
    let is : c.push.new.self.items ≡ c.args.self.now.frames.items ++ c.args.frame ∷ [] = search rules in
    subst (λ (xs : List Frame). AreAmong below xs) (sym is) (among_push below c.args.self.now.frames.items c.args.frame all one)
