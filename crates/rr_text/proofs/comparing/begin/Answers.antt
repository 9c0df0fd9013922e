use Rattle.std.proofs.Common.{◌∙◌, ◌<◌, ◌^◌, length, refl, ap, sym, arith}
use Rattle.std.specs.List.{list_any}
use Rattle.std.proofs.lemmas.List.Elements.{All-same, All-push}
use Rattle.rr_text.specs.Comparing.{same_pair}
use Rattle.rr_text.specs.Beside.{resolved, key_of, AreSidesAmong}
use Rattle.rr_text.specs.declared.comparing.Beside.{Beside}
use Rattle.rr_text.proofs.Compares.{begun_again, begun_deep, begun_inside, grown_same, grown_push}
use Rattle.rr_text.proofs.comparing.begin.Goals as goal

pub returns-then-is_above-clause-showed : goal.returns-then-is_above-clause-showed
returns-then-is_above-clause-showed c = λ r e.
    let slots = c.args.space.now.slots in
    let p = resolved slots (record { left = c.args.left; right = c.args.right }) in
    begun_again slots r c.args.levels c.args.frames.now.items p c.args.sides.items e
    (ap (list_any (λ f. same_pair p (key_of slots f))) (sym c.deref.ensures.value) ∙ sym c.is_above.ensures ∙ c.if-is_above.true)

pub returns-then-is_above-clause-grown : goal.returns-then-is_above-clause-grown
returns-then-is_above-clause-grown c = grown_same c.args.levels c.args.frames.now.items c.requires.fit

pub returns-then-len-levels-clause-showed : goal.returns-then-len-levels-clause-showed
returns-then-len-levels-clause-showed c = λ r e.
    let slots = c.args.space.now.slots in
    let p = resolved slots (record { left = c.args.left; right = c.args.right }) in
    begun_deep slots r c.args.levels c.args.frames.now.items p c.args.sides.items e
    (ap (list_any (λ f. same_pair p (key_of slots f))) (sym c.deref.ensures.value) ∙ sym c.is_above.ensures ∙ c.if-is_above.false)
    (omega (arith, c.len.ensures, c.if-len-levels.true))

pub returns-then-len-levels-clause-grown : goal.returns-then-len-levels-clause-grown
returns-then-len-levels-clause-grown c = grown_same c.args.levels c.args.frames.now.items c.requires.fit

pub returns-clause-showed : goal.returns-clause-showed
returns-clause-showed c = λ r e.
    let slots = c.args.space.now.slots in
    let p = resolved slots (record { left = c.args.left; right = c.args.right }) in
    let f : Beside = record { left = c.args.left; right = c.args.right; sides = c.args.sides; next = 0 } in
    begun_inside slots r c.args.levels c.args.frames.now.items p c.args.sides.items e f c.push.new.self.items
    (ap (list_any (λ f. same_pair p (key_of slots f))) (sym c.deref.ensures.value) ∙ sym c.is_above.ensures ∙ c.if-is_above.false)
    (omega (arith, c.len.ensures, c.if-len-levels.false)) refl c.in_ok-push.ensures.items

pub returns-clause-grown : goal.returns-clause-grown
returns-clause-grown c =
    let f : Beside = record { left = c.args.left; right = c.args.right; sides = c.args.sides; next = 0 } in
    let few : length c.args.sides.items < 2 ^ 64 = omega (arith, c.args.sides.ok.0) in
    grown_push c.args.levels c.args.frames.now.items c.push.new.self.items f c.in_ok-push.ensures.items (omega (arith, c.len.ensures, c.if-len-levels.false)) few

pub returns-clause-among : goal.returns-clause-among
returns-clause-among c = λ below all one.
    let f : Beside = record { left = c.args.left; right = c.args.right; sides = c.args.sides; next = 0 } in
    All-same (λ (f : Beside). AreSidesAmong below f.sides.items) _ _ c.in_ok-push.ensures.items
    (All-push (λ (f : Beside). AreSidesAmong below f.sides.items) c.args.frames.now.items f all one)
