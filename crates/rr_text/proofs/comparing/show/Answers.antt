use Rattle.std.proofs.Common.{◌∙◌, sym, ap, subst}
use Rattle.rr_text.specs.Keys.{reading}
use Rattle.rr_text.specs.Beside.{resolved, look_of, IsSightKnown}
use Rattle.rr_text.specs.declared.sight.Sight.{Sight}
use Rattle.rr_text.proofs.Compares.{told_now, grown_same, sides_known}
use Rattle.rr_text.proofs.comparing.show.Goals as goal

pub returns-in-Decided-clause-showed : goal.returns-in-Decided-clause-showed
returns-in-Decided-clause-showed c = λ below read left right.
    let t = c.args.space.now in
    told_now t.slots (reading t below) c.args.levels c.args.frames.now.items (resolved t.slots c.args.values) c.in-Decided.now
    (sym (ap (look_of t.slots (resolved t.slots c.args.values)) (sym c.in-Decided.is) ∙ c.in_ok-now.ensures.is below read left right))

pub returns-in-Decided-clause-grown : goal.returns-in-Decided-clause-grown
returns-in-Decided-clause-grown c = grown_same c.args.levels c.args.frames.now.items c.requires.fit

pub returns-in_ok-now-in-Inside-clause-showed : goal.returns-in_ok-now-in-Inside-clause-showed
returns-in_ok-now-in-Inside-clause-showed c = λ below read left right.
    let t = c.args.space.now in
    c.in_ok-now-in-Inside.ensures.showed (reading t below)
    (sym (ap (look_of t.slots (resolved t.slots c.args.values)) (sym c.in-Inside.is) ∙ c.in_ok-now.ensures.is below read left right))

pub returns-in_ok-now-in-Inside-clause-among : goal.returns-in_ok-now-in-Inside-clause-among
returns-in_ok-now-in-Inside-clause-among c = λ below read all left right.
    let t = c.args.space.now in
    c.in_ok-now-in-Inside.ensures.among below all
    (sides_known t below c.args.values.left c.args.values.right c.in-Inside.sides.items read left right
    (subst (λ (s : Sight). IsSightKnown t c.args.values.left c.args.values.right s) c.in-Inside.is c.in_ok-now.ensures.known))
