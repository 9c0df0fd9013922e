use Rattle.std.proofs.Common.{◌≡◌, ◌∙◌, ◌<◌, ◌+◌, length, get_or, refl, sym, subst, arith}
use Rattle.std.proofs.lemmas.List.{get_or_read}
use Rattle.std.proofs.lemmas.List.Elements.{All-same, All-push}
use Rattle.rr_text.specs.Reads.{IsAmong}
use Rattle.rr_text.specs.Keys.{reading}
use Rattle.rr_text.specs.Beside.{AreSidesAmong, sides_of}
use Rattle.rr_text.specs.declared.beside.Sides.{Sides}
use Rattle.rr_text.specs.declared.comparing.Beside.{Beside}
use Rattle.rr_text.proofs.Compares.{lighter_next, lighter_closed, side_next, sides_end}
use Rattle.rr_text.proofs.comparing.step.Goals as goal

pub returns-then-top-len-clause-stepped : goal.returns-then-top-len-clause-stepped
returns-then-top-len-clause-stepped c = λ below read one.
    sides_end c.args.space.now.slots (reading c.args.space.now below) c.args.levels c.args.frames.now.items c.args.top c.requires.depth (omega (arith, c.len.ensures, c.if-top-len.true))

pub returns-then-top-len-clause-lighter : goal.returns-then-top-len-clause-lighter
returns-then-top-len-clause-lighter c = lighter_closed c.args.levels c.args.frames.now.items c.args.top

pub returns-clause-stepped : goal.returns-clause-stepped
returns-clause-stepped c = λ below read one.
    let slots = c.args.space.now.slots in
    let xs = c.args.top.sides.items in
    let k = c.args.top.next in
    let s : Sides = c.index-values.result.now in
    let f : Beside = record { left = c.args.top.left; right = c.args.top.right; sides = c.args.top.sides; next = c.args.top.next + 1 } in
    let lt : k < length xs = omega (arith, c.len.ensures, c.if-top-len.false) in
    let at : s ≡ get_or xs k s = get_or_read xs _ _ (omega (arith, c.args.top.sides.ok.0)) c.index-values.ensures s in
    let in_at : IsAmong below s.left × IsAmong below s.right = subst (λ (x : Sides). IsAmong below x.left × IsAmong below x.right) (sym at) (one k s lt) in
    side_next slots (reading c.args.space.now below) c.args.levels c.args.frames.now.items c.args.top c.push.new.self.items f s lt at refl c.in_ok-push.ensures.items
    ∙ c.in_ok-now.ensures.showed below read in_at.0 in_at.1

pub returns-clause-among : goal.returns-clause-among
returns-clause-among c = λ below read all one.
    let xs = c.args.top.sides.items in
    let k = c.args.top.next in
    let s : Sides = c.index-values.result.now in
    let f : Beside = record { left = c.args.top.left; right = c.args.top.right; sides = c.args.top.sides; next = c.args.top.next + 1 } in
    let lt : k < length xs = omega (arith, c.len.ensures, c.if-top-len.false) in
    let at : s ≡ get_or xs k s = get_or_read xs _ _ (omega (arith, c.args.top.sides.ok.0)) c.index-values.ensures s in
    let in_at : IsAmong below s.left × IsAmong below s.right = subst (λ (x : Sides). IsAmong below x.left × IsAmong below x.right) (sym at) (one k s lt) in
    c.in_ok-now.ensures.among below read
    (All-same (λ (f : Beside). AreSidesAmong below f.sides.items) _ _ c.in_ok-push.ensures.items (All-push (λ (f : Beside). AreSidesAmong below f.sides.items) c.args.frames.now.items f all one))
    in_at.0 in_at.1

pub returns-clause-lighter : goal.returns-clause-lighter
returns-clause-lighter c =
    let f : Beside = record { left = c.args.top.left; right = c.args.top.right; sides = c.args.top.sides; next = c.args.top.next + 1 } in
    let less : sides_of f < sides_of c.args.top = omega (arith, c.len.ensures, c.if-top-len.false) in
    lighter_next c.args.levels c.args.frames.now.items c.push.new.self.items c.show.new.frames.items c.args.top f c.in_ok-push.ensures.items c.requires.depth less c.in_ok-now.ensures.grown
