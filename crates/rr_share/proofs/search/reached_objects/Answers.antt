use Rattle.std.proofs.Common.{IsTrue, inr, refl}
use Rattle.rr_space.specs.Parts.{value_of}
use Rattle.rr_space.specs.Tables.{resolve}
use Rattle.rr_share.proofs.Solids.{shell_reached, free_of_shells}
use Rattle.rr_share.proofs.search.reached_objects.Goals as goal

pub returns-then-has_shell-clause-fault : goal.returns-then-has_shell-clause-fault
returns-then-has_shell-clause-fault c =
    let t = c.args.space.now in
    inr (
      refl,
      (let s = c.has_shell.ensures.0 c.if-has_shell.true in
          shell_reached t c.len-slots.ensures.well.sound (resolve t.slots (value_of c.args.root)) s.0 ((c.in_ok-found.ensures.exact s.0).0 s.1) s.2),
    )

pub returns-then-has_shell-clause-grows : goal.returns-then-has_shell-clause-grows
returns-then-has_shell-clause-grows c = let s = c.has_shell.ensures.0 c.if-has_shell.true in c.in_ok-found.ensures.local s.0 s.1

pub returns-clause-within : goal.returns-clause-within
returns-clause-within c below n w =
    let h = c.in_ok-found.ensures.within below n w in
    (h.0, h.1, λ e. let yes : IsTrue c.has_shell.result = c.has_shell.ensures.1 (n, w, (h.0, h.1, e)) in let no = c.if-has_shell.false in absurd (cc))

pub returns-clause-free : goal.returns-clause-free
returns-clause-free c =
    let t = c.args.space.now in
    free_of_shells t c.len-slots.ensures.well.sound (resolve t.slots (value_of c.args.root))
    (λ n reach at. let yes : IsTrue c.has_shell.result = c.has_shell.ensures.1 (n, (c.in_ok-found.ensures.exact n).1 reach, at) in let no = c.if-has_shell.false in absurd (cc))
