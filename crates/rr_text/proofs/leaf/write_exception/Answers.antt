use Rattle.std.proofs.Common.{◌≡◌, ◌++◌, [], length, true, false, refl, ap, sym, subst, arith}
use Rattle.std.proofs.lemmas.List.{length-append}
use Rattle.rr_text.specs.Walk.{Walked}
use Rattle.rr_text.specs.Forms.{Names, exception_written, within_text}
use Rattle.rr_text.specs.Told.{IsLeafWritten}
use Rattle.rr_text.specs.Ways.{way_of}
use Rattle.rr_text.proofs.leaf.write_exception.Goals as goal

pub returns-in_ok-push_exception-in-Text-clause-written : goal.returns-in_ok-push_exception-in-Text-clause-written
returns-in_ok-push_exception-in-Text-clause-written c = λ names n below is read among.
    subst (λ (w : Walked). IsLeafWritten (within_text (exception_written names (way_of c.args.form) n) w) true c.args.out.now.items c.push_exception.new.out.items)
    (c.in-Text.ensures names n below read among) (refl, c.in_ok-push_exception-in-Text.ensures names n is)

pub returns-in_ok-push_exception-in-Name-clause-written : goal.returns-in_ok-push_exception-in-Name-clause-written
returns-in_ok-push_exception-in-Name-clause-written c = λ names n below is read among.
    subst (λ (w : Walked). IsLeafWritten (within_text (exception_written names (way_of c.args.form) n) w) true c.args.out.now.items c.push_exception-in-Name.new.out.items)
    (c.in-Name.ensures names n below read among) (refl, subst (λ s. c.push_exception-in-Name.new.out.items ≡ c.args.out.now.items ++ exception_written names (way_of c.args.form) n s) (sym is) (c.in_ok-push_exception-in-Name.ensures names n is))

pub returns-in-Shell-clause-written : goal.returns-in-Shell-clause-written
returns-in-Shell-clause-written c = λ names n below is read among.
    subst (λ (w : Walked). IsLeafWritten (within_text (exception_written names (way_of c.args.form) n) w) false c.args.out.now.items c.args.out.now.items)
    (c.in-Shell.ensures names n below read among) refl

-- written for a class of this name, whatever its number
pub returns-in_ok-push_exception-in-Text-clause-longer : goal.returns-in_ok-push_exception-in-Text-clause-longer
returns-in_ok-push_exception-in-Text-clause-longer c =
    let names : Names = record { symbol = λ s. []; class = λ s. c.args.class.now } in
    omega (arith, ap length (c.in_ok-push_exception-in-Text.ensures names 0 refl), length-append c.args.out.now.items (exception_written names (way_of c.args.form) 0 c.in-Text.message.now))

pub returns-in_ok-push_exception-in-Name-clause-longer : goal.returns-in_ok-push_exception-in-Name-clause-longer
returns-in_ok-push_exception-in-Name-clause-longer c =
    let names : Names = record { symbol = λ s. []; class = λ s. c.args.class.now } in
    omega (arith, ap length (c.in_ok-push_exception-in-Name.ensures names 0 refl), length-append c.args.out.now.items (exception_written names (way_of c.args.form) 0 c.args.class.now))
