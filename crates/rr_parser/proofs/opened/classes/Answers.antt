use Rattle.std.proofs.Common.{◌≡◌, sym, ap, ◌∙◌, length, arith}
use Rattle.std.specs.Prelude.{slice_get}
use Rattle.rr_parser.proofs.Openings.{class_more}
use Rattle.rr_parser.proofs.opened.classes.Goals as goal

pub loop-name-preserved : goal.loop-name-preserved
loop-name-preserved c =
    let n : length c.loop-name.classes.items ≡ c.len-in-loop-name.result = omega (arith, c.len-in-loop-name.ensures, c.loop-name.classes.ok) in
    class_more c.args.entries.now.entries _ _ (c.in-Some.name.now, c.in-Some.superclass.now) c.loop-name.invariant (ap (slice_get c.args.entries.now.entries) n ∙ sym c.in-Some.ensures.entry) c.in_ok-push.ensures.items
