use Rattle.std.proofs.Common.{false}
use Rattle.std.proofs.lemmas.Result.{err_from_is_err_and}
use Rattle.rr_parser.specs.Grammar.Programs.{with_entry}
use Rattle.rr_parser.specs.Reading.Sequences.{row}
use Rattle.rr_parser.specs.Reading.Programs.{entry_of}
use Rattle.rr_parser.specs.Reading.{readers}
use Rattle.rr_parser.specs.Meets.{entries, outlines}
use Rattle.rr_parser.proofs.Looks.{Steps-row}
use Rattle.rr_parser.proofs.Programs.{entry_shrinks}
use Rattle.rr_parser.proofs.Making.{goes_ends, goes_fails, goes_smaller}
use Rattle.rr_parser.proofs.Outlines.{outline_begins, outline_on}
use Rattle.rr_parser.proofs.parser.Parser.entries.Goals as goal

pub loop-after-init : goal.loop-after-init
loop-after-init c =
    outline_begins (readers false c.args.depth) (entry_shrinks false c.args.depth) _ _ _ c.new-outline.result c.push.new.self _ _ c.new-outline.ensures.definitions c.new-outline.ensures.statements c.in_ok-first.ensures c.in_ok-push.ensures

pub loop-after-preserved : goal.loop-after-preserved
loop-after-preserved c =
    outline_on (readers false c.args.depth) (entry_shrinks false c.args.depth) _ _ _ _ _ _ _ _ _ _ c.loop-after.invariant c.in-Some.ensures c.in_ok-next.ensures c.in_ok-push-2.ensures

pub loop-after-smaller : goal.loop-after-smaller
loop-after-smaller c =
    goes_smaller outlines entries row with_entry (entry_of (readers false c.args.depth)) Steps-row (entry_shrinks false c.args.depth) _ _ _ _ _ _ _ c.in-Some.ensures c.in_ok-next.ensures

pub returns-in_err-next : goal.returns-in_err-next
returns-in_err-next c =
    let p = err_from_is_err_and c.from_residual-in_err-next.result c.from_residual-in_err-next.ensures.1 in
    rw (p.1, p.2) (goes_fails outlines entries row with_entry (entry_of (readers false c.args.depth)) Steps-row (entry_shrinks false c.args.depth) _ _ _ _ _ _ _ _ c.loop-after.invariant c.in-Some.ensures c.in_err-next.ensures)

pub returns : goal.returns
returns c =
    goes_ends outlines entries row with_entry (entry_of (readers false c.args.depth)) Steps-row (entry_shrinks false c.args.depth) _ _ _ _ _ c.loop-after.invariant c.in_default.ensures
