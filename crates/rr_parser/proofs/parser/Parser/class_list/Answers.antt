use Rattle.std.proofs.lemmas.Result.{err_from_is_err_and}
use Rattle.rr_parser.specs.Grammar.Chains.{and_one}
use Rattle.rr_parser.specs.Grammar.Calls.{comma}
use Rattle.rr_parser.specs.Reading.Bodies.{class_of}
use Rattle.rr_parser.specs.Meets.{nodes, lists}
use Rattle.rr_parser.proofs.Steps.{Steps-comma}
use Rattle.rr_parser.proofs.Shrinking.{class_shrinks}
use Rattle.rr_parser.proofs.Making.{stable_nodes, list_on, goes_ends, goes_fails, goes_smaller}
use Rattle.rr_parser.proofs.parser.Parser.class_list.Goals as goal

pub loop-after-preserved : goal.loop-after-preserved
loop-after-preserved c = list_on nodes stable_nodes comma class_of Steps-comma class_shrinks _ _ _ _ _ _ _ _ _ _ _ c.loop-after.invariant c.in-Some.ensures c.in_ok-next.ensures c.in_ok-push-2.ensures.items

pub loop-after-smaller : goal.loop-after-smaller
loop-after-smaller c = goes_smaller (lists nodes) nodes comma and_one class_of Steps-comma class_shrinks _ _ _ _ _ _ _ c.in-Some.ensures c.in_ok-next.ensures

pub returns-in_err-next : goal.returns-in_err-next
returns-in_err-next c =
    let p = err_from_is_err_and c.from_residual-in_err-next.result c.from_residual-in_err-next.ensures.1 in
    rw (p.1, p.2) (goes_fails (lists nodes) nodes comma and_one class_of Steps-comma class_shrinks _ _ _ _ _ _ _ _ c.loop-after.invariant c.in-Some.ensures c.in_err-next.ensures)

pub returns : goal.returns
returns c = goes_ends (lists nodes) nodes comma and_one class_of Steps-comma class_shrinks _ _ _ _ _ c.loop-after.invariant c.in_default.ensures
