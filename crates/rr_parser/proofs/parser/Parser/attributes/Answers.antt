use Rattle.std.proofs.Common.{◌++◌, ap, ◌∙◌}
use Rattle.std.proofs.lemmas.Result.{err_from_is_err_and}
use Rattle.rr_parser.specs.Grammar.Chains.{and_all}
use Rattle.rr_parser.specs.Grammar.Calls.{comma}
use Rattle.rr_parser.specs.Reading.Classes.{attribute_of, attributes_of}
use Rattle.rr_parser.specs.Meets.{nodes, lists}
use Rattle.rr_parser.proofs.Steps.{Steps-comma}
use Rattle.rr_parser.proofs.Accesses.{attribute_shrinks}
use Rattle.rr_parser.proofs.Making.{goes_ends, goes_fails, goes_smaller}
use Rattle.rr_parser.proofs.Joining.{joined_begin, joined_on}
use Rattle.rr_parser.proofs.parser.Parser.attributes.Goals as goal

pub loop-after-init : goal.loop-after-init
unfolding attributes_of
loop-after-init c = joined_begin comma (attribute_of c.args.access) Steps-comma (attribute_shrinks c.args.access) _ _ _ _ _ c.in_ok-methods.ensures

pub loop-after-preserved : goal.loop-after-preserved
loop-after-preserved c =
    joined_on comma (attribute_of c.args.access) Steps-comma (attribute_shrinks c.args.access) _ _ _ _ _ _ _ _ _ _ _ c.loop-after.invariant c.in-Some.ensures c.in_ok-more.ensures
    (c.in_ok-extend_from_slice.ensures.items ∙ ap (λ l. c.loop-after.methods.items ++ l) c.deref.ensures.value)

pub loop-after-smaller : goal.loop-after-smaller
loop-after-smaller c = goes_smaller (lists nodes) (lists nodes) comma and_all (attribute_of c.args.access) Steps-comma (attribute_shrinks c.args.access) _ _ _ _ _ _ _ c.in-Some.ensures c.in_ok-more.ensures

pub returns-in_err-more : goal.returns-in_err-more
returns-in_err-more c =
    let p = err_from_is_err_and c.from_residual-in_err-more.result c.from_residual-in_err-more.ensures.1 in
    rw (p.1, p.2) (goes_fails (lists nodes) (lists nodes) comma and_all (attribute_of c.args.access) Steps-comma (attribute_shrinks c.args.access) _ _ _ _ _ _ _ _ c.loop-after.invariant c.in-Some.ensures c.in_err-more.ensures)

pub returns : goal.returns
returns c = goes_ends (lists nodes) (lists nodes) comma and_all (attribute_of c.args.access) Steps-comma (attribute_shrinks c.args.access) _ _ _ _ _ c.loop-after.invariant c.in_default.ensures
