use Rattle.std.proofs.lemmas.Result.{err_from_is_err_and}
use Rattle.rr_parser.proofs.Exact.{fails_program}
use Rattle.rr_parser.proofs.program.read_nodes.Goals as goal
use Rattle.rr_parser.proofs.Outlines.{none_left, made_program}
use Rattle.rr_parser.specs.declared.locals.Local.{Local}
use Rattle.std.proofs.Common.{List, true, false, ap}

pub returns-in_err-outline : goal.returns-in_err-outline
returns-in_err-outline c =
    let p = err_from_is_err_and c.from_residual.result c.from_residual.ensures.1 in
    record { tree = rw (p.1, p.2) (fails_program _ _ c.new-2.result _ c.new-2.ensures c.in_err-outline.ensures) }

pub returns : goal.returns
returns c = record {
  tree = rw (c.shrink_to_fit.ensures.items)
      (made_program c.args.depth c.args.words.now _ _ _ _ _ _ _ c.deref.ensures.value
      (ap (λ (ls : List Local). record { known = record { locals = ls; level = 0; count = 0; begun = 0; in_loop = false; in_method = false; takes_do = true }; rest = c.args.words.now }) c.new-2.ensures)
      c.in_ok-outline.ensures (none_left _ c.if-not-is_empty.ensures) c.in_ok-root.ensures);
}
