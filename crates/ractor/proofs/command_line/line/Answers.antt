-- A line has what the rows of its subcommand have, which are those of the words.
use Rattle.std.proofs.Common.{◌∙◌, ap}
use Rattle.clap.specs.Words.{found_of, is_simple}
use Rattle.ractor.proofs.Commands.{subcommand_found, line_read, line_lacks, simple_grammar, words_read}
use Rattle.ractor.proofs.command_line.line.Goals as goal

pub returns-in-run-clause-read : goal.returns-in-run-clause-read
returns-in-run-clause-read c =
    let shape = c.in-Ok.ensures.0 in
    let rows = (c.in-Ok-try_get_matches_from.ensures.matches (ap is_simple shape ∙ simple_grammar)).1 in
    let here = subcommand_found c.in-Ok-try_get_matches_from.matches _ _ c.in-Some.ensures.name c.in-Some.ensures.rows in
    line_read _ _ _ (found_of c.in-Some.inner.now) _ (words_read _ _ _ _ _ rows shape here) c.in-run.is c.run_line.ensures.read

pub returns-in-run-clause-refused : goal.returns-in-run-clause-refused
returns-in-run-clause-refused c =
    let shape = c.in-Ok.ensures.0 in
    let rows = (c.in-Ok-try_get_matches_from.ensures.matches (ap is_simple shape ∙ simple_grammar)).1 in
    let here = subcommand_found c.in-Ok-try_get_matches_from.matches _ _ c.in-Some.ensures.name c.in-Some.ensures.rows in
    line_lacks _ _ (found_of c.in-Some.inner.now) _ (words_read _ _ _ _ _ rows shape here) c.in-run.is c.run_line.ensures.lacks
