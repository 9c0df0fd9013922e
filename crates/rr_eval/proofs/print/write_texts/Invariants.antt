-- What is still to be written is the texts of the other values.
use Rattle.std.proofs.Common.{◌≡◌, ◌++◌, map, drop}
use Rattle.rr_text.specs.Names.{names_of}
use Rattle.rr_eval.specs.Tasks.{written_by, joined_texts, lack_of}
use Rattle.rr_eval.proofs.print.write_texts.Given as goal

abbrev pub invariant-loop-value : goal.invariant-loop-value
invariant-loop-value l =
    let write = written_by l.task (names_of l.program) l.space in
    (l.initial.piece.items ++ joined_texts (map write l.values) ≡ l.piece.items ++ joined_texts (map write (drop l.value-index l.values)))
    × (lack_of (map write l.values) ≡ lack_of (map write (drop l.value-index l.values)))
