-- What is still to be written is the texts of the other values.
use Rattle.rr_eval.specs.Published.{published}
use Rattle.std.proofs.Common.{◌≡◌, ◌++◌, length}
use Rattle.std.specs.List.{All}
use Rattle.rr_text.specs.Names.{names_of}
use Rattle.rr_text.specs.Reads.{IsAmong}
use Rattle.rr_eval.specs.Tasks.{texts_shown, joined_texts, lack_of}
use Rattle.rr_eval.proofs.show.write_shown.Given as goal

abbrev pub invariant-loop-rest : goal.invariant-loop-rest
invariant-loop-rest l =
    let texts = texts_shown (names_of l.program) l.space in
    record {
      piece : l.initial.piece.items ++ joined_texts (texts l.values) ≡ l.piece.items ++ joined_texts (texts l.rest);
      lack : lack_of (texts l.values) ≡ lack_of (texts l.rest);
      among : All (IsAmong (published l.store)) l.rest;
    }

abbrev pub decreases-loop-rest : goal.decreases-loop-rest
decreases-loop-rest l = length l.rest
