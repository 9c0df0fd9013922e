-- What is written first, and then what is given.
use Rattle.rr_eval.specs.Published.{published}
use Rattle.std.proofs.Common.{length, Some}
use Rattle.std.proofs.lemmas.List.Elements.{All-weaker}
use Rattle.rr_text.specs.Reads.{IsAmong}
use Rattle.rr_builtin.proofs.Among.{among_of}
use Rattle.rr_eval.specs.Within.{reach, IsReached}
use Rattle.rr_eval.proofs.Holding.{ref_among}
use Rattle.rr_eval.proofs.print.serve_task.Goals as goal

pub write_all-requires-clause-among : goal.write_all-requires-clause-among
write_all-requires-clause-among c =
    let k = length c.args.space.now.slots in
    All-weaker (IsReached (reach k (Some (published c.args.store.now)))) (IsAmong (published c.args.store.now)) (λ r h. among_of (published c.args.store.now) r (ref_among k (published c.args.store.now) r h)) c.args.values.now c.requires.reached
