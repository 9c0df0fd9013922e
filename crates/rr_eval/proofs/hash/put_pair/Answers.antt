-- What is put is reached.
use Rattle.rr_eval.specs.Published.{published}
use Rattle.std.proofs.Common.{[], ◌∷◌, length, Some}
use Rattle.rr_eval.specs.Within.{reach, IsReached}
use Rattle.rr_eval.proofs.Holding.{all_cons, all_nil}
use Rattle.rr_eval.proofs.hash.put_pair.Goals as goal

pub serve_method-requires-clause-reached : goal.serve_method-requires-clause-reached
serve_method-requires-clause-reached c =
    let P = IsReached (reach (length c.args.space.now.slots) (Some (published c.args.store.now))) in
    record { receiver = c.requires.hash; arguments = all_cons P c.args.key (c.args.value ∷ []) c.requires.key (all_cons P c.args.value [] c.requires.value (all_nil P)) }
