-- What is set, and what is copied, is a value of the request.
use Rattle.std.proofs.Common.{◌∙◌, sym, length, Some}
use Rattle.rr_eval.specs.Published.{published}
use Rattle.rr_eval.specs.Turns.{context_of}
use Rattle.rr_eval.specs.Within.{reach}
use Rattle.rr_eval.proofs.Specials.{constant_reached, copy_reached}
use Rattle.rr_eval.proofs.alone.serve_alone.Goals as goal

pub set_constant-requires-clause-value : goal.set_constant-requires-clause-value
set_constant-requires-clause-value c =
    constant_reached (reach (length c.args.space.now.slots) (Some (published c.args.store.now))) (context_of c.args.program.now) c.args.space.now c.in-Constant.value c.args.request c.in-Constant.name (sym c.special_of.ensures ∙ c.in-Constant.is) c.requires.reached

pub shareable_copy-requires-clause-value : goal.shareable_copy-requires-clause-value
shareable_copy-requires-clause-value c =
    copy_reached (reach (length c.args.space.now.slots) (Some (published c.args.store.now))) (context_of c.args.program.now) c.args.space.now c.in-Copy.value c.args.request (sym c.special_of.ensures ∙ c.in-Copy.is) c.requires.reached
