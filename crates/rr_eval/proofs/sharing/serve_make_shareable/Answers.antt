-- Two arguments are a value and keywords.
use Rattle.std.proofs.Common.{sym, subst, List, IfOk}
use Rattle.rr_space.specs.declared.refer.Ref.{Ref}
use Rattle.rr_eval.specs.Published.{published}
use Rattle.rr_eval.specs.Serves.{IsReplied}
use Rattle.rr_eval.specs.Sharing.{make_shareable_reply}
use Rattle.rr_eval.specs.Turns.{context_of}
use Rattle.rr_eval.proofs.Shares.{pair_is}
use Rattle.rr_eval.proofs.sharing.serve_make_shareable.Goals as goal

pub returns-in-len2-clause-replied : goal.returns-in-len2-clause-replied
returns-in-len2-clause-replied c =
    let is = pair_is c.args.values.now c.value-item-then-values-lt3.result c.keywords-item.result c.in-len2.len_at_least c.in-len2.len_below c.value-item-then-values-lt3.is c.keywords-item.is in
    subst (λ (vs : List Ref). IfOk c.serve_keyword.result (λ r. IsReplied (published c.args.store.now) (make_shareable_reply (context_of c.args.program.now) vs c.args.space.now) c.args.space.now r c.serve_keyword.new.space)) (sym is) c.serve_keyword.ensures.replied
