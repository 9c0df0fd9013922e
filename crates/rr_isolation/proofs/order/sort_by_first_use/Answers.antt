use Rattle.std.proofs.Common.{rules}
use Rattle.std.proofs.lemmas.List.Sorted.{answers_always}
use Rattle.rr_isolation.specs.Outer.{is_earlier}
use Rattle.rr_isolation.proofs.Earlier.{earlier_order}
use Rattle.rr_isolation.proofs.order.sort_by_first_use.Goals as goal

pub returns-clause-sorted : goal.returns-clause-sorted
returns-clause-sorted c =
    c.in_ok-sort_by.ensures.sorted is_earlier earlier_order (answers_always _ _ _ (λ f a r q k. search rules))
