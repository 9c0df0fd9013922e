use Rattle.std.proofs.Common.{rules, Result, Ok, Err, IfOk, OnOk}
use Rattle.std.proofs.lemmas.List.MinMax.{ranks_by}
use Rattle.std.proofs.lemmas.List.Sorted.{answers_always}
use Rattle.std.proofs.lemmas.Cmp.{int_cmp_total}
use Rattle.rr_builtin.specs.Sorts.{is_less}
use Rattle.rr_builtin.proofs.Sorting.{sort_is}
use Rattle.rr_builtin.proofs.sorts.sort_numbers.Goals as goal

on : {A E P Q : Type 0} (r : Result A E) → OnOk r P → (P → Q) → IfOk r (λ _. Q)
on (Ok a) h f = f h
on (Err e) h f = tt

pub returns : goal.returns
returns c =
    let order = ranks_by int_cmp_total (λ z. z) in
    on c.sort_by.result c.sort_by.ensures.sorted (λ s.
    sort_is is_less order c.args.numbers.now.items c.sort_by.new.self.items
    (s is_less order (answers_always _ _ _ (λ f a r q k. search rules)))
    (c.sort_by.ensures.stable is_less order (answers_always _ _ _ (λ f a r q k. search rules))))
