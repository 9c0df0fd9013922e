use Rattle.std.proofs.Common.{◌∙◌, rules, Result, Ok, Err, IfOk, OnOk, ap, map}
use Rattle.std.proofs.lemmas.List.MinMax.{ranks_by}
use Rattle.std.proofs.lemmas.List.Sorted.{answers_always}
use Rattle.std.proofs.lemmas.Cmp.{nat_list_cmp_total}
use Rattle.rr_builtin.specs.declared.sorts.TextItem.{TextItem}
use Rattle.rr_builtin.specs.Sorts.{is_text_before, item_of}
use Rattle.rr_builtin.proofs.Sorting.{sort_is, sorted_map}
use Rattle.rr_builtin.proofs.sorts.sort_texts.Goals as goal

on : {A E P Q : Type 0} (r : Result A E) → OnOk r P → (P → Q) → IfOk r (λ _. Q)
on (Ok a) h f = f h
on (Err e) h f = tt

pub returns-clause-sorted : goal.returns-clause-sorted
returns-clause-sorted c =
    let order = ranks_by nat_list_cmp_total (λ (i : TextItem). i.bytes.now) in
    on c.sort_by.result c.sort_by.ensures.sorted (λ s.
    ap (map item_of)
    (sort_is (λ (a b : TextItem). is_text_before (item_of a) (item_of b)) order c.args.items.now.items c.sort_by.new.self.items
    (s (λ (a b : TextItem). is_text_before (item_of a) (item_of b)) order (answers_always _ _ _ (λ f a r q k. search rules)))
    (c.sort_by.ensures.stable (λ (a b : TextItem). is_text_before (item_of a) (item_of b)) order (answers_always _ _ _ (λ f a r q k. search rules))))
    ∙ sorted_map item_of is_text_before c.args.items.now.items)
