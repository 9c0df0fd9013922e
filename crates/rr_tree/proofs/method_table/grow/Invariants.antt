-- The lists are as they were, and empty ones stand behind.
use Rattle.std.proofs.Common.{◌≡◌, ℕ, [], length, map, slice_index_or}
use Rattle.rr_tree.proofs.method_table.grow.Given as goal

abbrev pub invariant-loop : goal.invariant-loop
invariant-loop l = record {
  kept : (x : ℕ) → slice_index_or (map (λ e. e.items) l.lists.items) x [] ≡ slice_index_or (map (λ e. e.items) l.fn.lists.items) x [];
  count : length l.lists.items ≡ l.counter;
}
