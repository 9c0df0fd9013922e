use Rattle.rr_builtin.proofs.Items.{IsItems}
use Rattle.rr_builtin.proofs.sorts.text_items.Given as goal

abbrev pub invariant-loop-place : goal.invariant-loop-place
invariant-loop-place l = IsItems l.space l.array l.items.items l.place
