use Rattle.std.proofs.Common.{◌≡◌, ◌++◌, length, vec_capacity}
use Rattle.std.specs.Vec.Iter.{into_iter_items, into_iter_len}
use Rattle.rr_space.specs.Views.{IsAppended}
use Rattle.rr_space.proofs.append.push_behind.Given as goal

abbrev pub invariant-loop-object : goal.invariant-loop-object
invariant-loop-object l = (l.yielded ++ into_iter_items l.object-iterator ≡ l.fn.objects.items)
    × (into_iter_len l.object-iterator ≡ length (into_iter_items l.object-iterator))
    × IsAppended (length l.fn.slots.items) l.fn.slots.items l.yielded l.slots.items
    × (vec_capacity l.slots ≡ vec_capacity l.fn.slots)
