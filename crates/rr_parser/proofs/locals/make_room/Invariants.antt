use Rattle.std.proofs.Common.{◌≡◌, ℕ, ◌+◌, ◌-◌, None, length, slice_index_or}
use Rattle.rr_parser.proofs.locals.make_room.Given as goal

abbrev pub invariant-loop-name : goal.invariant-loop-name
invariant-loop-name l = (x : ℕ) → slice_index_or l.newest.items x None ≡ slice_index_or l.fn.newest.items x None

abbrev pub decreases-loop-name : goal.decreases-loop-name
decreases-loop-name l = l.name.0 + 1 - length l.newest.items
