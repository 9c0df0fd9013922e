use Rattle.std.proofs.Common.{◌≡◌, ◌++◌, List, length, map, vec_len}
use Rattle.rr_space.specs.Moves.{here_home}
use Rattle.rr_space.specs.Tables.{IsRestKept}
use Rattle.rr_space.specs.Views.{carried_object, carried_below, carried_keys}
use Rattle.rr_space.specs.declared.carried.Carried.{Carried}
use Rattle.rr_move.proofs.Putting.{IsPutFrom}
use Rattle.rr_move.proofs.reattaching.put_all.Given as goal

abbrev pub invariant-loop-object : goal.invariant-loop-object
invariant-loop-object l = ((done : List Carried) × (l.fn.objects.items ≡ l.left.items ++ done))
    × IsPutFrom l.slots (map (here_home l.slots) (map carried_object l.fn.objects.items)) (length l.left.items) l.fn.space.slots l.space.slots
    × IsPutFrom l.slots (map carried_below l.fn.objects.items) (length l.left.items) l.fn.space.below l.space.below
    × IsPutFrom l.slots (map carried_keys l.fn.objects.items) (length l.left.items) l.fn.space.keys l.space.keys
    × IsRestKept l.fn.space l.space

abbrev pub decreases-loop-object : goal.decreases-loop-object
decreases-loop-object l = vec_len l.left
