-- The pieces so far have been written.
use Rattle.std.proofs.Common.{map, take}
use Rattle.std.specs.List.{concat}
use Rattle.rr_eval.specs.Counted.{counted}
use Rattle.rr_eval.specs.Written.{WritesAll}
use Rattle.ractor.proofs.tell.put_all.Given as goal

abbrev pub invariant-loop-piece : goal.invariant-loop-piece
invariant-loop-piece g l = WritesAll (counted g.E.Write.contents l.initial.errors) (counted g.E.Write.contents l.errors) (concat (map (λ p. p.now) (take l.piece-index l.pieces)))
