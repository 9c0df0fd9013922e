use Rattle.std.proofs.Common.{◌≡◌, map, take}
use Rattle.rr_parser.proofs.names.symbols.Given as goal

abbrev pub invariant-loop-i : goal.invariant-loop-i
invariant-loop-i l = map (λ s. s.items) l.symbols.items ≡ map (λ k. k.now) (take l.i l.names.keys)
