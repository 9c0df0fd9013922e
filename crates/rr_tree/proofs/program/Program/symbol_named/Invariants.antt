-- None of those so far has the bytes.
use Rattle.std.proofs.Common.{◌≡◌, take, drop}
use Rattle.std.specs.Str.{bytes_eq}
use Rattle.std.specs.List.{position_from}
use Rattle.rr_tree.specs.Names.{symbols_of}
use Rattle.rr_tree.proofs.program.Program.symbol_named.Given as goal

abbrev pub invariant-loop-number : goal.invariant-loop-number
invariant-loop-number l =
    position_from (bytes_eq l.bytes) 0 (take 4294967295 (symbols_of l.self)) ≡ position_from (bytes_eq l.bytes) l.number (drop l.number (take 4294967295 (symbols_of l.self)))
