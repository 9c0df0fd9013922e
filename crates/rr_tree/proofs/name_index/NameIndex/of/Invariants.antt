-- The names from this one on are found.
use Rattle.std.proofs.Common.{◌≡◌, ◌≤◌, ℕ, List, Bor, drop, length, take}
use Rattle.std.specs.Str.{bytes_eq}
use Rattle.std.specs.List.{position_from}
use Rattle.indexmap.specs.IndexMap.{get}
use Rattle.rr_tree.specs.Names.{symbols_of}
use Rattle.rr_tree.proofs.name_index.NameIndex.of.Given as goal

abbrev pub invariant-loop-number : goal.invariant-loop-number
invariant-loop-number l =
    (l.number ≤ length (take 4294967295 (symbols_of l.program)))
    × ((k : Bor (List ℕ)) → get (λ (x y : Bor (List ℕ)). bytes_eq x.now y.now) l.numbers k ≡ position_from (bytes_eq k.now) l.number (drop l.number (take 4294967295 (symbols_of l.program))))

abbrev pub decreases-loop-number : goal.decreases-loop-number
decreases-loop-number l = l.number
