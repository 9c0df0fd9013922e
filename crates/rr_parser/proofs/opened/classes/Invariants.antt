use Rattle.std.proofs.Common.{◌≡◌, ◌-◌, map, take, length}
use Rattle.rr_parser.specs.Opened.{class_of_entry}
use Rattle.rr_parser.proofs.opened.classes.Given as goal

abbrev pub invariant-loop-name : goal.invariant-loop-name
invariant-loop-name l = l.classes.items ≡ map class_of_entry (take (length l.classes.items) l.entries.entries)

abbrev pub decreases-loop-name : goal.decreases-loop-name
decreases-loop-name l = length l.entries.entries - length l.classes.items
