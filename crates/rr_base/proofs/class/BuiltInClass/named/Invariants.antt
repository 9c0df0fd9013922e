-- None of the classes so far has the name.
use Rattle.std.proofs.Common.{◌≡◌, drop}
use Rattle.rr_base.specs.ClassNames.{built_in_classes, class_among, class_named}
use Rattle.rr_base.proofs.class.BuiltInClass.named.Given as goal

abbrev pub invariant-loop-number : goal.invariant-loop-number
invariant-loop-number l = class_named l.name ≡ class_among l.name (drop l.number built_in_classes)
