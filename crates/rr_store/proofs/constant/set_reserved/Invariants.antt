use Rattle.std.proofs.Common.{◌≡◌, ◌+◌, ◌-◌, ◌<◌, vec_len, vec_capacity}
use Rattle.rr_base.specs.declared.name.Sym.{Sym}
use Rattle.rr_store.specs.Stores.{constant_in}
use Rattle.rr_store.proofs.constant.set_reserved.Given as goal

abbrev pub invariant-loop-constants : goal.invariant-loop-constants
invariant-loop-constants l = (l.fn.name.0 < vec_capacity l.constants) × ((n : Sym) → constant_in l.constants.items n ≡ constant_in l.fn.constants.items n)

abbrev pub decreases-loop-constants : goal.decreases-loop-constants
decreases-loop-constants l = l.fn.name.0 + 1 - vec_len l.constants
