-- What a ractor does in a step that it makes by itself: on its objects, its roots and its hand.
use Rattle.rr_space.specs.Labels.{label_of}
use Rattle.rr_world.specs.Views.{Member}
use Rattle.rr_world.specs.Allocating.{Allocs}
use Rattle.rr_world.specs.Changing.{Freezes, Appends, Clears, Pushes, Writes, Takes, Sets, SetsRaised, Reads}
use Rattle.rr_world.specs.Moving.{Detaches, PutsBackInto}
use Rattle.rr_world.specs.Opening.{Opened}
use Rattle.rr_world.specs.Packing.{Packs}
use Rattle.rr_world.specs.Pairing.{SetsPair, DeletesPair}
use Rattle.rr_world.specs.Planning.{Plans, Promotes}
use Rattle.rr_world.specs.declared.outcome.Outcome.{Outcome}
use Rattle.rr_world.specs.declared.step.Action.{Action}
use Rattle.rr_world.specs.declared.step.Action.TheVariants.{Alloc, Pack, Detach, PutBack, Plan, Promote, Open, Freeze, Append, Clear, Push, Write, Take, SetField, SetRaised, SetPair, DeletePair, Read}

-- nothing but the ractor has a part in the step
abbrev pub IsByItself : Action → Type 0
IsByItself (Alloc new) = Unit {0}
IsByItself (Pack op) = Unit {0}
IsByItself (Detach op) = Unit {0}
IsByItself PutBack = Unit {0}
IsByItself (Plan op) = Unit {0}
IsByItself Promote = Unit {0}
IsByItself Open = Unit {0}
IsByItself (Freeze op) = Unit {0}
IsByItself (Append op byte) = Unit {0}
IsByItself (Clear op) = Unit {0}
IsByItself (Push op x) = Unit {0}
IsByItself (Write op i x) = Unit {0}
IsByItself (Take op i) = Unit {0}
IsByItself (SetField op name x) = Unit {0}
IsByItself (SetRaised op part x) = Unit {0}
IsByItself (SetPair op key x) = Unit {0}
IsByItself (DeletePair op i) = Unit {0}
IsByItself (Read op l) = Unit {0}
IsByItself _ = ⊥

-- what comes of the step
abbrev pub ActsByItself : Action → Outcome → Member → Member → Type 0
ActsByItself (Alloc new) = Allocs new
ActsByItself (Pack op) = Packs op
ActsByItself (Detach op) = Detaches op
ActsByItself PutBack = PutsBackInto
ActsByItself (Plan op) = Plans op
ActsByItself Promote = Promotes
ActsByItself Open = Opened
ActsByItself (Freeze op) = Freezes op
ActsByItself (Append op byte) = Appends op byte
ActsByItself (Clear op) = Clears op
ActsByItself (Push op x) = Pushes op x
ActsByItself (Write op i x) = Writes op i x
ActsByItself (Take op i) = Takes op i
ActsByItself (SetField op name x) = Sets op name.0 x
ActsByItself (SetRaised op part x) = SetsRaised op part x
ActsByItself (SetPair op key x) = SetsPair op key x
ActsByItself (DeletePair op i) = DeletesPair op i
ActsByItself (Read op l) = Reads op (label_of l)
ActsByItself _ = λ r m m2. ⊥
