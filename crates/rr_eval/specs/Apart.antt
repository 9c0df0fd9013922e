-- Turns that stop with an assignment to an instance variable, told apart from all others.
use Rattle.std.specs.Prelude.{Result, Ok}
use Rattle.rr_base.specs.declared.fault.Fault.{Fault}
use Rattle.rr_eval.specs.declared.call.Arguments.TheVariants.{Two}
use Rattle.rr_eval.specs.declared.call.Task.TheVariants.{SetField}
use Rattle.rr_eval.specs.declared.engine.Turn.{Turn}
use Rattle.rr_eval.specs.declared.engine.Turn.TheVariants.{Ask}
use Rattle.rr_eval.specs.declared.engine.TurnedApart.{TurnedApart}
use Rattle.rr_eval.specs.declared.engine.TurnedApart.TheVariants.{Assigns, Other}
use Rattle.rr_eval.specs.declared.fields.FieldAssignment.{FieldAssignment}
use Rattle.rr_eval.specs.declared.request.Request.{Request}
use Rattle.rr_eval.specs.declared.request.Request.TheVariants.{Do}

-- what is asked for
abbrev pub assignment_asked : FieldAssignment → Request
assignment_asked a = Do (SetField a.name) (Two a.object a.value)

-- how the turn stopped
abbrev pub turned_of : TurnedApart → Result Turn Fault
turned_of (Assigns a) = Ok (Ask (assignment_asked a))
turned_of (Other turned) = turned
