-- What are not two integers is a call.
use Rattle.rr_eval.proofs.Operating.{operated_else}
use Rattle.rr_eval.proofs.usual_given.is_called.Goals as goal

pub returns-in_default : goal.returns-in_default
returns-in_default c = λ _ own. operated_else own c.args.op c.args.left c.args.right (λ x y e f. c.in_default.not-Int-1 y f)

pub returns-in_default-2 : goal.returns-in_default-2
returns-in_default-2 c = λ _ own. operated_else own c.args.op c.args.left c.args.right (λ x y e f. c.in_default.not-Int-0 x e)
