-- The message would be one object too many.
use Rattle.std.proofs.Common.{sym, subst}
use Rattle.rr_base.specs.Classes.{class_id}
use Rattle.rr_eval.specs.Acts.{Passes}
use Rattle.rr_eval.specs.Script.{objects_of}
use Rattle.rr_eval.specs.Views.{view_of}
use Rattle.rr_eval.proofs.Refusing.{start_is, text_passes}
use Rattle.rr_eval.proofs.engine.Engine.start.Goals as goal

pub returns-in-Ok-clause-read : goal.returns-in-Ok-clause-read
returns-in-Ok-clause-read c below read reached = c.in-Ok.ensures.read below read

pub returns-in-Err-clause-full : goal.returns-in-Err-clause-full
returns-in-Err-clause-full c h adds =
    let p = c.args.program.now in
    let m = view_of c.args.self.now in
    let t = c.args.space.now in
    let f = c.in-Err.fault in
    let class = class_id c.in_ok-class.class in
    let bytes = c.in_ok-class.text.items in
    let is = start_is p m t c.args.block c.args.problem class bytes h c.requires.control c.in_ok-class.ensures.told in
    subst (λ o. Passes f t.limit (objects_of o)) (sym is) (text_passes p m t class bytes f h m.left adds c.in-Err.ensures.full)
