-- The values are moved into the array.
use Rattle.std.proofs.Common.{◌≡◌, IfOk, IfErr, sym, subst}
use Rattle.rr_text.specs.Names.{names_of}
use Rattle.rr_eval.specs.declared.call.Arguments.{Arguments}
use Rattle.rr_eval.specs.declared.call.Task.TheVariants.{MakeArray}
use Rattle.rr_eval.specs.Published.{published}
use Rattle.rr_eval.specs.Requests.{arguments_of}
use Rattle.rr_eval.specs.Serves.{IsTaskReplied, IsTaskRefused}
use Rattle.rr_eval.specs.Tasks.{piece_of}
use Rattle.rr_eval.specs.Turns.{context_of}
use Rattle.rr_eval.proofs.serve.serve_values.Goals as goal

pub returns-in-MakeArray-clause-piece : goal.returns-in-MakeArray-clause-piece
returns-in-MakeArray-clause-piece c =
    let names = names_of c.args.program.now in
    let t = c.args.space.now in
    let r = c.serve_array.result in
    subst (λ task. IfOk r (λ served. served.piece.items ≡ piece_of task names t (arguments_of c.args.values))) (sym c.in-MakeArray.is)
    (subst (λ (vs : Arguments). IfOk r (λ served. served.piece.items ≡ piece_of MakeArray names t (arguments_of vs))) (sym c.in-Many.is) (c.serve_array.ensures.piece names))

pub returns-in-MakeArray-clause-replied : goal.returns-in-MakeArray-clause-replied
returns-in-MakeArray-clause-replied c =
    let own = context_of c.args.program.now in
    let below = published c.args.store.now in
    let t = c.args.space.now in
    let u = c.serve_array.new.space in
    let r = c.serve_array.result in
    subst (λ task. IfOk r (λ served. IsTaskReplied own below task (arguments_of c.args.values) t served.response u)) (sym c.in-MakeArray.is)
    (subst (λ (vs : Arguments). IfOk r (λ served. IsTaskReplied own below MakeArray (arguments_of vs) t served.response u)) (sym c.in-Many.is) (c.serve_array.ensures.replied own))

pub returns-in-MakeArray-clause-refused : goal.returns-in-MakeArray-clause-refused
returns-in-MakeArray-clause-refused c =
    let own = context_of c.args.program.now in
    let below = published c.args.store.now in
    let t = c.args.space.now in
    let r = c.serve_array.result in
    subst (λ task. IfErr r (IsTaskRefused own below task (arguments_of c.args.values) t)) (sym c.in-MakeArray.is)
    (subst (λ (vs : Arguments). IfErr r (IsTaskRefused own below MakeArray (arguments_of vs) t)) (sym c.in-Many.is) (c.serve_array.ensures.refused own))
