-- What is there stays, or the right side is assigned.
use Rattle.std.proofs.Common.{◌∙◌, ap, drop}
use Rattle.rr_tree.specs.Tree.{tree_at}
use Rattle.rr_eval.specs.declared.frame.Frame.TheVariants.{Read}
use Rattle.rr_eval.specs.Turns.{context_of, after_values}
use Rattle.rr_eval.specs.Updating.{put, put_unless}
use Rattle.rr_eval.specs.Views.{view_of}
use Rattle.rr_eval.proofs.engine.Engine.put_unless.Goals as goal

pub returns-then-there-clause-goes : goal.returns-then-there-clause-goes
returns-then-there-clause-goes c p t h n =
    let m = view_of c.args.self.now in
    let u = c.args.updating in
    ap (λ b. after_values p m t (Read u) (put_unless b (tree_at p.nodes.items u.value) (put (context_of p) u.place (drop u.base m.held)) c.args.old) h n) c.if-there.true ∙ c.give_over.ensures.goes p t h n

pub returns-else-there-clause-goes : goal.returns-else-there-clause-goes
returns-else-there-clause-goes c p t h n =
    let m = view_of c.args.self.now in
    let u = c.args.updating in
    ap (λ b. after_values p m t (Read u) (put_unless b (tree_at p.nodes.items u.value) (put (context_of p) u.place (drop u.base m.held)) c.args.old) h n) c.if-there.false ∙ c.enter_over.ensures.goes p t h n

pub returns-then-there-clause-within : goal.returns-then-there-clause-within
returns-then-there-clause-within c k h old = c.give_over.ensures.within k h old

pub returns-else-there-clause-within : goal.returns-else-there-clause-within
returns-else-there-clause-within c k h old = c.enter_over.ensures.within k h tt
