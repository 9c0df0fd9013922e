-- Another ractor than the main one asks.
use Rattle.std.proofs.Common.{◌∙◌, ap, sym, if◌then◌else◌}
use Rattle.rr_builtin.specs.Fields.{field_at}
use Rattle.rr_tree.specs.Tree.{tree_at}
use Rattle.rr_eval.specs.Constants.{set_response}
use Rattle.rr_eval.specs.Globals.{globals}
use Rattle.rr_eval.specs.Turns.{context_of, after_script}
use Rattle.rr_eval.specs.Updating.{or_constant, or_asked}
use Rattle.rr_eval.specs.Views.{view_of}
use Rattle.rr_eval.proofs.engine.Engine.or_plain.Goals as goal

pub returns-clause-goes : goal.returns-clause-goes
returns-clause-goes c h n =
    let p = c.args.program.now in
    let t = c.args.space.now in
    let b = tree_at p.nodes.items c.args.value in
    ap (λ main. after_script p (view_of c.args.self.now) t (if main then or_constant (context_of p) (set_response t (field_at t globals c.args.name.0)) c.args.name b else or_asked (context_of p) c.args.name b t) h n) (sym c.is_main.ensures ∙ c.if-is_main.false)
    ∙ c.or_asked.ensures.goes p t h n
