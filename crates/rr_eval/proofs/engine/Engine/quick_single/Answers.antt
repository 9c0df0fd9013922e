-- The statement takes one step more.
use Rattle.std.proofs.Common.{ap}
use Rattle.rr_parser.specs.Grammar.Names.{is_splat}
use Rattle.rr_tree.specs.Tree.{tree_at}
use Rattle.rr_eval.specs.Views.{view_of}
use Rattle.rr_eval.proofs.MadeTexts.{single_takes}
use Rattle.rr_eval.proofs.engine.Engine.quick_single.Goals as goal

pub returns-in-Some-quick_before-clause-takes : goal.returns-in-Some-quick_before-clause-takes
returns-in-Some-quick_before-clause-takes c =
    let p = c.args.prepared.now.program in
    let found = c.in-Some-quick_before.found in
    single_takes p (view_of c.args.self.now) c.args.space.now (tree_at p.nodes.items c.args.place) (tree_at p.nodes.items c.in-Some.statement) found.steps found.value c.in-Some.ensures c.in-Some-quick_before.ensures.takes

pub returns-in-Some-quick_before-clause-plain : goal.returns-in-Some-quick_before-clause-plain
returns-in-Some-quick_before-clause-plain c = ap is_splat c.in-Some.ensures
