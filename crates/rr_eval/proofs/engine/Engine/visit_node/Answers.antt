-- Any other node needs the objects or memory.
use Rattle.rr_eval.proofs.QuickSends.{no_send}
use Rattle.rr_eval.proofs.engine.Engine.visit_node.Goals as goal

pub visit_rare-requires-clause-rare : goal.visit_rare-requires-clause-rare
visit_rare-requires-clause-rare c =
    let other = c.in_default in
    c.requires.rare (no_send c.args.node other.not-Send other.not-Index other.not-Append other.not-SetAttribute other.not-SetIndex)
