use Rattle.std.proofs.Common.{List, [], Contains, length, subst}
use Rattle.rr_space.specs.Graph.{Object}
use Rattle.rr_space.specs.Tables.{Below, HashKey}
use Rattle.rr_space.specs.Views.{object_of}
use Rattle.rr_builtin.specs.Acts.{Acts, MakesObject, performed}
use Rattle.rr_builtin.proofs.Among.{none_in}
use Rattle.rr_builtin.proofs.news.make_hash.Goals as goal

pub make_node-requires-clause-within : goal.make_node-requires-clause-within
make_node-requires-clause-within c = c.in_ok-node.ensures.within (length c.args.space.now.slots)

pub returns-clause-act : goal.returns-clause-act
returns-clause-act c = λ below v read.
    let old = c.args.space.now in
    let new = c.make_node.new.space in
    let node = c.in_ok-node.node in
    subst (λ (o : Object). Acts below (performed (MakesObject o []) v) old new c.make_node.result) c.in_ok-node.ensures.is
    (subst (λ (ks : List HashKey). Acts below (performed (MakesObject (object_of node) ks) v) old new c.make_node.result) c.in_ok-node.ensures.keys
    (c.make_node.ensures.act below v read (λ e has. none_in e (subst (λ (b : Below). Contains b e) c.in_ok-node.ensures.below has))))
