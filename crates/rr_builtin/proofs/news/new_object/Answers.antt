use Rattle.std.proofs.Common.{◌∙◌, Bool, List, [], Contains, sym, ap, subst}
use Rattle.rr_space.specs.Graph.{Object, Plain, Nil}
use Rattle.rr_space.specs.Tables.{Below, HashKey}
use Rattle.rr_space.specs.Views.{object_of}
use Rattle.rr_builtin.specs.Acts.{Acts, MakesObject, performed}
use Rattle.rr_builtin.specs.News.{new_object}
use Rattle.rr_builtin.proofs.Among.{none_in}
use Rattle.rr_builtin.proofs.news.new_object.Goals as goal

pub returns-in_ok-node-clause-act : goal.returns-in_ok-node-clause-act
returns-in_ok-node-clause-act c = λ below v read.
    let old = c.args.space.now in
    let new = c.make_node.new.space in
    let node = c.in_ok-node.node in
    subst (λ (o : Object). Acts below (performed (MakesObject o []) v) old new c.make_node.result)
    (c.in_ok-node.ensures.is ∙ ap (λ (b : Bool). new_object b c.args.class.0 (Plain Nil)) (sym c.if-is_exception_class.true ∙ c.is_exception_class.ensures))
    (subst (λ (ks : List HashKey). Acts below (performed (MakesObject (object_of node) ks) v) old new c.make_node.result) c.in_ok-node.ensures.keys
    (c.make_node.ensures.act below v read (c.in_ok-node.ensures.among below tt)))

pub returns-else-is_exception_class-clause-act : goal.returns-else-is_exception_class-clause-act
returns-else-is_exception_class-clause-act c = λ below v read.
    let old = c.args.space.now in
    let made = c.make_node-else-is_exception_class in
    let node = c.without_fields.result in
    subst (λ (o : Object). Acts below (performed (MakesObject o []) v) old made.new.space made.result)
    (c.without_fields.ensures.is ∙ ap (λ (b : Bool). new_object b c.args.class.0 (Plain Nil)) (sym c.if-is_exception_class.false ∙ c.is_exception_class.ensures))
    (subst (λ (ks : List HashKey). Acts below (performed (MakesObject (object_of node) ks) v) old made.new.space made.result) c.without_fields.ensures.keys
    (made.ensures.act below v read (λ e has. none_in e (subst (λ (b : Below). Contains b e) c.without_fields.ensures.below has))))
