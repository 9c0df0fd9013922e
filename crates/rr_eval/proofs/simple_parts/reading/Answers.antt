-- The node is what is read.
use Rattle.std.proofs.Common.{◌≡◌, ◌∙◌, IfSome, ap, arith, subst, sym}
use Rattle.rr_tree.specs.declared.node.Node.TheVariants.{Constant, Send}
use Rattle.rr_eval.specs.Nodes.{evaluated_tree}
use Rattle.rr_eval.specs.SimpleParts.{IsApart}
use Rattle.rr_eval.proofs.simple_parts.reading.Goals as goal

pub returns-in-Field : goal.returns-in-Field
returns-in-Field c = λ links. ap (evaluated_tree c.args.program.now.nodes.items) c.in-Field.is

pub returns-in-Global : goal.returns-in-Global
returns-in-Global c = λ links. ap (evaluated_tree c.args.program.now.nodes.items) c.in-Global.is

pub returns-in-Plain : goal.returns-in-Plain
returns-in-Plain c = λ links.
    let is = ap (evaluated_tree c.args.program.now.nodes.items) (c.in-Constant.is ∙ ap Constant c.in-Plain.is) in
    subst (λ tree. IfSome c.constant.result (IsApart c.args.program.now links tree)) (sym is) (c.constant.ensures links)

pub returns-in-Send-default-default-default-eq0-default : goal.returns-in-Send-default-default-default-eq0-default
returns-in-Send-default-default-default-eq0-default c = λ links.
    let node = c.in-Send-default-default-default-eq0-default in
    let none : node.count ≡ 0 = omega (arith, node.count-test) in
    let is = ap (evaluated_tree c.args.program.now.nodes.items) (node.is ∙ ap (λ n. Send node.receiver node.name node.first n node.site) none) in
    subst (λ tree. IfSome c.attribute.result (IsApart c.args.program.now links tree)) (sym is) (c.attribute.ensures links)
