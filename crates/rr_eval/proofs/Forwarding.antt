-- `super` alone is evaluated by its rule.
use Rattle.std.proofs.Common.{◌≡◌, List, refl}
use Rattle.rr_tree.specs.declared.node.Node.{Node}
use Rattle.rr_tree.specs.declared.node.Node.TheVariants.{ForwardingSuper}
use Rattle.rr_eval.specs.Above.{super_rule, parameters_of}
use Rattle.rr_eval.specs.Context.{Context}
use Rattle.rr_eval.specs.Nodes.{evaluated_tree}
use Rattle.rr_eval.specs.Rules.{rule}
use Rattle.rr_eval.specs.Script.{See}

pub forwarding_is : (ns : List Node) (c : Context) → See (λ m. super_rule c (parameters_of m.calls.frames)) ≡ rule c (evaluated_tree ns ForwardingSuper)
forwarding_is ns c = refl
