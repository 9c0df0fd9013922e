-- A sequence has these statements, and the nodes that are not evaluated yet are those that are none of the others.
use Rattle.std.proofs.Common.{sym, ap, ◌∙◌}
use Rattle.rr_eval.specs.Nodes.{evaluated_tree}
use Rattle.rr_eval.specs.Rules.{rule}
use Rattle.rr_eval.specs.Turns.{context_of, after_script}
use Rattle.rr_eval.specs.Views.{view_of}
use Rattle.rr_eval.proofs.Lists.{sequence_rule}
use Rattle.rr_eval.proofs.Unknown.{unknown_else}
use Rattle.rr_eval.proofs.engine.Engine.open_apart.Goals as goal

pub returns-in-Sequence-clause-goes : goal.returns-in-Sequence-clause-goes
returns-in-Sequence-clause-goes c = λ _ t h n.
    let p = c.args.program.now in
    let ns = p.nodes.items in
    let script = ap (λ x. rule (context_of p) (evaluated_tree ns x)) c.in-Sequence.is ∙ sym (sequence_rule ns (context_of p) c.in-Sequence.first c.in-Sequence.count) in
    ap (λ r. after_script p (view_of c.args.self.now) t r h n) script ∙ c.begin.ensures.goes p t h n

pub open_unknown-requires-clause-unknown : goal.open_unknown-requires-clause-unknown
open_unknown-requires-clause-unknown c =
    let is = c.in_default in
    unknown_else c.args.node (record {
      no_value = c.requires.value;
      no_first = c.requires.first;
      no_text = is.not-Text;
      no_constant = is.not-Constant;
      no_array = is.not-Array;
      no_splat = is.not-Splat;
      no_hash = is.not-Hash;
      no_pairs = is.not-Pairs;
      no_interpolation = is.not-Interpolation;
      no_field = is.not-Field;
      no_global = is.not-Global;
      no_set_global = is.not-SetGlobal;
      no_set_constant = is.not-SetConstant;
      no_bare = is.not-Bare;
      no_call = is.not-Call;
      no_send = is.not-Send;
      no_with_block = is.not-WithBlock;
      no_block = is.not-Block;
      no_super = is.not-Super;
      no_forwarding = is.not-ForwardingSuper;
      no_yield = is.not-Yield;
      no_index = is.not-Index;
      no_append = is.not-Append;
      no_set_attribute = is.not-SetAttribute;
      no_set_index = is.not-SetIndex;
      no_several = is.not-MultipleAssign;
      no_operator_assign = is.not-OperatorAssign;
      no_append_assign = is.not-AppendAssign;
      no_or_assign = is.not-OrAssign;
      no_and_assign = is.not-AndAssign;
      no_sequence = is.not-Sequence;
      no_item = is.not-Item;
    })
