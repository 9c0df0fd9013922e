-- The nodes that are not evaluated yet are those that are none of the others.
use Rattle.std.proofs.Common.{◌≡◌, ℕ, ℤ, Bool, true, refl}
use Rattle.rr_base.specs.declared.name.ClassId.{ClassId}
use Rattle.rr_base.specs.declared.name.Sym.{Sym}
use Rattle.rr_tree.specs.declared.node.BinaryOperator.{BinaryOperator}
use Rattle.rr_tree.specs.declared.node.Node.{Node}
use Rattle.rr_tree.specs.declared.node.Node.TheVariants as nodes
use Rattle.rr_tree.specs.declared.node.Path.{Path}
use Rattle.rr_eval.specs.Nodes.{IsValueNode, IsFirstNode, is_unknown}

-- that a node is of none of the kinds that are evaluated
pub record IsNone (n : Node) : Type 0 where
  pub no_value : IsValueNode n → ⊥
  pub no_first : IsFirstNode n → ⊥
  pub no_text : (x0 : ℕ) → n ≡ nodes.Text x0 → ⊥
  pub no_constant : (x0 : Path) → n ≡ nodes.Constant x0 → ⊥
  pub no_array : (x0 : ℕ) (x1 : ℕ) → n ≡ nodes.Array x0 x1 → ⊥
  pub no_splat : (x0 : ℕ) → n ≡ nodes.Splat x0 → ⊥
  pub no_hash : (x0 : ℕ) (x1 : ℕ) → n ≡ nodes.Hash x0 x1 → ⊥
  pub no_pairs : (x0 : ℕ) (x1 : ℕ) → n ≡ nodes.Pairs x0 x1 → ⊥
  pub no_interpolation : (x0 : ℕ) (x1 : ℕ) → n ≡ nodes.Interpolation x0 x1 → ⊥
  pub no_field : (x0 : Sym) → n ≡ nodes.Field x0 → ⊥
  pub no_global : (x0 : Sym) → n ≡ nodes.Global x0 → ⊥
  pub no_set_global : (x0 : Sym) (x1 : ℕ) → n ≡ nodes.SetGlobal x0 x1 → ⊥
  pub no_set_constant : (x0 : Sym) (x1 : ℕ) → n ≡ nodes.SetConstant x0 x1 → ⊥
  pub no_bare : (x0 : Sym) (x1 : ℕ) → n ≡ nodes.Bare x0 x1 → ⊥
  pub no_call : (x0 : Sym) (x1 : ℕ) (x2 : ℕ) (x3 : ℕ) → n ≡ nodes.Call x0 x1 x2 x3 → ⊥
  pub no_send : (x0 : ℕ) (x1 : Sym) (x2 : ℕ) (x3 : ℕ) (x4 : ℕ) → n ≡ nodes.Send x0 x1 x2 x3 x4 → ⊥
  pub no_with_block : (x0 : ℕ) (x1 : ℕ) → n ≡ nodes.WithBlock x0 x1 → ⊥
  pub no_block : (x0 : ℕ) (x1 : ℕ) (x2 : ℕ) (x3 : ℕ) → n ≡ nodes.Block x0 x1 x2 x3 → ⊥
  pub no_super : (x0 : ℕ) (x1 : ℕ) → n ≡ nodes.Super x0 x1 → ⊥
  pub no_forwarding : n ≡ nodes.ForwardingSuper → ⊥
  pub no_yield : (x0 : ℕ) (x1 : ℕ) → n ≡ nodes.Yield x0 x1 → ⊥
  pub no_index : (x0 : ℕ) (x1 : ℕ) → n ≡ nodes.Index x0 x1 → ⊥
  pub no_append : (x0 : ℕ) (x1 : ℕ) → n ≡ nodes.Append x0 x1 → ⊥
  pub no_set_attribute : (x0 : ℕ) (x1 : Sym) (x2 : ℕ) (x3 : ℕ) → n ≡ nodes.SetAttribute x0 x1 x2 x3 → ⊥
  pub no_set_index : (x0 : ℕ) (x1 : ℕ) (x2 : ℕ) → n ≡ nodes.SetIndex x0 x1 x2 → ⊥
  pub no_several : (x0 : ℕ) (x1 : ℕ) (x2 : ℕ) → n ≡ nodes.MultipleAssign x0 x1 x2 → ⊥
  pub no_operator_assign : (x0 : BinaryOperator) (x1 : ℕ) (x2 : ℕ) → n ≡ nodes.OperatorAssign x0 x1 x2 → ⊥
  pub no_append_assign : (x0 : ℕ) (x1 : ℕ) → n ≡ nodes.AppendAssign x0 x1 → ⊥
  pub no_or_assign : (x0 : ℕ) (x1 : ℕ) → n ≡ nodes.OrAssign x0 x1 → ⊥
  pub no_and_assign : (x0 : ℕ) (x1 : ℕ) → n ≡ nodes.AndAssign x0 x1 → ⊥
  pub no_sequence : (x0 : ℕ) (x1 : ℕ) → n ≡ nodes.Sequence x0 x1 → ⊥
  pub no_item : (x0 : ℕ) → n ≡ nodes.Item x0 → ⊥

pub unknown_else : (n : Node) → IsNone n → is_unknown n ≡ true
unknown_else nodes.Nil h = absurd (h.no_value tt)
unknown_else (nodes.Truth x0) h = absurd (h.no_value tt)
unknown_else (nodes.Int x0) h = absurd (h.no_value tt)
unknown_else (nodes.Text x0) h = absurd (h.no_text x0 refl)
unknown_else (nodes.Symbol x0) h = absurd (h.no_value tt)
unknown_else (nodes.Class x0) h = absurd (h.no_value tt)
unknown_else (nodes.Constant x0) h = absurd (h.no_constant x0 refl)
unknown_else (nodes.Array x0 x1) h = absurd (h.no_array x0 x1 refl)
unknown_else (nodes.Splat x0) h = absurd (h.no_splat x0 refl)
unknown_else (nodes.Hash x0 x1) h = absurd (h.no_hash x0 x1 refl)
unknown_else (nodes.Pairs x0 x1) h = absurd (h.no_pairs x0 x1 refl)
unknown_else (nodes.Interpolation x0 x1) h = absurd (h.no_interpolation x0 x1 refl)
unknown_else (nodes.Local x0 x1 x2 x3) h = absurd (h.no_value tt)
unknown_else nodes.Itself h = absurd (h.no_value tt)
unknown_else (nodes.Field x0) h = absurd (h.no_field x0 refl)
unknown_else (nodes.SetField x0 x1) h = absurd (h.no_first tt)
unknown_else (nodes.Global x0) h = absurd (h.no_global x0 refl)
unknown_else (nodes.SetGlobal x0 x1) h = absurd (h.no_set_global x0 x1 refl)
unknown_else (nodes.SetConstant x0 x1) h = absurd (h.no_set_constant x0 x1 refl)
unknown_else (nodes.Bare x0 x1) h = absurd (h.no_bare x0 x1 refl)
unknown_else (nodes.Call x0 x1 x2 x3) h = absurd (h.no_call x0 x1 x2 x3 refl)
unknown_else (nodes.Send x0 x1 x2 x3 x4) h = absurd (h.no_send x0 x1 x2 x3 x4 refl)
unknown_else (nodes.WithBlock x0 x1) h = absurd (h.no_with_block x0 x1 refl)
unknown_else (nodes.Block x0 x1 x2 x3) h = absurd (h.no_block x0 x1 x2 x3 refl)
unknown_else (nodes.Super x0 x1) h = absurd (h.no_super x0 x1 refl)
unknown_else nodes.ForwardingSuper h = absurd (h.no_forwarding refl)
unknown_else (nodes.Yield x0 x1) h = absurd (h.no_yield x0 x1 refl)
unknown_else (nodes.Index x0 x1) h = absurd (h.no_index x0 x1 refl)
unknown_else (nodes.Append x0 x1) h = absurd (h.no_append x0 x1 refl)
unknown_else (nodes.SetAttribute x0 x1 x2 x3) h = absurd (h.no_set_attribute x0 x1 x2 x3 refl)
unknown_else (nodes.SetIndex x0 x1 x2) h = absurd (h.no_set_index x0 x1 x2 refl)
unknown_else (nodes.And x0 x1) h = absurd (h.no_first tt)
unknown_else (nodes.Or x0 x1) h = absurd (h.no_first tt)
unknown_else (nodes.Not x0) h = absurd (h.no_first tt)
unknown_else (nodes.Negate x0) h = absurd (h.no_first tt)
unknown_else (nodes.Binary x0 x1 x2) h = absurd (h.no_first tt)
unknown_else (nodes.Assign x0 x1 x2 x3 x4) h = absurd (h.no_first tt)
unknown_else (nodes.MultipleAssign x0 x1 x2) h = absurd (h.no_several x0 x1 x2 refl)
unknown_else (nodes.OperatorAssign x0 x1 x2) h = absurd (h.no_operator_assign x0 x1 x2 refl)
unknown_else (nodes.AppendAssign x0 x1) h = absurd (h.no_append_assign x0 x1 refl)
unknown_else (nodes.OrAssign x0 x1) h = absurd (h.no_or_assign x0 x1 refl)
unknown_else (nodes.AndAssign x0 x1) h = absurd (h.no_and_assign x0 x1 refl)
unknown_else (nodes.Choose x0 x1 x2) h = absurd (h.no_first tt)
unknown_else (nodes.Loop x0 x1 x2) h = absurd (h.no_first tt)
unknown_else (nodes.Sequence x0 x1) h = absurd (h.no_sequence x0 x1 refl)
unknown_else (nodes.Item x0) h = absurd (h.no_item x0 refl)
unknown_else (nodes.Break x0) h = absurd (h.no_first tt)
unknown_else (nodes.Next x0) h = absurd (h.no_first tt)
unknown_else (nodes.Return x0) h = absurd (h.no_first tt)
unknown_else (nodes.Rescue x0 x1 x2 x3) h = absurd (h.no_first tt)
unknown_else (nodes.Ensure x0 x1) h = absurd (h.no_first tt)
unknown_else _ h = refl

-- a node of none of these kinds has no value at once
pub no_value_node : (n : Node) → (n ≡ nodes.Nil → ⊥) → ((x0 : Sym) → n ≡ nodes.Symbol x0 → ⊥) → ((x0 : ClassId) → n ≡ nodes.Class x0 → ⊥) → ((x0 : Bool) → n ≡ nodes.Truth x0 → ⊥) → ((x0 : ℤ) → n ≡ nodes.Int x0 → ⊥)
    → (n ≡ nodes.Itself → ⊥) → ((x0 : ℕ) (x1 : ℕ) (x2 : Sym) (x3 : ℕ) → n ≡ nodes.Local x0 x1 x2 x3 → ⊥) → IsValueNode n → ⊥
no_value_node nodes.Nil nil symbol class truth int itself local is = nil refl
no_value_node (nodes.Symbol x0) nil symbol class truth int itself local is = symbol x0 refl
no_value_node (nodes.Class x0) nil symbol class truth int itself local is = class x0 refl
no_value_node (nodes.Truth x0) nil symbol class truth int itself local is = truth x0 refl
no_value_node (nodes.Int x0) nil symbol class truth int itself local is = int x0 refl
no_value_node nodes.Itself nil symbol class truth int itself local is = itself refl
no_value_node (nodes.Local x0 x1 x2 x3) nil symbol class truth int itself local is = local x0 x1 x2 x3 refl
no_value_node _ nil symbol class truth int itself local is = is

-- nor does it evaluate a part first
pub record IsNoFirst (n : Node) : Type 0 where
  pub no_and : (x0 : ℕ) (x1 : ℕ) → n ≡ nodes.And x0 x1 → ⊥
  pub no_or : (x0 : ℕ) (x1 : ℕ) → n ≡ nodes.Or x0 x1 → ⊥
  pub no_not : (x0 : ℕ) → n ≡ nodes.Not x0 → ⊥
  pub no_negate : (x0 : ℕ) → n ≡ nodes.Negate x0 → ⊥
  pub no_binary : (x0 : BinaryOperator) (x1 : ℕ) (x2 : ℕ) → n ≡ nodes.Binary x0 x1 x2 → ⊥
  pub no_choose : (x0 : ℕ) (x1 : ℕ) (x2 : ℕ) → n ≡ nodes.Choose x0 x1 x2 → ⊥
  pub no_assign : (x0 : ℕ) (x1 : ℕ) (x2 : Sym) (x3 : ℕ) (x4 : ℕ) → n ≡ nodes.Assign x0 x1 x2 x3 x4 → ⊥
  pub no_set_field : (x0 : Sym) (x1 : ℕ) → n ≡ nodes.SetField x0 x1 → ⊥
  pub no_loop : (x0 : Bool) (x1 : ℕ) (x2 : ℕ) → n ≡ nodes.Loop x0 x1 x2 → ⊥
  pub no_break : (x0 : ℕ) → n ≡ nodes.Break x0 → ⊥
  pub no_next : (x0 : ℕ) → n ≡ nodes.Next x0 → ⊥
  pub no_return : (x0 : ℕ) → n ≡ nodes.Return x0 → ⊥
  pub no_rescue : (x0 : ℕ) (x1 : ℕ) (x2 : ℕ) (x3 : ℕ) → n ≡ nodes.Rescue x0 x1 x2 x3 → ⊥
  pub no_ensure : (x0 : ℕ) (x1 : ℕ) → n ≡ nodes.Ensure x0 x1 → ⊥

pub no_first_node : (n : Node) → IsNoFirst n → IsFirstNode n → ⊥
no_first_node (nodes.And x0 x1) h is = h.no_and x0 x1 refl
no_first_node (nodes.Or x0 x1) h is = h.no_or x0 x1 refl
no_first_node (nodes.Not x0) h is = h.no_not x0 refl
no_first_node (nodes.Negate x0) h is = h.no_negate x0 refl
no_first_node (nodes.Binary x0 x1 x2) h is = h.no_binary x0 x1 x2 refl
no_first_node (nodes.Choose x0 x1 x2) h is = h.no_choose x0 x1 x2 refl
no_first_node (nodes.Assign x0 x1 x2 x3 x4) h is = h.no_assign x0 x1 x2 x3 x4 refl
no_first_node (nodes.SetField x0 x1) h is = h.no_set_field x0 x1 refl
no_first_node (nodes.Loop x0 x1 x2) h is = h.no_loop x0 x1 x2 refl
no_first_node (nodes.Break x0) h is = h.no_break x0 refl
no_first_node (nodes.Next x0) h is = h.no_next x0 refl
no_first_node (nodes.Return x0) h is = h.no_return x0 refl
no_first_node (nodes.Rescue x0 x1 x2 x3) h is = h.no_rescue x0 x1 x2 x3 refl
no_first_node (nodes.Ensure x0 x1) h is = h.no_ensure x0 x1 refl
no_first_node _ h is = is
