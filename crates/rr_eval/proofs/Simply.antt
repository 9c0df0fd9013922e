-- Parts that are evaluated without a frame, by what stands in the program.
use Rattle.std.proofs.Common.{◌≡◌, ℕ, suc, ◌+◌, ap, ◌∙◌, arith, refl, sym, subst, ℤ, Some, inl, inr, List, [], ◌∷◌, ◌++◌, length, slice_get, false, Bool, true, Option, None, IfSome}
use Rattle.std.proofs.lemmas.Option.{slice_get_within}
use Rattle.rr_parser.specs.Grammar.Names.{is_splat}
use Rattle.rr_space.proofs.Hands.{append_cases}
use Rattle.rr_space.specs.Tables.{Table}
use Rattle.rr_space.specs.declared.refer.Ref.{Ref}
use Rattle.rr_space.specs.declared.refer.Ref.TheVariants.{Int as IntRef, Class}
use Rattle.rr_tree.specs.Tree.{Tree, nil, truth, int, symbol, itself, class_named, constant, local, binary, splat, tree_at}
use Rattle.rr_tree.specs.declared.node.BinaryOperator.{BinaryOperator}
use Rattle.rr_tree.specs.declared.program.Program.{Program}
use Rattle.rr_eval.specs.declared.call_stack.Variable.{Variable as Named}
use Rattle.rr_eval.specs.declared.problem.Answer.TheVariants.{Gave}
use Rattle.rr_eval.specs.declared.chains.Link.{Link}
use Rattle.rr_eval.specs.declared.simple_parts.ApartPart.{ApartPart}
use Rattle.rr_eval.specs.declared.simple_parts.SimplePart.{SimplePart}
use Rattle.rr_eval.specs.declared.simple_parts.SimplePart.TheVariants.{Variable, Int, WithInt, WithVariable, Value, Itself, Apart, Other}
use Rattle.rr_frames.specs.Frames.{Frame as Activated}
use Rattle.rr_eval.specs.Context.{Context}
use Rattle.rr_eval.specs.Frames.{means, runs_in}
use Rattle.rr_eval.specs.Rules.{on_value, with_value, operation, rule}
use Rattle.rr_eval.specs.Constants.{own_class, plain_constant}
use Rattle.rr_eval.specs.Blocks.{running}
use Rattle.rr_eval.specs.Within.{Reach, IsReached}
use Rattle.rr_base.specs.declared.name.ClassId.{ClassId}
use Rattle.rr_base.specs.declared.name.Sym.{Sym}
use Rattle.rr_space.specs.Parts.{truth_ref}
use Rattle.rr_tree.specs.declared.node.Path.TheVariants.{Plain}
use Rattle.std.specs.Option.{option_map}
use Rattle.rr_eval.specs.Script.{Ret, after}
use Rattle.rr_eval.specs.SimpleParts.{AreSimple, IsSimple, literal_of, operand_of, operation_of, simple_of}
use Rattle.rr_eval.specs.Turns.{code_of, context_of, state_of, leaf_value}
use Rattle.rr_eval.specs.Usual.{TakesNow}
use Rattle.rr_eval.specs.Variables.{read_variable}
use Rattle.rr_eval.specs.View.{View}
use Rattle.rr_eval.proofs.Depth.{meaning_rule}
use Rattle.rr_eval.proofs.Quickly.{answers, leaf_takes}

-- one part more
pub simple_more : (p : Program) (links : List Link) (parts : List SimplePart) (s : SimplePart) (n : ℕ) → length parts ≡ n → AreSimple p links parts → IsSimple p links (tree_at p.nodes.items n) s → AreSimple p links (parts ++ s ∷ [])
simple_more p links parts s n at are is = λ x f e.
    elim (append_cases parts (s ∷ []) x f e) [
      | inl l ↦ are x f l
      | inr r ↦
          let within = slice_get_within (s ∷ []) r.0 f r.2 in
          let none : r.0 ≡ 0 = omega (arith, within) in
          let first = subst (λ j. slice_get (s ∷ []) j ≡ Some f) none r.2 in
          let same : s ≡ f = cc first in
          let there : n ≡ x = omega (arith, at, r.1, none) in
          subst (IsSimple p links (tree_at p.nodes.items x)) same (subst (λ k. IsSimple p links (tree_at p.nodes.items k) s) there is)
    ]

abbrev named : ℕ → ℕ → Named
named depth slot = record { depth = depth; slot = slot }

-- an operand that is a variable has its value
variable_leaf : (a : Tree) (v : Named) (frames : List Activated) → operand_of a ≡ Variable v → leaf_value a frames ≡ Some (read_variable v frames)
variable_leaf (local depth slot x behind) v frames e =
    let same : named depth slot ≡ v = cc e in
    ap (λ w. Some (read_variable w frames)) same
variable_leaf (int z) v frames e = absurd (cc e)
variable_leaf _ v frames e = absurd (cc e)

-- an operand that is an integer
int_leaf : (b : Tree) (z : ℤ) (frames : List Activated) → operand_of b ≡ Int z → leaf_value b frames ≡ Some (IntRef z)
int_leaf (int y) z frames e = ap (λ i. Some (IntRef i)) (cc e)
int_leaf (local depth slot x behind) z frames e = absurd (cc e)
int_leaf _ z frames e = absurd (cc e)

-- the operands of an operator on a variable and an integer
with_int_parts : (o op : BinaryOperator) (s t : SimplePart) (v : Named) (z : ℤ) → operation_of o s t ≡ WithInt op v z → (o ≡ op) × (s ≡ Variable v) × (t ≡ Int z)
with_int_parts o op (Variable w) (Int y) v z e = (cc e, ap Variable (cc e), ap Int (cc e))
with_int_parts o op (Variable w) _ v z e = absurd (cc e)
with_int_parts o op _ _ v z e = absurd (cc e)

-- the operands of an operator on two variables
with_variable_parts : (o op : BinaryOperator) (s t : SimplePart) (v w : Named) → operation_of o s t ≡ WithVariable op v w → (o ≡ op) × (s ≡ Variable v) × (t ≡ Variable w)
with_variable_parts o op (Variable x) (Variable y) v w e = (cc e, ap Variable (cc e), ap Variable (cc e))
with_variable_parts o op (Variable x) _ v w e = absurd (cc e)
with_variable_parts o op _ _ v w e = absurd (cc e)

-- an operator is neither a variable nor an integer
operation_leaf : (o : BinaryOperator) (s t : SimplePart) (v : Named) → operation_of o s t ≡ Variable v → ⊥
operation_leaf o (Variable w) (Int y) v e = cc e
operation_leaf o (Variable w) (Variable y) v e = cc e
operation_leaf o (Variable w) _ v e = cc e
operation_leaf o _ _ v e = cc e

operation_int : (o : BinaryOperator) (s t : SimplePart) (z : ℤ) → operation_of o s t ≡ Int z → ⊥
operation_int o (Variable w) (Int y) z e = cc e
operation_int o (Variable w) (Variable y) z e = cc e
operation_int o (Variable w) _ z e = cc e
operation_int o _ _ z e = cc e

-- a part that is a variable has its value
pub variable_takes : (p : Program) (m : View) (t : Table) (tree : Tree) (v : Named) → Variable v ≡ simple_of tree → TakesNow p m t tree 1 (read_variable v m.calls.frames)
variable_takes p m t (local depth slot x behind) v e = leaf_takes p m t (local depth slot x behind) (read_variable v m.calls.frames) (variable_leaf (local depth slot x behind) v m.calls.frames (sym e))
variable_takes p m t (binary o a b) v e = absurd (operation_leaf o (operand_of a) (operand_of b) v (sym e))
variable_takes p m t _ v e = absurd (cc e)

-- an operand that is a variable
pub operand_takes : (p : Program) (m : View) (t : Table) (a : Tree) (v : Named) → operand_of a ≡ Variable v → TakesNow p m t a 1 (read_variable v m.calls.frames)
operand_takes p m t a v e = leaf_takes p m t a (read_variable v m.calls.frames) (variable_leaf a v m.calls.frames e)

-- a part that is an integer
pub int_takes : (p : Program) (m : View) (t : Table) (tree : Tree) (z : ℤ) → Int z ≡ simple_of tree → TakesNow p m t tree 1 (IntRef z)
int_takes p m t (int y) z e = leaf_takes p m t (int y) (IntRef z) (int_leaf (int y) z m.calls.frames (sym e))
int_takes p m t (binary o a b) z e = absurd (operation_int o (operand_of a) (operand_of b) z (sym e))
int_takes p m t _ z e = absurd (cc e)

-- an operator on two parts takes a step more than they
pub operation_takes : (p : Program) (m : View) (t : Table) (op : BinaryOperator) (a b : Tree) (i j : ℕ) (v w r : Ref) → TakesNow p m t a i v → TakesNow p m t b j w → ((c : Context) → operation c op v w ≡ Ret (Gave r)) → TakesNow p m t (binary op a b) (i + j + 1) r
operation_takes p m t op a b i j v w r first second is = λ h n.
    let c = code_of p h.world in
    let s = state_of p m t h in
    let sum : i + j + 1 + n ≡ suc (i + (j + n)) = omega arith in
    ap (means c (binary op a b) s) sum
    ∙ meaning_rule c.context c.world (binary op a b) s (i + (j + n))
    ∙ ap (λ o. after o (λ q. runs_in c (on_value (λ x. with_value b (operation c.context op x)) q))) (first h (j + n))
    ∙ ap (λ o. after o (λ q. runs_in c (on_value (operation c.context op v) q))) (second h n)
    ∙ ap (λ q. runs_in c q s n) (is c.context)

-- an operator whose operands are leaves takes three steps
operands_take : (p : Program) (m : View) (t : Table) (op : BinaryOperator) (a b : Tree) (v w r : Ref) → leaf_value a m.calls.frames ≡ Some v → leaf_value b m.calls.frames ≡ Some w → ((c : Context) → operation c op v w ≡ Ret (Gave r)) → TakesNow p m t (binary op a b) 3 r
operands_take p m t op a b v w r first second is = operation_takes p m t op a b 1 1 v w r (leaf_takes p m t a v first) (leaf_takes p m t b w second) is

-- an operator on a variable and an integer
pub with_int_takes : (p : Program) (m : View) (t : Table) (tree : Tree) (op : BinaryOperator) (v : Named) (z : ℤ) (r : Ref) → WithInt op v z ≡ simple_of tree → ((c : Context) → operation c op (read_variable v m.calls.frames) (IntRef z) ≡ Ret (Gave r)) → TakesNow p m t tree 3 r
with_int_takes p m t (binary o a b) op v z r e is =
    let fs = m.calls.frames in
    let parts = with_int_parts o op (operand_of a) (operand_of b) v z (sym e) in
    operands_take p m t o a b (read_variable v fs) (IntRef z) r (variable_leaf a v fs parts.1) (int_leaf b z fs parts.2) (λ c. ap (λ q. operation c q (read_variable v fs) (IntRef z)) parts.0 ∙ is c)
with_int_takes p m t _ op v z r e is = absurd (cc e)

-- an operator on two variables
pub with_variable_takes : (p : Program) (m : View) (t : Table) (tree : Tree) (op : BinaryOperator) (v w : Named) (r : Ref) → WithVariable op v w ≡ simple_of tree → ((c : Context) → operation c op (read_variable v m.calls.frames) (read_variable w m.calls.frames) ≡ Ret (Gave r)) → TakesNow p m t tree 3 r
with_variable_takes p m t (binary o a b) op v w r e is =
    let fs = m.calls.frames in
    let parts = with_variable_parts o op (operand_of a) (operand_of b) v w (sym e) in
    operands_take p m t o a b (read_variable v fs) (read_variable w fs) r (variable_leaf a v fs parts.1) (variable_leaf b w fs parts.2) (λ c. ap (λ q. operation c q (read_variable v fs) (read_variable w fs)) parts.0 ∙ is c)
with_variable_takes p m t _ op v w r e is = absurd (cc e)

-- no simple part is a splat
pub simple_plain : (tree : Tree) (s : SimplePart) → s ≡ simple_of tree → (s ≡ Other → ⊥) → is_splat tree ≡ false
simple_plain (splat t) s e h = absurd (h e)
simple_plain _ s e h = refl

-- what a part is as far as integers and variables go, that it is
operation_value : (o : BinaryOperator) (s t : SimplePart) (v : Ref) → operation_of o s t ≡ Value v → ⊥
operation_value o (Variable w) (Int y) v e = cc e
operation_value o (Variable w) (Variable y) v e = cc e
operation_value o (Variable w) _ v e = cc e
operation_value o _ _ v e = cc e

operation_itself : (o : BinaryOperator) (s t : SimplePart) → operation_of o s t ≡ Itself → ⊥
operation_itself o (Variable w) (Int y) e = cc e
operation_itself o (Variable w) (Variable y) e = cc e
operation_itself o (Variable w) _ e = cc e
operation_itself o _ _ e = cc e

operation_apart : (o : BinaryOperator) (s t : SimplePart) (a : ApartPart) → operation_of o s t ≡ Apart a → ⊥
operation_apart o (Variable w) (Int y) a e = cc e
operation_apart o (Variable w) (Variable y) a e = cc e
operation_apart o (Variable w) _ a e = cc e
operation_apart o _ _ a e = cc e

no_value : (tree : Tree) (v : Ref) → simple_of tree ≡ Value v → ⊥
no_value (binary o a b) v e = operation_value o (operand_of a) (operand_of b) v e
no_value (int z) v e = cc e
no_value (local depth slot x behind) v e = cc e
no_value _ v e = cc e

no_itself : (tree : Tree) → simple_of tree ≡ Itself → ⊥
no_itself (binary o a b) e = operation_itself o (operand_of a) (operand_of b) e
no_itself (int z) e = cc e
no_itself (local depth slot x behind) e = cc e
no_itself _ e = cc e

no_apart : (tree : Tree) (a : ApartPart) → simple_of tree ≡ Apart a → ⊥
no_apart (binary o a b) x e = operation_apart o (operand_of a) (operand_of b) x e
no_apart (int z) x e = cc e
no_apart (local depth slot x behind) y e = cc e
no_apart _ x e = cc e

pub simple_is : (p : Program) (links : List Link) (tree : Tree) (s : SimplePart) → s ≡ simple_of tree → IsSimple p links tree s
simple_is p links tree (Value v) e = absurd (no_value tree v (sym e))
simple_is p links tree Itself e = absurd (no_itself tree (sym e))
simple_is p links tree (Apart a) e = absurd (no_apart tree a (sym e))
simple_is p links tree (Variable v) e = e
simple_is p links tree (Int z) e = e
simple_is p links tree (WithInt op v z) e = e
simple_is p links tree (WithVariable op v w) e = e
simple_is p links tree Other e = e

-- a literal's rule is its value
class_rule : (p : Program) (x : Sym) (o : Option ClassId) (v : Ref) → option_map Class o ≡ Some v → plain_constant (context_of p) o x ≡ Ret (Gave v)
class_rule p x (Some k) v e = ap (λ r. Ret (Gave r)) (cc e)
class_rule p x None v e = absurd (cc e)

literal_rule : (p : Program) (tree : Tree) (v : Ref) → literal_of p tree ≡ Some v → rule (context_of p) tree ≡ Ret (Gave v)
literal_rule p nil v e = ap (λ r. Ret (Gave r)) (cc e)
literal_rule p (truth b) v e = ap (λ r. Ret (Gave r)) (cc e)
literal_rule p (symbol x) v e = ap (λ r. Ret (Gave r)) (cc e)
literal_rule p (class_named k) v e = ap (λ r. Ret (Gave r)) (cc e)
literal_rule p (constant (Plain x)) v e = class_rule p x (own_class p x.0) v e
literal_rule p _ v e = absurd (cc e)

pub literal_takes : (p : Program) (m : View) (t : Table) (tree : Tree) (v : Ref) → literal_of p tree ≡ Some v → TakesNow p m t tree 1 v
literal_takes p m t tree v e = λ h. answers (code_of p h.world) tree tree (state_of p m t h) v refl (λ n. ap (λ r. runs_in (code_of p h.world) r (state_of p m t h) n) (literal_rule p tree v e))

pub literal_plain : (p : Program) (tree : Tree) (v : Ref) → literal_of p tree ≡ Some v → is_splat tree ≡ false
literal_plain p (splat t) v e = absurd (cc e)
literal_plain p _ v e = refl

truth_reached : (k : Reach) (b : Bool) → IsReached k (truth_ref b)
truth_reached k true = tt
truth_reached k false = tt

class_reached : (k : Reach) (o : Option ClassId) (v : Ref) → option_map Class o ≡ Some v → IsReached k v
class_reached k (Some c) v e = subst (λ (o : Option Ref). IfSome o (IsReached k)) e tt
class_reached k None v e = absurd (cc e)

pub literal_reached : (k : Reach) (p : Program) (tree : Tree) (v : Ref) → literal_of p tree ≡ Some v → IsReached k v
literal_reached k p nil v e = subst (λ (o : Option Ref). IfSome o (IsReached k)) e tt
literal_reached k p (truth b) v e = subst (λ (o : Option Ref). IfSome o (IsReached k)) e (truth_reached k b)
literal_reached k p (symbol x) v e = subst (λ (o : Option Ref). IfSome o (IsReached k)) e tt
literal_reached k p (class_named c) v e = subst (λ (o : Option Ref). IfSome o (IsReached k)) e tt
literal_reached k p (constant (Plain x)) v e = class_reached k (own_class p x.0) v e
literal_reached k p _ v e = absurd (cc e)

-- `self`
pub itself_takes : (p : Program) (m : View) (t : Table) (tree : Tree) → tree ≡ itself → TakesNow p m t tree 1 (running m.calls.frames).itself
itself_takes p m t tree is = λ h. answers (code_of p h.world) tree itself (state_of p m t h) (running m.calls.frames).itself is (λ n. refl)
