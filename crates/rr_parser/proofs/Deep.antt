-- Reading is too deep only where the constructs that are begun pass the limit.
use Rattle.std.proofs.Common.{◌≡◌, zero, suc, inl, inr, Bool, true, false, cond, List, Option, Some, None, Ok, Err, refl, ℕ, [], ◌∙◌, ap, ◌∷◌}
use Rattle.rr_base.specs.declared.name.Sym.{Sym}
use Rattle.rr_tree.specs.Tree.{Tree, rescue, clause, ensure, sequence, repeat, logical_not, listed}
use Rattle.rr_parser.specs.declared.word.Caught.{Caught}
use Rattle.rr_parser.specs.declared.word.Modifier.{Modifier}
use Rattle.rr_parser.specs.declared.word.Listed.TheVariants as listings
use Rattle.rr_parser.specs.declared.word.Part.{Part}
use Rattle.rr_parser.specs.declared.word.Part.TheVariants as parts
use Rattle.rr_parser.specs.declared.word.WordKind.TheVariants as kind
use Rattle.rr_parser.specs.declared.word.Fence.{Fence}
use Rattle.rr_parser.specs.declared.word.Fence.TheVariants as fences
use Rattle.rr_tree.specs.declared.node.Path.{Path}
use Rattle.rr_parser.specs.Grammar.Fences.{Taking, fence_end}
use Rattle.rr_parser.specs.Places.{Place, word, at, skip, separators, next}
use Rattle.rr_parser.specs.Grammar.Chains.{Chain, same, one_of, and_one}
use Rattle.rr_parser.specs.Grammar.Nesting.{Nested}
use Rattle.rr_parser.specs.Grammar.Operators.{connective, joined_by}
use Rattle.rr_parser.specs.Grammar.Calls.{comma}
use Rattle.rr_parser.specs.Grammar.Several.{several, Targeted, Targets, assigned_to_several, a_spot, plain_sign}
use Rattle.rr_parser.specs.Grammar.Sequences.{Simple, Modifying, Negation, Expression, modifier, modified, Statement, Statements}
use Rattle.rr_parser.specs.Grammar.Interpolations.{text_middle, text_tail, first_piece, and_piece}
use Rattle.rr_parser.specs.Grammar.Control.{thens, loops, elsif, chosen, unless_chosen, looping, Branch, Branches}
use Rattle.rr_parser.specs.Grammar.Bodies.{path, Class, Classes, caught, with_caught, caught_tree, Clause, rescues, Clauses, Rescued, loop_word}
use Rattle.rr_parser.specs.Grammar.Blocks.{parameters, entered}
use Rattle.rr_parser.specs.Grammar.Definitions.{method_name, formals, defined}
use Rattle.rr_parser.specs.Grammar.{is_enclosed, inside, outside}
use Rattle.rr_parser.specs.Reading.Answers.{◌>>=◌, wrong, deep, Answer, built, closed, across, taking_of, trail_on, chain}
use Rattle.rr_parser.specs.Reading.Nesting.{Readers}
use Rattle.rr_parser.specs.Reading.Calls.{bracketed_of}
use Rattle.rr_parser.specs.Reading.Several.{targeted_of, targets_of, behind_first, several_on, several_or, several_of}
use Rattle.rr_parser.specs.Reading.Sequences.{simple_or, simple_of, modifying_of, negation_or, negation_of, expression_of, statement_of, ends, row, rows_of, sequence_of, statements_of, group_of, connected_on, expression_on, is_led, simple_at, spotted_on, spotted_or}
use Rattle.rr_parser.specs.Reading.Interpolations.{pieces_of, interpolated_or, interpolated_on, interpolation_of}
use Rattle.rr_parser.specs.Reading.Control.{both, branch_of, branches_of, otherwise_or, otherwise_of, ended, choice_of, unless_of, loop_of, looped_of}
use Rattle.rr_parser.specs.Reading.Bodies.{class_or, class_of, several_classes, classes_or, classes_of, clause_or, clause_on, clause_of, clauses_of, rescued_or, rescued_on, rescued_of, ensured_or, ensured_on, body_of, unlooped, ended_body, unlooped_on, begun_of, held_of}
use Rattle.rr_parser.specs.Reading.Blocks.{left_block, block_or, block_of}
use Rattle.rr_parser.specs.Reading.Definitions.{left_method, method_or, definition_or, definition_of}
use Rattle.rr_parser.specs.Reading.{form_of, part_of, readers_inside, readers_outside}
use Rattle.rr_parser.specs.Fronts.{SimpleFront, in_rights, in_expression, ModifyingFront, AcrossFront, Fronts, ChainFront, in_one, in_more, ClauseFront, in_clause, ClausesFront, RescuedFront, BodyFront, HeldFront, MembersFront, in_former, in_latter, TakingFront, NegationFront, in_negation, behind_no_negation, ExpressionFront, StatementFront, RowsFront, StatementsFront, PiecesFront, BranchFront, BranchesFront, EndedFront, LoopFront, LoopedFront, BlockFront, in_body, DefinitionFront, in_method, FormFront, PartFront, fronts_inside, fronts_outside, in_head, TargetsFront, in_targets}
use Rattle.rr_parser.proofs.Told.{told_plain_sign, told_not, told_comma}
use Rattle.rr_parser.proofs.Looks.{word-next, row-separators}
use Rattle.rr_parser.proofs.Chains.{done}
use Rattle.rr_parser.proofs.SoundOperands.{NestedSound, taking_sound, postfix_sound}
use Rattle.rr_parser.proofs.SoundCalls.{targeted_sound, targets_sound}
use Rattle.rr_parser.proofs.Sound.{simple_sound, modifying_sound, negation_sound, expression_sound, statement_sound, statements_sound, class_sound, classes_sound, clause_sound, clauses_sound, rescued_sound, branch_sound, branches_sound, sound_inside, sound_outside}
use Rattle.rr_parser.proofs.ClassDeep.{class_body_deep}
use Rattle.rr_parser.proofs.DeepOperands.{IsDeep, bind_deep, built_deep, closed_deep, across_deep, past_loop, NestedDeep, from_deep, taking_deep, enclosed_deep, chain_deep, bang_deep, minus_deep}
use Rattle.rr_parser.proofs.Trails.{trail_deep}
use Rattle.rr_parser.proofs.DeepCalls.{argument_deep, bracketed_deep, array_deep, hash_deep, index_deep, command_deep, value_deep, rights_deep, operand_within, targeted_deep, targets_deep, ordered_deep}
use Rattle.rr_parser.specs.Grammar.Operands.{Reached, Spot}
use Rattle.rr_parser.proofs.Beginnings.{expression_from}
use Rattle.rr_parser.specs.Reading.Operands.{postfix_of}

-- ---- classes, in which nothing nests

abbrev Nowhere : Place → Place → Type 0
Nowhere s z = ⊥

class_deep : IsDeep class_of Nowhere
class_deep s e = class_or-deep s (at path s) e
  where
    class_or-deep : (s : Place) (o : Option (Path × Place)) → class_or o ≡ Err deep → (z : Place) × Nowhere s z
    class_or-deep s None e = absurd cc
    class_or-deep s (Some x) e = absurd cc

no_class_front : (s z : Place) → ChainFront comma (Chain comma one_of and_one Class) Nowhere s z → ⊥
no_class_front s z (in_one h) = h
no_class_front s z (in_more c e h) = h

several_not_deep : (s : Place) → several_classes s ≡ Err deep → ⊥
unfolding several_classes
several_not_deep s e = let d = chain_deep comma comma one_of and_one class_of Class Nowhere (λ m n x e. e) class_sound class_deep s e in no_class_front s d.0 d.1

classes_or-deep : (s : Place) (o : Option (Path × Place)) → classes_or s o ≡ Err deep → ⊥
classes_or-deep s None e = let never : ⊥ = cc in never
classes_or-deep s (Some x) e = several_not_deep s e

classes_not_deep : (s : Place) → classes_of s ≡ Err deep → ⊥
classes_not_deep s e = classes_or-deep s (at path s) e

module _ (N : Readers) (R : Nested) (F : Fronts) (sounds : NestedSound N R) (nests : NestedDeep N F) where
  -- ---- statements

  negation_or-deep : (s : Place) (o : Option (Unit {0} × Place)) → at (word kind.NotWord) s ≡ o → negation_or N s o ≡ Err deep → (z : Place) × NegationFront R F s z
  negation_or-deep s None f e = let d = (value_deep N R F sounds nests) true s e in (d.0, behind_no_negation d.1)
  negation_or-deep s (Some m) f e =
      let d = nests.part parts.Not m.1 (built_deep logical_not (N.part parts.Not m.1) e) in
      (d.0, in_negation (word-next kind.NotWord told_not s m.1 m.0 f) d.1)

  pub negation_deep : IsDeep (negation_of N) (NegationFront R F)
  unfolding negation_of
  negation_deep s e = negation_or-deep s (at (word kind.NotWord) s) refl e

  expression_deep : IsDeep (expression_of N) (ExpressionFront R F)
  unfolding expression_of connected_on chain
  expression_deep = chain_deep (connective 3) (connective 3) same joined_by (negation_of N) (Negation R) (NegationFront R F) (λ m n x e. e) (negation_sound N R sounds) negation_deep

  in_the_expression : (s : Place) → expression_of N s ≡ Err deep → (z : Place) × SimpleFront R F s z
  in_the_expression s e = let d = expression_deep s e in (d.0, in_expression d.1)

  several_on-deep : (s m n : Place) (t : Tree) → Targeted R s t m → next m ≡ Some (kind.Comma, n) → several_on N t n ≡ Err deep → (z : Place) × SimpleFront R F s z
  unfolding several_on
  several_on-deep s m n t h c e =
      let d = across_deep (λ l v. assigned_to_several (t ∷ l) v) (word plain_sign) N.values (targets_of N n) n (Targets R) (TargetsFront R F) F.values (λ a o g. (targets_sound N R sounds) n o a g) (λ g. (targets_deep N R F sounds nests) n g)
      nests.values e in
      behind d.0 d.1
    where
      behind : (z : Place) → AcrossFront (word plain_sign) (Targets R) (TargetsFront R F) F.values n z → (z : Place) × SimpleFront R F s z
      behind z (in_former g) = (z, in_targets h c g)
      behind z (in_latter {m = o} {n = y} {x = u} b f g) = (z, in_rights h c b (word-next plain_sign told_plain_sign o y u f) g)

  several_or-deep : (s m : Place) (t : Tree) (o : Option (Unit {0} × Place)) → Targeted R s t m → at comma m ≡ o → several_or N t o ≡ Err deep → (z : Place) × SimpleFront R F s z
  several_or-deep s m t None h f e = absurd cc
  several_or-deep s m t (Some n) h f e = several_on-deep s m n.1 t h (word-next kind.Comma told_comma m n.1 n.0 f) e

  several_deep : IsDeep (several_of N) (SimpleFront R F)
  unfolding several_of
  several_deep =
      from_deep (targeted_of N) (behind_first N) (Targeted R) (SimpleFront R F) (targeted_sound N R sounds) (λ s m t h e. several_or-deep s m t (at comma m) h refl e)
      (λ s e. let d = (targeted_deep N R F sounds nests) s e in (d.0, in_expression (in_one (behind_no_negation ((operand_within N R F sounds nests) s d.0 d.1)))))

  module _ (s m : Place) (t : Reached) (led : is_led s.known s.rest ≡ false) (read : postfix_of N s ≡ Ok (t, m)) where
    from_operand : expression_on N t m ≡ Err deep → (z : Place) × SimpleFront R F s z
    from_operand e = in_the_expression s (expression_from N s led ∙ ap (λ (q : Answer Reached). q >>= λ x. expression_on N x.0 x.1) read ∙ e)

    spotted_or-deep : (p : Option Spot) (o : Option (Unit {0} × Place)) → t.spot ≡ p → at comma m ≡ o → spotted_or N t m p o ≡ Err deep → (z : Place) × SimpleFront R F s z
    spotted_or-deep None o f g e = from_operand e
    spotted_or-deep (Some p) None f g e = from_operand e
    spotted_or-deep (Some p) (Some n) f g e = several_on-deep s m n.1 t.tree (a_spot ((postfix_sound N R sounds) s m t read) f) (word-next kind.Comma told_comma m n.1 n.0 g) e

  simple_at-deep : (b : Bool) (s : Place) → is_led s.known s.rest ≡ b → simple_at N b s ≡ Err deep → (z : Place) × SimpleFront R F s z
  unfolding spotted_on
  simple_at-deep true s f e = in_the_expression s e
  simple_at-deep false s f e =
      elim (bind_deep (postfix_of N s) (λ x. spotted_on N x.0 x.1) e) [
        | inl g ↦ in_the_expression s (expression_from N s f ∙ ap (λ (q : Answer Reached). q >>= λ x. expression_on N x.0 x.1) g)
        | inr b ↦ spotted_or-deep s b.0.1 b.0.0 f b.1 b.0.0.spot (at comma b.0.1) refl refl b.2
      ]

  simple_or-deep : (s : Place) (o : Option (Unit {0} × Place)) → simple_or N s o ≡ Err deep → (z : Place) × SimpleFront R F s z
  simple_or-deep s None e = simple_at-deep (is_led s.known s.rest) s refl e
  simple_or-deep s (Some x) e = several_deep s e

  simple_deep : IsDeep (simple_of N) (SimpleFront R F)
  unfolding simple_of
  simple_deep s e = simple_or-deep s (at several s) e

  modifying_deep : (x : Modifier) (l : Tree) → IsDeep (modifying_of N x l) (ModifyingFront R F x l)
  modifying_deep x l s e = expression_deep s (built_deep (modified x l) (expression_of N s) e)

  pub statement_deep : IsDeep (statement_of N) (StatementFront R F)
  unfolding statement_of
  statement_deep =
      from_deep (simple_of N) (trail_on modifier (modifying_of N)) (Simple R) (StatementFront R F) (simple_sound N R sounds)
      (trail_deep modifier modifier (λ m n x e. e) (modifying_of N) (Simple R) (Modifying R) (modifying_sound N R sounds) (SimpleFront R F) (ModifyingFront R F) modifying_deep (λ r f e. bind_deep r f e))
      (λ s e. let d = simple_deep s e in (d.0, in_head d.1))

  rows_deep : IsDeep (rows_of N) (RowsFront R F)
  unfolding rows_of
  rows_deep = chain_deep separators row one_of and_one (statement_of N) (Statement R) (StatementFront R F) (λ m n x f. (row-separators m n x f).0) (statement_sound N R sounds) statement_deep

  sequence_deep : (r : Answer (List Tree)) → sequence_of r ≡ Err deep → r ≡ Err deep
  sequence_deep (Ok x) e = absurd cc
  sequence_deep (Err wrong) e = absurd cc
  sequence_deep (Err deep) e = refl

  statements_test : (b : Bool) (s : Place) → cond b (done (sequence (listed [])) (skip s)) (sequence_of (rows_of N (skip s))) ≡ Err deep → (z : Place) × StatementsFront R F s z
  statements_test true s e = absurd cc
  statements_test false s e = rows_deep (skip s) (sequence_deep (rows_of N (skip s)) e)

  pub statements_deep : IsDeep (statements_of N) (StatementsFront R F)
  unfolding statements_of
  statements_deep s e = statements_test (ends (skip s).rest) s e

  group_deep : IsDeep (group_of N) (StatementsFront R F)
  unfolding group_of
  group_deep s e = statements_deep s (closed_deep kind.Close (statements_of N s) e)

  -- ---- text with parts

  pieces_deep : (i : ℕ) → IsDeep (pieces_of N i) (PiecesFront R F i)
  unfolding pieces_of
  pieces_deep i = chain_deep text_middle text_middle (first_piece i) and_piece (statements_of N) (Statements R) (StatementsFront R F) (λ m n x e. e) (statements_sound N R sounds) statements_deep

  interpolated_or-not_deep : (l : List Tree) (o : Option (ℕ × Place)) → interpolated_or l o ≡ Err deep → ⊥
  interpolated_or-not_deep l None e = let never : ⊥ = cc in never
  interpolated_or-not_deep l (Some x) e = let never : ⊥ = cc in never

  interpolation_deep : (i : ℕ) → IsDeep (interpolation_of N i) (PiecesFront R F i)
  unfolding interpolation_of
  interpolation_deep i s e =
      elim (bind_deep (pieces_of N i s) (λ x. interpolated_on x.0 x.1) e) [
        | inl g ↦ pieces_deep i s g
        | inr b ↦ absurd (interpolated_or-not_deep b.0.0 (at text_tail b.0.1) b.2)
      ]

  -- ---- control

  branch_deep : IsDeep (branch_of N) (BranchFront R F)
  unfolding branch_of
  branch_deep s e =
      across_deep both thens (statements_of N) (expression_of N s) s (Expression R) (ExpressionFront R F) (StatementsFront R F) (λ a m g. expression_sound N R sounds s m a g) (λ g. expression_deep s g) statements_deep e

  branches_deep : IsDeep (branches_of N) (BranchesFront R F)
  unfolding branches_of
  branches_deep = chain_deep elsif elsif one_of and_one (branch_of N) (Branch R) (BranchFront R F) (λ m n x e. e) (branch_sound N R sounds) branch_deep

  else_deep : {A : Type 0} (s : Place) (P : Place → A → Place → Type 0) (G : Place → Place → Type 0) (a : A) (m : Place) → P s a m → (o : Option (Unit {0} × Place)) → at (word kind.Else) m ≡ o → otherwise_or N m o ≡ Err deep
      → (z : Place) × EndedFront R F P G s z
  else_deep s P G a m h None g i = absurd cc
  else_deep s P G a m h (Some x) g i = let d = statements_deep x.1 i in (d.0, in_latter {x = x.0} h g d.1)

  ended_deep : {A : Type 0} (f : A → Tree → Tree) (r : Answer A) (s : Place) (P : Place → A → Place → Type 0) (G : Place → Place → Type 0)
      → ((a : A) (m : Place) → r ≡ Ok (a, m) → P s a m) → (r ≡ Err deep → (z : Place) × G s z) → ended N f r ≡ Err deep → (z : Place) × EndedFront R F P G s z
  unfolding otherwise_of
  ended_deep {A} f r s P G sound first e =
      elim (bind_deep r (λ l. closed kind.End (built (f l.0) (otherwise_of N l.1))) e) [
        | inl g ↦ (let d = first g in (d.0, in_former d.1))
        | inr b ↦ else_deep s P G b.0.0 b.0.1 (sound b.0.0 b.0.1 b.1) (at (word kind.Else) b.0.1) refl (built_deep (f b.0.0) (otherwise_of N b.0.1) (closed_deep kind.End (built (f b.0.0) (otherwise_of N b.0.1)) b.2))
      ]

  choice_deep : IsDeep (choice_of N) (EndedFront R F (Branches R) (BranchesFront R F))
  unfolding choice_of
  choice_deep s e = ended_deep chosen (branches_of N s) s (Branches R) (BranchesFront R F) (λ a m g. branches_sound N R sounds s m a g) (λ g. branches_deep s g) e

  unless_deep : IsDeep (unless_of N) (EndedFront R F (Branch R) (BranchFront R F))
  unfolding unless_of
  unless_deep s e = ended_deep unless_chosen (branch_of N s) s (Branch R) (BranchFront R F) (λ a m g. branch_sound N R sounds s m a g) (λ g. branch_deep s g) e

  loop_deep : (until : Bool) → IsDeep (loop_of N until) (LoopFront R F)
  unfolding loop_of
  loop_deep until s e =
      across_deep (repeat until) loops (statements_of N) (taking_of false (expression_of N) s) s (Taking false (Expression R)) (TakingFront false (ExpressionFront R F)) (StatementsFront R F)
      (λ a m g. taking_sound false (expression_of N) (Expression R) (expression_sound N R sounds) s m a g) (λ g. taking_deep false (expression_of N) (ExpressionFront R F) expression_deep s g) statements_deep
      (closed_deep kind.End (across (repeat until) loops (statements_of N) (taking_of false (expression_of N) s)) e)

  outside_deep : (s : Place) (r : Answer Tree) → past_loop s r ≡ Err deep → r ≡ Err deep
  outside_deep s (Ok x) e = absurd cc
  outside_deep s (Err wrong) e = absurd cc
  outside_deep s (Err deep) e = refl

  looped_deep : (until : Bool) → IsDeep (looped_of N until) (LoopedFront R F)
  looped_deep until s e = loop_deep until (looping s) (outside_deep s (loop_of N until (looping s)) e)

  -- ---- bodies

  clause_or-deep : (s m : Place) (l : List Tree) (o : Option (Option Caught × Place)) → Classes s l m → at caught m ≡ o → clause_or N l o ≡ Err deep → (z : Place) × ClauseFront R F s z
  clause_or-deep s m l None h f e = absurd cc
  clause_or-deep s m l (Some x) h f e =
      let n = with_caught x.0 x.1 in
      let d = statements_deep n (built_deep (clause (listed l) (caught_tree x.0 n)) (statements_of N n) e) in
      (d.0, in_clause h f d.1)

  clause_deep : IsDeep (clause_of N) (ClauseFront R F)
  unfolding clause_of
  clause_deep = from_deep classes_of (clause_on N) Classes (ClauseFront R F) classes_sound (λ s m l h e. clause_or-deep s m l (at caught m) h refl e) (λ s e. absurd (classes_not_deep s e))

  clauses_deep : IsDeep (clauses_of N) (ClausesFront R F)
  unfolding clauses_of
  clauses_deep = chain_deep rescues rescues one_of and_one (clause_of N) (Clause R) (ClauseFront R F) (λ m n x e. e) (clause_sound N R sounds) clause_deep

  rescued_or-deep : (s m : Place) (l : Tree) (o : Option (Unit {0} × Place)) → Statements R s l m → at rescues m ≡ o → rescued_or N l m o ≡ Err deep → (z : Place) × RescuedFront R F s z
  unfolding otherwise_of
  rescued_or-deep s m l None h f e = absurd cc
  rescued_or-deep s m l (Some x) h f e =
      elim (bind_deep (clauses_of N x.1) (λ c. built (rescue l (listed c.0)) (otherwise_of N c.1)) e) [
        | inl g ↦ (let d = clauses_deep x.1 g in (d.0, in_latter {x = x.0} h f (in_former d.1)))
        | inr b ↦ (let d = else_deep x.1 (Clauses R) (ClausesFront R F) b.0.0 b.0.1 (clauses_sound N R sounds x.1 b.0.1 b.0.0 b.1) (at (word kind.Else) b.0.1) refl (built_deep (rescue l (listed b.0.0)) (otherwise_of N b.0.1) b.2) in
            (d.0, in_latter {x = x.0} h f d.1))
      ]

  rescued_deep : IsDeep (rescued_of N) (RescuedFront R F)
  unfolding rescued_of
  rescued_deep =
      from_deep (statements_of N) (rescued_on N) (Statements R) (RescuedFront R F) (statements_sound N R sounds) (λ s m l h e. rescued_or-deep s m l (at rescues m) h refl e) (λ s e. let d = statements_deep s e in (d.0, in_former d.1))

  ensured_or-deep : (s m : Place) (l : Tree) (o : Option (Unit {0} × Place)) → Rescued R s l m → at (word kind.Ensure) m ≡ o → ensured_or N l m o ≡ Err deep → (z : Place) × BodyFront R F s z
  ensured_or-deep s m l None h f e = absurd cc
  ensured_or-deep s m l (Some x) h f e = let d = statements_deep x.1 (built_deep (ensure l) (statements_of N x.1) e) in (d.0, in_latter {x = x.0} h f d.1)

  body_deep : IsDeep (body_of N) (BodyFront R F)
  unfolding body_of
  body_deep =
      from_deep (rescued_of N) (ensured_on N) (Rescued R) (BodyFront R F) (rescued_sound N R sounds) (λ s m l h e. ensured_or-deep s m l (at (word kind.Ensure) m) h refl e) (λ s e. let d = rescued_deep s e in (d.0, in_former d.1))

  unlooped_not-deep : (t : Tree) (n : Place) (o : Option (Bool × Place)) → unlooped t n o ≡ Err deep → ⊥
  unlooped_not-deep t n None e = let never : ⊥ = cc in never
  unlooped_not-deep t n (Some x) e = let never : ⊥ = cc in never

  begun_deep : IsDeep (begun_of N) (BodyFront R F)
  unfolding begun_of
  begun_deep s e =
      elim (bind_deep (ended_body N s) (λ x. unlooped_on x.0 x.1) e) [
        | inl g ↦ body_deep s (closed_deep kind.End (body_of N s) g)
        | inr b ↦ absurd (unlooped_not-deep b.0.0 b.0.1 (at loop_word b.0.1) b.2)
      ]

  held_deep : (k : Fence) → IsDeep (held_of N k) (HeldFront R F k)
  held_deep fences.Brace = statements_deep
  held_deep fences.Do = body_deep

  -- ---- scopes

  left_deep : (s : Place) (xs : List Sym) (m : Place) (r : Answer Tree) → left_block s xs m r ≡ Err deep → r ≡ Err deep
  left_deep s xs m (Ok x) e = absurd cc
  left_deep s xs m (Err wrong) e = absurd cc
  left_deep s xs m (Err deep) e = refl

  block_or-deep : (k : Fence) (s : Place) (o : Option (List Sym × Place)) → at parameters s ≡ o → block_or N k s o ≡ Err deep → (z : Place) × BlockFront R F k s z
  block_or-deep k s None f e = absurd cc
  block_or-deep k s (Some x) f e =
      let body = closed (fence_end k) (held_of N k (entered x.0 x.1)) in
      let d = held_deep k (entered x.0 x.1) (closed_deep (fence_end k) (held_of N k (entered x.0 x.1)) (left_deep s x.0 x.1 body e)) in
      (d.0, in_body f d.1)

  block_deep : (k : Fence) → IsDeep (block_of N k) (BlockFront R F k)
  unfolding block_of
  block_deep k s e = block_or-deep k s (at parameters s) refl e

  left_method-deep : (s : Place) (x : Sym) (xs : List Sym) (n : Place) (r : Answer Tree) → left_method s x xs n r ≡ Err deep → r ≡ Err deep
  left_method-deep s x xs n (Ok q) e = absurd cc
  left_method-deep s x xs n (Err wrong) e = absurd cc
  left_method-deep s x xs n (Err deep) e = refl

  method_or-deep : (s m : Place) (x : Sym) (o : Option (List Sym × Place)) → at method_name s ≡ Some (x, m) → at formals m ≡ o → method_or N s x o ≡ Err deep → (z : Place) × DefinitionFront R F s z
  method_or-deep s m x None f g e = absurd cc
  method_or-deep s m x (Some n) f g e =
      let body = closed kind.End (body_of N (defined n.0 n.1)) in
      let d = body_deep (defined n.0 n.1) (closed_deep kind.End (body_of N (defined n.0 n.1)) (left_method-deep s x n.0 n.1 body e)) in
      (d.0, in_method f g d.1)

  definition_or-deep : (s : Place) (o : Option (Sym × Place)) → at method_name s ≡ o → definition_or N s o ≡ Err deep → (z : Place) × DefinitionFront R F s z
  definition_or-deep s None f e = absurd cc
  definition_or-deep s (Some m) f e = method_or-deep s m.1 m.0 (at formals m.1) f refl e

  definition_deep : IsDeep (definition_of N) (DefinitionFront R F)
  unfolding definition_of
  definition_deep s e = definition_or-deep s (at method_name s) refl e

  form_deep : (p : Part) → IsDeep (form_of N p) (FormFront R F p)
  form_deep parts.Group = group_deep
  form_deep parts.Array = (array_deep N R F sounds nests)
  form_deep parts.Hash = (hash_deep N R F sounds nests)
  form_deep parts.Index = (index_deep N R F sounds nests)
  form_deep parts.Choice = choice_deep
  form_deep parts.Unless = unless_deep
  form_deep (parts.Loop until) = looped_deep until
  form_deep parts.Begin = begun_deep
  form_deep parts.Minus = (minus_deep N R F sounds nests)
  form_deep parts.Bang = (bang_deep N R F sounds nests)
  form_deep parts.Not = negation_deep
  form_deep parts.Command = (command_deep N R F sounds nests)
  form_deep parts.Branch = (argument_deep N R F sounds nests)
  form_deep (parts.Interpolation i) = interpolation_deep i
  form_deep (parts.Block k) = block_deep k
  form_deep parts.Definition = definition_deep
  form_deep (parts.Class x c) = class_body_deep N R F sounds nests x c

  pub part_deep : (p : Part) → IsDeep (part_of N p) (PartFront R F p)
  part_deep p = enclosed_deep (is_enclosed p) (form_of N p) (FormFront R F p) (form_deep p)

pub deep_inside : (d : ℕ) → NestedDeep (readers_inside d) (fronts_inside d)
unfolding readers_inside fronts_inside
deep_inside zero = record { part = λ p s e. (s, refl); bracketed = λ s e. (s, refl); ordered = λ r x s e. (s, refl); value = λ b s e. (s, refl); values = λ s e. (s, refl) }
deep_inside (suc d) = record {
  part = part_deep (readers_inside d) (inside d) (fronts_inside d) (sound_inside d) (deep_inside d);
  bracketed = taking_deep true (bracketed_of (readers_inside d) listings.Call) (MembersFront (inside d) (fronts_inside d) listings.Call) (bracketed_deep (readers_inside d) (inside d) (fronts_inside d) (sound_inside d) (deep_inside d) listings.Call);
  ordered = ordered_deep (readers_inside d) (inside d) (fronts_inside d) (sound_inside d) (deep_inside d);
  value = value_deep (readers_inside d) (inside d) (fronts_inside d) (sound_inside d) (deep_inside d);
  values = rights_deep (readers_inside d) (inside d) (fronts_inside d) (sound_inside d) (deep_inside d);
}

pub deep_outside : (d : ℕ) → NestedDeep (readers_outside d) (fronts_outside d)
unfolding readers_outside fronts_outside
deep_outside zero = record { part = λ p s e. (s, refl); bracketed = λ s e. (s, refl); ordered = λ r x s e. (s, refl); value = value_deep (readers_inside zero) (inside zero) (fronts_inside zero) (sound_inside zero) (deep_inside zero); values = rights_deep (readers_inside zero) (inside zero) (fronts_inside zero) (sound_inside zero) (deep_inside zero) }
deep_outside (suc d) = record {
  part = part_deep (readers_outside d) (outside d) (fronts_outside d) (sound_outside d) (deep_outside d);
  bracketed = taking_deep true (bracketed_of (readers_outside d) listings.Call) (MembersFront (outside d) (fronts_outside d) listings.Call) (bracketed_deep (readers_outside d) (outside d) (fronts_outside d) (sound_outside d) (deep_outside d) listings.Call);
  ordered = ordered_deep (readers_outside d) (outside d) (fronts_outside d) (sound_outside d) (deep_outside d);
  value = value_deep (readers_inside (suc d)) (inside (suc d)) (fronts_inside (suc d)) (sound_inside (suc d)) (deep_inside (suc d));
  values = rights_deep (readers_inside (suc d)) (inside (suc d)) (fronts_inside (suc d)) (sound_inside (suc d)) (deep_inside (suc d));
}
