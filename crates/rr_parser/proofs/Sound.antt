-- What is read is spelled.
use Rattle.rr_parser.specs.declared.word.Caught.{Caught}
use Rattle.std.proofs.Common.{◌≡◌, zero, suc, Bool, true, false, cond, List, ◌∷◌, ◌++◌, Option, Some, None, Ok, refl, sym, subst, ℕ, [], ◌∙◌, ap}
use Rattle.rr_base.specs.declared.name.Sym.{Sym}
use Rattle.rr_tree.specs.Tree.{Tree, nil, text, interpolation, constant, rescue, clause, ensure, sequence, repeat, logical_not, listed}
use Rattle.rr_parser.specs.declared.word.Fence.{Fence}
use Rattle.rr_parser.specs.declared.word.Fence.TheVariants as fences
use Rattle.rr_tree.specs.declared.node.Path.{Path}
use Rattle.rr_parser.specs.declared.word.Listed.TheVariants as listings
use Rattle.rr_parser.specs.declared.word.Part.{Part}
use Rattle.rr_parser.specs.declared.word.Part.TheVariants as parts
use Rattle.rr_parser.specs.declared.word.WordKind.TheVariants as kind
use Rattle.rr_parser.specs.Places.{Place, word, at, next, skip, separators}
use Rattle.rr_parser.specs.Grammar.Chains.{Chain, same, one_of, and_one, one}
use Rattle.rr_parser.specs.Grammar.Nesting.{Nested}
use Rattle.rr_parser.specs.Grammar.Operators.{connective, joined_by}
use Rattle.rr_parser.specs.Grammar.Calls.{comma, Bracketed}
use Rattle.rr_parser.specs.declared.word.Modifier.{Modifier}
use Rattle.rr_parser.specs.Grammar.Several.{several, assigned_to_several, Targeted, a_spot, plain_sign}
use Rattle.rr_parser.specs.Grammar.Sequences.{Simple, to_several, no_several, Modifying, by_condition, Negation, a_negation, no_negation, Expression, modifier, modified, Statement, Rows, Statements, no_statements, some_statements, Group, a_group}
use Rattle.rr_parser.specs.Grammar.Interpolations.{text_middle, text_tail, first_piece, and_piece, Pieces, Interpolation, an_interpolation}
use Rattle.rr_parser.specs.Grammar.Control.{thens, loops, elsif, chosen, unless_chosen, Branch, a_branch, Branches, Otherwise, no_else, an_else, Choice, a_choice, Unless, an_unless, Loop, a_loop, looping, outside_loop, Looped, of_loop}
use Rattle.rr_parser.specs.Grammar.Bodies.{path, Class, a_class, Classes, no_classes, some_classes, caught, with_caught, caught_tree, Clause, a_clause, rescues, Clauses, Rescued, no_rescue, a_rescue, Body, no_ensure, an_ensure, loop_word, Begun, a_begun, Held, between_braces, until_end}
use Rattle.rr_parser.specs.Grammar.Blocks.{parameters, entered, leaving, block_tree, Block, of_statements}
use Rattle.rr_parser.specs.Grammar.Definitions.{method_name, formals, defined, rejoining, method_tree, Definition, of_method}
use Rattle.rr_parser.specs.Grammar.Fences.{fence_end}
use Rattle.rr_parser.specs.Grammar.{FormOf, is_enclosed, PartOf, inside, outside}
use Rattle.rr_parser.specs.Reading.Answers.{◌>>=◌, built, closed, across, taking_of, trail_on, Answer}
use Rattle.rr_parser.specs.Reading.Nesting.{Readers}
use Rattle.rr_parser.specs.Reading.Calls.{bracketed_of}
use Rattle.rr_parser.specs.Reading.Several.{targets_of, behind_first, several_on, several_or, targeted_of, several_of}
use Rattle.rr_parser.specs.Reading.Sequences.{simple_or, simple_of, modifying_of, negation_or, negation_of, expression_of, statement_of, ends, row, rows_of, sequence_of, statements_of, group_of, connected_on, expression_on, is_led, simple_at, spotted_on, spotted_or}
use Rattle.rr_parser.specs.Reading.Interpolations.{pieces_of, interpolated_or, interpolated_on, interpolation_of}
use Rattle.rr_parser.specs.Reading.Control.{both, branch_of, branches_of, otherwise_or, otherwise_of, choice_of, unless_of, loop_of, looped_of}
use Rattle.rr_parser.specs.Reading.Bodies.{class_or, class_of, several_classes, classes_or, classes_of, clause_or, clause_on, clause_of, clauses_of, rescued_or, rescued_on, rescued_of, ensured_or, ensured_on, body_of, unlooped, ended_body, unlooped_on, begun_of, held_of}
use Rattle.rr_parser.specs.Reading.Blocks.{left_block, block_or, block_of}
use Rattle.rr_parser.specs.Reading.Definitions.{left_method, method_or, definition_or, definition_of}
use Rattle.rr_parser.specs.Reading.{form_of, part_of, readers_inside, readers_outside, readers}
use Rattle.rr_parser.proofs.Told.{told_plain_sign, told_close, told_else, told_end, told_rescue, told_ensure, told_not, told_fence, told_comma}
use Rattle.rr_parser.proofs.Looks.{word-next, row-separators}
use Rattle.rr_parser.proofs.Chains.{bind_ok, built_ok, done, closed_ok, at_answer, across_ok, IsSound, chain_sound, from_sound, IsSoundOn, chain_on-sound}
use Rattle.rr_parser.proofs.SoundOperands.{NestedSound, sequence_ok, taking_sound, enclosed_sound, bang_sound, minus_sound, postfix_sound}
use Rattle.rr_parser.proofs.ClassSound.{class_body_sound}
use Rattle.rr_parser.proofs.Trails.{trail_sound}
use Rattle.rr_parser.proofs.SoundCalls.{targets_sound, argument_sound, bracketed_sound, array_sound, hash_sound, index_sound, command_sound, value_sound, rights_sound, targeted_sound, ordered_sound}
use Rattle.rr_parser.specs.Grammar.Operands.{Reached, Spot}
use Rattle.rr_parser.proofs.Beginnings.{expression_from}
use Rattle.rr_parser.specs.Reading.Operands.{postfix_of}

-- ---- classes

pub class_sound : IsSound class_of Class
class_sound s z t e = class_or-sound s (at path s) z t refl e
  where
    class_or-sound : (s : Place) (o : Option (Path × Place)) (z : Place) (t : Tree) → at path s ≡ o → class_or o ≡ Ok (t, z) → Class s t z
    class_or-sound s None z t f e = absurd cc
    class_or-sound s (Some x) z t f e = at_answer (Class s) (constant x.0) t x.1 z e (a_class f)

several_sound : IsSound several_classes (Chain comma one_of and_one Class)
unfolding several_classes
several_sound = chain_sound comma comma one_of and_one class_of Class (λ m n x e. e) class_sound

classes_or-sound : (s : Place) (o : Option (Path × Place)) (z : Place) (l : List Tree) → at path s ≡ o → classes_or s o ≡ Ok (l, z) → Classes s l z
classes_or-sound s None z l f e = at_answer (Classes s) [] l s z e (no_classes f)
classes_or-sound s (Some x) z l f e = some_classes (several_sound s z l e)

pub classes_sound : IsSound classes_of Classes
classes_sound s z l e = classes_or-sound s (at path s) z l refl e

module _ (N : Readers) (R : Nested) (nests : NestedSound N R) where
  -- ---- statements

  negation_or-sound : (s : Place) (o : Option (Unit {0} × Place)) (z : Place) (t : Tree) → at (word kind.NotWord) s ≡ o → negation_or N s o ≡ Ok (t, z) → Negation R s t z
  negation_or-sound s None z t f e = no_negation ((value_sound N R nests) true s z t e)
  negation_or-sound s (Some m) z t f e =
      let b = built_ok logical_not (N.part parts.Not m.1) t z e in
      subst (λ (q : Tree). Negation R s q z) (sym b.2) (a_negation (word-next kind.NotWord told_not s m.1 m.0 f) (nests.part parts.Not m.1 z b.0 b.1))

  pub negation_sound : IsSound (negation_of N) (Negation R)
  unfolding negation_of
  negation_sound s z t e = negation_or-sound s (at (word kind.NotWord) s) z t refl e

  connected_sound : IsSoundOn (connected_on N) (Negation R) (Expression R)
  unfolding connected_on
  connected_sound s m z l t h e = chain_on-sound (connective 3) (connective 3) same joined_by (negation_of N) (Negation R) (λ m n x e. e) negation_sound s l m z t (one h) e

  pub expression_sound : IsSound (expression_of N) (Expression R)
  unfolding expression_of
  expression_sound = from_sound (negation_of N) (connected_on N) (Negation R) (Expression R) negation_sound connected_sound

  pub several_on-sound : (s m n z : Place) (t u : Tree) → Targeted R s t m → next m ≡ Some (kind.Comma, n) → several_on N t n ≡ Ok (u, z) → Simple R s u z
  unfolding several_on
  several_on-sound s m n z t u h c e =
      let a = across_ok (λ l v. assigned_to_several (t ∷ l) v) (word plain_sign) N.values (targets_of N n) z u e in
      subst (λ (q : Tree). Simple R s q z) (sym a.tree) (to_several h c ((targets_sound N R nests) n a.m a.a a.former) (word-next plain_sign told_plain_sign a.m a.n a.u a.seen) (nests.values a.n z a.b a.latter))

  several_or-sound : (s m : Place) (t : Tree) (o : Option (Unit {0} × Place)) (z : Place) (u : Tree) → Targeted R s t m → at comma m ≡ o → several_or N t o ≡ Ok (u, z) → Simple R s u z
  several_or-sound s m t None z u h f e = absurd cc
  several_or-sound s m t (Some n) z u h f e = several_on-sound s m n.1 z t u h (word-next kind.Comma told_comma m n.1 n.0 f) e

  worded_sound : IsSound (several_of N) (Simple R)
  unfolding several_of
  worded_sound = from_sound (targeted_of N) (behind_first N) (Targeted R) (Simple R) (targeted_sound N R nests) (λ s m z t u h e. several_or-sound s m t (at comma m) z u h refl e)

  -- behind the first operand
  module _ (s m : Place) (t : Reached) (led : is_led s.known s.rest ≡ false) (read : postfix_of N s ≡ Ok (t, m)) where
    from_operand : (z : Place) (u : Tree) → expression_on N t m ≡ Ok (u, z) → Simple R s u z
    from_operand z u e = no_several (expression_sound s z u (expression_from N s led ∙ ap (λ (q : Answer Reached). q >>= λ x. expression_on N x.0 x.1) read ∙ e))

    spotted_or-sound : (p : Option Spot) (o : Option (Unit {0} × Place)) (z : Place) (u : Tree) → t.spot ≡ p → at comma m ≡ o → spotted_or N t m p o ≡ Ok (u, z) → Simple R s u z
    spotted_or-sound None o z u f g e = from_operand z u e
    spotted_or-sound (Some p) None z u f g e = from_operand z u e
    spotted_or-sound (Some p) (Some n) z u f g e = several_on-sound s m n.1 z t.tree u (a_spot ((postfix_sound N R nests) s m t read) f) (word-next kind.Comma told_comma m n.1 n.0 g) e

  simple_at-sound : (b : Bool) (s z : Place) (t : Tree) → is_led s.known s.rest ≡ b → simple_at N b s ≡ Ok (t, z) → Simple R s t z
  unfolding spotted_on
  simple_at-sound true s z t f e = no_several (expression_sound s z t e)
  simple_at-sound false s z t f e =
      let b = bind_ok (postfix_of N s) (λ x. spotted_on N x.0 x.1) (t, z) e in
      spotted_or-sound s b.0.1 b.0.0 f b.1 b.0.0.spot (at comma b.0.1) z t refl refl b.2

  simple_or-sound : (s : Place) (o : Option (Unit {0} × Place)) (z : Place) (t : Tree) → simple_or N s o ≡ Ok (t, z) → Simple R s t z
  simple_or-sound s None z t e = simple_at-sound (is_led s.known s.rest) s z t refl e
  simple_or-sound s (Some x) z t e = worded_sound s z t e

  pub simple_sound : IsSound (simple_of N) (Simple R)
  unfolding simple_of
  simple_sound s z t e = simple_or-sound s (at several s) z t e

  pub modifying_sound : (x : Modifier) (l : Tree) (n z : Place) (t : Tree) → modifying_of N x l n ≡ Ok (t, z) → Modifying R x l n t z
  modifying_sound x l n z t e =
      let b = built_ok (modified x l) (expression_of N n) t z e in
      subst (λ (q : Tree). Modifying R x l n q z) (sym b.2) (by_condition (expression_sound n z b.0 b.1))

  pub statement_sound : IsSound (statement_of N) (Statement R)
  unfolding statement_of
  statement_sound =
      from_sound (simple_of N) (trail_on modifier (modifying_of N)) (Simple R) (Statement R) simple_sound (trail_sound modifier modifier (λ m n x e. e) (modifying_of N) (Simple R) (Modifying R) modifying_sound)

  pub rows_sound : IsSound (rows_of N) (Rows R)
  unfolding rows_of
  rows_sound = chain_sound separators row one_of and_one (statement_of N) (Statement R) (λ m n x f. (row-separators m n x f).0) statement_sound

  statements_test : (b : Bool) (s z : Place) (t : Tree) → cond b (done (sequence (listed [])) (skip s)) (sequence_of (rows_of N (skip s))) ≡ Ok (t, z) → Statements R s t z
  statements_test true s z t e = at_answer (Statements R s) (sequence (listed [])) t (skip s) z e no_statements
  statements_test false s z t e =
      let k = sequence_ok (rows_of N (skip s)) z t e in
      subst (λ (q : Place). Statements R s t q) k.4 (subst (λ (q : Tree). Statements R s q (skip k.1)) k.3 (some_statements (rows_sound (skip s) k.1 k.0 k.2)))

  pub statements_sound : IsSound (statements_of N) (Statements R)
  unfolding statements_of
  statements_sound s z t e = statements_test (ends (skip s).rest) s z t e

  pub group_sound : IsSound (group_of N) (Group R)
  unfolding group_of
  group_sound s z t e = let c = closed_ok kind.Close told_close (statements_of N s) z t e in a_group (statements_sound s c.0 t c.1) c.2

  -- ---- text with parts

  pub pieces_sound : (i : ℕ) → IsSound (pieces_of N i) (Pieces R i)
  unfolding pieces_of
  pieces_sound i = chain_sound text_middle text_middle (first_piece i) and_piece (statements_of N) (Statements R) (λ m n x e. e) statements_sound

  interpolated_or-sound : (i : ℕ) (s m : Place) (l : List Tree) (o : Option (ℕ × Place)) (z : Place) (t : Tree) → Pieces R i s l m → at text_tail m ≡ o → interpolated_or l o ≡ Ok (t, z) → Interpolation R i s t z
  interpolated_or-sound i s m l None z t h f e = absurd cc
  interpolated_or-sound i s m l (Some x) z t h f e = at_answer (Interpolation R i s) (interpolation (listed (l ++ text x.0 ∷ []))) t x.1 z e (an_interpolation h f)

  interpolation_sound : (i : ℕ) → IsSound (interpolation_of N i) (Interpolation R i)
  unfolding interpolation_of
  interpolation_sound i = from_sound (pieces_of N i) interpolated_on (Pieces R i) (Interpolation R i) (pieces_sound i) (λ s m z l t h e. interpolated_or-sound i s m l (at text_tail m) z t h refl e)

  -- ---- control

  pub branch_sound : IsSound (branch_of N) (Branch R)
  unfolding branch_of
  branch_sound s z t e =
      let a = across_ok both thens (statements_of N) (expression_of N s) z t e in
      subst (λ (q : Tree × Tree). Branch R s q z) (sym a.tree) (a_branch {u = a.u} (expression_sound s a.m a.a a.former) a.seen (statements_sound a.n z a.b a.latter))

  pub branches_sound : IsSound (branches_of N) (Branches R)
  unfolding branches_of
  branches_sound = chain_sound elsif elsif one_of and_one (branch_of N) (Branch R) (λ m n x e. e) branch_sound

  otherwise_or-sound : (s : Place) (o : Option (Unit {0} × Place)) (z : Place) (t : Tree) → at (word kind.Else) s ≡ o → otherwise_or N s o ≡ Ok (t, z) → Otherwise R s t z
  otherwise_or-sound s None z t f e = at_answer (Otherwise R s) nil t s z e no_else
  otherwise_or-sound s (Some x) z t f e = an_else (word-next kind.Else told_else s x.1 x.0 f) (statements_sound x.1 z t e)

  pub otherwise_sound : IsSound (otherwise_of N) (Otherwise R)
  unfolding otherwise_of
  otherwise_sound s z t e = otherwise_or-sound s (at (word kind.Else) s) z t refl e

  pub choice_sound : IsSound (choice_of N) (Choice R)
  unfolding choice_of
  choice_sound s z t e =
      let b = bind_ok (branches_of N s) (λ l. closed kind.End (built (chosen l.0) (otherwise_of N l.1))) (t, z) e in
      let d = closed_ok kind.End told_end (built (chosen b.0.0) (otherwise_of N b.0.1)) z t b.2 in
      let c = built_ok (chosen b.0.0) (otherwise_of N b.0.1) t d.0 d.1 in
      subst (λ (q : Tree). Choice R s q z) (sym c.2) (a_choice (branches_sound s b.0.1 b.0.0 b.1) (otherwise_sound b.0.1 d.0 c.0 c.1) d.2)

  pub unless_sound : IsSound (unless_of N) (Unless R)
  unfolding unless_of
  unless_sound s z t e =
      let b = bind_ok (branch_of N s) (λ l. closed kind.End (built (unless_chosen l.0) (otherwise_of N l.1))) (t, z) e in
      let d = closed_ok kind.End told_end (built (unless_chosen b.0.0) (otherwise_of N b.0.1)) z t b.2 in
      let c = built_ok (unless_chosen b.0.0) (otherwise_of N b.0.1) t d.0 d.1 in
      subst (λ (q : Tree). Unless R s q z) (sym c.2) (an_unless (branch_sound s b.0.1 b.0.0 b.1) (otherwise_sound b.0.1 d.0 c.0 c.1) d.2)

  pub loop_sound : (until : Bool) → IsSound (loop_of N until) (Loop R until)
  unfolding loop_of
  loop_sound until s z t e =
      let d = closed_ok kind.End told_end (across (repeat until) loops (statements_of N) (taking_of false (expression_of N) s)) z t e in
      let a = across_ok (repeat until) loops (statements_of N) (taking_of false (expression_of N) s) d.0 t d.1 in
      subst (λ (q : Tree). Loop R until s q z) (sym a.tree) (a_loop {u = a.u} (taking_sound false (expression_of N) (Expression R) expression_sound s a.m a.a a.former) a.seen (statements_sound a.n d.0 a.b a.latter) d.2)

  looped_sound : (until : Bool) → IsSound (looped_of N until) (Looped R until)
  looped_sound until s z t e =
      let b = bind_ok (loop_of N until (looping s)) (λ x. Ok (x.0, outside_loop s x.1)) (t, z) e in
      at_answer (Looped R until s) b.0.0 t (outside_loop s b.0.1) z b.2 (of_loop (loop_sound until (looping s) b.0.1 b.0.0 b.1))

  -- ---- bodies

  clause_or-sound : (s m : Place) (l : List Tree) (o : Option (Option Caught × Place)) (z : Place) (t : Tree) → Classes s l m → at caught m ≡ o → clause_or N l o ≡ Ok (t, z) → Clause R s t z
  clause_or-sound s m l None z t h f e = absurd cc
  clause_or-sound s m l (Some x) z t h f e =
      let n = with_caught x.0 x.1 in
      let b = built_ok (clause (listed l) (caught_tree x.0 n)) (statements_of N n) t z e in
      subst (λ (q : Tree). Clause R s q z) (sym b.2) (a_clause h f (statements_sound n z b.0 b.1))

  pub clause_sound : IsSound (clause_of N) (Clause R)
  unfolding clause_of
  clause_sound = from_sound classes_of (clause_on N) Classes (Clause R) classes_sound (λ s m z l t h e. clause_or-sound s m l (at caught m) z t h refl e)

  pub clauses_sound : IsSound (clauses_of N) (Clauses R)
  unfolding clauses_of
  clauses_sound = chain_sound rescues rescues one_of and_one (clause_of N) (Clause R) (λ m n x e. e) clause_sound

  rescued_or-sound : (s m : Place) (l : Tree) (o : Option (Unit {0} × Place)) (z : Place) (t : Tree) → Statements R s l m → at rescues m ≡ o → rescued_or N l m o ≡ Ok (t, z) → Rescued R s t z
  rescued_or-sound s m l None z t h f e = at_answer (Rescued R s) l t m z e (no_rescue h)
  rescued_or-sound s m l (Some x) z t h f e =
      let b = bind_ok (clauses_of N x.1) (λ c. built (rescue l (listed c.0)) (otherwise_of N c.1)) (t, z) e in
      let c = built_ok (rescue l (listed b.0.0)) (otherwise_of N b.0.1) t z b.2 in
      subst (λ (q : Tree). Rescued R s q z) (sym c.2) (a_rescue h (word-next kind.Rescue told_rescue m x.1 x.0 f) (clauses_sound x.1 b.0.1 b.0.0 b.1) (otherwise_sound b.0.1 z c.0 c.1))

  pub rescued_sound : IsSound (rescued_of N) (Rescued R)
  unfolding rescued_of
  rescued_sound = from_sound (statements_of N) (rescued_on N) (Statements R) (Rescued R) statements_sound (λ s m z l t h e. rescued_or-sound s m l (at rescues m) z t h refl e)

  ensured_or-sound : (s m : Place) (l : Tree) (o : Option (Unit {0} × Place)) (z : Place) (t : Tree) → Rescued R s l m → at (word kind.Ensure) m ≡ o → ensured_or N l m o ≡ Ok (t, z) → Body R s t z
  ensured_or-sound s m l None z t h f e = at_answer (Body R s) l t m z e (no_ensure h)
  ensured_or-sound s m l (Some x) z t h f e =
      let b = built_ok (ensure l) (statements_of N x.1) t z e in
      subst (λ (q : Tree). Body R s q z) (sym b.2) (an_ensure h (word-next kind.Ensure told_ensure m x.1 x.0 f) (statements_sound x.1 z b.0 b.1))

  pub body_sound : IsSound (body_of N) (Body R)
  unfolding body_of
  body_sound = from_sound (rescued_of N) (ensured_on N) (Rescued R) (Body R) rescued_sound (λ s m z l t h e. ensured_or-sound s m l (at (word kind.Ensure) m) z t h refl e)

  begun_or-sound : (s m n : Place) (t : Tree) (o : Option (Bool × Place)) (z : Place) (u : Tree) → Body R s t m → next m ≡ Some (kind.End, n) → at loop_word n ≡ o → unlooped t n o ≡ Ok (u, z) → Begun R s u z
  begun_or-sound s m n t None z u h e f g = at_answer (Begun R s) t u n z g (a_begun h e f)
  begun_or-sound s m n t (Some x) z u h e f g = absurd cc

  begun_sound : IsSound (begun_of N) (Begun R)
  unfolding begun_of
  begun_sound s z t e =
      let b = bind_ok (ended_body N s) (λ x. unlooped_on x.0 x.1) (t, z) e in
      let c = closed_ok kind.End told_end (body_of N s) b.0.1 b.0.0 b.1 in
      begun_or-sound s c.0 b.0.1 b.0.0 (at loop_word b.0.1) z t (body_sound s c.0 b.0.0 c.1) c.2 refl b.2

  pub held_sound : (k : Fence) → IsSound (held_of N k) (Held R k)
  held_sound fences.Brace s z t e = between_braces (statements_sound s z t e)
  held_sound fences.Do s z t e = until_end (body_sound s z t e)

  -- ---- scopes

  left_sound : (k : Fence) (s : Place) (xs : List Sym) (m z : Place) (t : Tree) → at parameters s ≡ Some (xs, m) → left_block s xs m (closed (fence_end k) (held_of N k (entered xs m))) ≡ Ok (t, z) → Block R k s t z
  left_sound k s xs m z t f e =
      let b = bind_ok (closed (fence_end k) (held_of N k (entered xs m))) (λ q. Ok (block_tree xs m q.1 q.0, leaving s q.1)) (t, z) e in
      let c = closed_ok (fence_end k) (told_fence k) (held_of N k (entered xs m)) b.0.1 b.0.0 b.1 in
      at_answer (Block R k s) (block_tree xs m b.0.1 b.0.0) t (leaving s b.0.1) z b.2 (of_statements f (held_sound k (entered xs m) c.0 b.0.0 c.1) c.2)

  block_or-sound : (k : Fence) (s : Place) (o : Option (List Sym × Place)) (z : Place) (t : Tree) → at parameters s ≡ o → block_or N k s o ≡ Ok (t, z) → Block R k s t z
  block_or-sound k s None z t f e = absurd cc
  block_or-sound k s (Some x) z t f e = left_sound k s x.0 x.1 z t f e

  block_sound : (k : Fence) → IsSound (block_of N k) (Block R k)
  unfolding block_of
  block_sound k s z t e = block_or-sound k s (at parameters s) z t refl e

  left_method-sound : (s m : Place) (x : Sym) (xs : List Sym) (n z : Place) (t : Tree) → at method_name s ≡ Some (x, m) → at formals m ≡ Some (xs, n) → left_method s x xs n (closed kind.End (body_of N (defined xs n))) ≡ Ok (t, z) → Definition R s t z
  left_method-sound s m x xs n z t f g e =
      let b = bind_ok (closed kind.End (body_of N (defined xs n))) (λ q. Ok (method_tree x xs n q.1 q.0, rejoining s q.1)) (t, z) e in
      let c = closed_ok kind.End told_end (body_of N (defined xs n)) b.0.1 b.0.0 b.1 in
      at_answer (Definition R s) (method_tree x xs n b.0.1 b.0.0) t (rejoining s b.0.1) z b.2 (of_method f g (body_sound (defined xs n) c.0 b.0.0 c.1) c.2)

  method_or-sound : (s m : Place) (x : Sym) (o : Option (List Sym × Place)) (z : Place) (t : Tree) → at method_name s ≡ Some (x, m) → at formals m ≡ o → method_or N s x o ≡ Ok (t, z) → Definition R s t z
  method_or-sound s m x None z t f g e = absurd cc
  method_or-sound s m x (Some n) z t f g e = left_method-sound s m x n.0 n.1 z t f g e

  definition_or-sound : (s : Place) (o : Option (Sym × Place)) (z : Place) (t : Tree) → at method_name s ≡ o → definition_or N s o ≡ Ok (t, z) → Definition R s t z
  definition_or-sound s None z t f e = absurd cc
  definition_or-sound s (Some m) z t f e = method_or-sound s m.1 m.0 (at formals m.1) z t f refl e

  definition_sound : IsSound (definition_of N) (Definition R)
  unfolding definition_of
  definition_sound s z t e = definition_or-sound s (at method_name s) z t refl e

  form_sound : (p : Part) → IsSound (form_of N p) (FormOf R p)
  form_sound parts.Group = group_sound
  form_sound parts.Array = (array_sound N R nests)
  form_sound parts.Hash = (hash_sound N R nests)
  form_sound parts.Index = (index_sound N R nests)
  form_sound parts.Choice = choice_sound
  form_sound parts.Unless = unless_sound
  form_sound (parts.Loop until) = looped_sound until
  form_sound parts.Begin = begun_sound
  form_sound parts.Minus = (minus_sound N R nests)
  form_sound parts.Bang = (bang_sound N R nests)
  form_sound parts.Not = negation_sound
  form_sound parts.Command = (command_sound N R nests)
  form_sound parts.Branch = (argument_sound N R nests)
  form_sound (parts.Interpolation i) = interpolation_sound i
  form_sound (parts.Block k) = block_sound k
  form_sound parts.Definition = definition_sound
  form_sound (parts.Class x c) = class_body_sound N R nests x c

  pub part_sound : (p : Part) → IsSound (part_of N p) (PartOf R p)
  part_sound p = enclosed_sound (is_enclosed p) (form_of N p) (FormOf R p) (form_sound p)

pub sound_inside : (d : ℕ) → NestedSound (readers_inside d) (inside d)
unfolding readers_inside inside
sound_inside zero = record { part = λ p s z t e. absurd cc; bracketed = λ s z t e. absurd cc; ordered = λ r x s z t e. absurd cc; value = λ b s z t e. absurd cc; values = λ s z t e. absurd cc }
sound_inside (suc d) = record {
  part = part_sound (readers_inside d) (inside d) (sound_inside d);
  bracketed = taking_sound true (bracketed_of (readers_inside d) listings.Call) (Bracketed (inside d) listings.Call) (bracketed_sound (readers_inside d) (inside d) (sound_inside d) listings.Call);
  ordered = ordered_sound (readers_inside d) (inside d) (sound_inside d);
  value = value_sound (readers_inside d) (inside d) (sound_inside d);
  values = rights_sound (readers_inside d) (inside d) (sound_inside d);
}

pub sound_outside : (d : ℕ) → NestedSound (readers_outside d) (outside d)
unfolding readers_outside outside
sound_outside zero = record { part = λ p s z t e. absurd cc; bracketed = λ s z t e. absurd cc; ordered = λ r x s z t e. absurd cc; value = value_sound (readers_inside zero) (inside zero) (sound_inside zero); values = rights_sound (readers_inside zero) (inside zero) (sound_inside zero) }
sound_outside (suc d) = record {
  part = part_sound (readers_outside d) (outside d) (sound_outside d);
  bracketed = taking_sound true (bracketed_of (readers_outside d) listings.Call) (Bracketed (outside d) listings.Call) (bracketed_sound (readers_outside d) (outside d) (sound_outside d) listings.Call);
  ordered = ordered_sound (readers_outside d) (outside d) (sound_outside d);
  value = value_sound (readers_inside (suc d)) (inside (suc d)) (sound_inside (suc d));
  values = rights_sound (readers_inside (suc d)) (inside (suc d)) (sound_inside (suc d));
}

-- what is spelled inside the right side of an assignment or not, with constructs nested no deeper than a number
abbrev pub nested : Bool → ℕ → Nested
nested true d = inside d
nested false d = outside d

pub sound_nested : (b : Bool) (d : ℕ) → NestedSound (readers b d) (nested b d)
sound_nested true d = sound_inside d
sound_nested false d = sound_outside d
