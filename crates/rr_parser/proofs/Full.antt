-- What is spelled is read, unless it nests too deep.
use Rattle.std.proofs.Common.{◌≡◌, zero, suc, ◌<◌, inl, inr, Bool, true, false, cond, List, Some, None, Ok, refl, ap, ◌∙◌, arith, ℕ, [], sym, ◌∷◌, Option, Err}
use Rattle.rr_tree.specs.Tree.{Tree, rescue, clause, ensure, sequence, repeat, logical_not, listed}
use Rattle.rr_parser.specs.declared.word.Listed.TheVariants as listings
use Rattle.rr_parser.specs.declared.word.Part.{Part}
use Rattle.rr_parser.specs.declared.word.Part.TheVariants as parts
use Rattle.rr_parser.specs.declared.word.WordKind.TheVariants as kind
use Rattle.rr_parser.specs.declared.word.Fence.{Fence}
use Rattle.rr_parser.specs.declared.word.Fence.TheVariants as fences
use Rattle.rr_tree.specs.declared.node.Path.{Path}
use Rattle.rr_parser.specs.Grammar.Fences.{Taking, fence_end}
use Rattle.rr_parser.specs.Places.{Place, word, at, next, skip, separators}
use Rattle.rr_parser.specs.Grammar.Chains.{Chain, same, one_of, and_one}
use Rattle.rr_parser.specs.Grammar.Nesting.{Nested}
use Rattle.rr_parser.specs.Grammar.Operators.{connective, joined_by}
use Rattle.rr_parser.specs.Grammar.Calls.{comma, Bracketed, Array, Hash, Index, Value, Ordered}
use Rattle.rr_parser.specs.declared.word.Modifier.{Modifier}
use Rattle.rr_parser.specs.Grammar.Several.{several, assigned_to_several, Rights, Targeted, Targets, a_spot, a_target, plain_sign}
use Rattle.rr_parser.specs.Grammar.Sequences.{Simple, to_several, no_several, Modifying, by_condition, Negation, a_negation, no_negation, Expression, modifier, modified, Statement, Rows, Statements, no_statements, some_statements, Group, a_group}
use Rattle.rr_parser.specs.Grammar.Interpolations.{text_middle, first_piece, and_piece, Pieces, Interpolation, an_interpolation}
use Rattle.rr_parser.specs.Grammar.Control.{thens, loops, elsif, chosen, unless_chosen, Branch, a_branch, Branches, Otherwise, no_else, an_else, Choice, a_choice, Unless, an_unless, Loop, a_loop, looping, outside_loop, Looped, of_loop}
use Rattle.rr_parser.specs.Grammar.Bodies.{path, Class, a_class, Classes, no_classes, some_classes, with_caught, caught_tree, Clause, a_clause, rescues, Clauses, Rescued, no_rescue, a_rescue, Body, no_ensure, an_ensure, Begun, a_begun, Held, between_braces, until_end}
use Rattle.rr_parser.specs.Grammar.Blocks.{parameters, entered, leaving, block_tree, Block, of_statements}
use Rattle.rr_parser.specs.Grammar.Classes.{ClassBody}
use Rattle.rr_parser.specs.Grammar.Definitions.{method_name, defined, rejoining, method_tree, Definition, of_method}
use Rattle.rr_parser.specs.Grammar.{PartOf, inside, outside}
use Rattle.rr_parser.specs.Reading.Answers.{◌>>=◌, Answer, Parse, built, closed, from, across, taking_of, Refused, chain, chain_on, deep}
use Rattle.rr_parser.specs.Reading.Nesting.{Readers}
use Rattle.rr_parser.specs.Reading.Calls.{bracketed_of, array_of, hash_of, index_of, value_of, order_on, order_or, ordered_of}
use Rattle.rr_parser.specs.Reading.Several.{targets_of, rights_of, behind_first, several_on, several_or, targeted_of, several_of}
use Rattle.rr_parser.specs.Reading.Sequences.{simple_or, simple_of, modifying_of, negation_or, negation_of, expression_of, statement_of, row, rows_of, sequence_of, statements_at, statements_of, group_of, connected_on, expression_on, is_led, simple_at, spotted_on, spotted_or}
use Rattle.rr_parser.specs.Reading.Interpolations.{pieces_of, interpolated_or, interpolated_on, interpolation_of}
use Rattle.rr_parser.specs.Reading.Control.{both, branch_of, branches_of, otherwise_or, otherwise_of, ended, choice_of, unless_of, loop_of, looped_of}
use Rattle.rr_parser.specs.Reading.Bodies.{class_or, class_of, several_classes, classes_or, classes_of, clause_or, clause_on, clause_of, clauses_of, rescued_or, rescued_on, rescued_of, ensured_or, ensured_on, body_of, unlooped, ended_body, unlooped_on, begun_of, held_of}
use Rattle.rr_parser.specs.Reading.Blocks.{left_block, block_or, block_of}
use Rattle.rr_parser.specs.Reading.Classes.{class_body_of}
use Rattle.rr_parser.specs.Reading.Definitions.{left_method, method_or, definition_or, definition_of}
use Rattle.rr_parser.specs.Reading.{part_of, readers_inside, readers_outside}
use Rattle.rr_parser.proofs.Told.{told_comma}
use Rattle.rr_parser.proofs.Looks.{other-word, separators-row, Steps-row, none_unless, target-several}
use Rattle.rr_parser.proofs.Steps.{Steps-connective, Steps-modifier, Steps-elsif, Steps-comma, Steps-middle, Steps-rescues}
use Rattle.rr_parser.proofs.Shrinking.{ReadersShrink, shrinks_nested, class_shrinks}
use Rattle.rr_parser.proofs.Leading.{Leads, leads_bind, leads_trans, leads_eq, leads_map, IsFull, chain_full, across_full}
use Rattle.rr_parser.proofs.Strengths.{Stops, word_unseen, connective_strength, no_connective_at, modifier_strength, no_modifier_at, separators_stop, thens_stop, loops_stop, ends_behind, comma_strength, stops_by, strength_in}
use Rattle.rr_parser.proofs.Firsts.{next_ends, chain_first, value_starts, starts_no_not, statement_starts, taking_stops, bang_no_prefix, first_starts, postfix_first, postfix_no_bang}
use Rattle.rr_parser.proofs.Stopping.{expression_no_several, finished, end_ends, rescue_ends, caught_stop, AtEnd, middle_ends, tail_ends, elsif_ends, first_no_command, spot_no_aim, spot_no_several}
use Rattle.rr_parser.proofs.FullOperands.{Anywhere, Ends, PartStops, value_stop, NestedFull, word_here, closed_full, taking_full, enclosed_full, same_fence, bang_full, minus_full, postfix_full, reached_alone}
use Rattle.rr_parser.proofs.FullCalls.{targets_full, argument_full, bracketed_full, array_full, hash_full, index_full, command_full, value_full, rights_full, targeted_before, ordered_full}
use Rattle.rr_parser.proofs.ClassFull.{class_body_full}
use Rattle.rr_parser.proofs.Trails.{trail_full}
use Rattle.rr_parser.specs.Grammar.Operands.{Postfix, Reached, Spot, no_bang}
use Rattle.rr_parser.proofs.Chains.{chain_on-ends, done, ok_place}
use Rattle.rr_parser.proofs.Beginnings.{expression_from, not_led}
use Rattle.rr_parser.proofs.Orders.{no_order_at}
use Rattle.rr_parser.proofs.Prefixes.{not_prefixed}
use Rattle.rr_parser.specs.Reading.Operands.{postfix_of}

module _ (N : Readers) (R : Nested) (D : Type 0) (shrinks : ReadersShrink N) (nests : NestedFull N R D) where
  -- ---- statements

  pub negation_full : IsFull (negation_of N) (Negation R) (Stops 29) D
  unfolding negation_of
  negation_full s z t (a_negation {m = m} {t = v} e h) stops =
      leads_eq (negation_or N s (at (word kind.NotWord) s)) (built logical_not (N.part parts.Not m)) (Ok (t, z)) (ap (negation_or N s) (word_here kind.NotWord s m e refl))
      (leads_bind (N.part parts.Not m) (v, z) (λ x. Ok (logical_not x.0, x.1)) (nests.part parts.Not m z v h stops))
  negation_full s z t (no_negation h) stops =
      leads_eq (negation_or N s (at (word kind.NotWord) s)) (value_of N true s) (Ok (t, z)) (ap (negation_or N s) (starts_no_not s (value_starts R s z t h))) ((value_full N R D shrinks nests) true s z t h stops)

  pub expression_full : IsFull (expression_of N) (Expression R) (Stops 30) D
  unfolding expression_of connected_on chain
  expression_full s z t c stops =
      chain_full (connective 3) (connective 3) same joined_by (negation_of N) (Negation R) (Stops 29) D (Steps-connective 3) shrinks.negation
      (λ m n x e. omega (arith, connective_strength 3 m n x e)) (λ m n z x r e h. e) negation_full s z t c (omega (arith, stops)) (no_connective_at 3 z stops)

  -- ---- several targets

  several_on-full : (n o y z : Place) (t v : Tree) (l : List Tree) → Targets R n l o → next o ≡ Some (plain_sign, y) → R.values y v z → Stops 30 z → Leads (several_on N t n) (Ok (assigned_to_several (t ∷ l) v, z)) D
  unfolding several_on
  several_on-full n o y z t v l c f h stops =
      across_full (λ l v. assigned_to_several (t ∷ l) v) (word plain_sign) N.values (targets_of N n) l o y z tt v ((targets_full N R D shrinks nests) n o y l c f) (word_here plain_sign o y f refl) (nests.values y z v h (omega (arith, stops)))

  -- where a comma comes an operand stands alone
  order_alone : (t : Reached) (m n : Place) (u : Unit {0}) → at comma m ≡ Some (u, n) → order_on N t m ≡ Ok (t.tree, m)
  unfolding order_on
  order_alone t m n u e = ap (order_or N t m) (no_order_at m (omega (arith, comma_strength m n u e))) ∙ (reached_alone N R D shrinks nests) true t m (omega (arith, comma_strength m n u e))

  operand_alone : (t : Reached) (m n : Place) (u : Unit {0}) → at comma m ≡ Some (u, n) → expression_on N t m ≡ Ok (t.tree, m)
  unfolding expression_on connected_on
  operand_alone t m n u e =
      ap (λ (q : Answer Tree). q >>= λ x. chain_on (connective 3) joined_by (negation_of N) x.0 x.1) (order_alone t m n u e)
      ∙ chain_on-ends (connective 3) joined_by (negation_of N) (Steps-connective 3) shrinks.negation t.tree m
      (none_unless (at (connective 3) m) (λ x y f. let never : ⊥ = omega (arith, connective_strength 3 m y x f, comma_strength m n u e) in never))

  -- an expression that is read from behind its first operand
  module _ (s z : Place) (t : Tree) (led : is_led s.known s.rest ≡ false) (full : Leads (expression_of N s) (Ok (t, z)) D) (stops : Stops 30 z) where
    refused_full : (e : Refused) → postfix_of N s ≡ Err e → Leads (from (postfix_of N) (spotted_on N) s) (Ok (t, z)) D
    refused_full e g =
        leads_eq (from (postfix_of N) (spotted_on N) s) (expression_of N s) (Ok (t, z))
        (ap (λ (q : Answer Reached). q >>= λ x. spotted_on N x.0 x.1) g ∙ sym (expression_from N s led ∙ ap (λ (q : Answer Reached). q >>= λ x. expression_on N x.0 x.1) g)) full

    operand_full : (r : Reached) (m : Place) → postfix_of N s ≡ Ok (r, m) → Leads (expression_on N r m) (Ok (t, z)) D
    operand_full r m g = leads_eq (expression_on N r m) (expression_of N s) (Ok (t, z)) (sym (expression_from N s led ∙ ap (λ (q : Answer Reached). q >>= λ x. expression_on N x.0 x.1) g)) full

    spotted_or-full : (r : Reached) (m : Place) (p : Option Spot) (o : Option (Unit {0} × Place)) → postfix_of N s ≡ Ok (r, m) → at comma m ≡ o → Leads (spotted_or N r m p o) (Ok (t, z)) D
    spotted_or-full r m None o g f = operand_full r m g
    spotted_or-full r m (Some p) None g f = operand_full r m g
    spotted_or-full r m (Some p) (Some n) g f =
        let alone = operand_alone r m n.1 n.0 f in
        elim (operand_full r m g) [
          | inl e ↦ (let never : ⊥ = omega (arith, stops, comma_strength m n.1 n.0 f, ap (λ (x : Place). strength_in (next x)) (ok_place r.tree t m z (sym alone ∙ e))) in absurd never)
          | inr d ↦ (let e : done r.tree m ≡ Err deep = sym alone ∙ d.0 in absurd cc)
        ]

    by_read : (q : Answer Reached) → postfix_of N s ≡ q → Leads (from (postfix_of N) (spotted_on N) s) (Ok (t, z)) D
    unfolding spotted_on
    by_read (Err e) g = refused_full e g
    by_read (Ok x) g =
        leads_eq (from (postfix_of N) (spotted_on N) s) (spotted_or N x.0 x.1 x.0.spot (at comma x.1)) (Ok (t, z)) (ap (λ (q : Answer Reached). q >>= λ y. spotted_on N y.0 y.1) g)
        (spotted_or-full x.0 x.1 x.0.spot (at comma x.1) g refl)

  expression_at : (b : Bool) (s z : Place) (t : Tree) → is_led s.known s.rest ≡ b → Expression R s t z → Stops 30 z → Leads (simple_at N b s) (Ok (t, z)) D
  expression_at true s z t f h stops = expression_full s z t h stops
  expression_at false s z t f h stops = by_read s z t f (expression_full s z t h stops) stops (postfix_of N s) refl

  -- several targets, the first of which is a word
  worded_full : (s m n z : Place) (t u : Tree) → Targeted R s t m → next m ≡ Some (kind.Comma, n) → Leads (several_on N t n) (Ok (u, z)) D → Leads (several_of N s) (Ok (u, z)) D
  unfolding several_of
  worded_full s m n z t u h c l =
      leads_trans (several_of N s) (behind_first N t m) (Ok (u, z)) (leads_bind (targeted_of N s) (t, m) (λ x. behind_first N x.0 x.1) ((targeted_before N R D shrinks nests) s m n t h c))
      (leads_eq (behind_first N t m) (several_on N t n) (Ok (u, z)) (ap (several_or N t) (word_here kind.Comma m n c refl)) l)

  spot_not_led : (s m : Place) (r : Reached) (p : Spot) → Postfix R s r m → r.spot ≡ Some p → is_led s.known s.rest ≡ false
  spot_not_led s m r p h f =
      let first = postfix_first R s m r h in
      not_led s (starts_no_not s (first_starts s first)) (first_no_command s first) (not_prefixed s (spot_no_aim R s m r p h f) (bang_no_prefix R s m r.tree (no_bang h)) (postfix_no_bang R s m r h))

  -- and where it is an element or an attribute
  spotted_full : (s m n z : Place) (r : Reached) (p : Spot) (u : Tree) → Postfix R s r m → r.spot ≡ Some p → next m ≡ Some (kind.Comma, n) → Leads (several_on N r.tree n) (Ok (u, z)) D → Leads (simple_at N (is_led s.known s.rest) s) (Ok (u, z)) D
  unfolding spotted_on
  spotted_full s m n z r p u h f c l =
      leads_eq (simple_at N (is_led s.known s.rest) s) (from (postfix_of N) (spotted_on N) s) (Ok (u, z)) (ap (λ b. simple_at N b s) (spot_not_led s m r p h f))
      (leads_trans (from (postfix_of N) (spotted_on N) s) (spotted_on N r m) (Ok (u, z)) (leads_bind (postfix_of N s) (r, m) (λ x. spotted_on N x.0 x.1) ((postfix_full N R D shrinks nests) s m r h (stops_by kind.Comma 0 m n c (omega arith))))
      (leads_eq (spotted_on N r m) (several_on N r.tree n) (Ok (u, z)) (ap (λ o. spotted_or N r m o (at comma m)) f ∙ ap (spotted_or N r m (Some p)) (word_here kind.Comma m n c refl)) l))

  simple_full : IsFull (simple_of N) (Simple R) (Stops 30) D
  unfolding simple_of
  simple_full s z u (to_several {m = m} {n = n} {o = o} {y = y} {t = t} {v = v} {l = l} (a_target {m = k} {x = x} e g) c b f h) stops =
      leads_eq (simple_or N s (at several s)) (several_of N s) (Ok (u, z)) (ap (simple_or N s) (target-several s k n x tt e (word_here kind.Comma m n c refl)))
      (worded_full s m n z t u (a_target e g) c (several_on-full n o y z t v l b f h stops))
  simple_full s z u (to_several {m = m} {n = n} {o = o} {y = y} {v = v} {l = l} (a_spot {r = r} {p = p} k g) c b f h) stops =
      leads_eq (simple_or N s (at several s)) (simple_at N (is_led s.known s.rest) s) (Ok (u, z)) (ap (simple_or N s) (spot_no_several R s m r p k g))
      (spotted_full s m n z r p u k g c (several_on-full n o y z r.tree v l b f h stops))
  simple_full s z t (no_several h) stops =
      leads_eq (simple_or N s (at several s)) (simple_at N (is_led s.known s.rest) s) (Ok (t, z)) (ap (simple_or N s) (expression_no_several R s z t h stops)) (expression_at (is_led s.known s.rest) s z t refl h stops)

  modifying_full : (x : Modifier) (l : Tree) → IsFull (modifying_of N x l) (Modifying R x l) (Stops 30) D
  modifying_full x l s z t (by_condition {c = c} h) stops = leads_bind (expression_of N s) (c, z) (λ q. Ok (modified x l q.0, q.1)) (expression_full s z c h stops)

  pub statement_full : IsFull (statement_of N) (Statement R) (Stops 31) D
  unfolding statement_of
  statement_full s z t c stops =
      trail_full modifier modifier (modifying_of N) Steps-modifier (λ x l n z t e. shrinks.modifying x l n z t e) (simple_of N) (Simple R) (Modifying R) D (Stops 30)
      (λ m n x e. omega (arith, modifier_strength m n x e)) (λ m n z x l t e h. e) simple_full modifying_full s z t c (omega (arith, stops)) (no_modifier_at z stops)

  rows_full : (s z : Place) (l : List Tree) → Rows R s l z → Stops 31 z → at row z ≡ None → Leads (rows_of N s) (Ok (l, z)) D
  unfolding rows_of
  rows_full s z l c stops e =
      chain_full separators row one_of and_one (statement_of N) (Statement R) (Stops 31) D Steps-row shrinks.statement
      (λ m n x e. separators_stop m n x e) (λ m n z x r e h. separators-row m n x e (statement_starts R n z r h)) statement_full s z l c stops e

  pub statements_full : IsFull (statements_of N) (Statements R) Ends D
  unfolding statements_of
  statements_full s z t no_statements stops = inl (ap (λ b. cond b (Ok (sequence (listed []), skip s)) (sequence_of (rows_of N (skip s)))) stops)
  statements_full s z t (some_statements {m = m} {l = l} c) stops =
      let f = chain_first separators one_of and_one (Statement R) (skip s) m l c in
      let begins = statement_starts R (skip s) f.1 f.0 f.2 in
      let behind = ends_behind m stops in
      leads_eq (statements_at N (skip s)) (sequence_of (rows_of N (skip s))) (Ok (t, skip m))
      (ap (λ b. cond b (Ok (sequence (listed []), skip s)) (sequence_of (rows_of N (skip s)))) begins)
      (leads_bind (rows_of N (skip s)) (l, m) (λ x. Ok (sequence (listed x.0), skip x.1)) (rows_full (skip s) m l c behind.0 behind.1))

  pub group_full : IsFull (group_of N) (Group R) Anywhere D
  unfolding group_of
  group_full s z t (a_group {m = m} h e) u = closed_full kind.Close (statements_of N s) t m z refl (statements_full s m t h (next_ends m z kind.Close true e refl)) e

  -- ---- text with parts

  pieces_full : (i : ℕ) (s z : Place) (l : List Tree) → Pieces R i s l z → Ends z → at text_middle z ≡ None → Leads (pieces_of N i s) (Ok (l, z)) D
  unfolding pieces_of
  pieces_full i s z l c stops e =
      chain_full text_middle text_middle (first_piece i) and_piece (statements_of N) (Statements R) Ends D Steps-middle shrinks.statements
      (λ m n x e. middle_ends m n x e) (λ m n z x r e h. e) statements_full s z l c stops e

  interpolation_full : (i : ℕ) → IsFull (interpolation_of N i) (Interpolation R i) Anywhere D
  unfolding interpolation_of
  interpolation_full i s z t (an_interpolation {m = m} {l = l} {j = j} c e) u =
      let behind = tail_ends m z j e in
      leads_trans (from (pieces_of N i) interpolated_on s) (interpolated_on l m) (Ok (t, z)) (leads_bind (pieces_of N i s) (l, m) (λ q. interpolated_on q.0 q.1) (pieces_full i s m l c behind.0 behind.1))
      (inl (ap (interpolated_or l) e))

  -- ---- control

  pub branch_full : IsFull (branch_of N) (Branch R) Ends D
  unfolding branch_of
  branch_full s z b (a_branch {m = m} {n = n} {c = c} {t = t} {u = u} h e i) stops =
      across_full both thens (statements_of N) (expression_of N s) c m n z u t (expression_full s m c h (thens_stop m n u e)) e (statements_full n z t i stops)

  branches_full : (s z : Place) (l : List (Tree × Tree)) → Branches R s l z → Ends z → at elsif z ≡ None → Leads (branches_of N s) (Ok (l, z)) D
  unfolding branches_of
  branches_full s z l c stops e =
      chain_full elsif elsif one_of and_one (branch_of N) (Branch R) Ends D Steps-elsif shrinks.branch
      (λ m n x e. elsif_ends m n x e) (λ m n z x r e h. e) branch_full s z l c stops e

  pub otherwise_full : IsFull (otherwise_of N) (Otherwise R) AtEnd D
  unfolding otherwise_of
  otherwise_full s z t no_else stops = inl (ap (otherwise_or N s) (other-word kind.Else stops.0 s stops.1 stops.2 (finished stops.0 stops.3).0))
  otherwise_full s z t (an_else {m = m} e h) stops =
      leads_eq (otherwise_or N s (at (word kind.Else) s)) (statements_of N m) (Ok (t, z)) (ap (otherwise_or N s) (word_here kind.Else s m e refl))
      (statements_full m z t h (end_ends z stops))

  -- behind branches an `else` or the `end` comes
  branches_end : (m n : Place) (e : Tree) → Otherwise R m e n → AtEnd n → Ends m × (at elsif m ≡ None)
  branches_end m n e no_else stops = (end_ends m stops, other-word kind.Elsif stops.0 m stops.1 stops.2 (finished stops.0 stops.3).1)
  branches_end m n e (an_else {m = o} f h) stops = (next_ends m o kind.Else true f refl, other-word kind.Elsif kind.Else m o f refl)

  ended_full : {A : Type 0} (f : A → Tree → Tree) (r : Answer A) (l : A) (m n z : Place) (e : Tree) → Leads r (Ok (l, m)) D → Otherwise R m e n → next n ≡ Some (kind.End, z) → Leads (ended N f r) (Ok (f l e, z)) D
  ended_full f r l m n z e b h i =
      leads_trans (ended N f r) (closed kind.End (built (f l) (otherwise_of N m))) (Ok (f l e, z)) (leads_bind r (l, m) (λ l. closed kind.End (built (f l.0) (otherwise_of N l.1))) b)
      (closed_full kind.End (built (f l) (otherwise_of N m)) (f l e) n z refl (leads_bind (otherwise_of N m) (e, n) (λ x. Ok (f l x.0, x.1)) (otherwise_full m n e h (kind.End, z, i, refl))) i)

  pub choice_full : IsFull (choice_of N) (Choice R) Anywhere D
  unfolding choice_of
  choice_full s z t (a_choice {m = m} {n = n} {l = l} {e = e} b h f) u =
      let stops = branches_end m n e h (kind.End, z, f, refl) in ended_full chosen (branches_of N s) l m n z e (branches_full s m l b stops.0 stops.1) h f

  pub unless_full : IsFull (unless_of N) (Unless R) Anywhere D
  unfolding unless_of
  unless_full s z t (an_unless {m = m} {n = n} {b = b} {e = e} c h f) u =
      let stops = branches_end m n e h (kind.End, z, f, refl) in ended_full unless_chosen (branch_of N s) b m n z e (branch_full s m b c stops.0) h f

  pub loop_full : (until : Bool) → IsFull (loop_of N until) (Loop R until) Anywhere D
  unfolding loop_of
  loop_full until s z t (a_loop {m = m} {n = n} {o = o} {c = c} {t = b} {u = u} h e i f) v =
      closed_full kind.End (across (repeat until) loops (statements_of N) (taking_of false (expression_of N) s)) t o z refl
      (across_full (repeat until) loops (statements_of N) (taking_of false (expression_of N) s) c m n o u b
      (taking_full false (expression_of N) (Expression R) (Stops 30) (λ a y. taking_stops 30 a y) expression_full s m c h (loops_stop m n u e)) e (statements_full n o b i (next_ends o z kind.End true f refl))) f

  looped_full : (until : Bool) → IsFull (looped_of N until) (Looped R until) Anywhere D
  looped_full until s z t (of_loop {z = y} h) u = leads_bind (loop_of N until (looping s)) (t, y) (λ x. Ok (x.0, outside_loop s x.1)) (loop_full until (looping s) y t h tt)

  -- ---- bodies

  class_full : IsFull class_of Class Anywhere D
  class_full s z t (a_class e) u = inl (ap class_or e)

  several_full : (s z : Place) (l : List Tree) → Chain comma one_of and_one Class s l z → at comma z ≡ None → Leads (several_classes s) (Ok (l, z)) D
  unfolding several_classes
  several_full s z l c e = chain_full comma comma one_of and_one class_of Class Anywhere D Steps-comma class_shrinks (λ m n x e. tt) (λ m n z x r e h. e) class_full s z l c tt e

  class_path : (s z : Place) (t : Tree) → Class s t z → (x : Path) × (at path s ≡ Some (x, z))
  class_path s z t (a_class {x = x} e) = (x, e)

  classes_full : IsFull classes_of Classes (Stops 28) D
  classes_full s z l (no_classes e) stops = inl (ap (classes_or s) e)
  classes_full s z l (some_classes c) stops =
      let f = chain_first comma one_of and_one Class s z l c in
      leads_eq (classes_or s (at path s)) (several_classes s) (Ok (l, z)) (ap (classes_or s) (class_path s f.1 f.0 f.2).1) (several_full s z l c (word_unseen kind.Comma told_comma z stops))

  clause_full : IsFull (clause_of N) (Clause R) Ends D
  unfolding clause_of
  clause_full s z t (a_clause {m = m} {n = n} {l = l} {x = x} {t = b} h e i) stops =
      let w = with_caught x n in
      leads_trans (from classes_of (clause_on N) s) (clause_on N l m) (Ok (t, z))
      (leads_bind (classes_of s) (l, m) (λ q. clause_on N q.0 q.1) (classes_full s m l h (omega (arith, caught_stop m n x e))))
      (leads_eq (clause_on N l m) (built (clause (listed l) (caught_tree x w)) (statements_of N w)) (Ok (t, z)) (ap (clause_or N l) e)
      (leads_bind (statements_of N w) (b, z) (λ q. Ok (clause (listed l) (caught_tree x w) q.0, q.1)) (statements_full w z b i stops)))

  clauses_full : (s z : Place) (l : List Tree) → Clauses R s l z → Ends z → at rescues z ≡ None → Leads (clauses_of N s) (Ok (l, z)) D
  unfolding clauses_of
  clauses_full s z l c stops e =
      chain_full rescues rescues one_of and_one (clause_of N) (Clause R) Ends D Steps-rescues shrinks.clause (λ m n x e. rescue_ends m n x e) (λ m n z x r e h. e) clause_full s z l c stops e

  -- behind clauses an `else`, an `ensure` or the `end` comes
  clauses_end : (m n : Place) (e : Tree) → Otherwise R m e n → AtEnd n → Ends m × (at rescues m ≡ None)
  clauses_end m n e no_else stops = (end_ends m stops, other-word kind.Rescue stops.0 m stops.1 stops.2 (finished stops.0 stops.3).2)
  clauses_end m n e (an_else {m = o} f h) stops = (next_ends m o kind.Else true f refl, other-word kind.Rescue kind.Else m o f refl)

  rescued_full : IsFull (rescued_of N) (Rescued R) AtEnd D
  unfolding rescued_of
  rescued_full s z t (no_rescue h) stops =
      leads_trans (from (statements_of N) (rescued_on N) s) (rescued_on N t z) (Ok (t, z)) (leads_bind (statements_of N s) (t, z) (λ q. rescued_on N q.0 q.1) (statements_full s z t h (end_ends z stops)))
      (inl (ap (rescued_or N t z) (other-word kind.Rescue stops.0 z stops.1 stops.2 (finished stops.0 stops.3).2)))
  rescued_full s z t (a_rescue {m = m} {n = n} {o = o} {t = b} {e = e} {l = l} h f c g) stops =
      let behind = clauses_end o z e g stops in
      leads_trans (from (statements_of N) (rescued_on N) s) (rescued_on N b m) (Ok (t, z)) (leads_bind (statements_of N s) (b, m) (λ q. rescued_on N q.0 q.1) (statements_full s m b h (next_ends m n kind.Rescue true f refl)))
      (leads_eq (rescued_on N b m) (clauses_of N n >>= λ l. built (rescue b (listed l.0)) (otherwise_of N l.1)) (Ok (t, z)) (ap (rescued_or N b m) (word_here kind.Rescue m n f refl))
      (leads_trans (clauses_of N n >>= λ l. built (rescue b (listed l.0)) (otherwise_of N l.1)) (built (rescue b (listed l)) (otherwise_of N o)) (Ok (t, z))
      (leads_bind (clauses_of N n) (l, o) (λ l. built (rescue b (listed l.0)) (otherwise_of N l.1)) (clauses_full n o l c behind.0 behind.1))
      (leads_bind (otherwise_of N o) (e, z) (λ x. Ok (rescue b (listed l) x.0, x.1)) (otherwise_full o z e g stops))))

  -- the word that ends a block comes, or the `end` of another construct
  abbrev AtFence : Fence → Place → Type 0
  AtFence k z = (y : Place) × (next z ≡ Some (fence_end k, y))

  pub body_full : IsFull (body_of N) (Body R) (AtFence fences.Do) D
  unfolding body_of
  body_full s z t (no_ensure h) stops =
      leads_trans (from (rescued_of N) (ensured_on N) s) (ensured_on N t z) (Ok (t, z)) (leads_bind (rescued_of N s) (t, z) (λ q. ensured_on N q.0 q.1) (rescued_full s z t h (kind.End, stops.0, stops.1, refl)))
      (inl (ap (ensured_or N t z) (other-word kind.Ensure kind.End z stops.0 stops.1 refl)))
  body_full s z t (an_ensure {m = m} {n = n} {t = b} {e = e} h f i) stops =
      leads_trans (from (rescued_of N) (ensured_on N) s) (ensured_on N b m) (Ok (t, z)) (leads_bind (rescued_of N s) (b, m) (λ q. ensured_on N q.0 q.1) (rescued_full s m b h (kind.Ensure, n, f, refl)))
      (leads_eq (ensured_on N b m) (built (ensure b) (statements_of N n)) (Ok (t, z)) (ap (ensured_or N b m) (word_here kind.Ensure m n f refl))
      (leads_bind (statements_of N n) (e, z) (λ x. Ok (ensure b x.0, x.1)) (statements_full n z e i (next_ends z stops.0 kind.End true stops.1 refl))))

  begun_full : IsFull (begun_of N) (Begun R) Anywhere D
  unfolding begun_of
  begun_full s z t (a_begun {m = m} h e f) u =
      leads_trans (from (ended_body N) unlooped_on s) (unlooped_on t z) (Ok (t, z))
      (leads_bind (ended_body N s) (t, z) (λ x. unlooped_on x.0 x.1) (closed_full kind.End (body_of N s) t m z refl (body_full s m t h (z, e)) e)) (inl (ap (unlooped t z) f))

  held_full : (k : Fence) → IsFull (held_of N k) (Held R k) (AtFence k) D
  held_full fences.Brace s z t (between_braces h) stops = statements_full s z t h (next_ends z stops.0 kind.CloseBrace true stops.1 refl)
  held_full fences.Do s z t (until_end h) stops = body_full s z t h stops

  -- ---- scopes

  block_full : (k : Fence) → IsFull (block_of N k) (Block R k) Anywhere D
  unfolding block_of
  block_full k s z t (of_statements {m = m} {n = n} {z = y} {xs = xs} {t = b} e h f) u =
      let body = closed (fence_end k) (held_of N k (entered xs m)) in
      leads_eq (block_or N k s (at parameters s)) (left_block s xs m body) (Ok (block_tree xs m y b, leaving s y)) (ap (block_or N k s) e)
      (leads_bind body (b, y) (λ q. Ok (block_tree xs m q.1 q.0, leaving s q.1))
      (closed_full (fence_end k) (held_of N k (entered xs m)) b n y (same_fence k) (held_full k (entered xs m) n b h (y, f)) f))

  definition_full : IsFull (definition_of N) (Definition R) Anywhere D
  unfolding definition_of
  definition_full s z t (of_method {m = m} {n = n} {o = o} {z = y} {x = x} {xs = xs} {t = b} e f h g) u =
      let body = closed kind.End (body_of N (defined xs n)) in
      leads_eq (definition_or N s (at method_name s)) (left_method s x xs n body) (Ok (method_tree x xs n y b, rejoining s y)) (ap (definition_or N s) e ∙ ap (method_or N s x) f)
      (leads_bind body (b, y) (λ q. Ok (method_tree x xs n q.1 q.0, rejoining s q.1))
      (closed_full kind.End (body_of N (defined xs n)) b o y refl (body_full (defined xs n) o b h (y, g)) g))

  pub part_full : (p : Part) → IsFull (part_of N p) (PartOf R p) (PartStops p) D
  part_full parts.Group = enclosed_full (group_of N) (Group R) group_full
  part_full parts.Array = enclosed_full (array_of N) (Array R) (array_full N R D shrinks nests)
  part_full parts.Hash = enclosed_full (hash_of N) (Hash R) (hash_full N R D shrinks nests)
  part_full parts.Index = enclosed_full (index_of N) (Index R) (index_full N R D shrinks nests)
  part_full parts.Choice = enclosed_full (choice_of N) (Choice R) choice_full
  part_full parts.Unless = enclosed_full (unless_of N) (Unless R) unless_full
  part_full (parts.Loop until) = enclosed_full (looped_of N until) (Looped R until) (looped_full until)
  part_full parts.Begin = enclosed_full (begun_of N) (Begun R) begun_full
  part_full parts.Minus = (minus_full N R D shrinks nests)
  part_full parts.Bang = (bang_full N R D shrinks nests)
  part_full parts.Not = negation_full
  part_full parts.Command = (command_full N R D shrinks nests)
  part_full parts.Branch = (argument_full N R D shrinks nests)
  part_full (parts.Interpolation i) = enclosed_full (interpolation_of N i) (Interpolation R i) (interpolation_full i)
  part_full (parts.Block k) = enclosed_full (block_of N k) (Block R k) (block_full k)
  part_full parts.Definition = enclosed_full (definition_of N) (Definition R) definition_full
  part_full (parts.Class x c) = enclosed_full (class_body_of N x c) (ClassBody R x c) (class_body_full N R D shrinks.class_member nests x c)

-- ---- all depths

full_map : {A : Type 0} {C D : Type 0} (p : Parse A) (P : Place → A → Place → Type 0) (Stops : Place → Type 0) → (C → D) → IsFull p P Stops C → IsFull p P Stops D
full_map p P Stops f h s z t i stops = leads_map (p s) (Ok (t, z)) f (h s z t i stops)

full_inside : (k d : ℕ) → NestedFull (readers_inside k) (inside d) (k < d)
unfolding readers_inside inside
full_inside zero zero = record { part = λ p s z t h stops. absurd h; bracketed = λ s z t h stops. absurd h; ordered = λ r x s z t h stops. absurd h; value = λ b s z t h stops. absurd h; values = λ s z t h stops. absurd h }
full_inside zero (suc d) = record { part = λ p s z t h stops. inr (refl, omega arith); bracketed = λ s z t h stops. inr (refl, omega arith); ordered = λ r x s z t h stops. inr (refl, omega arith); value = λ b s z t h stops. inr (refl, omega arith); values = λ s z t h stops. inr (refl, omega arith) }
full_inside (suc k) zero = record { part = λ p s z t h stops. absurd h; bracketed = λ s z t h stops. absurd h; ordered = λ r x s z t h stops. absurd h; value = λ b s z t h stops. absurd h; values = λ s z t h stops. absurd h }
full_inside (suc k) (suc d) =
    let i = full_inside k d in
    let j = shrinks_nested true k in
    let deeper : k < d → suc k < suc d = λ (lt : k < d). omega arith in
    record {
      part = λ p. full_map (part_of (readers_inside k) p) (PartOf (inside d) p) (PartStops p) deeper (part_full (readers_inside k) (inside d) (k < d) j i p);
      bracketed = full_map (taking_of true (bracketed_of (readers_inside k) listings.Call)) (Taking true (Bracketed (inside d) listings.Call)) Anywhere deeper (enclosed_full (bracketed_of (readers_inside k) listings.Call) (Bracketed (inside d) listings.Call) (bracketed_full (readers_inside k) (inside d) (k < d) j i listings.Call));
      ordered = λ r x. full_map (ordered_of (readers_inside k) r x) (Ordered (inside d) r x) (Stops 29) deeper (ordered_full (readers_inside k) (inside d) (k < d) j i r x);
      value = λ b. full_map (value_of (readers_inside k) b) (Value (inside d) b) (Stops (value_stop b)) deeper (value_full (readers_inside k) (inside d) (k < d) j i b);
      values = full_map (rights_of (readers_inside k)) (Rights (inside d)) (Stops 29) deeper (rights_full (readers_inside k) (inside d) (k < d) j i);
    }

inner_full : (k d : ℕ) (b : Bool) → IsFull (value_of (readers_inside k) b) (Value (inside d) b) (Stops (value_stop b)) (k < d)
inner_full k d = value_full (readers_inside k) (inside d) (k < d) (shrinks_nested true k) (full_inside k d)

inner_rights_full : (k d : ℕ) → IsFull (rights_of (readers_inside k)) (Rights (inside d)) (Stops 29) (k < d)
inner_rights_full k d = rights_full (readers_inside k) (inside d) (k < d) (shrinks_nested true k) (full_inside k d)

pub full_outside : (k d : ℕ) → NestedFull (readers_outside k) (outside d) (k < d)
unfolding readers_outside outside
full_outside zero zero = record { part = λ p s z t h stops. absurd h; bracketed = λ s z t h stops. absurd h; ordered = λ r x s z t h stops. absurd h; value = inner_full zero zero; values = inner_rights_full zero zero }
full_outside zero (suc d) = record { part = λ p s z t h stops. inr (refl, omega arith); bracketed = λ s z t h stops. inr (refl, omega arith); ordered = λ r x s z t h stops. inr (refl, omega arith); value = inner_full zero (suc d); values = inner_rights_full zero (suc d) }
full_outside (suc k) zero = record { part = λ p s z t h stops. absurd h; bracketed = λ s z t h stops. absurd h; ordered = λ r x s z t h stops. absurd h; value = inner_full (suc k) zero; values = inner_rights_full (suc k) zero }
full_outside (suc k) (suc d) =
    let i = full_outside k d in
    let j = shrinks_nested false k in
    let deeper : k < d → suc k < suc d = λ (lt : k < d). omega arith in
    record {
      part = λ p. full_map (part_of (readers_outside k) p) (PartOf (outside d) p) (PartStops p) deeper (part_full (readers_outside k) (outside d) (k < d) j i p);
      bracketed = full_map (taking_of true (bracketed_of (readers_outside k) listings.Call)) (Taking true (Bracketed (outside d) listings.Call)) Anywhere deeper (enclosed_full (bracketed_of (readers_outside k) listings.Call) (Bracketed (outside d) listings.Call) (bracketed_full (readers_outside k) (outside d) (k < d) j i listings.Call));
      ordered = λ r x. full_map (ordered_of (readers_outside k) r x) (Ordered (outside d) r x) (Stops 29) deeper (ordered_full (readers_outside k) (outside d) (k < d) j i r x);
      value = inner_full (suc k) (suc d);
      values = inner_rights_full (suc k) (suc d);
    }
