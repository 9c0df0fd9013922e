-- What is spelled takes no words back, and so reading takes none back.
use Rattle.std.proofs.Common.{zero, suc, Bool, true, false, Option, Some, None, arith, ◌≤◌, ℕ}
use Rattle.rr_tree.specs.Tree.{call, send, listed}
use Rattle.rr_base.specs.declared.name.Sym.{Sym}
use Rattle.rr_base.specs.declared.name.ClassId.{ClassId}
use Rattle.rr_parser.specs.declared.word.Caught.{Caught}
use Rattle.rr_parser.specs.declared.word.Tail.{Tail}
use Rattle.rr_parser.specs.declared.word.Target.{Target}
use Rattle.rr_parser.specs.declared.word.Listed.{Listed}
use Rattle.rr_parser.specs.declared.word.Listed.TheVariants as listings
use Rattle.rr_parser.specs.declared.word.Part.{Part}
use Rattle.rr_parser.specs.declared.word.Part.TheVariants as parts
use Rattle.rr_parser.specs.declared.word.WordKind.TheVariants as kind
use Rattle.rr_parser.specs.declared.word.Behind.{Behind}
use Rattle.rr_parser.specs.declared.word.Behind.TheVariants as behinds
use Rattle.rr_parser.specs.declared.word.Fence.{Fence}
use Rattle.rr_parser.specs.Grammar.Fences.{Taking, taken, taking, within_head, fence_end}
use Rattle.rr_parser.specs.Places.{Place, skip, separators}
use Rattle.rr_tree.specs.Tree.{Tree}
use Rattle.rr_parser.specs.Grammar.Chains.{same, one_of, and_one, all_of, and_all}
use Rattle.rr_parser.specs.Grammar.Nesting.{Nested}
use Rattle.rr_parser.specs.Grammar.Names.{headed}
use Rattle.rr_parser.specs.Grammar.Operands.{Blocked, no_block, a_block, Primary, a_literal, a_constant, a_path, a_negative, a_local, a_bare_call, a_call, a_block_call, a_jump, a_passing, a_passing_call, a_construct, tail, Tailed, a_sent_call, an_index, Postfix, Bang, a_bang, no_bang, Minus, a_minus, no_minus, Plain, Reached, as_it_is, an_attribute, a_block_send}
use Rattle.rr_parser.specs.Grammar.Operators.{operator, infixed, connective, joined_by, Logical, Binary, Equality, a_comparison, a_pair, Ternary, no_question, a_question}
use Rattle.rr_parser.specs.Grammar.Calls.{with_target, comma, Assigned, an_assignment, no_assignment, Argument, Pair, by_label, by_arrow, star, Item, a_splat, a_plain_item, Members, Bracketed, no_members, some_members, Array, an_array, Hash, a_hash, Index, of_element, Commanded, by_arguments, by_command, by_order, Command, a_command, Phrase, by_name, an_operand, Operand, Value, Settled, a_setting, no_setting, Ordered, an_order, by_receiver, Adding, adding, AddingTo, Given, Listing, a_pair_member, an_item, nothing, only_pairs}
use Rattle.rr_parser.specs.declared.word.Modifier.{Modifier}
use Rattle.rr_parser.specs.Grammar.Several.{Targeted, a_target, Targets, Rights, by_values, by_named, by_sent, plain_sign, a_spot}
use Rattle.rr_parser.specs.Grammar.Sequences.{Simple, to_several, no_several, Modifying, by_condition, Negation, a_negation, no_negation, Expression, modifier, Statement, Rows, Statements, no_statements, some_statements, Group, a_group}
use Rattle.rr_parser.specs.Grammar.Interpolations.{text_middle, first_piece, and_piece, Pieces, Interpolation, an_interpolation}
use Rattle.rr_parser.specs.Grammar.Control.{elsif, Branch, a_branch, Branches, Otherwise, no_else, an_else, Choice, a_choice, Unless, an_unless, Loop, a_loop, looping, Looped, of_loop}
use Rattle.rr_parser.specs.Grammar.Bodies.{Class, a_class, Classes, no_classes, some_classes, with_caught, Clause, a_clause, rescues, Clauses, Rescued, no_rescue, a_rescue, Body, no_ensure, an_ensure, Begun, a_begun, Held, between_braces, until_end}
use Rattle.rr_parser.specs.Grammar.Blocks.{entered, Block, of_statements}
use Rattle.rr_parser.specs.Grammar.Classes.{ClassMember, a_definition, some_attributes, Methods, Inner, no_methods, some_methods, ClassBody, a_class_body}
use Rattle.rr_parser.specs.Grammar.Definitions.{defined, Definition, of_method}
use Rattle.rr_parser.specs.Grammar.{FormOf, is_enclosed, Enclosed, PartOf, inside, outside}
use Rattle.rr_parser.specs.Reading.Nesting.{Readers}
use Rattle.rr_parser.specs.Reading.Operators.{binary_of, logical_of}
use Rattle.rr_parser.specs.Reading.Calls.{argument_of, adding_of}
use Rattle.rr_parser.specs.Reading.Several.{targeted_of}
use Rattle.rr_parser.specs.Reading.Sequences.{modifying_of, negation_of, expression_of, statement_of, statements_of}
use Rattle.rr_parser.specs.Reading.Control.{branch_of}
use Rattle.rr_parser.specs.Reading.Bodies.{class_of, clause_of}
use Rattle.rr_parser.specs.Reading.Classes.{class_member_of}
use Rattle.rr_parser.specs.Reading.{readers}
use Rattle.rr_parser.proofs.Looks.{Steps-separators, Steps-thens, Steps-loops, Steps-target, Steps-tail, command-next, next-left, left, left-without_separators, Steps-row_of}
use Rattle.rr_parser.proofs.Listing.{Steps-last, Steps-closing, parameters-less}
use Rattle.rr_parser.specs.declared.word.Target.TheVariants as targets
use Rattle.rr_parser.specs.Reading.Operands.{tailed_of}
use Rattle.rr_parser.proofs.Trails.{trail_shrinking}
use Rattle.rr_parser.proofs.Chains.{Shrinks, IsShrinking, shrinks_by, chain_shrinking}
use Rattle.rr_parser.proofs.Formals.{Steps-method_name, formals-less}
use Rattle.rr_parser.proofs.SoundOperands.{binary_sound, logical_sound, tailed_sound}
use Rattle.rr_parser.proofs.SoundCalls.{targeted_sound, argument_sound, adding_sound}
use Rattle.rr_parser.proofs.Sound.{nested, sound_nested, modifying_sound, negation_sound, expression_sound, statement_sound, statements_sound, branch_sound, class_sound, clause_sound}
use Rattle.rr_parser.proofs.Accesses.{Steps-access, attributes_shrinking}
use Rattle.rr_parser.proofs.ClassSound.{class_member_sound}
use Rattle.rr_parser.specs.declared.word.Head.TheVariants as heads
use Rattle.rr_parser.proofs.Orders.{Steps-order}
use Rattle.rr_parser.proofs.Steps.{Steps-joined, Steps-inner_constant, Steps-path, Steps-caught, Steps-rescues, Steps-middle, Steps-text_tail, Steps-name, Steps-opening, Steps-head, Steps-bracket, Steps-connective, Steps-operator, Steps-sign, Steps-label, Steps-modifier, Steps-comma, Steps-elsif, Steps-target_word}

pub record NestedShrinking (R : Nested) : Type 0 where
  pub part : (p : Part) → IsShrinking (R.part p)
  pub bracketed : IsShrinking R.bracketed
  pub ordered : (r : Tree) (x : Sym) → IsShrinking (R.ordered r x)
  pub value : (b : Bool) → IsShrinking (R.value b)
  pub values : IsShrinking R.values

class_shrinking : IsShrinking Class
class_shrinking s z t (a_class {x = x} e) = omega (arith, Steps-path s z x e)

pub class_shrinks : Shrinks class_of
class_shrinks = shrinks_by class_of Class class_sound class_shrinking

classes_shrinking : IsShrinking Classes
classes_shrinking s z l (no_classes e) = omega arith
classes_shrinking s z l (some_classes c) = chain_shrinking comma one_of and_one Class Steps-comma class_shrinking s z l c

caught_left : (x : Option Caught) (n : Place) → left (with_caught x n) ≤ left n
caught_left None n = omega arith
caught_left (Some x) n = omega arith

target_left : (x : Target) (n : Place) → left (with_target x n) ≤ left n
target_left (targets.Variable x) n = omega arith
target_left (targets.Field x) n = omega arith
target_left (targets.Global x) n = omega arith
target_left (targets.Constant x k) n = omega arith

taking_shrinking : {A : Type 0} (b : Bool) (P : Place → A → Place → Type 0) → IsShrinking P → IsShrinking (Taking b P)
taking_shrinking b P smaller s z t (taken {z = y} h) = smaller (taking b s) y t h

enclosed_shrinking : {A : Type 0} (b : Bool) (P : Place → A → Place → Type 0) → IsShrinking P → IsShrinking (Enclosed b P)
enclosed_shrinking true P smaller = taking_shrinking true P smaller
enclosed_shrinking false P smaller = smaller

module _ (R : Nested) (nests : NestedShrinking R) where
  blocked_shrinking : (q : Behind) (c : Tree) → IsShrinking (Blocked R q c)
  blocked_shrinking q c s z t (no_block e) = omega arith
  blocked_shrinking q c s z t (a_block {m = m} {f = f} {b = b} e h) = omega (arith, Steps-opening q s.known.takes_do s m f e, nests.part (parts.Block f) m z b h)

  primary_shrinking : IsShrinking (Primary R)
  primary_shrinking s z t (a_literal {k = k} e f) = omega (arith, next-left s z k e)
  primary_shrinking s z t (a_constant {x = x} {outer = outer} e f) = omega (arith, next-left s z (kind.Constant x outer) e)
  primary_shrinking s z t (a_path {m = m} {x = x} {y = y} {outer = outer} e f) = omega (arith, next-left s m (kind.Constant x outer) e, Steps-inner_constant outer m z y f)
  primary_shrinking s z t (a_negative {m = m} {n = n} e f g) = omega (arith, next-left s m kind.Minus e, Steps-joined m z n f)
  primary_shrinking s z t (a_local {x = x} e f b g) = omega (arith, Steps-name s z x e)
  primary_shrinking s z t (a_bare_call {x = x} e f b g h) = omega (arith, Steps-name s z x e)
  primary_shrinking s z t (a_call {m = m} {n = n} {o = o} {x = x} {u = u} {l = l} e f h b) = omega (arith, Steps-name s m x e, Steps-bracket m n u f, nests.bracketed n o l h, blocked_shrinking behinds.Call (call x.0 (listed l)) o z t b)
  primary_shrinking s z t (a_block_call {m = m} {n = n} {x = x} {f = k} {b = b} e f g h) = omega (arith, Steps-name s m x e, Steps-opening behinds.Call m.known.takes_do m n k g, nests.part (parts.Block k) n z b h)
  primary_shrinking s z t (a_jump {j = j} e f g) = omega (arith, next-left s z (kind.Jump j) e)
  primary_shrinking s z t (a_passing {p = p} e f g h) = omega (arith, next-left s z (kind.Passing p) e)
  primary_shrinking s z t (a_passing_call {m = m} {n = n} {p = p} {u = u} {l = l} e f g h) = omega (arith, next-left s m (kind.Passing p) e, Steps-bracket m n u g, nests.bracketed n z l h)
  primary_shrinking s z t (a_construct {m = m} {k = k} {p = p} e f h) = omega (arith, next-left s m k e, nests.part p m z t h)

  tailed_shrinking : (x : Tail) (l : Reached) (n z : Place) (t : Reached) → Tailed R x l n t z → left z ≤ left n
  tailed_shrinking x l n z t (an_attribute e) = omega arith
  tailed_shrinking x l n z t (a_block_send {m = m} {f = f} {b = b} e h) = omega (arith, Steps-opening behinds.Call n.known.takes_do n m f e, nests.part (parts.Block f) m z b h)
  tailed_shrinking x l n z t (a_sent_call {m = m} {x = y} {t = v} {l = a} h b) = omega (arith, nests.bracketed n m a h, blocked_shrinking behinds.Call (send l.tree y.0 (listed a)) m z v b)
  tailed_shrinking x l n z t (an_index {i = i} h) = nests.part parts.Index n z i h

  plain_shrinking : IsShrinking (Plain (Primary R))
  plain_shrinking s z r (as_it_is {t = t} h) = primary_shrinking s z t h

  postfix_shrinking : IsShrinking (Postfix R)
  postfix_shrinking = trail_shrinking tail (Plain (Primary R)) (Tailed R) Steps-tail plain_shrinking tailed_shrinking

  bang_shrinking : IsShrinking (Bang R)
  bang_shrinking s z t (a_bang {m = m} {t = v} e h) = omega (arith, next-left s m kind.Bang e, nests.part parts.Bang m z v h)
  bang_shrinking s z t (no_bang {r = r} h) = postfix_shrinking s z r h

  minus_shrinking : IsShrinking (Minus R)
  minus_shrinking s z t (a_minus {m = m} {t = v} e f h) = omega (arith, next-left s m kind.Minus e, nests.part parts.Minus m z v h)
  minus_shrinking s z t (no_minus h) = bang_shrinking s z t h

  binary_shrinking : (level : ℕ) → IsShrinking (Binary R level)
  binary_shrinking zero = minus_shrinking
  binary_shrinking (suc level) = chain_shrinking (operator (suc level)) same infixed (Binary R level) (Steps-operator (suc level)) (binary_shrinking level)

  equality_shrinking : IsShrinking (Equality R)
  equality_shrinking s z t (a_comparison h) = binary_shrinking 4 s z t h
  equality_shrinking s z t (a_pair {m = m} {n = n} {l = l} {r = r} {o = o} h e g) = omega (arith, binary_shrinking 4 s m l h, Steps-operator 5 m n o e, binary_shrinking 4 n z r g)

  logical_shrinking : (level : ℕ) → IsShrinking (Logical R level)
  logical_shrinking zero = equality_shrinking
  logical_shrinking (suc level) = chain_shrinking (connective (suc level)) same joined_by (Logical R level) (Steps-connective (suc level)) (logical_shrinking level)

  ternary_shrinking : IsShrinking (Ternary R)
  ternary_shrinking s z t (no_question h) = logical_shrinking 2 s z t h
  ternary_shrinking s z t (a_question {m = m} {n = n} {o = o} {y = y} {c = c} {t = a} {e = b} h e f g i) =
      omega (arith, logical_shrinking 2 s m c h, next-left m n kind.Question e, nests.part parts.Branch n o a f, next-left o y kind.Colon g, nests.part parts.Branch y z b i)

  assigned_shrinking : (commands : Bool) (Q : Place → Tree → Place → Type 0) → IsShrinking Q → IsShrinking (Assigned R commands Q)
  assigned_shrinking commands Q smaller s z t (an_assignment {n = n} {x = x} {t = v} e f h) = omega (arith, Steps-target s n x e, target_left x.target n, nests.value commands (with_target x.target n) z v h)
  assigned_shrinking commands Q smaller s z t (no_assignment h) = smaller s z t h

  settled_shrinking : (b : Bool) → IsShrinking (Settled R b)
  settled_shrinking b s z t (a_setting {m = m} {n = n} {r = r} {q = q} {t = v} h f g i) = omega (arith, postfix_shrinking s m r h, Steps-sign m n q g, nests.value b n z v i)
  settled_shrinking b s z t (no_setting h) = ternary_shrinking s z t h

  argument_shrinking : IsShrinking (Argument R)
  argument_shrinking = assigned_shrinking false (Settled R false) (settled_shrinking false)

  pair_shrinking : IsShrinking (Pair R)
  pair_shrinking s z t (by_label {m = m} {x = x} {t = v} e h) = omega (arith, Steps-label s m x e, argument_shrinking m z v h)
  pair_shrinking s z t (by_arrow {m = m} {n = n} {k = k} {t = v} h e i) = omega (arith, argument_shrinking s m k h, next-left m n kind.Arrow e, argument_shrinking n z v i)

  item_shrinking : IsShrinking (Item R)
  item_shrinking s z t (a_splat {m = m} {t = v} e h) = omega (arith, next-left s m star e, argument_shrinking m z v h)
  item_shrinking s z t (a_plain_item h) = argument_shrinking s z t h

  listing_shrinking : (only : Bool) → IsShrinking (Listing R only)
  listing_shrinking only s z r (an_item {t = t} e h) = item_shrinking s z t h
  listing_shrinking only s z r (a_pair_member {t = t} h) = pair_shrinking s z t h

  adding_shrinking : (k : Listed) (g : Given) → IsShrinking (Adding R k g)
  adding_shrinking k g s z t (adding {m = m} h) = listing_shrinking (only_pairs k g) s z m h

  members_shrinking : (k : Listed) → IsShrinking (Members R k)
  members_shrinking k = trail_shrinking comma (Adding R k nothing) (AddingTo R k) Steps-comma (adding_shrinking k nothing) (λ x g n z t h. adding_shrinking k g n z t h)

  bracketed_shrinking : (k : Listed) → IsShrinking (Bracketed R k)
  bracketed_shrinking k s z l (no_members {u = u} e) = omega (arith, Steps-closing k s z u e)
  bracketed_shrinking k s z l (some_members {m = m} {u = u} {g = g} h e) = omega (arith, members_shrinking k s m g h, Steps-last k m z u e)

  array_shrinking : IsShrinking (Array R)
  array_shrinking s z t (an_array {l = l} h) = bracketed_shrinking listings.Array s z l h

  hash_shrinking : IsShrinking (Hash R)
  hash_shrinking s z t (a_hash {l = l} h) = bracketed_shrinking listings.Hash s z l h

  index_shrinking : IsShrinking (Index R)
  index_shrinking s z t (of_element {m = m} h e) = omega (arith, argument_shrinking s m t h, next-left m z kind.CloseSquare e)

  commanded_shrinking : IsShrinking (Commanded R)
  commanded_shrinking s z l (by_arguments {g = g} h) = members_shrinking listings.Command s z g h
  commanded_shrinking s z l (by_command {t = t} e h) = nests.part parts.Command s z t h
  commanded_shrinking s z l (by_order {m = m} {n = n} {r = r} {x = x} {t = t} h e g) = omega (arith, postfix_shrinking s m r h, Steps-order m n x e, nests.ordered r.tree x n z t g)

  command_shrinking : IsShrinking (Command R)
  command_shrinking s z t (a_command {m = m} {n = n} {x = x} {l = l} e h b) =
      omega (arith, Steps-head s m x (command-next s m x e).0, taking_shrinking (within_head x m.known.takes_do) (Commanded R) commanded_shrinking m n l h, blocked_shrinking (behinds.Command x) (headed x l) n z t b)

  ordered_shrinking : (r : Tree) (x : Sym) → IsShrinking (Ordered R r x)
  ordered_shrinking r x n z t (an_order {m = o} {l = l} a b) =
      omega (
        arith,
        taking_shrinking (within_head (heads.Call x) n.known.takes_do) (Commanded R) commanded_shrinking n o l a,
        blocked_shrinking (behinds.Command (heads.Call x)) (send r x.0 (listed l)) o z t b,
      )

  phrase_shrinking : IsShrinking (Phrase R)
  phrase_shrinking s z t (by_name h) = command_shrinking s z t h
  phrase_shrinking s z t (by_receiver {m = m} {n = n} {r = r} {x = x} h e g) = omega (arith, postfix_shrinking s m r h, Steps-order m n x e, ordered_shrinking r.tree x n z t g)
  phrase_shrinking s z t (an_operand h) = settled_shrinking true s z t h

  operand_shrinking : (b : Bool) → IsShrinking (Operand R b)
  operand_shrinking false = settled_shrinking false
  operand_shrinking true = phrase_shrinking

  value_shrinking : (b : Bool) → IsShrinking (Value R b)
  value_shrinking b = assigned_shrinking b (Operand R b) (operand_shrinking b)

  negation_shrinking : IsShrinking (Negation R)
  negation_shrinking s z t (a_negation {m = m} {t = v} e h) = omega (arith, next-left s m kind.NotWord e, nests.part parts.Not m z v h)
  negation_shrinking s z t (no_negation h) = value_shrinking true s z t h

  expression_shrinking : IsShrinking (Expression R)
  expression_shrinking = chain_shrinking (connective 3) same joined_by (Negation R) (Steps-connective 3) negation_shrinking

  targeted_shrinking : IsShrinking (Targeted R)
  targeted_shrinking s z t (a_target {m = m} {x = x} e f) = omega (arith, Steps-target_word s m x e, target_left x m)
  targeted_shrinking s z t (a_spot {r = r} h f) = postfix_shrinking s z r h

  targets_shrinking : IsShrinking (Targets R)
  targets_shrinking = chain_shrinking comma one_of and_one (Targeted R) Steps-comma targeted_shrinking

  rights_shrinking : IsShrinking (Rights R)
  rights_shrinking s z t (by_values {l = l} c) = chain_shrinking comma one_of and_one (Argument R) Steps-comma argument_shrinking s z l c
  rights_shrinking s z t (by_named h) = command_shrinking s z t h
  rights_shrinking s z t (by_sent h e g) = phrase_shrinking s z t (by_receiver h e g)

  simple_shrinking : IsShrinking (Simple R)
  simple_shrinking s z t (to_several {m = m} {n = n} {o = o} {y = y} {t = v} {v = w} {l = l} a c b f h) =
      omega (arith, targeted_shrinking s m v a, next-left m n kind.Comma c, targets_shrinking n o l b, next-left o y plain_sign f, nests.values y z w h)
  simple_shrinking s z t (no_several h) = expression_shrinking s z t h

  modifying_shrinking : (x : Modifier) (l : Tree) (n z : Place) (t : Tree) → Modifying R x l n t z → left z ≤ left n
  modifying_shrinking x l n z t (by_condition {c = c} h) = expression_shrinking n z c h

  pub statement_shrinking : IsShrinking (Statement R)
  statement_shrinking = trail_shrinking modifier (Simple R) (Modifying R) Steps-modifier simple_shrinking modifying_shrinking

  rows_shrinking : IsShrinking (Rows R)
  rows_shrinking = chain_shrinking separators one_of and_one (Statement R) Steps-separators statement_shrinking

  pub statements_shrinking : IsShrinking (Statements R)
  statements_shrinking s z t no_statements = left-without_separators s.rest
  statements_shrinking s z t (some_statements {m = m} {l = l} h) = omega (arith, left-without_separators s.rest, rows_shrinking (skip s) m l h, left-without_separators m.rest)

  group_shrinking : IsShrinking (Group R)
  group_shrinking s z t (a_group {m = m} h e) = omega (arith, statements_shrinking s m t h, next-left m z kind.Close e)

  pieces_shrinking : (i : ℕ) → IsShrinking (Pieces R i)
  pieces_shrinking i = chain_shrinking text_middle (first_piece i) and_piece (Statements R) Steps-middle statements_shrinking

  interpolation_shrinking : (i : ℕ) → IsShrinking (Interpolation R i)
  interpolation_shrinking i s z t (an_interpolation {m = m} {l = l} {j = j} h e) = omega (arith, pieces_shrinking i s m l h, Steps-text_tail m z j e)

  branch_shrinking : IsShrinking (Branch R)
  branch_shrinking s z b (a_branch {m = m} {n = n} {c = c} {t = t} {u = u} h e i) = omega (arith, expression_shrinking s m c h, Steps-thens m n u e, statements_shrinking n z t i)

  branches_shrinking : IsShrinking (Branches R)
  branches_shrinking = chain_shrinking elsif one_of and_one (Branch R) Steps-elsif branch_shrinking

  otherwise_shrinking : IsShrinking (Otherwise R)
  otherwise_shrinking s z t no_else = omega arith
  otherwise_shrinking s z t (an_else {m = m} e h) = omega (arith, next-left s m kind.Else e, statements_shrinking m z t h)

  choice_shrinking : IsShrinking (Choice R)
  choice_shrinking s z t (a_choice {m = m} {n = n} {l = l} {e = e} b h f) = omega (arith, branches_shrinking s m l b, otherwise_shrinking m n e h, next-left n z kind.End f)

  unless_shrinking : IsShrinking (Unless R)
  unless_shrinking s z t (an_unless {m = m} {n = n} {b = b} {e = e} c h f) = omega (arith, branch_shrinking s m b c, otherwise_shrinking m n e h, next-left n z kind.End f)

  loop_shrinking : (until : Bool) → IsShrinking (Loop R until)
  loop_shrinking until s z t (a_loop {m = m} {n = n} {o = o} {c = c} {t = b} {u = u} h e i f) =
      omega (arith, taking_shrinking false (Expression R) expression_shrinking s m c h, Steps-loops m n u e, statements_shrinking n o b i, next-left o z kind.End f)

  looped_shrinking : (until : Bool) → IsShrinking (Looped R until)
  looped_shrinking until s z t (of_loop {z = y} h) = loop_shrinking until (looping s) y t h

  clause_shrinking : IsShrinking (Clause R)
  clause_shrinking s z t (a_clause {m = m} {n = n} {l = l} {x = x} {t = b} h e i) =
      omega (arith, classes_shrinking s m l h, Steps-caught m n x e, caught_left x n, statements_shrinking (with_caught x n) z b i)

  clauses_shrinking : IsShrinking (Clauses R)
  clauses_shrinking = chain_shrinking rescues one_of and_one (Clause R) Steps-rescues clause_shrinking

  rescued_shrinking : IsShrinking (Rescued R)
  rescued_shrinking s z t (no_rescue h) = statements_shrinking s z t h
  rescued_shrinking s z t (a_rescue {m = m} {n = n} {o = o} {t = b} {e = e} {l = l} h f c g) =
      omega (arith, statements_shrinking s m b h, next-left m n kind.Rescue f, clauses_shrinking n o l c, otherwise_shrinking o z e g)

  body_shrinking : IsShrinking (Body R)
  body_shrinking s z t (no_ensure h) = rescued_shrinking s z t h
  body_shrinking s z t (an_ensure {m = m} {n = n} {t = b} {e = e} h f i) = omega (arith, rescued_shrinking s m b h, next-left m n kind.Ensure f, statements_shrinking n z e i)

  begun_shrinking : IsShrinking (Begun R)
  begun_shrinking s z t (a_begun {m = m} h e f) = omega (arith, body_shrinking s m t h, next-left m z kind.End e)

  held_shrinking : (k : Fence) → IsShrinking (Held R k)
  held_shrinking k s z t (between_braces h) = statements_shrinking s z t h
  held_shrinking k s z t (until_end h) = body_shrinking s z t h

  block_shrinking : (k : Fence) → IsShrinking (Block R k)
  block_shrinking k s z t (of_statements {m = m} {n = n} {z = y} {xs = xs} {t = b} e h f) = omega (arith, parameters-less s m xs e, held_shrinking k (entered xs m) n b h, next-left n y (fence_end k) f)

  definition_shrinking : IsShrinking (Definition R)
  definition_shrinking s z t (of_method {m = m} {n = n} {o = o} {z = y} {x = x} {xs = xs} {t = b} e f h g) =
      omega (arith, Steps-method_name s m x e, formals-less m n xs f, body_shrinking (defined xs n) o b h, next-left o y kind.End g)

  class_member_shrinking : IsShrinking (ClassMember R)
  class_member_shrinking s z l (a_definition {m = m} {t = t} e h) = omega (arith, next-left s m kind.Def e, nests.part parts.Definition m z t h)
  class_member_shrinking s z l (some_attributes {m = m} {a = a} e c) = omega (arith, Steps-access s m a e, attributes_shrinking a m z l c)

  methods_shrinking : IsShrinking (Methods R)
  methods_shrinking = chain_shrinking separators all_of and_all (ClassMember R) Steps-separators class_member_shrinking

  inner_shrinking : IsShrinking (Inner R)
  inner_shrinking s z t no_methods = omega arith
  inner_shrinking s z t (some_methods {m = m} {u = u} e c) = omega (arith, Steps-separators s m u e, methods_shrinking m z t c)

  class_body_shrinking : (x : Sym) (c : ClassId) → IsShrinking (ClassBody R x c)
  class_body_shrinking x c s z t (a_class_body {m = m} {u = u} {l = l} h e) = omega (arith, inner_shrinking s m l h, Steps-row_of kind.End m z u e)

  form_shrinking : (p : Part) → IsShrinking (FormOf R p)
  form_shrinking parts.Group = group_shrinking
  form_shrinking parts.Array = array_shrinking
  form_shrinking parts.Hash = hash_shrinking
  form_shrinking parts.Index = index_shrinking
  form_shrinking parts.Choice = choice_shrinking
  form_shrinking parts.Unless = unless_shrinking
  form_shrinking (parts.Loop until) = looped_shrinking until
  form_shrinking parts.Begin = begun_shrinking
  form_shrinking parts.Minus = minus_shrinking
  form_shrinking parts.Bang = bang_shrinking
  form_shrinking parts.Not = negation_shrinking
  form_shrinking parts.Command = command_shrinking
  form_shrinking parts.Branch = argument_shrinking
  form_shrinking (parts.Interpolation i) = interpolation_shrinking i
  form_shrinking (parts.Block k) = block_shrinking k
  form_shrinking parts.Definition = definition_shrinking
  form_shrinking (parts.Class x c) = class_body_shrinking x c

  part_shrinking : (p : Part) → IsShrinking (PartOf R p)
  part_shrinking p = enclosed_shrinking (is_enclosed p) (FormOf R p) (form_shrinking p)

shrinking_inside : (d : ℕ) → NestedShrinking (inside d)
unfolding inside
shrinking_inside zero = record { part = λ p s z t h. absurd h; bracketed = λ s z t h. absurd h; ordered = λ r x s z t h. absurd h; value = λ b s z t h. absurd h; values = λ s z t h. absurd h }
shrinking_inside (suc d) = record {
  part = part_shrinking (inside d) (shrinking_inside d);
  bracketed = taking_shrinking true (Bracketed (inside d) listings.Call) (bracketed_shrinking (inside d) (shrinking_inside d) listings.Call);
  ordered = ordered_shrinking (inside d) (shrinking_inside d);
  value = value_shrinking (inside d) (shrinking_inside d);
  values = rights_shrinking (inside d) (shrinking_inside d);
}

shrinking_outside : (d : ℕ) → NestedShrinking (outside d)
unfolding outside
shrinking_outside zero = record { part = λ p s z t h. absurd h; bracketed = λ s z t h. absurd h; ordered = λ r x s z t h. absurd h; value = value_shrinking (inside zero) (shrinking_inside zero); values = rights_shrinking (inside zero) (shrinking_inside zero) }
shrinking_outside (suc d) = record {
  part = part_shrinking (outside d) (shrinking_outside d);
  bracketed = taking_shrinking true (Bracketed (outside d) listings.Call) (bracketed_shrinking (outside d) (shrinking_outside d) listings.Call);
  ordered = ordered_shrinking (outside d) (shrinking_outside d);
  value = value_shrinking (inside (suc d)) (shrinking_inside (suc d));
  values = rights_shrinking (inside (suc d)) (shrinking_inside (suc d));
}

pub shrinking_nested : (b : Bool) (d : ℕ) → NestedShrinking (nested b d)
shrinking_nested true d = shrinking_inside d
shrinking_nested false d = shrinking_outside d

-- ---- reading

-- what is left after each of these readers is no longer than what was there
pub record ReadersShrink (N : Readers) : Type 0 where
  pub binary : (level : ℕ) → Shrinks (binary_of N level)
  pub logical : (level : ℕ) → Shrinks (logical_of N level)
  pub argument : Shrinks (argument_of N)
  pub added : (k : Listed) (g : Given) → Shrinks (adding_of N k g)
  pub tailed : (x : Tail) (l : Reached) → Shrinks (tailed_of N x l)
  pub negation : Shrinks (negation_of N)
  pub expression : Shrinks (expression_of N)
  pub targeted : Shrinks (targeted_of N)
  pub modifying : (x : Modifier) (l : Tree) → Shrinks (modifying_of N x l)
  pub statement : Shrinks (statement_of N)
  pub statements : Shrinks (statements_of N)
  pub branch : Shrinks (branch_of N)
  pub clause : Shrinks (clause_of N)
  pub class_member : Shrinks (class_member_of N)

pub shrinks_nested : (b : Bool) (d : ℕ) → ReadersShrink (readers b d)
shrinks_nested b d =
    let N = readers b d in
    let R = nested b d in
    let sounds = sound_nested b d in
    let nests = shrinking_nested b d in
    record {
      binary = λ level. shrinks_by (binary_of N level) (Binary R level) (binary_sound N R sounds level) (binary_shrinking R nests level);
      logical = λ level. shrinks_by (logical_of N level) (Logical R level) (logical_sound N R sounds level) (logical_shrinking R nests level);
      argument = shrinks_by (argument_of N) (Argument R) (argument_sound N R sounds) (argument_shrinking R nests);
      added = λ k g. shrinks_by (adding_of N k g) (Adding R k g) (adding_sound N R sounds k g) (adding_shrinking R nests k g);
      tailed = λ x l s z t e. tailed_shrinking R nests x l s z t (tailed_sound N R sounds x l s z t e);
      negation = shrinks_by (negation_of N) (Negation R) (negation_sound N R sounds) (negation_shrinking R nests);
      expression = shrinks_by (expression_of N) (Expression R) (expression_sound N R sounds) (expression_shrinking R nests);
      targeted = shrinks_by (targeted_of N) (Targeted R) (targeted_sound N R sounds) (targeted_shrinking R nests);
      modifying = λ x l n z t e. modifying_shrinking R nests x l n z t (modifying_sound N R sounds x l n z t e);
      statement = shrinks_by (statement_of N) (Statement R) (statement_sound N R sounds) (statement_shrinking R nests);
      statements = shrinks_by (statements_of N) (Statements R) (statements_sound N R sounds) (statements_shrinking R nests);
      branch = shrinks_by (branch_of N) (Branch R) (branch_sound N R sounds) (branch_shrinking R nests);
      clause = shrinks_by (clause_of N) (Clause R) (clause_sound N R sounds) (clause_shrinking R nests);
      class_member = shrinks_by (class_member_of N) (ClassMember R) (class_member_sound N R sounds) (class_member_shrinking R nests);
    }
