use Rattle.std.proofs.Common.{true, List, map, [], ◌∷◌, ◌++◌, ◌-◌, ap, refl, sym, ◌∙◌, subst, arith}
use Rattle.rr_parser.specs.declared.word.WordKind.TheVariants as kind
use Rattle.rr_parser.specs.declared.word.Listed.TheVariants as listings
use Rattle.rr_parser.specs.Grammar.Fences.{within_head}
use Rattle.rr_parser.specs.Reading.Several.{targeted_of, targets_of}
use Rattle.std.proofs.lemmas.Result.{err_from_is_err_and}
use Rattle.rr_base.specs.declared.name.Sym.{Sym}
use Rattle.rr_tree.specs.Tree.{Tree, tree_at, text, nil, truth, symbol, field, global, itself, array, hash, listed}
use Rattle.rr_parser.specs.Grammar.Chains.{and_one, and_all}
use Rattle.rr_parser.specs.Grammar.Operators.{operator, infixed, connective, joined_by}
use Rattle.rr_parser.specs.Grammar.Sequences.{modifier, modified}
use Rattle.rr_parser.specs.Grammar.Control.{elsif}
use Rattle.rr_parser.specs.Reading.Answers.{Parse}
use Rattle.rr_parser.specs.Reading.Operators.{binary_on, binary_of, logical_on, logical_of}
use Rattle.rr_parser.specs.Grammar.Calls.{comma}
use Rattle.rr_parser.specs.Reading.Calls.{argument_of, another, adding_to, bracketed_of, array_of, hash_of, commanded_of}
use Rattle.rr_parser.specs.Reading.Sequences.{modifying_of, negation_of, expression_of, statement_of, statements_of, row, rows_of}
use Rattle.rr_parser.specs.Grammar.Bodies.{rescues}
use Rattle.rr_parser.specs.Grammar.Interpolations.{text_middle, and_piece}
use Rattle.rr_parser.specs.Reading.Interpolations.{pieces_of}
use Rattle.rr_parser.specs.Reading.Control.{branch_of, branches_of}
use Rattle.rr_parser.specs.Reading.Bodies.{clause_of, clauses_of}
use Rattle.rr_parser.specs.Reading.{readers}
use Rattle.rr_parser.specs.Meets.{Gives, GivesList, nodes, pairs, lists, givens, reaches, SetsDo, place}
use Rattle.rr_parser.proofs.Looks.{Steps-row}
use Rattle.rr_parser.proofs.Accesses.{Steps-member_row}
use Rattle.rr_parser.proofs.Joining.{joined_begin, joined_on, made_definition}
use Rattle.rr_parser.proofs.Listing.{Steps-another}
use Rattle.rr_parser.proofs.Steps.{Steps-comma, Steps-operator, Steps-connective, Steps-modifier, Steps-elsif, Steps-middle, Steps-rescues}
use Rattle.rr_parser.proofs.Shrinking.{shrinks_nested}
use Rattle.rr_parser.proofs.Keeping.{kept_within, kept_twice, kept_all, kept_pairs}
use Rattle.rr_parser.proofs.Following.{made_word, made_minus, made_bang, made_negation, gives_simple, fails_simple, gives_led, gives_behind_operand, fails_first_operand, gives_introduced, gives_rights, fails_rights}
use Rattle.rr_parser.proofs.Making.{made_over, stable_nodes, stable_pairs, goes_ends, goes_fails, goes_smaller, list_begins, list_on, operators_on, nested_part, nested_bracketed, nested_ordered, gives_outside}
use Rattle.rr_parser.proofs.Defining.{made_passed}
use Rattle.rr_parser.proofs.Alone.{binary_made, made_alone}
use Rattle.rr_parser.proofs.Levels.{infixed_at, infixed_up, infixed_first, joined_at, joined_up, joined_first, joined_refused, levels_begin, levels_refused, levels_on, levels_fail, levels_end, levels_unbound}
use Rattle.rr_parser.proofs.Choosing.{gives_question, fails_loop, made_alternatives, made_pair, made_branch, made_loop, made_choice, made_unless}
use Rattle.rr_parser.proofs.Spots.{made_block_send, gives_sent, made_element, made_attribute, made_setting, gives_ordered}
use Rattle.rr_parser.proofs.Gathering.{made_first_in_room, made_listed, made_listed_on, turns_fail, turns_smaller, turns_go, turns_end, made_key, made_added}
use Rattle.rr_parser.proofs.Calling.{made_taking, made_bracketed, made_argument_order, made_argument_command, gives_headed, made_behind, trail_fails, trail_smaller, trail_goes, trail_ends}
use Rattle.rr_parser.proofs.Commanded.{gives_commanded, fails_commanded}
use Rattle.rr_parser.proofs.Rescuing.{made_clause, made_rescued, made_ensured}
use Rattle.rr_parser.proofs.Interpolating.{pieces_begin, pieces_on, made_interpolation}
use Rattle.rr_parser.proofs.Assigning.{made_several, values_begin, gives_rights_outside, gives_rights_prefixed, made_modifying, fails_modifying}
use Rattle.rr_parser.specs.Grammar.Classes.{member_row}
use Rattle.rr_parser.specs.Reading.Classes.{class_member_of, methods_of}
use Rattle.rr_parser.proofs.Opening.{made_class}
use Rattle.rr_parser.proofs.parser.Parser.+parser.Goals as goal

pub members_on-returns-in_err-more : goal.members_on-returns-in_err-more
members_on-returns-in_err-more t c =
    let p = err_from_is_err_and c.from_residual.result c.from_residual.ensures.1 in
    rw (p.1, p.2) (turns_fail givens (another c.args.list) (adding_to (readers c.args.inside c.args.depth) c.args.list) (Steps-another c.args.list) (λ x l n z t e. (shrinks_nested c.args.inside c.args.depth).added c.args.list l n z t e) _ _ _ _ _ _ _ _ c.loop-after.invariant c.in-Some.ensures c.in_err-more.ensures)

pub members_on-loop-after-smaller : goal.members_on-loop-after-smaller
members_on-loop-after-smaller t c =
    turns_smaller givens (another c.args.list) (adding_to (readers c.args.inside c.args.depth) c.args.list) (Steps-another c.args.list) (λ x l n z t e. (shrinks_nested c.args.inside c.args.depth).added c.args.list l n z t e) _ _ c.loop-after.given c.in_ok-more.more _ _ _ _ c.in-Some.ensures c.in_ok-more.ensures

pub members_on-loop-after-preserved : goal.members_on-loop-after-preserved
members_on-loop-after-preserved t c =
    turns_go givens (another c.args.list) (adding_to (readers c.args.inside c.args.depth) c.args.list) (Steps-another c.args.list) (λ x l n z t e. (shrinks_nested c.args.inside c.args.depth).added c.args.list l n z t e) _ _ _ _ _ _ _ _ _ _ c.loop-after.invariant c.in-Some.ensures c.in_ok-more.ensures

pub members_on-returns : goal.members_on-returns
members_on-returns t c =
    turns_end givens (another c.args.list) (adding_to (readers c.args.inside c.args.depth) c.args.list) (Steps-another c.args.list) (λ x l n z t e. (shrinks_nested c.args.inside c.args.depth).added c.args.list l n z t e) _ _ _ _ _ c.loop-after.invariant c.in_default.ensures

pub rows-returns-in_err-next : goal.rows-returns-in_err-next
rows-returns-in_err-next t c =
    let p = err_from_is_err_and c.from_residual-in_err-next.result c.from_residual-in_err-next.ensures.1 in
    rw (p.1, p.2) (goes_fails (lists nodes) nodes row and_one (statement_of (readers c.args.inside c.args.depth)) Steps-row (shrinks_nested c.args.inside c.args.depth).statement _ _ _ _ _ _ _ _ c.loop-after.invariant c.in-Some.ensures c.in_err-next.ensures)

pub rows-loop-after-smaller : goal.rows-loop-after-smaller
rows-loop-after-smaller t c =
    goes_smaller (lists nodes) nodes row and_one (statement_of (readers c.args.inside c.args.depth)) Steps-row (shrinks_nested c.args.inside c.args.depth).statement _ _ _ _ _ _ _ c.in-Some.ensures c.in_ok-next.ensures

pub rows-loop-after-preserved : goal.rows-loop-after-preserved
rows-loop-after-preserved t c =
    list_on nodes stable_nodes row (statement_of (readers c.args.inside c.args.depth)) Steps-row (shrinks_nested c.args.inside c.args.depth).statement _ _ _ _ _ _ _ _ _ _ _ c.loop-after.invariant c.in-Some.ensures c.in_ok-next.ensures c.in_ok-push-2.ensures.items

pub rows-returns : goal.rows-returns
rows-returns t c =
    goes_ends (lists nodes) nodes row and_one (statement_of (readers c.args.inside c.args.depth)) Steps-row (shrinks_nested c.args.inside c.args.depth).statement _ _ _ _ _ c.loop-after.invariant c.in_default.ensures

pub branches-returns-in_err-next : goal.branches-returns-in_err-next
branches-returns-in_err-next t c =
    let p = err_from_is_err_and c.from_residual-in_err-next.result c.from_residual-in_err-next.ensures.1 in
    rw (p.1, p.2) (goes_fails (lists pairs) pairs elsif and_one (branch_of (readers c.args.inside c.args.depth)) Steps-elsif (shrinks_nested c.args.inside c.args.depth).branch _ _ _ _ _ _ _ _ c.loop-after.invariant c.in-Some.ensures c.in_err-next.ensures)

pub branches-loop-after-smaller : goal.branches-loop-after-smaller
branches-loop-after-smaller t c =
    goes_smaller (lists pairs) pairs elsif and_one (branch_of (readers c.args.inside c.args.depth)) Steps-elsif (shrinks_nested c.args.inside c.args.depth).branch _ _ _ _ _ _ _ c.in-Some.ensures c.in_ok-next.ensures

pub branches-loop-after-preserved : goal.branches-loop-after-preserved
branches-loop-after-preserved t c =
    list_on pairs stable_pairs elsif (branch_of (readers c.args.inside c.args.depth)) Steps-elsif (shrinks_nested c.args.inside c.args.depth).branch _ _ _ _ _ _ _ _ _ _ _ c.loop-after.invariant c.in-Some.ensures c.in_ok-next.ensures c.in_ok-push-2.ensures.items

pub branches-returns : goal.branches-returns
branches-returns t c =
    goes_ends (lists pairs) pairs elsif and_one (branch_of (readers c.args.inside c.args.depth)) Steps-elsif (shrinks_nested c.args.inside c.args.depth).branch _ _ _ _ _ c.loop-after.invariant c.in_default.ensures

pub statement-returns-in_err-condition : goal.statement-returns-in_err-condition
statement-returns-in_err-condition t c =
    let p = err_from_is_err_and c.from_residual-in_err-condition.result c.from_residual-in_err-condition.ensures.1 in
    rw (p.1, p.2) (turns_fail nodes modifier (modifying_of (readers c.args.inside c.args.depth)) Steps-modifier (λ x l n z t e. (shrinks_nested c.args.inside c.args.depth).modifying x l n z t e) _ _ _ _ _ _ _ _ c.loop-modifier.invariant c.in-Some.ensures
    (fails_modifying (readers c.args.inside c.args.depth) c.loop-modifier.self _ _ _ _ c.in_err-condition.ensures))

pub statement-loop-modifier-smaller : goal.statement-loop-modifier-smaller
statement-loop-modifier-smaller t c =
    goes_smaller nodes nodes modifier modified (expression_of (readers c.args.inside c.args.depth)) Steps-modifier (shrinks_nested c.args.inside c.args.depth).expression _ _ _ _ _ _ _ c.in-Some.ensures c.in_ok-condition.ensures

pub statement-loop-modifier-preserved : goal.statement-loop-modifier-preserved
statement-loop-modifier-preserved t c =
    turns_go nodes modifier (modifying_of (readers c.args.inside c.args.depth)) Steps-modifier (λ x l n z t e. (shrinks_nested c.args.inside c.args.depth).modifying x l n z t e) _ _ _ _ _ _ _ _ _ _ c.loop-modifier.invariant c.in-Some.ensures
    (made_modifying (readers c.args.inside c.args.depth) _ _ _ _ _ _ _ _ _ c.loop-modifier.invariant.there c.in_ok-condition.ensures c.in_ok-statement-2.ensures)

pub statement-returns : goal.statement-returns
statement-returns t c =
    turns_end nodes modifier (modifying_of (readers c.args.inside c.args.depth)) Steps-modifier (λ x l n z t e. (shrinks_nested c.args.inside c.args.depth).modifying x l n z t e) _ _ _ _ _ c.loop-modifier.invariant c.in_default.ensures

pub several_on-returns : goal.several_on-returns
several_on-returns t c =
    made_several (readers c.args.inside c.args.depth) c.args.self.now c.targets.new.self c.right_sides.new.self c.put_several.new.self c.args.first c.in_ok-targets.targets.items c.deref.result.now _ _ _ _ _ _ c.requires c.deref.ensures.value
    c.in_ok-targets.ensures c.in-Some.ensures c.in_ok-value.ensures c.in_ok-put_several.ensures

pub targets-returns-in_err-next : goal.targets-returns-in_err-next
targets-returns-in_err-next t c =
    let p = err_from_is_err_and c.from_residual-in_err-next.result c.from_residual-in_err-next.ensures.1 in
    rw (p.1, p.2) (goes_fails (lists nodes) nodes comma and_one (targeted_of (readers c.args.inside c.args.depth)) Steps-comma (shrinks_nested c.args.inside c.args.depth).targeted _ _ _ _ _ _ _ _ c.loop-after.invariant c.in-Some.ensures c.in_err-next.ensures)

pub targets-loop-after-smaller : goal.targets-loop-after-smaller
targets-loop-after-smaller t c =
    goes_smaller (lists nodes) nodes comma and_one (targeted_of (readers c.args.inside c.args.depth)) Steps-comma (shrinks_nested c.args.inside c.args.depth).targeted _ _ _ _ _ _ _ c.in-Some.ensures c.in_ok-next.ensures

pub targets-loop-after-preserved : goal.targets-loop-after-preserved
targets-loop-after-preserved t c =
    list_on nodes stable_nodes comma (targeted_of (readers c.args.inside c.args.depth)) Steps-comma (shrinks_nested c.args.inside c.args.depth).targeted _ _ _ _ _ _ _ _ _ _ _ c.loop-after.invariant c.in-Some.ensures c.in_ok-next.ensures c.in_ok-push-2.ensures.items

pub targets-returns : goal.targets-returns
targets-returns t c =
    goes_ends (lists nodes) nodes comma and_one (targeted_of (readers c.args.inside c.args.depth)) Steps-comma (shrinks_nested c.args.inside c.args.depth).targeted _ _ _ _ _ c.loop-after.invariant c.in_default.ensures

pub right_sides-returns-then-not-inside : goal.right_sides-returns-then-not-inside
right_sides-returns-then-not-inside t c = gives_rights_outside c.args.self.now c.rights.new.self c.rights.result c.args.inside c.args.depth _ c.if-not-inside.true c.rights.ensures

pub arguments_from-loop-after-init : goal.arguments_from-loop-after-init
arguments_from-loop-after-init t c = values_begin (readers c.args.inside c.args.depth) _ c.args.first _ _ c.requires (c.in_ok-push.ensures.items ∙ ap (λ l. l ++ c.args.first ∷ []) c.new-items.ensures.items)

pub arguments_from-returns-in_err-next : goal.arguments_from-returns-in_err-next
arguments_from-returns-in_err-next t c =
    let p = err_from_is_err_and c.from_residual-in_err-next.result c.from_residual-in_err-next.ensures.1 in
    rw (p.1, p.2) (goes_fails (lists nodes) nodes comma and_one (argument_of (readers c.args.inside c.args.depth)) Steps-comma (shrinks_nested c.args.inside c.args.depth).argument _ _ _ _ _ _ _ _ c.loop-after.invariant c.in-Some.ensures c.in_err-next.ensures)

pub arguments_from-loop-after-smaller : goal.arguments_from-loop-after-smaller
arguments_from-loop-after-smaller t c =
    goes_smaller (lists nodes) nodes comma and_one (argument_of (readers c.args.inside c.args.depth)) Steps-comma (shrinks_nested c.args.inside c.args.depth).argument _ _ _ _ _ _ _ c.in-Some.ensures c.in_ok-next.ensures

pub arguments_from-loop-after-preserved : goal.arguments_from-loop-after-preserved
arguments_from-loop-after-preserved t c =
    list_on nodes stable_nodes comma (argument_of (readers c.args.inside c.args.depth)) Steps-comma (shrinks_nested c.args.inside c.args.depth).argument _ _ _ _ _ _ _ _ _ _ _ c.loop-after.invariant c.in-Some.ensures c.in_ok-next.ensures c.in_ok-push-2.ensures.items

pub arguments_from-returns : goal.arguments_from-returns
arguments_from-returns t c =
    goes_ends (lists nodes) nodes comma and_one (argument_of (readers c.args.inside c.args.depth)) Steps-comma (shrinks_nested c.args.inside c.args.depth).argument _ _ _ _ _ c.loop-after.invariant c.in_default.ensures

pub connected-returns-in_err-right : goal.connected-returns-in_err-right
connected-returns-in_err-right t c =
    let p = err_from_is_err_and c.from_residual.result c.from_residual.ensures.1 in
    rw (p.1, p.2) (goes_fails nodes nodes (connective 3) joined_by (negation_of (readers c.args.inside c.args.depth)) (Steps-connective 3) (shrinks_nested c.args.inside c.args.depth).negation _ _ _ _ _ _ _ _ c.loop-connective.invariant c.in-Some.ensures c.in_err-right.ensures)

pub connected-loop-connective-smaller : goal.connected-loop-connective-smaller
connected-loop-connective-smaller t c =
    goes_smaller nodes nodes (connective 3) joined_by (negation_of (readers c.args.inside c.args.depth)) (Steps-connective 3) (shrinks_nested c.args.inside c.args.depth).negation _ _ _ _ _ _ _ c.in-Some.ensures c.in_ok-right.ensures

pub connected-loop-connective-preserved : goal.connected-loop-connective-preserved
connected-loop-connective-preserved t c =
    operators_on (connective 3) joined_by (negation_of (readers c.args.inside c.args.depth)) (Steps-connective 3) (shrinks_nested c.args.inside c.args.depth).negation _ _ _ _ _ _ _ _ _ _ _ _ c.loop-connective.invariant c.in-Some.ensures c.in_ok-right.ensures c.in_ok-left.ensures

pub connected-returns : goal.connected-returns
connected-returns t c =
    goes_ends nodes nodes (connective 3) joined_by (negation_of (readers c.args.inside c.args.depth)) (Steps-connective 3) (shrinks_nested c.args.inside c.args.depth).negation _ _ _ _ _ c.loop-connective.invariant c.in_default.ensures

pub infixed_on-returns-in_err-right : goal.infixed_on-returns-in_err-right
infixed_on-returns-in_err-right t c =
    let p = err_from_is_err_and c.from_residual.result c.from_residual.ensures.1 in
    rw (p.1, p.2) (goes_fails nodes nodes (operator c.args.level) infixed (binary_of (readers c.args.inside c.args.depth) (c.args.level - 1)) (Steps-operator c.args.level) ((shrinks_nested c.args.inside c.args.depth).binary (c.args.level - 1)) _ _ _ _ _ _ _ _ c.loop-operator.invariant.goes c.in-Some.ensures c.in_err-right.ensures)

pub infixed_on-loop-operator-smaller : goal.infixed_on-loop-operator-smaller
infixed_on-loop-operator-smaller t c =
    goes_smaller nodes nodes (operator c.args.level) infixed (binary_of (readers c.args.inside c.args.depth) (c.args.level - 1)) (Steps-operator c.args.level) ((shrinks_nested c.args.inside c.args.depth).binary (c.args.level - 1)) _ _ _ _ _ _ _ c.in-Some.ensures c.in_ok-right.ensures

pub infixed_on-loop-operator-preserved : goal.infixed_on-loop-operator-preserved
infixed_on-loop-operator-preserved t c = record {
  above = c.loop-operator.invariant.above;
  at_most = c.loop-operator.invariant.at_most;
  goes = operators_on (operator c.args.level) infixed (binary_of (readers c.args.inside c.args.depth) (c.args.level - 1)) (Steps-operator c.args.level) ((shrinks_nested c.args.inside c.args.depth).binary (c.args.level - 1)) _ _ _ _ _ _ _ _ _ _ _ _ c.loop-operator.invariant.goes c.in-Some.ensures c.in_ok-right.ensures c.in_ok-left.ensures;
}

pub infixed_on-returns : goal.infixed_on-returns
infixed_on-returns t c =
    goes_ends nodes nodes (operator c.args.level) infixed (binary_of (readers c.args.inside c.args.depth) (c.args.level - 1)) (Steps-operator c.args.level) ((shrinks_nested c.args.inside c.args.depth).binary (c.args.level - 1)) _ _ _ _ _ c.loop-operator.invariant.goes c.in_default.ensures

pub ternary_on-returns-then-not-goes_on : goal.ternary_on-returns-then-not-goes_on
ternary_on-returns-then-not-goes_on t c =
    made_alone (readers c.args.inside c.args.depth) (shrinks_nested c.args.inside c.args.depth) c.args.self.now c.args.left c.args.words.now c.requires (c.goes_on.ensures.operators c.if-not-goes_on.true)
    (c.goes_on.ensures.connectives c.if-not-goes_on.true) (c.goes_on.ensures.question c.if-not-goes_on.true)

pub binary-returns-then-not-binds : goal.binary-returns-then-not-binds
binary-returns-then-not-binds t c =
    binary_made (readers c.args.inside c.args.depth) (shrinks_nested c.args.inside c.args.depth) c.args.level c.args.self.now c.minus.new.self _ _ _ c.in_ok-left.ensures (c.binds.ensures c.if-not-binds.true)

pub simple-returns-in_err-command : goal.simple-returns-in_err-command
simple-returns-in_err-command t c =
    let p = err_from_is_err_and c.from_residual.result c.from_residual.ensures.1 in
    rw (p.1, p.2) (fails_commanded (readers c.args.inside c.args.depth) c.args.self.now _ _ _ c.in_default.ensures c.in-Some-command_head.ensures _ c.in_err-command.ensures)

pub simple-returns-in-Some-command_head : goal.simple-returns-in-Some-command_head
simple-returns-in-Some-command_head t c =
    gives_commanded (readers c.args.inside c.args.depth) c.args.self.now _ _ _ c.in_default.ensures c.in-Some-command_head.ensures c.headed.new.self c.connected.new.self _ _ c.connected.result c.in_ok-command.ensures c.connected.ensures

pub rights-returns-then-is_prefixed : goal.rights-returns-then-is_prefixed
rights-returns-then-is_prefixed t c =
    gives_rights_prefixed (readers c.args.inside c.args.depth) c.args.self.now c.value.new.self c.right.new.self _ _ _ c.is_prefixed.result c.right.result c.in_default.ensures c.is_prefixed.ensures c.if-is_prefixed.true c.in_ok-first.ensures c.right.ensures

pub joined_on-returns-in_err-right : goal.joined_on-returns-in_err-right
joined_on-returns-in_err-right t c =
    let p = err_from_is_err_and c.from_residual.result c.from_residual.ensures.1 in
    rw (p.1, p.2) (goes_fails nodes nodes (connective c.args.level) joined_by (logical_of (readers c.args.inside c.args.depth) (c.args.level - 1)) (Steps-connective c.args.level) ((shrinks_nested c.args.inside c.args.depth).logical (c.args.level - 1)) _ _ _ _ _ _ _ _ c.loop-connective.invariant.goes c.in-Some.ensures c.in_err-right.ensures)

pub joined_on-loop-connective-smaller : goal.joined_on-loop-connective-smaller
joined_on-loop-connective-smaller t c =
    goes_smaller nodes nodes (connective c.args.level) joined_by (logical_of (readers c.args.inside c.args.depth) (c.args.level - 1)) (Steps-connective c.args.level) ((shrinks_nested c.args.inside c.args.depth).logical (c.args.level - 1)) _ _ _ _ _ _ _ c.in-Some.ensures c.in_ok-right.ensures

pub joined_on-loop-connective-preserved : goal.joined_on-loop-connective-preserved
joined_on-loop-connective-preserved t c = record {
  above = c.loop-connective.invariant.above;
  at_most = c.loop-connective.invariant.at_most;
  goes = operators_on (connective c.args.level) joined_by (logical_of (readers c.args.inside c.args.depth) (c.args.level - 1)) (Steps-connective c.args.level) ((shrinks_nested c.args.inside c.args.depth).logical (c.args.level - 1)) _ _ _ _ _ _ _ _ _ _ _ _ c.loop-connective.invariant.goes c.in-Some.ensures c.in_ok-right.ensures c.in_ok-left.ensures;
}

pub joined_on-returns : goal.joined_on-returns
joined_on-returns t c =
    goes_ends nodes nodes (connective c.args.level) joined_by (logical_of (readers c.args.inside c.args.depth) (c.args.level - 1)) (Steps-connective c.args.level) ((shrinks_nested c.args.inside c.args.depth).logical (c.args.level - 1)) _ _ _ _ _ c.loop-connective.invariant.goes c.in_default.ensures

pub binary_on-loop-under-init : goal.binary_on-loop-under-init
binary_on-loop-under-init t c =
    let N = readers c.args.inside c.args.depth in
    record {
      at_most = c.requires.level;
      under = omega arith;
      goes = levels_begin (infixed_at N) (binary_on N) (infixed_up N) c.args.level c.args.self.now c.args.self.now _ c.args.words.now c.args.words.now c.args.first (infixed_first N c.args.self.now c.args.first c.args.words.now c.requires.first);
    }

pub binary_on-returns-then-not-binds : goal.binary_on-returns-then-not-binds
binary_on-returns-then-not-binds t c =
    let N = readers c.args.inside c.args.depth in
    levels_unbound N (shrinks_nested c.args.inside c.args.depth) c.args.level c.loop-under.under (omega arith) c.args.self.now c.loop-under.self c.loop-under.left _ _ c.loop-under.invariant.goes (c.binds.ensures c.if-not-binds.true)

pub binary_on-returns-in_err-made : goal.binary_on-returns-in_err-made
binary_on-returns-in_err-made t c =
    let N = readers c.args.inside c.args.depth in
    let p = err_from_is_err_and c.from_residual.result c.from_residual.ensures.1 in
    rw (p.1, p.2) (levels_fail (infixed_at N) (binary_on N) (infixed_up N) c.args.level c.loop-under.under (omega arith) c.args.self.now c.loop-under.self c.loop-under.left _ _ c.loop-under.invariant.goes _ c.in_err-made.ensures)

pub binary_on-loop-under-preserved : goal.binary_on-loop-under-preserved
binary_on-loop-under-preserved t c =
    let N = readers c.args.inside c.args.depth in
    record {
      at_most = c.loop-under.invariant.at_most;
      under = omega arith;
      goes = levels_on (infixed_at N) (binary_on N) (infixed_up N) c.args.level c.loop-under.under (omega arith) c.args.self.now c.loop-under.self c.loop-under.left _ _ c.loop-under.invariant.goes _ _ _ c.in_ok-made.ensures;
    }

pub binary_on-returns : goal.binary_on-returns
binary_on-returns t c =
    let N = readers c.args.inside c.args.depth in
    levels_end (infixed_at N) (binary_on N) (infixed_up N) c.args.level c.loop-under.under (omega arith) c.args.self.now c.loop-under.self c.loop-under.left _ _ c.loop-under.invariant.goes

pub logical_on-returns-in_err-left : goal.logical_on-returns-in_err-left
logical_on-returns-in_err-left t c =
    let N = readers c.args.inside c.args.depth in
    let p = err_from_is_err_and c.from_residual.result c.from_residual.ensures.1 in
    rw (p.1, p.2) (levels_refused (joined_at N) (logical_on N) (joined_up N) c.args.level _ _ _ (joined_refused N _ _ _ c.in_err-left.ensures))

pub logical_on-loop-under-init : goal.logical_on-loop-under-init
logical_on-loop-under-init t c =
    let N = readers c.args.inside c.args.depth in
    record {
      at_most = c.requires.level;
      under = omega arith;
      goes = levels_begin (joined_at N) (logical_on N) (joined_up N) c.args.level c.args.self.now _ _ c.args.words.now _ _ (joined_first N _ _ _ _ c.args.words.now _ c.in_ok-left.ensures);
    }

pub logical_on-returns-in_err-made : goal.logical_on-returns-in_err-made
logical_on-returns-in_err-made t c =
    let N = readers c.args.inside c.args.depth in
    let p = err_from_is_err_and c.from_residual-in_err-made.result c.from_residual-in_err-made.ensures.1 in
    rw (p.1, p.2) (levels_fail (joined_at N) (logical_on N) (joined_up N) c.args.level c.loop-under.under (omega arith) c.args.self.now c.loop-under.self c.loop-under.left _ _ c.loop-under.invariant.goes _ c.in_err-made.ensures)

pub logical_on-loop-under-preserved : goal.logical_on-loop-under-preserved
logical_on-loop-under-preserved t c =
    let N = readers c.args.inside c.args.depth in
    record {
      at_most = c.loop-under.invariant.at_most;
      under = omega arith;
      goes = levels_on (joined_at N) (logical_on N) (joined_up N) c.args.level c.loop-under.under (omega arith) c.args.self.now c.loop-under.self c.loop-under.left _ _ c.loop-under.invariant.goes _ _ _ c.in_ok-made.ensures;
    }

pub logical_on-returns : goal.logical_on-returns
logical_on-returns t c =
    let N = readers c.args.inside c.args.depth in
    levels_end (joined_at N) (logical_on N) (joined_up N) c.args.level c.loop-under.under (omega arith) c.args.self.now c.loop-under.self c.loop-under.left _ _ c.loop-under.invariant.goes

pub part-returns : goal.part-returns
part-returns t c =
    subst (λ p. Gives c.args.self.now c.part_within.new.self c.part_within.result (p c.args.part (place c.args.self.now c.args.words.now)))
    (sym (nested_part c.args.inside c.args.depth (omega arith))) c.part_within.ensures

pub inner_arguments-returns : goal.inner_arguments-returns
inner_arguments-returns t c =
    subst (λ (p : Parse (List Tree)). GivesList c.args.self.now c.call_arguments.new.self c.call_arguments.result (p (place c.args.self.now c.args.words.now)))
    (sym (nested_bracketed c.args.inside c.args.depth (omega arith))) c.call_arguments.ensures

pub inner_order-returns : goal.inner_order-returns
inner_order-returns t c =
    subst (λ (p : Tree → Sym → Parse Tree). Gives c.args.self.now c.ordered.new.self c.ordered.result (p (tree_at c.args.self.now.nodes.items c.args.receiver) c.args.name (place c.args.self.now c.args.words.now)))
    (sym (nested_ordered c.args.inside c.args.depth (omega arith))) c.ordered.ensures

pub alternatives-returns : goal.alternatives-returns
alternatives-returns t c =
    made_alternatives (readers c.args.inside c.args.depth) c.args.self.now c.part.new.self c.part-2.new.self c.put.new.self _ _ _ _ _ _ _ _ c.requires c.in_ok-then.ensures c.in-Some.ensures c.in_ok-otherwise.ensures c.in_ok-put.ensures.puts

pub equality_on-returns : goal.equality_on-returns
equality_on-returns t c =
    made_pair (readers c.args.inside c.args.depth) c.args.self.now c.binary_on.new.self c.binary.new.self c.put_infix.new.self _ _ _ _ _ _ _ _ _ c.in_ok-left.ensures c.in-Some.ensures c.in_ok-right.ensures c.in_ok-put_infix.ensures

pub branch-returns : goal.branch-returns
branch-returns t c =
    made_branch (readers c.args.inside c.args.depth) c.args.self.now c.expression.new.self c.statements.new.self _ _ _ _ _ _ c.in_ok-condition.ensures c.in-Some.ensures c.in_ok-then.ensures

pub choice-returns-in_ok-put_choices-in-Some : goal.choice-returns-in_ok-put_choices-in-Some
choice-returns-in_ok-put_choices-in-Some t c =
    made_choice (readers c.args.inside c.args.depth) c.args.self.now c.branches.new.self c.otherwise.new.self c.put_choices.new.self _ _ _ _ _ _ _ c.in_ok-branches.ensures c.in_ok-otherwise.ensures c.in-Some.ensures c.in_ok-put_choices-in-Some.ensures

pub unless-returns-in_ok-put-in-Some : goal.unless-returns-in_ok-put-in-Some
unless-returns-in_ok-put-in-Some t c =
    made_unless (readers c.args.inside c.args.depth) c.args.self.now c.branch-self.new.self c.otherwise.new.self c.put.new.self _ _ _ _ _ _ _ _ c.in_ok-condition.ensures c.in_ok-otherwise.ensures c.in-Some.ensures c.in_ok-put-in-Some.ensures.puts

pub repeat-returns : goal.repeat-returns
repeat-returns t c =
    made_loop (readers c.args.inside c.args.depth) c.args.until c.args.self.now c.condition.new.self c.statements.new.self c.put.new.self _ _ _ _ _ _ _ _ c.in_ok-condition.ensures c.in-Some.ensures c.in_ok-body.ensures c.in-Some-behind.ensures c.in_ok-put.ensures.puts

pub right_side-returns-then-not-inside : goal.right_side-returns-then-not-inside
right_side-returns-then-not-inside t c = gives_outside c.args.self.now c.value.new.self c.value.result c.args.inside c.args.depth c.args.commands _ c.if-not-inside.true c.value.ensures

pub postfix-returns-in_err-made : goal.postfix-returns-in_err-made
postfix-returns-in_err-made t c =
    let p = err_from_is_err_and c.from_residual-in_err-made.result c.from_residual-in_err-made.ensures.1 in
    rw (p.1, p.2) (trail_fails (readers c.args.inside c.args.depth) (shrinks_nested c.args.inside c.args.depth) _ _ _ _ _ _ _ _ c.loop-tail.invariant c.in-Some.ensures c.in_err-made.ensures)

pub postfix-loop-tail-smaller : goal.postfix-loop-tail-smaller
postfix-loop-tail-smaller t c = trail_smaller (readers c.args.inside c.args.depth) (shrinks_nested c.args.inside c.args.depth) _ _ _ _ _ _ _ _ c.in-Some.ensures c.in_ok-made.ensures

pub postfix-loop-tail-preserved : goal.postfix-loop-tail-preserved
postfix-loop-tail-preserved t c = trail_goes (readers c.args.inside c.args.depth) (shrinks_nested c.args.inside c.args.depth) _ _ _ _ _ _ _ _ _ _ c.loop-tail.invariant c.in-Some.ensures c.in_ok-made.ensures

pub postfix-returns : goal.postfix-returns
postfix-returns t c = trail_ends (readers c.args.inside c.args.depth) (shrinks_nested c.args.inside c.args.depth) _ _ _ _ _ c.loop-tail.invariant c.in_default.ensures

pub element-returns : goal.element-returns
element-returns t c =
    made_element (readers c.args.inside c.args.depth) c.args.self.now c.part.new.self c.put.new.self _ _ _ _ _ c.requires c.in_ok-index.ensures c.in_ok-node.ensures.puts

pub behind_key-returns : goal.behind_key-returns
behind_key-returns t c =
    made_key (readers c.args.inside c.args.depth) c.args.only c.args.self.now c.value.new.self c.put.new.self _ _ _ _ _ _ c.requires c.in-Some.ensures c.in_ok-value.ensures c.in_ok-put.ensures.puts

pub block_behind-returns : goal.block_behind-returns
block_behind-returns t c =
    made_behind (readers c.args.inside c.args.depth) c.args.self.now c.part.new.self c.put.new.self _ _ _ _ _ _ c.requires c.in_ok-block.ensures c.in_ok-put.ensures.puts

pub sent_arguments-returns : goal.sent_arguments-returns
sent_arguments-returns t c =
    gives_sent (readers c.args.inside c.args.depth) c.args.self.now c.inner_arguments.new.self c.put_send.new.self c.blocked.new.self _ _ _ c.in_ok-items.items.items c.deref.result.now _ _ c.blocked.result c.deref.ensures.value c.requires c.in_ok-items.ensures c.in_ok-call.ensures
    c.blocked.ensures

pub headed-returns : goal.headed-returns
headed-returns t c =
    gives_headed (readers c.args.inside c.args.depth) c.args.self.now c.arguments.new.self c.put_command.new.self c.blocked.new.self _ c.args.head c.in_ok-items.items.items c.in_ok-items.items.items _ _ c.blocked.result refl c.in_ok-items.ensures
    c.in_ok-command.ensures c.blocked.ensures

pub clauses-returns-in_err-next : goal.clauses-returns-in_err-next
clauses-returns-in_err-next t c =
    let p = err_from_is_err_and c.from_residual-in_err-next.result c.from_residual-in_err-next.ensures.1 in
    rw (p.1, p.2) (goes_fails (lists nodes) nodes rescues and_one (clause_of (readers c.args.inside c.args.depth)) Steps-rescues ((shrinks_nested c.args.inside c.args.depth).clause) _ _ _ _ _ _ _ _ c.loop-after.invariant c.in-Some.ensures c.in_err-next.ensures)

pub clauses-loop-after-smaller : goal.clauses-loop-after-smaller
clauses-loop-after-smaller t c =
    goes_smaller (lists nodes) nodes rescues and_one (clause_of (readers c.args.inside c.args.depth)) Steps-rescues ((shrinks_nested c.args.inside c.args.depth).clause) _ _ _ _ _ _ _ c.in-Some.ensures c.in_ok-next.ensures

pub clauses-loop-after-preserved : goal.clauses-loop-after-preserved
clauses-loop-after-preserved t c =
    list_on nodes stable_nodes rescues (clause_of (readers c.args.inside c.args.depth)) Steps-rescues ((shrinks_nested c.args.inside c.args.depth).clause) _ _ _ _ _ _ _ _ _ _ _ c.loop-after.invariant c.in-Some.ensures c.in_ok-next.ensures c.in_ok-push-2.ensures.items

pub clauses-returns : goal.clauses-returns
clauses-returns t c =
    goes_ends (lists nodes) nodes rescues and_one (clause_of (readers c.args.inside c.args.depth)) Steps-rescues ((shrinks_nested c.args.inside c.args.depth).clause) _ _ _ _ _ c.loop-after.invariant c.in_default.ensures

pub clause-returns : goal.clause-returns
clause-returns t c =
    made_clause (readers c.args.inside c.args.depth) c.args.self.now c.classes.new.self c.in_ok-classes.classes.items _ _ _ _ c.in_ok-classes.ensures c.in_ok-caught.ensures c.catch.new.self _ c.in_ok-target.ensures c.statements.new.self c.put_clause.new.self
    c.deref.result.now _ _ _ c.deref.ensures.value c.in_ok-body.ensures c.in_ok-put_clause.ensures

pub rescued-returns : goal.rescued-returns
rescued-returns t c =
    made_rescued (readers c.args.inside c.args.depth) c.args.self.now c.statements.new.self _ _ _ c.in_ok-body.ensures _ c.in-Some.ensures c.clauses.new.self c.in_ok-clauses.clauses.items _ c.in_ok-clauses.ensures c.otherwise.new.self c.put_rescue.new.self
    c.deref.result.now _ _ _ c.deref.ensures.value c.in_ok-otherwise.ensures c.in_ok-put_rescue.ensures

pub body-returns : goal.body-returns
body-returns t c =
    made_ensured (readers c.args.inside c.args.depth) c.args.self.now c.rescued.new.self _ _ _ c.in_ok-body.ensures _ c.in-Some.ensures c.statements.new.self c.put.new.self _ _ _ c.in_ok-last.ensures c.in_ok-put.ensures.puts

pub pieces-returns-in_err-next : goal.pieces-returns-in_err-next
pieces-returns-in_err-next t c =
    let p = err_from_is_err_and c.from_residual-in_err-next.result c.from_residual-in_err-next.ensures.1 in
    rw (p.1, p.2) (goes_fails (lists nodes) nodes text_middle and_piece (statements_of (readers c.args.inside c.args.depth)) Steps-middle (shrinks_nested c.args.inside c.args.depth).statements _ _ _ _ _ _ _ _ c.loop-middle.invariant c.in-Some.ensures c.in_err-next.ensures)

pub pieces-loop-middle-smaller : goal.pieces-loop-middle-smaller
pieces-loop-middle-smaller t c =
    goes_smaller (lists nodes) nodes text_middle and_piece (statements_of (readers c.args.inside c.args.depth)) Steps-middle (shrinks_nested c.args.inside c.args.depth).statements _ _ _ _ _ _ _ c.in-Some.ensures c.in_ok-next.ensures

pub pieces-returns : goal.pieces-returns
pieces-returns t c =
    goes_ends (lists nodes) nodes text_middle and_piece (statements_of (readers c.args.inside c.args.depth)) Steps-middle (shrinks_nested c.args.inside c.args.depth).statements _ _ _ _ _ c.loop-middle.invariant c.in_default.ensures

pub pieces-loop-middle-init : goal.pieces-loop-middle-init
unfolding pieces_of
pieces-loop-middle-init t c =
    pieces_begin (statements_of (readers c.args.inside c.args.depth)) _ _ _ _ _ _ _ _ _ _ _ c.in_ok-first.ensures c.in_ok-piece.ensures.puts c.new-items.ensures.items c.in_ok-push.ensures.items c.in_ok-push-2.ensures.items

pub pieces-loop-middle-preserved : goal.pieces-loop-middle-preserved
pieces-loop-middle-preserved t c =
    pieces_on (statements_of (readers c.args.inside c.args.depth)) (shrinks_nested c.args.inside c.args.depth).statements _ _ _ _ _ _ _ _ _ _ _ _ _ _ c.loop-middle.invariant c.in-Some.ensures c.in_ok-next.ensures c.in_ok-piece-2.ensures.puts
    c.in_ok-push-3.ensures.items c.in_ok-push-4.ensures.items

pub interpolation-returns : goal.interpolation-returns
interpolation-returns t c =
    made_interpolation (readers c.args.inside c.args.depth) c.args.head c.args.self.now c.pieces.new.self c.in_ok-items.items.items _ _ c.in_ok-items.ensures _ _ c.in-Some.ensures c.put.new.self _ c.in_ok-piece.ensures.puts c.deref.result.now
    (c.deref.ensures.value ∙ c.in_ok-push.ensures.items) c.put_interpolation.new.self _ c.in_ok-put_interpolation.ensures

pub sent-returns-in_default : goal.sent-returns-in_default
sent-returns-in_default t c =
    made_attribute (readers c.args.inside c.args.depth) c.args.self.now c.put_send.new.self _ _ _ _ c.requires c.in_ok-call.ensures c.in_default.ensures

pub setting-returns : goal.setting-returns
setting-returns t c =
    made_setting (readers c.args.inside c.args.depth) c.args.commands c.args.self.now c.right_side.new.self c.put_setting.new.self _ _ _ c.args.spot _ _ _ _ c.requires.target c.requires.spot c.in-Some.ensures c.in_ok-value.ensures c.in_ok-put_setting.ensures

pub ordered-returns : goal.ordered-returns
ordered-returns t c =
    gives_ordered (readers c.args.inside c.args.depth) c.args.self.now c.arguments.new.self c.put_send.new.self c.blocked.new.self _ _ c.args.name c.in_ok-items.items.items c.deref.result.now _ _ c.blocked.result c.deref.ensures.value c.requires c.in_ok-items.ensures
    c.in_ok-command.ensures c.blocked.ensures

pub added-returns : goal.added-returns
added-returns t c =
    made_added (readers c.args.inside c.args.depth) c.args.list c.args.self.now c.member.new.self c.args.given _ _ _ _ _ c.requires (c.only_pairs-only.ensures c.args.self.now.nodes.items) c.in_ok-member.ensures c.in_ok-more.ensures

pub class_member-returns : goal.class_member-returns
class_member-returns t c =
    made_definition (readers c.args.inside c.args.depth) c.args.self.now c.part.new.self _ _ _ _ _ c.in_default.ensures c.in-Some-behind.ensures c.in_ok-method.ensures (c.in_ok-push.ensures.items ∙ ap (λ l. l ++ c.in_ok-method.method ∷ []) c.new-methods.ensures.items)

pub methods-loop-after-init : goal.methods-loop-after-init
unfolding methods_of
methods-loop-after-init t c = joined_begin member_row (class_member_of (readers c.args.inside c.args.depth)) Steps-member_row (shrinks_nested c.args.inside c.args.depth).class_member _ _ _ _ _ c.in_ok-methods.ensures

pub methods-returns-in_err-more : goal.methods-returns-in_err-more
methods-returns-in_err-more t c =
    let p = err_from_is_err_and c.from_residual-in_err-more.result c.from_residual-in_err-more.ensures.1 in
    rw (p.1, p.2) (goes_fails (lists nodes) (lists nodes) member_row and_all (class_member_of (readers c.args.inside c.args.depth)) Steps-member_row (shrinks_nested c.args.inside c.args.depth).class_member _ _ _ _ _ _ _ _ c.loop-after.invariant c.in-Some.ensures c.in_err-more.ensures)

pub methods-loop-after-smaller : goal.methods-loop-after-smaller
methods-loop-after-smaller t c =
    goes_smaller (lists nodes) (lists nodes) member_row and_all (class_member_of (readers c.args.inside c.args.depth)) Steps-member_row (shrinks_nested c.args.inside c.args.depth).class_member _ _ _ _ _ _ _ c.in-Some.ensures c.in_ok-more.ensures

pub methods-loop-after-preserved : goal.methods-loop-after-preserved
methods-loop-after-preserved t c =
    joined_on member_row (class_member_of (readers c.args.inside c.args.depth)) Steps-member_row (shrinks_nested c.args.inside c.args.depth).class_member _ _ _ _ _ _ _ _ _ _ _ c.loop-after.invariant c.in-Some.ensures c.in_ok-more.ensures
    (c.in_ok-extend_from_slice.ensures.items ∙ ap (λ l. c.loop-after.methods.items ++ l) c.deref.ensures.value)

pub methods-returns : goal.methods-returns
methods-returns t c =
    goes_ends (lists nodes) (lists nodes) member_row and_all (class_member_of (readers c.args.inside c.args.depth)) Steps-member_row (shrinks_nested c.args.inside c.args.depth).class_member _ _ _ _ _ c.loop-after.invariant c.in_default.ensures

pub class_body-returns : goal.class_body-returns
class_body-returns t c =
    made_class (readers c.args.inside c.args.depth) c.args.name c.args.superclass c.args.self.now _ c.inner.new.self c.in_ok-methods.methods.items _ c.in_ok-methods.ensures c.put_class.new.self c.deref.result.now _ _ c.deref.ensures.value c.in-Some.ensures c.in_ok-put_class.ensures

pub rows-loop-after-init : goal.rows-loop-after-init
unfolding rows_of
rows-loop-after-init t c =
    list_begins nodes stable_nodes row (statement_of (readers c.args.inside c.args.depth)) Steps-row (shrinks_nested c.args.inside c.args.depth).statement c.args.self.now c.statement.new.self _ _ _ _ c.in_ok-first.ensures
    (c.in_ok-push.ensures.items ∙ ap (λ l. l ++ c.in_ok-first.first ∷ []) c.new-items.ensures.items)

pub branches-loop-after-init : goal.branches-loop-after-init
unfolding branches_of
branches-loop-after-init t c =
    list_begins pairs stable_pairs elsif (branch_of (readers c.args.inside c.args.depth)) Steps-elsif (shrinks_nested c.args.inside c.args.depth).branch c.args.self.now c.branch-self.new.self _ _ _ _ c.in_ok-first.ensures
    (c.in_ok-push.ensures.items ∙ ap (λ l. l ++ c.in_ok-first.first ∷ []) c.new-branches.ensures.items)

pub clauses-loop-after-init : goal.clauses-loop-after-init
unfolding clauses_of
clauses-loop-after-init t c =
    list_begins nodes stable_nodes rescues (clause_of (readers c.args.inside c.args.depth)) Steps-rescues (shrinks_nested c.args.inside c.args.depth).clause c.args.self.now c.clause.new.self _ _ _ _ c.in_ok-first.ensures
    (c.in_ok-push.ensures.items ∙ ap (λ l. l ++ c.in_ok-first.first ∷ []) c.new-clauses.ensures.items)

pub targets-loop-after-init : goal.targets-loop-after-init
unfolding targets_of
targets-loop-after-init t c =
    list_begins nodes stable_nodes comma (targeted_of (readers c.args.inside c.args.depth)) Steps-comma (shrinks_nested c.args.inside c.args.depth).targeted c.args.self.now c.targeted.new.self _ _ _ _ c.in_ok-first.ensures
    (c.in_ok-push.ensures.items ∙ ap (λ l. l ++ c.in_ok-first.first ∷ []) c.new-targets.ensures.items)

pub clause-put_clause-requires-clause-target : goal.clause-put_clause-requires-clause-target
clause-put_clause-requires-clause-target t c = kept_within c.catch.new.self c.statements.new.self c.in_ok-target.target c.in_ok-target.ensures.there c.in_ok-body.ensures.kept

pub clause-put_clause-requires-clause-classes : goal.clause-put_clause-requires-clause-classes
clause-put_clause-requires-clause-classes t c =
    kept_all c.classes.new.self c.statements.new.self c.in_ok-classes.classes.items c.deref.result.now c.deref.ensures.value c.in_ok-classes.ensures.there
    (kept_twice c.classes.new.self c.catch.new.self c.statements.new.self c.in_ok-target.ensures.kept c.in_ok-body.ensures.kept)

pub rescued-put_rescue-requires-clause-clauses : goal.rescued-put_rescue-requires-clause-clauses
rescued-put_rescue-requires-clause-clauses t c = kept_all c.clauses.new.self c.otherwise.new.self c.in_ok-clauses.clauses.items c.deref.result.now c.deref.ensures.value c.in_ok-clauses.ensures.there c.in_ok-otherwise.ensures.kept

pub rescued-put_rescue-requires-clause-body : goal.rescued-put_rescue-requires-clause-body
rescued-put_rescue-requires-clause-body t c =
    kept_within c.statements.new.self c.otherwise.new.self c.in_ok-body.body c.in_ok-body.ensures.there (kept_twice c.statements.new.self c.clauses.new.self c.otherwise.new.self c.in_ok-clauses.ensures.kept c.in_ok-otherwise.ensures.kept)

pub several_on-put_several-requires-clause-first : goal.several_on-put_several-requires-clause-first
several_on-put_several-requires-clause-first t c =
    kept_within c.args.self.now c.right_sides.new.self c.args.first c.requires (kept_twice c.args.self.now c.targets.new.self c.right_sides.new.self c.in_ok-targets.ensures.kept c.in_ok-value.ensures.kept)

pub several_on-put_several-requires-clause-targets : goal.several_on-put_several-requires-clause-targets
several_on-put_several-requires-clause-targets t c = kept_all c.targets.new.self c.right_sides.new.self c.in_ok-targets.targets.items c.deref.result.now c.deref.ensures.value c.in_ok-targets.ensures.there c.in_ok-value.ensures.kept

pub repeat-put-requires : goal.repeat-put-requires
repeat-put-requires t c = (kept_within c.condition.new.self c.statements.new.self c.in_ok-condition.condition c.in_ok-condition.ensures.there c.in_ok-body.ensures.kept, c.in_ok-body.ensures.there)

pub alternatives-put-requires : goal.alternatives-put-requires
alternatives-put-requires t c = (
  kept_within c.args.self.now c.part-2.new.self c.args.condition c.requires (kept_twice c.args.self.now c.part.new.self c.part-2.new.self c.in_ok-then.ensures.kept c.in_ok-otherwise.ensures.kept),
  kept_within c.part.new.self c.part-2.new.self c.in_ok-then.then c.in_ok-then.ensures.there c.in_ok-otherwise.ensures.kept,
  c.in_ok-otherwise.ensures.there,
)

pub choice-put_choices-requires-clause-branches : goal.choice-put_choices-requires-clause-branches
choice-put_choices-requires-clause-branches t c = kept_pairs c.branches.new.self c.otherwise.new.self c.in_ok-branches.branches.items c.in_ok-branches.ensures.there c.in_ok-otherwise.ensures.kept

pub setting-put_setting-requires-clause-target : goal.setting-put_setting-requires-clause-target
setting-put_setting-requires-clause-target t c = kept_within c.args.self.now c.right_side.new.self c.args.target c.requires.target c.in_ok-value.ensures.kept

pub behind_key-put-requires : goal.behind_key-put-requires
behind_key-put-requires t c = (kept_within c.args.self.now c.value.new.self c.args.argument c.requires c.in_ok-value.ensures.kept, c.in_ok-value.ensures.there)

pub ordered-put_send-requires-clause-receiver : goal.ordered-put_send-requires-clause-receiver
ordered-put_send-requires-clause-receiver t c = kept_within c.args.self.now c.arguments.new.self c.args.receiver c.requires c.in_ok-items.ensures.kept

pub sent_arguments-put_send-requires-clause-receiver : goal.sent_arguments-put_send-requires-clause-receiver
sent_arguments-put_send-requires-clause-receiver t c = kept_within c.args.self.now c.inner_arguments.new.self c.args.receiver c.requires c.in_ok-items.ensures.kept

pub block_behind-put-requires : goal.block_behind-put-requires
block_behind-put-requires t c = (kept_within c.args.self.now c.part.new.self c.args.call c.requires c.in_ok-block.ensures.kept, c.in_ok-block.ensures.there)

pub element-put-requires : goal.element-put-requires
element-put-requires t c = (kept_within c.args.self.now c.part.new.self c.args.receiver c.requires c.in_ok-index.ensures.kept, c.in_ok-index.ensures.there)

pub infixed_on-put_infix-requires-clause-left : goal.infixed_on-put_infix-requires-clause-left
infixed_on-put_infix-requires-clause-left t c = kept_within c.loop-operator.self c.binary.new.self c.loop-operator.left c.loop-operator.invariant.goes.there c.in_ok-right.ensures.kept

pub joined_on-put_joined-requires-clause-left : goal.joined_on-put_joined-requires-clause-left
joined_on-put_joined-requires-clause-left t c = kept_within c.loop-connective.self c.logical.new.self c.loop-connective.left c.loop-connective.invariant.goes.there c.in_ok-right.ensures.kept

pub connected-put_joined-requires-clause-left : goal.connected-put_joined-requires-clause-left
connected-put_joined-requires-clause-left t c = kept_within c.loop-connective.self c.negation.new.self c.loop-connective.left c.loop-connective.invariant.there c.in_ok-right.ensures.kept

pub equality_on-put_infix-requires-clause-left : goal.equality_on-put_infix-requires-clause-left
equality_on-put_infix-requires-clause-left t c = kept_within c.binary_on.new.self c.binary.new.self c.in_ok-left.left c.in_ok-left.ensures.there c.in_ok-right.ensures.kept

pub statement-put_modified-requires-clause-statement : goal.statement-put_modified-requires-clause-statement
statement-put_modified-requires-clause-statement t c = kept_within c.loop-modifier.self c.expression.new.self c.loop-modifier.statement c.loop-modifier.invariant.there c.in_ok-condition.ensures.kept

pub body-put-requires : goal.body-put-requires
body-put-requires t c = (kept_within c.rescued.new.self c.statements.new.self c.in_ok-body.body c.in_ok-body.ensures.there c.in_ok-last.ensures.kept, c.in_ok-last.ensures.there)

pub unless-put-requires : goal.unless-put-requires
unless-put-requires t c = (
  kept_within c.branch-self.new.self c.otherwise.new.self c.in_ok-condition.condition c.in_ok-condition.ensures.there.0 c.in_ok-otherwise.ensures.kept,
  c.in_ok-otherwise.ensures.there,
  kept_within c.branch-self.new.self c.otherwise.new.self c.in_ok-condition.then c.in_ok-condition.ensures.there.1 c.in_ok-otherwise.ensures.kept,
)

pub commanded-returns-in-Some : goal.commanded-returns-in-Some
commanded-returns-in-Some t c =
    made_argument_command (readers c.args.inside c.args.depth) c.args.self.now c.part.new.self c.in_ok-command.command c.push.new.self.items _ c.args.words.now _ _ c.in-Some.ensures c.in_ok-command.ensures
    (c.in_ok-push.ensures.items ∙ ap (λ l. l ++ c.in_ok-command.command ∷ []) c.new-items.ensures.items)

pub commanded_on-returns : goal.commanded_on-returns
commanded_on-returns t c =
    made_argument_order (readers c.args.inside c.args.depth) c.args.self.now c.inner_order.new.self c.in_ok-command.command (reaches.tree c.args.self.now.nodes.items c.args.operand) c.push.new.self.items c.in-Some.name c.args.words.now
    c.in-Some.rest.now _ c.in-Some.ensures c.in_ok-command.ensures (c.in_ok-push.ensures.items ∙ ap (λ l. l ++ c.in_ok-command.command ∷ []) c.new-items.ensures.items)

pub bracketed-returns-in-Some-last : goal.bracketed-returns-in-Some-last
bracketed-returns-in-Some-last t c =
    made_bracketed (readers c.args.inside c.args.depth) c.args.list c.args.self.now c.listed.new.self _ c.args.words.now _ c.in-Some-last.rest.now c.in_default.ensures c.in_ok-items.ensures c.in-Some-last.ensures

pub call_arguments-returns : goal.call_arguments-returns
call_arguments-returns t c =
    made_taking (bracketed_of (readers c.args.inside c.args.depth) listings.Call) true c.args.self.now c.set_do.new.self c.args.words.now c.set_do.ensures (lists nodes) c.bracketed.new.self c.set_do-2.new.self _ _ c.args.self.now.known.takes_do refl
    c.in_ok-items.ensures c.set_do-2.ensures

pub arguments-returns : goal.arguments-returns
arguments-returns t c =
    made_taking (commanded_of (readers c.args.inside c.args.depth)) (within_head c.args.head c.args.self.now.known.takes_do) c.args.self.now c.set_do.new.self c.args.words.now
    (subst (λ b. SetsDo c.args.self.now c.set_do.new.self b) c.within_head.ensures c.set_do.ensures) (lists nodes) c.commanded.new.self c.set_do-2.new.self _ _ c.args.self.now.known.takes_do refl
    c.in_ok-items.ensures c.set_do-2.ensures

pub first_on-returns : goal.first_on-returns
first_on-returns t c =
    made_first_in_room (readers c.args.inside c.args.depth) (reaches.tree c.args.self.now.nodes.items c.args.operand) c.args.self.now c.reached.new.self c.behind_key.new.self c.no_members.new.self c.no_members.result c.in_ok-first.first
    c.in_ok-argument.argument c.in_ok-member.member c.args.words.now _ _ c.no_members.ensures.items c.no_members.ensures.pairs
    c.no_members.ensures.nodes c.no_members.ensures.known c.in_ok-argument.ensures c.in_ok-member.ensures c.in_ok-first.ensures

pub listed_on-returns : goal.listed_on-returns
listed_on-returns t c =
    made_listed_on (readers c.args.inside c.args.depth) (reaches.tree c.args.self.now.nodes.items c.args.operand) c.args.self.now c.first_on.new.self c.members_on.new.self c.put_given.new.self c.in_ok-first.first c.in_ok-given.given _
    c.args.words.now _ _ c.in_ok-first.ensures c.in_ok-given.ensures c.in_ok-put_given.ensures

pub listed-returns : goal.listed-returns
listed-returns t c =
    made_listed (readers c.args.inside c.args.depth) c.args.list c.args.self.now c.members.new.self c.put_given.new.self c.in_ok-given.given _ c.args.words.now _ c.in_ok-given.ensures c.in_ok-put_given.ensures

pub ternary_on-returns-in-Some : goal.ternary_on-returns-in-Some
ternary_on-returns-in-Some t c =
    gives_question (readers c.args.inside c.args.depth) c.args.self.now c.logical_on.new.self c.alternatives.new.self (tree_at c.args.self.now.nodes.items c.args.left) c.in_ok-condition.condition c.args.words.now _ c.in-Some.after.now
    c.alternatives.result c.in_ok-condition.ensures c.in-Some.ensures c.alternatives.ensures

pub repeat-returns-in_err-body : goal.repeat-returns-in_err-body
repeat-returns-in_err-body t c =
    let p = err_from_is_err_and c.from_residual-in_err-body.result c.from_residual-in_err-body.ensures.1 in
    rw (p.1, p.2) (fails_loop (readers c.args.inside c.args.depth) c.args.until c.args.self.now c.condition.new.self c.in_ok-condition.condition c.args.words.now _ c.in-Some.after.now _ c.in_ok-condition.ensures c.in-Some.ensures c.in_err-body.ensures)

pub passing-returns-in-Some : goal.passing-returns-in-Some
passing-returns-in-Some t c =
    made_passed (readers c.args.inside c.args.depth) c.args.self.now c.args.passing c.args.words.now c.if-not-self.false c.inner_arguments.new.self c.put_passed.new.self c.in_ok-items.items.items c.deref.result.now _ c.in-Some.rest.now _
    c.deref.ensures.value c.in-Some.ensures c.in_ok-items.ensures c.in_ok-put_passed.ensures

pub sent-returns : goal.sent-returns
sent-returns t c =
    made_block_send (readers c.args.inside c.args.depth) c.args.self.now c.put_send.new.self c.block_behind.new.self c.args.receiver c.in_ok-call.call c.in_ok-node.node c.args.name c.args.words.now c.in-Some.rest.now _ c.in-Some.fence
    c.in_ok-call.ensures c.in-Some.ensures c.in_ok-node.ensures

pub array-returns : goal.array-returns
unfolding array_of
array-returns t c =
    made_over (λ l. array (listed l)) c.in_ok-items.ensures c.in_ok-put_array.ensures (ap (λ l. array (listed (map (tree_at c.bracketed.new.self.nodes.items) l))) c.deref.ensures.value)

pub hash-returns : goal.hash-returns
unfolding hash_of
hash-returns t c =
    made_over (λ l. hash (listed l)) c.in_ok-items.ensures c.in_ok-put_hash.ensures (ap (λ l. hash (listed (map (tree_at c.bracketed.new.self.nodes.items) l))) c.deref.ensures.value)

pub minus-returns : goal.minus-returns
minus-returns t c =
    made_minus (readers c.args.inside c.args.depth) c.args.self.now c.part.new.self c.put.new.self _ _ c.args.words.now c.in-Some.rest.now _ c.in-Some.ensures c.in_ok-operand.ensures c.in_ok-put.ensures.puts

pub bang-returns : goal.bang-returns
bang-returns t c =
    made_bang (readers c.args.inside c.args.depth) c.args.self.now c.part.new.self c.put.new.self _ _ c.args.words.now c.in-Some.rest.now _ c.in-Some.ensures c.in_ok-operand-2.ensures c.in_ok-put.ensures.puts

pub negation-returns : goal.negation-returns
negation-returns t c =
    made_negation (readers c.args.inside c.args.depth) c.args.self.now c.part.new.self c.put.new.self _ _ c.args.words.now c.in-Some.rest.now _ c.in-Some.ensures c.in_ok-operand.ensures c.in_ok-put.ensures.puts

pub primary-returns-in_ok-put-in-Text : goal.primary-returns-in_ok-put-in-Text
primary-returns-in_ok-put-in-Text t c =
    made_word (readers c.args.inside c.args.depth) c.args.self.now c.put.new.self c.args.words.now c.in-Some.rest.now c.in-Some.word.now (kind.Text c.in-Text.text) (text c.in-Text.text) _ c.in-Some.ensures.cases.0 c.in-Text.is refl
    c.in_ok-put-in-Text.ensures.puts

pub primary-returns-in_ok-put-in-Nil : goal.primary-returns-in_ok-put-in-Nil
primary-returns-in_ok-put-in-Nil t c =
    made_word (readers c.args.inside c.args.depth) c.args.self.now c.put-in-Nil.new.self c.args.words.now c.in-Some.rest.now c.in-Some.word.now kind.Nil nil _ c.in-Some.ensures.cases.0 c.in-Nil.is refl c.in_ok-put-in-Nil.ensures.puts

pub primary-returns-in_ok-put-in-Truth : goal.primary-returns-in_ok-put-in-Truth
primary-returns-in_ok-put-in-Truth t c =
    made_word (readers c.args.inside c.args.depth) c.args.self.now c.put-in-Truth.new.self c.args.words.now c.in-Some.rest.now c.in-Some.word.now (kind.Truth c.in-Truth.truth) (truth c.in-Truth.truth) _ c.in-Some.ensures.cases.0 c.in-Truth.is refl
    c.in_ok-put-in-Truth.ensures.puts

pub primary-returns-in_ok-put-in-Symbol : goal.primary-returns-in_ok-put-in-Symbol
primary-returns-in_ok-put-in-Symbol t c =
    made_word (readers c.args.inside c.args.depth) c.args.self.now c.put-in-Symbol.new.self c.args.words.now c.in-Some.rest.now c.in-Some.word.now (kind.Symbol c.in-Symbol.name) (symbol c.in-Symbol.name.0) _ c.in-Some.ensures.cases.0 c.in-Symbol.is
    refl c.in_ok-put-in-Symbol.ensures.puts

pub primary-returns-in_ok-put-in-Field : goal.primary-returns-in_ok-put-in-Field
primary-returns-in_ok-put-in-Field t c =
    made_word (readers c.args.inside c.args.depth) c.args.self.now c.put-in-Field.new.self c.args.words.now c.in-Some.rest.now c.in-Some.word.now (kind.Field c.in-Field.name) (field c.in-Field.name.0) _ c.in-Some.ensures.cases.0 c.in-Field.is refl
    c.in_ok-put-in-Field.ensures.puts

pub primary-returns-in_ok-put-in-Global : goal.primary-returns-in_ok-put-in-Global
primary-returns-in_ok-put-in-Global t c =
    made_word (readers c.args.inside c.args.depth) c.args.self.now c.put-in-Global.new.self c.args.words.now c.in-Some.rest.now c.in-Some.word.now (kind.Global c.in-Global.name) (global c.in-Global.name.0) _ c.in-Some.ensures.cases.0 c.in-Global.is
    refl c.in_ok-put-in-Global.ensures.puts

pub primary-returns-in_ok-put-in-Itself : goal.primary-returns-in_ok-put-in-Itself
primary-returns-in_ok-put-in-Itself t c =
    made_word (readers c.args.inside c.args.depth) c.args.self.now c.put-in-Itself.new.self c.args.words.now c.in-Some.rest.now c.in-Some.word.now kind.Itself itself _ c.in-Some.ensures.cases.0 c.in-Itself.is refl c.in_ok-put-in-Itself.ensures.puts

pub simple-returns : goal.simple-returns
simple-returns t c =
    gives_simple (readers c.args.inside c.args.depth) c.args.self.now c.args.words.now c.in_default.ensures c.postfix.new.self c.spotted.new.self _ _ c.spotted.result (sym c.is_led.ensures ∙ c.if-is_led.false) c.in_ok-operand.ensures c.spotted.ensures

pub simple-returns-then-is_led : goal.simple-returns-then-is_led
simple-returns-then-is_led t c =
    gives_led (readers c.args.inside c.args.depth) c.args.self.now c.args.words.now c.in_default.ensures c.expression.new.self c.expression.result (sym c.is_led.ensures ∙ c.if-is_led.true) c.expression.ensures

pub commanded-returns : goal.commanded-returns
commanded-returns t c =
    gives_behind_operand (readers c.args.inside c.args.depth) c.args.self.now c.args.words.now c.in_default.ensures c.postfix.new.self c.commanded_on.new.self _ _ c.commanded_on.result (sym c.is_introduced.ensures ∙ c.if-is_introduced.false)
    c.in_ok-operand.ensures c.commanded_on.ensures

pub commanded-returns-then-is_introduced : goal.commanded-returns-then-is_introduced
commanded-returns-then-is_introduced t c =
    gives_introduced (readers c.args.inside c.args.depth) c.args.self.now c.args.words.now c.in_default.ensures c.listed.new.self c.listed.result (sym c.is_introduced.ensures ∙ c.if-is_introduced.true) c.listed.ensures

pub rights-returns : goal.rights-returns
rights-returns t c =
    gives_rights (readers c.args.inside c.args.depth) c.args.self.now c.args.words.now c.in_default.ensures c.postfix.new.self c.behind_receiver.new.self _ _ c.behind_receiver.result (sym c.is_prefixed.ensures ∙ c.if-is_prefixed.false)
    c.in_ok-operand.ensures c.behind_receiver.ensures

pub simple-returns-in_err-operand : goal.simple-returns-in_err-operand
simple-returns-in_err-operand t c =
    let p = err_from_is_err_and c.from_residual-in_err-operand.result c.from_residual-in_err-operand.ensures.1 in
    rw (p.1, p.2) (fails_simple (readers c.args.inside c.args.depth) c.args.self.now c.args.words.now c.in_default.ensures _ (sym c.is_led.ensures ∙ c.if-is_led.false) c.in_err-operand.ensures)

pub commanded-returns-in_err-operand : goal.commanded-returns-in_err-operand
commanded-returns-in_err-operand t c =
    let p = err_from_is_err_and c.from_residual-in_err-operand.result c.from_residual-in_err-operand.ensures.1 in
    rw (p.1, p.2) (fails_first_operand (readers c.args.inside c.args.depth) c.args.self.now c.args.words.now c.in_default.ensures _ (sym c.is_introduced.ensures ∙ c.if-is_introduced.false) c.in_err-operand.ensures)

pub rights-returns-in_err-operand : goal.rights-returns-in_err-operand
rights-returns-in_err-operand t c =
    let p = err_from_is_err_and c.from_residual-in_err-operand.result c.from_residual-in_err-operand.ensures.1 in
    rw (p.1, p.2) (fails_rights (readers c.args.inside c.args.depth) c.args.self.now c.args.words.now c.in_default.ensures _ (sym c.is_prefixed.ensures ∙ c.if-is_prefixed.false) c.in_err-operand.ensures)
