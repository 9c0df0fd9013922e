use Rattle.std.proofs.Common.{cond, [], ◌∷◌, ◌<◌, ◌≤◌, length, ◌+◌, ◌-◌, ◌*◌, map}
use Rattle.rr_tree.specs.Tree.{tree_at}
use Rattle.rr_parser.specs.Grammar.Chains.{and_one, and_all}
use Rattle.rr_parser.specs.Grammar.Operators.{operator, infixed, connective, joined_by}
use Rattle.rr_parser.specs.Grammar.Operands.{tail}
use Rattle.rr_parser.specs.Grammar.Sequences.{modifier}
use Rattle.rr_parser.specs.Grammar.Control.{elsif}
use Rattle.rr_parser.specs.Reading.Answers.{chain_on, trail_on}
use Rattle.rr_parser.specs.Reading.Operators.{binary_on, binary_of, logical_on, logical_of}
use Rattle.rr_parser.specs.Reading.Operands.{tailed_of, postfix_of}
use Rattle.rr_parser.specs.Grammar.Calls.{comma}
use Rattle.rr_parser.specs.Reading.Calls.{argument_of, another, adding_to, members_on}
use Rattle.rr_parser.specs.Reading.Several.{values_on, targeted_of, targets_of}
use Rattle.rr_parser.specs.Reading.Sequences.{modifying_of, negation_of, statement_of, statements_of, rows_of, row, connected_on}
use Rattle.rr_parser.specs.Grammar.Bodies.{rescues}
use Rattle.rr_parser.specs.Grammar.Interpolations.{text_middle, and_piece}
use Rattle.rr_parser.specs.Reading.Interpolations.{pieces_of}
use Rattle.rr_parser.specs.Reading.Control.{branch_of, branches_of}
use Rattle.rr_parser.specs.Reading.Bodies.{clause_of, clauses_of}
use Rattle.rr_parser.specs.Grammar.Classes.{member_row}
use Rattle.rr_parser.specs.Reading.Classes.{class_member_of, methods_of}
use Rattle.rr_parser.specs.Reading.{readers}
use Rattle.rr_parser.specs.Meets.{place, nodes, pairs, lists, givens, reaches}
use Rattle.rr_parser.proofs.Levels.{levels, infixed_at, infixed_up, joined_at, joined_up}
use Rattle.rr_parser.proofs.Making.{Goes}
use Rattle.rr_parser.proofs.parser.Parser.+parser.Given as goal

abbrev pub decreases-part : goal.decreases-part
decreases-part l = 256 * l.depth + cond l.inside 0 128 + 0

abbrev pub decreases-inner_arguments : goal.decreases-inner_arguments
decreases-inner_arguments l = 256 * l.depth + cond l.inside 0 128 + 0

abbrev pub decreases-right_side : goal.decreases-right_side
decreases-right_side l = 256 * l.depth + cond l.inside 0 128 + 0

abbrev pub decreases-right_sides : goal.decreases-right_sides
decreases-right_sides l = 256 * l.depth + cond l.inside 0 128 + 0

abbrev pub decreases-rights : goal.decreases-rights
decreases-rights l = 256 * l.depth + cond l.inside 0 128 + 84

abbrev pub decreases-behind_receiver : goal.decreases-behind_receiver
decreases-behind_receiver l = 256 * l.depth + cond l.inside 0 128 + 82

abbrev pub decreases-right : goal.decreases-right
decreases-right l = 256 * l.depth + cond l.inside 0 128 + 64

abbrev pub decreases-arguments_from : goal.decreases-arguments_from
decreases-arguments_from l = 256 * l.depth + cond l.inside 0 128 + 62

abbrev pub decreases-targeted_spot : goal.decreases-targeted_spot
decreases-targeted_spot l = 256 * l.depth + cond l.inside 0 128 + 14

abbrev pub decreases-targeted : goal.decreases-targeted
decreases-targeted l = 256 * l.depth + cond l.inside 0 128 + 16

abbrev pub decreases-targets : goal.decreases-targets
decreases-targets l = 256 * l.depth + cond l.inside 0 128 + 18

abbrev pub invariant-targets-loop-after : goal.invariant-targets-loop-after
invariant-targets-loop-after l =
    Goes (lists nodes) l.fn.self l.self l.targets.items (targets_of (readers l.inside l.depth) (place l.fn.self l.fn.words))
    (chain_on comma and_one (targeted_of (readers l.inside l.depth)) (map (tree_at l.self.nodes.items) l.targets.items) (place l.self l.rest))

abbrev pub decreases-targets-loop-after : goal.decreases-targets-loop-after
decreases-targets-loop-after l = length l.rest

abbrev pub decreases-several_on : goal.decreases-several_on
decreases-several_on l = 256 * l.depth + cond l.inside 0 128 + 20

abbrev pub decreases-several : goal.decreases-several
decreases-several l = 256 * l.depth + cond l.inside 0 128 + 22

abbrev pub decreases-connected : goal.decreases-connected
decreases-connected l = 256 * l.depth + cond l.inside 0 128 + 96

abbrev pub decreases-expression_on : goal.decreases-expression_on
decreases-expression_on l = 256 * l.depth + cond l.inside 0 128 + 98

abbrev pub decreases-spotted : goal.decreases-spotted
decreases-spotted l = 256 * l.depth + cond l.inside 0 128 + 100

abbrev pub decreases-simple : goal.decreases-simple
decreases-simple l = 256 * l.depth + cond l.inside 0 128 + 102

abbrev pub invariant-arguments_from-loop-after : goal.invariant-arguments_from-loop-after
invariant-arguments_from-loop-after l =
    Goes (lists nodes) l.fn.self l.self l.items.items (values_on (readers l.inside l.depth) (tree_at l.fn.self.nodes.items l.first ∷ []) (place l.fn.self l.fn.words))
    (chain_on comma and_one (argument_of (readers l.inside l.depth)) (map (tree_at l.self.nodes.items) l.items.items) (place l.self l.rest))

abbrev pub decreases-arguments_from-loop-after : goal.decreases-arguments_from-loop-after
decreases-arguments_from-loop-after l = length l.rest

abbrev pub decreases-name : goal.decreases-name
decreases-name l = 256 * l.depth + cond l.inside 0 128 + 6

abbrev pub decreases-alternatives : goal.decreases-alternatives
decreases-alternatives l = 256 * l.depth + cond l.inside 0 128 + 6

abbrev pub decreases-primary : goal.decreases-primary
decreases-primary l = 256 * l.depth + cond l.inside 0 128 + 8

abbrev pub decreases-bang : goal.decreases-bang
decreases-bang l = 256 * l.depth + cond l.inside 0 128 + 14

abbrev pub decreases-minus : goal.decreases-minus
decreases-minus l = 256 * l.depth + cond l.inside 0 128 + 16

abbrev pub decreases-equality_on : goal.decreases-equality_on
decreases-equality_on l = 256 * l.depth + cond l.inside 0 128 + 36

abbrev pub decreases-ternary_on : goal.decreases-ternary_on
decreases-ternary_on l = 256 * l.depth + cond l.inside 0 128 + 48

abbrev pub decreases-ternary : goal.decreases-ternary
decreases-ternary l = 256 * l.depth + cond l.inside 0 128 + 50

abbrev pub decreases-commanded : goal.decreases-commanded
decreases-commanded l = 256 * l.depth + cond l.inside 0 128 + 76

abbrev pub decreases-bracketed : goal.decreases-bracketed
decreases-bracketed l = 256 * l.depth + cond l.inside 0 128 + 76

abbrev pub decreases-phrase : goal.decreases-phrase
decreases-phrase l = 256 * l.depth + cond l.inside 0 128 + 88

abbrev pub decreases-command : goal.decreases-command
decreases-command l = 256 * l.depth + cond l.inside 0 128 + 88

abbrev pub decreases-negation : goal.decreases-negation
decreases-negation l = 256 * l.depth + cond l.inside 0 128 + 94

abbrev pub decreases-expression : goal.decreases-expression
decreases-expression l = 256 * l.depth + cond l.inside 0 128 + 98

abbrev pub decreases-statement : goal.decreases-statement
decreases-statement l = 256 * l.depth + cond l.inside 0 128 + 104

abbrev pub decreases-rows : goal.decreases-rows
decreases-rows l = 256 * l.depth + cond l.inside 0 128 + 106

abbrev pub decreases-statements : goal.decreases-statements
decreases-statements l = 256 * l.depth + cond l.inside 0 128 + 108

abbrev pub decreases-group : goal.decreases-group
decreases-group l = 256 * l.depth + cond l.inside 0 128 + 110

abbrev pub decreases-otherwise : goal.decreases-otherwise
decreases-otherwise l = 256 * l.depth + cond l.inside 0 128 + 110

abbrev pub decreases-branch : goal.decreases-branch
decreases-branch l = 256 * l.depth + cond l.inside 0 128 + 110

abbrev pub decreases-repeat : goal.decreases-repeat
decreases-repeat l = 256 * l.depth + cond l.inside 0 128 + 110

abbrev pub decreases-branches : goal.decreases-branches
decreases-branches l = 256 * l.depth + cond l.inside 0 128 + 112

abbrev pub decreases-choice : goal.decreases-choice
decreases-choice l = 256 * l.depth + cond l.inside 0 128 + 114

abbrev pub decreases-unless : goal.decreases-unless
decreases-unless l = 256 * l.depth + cond l.inside 0 128 + 114

abbrev pub decreases-part_within : goal.decreases-part_within
decreases-part_within l = 256 * l.depth + cond l.inside 0 128 + 124

abbrev pub decreases-binary_on : goal.decreases-binary_on
decreases-binary_on l = 256 * l.depth + cond l.inside 0 128 + (4 * l.level + 16)

abbrev pub decreases-binary : goal.decreases-binary
decreases-binary l = 256 * l.depth + cond l.inside 0 128 + (4 * l.level + 18)

abbrev pub decreases-logical_on : goal.decreases-logical_on
decreases-logical_on l = 256 * l.depth + cond l.inside 0 128 + (4 * l.level + 38)

abbrev pub decreases-logical : goal.decreases-logical
decreases-logical l = 256 * l.depth + cond l.inside 0 128 + (4 * l.level + 40)

abbrev pub decreases-operand : goal.decreases-operand
decreases-operand l = 256 * l.depth + cond l.inside 0 128 + cond l.commands 90 58

abbrev pub decreases-value : goal.decreases-value
decreases-value l = 256 * l.depth + cond l.inside 0 128 + cond l.commands 92 60

abbrev pub decreases-headed : goal.decreases-headed
decreases-headed l = 256 * l.depth + cond l.inside 0 128 + 80

abbrev pub decreases-arguments : goal.decreases-arguments
decreases-arguments l = 256 * l.depth + cond l.inside 0 128 + 78

abbrev pub decreases-condition : goal.decreases-condition
decreases-condition l = 256 * l.depth + cond l.inside 0 128 + 104

abbrev pub decreases-form : goal.decreases-form
decreases-form l = 256 * l.depth + cond l.inside 0 128 + 122

abbrev pub decreases-call_arguments : goal.decreases-call_arguments
decreases-call_arguments l = 256 * l.depth + cond l.inside 0 128 + 78

abbrev pub invariant-members_on-loop-after : goal.invariant-members_on-loop-after
invariant-members_on-loop-after l =
    Goes givens l.fn.self l.self l.given (members_on (readers l.inside l.depth) l.list (givens.tree l.fn.self.nodes.items l.fn.first) (place l.fn.self l.fn.words))
    (trail_on (another l.list) (adding_to (readers l.inside l.depth) l.list) (givens.tree l.self.nodes.items l.given) (place l.self l.rest))

abbrev pub decreases-members_on-loop-after : goal.decreases-members_on-loop-after
decreases-members_on-loop-after l = length l.rest

abbrev pub decreases-members_on : goal.decreases-members_on
decreases-members_on l = 256 * l.depth + cond l.inside 0 128 + 68

abbrev pub decreases-first_on : goal.decreases-first_on
decreases-first_on l = 256 * l.depth + cond l.inside 0 128 + 64

abbrev pub decreases-listed_on : goal.decreases-listed_on
decreases-listed_on l = 256 * l.depth + cond l.inside 0 128 + 70

abbrev pub decreases-commanded_on : goal.decreases-commanded_on
decreases-commanded_on l = 256 * l.depth + cond l.inside 0 128 + 72

abbrev pub decreases-inner_order : goal.decreases-inner_order
decreases-inner_order l = 256 * l.depth + cond l.inside 0 128 + 0

abbrev pub invariant-postfix-loop-tail : goal.invariant-postfix-loop-tail
invariant-postfix-loop-tail l =
    Goes reaches l.fn.self l.self l.operand (postfix_of (readers l.inside l.depth) (place l.fn.self l.fn.words))
    (trail_on tail (tailed_of (readers l.inside l.depth)) (reaches.tree l.self.nodes.items l.operand) (place l.self l.rest))

abbrev pub decreases-postfix-loop-tail : goal.decreases-postfix-loop-tail
decreases-postfix-loop-tail l = length l.rest

abbrev pub invariant-rows-loop-after : goal.invariant-rows-loop-after
invariant-rows-loop-after l =
    Goes (lists nodes) l.fn.self l.self l.items.items (rows_of (readers l.inside l.depth) (place l.fn.self l.fn.words))
    (chain_on row and_one (statement_of (readers l.inside l.depth)) (map (tree_at l.self.nodes.items) l.items.items) (place l.self l.rest))

abbrev pub decreases-rows-loop-after : goal.decreases-rows-loop-after
decreases-rows-loop-after l = length l.rest

abbrev pub invariant-branches-loop-after : goal.invariant-branches-loop-after
invariant-branches-loop-after l =
    Goes (lists pairs) l.fn.self l.self l.branches.items (branches_of (readers l.inside l.depth) (place l.fn.self l.fn.words))
    (chain_on elsif and_one (branch_of (readers l.inside l.depth)) (map (pairs.tree l.self.nodes.items) l.branches.items) (place l.self l.rest))

abbrev pub decreases-branches-loop-after : goal.decreases-branches-loop-after
decreases-branches-loop-after l = length l.rest

abbrev pub invariant-statement-loop-modifier : goal.invariant-statement-loop-modifier
invariant-statement-loop-modifier l =
    Goes nodes l.fn.self l.self l.statement (statement_of (readers l.inside l.depth) (place l.fn.self l.fn.words))
    (trail_on modifier (modifying_of (readers l.inside l.depth)) (tree_at l.self.nodes.items l.statement) (place l.self l.rest))

abbrev pub decreases-statement-loop-modifier : goal.decreases-statement-loop-modifier
decreases-statement-loop-modifier l = length l.rest

abbrev pub invariant-connected-loop-connective : goal.invariant-connected-loop-connective
invariant-connected-loop-connective l =
    Goes nodes l.fn.self l.self l.left (connected_on (readers l.inside l.depth) (tree_at l.fn.self.nodes.items l.first) (place l.fn.self l.fn.words))
    (chain_on (connective 3) joined_by (negation_of (readers l.inside l.depth)) (tree_at l.self.nodes.items l.left) (place l.self l.rest))

abbrev pub decreases-connected-loop-connective : goal.decreases-connected-loop-connective
decreases-connected-loop-connective l = length l.rest

abbrev pub invariant-binary_on-loop-under : goal.invariant-binary_on-loop-under
invariant-binary_on-loop-under l = record {
  at_most : l.level ≤ 4;
  under : l.under ≤ l.level;
  goes : Goes nodes l.fn.self l.self l.left (binary_on (readers l.inside l.depth) l.level (tree_at l.fn.self.nodes.items l.fn.first) (place l.fn.self l.fn.words))
      (levels (infixed_at (readers l.inside l.depth)) (binary_on (readers l.inside l.depth)) (infixed_up (readers l.inside l.depth)) (l.level - l.under) l.under (tree_at l.self.nodes.items l.left) (place l.self l.rest));
}

abbrev pub decreases-binary_on-loop-under : goal.decreases-binary_on-loop-under
decreases-binary_on-loop-under l = l.level - l.under

abbrev pub invariant-infixed_on-loop-operator : goal.invariant-infixed_on-loop-operator
invariant-infixed_on-loop-operator l = record {
  above : 0 < l.level;
  at_most : l.level ≤ 4;
  goes : Goes nodes l.fn.self l.self l.left (chain_on (operator l.level) infixed (binary_of (readers l.inside l.depth) (l.level - 1)) (tree_at l.fn.self.nodes.items l.fn.first) (place l.fn.self l.fn.words))
      (chain_on (operator l.level) infixed (binary_of (readers l.inside l.depth) (l.level - 1)) (tree_at l.self.nodes.items l.left) (place l.self l.rest));
}

abbrev pub decreases-infixed_on-loop-operator : goal.decreases-infixed_on-loop-operator
decreases-infixed_on-loop-operator l = length l.rest

abbrev pub decreases-infixed_on : goal.decreases-infixed_on
decreases-infixed_on l = 256 * l.depth + cond l.inside 0 128 + (4 * l.level + 15)

abbrev pub invariant-logical_on-loop-under : goal.invariant-logical_on-loop-under
invariant-logical_on-loop-under l = record {
  at_most : l.level ≤ 2;
  under : l.under ≤ l.level;
  goes : Goes nodes l.fn.self l.self l.left (logical_on (readers l.inside l.depth) l.level (tree_at l.fn.self.nodes.items l.fn.left) (place l.fn.self l.fn.words))
      (levels (joined_at (readers l.inside l.depth)) (logical_on (readers l.inside l.depth)) (joined_up (readers l.inside l.depth)) (l.level - l.under) l.under (tree_at l.self.nodes.items l.left) (place l.self l.rest));
}

abbrev pub decreases-logical_on-loop-under : goal.decreases-logical_on-loop-under
decreases-logical_on-loop-under l = l.level - l.under

abbrev pub invariant-joined_on-loop-connective : goal.invariant-joined_on-loop-connective
invariant-joined_on-loop-connective l = record {
  above : 0 < l.level;
  at_most : l.level ≤ 2;
  goes : Goes nodes l.fn.self l.self l.left (chain_on (connective l.level) joined_by (logical_of (readers l.inside l.depth) (l.level - 1)) (tree_at l.fn.self.nodes.items l.fn.first) (place l.fn.self l.fn.words))
      (chain_on (connective l.level) joined_by (logical_of (readers l.inside l.depth) (l.level - 1)) (tree_at l.self.nodes.items l.left) (place l.self l.rest));
}

abbrev pub decreases-joined_on-loop-connective : goal.decreases-joined_on-loop-connective
decreases-joined_on-loop-connective l = length l.rest

abbrev pub decreases-joined_on : goal.decreases-joined_on
decreases-joined_on l = 256 * l.depth + cond l.inside 0 128 + (4 * l.level + 37)

abbrev pub decreases-tailed : goal.decreases-tailed
decreases-tailed l = 256 * l.depth + cond l.inside 0 128 + 10

abbrev pub decreases-postfix : goal.decreases-postfix
decreases-postfix l = 256 * l.depth + cond l.inside 0 128 + 12

abbrev pub decreases-member : goal.decreases-member
decreases-member l = 256 * l.depth + cond l.inside 0 128 + 64

abbrev pub decreases-members : goal.decreases-members
decreases-members l = 256 * l.depth + cond l.inside 0 128 + 72

abbrev pub decreases-array : goal.decreases-array
decreases-array l = 256 * l.depth + cond l.inside 0 128 + 78

abbrev pub decreases-hash : goal.decreases-hash
decreases-hash l = 256 * l.depth + cond l.inside 0 128 + 78

abbrev pub decreases-index : goal.decreases-index
decreases-index l = 256 * l.depth + cond l.inside 0 128 + 78

abbrev pub decreases-block_behind : goal.decreases-block_behind
decreases-block_behind l = 256 * l.depth + cond l.inside 0 128 + 2

abbrev pub decreases-blocked : goal.decreases-blocked
decreases-blocked l = 256 * l.depth + cond l.inside 0 128 + 4

abbrev pub decreases-block : goal.decreases-block
decreases-block l = 256 * l.depth + cond l.inside 0 128 + 120

abbrev pub decreases-looped : goal.decreases-looped
decreases-looped l = 256 * l.depth + cond l.inside 0 128 + 112

abbrev pub decreases-passing : goal.decreases-passing
decreases-passing l = 256 * l.depth + cond l.inside 0 128 + 6

abbrev pub decreases-definition : goal.decreases-definition
decreases-definition l = 256 * l.depth + cond l.inside 0 128 + 120

abbrev pub decreases-clause : goal.decreases-clause
decreases-clause l = 256 * l.depth + cond l.inside 0 128 + 110

abbrev pub decreases-clauses : goal.decreases-clauses
decreases-clauses l = 256 * l.depth + cond l.inside 0 128 + 112

abbrev pub decreases-rescued : goal.decreases-rescued
decreases-rescued l = 256 * l.depth + cond l.inside 0 128 + 114

abbrev pub decreases-body : goal.decreases-body
decreases-body l = 256 * l.depth + cond l.inside 0 128 + 116

abbrev pub decreases-begun : goal.decreases-begun
decreases-begun l = 256 * l.depth + cond l.inside 0 128 + 118

abbrev pub decreases-held : goal.decreases-held
decreases-held l = 256 * l.depth + cond l.inside 0 128 + 118

abbrev pub invariant-clauses-loop-after : goal.invariant-clauses-loop-after
invariant-clauses-loop-after l =
    Goes (lists nodes) l.fn.self l.self l.clauses.items (clauses_of (readers l.inside l.depth) (place l.fn.self l.fn.words))
    (chain_on rescues and_one (clause_of (readers l.inside l.depth)) (map (tree_at l.self.nodes.items) l.clauses.items) (place l.self l.rest))

abbrev pub decreases-clauses-loop-after : goal.decreases-clauses-loop-after
decreases-clauses-loop-after l = length l.rest

abbrev pub decreases-pieces : goal.decreases-pieces
decreases-pieces l = 256 * l.depth + cond l.inside 0 128 + 110

abbrev pub decreases-interpolation : goal.decreases-interpolation
decreases-interpolation l = 256 * l.depth + cond l.inside 0 128 + 112

abbrev pub invariant-pieces-loop-middle : goal.invariant-pieces-loop-middle
invariant-pieces-loop-middle l =
    Goes (lists nodes) l.fn.self l.self l.items.items (pieces_of (readers l.inside l.depth) l.head (place l.fn.self l.fn.words))
    (chain_on text_middle and_piece (statements_of (readers l.inside l.depth)) (map (tree_at l.self.nodes.items) l.items.items) (place l.self l.rest))

abbrev pub decreases-pieces-loop-middle : goal.decreases-pieces-loop-middle
decreases-pieces-loop-middle l = length l.rest

abbrev pub decreases-element : goal.decreases-element
decreases-element l = 256 * l.depth + cond l.inside 0 128 + 6

abbrev pub decreases-sent_arguments : goal.decreases-sent_arguments
decreases-sent_arguments l = 256 * l.depth + cond l.inside 0 128 + 6

abbrev pub decreases-sent : goal.decreases-sent
decreases-sent l = 256 * l.depth + cond l.inside 0 128 + 6

abbrev pub decreases-sent_call : goal.decreases-sent_call
decreases-sent_call l = 256 * l.depth + cond l.inside 0 128 + 8

abbrev pub decreases-setting : goal.decreases-setting
decreases-setting l = 256 * l.depth + cond l.inside 0 128 + 50

abbrev pub decreases-behind_operand : goal.decreases-behind_operand
decreases-behind_operand l = 256 * l.depth + cond l.inside 0 128 + cond l.commands 84 54

abbrev pub decreases-settled : goal.decreases-settled
decreases-settled l = 256 * l.depth + cond l.inside 0 128 + cond l.commands 86 56

abbrev pub decreases-ordered : goal.decreases-ordered
decreases-ordered l = 256 * l.depth + cond l.inside 0 128 + 80

abbrev pub decreases-behind_order : goal.decreases-behind_order
decreases-behind_order l = 256 * l.depth + cond l.inside 0 128 + 82

abbrev pub decreases-reached : goal.decreases-reached
decreases-reached l = 256 * l.depth + cond l.inside 0 128 + 52

abbrev pub decreases-behind_key : goal.decreases-behind_key
decreases-behind_key l = 256 * l.depth + cond l.inside 0 128 + 62

abbrev pub decreases-added : goal.decreases-added
decreases-added l = 256 * l.depth + cond l.inside 0 128 + 66

abbrev pub decreases-listed : goal.decreases-listed
decreases-listed l = 256 * l.depth + cond l.inside 0 128 + 74

abbrev pub invariant-methods-loop-after : goal.invariant-methods-loop-after
invariant-methods-loop-after l =
    Goes (lists nodes) l.fn.self l.self l.methods.items (methods_of (readers l.inside l.depth) (place l.fn.self l.fn.words))
    (chain_on member_row and_all (class_member_of (readers l.inside l.depth)) (map (tree_at l.self.nodes.items) l.methods.items) (place l.self l.rest))

abbrev pub decreases-methods-loop-after : goal.decreases-methods-loop-after
decreases-methods-loop-after l = length l.rest

abbrev pub decreases-class_member : goal.decreases-class_member
decreases-class_member l = 256 * l.depth + cond l.inside 0 128 + 114

abbrev pub decreases-methods : goal.decreases-methods
decreases-methods l = 256 * l.depth + cond l.inside 0 128 + 116

abbrev pub decreases-inner : goal.decreases-inner
decreases-inner l = 256 * l.depth + cond l.inside 0 128 + 118

abbrev pub decreases-class_body : goal.decreases-class_body
decreases-class_body l = 256 * l.depth + cond l.inside 0 128 + 120
