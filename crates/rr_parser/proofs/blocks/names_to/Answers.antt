use Rattle.std.proofs.Common.{[], ◌∷◌, ◌++◌, ap, ◌∙◌}
use Rattle.rr_parser.proofs.Scopes.{names_begin, names_go_on, names_break, names_end, names_wrong, names_smaller}
use Rattle.rr_parser.proofs.blocks.names_to.Goals as goal

pub loop-after-init : goal.loop-after-init
loop-after-init c =
    names_begin c.args.end c.args.words.now c.in-Some.rest.now c.in-Some.first c.push.new.self.items c.in-Some.ensures (c.in_ok-push.ensures.items ∙ ap (λ l. l ++ c.in-Some.first ∷ []) c.new-names.ensures.items)

pub loop-after-smaller : goal.loop-after-smaller
loop-after-smaller c = names_smaller c.loop-after.rest.now c.in-Some-behind.after.now c.in-Some-variable.after.now c.in-Some-variable.next c.in-Some-behind.ensures c.in-Some-variable.ensures

pub loop-after-preserved : goal.loop-after-preserved
loop-after-preserved c =
    names_go_on c.args.end c.args.words.now c.loop-after.rest.now c.loop-after.names.items c.loop-after.invariant c.in-Some-behind.after.now c.in-Some-variable.after.now c.in-Some-variable.next c.push-in-Some-behind.new.self.items c.in-Some-behind.ensures c.in-Some-variable.ensures c.in_ok-push-2.ensures.items

pub returns-in-Some-behind-2 : goal.returns-in-Some-behind-2
returns-in-Some-behind-2 c = names_end c.args.end c.args.words.now c.loop-after.rest.now c.loop-after.names.items c.loop-after.invariant c.in-Some-behind-2.rest.now c.in_default-behind.ensures c.in-Some-behind-2.ensures

pub returns-in_default-variable : goal.returns-in_default-variable
returns-in_default-variable c = names_break c.args.end c.args.words.now c.loop-after.rest.now c.loop-after.names.items c.loop-after.invariant c.in-Some-behind.after.now c.in-Some-behind.ensures c.in_default-variable.ensures

pub returns : goal.returns
returns c = names_wrong c.args.end c.args.words.now c.loop-after.rest.now c.loop-after.names.items c.loop-after.invariant c.in_default-behind.ensures c.in-None.ensures
