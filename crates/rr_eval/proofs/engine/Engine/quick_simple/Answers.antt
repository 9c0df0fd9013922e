-- What a variable holds is within reach, and an operator on operands that are leaves takes three steps.
use Rattle.std.proofs.Common.{◌≡◌, ◌∙◌, ap, subst, sym, rules, w64, to_z, of_z}
use Rattle.rr_tree.specs.Tree.{tree_at}
use Rattle.rr_space.specs.declared.refer.Ref.TheVariants.{Int}
use Rattle.rr_eval.specs.declared.simple_parts.SimplePart.TheVariants.{Variable, WithInt, WithVariable}
use Rattle.rr_eval.specs.Rules.{operation}
use Rattle.rr_eval.specs.SimpleParts.{IsSimple}
use Rattle.rr_eval.specs.Usual.{TakesNow}
use Rattle.rr_eval.specs.Variables.{read_variable}
use Rattle.rr_eval.specs.Views.{view_of}
use Rattle.rr_eval.specs.Within.{IsReached}
use Rattle.rr_eval.proofs.Holding.{calls_reached}
use Rattle.rr_eval.proofs.Simply.{itself_takes, simple_plain, variable_takes, with_int_takes, with_variable_takes}
use Rattle.rr_eval.proofs.engine.Engine.quick_simple.Goals as goal

pub returns-in-Some-Variable-clause-within : goal.returns-in-Some-Variable-clause-within
returns-in-Some-Variable-clause-within c k h = subst (IsReached k) (sym c.one.ensures.value) (c.variable.ensures.within k (calls_reached k (view_of c.args.self.now) h))

pub returns-in-Some-clause-takes : goal.returns-in-Some-clause-takes
returns-in-Some-clause-takes c = λ t.
    let p = c.args.prepared.now.program in
    let m = view_of c.args.self.now in
    let tree = tree_at p.nodes.items c.args.place in
    let part = c.in-Some-WithInt in
    let value = c.in-Some.value in
    let made = c.three.result in
    let is = subst (IsSimple c.args.prepared.now.program c.args.prepared.now.simple.links.items tree) part.field-0-is part.ensures in
    let read = c.variable-in-Some-WithInt in
    let whole : to_z w64 (of_z w64 part.z) ≡ part.z = search rules in
    let takes = with_int_takes p m t tree part.op part.variable part.z value is (λ own. ap (λ v. operation own part.op v (Int part.z)) (sym read.ensures.value) ∙ ap (λ z. operation own part.op read.result (Int z)) (sym whole) ∙ c.in-Some.ensures.gives own) in
    subst (λ n. TakesNow p m t tree n made.value) (sym c.three.ensures.steps) (subst (TakesNow p m t tree 3) (sym c.three.ensures.value) takes)

pub returns-in-Some-clause-plain : goal.returns-in-Some-clause-plain
returns-in-Some-clause-plain c =
    let part = c.in-Some-WithInt in
    let tree = tree_at c.args.prepared.now.program.nodes.items c.args.place in
    simple_plain tree (WithInt part.op part.variable part.z) (subst (IsSimple c.args.prepared.now.program c.args.prepared.now.simple.links.items tree) part.field-0-is part.ensures) (λ e. cc e)

pub returns-in-Some-clause-within : goal.returns-in-Some-clause-within
returns-in-Some-clause-within c k h = subst (IsReached k) (sym c.three.ensures.value) (c.in-Some.ensures.within k)

pub returns-in-Some-operated-clause-takes : goal.returns-in-Some-operated-clause-takes
returns-in-Some-operated-clause-takes c = λ t.
    let p = c.args.prepared.now.program in
    let m = view_of c.args.self.now in
    let fs = m.calls.frames in
    let tree = tree_at p.nodes.items c.args.place in
    let part = c.in-Some-WithVariable in
    let value = c.in-Some-operated.value in
    let made = c.three-in-Some-operated.result in
    let is = subst (IsSimple c.args.prepared.now.program c.args.prepared.now.simple.links.items tree) part.field-0-is part.ensures in
    let first = sym c.variable-in-Some-WithVariable.ensures.value in
    let second = sym c.variable-in-Some-WithVariable-2.ensures.value in
    let takes = with_variable_takes p m t tree part.op part.variable part.other value is (λ own. ap (λ v. operation own part.op v (read_variable part.other fs)) first ∙ ap (operation own part.op c.variable-in-Some-WithVariable.result) second ∙ c.in-Some-operated.ensures.gives own) in
    subst (λ n. TakesNow p m t tree n made.value) (sym c.three-in-Some-operated.ensures.steps) (subst (TakesNow p m t tree 3) (sym c.three-in-Some-operated.ensures.value) takes)

pub returns-in-Some-operated-clause-plain : goal.returns-in-Some-operated-clause-plain
returns-in-Some-operated-clause-plain c =
    let part = c.in-Some-WithVariable in
    let tree = tree_at c.args.prepared.now.program.nodes.items c.args.place in
    simple_plain tree (WithVariable part.op part.variable part.other) (subst (IsSimple c.args.prepared.now.program c.args.prepared.now.simple.links.items tree) part.field-0-is part.ensures) (λ e. cc e)

pub returns-in-Some-operated-clause-within : goal.returns-in-Some-operated-clause-within
returns-in-Some-operated-clause-within c k h = subst (IsReached k) (sym c.three-in-Some-operated.ensures.value) (c.in-Some-operated.ensures.within k)

pub returns-in-Some-Variable-clause-takes : goal.returns-in-Some-Variable-clause-takes
returns-in-Some-Variable-clause-takes c = λ t.
    let p = c.args.prepared.now.program in
    let m = view_of c.args.self.now in
    let tree = tree_at p.nodes.items c.args.place in
    let part = c.in-Some-Variable in
    let made = c.one.result in
    let is = subst (IsSimple p c.args.prepared.now.simple.links.items tree) part.field-0-is part.ensures in
    let takes = subst (TakesNow p m t tree 1) (sym (c.one.ensures.value ∙ c.variable.ensures.value)) (variable_takes p m t tree part.variable is) in
    subst (λ n. TakesNow p m t tree n made.value) (sym c.one.ensures.steps) takes

pub returns-in-Some-Variable-clause-plain : goal.returns-in-Some-Variable-clause-plain
returns-in-Some-Variable-clause-plain c =
    let p = c.args.prepared.now.program in
    let tree = tree_at p.nodes.items c.args.place in
    let part = c.in-Some-Variable in
    simple_plain tree (Variable part.variable) (subst (IsSimple p c.args.prepared.now.simple.links.items tree) part.field-0-is part.ensures) (λ e. cc e)

pub returns-in-Some-Itself-clause-takes : goal.returns-in-Some-Itself-clause-takes
returns-in-Some-Itself-clause-takes c = λ t.
    let p = c.args.prepared.now.program in
    let m = view_of c.args.self.now in
    let tree = tree_at p.nodes.items c.args.place in
    let part = c.in-Some-Itself in
    let made = c.one-in-Some-Itself.result in
    let is = subst (IsSimple p c.args.prepared.now.simple.links.items tree) part.field-0-is part.ensures in
    let takes = subst (TakesNow p m t tree 1) (sym (c.one-in-Some-Itself.ensures.value ∙ c.itself.ensures.value)) (itself_takes p m t tree is) in
    subst (λ n. TakesNow p m t tree n made.value) (sym c.one-in-Some-Itself.ensures.steps) takes

pub returns-in-Some-Itself-clause-within : goal.returns-in-Some-Itself-clause-within
returns-in-Some-Itself-clause-within c k h = subst (IsReached k) (sym c.one-in-Some-Itself.ensures.value) (c.itself.ensures.within k (calls_reached k (view_of c.args.self.now) h))
