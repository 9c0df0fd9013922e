-- An operator on operands that are leaves takes three steps.
use Rattle.std.proofs.Common.{◌≡◌, ◌∙◌, ap, subst, sym, rules, w64, to_z, of_z}
use Rattle.rr_tree.specs.Tree.{tree_at}
use Rattle.rr_space.specs.declared.refer.Ref.TheVariants.{Int}
use Rattle.rr_eval.specs.Rules.{operation}
use Rattle.rr_eval.specs.SimpleParts.{IsSimple}
use Rattle.rr_eval.specs.Unframed.{framed_with}
use Rattle.rr_eval.specs.Variables.{read_variable}
use Rattle.rr_eval.specs.Views.{view_of}
use Rattle.rr_eval.proofs.Simply.{with_int_takes, with_variable_takes}
use Rattle.rr_eval.proofs.engine.Engine.operand_unframed.Goals as goal

pub returns-in_ok-integer_unframed-in-Some-Variable-clause-within : goal.returns-in_ok-integer_unframed-in-Some-Variable-clause-within
returns-in_ok-integer_unframed-in-Some-Variable-clause-within c = c.in_ok-integer_unframed-in-Some-Variable.ensures.within

pub returns-in_ok-operated-in-Some-WithInt-clause-takes : goal.returns-in_ok-operated-in-Some-WithInt-clause-takes
returns-in_ok-operated-in-Some-WithInt-clause-takes c = λ f t lies.
    let p = c.args.prepared.now.program in
    let tree = tree_at p.nodes.items c.args.place in
    let part = c.in-Some-WithInt in
    let left = c.in_ok-left-in-Some-WithInt in
    let value = c.in_ok-operated-in-Some-WithInt in
    let is = subst (IsSimple p c.args.prepared.now.simple.links.items tree) part.field-0-is part.ensures in
    let whole : to_z w64 (of_z w64 part.z) ≡ part.z = search rules in
    with_int_takes p (framed_with f (view_of c.args.self.now)) t tree part.op part.variable part.z value.field-0 is
    (λ own. ap (λ v. operation own part.op v (Int part.z)) (left.ensures.reads f lies) ∙ ap (λ z. operation own part.op left.left (Int z)) (sym whole) ∙ value.ensures.gives own)

pub returns-in_ok-operated-in-Some-WithInt-clause-within : goal.returns-in_ok-operated-in-Some-WithInt-clause-within
returns-in_ok-operated-in-Some-WithInt-clause-within c = c.in_ok-operated-in-Some-WithInt.ensures.within

pub returns-in_ok-operated-in-Some-WithVariable-clause-takes : goal.returns-in_ok-operated-in-Some-WithVariable-clause-takes
returns-in_ok-operated-in-Some-WithVariable-clause-takes c = λ f t lies.
    let p = c.args.prepared.now.program in
    let m = framed_with f (view_of c.args.self.now) in
    let tree = tree_at p.nodes.items c.args.place in
    let part = c.in-Some-WithVariable in
    let left = c.in_ok-left-in-Some-WithVariable in
    let right = c.in_ok-right-in-Some-WithVariable in
    let value = c.in_ok-operated-in-Some-WithVariable in
    let is = subst (IsSimple p c.args.prepared.now.simple.links.items tree) part.field-0-is part.ensures in
    with_variable_takes p m t tree part.op part.variable part.other value.field-0 is
    (λ own. ap (λ v. operation own part.op v (read_variable part.other m.calls.frames)) (left.ensures.reads f lies) ∙ ap (operation own part.op left.left) (right.ensures.reads f lies) ∙ value.ensures.gives own)

pub returns-in_ok-operated-in-Some-WithVariable-clause-within : goal.returns-in_ok-operated-in-Some-WithVariable-clause-within
returns-in_ok-operated-in-Some-WithVariable-clause-within c = c.in_ok-operated-in-Some-WithVariable.ensures.within
