-- A program has three objects first, and all is still to be done.
use Rattle.std.proofs.Common.{◌≡◌, inl, sym, subst, ◌∙◌, arith, ap, List, [], ◌∷◌, length, length-append, ◌<◌, Option, Some, None}
use Rattle.rr_base.specs.declared.name.TheConstants.ClassId.{OBJECT}
use Rattle.rr_space.specs.Tables.{Table, Slot, Here, Below}
use Rattle.rr_space.specs.declared.refer.Ref.TheVariants.{Local}
use Rattle.rr_builtin.specs.Acts.{array_object, with_object}
use Rattle.rr_builtin.specs.News.{new_plain}
use Rattle.rr_tree.specs.Tree.{tree_at}
use Rattle.rr_eval.specs.Turns.{context_of, code_of}
use Rattle.rr_eval.specs.Rules.{begun, first_memory, start_state}
use Rattle.rr_eval.specs.Runs.{first_course, first_objects}
use Rattle.rr_eval.specs.Within.{reach, IsReached}
use Rattle.rr_eval.proofs.Calling.{none_read}
use Rattle.rr_eval.proofs.Objects.{begun_keeps}
use Rattle.rr_eval.proofs.Running.{stopped_first, first_table, first_state}
use Rattle.rr_eval.proofs.run.run_program.Goals as goal

pub run_machine-ended-requires-clause-within : goal.run_machine-ended-requires-clause-within
run_machine-ended-requires-clause-within g c =
    let p = c.args.prepared.now.program in
    let made = c.new-space.ensures in
    let first = c.in-Ok.ensures in
    let t = c.new-space.result in
    let u = c.make_first.new.space in
    let itself = c.in-Ok.itself in
    let zero : itself ≡ Local 0 = first.name ∙ ap (λ (s : List Slot). Local (length s)) made.slots in
    let one : 0 < length u.slots = omega (arith, ap (λ (x : Table). length x.slots) first.made, length-append (with_object (new_plain OBJECT.0) [] (with_object (new_plain OBJECT.0) [] t)).slots (Here (array_object []) ∷ [])) in
    let reached = λ (clusters : Option Below). subst (IsReached (reach (length u.slots) clusters)) (sym zero) one in
    c.in-Ok-new.ensures.within (reach (length u.slots) None) (reached None)

pub run_machine-ended-requires-clause-reached : goal.run_machine-ended-requires-clause-reached
run_machine-ended-requires-clause-reached g c =
    let p = c.args.prepared.now.program in
    let made = c.new-space.ensures in
    let first = c.in-Ok.ensures in
    let t = c.new-space.result in
    let u = c.make_first.new.space in
    let itself = c.in-Ok.itself in
    let zero : itself ≡ Local 0 = first.name ∙ ap (λ (s : List Slot). Local (length s)) made.slots in
    let one : 0 < length u.slots = omega (arith, ap (λ (x : Table). length x.slots) first.made, length-append (with_object (new_plain OBJECT.0) [] (with_object (new_plain OBJECT.0) [] t)).slots (Here (array_object []) ∷ [])) in
    let reached = λ (clusters : Option Below). subst (IsReached (reach (length u.slots) clusters)) (sym zero) one in
    c.in-Ok-new.ensures.within (reach (length u.slots) (Some [])) (reached (Some []))

pub run_machine-ended-requires-clause-read : goal.run_machine-ended-requires-clause-read
run_machine-ended-requires-clause-read g c =
    let p = c.args.prepared.now.program in
    let made = c.new-space.ensures in
    let first = c.in-Ok.ensures in
    let t = c.new-space.result in
    let u = c.make_first.new.space in
    let itself = c.in-Ok.itself in
    first.read (none_read t made.below)

pub run_machine-ended-requires-clause-limit : goal.run_machine-ended-requires-clause-limit
run_machine-ended-requires-clause-limit g c =
    let p = c.args.prepared.now.program in
    let made = c.new-space.ensures in
    let first = c.in-Ok.ensures in
    let t = c.new-space.result in
    let u = c.make_first.new.space in
    let itself = c.in-Ok.itself in
    ap (λ (x : Table). x.limit) first.made ∙ made.limit

pub run_machine-ended-requires-clause-whole : goal.run_machine-ended-requires-clause-whole
run_machine-ended-requires-clause-whole g c w =
    let p = c.args.prepared.now.program in
    let made = c.new-space.ensures in
    let first = c.in-Ok.ensures in
    let t = c.new-space.result in
    let u = c.make_first.new.space in
    let itself = c.in-Ok.itself in
    let zero : itself ≡ Local 0 = first.name ∙ ap (λ (s : List Slot). Local (length s)) made.slots in
    let begins = first_state p t u c.args.limits.frames c.args.limits.slots (first_table t c.args.limits.slots made.slots made.below made.keys made.limit made.owner made.next_message) first.made in
    let whole = c.in-Ok-new.ensures.whole u (first_course w) in
    ap (λ s. begun (context_of p) w (tree_at p.nodes.items p.root) s c.args.limits.steps) (begins ∙ ap (λ v. record { memory = first_memory (context_of p) c.args.limits.frames v u; asked = [] }) (sym zero)) ∙ sym whole

pub returns-in-Err : goal.returns-in-Err
returns-in-Err g c =
    let p = c.args.prepared.now.program in
    let t = c.new-space.result in
    let made = c.new-space.ensures in
    stopped_first p c.args.limits _ c.in-Err.fault c.in-Err.ensures.refused (λ is. inl (λ w so adds.
    let more = c.in-Err.ensures.full is in
    let kept = begun_keeps (code_of p w) adds (tree_at p.nodes.items p.root) (start_state (context_of p) c.args.limits.frames (Local 0) (first_objects c.args.limits.slots)) c.args.limits.steps in
    let second = length-append (with_object (new_plain OBJECT.0) [] t).slots (Here (new_plain OBJECT.0) ∷ []) in
    let third = length-append (with_object (new_plain OBJECT.0) [] (with_object (new_plain OBJECT.0) [] t)).slots (Here (array_object []) ∷ []) in
    omega (arith, more, kept, made.limit, ap (λ (s : List Slot). length s) made.slots, length-append t.slots (Here (new_plain OBJECT.0) ∷ []), second, third)))

pub returns-in-Err-new : goal.returns-in-Err-new
returns-in-Err-new g c =
    let p = c.args.prepared.now.program in
    stopped_first p c.args.limits _ c.in-Err-new.fault (inl c.in-Err-new.ensures.fault) (λ is. absurd (cc (sym c.in-Err-new.ensures.fault ∙ is)))
