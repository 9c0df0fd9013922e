use Rattle.std.proofs.Common.{◌∙◌, ◌++◌, ℕ, List, IfOk, sym, ap, subst}
use Rattle.rr_base.specs.declared.limits.TheConstants.Limits.{DEFAULT}
use Rattle.rr_space.specs.Parts.{value_of}
use Rattle.rr_space.specs.Tables.{Below, graph_of, resolve}
use Rattle.rr_text.specs.Forms.{printed, text_written}
use Rattle.rr_text.specs.Names.{names_of}
use Rattle.rr_text.specs.Ways.{way_of, IsWrittenBehind}
use Rattle.rr_text.specs.Reads.{IsAmong, IsReadWith}
use Rattle.rr_text.proofs.Alone.{immediate_behind, text_behind}
use Rattle.rr_text.proofs.Leaves.{is_object}
use Rattle.rr_text.proofs.Looking.{among_child, resolved_name}
use Rattle.rr_text.proofs.behind.write_text.Goals as goal

pub returns-then-branch-clause-written : goal.returns-then-branch-clause-written
returns-then-branch-clause-written c = λ below read among.
    immediate_behind (names_of c.args.program.now) (graph_of c.args.space.now.slots below) DEFAULT.levels (way_of c.args.form) c.args.space.now.slots (value_of c.args.value) c.in_ok-push_immediate.field-0 c.args.out.now.items
    c.push_immediate.new.out.items c.in_ok-push_immediate.ensures c.if-branch.true

pub returns-in_ok-push_text-in-Text-clause-written : goal.returns-in_ok-push_text-in-Text-clause-written
returns-in_ok-push_text-in-Text-clause-written c = λ below read among.
    let t = c.args.space.now in
    let names = names_of c.args.program.now in
    let way = way_of c.args.form in
    let old = c.args.out.now.items in
    let left = is_object names way (value_of c.args.value) c.in_ok-push_immediate.field-0 old c.push_immediate.new.out.items c.in_ok-push_immediate.ensures c.if-branch.false in
    let name = resolved_name t.slots left.0 in
    text_behind names t below (value_of c.args.value) c.resolve-object.result name.0 DEFAULT.levels way old c.push_text.new.out.items c.len-slots.ensures.well.sound read
    (among_child t below c.args.value c.resolve-object.result read among c.resolve-object.ensures.below) c.resolve-object.ensures.value
    (c.resolve-object.ensures.value ∙ ap (resolve t.slots) left.1 ∙ name.1) (sym c.in-Text.ensures)
    (c.in_ok-push_text-in-Text.ensures ∙ ap (λ (s : List ℕ). s ++ text_written way c.text_bytes.result.now) left.2 ∙ ap (λ (s : List ℕ). old ++ text_written way s) c.text_bytes.ensures)

pub returns-in_default : goal.returns-in_default
returns-in_default c = record {
  written =
      let left = is_object (names_of c.args.program.now) (way_of c.args.form) (value_of c.args.value) c.in_ok-push_immediate.field-0 c.args.out.now.items c.push_immediate.new.out.items c.in_ok-push_immediate.ensures c.if-branch.false in
      subst (λ (old : List ℕ). IfOk c.write_walked.result (λ lack. (below : Below) → IsReadWith c.args.space.now below → IsAmong below c.args.value
      → IsWrittenBehind lack old c.write_walked.new.out.items
      (printed (names_of c.args.program.now) (graph_of c.args.space.now.slots below) DEFAULT.levels (way_of c.args.form) (resolve c.args.space.now.slots (value_of c.args.value)))))
      left.2 c.write_walked.ensures.written;
  fault = c.write_walked.ensures.fault;
}
