use Rattle.std.proofs.Common.{◌≡◌, ◌∙◌, sym, ap, subst}
use Rattle.rr_space.specs.Tables.{graph_of}
use Rattle.rr_space.specs.Kinds.{class_at}
use Rattle.rr_space.specs.declared.kind.Kind.{Kind}
use Rattle.rr_base.specs.declared.name.ClassId.{ClassId}
use Rattle.rr_text.specs.Forms.{leaf_text}
use Rattle.rr_text.specs.Names.{names_of}
use Rattle.rr_text.specs.Told.{told_kind, told_object, IsLeafWritten}
use Rattle.rr_text.specs.Ways.{way_of}
use Rattle.rr_text.proofs.leaf.write_leaf.Goals as goal

pub returns-in_ok-written-in-Exception-clause-written : goal.returns-in_ok-written-in-Exception-clause-written
returns-in_ok-written-in-Exception-clause-written c = λ below read among.
    let named : (names_of c.args.program.now).class (class_at c.args.space.now c.args.object).0 ≡ c.class_name-class.result.now =
    sym (c.class_name-class.ensures ∙ ap (λ (k : ClassId). (names_of c.args.program.now).class k.0) c.class_of-in-Exception.ensures) in
    subst (λ (k : Kind). IsLeafWritten (leaf_text (names_of c.args.program.now) (graph_of c.args.space.now.slots below) (way_of c.args.form) (told_kind k) (told_object c.args.space.now c.args.object))
    c.in_ok-written-in-Exception.written c.args.out.now.items c.write_exception.new.out.items)
    c.in-Exception.ensures
    (c.in_ok-written-in-Exception.ensures.written (names_of c.args.program.now) (class_at c.args.space.now c.args.object).0 below named read among)
