use Rattle.std.proofs.Common.{◌≡◌, ◌∙◌, ◌<◌, ◌∷◌, [], length, refl, sym, ap, arith}
use Rattle.rr_space.specs.Parts.{value_of}
use Rattle.rr_space.specs.Tables.{graph_of}
use Rattle.rr_text.specs.Forms.{Way, spelled, look, same_key, array_look}
use Rattle.rr_text.specs.Ways.{way_of}
use Rattle.rr_text.specs.Frames.{thing_in, begun_of}
use Rattle.rr_text.proofs.Spelling.{spelled_more}
use Rattle.rr_text.proofs.Loads.{grown_same}
use Rattle.rr_text.proofs.Looking.{array_found, count_found, line_none}
use Rattle.rr_text.proofs.Stack.{leaf_showed}
use Rattle.rr_text.proofs.walk.Walk.show_array.Goals as goal

pub returns-in_ok-going-in-ToS-clause-showed : goal.returns-in_ok-going-in-ToS-clause-showed
returns-in_ok-going-in-ToS-clause-showed c = λ names asks below read among.
    let g = graph_of c.args.space.now.slots below in
    c.in_ok-going-in-ToS.ensures.showed names g asks (way_of c.args.form, value_of c.args.array)
    (array_found names asks c.args.space.now below c.args.array c.requires.object.0 (way_of c.args.form) c.requires.well.sound read among c.requires.end c.requires.object.1 c.requires.kind
    ∙ ap (λ (w : Way). array_look names g w (value_of c.args.array) (thing_in names g (value_of c.args.array)).triples) (ap way_of c.in-ToS.is))

pub returns-in_ok-going-in-Inspect-clause-showed : goal.returns-in_ok-going-in-Inspect-clause-showed
returns-in_ok-going-in-Inspect-clause-showed c = λ names asks below read among.
    let g = graph_of c.args.space.now.slots below in
    c.in_ok-going-in-Inspect.ensures.showed names g asks (way_of c.args.form, value_of c.args.array)
    (array_found names asks c.args.space.now below c.args.array c.requires.object.0 (way_of c.args.form) c.requires.well.sound read among c.requires.end c.requires.object.1 c.requires.kind
    ∙ ap (λ (w : Way). array_look names g w (value_of c.args.array) (thing_in names g (value_of c.args.array)).triples) (ap way_of c.in-Inspect.is))

pub returns-in_ok-push-in-Puts-clause-showed : goal.returns-in_ok-push-in-Puts-clause-showed
returns-in_ok-push-in-Puts-clause-showed c = λ names asks below read among.
    let g = graph_of c.args.space.now.slots below in
    let ts = (thing_in names g (value_of c.args.array)).triples in
    let none : length ts ≡ 0 =
    count_found names asks c.args.space.now below c.args.array c.requires.object.0 (way_of c.args.form) c.requires.well.sound read among c.requires.end c.requires.object.1
    ∙ sym c.arity.ensures.count ∙ c.if-arity-eq0.true in
    leaf_showed (look names g asks) same_key (begun_of names g) c.args.levels c.args.self.now.frames.items c.args.self.now.frames.items (spelled c.args.self.now.out.items) (spelled c.push.new.self.items) (spelled (10 ∷ []))
    (way_of c.args.form, value_of c.args.array)
    (array_found names asks c.args.space.now below c.args.array c.requires.object.0 (way_of c.args.form) c.requires.well.sound read among c.requires.end c.requires.object.1 c.requires.kind
    ∙ ap (λ (w : Way). array_look names g w (value_of c.args.array) ts) (ap way_of c.in-Puts.is)
    ∙ line_none names g (value_of c.args.array) ts none)
    refl (spelled_more c.args.self.now.out.items c.push.new.self.items (10 ∷ []) c.in_ok-push-in-Puts.ensures.items)

pub returns-in_ok-push-in-Puts-clause-grown : goal.returns-in_ok-push-in-Puts-clause-grown
returns-in_ok-push-in-Puts-clause-grown c = grown_same c.args.space.now c.args.levels c.args.self.now.frames.items c.requires.fit

pub returns-in_ok-going-in-Puts-clause-showed : goal.returns-in_ok-going-in-Puts-clause-showed
returns-in_ok-going-in-Puts-clause-showed c = λ names asks below read among.
    let g = graph_of c.args.space.now.slots below in
    let ts = (thing_in names g (value_of c.args.array)).triples in
    let some : 0 < length ts =
    omega (
      arith,
      count_found names asks c.args.space.now below c.args.array c.requires.object.0 (way_of c.args.form) c.requires.well.sound read among c.requires.end c.requires.object.1,
      c.arity.ensures.count,
      c.if-arity-eq0.false,
    ) in
    c.in_ok-going-in-Puts.ensures.showed names g asks (way_of c.args.form, value_of c.args.array) some
    (array_found names asks c.args.space.now below c.args.array c.requires.object.0 (way_of c.args.form) c.requires.well.sound read among c.requires.end c.requires.object.1 c.requires.kind
    ∙ ap (λ (w : Way). array_look names g w (value_of c.args.array) ts) (ap way_of c.in-Puts.is))
