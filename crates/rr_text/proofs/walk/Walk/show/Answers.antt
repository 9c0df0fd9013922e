use Rattle.std.proofs.Common.{ℕ, List, subst, false}
use Rattle.rr_space.specs.Graph.{Value}
use Rattle.rr_space.specs.Parts.{value_of}
use Rattle.rr_space.specs.Tables.{graph_of}
use Rattle.rr_text.specs.Forms.{spelled}
use Rattle.rr_text.specs.Names.{names_of}
use Rattle.rr_text.specs.Ways.{way_of}
use Rattle.rr_text.specs.Frames.{Showed}
use Rattle.rr_text.proofs.Loads.{grown_same}
use Rattle.rr_text.proofs.Spelling.{spelled_more}
use Rattle.rr_text.proofs.Looking.{among_child}
use Rattle.rr_text.proofs.Leaves.{is_object, written_shows}
use Rattle.rr_text.proofs.walk.Walk.show.Goals as goal

pub returns-then-branch-clause-showed : goal.returns-then-branch-clause-showed
returns-then-branch-clause-showed c = λ below read among.
    let bytes = c.args.self.now.out.items in
    written_shows (names_of c.args.program.now) (graph_of c.args.space.now.slots below) (λ _. false) c.args.space.now.slots c.args.levels c.args.self.now.frames.items (spelled bytes)
    (spelled c.push_immediate.new.out.items) bytes c.push_immediate.new.out.items (way_of c.args.form) (value_of c.args.value) c.in_ok-push_immediate.field-0 c.in_ok-push_immediate.ensures c.if-branch.true
    (λ s more. spelled_more bytes c.push_immediate.new.out.items s more)

pub returns-then-branch-clause-grown : goal.returns-then-branch-clause-grown
returns-then-branch-clause-grown c = grown_same c.args.space.now c.args.levels c.args.self.now.frames.items c.requires.fit

pub returns-clause-showed : goal.returns-clause-showed
returns-clause-showed c = λ below read among.
    let names = names_of c.args.program.now in
    let g = graph_of c.args.space.now.slots below in
    let o = is_object names (way_of c.args.form) (value_of c.args.value) c.in_ok-push_immediate.field-0 c.args.self.now.out.items c.push_immediate.new.out.items c.in_ok-push_immediate.ensures c.if-branch.false in
    subst (λ (v : Value). Showed names g (λ _. false) c.args.levels c.args.self.now.frames.items (spelled c.args.self.now.out.items) (way_of c.args.form, v) c.in_ok-going.going c.show_object.new.self.frames.items
    (spelled c.show_object.new.self.out.items))
    c.resolve-object.ensures.value
    (subst (λ (s : List ℕ). Showed names g (λ _. false) c.args.levels c.args.self.now.frames.items (spelled s) (way_of c.args.form, value_of c.resolve-object.result) c.in_ok-going.going
    c.show_object.new.self.frames.items (spelled c.show_object.new.self.out.items))
    o.2 (c.in_ok-going.ensures.showed below read (among_child c.args.space.now below c.args.value c.resolve-object.result read among c.resolve-object.ensures.below)))

pub returns-clause-among : goal.returns-clause-among
returns-clause-among c = λ below read all one.
    c.in_ok-going.ensures.among below all (among_child c.args.space.now below c.args.value c.resolve-object.result read one c.resolve-object.ensures.below)
