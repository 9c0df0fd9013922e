use Rattle.std.proofs.Common.{subst}
use Rattle.rr_space.specs.Parts.{value_of}
use Rattle.rr_space.specs.Tables.{graph_of}
use Rattle.rr_space.specs.Kinds.{kind_at}
use Rattle.rr_text.specs.Forms.{leaf_text, spelled}
use Rattle.rr_text.specs.Names.{names_of}
use Rattle.rr_text.specs.Told.{told_kind, told_object, IsLeafWritten}
use Rattle.rr_text.specs.Ways.{way_of}
use Rattle.rr_text.proofs.Leaves.{leaf_shows, shell_shows, told_leaf}
use Rattle.rr_text.proofs.walk.Walk.show_leaf.Goals as goal

pub returns-then-branch-clause-showed : goal.returns-then-branch-clause-showed
returns-then-branch-clause-showed c = λ below read among.
    let t = c.args.space.now in
    let names = names_of c.args.program.now in
    let g = graph_of t.slots below in
    let way = way_of c.args.form in
    let bytes = c.args.self.now.out.items in
    let bytes' = c.write_leaf.new.out.items in
    let text = leaf_text names g way (told_kind (kind_at t c.args.object)) (told_object t c.args.object) in
    leaf_shows names g c.args.levels c.args.self.now.frames.items bytes bytes' (way, value_of c.args.object) text
    (told_leaf names t below c.args.object c.requires.object.0 way c.requires.well.sound read among c.requires.end c.requires.object.1 c.requires.array c.requires.hash)
    (subst (λ now. IsLeafWritten text now bytes bytes') c.if-branch.true (c.in_ok-write_leaf.ensures.written below read among))

pub returns-else-branch-clause-showed : goal.returns-else-branch-clause-showed
returns-else-branch-clause-showed c = λ below read among.
    let t = c.args.space.now in
    let names = names_of c.args.program.now in
    let g = graph_of t.slots below in
    let way = way_of c.args.form in
    let bytes = c.args.self.now.out.items in
    let bytes' = c.write_leaf.new.out.items in
    let text = leaf_text names g way (told_kind (kind_at t c.args.object)) (told_object t c.args.object) in
    shell_shows names g c.args.levels c.args.self.now.frames.items (spelled bytes) (spelled bytes') bytes bytes' (way, value_of c.args.object) text
    (told_leaf names t below c.args.object c.requires.object.0 way c.requires.well.sound read among c.requires.end c.requires.object.1 c.requires.array c.requires.hash)
    (subst (λ now. IsLeafWritten text now bytes bytes') c.if-branch.false (c.in_ok-write_leaf.ensures.written below read among))
