use Rattle.std.proofs.Common.{◌≡◌, ◌∙◌, ◌-◌, length, ap, sym, arith, false}
use Rattle.rr_space.specs.Tables.{graph_of, resolve}
use Rattle.rr_space.specs.Parts.{value_of}
use Rattle.rr_text.specs.Walk.{Wrote, followed}
use Rattle.rr_text.specs.Forms.{spelled, pieced, spoken}
use Rattle.rr_text.specs.Names.{names_of}
use Rattle.rr_text.proofs.Sided.{kind_told}
use Rattle.rr_text.proofs.Joins.{told_now, grown_same}
use Rattle.rr_text.proofs.joining.Joining.show.Goals as goal

pub returns-in_ok-going-in-Array-clause-showed : goal.returns-in_ok-going-in-Array-clause-showed
returns-in_ok-going-in-Array-clause-showed c = λ below separator read among.
    c.in_ok-going-in-Array.ensures.showed (names_of c.args.program.now) (graph_of c.args.space.now.slots below) (λ _. false) separator (spelled c.args.self.now.walk.out.items)
    (kind_told c.args.space.now below c.len-count.ensures.well.sound read c.args.value among ∙ sym c.kind_of.ensures ∙ c.in-Array.is)

pub returns-in_ok-going-in_default-clause-showed : goal.returns-in_ok-going-in_default-clause-showed
returns-in_ok-going-in_default-clause-showed c = λ below separator read among.
    let t = c.args.space.now in
    let names = names_of c.args.program.now in
    let g = graph_of t.slots below in
    let v = resolve t.slots (value_of c.args.value) in
    let fs = c.args.self.now.arrays.items in
    let out = spelled c.args.self.now.walk.out.items in
    let deep : length fs ≡ c.len.result = omega (arith, c.len.ensures) in
    told_now names g (λ _. false) c.args.levels separator t.slots fs out (spelled c.write_value.new.walk.out.items) c.kind_of.result v c.in_ok-going-in_default.going
    (kind_told t below c.len-count.ensures.well.sound read c.args.value among ∙ sym c.kind_of.ensures) c.in_default.not-Array
    (ap (λ n. followed (Wrote out) (pieced names g (λ _. false) (c.args.levels - n) spoken v)) deep ∙ c.in_ok-going-in_default.ensures.written below read among)

pub returns-in_ok-going-in_default-clause-grown : goal.returns-in_ok-going-in_default-clause-grown
returns-in_ok-going-in_default-clause-grown c = grown_same c.args.space.now c.args.levels c.args.self.now.arrays.items c.requires.fit
