use Rattle.std.proofs.Common.{◌∙◌, ◌<◌, ◌+◌, length, refl, arith, false}
use Rattle.std.proofs.lemmas.List.Elements.{All-same, All-push}
use Rattle.rr_space.specs.Tables.{graph_of, resolve}
use Rattle.rr_space.specs.Parts.{value_of}
use Rattle.rr_text.specs.Forms.{spelled}
use Rattle.rr_text.specs.Names.{names_of}
use Rattle.rr_text.specs.Reads.{IsAmong}
use Rattle.rr_text.specs.Frames.{lead_at}
use Rattle.rr_text.specs.Same.{triples_in}
use Rattle.rr_text.specs.Joining.{rest_of}
use Rattle.rr_text.specs.declared.joining.Opened.{Opened}
use Rattle.rr_text.proofs.Spelling.{spelled_more}
use Rattle.rr_text.proofs.Looking.{among_child}
use Rattle.rr_text.proofs.Sided.{count_told, value_told}
use Rattle.rr_text.proofs.Joins.{element_next, elements_end, lighter_next, lighter_closed}
use Rattle.rr_text.proofs.joining.Joining.step.Goals as goal

pub returns-then-top-arity-clause-stepped : goal.returns-then-top-arity-clause-stepped
returns-then-top-arity-clause-stepped c = λ below read among.
    let t = c.args.space.now in
    let all = count_told t below c.len-count.ensures.well.sound read c.args.top.array among in
    elements_end (names_of c.args.program.now) (graph_of t.slots below) (λ _. false) c.args.levels c.args.separator.now t.slots c.args.self.now.arrays.items c.args.top (spelled c.args.self.now.walk.out.items) c.requires.depth
    (omega (arith, all, c.arity.ensures.count, c.if-top-arity.true))

pub returns-then-top-arity-clause-lighter : goal.returns-then-top-arity-clause-lighter
returns-then-top-arity-clause-lighter c = lighter_closed c.args.space.now c.args.levels c.args.self.now.arrays.items c.args.top

pub returns-clause-stepped : goal.returns-clause-stepped
returns-clause-stepped c = λ below read among.
    let t = c.args.space.now in
    let sound = c.len-count.ensures.well.sound in
    let f : Opened = record { array = c.args.top.array; next = c.args.top.next + 1 } in
    let all = count_told t below sound read c.args.top.array among in
    let lt : c.args.top.next < length (triples_in (graph_of t.slots below) (resolve t.slots (value_of c.args.top.array))) = omega (arith, all, c.arity.ensures.count, c.if-top-arity.false) in
    element_next (names_of c.args.program.now) (graph_of t.slots below) (λ _. false) c.args.levels c.args.separator.now t.slots c.args.self.now.arrays.items c.args.top (spelled c.args.self.now.walk.out.items)
    c.push.new.self.items f (spelled c.push_separator.new.out.items) (resolve t.slots (value_of c.value_at-value.result)) lt
    (value_told t below sound read c.args.top.array c.value_at-value.result c.args.top.next among c.value_at-value.ensures.is)
    refl c.in_ok-push.ensures.items
    (spelled_more c.args.self.now.walk.out.items c.push_separator.new.out.items (lead_at c.args.top.next c.args.separator.now) c.in_ok-push_separator.ensures)
    ∙ c.in_ok-going.ensures.showed below c.args.separator.now read (among_child t below c.args.top.array c.value_at-value.result read among c.value_at-value.ensures.known)

pub returns-clause-among : goal.returns-clause-among
returns-clause-among c = λ below read all one.
    let f : Opened = record { array = c.args.top.array; next = c.args.top.next + 1 } in
    c.in_ok-going.ensures.among below
    (All-same (λ (f : Opened). IsAmong below f.array) _ _ c.in_ok-push.ensures.items (All-push (λ (f : Opened). IsAmong below f.array) c.args.self.now.arrays.items f all one))
    (among_child c.args.space.now below c.args.top.array c.value_at-value.result read one c.value_at-value.ensures.known)

pub returns-clause-lighter : goal.returns-clause-lighter
returns-clause-lighter c =
    let t = c.args.space.now in
    let f : Opened = record { array = c.args.top.array; next = c.args.top.next + 1 } in
    let less : rest_of t f < rest_of t c.args.top = omega (arith, c.arity.ensures.count, c.if-top-arity.false) in
    lighter_next t c.args.levels c.args.self.now.arrays.items c.push.new.self.items c.show.new.self.arrays.items c.args.top f c.in_ok-push.ensures.items c.requires.depth less c.in_ok-going.ensures.grown
