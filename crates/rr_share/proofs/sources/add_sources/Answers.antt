use Rattle.std.proofs.Common.{◌<◌, ◌≤◌, ◌+◌, ◌∙◌, length, subst, sym, arith}
use Rattle.std.proofs.lemmas.Option.{slice_get_within}
use Rattle.rr_space.specs.Tables.{space_graph}
use Rattle.rr_space.specs.Labels.{triples_at}
use Rattle.rr_space.specs.declared.refer.Ref.TheVariants.{Local}
use Rattle.rr_share.specs.Marks.{LeadsBefore}
use Rattle.rr_share.proofs.Searching.{contains_at}
use Rattle.rr_share.proofs.Noting.{sourced_as, sourced_more, before_more, before_on, before_last, before_skip, before_next, before_past}
use Rattle.rr_share.proofs.sources.add_sources.Goals as goal
use Rattle.rr_share.proofs.sources.add_sources.Goals.{in-Some+in_ok-add, in_default}

pub place_of-requires : goal.place_of-requires
place_of-requires c = c.requires.closed.shut c.at-slot.result c.in-Some.end (contains_at c.args.found.now c.args.place c.at-slot.result c.at-slot.ensures) (c.loop-k.k, c.in-Some.ensures.some)

pub add-requires : goal.add-requires
add-requires c = subst (λ k. c.place_of.result < k) (sym c.loop-k.invariant.size) (slice_get_within c.args.found.now c.place_of.result c.in-Some.end c.place_of.ensures)

pub loop-k-preserved : goal.loop-k-preserved
loop-k-preserved c =
    let g = space_graph c.args.space.now in
    let found = c.args.found.now in
    let p = c.args.place in
    let k = c.loop-k.k in
    let s = c.at-slot.result in
    elim c.match-end_at.branch [
      | in-Some+in_ok-add w ↦
          let e = w.in-Some.end in
          let a = w.in_ok-add.ensures.added in
          sourced_more found (LeadsBefore g found p k) (LeadsBefore g found p (k + 1)) c.loop-k.sources c.match-end_at.sources w.place_of.result s e a.0
          c.requires.distinct c.loop-k.invariant w.place_of.ensures a.1 (w.sources-is ∙ a.2)
          (before_more g found p k) (before_last g found p k s e c.at-slot.ensures w.in-Some.ensures.some) (before_on g found p k s e c.at-slot.ensures w.in-Some.ensures.some)
      | in_default w ↦
          rw w.sources-is
          (sourced_as found (LeadsBefore g found p k) (LeadsBefore g found p (k + 1)) c.loop-k.sources c.loop-k.invariant
          (λ m n has w. before_more g found p k n m w) (λ m n has h. before_skip g found p k s c.at-slot.ensures w.in_default.ensures.none n m h))
    ]

pub returns-clause-added : goal.returns-clause-added
returns-clause-added c =
    let t = c.args.space.now in
    let g = space_graph t in
    let found = c.args.found.now in
    let past : length (triples_at t (Local c.at-slot.result)) ≤ c.loop-k.k = omega (arith, c.arity-k-end.ensures, c.loop-k-test.false) in
    let settled = c.requires.closed.settled c.at-slot.result (contains_at found c.args.place c.at-slot.result c.at-slot.ensures) in
    sourced_as found (LeadsBefore g found c.args.place c.loop-k.k) (LeadsBefore g found (c.args.place + 1) 0) c.loop-k.sources c.loop-k.invariant
    (λ m n has w. before_next g found c.args.place c.loop-k.k n m w) (λ m n has w. before_past t found c.args.place c.loop-k.k c.at-slot.result c.at-slot.ensures settled past n m w)
