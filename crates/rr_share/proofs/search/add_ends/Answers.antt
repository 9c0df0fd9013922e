use Rattle.std.proofs.Common.{◌≤◌, ◌∙◌, ◌+◌, length, arith}
use Rattle.rr_space.specs.Labels.{triples_at}
use Rattle.rr_space.specs.Tables.{space_graph}
use Rattle.rr_space.specs.declared.refer.Ref.TheVariants.{Local}
use Rattle.rr_share.specs.Search.{LeadsBelow, LeadsOn}
use Rattle.rr_share.proofs.Searching.{adds_as, adds_one}
use Rattle.rr_share.proofs.Ends.{below_on, below_skip, below_more, below_last, below_all}
use Rattle.rr_share.proofs.search.add_ends.Goals as goal
use Rattle.rr_share.proofs.search.add_ends.Goals.{in-Some+in_ok-add, in_default}

pub loop-k-preserved : goal.loop-k-preserved
loop-k-preserved c =
    let g = space_graph c.args.space.now in
    let n = c.args.slot in
    let k = c.loop-k.k in
    elim c.match-end_at.branch [
      | in-Some+in_ok-add w ↦
          adds_one (LeadsBelow g n k) (LeadsBelow g n (k + 1)) c.args.found.now c.loop-k.found c.match-end_at.found w.in-Some.end c.loop-k.invariant (w.found-is ∙ w.in_ok-add.ensures.added)
          (λ m h. below_on g n k w.in-Some.end m w.in-Some.ensures.some h) (λ m h. below_more g n k m h) (below_last g n k w.in-Some.end w.in-Some.ensures.some)
      | in_default w ↦
          rw w.found-is
          (adds_as (LeadsBelow g n k) (LeadsBelow g n (k + 1)) c.args.found.now c.loop-k.found c.loop-k.invariant
          (λ m h. below_skip g n k m w.in_default.ensures.none h) (λ m h. below_more g n k m h))
    ]

pub returns-clause-added : goal.returns-clause-added
returns-clause-added c =
    let t = c.args.space.now in
    let g = space_graph t in
    let past : length (triples_at t (Local c.args.slot)) ≤ c.loop-k.k = omega (arith, c.arity-k-end.ensures, c.loop-k-test.false) in
    adds_as (LeadsBelow g c.args.slot c.loop-k.k) (LeadsOn g c.args.slot) c.args.found.now c.loop-k.found c.loop-k.invariant
    (λ m h. below_all t c.args.slot c.loop-k.k m c.requires past h) (λ m h. (h.0, h.2))
