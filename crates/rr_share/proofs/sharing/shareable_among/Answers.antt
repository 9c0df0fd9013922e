use Rattle.std.proofs.Common.{ℕ, ◌↔◌, Contains, IsTrue, subst}
use Rattle.std.proofs.lemmas.Result.{IfOk-weaker}
use Rattle.rr_space.specs.Graph.{Own, At, IsShareable}
use Rattle.rr_space.specs.Tables.{space_graph}
use Rattle.rr_space.proofs.Marks.{marks_decide}
use Rattle.rr_share.proofs.Searching.{none_in}
use Rattle.rr_share.proofs.Solids.{shareable_is_solid}
use Rattle.rr_share.proofs.sharing.shareable_among.Goals as goal

pub returns-clause-exact : goal.returns-clause-exact
returns-clause-exact c =
    let g = space_graph c.args.space.now in
    let found = c.args.found.now in
    let marked = c.in_ok-marked.marked in
    IfOk-weaker c.unmarked.result (λ rest. (n : ℕ) → Contains rest n ↔ (Contains found n × (Contains marked n → ⊥))) (λ rest. (n : ℕ) → Contains rest n ↔ (Contains found n × IsShareable g (At (Own n))))
    (λ rest e n. (
      λ w. let s = (e n).0 w in (s.0, (marks_decide g found marked n c.in_ok-marked.ensures.exact s.0).0 s.1),
      λ s. (e n).1 (s.0, λ bad. (marks_decide g found marked n c.in_ok-marked.ensures.exact s.0).1 bad s.1),
    ))
    c.unmarked.ensures.exact

pub returns-then-not-has_solid-clause-exact : goal.returns-then-not-has_solid-clause-exact
returns-then-not-has_solid-clause-exact c n = (
  λ w. absurd (none_in n (subst (λ xs. Contains xs n) c.new.ensures w)),
  λ s. let yes : IsTrue c.has_solid.result = c.has_solid.ensures.1 (n, s.0, shareable_is_solid c.args.space.now n s.1) in absurd (cc),
)
