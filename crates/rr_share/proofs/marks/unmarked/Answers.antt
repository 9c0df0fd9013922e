use Rattle.std.proofs.Common.{◌≡◌, ◌≤◌, ◌↔◌, ℕ, slice_get, Some, Contains}
use Rattle.std.proofs.lemmas.Result.{IfOk-weaker}
use Rattle.rr_share.proofs.Places.{behind}
use Rattle.rr_share.proofs.marks.unmarked.Goals as goal

pub returns-clause-exact : goal.returns-clause-exact
returns-clause-exact c =
    let all = c.add_set.new.set in
    IfOk-weaker c.slots_from.result (λ rest. (n : ℕ) → Contains rest n ↔ ((i : ℕ) × (c.len-count.result ≤ i) × (slice_get all i ≡ Some n))) (λ rest. (n : ℕ) → Contains rest n ↔ (Contains c.args.found.now n × (Contains c.args.marked n → ⊥)))
    (λ rest e n. let b = behind c.args.marked c.args.found.now all c.len-count.result c.len-count.ensures.len c.in_ok-add_set.ensures.added c.slots_from.ensures.distinct n in (λ w. b.0 ((e n).0 w), λ w. (e n).1 (b.1 w)))
    c.slots_from.ensures.exact
