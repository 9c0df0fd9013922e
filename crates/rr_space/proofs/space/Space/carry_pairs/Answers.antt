use Rattle.std.proofs.Common.{◌+◌, ◌<◌, length, take, subst, sym, arith}
use Rattle.std.proofs.lemmas.Bool.{false≢true}
use Rattle.rr_space.proofs.Carrying.{AreCarried, entry_more}
use Rattle.rr_space.proofs.space.Space.carry_pairs.Goals as goal
use Rattle.rr_space.proofs.space.Space.carry_pairs.Goals.{in-Some+in_ok-copied+in_ok-insert, in_default}

pub carried-name-requires-clause-known : goal.carried-name-requires-clause-known
carried-name-requires-clause-known c = (c.requires.known c.loop-k.k (c.in-Some.key.now, c.in-Some.pair.now) (sym c.in-Some.ensures.entry)).0

pub carried-value-requires-clause-known : goal.carried-value-requires-clause-known
carried-value-requires-clause-known c = (c.requires.known c.loop-k.k (c.in-Some.key.now, c.in-Some.pair.now) (sym c.in-Some.ensures.entry)).1

pub loop-k-preserved : goal.loop-k-preserved
loop-k-preserved c =
    let t = c.args.self.now in
    let names = c.args.names.now in
    let es = c.args.entries.now.entries in
    let k = c.loop-k.k in
    elim c.match-get_index.branch [
      | in-Some+in_ok-copied+in_ok-insert w ↦
          let n = w.carried-name.ensures in
          let v = w.carried-value.ensures in
          subst (λ m. AreCarried t names (take (k + 1) es) m.entries) (sym w.copies-is)
          (entry_more t names es c.loop-k.copies.entries w.insert.new.self.entries k (w.in-Some.key.now, w.in-Some.pair.now) w.in_ok-copied.field-0 (w.carried-name.result, w.carried-value.result)
          c.len-k-end.ensures.unique (sym w.in-Some.ensures.entry) c.loop-k.invariant
          (record { key = sym w.in_ok-copied.ensures.same; name = record { same = n.same; within = n.within; below = n.below }; value = record { same = v.same; within = v.within; below = v.below } })
          w.in_ok-insert.ensures.entries)
      | in_default w ↦ absurd (false≢true (w.in_default.ensures.found.1 (let lt : k < length es = omega (arith, c.loop-k-test.true, c.len-k-end.ensures.len) in lt)))
    ]
