use Rattle.rr_space.specs.Views.{key_of}
use Rattle.rr_space.specs.Writes.{IsPairWritten}
use Rattle.rr_space.proofs.Hashes.{pair_present, pair_absent, pair_below, pair_refused}
use Rattle.rr_space.proofs.Rewriting.{rewrite, rewrite_well}
use Rattle.rr_space.proofs.space.Space.write_pair.Goals as goal

pub invariant_of-self : goal.invariant_of-self
invariant_of-self c =
    let q = c.write_pair_at in
    rewrite_well (λ a b. IsPairWritten a b (key_of c.args.key) c.args.name c.args.value q.result) _ _ _ _ _ c.in-Local.is c.self.view_is c.requires.can q.ensures.written
    (λ a b w all. w.grown.within _ all (c.requires.name, c.requires.value)) c.self.invariant

pub returns-in-Local-clause-present : goal.returns-in-Local-clause-present
returns-in-Local-clause-present c =
    let q = c.write_pair_at in
    pair_present c.args.hash c.in-Local.is
    (rewrite (λ a b. IsPairWritten a b (key_of c.args.key) c.args.name c.args.value q.result) _ _ _ _ _ c.in-Local.is c.self.view_is c.requires.can q.ensures.written) c.requires.kind

pub returns-in-Local-clause-absent : goal.returns-in-Local-clause-absent
returns-in-Local-clause-absent c =
    let q = c.write_pair_at in
    pair_absent c.args.hash c.in-Local.is
    (rewrite (λ a b. IsPairWritten a b (key_of c.args.key) c.args.name c.args.value q.result) _ _ _ _ _ c.in-Local.is c.self.view_is c.requires.can q.ensures.written) c.requires.kind

pub returns-in-Local-clause-below : goal.returns-in-Local-clause-below
returns-in-Local-clause-below c =
    let q = c.write_pair_at in
    pair_below c.args.hash c.in-Local.is (rewrite (λ a b. IsPairWritten a b (key_of c.args.key) c.args.name c.args.value q.result) _ _ _ _ _ c.in-Local.is c.self.view_is c.requires.can q.ensures.written)

pub returns-in-Local-clause-refused : goal.returns-in-Local-clause-refused
returns-in-Local-clause-refused c =
    let q = c.write_pair_at in
    pair_refused c.args.hash c.in-Local.is (rewrite (λ a b. IsPairWritten a b (key_of c.args.key) c.args.name c.args.value q.result) _ _ _ _ _ c.in-Local.is c.self.view_is c.requires.can q.ensures.written)
