use Rattle.rr_space.specs.Writes.{IsFieldWritten}
use Rattle.rr_space.proofs.Putting.{put_present, put_absent, put_below, put_keys, put_refused}
use Rattle.rr_space.proofs.Rewriting.{rewrite, rewrite_well}
use Rattle.rr_space.proofs.space.Space.write_field.Goals as goal

pub invariant_of-self : goal.invariant_of-self
invariant_of-self c =
    let q = c.write_field_at in
    rewrite_well (λ a b. IsFieldWritten a b c.args.name.0 c.args.value q.result) _ _ _ _ _ c.in-Local.is c.self.view_is c.requires.can q.ensures.written
    (λ a b w all. w.one.grown.within _ all c.requires.within) c.self.invariant

pub returns-in-Local-clause-present : goal.returns-in-Local-clause-present
returns-in-Local-clause-present c =
    let q = c.write_field_at in
    put_present c.args.object c.in-Local.is
    (rewrite (λ a b. IsFieldWritten a b c.args.name.0 c.args.value q.result) _ _ _ _ _ c.in-Local.is c.self.view_is c.requires.can q.ensures.written) c.requires.kind

pub returns-in-Local-clause-absent : goal.returns-in-Local-clause-absent
returns-in-Local-clause-absent c =
    let q = c.write_field_at in
    put_absent c.args.object c.in-Local.is
    (rewrite (λ a b. IsFieldWritten a b c.args.name.0 c.args.value q.result) _ _ _ _ _ c.in-Local.is c.self.view_is c.requires.can q.ensures.written) c.requires.kind

pub returns-in-Local-clause-below : goal.returns-in-Local-clause-below
returns-in-Local-clause-below c =
    let q = c.write_field_at in
    put_below c.args.object c.in-Local.is
    (rewrite (λ a b. IsFieldWritten a b c.args.name.0 c.args.value q.result) _ _ _ _ _ c.in-Local.is c.self.view_is c.requires.can q.ensures.written)

pub returns-in-Local-clause-keys : goal.returns-in-Local-clause-keys
returns-in-Local-clause-keys c =
    let q = c.write_field_at in
    put_keys c.args.object c.in-Local.is
    (rewrite (λ a b. IsFieldWritten a b c.args.name.0 c.args.value q.result) _ _ _ _ _ c.in-Local.is c.self.view_is c.requires.can q.ensures.written)

pub returns-in-Local-clause-refused : goal.returns-in-Local-clause-refused
returns-in-Local-clause-refused c =
    let q = c.write_field_at in
    put_refused c.args.object c.in-Local.is
    (rewrite (λ a b. IsFieldWritten a b c.args.name.0 c.args.value q.result) _ _ _ _ _ c.in-Local.is c.self.view_is c.requires.can q.ensures.written)
