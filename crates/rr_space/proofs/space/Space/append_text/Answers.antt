use Rattle.rr_space.specs.Writes.{IsTextAppended}
use Rattle.rr_space.proofs.Bytes.{text_within, append_slots, append_refused, bytes_below, bytes_keys}
use Rattle.rr_space.proofs.Rewriting.{rewrite, rewrite_well}
use Rattle.rr_space.proofs.space.Space.append_text.Goals as goal

pub invariant_of-self : goal.invariant_of-self
invariant_of-self c =
    let q = c.append_text_at in
    rewrite_well (λ a b. IsTextAppended a b c.args.bytes.now q.result) _ _ _ _ _ c.in-Local.is c.self.view_is c.requires.can q.ensures.written
    (λ a b w all. text_within _ w.rest all) c.self.invariant

pub returns-in-Local-clause-slots : goal.returns-in-Local-clause-slots
returns-in-Local-clause-slots c =
    let q = c.append_text_at in
    append_slots c.args.text c.in-Local.is (rewrite (λ a b. IsTextAppended a b c.args.bytes.now q.result) _ _ _ _ _ c.in-Local.is c.self.view_is c.requires.can q.ensures.written) c.requires.kind

pub returns-in-Local-clause-below : goal.returns-in-Local-clause-below
returns-in-Local-clause-below c =
    let q = c.append_text_at in
    let w = rewrite (λ a b. IsTextAppended a b c.args.bytes.now q.result) _ _ _ _ _ c.in-Local.is c.self.view_is c.requires.can q.ensures.written in
    bytes_below c.args.text c.in-Local.is w w.how.rest

pub returns-in-Local-clause-keys : goal.returns-in-Local-clause-keys
returns-in-Local-clause-keys c =
    let q = c.append_text_at in
    let w = rewrite (λ a b. IsTextAppended a b c.args.bytes.now q.result) _ _ _ _ _ c.in-Local.is c.self.view_is c.requires.can q.ensures.written in
    bytes_keys c.args.text c.in-Local.is w w.how.rest

pub returns-in-Local-clause-refused : goal.returns-in-Local-clause-refused
returns-in-Local-clause-refused c =
    let q = c.append_text_at in
    append_refused c.args.text c.in-Local.is (rewrite (λ a b. IsTextAppended a b c.args.bytes.now q.result) _ _ _ _ _ c.in-Local.is c.self.view_is c.requires.can q.ensures.written)
