use Rattle.rr_space.specs.Writes.{IsTextWritten}
use Rattle.rr_space.proofs.Bytes.{text_within, text_slots, bytes_below, bytes_keys}
use Rattle.rr_space.proofs.Rewriting.{rewrite, rewrite_well}
use Rattle.rr_space.proofs.space.Space.write_text.Goals as goal

pub invariant_of-self : goal.invariant_of-self
invariant_of-self c =
    rewrite_well (λ a b. IsTextWritten a b c.args.bytes.items) _ _ _ _ _ c.in-Local.is c.self.view_is c.requires.can c.write_text_at.ensures
    (λ a b w all. text_within _ w.rest all) c.self.invariant

pub returns-in-Local-clause-slots : goal.returns-in-Local-clause-slots
returns-in-Local-clause-slots c =
    text_slots c.args.text c.in-Local.is (rewrite (λ a b. IsTextWritten a b c.args.bytes.items) _ _ _ _ _ c.in-Local.is c.self.view_is c.requires.can c.write_text_at.ensures) c.requires.kind

pub returns-in-Local-clause-below : goal.returns-in-Local-clause-below
returns-in-Local-clause-below c =
    let w = rewrite (λ a b. IsTextWritten a b c.args.bytes.items) _ _ _ _ _ c.in-Local.is c.self.view_is c.requires.can c.write_text_at.ensures in
    bytes_below c.args.text c.in-Local.is w w.how.rest

pub returns-in-Local-clause-keys : goal.returns-in-Local-clause-keys
returns-in-Local-clause-keys c =
    let w = rewrite (λ a b. IsTextWritten a b c.args.bytes.items) _ _ _ _ _ c.in-Local.is c.self.view_is c.requires.can c.write_text_at.ensures in
    bytes_keys c.args.text c.in-Local.is w w.how.rest
