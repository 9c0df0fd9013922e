use Rattle.rr_space.specs.Writes.{IsElementWritten}
use Rattle.rr_space.proofs.Arrays.{set_slots, set_below, set_keys}
use Rattle.rr_space.proofs.Rewriting.{rewrite, rewrite_well}
use Rattle.rr_space.proofs.space.Space.write_element.Goals as goal

pub invariant_of-self : goal.invariant_of-self
invariant_of-self c =
    rewrite_well (λ a b. IsElementWritten a b c.args.place c.args.value) _ _ _ _ _ c.in-Local.is c.self.view_is c.requires.can c.write_element_at.ensures
    (λ a b w all. w.one.grown.within _ all c.requires.within) c.self.invariant

pub returns-in-Local-clause-slots : goal.returns-in-Local-clause-slots
returns-in-Local-clause-slots c =
    set_slots c.args.array c.in-Local.is
    (rewrite (λ a b. IsElementWritten a b c.args.place c.args.value) _ _ _ _ _ c.in-Local.is c.self.view_is c.requires.can c.write_element_at.ensures) c.requires.kind c.requires.place

pub returns-in-Local-clause-below : goal.returns-in-Local-clause-below
returns-in-Local-clause-below c =
    set_below c.args.array c.in-Local.is
    (rewrite (λ a b. IsElementWritten a b c.args.place c.args.value) _ _ _ _ _ c.in-Local.is c.self.view_is c.requires.can c.write_element_at.ensures)

pub returns-in-Local-clause-keys : goal.returns-in-Local-clause-keys
returns-in-Local-clause-keys c =
    set_keys c.args.array c.in-Local.is
    (rewrite (λ a b. IsElementWritten a b c.args.place c.args.value) _ _ _ _ _ c.in-Local.is c.self.view_is c.requires.can c.write_element_at.ensures)
