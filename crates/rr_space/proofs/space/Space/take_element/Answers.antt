use Rattle.rr_space.specs.Writes.{IsElementTaken}
use Rattle.rr_space.proofs.Shortening.{take_slots, take_some, take_below, take_keys, take_none, take_known}
use Rattle.rr_space.proofs.Rewriting.{rewrite, rewrite_inside, rewrite_well}
use Rattle.rr_space.proofs.space.Space.take_element.Goals as goal

pub invariant_of-self : goal.invariant_of-self
invariant_of-self c =
    let q = c.take_element_at in
    rewrite_well (λ a b. IsElementTaken a b c.args.place q.result) _ _ _ _ _ c.in-Local.is c.self.view_is c.requires.can q.ensures
    (λ a b w all. w.grown.within _ all tt) c.self.invariant

pub returns-in-Local-clause-slots : goal.returns-in-Local-clause-slots
returns-in-Local-clause-slots c =
    let q = c.take_element_at in
    take_slots c.args.array c.in-Local.is (rewrite (λ a b. IsElementTaken a b c.args.place q.result) _ _ _ _ _ c.in-Local.is c.self.view_is c.requires.can q.ensures) c.requires.kind

pub returns-in-Local-clause-some : goal.returns-in-Local-clause-some
returns-in-Local-clause-some c =
    let q = c.take_element_at in
    take_some c.args.array c.in-Local.is (rewrite (λ a b. IsElementTaken a b c.args.place q.result) _ _ _ _ _ c.in-Local.is c.self.view_is c.requires.can q.ensures) c.requires.kind

pub returns-in-Local-clause-below : goal.returns-in-Local-clause-below
returns-in-Local-clause-below c =
    let q = c.take_element_at in
    take_below c.args.array c.in-Local.is (rewrite (λ a b. IsElementTaken a b c.args.place q.result) _ _ _ _ _ c.in-Local.is c.self.view_is c.requires.can q.ensures)

pub returns-in-Local-clause-within : goal.returns-in-Local-clause-within
returns-in-Local-clause-within c =
    let q = c.take_element_at in
    let w = rewrite (λ a b. IsElementTaken a b c.args.place q.result) _ _ _ _ _ c.in-Local.is c.self.view_is c.requires.can q.ensures in
    w.how.within_taken _ (rewrite_inside (λ a b. IsElementTaken a b c.args.place q.result) _ _ _ _ _ c.in-Local.is c.self.view_is c.requires.can q.ensures c.self.invariant)

pub returns-in-Local-clause-known : goal.returns-in-Local-clause-known
returns-in-Local-clause-known c =
    let q = c.take_element_at in
    take_known c.args.array c.in-Local.is (rewrite (λ a b. IsElementTaken a b c.args.place q.result) _ _ _ _ _ c.in-Local.is c.self.view_is c.requires.can q.ensures)

pub returns-in-Local-clause-keys : goal.returns-in-Local-clause-keys
returns-in-Local-clause-keys c =
    let q = c.take_element_at in
    take_keys c.args.array c.in-Local.is (rewrite (λ a b. IsElementTaken a b c.args.place q.result) _ _ _ _ _ c.in-Local.is c.self.view_is c.requires.can q.ensures)

pub returns-in-Local-clause-none : goal.returns-in-Local-clause-none
returns-in-Local-clause-none c =
    let q = c.take_element_at in
    take_none c.args.array c.in-Local.is (rewrite (λ a b. IsElementTaken a b c.args.place q.result) _ _ _ _ _ c.in-Local.is c.self.view_is c.requires.can q.ensures)
