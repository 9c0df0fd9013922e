use Rattle.rr_space.specs.Writes.{IsElementPushed}
use Rattle.rr_space.proofs.Arrays.{push_slots, push_below, push_keys, push_refused}
use Rattle.rr_space.proofs.Rewriting.{rewrite, rewrite_well}
use Rattle.rr_space.proofs.space.Space.push_element.Goals as goal

pub invariant_of-self : goal.invariant_of-self
invariant_of-self c =
    let q = c.push_element_at in
    rewrite_well (λ a b. IsElementPushed a b c.args.value q.result) _ _ _ _ _ c.in-Local.is c.self.view_is c.requires.can q.ensures.written
    (λ a b w all. w.one.grown.within _ all c.requires.within) c.self.invariant

pub returns-in-Local-clause-slots : goal.returns-in-Local-clause-slots
returns-in-Local-clause-slots c =
    let q = c.push_element_at in
    push_slots c.args.array c.in-Local.is (rewrite (λ a b. IsElementPushed a b c.args.value q.result) _ _ _ _ _ c.in-Local.is c.self.view_is c.requires.can q.ensures.written) c.requires.kind

pub returns-in-Local-clause-below : goal.returns-in-Local-clause-below
returns-in-Local-clause-below c =
    let q = c.push_element_at in
    push_below c.args.array c.in-Local.is (rewrite (λ a b. IsElementPushed a b c.args.value q.result) _ _ _ _ _ c.in-Local.is c.self.view_is c.requires.can q.ensures.written)

pub returns-in-Local-clause-keys : goal.returns-in-Local-clause-keys
returns-in-Local-clause-keys c =
    let q = c.push_element_at in
    push_keys c.args.array c.in-Local.is (rewrite (λ a b. IsElementPushed a b c.args.value q.result) _ _ _ _ _ c.in-Local.is c.self.view_is c.requires.can q.ensures.written)

pub returns-in-Local-clause-refused : goal.returns-in-Local-clause-refused
returns-in-Local-clause-refused c =
    let q = c.push_element_at in
    push_refused c.args.array c.in-Local.is (rewrite (λ a b. IsElementPushed a b c.args.value q.result) _ _ _ _ _ c.in-Local.is c.self.view_is c.requires.can q.ensures.written)
