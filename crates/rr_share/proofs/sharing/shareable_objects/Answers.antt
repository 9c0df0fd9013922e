use Rattle.std.proofs.Common.{◌≡◌, ◌↔◌, ℕ, length, slice_get, Some, Contains, subst}
use Rattle.std.proofs.lemmas.Result.{IfOk-weaker}
use Rattle.rr_space.specs.Graph.{Own, At, Object, Reaches, IsShareable}
use Rattle.rr_space.specs.Parts.{value_of}
use Rattle.rr_space.specs.Tables.{Here, IsBelow, space_graph, resolve}
use Rattle.rr_share.proofs.Ends.{none_reached, reaches_on}
use Rattle.rr_share.proofs.Searching.{none_in}
use Rattle.rr_share.proofs.sharing.shareable_objects.Goals as goal

pub shareable_among-requires : goal.shareable_among-requires
shareable_among-requires c =
    let t = c.args.space.now in
    let v = resolve t.slots (value_of c.args.root) in
    record {
      settled = c.in_ok-found.ensures.settled;
      shut = λ n m w s. (c.in_ok-found.ensures.exact m).1 (reaches_on (space_graph t) v n s.0 m ((c.in_ok-found.ensures.exact n).0 w) s.1);
    }

pub returns-in_default : goal.returns-in_default
returns-in_default c = record {
  exact = λ n. (
    λ w. absurd (none_in n (subst (λ xs. Contains xs n) c.new.ensures w)),
    λ s. absurd (none_reached c.args.space.now c.args.root c.len-slots.ensures.well.sound c.in_default.not-Local n s.0),
  );
  within = λ below n w. absurd (none_in n (subst (λ xs. Contains xs n) c.new.ensures w));
  fault = tt;
  grows = tt;
}

pub returns-clause-exact : goal.returns-clause-exact
returns-clause-exact c =
    let t = c.args.space.now in
    let g = space_graph t in
    let v = resolve t.slots (value_of c.args.root) in
    let found = c.in_ok-found.found in
    IfOk-weaker c.shareable_among.result (λ rest. (n : ℕ) → Contains rest n ↔ (Contains found n × IsShareable g (At (Own n)))) (λ rest. (n : ℕ) → Contains rest n ↔ (Reaches g v (Own n) × IsShareable g (At (Own n))))
    (λ rest e n. (
      λ w. let s = (e n).0 w in ((c.in_ok-found.ensures.exact n).0 s.0, s.1),
      λ s. (e n).1 ((c.in_ok-found.ensures.exact n).1 s.0, s.1),
    ))
    c.shareable_among.ensures.exact

pub returns-clause-within : goal.returns-clause-within
returns-clause-within c =
    let t = c.args.space.now in
    let found = c.in_ok-found.found in
    IfOk-weaker c.shareable_among.result (λ rest. (n : ℕ) → Contains rest n ↔ (Contains found n × IsShareable (space_graph t) (At (Own n))))
    (λ rest. IsBelow (length t.slots) (value_of c.args.root) → (n : ℕ) → Contains rest n → (o : Object) × (slice_get t.slots n ≡ Some (Here o)))
    (λ rest e below n w. c.in_ok-found.ensures.within below n ((e n).0 w).0)
    c.shareable_among.ensures.exact
