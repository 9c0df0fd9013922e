use Rattle.std.proofs.Common.{rules, ◌≡◌, ◌∷◌, [], ◌++◌, map, length, ap, refl, ◌∙◌, ℕ, Bor}
use Rattle.std.proofs.lemmas.List.{map-append, length-map}
use Rattle.rr_space.specs.Tables.{Whole}
use Rattle.rr_space.specs.declared.refer.Cluster.{Cluster}
use Rattle.rr_base.specs.declared.event.StoreEvent.TheVariants.{Published}
use Rattle.rr_store.specs.Stores.{Store, HasEvent}
use Rattle.rr_store.specs.Answers.{numbered_next}
use Rattle.rr_store.proofs.Keeping.{kept_published}
use Rattle.rr_store.proofs.state.StoreState.publish.Goals as goal

pub invariant_of-self-2 : goal.invariant_of-self-2
invariant_of-self-2 c =
    let s : Store = record { clusters = map (λ w. w.now) c.self.inside.clusters.items; constants = c.self.inside.constants.items; history = c.self.inside.history.items; limit = c.self.inside.limit } in
    let room : HasEvent s = search rules in
    let now : Bor Cluster → Whole = λ w. w.now in
    let count : c.len-number.result ≡ length s.clusters = search (length-map c.self.inside.clusters.items now, rules) in
    let held : c.in-Ok.cluster.now ≡ numbered_next s c.args.cluster = c.in-Ok.ensures.done ∙ ap (λ (n : ℕ). let w : Whole = record c.args.cluster { number = n } in w) count in
    let clusters : map now c.push_reserved.new.self.items ≡ s.clusters ++ numbered_next s c.args.cluster ∷ [] =
    rw (c.push_reserved.ensures.items, c.reserve-else-is_err.ensures.items, map-append now c.self.inside.clusters.items (c.in-Ok.cluster ∷ []), held) refl in
    let events : c.push_reserved-2.new.self.items ≡ s.history ++ Published (length s.clusters) (length c.args.cluster.own) c.args.who ∷ [] =
    rw (c.push_reserved-2.ensures.items, c.reserve.ensures.items, count, c.len-size.ensures.count) refl in
    rw (clusters, events) (kept_published s c.args.who c.args.cluster c.self.invariant room)

pub returns-clause-replays : goal.returns-clause-replays
returns-clause-replays c = (invariant_of-self-2 c).replays
