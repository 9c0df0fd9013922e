use Rattle.std.proofs.Common.{rules, ◌≡◌, ◌≢◌, ◌∙◌, ap, List, Option, map}
use Rattle.rr_base.specs.declared.name.Sym.{Sym}
use Rattle.rr_store.specs.declared.constant.ConstValue.{ConstValue}
use Rattle.rr_store.specs.Stores.{Store, HasEvent, constant_in}
use Rattle.rr_store.proofs.Keeping.{kept_set}
use Rattle.rr_store.proofs.state.StoreState.set_const.Goals as goal

pub invariant_of-self-2 : goal.invariant_of-self-2
invariant_of-self-2 c =
    let s : Store = record { clusters = map (λ w. w.now) c.self.inside.clusters.items; constants = c.self.inside.constants.items; history = c.self.inside.history.items; limit = c.self.inside.limit } in
    let room : HasEvent s = search rules in
    let may = c.in-Some.ensures.event in
    let others : (n : Sym) → n ≢ c.args.name → constant_in c.set_reserved.new.constants.items n ≡ constant_in s.constants n =
    λ n differ. c.set_reserved.ensures.others n differ ∙ ap (λ (cs : List (Option ConstValue)). constant_in cs n) c.reserve_for.ensures.same in
    rw (c.push_reserved.ensures.items, c.reserve.ensures.items, may.0) (kept_set s c.args.who c.args.name c.args.value c.set_reserved.new.constants.items c.self.invariant room c.set_reserved.ensures.here others may.1 c.requires)

pub returns-clause-replays : goal.returns-clause-replays
returns-clause-replays c = (invariant_of-self-2 c).replays
