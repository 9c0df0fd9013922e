use Rattle.rr_isolation.proofs.Naming.{named, told}
use Rattle.rr_isolation.proofs.order.names_in_order.Goals as goal

pub returns-clause-names : goal.returns-clause-names
returns-clause-names c t all =
    named c.args.found t all c.sort_by_first_use.new.first.entries c.sort_by_first_use.ensures.same c.in_ok-names.names.items c.sort_by_first_use.ensures.once c.in_ok-sort_by_first_use.ensures.sorted c.in_ok-names.ensures

pub returns-clause-told : goal.returns-clause-told
returns-clause-told c t us all uses =
    told c.args.found t all c.sort_by_first_use.new.first.entries c.sort_by_first_use.ensures.same us uses c.in_ok-names.names.items c.sort_by_first_use.ensures.once c.in_ok-sort_by_first_use.ensures.sorted c.in_ok-names.ensures
