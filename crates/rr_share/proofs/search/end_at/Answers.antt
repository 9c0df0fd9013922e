use Rattle.std.proofs.Common.{◌≡◌, ◌∙◌, ap, rules, sym}
use Rattle.std.proofs.lemmas.Option.{some_pair_parts}
use Rattle.rr_space.specs.Graph.{Own, At}
use Rattle.rr_space.specs.Parts.{value_of}
use Rattle.rr_space.specs.Tables.{resolve}
use Rattle.rr_share.proofs.Ends.{leads_at, leads_back, local_of}
use Rattle.rr_share.proofs.search.end_at.Goals as goal

pub returns-in-Local-clause-some : goal.returns-in-Local-clause-some
returns-in-Local-clause-some c =
    let is : At (Own c.in-Local.end) ≡ resolve c.args.space.now.slots (value_of c.in_ok-value.value) = search rules in
    leads_at c.args.space.now c.args.slot c.args.k c.requires _ (value_of c.in_ok-value.value) c.in-Local.end (sym c.in_ok-value.ensures.part) (sym is)

pub returns-in_default : goal.returns-in_default
returns-in_default c = record {
  some = tt;
  none = λ m leads.
      let b = leads_back c.args.space.now c.args.slot c.args.k c.requires m leads in
      let is : value_of c.resolve.result ≡ resolve c.args.space.now.slots (value_of c.in_ok-value.value) = search rules in
      let q = some_pair_parts _ b.0 (value_of c.in_ok-value.value) b.1 (c.in_ok-value.ensures.part ∙ b.2) in
      c.in_default.not-Local m (local_of c.resolve.result m (is ∙ ap (resolve c.args.space.now.slots) q.1 ∙ b.3));
}
