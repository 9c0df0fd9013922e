use Rattle.std.proofs.Common.{sym, ap, ◌∙◌, map, slice_get}
use Rattle.std.specs.Option.{option_map}
use Rattle.rr_space.specs.Graph.{Place}
use Rattle.rr_space.specs.Parts.{raised_parts}
use Rattle.rr_space.specs.Views.{entry_pair}
use Rattle.rr_space.specs.Labels.{pair_half}
use Rattle.rr_space.specs.declared.refer.Raised.{Raised}
use Rattle.rr_space.proofs.Listing.{pair_first, place_first}
use Rattle.rr_space.proofs.node.Node.part.Goals as goal

pub returns-in-Array : goal.returns-in-Array
returns-in-Array c =
    rw c.in-Array.is (c.place_of_item.ensures ∙ ap (option_map (λ r. (Place c.args.k, r))) c.get.ensures ∙ sym (place_first c.in-Array.items c.args.k))

pub returns-in-Hash : goal.returns-in-Hash
returns-in-Hash c =
    rw (c.in-Hash.is, ← c.deref.ensures) (c.half_of_pair.ensures ∙ ap (pair_half c.args.k) c.pair_at.ensures ∙ sym (pair_first (map entry_pair c.deref.result.now.entries) c.args.k))

pub returns-in-Exception : goal.returns-in-Exception
returns-in-Exception c = rw c.in-Exception.is (c.nth_of_raised.ensures ∙ ap (λ (x : Raised). slice_get (raised_parts x) c.args.k) c.deref-in-Exception.ensures)
