use Rattle.std.proofs.Common.{arith, map}
use Rattle.rr_space.specs.Views.{entry_pair}
use Rattle.std.proofs.lemmas.List.{length-map}
use Rattle.rr_space.proofs.Listing.{length-places_from, length-pairs_from}
use Rattle.rr_space.proofs.node.Node.arity.Goals as goal

pub returns-in-Array : goal.returns-in-Array
returns-in-Array c = rw c.in-Array.is (omega (arith, length-places_from c.in-Array.items 0, c.len.ensures))

pub returns-in-Hash : goal.returns-in-Hash
returns-in-Hash c =
    rw (c.in-Hash.is, ← c.deref.ensures) (omega (arith, length-pairs_from (map entry_pair c.deref.result.now.entries) 0, length-map c.deref.result.now.entries entry_pair, c.len-in-Hash.ensures.len))
