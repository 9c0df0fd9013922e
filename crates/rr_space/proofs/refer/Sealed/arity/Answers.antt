use Rattle.std.proofs.Common.{arith}
use Rattle.rr_space.proofs.Listing.{length-places_from, length-pairs_from}
use Rattle.rr_space.proofs.refer.Sealed.arity.Goals as goal

pub returns-in-Array : goal.returns-in-Array
returns-in-Array c = rw c.in-Array.is (omega (arith, length-places_from c.in-Array.items.items 0, c.in-Array.items.ok))

pub returns-in-Hash : goal.returns-in-Hash
returns-in-Hash c = rw c.in-Hash.is (omega (arith, length-pairs_from c.in-Hash.pairs.items 0, c.in-Hash.pairs.ok))
