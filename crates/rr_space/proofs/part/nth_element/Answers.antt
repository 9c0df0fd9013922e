use Rattle.std.proofs.Common.{sym}
use Rattle.rr_space.proofs.Listing.{place_read, place_none}
use Rattle.rr_space.proofs.part.nth_element.Goals as goal

pub returns-then-k-items : goal.returns-then-k-items
returns-then-k-items c = sym (place_read c.args.items.now c.args.k c.index-items-k.result c.if-k-items.true c.index-items-k.is)

pub returns-else-k-items : goal.returns-else-k-items
returns-else-k-items c = sym (place_none c.args.items.now c.args.k c.if-k-items.false)
