use Rattle.std.proofs.Common.{◌≡◌, Some}
use Rattle.std.specs.List.{slice_get}
use Rattle.rr_ledger.specs.Books.{out_row}
use Rattle.rr_ledger.proofs.Sums.{read_back, row_inside}
use Rattle.rr_ledger.proofs.book.Book.count.Goals as goal

pub returns-clause-row : goal.returns-clause-row
returns-clause-row c =
    let both = row_inside _ _ _ _ c.self.view_is c.share.view_is c.requires.is_row in
    let row : slice_get c.self.inside.rows.items c.share.inside.place ≡ Some (out_row c.share.inside.numbers) = both.1 in
    let channel : c.share.inside.channel ≡ c.self.inside.channel = both.0 in
    (channel, rw c.out.ensures (read_back c.self.inside.rows.items c.share.inside.place _ _ row))
