use Rattle.std.proofs.Common.{rules, ◌≡◌, Some}
use Rattle.std.specs.List.{slice_get}
use Rattle.rr_ledger.specs.Books.{out_row, IsRow}
use Rattle.rr_ledger.proofs.Sums.{agrees_back, row_inside}
use Rattle.rr_ledger.proofs.book.Book.give_back.Goals as goal

pub invariant_of-self : goal.invariant_of-self
invariant_of-self c =
    let is : IsRow c.args.self.now c.args.share = c.is_row.ensures.0 (search rules) in
    let row : slice_get c.self.inside.rows.items c.share.inside.place ≡ Some (out_row c.share.inside.numbers) = (row_inside _ _ _ _ c.self.view_is c.share.view_is is).1 in
    rw c.back.ensures (agrees_back _ _ _ _ _ c.self.invariant row)
