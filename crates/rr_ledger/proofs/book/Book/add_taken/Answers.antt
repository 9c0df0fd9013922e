use Rattle.std.proofs.Common.{arith, ◌≡◌, Some, ap, subst}
use Rattle.std.specs.List.{slice_get}
use Rattle.rr_ledger.specs.declared.numbers.Numbers.{Numbers}
use Rattle.rr_ledger.specs.Books.{BookView, ShareView, Agrees, out_row}
use Rattle.rr_ledger.proofs.Sums.{total_le, agrees_taken, sum_left, row_inside, left_inside}
use Rattle.rr_ledger.proofs.book.Book.add_taken.Goals as goal

pub taken_more-numbers-requires : goal.taken_more-numbers-requires
taken_more-numbers-requires c =
    let i = c.self.invariant in
    let book : BookView = record { channel = c.self.inside.channel; limit = c.self.inside.limit; rows = c.self.inside.rows.items } in
    let fits = sum_left c.self.inside.sum book c.args.size i (left_inside book c.args.self.now c.args.size c.self.view_is c.requires.left) in
    let row : slice_get c.self.inside.rows.items c.share.inside.place ≡ Some (out_row c.share.inside.numbers) = (row_inside _ _ _ _ c.self.view_is c.share.view_is c.requires.is_row).1 in
    let o = total_le (λ (n : Numbers). n.taken.objects) c.self.inside.rows.items c.share.inside.place c.share.inside.numbers row in
    let m = total_le (λ (n : Numbers). n.taken.messages) c.self.inside.rows.items c.share.inside.place c.share.inside.numbers row in
    (omega (arith, fits.0, o, i.taken_objects, i.objects_fit, c.self.ranges), omega (arith, fits.1, m, i.taken_messages, i.messages_fit, c.self.ranges))

pub count-requires-clause-agrees : goal.count-requires-clause-agrees
count-requires-clause-agrees c =
    let book = c.args.self.now in
    let share = c.args.share.now in
    let agrees : Agrees c.self.inside.sum book.rows book.limit = subst (λ (b : BookView). Agrees c.self.inside.sum b.rows b.limit) c.self.view_is c.self.invariant in
    let fits = sum_left _ book _ agrees c.requires.left in
    let numbers : c.share.inside.numbers ≡ share.numbers = ap (λ (s : ShareView). s.numbers) c.share.view_is in
    rw (c.taken_more-sum.ensures, c.taken_more-numbers.ensures, numbers) (agrees_taken _ _ _ _ _ _ agrees c.requires.is_row.1 fits.0 fits.1)
