use Rattle.std.proofs.Common.{arith, ◌≡◌, Some, ap, subst}
use Rattle.std.specs.List.{slice_get}
use Rattle.rr_ledger.specs.declared.numbers.Numbers.{Numbers}
use Rattle.rr_ledger.specs.Books.{BookView, ShareView, Agrees, out_row}
use Rattle.rr_ledger.proofs.Sums.{total_le, agrees_delivered, sum_room, row_inside, room_inside}
use Rattle.rr_ledger.proofs.book.Book.add_delivered.Goals as goal

pub delivered_more-numbers-requires : goal.delivered_more-numbers-requires
delivered_more-numbers-requires c =
    let i = c.self.invariant in
    let book : BookView = record { channel = c.self.inside.channel; limit = c.self.inside.limit; rows = c.self.inside.rows.items } in
    let fits = sum_room c.self.inside.sum book c.args.size i (room_inside book c.args.self.now c.args.size c.self.view_is c.requires.room) in
    let row : slice_get c.self.inside.rows.items c.share.inside.place ≡ Some (out_row c.share.inside.numbers) = (row_inside _ _ _ _ c.self.view_is c.share.view_is c.requires.is_row).1 in
    let o = total_le (λ (n : Numbers). n.delivered.objects) c.self.inside.rows.items c.share.inside.place c.share.inside.numbers row in
    let m = total_le (λ (n : Numbers). n.delivered.messages) c.self.inside.rows.items c.share.inside.place c.share.inside.numbers row in
    (omega (arith, fits.0, o, i.delivered_objects, c.self.ranges), omega (arith, fits.1, m, i.delivered_messages, c.self.ranges))

pub count-requires-clause-agrees : goal.count-requires-clause-agrees
count-requires-clause-agrees c =
    let book = c.args.self.now in
    let share = c.args.share.now in
    let agrees : Agrees c.self.inside.sum book.rows book.limit = subst (λ (b : BookView). Agrees c.self.inside.sum b.rows b.limit) c.self.view_is c.self.invariant in
    let fits = sum_room _ book _ agrees c.requires.room in
    let numbers : c.share.inside.numbers ≡ share.numbers = ap (λ (s : ShareView). s.numbers) c.share.view_is in
    rw (c.delivered_more-sum.ensures, c.delivered_more-numbers.ensures, numbers) (agrees_delivered _ _ _ _ _ _ agrees c.requires.is_row.1 fits.0 fits.1)
