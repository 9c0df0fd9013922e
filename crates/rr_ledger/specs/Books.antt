-- What a book and a share are, and what it is that they agree.
use Rattle.std.specs.Prelude.{ℕ, ◌+◌, ◌≤◌, ◌≡◌, true, false, List, slice_get, slice_set, Some}
use Rattle.std.specs.List.{sum_by, All}
use Rattle.rr_base.specs.declared.name.Channel.{Channel}
use Rattle.rr_ledger.specs.declared.numbers.Amount.{Amount}
use Rattle.rr_ledger.specs.declared.numbers.Numbers.{Numbers}
use Rattle.rr_ledger.specs.declared.numbers.Row.{Row}

-- a book: its channel, the most that it counts, and a row for each share that was issued
pub record BookView : Type 0 where
  pub channel : Channel
  pub limit : ℕ
  pub rows : List Row

-- a share: its channel, its place in the book, and what its holder was answered
pub record ShareView : Type 0 where
  pub channel : Channel
  pub place : ℕ
  pub numbers : Numbers

abbrev pub no_amount : Amount
no_amount = record { objects = 0; messages = 0 }

abbrev pub no_numbers : Numbers
no_numbers = record { delivered = no_amount; refused = no_amount; taken = no_amount }

-- one message more, of this size
abbrev pub more : Amount → ℕ → Amount
more a size = record { objects = a.objects + size; messages = a.messages + 1 }

abbrev pub delivered_more : Numbers → ℕ → Numbers
delivered_more n size = record { delivered = more n.delivered size; refused = n.refused; taken = n.taken }

abbrev pub refused_more : Numbers → ℕ → Numbers
refused_more n size = record { delivered = n.delivered; refused = more n.refused size; taken = n.taken }

abbrev pub taken_more : Numbers → ℕ → Numbers
taken_more n size = record { delivered = n.delivered; refused = n.refused; taken = more n.taken size }

-- the sum of the rows
abbrev pub total : (Numbers → ℕ) → List Row → ℕ
total measure rows = sum_by (λ r. measure r.numbers) rows

abbrev pub amount_sum : (Numbers → Amount) → List Row → Amount
amount_sum part rows = record { objects = total (λ n. (part n).objects) rows; messages = total (λ n. (part n).messages) rows }

abbrev pub totals : List Row → Numbers
totals rows = record { delivered = amount_sum (λ n. n.delivered) rows; refused = amount_sum (λ n. n.refused) rows; taken = amount_sum (λ n. n.taken) rows }

-- the row of a share that is out
abbrev pub out_row : Numbers → Row
out_row n = record { numbers = n; is_back = false }

abbrev pub back_row : Numbers → Row
back_row n = record { numbers = n; is_back = true }

-- the share is of this book, is not back, and has the numbers of its row
abbrev pub IsRow : BookView → ShareView → Type 0
IsRow b s = (s.channel ≡ b.channel) × (slice_get b.rows s.place ≡ Some (out_row s.numbers))

-- a message of this size can still be counted
abbrev pub HasRoom : BookView → ℕ → Type 0
HasRoom b size =
    (total (λ n. n.delivered.objects) b.rows + total (λ n. n.refused.objects) b.rows + size ≤ b.limit)
    × (total (λ n. n.delivered.messages) b.rows + total (λ n. n.refused.messages) b.rows + 1 ≤ b.limit)

abbrev pub share_with : ShareView → Numbers → ShareView
share_with s n = record { channel = s.channel; place = s.place; numbers = n }

abbrev pub book_with : BookView → List Row → BookView
book_with b rows = record { channel = b.channel; limit = b.limit; rows = rows }

-- the book with other numbers in the share's row
abbrev pub book_counts : BookView → ShareView → Numbers → BookView
book_counts b s n = book_with b (slice_set b.rows s.place (out_row n))

-- counted and kept beside the rows: their sum, which is within the limit, and no more taken than delivered
pub record Agrees (sum : Numbers) (rows : List Row) (limit : ℕ) : Type 0 where
  pub delivered_objects : sum.delivered.objects ≡ total (λ n. n.delivered.objects) rows
  pub delivered_messages : sum.delivered.messages ≡ total (λ n. n.delivered.messages) rows
  pub refused_objects : sum.refused.objects ≡ total (λ n. n.refused.objects) rows
  pub refused_messages : sum.refused.messages ≡ total (λ n. n.refused.messages) rows
  pub taken_objects : sum.taken.objects ≡ total (λ n. n.taken.objects) rows
  pub taken_messages : sum.taken.messages ≡ total (λ n. n.taken.messages) rows
  pub objects_fit : sum.delivered.objects + sum.refused.objects ≤ limit
  pub messages_fit : sum.delivered.messages + sum.refused.messages ≤ limit
  pub objects_left : sum.taken.objects ≤ sum.delivered.objects
  pub messages_left : sum.taken.messages ≤ sum.delivered.messages

-- the book's taken stays at most its delivered
abbrev pub MayTake : BookView → ℕ → Type 0
MayTake b size =
    (total (λ n. n.taken.objects) b.rows + size ≤ total (λ n. n.delivered.objects) b.rows)
    × (total (λ n. n.taken.messages) b.rows + 1 ≤ total (λ n. n.delivered.messages) b.rows)

abbrev pub AllBack : List Row → Type 0
AllBack rows = All (λ r. r.is_back ≡ true) rows
