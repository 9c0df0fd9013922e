-- A changed row changes the sums by what it changed.
use Rattle.std.proofs.Common.{◌≡◌, ℕ, ◌+◌, ◌≤◌, List, [], ◌∷◌, zero, suc, get_or, refl, ap, arith, Some, slice_get, slice_set}
use Rattle.std.proofs.lemmas.List.Sums.{sum_by-set, get_or-le-sum_by}
use Rattle.std.proofs.lemmas.Option.{get_or_from_slice_get, slice_get_within}
use Rattle.rr_ledger.specs.declared.numbers.Numbers.{Numbers}
use Rattle.rr_ledger.specs.declared.numbers.Row.{Row}
use Rattle.rr_ledger.specs.Books.{BookView, ShareView, IsRow, total, out_row, back_row, Agrees, HasRoom, MayTake, delivered_more, refused_more, taken_more}

-- for any measure, the sum after a row was replaced
pub total_set : (f : Numbers → ℕ) (rows : List Row) (place : ℕ) (n : Numbers) (r : Row) → slice_get rows place ≡ Some (out_row n) → total f (slice_set rows place r) + f n ≡ total f rows + f r.numbers
total_set f rows place n r h =
    let at : get_or rows place (out_row n) ≡ out_row n = get_or_from_slice_get rows place (out_row n) (out_row n) h in
    let same : f (get_or rows place (out_row n)).numbers ≡ f n = ap (λ (x : Row). f x.numbers) at in
    omega (arith, same, sum_by-set (λ (x : Row). f x.numbers) rows place r (out_row n) (slice_get_within rows place (out_row n) h))

-- a row is at most the sum
pub total_le : (f : Numbers → ℕ) (rows : List Row) (place : ℕ) (n : Numbers) → slice_get rows place ≡ Some (out_row n) → f n ≤ total f rows
total_le f rows place n h =
    let at : get_or rows place (out_row n) ≡ out_row n = get_or_from_slice_get rows place (out_row n) (out_row n) h in
    let same : f (get_or rows place (out_row n)).numbers ≡ f n = ap (λ (x : Row). f x.numbers) at in
    omega (arith, same, get_or-le-sum_by (λ (x : Row). f x.numbers) rows place (out_row n) (slice_get_within rows place (out_row n) h))

-- each sum changes by what the row changes
record IsCounted (sum sum2 n m : Numbers) : Type 0 where
  delivered_objects : sum2.delivered.objects + n.delivered.objects ≡ sum.delivered.objects + m.delivered.objects
  delivered_messages : sum2.delivered.messages + n.delivered.messages ≡ sum.delivered.messages + m.delivered.messages
  refused_objects : sum2.refused.objects + n.refused.objects ≡ sum.refused.objects + m.refused.objects
  refused_messages : sum2.refused.messages + n.refused.messages ≡ sum.refused.messages + m.refused.messages
  taken_objects : sum2.taken.objects + n.taken.objects ≡ sum.taken.objects + m.taken.objects
  taken_messages : sum2.taken.messages + n.taken.messages ≡ sum.taken.messages + m.taken.messages

-- the sums are within the limit, and no more is taken than was delivered
record Fits (sum : Numbers) (limit : ℕ) : Type 0 where
  objects : sum.delivered.objects + sum.refused.objects ≤ limit
  messages : sum.delivered.messages + sum.refused.messages ≤ limit
  objects_left : sum.taken.objects ≤ sum.delivered.objects
  messages_left : sum.taken.messages ≤ sum.delivered.messages

agrees_counted : (sum sum2 n : Numbers) (r : Row) (rows : List Row) (limit place : ℕ) → Agrees sum rows limit → slice_get rows place ≡ Some (out_row n)
    → IsCounted sum sum2 n r.numbers → Fits sum2 limit → Agrees sum2 (slice_set rows place r) limit
agrees_counted sum sum2 n r rows limit place a h counted fits =
    let after : (f : Numbers → ℕ) → total f (slice_set rows place r) + f n ≡ total f rows + f r.numbers = λ f. total_set f rows place n r h in
    record {
      delivered_objects = omega (arith, a.delivered_objects, counted.delivered_objects, after (λ x. x.delivered.objects));
      delivered_messages = omega (arith, a.delivered_messages, counted.delivered_messages, after (λ x. x.delivered.messages));
      refused_objects = omega (arith, a.refused_objects, counted.refused_objects, after (λ x. x.refused.objects));
      refused_messages = omega (arith, a.refused_messages, counted.refused_messages, after (λ x. x.refused.messages));
      taken_objects = omega (arith, a.taken_objects, counted.taken_objects, after (λ x. x.taken.objects));
      taken_messages = omega (arith, a.taken_messages, counted.taken_messages, after (λ x. x.taken.messages));
      objects_fit = fits.objects;
      messages_fit = fits.messages;
      objects_left = fits.objects_left;
      messages_left = fits.messages_left;
    }

-- a message that is delivered counts in the row and in the sum
pub agrees_delivered : (sum n : Numbers) (rows : List Row) (limit place size : ℕ) → Agrees sum rows limit → slice_get rows place ≡ Some (out_row n)
    → sum.delivered.objects + sum.refused.objects + size ≤ limit → sum.delivered.messages + sum.refused.messages + 1 ≤ limit
    → Agrees (delivered_more sum size) (slice_set rows place (out_row (delivered_more n size))) limit
agrees_delivered sum n rows limit place size a h objects messages =
    agrees_counted sum (delivered_more sum size) n (out_row (delivered_more n size)) rows limit place a h
    (record { delivered_objects = omega arith; delivered_messages = omega arith; refused_objects = refl; refused_messages = refl; taken_objects = refl; taken_messages = refl })
    (record { objects = omega (arith, objects); messages = omega (arith, messages); objects_left = omega (arith, a.objects_left); messages_left = omega (arith, a.messages_left) })

pub agrees_refused : (sum n : Numbers) (rows : List Row) (limit place size : ℕ) → Agrees sum rows limit → slice_get rows place ≡ Some (out_row n)
    → sum.delivered.objects + sum.refused.objects + size ≤ limit → sum.delivered.messages + sum.refused.messages + 1 ≤ limit
    → Agrees (refused_more sum size) (slice_set rows place (out_row (refused_more n size))) limit
agrees_refused sum n rows limit place size a h objects messages =
    agrees_counted sum (refused_more sum size) n (out_row (refused_more n size)) rows limit place a h
    (record { delivered_objects = refl; delivered_messages = refl; refused_objects = omega arith; refused_messages = omega arith; taken_objects = refl; taken_messages = refl })
    (record { objects = omega (arith, objects); messages = omega (arith, messages); objects_left = a.objects_left; messages_left = a.messages_left })

pub agrees_taken : (sum n : Numbers) (rows : List Row) (limit place size : ℕ) → Agrees sum rows limit → slice_get rows place ≡ Some (out_row n)
    → sum.taken.objects + size ≤ sum.delivered.objects → sum.taken.messages + 1 ≤ sum.delivered.messages
    → Agrees (taken_more sum size) (slice_set rows place (out_row (taken_more n size))) limit
agrees_taken sum n rows limit place size a h objects messages =
    agrees_counted sum (taken_more sum size) n (out_row (taken_more n size)) rows limit place a h
    (record { delivered_objects = refl; delivered_messages = refl; refused_objects = refl; refused_messages = refl; taken_objects = omega arith; taken_messages = omega arith })
    (record { objects = a.objects_fit; messages = a.messages_fit; objects_left = objects; messages_left = messages })

-- marking a row as back changes no sum
pub agrees_back : (sum n : Numbers) (rows : List Row) (limit place : ℕ) → Agrees sum rows limit → slice_get rows place ≡ Some (out_row n) → Agrees sum (slice_set rows place (back_row n)) limit
agrees_back sum n rows limit place a h =
    agrees_counted sum sum n (back_row n) rows limit place a h
    (record { delivered_objects = refl; delivered_messages = refl; refused_objects = refl; refused_messages = refl; taken_objects = refl; taken_messages = refl })
    (record { objects = a.objects_fit; messages = a.messages_fit; objects_left = a.objects_left; messages_left = a.messages_left })

-- where there is room, the sum has it
pub sum_room : (sum : Numbers) (b : BookView) (size : ℕ) → Agrees sum b.rows b.limit → HasRoom b size
    → (sum.delivered.objects + sum.refused.objects + size ≤ b.limit) × (sum.delivered.messages + sum.refused.messages + 1 ≤ b.limit)
sum_room sum b size a room =
    let objects = room.0 in
    let messages = room.1 in
    (omega (arith, a.delivered_objects, a.refused_objects, objects), omega (arith, a.delivered_messages, a.refused_messages, messages))

-- where a message may be taken, the sum says so
pub sum_left : (sum : Numbers) (b : BookView) (size : ℕ) → Agrees sum b.rows b.limit → MayTake b size
    → (sum.taken.objects + size ≤ sum.delivered.objects) × (sum.taken.messages + 1 ≤ sum.delivered.messages)
sum_left sum b size a left =
    let objects = left.0 in
    let messages = left.1 in
    (omega (arith, a.taken_objects, a.delivered_objects, objects), omega (arith, a.taken_messages, a.delivered_messages, messages))

-- what a row reads after it was written
pub read_back : (rows : List Row) (place : ℕ) (r s : Row) → slice_get rows place ≡ Some r → slice_get (slice_set rows place s) place ≡ Some s
read_back [] place r s h = absurd cc
read_back (x ∷ rows) zero r s h = refl
read_back (x ∷ rows) (suc place) r s h = read_back rows place r s h

-- what holds of two views holds of their insides
pub row_inside : (b v : BookView) (s w : ShareView) → b ≡ v → s ≡ w → IsRow v w → IsRow b s
row_inside b v s w e f h = rw (e, f) h

pub room_inside : (b v : BookView) (size : ℕ) → b ≡ v → HasRoom v size → HasRoom b size
room_inside b v size e h = rw e h

pub left_inside : (b v : BookView) (size : ℕ) → b ≡ v → MayTake v size → MayTake b size
left_inside b v size e h = rw e h
