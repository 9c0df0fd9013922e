-- The variables of frames lie one after the other.
use Rattle.std.proofs.Common.{◌≡◌, ℕ, zero, suc, ◌+◌, ◌-◌, ◌≤◌, ◌<◌, sym, ap, ◌∙◌, arith, refl, subst, List, [], ◌∷◌, ◌++◌, length, take, drop, map}
use Rattle.std.specs.Prelude.{replicate, slice_index_or, slice_set}
use Rattle.std.proofs.Math.Seq.{get_or-append_seam, take-append-add, take-set-lt, take-append_seam, drop-append_seam, take-length}
use Rattle.std.proofs.lemmas.List.{drop-append-le, take-append-le, drop-set-lt, drop-set-add, take-set-le, take-append-drop, take_all, map-append, length-drop, length-take, length-replicate, length-append, append_assoc, get_or-take, get_or-drop, get_or_past, append-nil, length-map}
use Rattle.rr_space.specs.declared.refer.Ref.{Ref}
use Rattle.rr_space.specs.declared.refer.Ref.TheVariants.{Nil}
use Rattle.rr_frames.specs.declared.frames.Row.{Row}
use Rattle.rr_frames.specs.Frames.{Frame, laid, left, no_frame, read_at, read_last, write_at, write_last}
use Rattle.rr_frames.specs.Layout.{frame_of, LieFrom, no_row, last_row, IsLast}

pub laid_le : (n : ℕ) (rows : List Row) (end : ℕ) → LieFrom n rows end → n ≤ end
laid_le n [] end e = omega arith
laid_le n (a ∷ rows) end (b, l) = let h = laid_le (n + a.size) rows end l in omega arith

variables_stay : (a : Row) (slots xs : List Ref) → a.base + a.size ≤ length slots → take a.size (drop a.base (slots ++ xs)) ≡ take a.size (drop a.base slots)
variables_stay a slots xs le =
    ap (take a.size) (drop-append-le a.base slots xs (omega arith))
    ∙ take-append-le a.size (drop a.base slots) xs (let e = length-drop a.base slots in omega arith)

-- the call with other variables
abbrev with_variables : Row → List Ref → Frame
with_variables a vs = record { variables = vs; activation = a.activation }

pub appended : (rows : List Row) (n : ℕ) (slots xs : List Ref) → LieFrom n rows (length slots) → map (frame_of (slots ++ xs)) rows ≡ map (frame_of slots) rows
appended [] n slots xs l = refl
appended (a ∷ rows) n slots xs (b, l) =
    let le = laid_le (n + a.size) rows (length slots) l in
    ap (λ vs. with_variables a vs ∷ map (frame_of (slots ++ xs)) rows) (variables_stay a slots xs (omega arith))
    ∙ ap (λ t. frame_of slots a ∷ t) (appended rows (n + a.size) slots xs l)

pub laid_push : (n : ℕ) (rows : List Row) (mid : ℕ) (a : Row) (end : ℕ) → LieFrom n rows mid → a.base ≡ mid → mid + a.size ≡ end → LieFrom n (rows ++ a ∷ []) end
laid_push n [] mid a end l b e = (omega arith, omega arith)
laid_push n (x ∷ rows) mid a end (b', l) b e = (b', laid_push (n + x.size) rows mid a end l b e)

pub laid_pop : (n : ℕ) (rows : List Row) (a : Row) (end : ℕ) → LieFrom n (rows ++ a ∷ []) end → LieFrom n rows a.base × (a.base + a.size ≡ end)
laid_pop n [] a end (b, e) = (omega arith, omega arith)
laid_pop n (x ∷ rows) a end (b, l) = let h = laid_pop (n + x.size) rows a end l in ((b, h.0), h.1)

-- a write below the calls
below : (rows : List Row) (n : ℕ) (slots : List Ref) (j : ℕ) (v : Ref) (end : ℕ) → j < n → LieFrom n rows end → map (frame_of (slice_set slots j v)) rows ≡ map (frame_of slots) rows
below [] n slots j v end lt l = refl
below (a ∷ rows) n slots j v end lt (b, l) =
    ap (λ vs. with_variables a (take a.size vs) ∷ map (frame_of (slice_set slots j v)) rows) (drop-set-lt a.base slots j v (omega arith))
    ∙ ap (λ t. frame_of slots a ∷ t) (below rows (n + a.size) slots j v end (omega arith) l)

pub base_ge : (rows : List Row) (n k end : ℕ) (d : Row) → LieFrom n rows end → k < length rows → n ≤ (slice_index_or rows k d).base × ((slice_index_or rows k d).base + (slice_index_or rows k d).size ≤ end)
base_ge [] n k end d l lt = absurd (omega arith)
base_ge (a ∷ rows) n zero end d (b, l) lt = let h = laid_le (n + a.size) rows end l in (omega arith, omega arith)
base_ge (a ∷ rows) n (suc k) end d (b, l) lt = let h = base_ge rows (n + a.size) k end d l (omega arith) in (let e = h.0 in omega arith, h.1)

-- a write past a call
past : (a : Row) (slots : List Ref) (j : ℕ) (v : Ref) → a.base + a.size ≤ j → take a.size (drop a.base (slice_set slots j v)) ≡ take a.size (drop a.base slots)
past a slots j v le =
    let e : j ≡ a.base + (j - a.base) = omega arith in
    ap (λ i. take a.size (drop a.base (slice_set slots i v))) e
    ∙ ap (take a.size) (drop-set-add a.base slots (j - a.base) v)
    ∙ take-set-le a.size (drop a.base slots) (j - a.base) v (omega arith)

pub written : (rows : List Row) (n k slot end : ℕ) (d : Row) (v : Ref) (slots : List Ref) → LieFrom n rows end → k < length rows → slot < (slice_index_or rows k d).size
    → map (frame_of (slice_set slots ((slice_index_or rows k d).base + slot) v)) rows ≡ write_at k slot v (map (frame_of slots) rows)
written [] n k slot end d v slots l lt le = absurd (omega arith)
written (a ∷ rows) n zero slot end d v slots (b, l) lt le =
    ap (λ vs. with_variables a (take a.size vs) ∷ map (frame_of (slice_set slots (a.base + slot) v)) rows) (drop-set-add a.base slots slot v)
    ∙ ap (λ vs. with_variables a vs ∷ map (frame_of (slice_set slots (a.base + slot) v)) rows) (take-set-lt a.size (drop a.base slots) slot v le)
    ∙ ap (λ t. with_variables a (slice_set (take a.size (drop a.base slots)) slot v) ∷ t) (below rows (n + a.size) slots (a.base + slot) v end (omega arith) l)
written (a ∷ rows) n (suc k) slot end d v slots (b, l) lt le =
    let h = base_ge rows (n + a.size) k end d l (omega arith) in
    let h0 = h.0 in
    ap (λ vs. with_variables a vs ∷ map (frame_of (slice_set slots ((slice_index_or rows k d).base + slot) v)) rows) (past a slots ((slice_index_or rows k d).base + slot) v (omega arith))
    ∙ ap (λ t. frame_of slots a ∷ t) (written rows (n + a.size) k slot end d v slots l (omega arith) le)

-- the variables of a call, read in place
pub read_in : (rows : List Row) (k slot : ℕ) (d : Row) (slots : List Ref) → k < length rows → slot < (slice_index_or rows k d).size
    → slice_index_or (slice_index_or (map (frame_of slots) rows) k no_frame).variables slot Nil ≡ slice_index_or slots ((slice_index_or rows k d).base + slot) Nil
read_in [] k slot d slots lt le = absurd (omega arith)
read_in (a ∷ rows) zero slot d slots lt le = get_or-take a.size (drop a.base slots) slot Nil le ∙ get_or-drop a.base slots slot Nil
read_in (a ∷ rows) (suc k) slot d slots lt le = read_in rows k slot d slots (omega arith) le

-- the values that are laid after what stands
pub filled : (old xs : List Ref) (parameters size : ℕ)
    → take (length old + size) (take (length old + parameters) (old ++ xs)) ++ replicate (length old + size - length (take (length old + parameters) (old ++ xs))) Nil ≡ old ++ laid parameters size xs
filled old xs parameters size =
    let kept = take parameters xs in
    ap (λ l. take (length old + size) l ++ replicate (length old + size - length l) Nil) (take-append-add old xs parameters)
    ∙ ap (λ l. l ++ replicate (length old + size - length (old ++ kept)) Nil) (take-append-add old kept size)
    ∙ ap (λ m. (old ++ take size kept) ++ replicate m Nil) (let e = length-append old kept in omega arith)
    ∙ append_assoc old (take size kept) (replicate (size - length kept) Nil)

-- the item at a place
abbrev pub Found : List Row → ℕ → Row → Type 0
Found rows k a = (k < length rows) × (a ≡ slice_index_or rows k a)

-- the call at a number lies within what stands
pub within : (rows : List Row) (k end : ℕ) (a : Row) → LieFrom 0 rows end → Found rows k a → a.base + a.size ≤ end
within rows k end a l h =
    subst (λ x. x.base + x.size ≤ end) (sym (h.1)) (base_ge rows 0 k end a l h.0).1

pub read_within : (rows : List Row) (k slot : ℕ) (a : Row) (slots : List Ref) → Found rows k a → slot < a.size
    → slice_index_or (slice_index_or (map (frame_of slots) rows) k no_frame).variables slot Nil ≡ slice_index_or slots (a.base + slot) Nil
read_within rows k slot a slots h lt =
    read_in rows k slot a slots h.0 (subst (λ x. slot < x.size) (h.1) lt)
    ∙ ap (λ x. slice_index_or slots (x.base + slot) Nil) (sym (h.1))

-- a call has no further variables
pub read_past : (rows : List Row) (k slot : ℕ) (slots : List Ref) → (slice_index_or rows k no_row).size ≤ slot → Nil ≡ read_at k slot (map (frame_of slots) rows)
read_past [] k slot slots le = refl
read_past (a ∷ rows) zero slot slots le =
    sym (get_or_past (take a.size (drop a.base slots)) slot Nil (let e = length-take a.size (drop a.base slots) in omega arith))
read_past (a ∷ rows) (suc k) slot slots le = read_past rows k slot slots le

pub write_within : (rows : List Row) (k slot end : ℕ) (a : Row) (v : Ref) (slots : List Ref) → LieFrom 0 rows end → Found rows k a → slot < a.size
    → map (frame_of (slice_set slots (a.base + slot) v)) rows ≡ write_at k slot v (map (frame_of slots) rows)
write_within rows k slot end a v slots l h lt =
    ap (λ x. map (frame_of (slice_set slots (x.base + slot) v)) rows) (h.1)
    ∙ written rows 0 k slot end a v slots l h.0 (subst (λ x. slot < x.size) (h.1) lt)

left_one : (cs : List Frame) (x : Frame) → left (cs ++ x ∷ []) ≡ cs
left_one cs x =
    ap (λ n. take n (cs ++ x ∷ [])) (let e = length-append cs (x ∷ []) in omega arith)
    ∙ take-append_seam cs (x ∷ [])

-- the calls without the latest one
pub left_of : (rows : List Row) (a : Row) (slots : List Ref) → LieFrom 0 (rows ++ a ∷ []) (length slots) → map (frame_of (take a.base slots)) rows ≡ left (map (frame_of slots) (rows ++ a ∷ []))
left_of rows a slots l =
    let h = laid_pop 0 rows a (length slots) l in
    let h1 = h.1 in
    let e = length-take a.base slots in
    sym (appended rows 0 (take a.base slots) (drop a.base slots) (subst (λ m. LieFrom 0 rows m) (omega arith) h.0))
    ∙ ap (λ xs. map (frame_of xs) rows) (take-append-drop a.base slots)
    ∙ sym (ap left (map-append (frame_of slots) rows (a ∷ [])) ∙ left_one (map (frame_of slots) rows) (frame_of slots a))

take_one : (k : ℕ) (rows : List Row) (a : Row) → k < length rows → a ≡ slice_index_or rows k a → take (suc k) rows ≡ take k rows ++ a ∷ []
take_one k [] a lt e = absurd (omega arith)
take_one zero (x ∷ rows) a lt e = ap (λ y. y ∷ []) (sym e)
take_one (suc k) (x ∷ rows) a lt e = ap (λ l. x ∷ l) (take_one k rows a (omega arith) e)

-- the latest call is taken off
pub popped : (rows new : List Row) (a : Row) (n : ℕ) → n ≡ length rows → 0 < n → a ≡ slice_index_or rows (n - 1) a → new ≡ take (n - 1) rows → rows ≡ new ++ a ∷ []
popped rows new a n at some is rest =
    sym (take_all (suc (n - 1)) rows (omega arith)) ∙ take_one (n - 1) rows a (omega arith) is ∙ ap (λ l. l ++ a ∷ []) (sym rest)

-- the calls with one more
pub entered : (rows : List Row) (a : Row) (slots vs : List Ref) → LieFrom 0 rows (length slots) → a.base ≡ length slots → length vs ≡ a.size
    → map (frame_of (slots ++ vs)) (rows ++ a ∷ []) ≡ map (frame_of slots) rows ++ record { variables = vs; activation = a.activation } ∷ []
entered rows a slots vs l b e =
    map-append (frame_of (slots ++ vs)) rows (a ∷ [])
    ∙ ap (λ cs. cs ++ frame_of (slots ++ vs) a ∷ []) (appended rows 0 slots vs l)
    ∙ ap (λ xs. map (frame_of slots) rows ++ with_variables a (take a.size xs) ∷ []) (ap (λ n. drop n (slots ++ vs)) b ∙ drop-append_seam slots vs)
    ∙ ap (λ xs. map (frame_of slots) rows ++ with_variables a xs ∷ []) (ap (λ n. take n vs) (sym e) ∙ take-length vs)

pub laid_length : (parameters size : ℕ) (xs : List Ref) → length (laid parameters size xs) ≡ size
laid_length parameters size xs =
    let a = length-append (take size (take parameters xs)) (replicate (size - length (take parameters xs)) Nil) in
    let b = length-take size (take parameters xs) in
    let d = length-replicate (size - length (take parameters xs)) Nil in
    omega arith

-- what was cut or filled up has that length
pub filled_length : (new l : List Ref) (v : Ref) (base size n : ℕ) → base ≡ n → new ≡ take (base + size) l ++ replicate (base + size - length l) v → n + size ≡ length new
filled_length new l v base size n at is =
    let a = length-append (take (base + size) l) (replicate (base + size - length l) v) in
    let b = length-take (base + size) l in
    let d = length-replicate (base + size - length l) v in
    let e = ap length is in
    omega arith

pub any_default : (l : List Ref) (i : ℕ) (d e : Ref) → i < length l → slice_index_or l i d ≡ slice_index_or l i e
any_default [] i d e lt = absurd (omega arith)
any_default (x ∷ l) zero d e lt = refl
any_default (x ∷ l) (suc i) d e lt = any_default l i d e (omega arith)

-- nothing is cut and nothing is filled where the length is right
pub uncut : (l : List Ref) (end : ℕ) → length l ≡ end → l ≡ take end l ++ replicate (end - length l) Nil
uncut l end e =
    sym (append-nil l)
    ∙ ap (λ x. x ++ []) (sym (take_all end l (omega arith)))
    ∙ ap (λ n. take end l ++ replicate n Nil) (let k : 0 ≡ end - length l = omega arith in k)

-- the last call of some calls and one more is that one
pub last_entered : (rows : List Row) (a : Row) → IsLast (rows ++ a ∷ []) a.base a.size
last_entered rows a =
    let e : length (rows ++ a ∷ []) - 1 ≡ length rows = omega (arith, length-append rows (a ∷ [])) in
    let is : a ≡ last_row (rows ++ a ∷ []) = sym (ap (λ k. slice_index_or (rows ++ a ∷ []) k no_row) e ∙ get_or-append_seam rows a [] no_row) in
    (ap (λ (x : Row). x.base) is, ap (λ (x : Row). x.size) is)

-- a call that has variables is there
last_stands : (rows : List Row) (slot : ℕ) → slot < (last_row rows).size → length rows - 1 < length rows
last_stands [] slot lt = absurd (omega arith)
last_stands (a ∷ rows) slot lt = omega arith

-- the last call lies within what stands
pub last_within : (rows : List Row) (base size slot end : ℕ) → LieFrom 0 rows end → IsLast rows base size → slot < size → base + size ≤ end
last_within rows base size slot end l (b, s) lt =
    let h = (base_ge rows 0 (length rows - 1) end no_row l (last_stands rows slot (omega arith))).1 in
    omega arith

last_number : (rows : List Row) (slots : List Ref) → length rows - 1 ≡ length (map (frame_of slots) rows) - 1
last_number rows slots = omega (arith, length-map rows (frame_of slots))

-- the variables of the last call, read in place
pub read_last_within : (rows : List Row) (base size slot : ℕ) (slots : List Ref) → IsLast rows base size → slot < size → slice_index_or slots (base + slot) Nil ≡ read_last slot (map (frame_of slots) rows)
read_last_within rows base size slot slots (b, s) lt =
    let lt' : slot < (last_row rows).size = omega arith in
    ap (λ k. slice_index_or slots (k + slot) Nil) b
    ∙ sym (read_in rows (length rows - 1) slot no_row slots (last_stands rows slot lt') lt')
    ∙ ap (λ k. read_at k slot (map (frame_of slots) rows)) (last_number rows slots)

pub write_last_within : (rows : List Row) (base size slot : ℕ) (v : Ref) (slots : List Ref) → LieFrom 0 rows (length slots) → IsLast rows base size → slot < size
    → map (frame_of (slice_set slots (base + slot) v)) rows ≡ write_last slot v (map (frame_of slots) rows)
write_last_within rows base size slot v slots l (b, s) lt =
    let lt' : slot < (last_row rows).size = omega arith in
    ap (λ k. map (frame_of (slice_set slots (k + slot) v)) rows) b
    ∙ written rows 0 (length rows - 1) slot (length slots) no_row v slots l (last_stands rows slot lt') lt'
    ∙ ap (λ k. write_at k slot v (map (frame_of slots) rows)) (last_number rows slots)
