-- There is an environment for each list of exchanges.
use Rattle.std.proofs.Common.{◌≡◌, ◌<◌, ◌+◌, ◌∙◌, ℕ, nat_eq, true, false, if◌then◌else◌, refl, ap, arith, length, length-append, List, [], ◌∷◌, Some, None, ◌≤◌}
use Rattle.std.proofs.lemmas.Bool.{eq-eqb, ne_eqb}
use Rattle.rr_space.specs.Tables.{Table}
use Rattle.rr_eval.specs.Script.{Asked}
use Rattle.rr_eval.specs.Requests.{Course}
use Rattle.rr_eval.specs.Served.{Exchange, course_after, Gives, world_of}

asked_length : (h : Course) (xs : List Exchange) → length (course_after h xs).asked ≡ length h.asked + length xs
asked_length h [] = omega arith
asked_length h (x ∷ xs) = omega (arith, length-append (course_after h xs).asked (x.asked ∷ []), asked_length h xs)

same_world : (h : Course) (xs : List Exchange) → (course_after h xs).world ≡ h.world
same_world h [] = refl
same_world h (x ∷ xs) = same_world h xs

eq_true : (n m : ℕ) → n ≡ m → nat_eq n m ≡ true
eq_true n m e = eq-eqb n m e

eq_false : (n m : ℕ) → n < m → nat_eq n m ≡ false
eq_false n m e = ne_eqb n m (λ same. omega arith)

gives_in : (h : Course) (xs : List Exchange) → ((before : List Asked) (q : Asked) (t : Table) → length before < length h.asked + length xs → h.world before q t ≡ world_of (length h.asked) xs before q t) → Gives h xs
gives_in h [] agrees = tt
gives_in h (x ∷ xs) agrees =
    let here = (course_after h xs).asked in
    let n : length here ≡ length h.asked + length xs = asked_length h xs in
    let first = length h.asked in (
      ap (λ w. w here x.asked x.table) (same_world h xs)
          ∙ agrees here x.asked x.table (omega arith)
          ∙ ap (λ b. if b then Some x.reply else world_of first xs here x.asked x.table) (eq_true (length here) (first + length xs) n),
      gives_in h xs (λ before q t less. agrees before q t (omega arith) ∙ ap (λ b. if b then Some x.reply else world_of first xs before q t) (eq_false (length before) (first + length xs) less)),
    )

-- this environment replies so
pub gives : (asked : List Asked) (xs : List Exchange) → Gives (record { asked = asked; world = world_of (length asked) xs }) xs
gives asked xs = gives_in (record { asked = asked; world = world_of (length asked) xs }) xs (λ before q t less. refl)

-- and leaves the next request without a reply
eq_off : (n m : ℕ) → m < n → nat_eq n m ≡ false
eq_off n m e = ne_eqb n m (λ same. omega arith)

beyond : (first : ℕ) (xs : List Exchange) (before : List Asked) (q : Asked) (t : Table) → first + length xs ≤ length before → world_of first xs before q t ≡ None
beyond first [] before q t le = refl
beyond first (x ∷ xs) before q t le =
    ap (λ b. if b then Some x.reply else world_of first xs before q t) (eq_off (length before) (first + length xs) (omega arith))
    ∙ beyond first xs before q t (omega arith)

pub next_waits : (asked : List Asked) (xs : List Exchange) (q : Asked) (t : Table) → let h : Course = record { asked = asked; world = world_of (length asked) xs } in (course_after h xs).world (course_after h xs).asked q t ≡ None
next_waits asked xs q t =
    let h : Course = record { asked = asked; world = world_of (length asked) xs } in
    ap (λ w. w (course_after h xs).asked q t) (same_world h xs) ∙ beyond (length asked) xs (course_after h xs).asked q t (omega (arith, asked_length h xs))
