-- Lists of spots, and what a list contains.
use Rattle.std.proofs.Common.{◌≡◌, ◌∙◌, sym, ap, subst, arith, ℕ, ◌+◌, ◌<◌, ◌≤◌, Option, None, Some, option_to_list, length-append, List, [], ◌∷◌, ◌++◌, length, map, Contains, get_or}
use Rattle.std.proofs.lemmas.List.{get_or-map, length-map}
use Rattle.std.proofs.lemmas.List.Elements.{Contains-get_or}
use Rattle.std.proofs.lemmas.List.FromFn.{map-range_with_len_more, length-range_with_len}
use Rattle.std.specs.List.{range_with_len}
use Rattle.rr_isolation.specs.Numbers.{numbers, spots}
use Rattle.rr_isolation.specs.declared.parts.PartNumbers.{PartNumbers}
use Rattle.rr_isolation.specs.declared.search.Spot.{Spot}

abbrev pub spot : ℕ → ℕ → Spot
spot blocks n = record { node = n; blocks = blocks }

-- an element of a mapped list comes from one of the list
pub contained : {A B : Type 0} (f : A → B) (d : A) (xs : List A) (y : B) → Contains (map f xs) y → (x : A) × Contains xs x × (f x ≡ y)
contained f d xs y (k, lt, e) =
    let within : k < length xs = omega (arith, length-map xs f) in
    (get_or xs k d, Contains-get_or xs k d within, sym (get_or-map f xs k d y within) ∙ e)

pub contains_map : {A B : Type 0} (f : A → B) (xs : List A) (x : A) → Contains xs x → Contains (map f xs) (f x)
contains_map f xs x (k, lt, e) = (k, omega (arith, length-map xs f), get_or-map f xs k x (f x) lt ∙ ap f e)

pub contained_spot : (b : ℕ) (xs : List ℕ) (s : Spot) → Contains (spots b xs) s → Contains xs s.node × (s.blocks ≡ b)
contained_spot b xs s has =
    let from = contained (spot b) 0 xs s has in
    (subst (λ (n : ℕ). Contains xs n) (ap (λ (q : Spot). q.node) from.2) from.1, sym (ap (λ (q : Spot). q.blocks) from.2))

-- the spots of the items of a list, one more
pub spots_more : (b first n m node : ℕ) → first + n ≡ node → m ≡ n + 1 → spots b (range_with_len first m) ≡ spots b (range_with_len first n) ++ spot b node ∷ []
spots_more b first n m node e more = ap (λ q. spots b (range_with_len first q)) more ∙ map-range_with_len_more (spot b) first n node e

one_at_most : (o : Option ℕ) → length (option_to_list o) ≤ 1
one_at_most None = omega arith
one_at_most (Some n) = omega arith

-- three parts at most stand alone
pub few : (p : PartNumbers) → length (numbers p) ≤ p.count + 3
few p =
    let items = range_with_len p.first p.count in
    let three = option_to_list p.three ++ items in
    let two = option_to_list p.two ++ three in
    omega (arith, length-append (option_to_list p.one) two, length-append (option_to_list p.two) three, length-append (option_to_list p.three) items, one_at_most p.one, one_at_most p.two, one_at_most p.three, length-range_with_len p.first p.count)
