-- The characters of texts.
use Rattle.std.specs.Prelude.{ℕ, ◌-◌, Bool, not, ◌||◌, nat_eq, nat_lt, List, [], ◌∷◌, take, if◌then◌else◌}
use Rattle.std.specs.List.{prefix_len}

-- whether a byte begins a character
abbrev pub begins_character : ℕ → Bool
begins_character b = nat_lt b 128 || not (nat_lt b 192)

abbrev pub continues_character : ℕ → Bool
continues_character b = not (begins_character b)

-- a text from its k-th character on
abbrev pub from_character : ℕ → List ℕ → List ℕ
from_character k [] = []
from_character k (b ∷ bs) = if begins_character b then (if nat_eq k 0 then b ∷ bs else from_character (k - 1) bs) else from_character k bs

-- the first character of a text that begins with one
abbrev pub first_character : List ℕ → List ℕ
first_character [] = []
first_character (b ∷ bs) = b ∷ take (prefix_len continues_character bs) bs
