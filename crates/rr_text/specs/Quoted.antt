-- How a text is written between quotes.
use Rattle.std.specs.Prelude.{ℕ, Bool, false, List, [], ◌∷◌, ◌++◌, nat_eq, ◌||◌, if◌then◌else◌}

-- whether `#` before this byte would begin an interpolation: `{`, `$` or `@`
abbrev pub opens : List ℕ → Bool
opens [] = false
opens (c ∷ s) = nat_eq c 123 || (nat_eq c 36 || nat_eq c 64)

-- what a byte is written as, where `s` follows it
abbrev pub escape : ℕ → List ℕ → List ℕ
escape c s =
    if nat_eq c 34 then 92 ∷ 34 ∷ [] else
    if nat_eq c 92 then 92 ∷ 92 ∷ [] else
    if nat_eq c 10 then 92 ∷ 110 ∷ [] else
    if nat_eq c 9 then 92 ∷ 116 ∷ [] else
    if nat_eq c 13 then 92 ∷ 114 ∷ [] else
    if nat_eq c 27 then 92 ∷ 101 ∷ [] else
    if nat_eq c 35 then (if opens s then 92 ∷ 35 ∷ [] else 35 ∷ []) else c ∷ []

abbrev pub escaped : List ℕ → List ℕ
escaped [] = []
escaped (c ∷ s) = escape c s ++ escaped s

unfoldable pub quoted : List ℕ → List ℕ
quoted s = 34 ∷ (escaped s ++ 34 ∷ [])
