-- Bytes as what is written where no object is asked.
use Rattle.std.proofs.Common.{◌≡◌, ℕ, List, [], ◌∷◌, ◌++◌, Option, refl, ap, ◌∙◌}
use Rattle.std.proofs.lemmas.List.{map-append}
use Rattle.rr_text.specs.Forms.{Byte, spelled, filled}

-- bytes come behind
pub spelled_more : (bytes bytes' s : List ℕ) → bytes' ≡ bytes ++ s → spelled bytes' ≡ spelled bytes ++ spelled s
spelled_more bytes bytes' s more = ap spelled more ∙ map-append Byte bytes s

-- bytes stay as they are
pub filled_spelled : (s : List ℕ) (answers : List (Option (List ℕ))) → filled (spelled s) answers ≡ s
filled_spelled [] answers = refl
filled_spelled (b ∷ s) answers = ap (λ (t : List ℕ). b ∷ t) (filled_spelled s answers)
