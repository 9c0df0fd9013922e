-- Slots that are linked from the last to the first.
use Rattle.std.specs.Prelude.{◌≡◌, ℕ, zero, suc, ◌+◌, ◌<◌, List, [], ◌∷◌, ◌++◌, length, Contains, Option, Some, None, slice_get}
use Rattle.rr_share.specs.Search.{Adds}
use Rattle.rr_share.specs.declared.sources.Source.{Source}

-- the place is below k, if it is one
abbrev pub Falls : ℕ → Option ℕ → Type 0
Falls k None = Unit {0}
Falls k (Some i) = i < k

-- each link leads back
abbrev pub AreLinked : List Source → Type 0
AreLinked all = (k : ℕ) (s : Source) → slice_get all k ≡ Some s → Falls k s.before

-- and each last one is there
pub record IsLinked (last : List (Option ℕ)) (all : List Source) : Type 0 where
  pub last_within : (p : ℕ) (at : Option ℕ) → slice_get last p ≡ Some at → Falls (length all) at
  pub back : AreLinked all

abbrev pub chained : (Option ℕ → List ℕ) → Option Source → List ℕ
chained rest None = []
chained rest (Some s) = s.slot ∷ rest s.before

-- the slots from a place on, of at most k links
abbrev pub chain : List Source → ℕ → Option ℕ → List ℕ
chain all zero at = []
chain all (suc k) None = []
chain all (suc k) (Some i) = chained (λ a. chain all k a) (slice_get all i)

-- the first of the whole were added to a set, and the rest is left
pub record Walked (old new whole rest : List ℕ) : Type 0 where
  pub done : List ℕ
  pub is : whole ≡ done ++ rest
  pub added : Adds (Contains done) old new

-- how many links may be left from a place on
abbrev pub links_left : Option ℕ → ℕ
links_left None = 0
links_left (Some i) = i + 1
