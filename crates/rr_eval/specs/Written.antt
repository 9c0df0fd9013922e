-- What is written to an output.
use Rattle.std.specs.Prelude.{◌≡◌, ◌+◌, ℕ, List, ◌∷◌, ◌++◌, Bool, true, false, Option}
use Rattle.std.specs.Io.KnownBytes.{Appends}

-- what is seen of an output: the bytes that it holds, where they are known, and how many of its writes failed
pub record Written : Type 0 where
  pub bytes : Option (List ℕ)
  pub failures : ℕ

-- the same of an output that has these two readings
abbrev pub written_to : {O : Type 0} → (O → Option (List ℕ)) → (O → ℕ) → O → Written
written_to contents failures output = record { bytes = contents output; failures = failures output }

-- `part` is a beginning of `whole`
abbrev pub IsBeginning : List ℕ → List ℕ → Type 0
IsBeginning part whole = (more : List ℕ) × (whole ≡ part ++ more)

-- a beginning that is shorter
abbrev pub IsProperBeginning : List ℕ → List ℕ → Type 0
IsProperBeginning part whole = (next : ℕ) × ((more : List ℕ) × (whole ≡ part ++ next ∷ more))

-- the text was written whole, and no write failed
pub record WritesAll (old new : Written) (text : List ℕ) : Type 0 where
  pub wrote : Appends old.bytes new.bytes text
  pub failed : new.failures ≡ old.failures

-- a beginning of the text was written, and no write failed
pub record WritesBeginning (old new : Written) (text : List ℕ) : Type 0 where
  pub part : List ℕ
  pub begins : IsBeginning part text
  pub wrote : Appends old.bytes new.bytes part
  pub failed : new.failures ≡ old.failures

-- one write failed, before all of the text was written
pub record FallsShort (old new : Written) (text : List ℕ) : Type 0 where
  pub part : List ℕ
  pub begins : IsProperBeginning part text
  pub wrote : Appends old.bytes new.bytes part
  pub failed : new.failures ≡ old.failures + 1

-- the text was written whole, at `true`, or a write failed before
abbrev pub Puts : Written → Written → List ℕ → Bool → Type 0
Puts old new text true = WritesAll old new text
Puts old new text false = FallsShort old new text
