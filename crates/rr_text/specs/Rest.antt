-- What a walk with a stack has still to do.
use Rattle.std.specs.Prelude.{ℕ, suc, ◌+◌, ◌-◌, ◌*◌, ◌^◌, Bool, List, [], ◌∷◌, map, length, reverse}
use Rattle.rr_text.specs.Walk.{Outcome, Wrote, Look, followed, all_of, walk}

-- a thing that is being walked: its key, the parts that are left, and what is written after them
pub record Begun (A I K : Type 0) : Type 0 where
  pub key : K
  pub parts : List (List A × I)
  pub closing : List A

abbrev pub keys : {A I K : Type 0} → List (Begun A I K) → List K
keys [] = []
keys (b ∷ bs) = b.key ∷ keys bs

module _ {A I K : Type 0} (look : I → Look A I K) (same : K → K → Bool) where
  -- the begun ones, the topmost first
  abbrev pub rest : ℕ → List (Begun A I K) → Outcome A
  rest room [] = Wrote []
  rest room (b ∷ bs) = followed (all_of (walk look same room (keys (b ∷ bs))) b.parts) (followed (Wrote b.closing) (rest (suc room) bs))

  module _ {F : Type 0} (view : F → Begun A I K) (levels : ℕ) where
    -- the frames, topmost first
    abbrev pub begun : List F → List (Begun A I K)
    begun fs = map view (reverse fs)

    -- a stack that has written `out`
    abbrev pub whole : List F → List A → Outcome A
    whole fs out = followed (Wrote out) (rest (levels - length fs) (begun fs))

    -- the same where something comes first
    abbrev pub showing : List F → List A → I → Outcome A
    showing fs out i = followed (Wrote out) (followed (walk look same (levels - length fs) (keys (begun fs)) i) (rest (levels - length fs) (begun fs)))

-- The turns that are left: a frame deeper inside weighs less than one part of the frame around it.
module _ {F : Type 0} (parts : F → ℕ) (breadth : ℕ) where
  abbrev pub load : ℕ → List F → ℕ
  load room [] = 0
  load room (f ∷ fs) = suc (parts f) * breadth ^ room + load (room - 1) fs
