-- Events taken in order.
use Rattle.std.specs.Prelude.{◌≡◌, List, [], ◌∷◌}

-- the events, taken in order, lead from one state to another
abbrev pub Replays : {S E : Type 0} → (S → E → S → Type 0) → S → List E → S → Type 0
Replays {S} step x [] y = x ≡ y
Replays {S} step x (e ∷ es) y = (z : S) × step x e z × Replays step z es y

-- the events, taken in order, lead somewhere
abbrev pub CanReplay : {S E : Type 0} → (S → E → S → Type 0) → S → List E → Type 0
CanReplay {S} step x es = (y : S) × Replays step x es y
