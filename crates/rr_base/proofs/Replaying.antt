-- A history that is one event longer.
use Rattle.std.proofs.Common.{ℕ, ◌+◌, ◌<◌, ◌++◌, ◌∷◌, [], List, length, take, get_or, refl, subst, sym}
use Rattle.std.proofs.lemmas.List.{take_more}
use Rattle.rr_base.specs.Replay.{Replays}

pub replays_more : {S E : Type 0} (step : S → E → S → Type 0) (x y z : S) (es : List E) (e : E) → Replays step x es y → step y e z → Replays step x (es ++ e ∷ []) z
replays_more step x y z [] e r s = (z, subst (λ u. step u e z) (sym r) s, refl)
replays_more step x y z (f ∷ es) e r s = (r.0, r.1, replays_more step r.0 y z es e r.2 s)

-- one turn of a loop over the events
pub replays_next : {S E : Type 0} (step : S → E → S → Type 0) (x y z : S) (es : List E) (i : ℕ) (d : E) → i < length es → Replays step x (take i es) y → step y (get_or es i d) z → Replays step x (take (i + 1) es) z
replays_next step x y z es i d lt r s =
    subst (λ fs. Replays step x fs z) (sym (take_more es i d lt)) (replays_more step x y z (take i es) (get_or es i d) r s)
