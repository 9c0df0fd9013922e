-- Arrays that are spread, element by element.
use Rattle.std.proofs.Common.{◌≡◌, ◌-◌, ◌<◌, ℕ, suc, sym, ap, refl, arith, append_assoc, List, [], ◌∷◌, ◌++◌, Option, Some, None}
use Rattle.rr_space.specs.Tables.{Table}
use Rattle.rr_space.specs.declared.refer.Ref.{Ref}
use Rattle.rr_builtin.specs.Rounds.{item_at}
use Rattle.rr_eval.specs.Blocks.{spread_with, spread_read, spread_from}

-- values before those that are spread
abbrev pub behind : List Ref → Option (List Ref) → Option (List Ref)
behind vs None = None
behind vs (Some ws) = Some (vs ++ ws)

pub behind_none : (o : Option (List Ref)) → o ≡ behind [] o
behind_none None = refl
behind_none (Some ws) = refl

-- one element more
pub spread_step : (t : Table) (v : Ref) (place count : ℕ) → place < count → spread_from t v place (count - place) ≡ spread_read t (item_at t v place) (spread_from t v (suc place) (count - suc place))
spread_step t v place count lt =
    let e : count - place ≡ suc (count - suc place) = omega arith in
    ap (spread_from t v place) e

pub behind_more : (vs : List Ref) (x : Ref) (o : Option (List Ref)) → behind vs (spread_with (Some x) o) ≡ behind (vs ++ x ∷ []) o
behind_more vs x None = refl
behind_more vs x (Some ws) = ap Some (sym (append_assoc vs (x ∷ []) ws))

pub behind_end : (vs : List Ref) (o : Option (List Ref)) → o ≡ Some [] → behind vs o ≡ Some (vs ++ [])
behind_end vs o e = ap (behind vs) e
