-- The last of values.
use Rattle.std.proofs.Common.{◌≡◌, ◌≤◌, ◌-◌, ◌∙◌, suc, ap, sym, refl, arith, List, [], ◌∷◌, ◌++◌, length, get_or}
use Rattle.rr_space.specs.declared.refer.Ref.{Ref}
use Rattle.rr_eval.specs.Dispatch.{last_of}

pub last_push : (vs : List Ref) (v : Ref) → v ≡ last_of (vs ++ v ∷ [])
last_push [] v = refl
last_push (x ∷ []) v = refl
last_push (x ∷ y ∷ ys) v = last_push (y ∷ ys) v

pub last_at : (vs : List Ref) (d : Ref) → 1 ≤ length vs → get_or vs (length vs - 1) d ≡ last_of vs
last_at [] d some = absurd (omega (arith, some))
last_at (x ∷ []) d some = refl
last_at (x ∷ y ∷ ys) d some =
    let k : length (x ∷ y ∷ ys) - 1 ≡ suc (length ys) = omega arith in
    let l : length (y ∷ ys) - 1 ≡ length ys = omega arith in
    ap (λ i. get_or (x ∷ y ∷ ys) i d) k ∙ ap (λ i. get_or (y ∷ ys) i d) (sym l) ∙ last_at (y ∷ ys) d (omega arith)
