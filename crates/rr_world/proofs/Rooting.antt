-- Roots stay within a space that gets more slots.
use Rattle.std.proofs.Common.{◌≡◌, ap, ◌∙◌, refl, map, ℕ, ◌≤◌, ◌<◌, List, [], ◌∷◌, ◌++◌, arith}
use Rattle.std.specs.Prelude.{slice_index}
use Rattle.rr_space.specs.Graph.{Own, At}
use Rattle.rr_space.specs.Readings.{Owner, Shared as SharedBy, Naming}
use Rattle.rr_world.specs.Readings.{root_in}
use Rattle.rr_space.specs.Parts.{IsWithin}
use Rattle.rr_space.specs.declared.refer.Ref.{Ref}
use Rattle.rr_space.specs.declared.refer.Ref.TheVariants.{Nil, False, True, Int, Symbol, Class, Ractor, Local, Shared}
use Rattle.rr_world.specs.Views.{AreRootsWithin}

pub within_more : (k n : ℕ) (r : Ref) → k ≤ n → IsWithin k r → IsWithin n r
within_more k n Nil le w = w
within_more k n False le w = w
within_more k n True le w = w
within_more k n (Int x) le w = w
within_more k n (Symbol x) le w = w
within_more k n (Class x) le w = w
within_more k n (Ractor x) le w = w
within_more k n (Local s) le w = omega (arith, w)
within_more k n (Shared p c) le w = w

pub roots_and_more : (k n : ℕ) (rs : List Ref) (r : Ref) → k ≤ n → AreRootsWithin k rs → IsWithin n r → AreRootsWithin n (rs ++ r ∷ [])
roots_and_more k n [] r le w last = (last, tt)
roots_and_more k n (x ∷ xs) r le w last = (within_more k n x le w.0, roots_and_more k n xs r le w.1 last)

-- roots have the names that they had, where the slots have
pub roots_keep : (k : ℕ) (names names2 : Naming) (h : Owner) (rs : List Ref) → AreRootsWithin k rs → ((i : ℕ) → i < k → slice_index (names2 h) i ≡ slice_index (names h) i)
    → ((c : ℕ) → names2 (SharedBy c) ≡ names (SharedBy c)) → map (root_in names2 h) rs ≡ map (root_in names h) rs
roots_keep k names names2 h [] within stand kept = refl
roots_keep k names names2 h (r ∷ rs) within stand kept =
    ap (λ v. v ∷ map (root_in names2 h) rs) (one r within.0) ∙ ap (λ vs. root_in names h r ∷ vs) (roots_keep k names names2 h rs within.1 stand kept)
  where
    one : (x : Ref) → IsWithin k x → root_in names2 h x ≡ root_in names h x
    one Nil w = refl
    one False w = refl
    one True w = refl
    one (Int z) w = refl
    one (Symbol s) w = refl
    one (Class c) w = refl
    one (Ractor c) w = refl
    one (Local n) w = ap (λ i. At (Own i)) (stand n w)
    one (Shared p c) w = ap (λ ns. At (Own (slice_index ns p))) (kept c.now.number)
