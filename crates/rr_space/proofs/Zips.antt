-- Lists that agree place by place.
use Rattle.std.proofs.Common.{◌≡◌, ℕ, zero, suc, List, [], ◌∷◌, slice_get, Some, subst, refl}
use Rattle.std.proofs.lemmas.Option.{same_Some, none-some}
use Rattle.std.specs.List.{AllZip}

-- what a list has at a place, a list that agrees with it place by place has there too
pub zip_at : {A B : Type 0} (R : A → B → Type 0) (xs : List A) (ys : List B) (i : ℕ) (a : A) → AllZip R xs ys → slice_get xs i ≡ Some a → (b : B) × (slice_get ys i ≡ Some b) × R a b
zip_at R [] ys i a z e = absurd (none-some a e)
zip_at R (x ∷ xs) [] i a z e = absurd z
zip_at R (x ∷ xs) (y ∷ ys) zero a z e = (y, refl, subst (λ t. R t y) (same_Some x a e) z.0)
zip_at R (x ∷ xs) (y ∷ ys) (suc i) a z e = zip_at R xs ys i a z.1 e

pub zip_back : {A B : Type 0} (R : A → B → Type 0) (xs : List A) (ys : List B) (i : ℕ) (b : B) → AllZip R xs ys → slice_get ys i ≡ Some b → (a : A) × (slice_get xs i ≡ Some a) × R a b
zip_back R [] [] i b z e = absurd (none-some b e)
zip_back R [] (y ∷ ys) i b z e = absurd z
zip_back R (x ∷ xs) [] i b z e = absurd z
zip_back R (x ∷ xs) (y ∷ ys) zero b z e = (x, refl, subst (λ t. R x t) (same_Some y b e) z.0)
zip_back R (x ∷ xs) (y ∷ ys) (suc i) b z e = zip_back R xs ys i b z.1 e
