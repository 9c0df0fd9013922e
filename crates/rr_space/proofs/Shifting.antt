-- Lists whose first elements are changed, and the parts of nodes behind other slots.
use Rattle.std.proofs.Common.{◌≡◌, ℕ, zero, suc, ◌+◌, ◌<◌, ◌≤◌, List, [], ◌∷◌, ◌++◌, length, map, slice_get, slice_set, get_or, Some, refl, ap, ◌∙◌, sym, subst, arith}
use Rattle.std.proofs.lemmas.Option.{same_Some, none-some, slice_get_read}
use Rattle.indexmap.specs.IndexMap.{set_value_at}
use Rattle.rr_base.specs.declared.name.Sym.{Sym}
use Rattle.rr_space.specs.Views.{ref_behind, part_behind, field_behind, entry_behind}
use Rattle.rr_space.specs.Parts.{places_from, pairs_from, field_part}
use Rattle.rr_space.specs.Views.{entry_pair, entry_key, IsWithin, AllWithin}
use Rattle.rr_space.specs.declared.node.Key.{Key}
use Rattle.rr_space.specs.declared.refer.Ref.{Ref}

-- the list with its first n elements changed
abbrev pub map_first : {A : Type 0} → (A → A) → ℕ → List A → List A
map_first f zero xs = xs
map_first f (suc n) [] = []
map_first f (suc n) (x ∷ xs) = f x ∷ map_first f n xs

module _ {A : Type 0} (f : A → A) where
  pub length-map_first : (xs : List A) (n : ℕ) → length (map_first f n xs) ≡ length xs
  length-map_first [] zero = refl
  length-map_first [] (suc n) = refl
  length-map_first (x ∷ xs) zero = refl
  length-map_first (x ∷ xs) (suc n) = ap suc (length-map_first xs n)

  pub next_is_old : (xs : List A) (n : ℕ) → slice_get (map_first f n xs) n ≡ slice_get xs n
  next_is_old [] zero = refl
  next_is_old [] (suc n) = refl
  next_is_old (x ∷ xs) zero = refl
  next_is_old (x ∷ xs) (suc n) = next_is_old xs n

  pub set_next : (xs : List A) (n : ℕ) (x : A) → slice_get xs n ≡ Some x → slice_set (map_first f n xs) n (f x) ≡ map_first f (n + 1) xs
  set_next xs n x e = by xs n e ∙ ap (λ m. map_first f m xs) (let z : suc n ≡ n + 1 = omega arith in z)
    where
      by : (xs : List A) (n : ℕ) → slice_get xs n ≡ Some x → slice_set (map_first f n xs) n (f x) ≡ map_first f (suc n) xs
      by [] n e = absurd (none-some x e)
      by (y ∷ xs) zero e = ap (λ z. f z ∷ xs) (sym (same_Some y x e))
      by (y ∷ xs) (suc n) e = ap (λ ys. f y ∷ ys) (by xs n e)

  pub all_first : (xs : List A) (n : ℕ) → length xs ≤ n → map_first f n xs ≡ map f xs
  all_first [] zero le = refl
  all_first [] (suc n) le = refl
  all_first (x ∷ xs) zero le = absurd (let w : ⊥ = omega (arith, le) in w)
  all_first (x ∷ xs) (suc n) le = ap (λ ys. f x ∷ ys) (all_first xs n (omega (arith, le)))

  -- a loop that changes the elements of cur in turn
  pub read_next : (xs cur : List A) (n : ℕ) (x : A) → cur ≡ map_first f n xs → n < length xs → x ≡ get_or cur n x → slice_get xs n ≡ Some x
  read_next xs cur n x e lt is = sym (next_is_old xs n) ∙ ap (λ ys. slice_get ys n) (sym e) ∙ slice_get_read cur (length cur) n x refl (omega (arith, lt, length-map_first xs n, ap length e)) is

  pub write_next : (xs cur new : List A) (n : ℕ) (x : A) → cur ≡ map_first f n xs → slice_get xs n ≡ Some x → new ≡ slice_set cur n (f x) → new ≡ map_first f (n + 1) xs
  write_next xs cur new n x e at is = is ∙ ap (λ ys. slice_set ys n (f x)) e ∙ set_next xs n x at

  pub written_all : (xs cur : List A) (n : ℕ) → cur ≡ map_first f n xs → length xs ≤ n → cur ≡ map f xs
  written_all xs cur n e le = e ∙ all_first xs n le

-- the same for the values of entries
module _ {K V : Type 0} (f : K × V → K × V) (g : V → V) (is : (e : K × V) → f e ≡ (e.0, g e.1)) where
  abbrev second : K × V → V
  second e = e.1

  set_next_value : (es : List (K × V)) (n : ℕ) (v : V) → slice_get (map second es) n ≡ Some v → set_value_at (map_first f n es) n (g v) ≡ map_first f (n + 1) es
  set_next_value es n v at = by es n at ∙ ap (λ m. map_first f m es) (let z : suc n ≡ n + 1 = omega arith in z)
    where
      by : (es : List (K × V)) (n : ℕ) → slice_get (map second es) n ≡ Some v → set_value_at (map_first f n es) n (g v) ≡ map_first f (suc n) es
      by [] n at = absurd (none-some v at)
      by (x ∷ es) zero at = ap (λ y. y ∷ es) (ap (λ w. (x.0, g w)) (sym (same_Some x.1 v at)) ∙ sym (is x))
      by (x ∷ es) (suc n) at = ap (λ ys. f x ∷ ys) (by es n at)

  pub read_next_value : (es cur : List (K × V)) (n : ℕ) (v : V) → cur ≡ map_first f n es → slice_get (map second cur) n ≡ Some v → slice_get (map second es) n ≡ Some v
  read_next_value es cur n v e at = by es n ∙ ap (λ ys. slice_get (map second ys) n) (sym e) ∙ at
    where
      by : (es : List (K × V)) (n : ℕ) → slice_get (map second es) n ≡ slice_get (map second (map_first f n es)) n
      by [] zero = refl
      by [] (suc n) = refl
      by (x ∷ es) zero = refl
      by (x ∷ es) (suc n) = by es n

  pub write_next_value : (es cur new : List (K × V)) (n : ℕ) (v : V) → cur ≡ map_first f n es → slice_get (map second es) n ≡ Some v → new ≡ set_value_at cur n (g v) → new ≡ map_first f (n + 1) es
  write_next_value es cur new n v e at w = w ∙ ap (λ ys. set_value_at ys n (g v)) e ∙ set_next_value es n v at

-- what the fields lead to is within
pub field_within : (m : ℕ) (fs : List (Sym × Ref)) (n : ℕ) (f : Sym × Ref) → AllWithin m (map field_part fs) → slice_get fs n ≡ Some f → IsWithin m f.1
field_within m [] n f all at = absurd (none-some f at)
field_within m (x ∷ fs) zero f all at = subst (λ (y : Sym × Ref). IsWithin m y.1) (same_Some x f at) all.0
field_within m (x ∷ fs) (suc n) f all at = field_within m fs n f all.1 at

module _ (k : ℕ) where
  pub places_behind : (rs : List Ref) (j : ℕ) → places_from j (map (ref_behind k) rs) ≡ map (part_behind k) (places_from j rs)
  places_behind [] j = refl
  places_behind (r ∷ rs) j = ap (λ ts. map (part_behind k) (places_from j (r ∷ [])) ++ ts) (places_behind rs (j + 1))

  pub pairs_behind : (es : List (Key × (Ref × Ref))) (j : ℕ) → pairs_from j (map entry_pair (map (entry_behind k) es)) ≡ map (part_behind k) (pairs_from j (map entry_pair es))
  pairs_behind [] j = refl
  pairs_behind (e ∷ es) j = ap (λ ts. map (part_behind k) (pairs_from j (e.1 ∷ [])) ++ ts) (pairs_behind es (j + 1))

  pub keys_behind : (es : List (Key × (Ref × Ref))) → map entry_key (map (entry_behind k) es) ≡ map entry_key es
  keys_behind [] = refl
  keys_behind (e ∷ es) = ap (λ ks. entry_key e ∷ ks) (keys_behind es)

  pub fields_behind : (fs : List (Sym × Ref)) → map field_part (map (field_behind k) fs) ≡ map (part_behind k) (map field_part fs)
  fields_behind [] = refl
  fields_behind (f ∷ fs) = ap (λ ts. part_behind k (field_part f) ∷ ts) (fields_behind fs)
