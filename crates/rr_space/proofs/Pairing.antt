-- The pairs of hashes, with one set or added.
use Rattle.std.proofs.Common.{◌≡◌, ℕ, zero, suc, ◌+◌, ◌*◌, ◌⊎◌, ⊎_elim, inl, inr, Bool, true, false, List, [], ◌∷◌, ◌++◌, length, map, slice_set, Option, Some, Contains, refl, ap, ◌∙◌, sym, arith, if◌then◌else◌}
use Rattle.std.specs.Bool.{Decides}
use Rattle.std.specs.Map.{lookup}
use Rattle.std.proofs.lemmas.Bool.{false≢true}
use Rattle.std.proofs.lemmas.List.Elements.{Contains-append_left, Contains-append_right, Contains-append_cases}
use Rattle.std.proofs.lemmas.Option.{same_Some, none-some}
use Rattle.indexmap.specs.IndexMap.{insert_entry}
use Rattle.rr_space.specs.Graph.{KeyAt, ValueAt, Object}
use Rattle.rr_space.specs.Parts.{Parts, pairs_from, below_ref, below_parts}
use Rattle.rr_space.specs.Views.{IsWithin, AllWithin}
use Rattle.rr_space.specs.Views.{IsFirstAt, kept_name}
use Rattle.rr_space.specs.declared.refer.Ref.{Ref}

-- the entries once a key has a value: an absent key comes last, under this name; a present one keeps its place and its name
abbrev pub put_entry : {K R : Type 0} → (K → K → Bool) → List (K × (R × R)) → K → R → R → List (K × (R × R))
put_entry eq [] k name v = (k, (name, v)) ∷ []
put_entry eq (e ∷ es) k name v = if eq k e.0 then (e.0, (e.1.0, v)) ∷ es else e ∷ put_entry eq es k name v

module _ {K R : Type 0} (eq : K → K → Bool) where
  step : (x : K × (R × R)) (es found made : List (K × (R × R))) (n kept v : R) (b : Bool) (later : Option (R × R))
      → kept ≡ kept_name (if b then Some x.1 else later) n → (kept ≡ kept_name later n → found ≡ made)
      → ◌≡◌ {A = List (K × (R × R))} (if b then (x.0, (kept, v)) ∷ es else x ∷ found) (if b then (x.0, (x.1.0, v)) ∷ es else x ∷ made)
  step x es found made n kept v true later e rest = ap (λ m. (x.0, (m, v)) ∷ es) e
  step x es found made n kept v false later e rest = ap (λ t. x ∷ t) (rest e)

  -- an insert under the name that is kept
  pub put_is : (es : List (K × (R × R))) (k : K) (n kept v : R) → kept ≡ kept_name (lookup (eq k) es) n → insert_entry eq es k (kept, v) ≡ put_entry eq es k n v
  put_is [] k n kept v e = ap (λ m. (k, (m, v)) ∷ []) e
  put_is (x ∷ es) k n kept v e = step x es (insert_entry eq es k (kept, v)) (put_entry eq es k n v) n kept v (eq k x.0) (lookup (eq k) es) e (put_is es k n kept v)

abbrev pub second : {K R : Type 0} → List (K × (R × R)) → List (R × R)
second es = map (λ e. e.1) es

module _ {K H : Type 0} (eq : K → K → Bool) (f : K → H) (k : K) (says : (y : K) → Decides (eq k y) (f k ≡ f y)) (n v : Ref) where
  abbrev keys : List (K × (Ref × Ref)) → List H
  keys es = map (λ e. f e.0) es

  abbrev put : List (K × (Ref × Ref)) → List (K × (Ref × Ref))
  put es = put_entry eq es k n v

  -- what a property of the first entry's place is, by whether the key is there
  at_true : (P : List (K × (Ref × Ref)) → Type 0) (x : K × (Ref × Ref)) (es : List (K × (Ref × Ref))) → eq k x.0 ≡ true → P ((x.0, (x.1.0, v)) ∷ es) → P (put (x ∷ es))
  at_true P x es e h = by (eq k x.0) e h
    where
      by : (b : Bool) → b ≡ true → P ((x.0, (x.1.0, v)) ∷ es) → P (if b then (x.0, (x.1.0, v)) ∷ es else x ∷ put es)
      by true e h = h
      by false e h = absurd (false≢true e)

  at_false : (P : List (K × (Ref × Ref)) → Type 0) (x : K × (Ref × Ref)) (es : List (K × (Ref × Ref))) → eq k x.0 ≡ false → P (x ∷ put es) → P (put (x ∷ es))
  at_false P x es e h = by (eq k x.0) e h
    where
      by : (b : Bool) → b ≡ false → P (x ∷ put es) → P (if b then (x.0, (x.1.0, v)) ∷ es else x ∷ put es)
      by true e h = absurd (false≢true (sym e))
      by false e h = h

  either : (P : List (K × (Ref × Ref)) → Type 0) (x : K × (Ref × Ref)) (es : List (K × (Ref × Ref))) → P ((x.0, (x.1.0, v)) ∷ es) → P (x ∷ put es) → P (put (x ∷ es))
  either P x es h l = by (eq k x.0)
    where
      by : (b : Bool) → P (if b then (x.0, (x.1.0, v)) ∷ es else x ∷ put es)
      by true = h
      by false = l

  here_so : (y : K) → Some (f y) ≡ Some (f k) → eq k y ≡ true
  here_so y e = (says y).1 (sym (same_Some (f y) (f k) e))

  not_so : (y : K) → (Some (f y) ≡ Some (f k) → ⊥) → eq k y ≡ false
  not_so y out = by (eq k y) refl
    where
      by : (b : Bool) → eq k y ≡ b → b ≡ false
      by true e = absurd (out (ap Some (sym ((says y).0 e))))
      by false e = refl

  later : {h : H} (x : K × (Ref × Ref)) (es : List (K × (Ref × Ref))) (i : ℕ) → IsFirstAt (keys (x ∷ es)) h (suc i) → IsFirstAt (keys es) h i
  later x es i w = record { here = w.here; before = λ j lt. w.before (suc j) (omega (arith, lt)) }

  -- a key that is there keeps its place
  pub set_keys : (es : List (K × (Ref × Ref))) (i : ℕ) → IsFirstAt (keys es) (f k) i → keys (put es) ≡ keys es
  set_keys [] i w = absurd (none-some (f k) w.here)
  set_keys (x ∷ es) zero w = at_true (λ fs. keys fs ≡ keys (x ∷ es)) x es (here_so x.0 w.here) refl
  set_keys (x ∷ es) (suc i) w = at_false (λ fs. keys fs ≡ keys (x ∷ es)) x es (not_so x.0 (w.before 0 (omega arith))) (ap (λ hs. f x.0 ∷ hs) (set_keys es i (later x es i w)))

  pub set_pairs : (es : List (K × (Ref × Ref))) (i j : ℕ) → IsFirstAt (keys es) (f k) i → pairs_from j (second (put es)) ≡ slice_set (pairs_from j (second es)) (2 * i + 1) (ValueAt (j + i), v)
  set_pairs [] i j w = absurd (none-some (f k) w.here)
  set_pairs (x ∷ es) zero j w = at_true (λ fs. pairs_from j (second fs) ≡ slice_set (pairs_from j (second (x ∷ es))) 1 (ValueAt (j + 0), v)) x es (here_so x.0 w.here)
      (ap (λ m. (KeyAt j, x.1.0) ∷ (ValueAt m, v) ∷ pairs_from (j + 1) (second es)) (let z : j ≡ j + 0 = omega arith in z))
  set_pairs (x ∷ es) (suc i) j w =
      at_false (λ fs. pairs_from j (second fs) ≡ slice_set (pairs_from j (second (x ∷ es))) (2 * suc i + 1) (ValueAt (j + suc i), v)) x es (not_so x.0 (w.before 0 (omega arith)))
      (ap (λ ts. (KeyAt j, x.1.0) ∷ (ValueAt j, x.1.1) ∷ ts) (set_pairs es i (j + 1) (later x es i w)
      ∙ ap (λ m. slice_set (pairs_from (j + 1) (second es)) (2 * i + 1) (ValueAt m, v)) (let z : (j + 1) + i ≡ j + suc i = omega arith in z))
      ∙ ap (λ m. slice_set (pairs_from j (second (x ∷ es))) m (ValueAt (j + suc i), v)) (let z : suc (suc (2 * i + 1)) ≡ 2 * suc i + 1 = omega arith in z))

  fewer : (x : K × (Ref × Ref)) (es : List (K × (Ref × Ref))) → (Contains (keys (x ∷ es)) (f k) → ⊥) → Contains (keys es) (f k) → ⊥
  fewer x es out has = out (Contains-append_right (f x.0 ∷ []) (keys es) (f k) has)

  not_first : (x : K × (Ref × Ref)) (es : List (K × (Ref × Ref))) → (Contains (keys (x ∷ es)) (f k) → ⊥) → eq k x.0 ≡ false
  not_first x es out = not_so x.0 (λ e. out (0, omega arith, same_Some (f x.0) (f k) e))

  -- a new key comes last
  pub new_keys : (es : List (K × (Ref × Ref))) → (Contains (keys es) (f k) → ⊥) → keys (put es) ≡ keys es ++ f k ∷ []
  new_keys [] out = refl
  new_keys (x ∷ es) out = at_false (λ fs. keys fs ≡ keys (x ∷ es) ++ f k ∷ []) x es (not_first x es out) (ap (λ hs. f x.0 ∷ hs) (new_keys es (fewer x es out)))

  pub new_pairs : (es : List (K × (Ref × Ref))) (j : ℕ) → (Contains (keys es) (f k) → ⊥)
      → pairs_from j (second (put es)) ≡ pairs_from j (second es) ++ (KeyAt (j + length (keys es)), n) ∷ (ValueAt (j + length (keys es)), v) ∷ []
  new_pairs [] j out = ap (λ m. (KeyAt m, n) ∷ (ValueAt m, v) ∷ []) (let z : j ≡ j + 0 = omega arith in z)
  new_pairs (x ∷ es) j out =
      at_false (λ fs. pairs_from j (second fs) ≡ pairs_from j (second (x ∷ es)) ++ (KeyAt (j + length (keys (x ∷ es))), n) ∷ (ValueAt (j + length (keys (x ∷ es))), v) ∷ []) x es (not_first x es out)
      (ap (λ ts. (KeyAt j, x.1.0) ∷ (ValueAt j, x.1.1) ∷ ts) (new_pairs es (j + 1) (fewer x es out)
      ∙ ap (λ m. pairs_from (j + 1) (second es) ++ (KeyAt m, n) ∷ (ValueAt m, v) ∷ []) (let z : (j + 1) + length (keys es) ≡ j + suc (length (keys es)) = omega arith in z)))

  pub put_within : (m : ℕ) (es : List (K × (Ref × Ref))) (j : ℕ) → AllWithin m (pairs_from j (second es)) → IsWithin m n → IsWithin m v → AllWithin m (pairs_from j (second (put es)))
  put_within m [] j all wn wv = (wn, (wv, tt))
  put_within m (x ∷ es) j all wn wv = either (λ fs. AllWithin m (pairs_from j (second fs))) x es (all.0, (wv, all.1.1)) (all.0, (all.1.0, put_within m es (j + 1) all.1.1 wn wv))

  -- what the pairs lead to they led to before, or it came in
  abbrev Led : (old new : Parts) → Type 0
  Led old new = (e : ℕ × List Object) → Contains (below_parts new) e → Contains (below_parts old) e ⊎ Contains (below_ref n ++ below_ref v) e

  pub put_below : (es : List (K × (Ref × Ref))) (j : ℕ) → Led (pairs_from j (second es)) (pairs_from j (second (put es)))
  put_below [] j = λ e has.
      inr (⊎_elim (λ q. Contains-append_left (below_ref n) (below_ref v) e q)
      (λ q. Contains-append_right (below_ref n) (below_ref v) e (⊎_elim (λ w. w) (λ (i, lt, w). absurd (let z : ⊥ = omega (arith, lt) in z)) (Contains-append_cases (below_ref v) [] e q)))
      (Contains-append_cases (below_ref n) (below_ref v ++ []) e has))
  put_below (x ∷ es) j =
      let a = below_ref x.1.0 in
      let b = below_ref x.1.1 in
      let rest = below_parts (pairs_from (j + 1) (second es)) in
      either (λ fs. Led (pairs_from j (second (x ∷ es))) (pairs_from j (second fs))) x es
      (λ e has. ⊎_elim (λ q. inl (Contains-append_left a (b ++ rest) e q))
      (λ q. ⊎_elim (λ w. inr (Contains-append_right (below_ref n) (below_ref v) e w)) (λ w. inl (Contains-append_right a (b ++ rest) e (Contains-append_right b rest e w))) (Contains-append_cases (below_ref v) rest e q))
      (Contains-append_cases a (below_ref v ++ rest) e has))
      (λ e has. ⊎_elim (λ q. inl (Contains-append_left a (b ++ rest) e q))
      (λ q. ⊎_elim (λ w. inl (Contains-append_right a (b ++ rest) e (Contains-append_left b rest e w)))
      (λ w. ⊎_elim (λ u. inl (Contains-append_right a (b ++ rest) e (Contains-append_right b rest e u))) (λ u. inr u) (put_below es (j + 1) e w))
      (Contains-append_cases b (below_parts (pairs_from (j + 1) (second (put es)))) e q))
      (Contains-append_cases a (b ++ below_parts (pairs_from (j + 1) (second (put es)))) e has))
