-- A stable sort has one answer.
use Rattle.std.proofs.Common.{◌≡◌, ◌≤◌, ◌<◌, ℕ, suc, Bool, true, false, not, ◌&&◌, List, [], ◌∷◌, map, length, get_or, refl, sym, ap, ◌∙◌, if◌then◌else◌, arith}
use Rattle.std.specs.List.{filter}
use Rattle.std.specs.List.Sorted.{ties, IsSortedBy, IsStableBy}
use Rattle.std.specs.Cmp.{IsStrictWeakOrder}
use Rattle.std.proofs.lemmas.Bool.{false≢true}
use Rattle.std.proofs.lemmas.List.Sorted.{sorted_far}
use Rattle.rr_builtin.specs.Sorts.{inserted, sorted}

module _ {X : Type 0} (lt : X → X → Bool) where
  -- x is not above any of them
  abbrev pub AtMost : X → List X → Type 0
  AtMost x [] = Unit {0}
  AtMost x (y ∷ ys) = (lt y x ≡ false) × AtMost x ys

  abbrev pub Ordered : List X → Type 0
  Ordered [] = Unit {0}
  Ordered (x ∷ xs) = AtMost x xs × Ordered xs

  ties_true : (x y : X) → lt x y ≡ false → lt y x ≡ false → ties lt x y ≡ true
  ties_true x y a b = ap (λ c. not c && not (lt y x)) a ∙ ap (λ c. not c) b

  not_below : (a b : Bool) → (not a && not b) ≡ true → a ≡ false
  not_below true b h = absurd (cc)
  not_below false b h = refl

  not_above : (a b : Bool) → (not a && not b) ≡ true → b ≡ false
  not_above true b h = absurd (cc)
  not_above false true h = absurd (cc)
  not_above false false h = refl

  kept : (p : X → Bool) (x : X) (xs : List X) → p x ≡ true → filter p (x ∷ xs) ≡ x ∷ filter p xs
  kept p x xs h = ap (λ b. if b then x ∷ filter p xs else filter p xs) h

  left_out : (p : X → Bool) (x : X) (xs : List X) → p x ≡ false → filter p (x ∷ xs) ≡ filter p xs
  left_out p x xs h = ap (λ b. if b then x ∷ filter p xs else filter p xs) h

  least : ((a b c : X) → lt b a ≡ false → lt c b ≡ false → lt c a ≡ false) → (x y w : X) (ws zs : List X) → AtMost y zs → filter (ties lt x) zs ≡ w ∷ ws → lt x y ≡ false
  least trans x y w ws [] low h = absurd (cc)
  least trans x y w ws (z ∷ zs) low h = by (ties lt x z) refl (λ e. least trans x y w ws zs low.1 e)
    where
      by : (b : Bool) → ties lt x z ≡ b → (filter (ties lt x) zs ≡ w ∷ ws → lt x y ≡ false) → lt x y ≡ false
      by true t later = trans y z x low.0 (not_below (lt x z) (lt z x) t)
      by false t later = later (sym (left_out (ties lt x) z zs t) ∙ h)

  once : ((a : X) → lt a a ≡ false) → ((a b c : X) → lt b a ≡ false → lt c b ≡ false → lt c a ≡ false) → (xs ys : List X) → Ordered xs → Ordered ys
      → ((x : X) → filter (ties lt x) xs ≡ filter (ties lt x) ys) → xs ≡ ys
  once irr trans [] [] ox oy h = refl
  once irr trans [] (y ∷ ys) ox oy h = let e : [] ≡ y ∷ filter (ties lt y) ys = h y ∙ kept (ties lt y) y ys (ties_true y y (irr y) (irr y)) in absurd (cc)
  once irr trans (x ∷ xs) [] ox oy h = let e : x ∷ filter (ties lt x) xs ≡ [] = sym (kept (ties lt x) x xs (ties_true x x (irr x) (irr x))) ∙ h x in absurd (cc)
  once irr trans (x ∷ xs) (y ∷ ys) ox oy h =
      let from_x : filter (ties lt x) (y ∷ ys) ≡ x ∷ filter (ties lt x) xs = sym (h x) ∙ kept (ties lt x) x xs (ties_true x x (irr x) (irr x)) in
      let from_y : filter (ties lt y) (x ∷ xs) ≡ y ∷ filter (ties lt y) ys = h y ∙ kept (ties lt y) y ys (ties_true y y (irr y) (irr y)) in
      let a : lt x y ≡ false = least trans x y x (filter (ties lt x) xs) (y ∷ ys) (irr y, oy.0) from_x in
      let b : lt y x ≡ false = least trans y x y (filter (ties lt y) ys) (x ∷ xs) (irr x, ox.0) from_y in
      let heads : y ∷ filter (ties lt x) ys ≡ x ∷ filter (ties lt x) xs = sym (kept (ties lt x) y ys (ties_true x y a b)) ∙ from_x in
      let same : x ≡ y = cc in
      ap (λ zs. x ∷ zs) (once irr trans xs ys ox.1 oy.1 (λ z. tails x y xs ys z (ties lt z x) refl same (h z))) ∙ ap (λ w. w ∷ ys) same
    where
      tails : (x y : X) (xs ys : List X) (z : X) (b : Bool) → ties lt z x ≡ b → x ≡ y → filter (ties lt z) (x ∷ xs) ≡ filter (ties lt z) (y ∷ ys) → filter (ties lt z) xs ≡ filter (ties lt z) ys
      tails x y xs ys z true t e h =
          let f : x ∷ filter (ties lt z) xs ≡ y ∷ filter (ties lt z) ys = sym (kept (ties lt z) x xs t) ∙ h ∙ kept (ties lt z) y ys (ap (ties lt z) (sym e) ∙ t) in cc
      tails x y xs ys z false t e h = sym (left_out (ties lt z) x xs t) ∙ h ∙ left_out (ties lt z) y ys (ap (ties lt z) (sym e) ∙ t)

  module _ (o : IsStrictWeakOrder lt) where
    irr : (a : X) → lt a a ≡ false
    irr a = by (lt a a) refl
      where
        by : (b : Bool) → lt a a ≡ b → b ≡ false
        by true e = sym e ∙ o.one_way a a e
        by false e = refl

    trans : (a b c : X) → lt b a ≡ false → lt c b ≡ false → lt c a ≡ false
    trans a b c f g = o.chain c b a g f

    -- what the library calls sorted, every two elements stand in order
    low : (x : X) (ys : List X) → ((k : ℕ) (d : X) → k < length ys → lt (get_or ys k d) x ≡ false) → AtMost x ys
    low x [] h = tt
    low x (y ∷ ys) h = (h 0 x (omega arith), low x ys (λ k d l. h (suc k) d (omega (arith, l))))

    far : (xs : List X) → ((i j : ℕ) (d : X) → i ≤ j → j < length xs → lt (get_or xs j d) (get_or xs i d) ≡ false) → Ordered xs
    far [] h = tt
    far (x ∷ xs) h = (low x xs (λ k d l. h 0 (suc k) d (omega arith) (omega (arith, l))), far xs (λ i j d le l. h (suc i) (suc j) d (omega (arith, le)) (omega (arith, l))))

    -- an element that is put in
    low_more : (y x : X) (ys : List X) → AtMost y ys → lt x y ≡ false → AtMost y (inserted lt x ys)
    low_more y x [] h l = (l, tt)
    low_more y x (z ∷ ys) h l = by (lt z x) (low_more y x ys h.1 l)
      where
        by : (b : Bool) → AtMost y (inserted lt x ys) → AtMost y (if b then z ∷ inserted lt x ys else x ∷ z ∷ ys)
        by true later = (h.0, later)
        by false later = (l, h)

    lower : (x y : X) (ys : List X) → AtMost y ys → lt y x ≡ false → AtMost x ys
    lower x y [] h l = tt
    lower x y (z ∷ ys) h l = (trans x y z l h.0, lower x y ys h.1 l)

    put_ordered : (x : X) (ys : List X) → Ordered ys → Ordered (inserted lt x ys)
    put_ordered x [] h = (tt, tt)
    put_ordered x (y ∷ ys) h = by (lt y x) refl (put_ordered x ys h.1)
      where
        by : (b : Bool) → lt y x ≡ b → Ordered (inserted lt x ys) → Ordered (if b then y ∷ inserted lt x ys else x ∷ y ∷ ys)
        by true e later = (low_more y x ys h.0 (o.one_way y x e), later)
        by false e later = ((e, lower x y ys h.0 e), h)

    sorted_ordered : (xs : List X) → Ordered (sorted lt xs)
    sorted_ordered [] = tt
    sorted_ordered (x ∷ xs) = put_ordered x (sorted lt xs) (sorted_ordered xs)

    both_tie : (z x y : X) → ties lt z x ≡ true → ties lt z y ≡ true → lt y x ≡ false
    both_tie z x y p q = o.chain y z x (not_above (lt z y) (lt y z) q) (not_below (lt z x) (lt x z) p)

    swapped : (z x y : X) (ys : List X) (a b : Bool) → ties lt z x ≡ a → ties lt z y ≡ b → lt y x ≡ true → filter (ties lt z) (y ∷ (x ∷ ys)) ≡ filter (ties lt z) (x ∷ (y ∷ ys))
    swapped z x y ys true true e f l = absurd (false≢true (sym (both_tie z x y e f) ∙ l))
    swapped z x y ys true false e f l =
        left_out (ties lt z) y (x ∷ ys) f ∙ kept (ties lt z) x ys e ∙ ap (λ w. x ∷ w) (sym (left_out (ties lt z) y ys f)) ∙ sym (kept (ties lt z) x (y ∷ ys) e)
    swapped z x y ys false true e f l =
        kept (ties lt z) y (x ∷ ys) f ∙ ap (λ w. y ∷ w) (left_out (ties lt z) x ys e) ∙ sym (kept (ties lt z) y ys f) ∙ sym (left_out (ties lt z) x (y ∷ ys) e)
    swapped z x y ys false false e f l =
        left_out (ties lt z) y (x ∷ ys) f ∙ left_out (ties lt z) x ys e ∙ sym (left_out (ties lt z) y ys f) ∙ sym (left_out (ties lt z) x (y ∷ ys) e)

    put_kept : (z x : X) (ys : List X) → filter (ties lt z) (inserted lt x ys) ≡ filter (ties lt z) (x ∷ ys)
    put_kept z x [] = refl
    put_kept z x (y ∷ ys) = by (lt y x) refl (put_kept z x ys)
      where
        by : (b : Bool) → lt y x ≡ b → filter (ties lt z) (inserted lt x ys) ≡ filter (ties lt z) (x ∷ ys) → filter (ties lt z) (if b then y ∷ inserted lt x ys else x ∷ y ∷ ys) ≡ filter (ties lt z) (x ∷ y ∷ ys)
        by true e later = ap (λ w. if ties lt z y then y ∷ w else w) later ∙ swapped z x y ys (ties lt z x) (ties lt z y) refl refl e
        by false e later = refl

    sorted_kept : (z : X) (xs : List X) → filter (ties lt z) (sorted lt xs) ≡ filter (ties lt z) xs
    sorted_kept z [] = refl
    sorted_kept z (x ∷ xs) = put_kept z x (sorted lt xs) ∙ ap (λ w. if ties lt z x then x ∷ w else w) (sorted_kept z xs)

    pub sort_is : (xs ys : List X) → IsSortedBy lt ys → IsStableBy lt xs ys → ys ≡ sorted lt xs
    sort_is xs ys up stable = once irr trans ys (sorted lt xs) (far ys (sorted_far lt o ys up)) (sorted_ordered xs) (λ z. stable z ∙ sym (sorted_kept z xs))

-- elements that are sorted by what is seen of them
module _ {X Y : Type 0} (f : X → Y) (lt : Y → Y → Bool) where
  put_map : (x : X) (ys : List X) → map f (inserted (λ a b. lt (f a) (f b)) x ys) ≡ inserted lt (f x) (map f ys)
  put_map x [] = refl
  put_map x (y ∷ ys) = by (lt (f y) (f x)) (put_map x ys)
    where
      by : (b : Bool) → map f (inserted (λ a b. lt (f a) (f b)) x ys) ≡ inserted lt (f x) (map f ys)
          → map f (if b then y ∷ inserted (λ a b. lt (f a) (f b)) x ys else x ∷ y ∷ ys) ≡ (if b then f y ∷ inserted lt (f x) (map f ys) else f x ∷ f y ∷ map f ys)
      by true later = ap (λ w. f y ∷ w) later
      by false later = refl

  pub sorted_map : (xs : List X) → map f (sorted (λ a b. lt (f a) (f b)) xs) ≡ sorted lt (map f xs)
  sorted_map [] = refl
  sorted_map (x ∷ xs) = put_map x (sorted (λ a b. lt (f a) (f b)) xs) ∙ ap (inserted lt (f x)) (sorted_map xs)
