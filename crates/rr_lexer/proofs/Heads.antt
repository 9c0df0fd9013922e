-- The first byte of a token, what follows it, and choices.
use Rattle.std.proofs.Common.{ℕ, zero, suc, ◌+◌, ◌<◌, ◌≤◌, ◌≡◌, ◌≢◌, ◌⊎◌, inl, inr, ◌||◌, ◌&&◌, Bool, true, false, cond, List, [], ◌∷◌, ◌++◌, length, take, drop, get_or, refl, ap, sym, ◌∙◌, arith, append_assoc, Option, Some, length-take}
use Rattle.std.proofs.Math.Numerals.{add-one}
use Rattle.std.proofs.lemmas.List.{take-append-drop, take_at, drop_at, get_or-drop}
use Rattle.std.proofs.Math.Seq.{take-suc}

pub head_is : (s : List ℕ) (m b : ℕ) (rest : List ℕ) → take m s ≡ b ∷ rest → get_or s 0 0 ≡ b
head_is [] zero b rest h = absurd cc
head_is [] (suc m) b rest h = absurd cc
head_is (x ∷ xs) zero b rest h = absurd cc
head_is (x ∷ xs) (suc m) b rest h = cc

pub cut : (s : List ℕ) (m b : ℕ) (rest : List ℕ) → take m s ≡ b ∷ rest → drop 1 s ≡ rest ++ drop m s
cut [] zero b rest h = absurd cc
cut [] (suc m) b rest h = absurd cc
cut (x ∷ xs) zero b rest h = absurd cc
cut (x ∷ xs) (suc m) b rest h = let e : take m xs ≡ rest = cc in rw (← e) (sym (take-append-drop m xs))

pub size_is : (s : List ℕ) (m b : ℕ) (rest : List ℕ) → m ≤ length s → take m s ≡ b ∷ rest → m ≡ length rest + 1
size_is s m b rest h e = omega (arith, ap length e, length-take m s)

pub whole : (s : List ℕ) (n b : ℕ) → get_or s 0 0 ≡ b → n < length s → take (n + 1) s ≡ b ∷ take n (drop 1 s)
whole [] n b e l = absurd (omega arith)
whole (x ∷ xs) n b e l = rw add-one (rw e refl)

pub same_head : (s : List ℕ) (m : ℕ) → 0 < m → get_or (take m s) 0 0 ≡ get_or s 0 0
same_head [] (suc m) h = refl
same_head s zero h = omega arith
same_head (x ∷ xs) (suc m) h = refl

-- the texts of one, two or three bytes at the front
pub front_one : (s : List ℕ) (a : ℕ) → 0 < length s → get_or s 0 0 ≡ a → take 1 s ≡ a ∷ []
front_one [] a l e = absurd (omega arith)
front_one (x ∷ xs) a l e = ap (λ y. y ∷ []) e

pub front_two : (s : List ℕ) (a b : ℕ) → 0 < length s → 0 < b → get_or s 0 0 ≡ a → get_or s 1 0 ≡ b → take 2 s ≡ a ∷ b ∷ []
front_two [] a b l k e f = absurd (omega arith)
front_two (x ∷ []) a b l k e f = absurd (omega arith)
front_two (x ∷ y ∷ xs) a b l k e f = rw (e, f) refl

pub front_three : (s : List ℕ) (a b c : ℕ) → 0 < length s → 0 < b → 0 < c → get_or s 0 0 ≡ a → get_or s 1 0 ≡ b → get_or s 2 0 ≡ c → take 3 s ≡ a ∷ b ∷ c ∷ []
front_three [] a b c l k m e f g = absurd (omega arith)
front_three (x ∷ []) a b c l k m e f g = absurd (omega arith)
front_three (x ∷ y ∷ []) a b c l k m e f g = absurd (omega arith)
front_three (x ∷ y ∷ z ∷ xs) a b c l k m e f g = rw (e, f, g) refl

-- the second and the third byte of a longer word
pub second_is : (s : List ℕ) (m a b : ℕ) (rest : List ℕ) → take m s ≡ a ∷ b ∷ rest → get_or s 1 0 ≡ b
second_is [] zero a b rest h = absurd cc
second_is [] (suc m) a b rest h = absurd cc
second_is (x ∷ xs) zero a b rest h = absurd cc
second_is (x ∷ []) (suc zero) a b rest h = absurd cc
second_is (x ∷ []) (suc (suc m)) a b rest h = absurd cc
second_is (x ∷ y ∷ ys) (suc zero) a b rest h = absurd cc
second_is (x ∷ y ∷ ys) (suc (suc m)) a b rest h = cc

pub third_is : (s : List ℕ) (m a b c : ℕ) (rest : List ℕ) → take m s ≡ a ∷ b ∷ c ∷ rest → get_or s 2 0 ≡ c
third_is [] zero a b c rest h = absurd cc
third_is [] (suc m) a b c rest h = absurd cc
third_is (x ∷ xs) zero a b c rest h = absurd cc
third_is (x ∷ xs) (suc m) a b c rest h = let e : take m xs ≡ b ∷ c ∷ rest = cc in second_is xs m b c rest e

-- which way a test went
pub chosen : {A : Type 0} (b : Bool) (x y z : A) → cond b x y ≡ z → ((b ≡ true) × (x ≡ z)) ⊎ ((b ≡ false) × (y ≡ z))
chosen true x y z h = inl (refl, h)
chosen false x y z h = inr (refl, h)

-- what holds on both ways of a test
pub pick : {A : Type 0} (P : A → Type 0) (b : Bool) (x y : A) → (b ≡ true → P x) → (b ≡ false → P y) → P (cond b x y)
pick P true x y f g = f refl
pick P false x y f g = g refl

pub some_same : {A : Type 0} {x y : A} → ◌≡◌ {A = Option A} (Some x) (Some y) → x ≡ y
some_same h = cc

pub or_false : (x y : Bool) → (x || y) ≡ false → (x ≡ false) × (y ≡ false)
or_false true y h = absurd cc
or_false false y h = (refl, h)

pub or_true : (x y : Bool) → (x || y) ≡ true → (x ≡ true) ⊎ (y ≡ true)
or_true true y h = inl refl
or_true false y h = inr h

pub and_true : (x y : Bool) → (x && y) ≡ true → (x ≡ true) × (y ≡ true)
and_true true y h = (refl, h)
and_true false y h = absurd cc

-- a byte that is not 0 stands within the list
pub byte_within : (s : List ℕ) (i : ℕ) → get_or s i 0 ≢ 0 → i < length s
byte_within [] i h = absurd (h refl)
byte_within (x ∷ xs) zero h = omega arith
byte_within (x ∷ xs) (suc i) h = let l = byte_within xs i h in omega arith

-- what is behind a front
pub split : (s front behind : List ℕ) → front ++ behind ≡ s → (take (length front) s ≡ front) × (drop (length front) s ≡ behind)
split s front behind e = rw (← e) (take_at front behind (length front) refl, drop_at front behind (length front) refl)

-- one byte more
pub one_longer : (s : List ℕ) (n : ℕ) → n < length s → take (n + 1) s ≡ take n s ++ get_or s n 0 ∷ []
one_longer s n l = rw add-one (take-suc s n 0 l)

pub ended : (s : List ℕ) (m : ℕ) (front : List ℕ) (b : ℕ) → take m s ≡ front ++ b ∷ [] → front ++ b ∷ drop m s ≡ s
ended s m front b e =
    let f : (front ++ b ∷ []) ++ drop m s ≡ s = rw (← e) (take-append-drop m s) in
    sym (append_assoc front (b ∷ []) (drop m s)) ∙ f

-- the bytes behind a place
pub at_drop : (s : List ℕ) (m i : ℕ) → get_or (drop m s) i 0 ≡ get_or s (m + i) 0
at_drop s m i = get_or-drop m s i 0

pub here : (s : List ℕ) (m : ℕ) → get_or (drop m s) 0 0 ≡ get_or s m 0
here s m = at_drop s m 0 ∙ ap (λ k. get_or s k 0) (omega arith)

pub at_drops : (s : List ℕ) (k q i : ℕ) → get_or (drop q (drop k s)) i 0 ≡ get_or s (k + (q + i)) 0
at_drops s k q i = get_or-drop q (drop k s) i 0 ∙ get_or-drop k s (q + i) 0
