-- Uses in their order, each name once: no other list has the first uses in this order.
use Rattle.std.proofs.Common.{◌≡◌, ◌∙◌, sym, ap, subst, refl, arith, ℕ, zero, suc, ◌≤◌, ◌⊎◌, ⊎_elim, inl, inr, true, false, nat_eq, List, [], ◌∷◌, All, AllPairs, Contains, get_or, if◌then◌else◌}
use Rattle.std.proofs.lemmas.Bool.Decides.{nat_tests}
use Rattle.std.proofs.lemmas.List.Elements.{Contains-get_or}
use Rattle.std.proofs.lemmas.List.Kept.{AllPairs-cons}
use Rattle.rr_isolation.specs.Names.{put_use, in_order, others, each_once}
use Rattle.rr_isolation.specs.Outer.{is_earlier}
use Rattle.rr_isolation.proofs.Earlier.{earlier_order, earlier_else}

abbrev Use : Type 0
Use = ℕ × ℕ

-- ---- what lists contain

nothing : {A : Type 0} {x : A} → Contains [] x → ⊥
nothing has = omega (arith, has.1)

first : {A : Type 0} (x : A) (xs : List A) → Contains (x ∷ xs) x
first x xs = (0, omega arith, refl)

later : {A : Type 0} (x : A) (xs : List A) (y : A) → Contains xs y → Contains (x ∷ xs) y
later x xs y (k, lt, e) = (suc k, omega arith, e)

first_or : {A : Type 0} (x : A) (xs : List A) (y : A) → Contains (x ∷ xs) y → (x ≡ y) ⊎ Contains xs y
first_or x xs y (zero, lt, e) = inl e
first_or x xs y (suc k, lt, e) = inr (k, omega arith, e)

all_of : {A : Type 0} (P : A → Type 0) (xs : List A) → ((x : A) → Contains xs x → P x) → All P xs
all_of P xs f = λ k d lt. f (get_or xs k d) (Contains-get_or xs k d lt)

-- ---- pairs of a list

of_first : {A : Type 0} (R : A → A → Type 0) (x : A) (xs : List A) → AllPairs R (x ∷ xs) → (y : A) → Contains xs y → R x y
of_first R x xs all y (k, lt, e) = subst (R x) e (all 0 (suc k) y (omega arith) (omega arith))

of_others : {A : Type 0} (R : A → A → Type 0) (x : A) (xs : List A) → AllPairs R (x ∷ xs) → AllPairs R xs
of_others R x xs all = λ i j d lt within. all (suc i) (suc j) d (omega arith) (omega arith)

none_paired : {A : Type 0} (R : A → A → Type 0) → AllPairs R []
none_paired R = λ i j d lt within. absurd (omega arith)

-- lists in one order that have the same elements are one list
pub same_lists : {A : Type 0} (R : A → A → Type 0) → ((x y : A) → R x y → R y x → ⊥) → (xs ys : List A) → AllPairs R xs → AllPairs R ys → ((x : A) → Contains xs x → Contains ys x) → ((x : A) → Contains ys x → Contains xs x) → xs ≡ ys
same_lists R one_way [] [] left right to back = refl
same_lists R one_way [] (y ∷ ys) left right to back = absurd (nothing (back y (first y ys)))
same_lists R one_way (x ∷ xs) [] left right to back = absurd (nothing (to x (first x xs)))
same_lists R one_way (x ∷ xs) (y ∷ ys) left right to back =
    ap (λ z. z ∷ xs) heads ∙ ap (λ l. y ∷ l) (same_lists R one_way xs ys (of_others R x xs left) (of_others R y ys right) tails_to tails_back)
  where
    heads : x ≡ y
    heads = ⊎_elim (λ e. sym e)
        (λ in_ys. ⊎_elim (λ e. e) (λ in_xs. absurd (one_way x y (of_first R x xs left y in_xs) (of_first R y ys right x in_ys))) (first_or x xs y (back y (first y ys))))
        (first_or y ys x (to x (first x xs)))

    tails_to : (z : _) → Contains xs z → Contains ys z
    tails_to z has = ⊎_elim
        (λ e. let before : R x z = of_first R x xs left z has in
        let itself : R x x = subst (R x) (sym (heads ∙ e)) before in
        absurd (one_way x x itself itself))
        (λ in_ys. in_ys)
        (first_or y ys z (to z (later x xs z has)))

    tails_back : (z : _) → Contains ys z → Contains xs z
    tails_back z has = ⊎_elim
        (λ e. let before : R y z = of_first R y ys right z has in
        let itself : R y y = subst (R y) (sym (sym heads ∙ e)) before in
        absurd (one_way y y itself itself))
        (λ in_xs. in_xs)
        (first_or x xs z (back z (later y ys z has)))

-- ---- uses in order

abbrev IsBefore : Use → Use → Type 0
IsBefore u v = is_earlier u v ≡ true

abbrev IsNotBehind : Use → Use → Type 0
IsNotBehind u v = is_earlier v u ≡ false

before_one_way : (u v : Use) → IsBefore u v → IsBefore v u → ⊥
before_one_way u v h k = let not = earlier_order.one_way u v h in absurd (cc)

put_from : (u : Use) (vs : List Use) (w : Use) → Contains (put_use u vs) w → (u ≡ w) ⊎ Contains vs w
put_from u [] w has = first_or u [] w has
put_from u (v ∷ vs) w has = elim (is_earlier v u) as (λ b. Contains (if b then v ∷ put_use u vs else u ∷ v ∷ vs) w → (u ≡ w) ⊎ Contains (v ∷ vs) w) [
  | true ↦ λ h. ⊎_elim (λ e. inr (subst (Contains (v ∷ vs)) e (first v vs))) (λ r. ⊎_elim (λ e. inl e) (λ in_vs. inr (later v vs w in_vs)) (put_from u vs w r)) (first_or v (put_use u vs) w h)
  | false ↦ λ h. first_or u (v ∷ vs) w h
] has

put_first : (u : Use) (vs : List Use) → Contains (put_use u vs) u
put_first u [] = first u []
put_first u (v ∷ vs) = elim (is_earlier v u) as (λ b. Contains (if b then v ∷ put_use u vs else u ∷ v ∷ vs) u) [
  | true ↦ later v (put_use u vs) u (put_first u vs)
  | false ↦ first u (v ∷ vs)
]

put_later : (u : Use) (vs : List Use) (w : Use) → Contains vs w → Contains (put_use u vs) w
put_later u [] w has = absurd (nothing has)
put_later u (v ∷ vs) w has = elim (is_earlier v u) as (λ b. Contains (if b then v ∷ put_use u vs else u ∷ v ∷ vs) w) [
  | true ↦ ⊎_elim (λ e. subst (Contains (v ∷ put_use u vs)) e (first v (put_use u vs))) (λ in_vs. later v (put_use u vs) w (put_later u vs w in_vs)) (first_or v vs w has)
  | false ↦ later u (v ∷ vs) w has
]

put_sorted : (u : Use) (vs : List Use) → AllPairs IsNotBehind vs → AllPairs IsNotBehind (put_use u vs)
put_sorted u [] all = AllPairs-cons IsNotBehind u [] (all_of (IsNotBehind u) [] (λ w has. absurd (nothing has))) (none_paired IsNotBehind)
put_sorted u (v ∷ vs) all = elim (is_earlier v u) as (λ b. is_earlier v u ≡ b → AllPairs IsNotBehind (if b then v ∷ put_use u vs else u ∷ v ∷ vs)) [
  | true ↦ λ e. AllPairs-cons IsNotBehind v (put_use u vs) (all_of (IsNotBehind v) (put_use u vs) (λ w has. ⊎_elim (λ same. subst (IsNotBehind v) same (earlier_order.one_way v u e)) (λ in_vs. of_first IsNotBehind v vs all w in_vs) (put_from u vs w has)))
      (put_sorted u vs (of_others IsNotBehind v vs all))
  | false ↦ λ e. AllPairs-cons IsNotBehind u (v ∷ vs) (all_of (IsNotBehind u) (v ∷ vs) (λ w has. ⊎_elim (λ same. subst (IsNotBehind u) same e) (λ in_vs. earlier_order.chain w v u (of_first IsNotBehind v vs all w in_vs) e) (first_or v vs w has))) all
] refl

order_from : (us : List Use) (w : Use) → Contains (in_order us) w → Contains us w
order_from [] w has = absurd (nothing has)
order_from (u ∷ us) w has = ⊎_elim (λ e. subst (Contains (u ∷ us)) e (first u us)) (λ in_us. later u us w (order_from us w in_us)) (put_from u (in_order us) w has)

order_to : (us : List Use) (w : Use) → Contains us w → Contains (in_order us) w
order_to [] w has = absurd (nothing has)
order_to (u ∷ us) w has = ⊎_elim (λ e. subst (Contains (put_use u (in_order us))) e (put_first u (in_order us))) (λ in_us. put_later u (in_order us) w (order_to us w in_us)) (first_or u us w has)

order_sorted : (us : List Use) → AllPairs IsNotBehind (in_order us)
order_sorted [] = none_paired IsNotBehind
order_sorted (u ∷ us) = put_sorted u (in_order us) (order_sorted us)

-- ---- each name once

others_from : (x : ℕ) (us : List Use) (w : Use) → Contains (others x us) w → Contains us w × (x ≡ w.0 → ⊥)
others_from x [] w has = absurd (nothing has)
others_from x (u ∷ us) w has = elim (nat_eq x u.0) as (λ b. nat_eq x u.0 ≡ b → Contains (if b then others x us else u ∷ others x us) w → Contains (u ∷ us) w × (x ≡ w.0 → ⊥)) [
  | true ↦ λ e h. let r = others_from x us w h in (later u us w r.0, r.1)
  | false ↦ λ e h. ⊎_elim
      (λ same. (subst (Contains (u ∷ us)) same (first u us), λ q. let differ : x ≡ u.0 → ⊥ = λ z. absurd (grind (arith, nat_tests)) in differ (q ∙ sym (ap (λ (p : Use). p.0) same))))
      (λ in_us. let r = others_from x us w in_us in (later u us w r.0, r.1))
      (first_or u (others x us) w h)
] refl has

others_to : (x : ℕ) (us : List Use) (w : Use) → Contains us w → (x ≡ w.0 → ⊥) → Contains (others x us) w
others_to x [] w has differ = absurd (nothing has)
others_to x (u ∷ us) w has differ = elim (nat_eq x u.0) as (λ b. nat_eq x u.0 ≡ b → Contains (if b then others x us else u ∷ others x us) w) [
  | true ↦ λ e. ⊎_elim (λ same. let is : x ≡ u.0 = grind (arith, nat_tests) in absurd (differ (is ∙ ap (λ (p : Use). p.0) same))) (λ in_us. others_to x us w in_us differ) (first_or u us w has)
  | false ↦ λ e. ⊎_elim (λ same. subst (Contains (u ∷ others x us)) same (first u (others x us))) (λ in_us. later u (others x us) w (others_to x us w in_us differ)) (first_or u us w has)
] refl

others_paired : (x : ℕ) (us : List Use) → AllPairs IsBefore us → AllPairs IsBefore (others x us)
others_paired x [] all = none_paired IsBefore
others_paired x (u ∷ us) all = elim (nat_eq x u.0) as (λ b. AllPairs IsBefore (if b then others x us else u ∷ others x us)) [
  | true ↦ others_paired x us (of_others IsBefore u us all)
  | false ↦ AllPairs-cons IsBefore u (others x us) (all_of (IsBefore u) (others x us) (λ w has. of_first IsBefore u us all w (others_from x us w has).0)) (others_paired x us (of_others IsBefore u us all))
]

once_from : (us : List Use) (w : Use) → Contains (each_once us) w → Contains us w
once_from [] w has = absurd (nothing has)
once_from (u ∷ us) w has = ⊎_elim (λ e. subst (Contains (u ∷ us)) e (first u us)) (λ r. later u us w (once_from us w (others_from u.0 (each_once us) w r).0)) (first_or u (others u.0 (each_once us)) w has)

once_paired : (us : List Use) → AllPairs IsNotBehind us → AllPairs IsBefore (each_once us)
once_paired [] all = none_paired IsBefore
once_paired (u ∷ us) all =
    AllPairs-cons IsBefore u (others u.0 (each_once us))
    (all_of (IsBefore u) (others u.0 (each_once us)) (λ w has. let from = others_from u.0 (each_once us) w has in earlier_else u w from.1 (of_first IsNotBehind u us all w (once_from us w from.0))))
    (others_paired u.0 (each_once us) (once_paired us (of_others IsNotBehind u us all)))

-- a use that is kept is the first one of its name
not_behind : (x a b : ℕ) → is_earlier (x, b) (x, a) ≡ false → b ≤ a
not_behind x a b h = grind (arith, nat_tests)

once_first : (us : List Use) → AllPairs IsNotBehind us → (x a b : ℕ) → Contains (each_once us) (x, a) → Contains us (x, b) → b ≤ a
once_first [] all x a b has used = absurd (nothing has)
once_first (u ∷ us) all x a b has used = ⊎_elim
    (λ same. ⊎_elim
    (λ also. let e = ap (λ (p : Use). p.1) (sym same ∙ also) in omega arith)
    (λ in_us. not_behind x a b (subst (λ (p : Use). IsNotBehind p (x, b)) same (of_first IsNotBehind u us all (x, b) in_us)))
    (first_or u us (x, b) used))
    (λ in_others. let from = others_from u.0 (each_once us) (x, a) in_others in ⊎_elim
    (λ also. absurd (from.1 (ap (λ (p : Use). p.0) also)))
    (λ in_us. once_first us (of_others IsNotBehind u us all) x a b from.0 in_us)
    (first_or u us (x, b) used))
    (first_or u (others u.0 (each_once us)) (x, a) has)

-- each name is kept
once_kept : (us : List Use) (x b : ℕ) → Contains us (x, b) → (a : ℕ) × Contains (each_once us) (x, a)
once_kept [] x b has = absurd (nothing has)
once_kept (u ∷ us) x b has = ⊎_elim
    (λ same. (b, subst (Contains (u ∷ others u.0 (each_once us))) same (first u (others u.0 (each_once us)))))
    (λ in_us.
    let under = once_kept us x b in_us in
    elim (nat_eq u.0 x) as (λ r. nat_eq u.0 x ≡ r → (a : ℕ) × Contains (each_once (u ∷ us)) (x, a)) [
      | true ↦ λ e. let is : u.0 ≡ x = grind (arith, nat_tests) in (u.1, subst (λ (m : ℕ). Contains (each_once (u ∷ us)) (m, u.1)) is (first u (others u.0 (each_once us))))
      | false ↦ λ e. (under.0, later u (others u.0 (each_once us)) (x, under.0) (others_to u.0 (each_once us) (x, under.0) under.1 (λ q. absurd (grind (arith, nat_tests)))))
    ] refl)
    (first_or u us (x, b) has)

-- a list of the first uses, in their order
pub record AreFirst (us es : List (ℕ × ℕ)) : Type 0 where
  pub paired : AllPairs (λ u v. is_earlier u v ≡ true) es
  pub sound : (x a : ℕ) → Contains es (x, a) → Contains us (x, a)
  pub most : (x a b : ℕ) → Contains es (x, a) → Contains us (x, b) → b ≤ a
  pub complete : (x a : ℕ) → Contains us (x, a) → ((b : ℕ) → Contains us (x, b) → b ≤ a) → Contains es (x, a)

pub first_uses : (us es : List (ℕ × ℕ)) → AreFirst us es → es ≡ each_once (in_order us)
first_uses us es are =
    let vs = in_order us in
    let sorted = order_sorted us in
    same_lists IsBefore before_one_way es (each_once vs) are.paired (once_paired vs sorted)
    (λ p has.
    let kept = once_kept vs p.0 p.1 (order_to us p (are.sound p.0 p.1 has)) in
    let more : p.1 ≤ kept.0 = once_first vs sorted p.0 kept.0 p.1 kept.1 (order_to us p (are.sound p.0 p.1 has)) in
    let less : kept.0 ≤ p.1 = are.most p.0 p.1 kept.0 has (order_from us (p.0, kept.0) (once_from vs (p.0, kept.0) kept.1)) in
    let same : kept.0 ≡ p.1 = omega arith in
    subst (λ (m : ℕ). Contains (each_once vs) (p.0, m)) same kept.1)
    (λ p has. are.complete p.0 p.1 (order_from us p (once_from vs p has)) (λ b used. once_first vs sorted p.0 p.1 b has (order_to us (p.0, b) used)))
