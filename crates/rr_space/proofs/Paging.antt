-- Tables of places by slot.
use Rattle.std.proofs.Common.{◌≡◌, ℕ, zero, suc, ◌+◌, ◌*◌, ◌/◌, ◌%◌, ◌<◌, ◌≤◌, ◌⊎◌, ⊎_elim, inl, inr, Bool, true, false, nat_eq, Contains, if◌then◌else◌, List, [], ◌∷◌, ◌++◌, length, replicate, slice_get, slice_set, get_or, Option, Some, None, refl, sym, ap, ◌∙◌, subst, arith}
use Rattle.std.proofs.lemmas.List.{get_or-replicate, length-append, length-replicate, length-set}
use Rattle.std.proofs.lemmas.Option.{none-some, same_Some, slice_get_within, get_or_from_slice_get}
use Rattle.rr_space.specs.Places.{in_part, place_in, place_of, ArePaged, ArePlaced, Extends, HasPlaces}
use Rattle.rr_space.proofs.Hands.{append_cases, append_left}
use Rattle.rr_space.proofs.Keeping.{set_same, set_other, nat_cases}
use Rattle.rr_space.proofs.Renaming.{contains_at}
use Rattle.std.specs.List.{list_any, IsDistinct}
use Rattle.std.proofs.lemmas.Bool.{eqb-true}
use Rattle.std.proofs.lemmas.Map.Keys.{IsDistinct-push, apart_from_distinct}
use Rattle.std.specs.Cmp.{nat_eq_equiv}
use Rattle.indexmap.specs.IndexSet.{insert_key}
use Rattle.indexmap.proofs.CallerLemmas.{Contains-list_any}

-- what stands in zeros is 0
zeros : (k i n : ℕ) → slice_get (replicate k 0) i ≡ Some n → n ≡ 0
zeros k i n e =
    let lt = slice_get_within (replicate k 0) i n e in
    sym (get_or_from_slice_get (replicate k 0) i n 0 e) ∙ get_or-replicate k i 0 0 (omega (arith, lt, length-replicate {A = ℕ} k 0))

-- a list with zeros behind it
pub extended : (old : List ℕ) (k : ℕ) → Extends old (old ++ replicate k 0)
extended old k = record {
  kept = λ i x e. append_left old (replicate k 0) i x e;
  longer = omega (arith, length-append {A = ℕ} old (replicate k 0));
}

pub same_extends : (old : List ℕ) → Extends old old
same_extends old = record { kept = λ i x e. e; longer = omega arith }

pub none_behind : (old : List ℕ) (k p n : ℕ) → 1 ≤ n → slice_get (old ++ replicate k 0) p ≡ Some n → slice_get old p ≡ Some n
none_behind old k p n some e = ⊎_elim (λ w. w) (λ w. absurd (let z = zeros k w.0 n w.2 in let no : ⊥ = omega (arith, z, some) in no)) (append_cases old (replicate k 0) p n e)

-- the number of the part that a place stands in
pub record IsPlacedIn (pages places : List ℕ) (slot k : ℕ) : Type 0 where
  pub part : ℕ
  pub page : slice_get pages (slot / 512) ≡ Some (suc part)
  pub place : slice_get places (part * 512 + slot % 512) ≡ Some k

pub placed_in : (pages places : List ℕ) (slot k : ℕ) → place_in pages places slot ≡ Some k → IsPlacedIn pages places slot k
placed_in pages places slot k e = by (slice_get pages (slot / 512)) refl e
  where
    by : (x : Option ℕ) → slice_get pages (slot / 512) ≡ x → in_part places x (slot % 512) ≡ Some k → IsPlacedIn pages places slot k
    by None p q = absurd (none-some k q)
    by (Some zero) p q = absurd (none-some k q)
    by (Some (suc part)) p q = record { part = part; page = p; place = q }

pub place_at : (pages places : List ℕ) (slot part : ℕ) → slice_get pages (slot / 512) ≡ Some (suc part) → place_in pages places slot ≡ slice_get places (part * 512 + slot % 512)
place_at pages places slot part e = ap (λ x. in_part places x (slot % 512)) e

-- a place is written, and those of other slots stay
module _ (pages places : List ℕ) (paged : ArePaged pages places) (slot part k : ℕ) (page : slice_get pages (slot / 512) ≡ Some (suc part)) where
  pub place_within : part * 512 + slot % 512 < length places
  place_within = let r = paged.room (slot / 512) (suc part) page in omega (arith, r)

  pub place_written : place_in pages (slice_set places (part * 512 + slot % 512) k) slot ≡ Some k
  place_written = place_at pages (slice_set places (part * 512 + slot % 512) k) slot part page ∙ set_same places (part * 512 + slot % 512) k place_within

  pub others_stay : (n m : ℕ) → (n ≡ slot → ⊥) → place_in pages places n ≡ Some m → place_in pages (slice_set places (part * 512 + slot % 512) k) n ≡ Some m
  others_stay n m differ e =
      let w = placed_in pages places n m e in
      place_at pages (slice_set places (part * 512 + slot % 512) k) n w.part w.page
      ∙ set_other places (part * 512 + slot % 512) (w.part * 512 + n % 512) k (λ same. differ (one w.part w.page same)) ∙ w.place
    where
      one : (other : ℕ) → slice_get pages (n / 512) ≡ Some (suc other) → part * 512 + slot % 512 ≡ other * 512 + n % 512 → n ≡ slot
      one other at same =
          let is : other ≡ part = omega (arith, same) in
          let there : slice_get pages (n / 512) ≡ Some (suc part) = at ∙ ap (λ x. Some (suc x)) is in
          let first = paged.apart (n / 512) (slot / 512) (suc part) (omega arith) there page in
          omega (arith, same, is, first)

  pub paged_written : ArePaged pages (slice_set places (part * 512 + slot % 512) k)
  paged_written = record {
    room = λ p n at. let r = paged.room p n at in let l = length-set places (part * 512 + slot % 512) k in omega (arith, r, l);
    apart = paged.apart;
  }

-- pages without places come behind, and places
pub paged_behind : (pages pages2 places places2 : List ℕ) → ArePaged pages places → ((p n : ℕ) → 1 ≤ n → slice_get pages2 p ≡ Some n → slice_get pages p ≡ Some n) → Extends places places2
    → ArePaged pages2 places2
paged_behind pages pages2 places places2 paged none more = record {
  room = λ p n at. by p n at;
  apart = λ p q n some at other. paged.apart p q n some (none p n some at) (none q n some other);
}
  where
    by : (p n : ℕ) → slice_get pages2 p ≡ Some n → n * 512 ≤ length places2
    by p zero at = omega arith
    by p (suc n) at = let r = paged.room p (suc n) (none p (suc n) (omega arith) at) in let l = more.longer in omega (arith, r, l)

pub kept_behind : (pages pages2 places places2 : List ℕ) → Extends pages pages2 → Extends places places2 → (n k : ℕ) → place_in pages places n ≡ Some k → place_in pages2 places2 n ≡ Some k
kept_behind pages pages2 places places2 a b n k e =
    let w = placed_in pages places n k e in
    place_at pages2 places2 n w.part (a.kept (n / 512) (suc w.part) w.page) ∙ b.kept (w.part * 512 + n % 512) k w.place

-- a page without places gets a part that no page has
module _ (pages places places2 : List ℕ) (paged : ArePaged pages places) (more : Extends places places2) (page number : ℕ) (none : slice_get pages page ≡ Some 0)
    (fresh : length places < number * 512) (room : number * 512 ≤ length places2) where
  set_cases : (p n : ℕ) → slice_get (slice_set pages page number) p ≡ Some n → ((p ≡ page) × (n ≡ number)) ⊎ (slice_get pages p ≡ Some n)
  set_cases p n at = by (let z : (p ≡ page) ⊎ (p ≡ page → ⊥) = nat_cases p page in z)
    where
      by : (p ≡ page) ⊎ (p ≡ page → ⊥) → ((p ≡ page) × (n ≡ number)) ⊎ (slice_get pages p ≡ Some n)
      by (inl e) = inl (e, sym (same_Some number n (sym (set_same pages page number (slice_get_within pages page 0 none)) ∙ ap (slice_get (slice_set pages page number)) (sym e) ∙ at)))
      by (inr differ) = inr (sym (set_other pages page p number (λ e. differ (sym e))) ∙ at)

  pub paged_new : ArePaged (slice_set pages page number) places2
  paged_new = record {
    room = λ p n at. ⊎_elim (λ w. let e = w.1 in omega (arith, e, room)) (λ w. let r = paged.room p n w in let l = more.longer in omega (arith, r, l)) (set_cases p n at);
    apart = λ p q n some at other. by p q n some (set_cases p n at) (set_cases q n other);
  }
    where
      by : (p q n : ℕ) → 1 ≤ n → ((p ≡ page) × (n ≡ number)) ⊎ (slice_get pages p ≡ Some n) → ((q ≡ page) × (n ≡ number)) ⊎ (slice_get pages q ≡ Some n) → p ≡ q
      by p q n some (inl a) (inl b) = a.0 ∙ sym b.0
      by p q n some (inl a) (inr b) = absurd (let r = paged.room q n b in let e = a.1 in let no : ⊥ = omega (arith, r, e, fresh) in no)
      by p q n some (inr a) (inl b) = absurd (let r = paged.room p n a in let e = b.1 in let no : ⊥ = omega (arith, r, e, fresh) in no)
      by p q n some (inr a) (inr b) = paged.apart p q n some a b

  pub kept_new : (n k : ℕ) → place_in pages places n ≡ Some k → place_in (slice_set pages page number) places2 n ≡ Some k
  kept_new n k e =
      let w = placed_in pages places n k e in
      place_at (slice_set pages page number) places2 n w.part
      (set_other pages page (n / 512) number (λ same. let z : 0 ≡ suc w.part = same_Some 0 (suc w.part) (sym none ∙ ap (slice_get pages) same ∙ w.page) in let no : ⊥ = omega (arith, z) in no) ∙ w.page)
      ∙ more.kept (w.part * 512 + n % 512) k w.place

-- ---- Lists of slots with a table.

pub none_placed : (slots : List ℕ) (t : List ℕ × List ℕ) → slots ≡ [] → IsDistinct nat_eq slots × ArePlaced slots t
unfolding IsDistinct
none_placed slots t e = subst (λ (xs : List ℕ). IsDistinct nat_eq xs × ArePlaced xs t) (sym e) (tt, λ many i n at. absurd (none-some n at))

any_absent : (slots : List ℕ) (slot : ℕ) → (Contains slots slot → ⊥) → list_any (nat_eq slot) slots ≡ false
any_absent slots slot absent = by (list_any (nat_eq slot) slots) refl
  where
    by : (b : Bool) → list_any (nat_eq slot) slots ≡ b → b ≡ false
    by true e = absurd (absent (Contains-list_any nat_eq eqb-true slots slot e))
    by false e = refl

pub distinct_push : (slots : List ℕ) (slot : ℕ) → IsDistinct nat_eq slots → (Contains slots slot → ⊥) → IsDistinct nat_eq (slots ++ slot ∷ [])
distinct_push slots slot distinct absent = IsDistinct-push nat_eq_equiv slots slot distinct (any_absent slots slot absent)

-- and insert_key adds it
pub push_inserts : (slots : List ℕ) (slot : ℕ) → (Contains slots slot → ⊥) → slots ++ slot ∷ [] ≡ insert_key nat_eq slots slot
push_inserts slots slot absent = sym (ap (λ b. if b then slots else slots ++ slot ∷ []) (any_absent slots slot absent))

-- the table of a list, once other slots got places
pub places_kept : (slots : List ℕ) (slot : ℕ) (old new : List ℕ × List ℕ) → (Contains slots slot → ⊥) → ((n k : ℕ) → (n ≡ slot → ⊥) → place_of old n ≡ Some k → place_of new n ≡ Some k)
    → HasPlaces slots old → HasPlaces slots new
places_kept slots slot old new absent kept has i n at = kept n i (λ same. absent (contains_at slots i slot (at ∙ ap Some same))) (has i n at)

-- and once a slot behind them got its place
pub places_push : (slots : List ℕ) (slot : ℕ) (new : List ℕ × List ℕ) → HasPlaces slots new → place_of new slot ≡ Some (length slots) → HasPlaces (slots ++ slot ∷ []) new
places_push slots slot new has set i n at = ⊎_elim (λ w. has i n w) (λ w. last w.0 w.1 w.2) (append_cases slots (slot ∷ []) i n at)
  where
    last : (j : ℕ) → i ≡ length slots + j → slice_get (slot ∷ []) j ≡ Some n → place_of new n ≡ Some i
    last zero e q =
        let here : length slots ≡ i = omega (arith, e) in
        ap (place_of new) (sym (same_Some slot n q)) ∙ set ∙ ap Some here
    last (suc j) e q = absurd (none-some n q)

-- two places of a list without repeats that hold one number are one place
pub one_place : (names : List ℕ) (n i j : ℕ) → IsDistinct nat_eq names → slice_get names i ≡ Some n → slice_get names j ≡ Some n → i ≡ j
one_place names n i j distinct p q = ⊎_elim (λ e. e) (λ w. ⊎_elim (λ lt. absurd (clash i j lt p q)) (λ lt. absurd (clash j i lt q p)) w) (three i j)
  where
    three : (i j : ℕ) → (i ≡ j) ⊎ ((i < j) ⊎ (j < i))
    three i j = grind arith

    clash : (i j : ℕ) → i < j → slice_get names i ≡ Some n → slice_get names j ≡ Some n → ⊥
    clash i j lt p q =
        let a = apart_from_distinct nat_eq names i j n distinct lt (slice_get_within names j n q) in
        let b = get_or_from_slice_get names i n n p in
        let d = get_or_from_slice_get names j n n q in
        let e : nat_eq n n ≡ false = subst (λ t. nat_eq n t ≡ false) d (subst (λ t. nat_eq t (get_or names j n) ≡ false) b a) in
        grind (arith, e)

below_cases : (i k : ℕ) → i < k + 1 → (i < k) ⊎ (i ≡ k)
below_cases i k h = grind (arith, h)

-- the first k slots of a list have places
abbrev pub HavePlaces : ℕ → List ℕ → List ℕ × List ℕ → Type 0
HavePlaces k slots table = (i slot : ℕ) → i < k → slice_get slots i ≡ Some slot → place_of table slot ≡ Some i

pub next_place : (slots : List ℕ) (k slot : ℕ) (old new : List ℕ × List ℕ) → IsDistinct nat_eq slots → slice_get slots k ≡ Some slot → HavePlaces k slots old
    → ((n m : ℕ) → (n ≡ slot → ⊥) → place_of old n ≡ Some m → place_of new n ≡ Some m) → place_of new slot ≡ Some k → HavePlaces (k + 1) slots new
next_place slots k slot old new distinct here has kept set i n lt at = ⊎_elim
    (λ w. kept n i (λ same. let e = one_place slots slot i k distinct (at ∙ ap Some same) here in let no : ⊥ = omega (arith, e, w) in no) (has i n w at))
    (λ w. let is : slot ≡ n = same_Some slot n (sym here ∙ ap (slice_get slots) (sym w) ∙ at) in ap (place_of new) (sym is) ∙ set ∙ ap Some (sym w))
    (below_cases i k lt)
