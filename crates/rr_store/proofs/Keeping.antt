-- What each call keeps.
use Rattle.std.proofs.Common.{◌≡◌, ◌≢◌, ℕ, ◌+◌, List, [], ◌∷◌, ◌++◌, length, length-append, refl, ap, sym, subst, arith, zero, suc, slice_get, Option, Some, ◌⊎◌, inl, inr, Bool, true, false, nat_eq}
use Rattle.std.specs.Option.{option_map}
use Rattle.rr_base.specs.declared.name.Sym.{Sym}
use Rattle.rr_base.specs.declared.name.RactorNo.{RactorNo}
use Rattle.rr_base.specs.declared.event.StoreEvent.TheVariants.{Published}
use Rattle.rr_base.specs.Store.{StoreShape, StoreStep, empty_store}
use Rattle.rr_base.proofs.Replaying.{replays_more}
use Rattle.rr_space.specs.Tables.{Whole}
use Rattle.rr_space.proofs.Hands.{append_cases}
use Rattle.rr_store.specs.declared.constant.ConstValue.{ConstValue}
use Rattle.rr_store.specs.declared.constant.ConstValue.TheVariants.{Shareable, Own}
use Rattle.rr_store.specs.Stores.{Store, Kept, HasEvent, IsPublic, AreNumbered, shape_of, constant_in, mark_of}
use Rattle.rr_store.specs.Answers.{numbered_next, told_of_value, MaySet}

-- the store with a cluster more
abbrev pub published : Store → RactorNo → Whole → Store
published s who w = record s { clusters = s.clusters ++ numbered_next s w ∷ []; history = s.history ++ Published (length s.clusters) (length w.own) who ∷ [] }

pub only_one : (w x : Whole) (j : ℕ) → slice_get (w ∷ []) j ≡ Some x → (j ≡ 0) × (w ≡ x)
only_one w x zero is = (refl, cc)
only_one w x (suc j) is = absurd cc

still_numbered : (ws : List Whole) (w : Whole) → AreNumbered ws → w.number ≡ length ws → AreNumbered (ws ++ w ∷ [])
still_numbered ws w all last i x is = by (append_cases ws (w ∷ []) i x is) where
  by : ((slice_get ws i ≡ Some x) ⊎ ((j : ℕ) × (i ≡ length ws + j) × (slice_get (w ∷ []) j ≡ Some x))) → x.number ≡ i
  by (inl old) = all i x old
  by (inr h) =
      let one = only_one w x h.0 h.2 in
      let same : w.number ≡ x.number = ap (λ (v : Whole). v.number) one.1 in
      omega (arith, same, last, h.1, one.0)

pub kept_published : (s : Store) (who : RactorNo) (w : Whole) → Kept s → HasEvent s → Kept (published s who w)
kept_published s who w k room =
    let h = length-append s.history (Published (length s.clusters) (length w.own) who ∷ []) in
    let c = length-append s.clusters (numbered_next s w ∷ []) in
    let same : shape_of (published s who w) ≡ record { clusters = length s.clusters + 1; marks = (shape_of s).marks } = ap (λ (n : ℕ). let x : StoreShape Sym = record { clusters = n; marks = (shape_of s).marks } in x) c in
    record {
      replays = replays_more StoreStep empty_store (shape_of s) (shape_of (published s who w)) s.history (Published (length s.clusters) (length w.own) who) k.replays (refl, same);
      numbered = still_numbered s.clusters (numbered_next s w) k.numbered refl;
      public = k.public;
      count = omega (arith, h, c, k.count);
      within = omega (arith, h, room);
      limit = k.limit;
    }

-- the store with other constants
abbrev pub reset : Store → RactorNo → Sym → ConstValue → List (Option ConstValue) → Store
reset s who name v cs = record s { constants = cs; history = s.history ++ told_of_value v name who ∷ [] }

abbrev Others : List (Option ConstValue) → Sym → List (Option ConstValue) → Type 0
Others old name new = (n : Sym) → n ≢ name → constant_in new n ≡ constant_in old n

step_set : (s : Store) (who : RactorNo) (name : Sym) (v : ConstValue) (cs : List (Option ConstValue)) → constant_in cs name ≡ Some v → Others s.constants name cs → MaySet who v
    → StoreStep (shape_of s) (told_of_value v name who) (shape_of (reset s who name v cs))
step_set s who name (Shareable x) cs here others may = record { same_clusters = refl; here = ap (option_map mark_of) here; others = λ n differ. ap (option_map mark_of) (others n differ) }
step_set s who name Own cs here others may = (may, record { same_clusters = refl; here = ap (option_map mark_of) here; others = λ n differ. ap (option_map mark_of) (others n differ) })

one_name : (n m : Sym) → n.0 ≡ m.0 → n ≡ m
one_name n m e = ap (λ (k : ℕ). let s : Sym = record { 0 = k } in s) e

-- two numbers are one, or not
cases : (m n : ℕ) → (m ≡ n) ⊎ (m ≡ n → ⊥)
cases m n = by (nat_eq m n) refl where
  by : (b : Bool) → nat_eq m n ≡ b → (m ≡ n) ⊎ (m ≡ n → ⊥)
  by true e = inl (search (arith, e))
  by false e = inr (λ same. search (arith, e, same))

public_set : (s : Store) (name : Sym) (v : ConstValue) (cs : List (Option ConstValue)) → Kept s → constant_in cs name ≡ Some v → Others s.constants name cs → IsPublic v
    → (n : Sym) (c : ConstValue) → constant_in cs n ≡ Some c → IsPublic c
public_set s name v cs k here others public n c is = by (cases n.0 name.0) where
  by : ((n.0 ≡ name.0) ⊎ (n.0 ≡ name.0 → ⊥)) → IsPublic c
  by (inl e) =
      let there : constant_in cs n ≡ Some v = subst (λ (m : Sym). constant_in cs m ≡ Some v) (sym (one_name n name e)) here in
      let same : v ≡ c = cc in
      subst IsPublic same public
  by (inr differ) =
      let other : constant_in cs n ≡ constant_in s.constants n = others n (λ e. differ (ap (λ (m : Sym). m.0) e)) in
      let was : constant_in s.constants n ≡ Some c = cc in
      k.public n c was

pub kept_set : (s : Store) (who : RactorNo) (name : Sym) (v : ConstValue) (cs : List (Option ConstValue)) → Kept s → HasEvent s → constant_in cs name ≡ Some v → Others s.constants name cs → MaySet who v → IsPublic v
    → Kept (reset s who name v cs)
kept_set s who name v cs k room here others may public =
    let h = length-append s.history (told_of_value v name who ∷ []) in
    record {
      replays = replays_more StoreStep empty_store (shape_of s) (shape_of (reset s who name v cs)) s.history (told_of_value v name who) k.replays (step_set s who name v cs here others may);
      numbered = k.numbered;
      public = public_set s name v cs k here others public;
      count = omega (arith, h, k.count);
      within = omega (arith, h, room);
      limit = k.limit;
    }
