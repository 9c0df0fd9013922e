-- Constants without a value at the end of the table, and a constant that is set.
use Rattle.std.proofs.Common.{◌≡◌, ◌≢◌, ℕ, ◌<◌, List, [], ◌∷◌, ◌++◌, length, refl, ap, sym, zero, suc, slice_get, slice_set, Option, Some, None}
use Rattle.std.specs.Option.{option_and_then}
use Rattle.rr_base.specs.declared.name.Sym.{Sym}
use Rattle.rr_space.proofs.Keeping.{set_same, set_other}
use Rattle.rr_store.specs.declared.constant.ConstValue.{ConstValue}
use Rattle.rr_store.specs.Stores.{constant_in, itself}

padded_at : (cs : List (Option ConstValue)) (k : ℕ) → option_and_then itself (slice_get (cs ++ None ∷ []) k) ≡ option_and_then itself (slice_get cs k)
padded_at [] zero = refl
padded_at [] (suc k) = refl
padded_at (c ∷ cs) zero = refl
padded_at (c ∷ cs) (suc k) = padded_at cs k

pub padded : (cs : List (Option ConstValue)) (n : Sym) → constant_in (cs ++ None ∷ []) n ≡ constant_in cs n
padded cs n = padded_at cs n.0

pub set_here : (cs : List (Option ConstValue)) (n : Sym) (v : ConstValue) → n.0 < length cs → constant_in (slice_set cs n.0 (Some v)) n ≡ Some v
set_here cs n v lt = ap (option_and_then itself) (set_same cs n.0 (Some v) lt)

pub set_others : (cs : List (Option ConstValue)) (n m : Sym) (v : ConstValue) → m ≢ n → constant_in (slice_set cs n.0 (Some v)) m ≡ constant_in cs m
set_others cs n m v differ = ap (option_and_then itself) (set_other cs n.0 m.0 (Some v) (λ e. differ (sym (ap (λ (k : ℕ). let s : Sym = record { 0 = k } in s) e))))
