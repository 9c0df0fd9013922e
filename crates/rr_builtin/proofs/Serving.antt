-- What holds of each space after a call.
use Rattle.std.proofs.Common.{◌≡◌, ◌∙◌, ◌⊎◌, ◌+◌, ◌<◌, ℕ, Bool, true, false, if◌then◌else◌, List, [], ◌∷◌, ◌++◌, Option, Some, None, slice_get, length, length-append, length-set, slice_set, Ok, Err, refl, ap, sym, subst, arith}
use Rattle.rr_base.specs.declared.fault.Fault.{Fault}
use Rattle.rr_base.specs.declared.fault.Fault.TheVariants.{Memory, Limit}
use Rattle.rr_base.specs.declared.limits.LimitKind.TheVariants.{Slots}
use Rattle.rr_space.specs.Tables.{Table, Slot, Here, Led, IsRestKept}
use Rattle.rr_space.specs.Parts.{IsWithin}
use Rattle.rr_space.specs.Views.{is_shell}
use Rattle.rr_space.specs.declared.refer.Ref.{Ref}
use Rattle.rr_space.specs.declared.refer.Ref.TheVariants.{Nil, False, True, Int, Symbol, Class, Ractor, Local, Shared}
use Rattle.rr_space.proofs.Within.{ref_later}
use Rattle.rr_builtin.specs.declared.built.Built.{Built}
use Rattle.rr_builtin.specs.declared.built.Built.TheVariants as built
use Rattle.rr_builtin.specs.Acts.{IsBuiltWithin, IsServed, froze, froze_slot}

-- a new object is given
pub served_new : (old new : Table) (s : Slot) (r : Ref) → r ≡ Local (length old.slots) → new.slots ≡ old.slots ++ s ∷ [] → IsRestKept old new → IsServed old new (Ok (built.Value r))
served_new old new s r name slots rest =
    let size : length new.slots ≡ length old.slots + 1 = ap length slots ∙ length-append old.slots (s ∷ []) in
    let inside : length old.slots < length new.slots = omega (arith, size) in
    record {
      rest = rest;
      grown = omega (arith, size);
      within = subst (λ (x : Ref). IsWithin (length new.slots) x) (sym name) inside;
      refused = tt;
    }

-- a slot is written, and a value given that was there
pub served_written : (old new : Table) (n : ℕ) (s : Slot) (r : Ref) → new.slots ≡ slice_set old.slots n s → IsRestKept old new → IsWithin (length old.slots) r → IsServed old new (Ok (built.Value r))
served_written old new n s r slots rest within =
    let size : length new.slots ≡ length old.slots = ap length slots ∙ length-set old.slots n s in
    record {
      rest = rest;
      grown = omega (arith, size);
      within = subst (λ (k : ℕ). IsWithin k r) (sym size) within;
      refused = tt;
    }

-- a slot is written and another one is new, and a value given that was there
pub served_both : (old new : Table) (n : ℕ) (s u : Slot) (r : Ref) → new.slots ≡ slice_set old.slots n s ++ u ∷ [] → IsRestKept old new → IsWithin (length old.slots) r → IsServed old new (Ok (built.Value r))
served_both old new n s u r slots rest within =
    let size : length new.slots ≡ length old.slots + 1 = ap length slots ∙ length-append (slice_set old.slots n s) (u ∷ []) ∙ ap (λ k. k + 1) (length-set old.slots n s) in
    record {
      rest = rest;
      grown = omega (arith, size);
      within = ref_later (length old.slots) (length new.slots) (omega (arith, size)) r within;
      refused = tt;
    }

pub rest_same : (t : Table) → IsRestKept t t
rest_same t = record { limit = refl; owner = refl; next_message = refl }

-- nothing is changed
pub served_same : (t : Table) (b : Built) → IsBuiltWithin (length t.slots) b → IsServed t t (Ok b)
served_same t b within = record { rest = rest_same t; grown = omega arith; within = within; refused = tt }

-- a growth was refused
pub served_refused : (old new : Table) (f : Fault) → new ≡ old → (f ≡ Memory) ⊎ (f ≡ Limit Slots) → IsServed old new (Err f)
served_refused old new f same why = record {
  rest = subst (λ (t : Table). IsRestKept old t) (sym same) (rest_same old);
  grown = omega (arith, ap (λ (t : Table). length t.slots) same);
  within = tt;
  refused = (same, why);
}

frozen_size : (ss : List Slot) (n : ℕ) (s : Option Slot) → length (froze_slot ss n s) ≡ length ss
frozen_size ss n None = refl
frozen_size ss n (Some (Led c p)) = refl
frozen_size ss n (Some (Here o)) = by (is_shell o.kind)
  where
    by : (b : Bool) → length (if b then ss else slice_set ss n (Here (record o { frozen = true }))) ≡ length ss
    by true = refl
    by false = length-set ss n (Here (record o { frozen = true }))

-- what is frozen is given
pub served_frozen : (t : Table) (v : Ref) → IsWithin (length t.slots) v → IsServed t (froze v t) (Ok (built.Value v))
served_frozen t Nil within = served_same t (built.Value Nil) within
served_frozen t False within = served_same t (built.Value False) within
served_frozen t True within = served_same t (built.Value True) within
served_frozen t (Int z) within = served_same t (built.Value (Int z)) within
served_frozen t (Symbol s) within = served_same t (built.Value (Symbol s)) within
served_frozen t (Class c) within = served_same t (built.Value (Class c)) within
served_frozen t (Ractor c) within = served_same t (built.Value (Ractor c)) within
served_frozen t (Shared p c) within = served_same t (built.Value (Shared p c)) within
served_frozen t (Local n) within =
    let size : length (froze (Local n) t).slots ≡ length t.slots = frozen_size t.slots n (slice_get t.slots n) in
    record {
      rest = record { limit = refl; owner = refl; next_message = refl };
      grown = omega (arith, size);
      within = omega (arith, size, within);
      refused = tt;
    }
