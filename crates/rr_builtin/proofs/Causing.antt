-- Causes of exceptions, one behind the other.
use Rattle.std.proofs.Common.{◌≡◌, ◌∙◌, ℕ, zero, suc, ◌||◌, ◌&&◌, Bool, not, true, false, if◌then◌else◌, length, slice_set, refl, sym, ap}
use Rattle.std.proofs.lemmas.Bool.{eq-eqb, ne_eqb, and_parts, false≢true}
use Rattle.rr_space.specs.Graph.{Object, Value, At, Own}
use Rattle.rr_space.specs.Parts.{value_of}
use Rattle.rr_space.specs.Tables.{Table, Here}
use Rattle.rr_space.specs.declared.refer.Ref.{Ref}
use Rattle.rr_space.specs.declared.refer.Ref.TheVariants as refs
use Rattle.rr_builtin.specs.Acts.{changed, changed_slot, element_at}
use Rattle.rr_builtin.specs.Causes.{with_cause, is_nil, leads, takes_cause, caused}
use Rattle.rr_builtin.specs.Messages.{is_open_exception}
use Rattle.rr_builtin.proofs.Performing.{IsWritable}

pub leads_here : (k : ℕ) (t : Table) (m n : ℕ) → m ≡ n → leads (suc k) t (At (Own m)) n ≡ true
leads_here k t m n e = ap (λ b. b || leads k t (element_at t (refs.Local m) 1) n) (eq-eqb m n e)

pub leads_next : (k : ℕ) (t : Table) (m n : ℕ) → (m ≡ n → ⊥) → leads (suc k) t (At (Own m)) n ≡ leads k t (element_at t (refs.Local m) 1) n
leads_next k t m n apart = ap (λ b. b || leads k t (element_at t (refs.Local m) 1) n) (ne_eqb m n apart)

-- what is no slot leads nowhere
pub leads_none : (k : ℕ) (t : Table) (r : Ref) (n : ℕ) → ((m : ℕ) → r ≡ refs.Local m → ⊥) → leads k t (value_of r) n ≡ false
leads_none zero t r n other = refl
leads_none (suc k) t (refs.Local m) n other = absurd (other m refl)
leads_none (suc k) t (refs.Shared p c) n other = refl
leads_none (suc k) t refs.Nil n other = refl
leads_none (suc k) t refs.False n other = refl
leads_none (suc k) t refs.True n other = refl
leads_none (suc k) t (refs.Int z) n other = refl
leads_none (suc k) t (refs.Symbol s) n other = refl
leads_none (suc k) t (refs.Class c) n other = refl
leads_none (suc k) t (refs.Ractor c) n other = refl

-- an exception that takes a cause may be written
pub takes_open : (t : Table) (x : Value) (v : Ref) → takes_cause t x v ≡ true → is_open_exception t v ≡ true
takes_open t x (refs.Local n) e = (and_parts (is_open_exception t (refs.Local n)) (is_nil (element_at t (refs.Local n) 1) && not (leads (length t.slots) t x n)) e).0
takes_open t x (refs.Shared p c) e = absurd (false≢true e)
takes_open t x refs.Nil e = absurd (false≢true e)
takes_open t x refs.False e = absurd (false≢true e)
takes_open t x refs.True e = absurd (false≢true e)
takes_open t x (refs.Int z) e = absurd (false≢true e)
takes_open t x (refs.Symbol s) e = absurd (false≢true e)
takes_open t x (refs.Class c) e = absurd (false≢true e)
takes_open t x (refs.Ractor c) e = absurd (false≢true e)

-- it is changed, or not
pub caused_written : (x : Value) (v : Ref) (t : Table) → takes_cause t x v ≡ true → caused x v t ≡ changed (with_cause x) v t
caused_written x v t e = ap (λ (b : Bool). if b then changed (with_cause x) v t else t) e

pub caused_none : (x : Value) (v : Ref) (t : Table) → takes_cause t x v ≡ false → caused x v t ≡ t
caused_none x v t e = ap (λ (b : Bool). if b then changed (with_cause x) v t else t) e

-- its keys stay
changed_keys : (f : Object → Object) (v : Ref) (t : Table) → (changed f v t).keys ≡ t.keys
changed_keys f (refs.Local n) t = refl
changed_keys f _ t = refl

pub caused_keys : (x : Value) (v : Ref) (t : Table) → (caused x v t).keys ≡ t.keys
caused_keys x v t = elim (takes_cause t x v) as (λ b. takes_cause t x v ≡ b → (caused x v t).keys ≡ t.keys) [
  | true ↦ λ e. ap (λ u. u.keys) (caused_written x v t e) ∙ changed_keys (with_cause x) v t
  | false ↦ λ e. ap (λ u. u.keys) (caused_none x v t e)
] refl

-- the slots that a change leaves
pub written_slots : (old new : Table) (f : Object → Object) (v : Ref) (w : IsWritable old v) → new.slots ≡ slice_set old.slots w.slot (Here (f w.object)) → new.slots ≡ (changed f v old).slots
written_slots old new f v w slots = slots ∙ sym (ap (λ (r : Ref). (changed f r old).slots) w.named ∙ ap (changed_slot f old.slots w.slot) w.here)
