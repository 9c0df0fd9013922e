-- Writes change no frozen object and no shell.
use Rattle.std.proofs.Common.{◌≡◌, ◌∙◌, ◌⊎◌, inl, inr, ◌&&◌, ℕ, zero, suc, true, not, IsTrue, List, [], ◌∷◌, ◌++◌, Some, slice_get, slice_set, refl, sym, ap, subst}
use Rattle.std.proofs.lemmas.Bool.{false≢true, cases_eq, and_parts}
use Rattle.std.proofs.lemmas.Option.{none-some, same_Some, slice_get_within}
use Rattle.rr_space.specs.Graph.{Object, shell}
use Rattle.rr_space.specs.Tables.{Table, Slot, Here, Led}
use Rattle.rr_space.specs.Views.{is_shell, is_open, can_write_at}
use Rattle.rr_space.specs.declared.refer.Ref.{Ref}
use Rattle.rr_space.proofs.Keeping.{set_same, set_other}
use Rattle.rr_builtin.specs.Fixed.{KeepsFixed}
use Rattle.rr_builtin.proofs.Performing.{IsWritable}

pub fixed_none : (ss : List Slot) → KeepsFixed ss ss
fixed_none ss = record { objects = λ n o at. (o, at, λ fixed. refl); forwards = λ n c p at. at }

pub fixed_same : (old new : Table) → new ≡ old → KeepsFixed old.slots new.slots
fixed_same old new e = subst (λ (t : Table). KeepsFixed old.slots t.slots) (sym e) (fixed_none old.slots)

not_fixed : (o : Object) → (not (is_shell o.kind) && not o.frozen) ≡ true → (o.frozen ≡ true) ⊎ (o.kind ≡ shell) → ⊥
not_fixed o writes (inl e) = false≢true (sym (ap not e) ∙ (and_parts (not (is_shell o.kind)) (not o.frozen) writes).1)
not_fixed o writes (inr e) = false≢true (sym (ap (λ k. not (is_shell k)) e) ∙ (and_parts (not (is_shell o.kind)) (not o.frozen) writes).0)

-- an object that is neither frozen nor a shell becomes another one
module _ (old new : List Slot) (n : ℕ) (o p : Object) (here : slice_get old n ≡ Some (Here o)) (writes : (not (is_shell o.kind) && not o.frozen) ≡ true) (is : new ≡ slice_set old n (Here p)) where
  object : (m : ℕ) (q : Object) → slice_get old m ≡ Some (Here q) → (n ≡ m) ⊎ (n ≡ m → ⊥) → (r : Object) × (slice_get (slice_set old n (Here p)) m ≡ Some (Here r)) × ((q.frozen ≡ true) ⊎ (q.kind ≡ shell) → r ≡ q)
  object m q at (inl e) =
      let both : Here q ≡ Here o = same_Some (Here q) (Here o) (sym at ∙ ap (slice_get old) (sym e) ∙ here) in
      let same : q ≡ o = cc in (
        p,
        ap (slice_get (slice_set old n (Here p))) (sym e) ∙ set_same old n (Here p) (slice_get_within old n (Here o) here),
        λ fixed. absurd (not_fixed o writes (subst (λ (r : Object). (r.frozen ≡ true) ⊎ (r.kind ≡ shell)) same fixed)),
      )
  object m q at (inr apart) = (q, set_other old n m (Here p) apart ∙ at, λ fixed. refl)

  forward : (m c k : ℕ) → slice_get old m ≡ Some (Led c k) → (n ≡ m) ⊎ (n ≡ m → ⊥) → slice_get (slice_set old n (Here p)) m ≡ Some (Led c k)
  forward m c k at (inl e) =
      let both : Here o ≡ Led c k = same_Some (Here o) (Led c k) (sym here ∙ ap (slice_get old) e ∙ at) in
      absurd (let no : ⊥ = cc in no)
  forward m c k at (inr apart) = set_other old n m (Here p) apart ∙ at

  pub fixed_set : KeepsFixed old new
  fixed_set = record {
    objects = λ m q at. subst (λ (ss : List Slot). (r : Object) × (slice_get ss m ≡ Some (Here r)) × ((q.frozen ≡ true) ⊎ (q.kind ≡ shell) → r ≡ q)) (sym is) (object m q at (cases_eq n m));
    forwards = λ m c k at. subst (λ (ss : List Slot). slice_get ss m ≡ Some (Led c k)) (sym is) (forward m c k at (cases_eq n m));
  }

-- what may be written becomes another object
pub fixed_written : (t : Table) (v : Ref) (w : IsWritable t v) (new : List Slot) (p : Object) → IsTrue (can_write_at t v) → new ≡ slice_set t.slots w.slot (Here p) → KeepsFixed t.slots new
fixed_written t v w new p can is =
    fixed_set t.slots new w.slot w.object p w.here
    (subst (λ s. IsTrue (is_open s)) w.here (subst (λ (r : Ref). IsTrue (can_write_at t r)) w.named can)) is

kept_left : (ss : List Slot) (s : Slot) (n : ℕ) (x : Slot) → slice_get ss n ≡ Some x → slice_get (ss ++ s ∷ []) n ≡ Some x
kept_left [] s n x at = absurd (none-some x at)
kept_left (y ∷ ss) s zero x at = at
kept_left (y ∷ ss) s (suc n) x at = kept_left ss s n x at

-- one object more
pub fixed_more : (old new : List Slot) (s : Slot) → new ≡ old ++ s ∷ [] → KeepsFixed old new
fixed_more old new s is = record {
  objects = λ n o at. (o, subst (λ (ss : List Slot). slice_get ss n ≡ Some (Here o)) (sym is) (kept_left old s n (Here o) at), λ fixed. refl);
  forwards = λ n c p at. subst (λ (ss : List Slot). slice_get ss n ≡ Some (Led c p)) (sym is) (kept_left old s n (Led c p) at);
}
