-- A copy that is opened beside what it was copied from: what it is read with.
use Rattle.std.proofs.Common.{◌≡◌, ◌∙◌, ℕ, ⊎_elim, List, ◌++◌, Contains, Some, slice_get, sym, ap, subst}
use Rattle.std.proofs.lemmas.List.Elements.{Contains-append_left, Contains-append_right, Contains-append_cases}
use Rattle.rr_space.specs.Graph.{Object}
use Rattle.rr_space.specs.Parts.{below_ref}
use Rattle.rr_space.specs.Tables.{Below, Table, Packed, joined}
use Rattle.rr_space.specs.declared.refer.Ref.{Ref}
use Rattle.rr_space.proofs.Hands.{append_cases}
use Rattle.rr_space.proofs.Sounds.{joined_back, joined_in}
use Rattle.rr_text.specs.Reads.{IsAmong, IsReadWith}

-- the table with the copy is read with what the table and the value were read with
module _ (below : Below) (t opened : Table) (m : Packed) (value : Ref) (read : IsReadWith t below) (among : IsAmong below value) (is : opened.below ≡ t.below ++ m.below)
    (known : (e : ℕ × List Object) → Contains (m.root_below ++ joined m.below) e → Contains (joined t.below ++ below_ref value) e) where
  either : (e : ℕ × List Object) → Contains (m.root_below ++ joined m.below) e → Contains below e
  either e has = ⊎_elim (read.all e) (among e) (Contains-append_cases (joined t.below) (below_ref value) e (known e has))

  pub opened_read : IsReadWith opened below
  opened_read = record { one = read.one; all = λ e has. by e (joined_back opened.below e has) }
    where
      by : (e : ℕ × List Object) → (n : ℕ) × (b : Below) × (slice_get opened.below n ≡ Some b) × Contains b e → Contains below e
      by e (n, b, at, has) = ⊎_elim
          (λ old. read.all e (joined_in t.below n b e old has))
          (λ new. either e (Contains-append_right m.root_below (joined m.below) e (joined_in m.below new.0 b e new.2 has)))
          (append_cases t.below m.below n b (ap (λ bs. slice_get bs n) (sym is) ∙ at))

  pub opened_among : (copy : Ref) → below_ref copy ≡ m.root_below → IsAmong below copy
  opened_among copy root e has = either e (Contains-append_left m.root_below (joined m.below) e (subst (λ (b : Below). Contains b e) root has))
