-- Values that are the same.
use Rattle.std.proofs.Common.{◌≡◌, ◌↔◌, Bool, true, false, IsTrue, refl, sym, subst}
use Rattle.rr_space.specs.Graph.{Value}
use Rattle.rr_space.specs.Tables.{Table, resolve}
use Rattle.rr_space.specs.Parts.{value_of}
use Rattle.rr_space.specs.declared.refer.Ref.{Ref}
use Rattle.rr_text.specs.Same.{same_value}
use Rattle.rr_text.proofs.Same.{values_are, value_is}
use Rattle.rr_builtin.specs.Objects.{identical}

same_test : (b s : Bool) (P : Type 0) → (IsTrue b ↔ P) → (P → s ≡ true) → (s ≡ true → P) → b ≡ s
same_test true s P is there back = sym (there (is.0 refl))
same_test false true P is there back = is.1 (back refl)
same_test false false P is there back = refl

pub same_is_identical : (t : Table) (v w : Ref) (b : Bool) → (IsTrue b ↔ (resolve t.slots (value_of v) ≡ resolve t.slots (value_of w))) → b ≡ identical t v w
unfolding identical
same_is_identical t v w b is =
    same_test b (same_value (resolve t.slots (value_of v)) (resolve t.slots (value_of w))) (resolve t.slots (value_of v) ≡ resolve t.slots (value_of w)) is
    (λ e. subst (λ (x : Value). same_value (resolve t.slots (value_of v)) x ≡ true) e (value_is (resolve t.slots (value_of v))))
    (values_are (resolve t.slots (value_of v)) (resolve t.slots (value_of w)))
