-- What a field that is set where its object lies makes of a space.
use Rattle.std.proofs.Common.{◌≡◌, ℕ, ◌⊎◌, ⊎_elim, inl, inr, ◌++◌, List, [], ◌∷◌, map, slice_get, slice_set, Some, Result, IsOk, IfOk, IfErr, Contains, subst, ap, ◌∙◌, refl}
use Rattle.rr_space.specs.Graph.{Label, Object, Field, plain, exception}
use Rattle.rr_space.specs.Tables.{Here, Table}
use Rattle.rr_space.specs.Parts.{value_of, value_triple}
use Rattle.rr_space.specs.Views.{with_held, node_kind, node_parts, IsLedBy, IsFirstAt, label_part}
use Rattle.rr_space.specs.Writes.{IsFieldWritten}
use Rattle.rr_space.specs.Kinds.{kind_at, kind_named}
use Rattle.rr_space.specs.declared.refer.Ref.{Ref}
use Rattle.rr_space.specs.declared.refer.Ref.TheVariants.{Local}
use Rattle.rr_space.specs.declared.node.Held.TheVariants.{Shell}
use Rattle.rr_space.proofs.Fielding.{labels_same}
use Rattle.rr_space.proofs.Placing.{map_set}
use Rattle.rr_space.proofs.Rewriting.{Rewrite, its_kind, its_object, its_below, its_keys, is_same}
use Rattle.rr_space.proofs.Standing.{ok_always, slots_are}
use Rattle.rr_space.proofs.Writing.{map_push, on_ok, on_err}

module _ {A E : Type 0} {name : ℕ} {value : Ref} {r : Result A E} {t new : Table} {n : ℕ} (v : Ref) (is : v ≡ Local n) (w : Rewrite (λ a b. IsFieldWritten a b name value r) t new n) where
  kind_of_it : (kind_at t v ≡ kind_named plain) ⊎ (kind_at t v ≡ kind_named exception) → (node_kind w.a ≡ plain) ⊎ (node_kind w.a ≡ exception)
  kind_of_it k = ⊎_elim (λ e. inl (its_kind v is w plain e)) (λ e. inr (its_kind v is w exception e)) k

  pub put_present : (kind_at t v ≡ kind_named plain) ⊎ (kind_at t v ≡ kind_named exception) → (m i : ℕ) (o : Object) → v ≡ Local m → slice_get t.slots m ≡ Some (Here o) → IsFirstAt (map label_part o.triples) (Field name) i
      → IsOk r × (new.slots ≡ slice_set t.slots m (Here (record o { triples = slice_set o.triples i (Field name, value_of value) })))
  put_present k m i = its_object v is w
      (λ x o. IsFirstAt (map label_part o.triples) (Field name) i → IsOk r × (new.slots ≡ slice_set t.slots x (Here (record o { triples = slice_set o.triples i (Field name, value_of value) }))))
      (λ first.
      let p = w.how.present i (subst (λ (ls : List Label). IsFirstAt ls (Field name) i) (labels_same (node_parts w.a)) first) in (
        p.0,
        slots_are t (with_held t n Shell) new n v w.a w.b w.f is w.stood refl w.into (slice_set (map value_triple (node_parts w.a)) i (Field name, value_of value)) w.how.one.grown.head
            (ap (map value_triple) (p.1 (kind_of_it k)) ∙ map_set value_triple (node_parts w.a) i (Field name, value)),
      )) m

  pub put_absent : (kind_at t v ≡ kind_named plain) ⊎ (kind_at t v ≡ kind_named exception) → (m : ℕ) (o : Object) → v ≡ Local m → slice_get t.slots m ≡ Some (Here o) → (Contains (map label_part o.triples) (Field name) → ⊥)
      → IfOk r (λ _. new.slots ≡ slice_set t.slots m (Here (record o { triples = o.triples ++ (Field name, value_of value) ∷ [] })))
  put_absent k = its_object v is w
      (λ x o. (Contains (map label_part o.triples) (Field name) → ⊥) → IfOk r (λ _. new.slots ≡ slice_set t.slots x (Here (record o { triples = o.triples ++ (Field name, value_of value) ∷ [] }))))
      (λ out.
      on_ok r (node_parts w.b ≡ node_parts w.a ++ (Field name, value) ∷ []) _
      (λ p. slots_are t (with_held t n Shell) new n v w.a w.b w.f is w.stood refl w.into (map value_triple (node_parts w.a) ++ (Field name, value_of value) ∷ []) w.how.one.grown.head
      (ap (map value_triple) p ∙ map_push value_triple (node_parts w.a) (Field name, value)))
      (w.how.absent (kind_of_it k) (subst (λ (ls : List Label). Contains ls (Field name) → ⊥) (labels_same (node_parts w.a)) out)))

  pub put_below : (m : ℕ) → v ≡ Local m → IfOk r (λ _. IsLedBy value m t.below new.below)
  put_below m is_m = ok_always r _ (its_below v is w w.how.one.grown m is_m)

  pub put_keys : new.keys ≡ t.keys
  put_keys = its_keys v is w w.how.one.keys

  pub put_refused : IfErr r (λ _. new ≡ t)
  put_refused = on_err r _ _ (λ same. is_same v is w w.how.one.grown same w.how.one.keys) w.how.refused
