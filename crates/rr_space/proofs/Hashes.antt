-- What a pair that is written into a hash makes of a space.
use Rattle.std.proofs.Common.{◌≡◌, ℕ, ◌+◌, ◌*◌, ◌++◌, List, [], ◌∷◌, length, map, slice_get, slice_set, Some, Result, IsOk, IfOk, IfErr, Contains, ap, ◌∙◌, refl}
use Rattle.rr_space.specs.Graph.{Object, KeyAt, ValueAt, hash}
use Rattle.rr_space.specs.Tables.{Here, Table, HashKey}
use Rattle.rr_space.specs.Parts.{value_of, value_triple, below_ref}
use Rattle.rr_space.specs.Views.{node_parts, node_keys, with_held, IsFirstAt, IsLedAlso}
use Rattle.rr_space.specs.Writes.{IsPairWritten}
use Rattle.rr_space.specs.Kinds.{kind_at, kind_named}
use Rattle.rr_space.specs.declared.refer.Ref.{Ref}
use Rattle.rr_space.specs.declared.refer.Ref.TheVariants.{Local}
use Rattle.rr_space.specs.declared.node.Held.TheVariants.{Shell}
use Rattle.rr_space.proofs.Placing.{map_set}
use Rattle.rr_space.proofs.Standing.{ok_always, of_slot, slots_are, keys_are}
use Rattle.rr_space.proofs.Rewriting.{Rewrite, its_kind, its_below, its_keys, is_same}
use Rattle.rr_space.proofs.Writing.{map_push_two, on_ok, on_err}

module _ {A E : Type 0} {key : HashKey} {name value : Ref} {r : Result A E} {t new : Table} {n : ℕ} (v : Ref) (is : v ≡ Local n) (w : Rewrite (λ a b. IsPairWritten a b key name value r) t new n) where
  abbrev mid : Table
  mid = with_held t n Shell

  pub pair_present : kind_at t v ≡ kind_named hash → (m i : ℕ) (o : Object) (ks : List HashKey) → v ≡ Local m → slice_get t.slots m ≡ Some (Here o) → slice_get t.keys m ≡ Some ks → IsFirstAt ks key i
      → IsOk r × (new.slots ≡ slice_set t.slots m (Here (record o { triples = slice_set o.triples (2 * i + 1) (ValueAt i, value_of value) }))) × (new.keys ≡ t.keys)
  pair_present kind m i =
      of_slot t mid new n v w.a w.b w.f is w.stood refl w.into
      (λ x o ks. IsFirstAt ks key i → IsOk r × (new.slots ≡ slice_set t.slots x (Here (record o { triples = slice_set o.triples (2 * i + 1) (ValueAt i, value_of value) }))) × (new.keys ≡ t.keys))
      (λ first.
      let p = w.how.present i (its_kind v is w hash kind) first in (
        p.0,
        slots_are t mid new n v w.a w.b w.f is w.stood refl w.into (slice_set (map value_triple (node_parts w.a)) (2 * i + 1) (ValueAt i, value_of value)) w.how.grown.head
            (ap (map value_triple) p.1 ∙ map_set value_triple (node_parts w.a) (2 * i + 1) (ValueAt i, value)),
        its_keys v is w p.2,
      )) m

  pub pair_absent : kind_at t v ≡ kind_named hash → (m : ℕ) (o : Object) (ks : List HashKey) → v ≡ Local m → slice_get t.slots m ≡ Some (Here o) → slice_get t.keys m ≡ Some ks → (Contains ks key → ⊥)
      → IfOk r (λ _. (new.slots ≡ slice_set t.slots m (Here (record o { triples = o.triples ++ (KeyAt (length ks), value_of name) ∷ (ValueAt (length ks), value_of value) ∷ [] }))) × (new.keys ≡ slice_set t.keys m (ks ++ key ∷ [])))
  pair_absent kind =
      let k = length (node_keys w.a) in
      of_slot t mid new n v w.a w.b w.f is w.stood refl w.into
      (λ x o ks. (Contains ks key → ⊥)
      → IfOk r (λ _. (new.slots ≡ slice_set t.slots x (Here (record o { triples = o.triples ++ (KeyAt (length ks), value_of name) ∷ (ValueAt (length ks), value_of value) ∷ [] }))) × (new.keys ≡ slice_set t.keys x (ks ++ key ∷ []))))
      (λ out.
      on_ok r ((node_parts w.b ≡ node_parts w.a ++ (KeyAt k, name) ∷ (ValueAt k, value) ∷ []) × (node_keys w.b ≡ node_keys w.a ++ key ∷ [])) _
      (λ p. (
        slots_are t mid new n v w.a w.b w.f is w.stood refl w.into (map value_triple (node_parts w.a) ++ (KeyAt k, value_of name) ∷ (ValueAt k, value_of value) ∷ []) w.how.grown.head
            (ap (map value_triple) p.0 ∙ map_push_two value_triple (node_parts w.a) (KeyAt k, name) (ValueAt k, value)),
        keys_are t mid new n v w.a w.b w.f is w.stood refl w.into (node_keys w.a ++ key ∷ []) p.1,
      ))
      (w.how.absent (its_kind v is w hash kind) out))

  pub pair_below : (m : ℕ) → v ≡ Local m → IfOk r (λ _. IsLedAlso (below_ref name ++ below_ref value) m t.below new.below)
  pair_below m is_m = ok_always r _ (its_below v is w w.how.grown m is_m)

  pub pair_refused : IfErr r (λ _. new ≡ t)
  pair_refused = on_err r _ _ (λ same. is_same v is w w.how.grown same.0 same.1) w.how.refused
