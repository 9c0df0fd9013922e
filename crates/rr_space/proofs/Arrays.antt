-- What an element that is put into an array, or behind its others, makes of a space.
use Rattle.std.proofs.Common.{◌≡◌, ℕ, ◌++◌, List, [], ◌∷◌, length, map, slice_get, slice_set, Some, Result, IfOk, IfErr, Contains, ◌⊎◌, inl, ap, sym, ◌∙◌, ◌<◌, ◌≤◌, arith, subst, refl}
use Rattle.std.proofs.lemmas.List.{length-map}
use Rattle.rr_space.specs.Graph.{Label, Object, Place, array}
use Rattle.rr_space.specs.Tables.{Here, Table}
use Rattle.rr_space.specs.Parts.{Parts, places_from, below_parts, below_ref, value_of, value_triple}
use Rattle.rr_space.specs.Views.{node_parts, with_held, AllWithin, IsLedBy}
use Rattle.rr_space.specs.Writes.{IsElementPushed, IsElementWritten}
use Rattle.rr_space.specs.Labels.{triples_at}
use Rattle.rr_space.specs.Kinds.{kind_at, kind_named}
use Rattle.rr_space.specs.declared.refer.Ref.{Ref}
use Rattle.rr_space.specs.declared.refer.Ref.TheVariants.{Local}
use Rattle.rr_space.specs.declared.node.Node.TheVariants.{Array}
use Rattle.rr_space.specs.declared.node.Held.TheVariants.{Shell}
use Rattle.rr_space.proofs.Listing.{length-places_from}
use Rattle.rr_space.proofs.Standing.{ok_always, slots_are}
use Rattle.rr_space.proofs.Rewriting.{Rewrite, its_kind, its_object, its_below, its_keys, is_same}
use Rattle.rr_space.proofs.Writing.{on_ok, on_err, either_way, parts_push, below_push, pushed_parts, push_values, parts_set, below_set, changed_parts, set_values, triples_is}

-- an array that was pushed to
pub node_pushed : {A E : Type 0} (old new : List Ref) (value : Ref) (r : Result A E) → IfOk r (λ _. new ≡ old ++ value ∷ []) → IfErr r (λ _. new ≡ old) → IsElementPushed (Array old) (Array new) value r
node_pushed old new value r pushed refused =
    let ts = places_from 0 old in
    let t : Label × Ref = (Place (length ts), value) in
    record {
      pushed = λ k. on_ok r _ _ (λ e. pushed_parts old value new e) pushed;
      refused = on_err r _ _ (λ e. ap (places_from 0) e) refused;
      one = record {
        grown = record {
          head = record { kind = refl; class = refl; bytes = refl };
          within = λ k all v. either_way r _ _ (AllWithin k (places_from 0 new)) pushed refused
              (λ e. subst (AllWithin k) (sym (pushed_parts old value new e)) (parts_push k ts t all v))
              (λ e. subst (λ (xs : List Ref). AllWithin k (places_from 0 xs)) (sym e) all);
          below = λ x has. either_way r _ _ (Contains (below_parts ts) x ⊎ Contains (below_ref value) x) pushed refused
              (λ e. below_push ts t x (subst (λ (us : Parts). Contains (below_parts us) x) (pushed_parts old value new e) has))
              (λ e. inl (subst (λ (xs : List Ref). Contains (below_parts (places_from 0 xs)) x) e has));
        };
        keys = refl;
      };
    }

module _ {A E : Type 0} {value : Ref} {r : Result A E} {t new : Table} {n : ℕ} (v : Ref) (is : v ≡ Local n) (w : Rewrite (λ a b. IsElementPushed a b value r) t new n) where
  pub push_slots : kind_at t v ≡ kind_named array → (m : ℕ) (o : Object) → v ≡ Local m → slice_get t.slots m ≡ Some (Here o)
      → IfOk r (λ _. new.slots ≡ slice_set t.slots m (Here (record o { triples = o.triples ++ (Place (length o.triples), value_of value) ∷ [] })))
  push_slots kind =
      its_object v is w (λ x o. IfOk r (λ _. new.slots ≡ slice_set t.slots x (Here (record o { triples = o.triples ++ (Place (length o.triples), value_of value) ∷ [] }))))
      (on_ok r (node_parts w.b ≡ node_parts w.a ++ (Place (length (node_parts w.a)), value) ∷ []) _
      (λ p. slots_are t (with_held t n Shell) new n v w.a w.b w.f is w.stood refl w.into
      (map value_triple (node_parts w.a) ++ (Place (length (map value_triple (node_parts w.a))), value_of value) ∷ []) w.how.one.grown.head (push_values w.a w.b value p))
      (w.how.pushed (its_kind v is w array kind)))

  pub push_below : (m : ℕ) → v ≡ Local m → IfOk r (λ _. IsLedBy value m t.below new.below)
  push_below m is_m = ok_always r _ (its_below v is w w.how.one.grown m is_m)

  pub push_keys : new.keys ≡ t.keys
  push_keys = its_keys v is w w.how.one.keys

  pub push_refused : IfErr r (λ _. new ≡ t)
  push_refused = on_err r _ _ (λ same. is_same v is w w.how.one.grown same w.how.one.keys) w.how.refused

-- an array of which an element was set
pub node_set : (old new : List Ref) (place : ℕ) (value : Ref) → new ≡ slice_set old place value → IsElementWritten (Array old) (Array new) place value
node_set old new place value e =
    let ts = places_from 0 old in
    let t : Label × Ref = (Place place, value) in
    let parts = changed_parts old place value new e in
    record {
      written = λ k lt. parts;
      one = record {
        grown = record {
          head = record { kind = refl; class = refl; bytes = refl };
          within = λ k all v. subst (AllWithin k) (sym parts) (parts_set k ts place t all v);
          below = λ x has. below_set ts place t x (subst (λ (us : Parts). Contains (below_parts us) x) parts has);
        };
        keys = refl;
      };
    }

-- an array that has no such element
pub node_kept : (items : List Ref) (place : ℕ) (value : Ref) → length items ≤ place → IsElementWritten (Array items) (Array items) place value
node_kept items place value out = record {
  written = λ k lt. absurd (let w : ⊥ = omega (arith, lt, out, length-places_from items 0) in w);
  one = record {
    grown = record { head = record { kind = refl; class = refl; bytes = refl }; within = λ k all v. all; below = λ x has. inl has };
    keys = refl;
  };
}

module _ {place : ℕ} {value : Ref} {t new : Table} {n : ℕ} (v : Ref) (is : v ≡ Local n) (w : Rewrite (λ a b. IsElementWritten a b place value) t new n) where
  pub set_slots : kind_at t v ≡ kind_named array → place < length (triples_at t v) → (m : ℕ) (o : Object) → v ≡ Local m → slice_get t.slots m ≡ Some (Here o)
      → new.slots ≡ slice_set t.slots m (Here (record o { triples = slice_set o.triples place (Place place, value_of value) }))
  set_slots kind lt =
      let size : length (triples_at t v) ≡ length (node_parts w.a) = ap length (triples_is t n v w.a w.f is w.stood) ∙ length-map (node_parts w.a) value_triple in
      its_object v is w (λ x o. new.slots ≡ slice_set t.slots x (Here (record o { triples = slice_set o.triples place (Place place, value_of value) })))
      (slots_are t (with_held t n Shell) new n v w.a w.b w.f is w.stood refl w.into (slice_set (map value_triple (node_parts w.a)) place (Place place, value_of value)) w.how.one.grown.head
      (set_values w.a w.b place value (w.how.written (its_kind v is w array kind) (omega (arith, size, lt)))))

  pub set_below : (m : ℕ) → v ≡ Local m → IsLedBy value m t.below new.below
  set_below = its_below v is w w.how.one.grown

  pub set_keys : new.keys ≡ t.keys
  set_keys = its_keys v is w w.how.one.keys
