-- What other bytes of a text make of a space.
use Rattle.std.proofs.Common.{◌≡◌, ℕ, ◌++◌, Bool, List, map, slice_get, slice_set, Some, Result, IfOk, IfErr, ap, ◌∙◌, subst, sym, refl}
use Rattle.rr_space.specs.Graph.{Object, text}
use Rattle.rr_space.specs.Tables.{Here, Table}
use Rattle.rr_space.specs.Parts.{below_parts, value_triple}
use Rattle.rr_space.specs.Views.{node_kind, node_class, node_bytes, node_object, with_held, IsNodeWithin, IsAllButBytesKept, AllWithin}
use Rattle.rr_space.specs.Writes.{IsTextWritten, IsTextAppended}
use Rattle.rr_space.specs.Kinds.{kind_at, kind_named}
use Rattle.rr_space.specs.declared.refer.Ref.{Ref}
use Rattle.rr_space.specs.declared.refer.Ref.TheVariants.{Local}
use Rattle.rr_space.specs.declared.node.Node.{Node}
use Rattle.rr_space.specs.declared.node.Held.TheVariants.{Whole, Shell}
use Rattle.rr_space.proofs.Placing.{below_back}
use Rattle.rr_space.proofs.Standing.{made, put_same}
use Rattle.rr_space.proofs.Rewriting.{Rewrite, its_kind, its_object, its_keys}
use Rattle.rr_space.proofs.Writing.{on_ok, on_err}

-- a node whose bytes were changed, seen as an object
object_bytes : (a b : Node) (f : Bool) (bs : List ℕ) → IsAllButBytesKept a b → node_bytes b ≡ bs → Here (node_object b f) ≡ Here (record (node_object a f) { bytes = bs })
object_bytes a b f bs h e =
    ap (λ k. Here (record (node_object b f) { kind = k })) h.kind
    ∙ ap (λ k. Here (record (node_object b f) { kind = node_kind a; class = k })) h.class
    ∙ ap (λ ts. Here (record (node_object b f) { kind = node_kind a; class = node_class a; triples = map value_triple ts })) h.parts
    ∙ ap (λ k. Here (record (node_object a f) { bytes = k })) e

pub text_within : {a b : Node} (k : ℕ) → IsAllButBytesKept a b → IsNodeWithin k a → IsNodeWithin k b
text_within k h all = subst (AllWithin k) (sym h.parts) all

module _ {R : Node → Node → Type 0} {t new : Table} {n : ℕ} (v : Ref) (is : v ≡ Local n) (w : Rewrite R t new n) (rest : IsAllButBytesKept w.a w.b) where
  now : new ≡ with_held t n (Whole w.f w.b)
  now = made t (with_held t n Shell) new n v w.a w.b w.f is w.stood refl w.into

  pub bytes_slots : (bs : List ℕ) → node_bytes w.b ≡ bs → new.slots ≡ slice_set t.slots n (Here (record (node_object w.a w.f) { bytes = bs }))
  bytes_slots bs e = ap (λ (u : Table). u.slots) now ∙ ap (slice_set t.slots n) (object_bytes w.a w.b w.f bs rest e)

  pub bytes_below : new.below ≡ t.below
  bytes_below = below_back t new n (Whole w.f w.a) (Whole w.f w.b) w.stood now (ap below_parts rest.parts)

  pub bytes_keys : new.keys ≡ t.keys
  bytes_keys = its_keys v is w rest.keys

  pub bytes_same : node_bytes w.b ≡ node_bytes w.a → new ≡ t
  bytes_same e = put_same t (with_held t n Shell) new n v w.a w.b w.f is w.stood refl w.into (record { kind = rest.kind; class = rest.class; bytes = e }) rest.parts rest.keys

module _ {A E : Type 0} {bytes : List ℕ} {r : Result A E} {t new : Table} {n : ℕ} (v : Ref) (is : v ≡ Local n) (w : Rewrite (λ a b. IsTextAppended a b bytes r) t new n) where
  pub append_slots : kind_at t v ≡ kind_named text → (m : ℕ) (o : Object) → v ≡ Local m → slice_get t.slots m ≡ Some (Here o)
      → IfOk r (λ _. new.slots ≡ slice_set t.slots m (Here (record o { bytes = o.bytes ++ bytes })))
  append_slots kind =
      its_object v is w (λ x o. IfOk r (λ _. new.slots ≡ slice_set t.slots x (Here (record o { bytes = o.bytes ++ bytes }))))
      (on_ok r (node_bytes w.b ≡ node_bytes w.a ++ bytes) _ (bytes_slots v is w w.how.rest (node_bytes w.a ++ bytes)) (w.how.appended (its_kind v is w text kind)))

  pub append_refused : IfErr r (λ _. new ≡ t)
  append_refused = on_err r _ _ (bytes_same v is w w.how.rest) w.how.refused

module _ {bytes : List ℕ} {t new : Table} {n : ℕ} (v : Ref) (is : v ≡ Local n) (w : Rewrite (λ a b. IsTextWritten a b bytes) t new n) where
  pub text_slots : kind_at t v ≡ kind_named text → (m : ℕ) (o : Object) → v ≡ Local m → slice_get t.slots m ≡ Some (Here o) → new.slots ≡ slice_set t.slots m (Here (record o { bytes = bytes }))
  text_slots kind =
      its_object v is w (λ x o. new.slots ≡ slice_set t.slots x (Here (record o { bytes = bytes }))) (bytes_slots v is w w.how.rest bytes (w.how.written (its_kind v is w text kind)))
