-- A message whose objects stand behind those of a space is alike to what stands there.
use Rattle.std.proofs.Common.{◌≡◌, ℕ, suc, ◌+◌, List, [], ◌∷◌, ◌++◌, length, map, slice_get, Option, Some, Contains, sym, ap, ◌∙◌, subst, refl, arith}
use Rattle.std.specs.List.{AllZip}
use Rattle.std.specs.Option.{option_and_then}
use Rattle.rr_space.specs.Graph.{Own, Published, Value, Plain, At, Label, Object}
use Rattle.rr_space.specs.Graph.{SameValue, SameTriple, Alike}
use Rattle.rr_space.specs.Tables.{Slot, Table, Packed, object_in, resolve, resolve_slot, resolve_triple, space_graph, message_graph, IsBelow, IsClosed, IsSealed}
use Rattle.rr_space.specs.Tables.{behind, renamed, renamed_triple, renamed_object, here_behind}
use Rattle.rr_space.proofs.Renaming.{map_at, contains_at}
use Rattle.rr_space.proofs.Sounds.{gets}
use Rattle.rr_copy.specs.Messages.{Behind, IsEachPart}
use Rattle.rr_copy.proofs.Contained.{message_at}
use Rattle.rr_copy.proofs.Pairings.{paired_objects_alike}

-- what a list has behind another
get_behind : {A : Type 0} (xs ys : List A) (i : ℕ) → slice_get (xs ++ ys) (length xs + i) ≡ slice_get ys i
get_behind [] ys i = ap (slice_get ys) (let e : 0 + i ≡ i = omega arith in e)
get_behind (x ∷ xs) ys i = ap (slice_get (x ∷ (xs ++ ys))) (let e : suc (length xs) + i ≡ suc (length xs + i) = omega arith in e) ∙ get_behind xs ys i

module _ (m : Packed) (old : List Slot) (new : Table) (come : new.slots ≡ old ++ map (here_behind (length old)) m.objects) (closed : IsClosed m) where
  slot_at : (i : ℕ) (o : Object) → slice_get m.objects i ≡ Some o → slice_get new.slots (length old + i) ≡ Some (here_behind (length old) o)
  slot_at i o at = ap (λ (ss : List Slot). slice_get ss (length old + i)) come ∙ get_behind old (map (here_behind (length old)) m.objects) i ∙ map_at (here_behind (length old)) m.objects i o at

  value_behind : (x : Value) → IsBelow (length m.objects) x → SameValue (Behind m (length old)) x (resolve new.slots (renamed (behind (length old)) x))
  value_behind (Plain p) below = refl
  value_behind (At (Published c p)) below = (refl, refl)
  value_behind (At (Own i)) below =
      let o = gets m.objects i below in
      let stays : resolve_slot (slice_get new.slots (length old + i)) (length old + i) ≡ Own (length old + i) = ap (λ (s : Option Slot). resolve_slot s (length old + i)) (slot_at i o.0 o.1) in
      subst (λ n. SameValue (Behind m (length old)) (At (Own i)) (At n)) (sym stays) (below, refl)

  triples_behind : (ts : List (Label × Value)) → ((l : Label) (x : Value) → Contains ts (l, x) → IsBelow (length m.objects) x)
      → AllZip (SameTriple (Behind m (length old))) ts (map (resolve_triple new.slots) (map (renamed_triple (behind (length old))) ts))
  triples_behind [] inside = tt
  triples_behind (t ∷ ts) inside = (
    (refl, value_behind t.1 (inside t.0 t.1 (contains_at (t ∷ ts) 0 t refl))),
    triples_behind ts (λ l x (i, lt, e). inside l x (suc i, omega (arith, lt), e)),
  )

  pub stands_alike : IsSealed (message_graph m) → IsSealed (space_graph new) → IsEachPart m
      → Alike (message_graph m) m.root (space_graph new) (resolve new.slots (renamed (behind (length old)) m.root)) (Behind m (length old))
  stands_alike left right parts =
      paired_objects_alike (message_graph m) m.root (space_graph new) (resolve new.slots (renamed (behind (length old)) m.root)) (Behind m (length old)) (record {
        left_sealed = left;
        right_sealed = right;
        roots = value_behind m.root closed.root;
        same = λ i n b.
            let o = gets m.objects i b.0 in
            let p = record (renamed_object (behind (length old)) o.0) { triples = map (resolve_triple new.slots) (map (renamed_triple (behind (length old))) o.0.triples) } in (
              o.0,
              p,
              message_at m i o.0 o.1,
              ap (option_and_then (object_in new.slots)) (ap (slice_get new.slots) b.1 ∙ slot_at i o.0 o.1),
              record { kind = refl; class = refl; bytes = refl; frozen = refl; triples = triples_behind o.0.triples (λ l x has. closed.objects i o.0 l x o.1 has) },
            );
        part = λ i n b. parts i b.0;
        one_left = λ i n k b d. b.1 ∙ sym d.1;
        one_right = λ i j n b d. omega (arith, b.1, d.1);
      })
