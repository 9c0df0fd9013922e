-- What a search found, as a plan and a copy of it ask for it.
use Rattle.std.proofs.Common.{◌≡◌, ℕ, ◌↔◌, true, List, slice_get, Some, Contains}
use Rattle.rr_space.specs.Graph.{Own, At, Label, Object, Reaches, IsShareable, shell}
use Rattle.rr_space.specs.Parts.{value_of}
use Rattle.rr_space.specs.Tables.{Here, Table, resolve, resolve_object, space_graph}
use Rattle.rr_space.specs.declared.refer.Ref.{Ref}
use Rattle.rr_share.specs.Marks.{Closed}
use Rattle.rr_share.proofs.Searching.{at_contains}
use Rattle.rr_share.proofs.Ends.{reaches_on}
use Rattle.rr_share.proofs.Solids.{graph_here}
use Rattle.rr_share.proofs.Copies.{shareable_on, shareable_frozen, here_settled}

abbrev pub IsWhole : Table → List ℕ → Type 0
IsWhole t found = (n : ℕ) → Contains found n → (o : Object) × (slice_get t.slots n ≡ Some (Here o)) × (o.kind ≡ shell → ⊥)

abbrev pub IsExact : Table → Ref → List ℕ → Type 0
IsExact t root found = (n : ℕ) → Contains found n ↔ Reaches (space_graph t) (resolve t.slots (value_of root)) (Own n)

abbrev pub AreShareable : Table → List ℕ → List ℕ → Type 0
AreShareable t found places = (n : ℕ) → Contains places n ↔ (Contains found n × IsShareable (space_graph t) (At (Own n)))

pub found_closed : (t : Table) (root : Ref) (found : List ℕ) → IsExact t root found → IsWhole t found → Closed t found
found_closed t root found exact whole =
    let v = resolve t.slots (value_of root) in
    record {
      settled = λ n w. let o = whole n w in here_settled t.slots n o.0 o.1;
      shut = λ n m w s. (exact m).1 (reaches_on (space_graph t) v n s.0 m ((exact n).0 w) s.1);
    }

pub shareable_whole : (t : Table) (found places : List ℕ) → IsWhole t found → AreShareable t found places
    → (n : ℕ) → Contains places n → (o : Object) × (slice_get t.slots n ≡ Some (Here o)) × (o.kind ≡ shell → ⊥) × (o.frozen ≡ true)
shareable_whole t found places whole shareable n has =
    let e = (shareable n).0 has in
    let o = whole n e.0 in
    (o.0, o.1, o.2, shareable_frozen t n o.0 e.1 o.1)

pub shareable_closed : (t : Table) (root : Ref) (found places : List ℕ) → IsExact t root found → AreShareable t found places
    → (n m : ℕ) (o : Object) (l : Label) → Contains places n → slice_get t.slots n ≡ Some (Here o) → Contains (resolve_object t.slots o).triples (l, At (Own m)) → Contains places m
shareable_closed t root found places exact shareable n m o l has at under =
    let g = space_graph t in
    let v = resolve t.slots (value_of root) in
    let e = (shareable n).0 has in
    let k = at_contains (resolve_object t.slots o).triples (l, At (Own m)) under in
    let more = (exact m).1 (reaches_on g v n k.0 m ((exact n).0 e.0) (resolve_object t.slots o, l, graph_here t n o at, k.1)) in
    (shareable m).1 (more, shareable_on g (Own n) (Own m) (resolve_object t.slots o) l e.1 (graph_here t n o at) under)
