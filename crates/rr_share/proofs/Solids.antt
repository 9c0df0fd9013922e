-- What the slots that a value leads to hold, and whether it is shareable.
use Rattle.std.proofs.Common.{◌≡◌, ℕ, ◌↔◌, List, [], slice_get, Some, Contains, refl, ap, ◌∙◌, subst}
use Rattle.std.specs.Option.{option_and_then}
use Rattle.rr_space.specs.Graph.{Own, Published, Value, At, Object, IsSolid, Reaches, IsShareable, IsFreeOfShells}
use Rattle.rr_space.specs.Tables.{Here, Table, joined, resolve, resolve_object, object_in, space_graph}
use Rattle.rr_space.specs.Sound.{IsTableSound}
use Rattle.rr_space.specs.Parts.{value_of}
use Rattle.rr_space.specs.declared.refer.Ref.{Ref}
use Rattle.rr_space.specs.declared.refer.Ref.TheVariants.{Local}
use Rattle.rr_space.proofs.Sounds.{raw_in, sound_is_sealed}
use Rattle.rr_space.proofs.Leaves.{leaves_suffice}
use Rattle.rr_share.specs.Search.{IsShellAt, IsSolidAt, LeadsToShell}
use Rattle.rr_share.proofs.Searching.{at_contains}
use Rattle.rr_share.proofs.Ends.{none_reached, reaches_on}

-- the object of a slot in the graph
pub graph_here : (t : Table) (n : ℕ) (o : Object) → slice_get t.slots n ≡ Some (Here o) → space_graph t (Own n) ≡ Some (resolve_object t.slots o)
graph_here t n o here = ap (option_and_then (object_in t.slots)) here

module _ (t : Table) (well : IsTableSound t.slots t.below) (v : Value) where
  pub shell_reached : (n : ℕ) → Reaches (space_graph t) v (Own n) → IsShellAt t.slots n → LeadsToShell (space_graph t) v
  shell_reached n reach (o, here, kind) = (Own n, resolve_object t.slots o, reach, graph_here t n o here, kind)

  pub free_of_shells : ((n : ℕ) → Reaches (space_graph t) v (Own n) → IsShellAt t.slots n → ⊥) → IsFreeOfShells (space_graph t) v
  free_of_shells never (Own n) o reach here kind =
      let r = raw_in t.slots (joined t.below) n o here in
      never n reach (r.0, r.1, ap (λ (y : Object). y.kind) r.2 ∙ kind)
  free_of_shells never (Published c p) o reach here kind = let s = (sound_is_sealed t.slots t.below well).solid c p o here in s.no_shell kind

-- what is no slot of the space leads to no shell
pub free_outside : (t : Table) (root : Ref) → IsTableSound t.slots t.below → ((s : ℕ) → root ≡ Local s → ⊥) → IsFreeOfShells (space_graph t) (resolve t.slots (value_of root))
free_outside t root well outside (Own n) o r here kind = absurd (none_reached t root well outside n r)
free_outside t root well outside (Published c p) o r here kind = let s = (sound_is_sealed t.slots t.below well).solid c p o here in s.no_shell kind

module _ (t : Table) where
  -- an object is as solid before its values are resolved
  pub solid_at : (n : ℕ) (o : Object) → space_graph t (Own n) ≡ Some o → IsSolidAt t.slots n → IsSolid o
  solid_at n o here solid =
      let r = raw_in t.slots (joined t.below) n o here in
      let s = solid r.0 r.1 in
      subst IsSolid r.2 (record { frozen = s.frozen; no_shell = s.no_shell })

  pub at_solid : (n : ℕ) → ((o : Object) → space_graph t (Own n) ≡ Some o → IsSolid o) → IsSolidAt t.slots n
  at_solid n solid o here = let s = solid (resolve_object t.slots o) (graph_here t n o here) in record { frozen = s.frozen; no_shell = s.no_shell }

  -- what is shareable is solid itself
  pub shareable_is_solid : (n : ℕ) → IsShareable (space_graph t) (At (Own n)) → IsSolidAt t.slots n
  shareable_is_solid n s = at_solid n (λ o here. s (Own n) o ([], refl) here)

-- a value is shareable where the slots that it leads to are solid
pub solid_is_shareable : (t : Table) (v : Value) (found : List ℕ) → IsTableSound t.slots t.below → ((n : ℕ) → Contains found n ↔ Reaches (space_graph t) v (Own n))
    → IsShareable (space_graph t) v ↔ ((n : ℕ) → Contains found n → IsSolidAt t.slots n)
solid_is_shareable t v found well exact =
    let law = leaves_suffice (space_graph t) v found (sound_is_sealed t.slots t.below well) (record {
      root = λ m e. (exact m).1 ([], e);
      closed = λ n m o l w here has. let q = at_contains o.triples (l, At (Own m)) has in (exact m).1 (reaches_on (space_graph t) v n q.0 m ((exact n).0 w) (o, l, here, q.1));
      sound = λ m w. (exact m).0 w;
    }) in (
      λ all n w. at_solid t n (λ o here. law.0 all n o w here),
      λ all. law.1 (λ n o w here. solid_at t n o here (all n w)),
    )
