-- What a value leads to among the slots is found by a search that stops at published objects.
use Rattle.std.proofs.Common.{◌≡◌, ℕ, List, [], ◌∷◌, Some, Contains, subst}
use Rattle.rr_space.specs.Graph.{Graph, Name, Own, Published, Value, At, Label, Object, Leads, Reaches, IsSolid}
use Rattle.rr_space.specs.Tables.{IsSealed, IsPublished}
use Rattle.rr_space.specs.Laws.{LeavesSuffice}

module _ (g : Graph) (found : List ℕ) (sealed : IsSealed g)
    (closed : (n m : ℕ) (o : Object) (l : Label) → Contains found n → g (Own n) ≡ Some o → Contains o.triples (l, At (Own m)) → Contains found m) where
  -- a step from what was found ends at what was found, or leaves the slots
  step : (n : Name) (o : Object) (v x : Value) (l : Label) → ((m : ℕ) → v ≡ At (Own m) → Contains found m) → v ≡ At n → g n ≡ Some o → Contains o.triples (l, x) → (m : ℕ) → x ≡ At (Own m) → Contains found m
  step (Own k) o v x l root is here has m e = closed k m o l (root k is) here (subst (λ y. Contains o.triples (l, y)) e has)
  step (Published c p) o v x l root is here has m e = absurd (subst IsPublished e (sealed.shut c p o l x here has))

  pub found_all : (path : List Label) (v : Value) (n : ℕ) → ((m : ℕ) → v ≡ At (Own m) → Contains found m) → Leads g v path (At (Own n)) → Contains found n
  found_all [] v n root e = root n e
  found_all (l ∷ path) v n root (x, (k, o, is, here, has), rest) = found_all path x n (step k o v x l root is here has) rest

pub leaves_suffice : LeavesSuffice
leaves_suffice g v found sealed shut = (
  λ all n o has here. all (Own n) o (shut.sound n has) here,
  λ solid n o reach here. by n o reach here solid,
)
  where
    by : (n : Name) (o : Object) → Reaches g v n → g n ≡ Some o → ((n : ℕ) (o : Object) → Contains found n → g (Own n) ≡ Some o → IsSolid o) → IsSolid o
    by (Own k) o reach here solid = solid k o (found_all g found sealed shut.closed reach.0 v k shut.root reach.1) here
    by (Published c p) o reach here solid = sealed.solid c p o here
