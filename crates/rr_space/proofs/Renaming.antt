-- Paths, shareable values and parts of a graph are those of a graph that it is inside of.
use Rattle.std.proofs.Common.{◌≡◌, ℕ, List, [], ◌∷◌, map, slice_get, Option, Some, None, Contains, sym, ap, ◌∙◌, subst, refl}
use Rattle.std.specs.Option.{option_map}
use Rattle.std.proofs.lemmas.Option.{slice_get_within, get_or_from_slice_get, slice_get-get_or, slice_get-map, same_Some, none-some}
use Rattle.rr_space.specs.Graph.{Graph, Name, Value, Plain, At, Label, Object, Leads, Reaches, IsShareable, IsPart}
use Rattle.rr_space.specs.Tables.{Embeds, There, renamed, renamed_triple, renamed_object}

pub contains_at : {X : Type 0} (xs : List X) (i : ℕ) (x : X) → slice_get xs i ≡ Some x → Contains xs x
contains_at xs i x e = (i, slice_get_within xs i x e, get_or_from_slice_get xs i x x e)

pub at_contains : {X : Type 0} (xs : List X) (x : X) → Contains xs x → (i : ℕ) × (slice_get xs i ≡ Some x)
at_contains xs x (i, lt, e) = (i, slice_get-get_or xs i x lt ∙ ap Some e)

-- what a mapped list has at a place
pub mapped_at : {A B : Type 0} (f : A → B) (xs : List A) (i : ℕ) (y : B) → slice_get (map f xs) i ≡ Some y → (x : A) × (slice_get xs i ≡ Some x) × (f x ≡ y)
mapped_at f xs i y e = by (slice_get xs i) refl
  where
    by : (s : Option _) → slice_get xs i ≡ s → (x : _) × (slice_get xs i ≡ Some x) × (f x ≡ y)
    by None p = absurd (none-some y (ap (option_map f) (sym p) ∙ sym (slice_get-map f xs i) ∙ e))
    by (Some x) p = (x, p, same_Some (f x) y (ap (option_map f) (sym p) ∙ sym (slice_get-map f xs i) ∙ e))

pub map_at : {A B : Type 0} (f : A → B) (xs : List A) (i : ℕ) (x : A) → slice_get xs i ≡ Some x → slice_get (map f xs) i ≡ Some (f x)
map_at f xs i x e = slice_get-map f xs i ∙ ap (option_map f) e

pub contains_map : {A B : Type 0} (f : A → B) (xs : List A) (x : A) → Contains xs x → Contains (map f xs) (f x)
contains_map f xs x has = let q = at_contains xs x has in contains_at (map f xs) q.0 (f x) (map_at f xs q.0 x q.1)

pub contains_map_back : {A B : Type 0} (f : A → B) (xs : List A) (y : B) → Contains (map f xs) y → (x : A) × Contains xs x × (f x ≡ y)
contains_map_back f xs y has =
    let q = at_contains (map f xs) y has in
    let r = mapped_at f xs q.0 y q.1 in
    (r.0, contains_at xs q.0 r.0 r.1, r.2)

pub same_at : (n m : Name) → At n ≡ At m → n ≡ m
same_at n m e = cc

module _ (g : Graph) (f : Name → Name) (gs : Graph) (E : Embeds g f gs) where
  pub leads_on : (path : List Label) (v : Value) (n : Name) → Leads g v path (At n) → Leads gs (renamed f v) path (At (f n))
  leads_on [] v n e = ap (renamed f) e
  leads_on (l ∷ path) v n (x, (k, o, is, here, has), rest) =
      (renamed f x, (f k, renamed_object f o, ap (renamed f) is, E.here k o here, contains_map (renamed_triple f) o.triples (l, x) has), leads_on path x n rest)

  -- a step of the whole graph from an object of g is one of g
  pub step_back : (m : Name) (p O : Object) (l : Label) (x : Value) → g m ≡ Some p → gs (f m) ≡ Some O → Contains O.triples (l, x)
      → (y : Value) × Contains p.triples (l, y) × (renamed f y ≡ x)
  step_back m p O l x is here has =
      let same : renamed_object f p ≡ O = same_Some _ _ (sym (E.here m p is) ∙ here) in
      let has2 = subst (λ (o : Object). Contains o.triples (l, x)) (sym same) has in
      let r = contains_map_back (renamed_triple f) p.triples (l, x) has2 in
      let under = ap (λ (t : Label × Value). t.0) r.2 in
      (r.0.1, subst (λ k. Contains p.triples (k, r.0.1)) under r.1, ap (λ (t : Label × Value). t.1) r.2)

  pub leads_back : (path : List Label) (v : Value) (k : Name) → There g v → Leads gs (renamed f v) path (At k)
      → (n : Name) × (f n ≡ k) × Leads g v path (At n) × There g (At n)
  leads_back [] (Plain q) k there e = let no : ⊥ = cc in absurd no
  leads_back [] (At m) k there e = (m, same_at (f m) k e, refl, there)
  leads_back (l ∷ path) (Plain q) k there (x, (m, o, is, here, has), rest) = let no : ⊥ = cc in absurd no
  leads_back (l ∷ path) (At m) k there (x, (j, O, is, here, has), rest) =
      let p = there m refl in
      let s = step_back m p.0 O l x p.1 (ap gs (same_at (f m) j is) ∙ here) has in
      let r = leads_back path s.0 k (E.shut m p.0 l s.0 p.1 s.1) (subst (λ y. Leads gs y path (At k)) (sym s.2) rest) in
      (r.0, r.1, (s.0, (m, p.0, refl, p.1, s.1), r.2), r.3)

  pub reaches_on : (v : Value) (n : Name) → Reaches g v n → Reaches gs (renamed f v) (f n)
  reaches_on v n r = (r.0, leads_on r.0 v n r.1)

  pub shares_on : (v : Value) → There g v → IsShareable g v → IsShareable gs (renamed f v)
  shares_on v there all k o reach here =
      let b = leads_back reach.0 v k there reach.1 in
      let p = b.3 b.0 refl in
      let same : renamed_object f p.0 ≡ o = same_Some _ _ (sym (E.here b.0 p.0 p.1) ∙ ap gs b.1 ∙ here) in
      let solid = all b.0 p.0 (reach.0, b.2) p.1 in
      record { frozen = ap (λ (x : Object). x.frozen) (sym same) ∙ solid.frozen; no_shell = λ e. solid.no_shell (ap (λ (x : Object). x.kind) same ∙ e) }

  pub shares_back : (v : Value) → IsShareable gs (renamed f v) → IsShareable g v
  shares_back v all n o reach here =
      let solid = all (f n) (renamed_object f o) (reaches_on v n reach) (E.here n o here) in
      record { frozen = solid.frozen; no_shell = solid.no_shell }

  pub part_on : (v : Value) (n : Name) → IsPart g v n → IsPart gs (renamed f v) (f n)
  part_on v n part = (reaches_on v n part.0, λ all. part.1 (shares_back (At n) all))

  pub part_back : (v : Value) (k : Name) → There g v → IsPart gs (renamed f v) k → (n : Name) × (f n ≡ k) × IsPart g v n × There g (At n)
  part_back v k there part =
      let b = leads_back part.0.0 v k there part.0.1 in
      (b.0, b.1, ((part.0.0, b.2), λ all. part.1 (subst (λ j. IsShareable gs (At j)) b.1 (shares_on (At b.0) b.3 all))), b.3)
