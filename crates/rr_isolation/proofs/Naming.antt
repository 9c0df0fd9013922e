-- Names that were found are the outer names once they are sorted.
use Rattle.std.proofs.Common.{◌≡◌, ◌∙◌, sym, ap, subst, refl, arith, ℕ, ◌<◌, ◌≤◌, List, [], ◌∷◌, length, map, Contains, get_or, Option, Some, None, IsSome, true, nat_eq, IsSortedBy}
use Rattle.std.specs.Cmp.{nat_eq_equiv}
use Rattle.std.specs.List.{IsDistinct}
use Rattle.std.specs.Map.{keys_of, lookup}
use Rattle.std.proofs.lemmas.Bool.{eqb-true}
use Rattle.std.proofs.lemmas.Bool.Decides.{Decides-eqb}
use Rattle.std.proofs.lemmas.List.{get_or-map}
use Rattle.std.proofs.lemmas.List.Sorted.{sorted_far}
use Rattle.std.proofs.lemmas.Map.Entries.{length-keys_of, lookup_from_place}
use Rattle.std.proofs.lemmas.Map.Made.{AllPairs-from_IsDistinct}
use Rattle.std.proofs.lemmas.Map.Views.{Contains-keys_from_lookup, IsSome-lookup_from_Contains, Contains-from_lookup, lookup-from_Contains}
use Rattle.std.proofs.lemmas.Option.{slice_get-get_or}
use Rattle.rr_base.specs.declared.name.Sym.{Sym}
use Rattle.rr_tree.specs.Tree.{Tree}
use Rattle.rr_isolation.specs.Outer.{IsOuterName, IsFirstUse, IsUsedBefore, AreOuterNames, is_earlier}
use Rattle.rr_isolation.specs.Finds.{AreUses, first_of, Describes}
use Rattle.rr_isolation.specs.declared.found.Found.{Found}
use Rattle.rr_isolation.specs.Names.{names_used}
use Rattle.rr_isolation.proofs.Earlier.{earlier_order, earlier_else}
use Rattle.rr_isolation.proofs.FirstUses.{AreFirst, first_uses}

read_back : (xs : List ℕ) → map (λ (s : Sym). s.0) (map (λ (n : ℕ). record { 0 = n }) xs) ≡ xs
read_back [] = refl
read_back (x ∷ xs) = ap (λ l. x ∷ l) (read_back xs)

value_of : (o : Option ℕ) → IsSome o → (v : ℕ) × (o ≡ Some v)
value_of None h = absurd (cc)
value_of (Some v) h = (v, refl)

pair_is : (x a : ℕ) (p : ℕ × ℕ) → x ≡ p.0 → a ≡ p.1 → (x, a) ≡ p
pair_is x a p first second = ap (λ (m : ℕ). (m, a)) first ∙ ap (λ (m : ℕ). (p.0, m)) second

module _ (f : Found) (t : Tree) (all : Describes f t) (es : List (ℕ × ℕ)) (same : (name : ℕ) → lookup (nat_eq name) es ≡ first_of f name) where
  -- the value of a name's entry is its first use
  first_is : (name v behind : ℕ) → lookup (nat_eq name) es ≡ Some v → IsFirstUse t name behind → v ≡ behind
  first_is name v behind e first =
      let was : first_of f name ≡ Some v = sym (same name) ∙ e in
      let least : v ≤ behind = first.1 v (all.sound name v was) in
      let kept = all.complete name behind first.0 in
      let both : Some v ≡ Some kept.first = sym was ∙ kept.is in
      let one : v ≡ kept.first = cc in
      let most = kept.before in
      omega arith

  names_exact : (x : ℕ) → (Contains (keys_of es) x → IsOuterName t x) × (IsOuterName t x → Contains (keys_of es) x)
  names_exact x = (
    λ has. let v = value_of (lookup (nat_eq x) es) (IsSome-lookup_from_Contains nat_eq_equiv x es has) in (v.0, all.sound x v.0 (sym (same x) ∙ v.1)),
    λ name. let u = all.complete x name.0 name.1 in
        let found : IsSome (lookup (nat_eq x) es) = subst (λ (o : Option ℕ). IsSome o) (sym (same x ∙ u.is)) refl in
        Contains-keys_from_lookup eqb-true x es found,
  )

  pub named : (ns : List Sym) → IsDistinct nat_eq (keys_of es) → IsSortedBy is_earlier es → ns ≡ map (λ (n : ℕ). record { 0 = n }) (keys_of es)
      → AreOuterNames t (map (λ s. s.0) ns)
  named ns once sorted is = subst (AreOuterNames t) (sym (ap (map (λ (s : Sym). s.0)) is ∙ read_back (keys_of es))) (record {
    exact = names_exact;
    once = once;
    in_order = in_order;
  })
    where
      key : (i d : ℕ) → i < length (keys_of es) → get_or (keys_of es) i d ≡ (get_or es i (0, 0)).0
      key i d lt = let within : i < length es = omega (arith, length-keys_of es) in get_or-map (λ (p : ℕ × ℕ). p.0) es i (0, 0) d within

      at : (i : ℕ) (d : ℕ) → i < length (keys_of es) → (v : ℕ) × (lookup (nat_eq (get_or (keys_of es) i d)) es ≡ Some v) × (v ≡ (get_or es i (0, 0)).1)
      at i d lt =
          let within : i < length es = omega (arith, length-keys_of es) in
          let e = get_or es i (0, 0) in
          let key : get_or (keys_of es) i d ≡ e.0 = get_or-map (λ (p : ℕ × ℕ). p.0) es i (0, 0) d within in
          (e.1, ap (λ (k : ℕ). lookup (nat_eq k) es) key ∙ lookup_from_place nat_eq_equiv es i e.0 e.1 once (slice_get-get_or es i (0, 0) within), refl)

      in_order : (i j d : ℕ) → i < j → j < length (keys_of es) → IsUsedBefore t (get_or (keys_of es) i d) (get_or (keys_of es) j d)
      in_order i j d lt within a b first_a first_b =
          let x = at i d (omega arith) in
          let y = at j d within in
          let far = sorted_far is_earlier earlier_order es sorted i j (0, 0) (omega arith) (omega (arith, length-keys_of es)) in
          let differ = AllPairs-from_IsDistinct Decides-eqb (keys_of es) once i j d lt within in
          let same_x = first_is (get_or (keys_of es) i d) x.0 a x.1 first_a in
          let same_y = first_is (get_or (keys_of es) j d) y.0 b y.1 first_b in
          let left : (get_or (keys_of es) i d, a) ≡ get_or es i (0, 0) = pair_is (get_or (keys_of es) i d) a (get_or es i (0, 0)) (key i d (omega arith)) (sym same_x ∙ x.2) in
          let right : (get_or (keys_of es) j d, b) ≡ get_or es j (0, 0) = pair_is (get_or (keys_of es) j d) b (get_or es j (0, 0)) (key j d within) (sym same_y ∙ y.2) in
          let before : is_earlier (get_or es i (0, 0)) (get_or es j (0, 0)) ≡ true = earlier_else (get_or es i (0, 0)) (get_or es j (0, 0)) (λ e. differ (key i d (omega arith) ∙ e ∙ sym (key j d within))) far in
          ap (λ u. is_earlier u (get_or (keys_of es) j d, b)) left ∙ ap (is_earlier (get_or es i (0, 0))) right ∙ before

  -- the entries are the first uses, in their order
  entries_first : (us : List (ℕ × ℕ)) → AreUses t us → IsDistinct nat_eq (keys_of es) → IsSortedBy is_earlier es → AreFirst us es
  entries_first us uses once sorted = record {
    paired = λ i j d lt within.
        let keys = length-keys_of es in
        let left = get_or-map (λ (p : ℕ × ℕ). p.0) es i d 0 (omega arith) in
        let right = get_or-map (λ (p : ℕ × ℕ). p.0) es j d 0 within in
        let differ = AllPairs-from_IsDistinct Decides-eqb (keys_of es) once i j 0 lt (omega arith) in
        earlier_else (get_or es i d) (get_or es j d) (λ e. differ (left ∙ e ∙ sym right)) (sorted_far is_earlier earlier_order es sorted i j d (omega arith) within);
    sound = λ x a has. (uses x a).1 (all.sound x a (sym (same x) ∙ lookup-from_Contains nat_eq_equiv x a es once has));
    most = λ x a b has used.
        let was : first_of f x ≡ Some a = sym (same x) ∙ lookup-from_Contains nat_eq_equiv x a es once has in
        let kept = all.complete x b ((uses x b).0 used) in
        let both : Some a ≡ Some kept.first = sym was ∙ kept.is in
        let one : a ≡ kept.first = cc in
        let before = kept.before in
        omega arith;
    complete = λ x a used most.
        let kept = all.complete x a ((uses x a).0 used) in
        let before = kept.before in
        let after = most kept.first ((uses x kept.first).1 (all.sound x kept.first kept.is)) in
        let one : kept.first ≡ a = omega arith in
        Contains-from_lookup eqb-true x a es (same x ∙ kept.is ∙ ap (λ (m : ℕ). Some m) one);
  }

  pub told : (us : List (ℕ × ℕ)) → AreUses t us → (ns : List Sym) → IsDistinct nat_eq (keys_of es) → IsSortedBy is_earlier es → ns ≡ map (λ (n : ℕ). record { 0 = n }) (keys_of es) → map (λ s. s.0) ns ≡ names_used us
  told us uses ns once sorted is = ap (map (λ (s : Sym). s.0)) is ∙ read_back (keys_of es) ∙ ap (map (λ (u : ℕ × ℕ). u.0)) (first_uses us es (entries_first us uses once sorted))
