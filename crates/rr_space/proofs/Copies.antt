-- Two graphs in which paired objects match, published objects being leaves, are alike.
use Rattle.std.proofs.Common.{◌≡◌, ℕ, List, [], ◌∷◌, Some, Contains, sym, ◌∙◌, subst, refl}
use Rattle.std.proofs.lemmas.Option.{same_Some}
use Rattle.rr_space.specs.Graph.{Graph, Name, Own, Published, Value, Plain, At, Label, Object, Leads, Reaches, IsSolid, IsShareable, IsPart}
use Rattle.rr_space.specs.Graph.{SameValue, SameTriple, Matches, Alike, IsAt}
use Rattle.rr_space.specs.Tables.{IsSealed, IsPublished}
use Rattle.rr_space.specs.Laws.{CopiesAreAlike}
use Rattle.rr_space.proofs.Renaming.{contains_at, at_contains}
use Rattle.rr_space.proofs.Zips.{zip_at, zip_back}

-- no path leads from a published object to a slot
stays_out : (g : Graph) → IsSealed g → (path : List Label) (x : Value) (n : ℕ) → IsPublished x → Leads g x path (At (Own n)) → ⊥
stays_out g sealed [] x n out e = subst IsPublished e out
stays_out g sealed (l ∷ path) x n out (z, (Own k, o, is, here, has), rest) = subst IsPublished is out
stays_out g sealed (l ∷ path) x n out (z, (Published c p, o, is, here, has), rest) = stays_out g sealed path z n (sealed.shut c p o l z here has) rest

module _ (P : ℕ → ℕ → Type 0) where
  triple_on : (o p : Object) (l : Label) (x : Value) → Matches P o p → Contains o.triples (l, x) → (y : Value) × Contains p.triples (l, y) × SameValue P x y
  triple_on o p l x same has =
      let q = at_contains o.triples (l, x) has in
      let r = zip_at (SameTriple P) o.triples p.triples q.0 (l, x) same.triples q.1 in
      (r.0.1, subst (λ k. Contains p.triples (k, r.0.1)) (sym r.2.0) (contains_at p.triples q.0 r.0 r.1), r.2.1)

  triple_back : (o p : Object) (l : Label) (y : Value) → Matches P o p → Contains p.triples (l, y) → (x : Value) × Contains o.triples (l, x) × SameValue P x y
  triple_back o p l y same has =
      let q = at_contains p.triples (l, y) has in
      let r = zip_back (SameTriple P) o.triples p.triples q.0 (l, y) same.triples q.1 in
      (r.0.1, subst (λ k. Contains o.triples (k, r.0.1)) r.2.0 (contains_at o.triples q.0 r.0 r.1), r.2.1)

  paired_on : (n : ℕ) (x y : Value) → x ≡ At (Own n) → SameValue P x y → (m : ℕ) × (y ≡ At (Own m)) × P n m
  paired_on n x (Plain q) e s = absurd (subst (λ t. SameValue P t (Plain q)) e s)
  paired_on n x (At (Own m)) e s = (m, refl, subst (λ t. SameValue P t (At (Own m))) e s)
  paired_on n x (At (Published c p)) e s = absurd (subst (λ t. SameValue P t (At (Published c p))) e s)

  paired_back : (m : ℕ) (x y : Value) → y ≡ At (Own m) → SameValue P x y → (n : ℕ) × (x ≡ At (Own n)) × P n m
  paired_back m (Plain q) y e s = absurd (subst (λ t. SameValue P (Plain q) t) e s)
  paired_back m (At (Own n)) y e s = (n, refl, subst (λ t. SameValue P (At (Own n)) t) e s)
  paired_back m (At (Published c p)) y e s = absurd (subst (λ t. SameValue P (At (Published c p)) t) e s)

-- P pairs names one to one, each on the left is of the part of v, paired objects match, and so do the roots
pub record IsPairing (g : Graph) (v : Value) (h : Graph) (w : Value) (P : ℕ → ℕ → Type 0) : Type 0 where
  pub left_sealed : IsSealed g
  pub right_sealed : IsSealed h
  pub roots : SameValue P v w
  pub there : (n m : ℕ) (o : Object) → P n m → g (Own n) ≡ Some o → (p : Object) × (h (Own m) ≡ Some p) × Matches P o p
  pub back : (n m : ℕ) (p : Object) → P n m → h (Own m) ≡ Some p → (o : Object) × (g (Own n) ≡ Some o) × Matches P o p
  pub part : (n m : ℕ) → P n m → IsPart g v (Own n)
  pub one_left : (n m k : ℕ) → P n m → P n k → m ≡ k
  pub one_right : (n k m : ℕ) → P n m → P k m → n ≡ k

module _ (g : Graph) (v : Value) (h : Graph) (w : Value) (P : ℕ → ℕ → Type 0) (c : IsPairing g v h w P) where
  path_on : (path : List Label) (x y : Value) (n : ℕ) → SameValue P x y → Leads g x path (At (Own n)) → (m : ℕ) × Leads h y path (At (Own m)) × P n m
  path_on [] x y n s e = paired_on P n x y e s
  path_on (l ∷ path) x y n s (z, (Published d q, o, is, here, has), rest) =
      absurd (stays_out g c.left_sealed path z n (c.left_sealed.shut d q o l z here has) rest)
  path_on (l ∷ path) x y n s (z, (Own k, o, is, here, has), rest) =
      let a = paired_on P k x y is s in
      let t = c.there k a.0 o a.2 here in
      let b = triple_on P o t.0 l z t.2 has in
      let r = path_on path z b.0 n b.2 rest in
      (r.0, (b.0, (Own a.0, t.0, a.1, t.1, b.1), r.1), r.2)

  path_back : (path : List Label) (x y : Value) (m : ℕ) → SameValue P x y → Leads h y path (At (Own m)) → (n : ℕ) × Leads g x path (At (Own n)) × P n m
  path_back [] x y m s e = paired_back P m x y e s
  path_back (l ∷ path) x y m s (z, (Published d q, o, is, here, has), rest) =
      absurd (stays_out h c.right_sealed path z m (c.right_sealed.shut d q o l z here has) rest)
  path_back (l ∷ path) x y m s (z, (Own k, p, is, here, has), rest) =
      let a = paired_back P k x y is s in
      let t = c.back a.0 k p a.2 here in
      let b = triple_back P t.0 p l z t.2 has in
      let r = path_back path b.0 z m b.2 rest in
      (r.0, (b.0, (Own a.0, t.0, a.1, t.1, b.1), r.1), r.2)

  right : (n m : ℕ) → P n m → Reaches h w (Own m)
  right n m p =
      let r = (c.part n m p).0 in
      let f = path_on r.0 v w n c.roots r.1 in
      subst (λ j. Reaches h w (Own j)) (c.one_left n f.0 m f.2 p) (r.0, f.1)

  -- what is paired with a shareable object is shareable
  solid_back : (n m : ℕ) → P n m → IsShareable h (At (Own m)) → IsShareable g (At (Own n))
  solid_back n m p all = by
    where
      by : (k : Name) (o : Object) → Reaches g (At (Own n)) k → g k ≡ Some o → IsSolid o
      by (Published d q) o reach here = c.left_sealed.solid d q o here
      by (Own k) o reach here =
          let f = path_on reach.0 (At (Own n)) (At (Own m)) k p reach.1 in
          let t = c.there k f.0 o f.2 here in
          let s = all (Own f.0) t.0 (reach.0, f.1) t.1 in
          record { frozen = t.2.frozen ∙ s.frozen; no_shell = λ e. s.no_shell (sym t.2.kind ∙ e) }

  pub paired_alike : Alike g v h w P
  paired_alike = record {
    roots = c.roots;
    same = λ n m o p at here gone. let t = c.there n m o at here in subst (Matches P o) (same_Some t.0 p (sym t.1 ∙ gone)) t.2;
    has_left = λ n part. let f = path_on part.0.0 v w n c.roots part.0.1 in (f.0, f.2);
    has_right = λ m part. let b = path_back part.0.0 v w m c.roots part.0.1 in (b.0, b.2);
    left = λ n m p. c.part n m p;
    right = λ n m p. (right n m p, λ all. (c.part n m p).1 (solid_back n m p all));
    one_left = λ n m k p q. c.one_left n m k p q;
    one_right = λ n k m p q. c.one_right n k m p q;
  }

pub copies_are_alike : CopiesAreAlike
copies_are_alike g v names h w c = paired_alike g v h w (IsAt names) (record {
  left_sealed = c.left_sealed;
  right_sealed = c.right_sealed;
  roots = c.roots;
  there = c.there;
  back = c.back;
  part = λ n m p. let r = (c.exact n).0 (contains_at names m n p) in (r, c.promoted n r);
  one_left = λ n m k p q. c.distinct n m k p q;
  one_right = λ n k m p q. same_Some n k (sym p ∙ q);
})
