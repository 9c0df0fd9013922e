-- What is alike in two graphs is alike in the graphs that they are inside of.
use Rattle.std.proofs.Common.{◌≡◌, ℕ, suc, inl, inr, List, [], ◌∷◌, map, slice_get, Some, Contains, sym, ap, ◌∙◌, subst, refl, arith}
use Rattle.std.specs.List.{AllZip}
use Rattle.rr_space.specs.Graph.{Graph, Name, Own, Published, Value, Plain, At, Label, Object, Leads, IsShareable, IsPart}
use Rattle.rr_space.specs.Graph.{SameValue, SameTriple, Matches, Alike, IsAt}
use Rattle.rr_space.specs.Tables.{IsSealed, IsPublished}
use Rattle.std.proofs.lemmas.Option.{same_Some}
use Rattle.rr_space.specs.Tables.{Embeds, There, renamed, renamed_triple, renamed_object}
use Rattle.rr_space.specs.Graph.{SameIn, SameTripleIn, MatchesIn, IsAlike, Paired}
use Rattle.rr_space.specs.Laws.{Inside, AlikeInside}
use Rattle.rr_space.proofs.Renaming.{map_at, mapped_at, shares_on, part_on, part_back}

contains_cons : {X : Type 0} (x : X) (xs : List X) (y : X) → Contains xs y → Contains (x ∷ xs) y
contains_cons x xs y (i, lt, e) = (suc i, omega arith, e)

contains_first : {X : Type 0} (x : X) (xs : List X) → Contains (x ∷ xs) x
contains_first x xs = (0, omega arith, refl)

own_same : (n m : ℕ) → Own n ≡ Own m → n ≡ m
own_same n m e = cc

-- a path from a published object ends at one
stays : (g : Graph) → IsSealed g → (path : List Label) (x : Value) (n : Name) → IsPublished x → Leads g x path (At n) → IsPublished (At n)
stays g sealed [] x n out e = subst IsPublished e out
stays g sealed (l ∷ path) x n out (z, (Own k, o, is, here, has), rest) = absurd (subst IsPublished is out)
stays g sealed (l ∷ path) x n out (z, (Published c p, o, is, here, has), rest) = stays g sealed path z n (sealed.shut c p o l z here has) rest

pub published_shares : (g : Graph) → IsSealed g → (c p : ℕ) → IsShareable g (At (Published c p))
published_shares g sealed c p (Own k) o reach here = absurd (stays g sealed reach.0 (At (Published c p)) (Own k) tt reach.1)
published_shares g sealed c p (Published d q) o reach here = sealed.solid d q o here

there_end : (g : Graph) (f : Name → Name) (gs : Graph) → Embeds g f gs → (path : List Label) (v : Value) (n : Name) → There g v → Leads g v path (At n) → There g (At n)
there_end g f gs E [] v n there e = subst (There g) e there
there_end g f gs E (l ∷ path) v n there (x, (k, o, is, here, has), rest) = there_end g f gs E path x n (E.shut k o l x here has) rest

module _ (g : Graph) (f : Name → Name) (gs : Graph) (h : Graph) (e : Name → Name) (hs : Graph) (v w : Value) (names : List ℕ) (right : List Name)
    (I : Inside g f gs h e hs) (tv : There g v) (tw : There h w) (a : Alike g v h w (IsAt names))
    (lists : (i : ℕ) (o : Object) → h (Own i) ≡ Some o → slice_get right i ≡ Some (e (Own i))) where
  value_on : (x y : Value) → There g x → There h y → SameValue (IsAt names) x y → SameIn gs (Paired (map (λ n. f (Own n)) names) right) (renamed f x) (renamed e y)
  value_on (Plain p) (Plain q) tx ty s = s
  value_on (Plain p) (At m) tx ty s = absurd s
  value_on (At (Own n)) (Plain q) tx ty s = absurd s
  value_on (At (Published c p)) (Plain q) tx ty s = absurd s
  value_on (At (Own n)) (At (Own m)) tx ty s =
      let t = ty (Own m) refl in
      inl (m, map_at (λ (k : ℕ). f (Own k)) names m n s, lists m t.0 t.1)
  value_on (At (Own n)) (At (Published c p)) tx ty s = absurd s
  value_on (At (Published c p)) (At (Own m)) tx ty s = absurd s
  value_on (At (Published c p)) (At (Published d q)) tx ty s =
      inr (
        I.published c p ∙ ap (λ k. e (Published k p)) s.0 ∙ ap (λ k. e (Published d k)) s.1,
        shares_on g f gs I.left (At (Published c p)) tx (published_shares g I.left_sealed c p),
      )

  zip_on : (xs ys : List (Label × Value)) → ((l : Label) (x : Value) → Contains xs (l, x) → There g x) → ((l : Label) (y : Value) → Contains ys (l, y) → There h y)
      → AllZip (SameTriple (IsAt names)) xs ys → AllZip (SameTripleIn gs (Paired (map (λ n. f (Own n)) names) right)) (map (renamed_triple f) xs) (map (renamed_triple e) ys)
  zip_on [] [] tx ty z = z
  zip_on [] (y ∷ ys) tx ty z = absurd z
  zip_on (x ∷ xs) [] tx ty z = absurd z
  zip_on (x ∷ xs) (y ∷ ys) tx ty z = (
    (z.0.0, value_on x.1 y.1 (tx x.0 x.1 (contains_first x xs)) (ty y.0 y.1 (contains_first y ys)) z.0.1),
    zip_on xs ys (λ l u has. tx l u (contains_cons x xs (l, u) has)) (λ l u has. ty l u (contains_cons y ys (l, u) has)) z.1,
  )

  matches_on : (n m : Name) (o p : Object) → g n ≡ Some o → h m ≡ Some p → Matches (IsAt names) o p
      → MatchesIn gs (Paired (map (λ n. f (Own n)) names) right) (renamed_object f o) (renamed_object e p)
  matches_on n m o p here there s = record {
    kind = s.kind;
    class = s.class;
    bytes = s.bytes;
    frozen = s.frozen;
    triples = zip_on o.triples p.triples (λ l x has. I.left.shut n o l x here has) (λ l x has. I.right.shut m p l x there has) s.triples;
  }

  -- a pair of the whole graphs is one of the two inside
  unpair : (n m : Name) → Paired (map (λ n. f (Own n)) names) right n m
      → (k i : ℕ) × IsAt names k i × (f (Own k) ≡ n) × (e (Own i) ≡ m) × ((o : Object) × (g (Own k) ≡ Some o)) × ((p : Object) × (h (Own i) ≡ Some p))
  unpair n m (i, is_left, is_right) =
      let q = mapped_at (λ (k : ℕ). f (Own k)) names i n is_left in
      let l = a.left q.0 i q.1 in
      let r = a.right q.0 i q.1 in
      let p = there_end h e hs I.right r.0.0 w (Own i) tw r.0.1 (Own i) refl in (
        q.0,
        i,
        q.1,
        q.2,
        same_Some (e (Own i)) m (sym (lists i p.0 p.1) ∙ is_right),
        there_end g f gs I.left l.0.0 v (Own q.0) tv l.0.1 (Own q.0) refl,
        p,
      )

  pair : (k i : ℕ) → IsAt names k i → Paired (map (λ n. f (Own n)) names) right (f (Own k)) (e (Own i))
  pair k i s =
      let r = a.right k i s in
      let p = there_end h e hs I.right r.0.0 w (Own i) tw r.0.1 (Own i) refl in
      (i, map_at (λ (k : ℕ). f (Own k)) names i k s, lists i p.0 p.1)

  left_by : (k n : Name) → f k ≡ n → IsPart g v k → (m : Name) × Paired (map (λ n. f (Own n)) names) right n m
  left_by (Own k) n is part = let q = a.has_left k part in (e (Own q.0), subst (λ j. Paired (map (λ n. f (Own n)) names) right j (e (Own q.0))) is (pair k q.0 q.1))
  left_by (Published c p) n is part = absurd (part.1 (published_shares g I.left_sealed c p))

  right_by : (k m : Name) → e k ≡ m → IsPart h w k → (n : Name) × Paired (map (λ n. f (Own n)) names) right n m
  right_by (Own i) m is part = let q = a.has_right i part in (f (Own q.0), subst (λ j. Paired (map (λ n. f (Own n)) names) right (f (Own q.0)) j) is (pair q.0 i q.1))
  right_by (Published c p) m is part = absurd (part.1 (published_shares h I.right_sealed c p))

  pub alike_on : IsAlike gs (renamed f v) hs (renamed e w) (Paired (map (λ n. f (Own n)) names) right)
  alike_on = record {
    roots = value_on v w tv tw a.roots;
    same = λ n m o p pr here there. let u = unpair n m pr in
        let so : renamed_object f u.5.0 ≡ o = same_Some _ _ (sym (I.left.here (Own u.0) u.5.0 u.5.1) ∙ ap gs u.3 ∙ here) in
        let sp : renamed_object e u.6.0 ≡ p = same_Some _ _ (sym (I.right.here (Own u.1) u.6.0 u.6.1) ∙ ap hs u.4 ∙ there) in
        let r = matches_on (Own u.0) (Own u.1) u.5.0 u.6.0 u.5.1 u.6.1 (a.same u.0 u.1 u.5.0 u.6.0 u.2 u.5.1 u.6.1) in
        subst (λ (t : Object). MatchesIn gs (Paired (map (λ n. f (Own n)) names) right) t p) so
        (subst (λ (t : Object). MatchesIn gs (Paired (map (λ n. f (Own n)) names) right) (renamed_object f u.5.0) t) sp r);
    has_left = λ n part. let b = part_back g f gs I.left v n tv part in left_by b.0 n b.1 b.2;
    has_right = λ m part. let b = part_back h e hs I.right w m tw part in right_by b.0 m b.1 b.2;
    left = λ n m pr. let u = unpair n m pr in subst (λ j. IsPart gs (renamed f v) j) u.3 (part_on g f gs I.left v (Own u.0) (a.left u.0 u.1 u.2));
    right = λ n m pr. let u = unpair n m pr in subst (λ j. IsPart hs (renamed e w) j) u.4 (part_on h e hs I.right w (Own u.1) (a.right u.0 u.1 u.2));
    one_left = λ n m k p q. let u = unpair n m p in let z = unpair n k q in
        let s = own_same u.0 z.0 (I.left.one (Own u.0) (Own z.0) u.5.0 z.5.0 u.5.1 z.5.1 (u.3 ∙ sym z.3)) in
        let t = a.one_left u.0 u.1 z.1 u.2 (subst (λ j. IsAt names j z.1) (sym s) z.2) in
        sym u.4 ∙ ap (λ j. e (Own j)) t ∙ z.4;
    one_right = λ n k m p q. let u = unpair n m p in let z = unpair k m q in
        let s = own_same u.1 z.1 (I.right.one (Own u.1) (Own z.1) u.6.0 z.6.0 u.6.1 z.6.1 (u.4 ∙ sym z.4)) in
        let t = a.one_right u.0 z.0 u.1 u.2 (subst (λ j. IsAt names z.0 j) (sym s) z.2) in
        sym u.3 ∙ ap (λ j. f (Own j)) t ∙ z.3;
  }

pub alike_inside : AlikeInside
alike_inside g f gs h e hs v w names right I tv tw a lists = alike_on g f gs h e hs v w names right I tv tw a lists
