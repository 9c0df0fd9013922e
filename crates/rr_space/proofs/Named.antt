-- What an index of a cluster says, as it is seen from outside.
use Rattle.std.proofs.Common.{◌≡◌, ◌<◌, ℕ, inl, inr, List, length, map, slice_get, Option, Some, None, Contains, MatchOption, IsSomeAnd, IfSome, refl, sym, ap, ◌∙◌, subst, arith}
use Rattle.std.specs.Global.{Vec}
use Rattle.std.proofs.lemmas.Option.{none-some, slice_get_within}
use Rattle.std.proofs.lemmas.Slice.Zip.{AllZip-left}
use Rattle.rr_space.specs.Graph.{Object}
use Rattle.rr_space.specs.Tables.{Whole, HashKey, below_hold, outer_objects, numbered}
use Rattle.rr_space.specs.Parts.{value_of, below_ref, below_parts, pairs_from, sealed_object}
use Rattle.rr_space.specs.Lookups.{IsOneEach, IsKeyOfPair, key_of_value}
use Rattle.rr_space.specs.Indexes.{name_key, IsNamed, IsFirstNamed, IsIndexOf, IsIndexed, AreIndexed}
use Rattle.rr_space.specs.declared.node.Key.{Key}
use Rattle.rr_space.specs.declared.refer.Ref.{Ref}
use Rattle.rr_space.specs.declared.refer.Ref.TheVariants.{Nil, False, True, Int, Symbol, Class, Ractor, Local, Shared}
use Rattle.rr_space.specs.declared.refer.Sealed.{Sealed}
use Rattle.rr_space.specs.declared.refer.Sealed.TheVariants.{Hash}
use Rattle.rr_space.proofs.PublishedKeys.{own_key, other_key, pair_below}

module _ (w : Whole) (one : IsOneEach (below_hold w)) where
  name_is : (r : Ref) → ((e : ℕ × List Object) → Contains (below_ref r) e → Contains (below_hold w) e) → key_of_value (below_hold w) (numbered w.number (value_of r)) ≡ name_key w.own r
  name_is (Local p) led = own_key w p
  name_is (Shared p d) led = other_key (below_hold w) d.now p one (led (d.now.number, outer_objects d.now) (0, omega arith, refl))
  name_is Nil led = refl
  name_is False led = refl
  name_is True led = refl
  name_is (Int n) led = refl
  name_is (Symbol n) led = refl
  name_is (Class n) led = refl
  name_is (Ractor n) led = refl

  module _ (ps : List (Ref × Ref)) (led : (e : ℕ × List Object) → Contains (below_parts (pairs_from 0 ps)) e → Contains (below_hold w) e) (h : HashKey) where
    at_name : (i : ℕ) → IsKeyOfPair w ps h i → IsNamed w.own ps h i
    at_name i (p, at, e) = (p, at, sym (name_is p.0 (λ x has. led x (pair_below ps 0 i p x at has))) ∙ e)

    at_key : (i : ℕ) → IsNamed w.own ps h i → IsKeyOfPair w ps h i
    at_key i (p, at, e) = (p, at, name_is p.0 (λ x has. led x (pair_below ps 0 i p x at has)) ∙ e)

    -- the first pair that has a key, by the key that its key object is from outside
    pub by_key : (found : Option ℕ) → IsFirstNamed w.own ps (length ps) h found
        → MatchOption found ((i : ℕ) → IsKeyOfPair w ps h i → ⊥) (λ i. IsKeyOfPair w ps h i × ((j : ℕ) → j < i → IsKeyOfPair w ps h j → ⊥))
    by_key None f = λ i k. f i (slice_get_within ps i k.0 k.1) (at_name i k)
    by_key (Some i) (lt, n, before) = (at_key i n, λ j lt k. before j lt (at_name j k))

-- what the index of a hash says
pub indexed_at : {B : Type 0} (entries : B → List (Key × ℕ)) (nodes : List Sealed) (bs : List (Option B)) (i : ℕ) (ps : Vec (Ref × Ref)) (b : B)
    → AreIndexed entries nodes bs → slice_get nodes i ≡ Some (Hash ps) → slice_get bs i ≡ Some (Some b) → IsIndexOf (map sealed_object nodes) ps.items (length ps.items) (entries b)
indexed_at entries nodes bs i ps b (inl e) at has = absurd (none-some (Some b) (ap (λ xs. slice_get xs i) (sym e) ∙ has))
indexed_at {B} entries nodes bs i ps b (inr z) at has =
    let R = IsIndexed entries (map sealed_object nodes) in
    let m = subst (λ o. MatchOption o (Unit {0}) (λ x. IsSomeAnd (slice_get bs i) (R x))) at (AllZip-left R nodes bs z i) in
    subst (λ o. IsSomeAnd o (R (Hash ps))) has m

-- the first of n pairs is one of them
pub within_pairs : (own : List Object) (ps : List (Ref × Ref)) (n : ℕ) (h : HashKey) (found : Option ℕ) → IsFirstNamed own ps n h found → IfSome found (λ i. i < n)
within_pairs own ps n h None f = tt
within_pairs own ps n h (Some i) f = f.0
