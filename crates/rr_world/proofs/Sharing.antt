-- A published value is its own copy, and moving it moves nothing.
use Rattle.std.proofs.Common.{◌≡◌, ℕ, inr, List, [], ◌∷◌, length, Some, slice_get, suc, sym, ap, ◌∙◌, refl, arith}
use Rattle.std.proofs.lemmas.Option.{none-some, same_Some}
use Rattle.rr_space.specs.Graph.{Graph, Own, Value, Plain, At, Alike, IsAlike, IsAt, Paired, SameIn, SameValue}
use Rattle.rr_space.specs.Tables.{IsPublished, IsSealed}
use Rattle.rr_space.specs.Steps.{IsMoved}
use Rattle.rr_space.specs.Readings.{Owner, Shared, Owned, Objects, Naming, IsApart, IsSharedValue, whole}
use Rattle.rr_world.specs.Readings.{value_in}
use Rattle.rr_world.proofs.Namings.{KeepsShared}
use Rattle.rr_world.proofs.Published.{leads_shared, published_named, same_published, sealed_path, shared_solid}

pub empty_list : {A : Type 0} (xs : List A) → length xs ≡ 0 → xs ≡ []
empty_list [] e = refl
empty_list (x ∷ xs) e = absurd (omega (arith, e))

-- a published value has no part
pub shared_names : (g h : Graph) (v w : Value) (ns : List ℕ) → IsSealed g → IsPublished v → Alike g v h w (IsAt ns) → ns ≡ []
shared_names g h v w [] S p a = refl
shared_names g h v w (n ∷ ns) S p a = let part = a.left n 0 refl in absurd (sealed_path g S part.0.0 v n p part.0.1)

-- what matches it has its name
pub shared_root : (names names2 : Naming) (h j : Owner) → KeepsShared names names2 → (v w : Value) (ns : List ℕ) → IsPublished v → SameValue (IsAt ns) v w → value_in names2 j w ≡ value_in names h v
shared_root names names2 h j kept v w ns p same = ap (value_in names2 j) (sym (same_published (IsAt ns) v w p same)) ∙ published_named names names2 h j v kept p

-- what is shared stays so, where all but what one owner has stays
pub shared_stays : (g g2 : Objects) (h : Owner) → ((c : ℕ) → h ≡ Shared c → ⊥) → ((n : ℕ) (x : Owned) → g n ≡ Some x → (x.owner ≡ h → ⊥) → g2 n ≡ Some x) → (v : Value) → IsSharedValue g v → IsSharedValue g2 v
shared_stays g g2 h apart others v s m is =
    let q = s m is in
    (q.0, q.1, q.2, others q.0 q.1 q.3 (λ e. apart q.4.0 (sym e ∙ q.4.1)), q.4)

-- a shared value is alike to itself, with no pairs
pub shared_alike : (g g2 : Objects) → IsApart g → IsApart g2 → (v : Value) → IsSharedValue g v → IsSharedValue g2 v → IsAlike (whole g) v (whole g2) v (Paired [] [])
shared_alike g g2 A B v s t = record {
  roots = itself v s;
  same = λ n m o p pr here there. absurd (none-some n pr.1);
  has_left = λ n part. absurd (part.1 (shared_solid g A (At n) (leads_shared g A part.0.0 v (At n) s part.0.1)));
  has_right = λ n part. absurd (part.1 (shared_solid g2 B (At n) (leads_shared g2 B part.0.0 v (At n) t part.0.1)));
  left = λ n m pr. absurd (none-some n pr.1);
  right = λ n m pr. absurd (none-some n pr.1);
  one_left = λ n m k p q. absurd (none-some n p.1);
  one_right = λ n k m p q. absurd (none-some n p.1);
}
  where
    itself : (x : Value) → IsSharedValue g x → SameIn (whole g) (Paired [] []) x x
    itself (Plain n) h = refl
    itself (At n) h = inr (refl, shared_solid g A (At n) h)

-- and a move of it changes nothing
pub shared_moved : (r : ℕ) (g g2 : Objects) → IsApart g → IsApart g2 → (v : Value) → IsSharedValue g v → IsSharedValue g2 v → ((j : ℕ) → g2 j ≡ g j) → IsMoved r v v [] [] g g2
shared_moved r g g2 A B v s t same = record {
  alike = shared_alike g g2 A B v s t;
  part = λ n part. absurd (part.1 (shared_solid g2 B (At (Own n)) (leads_shared g2 B part.0.0 v (At (Own n)) t part.0.1)));
  fresh = λ n y none here. absurd (none-some y (sym none ∙ sym (same n) ∙ here));
  shells = λ n x part here. absurd (part.1 (shared_solid g A (At (Own n)) (leads_shared g A part.0.0 v (At (Own n)) s part.0.1)));
  kept = λ n x out here. same n ∙ here;
}

-- two lists with the same elements in all places are one
pub same_elements : {A : Type 0} (xs ys : List A) → ((n : ℕ) → slice_get ys n ≡ slice_get xs n) → ys ≡ xs
same_elements [] [] same = refl
same_elements [] (y ∷ ys) same = absurd (none-some y (sym (same 0)))
same_elements (x ∷ xs) [] same = absurd (none-some x (same 0))
same_elements (x ∷ xs) (y ∷ ys) same = ap (λ z. z ∷ ys) (same_Some y x (same 0)) ∙ ap (λ zs. x ∷ zs) (same_elements xs ys (λ n. same (suc n)))
