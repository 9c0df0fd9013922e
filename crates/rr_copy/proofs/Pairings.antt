-- Two graphs in which pairs of objects match are alike.
use Rattle.std.proofs.Common.{◌≡◌, ℕ, Some, sym, ◌∙◌, subst}
use Rattle.std.proofs.lemmas.Option.{same_Some}
use Rattle.rr_space.specs.Graph.{Graph, Own, Value, Object, IsPart}
use Rattle.rr_space.specs.Graph.{SameValue, Matches, Alike}
use Rattle.rr_space.specs.Tables.{IsSealed}
use Rattle.rr_space.proofs.Copies.{paired_alike}

-- P pairs objects one to one, each on the left is of the part of v, paired objects match, and so do the roots
pub record IsObjectPairing (g : Graph) (v : Value) (h : Graph) (w : Value) (P : ℕ → ℕ → Type 0) : Type 0 where
  pub left_sealed : IsSealed g
  pub right_sealed : IsSealed h
  pub roots : SameValue P v w
  pub same : (n m : ℕ) → P n m → (o : Object) × (p : Object) × (g (Own n) ≡ Some o) × (h (Own m) ≡ Some p) × Matches P o p
  pub part : (n m : ℕ) → P n m → IsPart g v (Own n)
  pub one_left : (n m k : ℕ) → P n m → P n k → m ≡ k
  pub one_right : (n k m : ℕ) → P n m → P k m → n ≡ k

pub paired_objects_alike : (g : Graph) (v : Value) (h : Graph) (w : Value) (P : ℕ → ℕ → Type 0) → IsObjectPairing g v h w P → Alike g v h w P
paired_objects_alike g v h w P c = paired_alike g v h w P (record {
  left_sealed = c.left_sealed;
  right_sealed = c.right_sealed;
  roots = c.roots;
  there = λ n m o r e. let s = c.same n m r in (s.1, s.3, subst (λ x. Matches P x s.1) (same_Some s.0 o (sym s.2 ∙ e)) s.4);
  back = λ n m p r e. let s = c.same n m r in (s.0, s.2, subst (λ x. Matches P s.0 x) (same_Some s.1 p (sym s.3 ∙ e)) s.4);
  part = c.part;
  one_left = c.one_left;
  one_right = c.one_right;
})
