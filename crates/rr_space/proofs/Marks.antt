-- Marks that spread backwards from what is not solid tell what is shareable.
use Rattle.std.proofs.Common.{◌≡◌, ℕ, List, [], ◌∷◌, Contains, Some, ⊎_elim, subst, sym}
use Rattle.rr_space.specs.Graph.{Graph, Name, Own, Published, Label, Value, At, Object, Leads, IsShareable}
use Rattle.rr_space.specs.Tables.{IsPublished}
use Rattle.rr_space.specs.Laws.{Marked, MarksDecide}

module _ (g : Graph) (found marked : List ℕ) (h : Marked g found marked) where
  -- a step from an unmarked object ends at an unmarked one, or leaves the slots
  unmarked_step : (n : Name) (o : Object) (v x : Value) (l : Label) → ((k : ℕ) → v ≡ At (Own k) → Contains found k × (Contains marked k → ⊥)) → v ≡ At n → g n ≡ Some o
      → Contains o.triples (l, x) → (k : ℕ) → x ≡ At (Own k) → Contains found k × (Contains marked k → ⊥)
  unmarked_step (Own n) o v x l root is here has k e =
      let t = subst (λ w. Contains o.triples (l, w)) e has in
      (h.closed n k o l (root n is).0 here t, λ bad. (root n is).1 (h.back n k o l (root n is).0 here t bad))
  unmarked_step (Published c p) o v x l root is here has k e = absurd (subst IsPublished e (h.sealed.shut c p o l x here has))

  -- a path from an unmarked object ends at an unmarked one, or leaves the slots
  unmarked_on : (path : List Label) (v : Value) (m : ℕ) → ((k : ℕ) → v ≡ At (Own k) → Contains found k × (Contains marked k → ⊥)) → Leads g v path (At (Own m))
      → Contains found m × (Contains marked m → ⊥)
  unmarked_on [] v m root e = root m e
  unmarked_on (l ∷ path) v m root (x, (n, o, is, here, has), rest) = unmarked_on path x m (unmarked_step n o v x l root is here has) rest

  same_own : (n k : ℕ) → At (Own n) ≡ At (Own k) → n ≡ k
  same_own n k e = cc

  shareable_unmarked : (n : ℕ) → Contains found n → (Contains marked n → ⊥) → IsShareable g (At (Own n))
  shareable_unmarked n has clear (Published c p) o reach here = h.sealed.solid c p o here
  shareable_unmarked n has clear (Own m) o reach here =
      let q = unmarked_on reach.0 (At (Own n)) m (λ k e. (subst (Contains found) (same_own n k e) has, λ bad. clear (subst (Contains marked) (sym (same_own n k e)) bad))) reach.1 in
      ⊎_elim (λ s. s) (λ bad. absurd (q.1 bad)) (h.decides m o q.0 here)

pub marks_decide : MarksDecide
marks_decide g found marked n h has = (
  shareable_unmarked g found marked h n has,
  λ bad all. let s = h.sound n bad in s.4 (all (Own s.0) s.1 s.2 s.3),
)
