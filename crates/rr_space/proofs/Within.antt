-- References that are within a table are within a longer one.
use Rattle.std.proofs.Common.{◌≡◌, ℕ, zero, suc, Bool, ◌≤◌, List, [], ◌∷◌, ◌++◌, length, slice_get, Option, Some, None, IfSome, sym, subst, arith, length-append}
use Rattle.std.specs.Option.{option_map}
use Rattle.std.proofs.lemmas.Option.{same_Some, none-some}
use Rattle.rr_space.specs.Graph.{Label}
use Rattle.rr_space.specs.Labels.{labelled}
use Rattle.rr_space.specs.Parts.{AllSealedWithin}
use Rattle.rr_space.specs.declared.label.Label.{Label as CodeLabel}
use Rattle.rr_space.specs.declared.refer.Sealed.{Sealed}
use Rattle.rr_space.specs.Parts.{Parts, sealed_parts}
use Rattle.rr_space.specs.Views.{IsWithin, AllWithin, IsNodeWithin, IsHeldWithin, AllHeldWithin, node_parts}
use Rattle.rr_space.specs.declared.refer.Ref.{Ref}
use Rattle.rr_space.specs.declared.refer.Ref.TheVariants.{Nil, False, True, Int, Symbol, Class, Ractor, Local, Shared}
use Rattle.rr_space.specs.declared.node.Node.{Node}
use Rattle.rr_space.specs.declared.node.Held.{Held}
use Rattle.rr_space.specs.declared.node.Held.TheVariants.{Whole, Shell, Forward}

module _ (k m : ℕ) (more : k ≤ m) where
  pub ref_later : (r : Ref) → IsWithin k r → IsWithin m r
  ref_later Nil h = tt
  ref_later False h = tt
  ref_later True h = tt
  ref_later (Int z) h = tt
  ref_later (Symbol s) h = tt
  ref_later (Class c) h = tt
  ref_later (Ractor r) h = tt
  ref_later (Local n) h = omega (arith, h, more)
  ref_later (Shared p c) h = h

  parts_later : (ts : Parts) → AllWithin k ts → AllWithin m ts
  parts_later [] h = tt
  parts_later (t ∷ ts) h = (ref_later t.1 h.0, parts_later ts h.1)

  held_later : (h : Held) → IsHeldWithin k h → IsHeldWithin m h
  held_later (Whole frozen node) h = parts_later (node_parts node) h
  held_later Shell h = tt
  held_later (Forward p c) h = h

  pub all_later : (hs : List Held) → AllHeldWithin k hs → AllHeldWithin m hs
  all_later [] h = tt
  all_later (x ∷ hs) h = (held_later x h.0, all_later hs h.1)

pub node_within_later : (k m : ℕ) → k ≤ m → (n : Node) → IsNodeWithin k n → IsNodeWithin m n
node_within_later k m more n h = parts_later k m more (node_parts n) h

pub all_push : (k : ℕ) (hs : List Held) (x : Held) → AllHeldWithin k hs → IsHeldWithin k x → AllHeldWithin k (hs ++ x ∷ [])
all_push k [] x h w = (w, tt)
all_push k (y ∷ hs) x h w = (h.0, all_push k hs x h.1 w)

-- a table with one object more
pub pushed_within : (hs : List Held) (node : Node) (frozen : Bool) → AllHeldWithin (length hs) hs → IsNodeWithin (length hs) node
    → AllHeldWithin (length (hs ++ Whole frozen node ∷ [])) (hs ++ Whole frozen node ∷ [])
pushed_within hs node frozen all new =
    let k = length (hs ++ Whole frozen node ∷ []) in
    let more : length hs ≤ k = omega (arith, length-append hs (Whole frozen node ∷ [])) in
    all_push k hs (Whole frozen node) (all_later (length hs) k more hs all) (node_within_later (length hs) k more node new)

-- a part of an object whose references are within
pub part_within : (m : ℕ) (ts : Parts) (k : ℕ) (r : Option (CodeLabel × Ref)) → AllWithin m ts → option_map labelled r ≡ slice_get ts k → IfSome r (λ p. IsWithin m p.1)
part_within m ts k None all e = tt
part_within m ts k (Some p) all e = there ts k (labelled p) all (sym e)
  where
    there : (ts : Parts) (k : ℕ) (t : Label × Ref) → AllWithin m ts → slice_get ts k ≡ Some t → IsWithin m t.1
    there [] k t all e = absurd (none-some t e)
    there (x ∷ ts) zero t all e = subst (λ (y : Label × Ref). IsWithin m y.1) (same_Some x t e) all.0
    there (x ∷ ts) (suc k) t all e = there ts k t all.1 e

pub sealed_within : (m : ℕ) (ss : List Sealed) (p : ℕ) (s : Sealed) → AllSealedWithin m ss → slice_get ss p ≡ Some s → AllWithin m (sealed_parts s)
sealed_within m [] p s all at = absurd (none-some s at)
sealed_within m (x ∷ ss) zero s all at = subst (λ y. AllWithin m (sealed_parts y)) (same_Some x s at) all.0
sealed_within m (x ∷ ss) (suc p) s all at = sealed_within m ss p s all.1 at
