-- What follows from what freezing, moving and promoting do to the table of a space.
use Rattle.std.proofs.Common.{◌≡◌, ℕ, suc, ◌+◌, ⊎_elim, true, List, [], ◌∷◌, ◌++◌, slice_get, Contains, refl, ap, sym, ◌∙◌, subst, arith}
use Rattle.std.proofs.lemmas.Option.{same_Some, none-some}
use Rattle.rr_space.specs.Graph.{Graph, Own, Published, Value, Plain, At, Label, Object, Leads}
use Rattle.rr_space.specs.Tables.{IsBelow}
use Rattle.rr_space.specs.Tables.{renamed, behind}
use Rattle.rr_space.specs.Laws.{DeepFreezingKeeps, EmptyingNothing, PromotedIsPublished, ClosedStandsBehind}

frozen_same : (o : Object) → o.frozen ≡ true → record o { frozen = true } ≡ o
frozen_same o f = ap (λ b. record o { frozen = b }) (sym f)

pub deep_freezing_keeps : DeepFreezingKeeps
deep_freezing_keeps v old new n o d at cases = ⊎_elim
    (λ r. (record o { frozen = true }, d.reached n o r at, refl, refl, λ f. frozen_same o f))
    (λ out. (o, d.others n out ∙ at, refl, refl, λ f. refl)) cases

same_lists : {A : Type 0} (xs ys : List A) → ((n : ℕ) → slice_get xs n ≡ slice_get ys n) → xs ≡ ys
same_lists [] [] f = refl
same_lists [] (y ∷ ys) f = absurd (none-some y (f 0))
same_lists (x ∷ xs) [] f = absurd (none-some x (sym (f 0)))
same_lists (x ∷ xs) (y ∷ ys) f = ap (λ z. z ∷ xs) (same_Some x y (f 0)) ∙ ap (λ zs. y ∷ zs) (same_lists xs ys (λ n. f (suc n)))

pub emptying_nothing : EmptyingNothing
emptying_nothing old new e = (
  same_lists new.slots old.slots (λ n. e.slots.others n (none n)),
  same_lists new.below old.below (λ n. e.below.others n (none n)),
  same_lists new.keys old.keys (λ n. e.keys.others n (none n)),
)
  where
    none : (n : ℕ) → Contains {X = ℕ} [] n → ⊥
    none n (i, lt, q) = omega (arith, lt)

leads_append : (g : Graph) (p q : List Label) (v w z : Value) → Leads g v p w → Leads g w q z → Leads g v (p ++ q) z
leads_append g [] q v w z a b = subst (λ x. Leads g x q z) (sym a) b
leads_append g (l ∷ p) q v w z (x, under, rest) b = (x, under, leads_append g p q x w z rest b)

pub promoted_is_published : PromotedIsPublished
promoted_is_published t v n p s r = p n r (λ m o q e. s m o (r.0 ++ q.0, leads_append _ r.0 q.0 _ _ _ r.1 q.1) e)

below_behind : (k len : ℕ) (x : Value) → IsBelow len x → IsBelow (k + len) (renamed (behind k) x)
below_behind k len (Plain i) h = tt
below_behind k len (At (Own i)) h = omega (arith, h)
below_behind k len (At (Published c p)) h = tt

pub closed_stands_behind : ClosedStandsBehind
closed_stands_behind m k n o l x c at has = (below_behind k _ x (c.objects n o l x at has), below_behind k _ m.root c.root)
