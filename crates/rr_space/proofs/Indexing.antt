-- An index of the first pairs of a hash, once one more pair is looked at.
use Rattle.std.proofs.Common.{◌≡◌, ◌<◌, ◌≤◌, ◌+◌, inl, inr, ℕ, Bool, true, false, cond, List, [], ◌∷◌, ◌++◌, length, take, slice_get, Option, Some, None, below_more, refl, sym, ap, ◌∙◌, subst, arith}
use Rattle.std.specs.Bool.{Decides}
use Rattle.std.specs.List.{AllZip}
use Rattle.std.specs.Map.{lookup}
use Rattle.std.proofs.lemmas.List.{take_more}
use Rattle.indexmap.proofs.SetLemmas.{AllZip-push}
use Rattle.std.proofs.lemmas.Bool.{false≢true}
use Rattle.std.proofs.lemmas.Option.{same_Some, none-some, slice_get_within, get_or_from_slice_get}
use Rattle.rr_space.specs.Graph.{Object}
use Rattle.rr_space.specs.Tables.{HashKey}
use Rattle.rr_space.specs.Views.{key_of}
use Rattle.rr_space.specs.Indexes.{name_key, IsNamed, IsFirstNamed, IsIndexOf, IsKeptFirst}
use Rattle.rr_space.specs.declared.node.Key.{Key}
use Rattle.rr_space.specs.declared.refer.Ref.{Ref}
use Rattle.rr_space.proofs.Keys.{key_eq, keys_decide}
use Rattle.rr_space.proofs.Sounds.{gets}

module _ (own : List Object) (ps : List (Ref × Ref)) where
  more : (k : ℕ) (h : HashKey) (found : Option ℕ) → IsFirstNamed own ps k h found → (found ≡ None → IsNamed own ps h k → ⊥) → IsFirstNamed own ps (k + 1) h found
  more k h None f out = below_more _ _ f (out refl)
  more k h (Some i) (lt, named, before) out = (omega (arith, lt), named, before)

  pub nothing_yet : IsIndexOf own ps 0 []
  nothing_yet = λ key i lt named. absurd (let w : ⊥ = omega (arith, lt) in w)

  -- a pair without a key
  pub passed : (k : ℕ) (es : List (Key × ℕ)) (p : Ref × Ref) → slice_get ps k ≡ Some p → name_key own p.0 ≡ None → IsIndexOf own ps k es → IsIndexOf own ps (k + 1) es
  passed k es p at none index = λ q. more k (key_of q) (lookup (key_eq q) es) (index q) (λ _ n.
      none-some (key_of q) (sym none ∙ ap (λ (x : Ref × Ref). name_key own x.0) (same_Some p n.0 (sym at ∙ n.1)) ∙ n.2))

  module _ (k : ℕ) (es : List (Key × ℕ)) (p : Ref × Ref) (key : Key) (at : slice_get ps k ≡ Some p) (named : name_key own p.0 ≡ Some (key_of key)) (index : IsIndexOf own ps k es) where
    -- the pair has one key
    one : (h : HashKey) → IsNamed own ps h k → key_of key ≡ h
    one h n = same_Some (key_of key) h (sym named ∙ ap (λ (x : Ref × Ref). name_key own x.0) (same_Some p n.0 (sym at ∙ n.1)) ∙ n.2)

    was_there : (j : ℕ) → lookup (key_eq key) es ≡ Some j → IsIndexOf own ps (k + 1) es
    was_there j has = λ q. more k (key_of q) (lookup (key_eq q) es) (index q) (λ none n.
        let first = subst (IsFirstNamed own ps k (key_of key)) has (index key) in
        let out = subst (IsFirstNamed own ps k (key_of q)) none (index q) in
        out j first.0 (subst (λ h. IsNamed own ps h j) (one (key_of q) n) first.1))

    is_new : (q : Key) (b : Bool) → Decides b (key_of key ≡ key_of q) → lookup (key_eq key) es ≡ None → IsFirstNamed own ps (k + 1) (key_of q) (cond b (Some k) (lookup (key_eq q) es))
    is_new q true says none =
        let same = says.0 refl in
        let out = subst (IsFirstNamed own ps k (key_of key)) none (index key) in
        (omega arith, (p, at, named ∙ ap (λ h. Some h) same), λ j lt n. out j lt (subst (λ h. IsNamed own ps h j) (sym same) n))
    is_new q false says none = more k (key_of q) (lookup (key_eq q) es) (index q) (λ _ n. false≢true (says.1 (one (key_of q) n)))

    pub noted : (fs : List (Key × ℕ)) → IsKeptFirst es fs key k → IsIndexOf own ps (k + 1) fs
    noted fs (inl (j, has, same)) = subst (IsIndexOf own ps (k + 1)) (sym same) (was_there j has)
    noted fs (inr (none, new)) = λ q. subst (IsFirstNamed own ps (k + 1) (key_of q)) (sym (new q)) (is_new q (key_eq key q) (keys_decide key q) none)

  -- no pair stands past the end
  pub enough : (k : ℕ) (es : List (Key × ℕ)) → length ps ≤ k → IsIndexOf own ps k es → IsIndexOf own ps (length ps) es
  enough k es past index = λ q. by (lookup (key_eq q) es) (key_of q) (index q)
    where
      by : (found : Option ℕ) (h : HashKey) → IsFirstNamed own ps k h found → IsFirstNamed own ps (length ps) h found
      by None h f = λ i lt n. f i (omega (arith, lt, past)) n
      by (Some i) h (lt, n, before) = (slice_get_within ps i n.0 n.1, n, before)

-- lists that agree place by place, once each has one more
pub zip_more : {A B : Type 0} (R : A → B → Type 0) (xs : List A) (ys : List B) (i : ℕ) (y : B) → i < length xs → AllZip R (take i xs) ys → ((x : A) → slice_get xs i ≡ Some x → R x y) → AllZip R (take (i + 1) xs) (ys ++ y ∷ [])
zip_more {A} R xs ys i y lt z at = by (gets xs i lt)
  where
    by : (x : A) × (slice_get xs i ≡ Some x) → AllZip R (take (i + 1) xs) (ys ++ y ∷ [])
    by (x, e) = subst (λ l. AllZip R l (ys ++ y ∷ [])) (sym (take_more xs i x lt ∙ ap (λ a. take i xs ++ a ∷ []) (get_or_from_slice_get xs i x x e))) (AllZip-push R (take i xs) ys x y z (at x e))
