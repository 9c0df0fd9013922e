-- Lists of references that are gathered one by one.
use Rattle.std.proofs.Common.{◌≡◌, ◌∙◌, ℕ, zero, suc, List, [], ◌∷◌, ◌++◌, length, map, refl, sym, ap, subst}
use Rattle.std.specs.List.{All}
use Rattle.std.proofs.lemmas.List.Elements.{All-nil, All-push}
use Rattle.rr_space.specs.Graph.{Value, Plain, Nil}
use Rattle.rr_space.specs.Tables.{Table, Below}
use Rattle.rr_space.specs.Parts.{value_of, IsWithin}
use Rattle.rr_space.specs.declared.refer.Ref.{Ref}
use Rattle.rr_space.specs.declared.refer.Ref.TheVariants as ref
use Rattle.rr_space.proofs.Writing.{map_push}
use Rattle.rr_text.specs.Reads.{IsReadWith}
use Rattle.rr_builtin.specs.Acts.{IsRefAmong, nils}

-- the references are these values, lie within the table, and lead to what it or the value leads to
pub record IsGathered (t : Table) (v : Ref) (items : List Ref) (values : List Value) : Type 0 where
  pub are : map value_of items ≡ values
  pub within : All (IsWithin (length t.slots)) items
  pub among : (below : Below) → IsReadWith t below → IsRefAmong below v → All (IsRefAmong below) items

pub gathered_none : (t : Table) (v : Ref) → IsGathered t v [] []
gathered_none t v = record { are = refl; within = All-nil (IsWithin (length t.slots)); among = λ below read among. All-nil (IsRefAmong below) }

pub gathered_more : (t : Table) (v : Ref) (items new : List Ref) (values : List Value) (r : Ref) (x : Value) → IsGathered t v items values → new ≡ items ++ r ∷ [] → value_of r ≡ x → IsWithin (length t.slots) r
    → ((below : Below) → IsReadWith t below → IsRefAmong below v → IsRefAmong below r) → IsGathered t v new (values ++ x ∷ [])
gathered_more t v items new values r x g is value within among = subst (λ (rs : List Ref). IsGathered t v rs (values ++ x ∷ [])) (sym is) (record {
  are = map_push value_of items r ∙ ap (λ y. map value_of items ++ y ∷ []) value ∙ ap (λ vs. vs ++ x ∷ []) g.are;
  within = All-push (IsWithin (length t.slots)) items r g.within within;
  among = λ below read v_among. All-push (IsRefAmong below) items r (g.among below read v_among) (among below read v_among);
})

-- nils that are pushed behind what is there
pub record IsPadded (old items : List Ref) (n : ℕ) : Type 0 where
  pub are : map value_of items ≡ map value_of old ++ nils n
  pub within : (k : ℕ) → All (IsWithin k) old → All (IsWithin k) items
  pub among : (below : Below) → All (IsRefAmong below) old → All (IsRefAmong below) items

nils_push : (n : ℕ) → nils n ++ Plain Nil ∷ [] ≡ nils (suc n)
nils_push zero = refl
nils_push (suc n) = ap (λ vs. Plain Nil ∷ vs) (nils_push n)

pub append_nil : {A : Type 0} (xs : List A) → xs ≡ xs ++ []
append_nil [] = refl
append_nil (x ∷ xs) = ap (λ ys. x ∷ ys) (append_nil xs)

pub append_three : {A : Type 0} (xs ys zs : List A) → (xs ++ ys) ++ zs ≡ xs ++ (ys ++ zs)
append_three [] ys zs = refl
append_three (x ∷ xs) ys zs = ap (λ ws. x ∷ ws) (append_three xs ys zs)

pub padded_none : (old : List Ref) → IsPadded old old 0
padded_none old = record { are = append_nil (map value_of old); within = λ k all. all; among = λ below all. all }

pub padded_more : (old items new : List Ref) (n : ℕ) → IsPadded old items n → new ≡ items ++ ref.Nil ∷ [] → IsPadded old new (suc n)
padded_more old items new n p is = subst (λ (rs : List Ref). IsPadded old rs (suc n)) (sym is) (record {
  are = map_push value_of items ref.Nil ∙ ap (λ vs. vs ++ Plain Nil ∷ []) p.are ∙ append_three (map value_of old) (nils n) (Plain Nil ∷ []) ∙ ap (λ vs. map value_of old ++ vs) (nils_push n);
  within = λ k all. All-push (IsWithin k) items ref.Nil (p.within k all) tt;
  among = λ below all. All-push (IsRefAmong below) items ref.Nil (p.among below all) tt;
})
