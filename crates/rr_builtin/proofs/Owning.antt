-- Hashes of the space, and what they have under a key.
use Rattle.std.proofs.Common.{◌≡◌, ◌∙◌, ℕ, true, Option, Some, None, refl, sym, ap}
use Rattle.std.proofs.lemmas.Bool.{false≢true, and_parts}
use Rattle.rr_space.specs.Tables.{Table, Below, HashKey}
use Rattle.rr_space.specs.Kinds.{kind_at}
use Rattle.rr_space.specs.Views.{can_freeze_at}
use Rattle.rr_space.specs.declared.kind.Kind.{Kind}
use Rattle.rr_space.specs.declared.kind.Kind.TheVariants as kind
use Rattle.rr_space.specs.declared.refer.Ref.{Ref}
use Rattle.rr_text.specs.Keys.{pair_with}
use Rattle.rr_builtin.specs.Hashes.{key_given}
use Rattle.rr_builtin.specs.Kinds.{is_hash}
use Rattle.rr_builtin.specs.Rounds.{found, value_found, value_under, pair_read, pair_at, is_own_hash}

hash_is : (k : Kind) → is_hash k ≡ true → k ≡ kind.Hash
hash_is kind.Hash e = refl
hash_is kind.Nil e = absurd (false≢true e)
hash_is kind.Truth e = absurd (false≢true e)
hash_is kind.Integer e = absurd (false≢true e)
hash_is kind.Symbol e = absurd (false≢true e)
hash_is kind.Class e = absurd (false≢true e)
hash_is kind.Ractor e = absurd (false≢true e)
hash_is kind.Text e = absurd (false≢true e)
hash_is kind.Array e = absurd (false≢true e)
hash_is kind.Object e = absurd (false≢true e)
hash_is kind.Exception e = absurd (false≢true e)
hash_is kind.Shell e = absurd (false≢true e)

own_kind : (t : Table) (v : Ref) → is_own_hash t v ≡ true → kind_at t v ≡ kind.Hash
own_kind t v own = hash_is (kind_at t v) (and_parts (can_freeze_at t v) (is_hash (kind_at t v)) own).1

-- what a hash has under a key
pub own_under : (t : Table) (v a : Ref) (below : Below) (key : HashKey) (place : Option ℕ) → is_own_hash t v ≡ true → Some key ≡ key_given t a → place ≡ pair_with below t v key
    → found (value_found t v place) ≡ pair_at below t v a
own_under t v a below key place own given is =
    ap (λ o. found (value_found t v o)) is ∙ ap (λ o. found (value_under below t v o)) given
    ∙ ap (λ k. pair_read k (value_under below t v (key_given t a))) (sym (own_kind t v own))

-- what is no key has nothing under it
pub none_under : (t : Table) (v a : Ref) (below : Below) → is_own_hash t v ≡ true → None ≡ key_given t a → found None ≡ pair_at below t v a
none_under t v a below own given =
    ap (λ o. found (value_under below t v o)) given ∙ ap (λ k. pair_read k (value_under below t v (key_given t a))) (sym (own_kind t v own))
