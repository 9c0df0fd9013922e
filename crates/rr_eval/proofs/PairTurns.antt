-- Keys of hashes, as they are gathered and visited.
use Rattle.std.proofs.Common.{◌≡◌, ◌∙◌, ◌<◌, ◌≤◌, ◌+◌, ◌*◌, ℕ, zero, suc, sym, ap, subst, refl, arith, drop, get_or, length, map, List, [], ◌∷◌, ◌++◌}
use Rattle.std.specs.List.{All}
use Rattle.std.proofs.lemmas.List.Elements.{All-append}
use Rattle.rr_space.specs.Tables.{Table}
use Rattle.rr_space.specs.Labels.{triples_at}
use Rattle.rr_space.specs.declared.refer.Ref.{Ref}
use Rattle.rr_text.specs.Keys.{pairs_in}
use Rattle.rr_builtin.specs.Acts.{element_at}
use Rattle.rr_builtin.specs.Elements.{half_of, names_of_hash}
use Rattle.rr_eval.specs.View.{View}
use Rattle.rr_eval.specs.Within.{Reach, AreReached, IsReached}
use Rattle.rr_builtin.proofs.Listing.{pairs_next, pairs_end, map_drop}

-- the keys from one on are that key and those behind it
pub keys_next : (t : Table) (v : Ref) (n : ℕ) → 2 * n + 1 < length (triples_at t v) → drop n (names_of_hash t v) ≡ element_at t v (2 * n) ∷ drop (suc n) (names_of_hash t v)
keys_next t v n lt =
    let pairs = pairs_in (triples_at t v) in
    sym (map_drop (half_of 0) pairs n) ∙ ap (map (half_of 0)) (pairs_next (triples_at t v) n lt) ∙ ap (λ xs. element_at t v (2 * n) ∷ xs) (map_drop (half_of 0) pairs (suc n))

-- and there are no more
pub keys_end : (t : Table) (v : Ref) (n : ℕ) → length (triples_at t v) ≤ 2 * n + 1 → drop n (names_of_hash t v) ≡ []
keys_end t v n le =
    sym (map_drop (half_of 0) (pairs_in (triples_at t v)) n) ∙ ap (map (half_of 0)) (pairs_end (triples_at t v) n le)

-- values from a place on are the one there and those behind it
pub drop_next : (vs : List Ref) (n : ℕ) (d : Ref) → n < length vs → drop n vs ≡ get_or vs n d ∷ drop (suc n) vs
drop_next [] n d lt = absurd (let no : ⊥ = omega (arith, lt) in no)
drop_next (v ∷ vs) zero d lt = refl
drop_next (v ∷ vs) (suc n) d lt = drop_next vs n d (omega (arith, lt))

pub drop_end : (vs : List Ref) (n : ℕ) → length vs ≤ n → drop n vs ≡ []
drop_end [] zero le = refl
drop_end [] (suc n) le = refl
drop_end (v ∷ vs) zero le = absurd (let no : ⊥ = omega (arith, le) in no)
drop_end (v ∷ vs) (suc n) le = drop_end vs n (omega (arith, le))

-- more values are held
pub with_values : (k : Reach) (m : View) (held vs : List Ref) → held ≡ m.held ++ vs → AreReached k m → All (IsReached k) vs → AreReached k (record m { held = held })
unfolding AreReached
with_values k m held vs e h values = record { control = h.control; frames = h.frames; held = subst (All (IsReached k)) (sym e) (All-append (IsReached k) m.held vs h.held values); calls = h.calls; rescuing = h.rescuing }
