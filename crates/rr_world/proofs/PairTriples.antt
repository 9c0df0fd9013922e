-- The pairs of a hash: what setting and deleting one does to its triples.
use Rattle.std.proofs.Common.{◌≡◌, ℕ, zero, suc, ◌+◌, ◌*◌, ◌<◌, ◌⊎◌, ⊎_elim, inl, inr, List, [], ◌∷◌, ◌++◌, length, map, Option, Some, None, slice_get, Contains, sym, ap, ◌∙◌, subst, refl, arith}
use Rattle.std.specs.Prelude.{remove, slice_set, MatchOption}
use Rattle.std.proofs.lemmas.List.{length-map, map-append}
use Rattle.std.proofs.lemmas.List.Elements.{Contains-append_cases}
use Rattle.std.proofs.lemmas.Option.{none-some, same_Some, slice_get_within}
use Rattle.rr_space.specs.Graph.{Name, Value, Label, KeyAt, ValueAt, Object, hash}
use Rattle.rr_space.specs.Tables.{Table, Here, HashKey, renamed, renamed_triple}
use Rattle.rr_space.specs.Parts.{value_of}
use Rattle.rr_space.specs.Readings.{Owner, Naming, named, name_in}
use Rattle.rr_space.specs.Sound.{IsWell}
use Rattle.rr_space.specs.Views.{IsFirstAt, keys_at, keys_here, paired_from}
use Rattle.rr_space.specs.declared.refer.Ref.{Ref}
use Rattle.rr_space.specs.declared.refer.Ref.TheVariants.{Local}
use Rattle.rr_space.proofs.Removing.{map_remove}
use Rattle.rr_space.proofs.Renaming.{contains_at}
use Rattle.rr_space.proofs.Sounds.{gets, none_in, in_first}
use Rattle.rr_world.specs.Enabling.{IsOpen, HasPair, HasPairs}
use Rattle.rr_world.specs.ObjectCases.{with_value, with_pair, without_pair, pairs_of}
use Rattle.rr_world.specs.Readings.{root_in}
use Rattle.rr_world.proofs.Making.{map_set, set_values}
use Rattle.rr_world.proofs.Taking.{in_rest, later}

-- the keys of a hash, two triples for each
pub hash_keys : (t : Table) (v : Ref) (n : ℕ) (o : Object) → IsWell t → v ≡ Local n → slice_get t.slots n ≡ Some (Here o) → o.kind ≡ hash
    → (ks : List HashKey) × (slice_get t.keys n ≡ Some ks) × (keys_at t v ≡ Some ks) × (length o.triples ≡ 2 * length ks)
hash_keys t v n o well is here kind =
    let x = gets t.keys n (let lt = slice_get_within t.slots n (Here o) here in omega (arith, lt, well.keyed.count)) in
    (x.0, x.1, ap (keys_at t) is ∙ ap (λ s. keys_here s (slice_get t.keys n)) here ∙ x.1, well.keyed.pairs n o x.0 here x.1 kind)

-- what stands in the slots, and the keys, once a pair of the key is set: it got a value, or it came behind all
abbrev pub IsValueIn : Table → Table → ℕ → Object → List HashKey → HashKey → Ref → Type 0
IsValueIn a b n o ks key v = (i : ℕ) × (slice_get ks i ≡ Some key) × HasPair i o × (b.slots ≡ slice_set a.slots n (Here (with_value i (value_of v) o))) × (b.keys ≡ a.keys)

abbrev pub IsBehindIn : Table → Table → ℕ → Object → List HashKey → HashKey → Ref → Ref → Type 0
IsBehindIn a b n o ks key r v = (Contains ks key → ⊥) × HasPairs (length ks) o × (b.slots ≡ slice_set a.slots n (Here (with_pair (length ks) (value_of r) (value_of v) o))) × (b.keys ≡ slice_set a.keys n (ks ++ key ∷ []))

pub pair_written : (a b : Table) (r v : Ref) (n : ℕ) (o : Object) (ks : List HashKey) (key : HashKey) (place : Option ℕ) → IsOpen hash o → length o.triples ≡ 2 * length ks
    → MatchOption place (Contains ks key → ⊥) (IsFirstAt ks key)
    → ((i : ℕ) → IsFirstAt ks key i → (b.slots ≡ slice_set a.slots n (Here (with_value i (value_of v) o))) × (b.keys ≡ a.keys))
    → ((Contains ks key → ⊥) → (b.slots ≡ slice_set a.slots n (Here (with_pair (length ks) (value_of r) (value_of v) o))) × (b.keys ≡ slice_set a.keys n (ks ++ key ∷ [])))
    → IsValueIn a b n o ks key v ⊎ IsBehindIn a b n o ks key r v
pair_written a b r v n o ks key (Some i) opened many first present absent =
    let now = present i first in
    inl (i, first.here, (opened, let lt = slice_get_within ks i key first.here in omega (arith, lt, many)), now.0, now.1)
pair_written a b r v n o ks key None opened many none present absent = let now = absent none in inr (none, (opened, many), now.0, now.1)

-- an object stands in the slot then
pub pair_object : (a b : Table) (n : ℕ) (o : Object) (ks : List HashKey) (key : HashKey) (r v : Ref) → IsValueIn a b n o ks key v ⊎ IsBehindIn a b n o ks key r v → (p : Object) × (b.slots ≡ slice_set a.slots n (Here p))
pair_object a b n o ks key r v (inl z) = (with_value z.0 (value_of v) o, z.3)
pair_object a b n o ks key r v (inr z) = (with_pair (length ks) (value_of r) (value_of v) o, z.2)

-- names do not matter to which pair is set
pub value_same : (names : Naming) (h : Owner) (i : ℕ) (v : Ref) (o : Object) → named names h (with_value i (value_of v) o) ≡ with_value i (root_in names h v) (named names h o)
value_same names h i v o = ap (λ ts. let x : Object = record o { triples = ts } in x) (map_set (renamed_triple (name_in names h)) o.triples (2 * i + 1) (ValueAt i, value_of v))

pub pair_same : (names : Naming) (h : Owner) (n : ℕ) (r v : Ref) (o : Object) → named names h (with_pair n (value_of r) (value_of v) o) ≡ with_pair n (root_in names h r) (root_in names h v) (named names h o)
pair_same names h n r v o = ap (λ ts. let x : Object = record o { triples = ts } in x) (map-append (renamed_triple (name_in names h)) o.triples ((KeyAt n, value_of r) ∷ (ValueAt n, value_of v) ∷ []))

pub has_pair_on : (names : Naming) (h : Owner) (i : ℕ) (o : Object) → HasPair i o → HasPair i (named names h o)
has_pair_on names h i o (opened, lt) = (opened, omega (arith, lt, length-map o.triples (renamed_triple (name_in names h))))

pub has_pair_back : (names : Naming) (h : Owner) (i : ℕ) (o : Object) → HasPair i (named names h o) → HasPair i o
has_pair_back names h i o (opened, lt) = (opened, omega (arith, lt, length-map o.triples (renamed_triple (name_in names h))))

pub has_pairs_on : (names : Naming) (h : Owner) (n : ℕ) (o : Object) → HasPairs n o → HasPairs n (named names h o)
has_pairs_on names h n o (opened, e) = (opened, omega (arith, e, length-map o.triples (renamed_triple (name_in names h))))

-- each value of a hash with a pair set was there, or is the key or the value
pub set_value_in : (i : ℕ) (r v : Ref) (o : Object) (l : Label) (x : Value) → Contains (with_value i (value_of v) o).triples (l, x) → ((j : Label) × Contains o.triples (j, x)) ⊎ ((u : Ref) × Contains (r ∷ v ∷ []) u × (x ≡ value_of u))
set_value_in i r v o l x has = ⊎_elim (λ old. inl old) (λ new. inr (v, contains_at (r ∷ v ∷ []) 1 v refl, new)) (set_values o.triples (2 * i + 1) (ValueAt i, value_of v) l x has)

pub pair_value_in : (n : ℕ) (r v : Ref) (o : Object) (l : Label) (x : Value) → Contains (with_pair n (value_of r) (value_of v) o).triples (l, x) → ((j : Label) × Contains o.triples (j, x)) ⊎ ((u : Ref) × Contains (r ∷ v ∷ []) u × (x ≡ value_of u))
pair_value_in n r v o l x has = ⊎_elim
    (λ old. inl (l, old))
    (λ new. ⊎_elim
    (λ key. inr (r, contains_at (r ∷ v ∷ []) 0 r refl, sym (ap (λ (t : Label × Value). t.1) key)))
    (λ last. ⊎_elim (λ one. inr (v, contains_at (r ∷ v ∷ []) 1 v refl, sym (ap (λ (t : Label × Value). t.1) one))) (λ none. absurd (none_in (l, x) none)) (in_first (ValueAt n, value_of v) [] (l, x) last))
    (in_first (KeyAt n, value_of r) ((ValueAt n, value_of v) ∷ []) (l, x) new))
    (Contains-append_cases o.triples ((KeyAt n, value_of r) ∷ (ValueAt n, value_of v) ∷ []) (l, x) has)

pub both : (P : Ref → Type 0) (r v : Ref) → P r → P v → (u : Ref) → Contains (r ∷ v ∷ []) u → P u
both P r v p q u has = ⊎_elim
    (λ one. subst P one p)
    (λ last. ⊎_elim (λ one. subst P one q) (λ none. absurd (none_in u none)) (in_first v [] u last))
    (in_first r (v ∷ []) u has)

-- ---- The pairs of a hash, by their places.

-- a pair's key object stands at twice its place
pub pairs_at : (ts : List (Label × Value)) (i : ℕ) (p : Value × Value) → slice_get (pairs_of ts) i ≡ Some p → (l : Label) × (slice_get ts (2 * i) ≡ Some (l, p.0)) × (2 * i + 1 < length ts)
pairs_at [] i p e = absurd (none-some p e)
pairs_at (k ∷ []) i p e = absurd (none-some p e)
pairs_at (k ∷ v ∷ ts) zero p e = (k.0, ap (λ x. Some (k.0, x)) (ap (λ (q : Value × Value). q.0) (same_Some (k.1, v.1) p e)), omega arith)
pairs_at (k ∷ v ∷ ts) (suc i) p e =
    let z = pairs_at ts i p e in
    (z.0, ap (slice_get (k ∷ v ∷ ts)) (let w : 2 * suc i ≡ suc (suc (2 * i)) = omega arith in w) ∙ z.1, let lt = z.2 in omega (arith, lt))

pub pairs_there : (ts : List (Label × Value)) (i : ℕ) → 2 * i + 1 < length ts → (p : Value × Value) × (slice_get (pairs_of ts) i ≡ Some p)
pairs_there [] i lt = absurd (let w : ⊥ = omega (arith, lt) in w)
pairs_there (k ∷ []) i lt = absurd (let w : ⊥ = omega (arith, lt) in w)
pairs_there (k ∷ v ∷ ts) zero lt = ((k.1, v.1), refl)
pairs_there (k ∷ v ∷ ts) (suc i) lt = pairs_there ts i (omega (arith, lt))

-- ---- A pair goes.

abbrev pub pair_renamed : (Name → Name) → Value × Value → Value × Value
pair_renamed f p = (renamed f p.0, renamed f p.1)

paired_renamed : (f : Name → Name) (k : ℕ) (ps : List (Value × Value)) → map (renamed_triple f) (paired_from k ps) ≡ paired_from k (map (pair_renamed f) ps)
paired_renamed f k [] = refl
paired_renamed f k (p ∷ ps) = ap (λ ts. (KeyAt k, renamed f p.0) ∷ (ValueAt k, renamed f p.1) ∷ ts) (paired_renamed f (k + 1) ps)

pub pairs_renamed : (f : Name → Name) (ts : List (Label × Value)) → map (pair_renamed f) (pairs_of ts) ≡ pairs_of (map (renamed_triple f) ts)
pairs_renamed f [] = refl
pairs_renamed f (k ∷ []) = refl
pairs_renamed f (k ∷ v ∷ ts) = ap (λ ps. (renamed f k.1, renamed f v.1) ∷ ps) (pairs_renamed f ts)

-- names do not matter to which pair goes
pub without_pair_same : (names : Naming) (h : Owner) (i : ℕ) (o : Object) → named names h (without_pair i o) ≡ without_pair i (named names h o)
without_pair_same names h i o =
    let f = name_in names h in
    ap (λ ts. let p : Object = record o { triples = ts } in p) (paired_renamed f 0 (remove (pairs_of o.triples) i)
    ∙ ap (paired_from 0) (map_remove (pair_renamed f) (pairs_of o.triples) i ∙ ap (λ ps. remove ps i) (pairs_renamed f o.triples)))

in_paired : (k : ℕ) (ps : List (Value × Value)) (l : Label) (x : Value) → Contains (paired_from k ps) (l, x) → (p : Value × Value) × Contains ps p × ((p.0 ≡ x) ⊎ (p.1 ≡ x))
in_paired k [] l x has = absurd (none_in (l, x) has)
in_paired k (p ∷ ps) l x has = ⊎_elim
    (λ key. (p, contains_at (p ∷ ps) 0 p refl, inl (ap (λ (t : Label × Value). t.1) key)))
    (λ more. ⊎_elim
    (λ value. (p, contains_at (p ∷ ps) 0 p refl, inr (ap (λ (t : Label × Value). t.1) value)))
    (λ old. let z = in_paired (k + 1) ps l x old in (z.0, later p ps z.0 z.1, z.2))
    (in_first (ValueAt k, p.1) (paired_from (k + 1) ps) (l, x) more))
    (in_first (KeyAt k, p.0) ((ValueAt k, p.1) ∷ paired_from (k + 1) ps) (l, x) has)

in_pairs : (ts : List (Label × Value)) (p : Value × Value) → Contains (pairs_of ts) p → ((j : Label) × Contains ts (j, p.0)) × ((j : Label) × Contains ts (j, p.1))
in_pairs [] p has = absurd (none_in p has)
in_pairs (k ∷ []) p has = absurd (none_in p has)
in_pairs (k ∷ v ∷ ts) p has = ⊎_elim
    (λ one. (
      (k.0, subst (λ (q : Value × Value). Contains (k ∷ v ∷ ts) (k.0, q.0)) one (contains_at (k ∷ v ∷ ts) 0 k refl)),
      (v.0, subst (λ (q : Value × Value). Contains (k ∷ v ∷ ts) (v.0, q.1)) one (contains_at (k ∷ v ∷ ts) 1 v refl)),
    ))
    (λ old. let z = in_pairs ts p old in ((z.0.0, later k (v ∷ ts) (z.0.0, p.0) (later v ts (z.0.0, p.0) z.0.1)), (z.1.0, later k (v ∷ ts) (z.1.0, p.1) (later v ts (z.1.0, p.1) z.1.1))))
    (in_first (k.1, v.1) (pairs_of ts) p has)

-- each value that is left was there
pub left_pair_values : (o : Object) (i : ℕ) (l : Label) (x : Value) → Contains (without_pair i o).triples (l, x) → (j : Label) × Contains o.triples (j, x)
left_pair_values o i l x has =
    let z = in_paired 0 (remove (pairs_of o.triples) i) l x has in
    let q = in_pairs o.triples z.0 (in_rest (pairs_of o.triples) i z.0 z.1) in
    ⊎_elim (λ e. (q.0.0, subst (λ y. Contains o.triples (q.0.0, y)) e q.0.1)) (λ e. (q.1.0, subst (λ y. Contains o.triples (q.1.0, y)) e q.1.1)) z.2

pairs_paired : (k : ℕ) (ps : List (Value × Value)) → pairs_of (paired_from k ps) ≡ ps
pairs_paired k [] = refl
pairs_paired k (p ∷ ps) = ap (λ qs. p ∷ qs) (pairs_paired (k + 1) ps)

-- what the space has then
pub pair_taken_is : (o : Object) (ps : List (Value × Value)) (i : ℕ) → o.triples ≡ paired_from 0 ps → record o { triples = paired_from 0 (remove ps i) } ≡ without_pair i o
pair_taken_is o ps i e = ap (λ qs. let p : Object = record o { triples = paired_from 0 (remove qs i) } in p) (sym (ap pairs_of e ∙ pairs_paired 0 ps))
