-- The values of containers that are compared, as a space tells them.
use Rattle.std.proofs.Common.{append_assoc, drop, ◌≤◌, ◌≡◌, ℕ, ◌+◌, ◌*◌, ◌<◌, Bool, true, false, ◌||◌, nat_eq, List, [], ◌∷◌, ◌++◌, map, length, slice_get, Option, Some, None, Result, Ok, Err, IfOk, refl, ap, sym, ◌∙◌, arith, eq-eqb, if◌then◌else◌}
use Rattle.std.specs.List.{zip}
use Rattle.std.specs.Option.{option_map}
use Rattle.std.proofs.lemmas.Bool.{eqb-true}
use Rattle.std.proofs.lemmas.List.{length-map}
use Rattle.std.proofs.lemmas.Option.{slice_get-map}
use Rattle.rr_space.specs.Graph.{Published, Value, Label, Object}
use Rattle.rr_space.specs.Lookups.{key_at}
use Rattle.rr_space.specs.Tables.{HashKey, Slot, Below, Table, resolve, resolve_slot, resolve_triple, resolve_object, graph_of}
use Rattle.rr_space.specs.Sound.{IsTableSound}
use Rattle.rr_space.specs.Parts.{value_of, bytes_of}
use Rattle.rr_space.specs.Views.{object_at, text_at}
use Rattle.rr_space.specs.Kinds.{object_kind, kind_at}
use Rattle.rr_space.specs.Labels.{triples_of, triples_at}
use Rattle.rr_space.specs.declared.refer.Ref.{Ref}
use Rattle.rr_space.specs.declared.refer.Ref.TheVariants.{Nil, False, True, Int, Symbol, Class, Ractor, Local, Shared}
use Rattle.rr_text.specs.Reads.{IsAmong, IsReadWith}
use Rattle.rr_text.specs.Walk.{Wrote, Leaf}
use Rattle.rr_text.specs.Same.{same_value, kind_in, bytes_in, triples_in}
use Rattle.rr_text.specs.Keys.{pairs_in, pair_with, reading}
use Rattle.rr_text.specs.Comparing.{Pair, likeness, text_likeness, array_likeness, hash_likeness, other_likeness, text_if, value_or_none, value_in, values_in, all_rows, all_there, beside, equal_in, value_with, value_under, matches, all_matches, look_like, look_pair}
use Rattle.rr_text.specs.Beside.{equal_at, values_of, resolved}
use Rattle.rr_space.specs.declared.kind.Kind.{Kind}
use Rattle.rr_space.specs.declared.kind.Kind.TheVariants as kind
use Rattle.rr_text.specs.declared.likeness.Likeness.{Likeness}
use Rattle.rr_text.specs.declared.likeness.Likeness.TheVariants.{Hashes}
use Rattle.rr_text.specs.declared.beside.Sides.{Sides}
use Rattle.rr_text.proofs.Finding.{key_seen}
use Rattle.rr_text.proofs.Fronts.{values_next, values_end, pairs_next, pairs_end}
use Rattle.rr_text.proofs.Seeing.{seen}

-- ---- What a space tells of a reference is what the graph has there.

kind_resolved : (slots : List Slot) (o : Option Object) → object_kind (option_map (resolve_object slots) o) ≡ object_kind o
kind_resolved slots None = refl
kind_resolved slots (Some o) = refl

bytes_resolved : (slots : List Slot) (o : Option Object) → bytes_of (option_map (resolve_object slots) o) ≡ bytes_of o
bytes_resolved slots None = refl
bytes_resolved slots (Some o) = refl

triples_resolved : (slots : List Slot) (o : Option Object) → triples_of (option_map (resolve_object slots) o) ≡ map (resolve_triple slots) (triples_of o)
triples_resolved slots None = refl
triples_resolved slots (Some o) = refl

module _ (t : Table) (below : Below) (sound : IsTableSound t.slots t.below) (read : IsReadWith t below) where
  pub kind_told : (r : Ref) → IsAmong below r → kind_in (graph_of t.slots below) (resolve t.slots (value_of r)) ≡ kind_at t r
  kind_told Nil among = refl
  kind_told False among = refl
  kind_told True among = refl
  kind_told (Int z) among = refl
  kind_told (Symbol s) among = refl
  kind_told (Class c) among = refl
  kind_told (Ractor c) among = refl
  kind_told (Local m) among = ap object_kind (seen t below (Local m) (resolve_slot (slice_get t.slots m) m) sound read among refl) ∙ kind_resolved t.slots (object_at t (Local m))
  kind_told (Shared p c) among = ap object_kind (seen t below (Shared p c) (Published c.now.number p) sound read among refl) ∙ kind_resolved t.slots (object_at t (Shared p c))

  pub bytes_told : (r : Ref) → IsAmong below r → bytes_in (graph_of t.slots below) (resolve t.slots (value_of r)) ≡ text_at t r
  bytes_told Nil among = refl
  bytes_told False among = refl
  bytes_told True among = refl
  bytes_told (Int z) among = refl
  bytes_told (Symbol s) among = refl
  bytes_told (Class c) among = refl
  bytes_told (Ractor c) among = refl
  bytes_told (Local m) among = ap bytes_of (seen t below (Local m) (resolve_slot (slice_get t.slots m) m) sound read among refl) ∙ bytes_resolved t.slots (object_at t (Local m))
  bytes_told (Shared p c) among = ap bytes_of (seen t below (Shared p c) (Published c.now.number p) sound read among refl) ∙ bytes_resolved t.slots (object_at t (Shared p c))

  pub triples_told : (r : Ref) → IsAmong below r → triples_in (graph_of t.slots below) (resolve t.slots (value_of r)) ≡ map (resolve_triple t.slots) (triples_at t r)
  triples_told Nil among = refl
  triples_told False among = refl
  triples_told True among = refl
  triples_told (Int z) among = refl
  triples_told (Symbol s) among = refl
  triples_told (Class c) among = refl
  triples_told (Ractor c) among = refl
  triples_told (Local m) among = ap triples_of (seen t below (Local m) (resolve_slot (slice_get t.slots m) m) sound read among refl) ∙ triples_resolved t.slots (object_at t (Local m))
  triples_told (Shared p c) among = ap triples_of (seen t below (Shared p c) (Published c.now.number p) sound read among refl) ∙ triples_resolved t.slots (object_at t (Shared p c))

  pub count_told : (r : Ref) → IsAmong below r → length (triples_in (graph_of t.slots below) (resolve t.slots (value_of r))) ≡ length (triples_at t r)
  count_told r among = ap length (triples_told r among) ∙ length-map (triples_at t r) (resolve_triple t.slots)

pub on_ok : {A E : Type 0} (P Q : A → Type 0) (r : Result A E) → IfOk r P → ((x : A) → P x → Q x) → IfOk r Q
on_ok P Q (Ok x) p h = h x p
on_ok P Q (Err e) p h = tt

-- ---- Values side by side.

pub unequal : (m n : ℕ) → (m ≡ n → ⊥) → nat_eq m n ≡ false
unequal m n out = by (nat_eq m n) refl
  where
    by : (b : Bool) → nat_eq m n ≡ b → b ≡ false
    by true e = absurd (out (eqb-true m n e))
    by false e = refl

pub equal : (m n : ℕ) → m ≡ n → nat_eq m n ≡ true
equal m n e = eq-eqb m n e

pub value_resolved : (slots : List Slot) (ts : List (Label × Value)) (k : ℕ) → value_in (map (resolve_triple slots) ts) k ≡ resolve slots (value_in ts k)
value_resolved slots ts k = ap value_or_none (slice_get-map (resolve_triple slots) ts k) ∙ by (slice_get ts k)
  where
    by : (o : Option (Label × Value)) → value_or_none (option_map (resolve_triple slots) o) ≡ resolve slots (value_or_none o)
    by None = refl
    by (Some x) = refl

abbrev both : List Slot → Pair → Pair
both slots p = (resolve slots p.0, resolve slots p.1)

map_end : {A B : Type 0} (f : A → B) (xs : List A) (x : A) → map f (xs ++ x ∷ []) ≡ map f xs ++ f x ∷ []
map_end f [] x = refl
map_end f (y ∷ xs) x = ap (λ ys. f y ∷ ys) (map_end f xs x)

nil_end : {A : Type 0} (xs : List A) → xs ++ [] ≡ xs
nil_end [] = refl
nil_end (x ∷ xs) = ap (λ ys. x ∷ ys) (nil_end xs)

zip_resolved : (slots : List Slot) (ss ts : List (Label × Value)) → zip (values_in (map (resolve_triple slots) ss)) (values_in (map (resolve_triple slots) ts)) ≡ map (both slots) (zip (values_in ss) (values_in ts))
zip_resolved slots [] ts = refl
zip_resolved slots (s ∷ ss) [] = refl
zip_resolved slots (s ∷ ss) (t ∷ ts) = ap (λ ps. (resolve slots s.1, resolve slots t.1) ∷ ps) (zip_resolved slots ss ts)

sides_resolved : (slots : List Slot) (sides : List Sides) → map (resolved slots) sides ≡ map (both slots) (map values_of sides)
sides_resolved slots [] = refl
sides_resolved slots (s ∷ sides) = ap (λ ps. resolved slots s ∷ ps) (sides_resolved slots sides)

-- one more row
pub rows_more : (ss ts : List (Label × Value)) (sides new : List Sides) (s : Sides) (n : ℕ) → n < length ss → n < length ts → new ≡ sides ++ s ∷ [] → value_of s.left ≡ value_in ss n → value_of s.right ≡ value_in ts n
    → map values_of sides ++ zip (drop n (values_in ss)) (drop n (values_in ts)) ≡ map values_of new ++ zip (drop (n + 1) (values_in ss)) (drop (n + 1) (values_in ts))
rows_more ss ts sides new s n in_ss in_ts is left right =
    let rest = zip (drop (n + 1) (values_in ss)) (drop (n + 1) (values_in ts)) in
    ap (λ vs. map values_of sides ++ zip vs (drop n (values_in ts))) (values_next ss n in_ss)
    ∙ ap (λ vs. map values_of sides ++ zip (value_in ss n ∷ drop (n + 1) (values_in ss)) vs) (values_next ts n in_ts)
    ∙ ap (λ v. map values_of sides ++ (v, value_in ts n) ∷ rest) (sym left)
    ∙ ap (λ v. map values_of sides ++ (value_of s.left, v) ∷ rest) (sym right)
    ∙ sym (append_assoc (map values_of sides) (values_of s ∷ []) rest)
    ∙ ap (λ ps. ps ++ rest) (sym (ap (map values_of) is ∙ map_end values_of sides s))

-- all rows
pub rows_all : (ss ts : List (Label × Value)) (sides : List Sides) (n : ℕ) → length ss ≤ n
    → map values_of sides ++ zip (drop n (values_in ss)) (drop n (values_in ts)) ≡ map values_of sides
rows_all ss ts sides n le = ap (λ vs. map values_of sides ++ zip vs (drop n (values_in ts))) (values_end ss n le) ∙ nil_end (map values_of sides)

-- ---- Values under keys.

mapped_more : (ps : List Pair) (p : Pair) (found : Option (List Pair)) → option_map (λ qs. ps ++ qs) (option_map (λ qs. p ∷ qs) found) ≡ option_map (λ qs. (ps ++ p ∷ []) ++ qs) found
mapped_more ps p None = refl
mapped_more ps p (Some qs) = ap (λ rs. Some rs) (sym (append_assoc ps (p ∷ []) qs))

-- what is found after these pairs
abbrev pub found_after : (Value → Option Value) → List Pair → List (Value × Value) → Option (List Pair)
found_after under ps rest = option_map (λ qs. ps ++ qs) (matches under rest)

pub matched_first : (under : Value → Option Value) (rest : List (Value × Value)) → matches under rest ≡ found_after under [] rest
matched_first under rest = by (matches under rest)
  where
    by : (o : Option (List Pair)) → o ≡ option_map (λ qs. [] ++ qs) o
    by None = refl
    by (Some qs) = refl

pub matched_end : (under : Value → Option Value) (ps : List Pair) → found_after under ps [] ≡ Some ps
matched_end under ps = ap (λ qs. Some qs) (nil_end ps)

module _ (slots : List Slot) (under : Value → Option Value) (sides : List Sides) (name value : Value) (rest : List (Value × Value)) where
  pub matched_more : (new : List Sides) (s : Sides) → under name ≡ Some (resolve slots (value_of s.right)) → value ≡ resolve slots (value_of s.left) → new ≡ sides ++ s ∷ []
      → found_after under (map (resolved slots) sides) ((name, value) ∷ rest) ≡ found_after under (map (resolved slots) new) rest
  matched_more new s found is more =
      let ps = map (resolved slots) sides in
      ap (λ o. option_map (λ qs. ps ++ qs) (all_there (option_map (λ w. (value, w)) o ∷ map (beside under) rest))) found
      ∙ ap (λ v. option_map (λ qs. ps ++ qs) (option_map (λ qs. (v, resolve slots (value_of s.right)) ∷ qs) (matches under rest))) is
      ∙ mapped_more ps (resolved slots s) (matches under rest)
      ∙ ap (λ qs. found_after under qs rest) (sym (ap (map (resolved slots)) more ∙ map_end (resolved slots) sides s))

  pub matched_none : under name ≡ None → found_after under (map (resolved slots) sides) ((name, value) ∷ rest) ≡ None
  matched_none none = ap (λ o. option_map (λ qs. map (resolved slots) sides ++ qs) (all_there (option_map (λ w. (value, w)) o ∷ map (beside under) rest))) none

module _ (t : Table) (below : Below) (sound : IsTableSound t.slots t.below) (read : IsReadWith t below) where
  pub value_told : (r x : Ref) (k : ℕ) → IsAmong below r → value_of x ≡ value_in (triples_at t r) k → value_in (triples_in (graph_of t.slots below) (resolve t.slots (value_of r))) k ≡ resolve t.slots (value_of x)
  value_told r x k among e =
      ap (λ ts. value_in ts k) (triples_told t below sound read r among) ∙ value_resolved t.slots (triples_at t r) k ∙ ap (resolve t.slots) (sym e)

  pub equal_told : (r s : Ref) → IsAmong below r → IsAmong below s → equal_in (graph_of t.slots below) (resolve t.slots (value_of r)) (resolve t.slots (value_of s)) ≡ equal_at t r s
  unfolding equal_in
  equal_told r s al ar =
      let g = graph_of t.slots below in
      let v = resolve t.slots (value_of r) in
      let w = resolve t.slots (value_of s) in
      ap (λ k. same_value v w || text_if (likeness k (kind_in g w)) (bytes_in g v) (bytes_in g w)) (kind_told t below sound read r al)
      ∙ ap (λ k. same_value v w || text_if (likeness (kind_at t r) k) (bytes_in g v) (bytes_in g w)) (kind_told t below sound read s ar)
      ∙ ap (λ b. same_value v w || text_if (likeness (kind_at t r) (kind_at t s)) b (bytes_in g w)) (bytes_told t below sound read r al)
      ∙ ap (λ b. same_value v w || text_if (likeness (kind_at t r) (kind_at t s)) (text_at t r) b) (bytes_told t below sound read s ar)

  -- the pair of an object, as the graph has it, by its key object
  pub pair_told : (r name : Ref) (n : ℕ) → IsAmong below r → 2 * n + 1 < length (triples_at t r) → value_of name ≡ value_in (triples_at t r) (2 * n)
      → drop n (pairs_in (triples_in (graph_of t.slots below) (resolve t.slots (value_of r))))
      ≡ (resolve t.slots (value_of name), value_in (triples_in (graph_of t.slots below) (resolve t.slots (value_of r))) (2 * n + 1)) ∷ drop (n + 1) (pairs_in (triples_in (graph_of t.slots below) (resolve t.slots (value_of r))))
  pair_told r name n among lt is_name =
      let ts = triples_in (graph_of t.slots below) (resolve t.slots (value_of r)) in
      pairs_next ts n (omega (arith, lt, count_told t below sound read r among))
      ∙ ap (λ v. (v, value_in ts (2 * n + 1)) ∷ drop (n + 1) (pairs_in ts)) (value_told r name (2 * n) among is_name)

  pub pairs_told_end : (r : Ref) (n : ℕ) → IsAmong below r → length (triples_at t r) ≤ 2 * n + 1 → drop n (pairs_in (triples_in (graph_of t.slots below) (resolve t.slots (value_of r)))) ≡ []
  pairs_told_end r n among le = pairs_end (triples_in (graph_of t.slots below) (resolve t.slots (value_of r))) n (omega (arith, le, count_told t below sound read r among))

  -- ---- The value that a hash has under a key.

  module _ (hash name : Ref) (among_hash : IsAmong below hash) (among_name : IsAmong below name) where
    abbrev under : Option Value
    under = value_under (reading t below) (resolve t.slots (value_of hash)) (resolve t.slots (value_of name))

    by_key : (k : Option HashKey) → key_at t name ≡ k → under ≡ value_with (reading t below) (resolve t.slots (value_of hash)) k
    unfolding value_under
    by_key k e = ap (value_with (reading t below) (resolve t.slots (value_of hash))) (key_seen t below name sound read among_name ∙ e)

    by_pair : (key : HashKey) (found : Option ℕ) → found ≡ pair_with below t hash key
        → value_with (reading t below) (resolve t.slots (value_of hash)) (Some key) ≡ option_map (λ i. value_in (triples_in (graph_of t.slots below) (resolve t.slots (value_of hash))) (2 * i + 1)) found
    unfolding pair_with
    by_pair key found e = ap (option_map (λ i. value_in (triples_in (graph_of t.slots below) (resolve t.slots (value_of hash))) (2 * i + 1))) (sym e)

    pub under_no_key : key_at t name ≡ None → None ≡ under
    under_no_key e = sym (by_key None e)

    pub under_none : (key : HashKey) → key_at t name ≡ Some key → None ≡ pair_with below t hash key → None ≡ under
    under_none key e none = sym (by_key (Some key) e ∙ by_pair key None none)

    pub under_found : (key : HashKey) (i : ℕ) (x : Ref) → key_at t name ≡ Some key → Some i ≡ pair_with below t hash key → value_of x ≡ value_in (triples_at t hash) (2 * i + 1) → Some (resolve t.slots (value_of x)) ≡ under
    under_found key i x e found is = sym (by_key (Some key) e ∙ by_pair key (Some i) found ∙ ap (λ v. Some v) (value_told hash x (2 * i + 1) among_hash is))

  -- ---- What is found at two values.

  module _ (left right : Ref) (among_left : IsAmong below left) (among_right : IsAmong below right) where
    abbrev p : Pair
    p = (resolve t.slots (value_of left), resolve t.slots (value_of right))

    abbrev ss : List (Label × Value)
    ss = triples_in (graph_of t.slots below) (resolve t.slots (value_of left))

    abbrev ts : List (Label × Value)
    ts = triples_in (graph_of t.slots below) (resolve t.slots (value_of right))

    counts : (b : Bool) → nat_eq (length (triples_at t left)) (length (triples_at t right)) ≡ b → nat_eq (length ss) (length ts) ≡ b
    counts b e = ap (λ n. nat_eq n (length ts)) (count_told t below sound read left among_left) ∙ ap (nat_eq (length (triples_at t left))) (count_told t below sound read right among_right) ∙ e

    pub rows_differ : nat_eq (length (triples_at t left)) (length (triples_at t right)) ≡ false → all_rows ss ts ≡ None
    rows_differ e = ap (λ b. if b then Some (zip (values_in ss) (values_in ts)) else None) (counts false e)

    pub rows_found : (sides : List Sides) → nat_eq (length (triples_at t left)) (length (triples_at t right)) ≡ true → map values_of sides ≡ zip (values_in (triples_at t left)) (values_in (triples_at t right))
        → all_rows ss ts ≡ Some (map (resolved t.slots) sides)
    rows_found sides e is =
        let xs = triples_at t left in
        let ys = triples_at t right in
        ap (λ b. if b then Some (zip (values_in ss) (values_in ts)) else None) (counts true e)
        ∙ ap (λ zs. Some (zip (values_in zs) (values_in ts))) (triples_told t below sound read left among_left)
        ∙ ap (λ zs. Some (zip (values_in (map (resolve_triple t.slots) xs)) (values_in zs))) (triples_told t below sound read right among_right)
        ∙ ap (λ ps. Some ps) (zip_resolved t.slots xs ys ∙ ap (map (both t.slots)) (sym is) ∙ sym (sides_resolved t.slots sides))

    pub matches_differ : nat_eq (length (triples_at t left)) (length (triples_at t right)) ≡ false → all_matches (reading t below) p.0 p.1 ≡ None
    matches_differ e = ap (λ b. if b then matches (value_under (reading t below) p.1) (pairs_in ss) else None) (counts false e)

    pub matches_found : nat_eq (length (triples_at t left)) (length (triples_at t right)) ≡ true
        → all_matches (reading t below) p.0 p.1 ≡ matches (value_under (reading t below) p.1) (pairs_in ss)
    matches_found e = ap (λ b. if b then matches (value_under (reading t below) p.1) (pairs_in ss) else None) (counts true e)

    pub seen_one : same_value p.0 p.1 ≡ true → Leaf (Wrote []) ≡ look_pair (reading t below) p
    unfolding look_pair
    seen_one e = sym (ap (λ b. if b then Leaf (Wrote []) else look_like (reading t below) (likeness (kind_in (graph_of t.slots below) p.0) (kind_in (graph_of t.slots below) p.1)) p) e)

    pub seen_like : (l : Likeness) → same_value p.0 p.1 ≡ false → likeness (kind_at t left) (kind_at t right) ≡ l → look_like (reading t below) l p ≡ look_pair (reading t below) p
    unfolding look_pair
    seen_like l e is =
        let r = reading t below in
        let g = graph_of t.slots below in
        sym (ap (λ b. if b then Leaf (Wrote []) else look_like r (likeness (kind_in g p.0) (kind_in g p.1)) p) e
        ∙ ap (λ k. look_like r (likeness k (kind_in g p.1)) p) (kind_told t below sound read left among_left)
        ∙ ap (λ k. look_like r (likeness (kind_at t left) k) p) (kind_told t below sound read right among_right)
        ∙ ap (λ m. look_like r m p) is)

text_alike : (k : Kind) → text_likeness k ≡ Hashes → k ≡ kind.Hash
text_alike kind.Text e = let no : ⊥ = cc in absurd no
text_alike kind.Shell e = let no : ⊥ = cc in absurd no
text_alike _ e = let no : ⊥ = cc in absurd no

array_alike : (k : Kind) → array_likeness k ≡ Hashes → k ≡ kind.Hash
array_alike kind.Array e = let no : ⊥ = cc in absurd no
array_alike kind.Shell e = let no : ⊥ = cc in absurd no
array_alike _ e = let no : ⊥ = cc in absurd no

hash_alike : (k : Kind) → hash_likeness k ≡ Hashes → k ≡ kind.Hash
hash_alike kind.Hash e = refl
hash_alike kind.Shell e = let no : ⊥ = cc in absurd no
hash_alike _ e = let no : ⊥ = cc in absurd no

other_alike : (k : Kind) → other_likeness k ≡ Hashes → k ≡ kind.Hash
other_alike kind.Shell e = let no : ⊥ = cc in absurd no
other_alike _ e = let no : ⊥ = cc in absurd no

-- what is compared as hashes are is a hash
pub hashes_alike : (j k : Kind) → likeness j k ≡ Hashes → k ≡ kind.Hash
hashes_alike kind.Shell k e = let no : ⊥ = cc in absurd no
hashes_alike kind.Text k e = text_alike k e
hashes_alike kind.Array k e = array_alike k e
hashes_alike kind.Hash k e = hash_alike k e
hashes_alike _ k e = other_alike k e
