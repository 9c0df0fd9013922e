-- Pairs of hashes that are copied one by one.
use Rattle.std.proofs.Common.{◌≡◌, ◌∙◌, ◌+◌, ◌*◌, ◌<◌, ◌≤◌, ℕ, zero, suc, Bool, true, false, ◌||◌, cond, List, [], ◌∷◌, ◌++◌, drop, length, map, Option, Some, None, slice_get, Contains, ⊎_elim, is_some, if◌then◌else◌, refl, sym, ap, subst, arith}
use Rattle.std.specs.Bool.{Decides}
use Rattle.std.specs.List.{list_any}
use Rattle.std.specs.Map.{lookup}
use Rattle.std.specs.Option.{option_map}
use Rattle.std.proofs.lemmas.Bool.{false≢true}
use Rattle.std.proofs.lemmas.List.Elements.{Contains-append_left, Contains-append_right, Contains-append_cases}
use Rattle.std.proofs.lemmas.Option.{none-some, slice_get_within}
use Rattle.std.proofs.lemmas.Slice.Eq.{bytes_eq-Decides}
use Rattle.rr_space.specs.Graph.{Value, Object, KeyAt, ValueAt}
use Rattle.rr_space.specs.Tables.{Table, Below, HashKey, PlainKey, TextKey, graph_of, resolve}
use Rattle.rr_space.specs.Sound.{IsTableSound}
use Rattle.rr_space.specs.Parts.{pairs_from, value_of, value_triple, below_parts, below_ref, IsWithin, AllWithin}
use Rattle.rr_space.specs.Labels.{triples_at}
use Rattle.rr_space.specs.Lookups.{AreDistinct, key_at}
use Rattle.rr_space.specs.Views.{key_of, entry_key, entry_pair, paired_from}
use Rattle.rr_space.specs.declared.node.Key.{Key}
use Rattle.rr_space.specs.declared.refer.Ref.{Ref}
use Rattle.rr_space.proofs.Keys.{key_eq, keys_decide}
use Rattle.rr_space.proofs.Pairing.{put_entry}
use Rattle.rr_space.proofs.Writing.{map_push}
use Rattle.rr_text.specs.Keys.{same_key, key_in, pairs_in}
use Rattle.rr_text.specs.Comparing.{value_in}
use Rattle.rr_text.specs.Reads.{IsReadWith, IsAmong}
use Rattle.rr_text.proofs.Finding.{key_seen}
use Rattle.rr_text.proofs.Same.{immediates_are, immediate_is}
use Rattle.rr_builtin.specs.Acts.{IsRefAmong}
use Rattle.rr_builtin.specs.Copies.{AreOwnPairs, pairs_but, keyed_in, pairs_of, hash_copy, hash_copy_keys, with_entry, entry_values}
use Rattle.rr_builtin.proofs.Among.{none_in, among_of, of_among}
use Rattle.rr_builtin.proofs.Gathering.{append_nil, append_three}
use Rattle.rr_builtin.proofs.Listing.{pairs_next, pairs_end, map_drop}

abbrev pub Entry : Type 0
Entry = Key × (Ref × Ref)

-- ---- Keys.

key_same : (h k : HashKey) → same_key h (Some k) ≡ true → h ≡ k
key_same (PlainKey i) (PlainKey j) e = ap PlainKey (immediates_are i j e)
key_same (TextKey a) (TextKey b) e = ap TextKey ((bytes_eq-Decides a b).0 e)
key_same (PlainKey i) (TextKey b) e = absurd (false≢true e)
key_same (TextKey a) (PlainKey j) e = absurd (false≢true e)

key_itself : (h : HashKey) → same_key h (Some h) ≡ true
key_itself (PlainKey i) = immediate_is i
key_itself (TextKey a) = (bytes_eq-Decides a a).1 refl

decided_alike : (a b : Bool) (P : Type 0) → Decides a P → (b ≡ true → P) → (P → b ≡ true) → a ≡ b
decided_alike true b P d f g = sym (g (d.0 refl))
decided_alike false true P d f g = d.1 (f refl)
decided_alike false false P d f g = refl

-- two keys are equal where they are one key
equal_keys : (x y : Key) → key_eq x y ≡ same_key (key_of x) (Some (key_of y))
equal_keys x y =
    decided_alike (key_eq x y) (same_key (key_of x) (Some (key_of y))) (key_of x ≡ key_of y) (keys_decide x y) (key_same (key_of x) (key_of y))
    (λ e. subst (λ h. same_key (key_of x) (Some h) ≡ true) e (key_itself (key_of x)))

abbrev pub has_key : Key → List Entry → Bool
has_key key es = list_any (λ e. same_key (key_of key) (Some (entry_key e))) es

some_or : {A : Type 0} (b : Bool) (x : A) (later : Option A) → is_some (cond b (Some x) later) ≡ (b || is_some later)
some_or true x later = refl
some_or false x later = refl

pub found_key : (key : Key) (es : List Entry) → is_some (lookup (key_eq key) es) ≡ has_key key es
found_key key [] = refl
found_key key (e ∷ es) =
    some_or (key_eq key e.0) e.1 (lookup (key_eq key) es)
    ∙ ap (λ b. b || is_some (lookup (key_eq key) es)) (equal_keys key e.0)
    ∙ ap (λ b. same_key (key_of key) (Some (entry_key e)) || b) (found_key key es)

none_found : {A : Type 0} (o : Option A) → is_some o ≡ false → o ≡ None
none_found None e = refl
none_found (Some x) e = absurd (false≢true (sym e))

pub lacks_key : (key : Key) (es : List Entry) → is_some (lookup (key_eq key) es) ≡ false → lookup (key_eq key) es ≡ None
lacks_key key es e = none_found (lookup (key_eq key) es) e

-- an entry comes last where none has its key
pub put_absent : (key : Key) (es : List Entry) (name value : Ref) → lookup (key_eq key) es ≡ None → put_entry key_eq es key name value ≡ es ++ (key, (name, value)) ∷ []
put_absent key [] name value none = refl
put_absent key (e ∷ es) name value none = other (key_eq key e.0) none (put_absent key es name value)
  where
    other : (b : Bool) → cond b (Some e.1) (lookup (key_eq key) es) ≡ None → (lookup (key_eq key) es ≡ None → put_entry key_eq es key name value ≡ es ++ (key, (name, value)) ∷ [])
        → (if b then (e.0, (e.1.0, value)) ∷ es else e ∷ put_entry key_eq es key name value) ≡ e ∷ (es ++ (key, (name, value)) ∷ [])
    other true n later = absurd (none-some e.1 (sym n))
    other false n later = ap (λ fs. e ∷ fs) (later n)

any_mapped : {A B : Type 0} (p : B → Bool) (f : A → B) (xs : List A) → list_any (λ x. p (f x)) xs ≡ list_any p (map f xs)
any_mapped p f [] = refl
any_mapped p f (x ∷ xs) = ap (λ b. p (f x) || b) (any_mapped p f xs)

-- ---- Pairs that come behind others.

within_pair : (n k : ℕ) (es : List Entry) (e : Entry) → AllWithin n (pairs_from k (map entry_pair es)) → IsWithin n e.1.0 → IsWithin n e.1.1 → AllWithin n (pairs_from k (map entry_pair (es ++ e ∷ [])))
within_pair n k [] e all name value = (name, (value, tt))
within_pair n k (f ∷ es) e all name value = (all.0, (all.1.0, within_pair n (k + 1) es e all.1.1 name value))

among_pair : (below : Below) (k : ℕ) (es : List Entry) (e : Entry) → ((d : ℕ × List Object) → Contains (below_parts (pairs_from k (map entry_pair es))) d → Contains below d)
    → ((d : ℕ × List Object) → Contains (below_ref e.1.0) d → Contains below d) → ((d : ℕ × List Object) → Contains (below_ref e.1.1) d → Contains below d)
    → (d : ℕ × List Object) → Contains (below_parts (pairs_from k (map entry_pair (es ++ e ∷ [])))) d → Contains below d
among_pair below k [] e all name value d has =
    ⊎_elim (name d) (λ h. ⊎_elim (value d) (none_in d) (Contains-append_cases (below_ref e.1.1) [] d h)) (Contains-append_cases (below_ref e.1.0) (below_ref e.1.1 ++ []) d has)
among_pair below k (f ∷ es) e all name value d has =
    let a = below_ref f.1.0 in
    let b = below_ref f.1.1 in
    let rest = below_parts (pairs_from (k + 1) (map entry_pair es)) in
    let more = below_parts (pairs_from (k + 1) (map entry_pair (es ++ e ∷ []))) in
    ⊎_elim (λ h. all d (Contains-append_left a (b ++ rest) d h))
    (λ h. ⊎_elim (λ i. all d (Contains-append_right a (b ++ rest) d (Contains-append_left b rest d i)))
    (λ i. among_pair below (k + 1) es e (λ c j. all c (Contains-append_right a (b ++ rest) c (Contains-append_right b rest c j))) name value d i)
    (Contains-append_cases b more d h))
    (Contains-append_cases a (b ++ more) d has)

-- the pairs among the first k of a hash, those that come after, and what is known of them
pub record ArePaired (t : Table) (v : Ref) (es : List Entry) (k : ℕ) : Type 0 where
  pub are : (below : Below) → IsReadWith t below → IsAmong below v → map entry_values es ++ pairs_but (map entry_key es) (drop k (keyed_in below t v)) ≡ pairs_of below t v
  pub within : AllWithin (length t.slots) (pairs_from 0 (map entry_pair es))
  pub among : (below : Below) → IsReadWith t below → IsRefAmong below v → (e : ℕ × List Object) → Contains (below_parts (pairs_from 0 (map entry_pair es))) e → Contains below e

pub no_entries : (es : List Entry) → length es ≡ 0 → es ≡ []
no_entries [] e = refl
no_entries (x ∷ es) e = let no : ⊥ = cc in absurd no

pub paired_none : (t : Table) (v : Ref) (es : List Entry) → es ≡ [] → ArePaired t v es 0
paired_none t v es is = subst (λ (fs : List Entry). ArePaired t v fs 0) (sym is) (record { are = λ below read among. refl; within = tt; among = λ below read among e has. none_in e has })

abbrev keyed : Below → Table → Value × Value → Option HashKey × (Value × Value)
keyed below t p = (key_in (graph_of t.slots below) (resolve t.slots p.0), p)

-- the pair that comes next
keyed_next : (below : Below) (t : Table) (v name value : Ref) (k : ℕ) → IsTableSound t.slots t.below → IsReadWith t below → IsAmong below name → 2 * k + 1 < length (triples_at t v)
    → value_of name ≡ value_in (triples_at t v) (2 * k) → value_of value ≡ value_in (triples_at t v) (2 * k + 1)
    → drop k (keyed_in below t v) ≡ (key_at t name, (value_of name, value_of value)) ∷ drop (k + 1) (keyed_in below t v)
keyed_next below t v name value k sound read among lt is_name is_value =
    let ts = triples_at t v in
    let rest = drop (k + 1) (keyed_in below t v) in
    sym (map_drop (keyed below t) (pairs_in ts) k)
    ∙ ap (map (keyed below t)) (pairs_next ts k lt)
    ∙ ap (λ n. keyed below t (value_in ts (2 * k), value_in ts (2 * k + 1)) ∷ map (keyed below t) (drop n (pairs_in ts))) (let z : suc k ≡ k + 1 = omega arith in z)
    ∙ ap (λ qs. keyed below t (value_in ts (2 * k), value_in ts (2 * k + 1)) ∷ qs) (map_drop (keyed below t) (pairs_in ts) (k + 1))
    ∙ ap (λ (x : Value). keyed below t (x, value_in ts (2 * k + 1)) ∷ rest) (sym is_name)
    ∙ ap (λ (x : Value). keyed below t (value_of name, x) ∷ rest) (sym is_value)
    ∙ ap (λ h. (h, (value_of name, value_of value)) ∷ rest) (key_seen t below name sound read among)

module _ (t : Table) (v name value : Ref) (es new : List Entry) (k : ℕ) (g : ArePaired t v es k) (sound : IsTableSound t.slots t.below) (lt : 2 * k + 1 < length (triples_at t v))
    (is_name : value_of name ≡ value_in (triples_at t v) (2 * k)) (is_value : value_of value ≡ value_in (triples_at t v) (2 * k + 1))
    (within_name : IsWithin (length t.slots) name) (within_value : IsWithin (length t.slots) value)
    (among_name : (below : Below) → IsReadWith t below → IsRefAmong below v → IsRefAmong below name) (among_value : (below : Below) → IsReadWith t below → IsRefAmong below v → IsRefAmong below value) where
  abbrev rest_of : Below → List (Option HashKey × (Value × Value))
  rest_of below = drop (k + 1) (keyed_in below t v)

  before : (below : Below) → IsReadWith t below → IsAmong below v → (h : Option HashKey) → h ≡ key_at t name
      → map entry_values es ++ pairs_but (map entry_key es) ((h, (value_of name, value_of value)) ∷ rest_of below) ≡ pairs_of below t v
  before below read among h is =
      ap (λ (o : Option HashKey). map entry_values es ++ pairs_but (map entry_key es) ((o, (value_of name, value_of value)) ∷ rest_of below)) is
      ∙ ap (λ ps. map entry_values es ++ pairs_but (map entry_key es) ps)
      (sym (keyed_next below t v name value k sound read (among_of below name (among_name below read (of_among below v among))) lt is_name is_value))
      ∙ g.are below read among

  -- a pair without a key, or with one that is there
  passed : ((below : Below) → IsReadWith t below → IsAmong below v → map entry_values es ++ pairs_but (map entry_key es) (rest_of below) ≡ pairs_of below t v) → new ≡ es → ArePaired t v new (k + 1)
  passed are is = subst (λ (fs : List Entry). ArePaired t v fs (k + 1)) (sym is) (record { are = are; within = g.within; among = g.among })

  -- a pair with another key than the others
  added : (key : Key) → Some (key_of key) ≡ key_at t name → has_key key es ≡ false → new ≡ es ++ (key, (name, value)) ∷ [] → ArePaired t v new (k + 1)
  added key is absent are = subst (λ (fs : List Entry). ArePaired t v fs (k + 1)) (sym are) (record {
    are = λ below read among.
        let e : Entry = (key, (name, value)) in
        let taken : pairs_but (map entry_key es) ((Some (key_of key), (value_of name, value_of value)) ∷ rest_of below) ≡ entry_values e ∷ pairs_but (map entry_key es ++ key_of key ∷ []) (rest_of below) =
        ap (λ b. if b then pairs_but (map entry_key es) (rest_of below) else entry_values e ∷ pairs_but (map entry_key es ++ key_of key ∷ []) (rest_of below))
        (sym (any_mapped (λ (h : HashKey). same_key (key_of key) (Some h)) entry_key es) ∙ absent)
        in
        ap (λ ps. ps ++ pairs_but (map entry_key (es ++ e ∷ [])) (rest_of below)) (map_push entry_values es e)
        ∙ append_three (map entry_values es) (entry_values e ∷ []) (pairs_but (map entry_key (es ++ e ∷ [])) (rest_of below))
        ∙ ap (λ ks. map entry_values es ++ entry_values e ∷ pairs_but ks (rest_of below)) (map_push entry_key es e)
        ∙ ap (λ ps. map entry_values es ++ ps) (sym taken)
        ∙ before below read among (Some (key_of key)) is;
    within = within_pair (length t.slots) 0 es (key, (name, value)) g.within within_name within_value;
    among = λ below read led. among_pair below 0 es (key, (name, value)) (g.among below read led) (among_of below name (among_name below read led)) (among_of below value (among_value below read led));
  })

  -- the pair in the next place is looked at
  pub paired_next : (key : Option Key) → option_map key_of key ≡ key_at t name → new ≡ with_entry es key (name, value) → ArePaired t v new (k + 1)
  paired_next None is are = passed (λ below read among. before below read among None is) are
  paired_next (Some key) is are = by (has_key key es) refl
    where
      by : (b : Bool) → has_key key es ≡ b → ArePaired t v new (k + 1)
      by true e =
          passed (λ below read among.
          ap (λ ps. map entry_values es ++ ps)
          (sym (ap (λ b. if b then pairs_but (map entry_key es) (rest_of below) else (key_of key, (value_of name, value_of value)) ∷ pairs_but (map entry_key es ++ key_of key ∷ []) (rest_of below))
          (sym (any_mapped (λ (h : HashKey). same_key (key_of key) (Some h)) entry_key es) ∙ e)))
          ∙ before below read among (Some (key_of key)) is)
          (are ∙ ap (λ b. if b then es else es ++ (key, (name, value)) ∷ []) e)
      by false e = added key is e (are ∙ ap (λ b. if b then es else es ++ (key, (name, value)) ∷ []) e)

-- behind the last pair all are there
pub paired_all : (t : Table) (v : Ref) (es : List Entry) (k : ℕ) → ArePaired t v es k → length (triples_at t v) ≤ 2 * k + 1 → (below : Below) → IsReadWith t below → IsAmong below v → map entry_values es ≡ pairs_of below t v
paired_all t v es k g le below read among =
    append_nil (map entry_values es)
    ∙ ap (λ ps. map entry_values es ++ pairs_but (map entry_key es) ps) (sym (sym (map_drop (keyed below t) (pairs_in (triples_at t v)) k) ∙ ap (map (keyed below t)) (pairs_end (triples_at t v) k le)))
    ∙ g.are below read among

-- ---- The hash that the pairs are.

entry_triples : (k : ℕ) (es : List Entry) → map value_triple (pairs_from k (map entry_pair es)) ≡ paired_from k (map (λ e. e.1) (map entry_values es))
entry_triples k [] = refl
entry_triples k (e ∷ es) = ap (λ ts. (KeyAt k, value_of e.1.0) ∷ (ValueAt k, value_of e.1.1) ∷ ts) (entry_triples (k + 1) es)

entry_keys : (es : List Entry) → map entry_key es ≡ map (λ e. e.0) (map entry_values es)
entry_keys [] = refl
entry_keys (e ∷ es) = ap (λ ks. entry_key e ∷ ks) (entry_keys es)

pub copied_triples : (es : List Entry) (ps : List (HashKey × (Value × Value))) → map entry_values es ≡ ps → map value_triple (pairs_from 0 (map entry_pair es)) ≡ paired_from 0 (map (λ e. e.1) ps)
copied_triples es ps is = entry_triples 0 es ∙ ap (λ qs. paired_from 0 (map (λ e. e.1) qs)) is

pub copied_keys : (es : List Entry) (ps : List (HashKey × (Value × Value))) → map entry_values es ≡ ps → map entry_key es ≡ map (λ e. e.0) ps
copied_keys es ps is = entry_keys es ∙ ap (λ qs. map (λ e. e.0) qs) is

-- ---- Pairs of which no two have one key are all copied.

abbrev Apart : List HashKey → List HashKey → Type 0
Apart seen [] = Unit {0}
Apart seen (k ∷ ks) = (list_any (λ h. same_key k (Some h)) seen ≡ false) × Apart (seen ++ k ∷ []) ks

placed : (k h : HashKey) (seen : List HashKey) (b : Bool) → same_key k (Some h) ≡ b → (b || list_any (λ h. same_key k (Some h)) seen) ≡ true
    → (list_any (λ h. same_key k (Some h)) seen ≡ true → (i : ℕ) × (slice_get seen i ≡ Some k)) → (i : ℕ) × (slice_get (h ∷ seen) i ≡ Some k)
placed k h seen true s e later = (0, ap Some (sym (key_same k h s)))
placed k h seen false s e later = let w = later e in (suc w.0, w.1)

any_place : (k : HashKey) (seen : List HashKey) → list_any (λ h. same_key k (Some h)) seen ≡ true → (i : ℕ) × (slice_get seen i ≡ Some k)
any_place k [] e = absurd (false≢true e)
any_place k (h ∷ seen) e = placed k h seen (same_key k (Some h)) refl e (any_place k seen)

front_place : {A : Type 0} (xs ys : List A) (x : A) (i : ℕ) → slice_get xs i ≡ Some x → slice_get (xs ++ ys) i ≡ Some x
front_place [] ys x i at = absurd (none-some x at)
front_place (y ∷ xs) ys x zero at = at
front_place (y ∷ xs) ys x (suc i) at = front_place xs ys x i at

middle_place : {A : Type 0} (xs ys : List A) (x : A) → slice_get (xs ++ x ∷ ys) (length xs) ≡ Some x
middle_place [] ys x = refl
middle_place (y ∷ xs) ys x = middle_place xs ys x

apart_from : (seen ks : List HashKey) → AreDistinct (seen ++ ks) → Apart seen ks
apart_from seen [] d = tt
apart_from seen (k ∷ ks) d = (
  by (list_any (λ h. same_key k (Some h)) seen) refl,
  apart_from (seen ++ k ∷ []) ks (subst (λ (hs : List HashKey). AreDistinct hs) (sym (append_three seen (k ∷ []) ks)) d),
)
  where
    by : (b : Bool) → list_any (λ h. same_key k (Some h)) seen ≡ b → list_any (λ h. same_key k (Some h)) seen ≡ false
    by true e =
        let w = any_place k seen e in
        let same : w.0 ≡ length seen = d w.0 (length seen) k (front_place seen (k ∷ ks) k w.0 w.1) (middle_place seen ks k) in
        let lt : w.0 < length seen = slice_get_within seen w.0 k w.1 in
        absurd (let no : ⊥ = omega (arith, same, lt) in no)
    by false e = e

-- keys and pairs as they stand
abbrev AreKept : List HashKey → List (Option HashKey × (Value × Value)) → List (HashKey × (Value × Value)) → Type 0
AreKept keys ps qs = (map (λ e. e.0) qs ≡ keys) × (map (λ e. e.1) qs ≡ map (λ e. e.1) ps)

kept_from : (seen keys : List HashKey) (ps : List (Option HashKey × (Value × Value))) → map (λ e. e.0) ps ≡ map (λ k. Some k) keys → Apart seen keys → AreKept keys ps (pairs_but seen ps)
kept_from seen [] [] named apart = (refl, refl)
kept_from seen [] (p ∷ ps) named apart = let no : ⊥ = cc in absurd no
kept_from seen (k ∷ ks) [] named apart = let no : ⊥ = cc in absurd no
kept_from seen (k ∷ ks) ((h, p) ∷ ps) named apart =
    let here : h ≡ Some k = cc in
    let others : map (λ e. e.0) ps ≡ map (λ k. Some k) ks = cc in
    let rest = kept_from (seen ++ k ∷ []) ks ps others apart.1 in
    let is : pairs_but seen ((h, p) ∷ ps) ≡ (k, p) ∷ pairs_but (seen ++ k ∷ []) ps =
    ap (λ o. pairs_but seen ((o, p) ∷ ps)) here ∙ ap (λ b. if b then pairs_but seen ps else (k, p) ∷ pairs_but (seen ++ k ∷ []) ps) apart.0
    in
    subst (λ qs. AreKept (k ∷ ks) ((h, p) ∷ ps) qs) (sym is) (ap (λ ys. k ∷ ys) rest.0, ap (λ ys. p ∷ ys) rest.1)

keyed_pairs : (below : Below) (t : Table) (ps : List (Value × Value)) → map (λ e. e.1) (map (keyed below t) ps) ≡ ps
keyed_pairs below t [] = refl
keyed_pairs below t (p ∷ ps) = ap (λ qs. p ∷ qs) (keyed_pairs below t ps)

pub whole_copy : (below : Below) (t : Table) (v : Ref) (own : AreOwnPairs below t v) → ((hash_copy below t v).triples ≡ triples_at t v) × (hash_copy_keys below t v ≡ own.keys)
whole_copy below t v own =
    let kept = kept_from [] own.keys (keyed_in below t v) own.named (apart_from [] own.keys own.distinct) in
    (ap (paired_from 0) (kept.1 ∙ keyed_pairs below t (pairs_in (triples_at t v))) ∙ sym own.labels, kept.0)
