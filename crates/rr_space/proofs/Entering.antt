-- Nodes of hashes whose entries are others.
use Rattle.std.proofs.Common.{◌≡◌, ℕ, ◌+◌, ◌*◌, ◌⊎◌, inl, List, [], ◌∷◌, ◌++◌, length, map, slice_set, None, Result, Ok, Err, IsOk, IfOk, OnOk, OnErr, Contains, is_some, refl, ap, ◌∙◌, sym, subst, arith}
use Rattle.std.specs.Map.{lookup}
use Rattle.rr_space.specs.Graph.{KeyAt, ValueAt, Object}
use Rattle.rr_space.specs.Parts.{Parts, pairs_from, below_ref, below_parts}
use Rattle.rr_space.specs.Views.{key_of, entry_key, entry_pair, IsWithin, AllWithin}
use Rattle.indexmap.specs.IndexMap.{insert_entry}
use Rattle.rr_space.specs.Views.{IsFirstAt, kept_name}
use Rattle.rr_space.specs.declared.refer.Ref.{Ref}
use Rattle.rr_space.specs.declared.node.Key.{Key}
use Rattle.rr_space.proofs.Keys.{key_eq, keys_decide, no_place}
use Rattle.rr_space.proofs.Pairing.{put_entry, put_is, set_keys, set_pairs, new_keys, new_pairs, put_within, put_below}

abbrev pub Entries : Type 0
Entries = List (Key × (Ref × Ref))

abbrev pub pairs_of : Entries → Parts
pairs_of es = pairs_from 0 (map entry_pair es)

abbrev pub IsPut : (es new : Entries) (key : Key) (n v : Ref) → Type 0
IsPut es new key n v = new ≡ insert_entry key_eq es key (kept_name (lookup (key_eq key) es) n, v)

put_of : (es new : Entries) (key : Key) (n v : Ref) → IsPut es new key n v → new ≡ put_entry key_eq es key n v
put_of es new key n v is = is ∙ put_is key_eq es key n (kept_name (lookup (key_eq key) es) n) v refl

module _ {A E : Type 0} (es new : Entries) (key : Key) (n v : Ref) where
  pub with_present : (r : Result A E) (i : ℕ) → OnOk r (IsPut es new key n v) → OnErr r (lookup (key_eq key) es ≡ None) → IsFirstAt (map entry_key es) (key_of key) i
      → IsOk r × (pairs_of new ≡ slice_set (pairs_of es) (2 * i + 1) (ValueAt i, v)) × (map entry_key new ≡ map entry_key es)
  with_present (Ok a) i is none w = (
    refl,
    ap pairs_of (put_of es new key n v is) ∙ set_pairs key_eq key_of key (keys_decide key) n v es i 0 w
        ∙ ap (λ m. slice_set (pairs_of es) (2 * i + 1) (ValueAt m, v)) (let z : 0 + i ≡ i = omega arith in z),
    ap (map entry_key) (put_of es new key n v is) ∙ set_keys key_eq key_of key (keys_decide key) n v es i w,
  )
  with_present (Err e) i is none w = absurd (no_place (key_eq key) key_of (key_of key) (keys_decide key) es (ap is_some none) i w.here)

  pub with_absent : (r : Result A E) → OnOk r (IsPut es new key n v) → (Contains (map entry_key es) (key_of key) → ⊥)
      → IfOk r (λ _. (pairs_of new ≡ pairs_of es ++ (KeyAt (length (map entry_key es)), n) ∷ (ValueAt (length (map entry_key es)), v) ∷ []) × (map entry_key new ≡ map entry_key es ++ key_of key ∷ []))
  with_absent (Ok a) is out = (
    ap pairs_of (put_of es new key n v is) ∙ new_pairs key_eq key_of key (keys_decide key) n v es 0 out
        ∙ ap (λ m. pairs_of es ++ (KeyAt m, n) ∷ (ValueAt m, v) ∷ []) (let z : 0 + length (map entry_key es) ≡ length (map entry_key es) = omega arith in z),
    ap (map entry_key) (put_of es new key n v is) ∙ new_keys key_eq key_of key (keys_decide key) n v es out,
  )
  with_absent (Err e) is out = tt

  pub with_within : (r : Result A E) → OnOk r (IsPut es new key n v) → OnErr r (new ≡ es) → (m : ℕ) → AllWithin m (pairs_of es) → IsWithin m n → IsWithin m v → AllWithin m (pairs_of new)
  with_within (Ok a) is same m all wn wv = subst (λ fs. AllWithin m (pairs_of fs)) (sym (put_of es new key n v is)) (put_within key_eq key_of key (keys_decide key) n v m es 0 all wn wv)
  with_within (Err e) is same m all wn wv = subst (λ fs. AllWithin m (pairs_of fs)) (sym same) all

  pub with_below : (r : Result A E) → OnOk r (IsPut es new key n v) → OnErr r (new ≡ es) → (e : ℕ × List Object) → Contains (below_parts (pairs_of new)) e
      → Contains (below_parts (pairs_of es)) e ⊎ Contains (below_ref n ++ below_ref v) e
  with_below (Ok a) is same e has = put_below key_eq key_of key (keys_decide key) n v es 0 e (subst (λ fs. Contains (below_parts (pairs_of fs)) e) (put_of es new key n v is) has)
  with_below (Err x) is same e has = inl (subst (λ fs. Contains (below_parts (pairs_of fs)) e) same has)

  pub with_refused : (r : Result A E) → OnErr r (new ≡ es) → OnErr r ((pairs_of new ≡ pairs_of es) × (map entry_key new ≡ map entry_key es))
  with_refused (Ok a) same = tt
  with_refused (Err x) same = (ap pairs_of same, ap (map entry_key) same)
