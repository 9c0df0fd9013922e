-- What stands in the slot that a reference names, and what a write of one object makes of the table.
use Rattle.std.proofs.Common.{◌≡◌, ℕ, ◌<◌, ◌⊎◌, ◌↔◌, zero, suc, Bool, List, [], ◌∷◌, map, length, slice_get, slice_set, Option, Some, None, Result, Ok, Err, IfSome, IfNone, IfOk, IsSome, Contains, arith, sym, ap, ◌∙◌, subst, refl, length-set}
use Rattle.std.proofs.lemmas.Bool.{false≢true}
use Rattle.std.proofs.lemmas.Option.{same_Some, slice_get_within}
use Rattle.rr_space.specs.Graph.{Label, Value, Object, Kind, text, array, hash, plain, exception, shell}
use Rattle.rr_space.specs.Tables.{Here, Below, Table, HashKey}
use Rattle.rr_space.specs.Parts.{Parts, value_triple, below_parts}
use Rattle.rr_space.specs.Views.{node_kind, node_class, node_parts, node_keys, node_object, below_node, slot_of, with_held, StandsAt, IsLedAlso, IsHeadKept, IsBareHeadKept}
use Rattle.rr_space.specs.Kinds.{kind_at, kind_named}
use Rattle.rr_space.specs.declared.refer.Ref.{Ref}
use Rattle.rr_space.specs.declared.refer.Ref.TheVariants.{Local}
use Rattle.rr_space.specs.declared.node.Node.{Node}
use Rattle.rr_space.specs.declared.node.Held.TheVariants.{Whole, Shell}
use Rattle.rr_space.proofs.Keeping.{set_same, set_other}
use Rattle.rr_space.proofs.Placing.{put_after, put_back, set_back}
use Rattle.rr_space.proofs.Writing.{kind_is}

kinds_differ : (k l : Kind) → kind_named k ≡ kind_named l → k ≡ l
kinds_differ text text e = refl
kinds_differ array array e = refl
kinds_differ hash hash e = refl
kinds_differ plain plain e = refl
kinds_differ exception exception e = refl
kinds_differ shell shell e = refl
kinds_differ k l e = absurd (let w : ⊥ = cc in w)

-- the kind of the node in the slot
pub kind_of_node : (t : Table) (n : ℕ) (v : Ref) (a : Node) (f : Bool) (k : Kind) → v ≡ Local n → StandsAt t n (Whole f a) → kind_at t v ≡ kind_named k → node_kind a ≡ k
kind_of_node t n v a f k is s e = kinds_differ (node_kind a) k (sym (kind_is t n a f s) ∙ ap (kind_at t) (sym is) ∙ e)

local_one : (n m : ℕ) (v : Ref) → v ≡ Local n → v ≡ Local m → n ≡ m
local_one n m v p q = let e : Local n ≡ Local m = sym p ∙ q in cc

here_same : (p o : Object) → Here p ≡ Here o → p ≡ o
here_same p o e = cc

-- a node whose references were changed, seen as an object
object_with : (a b : Node) (f : Bool) (ts : List (Label × Value)) → IsBareHeadKept a b → map value_triple (node_parts b) ≡ ts → Here (node_object b f) ≡ Here (record (node_object a f) { triples = ts })
object_with a b f ts h e =
    ap (λ k. Here (record (node_object b f) { kind = k })) h.kind
    ∙ ap (λ k. Here (record (node_object b f) { kind = node_kind a; class = k })) h.class
    ∙ ap (λ k. Here (record (node_object b f) { kind = node_kind a; class = node_class a; bytes = k })) h.bytes
    ∙ ap (λ k. Here (record (node_object a f) { triples = k })) e

pub mid_size : (t mid : Table) (n : ℕ) → mid ≡ with_held t n Shell → length mid.slots ≡ length t.slots
mid_size t mid n out = ap (λ (u : Table). length u.slots) out ∙ length-set t.slots n (slot_of Shell)

pub bare : {a b : Node} → IsHeadKept a b → IsBareHeadKept a b
bare h = record { kind = h.kind; class = h.class; bytes = h.bytes }

pub on_some : {A : Type 0} (r : Option A) (P : A → Type 0) → ((x : A) → r ≡ Some x → P x) → IfSome r P
on_some None P f = tt
on_some (Some x) P f = f x refl

pub on_none : {A : Type 0} (r : Option A) (P Q : Type 0) → (P → Q) → IfNone r P → IfNone r Q
on_none None P Q f h = f h
on_none (Some x) P Q f h = tt

pub ok_always : {A E : Type 0} (r : Result A E) (P : Type 0) → P → IfOk r (λ _. P)
ok_always (Ok a) P p = p
ok_always (Err e) P p = tt

-- an element is found exactly at the places that the list has
pub some_within : {A : Type 0} (xs : List A) (i : ℕ) → IsSome (slice_get xs i) ↔ (i < length xs)
some_within xs i = (λ e. there xs i e, λ lt. has xs i lt)
  where
    there : {A : Type 0} (xs : List A) (i : ℕ) → IsSome (slice_get xs i) → i < length xs
    there [] i e = absurd (false≢true e)
    there (x ∷ xs) zero e = omega arith
    there (x ∷ xs) (suc i) e = omega (arith, there xs i e)

    has : {A : Type 0} (xs : List A) (i : ℕ) → i < length xs → IsSome (slice_get xs i)
    has [] i lt = absurd (let w : ⊥ = omega (arith, lt) in w)
    has (x ∷ xs) zero lt = refl
    has (x ∷ xs) (suc i) lt = has xs i (omega (arith, lt))

module _ (t mid new : Table) (n : ℕ) (v : Ref) (a b : Node) (f : Bool) (is : v ≡ Local n) (s : StandsAt t n (Whole f a)) (out : mid ≡ with_held t n Shell) (into : new ≡ with_held mid n (Whole f b)) where
  pub made : new ≡ with_held t n (Whole f b)
  made = put_after t mid new n Shell (Whole f b) out into

  -- what holds of the slot, its object and its keys holds of whatever is found under that reference
  pub of_slot : (P : ℕ → Object → List HashKey → Type 0) → P n (node_object a f) (node_keys a) → (m : ℕ) (o : Object) (ks : List HashKey) → v ≡ Local m
      → slice_get t.slots m ≡ Some (Here o) → slice_get t.keys m ≡ Some ks → P m o ks
  of_slot P p m o ks is_m at keys_at =
      let same : n ≡ m = local_one n m v is is_m in
      let o_is : node_object a f ≡ o = here_same (node_object a f) o (same_Some _ _ (sym s.slot ∙ ap (slice_get t.slots) same ∙ at)) in
      let ks_is : node_keys a ≡ ks = same_Some (node_keys a) ks (sym s.keys ∙ ap (slice_get t.keys) same ∙ keys_at) in
      subst (λ k. P k o ks) same (subst (λ x. P n x ks) o_is (subst (λ x. P n (node_object a f) x) ks_is p))

  pub of_object : (P : ℕ → Object → Type 0) → P n (node_object a f) → (m : ℕ) (o : Object) → v ≡ Local m → slice_get t.slots m ≡ Some (Here o) → P m o
  of_object P p m o is_m at =
      let same : n ≡ m = local_one n m v is is_m in
      subst (λ k. P k o) same (subst (λ x. P n x) (here_same (node_object a f) o (same_Some _ _ (sym s.slot ∙ ap (slice_get t.slots) same ∙ at))) p)

  pub of_keys : (P : ℕ → List HashKey → Type 0) → P n (node_keys a) → (m : ℕ) (ks : List HashKey) → v ≡ Local m → slice_get t.keys m ≡ Some ks → P m ks
  of_keys P p m ks is_m keys_at =
      let same : n ≡ m = local_one n m v is is_m in
      subst (λ k. P k ks) same (subst (λ x. P n x) (same_Some (node_keys a) ks (sym s.keys ∙ ap (slice_get t.keys) same ∙ keys_at)) p)

  pub of_place : (P : ℕ → Type 0) → P n → (m : ℕ) → v ≡ Local m → P m
  of_place P p m is_m = subst P (local_one n m v is is_m) p

  -- the slots, once the references of the object are others
  pub slots_are : (ts : List (Label × Value)) → IsBareHeadKept a b → map value_triple (node_parts b) ≡ ts → new.slots ≡ slice_set t.slots n (Here (record (node_object a f) { triples = ts }))
  slots_are ts h e = ap (λ (u : Table). u.slots) made ∙ ap (slice_set t.slots n) (object_with a b f ts h e)

  pub keys_are : (ks : List HashKey) → node_keys b ≡ ks → new.keys ≡ slice_set t.keys n ks
  keys_are ks e = ap (λ (u : Table). u.keys) made ∙ ap (slice_set t.keys n) e

  pub keys_same : node_keys b ≡ node_keys a → new.keys ≡ t.keys
  keys_same e = keys_are (node_keys a) e ∙ set_back t.keys n (node_keys a) s.keys

  pub led_also : (more : Below) → ((e : ℕ × List Object) → Contains (below_node b) e → Contains (below_node a) e ⊎ Contains more e) → IsLedAlso more n t.below new.below
  led_also more grows =
      let e : new.below ≡ slice_set t.below n (below_node b) = ap (λ (u : Table). u.below) made in
      record {
        size = ap length e ∙ length-set t.below n (below_node b);
        others = λ m differ. ap (λ (bs : List Below). slice_get bs m) e ∙ set_other t.below n m (below_node b) (λ q. differ (sym q));
        same = λ x y d at at2 has.
            let was : below_node a ≡ x = same_Some (below_node a) x (sym s.below ∙ at) in
            let lt : n < length t.below = slice_get_within t.below n (below_node a) s.below in
            let now : below_node b ≡ y = same_Some (below_node b) y (sym (ap (λ (bs : List Below). slice_get bs n) e ∙ set_same t.below n (below_node b) lt) ∙ at2) in
            subst (λ (z : Below). Contains z d ⊎ Contains more d) was (grows d (subst (λ (z : Below). Contains z d) (sym now) has));
      }

  -- a node that is as it was is put back
  pub put_same : IsBareHeadKept a b → node_parts b ≡ node_parts a → node_keys b ≡ node_keys a → new ≡ t
  put_same h e k = made ∙ put_back t n (Whole f b) (record {
    slot = s.slot ∙ ap Some (sym (object_with a b f (map value_triple (node_parts a)) h (ap (map value_triple) e)));
    below = s.below ∙ ap (λ (ts : Parts). Some (below_parts ts)) (sym e);
    keys = s.keys ∙ ap Some (sym k);
  })
