-- What stands in one slot of a table, taken out and put in.
use Rattle.std.proofs.Common.{◌≡◌, ℕ, zero, suc, ◌≤◌, List, [], ◌∷◌, length, map, slice_get, slice_set, Some, sym, ap, ◌∙◌, subst, refl, arith, length-set}
use Rattle.std.specs.Option.{option_map}
use Rattle.std.proofs.lemmas.List.{length-map}
use Rattle.std.proofs.lemmas.Option.{slice_get-map, same_Some, none-some}
use Rattle.rr_space.specs.Graph.{Object}
use Rattle.rr_space.specs.Tables.{Here, Table}
use Rattle.rr_space.specs.Views.{slot_of, below_held, held_keys, with_held, StandsAt, IsHeldWithin, AllHeldWithin}
use Rattle.rr_space.specs.declared.refer.Ref.{Ref}
use Rattle.rr_space.specs.declared.refer.Ref.TheVariants.{Local}
use Rattle.rr_space.specs.declared.node.Held.{Held}

pub map_set : {A B : Type 0} (f : A → B) (xs : List A) (n : ℕ) (x : A) → map f (slice_set xs n x) ≡ slice_set (map f xs) n (f x)
map_set f [] n x = refl
map_set f (y ∷ xs) zero x = refl
map_set f (y ∷ xs) (suc n) x = ap (λ ys. f y ∷ ys) (map_set f xs n x)

set_twice : {A : Type 0} (xs : List A) (n : ℕ) (x y : A) → slice_set (slice_set xs n x) n y ≡ slice_set xs n y
set_twice [] n x y = refl
set_twice (z ∷ xs) zero x y = refl
set_twice (z ∷ xs) (suc n) x y = ap (λ ys. z ∷ ys) (set_twice xs n x y)

pub set_back : {A : Type 0} (xs : List A) (n : ℕ) (x : A) → slice_get xs n ≡ Some x → slice_set xs n x ≡ xs
set_back [] n x e = refl
set_back (y ∷ xs) zero x e = ap (λ z. z ∷ xs) (sym (same_Some y x e))
set_back (y ∷ xs) (suc n) x e = ap (λ ys. y ∷ ys) (set_back xs n x e)

abbrev pub table_of : List Held → ℕ → ℕ → ℕ → Table
table_of hs limit owner next = record { slots = map slot_of hs; below = map below_held hs; keys = map held_keys hs; limit = limit; owner = owner; next_message = next }

-- a table whose slot n is something else
pub put_is : (hs : List Held) (limit owner next : ℕ) (t : Table) (n : ℕ) (h : Held) → table_of hs limit owner next ≡ t → table_of (slice_set hs n h) limit owner next ≡ with_held t n h
put_is hs limit owner next t n h e = subst (λ u. table_of (slice_set hs n h) limit owner next ≡ with_held u n h) e
    (ap (λ a. record { slots = a; below = map below_held (slice_set hs n h); keys = map held_keys (slice_set hs n h); limit = limit; owner = owner; next_message = next }) (map_set slot_of hs n h)
    ∙ ap (λ a. record { slots = slice_set (map slot_of hs) n (slot_of h); below = a; keys = map held_keys (slice_set hs n h); limit = limit; owner = owner; next_message = next }) (map_set below_held hs n h)
    ∙ ap (λ a. record { slots = slice_set (map slot_of hs) n (slot_of h); below = slice_set (map below_held hs) n (below_held h); keys = a; limit = limit; owner = owner; next_message = next }) (map_set held_keys hs n h))

read_at : {B : Type 0} (f : Held → B) (hs : List Held) (n : ℕ) (h : Held) → slice_get hs n ≡ Some h → slice_get (map f hs) n ≡ Some (f h)
read_at f hs n h at = slice_get-map f hs n ∙ ap (option_map f) at

pub count_is : (hs : List Held) (limit owner next : ℕ) (t : Table) → table_of hs limit owner next ≡ t → length t.slots ≡ length hs
count_is hs limit owner next t e = ap (λ (u : Table). length u.slots) (sym e) ∙ length-map hs slot_of

pub stands : (hs : List Held) (limit owner next : ℕ) (t : Table) (n : ℕ) (h : Held) → table_of hs limit owner next ≡ t → slice_get hs n ≡ Some h → StandsAt t n h
stands hs limit owner next t n h e at = subst (λ u. StandsAt u n h) e
    (record { slot = read_at slot_of hs n h at; below = read_at below_held hs n h at; keys = read_at held_keys hs n h at })

pub within_at : (k : ℕ) (hs : List Held) (n : ℕ) (h : Held) → AllHeldWithin k hs → slice_get hs n ≡ Some h → IsHeldWithin k h
within_at k [] n h all at = absurd (none-some h at)
within_at k (x ∷ hs) zero h all at = subst (IsHeldWithin k) (same_Some x h at) all.0
within_at k (x ∷ hs) (suc n) h all at = within_at k hs n h all.1 at

pub set_within : (k : ℕ) (hs : List Held) (n : ℕ) (h : Held) → AllHeldWithin k hs → IsHeldWithin k h → AllHeldWithin k (slice_set hs n h)
set_within k [] n h all w = tt
set_within k (x ∷ hs) zero h all w = (w, all.1)
set_within k (x ∷ hs) (suc n) h all w = (all.0, set_within k hs n h all.1 w)

pub put_twice : (t : Table) (n : ℕ) (a b : Held) → with_held (with_held t n a) n b ≡ with_held t n b
put_twice t n a b =
    ap (λ x. record t { slots = x; below = slice_set (slice_set t.below n (below_held a)) n (below_held b); keys = slice_set (slice_set t.keys n (held_keys a)) n (held_keys b) }) (set_twice t.slots n (slot_of a) (slot_of b))
    ∙ ap (λ x. record t { slots = slice_set t.slots n (slot_of b); below = x; keys = slice_set (slice_set t.keys n (held_keys a)) n (held_keys b) }) (set_twice t.below n (below_held a) (below_held b))
    ∙ ap (λ x. record t { slots = slice_set t.slots n (slot_of b); below = slice_set t.below n (below_held b); keys = x }) (set_twice t.keys n (held_keys a) (held_keys b))

-- a slot that is put back
pub put_back : (t : Table) (n : ℕ) (h : Held) → StandsAt t n h → with_held t n h ≡ t
put_back t n h s =
    ap (λ x. record t { slots = x; below = slice_set t.below n (below_held h); keys = slice_set t.keys n (held_keys h) }) (set_back t.slots n (slot_of h) s.slot)
    ∙ ap (λ x. record t { below = x; keys = slice_set t.keys n (held_keys h) }) (set_back t.below n (below_held h) s.below)
    ∙ ap (λ x. record t { keys = x }) (set_back t.keys n (held_keys h) s.keys)

pub set_well : (hs : List Held) (limit n : ℕ) (h : Held) → (length hs ≤ limit) × AllHeldWithin (length hs) hs → IsHeldWithin (length hs) h
    → (length (slice_set hs n h) ≤ limit) × AllHeldWithin (length (slice_set hs n h)) (slice_set hs n h)
set_well hs limit n h all w =
    let e = length-set hs n h in
    (omega (arith, e, all.0), subst (λ k. AllHeldWithin k (slice_set hs n h)) (sym e) (set_within (length hs) hs n h all.1 w))

-- taken out and put in is put in
pub put_after : (t mid new : Table) (n : ℕ) (a b : Held) → mid ≡ with_held t n a → new ≡ with_held mid n b → new ≡ with_held t n b
put_after t mid new n a b e f = f ∙ ap (λ u. with_held u n b) e ∙ put_twice t n a b

-- the slot, once its object was changed by f
pub changed_slots : (f : Object → Object) (t new : Table) (n m : ℕ) (v : Ref) (h h2 : Held) (o p : Object) → v ≡ Local n → v ≡ Local m → StandsAt t n h → slot_of h ≡ Here p → slot_of h2 ≡ Here (f p)
    → new ≡ with_held t n h2 → slice_get t.slots m ≡ Some (Here o) → new.slots ≡ slice_set t.slots m (Here (f o))
changed_slots f t new n m v h h2 o p is_n is_m s was is e at =
    let same : n ≡ m = local_same n m (sym is_n ∙ is_m) in
    let here : Here p ≡ Here o = sym was ∙ same_Some _ _ (sym s.slot ∙ ap (slice_get t.slots) same ∙ at) in
    ap (λ (u : Table). u.slots) e ∙ ap (λ k. slice_set t.slots k (slot_of h2)) same ∙ ap (slice_set t.slots m) is ∙ ap (λ x. slice_set t.slots m (Here (f x))) (here_same p o here)
  where
    local_same : (n m : ℕ) → Local n ≡ Local m → n ≡ m
    local_same n m e = cc

    here_same : (p o : Object) → Here p ≡ Here o → p ≡ o
    here_same p o e = cc

pub below_back : (t new : Table) (n : ℕ) (h h2 : Held) → StandsAt t n h → new ≡ with_held t n h2 → below_held h2 ≡ below_held h → new.below ≡ t.below
below_back t new n h h2 s e same = ap (λ (u : Table). u.below) e ∙ ap (slice_set t.below n) same ∙ set_back t.below n (below_held h) s.below

pub keys_back : (t new : Table) (n : ℕ) (h h2 : Held) → StandsAt t n h → new ≡ with_held t n h2 → held_keys h2 ≡ held_keys h → new.keys ≡ t.keys
keys_back t new n h h2 s e same = ap (λ (u : Table). u.keys) e ∙ ap (slice_set t.keys n) same ∙ set_back t.keys n (held_keys h) s.keys
