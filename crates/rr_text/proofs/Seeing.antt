-- What a space tells of a reference is what the graph has there.
use Rattle.std.proofs.Common.{◌≡◌, ℕ, ◌<◌, List, [], ◌∷◌, map, length, slice_get, Option, Some, None, Contains, refl, ap, sym, ◌∙◌, arith}
use Rattle.std.specs.Option.{option_map, option_and_then}
use Rattle.std.proofs.lemmas.List.Elements.{Contains-append_right}
use Rattle.std.proofs.lemmas.Option.{slice_get-map, slice_get_within}
use Rattle.rr_space.specs.Graph.{Name, Own, Published, Value, Plain, At, Label, Object, Kind, text, array, hash, plain, exception, shell}
use Rattle.rr_space.specs.Tables.{Slot, Here, Led, Below, Table, Whole, outer_objects, numbered, numbered_triple, numbered_object, published_at, resolve, resolve_slot, resolve_triple, resolve_object, object_in, graph_of}
use Rattle.rr_space.specs.Sound.{IsStanding, IsBelowSound, IsTableSound}
use Rattle.rr_space.specs.Parts.{value_of, bytes_of}
use Rattle.rr_space.specs.Views.{object_at, slot_object, text_at}
use Rattle.rr_space.specs.Kinds.{object_kind, object_class, kind_at, class_at}
use Rattle.rr_space.specs.Labels.{triples_of, triples_at}
use Rattle.rr_space.specs.declared.refer.Ref.{Ref}
use Rattle.rr_space.specs.declared.refer.Ref.TheVariants.{Nil, False, True, Int, Symbol, Class, Ractor, Local, Shared}
use Rattle.rr_space.specs.declared.kind.Kind.TheVariants.{Nil as NilKind}
use Rattle.rr_space.proofs.Spaces.{entry_of}
use Rattle.rr_space.proofs.Sounds.{finds, gets, joined_in}
use Rattle.rr_text.specs.Forms.{standing}
use Rattle.rr_text.specs.Reads.{IsAmong, IsReadWith}
use Rattle.rr_text.specs.Told.{told_kind}

-- a published object leads to no slot
standing_same : (slots : List Slot) (b : Below) (x : Value) → IsStanding 0 b x → resolve slots x ≡ x
standing_same slots b (Plain i) h = refl
standing_same slots b (At (Own n)) h = absurd (let w : ⊥ = omega (arith, h) in w)
standing_same slots b (At (Published c p)) h = refl

triples_sealed : (slots : List Slot) (b : Below) (ts : List (Label × Value)) → ((l : Label) (x : Value) → Contains ts (l, x) → IsStanding 0 b x) → map (resolve_triple slots) ts ≡ ts
triples_sealed slots b [] h = refl
triples_sealed slots b (t ∷ ts) h =
    let here : resolve slots t.1 ≡ t.1 = standing_same slots b t.1 (h t.0 t.1 (0, omega arith, refl)) in
    ap (λ x. (t.0, x) ∷ map (resolve_triple slots) ts) here
    ∙ ap (λ xs. t ∷ xs) (triples_sealed slots b ts (λ l x has. h l x (Contains-append_right (t ∷ []) ts (l, x) has)))

sealed_same : (slots : List Slot) (b : Below) (os : List Object) (c p : ℕ) → IsBelowSound b → Contains b (c, os) → option_map (resolve_object slots) (slice_get os p) ≡ slice_get os p
sealed_same slots b os c p sound has = by (slice_get os p) refl
  where
    by : (v : Option Object) → slice_get os p ≡ v → option_map (resolve_object slots) v ≡ v
    by None e = refl
    by (Some o) e = ap (λ ts. Some (record o { triples = ts })) (triples_sealed slots b o.triples (sound.within c os p o has e))

-- an object that is seen from outside of its cluster leads to no slot
numbered_same : (slots : List Slot) (c : ℕ) (x : Value) → resolve slots (numbered c x) ≡ numbered c x
numbered_same slots c (Plain i) = refl
numbered_same slots c (At (Own n)) = refl
numbered_same slots c (At (Published d p)) = refl

triples_outer : (slots : List Slot) (c : ℕ) (ts : List (Label × Value)) → map (resolve_triple slots) (map (numbered_triple c) ts) ≡ map (numbered_triple c) ts
triples_outer slots c [] = refl
triples_outer slots c (t ∷ ts) =
    ap (λ x. (t.0, x) ∷ map (resolve_triple slots) (map (numbered_triple c) ts)) (numbered_same slots c t.1)
    ∙ ap (λ xs. numbered_triple c t ∷ xs) (triples_outer slots c ts)

outer_same : (slots : List Slot) (w : Whole) (p : ℕ) → option_map (resolve_object slots) (slice_get (outer_objects w) p) ≡ slice_get (outer_objects w) p
outer_same slots w p =
    ap (option_map (resolve_object slots)) (slice_get-map (numbered_object w.number) w.own p) ∙ by (slice_get w.own p) ∙ sym (slice_get-map (numbered_object w.number) w.own p)
  where
    by : (v : Option Object) → option_map (resolve_object slots) (option_map (numbered_object w.number) v) ≡ option_map (numbered_object w.number) v
    by None = refl
    by (Some o) = ap (λ ts. Some (record o { triples = ts })) (triples_outer slots w.number o.triples)

-- where a number names one cluster, it is found under it
found : (below : Below) (c p : ℕ) (os : List Object) → ((a : ℕ) (xs ys : List Object) → Contains below (a, xs) → Contains below (a, ys) → xs ≡ ys) → Contains below (c, os)
    → published_at below c p ≡ slice_get os p
found below c p os one has =
    let f = finds below c os has in
    ap (option_and_then (λ (xs : List Object). slice_get xs p)) f.1
    ∙ ap (λ (xs : List Object). slice_get xs p) (one c f.0 os (entry_of below c f.0 f.1) has)

led_seen : (t : Table) (below : Below) (m c p : ℕ) → IsTableSound t.slots t.below → IsReadWith t below → slice_get t.slots m ≡ Some (Led c p)
    → published_at below c p ≡ option_map (resolve_object t.slots) (slot_object (Some (Led c p)) (slice_get t.below m))
led_seen t below m c p sound read h =
    let lt : m < length t.slots = slice_get_within t.slots m (Led c p) h in
    let fits : m < length t.below = omega (arith, lt, sound.count) in
    let b = gets t.below m fits in
    let place = sound.slots m (Led c p) b.0 h b.1 in
    let f = finds b.0 c place.0 place.1 in
    let has : Contains b.0 (c, f.0) = entry_of b.0 c f.0 f.1 in
    let inside : Contains below (c, f.0) = read.all (c, f.0) (joined_in t.below m b.0 (c, f.0) b.1 has) in
    found below c p f.0 read.one inside
    ∙ sym (sealed_same t.slots b.0 f.0 c p (sound.below m b.0 b.1) has)
    ∙ ap (λ v. option_map (resolve_object t.slots) (option_and_then (λ (xs : List Object). slice_get xs p) v)) (sym f.1)
    ∙ ap (λ v. option_map (resolve_object t.slots) (slot_object (Some (Led c p)) v)) (sym b.1)

local_seen : (t : Table) (below : Below) (m : ℕ) (n : Name) (s : Option Slot) → IsTableSound t.slots t.below → IsReadWith t below → slice_get t.slots m ≡ s
    → At (resolve_slot s m) ≡ At n → graph_of t.slots below n ≡ option_map (resolve_object t.slots) (slot_object s (slice_get t.below m))
local_seen t below m n None sound read h e =
    let is : n ≡ Own m = cc in
    ap (graph_of t.slots below) is ∙ ap (option_and_then (object_in t.slots)) h
local_seen t below m n (Some (Here o)) sound read h e =
    let is : n ≡ Own m = cc in
    ap (graph_of t.slots below) is ∙ ap (option_and_then (object_in t.slots)) h
local_seen t below m n (Some (Led c p)) sound read h e =
    let is : n ≡ Published c p = cc in
    ap (graph_of t.slots below) is ∙ led_seen t below m c p sound read h

-- the object of the graph is the one that the reference leads to, its values resolved
pub seen : (t : Table) (below : Below) (r : Ref) (n : Name) → IsTableSound t.slots t.below → IsReadWith t below → IsAmong below r → resolve t.slots (value_of r) ≡ At n
    → graph_of t.slots below n ≡ option_map (resolve_object t.slots) (object_at t r)
seen t below Nil n sound read among e = absurd (let w : ⊥ = cc in w)
seen t below False n sound read among e = absurd (let w : ⊥ = cc in w)
seen t below True n sound read among e = absurd (let w : ⊥ = cc in w)
seen t below (Int z) n sound read among e = absurd (let w : ⊥ = cc in w)
seen t below (Symbol s) n sound read among e = absurd (let w : ⊥ = cc in w)
seen t below (Class c) n sound read among e = absurd (let w : ⊥ = cc in w)
seen t below (Ractor c) n sound read among e = absurd (let w : ⊥ = cc in w)
seen t below (Local m) n sound read among e = local_seen t below m n (slice_get t.slots m) sound read refl e
seen t below (Shared p c) n sound read among e =
    let is : n ≡ Published c.now.number p = cc in
    let has : Contains below (c.now.number, outer_objects c.now) = among (c.now.number, outer_objects c.now) (0, omega arith, refl) in
    ap (graph_of t.slots below) is ∙ found below c.now.number p (outer_objects c.now) read.one has ∙ sym (outer_same t.slots c.now p)

pub kind_seen : (t : Table) (r : Ref) (n : Name) → resolve t.slots (value_of r) ≡ At n → kind_at t r ≡ object_kind (object_at t r)
kind_seen t Nil n e = absurd (let w : ⊥ = cc in w)
kind_seen t False n e = absurd (let w : ⊥ = cc in w)
kind_seen t True n e = absurd (let w : ⊥ = cc in w)
kind_seen t (Int z) n e = absurd (let w : ⊥ = cc in w)
kind_seen t (Symbol s) n e = absurd (let w : ⊥ = cc in w)
kind_seen t (Class c) n e = absurd (let w : ⊥ = cc in w)
kind_seen t (Ractor c) n e = absurd (let w : ⊥ = cc in w)
kind_seen t (Local m) n e = refl
kind_seen t (Shared p c) n e = refl

pub class_seen : (t : Table) (r : Ref) (n : Name) → resolve t.slots (value_of r) ≡ At n → class_at t r ≡ object_class (object_at t r)
class_seen t Nil n e = absurd (let w : ⊥ = cc in w)
class_seen t False n e = absurd (let w : ⊥ = cc in w)
class_seen t True n e = absurd (let w : ⊥ = cc in w)
class_seen t (Int z) n e = absurd (let w : ⊥ = cc in w)
class_seen t (Symbol s) n e = absurd (let w : ⊥ = cc in w)
class_seen t (Class c) n e = absurd (let w : ⊥ = cc in w)
class_seen t (Ractor c) n e = absurd (let w : ⊥ = cc in w)
class_seen t (Local m) n e = refl
class_seen t (Shared p c) n e = refl

named_back : (k : Kind) (o : Object) → o.kind ≡ k → told_kind (object_kind (Some o)) ≡ k
named_back text o e = ap (λ k. told_kind (object_kind (Some (record o { kind = k })))) e
named_back array o e = ap (λ k. told_kind (object_kind (Some (record o { kind = k })))) e
named_back hash o e = ap (λ k. told_kind (object_kind (Some (record o { kind = k })))) e
named_back plain o e = ap (λ k. told_kind (object_kind (Some (record o { kind = k })))) e
named_back exception o e = ap (λ k. told_kind (object_kind (Some (record o { kind = k })))) e
named_back shell o e = ap (λ k. told_kind (object_kind (Some (record o { kind = k })))) e

kind_same : (slots : List Slot) (o : Option Object) → (standing (option_map (resolve_object slots) o)).kind ≡ told_kind (object_kind o)
kind_same slots None = refl
kind_same slots (Some o) = sym (named_back o.kind o refl)

class_same : (slots : List Slot) (o : Option Object) → (object_kind o ≡ NilKind → ⊥) → (standing (option_map (resolve_object slots) o)).class ≡ (object_class o).0
class_same slots None h = absurd (h refl)
class_same slots (Some o) h = refl

bytes_same : (slots : List Slot) (o : Option Object) → (standing (option_map (resolve_object slots) o)).bytes ≡ bytes_of o
bytes_same slots None = refl
bytes_same slots (Some o) = refl

triples_same : (slots : List Slot) (o : Option Object) → (standing (option_map (resolve_object slots) o)).triples ≡ map (resolve_triple slots) (triples_of o)
triples_same slots None = refl
triples_same slots (Some o) = refl

module _ (t : Table) (below : Below) (r : Ref) (n : Name) (sound : IsTableSound t.slots t.below) (read : IsReadWith t below) (among : IsAmong below r) (e : resolve t.slots (value_of r) ≡ At n) where
  pub kind_is : (standing (graph_of t.slots below n)).kind ≡ told_kind (kind_at t r)
  kind_is = ap (λ o. (standing o).kind) (seen t below r n sound read among e) ∙ kind_same t.slots (object_at t r) ∙ ap told_kind (sym (kind_seen t r n e))

  pub class_is : (kind_at t r ≡ NilKind → ⊥) → (standing (graph_of t.slots below n)).class ≡ (class_at t r).0
  class_is some =
      ap (λ o. (standing o).class) (seen t below r n sound read among e) ∙ class_same t.slots (object_at t r) (λ h. some (kind_seen t r n e ∙ h)) ∙ ap (λ c. c.0) (sym (class_seen t r n e))

  pub bytes_are : (standing (graph_of t.slots below n)).bytes ≡ text_at t r
  bytes_are = ap (λ o. (standing o).bytes) (seen t below r n sound read among e) ∙ bytes_same t.slots (object_at t r)

  pub triples_are : (standing (graph_of t.slots below n)).triples ≡ map (resolve_triple t.slots) (triples_at t r)
  triples_are = ap (λ o. (standing o).triples) (seen t below r n sound read among e) ∙ triples_same t.slots (object_at t r)

-- what a name was resolved to is at its end
pub ends : (slots : List Slot) (v : Value) → resolve slots (resolve slots v) ≡ resolve slots v
ends slots (Plain i) = refl
ends slots (At (Published c p)) = refl
ends slots (At (Own m)) = by (slice_get slots m) refl
  where
    by : (s : Option Slot) → slice_get slots m ≡ s → resolve slots (At (resolve_slot s m)) ≡ At (resolve_slot s m)
    by None h = ap (λ s. At (resolve_slot s m)) h
    by (Some (Here o)) h = ap (λ s. At (resolve_slot s m)) h
    by (Some (Led c p)) h = refl
