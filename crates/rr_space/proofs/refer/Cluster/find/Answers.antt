use Rattle.std.proofs.Common.{map, Option, IfSome, ◌≡◌, ◌<◌, ℕ, List, length, slice_get, Some, Contains, refl, sym, ap, ◌∙◌, subst, arith}
use Rattle.std.specs.Option.{option_map}
use Rattle.std.proofs.lemmas.List.{length-map}
use Rattle.std.proofs.lemmas.Option.{slice_get-map, slice_get_read, slice_get_within, same_Some}
use Rattle.rr_space.specs.Graph.{Object, hash}
use Rattle.rr_space.specs.Tables.{Below, Whole, below_hold, outer_objects, numbered_object}
use Rattle.rr_space.specs.Parts.{sealed_object, sealed_kind, below_parts, pairs_from}
use Rattle.rr_space.specs.Views.{key_of}
use Rattle.rr_space.specs.Lookups.{IsPairOf}
use Rattle.rr_space.specs.declared.refer.Sealed.{Sealed}
use Rattle.rr_space.specs.declared.refer.Sealed.TheVariants.{Text, Array, Hash, Object as PlainObject, Exception}
use Rattle.rr_space.proofs.PublishedKeys.{among}
use Rattle.rr_space.proofs.Sounds.{in_later}
use Rattle.rr_space.proofs.Wells.{cluster_of, sealed_in}
use Rattle.rr_space.specs.Labels.{IsPairThere, triples_of}
use Rattle.rr_space.specs.Kinds.{object_kind}
use Rattle.rr_space.specs.Parts.{value_triple}
use Rattle.rr_space.proofs.Finding.{pair_there, numbered_there}
use Rattle.rr_space.proofs.Knowing.{if_some}
use Rattle.rr_space.proofs.Named.{indexed_at, by_key, within_pairs}
use Rattle.rr_space.specs.Indexes.{IsFirstNamed}
use Rattle.rr_space.specs.contracts.node.KeyPartialEq.TheImpl.{eq-value}
use Rattle.std.specs.Map.{lookup}
use Rattle.rr_space.proofs.refer.Cluster.find.Goals as goal

-- what stands under a place, seen from outside
object_is : (n : ℕ) (ss : List Sealed) (w : Whole) (place : ℕ) (s : Sealed) (o : Object) → cluster_of n ss ≡ w → slice_get ss place ≡ Some s → slice_get (outer_objects w) place ≡ Some o
    → numbered_object w.number (sealed_object s) ≡ o
object_is n ss w place s o is at found =
    let own : slice_get w.own place ≡ Some (sealed_object s) = ap (λ (x : Whole). slice_get x.own place) (sym is) ∙ slice_get-map sealed_object ss place ∙ ap (option_map sealed_object) at in
    same_Some (numbered_object w.number (sealed_object s)) o (sym (slice_get-map (numbered_object w.number) w.own place ∙ ap (option_map (numbered_object w.number)) own) ∙ found)

outer_at : (n : ℕ) (ss : List Sealed) (w : Whole) (place : ℕ) (s : Sealed) → cluster_of n ss ≡ w → slice_get ss place ≡ Some s
    → slice_get (outer_objects w) place ≡ Some (numbered_object w.number (sealed_object s))
outer_at n ss w place s is at =
    slice_get-map (numbered_object w.number) w.own place
    ∙ ap (option_map (numbered_object w.number)) (ap (λ (x : Whole). slice_get x.own place) (sym is) ∙ slice_get-map sealed_object ss place ∙ ap (option_map sealed_object) at)

no_hash : (s : Sealed) → sealed_kind s ≡ hash → (x : _) × (s ≡ Hash x)
no_hash (Hash ps) e = (ps, refl)
no_hash (Text b) e = absurd (let w : ⊥ = cc in w)
no_hash (Array rs) e = absurd (let w : ⊥ = cc in w)
no_hash (PlainObject c fs) e = absurd (let w : ⊥ = cc in w)
no_hash (Exception c r) e = absurd (let w : ⊥ = cc in w)

pub returns-in_default-get-clause-found : goal.returns-in_default-get-clause-found
returns-in_default-get-clause-found c = λ o found kind one.
    let ss = c.self.inside.nodes.items in
    let w = c.args.self.now in
    let pairs = c.in-Hash.pairs.items in
    let lt : c.args.place < length ss = omega (arith, c.self.inside.nodes.ok) in
    let at = slice_get_read ss (length ss) c.args.place c.index.result.now refl lt c.index.ensures ∙ ap Some c.in-Hash.is in
    let is = object_is c.self.inside.number ss w c.args.place (Hash c.in-Hash.pairs) o c.self.view_is at found in
    let more = λ (e : ℕ × List Object) (has : Contains (below_parts (pairs_from 0 pairs)) e).
    in_later (w.number, outer_objects w) w.below e (subst (λ (b : Below). Contains b e) (ap (λ (x : Whole). x.below) c.self.view_is) (sealed_in ss c.args.place (Hash c.in-Hash.pairs) e at has))
    in
    subst (λ (y : Object). IsPairOf (below_hold w) y.triples (key_of c.args.key.now) c.find_among.result) is
    (among w pairs (key_of c.args.key.now) c.find_among.result ((rw c.deref-in_default-get.ensures.value at c.find_among.ensures.found) one more))

pub returns-in_default-clause-found : goal.returns-in_default-clause-found
returns-in_default-clause-found c = λ o found kind one.
    let ss = c.self.inside.nodes.items in
    let w = c.args.self.now in
    let s = c.index.result.now in
    let lt : c.args.place < length ss = omega (arith, c.self.inside.nodes.ok) in
    let at = slice_get_read ss (length ss) c.args.place s refl lt c.index.ensures in
    let is = object_is c.self.inside.number ss w c.args.place s o c.self.view_is at found in
    let h = no_hash s (ap (λ (y : Object). y.kind) is ∙ kind) in
    absurd (c.in_default.not-Hash h.0 h.1)

pub returns-else-place-len-clause-found : goal.returns-else-place-len-clause-found
returns-else-place-len-clause-found c = λ o found kind one.
    let ss = c.self.inside.nodes.items in
    let w = c.args.self.now in
    let lt = slice_get_within (outer_objects w) c.args.place o found in
    let size : length (outer_objects w) ≡ length ss = length-map w.own (numbered_object w.number) ∙ ap (λ (x : Whole). length x.own) (sym c.self.view_is) ∙ length-map ss sealed_object in
    absurd (let z : ⊥ = omega (arith, lt, size, c.self.inside.nodes.ok) in z)

pub returns-in_default-get-clause-there : goal.returns-in_default-get-clause-there
returns-in_default-get-clause-there c =
    let ss = c.self.inside.nodes.items in
    let w = c.args.self.now in
    let pairs = c.in-Hash.pairs.items in
    let lt : c.args.place < length ss = omega (arith, c.self.inside.nodes.ok) in
    let at = slice_get_read ss (length ss) c.args.place c.index.result.now refl lt c.index.ensures ∙ ap Some c.in-Hash.is in
    let is = outer_at c.self.inside.number ss w c.args.place (Hash c.in-Hash.pairs) c.self.view_is at in
    subst (λ (o : Option Object). IfSome c.find_among.result (λ i. IsPairThere (triples_of o) i)) (sym is)
    (if_some c.find_among.result _ _ (λ i below. numbered_there w.number (map value_triple (pairs_from 0 pairs)) i (pair_there pairs i below)) (rw c.deref-in_default-get.ensures.value at c.find_among.ensures.there))

pub returns-in_default-get-clause-none : goal.returns-in_default-get-clause-none
returns-in_default-get-clause-none c = λ no.
    let ss = c.self.inside.nodes.items in
    let w = c.args.self.now in
    let lt : c.args.place < length ss = omega (arith, c.self.inside.nodes.ok) in
    let at = slice_get_read ss (length ss) c.args.place c.index.result.now refl lt c.index.ensures ∙ ap Some c.in-Hash.is in
    absurd (no (ap object_kind (outer_at c.self.inside.number ss w c.args.place (Hash c.in-Hash.pairs) c.self.view_is at)))

-- the first pair by the index of the hash
pub returns-in-Some-Some-clause-found : goal.returns-in-Some-Some-clause-found
returns-in-Some-Some-clause-found c = λ o found kind one.
    let ss = c.self.inside.nodes.items in
    let w = c.args.self.now in
    let key = key_of c.args.key.now in
    let pairs = c.in-Hash.pairs.items in
    let lt : c.args.place < length ss = omega (arith, c.self.inside.nodes.ok) in
    let at = slice_get_read ss (length ss) c.args.place c.index.result.now refl lt c.index.ensures ∙ ap Some c.in-Hash.is in
    let is = object_is c.self.inside.number ss w c.args.place (Hash c.in-Hash.pairs) o c.self.view_is at found in
    let more = λ (e : ℕ × List Object) (has : Contains (below_parts (pairs_from 0 pairs)) e).
    in_later (w.number, outer_objects w) w.below e (subst (λ (b : Below). Contains b e) (ap (λ (x : Whole). x.below) c.self.view_is) (sealed_in ss c.args.place (Hash c.in-Hash.pairs) e at has))
    in
    let x = c.in-Some-Some.ensures.lookup in
    let held = c.deref.result.now in
    let has = ap (λ xs. slice_get xs c.args.place) (sym c.deref.ensures.value) ∙ slice_get_read held (length held) c.args.place c.in-Some-Some.field-0.now refl x.3.0 x.1 ∙ ap Some c.in-Some-Some.field-0-is in
    let index = indexed_at (λ b. b.value.entries) ss c.self.inside.indexes.items c.args.place c.in-Hash.pairs c.in-Some-Some.firsts c.self.invariant.1 at has in
    let answer = c.copied.ensures ∙ c.get-in-Some-Some.ensures.value ∙ ap (λ m. lookup (eq-value.it c.args.key.now) m.entries) c.deref-in-Some-Some.ensures in
    let first = subst (λ (own : List Object). IsFirstNamed own pairs (length pairs) key c.copied.result) (ap (λ (x : Whole). x.own) c.self.view_is)
    (subst (IsFirstNamed (map sealed_object ss) pairs (length pairs) key) (sym answer) (index c.args.key.now)) in
    subst (λ (y : Object). IsPairOf (below_hold w) y.triples key c.copied.result) is (among w pairs key c.copied.result (by_key w one pairs more key c.copied.result first))

pub returns-in-Some-Some-clause-there : goal.returns-in-Some-Some-clause-there
returns-in-Some-Some-clause-there c =
    let ss = c.self.inside.nodes.items in
    let w = c.args.self.now in
    let key = key_of c.args.key.now in
    let pairs = c.in-Hash.pairs.items in
    let lt : c.args.place < length ss = omega (arith, c.self.inside.nodes.ok) in
    let at = slice_get_read ss (length ss) c.args.place c.index.result.now refl lt c.index.ensures ∙ ap Some c.in-Hash.is in
    let is = outer_at c.self.inside.number ss w c.args.place (Hash c.in-Hash.pairs) c.self.view_is at in
    let x = c.in-Some-Some.ensures.lookup in
    let held = c.deref.result.now in
    let has = ap (λ xs. slice_get xs c.args.place) (sym c.deref.ensures.value) ∙ slice_get_read held (length held) c.args.place c.in-Some-Some.field-0.now refl x.3.0 x.1 ∙ ap Some c.in-Some-Some.field-0-is in
    let index = indexed_at (λ b. b.value.entries) ss c.self.inside.indexes.items c.args.place c.in-Hash.pairs c.in-Some-Some.firsts c.self.invariant.1 at has in
    let answer = c.copied.ensures ∙ c.get-in-Some-Some.ensures.value ∙ ap (λ m. lookup (eq-value.it c.args.key.now) m.entries) c.deref-in-Some-Some.ensures in
    let first = subst (IsFirstNamed (map sealed_object ss) pairs (length pairs) key) (sym answer) (index c.args.key.now) in
    subst (λ (o : Option Object). IfSome c.copied.result (λ i. IsPairThere (triples_of o) i)) (sym is)
    (if_some c.copied.result _ _ (λ i below. numbered_there w.number (map value_triple (pairs_from 0 pairs)) i (pair_there pairs i below)) (within_pairs (map sealed_object ss) pairs (length pairs) key c.copied.result first))

pub returns-in-Some-Some-clause-none : goal.returns-in-Some-Some-clause-none
returns-in-Some-Some-clause-none c = λ out.
    let ss = c.self.inside.nodes.items in
    let w = c.args.self.now in
    let lt : c.args.place < length ss = omega (arith, c.self.inside.nodes.ok) in
    let at = slice_get_read ss (length ss) c.args.place c.index.result.now refl lt c.index.ensures ∙ ap Some c.in-Hash.is in
    absurd (out (ap object_kind (outer_at c.self.inside.number ss w c.args.place (Hash c.in-Hash.pairs) c.self.view_is at)))
