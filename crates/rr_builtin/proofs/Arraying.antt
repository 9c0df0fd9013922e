-- New arrays, and arrays that a value is put into.
use Rattle.std.proofs.Common.{◌≡◌, ◌∙◌, ◌≤◌, ◌<◌, ◌+◌, ◌-◌, ◌⊎◌, ⊎_elim, inl, inr, ℕ, zero, suc, Bool, true, false, nat_lt, if◌then◌else◌, List, [], ◌∷◌, ◌++◌, length, length-append, map, Contains, Some, slice_get, slice_set, refl, sym, ap, subst, arith}
use Rattle.std.specs.List.{All}
use Rattle.std.proofs.lemmas.Bool.{lt-ltb, ltb-true}
use Rattle.std.proofs.lemmas.List.Elements.{Contains-append_left, Contains-append_right, Contains-append_cases}
use Rattle.std.proofs.lemmas.Option.{none-some, same_Some}
use Rattle.rr_base.specs.declared.name.TheConstants.ClassId.{ARRAY}
use Rattle.rr_space.specs.Graph.{Value, At, Own, Place, Object, array}
use Rattle.rr_space.specs.Tables.{Table, Here, Below, joined, IsRestKept}
use Rattle.rr_space.specs.Parts.{value_of, places_from, below_ref, below_parts, IsWithin}
use Rattle.rr_space.specs.Views.{AllWithin, placed_from, object_of, below_node, node_keys}
use Rattle.rr_space.specs.Labels.{triples_at}
use Rattle.rr_space.specs.declared.node.Node.{Node}
use Rattle.rr_space.specs.declared.node.Node.TheVariants.{Array}
use Rattle.rr_space.specs.declared.refer.Ref.{Ref}
use Rattle.rr_space.specs.declared.refer.Ref.TheVariants.{Local}
use Rattle.rr_space.proofs.Removing.{values_placed}
use Rattle.rr_space.proofs.Sounds.{joined_back}
use Rattle.rr_text.specs.Reads.{IsReadWith}
use Rattle.rr_text.specs.Comparing.{values_in}
use Rattle.rr_builtin.specs.declared.built.Built.TheVariants as built
use Rattle.rr_builtin.proofs.Among.{among_of, none_in}
use Rattle.rr_builtin.proofs.Performing.{placed_values}
use Rattle.rr_builtin.specs.Acts.{Gives, with_array, with_object, with_put, nils, IsRefAmong, IsDone}
use Rattle.rr_builtin.specs.Elements.{elements_of}

pub all_places : (k j : ℕ) (rs : List Ref) → All (IsWithin k) rs → AllWithin k (places_from j rs)
all_places k j [] all = tt
all_places k j (r ∷ rs) all = (all 0 r (omega arith), all_places k (j + 1) rs (λ i d lt. all (suc i) d (omega (arith, lt))))

pub parts_among : (below : Below) (j : ℕ) (rs : List Ref) → All (IsRefAmong below) rs → (e : ℕ × List Object) → Contains (below_parts (places_from j rs)) e → Contains below e
parts_among below j [] all e has = none_in e has
parts_among below j (r ∷ rs) all e has = ⊎_elim (λ q. among_of below r (all 0 r (omega arith)) e q)
    (λ q. parts_among below (j + 1) rs (λ i d lt. all (suc i) d (omega (arith, lt))) e q) (Contains-append_cases (below_ref r) (below_parts (places_from (j + 1) rs)) e has)

grown_more : (bs : List Below) (c : Below) (n : ℕ) (b : Below) (e : ℕ × List Object) → slice_get (bs ++ c ∷ []) n ≡ Some b → Contains b e → Contains (joined bs) e ⊎ Contains c e
grown_more [] c zero b e at has = inr (subst (λ (y : Below). Contains y e) (sym (same_Some c b at)) has)
grown_more [] c (suc n) b e at has = absurd (none-some b at)
grown_more (x ∷ bs) c zero b e at has = inl (Contains-append_left x (joined bs) e (subst (λ (y : Below). Contains y e) (sym (same_Some x b at)) has))
grown_more (x ∷ bs) c (suc n) b e at has = ⊎_elim (λ q. inl (Contains-append_right x (joined bs) e q)) (λ q. inr q) (grown_more bs c n b e at has)

pub read_more : (below : Below) (old new : Table) (c : Below) → IsReadWith old below → new.below ≡ old.below ++ c ∷ [] → ((e : ℕ × List Object) → Contains c e → Contains below e) → IsReadWith new below
read_more below old new c read same among = record {
  one = read.one;
  all = λ e has.
      let back = joined_back new.below e has in
      let at : slice_get (old.below ++ c ∷ []) back.0 ≡ Some back.1 = ap (λ (bs : List Below). slice_get bs back.0) (sym same) ∙ back.2 in
      ⊎_elim (read.all e) (among e) (grown_more old.below c back.0 back.1 e at back.3);
}

-- a new array of these references
pub array_done : (below : Below) (old new : Table) (its : List Ref) (r : Ref) → IsReadWith old below → r ≡ Local (length old.slots)
    → new.slots ≡ old.slots ++ Here (object_of (Array its)) ∷ [] → new.below ≡ old.below ++ below_parts (places_from 0 its) ∷ [] → new.keys ≡ old.keys ++ [] ∷ [] → IsRestKept old new
    → All (IsRefAmong below) its → IsDone below (Gives (At (Own (length old.slots))), with_array (map value_of its) old) old new (built.Value r)
array_done below old new its r read name slots led keys rest among =
    let size : length new.slots ≡ length old.slots + 1 = ap length slots ∙ length-append old.slots (Here (object_of (Array its)) ∷ []) in
    let inside : length old.slots < length new.slots = omega (arith, size) in
    record {
      outcome = ap (λ (x : Ref). Gives (value_of x)) name;
      slots = slots ∙ ap (λ ts. old.slots ++ Here (record { kind = array; class = ARRAY.0; bytes = []; frozen = false; triples = ts }) ∷ []) (values_placed its 0);
      keys = keys;
      rest = rest;
      read = read_more below old new (below_parts (places_from 0 its)) read led (parts_among below 0 its among);
      within = subst (λ (x : Ref). IsWithin (length new.slots) x) (sym name) inside;
      among = subst (λ (x : Ref). IsRefAmong below x) (sym name) tt;
    }

-- a new object
pub object_done : (below : Below) (old new : Table) (node : Node) (r : Ref) → IsReadWith old below → r ≡ Local (length old.slots)
    → new.slots ≡ old.slots ++ Here (object_of node) ∷ [] → new.below ≡ old.below ++ below_node node ∷ [] → new.keys ≡ old.keys ++ node_keys node ∷ [] → IsRestKept old new
    → ((e : ℕ × List Object) → Contains (below_node node) e → Contains below e) → IsDone below (Gives (At (Own (length old.slots))), with_object (object_of node) (node_keys node) old) old new (built.Value r)
object_done below old new node r read name slots led keys rest among =
    let size : length new.slots ≡ length old.slots + 1 = ap length slots ∙ length-append old.slots (Here (object_of node) ∷ []) in
    let inside : length old.slots < length new.slots = omega (arith, size) in
    record {
      outcome = ap (λ (x : Ref). Gives (value_of x)) name;
      slots = slots;
      keys = keys;
      rest = rest;
      read = read_more below old new (below_node node) read led among;
      within = subst (λ (x : Ref). IsWithin (length new.slots) x) (sym name) inside;
      among = subst (λ (x : Ref). IsRefAmong below x) (sym name) tt;
    }

not_less : (a b : ℕ) → b ≤ a → nat_lt a b ≡ false
not_less a b le = by (nat_lt a b) refl
  where
    by : (t : Bool) → nat_lt a b ≡ t → t ≡ false
    by true e = absurd (let w = ltb-true a b e in let z : ⊥ = omega (arith, w, le) in z)
    by false e = refl

-- a value in the place of an element
pub put_inside : (k : ℕ) (x : Value) (o : Object) → k < length o.triples → record o { triples = slice_set o.triples k (Place k, x) } ≡ with_put k x o
put_inside k x o lt =
    ap (λ b. record o { triples = if b then slice_set o.triples k (Place k, x) else o.triples ++ placed_from (length o.triples) (nils (k - length o.triples) ++ x ∷ []) }) (sym (lt-ltb k (length o.triples) lt))

put_outside : (k : ℕ) (x : Value) (o : Object) → length o.triples ≤ k → record o { triples = o.triples ++ placed_from (length o.triples) (nils (k - length o.triples) ++ x ∷ []) } ≡ with_put k x o
put_outside k x o le =
    ap (λ b. record o { triples = if b then slice_set o.triples k (Place k, x) else o.triples ++ placed_from (length o.triples) (nils (k - length o.triples) ++ x ∷ []) }) (sym (not_less k (length o.triples) le))

-- a value right behind the elements
pub put_behind : (k : ℕ) (x : Value) (o : Object) → k ≡ length o.triples → record o { triples = o.triples ++ (Place (length o.triples), x) ∷ [] } ≡ with_put k x o
put_behind k x o is =
    ap (λ n. record o { triples = o.triples ++ placed_from (length o.triples) (nils n ++ x ∷ []) }) (let z : 0 ≡ k - length o.triples = omega (arith, is) in z)
    ∙ put_outside k x o (omega (arith, is))

placed_length : (j : ℕ) (vs : List Value) → length (placed_from j vs) ≡ length vs
placed_length j [] = refl
placed_length j (v ∷ vs) = ap suc (placed_length (j + 1) vs)

placed_append : (j : ℕ) (vs ws : List Value) → placed_from j (vs ++ ws) ≡ placed_from j vs ++ placed_from (j + length vs) ws
placed_append j [] ws = ap (λ n. placed_from n ws) (let z : j ≡ j + 0 = omega arith in z)
placed_append j (v ∷ vs) ws =
    ap (λ ts. (Place j, v) ∷ ts) (placed_append (j + 1) vs ws ∙ ap (λ n. placed_from (j + 1) vs ++ placed_from n ws) (let z : (j + 1) + length vs ≡ j + suc (length vs) = omega arith in z))

-- a value far behind the elements
pub put_refilled : (t : Table) (v : Ref) (o : Object) (vs zs : List Value) (k : ℕ) (x : Value) → triples_at t v ≡ o.triples → o.triples ≡ placed_from 0 vs → length (triples_at t v) ≤ k
    → zs ≡ elements_of t v ++ (nils (k - length (triples_at t v)) ++ x ∷ []) → record o { triples = placed_from 0 zs } ≡ with_put k x o
put_refilled t v o vs zs k x here placed le is =
    let n = length o.triples in
    let size : n ≡ length vs = ap length placed ∙ placed_length 0 vs in
    let count : length (triples_at t v) ≡ n = ap length here in
    let old : elements_of t v ≡ vs = ap values_in (here ∙ placed) ∙ placed_values 0 vs in
    ap (λ ws. record o { triples = placed_from 0 ws }) (is ∙ ap (λ ws. ws ++ (nils (k - length (triples_at t v)) ++ x ∷ [])) old ∙ ap (λ m. vs ++ (nils (k - m) ++ x ∷ [])) count)
    ∙ ap (λ ts. record o { triples = ts }) (placed_append 0 vs (nils (k - n) ++ x ∷ []) ∙ ap (λ ts. ts ++ placed_from (0 + length vs) (nils (k - n) ++ x ∷ [])) (sym placed)
    ∙ ap (λ m. o.triples ++ placed_from m (nils (k - n) ++ x ∷ [])) (let z : 0 + length vs ≡ n = omega (arith, size) in z))
    ∙ put_outside k x o (omega (arith, le, count))
