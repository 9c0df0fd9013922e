-- Objects that are put behind the slots of a table.
use Rattle.std.proofs.Common.{◌≡◌, ℕ, ◌+◌, ◌≤◌, List, [], ◌∷◌, ◌++◌, length, map, refl, ap, ◌∙◌, sym, subst, arith, length-append, append_assoc, append-nil}
use Rattle.rr_space.specs.Tables.{Table}
use Rattle.rr_space.specs.Parts.{Parts, value_of, value_triple, below_ref, below_parts}
use Rattle.rr_space.specs.Tables.{behind, here_behind, renamed, renamed_triple}
use Rattle.rr_space.specs.Views.{IsWithin, AllWithin, IsNodeWithin, AllHeldWithin, IsHeadKept, node_parts, slot_of, below_held, held_keys}
use Rattle.rr_space.specs.Views.{AllCarriedWithin, carried_object, carried_below, carried_keys}
use Rattle.rr_space.specs.Views.{ref_behind, part_behind, slot_behind, IsAppended}
use Rattle.rr_space.specs.declared.carried.Carried.{Carried}
use Rattle.rr_space.specs.declared.refer.Ref.{Ref}
use Rattle.rr_space.specs.declared.refer.Ref.TheVariants.{Nil, False, True, Int, Symbol, Class, Ractor, Local, Shared}
use Rattle.rr_space.specs.declared.node.Node.{Node}
use Rattle.rr_space.specs.declared.node.Held.{Held}
use Rattle.rr_space.specs.declared.node.Held.TheVariants.{Whole}
use Rattle.rr_space.proofs.Within.{all_later, all_push, node_within_later}
use Rattle.rr_space.proofs.Placing.{table_of, count_is}
use Rattle.rr_space.proofs.Writing.{map_push, object_by_parts}

module _ (k : ℕ) where
  ref_within : (n : ℕ) (r : Ref) → IsWithin n r → IsWithin (k + n) (ref_behind k r)
  ref_within n Nil w = tt
  ref_within n False w = tt
  ref_within n True w = tt
  ref_within n (Int z) w = tt
  ref_within n (Symbol s) w = tt
  ref_within n (Class c) w = tt
  ref_within n (Ractor r) w = tt
  ref_within n (Local i) w = omega (arith, w)
  ref_within n (Shared p c) w = w

  parts_within : (n : ℕ) (ts : Parts) → AllWithin n ts → AllWithin (k + n) (map (part_behind k) ts)
  parts_within n [] all = tt
  parts_within n (t ∷ ts) all = (ref_within n t.1 all.0, parts_within n ts all.1)

  ref_value : (r : Ref) → value_of (ref_behind k r) ≡ renamed (behind k) (value_of r)
  ref_value Nil = refl
  ref_value False = refl
  ref_value True = refl
  ref_value (Int z) = refl
  ref_value (Symbol s) = refl
  ref_value (Class c) = refl
  ref_value (Ractor r) = refl
  ref_value (Local i) = refl
  ref_value (Shared p c) = refl

  parts_values : (ts : Parts) → map value_triple (map (part_behind k) ts) ≡ map (renamed_triple (behind k)) (map value_triple ts)
  parts_values [] = refl
  parts_values (t ∷ ts) = ap (λ v. (t.0, v) ∷ map value_triple (map (part_behind k) ts)) (ref_value t.1)
      ∙ ap (λ ys. renamed_triple (behind k) (value_triple t) ∷ ys) (parts_values ts)

  ref_below : (r : Ref) → below_ref (ref_behind k r) ≡ below_ref r
  ref_below Nil = refl
  ref_below False = refl
  ref_below True = refl
  ref_below (Int z) = refl
  ref_below (Symbol s) = refl
  ref_below (Class c) = refl
  ref_below (Ractor r) = refl
  ref_below (Local i) = refl
  ref_below (Shared p c) = refl

  parts_below : (ts : Parts) → below_parts (map (part_behind k) ts) ≡ below_parts ts
  parts_below [] = refl
  parts_below (t ∷ ts) = ap (λ bs. bs ++ below_parts (map (part_behind k) ts)) (ref_below t.1) ∙ ap (λ bs. below_ref t.1 ++ bs) (parts_below ts)

carried_split : (n : ℕ) (xs ys : List Carried) → AllCarriedWithin n (xs ++ ys) → AllCarriedWithin n xs × AllCarriedWithin n ys
carried_split n [] ys all = (tt, all)
carried_split n (x ∷ xs) ys all = let rest = carried_split n xs ys all.1 in ((all.0, rest.0), rest.1)

-- the next object of those that come in
pub next_within : (n m : ℕ) (all done rest : List Carried) (x : Carried) → done ++ x ∷ rest ≡ all → AllCarriedWithin n all → n ≤ m → IsNodeWithin m x.node
next_within n m all done rest x e within le = node_within_later n m le x.node (carried_split n done (x ∷ rest) (subst (AllCarriedWithin n) (sym e) within)).1.0

appended_by : {A B H : Type 0} (f : H → B) (g : A → B) (old now : List H) (done : List A) (h : H) (a : A) → map f now ≡ map f old ++ map g done → f h ≡ g a
    → map f (now ++ h ∷ []) ≡ map f old ++ map g (done ++ a ∷ [])
appended_by f g old now done h a e same =
    map_push f now h ∙ ap (λ xs. xs ++ f h ∷ []) e ∙ append_assoc (map f old) (map g done) (f h ∷ [])
    ∙ ap (λ ys. map f old ++ ys) (ap (λ b. map g done ++ b ∷ []) same ∙ sym (map_push g done a))

pub appended_none : (k : ℕ) (old : List Held) → IsAppended k old [] old
appended_none k old = record {
  count = omega arith;
  slots = sym (append-nil (map slot_of old));
  below = sym (append-nil (map below_held old));
  keys = sym (append-nil (map held_keys old));
  within = λ n all none. all;
}

pub appended_more : (k : ℕ) (old now : List Held) (done : List Carried) (c : Carried) (node : Node) → IsAppended k old done now
    → node_parts node ≡ map (part_behind k) (node_parts c.node) → IsHeadKept c.node node → IsAppended k old (done ++ c ∷ []) (now ++ Whole c.frozen node ∷ [])
appended_more k old now done c node s parts head =
    let h = Whole c.frozen node in
    record {
      count = omega (arith, s.count, length-append now (h ∷ []), length-append done (c ∷ []));
      slots = appended_by slot_of (slot_behind k) old now done h c s.slots (object_by_parts c.node node c.frozen _ head (ap (map value_triple) parts ∙ parts_values k (node_parts c.node)));
      below = appended_by below_held carried_below old now done h c s.below (ap below_parts parts ∙ parts_below k (node_parts c.node));
      keys = appended_by held_keys carried_keys old now done h c s.keys head.keys;
      within = λ n all carried.
          let both = carried_split n done (c ∷ []) carried in
          all_push (k + n) now h (s.within n all both.0) (subst (AllWithin (k + n)) (sym parts) (parts_within k n (node_parts c.node) both.1.0));
    }

pub none_left : {A : Type 0} (xs : List A) → length xs ≡ 0 → xs ≡ []
none_left [] e = refl
none_left (x ∷ xs) e = absurd (let w : ⊥ = omega (arith, e) in w)

-- the slots of a table, once objects were put behind them
pub appended_slots : (hs new : List Held) (limit owner next : ℕ) (t : Table) (objects : List Carried) → table_of hs limit owner next ≡ t → IsAppended (length hs) hs objects new
    → map slot_of new ≡ t.slots ++ map (here_behind (length t.slots)) (map carried_object objects)
appended_slots hs new limit owner next t objects e s =
    s.slots ∙ ap (λ ys. map slot_of hs ++ ys) (twice objects)
    ∙ ap (λ n. map slot_of hs ++ map (here_behind n) (map carried_object objects)) (sym (count_is hs limit owner next t e))
    ∙ ap (λ (u : Table). u.slots ++ map (here_behind (length t.slots)) (map carried_object objects)) e
  where
    twice : (cs : List Carried) → map (slot_behind (length hs)) cs ≡ map (here_behind (length hs)) (map carried_object cs)
    twice [] = refl
    twice (c ∷ cs) = ap (λ ys. slot_behind (length hs) c ∷ ys) (twice cs)

pub appended_within : (hs new : List Held) (objects : List Carried) → IsAppended (length hs) hs objects new → AllHeldWithin (length hs) hs → AllCarriedWithin (length objects) objects
    → AllHeldWithin (length new) new
appended_within hs new objects s all carried =
    let k = length hs in
    let n = length objects in
    subst (λ m. AllHeldWithin m new) (sym s.count) (s.within n (all_later k (k + n) (omega arith) hs all) carried)
