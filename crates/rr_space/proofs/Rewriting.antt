-- What an object that is written where it lies makes of a space.
use Rattle.std.proofs.Common.{◌≡◌, ℕ, ◌≤◌, Bool, List, length, map, slice_get, slice_set, Option, Some, None, IsTrue, sym, ap, ◌∙◌, subst, refl}
use Rattle.std.specs.Option.{option_map}
use Rattle.std.proofs.lemmas.Bool.{false≢true}
use Rattle.std.proofs.lemmas.Option.{slice_get-map}
use Rattle.rr_space.specs.Graph.{Object, Kind}
use Rattle.rr_space.specs.Tables.{Here, Table, Below}
use Rattle.rr_space.specs.Views.{slot_of, with_held, node_kind, node_parts, node_object, node_keys, can_write_at, is_open, StandsAt, IsNodeWithin, IsLedAlso, AllHeldWithin}
use Rattle.rr_space.specs.Writes.{IsHeldRewritten, IsSlotRewritten, IsGrownBy}
use Rattle.rr_space.specs.Kinds.{kind_at, kind_named}
use Rattle.rr_space.specs.declared.refer.Ref.{Ref}
use Rattle.rr_space.specs.declared.refer.Ref.TheVariants.{Local}
use Rattle.rr_space.specs.declared.node.Node.{Node}
use Rattle.rr_space.specs.declared.node.Held.{Held}
use Rattle.rr_space.specs.declared.node.Held.TheVariants.{Whole, Shell, Forward}
use Rattle.rr_space.proofs.Placing.{table_of, put_is, put_twice, count_is, stands, set_well, within_at}
use Rattle.rr_space.proofs.Standing.{kind_of_node, of_object, of_place, keys_same, led_also, put_same}

whole_flag : (f g : Bool) (a b : Node) → Whole f a ≡ Whole g b → f ≡ g
whole_flag f g a b e = cc

whole_node : (f g : Bool) (a b : Node) → Whole f a ≡ Whole g b → a ≡ b
whole_node f g a b e = cc

pub held_rewritten : (R : Node → Node → Type 0) (f : Bool) (a b : Node) (old : Held) → old ≡ Whole f a → R a b → IsHeldRewritten R old (Whole f b)
held_rewritten R f a b old is how = λ g x e.
    let same : Whole f a ≡ Whole g x = sym is ∙ e in (
      b,
      ap (λ k. Whole k b) (whole_flag f g a x same),
      subst (λ y. R y b) (whole_node f g a x same) how,
    )

-- what may be written is an object
pub open_whole : (hs : List Held) (n : ℕ) → IsTrue (is_open (slice_get (map slot_of hs) n)) → (f : Bool) × (a : Node) × (slice_get hs n ≡ Some (Whole f a))
open_whole hs n can = by (slice_get hs n) refl (subst (λ x. IsTrue (is_open x)) (slice_get-map slot_of hs n) can)
  where
    by : (h : Option Held) → slice_get hs n ≡ h → IsTrue (is_open (option_map slot_of h)) → (f : Bool) × (a : Node) × (slice_get hs n ≡ Some (Whole f a))
    by None at w = absurd (false≢true w)
    by (Some (Whole f a)) at w = (f, a, at)
    by (Some Shell) at w = absurd (false≢true w)
    by (Some (Forward p c)) at w = absurd (false≢true w)

-- the object in the slot n has become another, as R tells
pub record Rewrite (R : Node → Node → Type 0) (t new : Table) (n : ℕ) : Type 0 where
  pub f : Bool
  pub a : Node
  pub b : Node
  pub stood : StandsAt t n (Whole f a)
  pub into : new ≡ with_held (with_held t n Shell) n (Whole f b)
  pub how : R a b

module _ (R : Node → Node → Type 0) (hs new : List Held) (limit owner next : ℕ) {t : Table} {n : ℕ} {v : Ref} (is : v ≡ Local n) (view : table_of hs limit owner next ≡ t)
    (can : IsTrue (can_write_at t v)) (written : IsSlotRewritten R n hs new) where
  abbrev whole : (f : Bool) × (a : Node) × (slice_get hs n ≡ Some (Whole f a))
  whole = open_whole hs n (subst (λ (u : Table). IsTrue (is_open (slice_get u.slots n))) (sym view) (subst (λ w. IsTrue (can_write_at t w)) is can))

  abbrev put : (b : Node) × (new ≡ slice_set hs n (Whole whole.0 b)) × R whole.1 b
  put = written whole.0 whole.1 whole.2

  abbrev pub rewrite : Rewrite R t (table_of new limit owner next) n
  rewrite = record {
    f = whole.0;
    a = whole.1;
    b = put.0;
    stood = stands hs limit owner next t n (Whole whole.0 whole.1) view whole.2;
    into = ap (λ (xs : List Held). table_of xs limit owner next) put.1 ∙ put_is hs limit owner next t n (Whole whole.0 put.0) view ∙ sym (put_twice t n Shell (Whole whole.0 put.0));
    how = put.2;
  }

  size : length t.slots ≡ length hs
  size = count_is hs limit owner next t view

  pub rewrite_inside : (length hs ≤ limit) × AllHeldWithin (length hs) hs → IsNodeWithin (length t.slots) rewrite.a
  rewrite_inside all = subst (λ k. IsNodeWithin k whole.1) (sym size) (within_at (length hs) hs n (Whole whole.0 whole.1) all.1 whole.2)

  pub rewrite_well : ((a b : Node) → R a b → IsNodeWithin (length t.slots) a → IsNodeWithin (length t.slots) b)
      → (length hs ≤ limit) × AllHeldWithin (length hs) hs → (length new ≤ limit) × AllHeldWithin (length new) new
  rewrite_well fits all =
      let fits_here = subst (λ k. (a b : Node) → R a b → IsNodeWithin k a → IsNodeWithin k b) size fits in
      subst (λ (xs : List Held). (length xs ≤ limit) × AllHeldWithin (length xs) xs) (sym put.1)
      (set_well hs limit n (Whole whole.0 put.0) all (fits_here whole.1 put.0 put.2 (within_at (length hs) hs n (Whole whole.0 whole.1) all.1 whole.2)))

module _ {R : Node → Node → Type 0} {t new : Table} {n : ℕ} (v : Ref) (is : v ≡ Local n) (w : Rewrite R t new n) where
  abbrev mid : Table
  mid = with_held t n Shell

  pub its_kind : (k : Kind) → kind_at t v ≡ kind_named k → node_kind w.a ≡ k
  its_kind k e = kind_of_node t n v w.a w.f k is w.stood e

  pub its_object : (P : ℕ → Object → Type 0) → P n (node_object w.a w.f) → (m : ℕ) (o : Object) → v ≡ Local m → slice_get t.slots m ≡ Some (Here o) → P m o
  its_object = of_object t mid new n v w.a w.b w.f is w.stood refl w.into

  pub its_below : {inside : ℕ → Type 0} {came : Below} → IsGrownBy inside came w.a w.b → (m : ℕ) → v ≡ Local m → IsLedAlso came m t.below new.below
  its_below {inside} {came} g = of_place t mid new n v w.a w.b w.f is w.stood refl w.into (λ x. IsLedAlso came x t.below new.below)
      (led_also t mid new n v w.a w.b w.f is w.stood refl w.into came g.below)

  pub its_keys : node_keys w.b ≡ node_keys w.a → new.keys ≡ t.keys
  its_keys = keys_same t mid new n v w.a w.b w.f is w.stood refl w.into

  pub is_same : {inside : ℕ → Type 0} {came : Below} → IsGrownBy inside came w.a w.b → node_parts w.b ≡ node_parts w.a → node_keys w.b ≡ node_keys w.a → new ≡ t
  is_same g = put_same t mid new n v w.a w.b w.f is w.stood refl w.into g.head
