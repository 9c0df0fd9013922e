-- Values of one ractor and their names.
use Rattle.std.proofs.Common.{◌≡◌, ℕ, List, length, Some, slice_get, sym, ap, ◌∙◌, subst}
use Rattle.std.specs.Prelude.{slice_index}
use Rattle.std.proofs.lemmas.Option.{same_Some}
use Rattle.rr_space.specs.Graph.{Own, Published, Value, Plain, At, Object}
use Rattle.rr_space.specs.Parts.{value_of, below_ref, IsWithin}
use Rattle.rr_space.specs.Readings.{Space, Shared, Owned, Layout, HasPlace, Knows, Naming, Objects, IsReading}
use Rattle.rr_space.specs.Tables.{Slot, Here, Led, resolve, resolve_slot}
use Rattle.rr_space.specs.declared.refer.Ref.{Ref}
use Rattle.rr_space.specs.declared.refer.Ref.TheVariants as ref
use Rattle.rr_space.proofs.Sounds.{gets}
use Rattle.rr_world.specs.Laws.{OneValueIsOneName}
use Rattle.rr_world.specs.Layouts.{layout}
use Rattle.rr_world.specs.Readings.{value_in}
use Rattle.rr_world.proofs.Published.{in_place}
use Rattle.rr_world.specs.Views.{seen_slots}
use Rattle.rr_world.proofs.Forwarding.{seen_length}
use Rattle.rr_world.proofs.Seeing.{space_table, value_resolved}

-- the value is an immediate, an object of the table, or one in a place of a cluster
abbrev IsLocated : Layout → List Slot → Value → Type 0
IsLocated tables slots (Plain n) = Unit {0}
IsLocated tables slots (At (Own i)) = (o : Object) × (slice_get slots i ≡ Some (Here o))
IsLocated tables slots (At (Published c p)) = HasPlace tables c p

module _ (tables : Layout) (names : Naming) (bound : ℕ) (g : Objects) (R : IsReading tables names bound g) (k : ℕ) (slots : List Slot) (here : tables (Space k) ≡ Some slots) where
  located : (r : Ref) → IsWithin (length slots) r → Knows (below_ref r) tables → IsLocated tables slots (resolve slots (value_of r))
  located ref.Nil h K = tt
  located ref.False h K = tt
  located ref.True h K = tt
  located (ref.Int b) h K = tt
  located (ref.Symbol b) h K = tt
  located (ref.Class b) h K = tt
  located (ref.Ractor b) h K = tt
  located (ref.Shared p c) h K = in_place tables (length slots) (ref.Shared p c) h K
  located (ref.Local s) h K = let x = gets slots s h in by x.0 x.1
    where
      by : (x : Slot) → slice_get slots s ≡ Some x → IsLocated tables slots (At (resolve_slot (slice_get slots s) s))
      by (Here o) e = subst (λ y. IsLocated tables slots (At (resolve_slot y s))) (sym e) (o, e)
      by (Led c p) e = subst (λ y. IsLocated tables slots (At (resolve_slot y s))) (sym e) ((R.sound (Space k) slots here).led s c p e)

  own_name : (n m : ℕ) → Own n ≡ Own m → n ≡ m
  own_name n m e = cc

  owners : (a b : Owned) (n m : ℕ) → n ≡ m → g n ≡ Some a → g m ≡ Some b → a.owner ≡ b.owner
  owners a b n m same x y = ap (λ (z : Owned). z.owner) (same_Some a b (sym x ∙ ap g same ∙ y))

  one : (x y : Value) → IsLocated tables slots x → IsLocated tables slots y → value_in names (Space k) x ≡ value_in names (Space k) y → x ≡ y
  one (Plain i) (Plain j) a b same = same
  one (Plain i) (At m) a b same = let z : ⊥ = cc in absurd z
  one (At n) (Plain j) a b same = let z : ⊥ = cc in absurd z
  one (At (Own i)) (At (Own j)) (o, at) (p, to) same =
      let name : slice_index (names (Space k)) i ≡ slice_index (names (Space k)) j = cc in
      ap (λ n. At (Own n)) ((R.reads (Space k) slots here).one i j o p at to name)
  one (At (Own i)) (At (Published c q)) (o, at) (u, p, is, to) same =
      let name : slice_index (names (Space k)) i ≡ slice_index (names (Shared c)) q = cc in
      let both : Space k ≡ Shared c = owners _ _ _ _ name ((R.reads (Space k) slots here).here i o at) ((R.reads (Shared c) u is).here q p to) in
      let z : ⊥ = cc in absurd z
  one (At (Published c q)) (At (Own i)) (u, p, is, to) (o, at) same =
      let name : slice_index (names (Shared c)) q ≡ slice_index (names (Space k)) i = cc in
      let both : Shared c ≡ Space k = owners _ _ _ _ name ((R.reads (Shared c) u is).here q p to) ((R.reads (Space k) slots here).here i o at) in
      let z : ⊥ = cc in absurd z
  one (At (Published c q)) (At (Published d r)) (u, o, is, at) (v, p, too, to) same =
      let name : slice_index (names (Shared c)) q ≡ slice_index (names (Shared d)) r = cc in
      let both : Shared c ≡ Shared d = owners _ _ _ _ name ((R.reads (Shared c) u is).here q o at) ((R.reads (Shared d) v too).here r p to) in
      let number : c ≡ d = cc in
      let table : v ≡ u = same_Some v u (sym too ∙ ap (λ x. tables (Shared x)) (sym number) ∙ is) in
      let to_u : slice_get u r ≡ Some (Here p) = ap (λ x. slice_get x r) (sym table) ∙ to in
      let place : q ≡ r = (R.reads (Shared c) u is).one q r o p at to_u (name ∙ ap (λ x. slice_index (names (Shared x)) r) (sym number)) in
      ap (λ x. At (Published x q)) number ∙ ap (λ x. At (Published d x)) place

pub one_value_is_one_name : OneValueIsOneName
one_value_is_one_name w names bound g k m a b R at well in_a in_b known_a known_b =
    let name_a = value_resolved w names bound g R k m at (value_of a) in
    let name_b = value_resolved w names bound g R k m at (value_of b) in
    let here = space_table w k m at in
    let within_a = subst (λ n. IsWithin n a) (sym (seen_length m.published m.space.slots)) in_a in
    let within_b = subst (λ n. IsWithin n b) (sym (seen_length m.published m.space.slots)) in_b in (
      λ same. sym name_a ∙ ap (value_in names (Space k)) same ∙ name_b,
      λ same. one (layout w) names bound g R.tables k (seen_slots m) here (resolve (seen_slots m) (value_of a)) (resolve (seen_slots m) (value_of b))
          (located (layout w) names bound g R.tables k (seen_slots m) here a within_a known_a) (located (layout w) names bound g R.tables k (seen_slots m) here b within_b known_b) (name_a ∙ same ∙ sym name_b),
    )
