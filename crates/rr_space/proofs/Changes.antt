-- What follows from a change of a table: from packing, freezing, publishing and emptying.
use Rattle.std.proofs.Common.{◌≡◌, ℕ, ◌<◌, List, [], ◌∷◌, ◌++◌, length, map, slice_get, Option, Some, None, true, Contains, sym, ap, ◌∙◌, subst, refl, arith}
use Rattle.std.specs.Option.{option_and_then}
use Rattle.std.proofs.lemmas.Option.{slice_get_within, same_Some, none-some}
use Rattle.rr_space.specs.Graph.{Graph, Name, Own, Published, Value, Plain, At, Label, Object, HasUnder, Leads, Reaches, IsSolid, IsFreeOfShells}
use Rattle.rr_space.specs.Tables.{Slot, Here, Led, Packed, Table, joined, space_graph, message_graph, object_in, resolve, resolve_slot, resolve_triple, resolve_object, published_at, IsSealed, IsPublished, IsBelow, IsClosed}
use Rattle.rr_space.specs.Moves.{IsDeepFrozen}
use Rattle.rr_space.specs.Views.{emptied}
use Rattle.rr_space.specs.Laws.{ClosedStaysInside, FrozenIsShareable, PromotedIsPart, EmptiedIsNotShareable}
use Rattle.rr_space.proofs.Renaming.{mapped_at, contains_map}
use Rattle.rr_space.proofs.Sounds.{raw_in, resolved_back, gets}

same_here : (a b : Object) → Here a ≡ Here b → a ≡ b
same_here a b e = cc

module _ (m : Packed) (closed : IsClosed m) (sealed : IsSealed (message_graph m)) where
  -- no slot of a message is a forward
  whole_slot : (n : ℕ) (s : Option Slot) → slice_get (map Here m.objects) n ≡ s → resolve_slot s n ≡ Own n
  whole_slot n None e = refl
  whole_slot n (Some (Here o)) e = refl
  whole_slot n (Some (Led c p)) e = let q = mapped_at Here m.objects n (Led c p) e in let w : Here q.0 ≡ Led c p = q.2 in absurd (let z : ⊥ = cc in z)

  below_still : (x : Value) → IsBelow (length m.objects) x → IsBelow (length m.objects) (resolve (map Here m.objects) x)
  below_still (Plain i) h = tt
  below_still (At (Own n)) h = subst (λ k. IsBelow (length m.objects) (At k)) (sym (whole_slot n _ refl)) h
  below_still (At (Published c p)) h = tt

  published_below : (x : Value) → IsPublished x → IsBelow (length m.objects) x
  published_below (Plain i) h = tt
  published_below (At (Own n)) h = absurd h
  published_below (At (Published c p)) h = tt

  step_inside : (k : Name) (o : Object) (l : Label) (x : Value) → message_graph m k ≡ Some o → Contains o.triples (l, x) → IsBelow (length m.objects) x
  step_inside (Own i) o l x here has =
      let r = raw_in (map Here m.objects) (m.root_below ++ joined m.below) i o here in
      let y = resolved_back (map Here m.objects) r.0.triples l x (subst (λ (z : Object). Contains z.triples (l, x)) (sym r.2) has) in
      let raw = mapped_at Here m.objects i (Here r.0) r.1 in
      let same : raw.0 ≡ r.0 = same_here raw.0 r.0 raw.2 in
      subst (IsBelow (length m.objects)) y.2 (below_still y.0 (closed.objects i raw.0 l y.0 raw.1 (subst (λ (z : Object). Contains z.triples (l, y.0)) (sym same) y.1)))
  step_inside (Published c p) o l x here has = published_below x (sealed.shut c p o l x here has)

  inside : (path : List Label) (v : Value) (n : ℕ) → IsBelow (length m.objects) v → Leads (message_graph m) v path (At (Own n)) → n < length m.objects
  inside [] v n below e = subst (IsBelow (length m.objects)) e below
  inside (l ∷ path) v n below (x, (k, o, is, here, has), rest) = inside path x n (step_inside k o l x here has) rest

pub closed_stays : ClosedStaysInside
closed_stays m closed sealed n reach = inside m closed sealed reach.0 m.root n closed.root reach.1

pub promoted_part : PromotedIsPart
promoted_part t v promoted n = (λ r. (r, λ all. promoted n r all), λ part. part.0)

pub emptied_open : EmptiedIsNotShareable
emptied_open names old new e n has v reach all = (all (Own n) emptied reach (ap (option_and_then (object_in new.slots)) (e.slots.named n has))).no_shell refl

-- ---- freezing

-- what was resolved names no forward
resolved_out : (slots : List Slot) (y : Value) (n c p : ℕ) → resolve slots y ≡ At (Own n) → slice_get slots n ≡ Some (Led c p) → ⊥
resolved_out slots (Plain i) n c p e led = cc
resolved_out slots (At (Published d q)) n c p e led = cc
resolved_out slots (At (Own k)) n c p e led = by (slice_get slots k) refl
  where
    own_at : (s : Option Slot) → slice_get slots k ≡ s → At (Own k) ≡ At (Own n) → s ≡ Some (Led c p)
    own_at s is q = let w : k ≡ n = cc in sym is ∙ ap (slice_get slots) w ∙ led

    by : (s : Option Slot) → slice_get slots k ≡ s → ⊥
    by None is = let w = own_at None is (sym (ap (λ s. At (resolve_slot s k)) is) ∙ e) in cc
    by (Some (Here o)) is = let w = own_at (Some (Here o)) is (sym (ap (λ s. At (resolve_slot s k)) is) ∙ e) in cc
    by (Some (Led d q)) is = let w : At (Published d q) ≡ At (Own n) = sym (ap (λ s. At (resolve_slot s k)) is) ∙ e in cc

published_out : (x : Value) (n : ℕ) → IsPublished x → x ≡ At (Own n) → ⊥
published_out x n out e = subst IsPublished e out

leads_more : (g : Graph) (path : List Label) (v x y : Value) (l : Label) → Leads g v path x → HasUnder g x l y → Leads g v (path ++ l ∷ []) y
leads_more g [] v x y l e under = (y, subst (λ z. HasUnder g z l y) (sym e) under, refl)
leads_more g (k ∷ path) v x y l (z, first, rest) under = (z, first, leads_more g path z x y l rest under)

module _ (v : Value) (old new : Table) (sealed : IsSealed (space_graph old)) (h : IsDeepFrozen v old new) where
  -- a path ends at no forward
  ends_out : (path : List Label) (x : Value) (n c p : ℕ) → ((k d q : ℕ) → x ≡ At (Own k) → slice_get old.slots k ≡ Some (Led d q) → ⊥)
      → Leads (space_graph old) x path (At (Own n)) → slice_get old.slots n ≡ Some (Led c p) → ⊥
  ends_out [] x n c p out e led = out n c p e led
  ends_out (l ∷ path) x n c p out (y, (Own i, o, is, here, has), rest) led =
      let r = raw_in old.slots (joined old.below) i o here in
      let z = resolved_back old.slots r.0.triples l y (subst (λ (w : Object). Contains w.triples (l, y)) (sym r.2) has) in
      ends_out path y n c p (λ k d q e is_led. resolved_out old.slots z.0 k d q (z.2 ∙ e) is_led) rest led
  ends_out (l ∷ path) x n c p out (y, (Published d q, o, is, here, has), rest) led =
      ends_out path y n c p (λ k d2 q2 e is_led. published_out y k (sealed.shut d q o l y here has) e) rest led

  not_led : (n c p : ℕ) → slice_get old.slots n ≡ Some (Led c p) → Reaches (space_graph old) (resolve old.slots v) (Own n) → ⊥
  not_led n c p led reach = ends_out reach.0 (resolve old.slots v) n c p (λ k d q e is_led. resolved_out old.slots v k d q e is_led) reach.1 led

  led_kept : (n c p : ℕ) → slice_get old.slots n ≡ Some (Led c p) → slice_get new.slots n ≡ Some (Led c p)
  led_kept n c p led = h.others n (not_led n c p led) ∙ led

  none_kept : (n : ℕ) → slice_get old.slots n ≡ None → slice_get new.slots n ≡ None
  none_kept n none = by (slice_get new.slots n) refl
    where
      by : (s : Option Slot) → slice_get new.slots n ≡ s → slice_get new.slots n ≡ None
      by None is = is
      by (Some s) is = absurd (let lt = slice_get_within new.slots n s is in let q = gets old.slots n (let e = h.size in omega (arith, lt, e)) in none-some q.0 (sym none ∙ q.1))

  here_kept : (n : ℕ) (o : Object) → slice_get old.slots n ≡ Some (Here o) → (p : Object) × (slice_get new.slots n ≡ Some (Here p))
  here_kept n o here = by (slice_get new.slots n) refl
    where
      by : (s : Option Slot) → slice_get new.slots n ≡ s → (p : Object) × (slice_get new.slots n ≡ Some (Here p))
      by None is = absurd (let lt = slice_get_within old.slots n (Here o) here in let q = gets new.slots n (let e = h.size in omega (arith, lt, e)) in none-some q.0 (sym is ∙ q.1))
      by (Some (Here p)) is = (p, is)
      by (Some (Led c p)) is =
          absurd (let out : Reaches (space_graph old) (resolve old.slots v) (Own n) → ⊥ = λ r. (let w : Led c p ≡ Here (record o { frozen = true }) = same_Some _ _ (sym is ∙ h.reached n o r here) in cc) in
          let w : Led c p ≡ Here o = same_Some _ _ (sym is ∙ h.others n out ∙ here) in let z : ⊥ = cc in z)

  resolve_same : (y : Value) → resolve new.slots y ≡ resolve old.slots y
  resolve_same (Plain i) = refl
  resolve_same (At (Published c p)) = refl
  resolve_same (At (Own n)) = by (slice_get old.slots n) refl
    where
      by : (s : Option Slot) → slice_get old.slots n ≡ s → At (resolve_slot (slice_get new.slots n) n) ≡ At (resolve_slot (slice_get old.slots n) n)
      by None is = ap (λ s. At (resolve_slot s n)) (none_kept n is ∙ sym is)
      by (Some (Led c p)) is = ap (λ s. At (resolve_slot s n)) (led_kept n c p is ∙ sym is)
      by (Some (Here o)) is = let q = here_kept n o is in ap (λ s. At (resolve_slot s n)) q.1 ∙ sym (ap (λ s. At (resolve_slot s n)) is)

  -- an object that is reached: what it was, and what it is
  frozen_at : (i : ℕ) (p : Object) → Reaches (space_graph old) (resolve old.slots v) (Own i) → slice_get new.slots i ≡ Some (Here p)
      → (o : Object) × (slice_get old.slots i ≡ Some (Here o)) × (record o { frozen = true } ≡ p)
  frozen_at i p reach here = by (slice_get old.slots i) refl
    where
      by : (s : Option Slot) → slice_get old.slots i ≡ s → (o : Object) × (slice_get old.slots i ≡ Some (Here o)) × (record o { frozen = true } ≡ p)
      by None is = absurd (none-some (Here p) (sym (none_kept i is) ∙ here))
      by (Some (Here o)) is = (o, is, same_here _ p (same_Some _ _ (sym (h.reached i o reach is) ∙ here)))
      by (Some (Led c q)) is = absurd (not_led i c q is reach)

  under_back : (i : ℕ) (o : Object) (l : Label) (x : Value) → Reaches (space_graph old) (resolve old.slots v) (Own i) → space_graph new (Own i) ≡ Some o → Contains o.triples (l, x)
      → HasUnder (space_graph old) (At (Own i)) l x
  under_back i o l x reach here has =
      let r = raw_in new.slots (joined new.below) i o here in
      let f = frozen_at i r.0 reach r.1 in
      let y = resolved_back new.slots r.0.triples l x (subst (λ (w : Object). Contains w.triples (l, x)) (sym r.2) has) in
      let raw : Contains f.0.triples (l, y.0) = subst (λ (w : Object). Contains w.triples (l, y.0)) (sym f.2) y.1 in
      let kept : Contains (map (resolve_triple old.slots) f.0.triples) (l, resolve old.slots y.0) = contains_map (resolve_triple old.slots) f.0.triples (l, y.0) raw in (
        Own i,
        resolve_object old.slots f.0,
        refl,
        ap (option_and_then (object_in old.slots)) f.1,
        subst (λ w. Contains (map (resolve_triple old.slots) f.0.triples) (l, w)) (sym (resolve_same y.0) ∙ y.2) kept,
      )

  below_same : (c p : ℕ) (o : Object) → space_graph new (Published c p) ≡ Some o → space_graph old (Published c p) ≡ Some o
  below_same c p o here = ap (λ bs. published_at (joined bs) c p) (sym h.below) ∙ here

  path_back : (path before : List Label) (x : Value) (n : Name) → Leads (space_graph old) (resolve old.slots v) before x → Leads (space_graph new) x path (At n)
      → Reaches (space_graph old) (resolve old.slots v) n
  path_back [] before x n way e = (before, subst (Leads (space_graph old) (resolve old.slots v) before) e way)
  path_back (l ∷ path) before x n way (y, (Own i, o, is, here, has), rest) =
      let reach : Reaches (space_graph old) (resolve old.slots v) (Own i) = (before, subst (Leads (space_graph old) (resolve old.slots v) before) is way) in
      let under = subst (λ z. HasUnder (space_graph old) z l y) (sym is) (under_back i o l y reach here has) in
      path_back path (before ++ l ∷ []) y n (leads_more (space_graph old) before (resolve old.slots v) x y l way under) rest
  path_back (l ∷ path) before x n way (y, (Published c p, o, is, here, has), rest) =
      let under : HasUnder (space_graph old) x l y = (Published c p, o, is, below_same c p o here, has) in
      path_back path (before ++ l ∷ []) y n (leads_more (space_graph old) before (resolve old.slots v) x y l way under) rest

  solid_after : IsFreeOfShells (space_graph old) (resolve old.slots v) → (n : Name) (o : Object) → Reaches (space_graph old) (resolve old.slots v) n → space_graph new n ≡ Some o → IsSolid o
  solid_after free (Published c p) o reach here = sealed.solid c p o (below_same c p o here)
  solid_after free (Own i) o reach here =
      let r = raw_in new.slots (joined new.below) i o here in
      let f = frozen_at i r.0 reach r.1 in
      let was = free (Own i) (resolve_object old.slots f.0) reach (ap (option_and_then (object_in old.slots)) f.1) in
      let is : IsSolid (resolve_object new.slots (record f.0 { frozen = true })) = record { frozen = refl; no_shell = was } in
      subst IsSolid (ap (resolve_object new.slots) f.2 ∙ r.2) is

pub frozen_shareable : FrozenIsShareable
frozen_shareable v old new sealed h free n o reach here =
    solid_after v old new sealed h free n o (path_back v old new sealed h reach.0 [] (resolve old.slots v) n refl (subst (λ x. Leads (space_graph new) x reach.0 (At n)) (resolve_same v old new sealed h v) reach.1)) here
