-- What a value leads to, what is shareable, and what is frozen with it.
use Rattle.std.proofs.Common.{◌≡◌, ℕ, zero, suc, ◌+◌, ◌<◌, ◌≤◌, ◌↔◌, ⊎_elim, inl, Bool, true, false, not, ◌||◌, ◌&&◌, nat_eq, IsTrue, refl, sym, ap, subst, ◌∙◌, arith, List, [], ◌∷◌, map, length, slice_get, get_or, Option, Some, None, Contains}
use Rattle.std.specs.Option.{option_map}
use Rattle.std.proofs.lemmas.Bool.{or_left, or_right, or_cases}
use Rattle.std.proofs.lemmas.Bool.Decides.{nat_tests}
use Rattle.std.proofs.lemmas.Option.{slice_get_within, slice_get_past, same_Some, none-some}
use Rattle.rr_base.specs.declared.fault.Fault.{Fault}
use Rattle.rr_base.specs.declared.fault.Fault.TheVariants.{Memory}
use Rattle.rr_space.specs.Graph.{Graph, Name, Own, Published, Value, Plain, At, Immediate, Label, Kind, Object, text, array, hash, plain, exception, shell, Leads, Reaches, IsSolid, IsShareable, IsFreeOfShells}
use Rattle.rr_space.specs.Moves.{IsDeepFrozen}
use Rattle.rr_space.specs.Parts.{value_of}
use Rattle.rr_space.specs.Sound.{IsTableSound}
use Rattle.rr_space.specs.Tables.{Slot, Here, Led, Table, Below, IsBelow, IsPublished, IsRestKept, joined, resolve, resolve_slot, resolve_triple, resolve_object, space_graph}
use Rattle.rr_space.specs.Views.{is_shell}
use Rattle.rr_space.specs.declared.refer.Ref.{Ref}
use Rattle.rr_space.specs.declared.refer.Ref.TheVariants as refs
use Rattle.rr_space.proofs.Sounds.{raw_in, sound_is_sealed}
use Rattle.rr_share.specs.Search.{LeadsAt, LeadsToShell}
use Rattle.rr_share.proofs.Ends.{leads_within, reaches_on}
use Rattle.rr_share.proofs.Searching.{at_contains}
use Rattle.rr_share.proofs.Solids.{graph_here}
use Rattle.rr_text.specs.Reads.{IsReadWith}
use Rattle.rr_eval.specs.declared.problem.Response.{Response}
use Rattle.rr_eval.specs.Effects.{Effect, said}
use Rattle.rr_eval.specs.Serves.{IsReplied, IsRefused}
use Rattle.rr_eval.specs.Sharing.{connects, one_below, is_own, has_own, object_has, steps, leads_in, leads, is_open, is_moved, is_shareable, leads_to_shell, frozen_slot, frozen_from, deep_frozen}
use Rattle.rr_eval.specs.Within.{reach, IsReached, IsResponseReached}
use Rattle.rr_eval.proofs.Connecting.{joins, connects_step, connected, one_there, there_one, both, first, second}

equal : (n m : ℕ) → nat_eq n m ≡ true → n ≡ m
equal n m e = grind (arith, nat_tests)

equals : (n m : ℕ) → n ≡ m → nat_eq n m ≡ true
equals n m e = grind (arith, nat_tests)

-- ---- A step between slots is a triple between them.

own_is : (m : ℕ) (x : Value) → is_own m x ≡ true → x ≡ At (Own m)
own_is m (Plain i) e = absurd cc
own_is m (At (Own n)) e = ap (λ k. At (Own k)) (equal n m e)
own_is m (At (Published c p)) e = absurd cc

has_is : (m : ℕ) (xs : List (Label × Value)) → has_own m xs ≡ true → (k : ℕ) × (l : Label) × (slice_get xs k ≡ Some (l, At (Own m)))
has_is m [] e = absurd cc
has_is m (x ∷ xs) e = ⊎_elim
    (λ w. (0, x.0, ap (λ y. Some (x.0, y)) (own_is m x.1 w)))
    (λ w. let r = has_is m xs w in (suc r.0, r.1, r.2))
    (or_cases (is_own m x.1) (has_own m xs) e)

is_has : (m k : ℕ) (l : Label) (xs : List (Label × Value)) → slice_get xs k ≡ Some (l, At (Own m)) → has_own m xs ≡ true
is_has m k l [] e = absurd (none-some (l, At (Own m)) e)
is_has m zero l (x ∷ xs) e = or_left (is_own m x.1) (has_own m xs) (ap (λ (y : Label × Value). is_own m y.1) (same_Some x (l, At (Own m)) e) ∙ equals m m refl)
is_has m (suc k) l (x ∷ xs) e = or_right (is_own m x.1) (has_own m xs) (is_has m k l xs e)

step_leads : (g : Graph) (n m : ℕ) → steps g n m ≡ true → (k : ℕ) × LeadsAt g n k m
step_leads g n m e = by (g (Own n)) refl
  where
    by : (s : Option Object) → g (Own n) ≡ s → (k : ℕ) × LeadsAt g n k m
    by None q = absurd (let w : false ≡ true = sym (ap (object_has m) q) ∙ e in cc)
    by (Some o) q = let r = has_is m o.triples (sym (ap (object_has m) q) ∙ e) in (r.0, (o, r.1, q, r.2))

leads_step : (g : Graph) (n k m : ℕ) → LeadsAt g n k m → steps g n m ≡ true
leads_step g n k m (o, l, here, at) = ap (object_has m) here ∙ is_has m k l o.triples at

-- ---- What the test says is reached, and what is reached it says.

pub led_reached : (g : Graph) (count : ℕ) (v : Value) (m : ℕ) → leads_in g count v m ≡ true → Reaches g v (Own m)
led_reached g count (Plain i) m e = absurd cc
led_reached g count (At (Own n)) m e = ⊎_elim
    (λ w. ([], ap (λ k. At (Own k)) (equal n m w)))
    (λ w. connected (steps g) (λ k. Reaches g (At (Own n)) (Own k)) (λ a b r s. let q = step_leads g a b s in reaches_on g (At (Own n)) a q.0 b r q.1) count n m ([], refl) w)
    (or_cases (nat_eq n m) (connects (steps g) count n m) e)
led_reached g count (At (Published c p)) m e = absurd cc

name_is : (n m : Name) → At n ≡ At m → n ≡ m
name_is n m e = cc

value_case : (x : Value) (A : Value → Type 0) (B : Type 0) → ((i : Immediate) → A (Plain i) → B) → ((b : ℕ) → x ≡ At (Own b) → A (At (Own b)) → B) → ((c p : ℕ) → x ≡ At (Published c p) → A (At (Published c p)) → B) → A x → B
value_case (Plain i) A B f g h r = f i r
value_case (At (Own b)) A B f g h r = g b refl r
value_case (At (Published c p)) A B f g h r = h c p refl r

plain_never : (g : Graph) (path : List Label) (i : Immediate) (m : ℕ) → Leads g (Plain i) path (At (Own m)) → ⊥
plain_never g [] i m e = let w : ⊥ = cc in w
plain_never g (l ∷ path) i m (x, (n, o, is, here, has), rest) = let w : ⊥ = cc in w

module _ (t : Table) (well : IsTableSound t.slots t.below) where
  never : (path : List Label) (c p m : ℕ) → Leads (space_graph t) (At (Published c p)) path (At (Own m)) → ⊥
  never [] c p m e = let w : ⊥ = cc in w
  never (l ∷ path) c p m (x, (n, o, is, here, has), rest) =
      let there = ap (space_graph t) (name_is (Published c p) n is) ∙ here in
      let shut = (sound_is_sealed t.slots t.below well).shut c p o l x there has in
      value_case x (λ y. Leads (space_graph t) y path (At (Own m))) ⊥
      (λ i r. plain_never (space_graph t) path i m r)
      (λ b e r. subst IsPublished e shut)
      (λ d q e r. never path d q m r)
      rest

  more : (a b m k : ℕ) → LeadsAt (space_graph t) a k b → leads_in (space_graph t) (length t.slots) (At (Own b)) m ≡ true → leads_in (space_graph t) (length t.slots) (At (Own a)) m ≡ true
  more a b m k at e =
      let go = steps (space_graph t) in
      let step = connects_step go (length t.slots) a b (leads_step (space_graph t) a k b at) in
      or_right (nat_eq a m) (connects go (length t.slots) a m) (⊎_elim
      (λ w. subst (λ z. connects go (length t.slots) a z ≡ true) (equal b m w) step)
      (λ w. joins go (length t.slots) a b m (leads_within t well a k b at).1 step w)
      (or_cases (nat_eq b m) (connects go (length t.slots) b m) e))

  back : (path : List Label) (a m : ℕ) → Leads (space_graph t) (At (Own a)) path (At (Own m)) → leads_in (space_graph t) (length t.slots) (At (Own a)) m ≡ true
  back [] a m e = let q : a ≡ m = cc in or_left (nat_eq a m) (connects (steps (space_graph t)) (length t.slots) a m) (equals a m q)
  back (l ∷ path) a m (x, (n, o, is, here, has), rest) =
      let there = ap (space_graph t) (name_is (Own a) n is) ∙ here in
      let q = at_contains o.triples (l, x) has in
      value_case x (λ y. Leads (space_graph t) y path (At (Own m))) (leads_in (space_graph t) (length t.slots) (At (Own a)) m ≡ true)
      (λ i r. absurd (plain_never (space_graph t) path i m r))
      (λ b e r. more a b m q.0 (o, l, there, q.1 ∙ ap (λ y. Some (l, y)) e) (back path b m r))
      (λ c p e r. absurd (never path c p m r))
      rest

  pub reached_led : (v : Value) (m : ℕ) → Reaches (space_graph t) v (Own m) → leads_in (space_graph t) (length t.slots) v m ≡ true
  reached_led (Plain i) m (path, r) = absurd (plain_never (space_graph t) path i m r)
  reached_led (At (Own n)) m (path, r) = back path n m r
  reached_led (At (Published c p)) m (path, r) = absurd (never path c p m r)

-- ---- What an object is by itself.

shell_is : (k : Kind) → is_shell k ≡ true → k ≡ shell
shell_is text e = absurd cc
shell_is array e = absurd cc
shell_is hash e = absurd cc
shell_is plain e = absurd cc
shell_is exception e = absurd cc
shell_is shell e = refl

neither : (x y : Bool) → (x || y) ≡ false → (x ≡ false) × (y ≡ false)
neither true y e = absurd cc
neither false y e = (refl, e)

not_true : (x : Bool) → not x ≡ true → x ≡ false
not_true true e = absurd cc
not_true false e = refl

not_false : (x : Bool) → not x ≡ false → x ≡ true
not_false true e = refl
not_false false e = absurd cc

open_here : (s : Option Slot) → is_open s ≡ true → ((o : Object) → s ≡ Some (Here o) → IsSolid o) → ⊥
open_here None e h = let w : ⊥ = cc in w
open_here (Some (Led c p)) e h = let w : ⊥ = cc in w
open_here (Some (Here o)) e h =
    let s = h o refl in
    ⊎_elim
    (λ w. let z : false ≡ true = ap not (sym s.frozen) ∙ w in let x : ⊥ = cc in x)
    (λ w. s.no_shell (shell_is o.kind w))
    (or_cases (not o.frozen) (is_shell o.kind) e)

solid_here : (o : Object) → is_open (Some (Here o)) ≡ false → IsSolid o
solid_here o e =
    let n = neither (not o.frozen) (is_shell o.kind) e in
    record { frozen = not_false o.frozen n.0; no_shell = λ k. let z : true ≡ false = sym (ap is_shell k) ∙ n.1 in let x : ⊥ = cc in x }

moved_here : (s : Option Slot) → is_moved s ≡ true → (o : Object) × (s ≡ Some (Here o)) × (o.kind ≡ shell)
moved_here None e = absurd cc
moved_here (Some (Led c p)) e = absurd cc
moved_here (Some (Here o)) e = (o, refl, shell_is o.kind e)

-- either way of a test
by_test : (b : Bool) (A : Type 0) → (b ≡ true → A) → (b ≡ false → A) → A
by_test true A f g = f refl
by_test false A f g = g refl

module _ (t : Table) (well : IsTableSound t.slots t.below) (root : Ref) where
  abbrev v : Value
  v = resolve t.slots (value_of root)

  led : (n : ℕ) → leads t root n ≡ true → Reaches (space_graph t) v (Own n)
  led n e = led_reached (space_graph t) (length t.slots) v n e

  -- the test is the relation
  open_is_not : one_below (λ n. leads t root n && is_open (slice_get t.slots n)) (length t.slots) ≡ true → IsShareable (space_graph t) v → ⊥
  open_is_not e all =
      let p = λ (n : ℕ). leads t root n && is_open (slice_get t.slots n) in
      let k = there_one p (length t.slots) e in
      let r = led k.0 (first (leads t root k.0) (is_open (slice_get t.slots k.0)) k.2) in
      open_here (slice_get t.slots k.0) (second (leads t root k.0) (is_open (slice_get t.slots k.0)) k.2)
      (λ o here. let s = all (Own k.0) (resolve_object t.slots o) r (graph_here t k.0 o here) in record { frozen = s.frozen; no_shell = s.no_shell })

  none_open : one_below (λ n. leads t root n && is_open (slice_get t.slots n)) (length t.slots) ≡ false → IsShareable (space_graph t) v
  none_open e (Published c p) o reach here = (sound_is_sealed t.slots t.below well).solid c p o here
  none_open e (Own k) o reach here =
      let p = λ (n : ℕ). leads t root n && is_open (slice_get t.slots n) in
      let raw = raw_in t.slots (joined t.below) k o here in
      let there = reached_led t well v k reach in
      let shut : is_open (Some (Here raw.0)) ≡ false = by_test (is_open (Some (Here raw.0))) (is_open (Some (Here raw.0)) ≡ false)
      (λ w. let yes = one_there p (length t.slots) k (slice_get_within t.slots k (Here raw.0) raw.1) (both (leads t root k) (is_open (slice_get t.slots k)) there (ap is_open raw.1 ∙ w)) in let z : true ≡ false = sym yes ∙ e in absurd cc)
      (λ w. w) in
      let s = solid_here raw.0 shut in
      subst IsSolid raw.2 (record { frozen = s.frozen; no_shell = s.no_shell })

  pub shareable_is : (b : Bool) → IsTrue b ↔ IsShareable (space_graph t) v → b ≡ is_shareable t root
  shareable_is b law =
      let any = one_below (λ n. leads t root n && is_open (slice_get t.slots n)) (length t.slots) in
      by_test any (b ≡ not any)
      (λ e. by_test b (b ≡ not any) (λ w. absurd (open_is_not e (law.0 w))) (λ w. w ∙ sym (ap not e)))
      (λ e. law.1 (none_open e) ∙ sym (ap not e))

  pub shareable_law : IsTrue (is_shareable t root) ↔ IsShareable (space_graph t) v
  shareable_law =
      let any = one_below (λ n. leads t root n && is_open (slice_get t.slots n)) (length t.slots) in
      (λ e. none_open (not_true any e), λ all. by_test any (not any ≡ true) (λ w. absurd (open_is_not w all)) (λ w. ap not w))

  pub no_shell : IsFreeOfShells (space_graph t) v → leads_to_shell t root ≡ false
  no_shell free =
      let p = λ (n : ℕ). leads t root n && is_moved (slice_get t.slots n) in
      by_test (leads_to_shell t root) (leads_to_shell t root ≡ false)
      (λ e.
      let k = there_one p (length t.slots) e in
      let r = led k.0 (first (leads t root k.0) (is_moved (slice_get t.slots k.0)) k.2) in
      let s = moved_here (slice_get t.slots k.0) (second (leads t root k.0) (is_moved (slice_get t.slots k.0)) k.2) in
      absurd (free (Own k.0) (resolve_object t.slots s.0) r (graph_here t k.0 s.0 s.1) s.2))
      (λ e. e)

  pub a_shell : LeadsToShell (space_graph t) v → leads_to_shell t root ≡ true
  a_shell (Published c p, o, reach, here, kind) = let s = (sound_is_sealed t.slots t.below well).solid c p o here in absurd (s.no_shell kind)
  a_shell (Own k, o, reach, here, kind) =
      let p = λ (n : ℕ). leads t root n && is_moved (slice_get t.slots n) in
      let raw = raw_in t.slots (joined t.below) k o here in
      let moved : is_moved (Some (Here raw.0)) ≡ true = ap is_shell (ap (λ (y : Object). y.kind) raw.2 ∙ kind) in
      one_there p (length t.slots) k (slice_get_within t.slots k (Here raw.0) raw.1) (both (leads t root k) (is_moved (slice_get t.slots k)) (reached_led t well v k reach) (ap is_moved raw.1 ∙ moved))

-- ---- Freezing all that a value leads to.

frozen_at : (some : ℕ → Bool) (n : ℕ) (ss : List Slot) (i : ℕ) → slice_get (frozen_from some n ss) i ≡ option_map (frozen_slot (some (n + i))) (slice_get ss i)
frozen_at some n [] i = refl
frozen_at some n (s ∷ ss) zero = let e : n ≡ n + 0 = omega arith in ap (λ k. Some (frozen_slot (some k) s)) e
frozen_at some n (s ∷ ss) (suc i) = let e : suc n + i ≡ n + suc i = omega arith in frozen_at some (suc n) ss i ∙ ap (λ k. option_map (frozen_slot (some k)) (slice_get ss i)) e

pub frozen_count : (some : ℕ → Bool) (n : ℕ) (ss : List Slot) → length (frozen_from some n ss) ≡ length ss
frozen_count some n [] = refl
frozen_count some n (s ∷ ss) = ap suc (frozen_count some (suc n) ss)

past_of : (xs : List Slot) (i : ℕ) → slice_get xs i ≡ None → length xs ≤ i
past_of [] i e = omega arith
past_of (x ∷ xs) zero e = absurd (none-some x (sym e))
past_of (x ∷ xs) (suc i) e = omega (arith, past_of xs i e)

same_elements : (xs ys : List Slot) → ((i : ℕ) → slice_get xs i ≡ slice_get ys i) → xs ≡ ys
same_elements [] [] h = refl
same_elements [] (y ∷ ys) h = absurd (none-some y (h 0))
same_elements (x ∷ xs) [] h = absurd (none-some x (sym (h 0)))
same_elements (x ∷ xs) (y ∷ ys) h = ap (λ z. z ∷ xs) (same_Some x y (h 0)) ∙ ap (λ zs. y ∷ zs) (same_elements xs ys (λ i. h (suc i)))

-- no value leads to a slot that is a forward, since values are resolved
module _ (t : Table) (well : IsTableSound t.slots t.below) (i c p : ℕ) (forward : slice_get t.slots i ≡ Some (Led c p)) where
  slot_not : (n : ℕ) (s : Option Slot) → slice_get t.slots n ≡ s → resolve_slot s n ≡ Own i → ⊥
  slot_not n None q e = let same : n ≡ i = cc in let w : None ≡ Some (Led c p) = sym q ∙ ap (slice_get t.slots) same ∙ forward in none-some (Led c p) w
  slot_not n (Some (Here o)) q e =
      let same : n ≡ i = cc in
      let w = same_Some (Here o) (Led c p) (sym q ∙ ap (slice_get t.slots) same ∙ forward) in
      let x : ⊥ = cc in x
  slot_not n (Some (Led d r)) q e = let x : ⊥ = cc in x

  resolved_not : (x : Value) → resolve t.slots x ≡ At (Own i) → ⊥
  resolved_not (Plain k) e = let x : ⊥ = cc in x
  resolved_not (At (Own n)) e = slot_not n (slice_get t.slots n) refl (name_is (resolve_slot (slice_get t.slots n) n) (Own i) e)
  resolved_not (At (Published d q)) e = let x : ⊥ = cc in x

  triple_not : (ts : List (Label × Value)) (k : ℕ) (l : Label) (y : Value) → slice_get (map (resolve_triple t.slots) ts) k ≡ Some (l, y) → y ≡ At (Own i) → ⊥
  triple_not [] k l y at e = none-some (l, y) at
  triple_not (s ∷ ss) zero l y at e = resolved_not s.1 (ap (λ (z : Label × Value). z.1) (same_Some (resolve_triple t.slots s) (l, y) at) ∙ e)
  triple_not (s ∷ ss) (suc k) l y at e = triple_not ss k l y at e

  under_not : (n : Name) (o : Object) (l : Label) (y : Value) → space_graph t n ≡ Some o → Contains o.triples (l, y) → y ≡ At (Own i) → ⊥
  under_not (Own k) o l y here has e =
      let raw = raw_in t.slots (joined t.below) k o here in
      let at = at_contains o.triples (l, y) has in
      triple_not raw.0.triples at.0 l y (ap (λ (z : Object). slice_get z.triples at.0) raw.2 ∙ at.1) e
  under_not (Published d q) o l y here has e = subst IsPublished e ((sound_is_sealed t.slots t.below well).shut d q o l y here has)

  led_not : (path : List Label) (x : Value) → (x ≡ At (Own i) → ⊥) → Leads (space_graph t) x path (At (Own i)) → ⊥
  led_not [] x other e = other e
  led_not (l ∷ path) x other (y, (n, o, is, here, has), rest) = led_not path y (under_not n o l y here has) rest

  pub forward_not : (x : Value) → Reaches (space_graph t) (resolve t.slots x) (Own i) → ⊥
  forward_not x (path, r) = led_not path (resolve t.slots x) (resolved_not x) r

module _ (t u : Table) (well : IsTableSound t.slots t.below) (root : Ref) (h : IsDeepFrozen (value_of root) t u) where
  forward_is : (b : Bool) (c p : ℕ) → Some (frozen_slot b (Led c p)) ≡ Some (Led c p)
  forward_is true c p = refl
  forward_is false c p = refl

  slot_is : (i : ℕ) (s : Option Slot) → slice_get t.slots i ≡ s → option_map (frozen_slot (leads t root i)) s ≡ slice_get u.slots i
  slot_is i None q = sym (slice_get_past u.slots i (omega (arith, past_of t.slots i q, h.size)))
  slot_is i (Some (Led c p)) q = forward_is (leads t root i) c p ∙ sym q ∙ sym (h.others i (forward_not t well i c p q (value_of root)))
  slot_is i (Some (Here o)) q = by_test (leads t root i) (Some (frozen_slot (leads t root i) (Here o)) ≡ slice_get u.slots i)
      (λ e. ap (λ b. Some (frozen_slot b (Here o))) e ∙ sym (h.reached i o (led_reached (space_graph t) (length t.slots) (resolve t.slots (value_of root)) i e) q))
      (λ e. ap (λ b. Some (frozen_slot b (Here o))) e ∙ sym q ∙ sym (h.others i (λ r. let z : true ≡ false = sym (reached_led t well (resolve t.slots (value_of root)) i r) ∙ e in let x : ⊥ = cc in x)))

  slots_are : frozen_from (leads t root) 0 t.slots ≡ u.slots
  slots_are = same_elements (frozen_from (leads t root) 0 t.slots) u.slots
      (λ i. let e : 0 + i ≡ i = omega arith in frozen_at (leads t root) 0 t.slots i ∙ ap (λ k. option_map (frozen_slot (leads t root k)) (slice_get t.slots i)) e ∙ slot_is i (slice_get t.slots i) refl)

  -- the slots that are left are these, frozen
  pub frozen_replied : (below : Below) (effect : Effect) (r : Response) → effect ≡ record { said = said r; table = deep_frozen root t } → u.keys ≡ t.keys → IsRestKept t u → IsReadWith t below → IsResponseReached (reach (length t.slots) (Some below)) r → IsReplied below effect t r u
  frozen_replied below effect r is keys rest read reached = record {
    said = ap (λ (e : Effect). e.said) (sym is);
    slots = sym slots_are ∙ ap (λ (e : Effect). e.table.slots) (sym is);
    keys = keys ∙ ap (λ (e : Effect). e.table.keys) (sym is);
    left = record {
      read = record { one = read.one; all = subst (λ b. (e : ℕ × List Object) → Contains (joined b) e → Contains below e) (sym h.below) read.all };
      reached = subst (λ k. IsResponseReached (reach k (Some below)) r) (sym h.size) reached;
      grows = omega (arith, h.size);
      rest = rest;
    };
  }

-- ---- What is replied.

-- nothing was changed
pub same_replied : (below : Below) (effect : Effect) (t u : Table) (r : Response) → effect ≡ record { said = said r; table = t } → u ≡ t → IsReadWith t below → IsResponseReached (reach (length t.slots) (Some below)) r → IsReplied below effect t r u
same_replied below effect t u r is same read reached = subst (λ x. IsReplied below effect t r x) (sym same) (record {
  said = ap (λ (e : Effect). e.said) (sym is);
  slots = ap (λ (e : Effect). e.table.slots) (sym is);
  keys = ap (λ (e : Effect). e.table.keys) (sym is);
  left = record { read = read; reached = reached; grows = omega arith; rest = record { limit = refl; owner = refl; next_message = refl } };
})

-- memory was refused
pub memory_refused : (effect : Effect) (t : Table) (f : Fault) → f ≡ Memory → IsRefused effect t f
memory_refused effect t f is = record { refused = inl is; full = λ e. absurd (cc (sym is ∙ e)) }

-- the value is a slot there, or none
pub below_of : (k : ℕ) (cs : Option Below) (r : Ref) → IsReached (reach k cs) r → IsBelow k (value_of r)
below_of k cs (refs.Local n) h = h
below_of k cs (refs.Shared p c) h = tt
below_of k cs refs.Nil h = tt
below_of k cs refs.False h = tt
below_of k cs refs.True h = tt
below_of k cs (refs.Int z) h = tt
below_of k cs (refs.Symbol s) h = tt
below_of k cs (refs.Class c) h = tt
below_of k cs (refs.Ractor r) h = tt

-- two arguments
pub pair_is : (vs : List Ref) (v w : Ref) → 2 ≤ length vs → length vs < 3 → v ≡ get_or vs 0 v → w ≡ get_or vs 1 w → vs ≡ v ∷ w ∷ []
pair_is [] v w least most first second = absurd (omega (arith, least))
pair_is (x ∷ []) v w least most first second = absurd (omega (arith, least))
pair_is (x ∷ y ∷ []) v w least most first second = ap (λ z. z ∷ y ∷ []) (sym first) ∙ ap (λ z. v ∷ z ∷ []) (sym second)
pair_is (x ∷ y ∷ z ∷ zs) v w least most first second = absurd (omega (arith, most))

-- ---- The tests and the table are what they say.

pub leads_law : (t : Table) (root : Ref) (n : ℕ) → IsTableSound t.slots t.below → IsTrue (leads t root n) ↔ Reaches (space_graph t) (resolve t.slots (value_of root)) (Own n)
leads_law t root n well = (λ e. led_reached (space_graph t) (length t.slots) (resolve t.slots (value_of root)) n e, λ r. reached_led t well (resolve t.slots (value_of root)) n r)

unfrozen : (s : Option Slot) → option_map (frozen_slot false) s ≡ s
unfrozen None = refl
unfrozen (Some (Here o)) = refl
unfrozen (Some (Led c p)) = refl

pub frozen_law : (t : Table) (root : Ref) → IsTableSound t.slots t.below → IsDeepFrozen (value_of root) t (deep_frozen root t)
frozen_law t root well =
    let law = λ (n : ℕ). leads_law t root n well in
    let at : (n : ℕ) → slice_get (frozen_from (leads t root) 0 t.slots) n ≡ option_map (frozen_slot (leads t root n)) (slice_get t.slots n) =
    λ n. let e : 0 + n ≡ n = omega arith in frozen_at (leads t root) 0 t.slots n ∙ ap (λ k. option_map (frozen_slot (leads t root k)) (slice_get t.slots n)) e in
    record {
      below = refl;
      size = frozen_count (leads t root) 0 t.slots;
      reached = λ n o r here. at n ∙ ap (option_map (frozen_slot (leads t root n))) here ∙ ap (λ b. Some (frozen_slot b (Here o))) ((law n).1 r);
      others = λ n out. by_test (leads t root n) (slice_get (frozen_from (leads t root) 0 t.slots) n ≡ slice_get t.slots n)
          (λ e. absurd (out ((law n).0 e)))
          (λ e. at n ∙ ap (λ b. option_map (frozen_slot b) (slice_get t.slots n)) e ∙ unfrozen (slice_get t.slots n));
    }
