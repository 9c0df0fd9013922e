-- What a change of one object leaves of a ractor.
use Rattle.std.proofs.Common.{◌≡◌, ℕ, zero, suc, arith, ◌++◌, ◌⊎◌, ⊎_elim, inl, inr, List, [], ◌∷◌, length, map, Option, Some, None, IsTrue, Bool, true, false, slice_get, slice_set, Contains, sym, ap, ◌∙◌, subst, refl}
use Rattle.std.specs.Prelude.{◌&&◌, not}
use Rattle.std.proofs.lemmas.List.Elements.{Contains-append_cases}
use Rattle.std.proofs.lemmas.Option.{none-some, slice_get_within}
use Rattle.rr_base.specs.declared.limits.Limits.{Limits}
use Rattle.rr_space.specs.Graph.{Kind, text, array, hash, plain, exception, shell, Object, Label, Field, Value}
use Rattle.rr_space.specs.Tables.{Table, Packed, Slot, Here, Led, Below, joined}
use Rattle.rr_space.specs.Parts.{value_of, below_ref, IsWithin}
use Rattle.rr_space.specs.Labels.{triples_at, triples_of, IsFirstUnder, raised_place}
use Rattle.rr_space.specs.Kinds.{kind_at, kind_named, object_kind}
use Rattle.rr_space.specs.Views.{emptied, can_freeze_at, can_write_at, slot_object, is_shell, is_whole, is_open, IsLedAlso, IsLedBy, IsKnownFrom, IsFirstAt, label_part}
use Rattle.rr_space.specs.declared.kind.Kind.TheVariants as kinds
use Rattle.rr_space.specs.declared.refer.Ref.{Ref}
use Rattle.rr_space.specs.declared.refer.Ref.TheVariants as ref
use Rattle.rr_space.proofs.Renaming.{contains_at}
use Rattle.rr_space.proofs.Sounds.{joined_back, joined_in, gets, none_in}
use Rattle.rr_space.proofs.Hands.{append_left}
use Rattle.rr_move.specs.Hands.{message_in, home_in}
use Rattle.rr_move.specs.declared.home.Home.{Home}
use Rattle.rr_move.specs.declared.hand.Hand.{Hand}
use Rattle.rr_move.specs.declared.hand.Hand.TheVariants.{Empty, Planned, Published, Message, Moved, Shown}
use Rattle.rr_world.specs.Views.{Member, AreAway, AreRootsWithin, IsHandFit, IsPublishedFit, plan_in, published_in, ticket_in}
use Rattle.rr_world.specs.Enabling.{IsNoShell, IsOpen, HasFields}
use Rattle.rr_world.specs.ObjectCases.{with_field, with_part, part_label}
use Rattle.rr_world.specs.Changing.{IsMadeOf, IsReadBy, LeadTo, DoKeysStay}
use Rattle.rr_world.specs.Packing.{named_ref}
use Rattle.rr_world.specs.declared.step.Operand.{Operand}
use Rattle.rr_world.proofs.Fields.{field_cases}
use Rattle.rr_world.proofs.Forwarding.{IsOut, plan_below, seen_out}
use Rattle.rr_world.proofs.Lists.{eq_cases, set_off}
use Rattle.rr_world.specs.declared.step.RaisedPart.{RaisedPart}

abbrev pub member : Table → List Ref → Hand → Limits → Bool → Member
member space roots hand limits runs = record { space = space; roots = roots; hand = message_in hand; home = home_in hand; ticket = ticket_in hand; plan = plan_in hand; published = published_in hand; limits = limits; runs = runs }

no_shell : (o : Object) → not (is_shell o.kind) ≡ true → IsNoShell o
no_shell o holds is = let no : not (is_shell shell) ≡ true = subst (λ (k : Kind). not (is_shell k) ≡ true) is holds in cc

-- an object of the space that may be frozen
pub whole_slot : (t : Table) (v : Ref) → IsTrue (can_freeze_at t v) → (n : ℕ) × (o : Object) × (v ≡ ref.Local n) × (slice_get t.slots n ≡ Some (Here o)) × IsNoShell o
whole_slot t ref.Nil holds = let no : false ≡ true = holds in cc
whole_slot t ref.False holds = let no : false ≡ true = holds in cc
whole_slot t ref.True holds = let no : false ≡ true = holds in cc
whole_slot t (ref.Int x) holds = let no : false ≡ true = holds in cc
whole_slot t (ref.Symbol x) holds = let no : false ≡ true = holds in cc
whole_slot t (ref.Class x) holds = let no : false ≡ true = holds in cc
whole_slot t (ref.Ractor x) holds = let no : false ≡ true = holds in cc
whole_slot t (ref.Shared p c) holds = let no : false ≡ true = holds in cc
whole_slot t (ref.Local n) holds = by (slice_get t.slots n) refl
  where
    by : (x : Option Slot) → slice_get t.slots n ≡ x → (m : ℕ) × (o : Object) × (ref.Local n ≡ ref.Local m) × (slice_get t.slots m ≡ Some (Here o)) × IsNoShell o
    by None e = let no : is_whole None ≡ true = ap is_whole (sym e) ∙ holds in cc
    by (Some (Led c p)) e = let no : is_whole (Some (Led c p)) ≡ true = ap is_whole (sym e) ∙ holds in cc
    by (Some (Here o)) e = (n, o, refl, e, no_shell o (ap is_whole (sym e) ∙ holds))

is_text : (k : Kind) → kind_named k ≡ kinds.Text → k ≡ text
is_text text e = refl
is_text array e = cc
is_text hash e = cc
is_text plain e = cc
is_text exception e = cc
is_text shell e = cc

is_array : (k : Kind) → kind_named k ≡ kinds.Array → k ≡ array
is_array array e = refl
is_array text e = cc
is_array hash e = cc
is_array plain e = cc
is_array exception e = cc
is_array shell e = cc

is_hash : (k : Kind) → kind_named k ≡ kinds.Hash → k ≡ hash
is_hash hash e = refl
is_hash text e = cc
is_hash array e = cc
is_hash plain e = cc
is_hash exception e = cc
is_hash shell e = cc

is_plain : (k : Kind) → kind_named k ≡ kinds.Object → k ≡ plain
is_plain plain e = refl
is_plain text e = cc
is_plain array e = cc
is_plain hash e = cc
is_plain exception e = cc
is_plain shell e = cc

is_exception : (k : Kind) → kind_named k ≡ kinds.Exception → k ≡ exception
is_exception exception e = refl
is_exception text e = cc
is_exception array e = cc
is_exception hash e = cc
is_exception plain e = cc
is_exception shell e = cc

not_frozen : (a b : Bool) → a && not b ≡ true → b ≡ false
not_frozen true false e = refl
not_frozen true true e = cc
not_frozen false b e = cc

-- an object of the space that may be written, with its kind
open_slot : (t : Table) (v : Ref) → IsTrue (can_write_at t v)
    → (n : ℕ) × (o : Object) × (v ≡ ref.Local n) × (slice_get t.slots n ≡ Some (Here o)) × (kind_at t v ≡ kind_named o.kind) × (o.frozen ≡ false)
open_slot t ref.Nil holds = let no : false ≡ true = holds in cc
open_slot t ref.False holds = let no : false ≡ true = holds in cc
open_slot t ref.True holds = let no : false ≡ true = holds in cc
open_slot t (ref.Int x) holds = let no : false ≡ true = holds in cc
open_slot t (ref.Symbol x) holds = let no : false ≡ true = holds in cc
open_slot t (ref.Class x) holds = let no : false ≡ true = holds in cc
open_slot t (ref.Ractor x) holds = let no : false ≡ true = holds in cc
open_slot t (ref.Shared p c) holds = let no : false ≡ true = holds in cc
open_slot t (ref.Local n) holds = by (slice_get t.slots n) refl
  where
    by : (x : Option Slot) → slice_get t.slots n ≡ x
        → (m : ℕ) × (o : Object) × (ref.Local n ≡ ref.Local m) × (slice_get t.slots m ≡ Some (Here o)) × (kind_at t (ref.Local n) ≡ kind_named o.kind) × (o.frozen ≡ false)
    by None e = let no : is_open None ≡ true = ap is_open (sym e) ∙ holds in cc
    by (Some (Led c p)) e = let no : is_open (Some (Led c p)) ≡ true = ap is_open (sym e) ∙ holds in cc
    by (Some (Here o)) e = (n, o, refl, e, ap (λ x. object_kind (slot_object x (slice_get t.below n))) e, not_frozen (not (is_shell o.kind)) o.frozen (ap is_open (sym e) ∙ holds))

pub open_text : (t : Table) (v : Ref) → IsTrue (can_write_at t v) → kind_at t v ≡ kinds.Text → (n : ℕ) × (o : Object) × (v ≡ ref.Local n) × (slice_get t.slots n ≡ Some (Here o)) × IsOpen text o
open_text t v holds is = let s = open_slot t v holds in (s.0, s.1, s.2, s.3, (is_text s.1.kind (sym s.4 ∙ is), s.5))

pub open_array : (t : Table) (v : Ref) → IsTrue (can_write_at t v) → kind_at t v ≡ kinds.Array → (n : ℕ) × (o : Object) × (v ≡ ref.Local n) × (slice_get t.slots n ≡ Some (Here o)) × IsOpen array o
open_array t v holds is = let s = open_slot t v holds in (s.0, s.1, s.2, s.3, (is_array s.1.kind (sym s.4 ∙ is), s.5))

pub open_hash : (t : Table) (v : Ref) → IsTrue (can_write_at t v) → kind_at t v ≡ kinds.Hash → (n : ℕ) × (o : Object) × (v ≡ ref.Local n) × (slice_get t.slots n ≡ Some (Here o)) × IsOpen hash o
open_hash t v holds is = let s = open_slot t v holds in (s.0, s.1, s.2, s.3, (is_hash s.1.kind (sym s.4 ∙ is), s.5))

open_plain : (t : Table) (v : Ref) → IsTrue (can_write_at t v) → kind_at t v ≡ kinds.Object → (n : ℕ) × (o : Object) × (v ≡ ref.Local n) × (slice_get t.slots n ≡ Some (Here o)) × IsOpen plain o
open_plain t v holds is = let s = open_slot t v holds in (s.0, s.1, s.2, s.3, (is_plain s.1.kind (sym s.4 ∙ is), s.5))

pub open_exception : (t : Table) (v : Ref) → IsTrue (can_write_at t v) → kind_at t v ≡ kinds.Exception → (n : ℕ) × (o : Object) × (v ≡ ref.Local n) × (slice_get t.slots n ≡ Some (Here o)) × IsOpen exception o
open_exception t v holds is = let s = open_slot t v holds in (s.0, s.1, s.2, s.3, (is_exception s.1.kind (sym s.4 ∙ is), s.5))

-- one with fields
pub open_fields : (t : Table) (v : Ref) → IsTrue (can_write_at t v) → (kind_at t v ≡ kinds.Object) ⊎ (kind_at t v ≡ kinds.Exception)
    → (n : ℕ) × (o : Object) × (v ≡ ref.Local n) × (slice_get t.slots n ≡ Some (Here o)) × HasFields o
open_fields t v holds (inl is) = let s = open_plain t v holds is in (s.0, s.1, s.2, s.3, inl s.4)
open_fields t v holds (inr is) = let s = open_exception t v holds is in (s.0, s.1, s.2, s.3, inr s.4)

-- a part of an exception is set, by its label
pub part_set : (slots : List Slot) (n : ℕ) (o : Object) (part : RaisedPart) (l : Label) (x : Value) → l ≡ part_label part
    → slice_set slots n (Here (record o { triples = slice_set o.triples (raised_place l) (l, x) })) ≡ slice_set slots n (Here (with_part part x o))
part_set slots n o part l x is = ap (λ z. slice_set slots n (Here (record o { triples = slice_set o.triples (raised_place z) (z, x) }))) is

-- the triples of an object, with a field set
pub field_set : (name : ℕ) (v : Ref) (n : ℕ) (o : Object) (a b : Table)
    → ((i : ℕ) → IsFirstAt (map label_part o.triples) (Field name) i → b.slots ≡ slice_set a.slots n (Here (record o { triples = slice_set o.triples i (Field name, value_of v) })))
    → ((Contains (map label_part o.triples) (Field name) → ⊥) → b.slots ≡ slice_set a.slots n (Here (record o { triples = o.triples ++ (Field name, value_of v) ∷ [] })))
    → b.slots ≡ slice_set a.slots n (Here (with_field name (value_of v) o))
field_set name v n o a b present absent = ⊎_elim
    (λ z. present z.0 z.1 ∙ ap (λ ts. slice_set a.slots n (Here (record o { triples = ts }))) (sym (z.2 (value_of v))))
    (λ z. absent z.0 ∙ ap (λ ts. slice_set a.slots n (Here (record o { triples = ts }))) (sym (z.1 (value_of v))))
    (field_cases name o.triples)

-- what stands under labels in an object of the space
pub at_slot : (t : Table) (v : Ref) (n : ℕ) (o : Object) → v ≡ ref.Local n → slice_get t.slots n ≡ Some (Here o) → triples_at t v ≡ o.triples
at_slot t v n o is here = ap (triples_at t) is ∙ ap (λ x. triples_of (slot_object x (slice_get t.below n))) here

pub set_length : {A : Type 0} (xs : List A) (i : ℕ) (x : A) → length (slice_set xs i x) ≡ length xs
set_length [] i x = refl
set_length (y ∷ ys) zero x = refl
set_length (y ∷ ys) (suc i) x = ap suc (set_length ys i x)

-- roots stay within a space with another object in a slot
pub set_within : (a b : Table) (n : ℕ) (x : Slot) (rs : List Ref) → b.slots ≡ slice_set a.slots n x → AreRootsWithin (length a.slots) rs → AreRootsWithin (length b.slots) rs
set_within a b n x rs is within = subst (λ k. AreRootsWithin k rs) (sym (ap length is ∙ set_length a.slots n x)) within

-- what is away stays so while other slots change, and while slots come behind
still_shell : (slots : List Slot) (n j : ℕ) (x : Slot) (o : Object) → slice_get slots n ≡ Some (Here o) → IsNoShell o → slice_get slots j ≡ Some (Here emptied) → slice_get (slice_set slots n x) j ≡ Some (Here emptied)
still_shell slots n j x o here whole at =
    set_off slots n j x (λ same. whole (ap (λ (y : Object). y.kind) (same_here o emptied (sym here ∙ ap (slice_get slots) (sym same) ∙ at)))) ∙ at
  where
    same_here : (a b : Object) → Some (Here a) ≡ Some (Here b) → a ≡ b
    same_here a b e = cc

pub away_set : (slots : List Slot) (n : ℕ) (x : Slot) (o : Object) (hand : Option Packed) (home : Option Home) → slice_get slots n ≡ Some (Here o) → IsNoShell o → AreAway slots hand home
    → AreAway (slice_set slots n x) hand home
away_set slots n x o hand None here whole away = tt
away_set slots n x o None (Some h) here whole away = λ j has. still_shell slots n j x o here whole (away j has)
away_set slots n x o (Some p) (Some h) here whole away = record { shells = λ j has. still_shell slots n j x o here whole (away.shells j has); count = away.count }

pub set_away : (a b : Table) (n : ℕ) (x : Slot) (o : Object) (hand : Option Packed) (home : Option Home) → b.slots ≡ slice_set a.slots n x → slice_get a.slots n ≡ Some (Here o) → IsNoShell o
    → AreAway a.slots hand home → AreAway b.slots hand home
set_away a b n x o hand home is here whole away = subst (λ ss. AreAway ss hand home) (sym is) (away_set a.slots n x o hand home here whole away)

-- a hand that has a message has nothing else
pub held_fits : (t : Table) (h : Hand) (p : Packed) → message_in h ≡ Some p → IsHandFit t h
held_fits t Empty p is = (tt, tt)
held_fits t (Planned plan) p is = absurd (none-some p is)
held_fits t (Published places published) p is = absurd (none-some p is)
held_fits t (Message m) p is = (tt, tt)
held_fits t (Moved d) p is = (tt, tt)
held_fits t (Shown home ticket) p is = (tt, tt)

pub held_plan : (h : Hand) (p : Packed) → message_in h ≡ Some p → plan_in h ≡ None
held_plan Empty p is = refl
held_plan (Planned plan) p is = absurd (none-some p is)
held_plan (Published places published) p is = refl
held_plan (Message m) p is = refl
held_plan (Moved d) p is = refl
held_plan (Shown home ticket) p is = refl

pub held_published : (h : Hand) (p : Packed) → message_in h ≡ Some p → published_in h ≡ None
held_published Empty p is = refl
held_published (Planned plan) p is = refl
held_published (Published places published) p is = absurd (none-some p is)
held_published (Message m) p is = refl
held_published (Moved d) p is = refl
held_published (Shown home ticket) p is = refl

-- and waits under no ticket
pub held_ticket : (h : Hand) (p : Packed) → message_in h ≡ Some p → ticket_in h ≡ None
held_ticket Empty p is = refl
held_ticket (Planned plan) p is = refl
held_ticket (Published places published) p is = refl
held_ticket (Message m) p is = refl
held_ticket (Moved d) p is = refl
held_ticket (Shown home ticket) p is = absurd (none-some p is)

pub away_more : (slots more : List Slot) (hand : Option Packed) (home : Option Home) → AreAway slots hand home → AreAway (slots ++ more) hand home
away_more slots more hand None away = tt
away_more slots more None (Some h) away = λ j has. append_left slots more j (Here emptied) (away j has)
away_more slots more (Some p) (Some h) away = record { shells = λ j has. append_left slots more j (Here emptied) (away.shells j has); count = away.count }

pub open_whole : (kind : Kind) (o : Object) → (kind ≡ shell → ⊥) → IsOpen kind o → IsNoShell o
open_whole kind o differ opened is = differ (sym opened.0 ∙ is)

-- what a space leads to after a write it led to before, or came with the value
pub led_among : (vs : List Ref) (more : Below) (n : ℕ) (a b : List Below) → IsLedAlso more n a b → ((e : ℕ × List Object) → Contains more e → LeadTo vs e)
    → (e : ℕ × List Object) → Contains (joined b) e → Contains (joined a) e ⊎ LeadTo vs e
led_among vs more n a b L among e has =
    let z = joined_back b e has in
    ⊎_elim
    (λ same.
    let at : slice_get b n ≡ Some z.1 = ap (slice_get b) (sym same) ∙ z.2 in
    let old = gets a n (let lt = slice_get_within b n z.1 at in omega (arith, L.size, lt)) in
    ⊎_elim (λ was. inl (joined_in a n old.0 e old.1 was)) (λ came. inr (among e came)) (L.same old.0 z.1 e old.1 at z.3))
    (λ other. inl (joined_in a z.0 z.1 e (sym (L.others z.0 other) ∙ z.2) z.3))
    (eq_cases z.0 n)

pub led_known : (v : Ref) (n : ℕ) (a b : List Below) → IsLedBy v n a b → (e : ℕ × List Object) → Contains (joined b) e → Contains (joined a) e ⊎ LeadTo (v ∷ []) e
led_known v n a b L = led_among (v ∷ []) (below_ref v) n a b L (λ e has. (v, contains_at (v ∷ []) 0 v refl, has))

pub led_both : (r v : Ref) (n : ℕ) (a b : List Below) → IsLedAlso (below_ref r ++ below_ref v) n a b → (e : ℕ × List Object) → Contains (joined b) e → Contains (joined a) e ⊎ LeadTo (r ∷ v ∷ []) e
led_both r v n a b L = led_among (r ∷ v ∷ []) (below_ref r ++ below_ref v) n a b L
    (λ e has. ⊎_elim (λ one. (r, contains_at (r ∷ v ∷ []) 0 r refl, one)) (λ two. (v, contains_at (r ∷ v ∷ []) 1 v refl, two)) (Contains-append_cases (below_ref r) (below_ref v) e has))

pub led_less : (n : ℕ) (a b : List Below) → IsLedAlso [] n a b → (e : ℕ × List Object) → Contains (joined b) e → Contains (joined a) e ⊎ LeadTo [] e
led_less n a b L = led_among [] [] n a b L (λ e has. absurd (none_in e has))

pub kept_known : (a b : List Below) → b ≡ a → (e : ℕ × List Object) → Contains (joined b) e → Contains (joined a) e ⊎ LeadTo [] e
kept_known a b same e has = inl (subst (λ x. Contains (joined x) e) same has)

-- an object of the space is made another
pub made : (op : Operand) (may : Object → Type 0) (change : Object → Object) (vs : List Ref) (v : Ref) (old : Member) (sp new : Table) (rs : List Ref) (hand : Hand) (limits : Limits) (runs : Bool) (n : ℕ) (o : Object)
    → member sp rs hand limits runs ≡ old → named_ref old.roots op ≡ Some v → v ≡ ref.Local n → slice_get sp.slots n ≡ Some (Here o) → may o → new.slots ≡ slice_set sp.slots n (Here (change o))
    → ((e : ℕ × List Object) → Contains (joined new.below) e → Contains (joined sp.below) e ⊎ LeadTo vs e) → new.limit ≡ sp.limit → new.owner ≡ sp.owner → new.next_message ≡ sp.next_message
    → AreRootsWithin (length sp.slots) rs → AreAway sp.slots (message_in hand) (home_in hand) → IsHandFit sp hand → IsOut (published_in hand) n → AreRootsWithin (length sp.slots) vs → DoKeysStay vs sp new → IsMadeOf op may change vs old (member new rs hand limits runs)
made op may change vs v old sp new rs hand limits runs n o is named slot here holds slots below limit owner next within away fit out values keyed =
    subst (λ (m : Member). IsMadeOf op may change vs m (member new rs hand limits runs)) is (
      n,
      o,
      record { named = subst (λ (m : Member). named_ref m.roots op ≡ Some v) (sym is) named ∙ ap (λ r. Some r) slot; here = seen_out sp (published_in hand) n fit.1 out ∙ here },
      holds,
      record { within = within; values = values; slots = slots; below = below; keyed = keyed; limit = limit; roots = refl; hand = refl; home = refl; ticket = refl; plan = refl; planned = plan_below sp (plan_in hand) fit.0; published = refl; fit = fit.1; away = away; next = next; owner = owner; limits = refl; runs = refl },
    )

pub read_by : (op : Operand) (l : Label) (v r : Ref) (old : Member) (sp : Table) (rs all : List Ref) (hand : Hand) (limits : Limits) (runs : Bool) → member sp rs hand limits runs ≡ old → all ≡ rs ++ r ∷ [] → named_ref old.roots op ≡ Some v
    → IsFirstUnder (triples_at sp v) l (value_of r) → IsWithin (length sp.slots) r → IsKnownFrom sp v r → AreRootsWithin (length sp.slots) rs → IsPublishedFit sp (published_in hand) → IsReadBy op l v r old (member sp all hand limits runs)
read_by op l v r old sp rs all hand limits runs is more named first root known within fit =
    subst (λ (m : Member). IsReadBy op l v r m (member sp all hand limits runs)) is (record {
      within = within;
      named = subst (λ (m : Member). named_ref m.roots op ≡ Some v) (sym is) named;
      first = first;
      root = root;
      known = known;
      fit = fit;
      now_is = ap (λ xs. member sp xs hand limits runs) more;
    })
