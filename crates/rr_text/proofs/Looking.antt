-- What a walk finds at a reference, by what the space tells of it.
use Rattle.std.proofs.Common.{◌≡◌, ℕ, zero, suc, ◌+◌, ◌<◌, ◌≤◌, ◌||◌, Bool, true, false, List, [], ◌∷◌, ◌++◌, map, reverse, drop, length, codes, slice_get, Contains, ◌⊎◌, inl, inr, Some, None, refl, ap, sym, ◌∙◌, subst, arith, if◌then◌else◌}
use Rattle.std.specs.Option.{option_map}
use Rattle.std.specs.List.{list_any}
use Rattle.std.specs.Bool.{MatchBool}
use Rattle.std.proofs.lemmas.List.{reverse-append, length-map}
use Rattle.std.proofs.lemmas.Option.{none-some, same_Some, slice_get-map}
use Rattle.rr_space.specs.Graph.{Name, Own, Published, Value, Plain, At, Label, Place, Field, KeyAt, ValueAt, Message, Cause, Ractor as RactorLabel, Kind, array, hash, shell, Graph}
use Rattle.rr_space.specs.Tables.{Slot, Below, Table, joined, resolve, resolve_slot, resolve_triple, graph_of}
use Rattle.rr_space.specs.Sound.{IsTableSound}
use Rattle.rr_space.specs.Parts.{value_of, below_ref}
use Rattle.rr_space.specs.Views.{text_at, IsKnownFrom}
use Rattle.rr_space.specs.Kinds.{kind_at, class_at}
use Rattle.rr_space.specs.Labels.{triples_at, IsFirstUnder}
use Rattle.rr_space.specs.declared.kind.Kind.TheVariants.{Array as ArrayKind, Hash as HashKind}
use Rattle.rr_space.specs.declared.refer.Ref.{Ref}
use Rattle.rr_space.specs.declared.refer.Ref.TheVariants.{Nil, False, True, Int, Symbol, Class, Ractor, Local, Shared}
use Rattle.rr_text.specs.Walk.{Wrote, Leaf, Branch}
use Rattle.rr_text.specs.Forms.{Names, Way, inspected, lines, Item, Key, Piece, spelled, lining, elements, entries, key_text, thing, look, line_look, array_look, hash_look, object_look, same_key, is_message, message_in, message_text, told_by}
use Rattle.rr_text.specs.Rest.{keys}
use Rattle.rr_text.specs.Reads.{IsAmong, IsReadWith, IsAtEnd}
use Rattle.rr_text.specs.Frames.{key_of, lead_at, thing_in, begun_of, IsEntered, Showed}
use Rattle.rr_text.specs.declared.walk.Frame.{Frame}
use Rattle.rr_text.specs.declared.walk.Going.{Going}
use Rattle.rr_text.specs.declared.walk.Going.TheVariants.{On, Deep as GoingDeep, Shell as GoingShell}
use Rattle.rr_text.specs.Told.{told_kind, told_value}
use Rattle.rr_text.proofs.Seeing.{kind_is, class_is, bytes_are, triples_are}
use Rattle.rr_text.proofs.Stack.{again_showed, deep_showed, entered_showed}

-- ---- The object that a reference leads to.

module _ (names : Names) (t : Table) (below : Below) (sound : IsTableSound t.slots t.below) (read : IsReadWith t below) where
  pub in_kind : (r : Ref) → IsAmong below r → IsAtEnd t r → (thing_in names (graph_of t.slots below) (value_of r)).kind ≡ told_kind (kind_at t r)
  in_kind Nil among end = refl
  in_kind False among end = refl
  in_kind True among end = refl
  in_kind (Int z) among end = refl
  in_kind (Symbol s) among end = refl
  in_kind (Class c) among end = refl
  in_kind (Ractor c) among end = refl
  in_kind (Local m) among end = kind_is t below (Local m) (Own m) sound read among end
  in_kind (Shared p c) among end = kind_is t below (Shared p c) (Published c.now.number p) sound read among end

  pub in_bytes : (r : Ref) → IsAmong below r → IsAtEnd t r → (thing_in names (graph_of t.slots below) (value_of r)).bytes ≡ text_at t r
  in_bytes Nil among end = refl
  in_bytes False among end = refl
  in_bytes True among end = refl
  in_bytes (Int z) among end = refl
  in_bytes (Symbol s) among end = refl
  in_bytes (Class c) among end = refl
  in_bytes (Ractor c) among end = refl
  in_bytes (Local m) among end = bytes_are t below (Local m) (Own m) sound read among end
  in_bytes (Shared p c) among end = bytes_are t below (Shared p c) (Published c.now.number p) sound read among end

  pub in_triples : (r : Ref) → IsAmong below r → IsAtEnd t r → (thing_in names (graph_of t.slots below) (value_of r)).triples ≡ map (resolve_triple t.slots) (triples_at t r)
  in_triples Nil among end = refl
  in_triples False among end = refl
  in_triples True among end = refl
  in_triples (Int z) among end = refl
  in_triples (Symbol s) among end = refl
  in_triples (Class c) among end = refl
  in_triples (Ractor c) among end = refl
  in_triples (Local m) among end = triples_are t below (Local m) (Own m) sound read among end
  in_triples (Shared p c) among end = triples_are t below (Shared p c) (Published c.now.number p) sound read among end

  pub in_class : (r : Ref) → IsAmong below r → IsAtEnd t r → (told_kind (kind_at t r) ≡ shell → ⊥) → (thing_in names (graph_of t.slots below) (value_of r)).class ≡ (class_at t r).0
  in_class Nil among end some = absurd (some refl)
  in_class False among end some = absurd (some refl)
  in_class True among end some = absurd (some refl)
  in_class (Int z) among end some = absurd (some refl)
  in_class (Symbol s) among end some = absurd (some refl)
  in_class (Class c) among end some = absurd (some refl)
  in_class (Ractor c) among end some = absurd (some refl)
  in_class (Local m) among end some = class_is t below (Local m) (Own m) sound read among end (λ h. some (ap told_kind h))
  in_class (Shared p c) among end some = class_is t below (Shared p c) (Published c.now.number p) sound read among end (λ h. some (ap told_kind h))

module _ (names : Names) (g : Graph) (asks : ℕ → Bool) where
  -- what is found at an object, by its kind
  pub looked_at : (way : Way) (v : Value) (n : Name) (k : Kind) → v ≡ At n → (thing_in names g v).kind ≡ k → look names g asks (way, v) ≡ object_look names g asks way k v (thing_in names g v)
  looked_at way v n k e kind =
      let h : (thing names g n).kind ≡ k = ap (λ x. (thing_in names g x).kind) (sym e) ∙ kind in
      let P : Value → Type 0 = λ x. look names g asks (way, x) ≡ object_look names g asks way k x (thing_in names g x) in
      subst P (sym e) (ap (λ k. object_look names g asks way k (At n) (thing names g n)) h)

module _ (names : Names) (g : Graph) where
  -- the elements of an array that is not empty stand on lines
  pub line_some : (v : Value) (ts : List (Label × Value)) → 0 < length ts → line_look names g v ts ≡ Branch (lining, v) (Wrote (spelled (codes "[...]" ++ 10 ∷ []))) [] (elements lines [] [] ts) []
  line_some v [] h = absurd (let w : ⊥ = omega (arith, h) in w)
  line_some v (t ∷ ts) h = refl

  pub line_none : (v : Value) (ts : List (Label × Value)) → length ts ≡ 0 → line_look names g v ts ≡ Leaf (Wrote (spelled (10 ∷ [])))
  line_none v [] h = refl
  line_none v (t ∷ ts) h = absurd (let w : ⊥ = omega (arith, h) in w)

  -- ---- A container is begun.

  swap : (a b c : Bool) → (a || (b || c)) ≡ (b || (a || c))
  swap true true c = refl
  swap true false c = refl
  swap false b c = refl

  any_end : (k : Key) (f : Frame) (xs : List Frame) → list_any (same_key k) (keys (map (begun_of names g) (xs ++ f ∷ []))) ≡ (same_key k (key_of f) || list_any (same_key k) (keys (map (begun_of names g) xs)))
  any_end k f [] = refl
  any_end k f (x ∷ xs) =
      ap (λ b. same_key k (key_of x) || b) (any_end k f xs) ∙ swap (same_key k (key_of x)) (same_key k (key_of f)) (list_any (same_key k) (keys (map (begun_of names g) xs)))

  any_above : (k : Key) (fs : List Frame) → list_any (same_key k) (keys (map (begun_of names g) (reverse fs))) ≡ list_any (λ e. same_key k (key_of e)) fs
  any_above k [] = refl
  any_above k (f ∷ fs) =
      ap (λ xs. list_any (same_key k) (keys (map (begun_of names g) xs))) (reverse-append (f ∷ []) fs)
      ∙ any_end k f (reverse fs) ∙ ap (λ b. same_key k (key_of f) || b) (any_above k fs)

  module _ (asks : ℕ → Bool) (levels : ℕ) (frames frames' : List Frame) (f : Frame) (out out' : List Piece) (again opening : List ℕ) (i : Item)
      (e : look names g asks i ≡ Branch (key_of f) (Wrote (spelled again)) (spelled opening) (begun_of names g f).parts (begun_of names g f).closing) where
    here : (b : Bool) → list_any (λ x. same_key (key_of f) (key_of x)) frames ≡ b
        → MatchBool b ((frames' ≡ frames) × (out' ≡ out ++ spelled again)) ((length frames < levels) × (frames' ≡ frames ++ f ∷ []) × (out' ≡ out ++ spelled opening))
        → Showed names g asks levels frames out i On frames' out'
    here true is (same_frames, more) =
        again_showed (look names g asks) same_key (begun_of names g) levels frames frames' out out' (spelled again) (spelled opening) (begun_of names g f).closing i (key_of f) (begun_of names g f).parts e
        (any_above (key_of f) frames ∙ is) same_frames more
    here false is (fits, es, more) =
        entered_showed (look names g asks) same_key (begun_of names g) levels frames frames' f out out' (Wrote (spelled again)) (spelled opening) (begun_of names g f).closing i (key_of f) (begun_of names g f).parts e
        (any_above (key_of f) frames ∙ is) fits refl es more

    pub entered_shows : (going : Going) → IsEntered levels again opening f frames out going frames' out' → Showed names g asks levels frames out i going frames' out'
    entered_shows On h = here (list_any (λ x. same_key (key_of f) (key_of x)) frames) refl h
    entered_shows GoingDeep (new, full) =
        deep_showed (look names g asks) same_key (begun_of names g) levels frames out (Wrote (spelled again)) (spelled opening) (begun_of names g f).closing i (key_of f) (begun_of names g f).parts e
        (any_above (key_of f) frames ∙ new) full
    entered_shows GoingShell h = absurd h

module _ (levels : ℕ) (again opening : List ℕ) (f : Frame) (frames frames' : List Frame) (out out' : List Piece) where
  pub again_entered : list_any (λ x. same_key (key_of f) (key_of x)) frames ≡ true → frames' ≡ frames → out' ≡ out ++ spelled again → IsEntered levels again opening f frames out On frames' out'
  again_entered is same more =
      let P : Bool → Type 0 = λ b. MatchBool b ((frames' ≡ frames) × (out' ≡ out ++ spelled again)) ((length frames < levels) × (frames' ≡ frames ++ f ∷ []) × (out' ≡ out ++ spelled opening)) in
      subst P (sym is) (same, more)

  pub newly_entered : list_any (λ x. same_key (key_of f) (key_of x)) frames ≡ false → length frames < levels → frames' ≡ frames ++ f ∷ [] → out' ≡ out ++ spelled opening
      → IsEntered levels again opening f frames out On frames' out'
  newly_entered is fits es more =
      let P : Bool → Type 0 = λ b. MatchBool b ((frames' ≡ frames) × (out' ≡ out ++ spelled again)) ((length frames < levels) × (frames' ≡ frames ++ f ∷ []) × (out' ≡ out ++ spelled opening)) in
      subst P (sym is) (fits, es, more)

-- ---- The parts of a container, one by one.

pub lead_next : (k : ℕ) (between : List ℕ) → lead_at (k + 1) between ≡ between
lead_next k between = ap (λ n. lead_at n between) (let e : k + 1 ≡ suc k = omega arith in e)

pub elements_next : (way : Way) (first between : List ℕ) (ts : List (Label × Value)) (k : ℕ) (l : Label) (v : Value) → slice_get ts k ≡ Some (l, v)
    → elements way first between (drop k ts) ≡ (spelled first, (way, v)) ∷ elements way between between (drop (k + 1) ts)
elements_next way first between [] k l v e = absurd (none-some (l, v) e)
elements_next way first between (t ∷ ts) zero l v e = ap (λ (x : Label × Value). (spelled first, (way, x.1)) ∷ elements way between between ts) (same_Some t (l, v) e)
elements_next way first between (t ∷ ts) (suc k) l v e =
    elements_next way first between ts k l v e
    ∙ ap (λ n. (spelled first, (way, v)) ∷ elements way between between (drop n (t ∷ ts))) (let s : suc (k + 1) ≡ suc k + 1 = omega arith in s)

pub elements_none : (way : Way) (first between : List ℕ) (ts : List (Label × Value)) (k : ℕ) → length ts ≤ k → elements way first between (drop k ts) ≡ []
elements_none way first between [] zero h = refl
elements_none way first between [] (suc k) h = refl
elements_none way first between (t ∷ ts) zero h = absurd (let w : ⊥ = omega (arith, h) in w)
elements_none way first between (t ∷ ts) (suc k) h = elements_none way first between ts k (omega (arith, h))

module _ (names : Names) (g : Graph) where
  pub entries_next : (first : List ℕ) (ts : List (Label × Value)) (k : ℕ) (l m : Label) (x y : Value) → slice_get ts k ≡ Some (l, x) → slice_get ts (k + 1) ≡ Some (m, y)
      → entries names g first (drop k ts) ≡ (spelled (first ++ key_text names g x), (inspected, y)) ∷ entries names g (codes ", ") (drop (k + 2) ts)
  entries_next first [] k l m x y e f = absurd (none-some (l, x) e)
  entries_next first (t ∷ []) zero l m x y e f = absurd (none-some (m, y) f)
  entries_next first (t ∷ u ∷ ts) zero l m x y e f =
      ap (λ (a : Label × Value). (spelled (first ++ key_text names g a.1), (inspected, u.1)) ∷ entries names g (codes ", ") ts) (same_Some t (l, x) e)
      ∙ ap (λ (a : Label × Value). (spelled (first ++ key_text names g x), (inspected, a.1)) ∷ entries names g (codes ", ") ts) (same_Some u (m, y) f)
  entries_next first (t ∷ ts) (suc k) l m x y e f =
      let at : slice_get ts (k + 1) ≡ Some (m, y) = ap (slice_get (t ∷ ts)) (let s : suc (k + 1) ≡ suc k + 1 = omega arith in s) ∙ f in
      entries_next first ts k l m x y e at
      ∙ ap (λ n. (spelled (first ++ key_text names g x), (inspected, y)) ∷ entries names g (codes ", ") (drop n (t ∷ ts))) (let s : suc (k + 2) ≡ suc k + 2 = omega arith in s)

  pub entries_none : (first : List ℕ) (ts : List (Label × Value)) (k : ℕ) → length ts ≤ k + 1 → entries names g first (drop k ts) ≡ []
  entries_none first [] zero h = refl
  entries_none first [] (suc k) h = refl
  entries_none first (t ∷ []) zero h = refl
  entries_none first (t ∷ u ∷ ts) zero h = absurd (let w : ⊥ = omega (arith, h) in w)
  entries_none first (t ∷ ts) (suc k) h = entries_none first ts k (omega (arith, h))

-- a value of the object, resolved
pub resolved_at : (slots : List Slot) (ts : List (Label × Value)) (k : ℕ) (l : Label) (v : Value) → slice_get ts k ≡ Some (l, v) → slice_get (map (resolve_triple slots) ts) k ≡ Some (l, resolve slots v)
resolved_at slots ts k l v e = slice_get-map (resolve_triple slots) ts k ∙ ap (option_map (resolve_triple slots)) e

-- ---- Messages of exceptions.

message_label : (l : Label) → is_message l ≡ true → l ≡ Message
message_label Message e = refl
message_label (Place k) e = absurd (let w : ⊥ = cc in w)
message_label (Field s) e = absurd (let w : ⊥ = cc in w)
message_label (KeyAt k) e = absurd (let w : ⊥ = cc in w)
message_label (ValueAt k) e = absurd (let w : ⊥ = cc in w)
message_label Cause e = absurd (let w : ⊥ = cc in w)
message_label RactorLabel e = absurd (let w : ⊥ = cc in w)

pub first_message : (ts : List (Label × Value)) (x : Value) → IsFirstUnder ts Message x → message_in ts ≡ Some x
first_message [] x (k, at, none) = absurd (none-some (Message, x) at)
first_message (t ∷ ts) x (zero, at, none) =
    let is : t ≡ (Message, x) = same_Some t (Message, x) at in
    ap (λ (u : Label × Value). message_in (u ∷ ts)) is
first_message (t ∷ ts) x (suc k, at, none) = by (is_message t.0) refl (first_message ts x (k, at, λ j y lt h. none (suc j) y (omega (arith, lt)) h))
  where
    by : (b : Bool) → is_message t.0 ≡ b → message_in ts ≡ Some x → message_in (t ∷ ts) ≡ Some x
    by true e later = absurd (none 0 t.1 (omega arith) (ap (λ (l : Label). Some (l, t.1)) (message_label t.0 e)))
    by false e later = ap (λ (b : Bool). if b then Some t.1 else message_in ts) e ∙ later

pub no_message : (ts : List (Label × Value)) → ((x : Value) → Contains ts (Message, x) → ⊥) → message_in ts ≡ None
no_message [] none = refl
no_message (t ∷ ts) none = by (is_message t.0) refl (no_message ts (λ x h. none x (suc h.0, omega (arith, h.1), h.2)))
  where
    by : (b : Bool) → is_message t.0 ≡ b → message_in ts ≡ None → message_in (t ∷ ts) ≡ None
    by true e later = absurd (none t.1 (0, omega arith, ap (λ (l : Label). (l, t.1)) (message_label t.0 e)))
    by false e later = ap (λ (b : Bool). if b then Some t.1 else message_in ts) e ∙ later

message_resolved : (slots : List Slot) (ts : List (Label × Value)) → message_in (map (resolve_triple slots) ts) ≡ option_map (resolve slots) (message_in ts)
message_resolved slots [] = refl
message_resolved slots (t ∷ ts) = by (is_message t.0) refl (message_resolved slots ts)
  where
    by : (b : Bool) → is_message t.0 ≡ b → message_in (map (resolve_triple slots) ts) ≡ option_map (resolve slots) (message_in ts)
        → message_in (map (resolve_triple slots) (t ∷ ts)) ≡ option_map (resolve slots) (message_in (t ∷ ts))
    by true e later =
        ap (λ (b : Bool). if b then Some (resolve slots t.1) else message_in (map (resolve_triple slots) ts)) e
        ∙ sym (ap (λ (b : Bool). option_map (resolve slots) (if b then Some t.1 else message_in ts)) e)
    by false e later =
        ap (λ (b : Bool). if b then Some (resolve slots t.1) else message_in (map (resolve_triple slots) ts)) e
        ∙ later
        ∙ sym (ap (λ (b : Bool). option_map (resolve slots) (if b then Some t.1 else message_in ts)) e)

-- an object's name leads to a name
pub resolved_name : (slots : List Slot) (n : Name) → (m : Name) × (resolve slots (At n) ≡ At m)
resolved_name slots (Own n) = (resolve_slot (slice_get slots n) n, refl)
resolved_name slots (Published c p) = (Published c p, refl)

module _ (names : Names) (c : ℕ) (t : Table) (below : Below) (sound : IsTableSound t.slots t.below) (read : IsReadWith t below) where
  told_is : (r : Ref) (v : Value) → IsAmong below r → value_of r ≡ v → told_value names c t r v ≡ message_text names (graph_of t.slots below) c (Some (resolve t.slots v))
  told_is r (Plain i) among e = refl
  told_is r (At n) among e =
      let m = resolved_name t.slots n in
      let at : resolve t.slots (value_of r) ≡ At m.0 = ap (resolve t.slots) e ∙ m.1 in
      ap (λ k. told_by names c k (text_at t r)) (sym (kind_is t below r m.0 sound read among at))
      ∙ ap (told_by names c (thing names (graph_of t.slots below) m.0).kind) (sym (bytes_are t below r m.0 sound read among at))
      ∙ ap (λ v. message_text names (graph_of t.slots below) c (Some v)) (sym m.1)

  pub message_told : (ts : List (Label × Value)) (r : Ref) → IsAmong below r → IsFirstUnder ts Message (value_of r)
      → told_value names c t r (value_of r) ≡ message_text names (graph_of t.slots below) c (message_in (map (resolve_triple t.slots) ts))
  message_told ts r among first =
      told_is r (value_of r) among refl
      ∙ sym (ap (message_text names (graph_of t.slots below) c) (message_resolved t.slots ts ∙ ap (option_map (resolve t.slots)) (first_message ts (value_of r) first)))

  pub none_told : (ts : List (Label × Value)) → ((x : Value) → Contains ts (Message, x) → ⊥)
      → Wrote (names.class c) ≡ message_text names (graph_of t.slots below) c (message_in (map (resolve_triple t.slots) ts))
  none_told ts none = sym (ap (message_text names (graph_of t.slots below) c) (message_resolved t.slots ts ∙ ap (option_map (resolve t.slots)) (no_message ts none)))

-- ---- How containers are begun.

pub among_child : (t : Table) (below : Below) (r x : Ref) → IsReadWith t below → IsAmong below r → IsKnownFrom t r x → IsAmong below x
among_child t below r x read among known e has = by (known e has)
  where
    by : Contains (joined t.below) e ⊎ Contains (below_ref r) e → Contains below e
    by (inl h) = read.all e h
    by (inr h) = among e h

module _ (names : Names) (asks : ℕ → Bool) (t : Table) (below : Below) (r : Ref) (n : Name) (way : Way) (sound : IsTableSound t.slots t.below) (read : IsReadWith t below) (among : IsAmong below r) (end : IsAtEnd t r) (at : value_of r ≡ At n) where
  pub array_found : kind_at t r ≡ ArrayKind → look names (graph_of t.slots below) asks (way, value_of r) ≡ array_look names (graph_of t.slots below) way (value_of r) (thing_in names (graph_of t.slots below) (value_of r)).triples
  array_found e = looked_at names (graph_of t.slots below) asks way (value_of r) n array at (in_kind names t below sound read r among end ∙ ap told_kind e)

  pub hash_found : kind_at t r ≡ HashKind → look names (graph_of t.slots below) asks (way, value_of r) ≡ hash_look names (graph_of t.slots below) way (value_of r) (thing_in names (graph_of t.slots below) (value_of r)).triples
  hash_found e = looked_at names (graph_of t.slots below) asks way (value_of r) n hash at (in_kind names t below sound read r among end ∙ ap told_kind e)

  pub count_found : length (thing_in names (graph_of t.slots below) (value_of r)).triples ≡ length (triples_at t r)
  count_found = ap length (in_triples names t below sound read r among end) ∙ length-map (triples_at t r) (resolve_triple t.slots)
