-- Turns of joining an array.
use Rattle.std.proofs.Common.{◌≡◌, ℕ, suc, ◌+◌, ◌-◌, ◌^◌, ◌<◌, ◌≤◌, Bool, true, false, ◌||◌, List, [], ◌∷◌, ◌++◌, map, reverse, drop, length, refl, ap, sym, ◌∙◌, arith}
use Rattle.std.specs.List.{list_any}
use Rattle.std.proofs.lemmas.List.{append-nil, reverse-append, length_push}
use Rattle.rr_space.specs.Graph.{Graph, Value}
use Rattle.rr_space.specs.Tables.{Table, Slot}
use Rattle.rr_space.specs.Labels.{triples_at}
use Rattle.rr_space.specs.declared.kind.Kind.{Kind}
use Rattle.rr_space.specs.declared.kind.Kind.TheVariants as kind
use Rattle.rr_text.specs.Walk.{Outcome, Wrote, Circular, Leaf, Branch, followed, walk}
use Rattle.rr_text.specs.Rest.{Begun, load, keys, rest, begun, showing, whole}
use Rattle.rr_text.specs.Frames.{breadth, lead_at}
use Rattle.rr_text.specs.Forms.{Names, Piece, spelled, spoken, pieced, unanswered}
use Rattle.rr_text.specs.Same.{same_value, kind_in, triples_in}
use Rattle.rr_text.specs.Comparing.{value_in, values_in}
use Rattle.rr_text.specs.Joining.{Joint, joined_parts, joined_look, look_joined, joint, joined, come_to, key_of, numbered, begun_of, whole_of, showing_of, ahead, rest_of, IsGrown}
use Rattle.rr_text.specs.declared.joining.Opened.{Opened}
use Rattle.rr_text.specs.declared.joining.Going.{Going}
use Rattle.rr_text.specs.declared.joining.Going.TheVariants as going
use Rattle.rr_text.proofs.Fronts.{values_next, values_end}
use Rattle.rr_text.proofs.Loads.{pow_above, some_breadth, few_parts, push_light, next_light, close_light}
use Rattle.rr_text.proofs.Looking.{lead_next}
use Rattle.rr_text.proofs.Stack.{leaf_goes, circular_showed, deep_showed, entered_showed, closed_top, next_top, followed_none, followed_end}

-- ---- The arrays by their numbers.

pub numbered_push : (k : ℕ) (fs : List Opened) (f : Opened) → numbered k (fs ++ f ∷ []) ≡ numbered k fs ++ (suc (k + length fs), f) ∷ []
numbered_push k [] f = ap (λ n. (suc n, f) ∷ []) (let z : k ≡ k + 0 = omega arith in z)
numbered_push k (x ∷ fs) f =
    ap (λ xs. (suc k, x) ∷ xs) (numbered_push (suc k) fs f ∙ ap (λ n. numbered (suc k) fs ++ (suc n, f) ∷ []) (let z : suc k + length fs ≡ k + suc (length fs) = omega arith in z))

numbered_first : (fs new : List Opened) (f : Opened) → new ≡ fs ++ f ∷ [] → numbered 0 new ≡ numbered 0 fs ++ (suc (length fs), f) ∷ []
numbered_first fs new f is = ap (numbered 0) is ∙ numbered_push 0 fs f ∙ ap (λ n. numbered 0 fs ++ (suc n, f) ∷ []) (let z : 0 + length fs ≡ length fs = omega arith in z)

pub numbered_length : (k : ℕ) (fs : List Opened) → length (numbered k fs) ≡ length fs
numbered_length k [] = refl
numbered_length k (f ∷ fs) = ap suc (numbered_length (suc k) fs)

any_numbered : (p : Opened → Bool) (k : ℕ) (fs : List Opened) → list_any (λ x. p x.1) (numbered k fs) ≡ list_any p fs
any_numbered p k [] = refl
any_numbered p k (f ∷ fs) = ap (λ b. p f || b) (any_numbered p (suc k) fs)

swap : (a b c : Bool) → (a || (b || c)) ≡ (b || (a || c))
swap true true c = refl
swap true false c = refl
swap false b c = refl

array_look : (names : Names) (g : Graph) (asks : ℕ → Bool) (levels : ℕ) (separator : List ℕ) (d : ℕ) (v : Value) → kind_in g v ≡ kind.Array
    → look_joined names g asks levels separator (d, v) ≡ Branch v Circular [] (joined_parts separator (suc d) [] (values_in (triples_in g v))) []
unfolding look_joined
array_look names g asks levels separator d v e = ap (λ k. joined_look names g asks levels separator k (d, v)) e

other_look : (names : Names) (g : Graph) (asks : ℕ → Bool) (levels : ℕ) (separator : List ℕ) (k : Kind) (d : ℕ) (v : Value) → (k ≡ kind.Array → ⊥)
    → joined_look names g asks levels separator k (d, v) ≡ Leaf (pieced names g asks (levels - d) spoken v)
other_look names g asks levels separator kind.Array d v out = absurd (out refl)
other_look names g asks levels separator _ d v out = refl

leaf_look : (names : Names) (g : Graph) (asks : ℕ → Bool) (levels : ℕ) (separator : List ℕ) (k : Kind) (d : ℕ) (v : Value) → kind_in g v ≡ k → (k ≡ kind.Array → ⊥)
    → look_joined names g asks levels separator (d, v) ≡ Leaf (pieced names g asks (levels - d) spoken v)
unfolding look_joined
leaf_look names g asks levels separator k d v e out = ap (λ j. joined_look names g asks levels separator j (d, v)) e ∙ other_look names g asks levels separator k d v out

module _ (names : Names) (g : Graph) (asks : ℕ → Bool) (levels : ℕ) (separator : List ℕ) (slots : List Slot) where
  abbrev view : ℕ × Opened → Begun Piece Joint Value
  view = begun_of names g asks levels separator slots

  any_end : (p : Value → Bool) (f : ℕ × Opened) (xs : List (ℕ × Opened)) → list_any p (keys (map view (xs ++ f ∷ []))) ≡ (p (key_of slots f.1) || list_any p (keys (map view xs)))
  any_end p f [] = refl
  any_end p f (x ∷ xs) = ap (λ b. p (key_of slots x.1) || b) (any_end p f xs) ∙ swap (p (key_of slots x.1)) (p (key_of slots f.1)) (list_any p (keys (map view xs)))

  any_keys : (p : Value → Bool) (xs : List (ℕ × Opened)) → list_any p (keys (map view (reverse xs))) ≡ list_any (λ x. p (key_of slots x.1)) xs
  any_keys p [] = refl
  any_keys p (f ∷ xs) =
      ap (λ ys. list_any p (keys (map view ys))) (reverse-append (f ∷ []) xs)
      ∙ any_end p f (reverse xs) ∙ ap (λ b. p (key_of slots f.1) || b) (any_keys p xs)

  any_above : (v : Value) (fs : List Opened) → list_any (same_value v) (keys (map view (reverse (numbered 0 fs)))) ≡ list_any (λ f. same_value v (key_of slots f)) fs
  any_above v fs = any_keys (same_value v) (numbered 0 fs) ∙ any_numbered (λ f. same_value v (key_of slots f)) 0 fs

  module _ (fs : List Opened) (out : List Piece) (v : Value) (e : kind_in g v ≡ kind.Array) where
    abbrev parts : List (List Piece × Joint)
    parts = joined_parts separator (suc (length fs)) [] (values_in (triples_in g v))

    pub begun_again : (new : List Opened) → list_any (λ f. same_value v (key_of slots f)) fs ≡ true → showing_of names g asks levels separator slots fs out v ≡ ahead names g asks levels separator slots going.Circular new out
    begun_again new is =
        circular_showed (look_joined names g asks levels separator) same_value view levels (numbered 0 fs) out [] [] (length fs, v) v parts (array_look names g asks levels separator (length fs) v e) (any_above v fs ∙ is)

    pub begun_deep : (new : List Opened) → list_any (λ f. same_value v (key_of slots f)) fs ≡ false → levels ≤ length fs → showing_of names g asks levels separator slots fs out v ≡ ahead names g asks levels separator slots going.Deep new out
    begun_deep new is full =
        deep_showed (look_joined names g asks levels separator) same_value view levels (numbered 0 fs) out Circular [] [] (length fs, v) v parts (array_look names g asks levels separator (length fs) v e) (any_above v fs ∙ is)
        (omega (arith, numbered_length 0 fs, full))

    pub begun_inside : (f : Opened) (new : List Opened) → list_any (λ f. same_value v (key_of slots f)) fs ≡ false → length fs < levels → key_of slots f ≡ v → f.next ≡ 0 → new ≡ fs ++ f ∷ []
        → showing_of names g asks levels separator slots fs out v ≡ ahead names g asks levels separator slots going.On new out
    begun_inside f new is fits named first more =
        let seen : view (suc (length fs), f) ≡ record { key = v; parts = parts; closing = [] } =
        ap (λ (n : ℕ). record {
          key = key_of slots f;
          parts = joined_parts separator (suc (length fs)) (lead_at n separator) (drop n (values_in (triples_in g (key_of slots f))));
          closing = [];
        }) first
        ∙ ap (λ (w : Value). record {
          key = w;
          parts = joined_parts separator (suc (length fs)) [] (values_in (triples_in g w));
          closing = [];
        }) named in
        entered_showed (look_joined names g asks levels separator) same_value view levels (numbered 0 fs) (numbered 0 new) (suc (length fs), f) out out Circular [] [] (length fs, v) v parts
        (array_look names g asks levels separator (length fs) v e) (any_above v fs ∙ is) (omega (arith, numbered_length 0 fs, fits)) seen (numbered_first fs new f more) (sym (append-nil out))

  -- a value that is no array
  pub told_now : (fs : List Opened) (out out' : List Piece) (k : Kind) (v : Value) (now : Going) → kind_in g v ≡ k → (k ≡ kind.Array → ⊥)
      → followed (Wrote out) (pieced names g asks (levels - length fs) spoken v) ≡ come_to now out' → showing_of names g asks levels separator slots fs out v ≡ ahead names g asks levels separator slots now fs out'
  told_now fs out out' k v now e other is =
      leaf_goes (look_joined names g asks levels separator) same_value view levels (numbered 0 fs) out (length fs, v) (pieced names g asks (levels - length fs) spoken v) (come_to now out')
      (leaf_look names g asks levels separator k (length fs) v e other) is
      ∙ by now
    where
      by : (now : Going) → followed (come_to now out') (rest (look_joined names g asks levels separator) same_value (levels - length (numbered 0 fs)) (begun (look_joined names g asks levels separator) same_value view levels (numbered 0 fs)))
          ≡ ahead names g asks levels separator slots now fs out'
      by going.On = refl
      by going.Deep = refl
      by going.Circular = refl
      by going.Shell = refl

  -- ---- The next element.

  module _ (fs : List Opened) (top : Opened) (out : List Piece) where
    abbrev those : List Value
    those = values_in (triples_in g (key_of slots top))

    pub element_next : (mid : List Opened) (f : Opened) (out' : List Piece) (v : Value) → top.next < length (triples_in g (key_of slots top)) → value_in (triples_in g (key_of slots top)) top.next ≡ v
        → f ≡ record { array = top.array; next = top.next + 1 } → mid ≡ fs ++ f ∷ [] → out' ≡ out ++ spelled (lead_at top.next separator)
        → whole_of names g asks levels separator slots (fs ++ top ∷ []) out ≡ showing_of names g asks levels separator slots mid out' v
    element_next mid f out' v lt is next more wrote =
        let d = suc (length fs) in
        let lead = lead_at top.next separator in
        let parts : (view (d, top)).parts ≡ (spelled lead, (d, v)) ∷ (view (d, f)).parts =
        ap (joined_parts separator d lead) (values_next (triples_in g (key_of slots top)) top.next lt)
        ∙ ap (λ (x : Value). (spelled lead, (d, x)) ∷ joined_parts separator d separator (drop (top.next + 1) those)) is
        ∙ ap (λ (s : List ℕ). (spelled lead, (d, v)) ∷ joined_parts separator d s (drop (top.next + 1) those)) (sym (lead_next top.next separator))
        ∙ ap (λ (x : Opened). (spelled lead, (d, v)) ∷ (view (d, x)).parts) (sym next) in
        let deep : d ≡ length mid = let z : suc (length fs) ≡ length fs + 1 = omega arith in z ∙ sym (ap length more ∙ length_push fs f) in
        ap (λ xs. whole (look_joined names g asks levels separator) same_value view levels xs out) (numbered_first fs (fs ++ top ∷ []) top refl)
        ∙ next_top (look_joined names g asks levels separator) same_value view levels (numbered 0 fs) (numbered 0 mid) (d, top) (d, f) out out' (spelled lead, (d, v)) parts
        (ap (key_of slots) (sym next)) refl (numbered_first fs mid f more) wrote
        ∙ ap (λ (n : ℕ). showing (look_joined names g asks levels separator) same_value view levels (numbered 0 mid) out' (n, v)) deep

    pub elements_end : length fs < levels → length (triples_in g (key_of slots top)) ≤ top.next → whole_of names g asks levels separator slots (fs ++ top ∷ []) out ≡ ahead names g asks levels separator slots going.On fs out
    elements_end fits le =
        ap (λ xs. whole (look_joined names g asks levels separator) same_value view levels xs out) (numbered_first fs (fs ++ top ∷ []) top refl)
        ∙ closed_top (look_joined names g asks levels separator) same_value view levels (numbered 0 fs) (numbered 0 fs) (suc (length fs), top) out out (omega (arith, numbered_length 0 fs, fits))
        (ap (joined_parts separator (suc (length fs)) (lead_at top.next separator)) (values_end (triples_in g (key_of slots top)) top.next le)) refl (sym (append-nil out))

  -- nothing was begun and nothing written
  pub starts : (fs : List Opened) (out : List Piece) (v : Value) → fs ≡ [] → out ≡ [] → joint names g asks levels separator v ≡ showing_of names g asks levels separator slots fs out v
  unfolding joint
  starts fs out v e f =
      let one : Outcome Piece = walk (look_joined names g asks levels separator) same_value (levels - 0) [] (0, v) in
      sym (ap (λ (xs : List Opened). showing_of names g asks levels separator slots xs out v) e
      ∙ ap (λ (s : List Piece). showing_of names g asks levels separator slots [] s v) f
      ∙ followed_none (followed one (Wrote [])) ∙ followed_end one
      ∙ ap (λ (n : ℕ). walk (look_joined names g asks levels separator) same_value n [] (0, v)) (let z : levels - 0 ≡ levels = omega arith in z))

  -- nothing is left to do
  pub ends : (fs : List Opened) (out : List Piece) → length fs ≡ 0 → whole_of names g asks levels separator slots fs out ≡ Wrote out
  ends [] out e = ap Wrote (append-nil out)
  ends (f ∷ fs) out e = absurd (let no : ⊥ = omega (arith, e) in no)

-- the text is what was joined
pub joined_is : (names : Names) (g : Graph) (levels : ℕ) (separator : List ℕ) (v : Value) (w : Outcome Piece) → joint names g (λ _. false) levels separator v ≡ w → unanswered w ≡ joined names g levels separator v
unfolding joined
joined_is names g levels separator v w e = ap unanswered (sym e)

-- ---- Less is left.

pub grown_same : (t : Table) (levels : ℕ) (fs : List Opened) → length fs ≤ levels → IsGrown t levels fs fs
grown_same t levels fs fit = record {
  fit = fit;
  light = omega (arith, pow_above breadth some_breadth (suc levels - length fs));
}

pub grown_push : (t : Table) (levels : ℕ) (fs new : List Opened) (f : Opened) → new ≡ fs ++ f ∷ [] → length fs < levels → length (triples_at t f.array) < 2 ^ 64 → IsGrown t levels fs new
grown_push t levels fs new f is fits few = record {
  fit = omega (arith, ap length is, length_push fs f, fits);
  light =
      let l = push_light (rest_of t) breadth levels fs f some_breadth fits (few_parts (rest_of t f) (let l : rest_of t f < 2 ^ 64 = omega (arith, few) in l)) in
      omega (arith, ap (load (rest_of t) breadth levels) is, l);
}

pub lighter_next : (t : Table) (levels : ℕ) (fs mid fs' : List Opened) (top f : Opened) → mid ≡ fs ++ f ∷ [] → length fs < levels → rest_of t f < rest_of t top → IsGrown t levels mid fs'
    → load (rest_of t) breadth levels fs' < load (rest_of t) breadth levels (fs ++ top ∷ [])
lighter_next t levels fs mid fs' top f is fits less grown =
    let l : load (rest_of t) breadth levels fs' < load (rest_of t) breadth levels (fs ++ f ∷ []) + breadth ^ (suc levels - length (fs ++ f ∷ [])) =
    omega (arith, grown.light, ap (load (rest_of t) breadth levels) is, ap (λ (xs : List Opened). breadth ^ (suc levels - length xs)) is) in
    next_light (rest_of t) breadth levels fs fs' top f fits less l

pub lighter_closed : (t : Table) (levels : ℕ) (fs : List Opened) (top : Opened) → load (rest_of t) breadth levels fs < load (rest_of t) breadth levels (fs ++ top ∷ [])
lighter_closed t levels fs top = close_light (rest_of t) breadth levels fs top some_breadth
