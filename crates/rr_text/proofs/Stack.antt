-- A turn of a walk with a stack, for every form and whatever is written: what was still to be done is what it wrote, and then what is still to be done.
use Rattle.std.proofs.Common.{◌≡◌, ℕ, zero, suc, ◌+◌, ◌-◌, ◌<◌, ◌≤◌, Bool, true, false, List, [], ◌∷◌, ◌++◌, map, length, refl, sym, ap, ◌∙◌, arith, if◌then◌else◌}
use Rattle.std.specs.List.{list_any}
use Rattle.std.proofs.lemmas.List.{append_assoc, append-nil, reverse-append, length_push}
use Rattle.rr_text.specs.Walk.{Outcome, Wrote, Differs, Deep, Circular, Shell, Look, Leaf, Branch, followed, all_of, looked, walk}
use Rattle.rr_text.specs.Rest.{Begun, keys, rest, begun, whole, showing}

pub followed_bytes : {A : Type 0} (a b : List A) (p : Outcome A) → followed (Wrote a) (followed (Wrote b) p) ≡ followed (Wrote (a ++ b)) p
followed_bytes a b (Wrote c) = ap Wrote (sym (append_assoc a b c))
followed_bytes a b Differs = refl
followed_bytes a b Deep = refl
followed_bytes a b Circular = refl
followed_bytes a b Shell = refl

pub followed_assoc : {A : Type 0} (p q r : Outcome A) → followed (followed p q) r ≡ followed p (followed q r)
followed_assoc (Wrote a) (Wrote b) r = sym (followed_bytes a b r)
followed_assoc (Wrote a) Differs r = refl
followed_assoc (Wrote a) Deep r = refl
followed_assoc (Wrote a) Circular r = refl
followed_assoc (Wrote a) Shell r = refl
followed_assoc Differs q r = refl
followed_assoc Deep q r = refl
followed_assoc Circular q r = refl
followed_assoc Shell q r = refl

pub followed_none : {A : Type 0} (p : Outcome A) → followed (Wrote []) p ≡ p
followed_none (Wrote a) = refl
followed_none Differs = refl
followed_none Deep = refl
followed_none Circular = refl
followed_none Shell = refl

pub followed_end : {A : Type 0} (p : Outcome A) → followed p (Wrote []) ≡ p
followed_end (Wrote a) = ap Wrote (append-nil a)
followed_end Differs = refl
followed_end Deep = refl
followed_end Circular = refl
followed_end Shell = refl

module _ {A I K : Type 0} (look : I → Look A I K) (same : K → K → Bool) where
  -- a leaf gives its answer
  pub at_leaf : (room : ℕ) (above : List K) (i : I) (w : Outcome A) → look i ≡ Leaf w → walk look same room above i ≡ w
  at_leaf zero above i w e = ap (looked same above (λ k opening parts closing. Deep)) e
  at_leaf (suc room) above i w e =
      ap (looked same above (λ k opening parts closing. followed (Wrote opening) (followed (all_of (walk look same room (k ∷ above)) parts) (Wrote closing)))) e

  pub at_again : (room : ℕ) (above : List K) (i : I) (k : K) (again : Outcome A) (opening closing : List A) (parts : List (List A × I)) → look i ≡ Branch k again opening parts closing
      → list_any (same k) above ≡ true → walk look same room above i ≡ again
  at_again zero above i k again opening closing parts e h =
      ap (looked same above (λ k opening parts closing. Deep)) e ∙ ap (λ b. if b then again else Deep) h
  at_again (suc room) above i k again opening closing parts e h =
      let inside : Outcome A = followed (Wrote opening) (followed (all_of (walk look same room (k ∷ above)) parts) (Wrote closing)) in
      ap (looked same above (λ k opening parts closing. followed (Wrote opening) (followed (all_of (walk look same room (k ∷ above)) parts) (Wrote closing)))) e
      ∙ ap (λ b. if b then again else inside) h

  pub too_deep : (above : List K) (i : I) (k : K) (again : Outcome A) (opening closing : List A) (parts : List (List A × I)) → look i ≡ Branch k again opening parts closing
      → list_any (same k) above ≡ false → walk look same 0 above i ≡ Deep
  too_deep above i k again opening closing parts e h =
      ap (looked same above (λ k opening parts closing. Deep)) e ∙ ap (λ b. if b then again else Deep) h

  -- a branch is begun
  pub begins : (room : ℕ) (bs : List (Begun A I K)) (out : List A) (i : I) (k : K) (again : Outcome A) (opening closing : List A) (parts : List (List A × I)) → look i ≡ Branch k again opening parts closing
      → list_any (same k) (keys bs) ≡ false
      → followed (Wrote out) (followed (walk look same (suc room) (keys bs) i) (rest look same (suc room) bs))
      ≡ followed (Wrote (out ++ opening)) (rest look same room (record { key = k; parts = parts; closing = closing } ∷ bs))
  begins room bs out i k again opening closing parts e h =
      let above : List K = keys bs in
      let below : Outcome A = rest look same (suc room) bs in
      let all : Outcome A = all_of (walk look same room (k ∷ above)) parts in
      let inside : Outcome A = followed (Wrote opening) (followed all (Wrote closing)) in
      let is : walk look same (suc room) above i ≡ inside =
      ap (looked same above (λ k opening parts closing. followed (Wrote opening) (followed (all_of (walk look same room (k ∷ above)) parts) (Wrote closing)))) e
      ∙ ap (λ b. if b then again else inside) h in
      ap (λ w. followed (Wrote out) (followed w below)) is
      ∙ ap (followed (Wrote out)) (followed_assoc (Wrote opening) (followed all (Wrote closing)) below)
      ∙ followed_bytes out opening (followed (followed all (Wrote closing)) below)
      ∙ ap (followed (Wrote (out ++ opening))) (followed_assoc all (Wrote closing) below)

  -- the topmost has no part left
  pub closes : (room : ℕ) (b : Begun A I K) (bs : List (Begun A I K)) (out : List A) → b.parts ≡ []
      → followed (Wrote out) (rest look same room (b ∷ bs)) ≡ followed (Wrote (out ++ b.closing)) (rest look same (suc room) bs)
  closes room b bs out e =
      let below : Outcome A = followed (Wrote b.closing) (rest look same (suc room) bs) in
      ap (λ ps. followed (Wrote out) (followed (all_of (walk look same room (keys (b ∷ bs))) ps) below)) e
      ∙ ap (followed (Wrote out)) (followed_none below) ∙ followed_bytes out b.closing (rest look same (suc room) bs)

  -- the topmost goes on with its next part
  pub goes_on : (room : ℕ) (b c : Begun A I K) (bs : List (Begun A I K)) (out : List A) (p : List A × I) → b.parts ≡ p ∷ c.parts → b.key ≡ c.key → b.closing ≡ c.closing
      → followed (Wrote out) (rest look same room (b ∷ bs))
      ≡ followed (Wrote (out ++ p.0)) (followed (walk look same room (keys (c ∷ bs)) p.1) (rest look same room (c ∷ bs)))
  goes_on room b c bs out p e key closing =
      let above : List K = c.key ∷ keys bs in
      let below : Outcome A = followed (Wrote c.closing) (rest look same (suc room) bs) in
      let one : Outcome A = walk look same room above p.1 in
      let tail : Outcome A = all_of (walk look same room above) c.parts in
      ap (λ k. followed (Wrote out) (followed (all_of (walk look same room (k ∷ keys bs)) b.parts) (followed (Wrote b.closing) (rest look same (suc room) bs)))) key
      ∙ ap (λ s. followed (Wrote out) (followed (all_of (walk look same room above) b.parts) (followed (Wrote s) (rest look same (suc room) bs)))) closing
      ∙ ap (λ qs. followed (Wrote out) (followed (all_of (walk look same room above) qs) below)) e
      ∙ ap (followed (Wrote out)) (followed_assoc (Wrote p.0) (followed one tail) below)
      ∙ followed_bytes out p.0 (followed (followed one tail) below)
      ∙ ap (followed (Wrote (out ++ p.0))) (followed_assoc one tail below)

  module _ {F : Type 0} (view : F → Begun A I K) (levels : ℕ) where
    -- one frame more on top
    pub topped : (fs : List F) (f : F) → begun look same view levels (fs ++ f ∷ []) ≡ view f ∷ begun look same view levels fs
    topped fs f = ap (map view) (reverse-append fs (f ∷ []))

    pub leaf_showed : (fs fs' : List F) (out out' bytes : List A) (i : I) → look i ≡ Leaf (Wrote bytes) → fs' ≡ fs → out' ≡ out ++ bytes
        → showing look same view levels fs out i ≡ whole look same view levels fs' out'
    leaf_showed fs fs' out out' bytes i e same_frames more =
        let room : ℕ = levels - length fs in
        let bs : List (Begun A I K) = begun look same view levels fs in
        ap (λ w. followed (Wrote out) (followed w (rest look same room bs))) (at_leaf room (keys bs) i (Wrote bytes) e)
        ∙ followed_bytes out bytes (rest look same room bs)
        ∙ ap (λ o. whole look same view levels fs o) (sym more)
        ∙ ap (λ xs. whole look same view levels xs out') (sym same_frames)

    pub leaf_shell : (fs : List F) (out : List A) (i : I) → look i ≡ Leaf Shell → showing look same view levels fs out i ≡ Shell
    leaf_shell fs out i e =
        let room : ℕ = levels - length fs in
        let bs : List (Begun A I K) = begun look same view levels fs in
        ap (λ w. followed (Wrote out) (followed w (rest look same room bs))) (at_leaf room (keys bs) i Shell e)

    pub leaf_differs : (fs : List F) (out : List A) (i : I) → look i ≡ Leaf Differs → showing look same view levels fs out i ≡ Differs
    leaf_differs fs out i e =
        let room : ℕ = levels - length fs in
        let bs : List (Begun A I K) = begun look same view levels fs in
        ap (λ w. followed (Wrote out) (followed w (rest look same room bs))) (at_leaf room (keys bs) i Differs e)

    pub leaf_deep : (fs : List F) (out : List A) (i : I) → look i ≡ Leaf Deep → showing look same view levels fs out i ≡ Deep
    leaf_deep fs out i e =
        let room : ℕ = levels - length fs in
        let bs : List (Begun A I K) = begun look same view levels fs in
        ap (λ w. followed (Wrote out) (followed w (rest look same room bs))) (at_leaf room (keys bs) i Deep e)

    -- a leaf is written behind what was written, or it ends the walk
    pub leaf_goes : (fs : List F) (out : List A) (i : I) (w now : Outcome A) → look i ≡ Leaf w → followed (Wrote out) w ≡ now
        → showing look same view levels fs out i ≡ followed now (rest look same (levels - length fs) (begun look same view levels fs))
    leaf_goes fs out i w now e is =
        let room : ℕ = levels - length fs in
        let bs : List (Begun A I K) = begun look same view levels fs in
        ap (λ x. followed (Wrote out) (followed x (rest look same room bs))) (at_leaf room (keys bs) i w e)
        ∙ sym (followed_assoc (Wrote out) w (rest look same room bs))
        ∙ ap (λ x. followed x (rest look same room bs)) is

    pub again_showed : (fs fs' : List F) (out out' again opening closing : List A) (i : I) (k : K) (parts : List (List A × I)) → look i ≡ Branch k (Wrote again) opening parts closing
        → list_any (same k) (keys (begun look same view levels fs)) ≡ true → fs' ≡ fs → out' ≡ out ++ again
        → showing look same view levels fs out i ≡ whole look same view levels fs' out'
    again_showed fs fs' out out' again opening closing i k parts e h same_frames more =
        let room : ℕ = levels - length fs in
        let bs : List (Begun A I K) = begun look same view levels fs in
        ap (λ w. followed (Wrote out) (followed w (rest look same room bs))) (at_again room (keys bs) i k (Wrote again) opening closing parts e h)
        ∙ followed_bytes out again (rest look same room bs)
        ∙ ap (λ o. whole look same view levels fs o) (sym more)
        ∙ ap (λ xs. whole look same view levels xs out') (sym same_frames)

    pub circular_showed : (fs : List F) (out opening closing : List A) (i : I) (k : K) (parts : List (List A × I)) → look i ≡ Branch k Circular opening parts closing
        → list_any (same k) (keys (begun look same view levels fs)) ≡ true → showing look same view levels fs out i ≡ Circular
    circular_showed fs out opening closing i k parts e h =
        let room : ℕ = levels - length fs in
        let bs : List (Begun A I K) = begun look same view levels fs in
        ap (λ w. followed (Wrote out) (followed w (rest look same room bs))) (at_again room (keys bs) i k Circular opening closing parts e h)

    pub deep_showed : (fs : List F) (out : List A) (again : Outcome A) (opening closing : List A) (i : I) (k : K) (parts : List (List A × I)) → look i ≡ Branch k again opening parts closing
        → list_any (same k) (keys (begun look same view levels fs)) ≡ false → levels ≤ length fs
        → showing look same view levels fs out i ≡ Deep
    deep_showed fs out again opening closing i k parts e h full =
        let bs : List (Begun A I K) = begun look same view levels fs in
        let none : levels - length fs ≡ 0 = omega (arith, full) in
        ap (λ r. followed (Wrote out) (followed (walk look same r (keys bs) i) (rest look same r bs))) none
        ∙ ap (λ w. followed (Wrote out) (followed w (rest look same 0 bs))) (too_deep (keys bs) i k again opening closing parts e h)

    pub entered_showed : (fs fs' : List F) (f : F) (out out' : List A) (again : Outcome A) (opening closing : List A) (i : I) (k : K) (parts : List (List A × I)) → look i ≡ Branch k again opening parts closing
        → list_any (same k) (keys (begun look same view levels fs)) ≡ false → length fs < levels
        → view f ≡ record { key = k; parts = parts; closing = closing } → fs' ≡ fs ++ f ∷ [] → out' ≡ out ++ opening
        → showing look same view levels fs out i ≡ whole look same view levels fs' out'
    entered_showed fs fs' f out out' again opening closing i k parts e h fits seen es more =
        let bs : List (Begun A I K) = begun look same view levels fs in
        let r : ℕ = levels - length (fs ++ f ∷ []) in
        let long : length (fs ++ f ∷ []) ≡ length fs + 1 = length_push fs f in
        let room : levels - length fs ≡ suc r = omega (arith, long, fits) in
        ap (λ n. followed (Wrote out) (followed (walk look same n (keys bs) i) (rest look same n bs))) room
        ∙ begins r bs out i k again opening closing parts e h
        ∙ ap (λ b. followed (Wrote (out ++ opening)) (rest look same r (b ∷ bs))) (sym seen)
        ∙ ap (λ xs. followed (Wrote (out ++ opening)) (rest look same r xs)) (sym (topped fs f))
        ∙ ap (λ o. whole look same view levels (fs ++ f ∷ []) o) (sym more)
        ∙ ap (λ xs. whole look same view levels xs out') (sym es)

    -- the frame on top is at its end
    pub closed_top : (fs fs' : List F) (f : F) (out out' : List A) → length fs < levels → (view f).parts ≡ [] → fs' ≡ fs → out' ≡ out ++ (view f).closing
        → whole look same view levels (fs ++ f ∷ []) out ≡ whole look same view levels fs' out'
    closed_top fs fs' f out out' fits none same_frames more =
        let bs : List (Begun A I K) = begun look same view levels fs in
        let r : ℕ = levels - length (fs ++ f ∷ []) in
        let long : length (fs ++ f ∷ []) ≡ length fs + 1 = length_push fs f in
        let room : suc r ≡ levels - length fs = omega (arith, long, fits) in
        ap (λ xs. followed (Wrote out) (rest look same r xs)) (topped fs f)
        ∙ closes r (view f) bs out none
        ∙ ap (λ n. followed (Wrote (out ++ (view f).closing)) (rest look same n bs)) room
        ∙ ap (λ o. whole look same view levels fs o) (sym more)
        ∙ ap (λ xs. whole look same view levels xs out') (sym same_frames)

    -- the frame on top goes on with its next part
    pub next_top : (fs fs' : List F) (f f' : F) (out out' : List A) (p : List A × I) → (view f).parts ≡ p ∷ (view f').parts → (view f).key ≡ (view f').key → (view f).closing ≡ (view f').closing
        → fs' ≡ fs ++ f' ∷ [] → out' ≡ out ++ p.0
        → whole look same view levels (fs ++ f ∷ []) out ≡ showing look same view levels fs' out' p.1
    next_top fs fs' f f' out out' p parts key closing es more =
        let bs : List (Begun A I K) = begun look same view levels fs in
        let r : ℕ = levels - length (fs ++ f ∷ []) in
        let same_room : r ≡ levels - length (fs ++ f' ∷ []) = ap (λ k. levels - k) (length_push fs f ∙ sym (length_push fs f')) in
        ap (λ xs. followed (Wrote out) (rest look same r xs)) (topped fs f)
        ∙ goes_on r (view f) (view f') bs out p parts key closing
        ∙ ap (λ o. followed (Wrote o) (followed (walk look same r (keys (view f' ∷ bs)) p.1) (rest look same r (view f' ∷ bs)))) (sym more)
        ∙ ap (λ xs. followed (Wrote out') (followed (walk look same r (keys xs) p.1) (rest look same r xs))) (sym (topped fs f'))
        ∙ ap (λ n. followed (Wrote out') (followed (walk look same n (keys (begun look same view levels (fs ++ f' ∷ []))) p.1) (rest look same n (begun look same view levels (fs ++ f' ∷ []))))) same_room
        ∙ ap (λ xs. showing look same view levels xs out' p.1) (sym es)
