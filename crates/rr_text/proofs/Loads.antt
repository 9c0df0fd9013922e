-- Each turn of a walk leaves fewer turns.
use Rattle.std.proofs.Common.{◌≡◌, ℕ, zero, suc, ◌+◌, ◌-◌, ◌*◌, ◌^◌, ◌<◌, ◌≤◌, List, [], ◌∷◌, ◌++◌, length, ap, ◌∙◌, arith}
use Rattle.std.proofs.Math.Nat.{pow-zero, pow-suc, mul-le-mul_right}
use Rattle.std.proofs.lemmas.List.{length_push}
use Rattle.std.proofs.lemmas.List.Elements.{All-push}
use Rattle.rr_space.specs.Tables.{Table, Below}
use Rattle.rr_space.specs.Labels.{triples_at}
use Rattle.rr_text.specs.Rest.{load}
use Rattle.rr_text.specs.Reads.{IsAtEnd, IsAmong}
use Rattle.rr_text.specs.Frames.{parts_of, breadth, IsFit, IsGrown, AreAmong}
use Rattle.rr_text.specs.declared.walk.Frame.{Frame}

pub pow_above : (b : ℕ) → 0 < b → (n : ℕ) → 0 < b ^ n
pow_above b h zero = omega (arith, pow-zero b)
pow_above b h (suc n) =
    let i : 1 ≤ b ^ n = pow_above b h n in
    omega (arith, h, pow-suc b n, mul-le-mul_right b i)

module _ {F : Type 0} (parts : F → ℕ) (breadth : ℕ) where
  load_push : (room : ℕ) (fs : List F) (f : F) → load parts breadth room (fs ++ f ∷ []) ≡ load parts breadth room fs + suc (parts f) * breadth ^ (room - length fs)
  load_push room [] f =
      let same : room ≡ room - 0 = omega arith in
      let e : suc (parts f) * breadth ^ room ≡ suc (parts f) * breadth ^ (room - 0) = ap (λ n. suc (parts f) * breadth ^ n) same in
      omega (arith, e)
  load_push room (x ∷ fs) f =
      let same : room - 1 - length fs ≡ room - suc (length fs) = omega arith in
      let e : suc (parts f) * breadth ^ (room - 1 - length fs) ≡ suc (parts f) * breadth ^ (room - suc (length fs)) = ap (λ n. suc (parts f) * breadth ^ n) same in
      omega (arith, e, load_push (room - 1) fs f)

  pub push_light : (levels : ℕ) (fs : List F) (f : F) → 0 < breadth → length fs < levels → suc (parts f) < breadth
      → load parts breadth levels (fs ++ f ∷ []) < load parts breadth levels fs + breadth ^ (suc levels - length fs)
  push_light levels fs f some fits few =
      let n : ℕ = levels - length fs in
      let up : suc levels - length fs ≡ suc n = omega (arith, fits) in
      let w : breadth ^ (suc levels - length fs) ≡ breadth ^ n * breadth = ap (λ k. breadth ^ k) up ∙ pow-suc breadth n in
      let most : suc (suc (parts f)) * breadth ^ n ≤ breadth * breadth ^ n = mul-le-mul_right (breadth ^ n) few in
      omega (arith, load_push levels fs f, w, most, pow_above breadth some n)

  pub next_light : (levels : ℕ) (fs fs' : List F) (top f : F) → length fs < levels → parts f < parts top
      → load parts breadth levels fs' < load parts breadth levels (fs ++ f ∷ []) + breadth ^ (suc levels - length (fs ++ f ∷ []))
      → load parts breadth levels fs' < load parts breadth levels (fs ++ top ∷ [])
  next_light levels fs fs' top f fits less light =
      let n : ℕ = levels - length fs in
      let up : suc levels - length (fs ++ f ∷ []) ≡ n = omega (arith, length_push fs f) in
      let w : breadth ^ (suc levels - length (fs ++ f ∷ [])) ≡ breadth ^ n = ap (λ k. breadth ^ k) up in
      let most : suc (suc (parts f)) * breadth ^ n ≤ suc (parts top) * breadth ^ n = mul-le-mul_right (breadth ^ n) (let l : suc (suc (parts f)) ≤ suc (parts top) = omega (arith, less) in l) in
      omega (arith, load_push levels fs f, load_push levels fs top, w, most, light)

  pub close_light : (levels : ℕ) (fs : List F) (top : F) → 0 < breadth → load parts breadth levels fs < load parts breadth levels (fs ++ top ∷ [])
  close_light levels fs top some =
      let n : ℕ = levels - length fs in
      let most : 1 * breadth ^ n ≤ suc (parts top) * breadth ^ n = mul-le-mul_right (breadth ^ n) (let l : 1 ≤ suc (parts top) = omega arith in l) in
      omega (arith, load_push levels fs top, most, pow_above breadth some n)

pub some_breadth : 0 < breadth
unfolding breadth
some_breadth = omega arith

pub few_parts : (n : ℕ) → n < 2 ^ 64 → suc n < breadth
unfolding breadth
few_parts n h = omega (arith, h)

pub grown_same : (t : Table) (levels : ℕ) (fs : List Frame) → IsFit t levels fs → IsGrown t levels fs fs
grown_same t levels fs fit = record {
  fit = fit;
  light = omega (arith, pow_above breadth some_breadth (suc levels - length fs));
}

pub grown_push : (t : Table) (levels : ℕ) (fs : List Frame) (f : Frame) → IsFit t levels fs → IsAtEnd t f.object → length fs < levels → length (triples_at t f.object) < 2 ^ 64 → IsGrown t levels fs (fs ++ f ∷ [])
grown_push t levels fs f fit end fits few = record {
  fit = record {
    depth = omega (arith, length_push fs f, fits);
    ends = All-push (λ (e : Frame). IsAtEnd t e.object) fs f fit.ends end;
  };
  light = push_light (parts_of t) breadth levels fs f some_breadth fits (few_parts (parts_of t f) (let l : parts_of t f < 2 ^ 64 = omega (arith, few) in l));
}

pub lighter_next : (t : Table) (levels : ℕ) (fs fs' : List Frame) (top f : Frame) → length fs < levels → parts_of t f < parts_of t top → IsGrown t levels (fs ++ f ∷ []) fs'
    → load (parts_of t) breadth levels fs' < load (parts_of t) breadth levels (fs ++ top ∷ [])
lighter_next t levels fs fs' top f fits less grown = next_light (parts_of t) breadth levels fs fs' top f fits less grown.light

pub lighter_closed : (t : Table) (levels : ℕ) (fs : List Frame) (top : Frame) → load (parts_of t) breadth levels fs < load (parts_of t) breadth levels (fs ++ top ∷ [])
lighter_closed t levels fs top = close_light (parts_of t) breadth levels fs top some_breadth

pub among_push : (below : Below) (fs : List Frame) (f : Frame) → AreAmong below fs → IsAmong below f.object → AreAmong below (fs ++ f ∷ [])
among_push below fs f all one = All-push (λ (e : Frame). IsAmong below e.object) fs f all one
