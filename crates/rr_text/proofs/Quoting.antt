-- Texts between quotes.
use Rattle.std.proofs.Common.{◌≡◌, ℕ, suc, ◌+◌, ◌-◌, ◌<◌, ◌≤◌, List, [], ◌∷◌, ◌++◌, length, take, drop, get_or, slice_range, sym, ap, ◌∙◌, arith, drop-cons, length-drop}
use Rattle.std.proofs.lemmas.List.{append_assoc, append-nil, get_or-drop, drop_all}
use Rattle.std.proofs.Math.Seq.{take-suc}
use Rattle.rr_text.specs.Quoted.{escape, escaped, quoted}

slice_more : (s : List ℕ) (i j : ℕ) → i ≤ j → j < length s → slice_range s i (j + 1) ≡ slice_range s i j ++ get_or s j 0 ∷ []
slice_more s i j low high =
    let e : j + 1 - i ≡ suc (j - i) = omega arith in
    let here : i + (j - i) ≡ j = omega arith in
    let fits : j - i < length (drop i s) = omega (arith, length-drop i s) in
    ap (λ n. take n (drop i s)) e ∙ take-suc (drop i s) (j - i) 0 fits
    ∙ ap (λ x. take (j - i) (drop i s) ++ x ∷ []) (get_or-drop i s (j - i) 0 ∙ ap (λ k. get_or s k 0) here)

pub run_more : (s : List ℕ) (i j : ℕ) → i ≤ j → j < length s → ((t : List ℕ) → escape (get_or s j 0) t ≡ get_or s j 0 ∷ [])
    → escaped (drop i s) ≡ slice_range s i j ++ escaped (drop j s) → escaped (drop i s) ≡ slice_range s i (j + 1) ++ escaped (drop (j + 1) s)
run_more s i j low high plain e =
    let split : drop j s ≡ get_or s j 0 ∷ drop (suc j) s = drop-cons s j 0 high in
    let next : suc j ≡ j + 1 = omega arith in
    let tail : escaped (drop j s) ≡ get_or s j 0 ∷ escaped (drop (j + 1) s) =
    ap escaped split ∙ ap (λ xs. xs ++ escaped (drop (suc j) s)) (plain (drop (suc j) s)) ∙ ap (λ k. get_or s j 0 ∷ escaped (drop k s)) next in
    e ∙ ap (λ xs. slice_range s i j ++ xs) tail
    ∙ sym (ap (λ xs. xs ++ escaped (drop (j + 1) s)) (slice_more s i j low high) ∙ append_assoc (slice_range s i j) (get_or s j 0 ∷ []) (escaped (drop (j + 1) s)))

pub quoted_end : (out old s : List ℕ) (i : ℕ) → out ++ escaped (drop i s) ≡ old ++ (34 ∷ escaped s) → length s ≤ i → out ++ 34 ∷ [] ≡ old ++ quoted s
unfolding quoted
quoted_end out old s i e past =
    let all : out ≡ old ++ (34 ∷ escaped s) = sym (append-nil out) ∙ ap (λ xs. out ++ escaped xs) (sym (drop_all i s past)) ∙ e in
    ap (λ xs. xs ++ 34 ∷ []) all ∙ append_assoc old (34 ∷ escaped s) (34 ∷ [])
