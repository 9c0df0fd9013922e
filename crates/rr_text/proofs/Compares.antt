-- Turns of a comparison.
use Rattle.std.proofs.Common.{◌≡◌, ℕ, zero, suc, ◌+◌, ◌-◌, ◌^◌, ◌<◌, ◌≤◌, Bool, true, false, ◌||◌, List, [], ◌∷◌, ◌++◌, map, reverse, drop, length, get_or, refl, ap, sym, ◌∙◌, arith}
use Rattle.std.specs.List.{list_any, All}
use Rattle.std.proofs.lemmas.List.{reverse-append, length_push}
use Rattle.rr_space.specs.Tables.{Slot, Table, Below}
use Rattle.rr_space.specs.declared.refer.Ref.{Ref}
use Rattle.rr_text.specs.Reads.{IsAmong, IsReadWith}
use Rattle.rr_text.specs.Walk.{Walked, Wrote, Leaf, Branch, followed, walk}
use Rattle.rr_text.specs.Rest.{load, keys, showing, whole}
use Rattle.rr_text.specs.Frames.{breadth}
use Rattle.rr_text.specs.Keys.{Reading}
use Rattle.rr_text.specs.Comparing.{Pair, same_pair, part_of, look_pair, compared}
use Rattle.rr_text.specs.Beside.{resolved, key_of, begun_of, sides_of, outcome_of, ahead, AreSidesAmong, IsGrown, IsKnownBeside}
use Rattle.rr_text.specs.declared.beside.Sides.{Sides}
use Rattle.rr_text.specs.declared.sight.Compared.{Compared}
use Rattle.rr_text.specs.declared.sight.Compared.TheVariants.{Same, Differs as DiffersNow, Deep as DeepNow, Shell as ShellNow}
use Rattle.rr_text.specs.declared.comparing.Beside.{Beside}
use Rattle.rr_text.proofs.Loads.{pow_above, some_breadth, few_parts, push_light, next_light, close_light}
use Rattle.rr_text.proofs.Looking.{among_child}
use Rattle.rr_text.proofs.Stack.{leaf_showed, leaf_shell, leaf_differs, leaf_deep, again_showed, deep_showed, entered_showed, closed_top, next_top, followed_none, followed_end}

module _ (slots : List Slot) where
  swap : (a b c : Bool) → (a || (b || c)) ≡ (b || (a || c))
  swap true true c = refl
  swap true false c = refl
  swap false b c = refl

  any_end : (k : Pair) (f : Beside) (xs : List Beside) → list_any (same_pair k) (keys (map (begun_of slots) (xs ++ f ∷ []))) ≡ (same_pair k (key_of slots f) || list_any (same_pair k) (keys (map (begun_of slots) xs)))
  any_end k f [] = refl
  any_end k f (x ∷ xs) =
      ap (λ b. same_pair k (key_of slots x) || b) (any_end k f xs) ∙ swap (same_pair k (key_of slots x)) (same_pair k (key_of slots f)) (list_any (same_pair k) (keys (map (begun_of slots) xs)))

  any_above : (k : Pair) (fs : List Beside) → list_any (same_pair k) (keys (map (begun_of slots) (reverse fs))) ≡ list_any (λ e. same_pair k (key_of slots e)) fs
  any_above k [] = refl
  any_above k (f ∷ fs) =
      ap (λ xs. list_any (same_pair k) (keys (map (begun_of slots) xs))) (reverse-append (f ∷ []) fs)
      ∙ any_end k f (reverse fs) ∙ ap (λ b. same_pair k (key_of slots f) || b) (any_above k fs)

  module _ (r : Reading) (levels : ℕ) (frames : List Beside) where
    -- two values that are told apart or together at once
    pub told_now : (p : Pair) (now : Compared) → look_pair r p ≡ Leaf (outcome_of now) → showing (look_pair r) same_pair (begun_of slots) levels frames [] p ≡ ahead r slots levels now frames
    told_now p Same e = leaf_showed (look_pair r) same_pair (begun_of slots) levels frames frames [] [] [] p e refl refl
    told_now p DiffersNow e = leaf_differs (look_pair r) same_pair (begun_of slots) levels frames [] p e
    told_now p DeepNow e = leaf_deep (look_pair r) same_pair (begun_of slots) levels frames [] p e
    told_now p ShellNow e = leaf_shell (look_pair r) same_pair (begun_of slots) levels frames [] p e

    module _ (p : Pair) (sides : List Sides) (e : look_pair r p ≡ Branch p (Wrote []) [] (map part_of (map (resolved slots) sides)) []) where
      pub begun_again : list_any (λ f. same_pair p (key_of slots f)) frames ≡ true → showing (look_pair r) same_pair (begun_of slots) levels frames [] p ≡ ahead r slots levels Same frames
      begun_again is = again_showed (look_pair r) same_pair (begun_of slots) levels frames frames [] [] [] [] [] p p (map part_of (map (resolved slots) sides)) e (any_above p frames ∙ is) refl refl

      pub begun_deep : list_any (λ f. same_pair p (key_of slots f)) frames ≡ false → levels ≤ length frames → showing (look_pair r) same_pair (begun_of slots) levels frames [] p ≡ ahead r slots levels DeepNow frames
      begun_deep is full = deep_showed (look_pair r) same_pair (begun_of slots) levels frames [] (Wrote []) [] [] p p (map part_of (map (resolved slots) sides)) e (any_above p frames ∙ is) full

      pub begun_inside : (f : Beside) (new : List Beside) → list_any (λ f. same_pair p (key_of slots f)) frames ≡ false → length frames < levels
          → begun_of slots f ≡ record { key = p; parts = map part_of (map (resolved slots) sides); closing = [] } → new ≡ frames ++ f ∷ []
          → showing (look_pair r) same_pair (begun_of slots) levels frames [] p ≡ ahead r slots levels Same new
      begun_inside f new is fits seen more =
          entered_showed (look_pair r) same_pair (begun_of slots) levels frames new f [] [] (Wrote []) [] [] p p (map part_of (map (resolved slots) sides)) e (any_above p frames ∙ is) fits seen more refl

-- ---- Less is left.

pub grown_same : (levels : ℕ) (fs : List Beside) → length fs ≤ levels → IsGrown levels fs fs
grown_same levels fs fit = record {
  fit = fit;
  light = omega (arith, pow_above breadth some_breadth (suc levels - length fs));
}

pub grown_push : (levels : ℕ) (fs new : List Beside) (f : Beside) → new ≡ fs ++ f ∷ [] → length fs < levels → length f.sides.items < 2 ^ 64 → IsGrown levels fs new
grown_push levels fs new f is fits few = record {
  fit = omega (arith, ap length is, length_push fs f, fits);
  light =
      let l = push_light sides_of breadth levels fs f some_breadth fits (few_parts (sides_of f) (let l : sides_of f < 2 ^ 64 = omega (arith, few) in l)) in
      omega (arith, ap (load sides_of breadth levels) is, l);
}

pub lighter_next : (levels : ℕ) (fs mid fs' : List Beside) (top f : Beside) → mid ≡ fs ++ f ∷ [] → length fs < levels → sides_of f < sides_of top → IsGrown levels mid fs'
    → load sides_of breadth levels fs' < load sides_of breadth levels (fs ++ top ∷ [])
lighter_next levels fs mid fs' top f is fits less grown =
    let l : load sides_of breadth levels fs' < load sides_of breadth levels (fs ++ f ∷ []) + breadth ^ (suc levels - length (fs ++ f ∷ [])) =
    omega (arith, grown.light, ap (load sides_of breadth levels) is, ap (λ (xs : List Beside). breadth ^ (suc levels - length xs)) is) in
    next_light sides_of breadth levels fs fs' top f fits less l

pub lighter_closed : (levels : ℕ) (fs : List Beside) (top : Beside) → load sides_of breadth levels fs < load sides_of breadth levels (fs ++ top ∷ [])
lighter_closed levels fs top = close_light sides_of breadth levels fs top some_breadth

-- ---- The next values.

drop_next : {A : Type 0} (xs : List A) (k : ℕ) (d : A) → k < length xs → drop k xs ≡ get_or xs k d ∷ drop (k + 1) xs
drop_next [] k d lt = absurd (let no : ⊥ = omega (arith, lt) in no)
drop_next (x ∷ xs) zero d lt = refl
drop_next (x ∷ xs) (suc k) d lt = drop_next xs k d (omega (arith, lt)) ∙ ap (λ n. get_or xs k d ∷ drop n (x ∷ xs)) (let z : suc (k + 1) ≡ suc k + 1 = omega arith in z)

drop_end : {A : Type 0} (xs : List A) (k : ℕ) → length xs ≤ k → drop k xs ≡ []
drop_end [] zero le = refl
drop_end [] (suc k) le = refl
drop_end (x ∷ xs) zero le = absurd (let no : ⊥ = omega (arith, le) in no)
drop_end (x ∷ xs) (suc k) le = drop_end xs k (omega (arith, le))

module _ (slots : List Slot) (r : Reading) (levels : ℕ) (fs : List Beside) (top : Beside) where
  pub side_next : (mid : List Beside) (f : Beside) (s : Sides) → top.next < length top.sides.items → s ≡ get_or top.sides.items top.next s → f ≡ record top { next = top.next + 1 } → mid ≡ fs ++ f ∷ []
      → whole (look_pair r) same_pair (begun_of slots) levels (fs ++ top ∷ []) [] ≡ showing (look_pair r) same_pair (begun_of slots) levels mid [] (resolved slots s)
  side_next mid f s lt is next more =
      let parts : (begun_of slots top).parts ≡ ([], resolved slots s) ∷ (begun_of slots f).parts =
      ap (λ (ss : List Sides). map part_of (map (resolved slots) ss)) (drop_next top.sides.items top.next s lt)
      ∙ ap (λ (x : Sides). part_of (resolved slots x) ∷ map part_of (map (resolved slots) (drop (top.next + 1) top.sides.items))) (sym is)
      ∙ ap (λ (x : Beside). ([], resolved slots s) ∷ (begun_of slots x).parts) (sym next) in
      next_top (look_pair r) same_pair (begun_of slots) levels fs mid top f [] [] ([], resolved slots s) parts (ap (key_of slots) (sym next)) refl more refl

  pub sides_end : length fs < levels → length top.sides.items ≤ top.next → whole (look_pair r) same_pair (begun_of slots) levels (fs ++ top ∷ []) [] ≡ ahead r slots levels Same fs
  sides_end fits le =
      closed_top (look_pair r) same_pair (begun_of slots) levels fs fs top [] [] fits (ap (λ (ss : List Sides). map part_of (map (resolved slots) ss)) (drop_end top.sides.items top.next le)) refl refl

-- nothing was begun
pub starts : (slots : List Slot) (r : Reading) (levels : ℕ) (fs : List Beside) (p : Pair) → fs ≡ [] → compared r levels p.0 p.1 ≡ showing (look_pair r) same_pair (begun_of slots) levels fs [] p
unfolding compared
starts slots r levels fs p e =
    let one : Walked = walk (look_pair r) same_pair (levels - 0) [] p in
    sym (ap (λ (xs : List Beside). showing (look_pair r) same_pair (begun_of slots) levels xs [] p) e
    ∙ followed_none (followed one (Wrote [])) ∙ followed_end one
    ∙ ap (λ (n : ℕ). walk (look_pair r) same_pair n [] p) (let z : levels - 0 ≡ levels = omega arith in z))

-- what was read from values of these clusters
pub sides_known : (t : Table) (below : Below) (left right : Ref) (sides : List Sides) → IsReadWith t below → IsAmong below left → IsAmong below right → All (IsKnownBeside t left right) sides → AreSidesAmong below sides
sides_known t below left right sides read l r all = λ k d lt. (
  among_child t below left (get_or sides k d).left read l (all k d lt).0,
  among_child t below right (get_or sides k d).right read r (all k d lt).1,
)
