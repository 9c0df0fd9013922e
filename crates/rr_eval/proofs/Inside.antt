-- Turns of taking an array apart.
use Rattle.std.proofs.Common.{◌≡◌, ℕ, zero, suc, ◌+◌, ◌-◌, ◌^◌, ◌<◌, ◌≤◌, Bool, true, false, ◌||◌, List, [], ◌∷◌, ◌++◌, map, reverse, length, take, drop, get_or, refl, ap, sym, subst, ◌∙◌, arith, Some, None, Option, if◌then◌else◌}
use Rattle.std.specs.List.{list_any}
use Rattle.std.specs.Option.{option_map}
use Rattle.std.proofs.lemmas.List.{append_assoc, append-nil, reverse-append, length_push, take_all}
use Rattle.std.proofs.lemmas.List.Elements.{All-push}
use Rattle.rr_space.specs.Kinds.{kind_at}
use Rattle.rr_space.specs.Tables.{Table}
use Rattle.rr_space.specs.declared.kind.Kind.{Kind}
use Rattle.rr_space.specs.declared.kind.Kind.TheVariants as kind
use Rattle.rr_space.specs.declared.refer.Ref.{Ref}
use Rattle.rr_space.specs.declared.refer.Ref.TheVariants.{Nil}
use Rattle.rr_text.specs.Walk.{Outcome, Wrote, Leaf, Branch, followed, walk}
use Rattle.rr_text.specs.Comparing.{all_there}
use Rattle.rr_text.specs.Rest.{load, keys, rest}
use Rattle.rr_text.specs.Frames.{breadth}
use Rattle.rr_text.proofs.Loads.{pow_above, some_breadth, few_parts, push_light, next_light, close_light}
use Rattle.rr_text.proofs.Stack.{leaf_showed, again_showed, circular_showed, deep_showed, entered_showed, closed_top, next_top, followed_none, followed_end, followed_bytes}
use Rattle.rr_builtin.specs.Elements.{count_at}
use Rattle.rr_builtin.specs.Kinds.{is_array_kind}
use Rattle.rr_builtin.specs.Objects.{identical}
use Rattle.rr_eval.specs.Leaves.{Item, element, elements, parts, again, IsComeAgain, IsItemReached, AreItemsReached, array_look, look, leaves_in, all_leaves, behind_each, begun_of, whole_of, showing_of, ahead, rest_of, IsGrown}
use Rattle.rr_eval.specs.Within.{Reach, IsReached}
use Rattle.rr_eval.proofs.Holding.{all_nil, all_cons}
use Rattle.rr_eval.proofs.Spreads.{behind}
use Rattle.rr_eval.specs.declared.leaves.Going.{Going}
use Rattle.rr_eval.specs.declared.leaves.Going.TheVariants as going
use Rattle.rr_eval.specs.declared.leaves.Opened.{Opened}
use Rattle.rr_eval.specs.declared.leaves.Taking.{Taking}
use Rattle.rr_eval.specs.declared.leaves.Taking.TheVariants.{Lines, Joint}

-- ---- What stands at an item.

some_look : (how : Taking) (t : Table) (v : Ref) (m : ℕ) → (m ≡ 0 → ⊥) → array_look how t v m ≡ Branch v (again how v) [] (parts (elements t v 0 m)) []
some_look how t v zero some = absurd (some refl)
some_look how t v (suc n) some = refl

array_look_is : (how : Taking) (t : Table) (v : Ref) → kind_at t v ≡ kind.Array → (count_at t v ≡ 0 → ⊥) → look how t (Some v) ≡ Branch v (again how v) [] (parts (elements t v 0 (count_at t v))) []
unfolding look
array_look_is how t v e some = ap (λ k. if is_array_kind k then array_look how t v (count_at t v) else Leaf (Wrote (Some v ∷ []))) e ∙ some_look how t v (count_at t v) some

empty_look : (how : Taking) (t : Table) (v : Ref) → kind_at t v ≡ kind.Array → count_at t v ≡ 0 → look how t (Some v) ≡ Leaf (Wrote (Some Nil ∷ []))
unfolding look
empty_look how t v e none = ap (λ k. if is_array_kind k then array_look how t v (count_at t v) else Leaf (Wrote (Some v ∷ []))) e ∙ ap (array_look how t v) none

other_kind : (k : Kind) → (k ≡ kind.Array → ⊥) → is_array_kind k ≡ false
other_kind kind.Array out = absurd (out refl)
other_kind _ out = refl

leaf_look : (how : Taking) (t : Table) (v : Ref) (k : Kind) → kind_at t v ≡ k → (k ≡ kind.Array → ⊥) → look how t (Some v) ≡ Leaf (Wrote (Some v ∷ []))
unfolding look
leaf_look how t v k e out = ap (λ b. if b then array_look how t v (count_at t v) else Leaf (Wrote (Some v ∷ []))) (ap is_array_kind e ∙ other_kind k out)

none_look : (how : Taking) (t : Table) → look how t None ≡ Leaf (Wrote (None ∷ []))
unfolding look
none_look how t = refl

-- ---- The arrays that are being taken apart.

swap : (a b c : Bool) → (a || (b || c)) ≡ (b || (a || c))
swap true true c = refl
swap true false c = refl
swap false b c = refl

any_end : (t : Table) (p : Ref → Bool) (f : Opened) (xs : List Opened) → list_any p (keys (map (begun_of t) (xs ++ f ∷ []))) ≡ (p f.array || list_any p (keys (map (begun_of t) xs)))
any_end t p f [] = refl
any_end t p f (x ∷ xs) = ap (λ b. p x.array || b) (any_end t p f xs) ∙ swap (p x.array) (p f.array) (list_any p (keys (map (begun_of t) xs)))

any_keys : (t : Table) (p : Ref → Bool) (xs : List Opened) → list_any p (keys (map (begun_of t) (reverse xs))) ≡ list_any (λ f. p f.array) xs
any_keys t p [] = refl
any_keys t p (f ∷ xs) =
    ap (λ ys. list_any p (keys (map (begun_of t) ys))) (reverse-append (f ∷ []) xs)
    ∙ any_end t p f (reverse xs) ∙ ap (λ b. p f.array || b) (any_keys t p xs)

-- ---- What is shown.

module _ (how : Taking) (t : Table) (levels : ℕ) where
  -- one value more
  pub found_leaf : (fs : List Opened) (out out' : List Item) (i j : Item) → look how t i ≡ Leaf (Wrote (j ∷ [])) → out' ≡ out ++ j ∷ [] → showing_of how t levels fs out i ≡ ahead how t levels going.On fs out'
  found_leaf fs out out' i j e more = leaf_showed (look how t) (identical t) (begun_of t) levels fs fs out out' (j ∷ []) i e refl more

  pub found_none : (fs : List Opened) (out out' : List Item) → out' ≡ out ++ None ∷ [] → showing_of how t levels fs out None ≡ ahead how t levels going.On fs out'
  found_none fs out out' more = found_leaf fs out out' None None (none_look how t) more

  pub found_value : (fs : List Opened) (out out' : List Item) (v : Ref) (k : Kind) → kind_at t v ≡ k → (k ≡ kind.Array → ⊥) → out' ≡ out ++ Some v ∷ [] → showing_of how t levels fs out (Some v) ≡ ahead how t levels going.On fs out'
  found_value fs out out' v k e out_of more = found_leaf fs out out' (Some v) (Some v) (leaf_look how t v k e out_of) more

  pub found_empty : (fs : List Opened) (out out' : List Item) (v : Ref) → kind_at t v ≡ kind.Array → count_at t v ≡ 0 → out' ≡ out ++ Some Nil ∷ [] → showing_of how t levels fs out (Some v) ≡ ahead how t levels going.On fs out'
  found_empty fs out out' v e none more = found_leaf fs out out' (Some v) (Some Nil) (empty_look how t v e none) more

  -- an array that is not empty
  module _ (fs : List Opened) (out : List Item) (v : Ref) (e : kind_at t v ≡ kind.Array) (some : count_at t v ≡ 0 → ⊥) where
    pub begun_deep : list_any (λ f. identical t v f.array) fs ≡ false → levels ≤ length fs → showing_of how t levels fs out (Some v) ≡ ahead how t levels going.Deep fs out
    begun_deep is full =
        deep_showed (look how t) (identical t) (begun_of t) levels fs out (again how v) [] [] (Some v) v (parts (elements t v 0 (count_at t v))) (array_look_is how t v e some) (any_keys t (identical t v) fs ∙ is) full

    pub begun_inside : (f : Opened) (new : List Opened) → list_any (λ f. identical t v f.array) fs ≡ false → length fs < levels → f ≡ record { array = v; next = 0 } → new ≡ fs ++ f ∷ []
        → showing_of how t levels fs out (Some v) ≡ ahead how t levels going.On new out
    begun_inside f new is fits first more =
        let all : count_at t v - 0 ≡ count_at t v = omega arith in
        let seen : begun_of t f ≡ record { key = v; parts = parts (elements t v 0 (count_at t v)); closing = [] } =
        ap (begun_of t) first ∙ ap (λ (n : ℕ). record { key = v; parts = parts (elements t v 0 n); closing = [] }) all in
        entered_showed (look how t) (identical t) (begun_of t) levels fs new f out out (again how v) [] [] (Some v) v (parts (elements t v 0 (count_at t v)))
        (array_look_is how t v e some) (any_keys t (identical t v) fs ∙ is) fits seen more (sym (append-nil out))

  -- ---- The next element.

  module _ (fs : List Opened) (top : Opened) (out : List Item) where
    pub element_next : (mid : List Opened) (f : Opened) (i : Item) → top.next < count_at t top.array → i ≡ element t top.array top.next
        → f ≡ record { array = top.array; next = top.next + 1 } → mid ≡ fs ++ f ∷ [] → whole_of how t levels (fs ++ top ∷ []) out ≡ showing_of how t levels mid out i
    element_next mid f i lt is next more =
        let a = top.array in
        let n = top.next in
        let count = count_at t a in
        let left : count - n ≡ suc (count - suc n) = omega (arith, lt) in
        let step : suc n ≡ n + 1 = omega arith in
        let first : elements t a n (count - n) ≡ i ∷ elements t f.array f.next (count_at t f.array - f.next) =
        ap (elements t a n) left
        ∙ ap (λ (m : ℕ). element t a n ∷ elements t a m (count - m)) step
        ∙ ap (λ (j : Item). j ∷ elements t a (n + 1) (count - (n + 1))) (sym is)
        ∙ ap (λ (x : Opened). i ∷ elements t x.array x.next (count_at t x.array - x.next)) (sym next) in
        next_top (look how t) (identical t) (begun_of t) levels fs mid top f out out ([], i) (ap parts first) (ap (λ (x : Opened). x.array) (sym next)) refl more (sym (append-nil out))

    pub elements_end : length fs < levels → count_at t top.array ≤ top.next → whole_of how t levels (fs ++ top ∷ []) out ≡ ahead how t levels going.On fs out
    elements_end fits le =
        let none : count_at t top.array - top.next ≡ 0 = omega (arith, le) in
        closed_top (look how t) (identical t) (begun_of t) levels fs fs top out out fits (ap (λ (m : ℕ). parts (elements t top.array top.next m)) none) refl (sym (append-nil out))

  -- nothing was begun and nothing found
  pub starts : (fs : List Opened) (out : List Item) (v : Ref) → fs ≡ [] → out ≡ [] → leaves_in how t levels v ≡ showing_of how t levels fs out (Some v)
  unfolding leaves_in
  starts fs out v e f =
      let one : Outcome Item = walk (look how t) (identical t) (levels - 0) [] (Some v) in
      sym (ap (λ (xs : List Opened). showing_of how t levels xs out (Some v)) e
      ∙ ap (λ (s : List Item). showing_of how t levels [] s (Some v)) f
      ∙ followed_none (followed one (Wrote [])) ∙ followed_end one
      ∙ ap (λ (n : ℕ). walk (look how t) (identical t) n [] (Some v)) (let z : levels - 0 ≡ levels = omega arith in z))

  -- nothing is left to do
  pub ends : (fs : List Opened) (out : List Item) → length fs ≡ 0 → whole_of how t levels fs out ≡ Wrote out
  ends [] out e = ap Wrote (append-nil out)
  ends (f ∷ fs) out e = absurd (let no : ⊥ = omega (arith, e) in no)

-- an array that is being taken apart
pub begun_again : (how : Taking) (t : Table) (levels : ℕ) (fs fs' : List Opened) (out out' : List Item) (v : Ref) (now : Going) → kind_at t v ≡ kind.Array → (count_at t v ≡ 0 → ⊥) → list_any (λ f. identical t v f.array) fs ≡ true
    → fs' ≡ fs → IsComeAgain how v now out out' → showing_of how t levels fs out (Some v) ≡ ahead how t levels now fs' out'
begun_again Lines t levels fs fs' out out' v going.On e some is same more =
    again_showed (look Lines t) (identical t) (begun_of t) levels fs fs' out out' (Some v ∷ []) [] [] (Some v) v (parts (elements t v 0 (count_at t v))) (array_look_is Lines t v e some) (any_keys t (identical t v) fs ∙ is) same more
begun_again Lines t levels fs fs' out out' v going.Deep e some is same more = absurd more
begun_again Lines t levels fs fs' out out' v going.Circular e some is same more = absurd more
begun_again Joint t levels fs fs' out out' v going.On e some is same more = absurd more
begun_again Joint t levels fs fs' out out' v going.Deep e some is same more = absurd more
begun_again Joint t levels fs fs' out out' v going.Circular e some is same more =
    circular_showed (look Joint t) (identical t) (begun_of t) levels fs out [] [] (Some v) v (parts (elements t v 0 (count_at t v))) (array_look_is Joint t v e some) (any_keys t (identical t v) fs ∙ is)

-- ---- What is found is reached.

pub item_reached : (k : Reach) (i : Item) (v : Ref) → i ≡ Some v → IsItemReached k i → IsReached k v
item_reached k i v is one = let there : IsItemReached k (Some v) = subst (IsItemReached k) is one in there 0 Nil (omega arith)

pub one_reached : (k : Reach) (v : Ref) → IsReached k v → IsItemReached k (Some v)
one_reached k v one = all_cons (IsReached k) v [] one (all_nil (IsReached k))

pub more_reached : (k : Reach) (out out' : List Item) (i : Item) → out' ≡ out ++ i ∷ [] → AreItemsReached k out → IsItemReached k i → AreItemsReached k out'
more_reached k out out' i is all one = subst (AreItemsReached k) (sym is) (All-push (IsItemReached k) out i all one)

pub again_reached : (k : Reach) (how : Taking) (v : Ref) (now : Going) (out out' : List Item) → IsComeAgain how v now out out' → AreItemsReached k out → IsReached k v → AreItemsReached k out'
again_reached k Lines v going.On out out' more all one = more_reached k out out' (Some v) more all (one_reached k v one)
again_reached k Lines v going.Deep out out' more all one = absurd more
again_reached k Lines v going.Circular out out' more all one = absurd more
again_reached k Joint v going.On out out' more all one = absurd more
again_reached k Joint v going.Deep out out' more all one = absurd more
again_reached k Joint v going.Circular out out' more all one = subst (AreItemsReached k) (sym more) all

-- ---- Less is left.

pub grown_same : (t : Table) (levels : ℕ) (fs : List Opened) → length fs ≤ levels → IsGrown t levels fs fs
grown_same t levels fs fit = record {
  fit = fit;
  light = omega (arith, pow_above breadth some_breadth (suc levels - length fs));
}

pub grown_push : (t : Table) (levels : ℕ) (fs new : List Opened) (f : Opened) → new ≡ fs ++ f ∷ [] → length fs < levels → count_at t f.array < 2 ^ 64 → IsGrown t levels fs new
grown_push t levels fs new f is fits few = record {
  fit = omega (arith, ap length is, length_push fs f, fits);
  light =
      let l = push_light (rest_of t) breadth levels fs f some_breadth fits (few_parts (rest_of t f) (let l : rest_of t f < 2 ^ 64 = omega (arith, few) in l)) in
      omega (arith, ap (load (rest_of t) breadth levels) is, l);
}

pub lighter_next : (t : Table) (levels : ℕ) (fs mid fs' : List Opened) (top f : Opened) → mid ≡ fs ++ f ∷ [] → length fs < levels → rest_of t f < rest_of t top → IsGrown t levels mid fs'
    → load (rest_of t) breadth levels fs' < load (rest_of t) breadth levels (fs ++ top ∷ [])
lighter_next t levels fs mid fs' top f is fits less grown =
    let l : load (rest_of t) breadth levels fs' < load (rest_of t) breadth levels (fs ++ f ∷ []) + breadth ^ (suc levels - length (fs ++ f ∷ [])) =
    omega (arith, grown.light, ap (load (rest_of t) breadth levels) is, ap (λ (xs : List Opened). breadth ^ (suc levels - length xs)) is) in
    next_light (rest_of t) breadth levels fs fs' top f fits less l

pub lighter_closed : (t : Table) (levels : ℕ) (fs : List Opened) (top : Opened) → load (rest_of t) breadth levels fs < load (rest_of t) breadth levels (fs ++ top ∷ [])
lighter_closed t levels fs top = close_light (rest_of t) breadth levels fs top some_breadth

-- ---- The leaves of values, one after the other.

pub leaves_next : (how : Taking) (t : Table) (levels : ℕ) (out found new : List Item) (v : Ref) (vs : List Ref) → leaves_in how t levels v ≡ Wrote found → new ≡ out ++ found
    → followed (Wrote out) (all_leaves how t levels (v ∷ vs)) ≡ followed (Wrote new) (all_leaves how t levels vs)
leaves_next how t levels out found new v vs is more =
    ap (λ w. followed (Wrote out) (followed w (all_leaves how t levels vs))) is
    ∙ followed_bytes out found (all_leaves how t levels vs)
    ∙ ap (λ s. followed (Wrote s) (all_leaves how t levels vs)) (sym more)

pub leaves_ends : (how : Taking) (t : Table) (levels : ℕ) (out : List Item) → followed (Wrote out) (all_leaves how t levels []) ≡ Wrote out
leaves_ends how t levels out = ap Wrote (append-nil out)

-- ---- From the front of a list.

pub first_more : {A : Type 0} (xs : List A) (v : A) → 1 ≤ length xs → v ≡ get_or xs 0 v → xs ≡ v ∷ take (length xs - 1) (drop 1 xs)
first_more [] v some is = absurd (let no : ⊥ = omega (arith, some) in no)
first_more (x ∷ xs) v some is =
    let all : take (length (x ∷ xs) - 1) xs ≡ xs = take_all (length (x ∷ xs) - 1) xs (omega arith) in
    ap (λ z. z ∷ xs) (sym is) ∙ ap (λ l. v ∷ l) (sym all)

pub none_more : {A : Type 0} (xs : List A) → length xs < 1 → xs ≡ []
none_more [] lt = refl
none_more (x ∷ xs) lt = absurd (let no : ⊥ = omega (arith, lt) in no)

-- ---- The values, where each is there.

pub there_next : (vs : List Ref) (items more : List Item) (v : Ref) (new : List Ref) → items ≡ Some v ∷ more → new ≡ vs ++ v ∷ [] → behind vs (all_there items) ≡ behind new (all_there more)
there_next vs items more v new is push =
    ap (λ l. behind vs (all_there l)) is ∙ by (all_there more) ∙ ap (λ l. behind l (all_there more)) (sym push)
  where
    by : (o : Option (List Ref)) → behind vs (option_map (λ ys. v ∷ ys) o) ≡ behind (vs ++ v ∷ []) o
    by None = refl
    by (Some ws) = ap Some (sym (append_assoc vs (v ∷ []) ws))

pub there_not : (vs : List Ref) (items more : List Item) → items ≡ None ∷ more → behind vs (all_there items) ≡ None
there_not vs items more is = ap (λ l. behind vs (all_there l)) is

pub there_ends : (vs : List Ref) (items : List Item) → items ≡ [] → behind vs (all_there items) ≡ Some vs
there_ends vs items is = ap (λ l. behind vs (all_there l)) is ∙ ap Some (append-nil vs)

-- ---- Values with another one between them.

pub between_next : (s v : Ref) (all one new rest more : List Ref) → rest ≡ v ∷ more → one ≡ all ++ s ∷ [] → new ≡ one ++ v ∷ [] → all ++ behind_each s rest ≡ new ++ behind_each s more
between_next s v all one new rest more is first second =
    ap (λ l. all ++ behind_each s l) is ∙ sym (append_assoc all (s ∷ []) (v ∷ behind_each s more)) ∙ ap (λ l. l ++ v ∷ behind_each s more) (sym first)
    ∙ sym (append_assoc one (v ∷ []) (behind_each s more)) ∙ ap (λ l. l ++ behind_each s more) (sym second)
