-- What is seen of lists and of parameters.
use Rattle.std.proofs.Common.{◌≡◌, ℕ, suc, ◌≤◌, Bool, true, false, cond, List, [], ◌∷◌, length, Option, Some, None, is_some, refl, ap, ◌∙◌, arith}
use Rattle.rr_base.specs.declared.name.Sym.{Sym}
use Rattle.rr_parser.specs.declared.word.Listed.{Listed}
use Rattle.rr_parser.specs.declared.word.Listed.TheVariants as listings
use Rattle.rr_parser.specs.declared.word.WordKind.{WordKind}
use Rattle.rr_parser.specs.declared.word.WordKind.TheVariants as kind
use Rattle.rr_parser.specs.declared.word.Word.{Word}
use Rattle.rr_parser.specs.Places.{Place, unless, is_kind, word, placed, at, next}
use Rattle.rr_parser.specs.Grammar.Names.{variable_of_kind}
use Rattle.rr_parser.specs.Grammar.Calls.{comma, closing, behind_comma, last}
use Rattle.rr_parser.specs.Grammar.Blocks.{before_names, more_names, names_to, behind_bar, parameters}
use Rattle.rr_parser.specs.Reading.Calls.{unless_closing, another}
use Rattle.rr_parser.proofs.Told.{told_comma, told_close, told_close_square, told_close_brace}
use Rattle.rr_parser.proofs.Looks.{some_place, left, word-next, next-left, placed_some, Steps, Steps-word}

-- the word that ends a list
abbrev pub closes : Listed → WordKind → Bool
closes listings.Call kind.Close = true
closes listings.Array kind.CloseSquare = true
closes listings.Hash kind.CloseBrace = true
closes _ _ = false

-- what ends a member of a list
abbrev pub ends_member : Listed → WordKind → Bool
ends_member k kind.Comma = true
ends_member k q = closes k q

-- ---- lists

pub another-comma : (k : Listed) (s z : Place) (u : Unit {0}) → at (another k) s ≡ Some (u, z) → at comma s ≡ Some (u, z)
another-comma k s z u e = by_comma (comma s.rest) refl e
  where
    by_test : (r : Unit {0} × List Word) (b : Bool) → placed s.known (unless b (Some r)) ≡ Some (u, z) → placed s.known (Some r) ≡ Some (u, z)
    by_test r true g = absurd cc
    by_test r false g = g

    by_comma : (o : Option (Unit {0} × List Word)) → comma s.rest ≡ o → placed s.known (unless_closing k o) ≡ Some (u, z) → at comma s ≡ Some (u, z)
    by_comma None f g = absurd cc
    by_comma (Some r) f g = ap (placed s.known) f ∙ by_test r (is_some (closing k r.1)) g

pub Steps-another : (k : Listed) → Steps (another k)
Steps-another k s m u e = Steps-word kind.Comma s m u (another-comma k s m u e)

-- a comma, behind which the list does not end
pub comma-another : (k : Listed) (s z : Place) (u : Unit {0}) → at comma s ≡ Some (u, z) → at (closing k) z ≡ None → at (another k) s ≡ Some (u, z)
comma-another k s z u e f =
    let h = placed_some s.known (comma s.rest) u z e in
    ap (λ o. placed s.known (unless_closing k o)) h.0 ∙ by_closing (closing k z.rest) refl f ∙ ap (λ q. placed q (Some (u, z.rest))) h.1
  where
    by_closing : (o : Option (Unit {0} × List Word)) → closing k z.rest ≡ o → placed z.known o ≡ None → placed s.known (unless (is_some (closing k z.rest)) (Some (u, z.rest))) ≡ placed s.known (Some (u, z.rest))
    by_closing None g i = ap (λ o. placed s.known (unless (is_some o) (Some (u, z.rest)))) g
    by_closing (Some r) g i = absurd cc

-- where a list ends, no member comes: its end, or a comma and its end
pub last-another : (k : Listed) (s z : Place) (u : Unit {0}) → at (last k) s ≡ Some (u, z) → at (another k) s ≡ None
last-another k s z u e = by_comma (comma s.rest) refl e
  where
    by_closing : (r : Unit {0} × List Word) (o : Option (Unit {0} × List Word)) → placed s.known o ≡ Some (u, z) → placed s.known (unless (is_some o) (Some r)) ≡ None
    by_closing r None g = absurd cc
    by_closing r (Some q) g = refl

    by_comma : (o : Option (Unit {0} × List Word)) → comma s.rest ≡ o → placed s.known (closing k (behind_comma s.rest o)) ≡ Some (u, z) → at (another k) s ≡ None
    by_comma None f g = ap (λ o. placed s.known (unless_closing k o)) f
    by_comma (Some r) f g = ap (λ o. placed s.known (unless_closing k o)) f ∙ by_closing r (closing k r.1) g

-- what ends a list
pub closing-next : (k : Listed) (s z : Place) (u : Unit {0}) → at (closing k) s ≡ Some (u, z) → (q : WordKind) × (next s ≡ Some (q, z)) × (closes k q ≡ true)
closing-next listings.Command s z u e = absurd cc
closing-next listings.Call s z u e = (kind.Close, word-next kind.Close told_close s z u e, refl)
closing-next listings.Array s z u e = (kind.CloseSquare, word-next kind.CloseSquare told_close_square s z u e, refl)
closing-next listings.Hash s z u e = (kind.CloseBrace, word-next kind.CloseBrace told_close_brace s z u e, refl)

-- the first word of what ends a list, which may be a comma
pub last-next : (k : Listed) (s z : Place) (u : Unit {0}) → at (last k) s ≡ Some (u, z) → (q : WordKind) × (n : Place) × (next s ≡ Some (q, n)) × (ends_member k q ≡ true) × (left z ≤ left n)
last-next k s z u e = by_comma (comma s.rest) refl e
  where
    closes_member : (k : Listed) (q : WordKind) → closes k q ≡ true → ends_member k q ≡ true
    closes_member k kind.Comma f = refl
    closes_member k _ f = f

    by_comma : (o : Option (Unit {0} × List Word)) → comma s.rest ≡ o → placed s.known (closing k (behind_comma s.rest o)) ≡ Some (u, z) → (q : WordKind) × (n : Place) × (next s ≡ Some (q, n)) × (ends_member k q ≡ true) × (left z ≤ left n)
    by_comma None f g = let h = closing-next k s z u g in (h.0, z, h.1, closes_member k h.0 h.2, omega arith)
    by_comma (Some r) f g =
        let n : Place = record { known = s.known; rest = r.1 } in
        let h = closing-next k n z u g in
        (kind.Comma, n, word-next kind.Comma told_comma s n r.0 (ap (placed s.known) f), refl, omega (arith, next-left n z h.0 h.1))

pub Steps-last : (k : Listed) → Steps (last k)
Steps-last k s m u e = let h = last-next k s m u e in omega (arith, next-left s h.1 h.0 h.2, h.4)

pub Steps-closing : (k : Listed) → Steps (closing k)
Steps-closing k s m u e = let h = closing-next k s m u e in omega (arith, next-left s m h.0 h.1)

-- ---- parameters

pub same_rest : (xs ys : List Sym) (r q : List Word) → ◌≡◌ {A = Option (List Sym × List Word)} (Some (xs, r)) (Some (ys, q)) → r ≡ q
same_rest xs ys r q e = let h : ◌≡◌ {A = List Sym × List Word} (xs, r) (ys, q) = cc in ap (λ (p : List Sym × List Word). p.1) h

before-less : (o : Option Sym) (p : Option (List Sym × List Word)) (n : ℕ) → ((xs : List Sym) (r : List Word) → p ≡ Some (xs, r) → length r ≤ n) → (xs : List Sym) (r : List Word) → before_names o p ≡ Some (xs, r) → length r ≤ n
before-less None p n h xs r e = absurd cc
before-less (Some x) None n h xs r e = absurd cc
before-less (Some x) (Some q) n h xs r e = omega (arith, h q.0 q.1 refl, ap length (same_rest (x ∷ q.0) xs q.1 r e))

abbrev ending : Bool → List Word → Option (List Sym × List Word)
ending b ws = cond b (Some ([], ws)) None

ended-less : (k : WordKind) (v : Word) (b : Bool) (ws : List Word) (xs : List Sym) (r : List Word) → ending b ws ≡ Some (xs, r) → length r ≤ length ws
ended-less k v true ws xs r e = omega (arith, ap length (same_rest [] xs ws r e))
ended-less k v false ws xs r e = absurd cc

one-less : (k : WordKind) (v : Word) (a b : Bool) (xs : List Sym) (r : List Word) → cond a None (ending b []) ≡ Some (xs, r) → length r ≤ 0
one-less k v true b xs r e = absurd cc
one-less k v false b xs r e = ended-less k v b [] xs r e

two-less : (k : WordKind) (v w : Word) (a b : Bool) (ws : List Word) → ((xs : List Sym) (r : List Word) → more_names k ws ≡ Some (xs, r) → length r ≤ length ws)
    → (xs : List Sym) (r : List Word) → cond a (before_names (variable_of_kind w.kind) (more_names k ws)) (ending b (w ∷ ws)) ≡ Some (xs, r) → length r ≤ suc (length ws)
two-less k v w true b ws h xs r e = omega (arith, before-less (variable_of_kind w.kind) (more_names k ws) (length ws) h xs r e)
two-less k v w false b ws h xs r e = ended-less k v b (w ∷ ws) xs r e

more_names-less : (k : WordKind) (ws : List Word) (xs : List Sym) (r : List Word) → more_names k ws ≡ Some (xs, r) → length r ≤ length ws
more_names-less k [] xs r e = absurd cc
more_names-less k (v ∷ []) xs r e = omega (arith, one-less k v (is_kind v.kind kind.Comma) (is_kind v.kind k) xs r e)
more_names-less k (v ∷ w ∷ ws) xs r e = omega (arith, two-less k v w (is_kind v.kind kind.Comma) (is_kind v.kind k) ws (λ ys q f. more_names-less k ws ys q f) xs r e)

pub names_to-less : (k : WordKind) (ws : List Word) (xs : List Sym) (r : List Word) → names_to k ws ≡ Some (xs, r) → length r ≤ length ws
names_to-less k [] xs r e = absurd cc
names_to-less k (w ∷ ws) xs r e = omega (arith, before-less (variable_of_kind w.kind) (more_names k ws) (length ws) (λ ys q f. more_names-less k ws ys q f) xs r e)

pub parameters-less : (s m : Place) (xs : List Sym) → at parameters s ≡ Some (xs, m) → left m ≤ left s
parameters-less s m xs e = by_bar (word kind.Bar s.rest) refl e
  where
    by_bar : (o : Option (Unit {0} × List Word)) → word kind.Bar s.rest ≡ o → placed s.known (behind_bar s.rest o) ≡ Some (xs, m) → left m ≤ left s
    by_bar None f g = omega (arith, ap left (some_place [] xs s m g))
    by_bar (Some r) f g =
        let n : Place = record { known = s.known; rest = r.1 } in
        let p = placed_some s.known (names_to kind.Bar r.1) xs m g in
        omega (arith, Steps-word kind.Bar s n r.0 (ap (placed s.known) f), names_to-less kind.Bar r.1 xs m.rest p.0)
