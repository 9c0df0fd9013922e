-- The name and the parameters of a method.
use Rattle.std.proofs.Common.{◌≡◌, ℕ, ◌≤◌, ◌<◌, List, [], length, drop, Option, Some, None, ap, arith, refl}
use Rattle.std.proofs.lemmas.List.{length-drop}
use Rattle.rr_base.specs.declared.name.Sym.{Sym}
use Rattle.rr_parser.specs.declared.word.WordKind.{WordKind}
use Rattle.rr_parser.specs.declared.word.WordKind.TheVariants as kind
use Rattle.rr_parser.specs.declared.word.Word.{Word}
use Rattle.rr_parser.specs.Places.{Known, Place, placed, word, at}
use Rattle.rr_parser.specs.Grammar.Definitions.{naming, past_name, method_name, names_unless, some_names, with_separator, separated, behind_bracket, formals}
use Rattle.rr_parser.proofs.Looks.{Steps, left, Steps-first_as, Steps-word, placed_some}
use Rattle.rr_parser.proofs.Listing.{names_to-less, same_rest}

same_words : (x y : Sym) (r q : List Word) → ◌≡◌ {A = Option (Sym × List Word)} (Some (x, r)) (Some (y, q)) → r ≡ q
same_words x y r q e = let h : ◌≡◌ {A = Sym × List Word} (x, r) (y, q) = cc in ap (λ (p : Sym × List Word). p.1) h

past_name-less : (known : Known) (ws : List Word) (o : Option ((Sym × ℕ) × List Word)) (x : Sym) (r : List Word) → naming ws ≡ o → past_name o ≡ Some (x, r) → length r < length ws
past_name-less known ws None x r f e = absurd cc
past_name-less known ws (Some p) x r f e =
    let less = Steps-first_as _ (record { known = known; rest = ws }) (record { known = known; rest = p.1 }) p.0 (ap (placed known) f) in
    omega (arith, less, length-drop p.0.1 p.1, ap length (same_words p.0.0 x (drop p.0.1 p.1) r e))

pub Steps-method_name : Steps method_name
Steps-method_name s m x e = let p = placed_some s.known (method_name s.rest) x m e in past_name-less s.known s.rest (naming s.rest) x m.rest refl p.0

word-less : (known : Known) (k : WordKind) (ws r : List Word) (u : Unit {0}) → word k ws ≡ Some (u, r) → length r < length ws
word-less known k ws r u e = Steps-word k (record { known = known; rest = ws }) (record { known = known; rest = r }) u (ap (placed known) e)

some_names-less : (known : Known) (k : WordKind) (ws : List Word) (xs : List Sym) (r : List Word) → some_names k ws ≡ Some (xs, r) → length r ≤ length ws
some_names-less known k ws xs r e = by_word (word k ws) refl e
  where
    by_word : (o : Option (Unit {0} × List Word)) → word k ws ≡ o → names_unless k ws o ≡ Some (xs, r) → length r ≤ length ws
    by_word None f g = names_to-less k ws xs r g
    by_word (Some q) f g = omega (arith, word-less known k ws q.1 q.0 f, ap length (same_rest [] xs q.1 r g))

separated-less : (known : Known) (o : Option (List Sym × List Word)) (n : ℕ) (xs : List Sym) (r : List Word) → ((ys : List Sym) (q : List Word) → o ≡ Some (ys, q) → length q ≤ n) → separated o ≡ Some (xs, r) → length r ≤ n
separated-less known None n xs r h e = absurd cc
separated-less known (Some p) n xs r h e = by_word (word kind.Separator p.1) refl e
  where
    by_word : (o : Option (Unit {0} × List Word)) → word kind.Separator p.1 ≡ o → with_separator p.0 o ≡ Some (xs, r) → length r ≤ n
    by_word None f g = absurd cc
    by_word (Some q) f g = omega (arith, word-less known kind.Separator p.1 q.1 q.0 f, ap length (same_rest p.0 xs q.1 r g), h p.0 p.1 refl)

formals_words-less : (known : Known) (ws : List Word) (xs : List Sym) (r : List Word) → formals ws ≡ Some (xs, r) → length r ≤ length ws
formals_words-less known ws xs r e = by_word (word kind.Open ws) refl e
  where
    by_word : (o : Option (Unit {0} × List Word)) → word kind.Open ws ≡ o → behind_bracket ws o ≡ Some (xs, r) → length r ≤ length ws
    by_word None f g = some_names-less known kind.Separator ws xs r g
    by_word (Some q) f g = omega (arith, word-less known kind.Open ws q.1 q.0 f, separated-less known (some_names kind.Close q.1) (length q.1) xs r (λ ys p h. some_names-less known kind.Close q.1 ys p h) g)

pub formals-less : (s m : Place) (xs : List Sym) → at formals s ≡ Some (xs, m) → left m ≤ left s
formals-less s m xs e = let p = placed_some s.known (formals s.rest) xs m e in formals_words-less s.known s.rest xs m.rest p.0
