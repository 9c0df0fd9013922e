-- What is seen at a place.
use Rattle.std.proofs.Common.{◌≡◌, ℕ, suc, ◌<◌, ◌≤◌, ◌⊎◌, inl, inr, Bool, true, false, cond, List, [], ◌∷◌, length, Option, Some, None, refl, sym, ap, ◌∙◌, subst, arith}
use Rattle.std.proofs.lemmas.Option.{none-some}
use Rattle.rr_base.specs.declared.name.Sym.{Sym}
use Rattle.rr_parser.specs.declared.word.NameKind.{NameKind}
use Rattle.rr_parser.specs.declared.word.Tail.{Tail}
use Rattle.rr_parser.specs.declared.word.Tail.TheVariants as tails
use Rattle.rr_parser.specs.declared.word.Head.{Head}
use Rattle.rr_parser.specs.declared.word.Naming.{Naming}
use Rattle.rr_parser.specs.declared.word.Naming.TheVariants as namings
use Rattle.rr_parser.specs.declared.word.Opening.{Opening}
use Rattle.rr_parser.specs.declared.word.Sign.{Sign}
use Rattle.rr_parser.specs.declared.word.Aim.{Aim}
use Rattle.rr_parser.specs.declared.word.Target.{Target}
use Rattle.rr_parser.specs.declared.word.Target.TheVariants as targets
use Rattle.rr_parser.specs.declared.word.WordKind.{WordKind}
use Rattle.rr_parser.specs.declared.word.WordKind.TheVariants as kind
use Rattle.rr_parser.specs.declared.word.Word.{Word}
use Rattle.rr_parser.specs.Places.{Known, Place, Look, seen_before, first_as, unless, where_true, is_kind, word, any_word, placed, at, next, without_separators, skip, behind_separators, separators}
use Rattle.rr_parser.specs.Grammar.Names.{told_behind, name_of_kind, name, bracket, begins_operands, head_of_kind, head, begins_head, commanding, command}
use Rattle.rr_parser.specs.Grammar.Operands.{joined, scope_sign, behind_sign, inner_constant, square, called, sent, indexed, behind_dot, tail}
use Rattle.rr_parser.specs.Grammar.Calls.{target_of_kind, sign_of_kind, sign, assigned, named, target_word, target, with_target}
use Rattle.rr_parser.specs.Grammar.Several.{past_target, several}
use Rattle.rr_parser.specs.Grammar.Classes.{word_behind, row_of, opening_of_kind, class_word}
use Rattle.rr_parser.specs.Grammar.Control.{behind_word, then_or_separators, thens, either, loops}
use Rattle.rr_parser.specs.Reading.Operands.{without_integer, no_integer, prefix_minus}
use Rattle.rr_parser.specs.Reading.Several.{ends_target, where_ended, lone_target}
use Rattle.rr_parser.specs.Reading.Sequences.{ends, before_row, row}
use Rattle.rr_parser.proofs.Told.{Told, told_comma, told_path, told_dot, told_open_square, told_separator, told_then, told_minus, told_do}

abbrev pub seen : {X : Type 0} → X → Place → Option (X × Place)
seen x z = Some (x, z)

pub some_place : {X : Type 0} (t u : X) (s z : Place) → seen t s ≡ seen u z → s ≡ z
some_place {X} t u s z e = let h : ◌≡◌ {A = X × Place} (t, s) (u, z) = cc in ap (λ (p : X × Place). p.1) h

pub some_what : {X : Type 0} (t u : X) (s z : Place) → seen t s ≡ seen u z → t ≡ u
some_what {X} t u s z e = let h : ◌≡◌ {A = X × Place} (t, s) (u, z) = cc in ap (λ (p : X × Place). p.0) h

pub none_unless : {X : Type 0} (o : Option (X × Place)) → ((x : X) (z : Place) → o ≡ Some (x, z) → ⊥) → o ≡ None
none_unless None h = refl
none_unless (Some p) h = absurd (h p.0 p.1 refl)

abbrev pub left : Place → ℕ
left s = length s.rest

-- what follows an operand
abbrev pub is_tail : WordKind → Bool
is_tail kind.Dot = true
is_tail kind.OpenSquare = true
is_tail _ = false

-- ---- one word

-- a word of this kind before a place
abbrev pub before : WordKind → Bool → Place → Place
before k b z = record { known = z.known; rest = record { kind = k; blank = b } ∷ z.rest }

by_words : (P : Place → Type 0) (known : Known) (ws : List Word) (z : Place) (k : WordKind) → placed known (any_word ws) ≡ Some (k, z) → ((b : Bool) → P (before k b z)) → P (record { known = known; rest = ws })
by_words P known [] z k e h = absurd cc
by_words P known (w ∷ ws) z k e h =
    let here : Place = record { known = known; rest = ws } in
    let p = some_what w.kind k here z e in
    let q = some_place w.kind k here z e in
    subst (λ (x : Place). P (record { known = x.known; rest = w ∷ x.rest })) (sym q) (subst (λ (x : WordKind). P (before x w.blank z)) (sym p) (h w.blank))

-- what is to be shown of a place may be shown of its next word and the place behind it
pub by_next : (P : Place → Type 0) (s z : Place) (k : WordKind) → next s ≡ Some (k, z) → ((b : Bool) → P (before k b z)) → P s
by_next P s z k e h = by_words P s.known s.rest z k e h

pub next-left : (s z : Place) (k : WordKind) → next s ≡ Some (k, z) → left s ≡ suc (left z)
next-left s z k e = by_next (λ q. left q ≡ suc (left z)) s z k e (λ b. refl)

pub one_kind : (s m n : Place) (k q : WordKind) → next s ≡ Some (k, m) → next s ≡ Some (q, n) → k ≡ q
one_kind s m n k q e f = some_what k q m n (sym e ∙ f)

pub one_place : (s m n : Place) (k q : WordKind) → next s ≡ Some (k, m) → next s ≡ Some (q, n) → m ≡ n
one_place s m n k q e f = some_place k q m n (sym e ∙ f)

-- The word that was seen.
pub record SeenAs {X : Type 0} (f : Word → Option X) (s : Place) (x : X) (z : Place) : Type 0 where
  pub kind : WordKind
  pub blank : Bool
  pub here : next s ≡ Some (kind, z)
  pub told : f (record { kind = kind; blank = blank }) ≡ Some x

seen_words : {X : Type 0} (f : Word → Option X) (known : Known) (ws : List Word) (x : X) (z : Place) → placed known (first_as f ws) ≡ Some (x, z) → SeenAs f (record { known = known; rest = ws }) x z
seen_words f known [] x z e = absurd cc
seen_words {X} f known (w ∷ ws) x z e = by_answer (f w) refl e
  where
    by_answer : (o : Option X) → f w ≡ o → placed known (seen_before o ws) ≡ Some (x, z) → SeenAs f (record { known = known; rest = w ∷ ws }) x z
    by_answer None g h = absurd cc
    by_answer (Some y) g h = record {
      kind = w.kind;
      blank = w.blank;
      here = ap (λ (q : Place). Some (w.kind, q)) (some_place y x (record { known = known; rest = ws }) z h);
      told = g ∙ ap (λ (q : X). Some q) (some_what y x (record { known = known; rest = ws }) z h);
    }

pub seen_as : {X : Type 0} (f : Word → Option X) (s z : Place) (x : X) → at (first_as f) s ≡ Some (x, z) → SeenAs f s x z
seen_as f s z x e = seen_words f s.known s.rest x z e

pub unless_true : (b c : Bool) (u : Unit {0}) → unless b (where_true c) ≡ Some u → c ≡ true
unless_true true c u e = absurd cc
unless_true false true u e = refl
unless_true false false u e = absurd cc

true_where : (b : Bool) (u : Unit {0}) → where_true b ≡ Some u → b ≡ true
true_where true u e = refl
true_where false u e = absurd cc

pub word-next : (k : WordKind) → Told k → (s z : Place) (u : Unit {0}) → at (word k) s ≡ Some (u, z) → next s ≡ Some (k, z)
word-next k told s z u e =
    let w = seen_as (λ w. where_true (is_kind w.kind k)) s z u e in
    w.here ∙ ap (λ (q : WordKind). Some (q, z)) (told w.kind (true_where (is_kind w.kind k) u w.told))

-- the next word is of another kind
pub other-word : (k q : WordKind) (s z : Place) → next s ≡ Some (q, z) → is_kind q k ≡ false → at (word k) s ≡ None
other-word k q s z e f = by_next (λ p. at (word k) p ≡ None) s z q e (λ b. ap (λ t. placed z.known (seen_before (where_true t) z.rest)) f)

-- the next word is none that f tells of
pub unseen_kind : {X : Type 0} (f : WordKind → Option X) (k : WordKind) (s z : Place) → next s ≡ Some (k, z) → f k ≡ None → at (first_as (λ w. f w.kind)) s ≡ None
unseen_kind f k s z e h = by_next (λ p. at (first_as (λ w. f w.kind)) p ≡ None) s z k e (λ b. ap (λ o. placed z.known (seen_before o z.rest)) h)

-- the word `class`
opening_told : (k : WordKind) (o : Opening) → opening_of_kind k ≡ Some o → k ≡ kind.Class o
opening_told (kind.Class p) o e = cc
opening_told _ o e = absurd (none-some o e)

pub class-next : (s z : Place) (o : Opening) → at class_word s ≡ Some (o, z) → next s ≡ Some (kind.Class o, z)
class-next s z o e =
    let w = seen_as (λ w. opening_of_kind w.kind) s z o e in
    w.here ∙ ap (λ (q : WordKind). Some (q, z)) (opening_told w.kind o w.told)

pub next-class : (s z : Place) (o : Opening) → next s ≡ Some (kind.Class o, z) → at class_word s ≡ Some (o, z)
next-class s z o e = by_next (λ q. at class_word q ≡ Some (o, z)) s z (kind.Class o) e (λ c. refl)

-- a name, and what it is told from other names by
name_told : (k : WordKind) (x : Sym) → name_of_kind k ≡ Some x → (b : NameKind) × (k ≡ kind.Name x b)
name_told (kind.Name y b) x e = (b, cc)
name_told _ x e = absurd (none-some x e)

pub name-next : (s z : Place) (x : Sym) → at name s ≡ Some (x, z) → (b : NameKind) × (next s ≡ Some (kind.Name x b, z))
name-next s z x e =
    let w = seen_as (λ w. name_of_kind w.kind) s z x e in
    let t = name_told w.kind x w.told in
    (t.0, w.here ∙ ap (λ (q : WordKind). Some (q, z)) t.1)

pub next-name : (s z : Place) (x : Sym) (b : NameKind) → next s ≡ Some (kind.Name x b, z) → at name s ≡ Some (x, z)
next-name s z x b e = by_next (λ q. at name q ≡ Some (x, z)) s z (kind.Name x b) e (λ c. refl)

-- ---- several words

-- behind words that were seen, more is seen
pub placed_some : {X : Type 0} (known : Known) (o : Option (X × List Word)) (x : X) (z : Place) → placed known o ≡ Some (x, z) → (o ≡ Some (x, z.rest)) × (known ≡ z.known)
placed_some known None x z e = absurd cc
placed_some {X} known (Some p) x z e =
    let w = some_what p.0 x (record { known = known; rest = p.1 }) z e in
    let q = some_place p.0 x (record { known = known; rest = p.1 }) z e in
    (ap (λ (y : X). Some (y, p.1)) w ∙ ap (λ (y : Place). Some (x, y.rest)) q, ap (λ (y : Place). y.known) q)

pub separators-next : (s z : Place) (u : Unit {0}) → at separators s ≡ Some (u, z) → (n : Place) × (next s ≡ Some (kind.Separator, n)) × (skip n ≡ z)
separators-next s z u e = by_word (word kind.Separator s.rest) refl e
  where
    by_word : (o : Option (Unit {0} × List Word)) → word kind.Separator s.rest ≡ o → placed s.known (behind_separators o) ≡ Some (u, z) → (n : Place) × (next s ≡ Some (kind.Separator, n)) × (skip n ≡ z)
    by_word None g h = absurd cc
    by_word (Some x) g h =
        let n : Place = record { known = s.known; rest = x.1 } in
        (n, word-next kind.Separator told_separator s n x.0 (ap (placed s.known) g), some_place tt u (skip n) z h)

pub next-separators : (s n : Place) → next s ≡ Some (kind.Separator, n) → at separators s ≡ Some (tt, skip n)
next-separators s n e = by_next (λ q. at separators q ≡ Some (tt, skip n)) s n kind.Separator e (λ b. refl)

-- separators, and a word of a kind
pub row-parts : (k : WordKind) (s z : Place) (u : Unit {0}) → at (row_of k) s ≡ Some (u, z) → (v : Unit {0}) × (m : Place) × (at separators s ≡ Some (v, m)) × (at (word k) m ≡ Some (u, z))
row-parts k s z u e = by_words (separators s.rest) refl e
  where
    by_words : (o : Option (Unit {0} × List Word)) → separators s.rest ≡ o → placed s.known (word_behind k o) ≡ Some (u, z) → (v : Unit {0}) × (m : Place) × (at separators s ≡ Some (v, m)) × (at (word k) m ≡ Some (u, z))
    by_words None g h = absurd cc
    by_words (Some r) g h = (r.0, record { known = s.known; rest = r.1 }, ap (placed s.known) g, h)

-- behind separators stands one word
pub other-row : (k q : WordKind) → Told q → is_kind q k ≡ false → (s z : Place) (u : Unit {0}) → at (row_of q) s ≡ Some (u, z) → at (row_of k) s ≡ None
other-row k q told differs s z u e =
    let r = row-parts q s z u e in
    let h = placed_some s.known (separators s.rest) r.0 r.1 r.2 in
    ap (λ o. placed s.known (word_behind k o)) h.0 ∙ ap (λ (n : Known). placed n (word k r.1.rest)) h.1 ∙ other-word k q r.1 z (word-next q told r.1 z u r.3) differs

pub row-separators : (s z : Place) (u : Unit {0}) → at row s ≡ Some (u, z) → (at separators s ≡ Some (u, z)) × (ends z.rest ≡ false)
row-separators s z u e = by_words (separators s.rest) refl e
  where
    by_test : (o : Unit {0} × List Word) (b : Bool) → ends o.1 ≡ b → placed s.known (unless b (Some o)) ≡ Some (u, z) → (placed s.known (Some o) ≡ Some (u, z)) × (ends z.rest ≡ false)
    by_test o true g h = absurd cc
    by_test o false g h = (h, ap (λ (q : Place). ends q.rest) (sym (some_place o.0 u (record { known = s.known; rest = o.1 }) z h)) ∙ g)

    by_words : (o : Option (Unit {0} × List Word)) → separators s.rest ≡ o → placed s.known (before_row o) ≡ Some (u, z) → (placed s.known (separators s.rest) ≡ Some (u, z)) × (ends z.rest ≡ false)
    by_words None g h = absurd cc
    by_words (Some o) g h = let t = by_test o (ends o.1) refl h in (ap (placed s.known) g ∙ t.0, t.1)

pub separators-row : (s z : Place) (u : Unit {0}) → at separators s ≡ Some (u, z) → ends z.rest ≡ false → at row s ≡ Some (u, z)
separators-row s z u e f =
    let h = placed_some s.known (separators s.rest) u z e in
    ap (λ o. placed s.known (before_row o)) h.0 ∙ ap (λ b. placed s.known (unless b (Some (u, z.rest)))) f ∙ ap (λ k. placed k (Some (u, z.rest))) h.1

pub no_row : (s z : Place) (u : Unit {0}) → at separators s ≡ Some (u, z) → ends z.rest ≡ true → at row s ≡ None
no_row s z u e f =
    let h = placed_some s.known (separators s.rest) u z e in
    ap (λ o. placed s.known (before_row o)) h.0 ∙ ap (λ b. placed s.known (unless b (Some (u, z.rest)))) f

pub thens-next : (s z : Place) (u : Unit {0}) → at thens s ≡ Some (u, z) → ((n : Place) × (next s ≡ Some (kind.Then, n))) ⊎ ((n : Place) × (next s ≡ Some (kind.Separator, n)))
thens-next s z u e = by_words (word kind.Then s.rest) (separators s.rest) refl refl e
  where
    by_words : (o p : Option (Unit {0} × List Word)) → word kind.Then s.rest ≡ o → separators s.rest ≡ p → placed s.known (then_or_separators o p) ≡ Some (u, z)
        → ((n : Place) × (next s ≡ Some (kind.Then, n))) ⊎ ((n : Place) × (next s ≡ Some (kind.Separator, n)))
    by_words None None g h i = absurd cc
    by_words (Some r) p g h i = let n : Place = record { known = s.known; rest = r.1 } in inl (n, word-next kind.Then told_then s n r.0 (ap (placed s.known) g))
    by_words None (Some r) g h i = let t = separators-next s (record { known = s.known; rest = r.1 }) r.0 (ap (placed s.known) h) in inr (t.0, t.1)

pub prefix-next : (s z : Place) (u : Unit {0}) → at prefix_minus s ≡ Some (u, z) → (next s ≡ Some (kind.Minus, z)) × (at joined z ≡ None)
prefix-next s z u e = by_word (word kind.Minus s.rest) refl e
  where
    by_integer : (ws : List Word) (o : Option (ℕ × List Word)) → joined ws ≡ o → placed s.known (without_integer o ws) ≡ Some (u, z) → (placed s.known (Some (tt, ws)) ≡ Some (u, z)) × (at joined z ≡ None)
    by_integer ws None g h = (h, ap (at joined) (sym (some_place tt u (record { known = s.known; rest = ws }) z h)) ∙ ap (placed s.known) g)
    by_integer ws (Some n) g h = absurd cc

    by_word : (o : Option (Unit {0} × List Word)) → word kind.Minus s.rest ≡ o → placed s.known (no_integer o) ≡ Some (u, z) → (next s ≡ Some (kind.Minus, z)) × (at joined z ≡ None)
    by_word None g h = absurd cc
    by_word (Some x) g h =
        let t = by_integer x.1 (joined x.1) refl h in
        (word-next kind.Minus told_minus s z u (ap (placed s.known) g ∙ t.0), t.1)

-- a minus, and what stands behind it
module _ (s m : Place) (e : next s ≡ Some (kind.Minus, m)) where
  minus_prefix : (o : Option (ℕ × List Word)) → joined m.rest ≡ o → at prefix_minus s ≡ placed m.known (without_integer o m.rest)
  minus_prefix o f = by_next (λ q. at prefix_minus q ≡ placed m.known (without_integer o m.rest)) s m kind.Minus e (λ b. ap (λ i. placed m.known (without_integer i m.rest)) f)

  pub next-prefix : at joined m ≡ None → at prefix_minus s ≡ Some (tt, m)
  next-prefix f = by_integer (joined m.rest) refl f
    where
      by_integer : (o : Option (ℕ × List Word)) → joined m.rest ≡ o → placed m.known o ≡ None → at prefix_minus s ≡ Some (tt, m)
      by_integer None g h = minus_prefix None g
      by_integer (Some n) g h = absurd cc

  pub no_prefix : (n : ℕ) (z : Place) → at joined m ≡ Some (n, z) → at prefix_minus s ≡ None
  no_prefix n z f = minus_prefix (Some (n, z.rest)) (placed_some m.known (joined m.rest) n z f).0

-- the first word of a target, and the sign behind it
pub record TargetAt (s : Place) (x : Aim) (z : Place) : Type 0 where
  pub first : WordKind
  pub m : Place
  pub here : next s ≡ Some (first, m)
  pub told : target_of_kind first ≡ Some x.target
  pub sign : next m ≡ Some (kind.Assign x.sign, z)

sign_told : (k : WordKind) (q : Sign) → sign_of_kind k ≡ Some q → k ≡ kind.Assign q
sign_told (kind.Assign p) q e = cc
sign_told _ q e = absurd (none-some q e)

pub target-next : (s z : Place) (x : Aim) → at target s ≡ Some (x, z) → TargetAt s x z
target-next s z x e = by_name (target_word s.rest) refl e
  where
    by_sign : (y : Target) (l : ℕ) (m : Place) (o : Option (Sign × List Word)) → sign m.rest ≡ o → m.known ≡ s.known → placed s.known (assigned y l o) ≡ Some (x, z)
        → (y ≡ x.target) × (next m ≡ Some (kind.Assign x.sign, z))
    by_sign y l m None g k h = absurd cc
    by_sign y l m (Some r) g k h =
        let n : Place = record { known = s.known; rest = r.1 } in
        let a : Aim = record { target = y; sign = r.0; behind = l } in
        let is : a ≡ x = some_what a x n z h in
        let w = seen_as (λ w. sign_of_kind w.kind) m n r.0 (ap (placed m.known) g ∙ ap (λ (q : Known). Some (r.0, record { known = q; rest = r.1 })) k) in (
          ap (λ (b : Aim). b.target) is,
          w.here ∙ ap (λ (q : WordKind). Some (q, n)) (sign_told w.kind r.0 w.told) ∙ ap (λ (b : Aim). Some (kind.Assign b.sign, n)) is ∙ ap (λ (q : Place). Some (kind.Assign x.sign, q)) (some_place a x n z h),
        )

    by_name : (o : Option (Target × List Word)) → target_word s.rest ≡ o → placed s.known (named o) ≡ Some (x, z) → TargetAt s x z
    by_name None g h = absurd cc
    by_name (Some y) g h =
        let m : Place = record { known = s.known; rest = y.1 } in
        let t = by_sign y.0 (told_behind y.1) m (sign y.1) refl refl h in
        let w = seen_as (λ w. target_of_kind w.kind) s m y.0 (ap (placed s.known) g) in
        record { first = w.kind; m = m; here = w.here; told = w.told ∙ ap (λ (q : Target). Some q) t.0; sign = t.1 }

-- the first word of several targets, and the comma behind it
pub record SeveralAt (s : Place) : Type 0 where
  pub first : WordKind
  pub target : Target
  pub m : Place
  pub n : Place
  pub here : next s ≡ Some (first, m)
  pub told : target_of_kind first ≡ Some target
  pub comma : next m ≡ Some (kind.Comma, n)

pub several-next : (s z : Place) (u : Unit {0}) → at several s ≡ Some (u, z) → SeveralAt s
several-next s z u e = by_target (target_word s.rest) refl e
  where
    by_target : (o : Option (Target × List Word)) → target_word s.rest ≡ o → placed s.known (past_target o) ≡ Some (u, z) → SeveralAt s
    by_target None g h = absurd cc
    by_target (Some y) g h =
        let m : Place = record { known = s.known; rest = y.1 } in
        let w = seen_as (λ w. target_of_kind w.kind) s m y.0 (ap (placed s.known) g) in
        record { first = w.kind; target = y.0; m = m; n = z; here = w.here; told = w.told; comma = word-next kind.Comma told_comma m z u h }

-- a target that is a word, where a comma or the sign stands behind it
pub lone-target : (s z : Place) (x : Target) → at lone_target s ≡ Some (x, z) → (at target_word s ≡ Some (x, z)) × (ends_target z.rest ≡ true)
lone-target s z x e = by_target (target_word s.rest) refl e
  where
    by_test : (y : Target × List Word) (b : Bool) → ends_target y.1 ≡ b → placed s.known (cond b (Some (y.0, y.1)) None) ≡ Some (x, z) → (placed s.known (Some y) ≡ Some (x, z)) × (ends_target z.rest ≡ true)
    by_test y true g h = (h, ap (λ (q : Place). ends_target q.rest) (sym (some_place y.0 x (record { known = s.known; rest = y.1 }) z h)) ∙ g)
    by_test y false g h = absurd cc

    by_target : (o : Option (Target × List Word)) → target_word s.rest ≡ o → placed s.known (where_ended o) ≡ Some (x, z) → (placed s.known (target_word s.rest) ≡ Some (x, z)) × (ends_target z.rest ≡ true)
    by_target None g h = absurd cc
    by_target (Some y) g h = let t = by_test y (ends_target y.1) refl h in (ap (placed s.known) g ∙ t.0, t.1)

pub target-lone : (s z : Place) (x : Target) → at target_word s ≡ Some (x, z) → ends_target z.rest ≡ true → at lone_target s ≡ Some (x, z)
target-lone s z x e f =
    let h = placed_some s.known (target_word s.rest) x z e in
    ap (λ o. placed s.known (where_ended o)) h.0 ∙ ap (λ b. placed s.known (cond b (Some (x, z.rest)) None)) f ∙ ap (λ k. placed k (Some (x, z.rest))) h.1

-- what becomes known takes no words
pub rest_target : (x : Target) (s : Place) → (with_target x s).rest ≡ s.rest
rest_target (targets.Variable y) s = refl
rest_target (targets.Field y) s = refl
rest_target (targets.Global y) s = refl
rest_target (targets.Constant y n) s = refl

pub target-several : (s m n : Place) (x : Target) (u : Unit {0}) → at target_word s ≡ Some (x, m) → at (word kind.Comma) (with_target x m) ≡ Some (u, n) → at several s ≡ Some (u, record { known = s.known; rest = n.rest })
target-several s m n x u e f =
    let h = placed_some s.known (target_word s.rest) x m e in
    let c = placed_some (with_target x m).known (word kind.Comma (with_target x m).rest) u n f in
    ap (λ o. placed s.known (past_target o)) h.0 ∙ ap (λ ws. placed s.known (word kind.Comma ws)) (sym (rest_target x m)) ∙ ap (placed s.known) c.0

pub head-next : (s z : Place) (x : Head) → at head s ≡ Some (x, z) → (k : WordKind) × (next s ≡ Some (k, z)) × (head_of_kind k ≡ Some x)
head-next s z x e = let w = seen_as (λ w. head_of_kind w.kind) s z x e in (w.kind, w.here, w.told)

pub command-next : (s z : Place) (x : Head) → at (command s.known) s ≡ Some (x, z) → (at head s ≡ Some (x, z)) × (begins_head x z ≡ true)
command-next s z x e = by_name (head s.rest) refl e
  where
    by_test : (y : Head) (ws : List Word) (b : Bool) → begins_head y (record { known = s.known; rest = ws }) ≡ b → placed s.known (cond b (Some (y, ws)) None) ≡ Some (x, z)
        → (y ≡ x) × (record { known = s.known; rest = ws } ≡ z) × (begins_head y (record { known = s.known; rest = ws }) ≡ true)
    by_test y ws true g h = let m : Place = record { known = s.known; rest = ws } in (some_what y x m z h, some_place y x m z h, g)
    by_test y ws false g h = absurd cc

    by_name : (o : Option (Head × List Word)) → head s.rest ≡ o → placed s.known (commanding s.known o) ≡ Some (x, z) → (at head s ≡ Some (x, z)) × (begins_head x z ≡ true)
    by_name None g h = absurd cc
    by_name (Some y) g h =
        let m : Place = record { known = s.known; rest = y.1 } in
        let t = by_test y.0 y.1 (begins_head y.0 m) refl h in (
          ap (placed s.known) g ∙ ap (λ (q : Head). Some (q, m)) t.0 ∙ ap (λ (q : Place). Some (x, q)) t.1,
          ap (λ (q : Place). begins_head x q) (sym t.1) ∙ ap (λ (q : Head). begins_head q m) (sym t.0) ∙ t.2,
        )

-- the sign of a path, behind which another constant stands
pub path-next : (n : Naming) (s z : Place) (x : Sym) → at (inner_constant n) s ≡ Some (x, z) → (m : Place) × (next s ≡ Some (kind.Path, m))
path-next namings.Class s z x e = absurd cc
path-next namings.Free s z x e = absurd cc
path-next namings.Opened s z x e = absurd cc
path-next namings.Ractor s z x e = by_sign (scope_sign s.rest) refl e
  where
    by_sign : (o : Option (Unit {0} × List Word)) → scope_sign s.rest ≡ o → placed s.known (behind_sign o) ≡ Some (x, z) → (m : Place) × (next s ≡ Some (kind.Path, m))
    by_sign None g h = absurd cc
    by_sign (Some r) g h =
        let m : Place = record { known = s.known; rest = r.1 } in
        let w = seen_as (λ w. unless w.blank (where_true (is_kind w.kind kind.Path))) s m r.0 (ap (placed s.known) g) in
        (m, w.here ∙ ap (λ (q : WordKind). Some (q, m)) (told_path w.kind (unless_true w.blank (is_kind w.kind kind.Path) r.0 w.told)))

-- the word `do`, or separators
pub loops-next : (s z : Place) (u : Unit {0}) → at loops s ≡ Some (u, z) → ((n : Place) × (next s ≡ Some (kind.Do, n)) × (n ≡ z)) ⊎ (at separators s ≡ Some (u, z))
loops-next s z u e = by_words (word kind.Do s.rest) (separators s.rest) refl refl e
  where
    by_words : (o p : Option (Unit {0} × List Word)) → word kind.Do s.rest ≡ o → separators s.rest ≡ p → placed s.known (either o p) ≡ Some (u, z)
        → ((n : Place) × (next s ≡ Some (kind.Do, n)) × (n ≡ z)) ⊎ (at separators s ≡ Some (u, z))
    by_words None p g h i = inr (ap (placed s.known) h ∙ i)
    by_words (Some r) p g h i =
        let n : Place = record { known = s.known; rest = r.1 } in
        inl (n, word-next kind.Do told_do s n r.0 (ap (placed s.known) g), some_place r.0 u n z i)

-- ---- what is left behind what was seen

abbrev pub Steps : {X : Type 0} → Look X → Type 0
Steps {X} look = (s m : Place) (x : X) → at look s ≡ Some (x, m) → left m < left s

pub Steps-first_as : {X : Type 0} (f : Word → Option X) → Steps (first_as f)
Steps-first_as f s m x e = let w = seen_as f s m x e in omega (arith, next-left s m w.kind w.here)

pub Steps-word : (k : WordKind) → Steps (word k)
Steps-word k = Steps-first_as (λ w. where_true (is_kind w.kind k))

left-test : (b : Bool) (later : List Word) (w : Word) (ws : List Word) → length later ≤ length ws → length (cond b later (w ∷ ws)) ≤ suc (length ws)
left-test true later w vs h = omega arith
left-test false later w ws h = omega arith

pub left-without_separators : (ws : List Word) → length (without_separators ws) ≤ length ws
left-without_separators [] = omega arith
left-without_separators (w ∷ ws) = left-test (is_kind w.kind kind.Separator) (without_separators ws) w ws (left-without_separators ws)

pub Steps-separators : Steps separators
Steps-separators s m u e =
    let h = separators-next s m u e in
    omega (arith, next-left s h.0 kind.Separator h.1, left-without_separators h.0.rest, ap left h.2)

pub Steps-row_of : (k : WordKind) → Steps (row_of k)
Steps-row_of k s m u e = let r = row-parts k s m u e in omega (arith, Steps-separators s r.1 r.0 r.2, Steps-word k r.1 m u r.3)

pub Steps-row : Steps row
Steps-row s m u e = Steps-separators s m u (row-separators s m u e).0

left-behind_word : (ws : List Word) (o : Option (Unit {0} × List Word)) → ((r : Unit {0} × List Word) → o ≡ Some r → length r.1 < length ws) → length (behind_word ws o) ≤ length ws
left-behind_word ws None h = omega arith
left-behind_word ws (Some r) h = omega (arith, h r refl)

pub Steps-thens : Steps thens
Steps-thens s m u e = by_words (word kind.Then s.rest) (separators s.rest) refl refl e
  where
    step : (look : Look (Unit {0})) → Steps look → (ws : List Word) (r : Unit {0} × List Word) → look ws ≡ Some r → length r.1 < length ws
    step look steps ws r g = steps (record { known = s.known; rest = ws }) (record { known = s.known; rest = r.1 }) r.0 (ap (placed s.known) g)

    by_words : (o p : Option (Unit {0} × List Word)) → word kind.Then s.rest ≡ o → separators s.rest ≡ p → placed s.known (then_or_separators o p) ≡ Some (u, m) → left m < left s
    by_words None None g h i = absurd cc
    by_words (Some r) p g h i = omega (arith, step (word kind.Then) (Steps-word kind.Then) s.rest r g, ap left (some_place r.0 u (record { known = s.known; rest = r.1 }) m i))
    by_words None (Some r) g h i =
        let after = behind_word r.1 (word kind.Then r.1) in
        omega (
          arith,
          step separators Steps-separators s.rest r h,
          left-behind_word r.1 (word kind.Then r.1) (step (word kind.Then) (Steps-word kind.Then) r.1),
          ap left (some_place tt u (record { known = s.known; rest = after }) m i),
        )

pub Steps-loops : Steps loops
Steps-loops s m u e = elim (loops-next s m u e) [
  | inl h ↦ omega (arith, next-left s h.0 kind.Do h.1, ap left h.2)
  | inr h ↦ Steps-separators s m u h
]

pub Steps-target : Steps target
Steps-target s m x e = let h = target-next s m x e in omega (arith, next-left s h.m h.first h.here, next-left h.m m (kind.Assign x.sign) h.sign)

-- ---- what follows an operand

-- a dot comes, or a bracket; and what is behind is no longer
pub record TailAt (s z : Place) : Type 0 where
  pub first : WordKind
  pub m : Place
  pub here : next s ≡ Some (first, m)
  pub told : is_tail first ≡ true
  pub less : left z ≤ left m

pub tail-next : (s z : Place) (x : Tail) → at tail s ≡ Some (x, z) → TailAt s z
tail-next s z x e = by_dot (word kind.Dot s.rest) refl e
  where
    by_call : (y : Sym) (m : Place) (ws : List Word) (o : Option (Unit {0} × List Word)) → next s ≡ Some (kind.Dot, m) → length ws ≤ left m → ((r : Unit {0} × List Word) → o ≡ Some r → length r.1 < length ws)
        → placed s.known (called y ws o) ≡ Some (x, z) → TailAt s z
    by_call y m ws (Some r) f le h g = record { first = kind.Dot; m = m; here = f; told = refl; less = omega (arith, le, h r refl, ap left (some_place (tails.Call y) x (record { known = s.known; rest = r.1 }) z g)) }
    by_call y m ws None f le h g = by_test (begins_operands ws) refl g
      where
        by_test : (b : Bool) → begins_operands ws ≡ b → placed s.known (cond b None (Some (tails.Send y, ws))) ≡ Some (x, z) → TailAt s z
        by_test true i g = absurd cc
        by_test false i g = record { first = kind.Dot; m = m; here = f; told = refl; less = omega (arith, le, ap left (some_place (tails.Send y) x (record { known = s.known; rest = ws }) z g)) }

    step : {Y : Type 0} (look : Look Y) → Steps look → (ws : List Word) (r : Y × List Word) → look ws ≡ Some r → length r.1 < length ws
    step look steps ws r g = steps (record { known = s.known; rest = ws }) (record { known = s.known; rest = r.1 }) r.0 (ap (placed s.known) g)

    by_name : (m : Place) (ws : List Word) (o : Option (Sym × List Word)) → name ws ≡ o → next s ≡ Some (kind.Dot, m) → length ws ≤ left m → placed s.known (sent o) ≡ Some (x, z) → TailAt s z
    by_name m ws None f h le g = absurd cc
    by_name m ws (Some y) f h le g = by_call y.0 m y.1 (bracket y.1) h (omega (arith, step name (Steps-first_as _) ws y f, le)) (λ r i. step bracket (Steps-first_as _) y.1 r i) g

    by_square : (o : Option (Unit {0} × List Word)) → square s.rest ≡ o → placed s.known (indexed o) ≡ Some (x, z) → TailAt s z
    by_square None f g = absurd cc
    by_square (Some r) f g =
        let m : Place = record { known = s.known; rest = r.1 } in
        let w = seen_as (λ w. unless w.blank (where_true (is_kind w.kind kind.OpenSquare))) s m r.0 (ap (placed s.known) f) in
        record { first = kind.OpenSquare; m = m; here = w.here ∙ ap (λ (q : WordKind). Some (q, m)) (told_open_square w.kind (unless_true w.blank (is_kind w.kind kind.OpenSquare) r.0 w.told)); told = refl; less = omega (arith, ap left (some_place tails.Index x m z g)) }

    by_dot : (o : Option (Unit {0} × List Word)) → word kind.Dot s.rest ≡ o → placed s.known (behind_dot s.rest o) ≡ Some (x, z) → TailAt s z
    by_dot None f g = by_square (square s.rest) refl g
    by_dot (Some r) f g =
        let m : Place = record { known = s.known; rest = r.1 } in
        by_name m r.1 (name r.1) refl (word-next kind.Dot told_dot s m r.0 (ap (placed s.known) f)) (omega arith) g

pub Steps-tail : Steps tail
Steps-tail s m x e = let h = tail-next s m x e in omega (arith, next-left s h.m h.first h.here, h.less)
