-- Local variables by their names.
use Rattle.std.proofs.Common.{◌≡◌, ℕ, zero, suc, ◌-◌, ◌<◌, ◌≤◌, ◌==◌, Bool, true, false, cond, List, [], ◌∷◌, ◌++◌, length, get_or, slice_index_or, take, Option, Some, None, refl, sym, ap, ◌∙◌, arith, append_assoc}
use Rattle.std.proofs.lemmas.List.{append-nil}
use Rattle.std.proofs.Math.Seq.{take-suc}
use Rattle.std.proofs.Math.Dec.{eqb-suc-suc}
use Rattle.std.proofs.lemmas.Bool.{ne_eqb}
use Rattle.std.proofs.lemmas.Option.{none-some}
use Rattle.rr_base.specs.declared.name.Sym.{Sym}
use Rattle.rr_parser.specs.declared.locals.Local.{Local}
use Rattle.rr_parser.specs.Grammar.Names.{variable_of_kind, variable, local_if, later_or, find, seen_from}
use Rattle.rr_parser.specs.declared.word.WordKind.{WordKind}
use Rattle.rr_parser.specs.declared.word.WordKind.TheVariants as kind
use Rattle.rr_parser.specs.declared.word.Word.{Word}
use Rattle.rr_parser.specs.Places.{Known, seen_before, where_true, is_kind, word}
use Rattle.rr_parser.specs.Grammar.Blocks.{before_names, no_more, more_names, names_to}

later_or-later : (a b c : Option Local) → later_or (later_or a b) c ≡ later_or a (later_or b c)
later_or-later None b c = refl
later_or-later (Some l) b c = refl

later_or-none : (a : Option Local) → later_or a None ≡ a
later_or-none None = refl
later_or-none (Some l) = refl

-- the last of the variables is looked at first
pub find-last : (x : ℕ) (ls : List Local) (l : Local) → find x (ls ++ l ∷ []) ≡ later_or (local_if x l) (find x ls)
find-last x [] l = sym (later_or-none (local_if x l))
find-last x (a ∷ ls) l = ap (λ (o : Option Local). later_or o (local_if x a)) (find-last x ls l) ∙ later_or-later (local_if x l) (find x ls) (local_if x a)

eqb_same : (x : ℕ) → (x == x) ≡ true
eqb_same zero = refl
eqb_same (suc x) = eqb-suc-suc x x ∙ eqb_same x

-- what is known of a variable is found at once
pub find-added : (x : Sym) (ls : List Local) (level slot : ℕ) → find x.0 (ls ++ record { name = x; level = level; slot = slot } ∷ []) ≡ Some (record { name = x; level = level; slot = slot })
find-added x ls level slot =
    find-last x.0 ls (record { name = x; level = level; slot = slot })
    ∙ ap (λ (b : Bool). later_or (cond b (Some (record { name = x; level = level; slot = slot })) None) (find x.0 ls)) (eqb_same x.0)

no_depth : (n : ℕ) → n - n ≡ 0
no_depth n = omega arith

pub seen-added : (x : Sym) (ls new : List Local) (level slot count begun : ℕ) (in_loop in_method takes_do : Bool) → new ≡ ls ++ record { name = x; level = level; slot = slot } ∷ []
    → record { depth = 0; slot = slot } ≡ seen_from (record { locals = new; level = level; count = count; begun = begun; in_loop = in_loop; in_method = in_method; takes_do = takes_do }) (find x.0 new)
seen-added x ls new level slot count begun in_loop in_method takes_do e =
    let k : Known = record { locals = new; level = level; count = count; begun = begun; in_loop = in_loop; in_method = in_method; takes_do = takes_do } in
    ap (λ (d : ℕ). record { depth = d; slot = slot }) (sym (no_depth level))
    ∙ sym (ap (seen_from k) (ap (find x.0) e ∙ find-added x ls level slot))

-- one variable less is looked at
pub find-less : (x : ℕ) (ls : List Local) (j : ℕ) (d : Local) → j < length ls → find x (take (suc j) ls) ≡ later_or (local_if x (get_or ls j d)) (find x (take j ls))
find-less x ls j d lt = ap (find x) (take-suc ls j d lt) ∙ find-last x (take j ls) (get_or ls j d)

module _ (x n : ℕ) (ls : List Local) (l : Local) (here : l ≡ slice_index_or ls (n - 1) l) (above : 0 < n) (within : n ≤ length ls) where
  looked_at : find x (take n ls) ≡ later_or (local_if x l) (find x (take (n - 1) ls))
  looked_at =
      let e : n ≡ suc (n - 1) = omega arith in
      ap (λ (k : ℕ). find x (take k ls)) e ∙ find-less x ls (n - 1) l (omega arith) ∙ ap (λ (q : Local). later_or (local_if x q) (find x (take (n - 1) ls))) (sym here)

  pub found-there : l.name.0 ≡ x → find x (take n ls) ≡ find x ls → Some l ≡ find x ls
  found-there f e = sym (sym e ∙ looked_at ∙ ap (λ (c : Bool). later_or (cond c (Some l) None) (find x (take (n - 1) ls))) (ap (λ (y : ℕ). y == x) f ∙ eqb_same x))

  pub found-before : (l.name.0 ≡ x → ⊥) → find x (take n ls) ≡ find x ls → find x (take (n - 1) ls) ≡ find x ls
  found-before f e = sym (sym e ∙ looked_at ∙ ap (λ (c : Bool). later_or (cond c (Some l) None) (find x (take (n - 1) ls))) (ne_eqb l.name.0 x f))

-- ---- names before others

abbrev pub behind_names : List Sym → Option (List Sym × List Word) → Option (List Sym × List Word)
behind_names xs None = None
behind_names xs (Some r) = Some (xs ++ r.0, r.1)

one_more : (xs ys : List Sym) (x : Sym) (o : Option (List Sym × List Word)) → ys ≡ xs ++ x ∷ [] → behind_names xs (before_names (Some x) o) ≡ behind_names ys o
one_more xs ys x None e = refl
one_more xs ys x (Some r) e = ap (λ (l : List Sym). Some (l, r.1)) (sym (append_assoc xs (x ∷ []) r.0)) ∙ ap (λ (l : List Sym). Some (l ++ r.0, r.1)) (sym e)

rest_is : {A : Type 0} (a b : A) (r q : List Word) → ◌≡◌ {A = Option (A × List Word)} (Some (a, r)) (Some (b, q)) → r ≡ q
rest_is {A} a b r q e = let h : ◌≡◌ {A = A × List Word} (a, r) (b, q) = cc in ap (λ (p : A × List Word). p.1) h

what_is : {A : Type 0} (a b : A) (r q : List Word) → ◌≡◌ {A = Option (A × List Word)} (Some (a, r)) (Some (b, q)) → a ≡ b
what_is {A} a b r q e = let h : ◌≡◌ {A = A × List Word} (a, r) (b, q) = cc in ap (λ (p : A × List Word). p.0) h

-- a word that is seen first
word_first : (b : Bool) (ws after : List Word) → seen_before (where_true b) ws ≡ Some (tt, after) → (b ≡ true) × (ws ≡ after)
word_first true ws after e = (refl, rest_is tt tt ws after e)
word_first false ws after e = absurd cc

word_none : (b : Bool) (ws : List Word) → seen_before (where_true b) ws ≡ None → b ≡ false
word_none true ws e = absurd cc
word_none false ws e = refl

before_seen : (k : WordKind) (o : Option Sym) (ws after : List Word) (x : Sym) → seen_before o ws ≡ Some (x, after) → before_names o (more_names k ws) ≡ before_names (Some x) (more_names k after)
before_seen k None ws after x e = absurd cc
before_seen k (Some y) ws after x e = ap (λ (q : Sym). before_names (Some q) (more_names k ws)) (what_is y x ws after e) ∙ ap (λ (q : List Word). before_names (Some x) (more_names k q)) (rest_is y x ws after e)

before_none : (k : WordKind) (o : Option Sym) (ws : List Word) → seen_before o ws ≡ None → before_names o (more_names k ws) ≡ None
before_none k None ws e = refl
before_none k (Some y) ws e = absurd cc

pub names_begin : (k : WordKind) (ws after : List Word) (x : Sym) (ys : List Sym) → variable ws ≡ Some (x, after) → ys ≡ [] ++ x ∷ [] → names_to k ws ≡ behind_names ys (more_names k after)
names_begin k [] after x ys e f = absurd cc
names_begin k (w ∷ ws) after x ys e f = before_seen k (variable_of_kind w.kind) ws after x e ∙ alone (more_names k after) ∙ one_more [] ys x (more_names k after) f
  where
    alone : (o : Option (List Sym × List Word)) → before_names (Some x) o ≡ behind_names [] (before_names (Some x) o)
    alone None = refl
    alone (Some r) = refl

pub names_unbegun : (k : WordKind) (ws : List Word) → variable ws ≡ None → names_to k ws ≡ None
names_unbegun k [] e = refl
names_unbegun k (w ∷ ws) e = before_none k (variable_of_kind w.kind) ws e

comma_seen : (k : WordKind) (v : Word) (ws after : List Word) (x : Sym) → is_kind v.kind kind.Comma ≡ true → variable ws ≡ Some (x, after) → more_names k (v ∷ ws) ≡ before_names (Some x) (more_names k after)
comma_seen k v [] after x e f = absurd (none-some (x, after) f)
comma_seen k v (w ∷ ws) after x e f = ap (λ (b : Bool). cond b (before_names (variable_of_kind w.kind) (more_names k ws)) (no_more k v (w ∷ ws))) e ∙ before_seen k (variable_of_kind w.kind) ws after x f

comma_last : (k : WordKind) (v : Word) (ws : List Word) → is_kind v.kind kind.Comma ≡ true → variable ws ≡ None → more_names k (v ∷ ws) ≡ None
comma_last k v [] e f = ap (λ (b : Bool). cond b None (no_more k v [])) e
comma_last k v (w ∷ ws) e f = ap (λ (b : Bool). cond b (before_names (variable_of_kind w.kind) (more_names k ws)) (no_more k v (w ∷ ws))) e ∙ before_none k (variable_of_kind w.kind) ws f

no_comma : (k : WordKind) (v : Word) (ws : List Word) → is_kind v.kind kind.Comma ≡ false → more_names k (v ∷ ws) ≡ no_more k v ws
no_comma k v [] e = ap (λ (b : Bool). cond b None (no_more k v [])) e
no_comma k v (w ∷ ws) e = ap (λ (b : Bool). cond b (before_names (variable_of_kind w.kind) (more_names k ws)) (no_more k v (w ∷ ws))) e

more_comma : (k : WordKind) (rest after left : List Word) (x : Sym) → word kind.Comma rest ≡ Some (tt, after) → variable after ≡ Some (x, left) → more_names k rest ≡ before_names (Some x) (more_names k left)
more_comma k [] after left x e f = absurd cc
more_comma k (v ∷ ws) after left x e f =
    let t = word_first (is_kind v.kind kind.Comma) ws after e in
    comma_seen k v ws left x t.0 (ap variable t.1 ∙ f)

no_more_names : (k : WordKind) (rest after : List Word) → word kind.Comma rest ≡ Some (tt, after) → variable after ≡ None → more_names k rest ≡ None
no_more_names k [] after e f = absurd cc
no_more_names k (v ∷ ws) after e f =
    let t = word_first (is_kind v.kind kind.Comma) ws after e in
    comma_last k v ws t.0 (ap variable t.1 ∙ f)

last_name : (k : WordKind) (rest after : List Word) → word kind.Comma rest ≡ None → word k rest ≡ Some (tt, after) → more_names k rest ≡ Some ([], after)
last_name k [] after e f = absurd cc
last_name k (v ∷ ws) after e f =
    let t = word_first (is_kind v.kind k) ws after f in
    no_comma k v ws (word_none (is_kind v.kind kind.Comma) ws e) ∙ ap (λ (b : Bool). cond b (Some ([], ws)) None) t.0 ∙ ap (λ (q : List Word). Some ([], q)) t.1

wrong_name : (k : WordKind) (rest : List Word) → word kind.Comma rest ≡ None → word k rest ≡ None → more_names k rest ≡ None
wrong_name k [] e f = refl
wrong_name k (v ∷ ws) e f = no_comma k v ws (word_none (is_kind v.kind kind.Comma) ws e) ∙ ap (λ (b : Bool). cond b (Some ([], ws)) None) (word_none (is_kind v.kind k) ws f)

module _ (k : WordKind) (ws rest : List Word) (xs : List Sym) (e : names_to k ws ≡ behind_names xs (more_names k rest)) where
  pub names_go_on : (after left : List Word) (x : Sym) (ys : List Sym) → word kind.Comma rest ≡ Some (tt, after) → variable after ≡ Some (x, left) → ys ≡ xs ++ x ∷ [] → names_to k ws ≡ behind_names ys (more_names k left)
  names_go_on after left x ys f g h = e ∙ ap (behind_names xs) (more_comma k rest after left x f g) ∙ one_more xs ys x (more_names k left) h

  pub names_break : (after : List Word) → word kind.Comma rest ≡ Some (tt, after) → variable after ≡ None → names_to k ws ≡ None
  names_break after f g = e ∙ ap (behind_names xs) (no_more_names k rest after f g)

  pub names_end : (after : List Word) → word kind.Comma rest ≡ None → word k rest ≡ Some (tt, after) → names_to k ws ≡ Some (xs, after)
  names_end after f g = e ∙ ap (behind_names xs) (last_name k rest after f g) ∙ ap (λ (l : List Sym). Some (l, after)) (append-nil xs)

  pub names_wrong : word kind.Comma rest ≡ None → word k rest ≡ None → names_to k ws ≡ None
  names_wrong f g = e ∙ ap (behind_names xs) (wrong_name k rest f g)

pub comma_steps : (rest after : List Word) → word kind.Comma rest ≡ Some (tt, after) → length after < length rest
comma_steps [] after e = absurd cc
comma_steps (v ∷ ws) after e = omega (arith, ap length (word_first (is_kind v.kind kind.Comma) ws after e).1)

pub variable_steps : (rest after : List Word) (x : Sym) → variable rest ≡ Some (x, after) → length after < length rest
variable_steps [] after x e = absurd cc
variable_steps (w ∷ ws) after x e = by_kind (variable_of_kind w.kind) e
  where
    by_kind : (o : Option Sym) → seen_before o ws ≡ Some (x, after) → length after < suc (length ws)
    by_kind None f = absurd cc
    by_kind (Some y) f = omega (arith, ap length (rest_is y x ws after f))

less_twice : (a b c : ℕ) → a < b → b < c → a < c
less_twice a b c f g = omega arith

-- a comma and a name are behind
pub names_smaller : (rest after left : List Word) (x : Sym) → word kind.Comma rest ≡ Some (tt, after) → variable after ≡ Some (x, left) → length left < length rest
names_smaller rest after left x e f = less_twice (length left) (length after) (length rest) (variable_steps after left x f) (comma_steps rest after e)
