-- The names of the program's classes among its words.
use Rattle.std.proofs.Common.{◌≡◌, ℕ, zero, suc, ◌+◌, ◌<◌, ◌≤◌, Bool, true, false, not, cond, ◌||◌, if◌then◌else◌, List, [], ◌∷◌, ◌++◌, length, take, drop, get_or, set, map, filter, Option, Some, None, option_map, option_to_list, refl, sym, ap, ◌∙◌, arith, length-append}
use Rattle.std.specs.Prelude.{nat_eq, slice_get, Vec}
use Rattle.std.specs.Map.{keys_of, lookup}
use Rattle.std.proofs.lemmas.Bool.{eqb-true, cond-true, cond-false}
use Rattle.std.proofs.Math.Bool.{or-true, or-false, or_assoc}
use Rattle.std.proofs.lemmas.List.Folds.{list_any-append}
use Rattle.std.proofs.lemmas.List.Elements.{filter-append}
use Rattle.std.proofs.lemmas.Map.Entries.{lookup-filter-keys}
use Rattle.indexmap.specs.IndexMap.{insert_entry}
use Rattle.indexmap.proofs.MapLemmas.{absent_from_lookup, insert_entry-absent}
use Rattle.std.specs.declared.alloc.Global.{Global}
use Rattle.std.specs.List.{list_any}
use Rattle.std.proofs.lemmas.List.{append_assoc, append-nil, map-append, take_more}
use Rattle.rr_base.specs.declared.name.ClassId.{ClassId}
use Rattle.rr_tree.specs.declared.class.Class.{Class}
use Rattle.rr_lexer.specs.declared.kind.Token.{Token}
use Rattle.rr_parser.specs.declared.word.Word.{Word}
use Rattle.rr_parser.specs.declared.word.WordKind.{WordKind}
use Rattle.rr_parser.specs.Words.{symbols_behind, symbols_of, words_behind, told_words}
use Rattle.rr_tree.specs.declared.node.Path.{Path}
use Rattle.rr_base.specs.declared.name.Sym.{Sym}
use Rattle.rr_parser.specs.declared.word.Opening.{Opening}
use Rattle.rr_parser.specs.declared.word.WordKind.TheVariants as kind
use Rattle.rr_parser.specs.Opened.{class_behind, with_number, classes_in, naming_by, kind_by, word_by, with_classes, Earlier, Head, head_behind, heads_in, names_of, below_path, opening_by, superclass_of, new_opening, classes_behind, classes_by, opened_kind, opened_words, with_class_by, with_class, class_of_entry}

none : {A : Type 0} (l : List A) → length l ≡ 0 → l ≡ []
none [] e = refl
none (x ∷ l) e = let never : ⊥ = omega (arith, e) in absurd never

-- ---- names

-- one more name stands in the list as in the set
noted : (x : ℕ) (names : List ℕ) (n : ℕ) (there : Bool) → list_any (nat_eq n) names ≡ there → list_any (nat_eq x) (if there then names else names ++ n ∷ []) ≡ (list_any (nat_eq x) names || list_any (nat_eq x) (n ∷ []))
noted x names n false e = list_any-append (nat_eq x) names (n ∷ [])
noted x names n true e = by (nat_eq x n) refl
  where
    by : (b : Bool) → nat_eq x n ≡ b → list_any (nat_eq x) names ≡ (list_any (nat_eq x) names || (b || false))
    by true same = ap (λ y. list_any (nat_eq y) names) (eqb-true x n same) ∙ e ∙ sym (or-true (list_any (nat_eq x) names))
    by false other = sym (or-false (list_any (nat_eq x) names))

noted_by : (x : ℕ) (names : List ℕ) (number : Option ℕ) → list_any (nat_eq x) (with_number names number) ≡ (list_any (nat_eq x) names || list_any (nat_eq x) (option_to_list number))
noted_by x names None = sym (or-false (list_any (nat_eq x) names))
noted_by x names (Some n) = noted x names n (list_any (nat_eq n) names) refl

-- the constants so far and those that are left are all of them
abbrev pub AreClassesIn : List ℕ → List Word → List Word → Type 0
AreClassesIn names left words = (x : ℕ) → (list_any (nat_eq x) names || list_any (nat_eq x) (classes_in left)) ≡ list_any (nat_eq x) (classes_in words)

pub classes_more : (names more : List ℕ) (number : Option ℕ) (w : Word) (ws l words : List Word) → l ≡ w ∷ ws → number ≡ class_behind w ws → more ≡ with_number names number → AreClassesIn names l words → AreClassesIn more ws words
classes_more names more number w ws l words here is e h = λ x.
    let own = list_any (nat_eq x) names in
    let new = list_any (nat_eq x) (option_to_list number) in
    let later = list_any (nat_eq x) (classes_in ws) in
    ap (λ (xs : List ℕ). list_any (nat_eq x) xs || later) e
    ∙ ap (λ b. b || later) (noted_by x names number)
    ∙ or_assoc own new later
    ∙ ap (λ b. own || b) (sym (list_any-append (nat_eq x) (option_to_list number) (classes_in ws)))
    ∙ ap (λ (o : Option ℕ). own || list_any (nat_eq x) (option_to_list o ++ classes_in ws)) is
    ∙ ap (λ (q : List Word). own || list_any (nat_eq x) (classes_in q)) (sym here)
    ∙ h x

pub classes_whole : (names : List ℕ) (left words : List Word) → length left ≡ 0 → AreClassesIn names left words → (x : ℕ) → list_any (nat_eq x) names ≡ list_any (nat_eq x) (classes_in words)
classes_whole names left words e h x = sym (or-false (list_any (nat_eq x) names)) ∙ ap (λ (q : List Word). list_any (nat_eq x) names || list_any (nat_eq x) (classes_in q)) (sym (none left e)) ∙ h x

kind_same : (own other : ℕ → Bool) → ((x : ℕ) → own x ≡ other x) → (k : WordKind) → kind_by own k ≡ kind_by other k
kind_same own other same (kind.Constant x n) = ap (λ b. kind.Constant x (naming_by b n)) (same x.0)
kind_same own other same k = refl

abbrev pub own_in : List Word → ℕ → Bool
own_in ws x = list_any (nat_eq x) (classes_in ws)

-- words of which so many, the first ones, were told
unfoldable pub part_told : (Word → Word) → ℕ → List Word → List Word
part_told f zero ws = ws
part_told f (suc i) [] = []
part_told f (suc i) (w ∷ ws) = f w ∷ part_told f i ws

pub told_none : (f : Word → Word) (ws : List Word) → ws ≡ part_told f 0 ws
unfolding part_told
told_none f ws = refl

-- one word more
told_at : (f : Word → Word) (i : ℕ) (ws : List Word) (d : Word) → i < length ws → set (part_told f i ws) i (f (get_or (part_told f i ws) i d)) ≡ part_told f (suc i) ws
unfolding part_told
told_at f i [] d lt = let never : ⊥ = omega (arith, lt) in absurd never
told_at f zero (w ∷ ws) d lt = refl
told_at f (suc i) (w ∷ ws) d lt = ap (λ (l : List Word). f w ∷ l) (told_at f i ws d (omega (arith, lt)))

told_whole : (f : Word → Word) (i : ℕ) (ws : List Word) → length ws ≤ i → part_told f i ws ≡ map f ws
unfolding part_told
told_whole f zero [] le = refl
told_whole f zero (w ∷ ws) le = let never : ⊥ = omega (arith, le) in absurd never
told_whole f (suc i) [] le = refl
told_whole f (suc i) (w ∷ ws) le = ap (λ (l : List Word). f w ∷ l) (told_whole f i ws (omega (arith, le)))

-- what the code makes of the word at a place
pub told_on : (ws now : List Word) (i : ℕ) (d : Word) (names : List ℕ) (k : WordKind) → i < length ws → ((x : ℕ) → list_any (nat_eq x) names ≡ own_in ws x) → now ≡ part_told (word_by (own_in ws)) i ws
    → k ≡ kind_by (λ x. list_any (nat_eq x) names) (get_or now i d).kind → set now i (record { kind = k; blank = (get_or now i d).blank }) ≡ part_told (word_by (own_in ws)) (i + 1) ws
told_on ws now i d names k lt same here is =
    let f = word_by (own_in ws) in
    let e : suc i ≡ i + 1 = omega arith in
    ap (λ (q : WordKind). set now i (record { kind = q; blank = (get_or now i d).blank })) (is ∙ kind_same (λ x. list_any (nat_eq x) names) (own_in ws) same (get_or now i d).kind)
    ∙ ap (λ (l : List Word). set l i (f (get_or l i d))) here
    ∙ told_at f i ws d lt
    ∙ ap (λ (n : ℕ). part_told f n ws) e

pub told_each : (f : Word → Word) (i : ℕ) (ws now : List Word) → length ws ≤ i → now ≡ part_told f i ws → now ≡ map f ws
told_each f i ws now le here = here ∙ told_whole f i ws le

-- ---- superclasses

abbrev texts : List (Vec ℕ Global) → List (List ℕ)
texts l = map (λ s. s.items) l

-- names and entries without those of a name
abbrev other_than : ℕ → ℕ → Bool
other_than x y = not (nat_eq y x)

keys_filter : (p : ℕ → Bool) (es : Earlier) → keys_of (filter (λ e. p e.0) es) ≡ filter p (keys_of es)
keys_filter p [] = refl
keys_filter p (e ∷ es) = by (p e.0) (keys_filter p es)
  where
    by : (b : Bool) → keys_of (filter (λ e. p e.0) es) ≡ filter p (keys_of es) → keys_of (cond b (e ∷ filter (λ e. p e.0) es) (filter (λ e. p e.0) es)) ≡ cond b (e.0 ∷ filter p (keys_of es)) (filter p (keys_of es))
    by true h = ap (λ (l : List ℕ). e.0 ∷ l) h
    by false h = h

-- the names of the classes are those of the heads
keys_behind : (names : List (List ℕ)) (before hs : List Head) → keys_of (classes_behind names before hs) ≡ names_of hs
keys_behind names before [] = refl
keys_behind names before (h ∷ hs) =
    let rest = classes_behind names (before ++ h ∷ []) hs in
    ap (λ (l : List ℕ). h.0 ∷ l) (keys_filter (other_than h.0) rest ∙ ap (filter (other_than h.0)) (keys_behind names (before ++ h ∷ []) hs))

insert_absent : (es : Earlier) (x : ℕ) (c : ClassId) → lookup (nat_eq x) es ≡ None → insert_entry nat_eq es x c ≡ es ++ (x, c) ∷ []
insert_absent es x c none = insert_entry-absent nat_eq x c es (absent_from_lookup (nat_eq x) es none)

-- One more class behind others, of which one has another name or the same.
module _ (x y : ℕ) (c d : ClassId) (es : Earlier) where
  abbrev others : Earlier → Earlier
  others l = filter (λ e. other_than y e.0) l

  other_found : nat_eq x y ≡ false → lookup (nat_eq x) (others es) ≡ lookup (nat_eq x) es
  other_found e = lookup-filter-keys (nat_eq x) (other_than y) true (λ k is. ap (λ z. not (nat_eq z y)) (sym (eqb-true x k is)) ∙ ap not e) es

  others_last : others (es ++ (x, c) ∷ []) ≡ others es ++ cond (not (nat_eq x y)) ((x, c) ∷ []) []
  others_last = filter-append (λ e. other_than y e.0) es ((x, c) ∷ [])

  added_by : (same : Bool) (old : Option ClassId) → nat_eq x y ≡ same → lookup (nat_eq x) es ≡ old → (y, d) ∷ others (with_class_by old es x c) ≡ with_class ((y, d) ∷ others es) x c
  added_by true (Some o) is was =
      sym (ap (λ q. with_class_by q ((y, d) ∷ others es) x c) (cond-true (nat_eq x y) (Some d) (lookup (nat_eq x) (others es)) is))
  added_by true None is was =
      ap (λ (l : Earlier). (y, d) ∷ others l) (insert_absent es x c was)
      ∙ ap (λ (l : Earlier). (y, d) ∷ l) (others_last ∙ ap (λ b. others es ++ cond (not b) ((x, c) ∷ []) []) is ∙ append-nil (others es))
      ∙ sym (ap (λ q. with_class_by q ((y, d) ∷ others es) x c) (cond-true (nat_eq x y) (Some d) (lookup (nat_eq x) (others es)) is))
  added_by false (Some o) is was =
      let now : lookup (nat_eq x) ((y, d) ∷ others es) ≡ Some o = cond-false (nat_eq x y) (Some d) (lookup (nat_eq x) (others es)) is ∙ other_found is ∙ was in
      sym (ap (λ q. with_class_by q ((y, d) ∷ others es) x c) now)
  added_by false None is was =
      let now : lookup (nat_eq x) ((y, d) ∷ others es) ≡ None = cond-false (nat_eq x y) (Some d) (lookup (nat_eq x) (others es)) is ∙ other_found is ∙ was in
      ap (λ (l : Earlier). (y, d) ∷ others l) (insert_absent es x c was)
      ∙ ap (λ (l : Earlier). (y, d) ∷ l) (others_last ∙ ap (λ b. others es ++ cond (not b) ((x, c) ∷ []) []) is)
      ∙ sym (insert_absent ((y, d) ∷ others es) x c now)
      ∙ sym (ap (λ q. with_class_by q ((y, d) ∷ others es) x c) now)

  pub added : (y, d) ∷ others (with_class es x c) ≡ with_class ((y, d) ∷ others es) x c
  added = added_by (nat_eq x y) (lookup (nat_eq x) es) refl refl

-- One more head behind others adds its class.
abbrev told_by : List (List ℕ) → List Head → Option Path → ClassId
told_by names before path = superclass_of (new_opening names (names_of before) path)

behind_more : (names : List (List ℕ)) (before hs : List Head) (h : Head) → classes_behind names before (hs ++ h ∷ []) ≡ with_class (classes_behind names before hs) h.0 (told_by names (before ++ hs) h.1)
behind_more names before [] h = ap (λ (l : List Head). (h.0, told_by names l h.1) ∷ []) (sym (append-nil before))
behind_more names before (g ∷ hs) h =
    let rest = classes_behind names (before ++ g ∷ []) hs in
    ap (λ (l : Earlier). (g.0, told_by names before g.1) ∷ filter (λ e. other_than g.0 e.0) l) (behind_more names (before ++ g ∷ []) hs h)
    ∙ ap (λ (l : List Head). (g.0, told_by names before g.1) ∷ filter (λ e. other_than g.0 e.0) (with_class rest h.0 (told_by names l h.1))) (append_assoc before (g ∷ []) hs)
    ∙ added h.0 g.0 (told_by names (before ++ g ∷ hs) h.1) (told_by names before g.1) rest

-- what is told, of a class that was there or not
superclass_told : (old : Option ClassId) (cs : Earlier) (x : ℕ) (given : Option Opening) → with_class_by old cs x (superclass_of (opening_by old given)) ≡ with_class_by old cs x (superclass_of (opening_by None given))
superclass_told None cs x given = refl
superclass_told (Some c) cs x given = refl

module _ (names : List (List ℕ)) (hs : List Head) (cs : Earlier) (is : cs ≡ classes_by names hs) where
  names_are : keys_of cs ≡ names_of hs
  names_are = ap keys_of is ∙ keys_behind names [] hs

  -- the code's opening is that of the head
  pub opening_is : (x : Sym) (path : Option Path) (o : Opening) → o ≡ opening_by (lookup (nat_eq x.0) cs) (option_map (below_path names (keys_of cs)) path)
      → o ≡ opening_by (lookup (nat_eq x.0) (classes_by names hs)) (option_map (below_path names (names_of hs)) path)
  opening_is x path o e =
      e
      ∙ ap (λ (q : Earlier). opening_by (lookup (nat_eq x.0) q) (option_map (below_path names (keys_of cs)) path)) is
      ∙ ap (λ (l : List ℕ). opening_by (lookup (nat_eq x.0) (classes_by names hs)) (option_map (below_path names l) path)) names_are

  -- and the classes are those with one head more
  pub class_is_added : (x : Sym) (path : Option Path) (o : Opening) (new : Earlier) → o ≡ opening_by (lookup (nat_eq x.0) cs) (option_map (below_path names (keys_of cs)) path) → new ≡ with_class cs x.0 (superclass_of o)
      → new ≡ classes_by names (hs ++ (x.0, path) ∷ [])
  class_is_added x path o new e f =
      f
      ∙ ap (λ (q : Opening). with_class cs x.0 (superclass_of q)) e
      ∙ superclass_told (lookup (nat_eq x.0) cs) cs x.0 (option_map (below_path names (keys_of cs)) path)
      ∙ ap (λ (l : List ℕ). with_class cs x.0 (superclass_of (new_opening names l path))) names_are
      ∙ ap (λ (q : Earlier). with_class q x.0 (told_by names hs path)) is
      ∙ sym (behind_more names [] hs (x.0, path))

-- What was done, and what is left to do.
pub record IsOpening (names : List (List ℕ)) (cs : Earlier) (told left words : List Word) : Type 0 where
  pub heads : List Head
  pub are : cs ≡ classes_by names heads
  pub whole : heads ++ heads_in left ≡ heads_in words
  pub opened : told ++ opened_words names heads left ≡ opened_words names [] words

pub opening_first : (names : List (List ℕ)) (cs : Earlier) (told words : List Word) → cs ≡ [] → told ≡ [] → IsOpening names cs told words words
opening_first names cs told words e f = record { heads = []; are = e; whole = refl; opened = ap (λ (l : List Word). l ++ opened_words names [] words) f }

pub opening_more : (own names : List (Vec ℕ Global)) → own ≡ names → (cs more : Earlier) (w : Word) (ws l told new words : List Word) (k : WordKind) → l ≡ w ∷ ws
    → ((hs : List Head) → cs ≡ classes_by (texts own) hs → more ≡ classes_by (texts own) (hs ++ head_behind w.kind ws)) → ((hs : List Head) → cs ≡ classes_by (texts own) hs → k ≡ opened_kind (texts own) hs w.kind ws)
    → new ≡ told ++ record { kind = k; blank = w.blank } ∷ [] → IsOpening (texts names) cs told l words → IsOpening (texts names) more new ws words
opening_more own names same cs more w ws l told new words k here adds is f O =
    let hs = O.heads in
    let on = O.are ∙ ap (λ (q : List (Vec ℕ Global)). classes_by (texts q) hs) (sym same) in
    record {
      heads = hs ++ head_behind w.kind ws;
      are = adds hs on ∙ ap (λ (q : List (Vec ℕ Global)). classes_by (texts q) (hs ++ head_behind w.kind ws)) same;
      whole = append_assoc hs (head_behind w.kind ws) (heads_in ws) ∙ ap (λ (q : List Word). hs ++ heads_in q) (sym here) ∙ O.whole;
      opened =
          ap (λ (q : List Word). q ++ opened_words (texts names) (hs ++ head_behind w.kind ws) ws) f
          ∙ append_assoc told (record { kind = k; blank = w.blank } ∷ []) (opened_words (texts names) (hs ++ head_behind w.kind ws) ws)
          ∙ ap (λ (q : WordKind). told ++ record { kind = q; blank = w.blank } ∷ opened_words (texts names) (hs ++ head_behind w.kind ws) ws) (is hs on ∙ ap (λ (q : List (Vec ℕ Global)). opened_kind (texts q) hs w.kind ws) same)
          ∙ ap (λ (q : List Word). told ++ opened_words (texts names) hs q) (sym here)
          ∙ O.opened;
    }

-- the first word behind those that were told
behind_told : (told ws : List Word) (w d : Word) → get_or (told ++ w ∷ ws) (length told) d ≡ w
behind_told [] ws w d = refl
behind_told (t ∷ told) ws w d = behind_told told ws w d

set_told : (told ws : List Word) (w y : Word) → set (told ++ w ∷ ws) (length told) y ≡ told ++ y ∷ ws
set_told [] ws w y = refl
set_told (t ∷ told) ws w y = ap (λ (l : List Word). t ∷ l) (set_told told ws w y)

drop_told : (told ws : List Word) (w : Word) → drop (suc (length told)) (told ++ w ∷ ws) ≡ ws
drop_told [] ws w = refl
drop_told (t ∷ told) ws w = drop_told told ws w

-- The same among the words themselves, of which so many were told.
pub record IsOpeningIn (names : List (List ℕ)) (cs : Earlier) (i : ℕ) (now words : List Word) : Type 0 where
  pub told : List Word
  pub left : List Word
  pub here : now ≡ told ++ left
  pub count : length told ≡ i
  pub opening : IsOpening names cs told left words

pub opening_begin : (names : List (List ℕ)) (cs : Earlier) (words : List Word) → cs ≡ [] → IsOpeningIn names cs 0 words words
opening_begin names cs words e = record { told = []; left = words; here = refl; count = refl; opening = opening_first names cs [] words e refl }

pub opening_on : (own names : List (Vec ℕ Global)) → own ≡ names → (cs more : Earlier) (i : ℕ) (now words behind : List Word) (d : Word) (k : WordKind) → i < length now → behind ≡ drop (i + 1) now
    → ((hs : List Head) → cs ≡ classes_by (texts own) hs → more ≡ classes_by (texts own) (hs ++ head_behind (get_or now i d).kind behind))
    → ((hs : List Head) → cs ≡ classes_by (texts own) hs → k ≡ opened_kind (texts own) hs (get_or now i d).kind behind)
    → IsOpeningIn (texts names) cs i now words → IsOpeningIn (texts names) more (i + 1) (set now i (record { kind = k; blank = (get_or now i d).blank })) words
opening_on own names same cs more i now words behind d k lt e adds is O = by O.told O.left O.here O.count O.opening
  where
    by : (told left : List Word) → now ≡ told ++ left → length told ≡ i → IsOpening (texts names) cs told left words → IsOpeningIn (texts names) more (i + 1) (set now i (record { kind = k; blank = (get_or now i d).blank })) words
    by told [] here count P = let never : ⊥ = omega (arith, lt, count, ap length here, length-append told []) in absurd never
    by told (w ∷ ws) here count P =
        let y : Word = record { kind = k; blank = w.blank } in
        let up : i + 1 ≡ suc (length told) = omega (arith, count) in
        let first : get_or now i d ≡ w = ap (λ (l : List Word). get_or l i d) here ∙ ap (λ (n : ℕ). get_or (told ++ w ∷ ws) n d) (sym count) ∙ behind_told told ws w d in
        let rest : behind ≡ ws = e ∙ ap (drop (i + 1)) here ∙ ap (λ (n : ℕ). drop n (told ++ w ∷ ws)) up ∙ drop_told told ws w in
        record {
          told = told ++ y ∷ [];
          left = ws;
          here =
              ap (λ (q : Word). set now i (record { kind = k; blank = q.blank })) first
              ∙ ap (λ (l : List Word). set l i y) here
              ∙ ap (λ (n : ℕ). set (told ++ w ∷ ws) n y) (sym count)
              ∙ set_told told ws w y
              ∙ sym (append_assoc told (y ∷ []) ws);
          count = omega (arith, length-append told (y ∷ []), count);
          opening =
              opening_more own names same cs more w ws (w ∷ ws) told (told ++ y ∷ []) words k refl
              (λ hs f. adds hs f ∙ ap (λ (q : Word). classes_by (texts own) (hs ++ head_behind q.kind behind)) first ∙ ap (λ (q : List Word). classes_by (texts own) (hs ++ head_behind w.kind q)) rest)
              (λ hs f. is hs f ∙ ap (λ (q : Word). opened_kind (texts own) hs q.kind behind) first ∙ ap (λ (q : List Word). opened_kind (texts own) hs w.kind q) rest)
              refl P;
        }

none_left : (told left now : List Word) (i : ℕ) → now ≡ told ++ left → length told ≡ i → length now ≤ i → length left ≡ 0
none_left told left now i here count le = omega (arith, ap length here, length-append told left, count, le)

pub opened_last : (names : List (List ℕ)) (cs : Earlier) (told left words : List Word) → length left ≡ 0 → IsOpening names cs told left words → told ≡ opened_words names [] words
opened_last names cs told left words e O = sym (append-nil told) ∙ ap (λ (q : List Word). told ++ opened_words names O.heads q) (sym (none left e)) ∙ O.opened

pub classes_last : (names : List (List ℕ)) (cs : Earlier) (told left words : List Word) → length left ≡ 0 → IsOpening names cs told left words → cs ≡ classes_by names (heads_in words)
classes_last names cs told left words e O =
    O.are ∙ ap (classes_by names) (sym (append-nil O.heads) ∙ ap (λ (q : List Word). O.heads ++ heads_in q) (sym (none left e)) ∙ O.whole)

pub opened_whole : (names : List (List ℕ)) (cs : Earlier) (i : ℕ) (now words : List Word) → length now ≤ i → IsOpeningIn names cs i now words → now ≡ opened_words names [] words
opened_whole names cs i now words le O =
    let e = none_left O.told O.left now i O.here O.count le in
    O.here ∙ ap (λ (l : List Word). O.told ++ l) (none O.left e) ∙ append-nil O.told ∙ opened_last names cs O.told O.left words e O.opening

pub classes_whole_in : (names : List (List ℕ)) (cs : Earlier) (i : ℕ) (now words : List Word) → length now ≤ i → IsOpeningIn names cs i now words → cs ≡ classes_by names (heads_in words)
classes_whole_in names cs i now words le O = classes_last names cs O.told O.left words (none_left O.told O.left now i O.here O.count le) O.opening

pub told_all : (source : List ℕ) (names held : List (List ℕ)) (def : Bool) (tokens l : List Token) (ws told : List Word) → length l ≡ 0 → ws ++ words_behind source names held def l ≡ words_behind source [] [] false tokens → told ≡ with_classes ws
    → told ≡ told_words source tokens
told_all source names held def tokens l ws told e h f = f ∙ ap with_classes (sym (append-nil ws) ∙ ap (λ (q : List Token). ws ++ words_behind source names held def q) (sym (none l e)) ∙ h)

pub symbols_all : (source : List ℕ) (names known : List (List ℕ)) (def : Bool) (tokens l : List Token) → length l ≡ 0 → symbols_behind source names def l ≡ symbols_of source tokens → known ≡ names → known ≡ symbols_of source tokens
symbols_all source names known def tokens l e h f = f ∙ ap (symbols_behind source names def) (sym (none l e)) ∙ h

entry_at : (es : Earlier) (i : ℕ) (e : ℕ × ClassId) → slice_get es i ≡ Some e → (i < length es) × (get_or es i e ≡ e)
entry_at [] i e h = absurd cc
entry_at (x ∷ es) zero e h = (omega arith, cc)
entry_at (x ∷ es) (suc i) e h = let r = entry_at es i e h in (omega (arith, r.0), r.1)

past_entries : (es : Earlier) (i : ℕ) → slice_get es i ≡ None → take i es ≡ es
past_entries [] zero h = refl
past_entries [] (suc i) h = refl
past_entries (x ∷ es) zero h = absurd cc
past_entries (x ∷ es) (suc i) h = ap (λ (l : Earlier). x ∷ l) (past_entries es i h)

pub class_more : (es : Earlier) (cs new : List Class) (e : ℕ × ClassId) → cs ≡ map class_of_entry (take (length cs) es) → slice_get es (length cs) ≡ Some e → new ≡ cs ++ class_of_entry e ∷ [] → new ≡ map class_of_entry (take (length new) es)
class_more es cs new e h g f =
    let r = entry_at es (length cs) e g in
    let n : length new ≡ length cs + 1 = ap length f ∙ length-append cs (class_of_entry e ∷ []) in
    f
    ∙ ap (λ (l : List Class). l ++ class_of_entry e ∷ []) h
    ∙ ap (λ (x : ℕ × ClassId). map class_of_entry (take (length cs) es) ++ class_of_entry x ∷ []) (sym r.1)
    ∙ sym (map-append class_of_entry (take (length cs) es) (get_or es (length cs) e ∷ []))
    ∙ ap (map class_of_entry) (sym (take_more es (length cs) e r.0))
    ∙ ap (λ (i : ℕ). map class_of_entry (take i es)) (sym n)
