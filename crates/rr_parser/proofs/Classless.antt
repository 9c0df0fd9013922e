-- Where no class is among the words, they are taken as they are.
use Rattle.std.proofs.Common.{◌≡◌, ℕ, Bool, true, false, ◌||◌, if◌then◌else◌, List, [], ◌∷◌, ◌++◌, map, None, option_to_list, refl, sym, ap, ◌∙◌}
use Rattle.std.specs.Prelude.{nat_eq}
use Rattle.std.specs.List.{list_any}
use Rattle.rr_tree.specs.declared.class.Class.{Class}
use Rattle.rr_parser.specs.declared.word.Naming.TheVariants as namings
use Rattle.rr_parser.specs.declared.word.Word.{Word}
use Rattle.rr_parser.specs.declared.word.WordKind.{WordKind}
use Rattle.rr_parser.specs.declared.word.WordKind.TheVariants as kind
use Rattle.rr_parser.specs.ClassWords.{has_class}
use Rattle.rr_parser.specs.Opened.{Head, is_class, first_constant, classes_in, kind_by, word_by, with_classes, head_behind, heads_in, classes_by, opened_kind, opened_words, class_of_entry}

-- one word more, with the word `class` among those before it or not
found_behind : (k : WordKind) (ws more : Bool) (b : Bool) → more ≡ (ws || b) → (if is_class k then true else more) ≡ ((if is_class k then true else ws) || b)
found_behind (kind.Class o) ws more b e = refl
found_behind k ws more b e = by (is_class k)
  where
    by : (c : Bool) → (if c then true else more) ≡ ((if c then true else ws) || b)
    by true = refl
    by false = e

found_last : (b : Bool) → (if b then true else false) ≡ (false || b)
found_last true = refl
found_last false = refl

has_class-more : (ws : List Word) (w : Word) → has_class (ws ++ w ∷ []) ≡ (has_class ws || is_class w.kind)
has_class-more [] w = found_last (is_class w.kind)
has_class-more (v ∷ ws) w = found_behind v.kind (has_class ws) (has_class (ws ++ w ∷ [])) (is_class w.kind) (has_class-more ws w)

pub class_found : (ws more : List Word) (k : WordKind) (blank : Bool) (b c : Bool) → b ≡ has_class ws → c ≡ (b || is_class k) → more ≡ ws ++ record { kind = k; blank = blank } ∷ [] → c ≡ has_class more
class_found ws more k blank b c is step e =
    step ∙ ap (λ (x : Bool). x || is_class k) is ∙ sym (has_class-more ws (record { kind = k; blank = blank })) ∙ ap has_class (sym e)

no_class_first : (k : WordKind) (rest : Bool) → (if is_class k then true else rest) ≡ false → is_class k ≡ false
no_class_first (kind.Class o) rest h = absurd cc
no_class_first k rest h = refl

no_class_behind : (k : WordKind) (rest : Bool) → (if is_class k then true else rest) ≡ false → rest ≡ false
no_class_behind (kind.Class o) rest h = absurd cc
no_class_behind k rest h = h

no_head_behind : (k : WordKind) (ws : List Word) → is_class k ≡ false → head_behind k ws ≡ []
no_head_behind (kind.Class o) ws h = absurd cc
no_head_behind k ws h = refl

opened_kind_without : (names : List (List ℕ)) (hs : List Head) (k : WordKind) (ws : List Word) → is_class k ≡ false → opened_kind names hs k ws ≡ k
opened_kind_without names hs (kind.Class o) ws h = absurd cc
opened_kind_without names hs k ws h = refl

no_classes_in : (ws : List Word) → has_class ws ≡ false → classes_in ws ≡ []
no_classes_in [] h = refl
no_classes_in (w ∷ ws) h =
    ap (λ (b : Bool). option_to_list (if b then first_constant ws else None) ++ classes_in ws) (no_class_first w.kind (has_class ws) h)
    ∙ no_classes_in ws (no_class_behind w.kind (has_class ws) h)

pub no_heads_in : (ws : List Word) → has_class ws ≡ false → heads_in ws ≡ []
no_heads_in [] h = refl
no_heads_in (w ∷ ws) h =
    ap (λ (l : List Head). l ++ heads_in ws) (no_head_behind w.kind ws (no_class_first w.kind (has_class ws) h))
    ∙ no_heads_in ws (no_class_behind w.kind (has_class ws) h)

kind_without : (k : WordKind) → kind_by (λ x. false) k ≡ k
kind_without (kind.Constant x namings.Free) = refl
kind_without (kind.Constant x n) = refl
kind_without k = refl

words_without : (ws : List Word) → map (word_by (λ x. false)) ws ≡ ws
words_without [] = refl
words_without (w ∷ ws) =
    ap (λ (k : WordKind). record { kind = k; blank = w.blank } ∷ map (word_by (λ x. false)) ws) (kind_without w.kind)
    ∙ ap (λ (l : List Word). w ∷ l) (words_without ws)

-- where no class is among the words, no constant is the name of one
pub told_without : (ws : List Word) → has_class ws ≡ false → with_classes ws ≡ ws
told_without ws h = ap (λ (l : List ℕ). map (word_by (λ x. list_any (nat_eq x) l)) ws) (no_classes_in ws h) ∙ words_without ws

-- and no word is told a superclass
pub opened_without : (names : List (List ℕ)) (hs : List Head) (ws : List Word) → has_class ws ≡ false → opened_words names hs ws ≡ ws
opened_without names hs [] h = refl
opened_without names hs (w ∷ ws) h =
    ap (λ (k : WordKind). record { kind = k; blank = w.blank } ∷ opened_words names (hs ++ head_behind w.kind ws) ws) (opened_kind_without names hs w.kind ws (no_class_first w.kind (has_class ws) h))
    ∙ ap (λ (l : List Word). w ∷ l) (opened_without names (hs ++ head_behind w.kind ws) ws (no_class_behind w.kind (has_class ws) h))

pub words_as_they_are : (names : List (List ℕ)) (ws : List Word) → has_class ws ≡ false → ws ≡ opened_words names [] (with_classes ws)
words_as_they_are names ws h = sym (ap (opened_words names []) (told_without ws h) ∙ opened_without names [] ws h)

pub classes_are_none : (names : List (List ℕ)) (ws : List Word) (cs : List Class) → has_class ws ≡ false → cs ≡ [] → cs ≡ map class_of_entry (classes_by names (heads_in (with_classes ws)))
classes_are_none names ws cs h e = e ∙ sym (ap (λ (l : List Word). map class_of_entry (classes_by names (heads_in l))) (told_without ws h) ∙ ap (λ (hs : List Head). map class_of_entry (classes_by names hs)) (no_heads_in ws h))
