-- Things of one kind behind one another.
use Rattle.std.specs.Prelude.{◌≡◌, List, [], ◌∷◌, ◌++◌, Some}
use Rattle.rr_tree.specs.Tree.{Tree}
use Rattle.rr_parser.specs.Places.{Place, Look, at}

-- One P, or a chain, what stands between and a P: it groups to the left.
pub data Chain {X R S : Type 0} (between : Look X) (first : R → S) (join : X → S → R → S) (P : Place → R → Place → Type 0) : Place → S → Place → Type 0 where
  one : {s z : Place} {t : R} → P s t z → Chain between first join P s (first t) z
  more : {s m n z : Place} {l : S} {r : R} {x : X} → Chain between first join P s l m → at between m ≡ Some (x, n) → P n r z → Chain between first join P s (join x l r) z

-- A P, or a trail and what is seen behind it, with what Q makes of both.
pub data Trail {X A : Type 0} (look : Look X) (P : Place → A → Place → Type 0) (Q : X → A → Place → A → Place → Type 0) : Place → A → Place → Type 0 where
  at_first : {s z : Place} {t : A} → P s t z → Trail look P Q s t z
  and_then : {s m n z : Place} {l t : A} {x : X} → Trail look P Q s l m → at look m ≡ Some (x, n) → Q x l n t z → Trail look P Q s t z

abbrev pub same : Tree → Tree
same t = t

abbrev pub one_of : {A : Type 0} → A → List A
one_of t = t ∷ []

abbrev pub and_one : {A : Type 0} → Unit {0} → List A → A → List A
and_one u l t = l ++ t ∷ []

abbrev pub all_of : {A : Type 0} → List A → List A
all_of l = l

abbrev pub and_all : {A : Type 0} → Unit {0} → List A → List A → List A
and_all u l r = l ++ r
