-- Values that are the same.
use Rattle.std.proofs.Common.{◌≡◌, Bool, true, false, nat_eq, ◌&&◌, refl, sym, ap, eq-eqb}
use Rattle.std.specs.Cmp.Derive.{both_true}
use Rattle.std.proofs.lemmas.Bool.{eqb-true}
use Rattle.std.proofs.lemmas.Bool.Decides.{Decides-int_eq}
use Rattle.rr_space.specs.Graph.{Name, Own, Published, Immediate, Nil, Truth, Integer, SymbolNo, ClassNo, RactorNo, Value, Plain, At}
use Rattle.rr_text.specs.Forms.{same_name}
use Rattle.rr_text.specs.Same.{same_truth, same_immediate, same_value}

truths_are : (a b : Bool) → same_truth a b ≡ true → a ≡ b
truths_are true true e = refl
truths_are true false e = sym e
truths_are false true e = e
truths_are false false e = refl

truth_is : (a : Bool) → same_truth a a ≡ true
truth_is true = refl
truth_is false = refl

pub immediates_are : (i j : Immediate) → same_immediate i j ≡ true → i ≡ j
immediates_are Nil Nil e = refl
immediates_are (Truth a) (Truth b) e = ap Truth (truths_are a b e)
immediates_are (Integer x) (Integer y) e = ap Integer ((Decides-int_eq x y).0 e)
immediates_are (SymbolNo m) (SymbolNo n) e = ap SymbolNo (eqb-true m n e)
immediates_are (ClassNo m) (ClassNo n) e = ap ClassNo (eqb-true m n e)
immediates_are (RactorNo m) (RactorNo n) e = ap RactorNo (eqb-true m n e)
immediates_are _ _ e = let no : ⊥ = cc in absurd no

pub immediate_is : (i : Immediate) → same_immediate i i ≡ true
immediate_is Nil = refl
immediate_is (Truth a) = truth_is a
immediate_is (Integer x) = (Decides-int_eq x x).1 refl
immediate_is (SymbolNo m) = eq-eqb m m refl
immediate_is (ClassNo m) = eq-eqb m m refl
immediate_is (RactorNo m) = eq-eqb m m refl

both_numbers : (a b : Bool) (P : Type 0) → (a && b) ≡ true → (a ≡ true → b ≡ true → P) → P
both_numbers true b P e f = f refl e
both_numbers false b P e f = let no : ⊥ = cc in absurd no

names_are : (m n : Name) → same_name m n ≡ true → m ≡ n
names_are (Own m) (Own n) e = ap Own (eqb-true m n e)
names_are (Own m) (Published c p) e = let no : ⊥ = cc in absurd no
names_are (Published c p) (Own n) e = let no : ⊥ = cc in absurd no
names_are (Published c p) (Published d q) e = both_numbers (nat_eq c d) (nat_eq p q) (Published c p ≡ Published d q) e (λ f g. let same : c ≡ d = eqb-true c d f in let place : p ≡ q = eqb-true p q g in cc)

name_is : (m : Name) → same_name m m ≡ true
name_is (Own m) = eq-eqb m m refl
name_is (Published c p) = both_true (eq-eqb c c refl) (eq-eqb p p refl)

pub values_are : (v w : Value) → same_value v w ≡ true → v ≡ w
values_are (Plain i) (Plain j) e = ap Plain (immediates_are i j e)
values_are (Plain i) (At n) e = let no : ⊥ = cc in absurd no
values_are (At m) (Plain j) e = let no : ⊥ = cc in absurd no
values_are (At m) (At n) e = ap At (names_are m n e)

pub value_is : (v : Value) → same_value v v ≡ true
value_is (Plain i) = immediate_is i
value_is (At n) = name_is n
