-- Reading the body of a class is too deep only where a definition in it is.
use Rattle.std.proofs.Common.{◌≡◌, Option, Some, None, Ok, Err, refl}
use Rattle.rr_base.specs.declared.name.Sym.{Sym}
use Rattle.rr_base.specs.declared.name.ClassId.{ClassId}
use Rattle.rr_tree.specs.Tree.{class_body, listed}
use Rattle.rr_parser.specs.declared.word.Access.{Access}
use Rattle.rr_parser.specs.declared.word.Part.TheVariants as parts
use Rattle.rr_parser.specs.declared.word.WordKind.TheVariants as kind
use Rattle.rr_parser.specs.Places.{Place, word, at, separators}
use Rattle.rr_parser.specs.Grammar.Chains.{one_of, all_of, and_all}
use Rattle.rr_parser.specs.Grammar.Calls.{comma}
use Rattle.rr_parser.specs.Grammar.Nesting.{Nested}
use Rattle.rr_parser.specs.Grammar.Classes.{access_word, symbol, Attribute, Attributes, row_of, member_row, ClassMember, Methods}
use Rattle.rr_parser.specs.Reading.Answers.{wrong, deep, Answer}
use Rattle.rr_parser.specs.Reading.Nesting.{Readers}
use Rattle.rr_parser.specs.Reading.Classes.{attribute_or, attribute_of, attributes_of, definition_or, class_member_or, class_member_of, methods_of, inner_or, inner_of, ended, class_body_of}
use Rattle.rr_parser.specs.Fronts.{Fronts, ChainFront, in_one, in_more, MethodFront, in_method_definition, ClassFront, in_methods}
use Rattle.rr_parser.proofs.Told.{told_def}
use Rattle.rr_parser.proofs.Looks.{word-next}
use Rattle.rr_parser.proofs.Accesses.{row-separated, attribute_sound}
use Rattle.rr_parser.proofs.ClassSound.{class_member_sound}
use Rattle.rr_parser.proofs.SoundOperands.{NestedSound}
use Rattle.rr_parser.proofs.DeepOperands.{IsDeep, NestedDeep, built_deep, ended_not_deep, chain_deep}

ended_deep : {A : Type 0} (r : Answer A) → ended r ≡ Err deep → r ≡ Err deep
ended_deep (Ok x) e = absurd (ended_not_deep x.0 (at (row_of kind.End) x.1) e)
ended_deep (Err wrong) e = absurd cc
ended_deep (Err deep) e = refl

-- in attributes nothing nests
abbrev Nowhere : Place → Place → Type 0
Nowhere s z = ⊥

module _ (a : Access) where
  attribute_deep : IsDeep (attribute_of a) Nowhere
  attribute_deep s e = by_symbol (at symbol s) e
    where
      by_symbol : (o : Option (Sym × Place)) → attribute_or a o ≡ Err deep → (z : Place) × Nowhere s z
      by_symbol None f = absurd cc
      by_symbol (Some x) f = absurd cc

  no_front : (s z : Place) → ChainFront comma (Attributes a) Nowhere s z → ⊥
  no_front s z (in_one h) = h
  no_front s z (in_more c e h) = h

  attributes_not_deep : (s : Place) → attributes_of a s ≡ Err deep → ⊥
  unfolding attributes_of
  attributes_not_deep s e = let d = chain_deep comma comma all_of and_all (attribute_of a) (Attribute a) Nowhere (λ m n x e. e) (attribute_sound a) attribute_deep s e in no_front s d.0 d.1

module _ (N : Readers) (R : Nested) (F : Fronts) (sounds : NestedSound N R) (nests : NestedDeep N F) where
  definition_or-deep : (s : Place) (o : Option (Unit {0} × Place)) → at (word kind.Def) s ≡ o → definition_or N o ≡ Err deep → (z : Place) × MethodFront F s z
  definition_or-deep s None f e = absurd cc
  definition_or-deep s (Some m) f e = let d = nests.part parts.Definition m.1 (built_deep one_of (N.part parts.Definition m.1) e) in (d.0, in_method_definition (word-next kind.Def told_def s m.1 m.0 f) d.1)

  class_member_or-deep : (s : Place) (o : Option (Access × Place)) → class_member_or N s o ≡ Err deep → (z : Place) × MethodFront F s z
  class_member_or-deep s None e = definition_or-deep s (at (word kind.Def) s) refl e
  class_member_or-deep s (Some a) e = absurd (attributes_not_deep a.0 a.1 e)

  class_member_deep : IsDeep (class_member_of N) (MethodFront F)
  unfolding class_member_of
  class_member_deep s e = class_member_or-deep s (at access_word s) e

  methods_deep : (s : Place) → methods_of N s ≡ Err deep → (z : Place) × ChainFront separators (Methods R) (MethodFront F) s z
  unfolding methods_of
  methods_deep =
      chain_deep separators member_row all_of and_all (class_member_of N) (ClassMember R) (MethodFront F) (λ m n x e. row-separated m n x e) (class_member_sound N R sounds) class_member_deep

  inner_or-deep : (s : Place) (o : Option (Unit {0} × Place)) → at member_row s ≡ o → inner_or N s o ≡ Err deep → (z : Place) × ClassFront R F s z
  inner_or-deep s None f e = absurd cc
  inner_or-deep s (Some m) f e = let d = methods_deep m.1 e in (d.0, in_methods (row-separated s m.1 m.0 f) d.1)

  pub class_body_deep : (x : Sym) (c : ClassId) → IsDeep (class_body_of N x c) (ClassFront R F)
  unfolding class_body_of
  class_body_deep x c s e = inner_or-deep s (at member_row s) refl (ended_deep (inner_of N s) (built_deep (λ l. class_body x.0 c (listed l)) (ended (inner_of N s)) e))
