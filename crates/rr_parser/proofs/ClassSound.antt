-- What is read of the body of a class is spelled.
use Rattle.std.proofs.Common.{◌≡◌, List, [], Option, Some, None, Ok, Err, refl, sym, ap, ◌∙◌, subst}
use Rattle.rr_base.specs.declared.name.Sym.{Sym}
use Rattle.rr_base.specs.declared.name.ClassId.{ClassId}
use Rattle.rr_tree.specs.Tree.{Tree, class_body, listed}
use Rattle.rr_parser.specs.declared.word.Access.{Access}
use Rattle.rr_parser.specs.declared.word.Part.TheVariants as parts
use Rattle.rr_parser.specs.declared.word.WordKind.TheVariants as kind
use Rattle.rr_parser.specs.Places.{Place, word, at, separators}
use Rattle.rr_parser.specs.Grammar.Chains.{one_of, all_of, and_all}
use Rattle.rr_parser.specs.Grammar.Nesting.{Nested}
use Rattle.rr_parser.specs.Grammar.Classes.{access_word, row_of, member_row, ClassMember, a_definition, some_attributes, Methods, Inner, no_methods, some_methods, ClassBody, a_class_body}
use Rattle.rr_parser.specs.Reading.Answers.{Answer, ended_by}
use Rattle.rr_parser.specs.Reading.Nesting.{Readers}
use Rattle.rr_parser.specs.Reading.Classes.{definition_or, class_member_or, class_member_of, methods_of, inner_or, inner_of, ended, class_body_of}
use Rattle.rr_parser.proofs.Told.{told_def}
use Rattle.rr_parser.proofs.Looks.{word-next}
use Rattle.rr_parser.proofs.Chains.{built_ok, done, ok_place, ok_what, at_answer, chain_sound, IsSound}
use Rattle.rr_parser.proofs.Accesses.{row-separated, attributes_sound}
use Rattle.rr_parser.proofs.SoundOperands.{NestedSound}

ended_ok : {A : Type 0} (r : Answer A) (z : Place) (t : A) → ended r ≡ Ok (t, z) → (n : Place) × (u : Unit {0}) × (r ≡ Ok (t, n)) × (at (row_of kind.End) n ≡ Some (u, z))
ended_ok {A} (Ok x) z t e = by_row (at (row_of kind.End) x.1) refl e
  where
    by_row : (o : Option (Unit {0} × Place)) → at (row_of kind.End) x.1 ≡ o → ended_by x.0 o ≡ Ok (t, z) → (n : Place) × (u : Unit {0}) × (done x.0 x.1 ≡ Ok (t, n)) × (at (row_of kind.End) n ≡ Some (u, z))
    by_row None g h = absurd cc
    by_row (Some y) g h = (x.1, y.0, ap (λ (q : A). done q x.1) (ok_what x.0 t y.1 z h), g ∙ ap (λ (q : Place). Some (y.0, q)) (ok_place x.0 t y.1 z h))
ended_ok (Err d) z t e = absurd cc

module _ (N : Readers) (R : Nested) (nests : NestedSound N R) where
  definition_or-sound : (s : Place) (o : Option (Unit {0} × Place)) (z : Place) (l : List Tree) → at (word kind.Def) s ≡ o → definition_or N o ≡ Ok (l, z) → ClassMember R s l z
  definition_or-sound s None z l f e = absurd cc
  definition_or-sound s (Some m) z l f e =
      let b = built_ok one_of (N.part parts.Definition m.1) l z e in
      subst (λ (q : List Tree). ClassMember R s q z) (sym b.2) (a_definition (word-next kind.Def told_def s m.1 m.0 f) (nests.part parts.Definition m.1 z b.0 b.1))

  class_member_or-sound : (s : Place) (o : Option (Access × Place)) (z : Place) (l : List Tree) → at access_word s ≡ o → class_member_or N s o ≡ Ok (l, z) → ClassMember R s l z
  class_member_or-sound s None z l f e = definition_or-sound s (at (word kind.Def) s) z l refl e
  class_member_or-sound s (Some a) z l f e = some_attributes f (attributes_sound a.0 a.1 z l e)

  pub class_member_sound : IsSound (class_member_of N) (ClassMember R)
  unfolding class_member_of
  class_member_sound s z l e = class_member_or-sound s (at access_word s) z l refl e

  pub methods_sound : IsSound (methods_of N) (Methods R)
  unfolding methods_of
  methods_sound = chain_sound separators member_row all_of and_all (class_member_of N) (ClassMember R) (λ m n x e. row-separated m n x e) class_member_sound

  inner_or-sound : (s : Place) (o : Option (Unit {0} × Place)) (z : Place) (l : List Tree) → at member_row s ≡ o → inner_or N s o ≡ Ok (l, z) → Inner R s l z
  inner_or-sound s None z l f e = at_answer (Inner R s) [] l s z e no_methods
  inner_or-sound s (Some m) z l f e = some_methods (row-separated s m.1 m.0 f) (methods_sound m.1 z l e)

  pub class_body_sound : (x : Sym) (c : ClassId) → IsSound (class_body_of N x c) (ClassBody R x c)
  unfolding class_body_of
  class_body_sound x c s z t e =
      let b = built_ok (λ l. class_body x.0 c (listed l)) (ended (inner_of N s)) t z e in
      let f = ended_ok (inner_of N s) z b.0 b.1 in
      subst (λ (q : Tree). ClassBody R x c s q z) (sym b.2) (a_class_body (inner_or-sound s (at member_row s) f.0 b.0 refl f.2) f.3)
