-- What is spelled of the body of a class is read, unless it nests too deep.
use Rattle.std.proofs.Common.{◌≡◌, inl, List, Some, None, Ok, refl, ap, ◌∙◌}
use Rattle.rr_base.specs.declared.name.Sym.{Sym}
use Rattle.rr_base.specs.declared.name.ClassId.{ClassId}
use Rattle.rr_tree.specs.Tree.{Tree, class_body, listed}
use Rattle.rr_parser.specs.declared.word.Access.{Access}
use Rattle.rr_parser.specs.declared.word.Part.TheVariants as parts
use Rattle.rr_parser.specs.declared.word.WordKind.TheVariants as kind
use Rattle.rr_parser.specs.Places.{Place, at, separators}
use Rattle.rr_parser.specs.Grammar.Chains.{one, more, one_of, all_of, and_all}
use Rattle.rr_parser.specs.Grammar.Calls.{comma}
use Rattle.rr_parser.specs.Grammar.Nesting.{Nested}
use Rattle.rr_parser.specs.Grammar.Classes.{access_of_kind, access_word, Attribute, an_attribute, Attributes, row_of, member_row, ClassMember, a_definition, some_attributes, Methods, Inner, no_methods, some_methods, ClassBody, a_class_body}
use Rattle.rr_parser.specs.Reading.Answers.{built, ended_by}
use Rattle.rr_parser.specs.Reading.Nesting.{Readers}
use Rattle.rr_parser.specs.Reading.Classes.{attribute_or, attribute_of, attributes_of, definition_or, class_member_or, class_member_of, methods_of, inner_or, inner_of, ended, class_body_of}
use Rattle.rr_parser.proofs.Looks.{other-word, unseen_kind}
use Rattle.rr_parser.proofs.Steps.{Steps-comma}
use Rattle.rr_parser.proofs.Accesses.{access-no_end, Steps-member_row, separated-row, ended-no_row, separated-no_comma, ended-no_comma, attribute_shrinks}
use Rattle.rr_parser.proofs.Chains.{Shrinks}
use Rattle.rr_parser.proofs.Leading.{Leads, leads_bind, leads_trans, leads_eq, leads_built, IsFull, chain_full}
use Rattle.rr_parser.proofs.FullOperands.{Anywhere, NestedFull, word_here}

module _ (D : Type 0) where
  attribute_full : (a : Access) → IsFull (attribute_of a) (Attribute a) Anywhere D
  attribute_full a s z l (an_attribute e) u = inl (ap (attribute_or a) e)

  attributes_full : (a : Access) (s z : Place) (l : List Tree) → Attributes a s l z → at comma z ≡ None → Leads (attributes_of a s) (Ok (l, z)) D
  unfolding attributes_of
  attributes_full a s z l c e =
      chain_full comma comma all_of and_all (attribute_of a) (Attribute a) Anywhere D Steps-comma (attribute_shrinks a) (λ m n x e. tt) (λ m n z x r e h. e) (attribute_full a) s z l c tt e

-- where no comma goes on
abbrev Past : Place → Type 0
Past z = at comma z ≡ None

module _ (N : Readers) (R : Nested) (D : Type 0) (shrinks : Shrinks (class_member_of N)) (nests : NestedFull N R D) where
  class_member_full : IsFull (class_member_of N) (ClassMember R) Past D
  unfolding class_member_of
  class_member_full s z l (a_definition {m = m} {t = t} e h) past =
      leads_eq (class_member_or N s (at access_word s)) (built one_of (N.part parts.Definition m)) (Ok (l, z))
      (ap (class_member_or N s) (unseen_kind access_of_kind kind.Def s m e refl) ∙ ap (definition_or N) (word_here kind.Def s m e refl))
      (leads_built one_of (N.part parts.Definition m) (Ok (t, z)) (nests.part parts.Definition m z t h tt))
  class_member_full s z l (some_attributes {m = m} {a = a} e c) past = leads_eq (class_member_or N s (at access_word s)) (attributes_of a m) (Ok (l, z)) (ap (class_member_or N s) e) (attributes_full D a m z l c past)

  -- behind the separators before a member no `end` stands
  member_begins : (s m z : Place) (u : Unit {0}) (l : List Tree) → at separators s ≡ Some (u, m) → ClassMember R m l z → at member_row s ≡ Some (u, m)
  member_begins s m z u l e (a_definition {m = n} f h) = separated-row s m u e (other-word kind.End kind.Def m n f refl)
  member_begins s m z u l e (some_attributes {m = n} {a = a} f c) = separated-row s m u e (access-no_end m n a f)

  methods_begin : (s m z : Place) (u : Unit {0}) (l : List Tree) → at separators s ≡ Some (u, m) → Methods R m l z → at member_row s ≡ Some (u, m)
  methods_begin s m z u l e (one {t = t} h) = member_begins s m z u t e h
  methods_begin s m z u l e (more {m = n} {l = k} c f h) = methods_begin s m n u k e c

  methods_full : (s z : Place) (l : List Tree) → Methods R s l z → Past z → at member_row z ≡ None → Leads (methods_of N s) (Ok (l, z)) D
  unfolding methods_of
  methods_full s z l c past e =
      chain_full separators member_row all_of and_all (class_member_of N) (ClassMember R) Past D Steps-member_row shrinks (λ m n x e. separated-no_comma m n x e) (λ m n z x r e h. member_begins m n z x r e h)
      class_member_full s z l c past e

  inner_full : (s z : Place) (l : List Tree) → Inner R s l z → Past z → at member_row z ≡ None → Leads (inner_of N s) (Ok (l, z)) D
  inner_full s z l no_methods past e = inl (ap (inner_or N s) e)
  inner_full s z l (some_methods {m = m} {u = u} f c) past e =
      leads_eq (inner_of N s) (methods_of N m) (Ok (l, z)) (ap (inner_or N s) (methods_begin s m z u l f c)) (methods_full m z l c past e)

  pub class_body_full : (x : Sym) (c : ClassId) → IsFull (class_body_of N x c) (ClassBody R x c) Anywhere D
  unfolding class_body_of
  class_body_full x c s z t (a_class_body {m = m} {u = u} {l = l} h e) a =
      leads_built (λ l. class_body x.0 c (listed l)) (ended (inner_of N s)) (Ok (l, z))
      (leads_trans (ended (inner_of N s)) (ended_by l (at (row_of kind.End) m)) (Ok (l, z))
      (leads_bind (inner_of N s) (l, m) (λ q. ended_by q.0 (at (row_of kind.End) q.1)) (inner_full s m l h (ended-no_comma m z u e) (ended-no_row m z u e)))
      (inl (ap (ended_by l) e)))
