-- What the code made of the body of a class.
use Rattle.std.proofs.Common.{◌≡◌, ℕ, List, map, Some, None, Ok, Err, sym, ap, ◌∙◌}
use Rattle.rr_base.specs.declared.name.Sym.{Sym}
use Rattle.rr_base.specs.declared.name.ClassId.{ClassId}
use Rattle.rr_tree.specs.Tree.{Tree, class_body, listed, tree_at}
use Rattle.rr_parser.specs.declared.refusal.Refusal.{Refusal}
use Rattle.rr_parser.specs.declared.parser.Parser.{Parser}
use Rattle.rr_parser.specs.declared.word.Word.{Word}
use Rattle.rr_parser.specs.declared.word.WordKind.TheVariants as kind
use Rattle.rr_parser.specs.Places.{at}
use Rattle.rr_parser.specs.Grammar.Classes.{row_of}
use Rattle.rr_parser.specs.Reading.Answers.{wrong, Answer, built, ended_by}
use Rattle.rr_parser.specs.Reading.Nesting.{Readers}
use Rattle.rr_parser.specs.Reading.Classes.{inner_of, ended, class_body_of}
use Rattle.rr_parser.specs.Meets.{nodes, lists, Made, Fails, Puts, place}
use Rattle.rr_parser.proofs.Making.{made_put, fails_bind, seen_at, unseen_at}

module _ (N : Readers) (x : Sym) (c : ClassId) (old : Parser) (words : List Word) where
  abbrev class_with : List Tree → Tree
  class_with l = class_body x.0 c (listed l)

  pub fails_class : (d : Refusal) → Fails d (inner_of N (place old words)) → Fails d (class_body_of N x c (place old words))
  unfolding class_body_of
  fails_class d h = fails_bind d (ended (inner_of N (place old words))) (λ l. Ok (class_with l.0, l.1)) (fails_bind d (inner_of N (place old words)) (λ l. ended_by l.0 (at (row_of kind.End) l.1)) h)

  module _ (m1 : Parser) (es : List ℕ) (rest : List Word) (m : Made (lists nodes) old m1 es rest (inner_of N (place old words))) where
    reads_class : class_body_of N x c (place old words) ≡ built class_with (ended_by (map (tree_at m1.nodes.items) es) (at (row_of kind.End) (place m1 rest)))
    unfolding class_body_of
    reads_class = ap (λ (q : Answer (List Tree)). built class_with (ended q)) m.tree

    pub wrong_class : row_of kind.End rest ≡ None → class_body_of N x c (place old words) ≡ Err wrong
    wrong_class e = reads_class ∙ ap (λ o. built class_with (ended_by (map (tree_at m1.nodes.items) es) o)) (unseen_at m1 (row_of kind.End) rest e)

    pub made_class : (new : Parser) (fs : List ℕ) (id : ℕ) (after : List Word) → fs ≡ es → row_of kind.End rest ≡ Some (tt, after) → Puts m1 new (class_with (map (tree_at m1.nodes.items) fs)) id
        → Made nodes old new id after (class_body_of N x c (place old words))
    made_class new fs id after same e p =
        made_put old m1 new id after (class_with (map (tree_at m1.nodes.items) fs)) (class_body_of N x c (place old words))
        (reads_class
        ∙ ap (λ o. built class_with (ended_by (map (tree_at m1.nodes.items) es) o)) (seen_at m1 (row_of kind.End) rest after tt e)
        ∙ ap (λ (l : List ℕ). Ok (class_with (map (tree_at m1.nodes.items) l), place m1 after)) (sym same))
        m.kept p
