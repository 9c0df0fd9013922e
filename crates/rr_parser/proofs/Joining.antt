-- What the code made of lists that are joined, and of the members of classes.
use Rattle.std.proofs.Common.{◌≡◌, ℕ, zero, suc, ◌<◌, ◌≤◌, List, ◌∷◌, ◌++◌, [], length, map, Some, None, Ok, sym, ap, ◌∙◌, subst, arith}
use Rattle.std.specs.Prelude.{All}
use Rattle.std.proofs.lemmas.List.{map-append}
use Rattle.std.proofs.lemmas.List.Elements.{All-append}
use Rattle.rr_base.specs.declared.name.Sym.{Sym}
use Rattle.rr_tree.specs.Tree.{Tree, tree_at}
use Rattle.rr_tree.proofs.Growth.{Extends-trans, length-kept, tree_at-kept}
use Rattle.rr_parser.specs.declared.word.Access.{Access}
use Rattle.rr_parser.specs.declared.parser.Parser.{Parser}
use Rattle.rr_parser.specs.declared.word.Part.TheVariants as parts
use Rattle.rr_parser.specs.declared.word.Word.{Word}
use Rattle.rr_parser.specs.declared.word.WordKind.TheVariants as kind
use Rattle.rr_parser.specs.Places.{Place, Look, word}
use Rattle.rr_parser.specs.Grammar.Chains.{one_of, all_of, and_all}
use Rattle.rr_parser.specs.Grammar.Classes.{access_word, symbol, attribute_methods}
use Rattle.rr_parser.specs.Reading.Answers.{◌>>=◌, Answer, Parse, built, chain_on, chain}
use Rattle.rr_parser.specs.Reading.Nesting.{Readers}
use Rattle.rr_parser.specs.Reading.Classes.{attribute_or, attribute_of, definition_or, class_member_or, class_member_of}
use Rattle.rr_parser.specs.Meets.{nodes, lists, Made, Puts, PutsList, place}
use Rattle.rr_parser.proofs.Looks.{Steps}
use Rattle.rr_parser.proofs.Chains.{Shrinks, chain_on-turn}
use Rattle.rr_parser.proofs.Making.{Goes, seen_at, unseen_at, same_place, stable_nodes, kept_list, grown_list}

single : (n i : ℕ) → i < n → All (λ j. j < n) (i ∷ [])
single n i h zero d lt = h
single n i h (suc k) d lt = let never : ⊥ = omega arith in absurd never

-- a list to which lists are joined
module _ (between : Look (Unit {0})) (p : Parse (List Tree)) (steps : Steps between) (shrinks : Shrinks p) where
  pub joined_begin : (old new : Parser) (es : List ℕ) (words rest : List Word) → Made (lists nodes) old new es rest (p (place old words))
      → Goes (lists nodes) old new es (chain between all_of and_all p (place old words)) (chain_on between and_all p (map (tree_at new.nodes.items) es) (place new rest))
  unfolding chain
  joined_begin old new es words rest m = record { there = m.there; kept = m.kept; same = ap (λ (q : Answer (List Tree)). q >>= λ r. chain_on between and_all p (all_of r.0) r.1) m.tree }

  pub joined_on : (old s0 s1 : Parser) (es fs gs : List ℕ) (rest after left : List Word) (x : Unit {0}) (read : Answer (List Tree))
      → Goes (lists nodes) old s0 es read (chain_on between and_all p (map (tree_at s0.nodes.items) es) (place s0 rest)) → between rest ≡ Some (x, after)
      → Made (lists nodes) s0 s1 fs left (p (place s0 after)) → gs ≡ es ++ fs
      → Goes (lists nodes) old s1 gs read (chain_on between and_all p (map (tree_at s1.nodes.items) gs) (place s1 left))
  joined_on old s0 s1 es fs gs rest after left x read g f m is = record {
    there = subst (λ (l : List ℕ). All (λ j. j < length s1.nodes.items) l) (sym is)
        (All-append (λ j. j < length s1.nodes.items) es fs
        (grown_list nodes stable_nodes (length s0.nodes.items) (length s1.nodes.items) es (length-kept s0.nodes.items s1.nodes.items m.kept) g.there)
        m.there);
    kept = Extends-trans old.nodes.items s0.nodes.items s1.nodes.items g.kept m.kept;
    same =
        g.same
        ∙ chain_on-turn between and_all p steps shrinks (map (tree_at s0.nodes.items) es) (place s0 rest) (place s0 after) x (seen_at s0 between rest after x f)
        ∙ ap (λ (q : Answer (List Tree)). q >>= λ r. chain_on between and_all p (map (tree_at s0.nodes.items) es ++ r.0) r.1) m.tree
        ∙ ap (λ (l : List Tree). chain_on between and_all p (l ++ map (tree_at s1.nodes.items) fs) (place s1 left)) (sym (kept_list nodes stable_nodes s0.nodes.items s1.nodes.items es m.kept g.there))
        ∙ ap (λ (l : List Tree). chain_on between and_all p l (place s1 left)) (sym (map-append (tree_at s1.nodes.items) es fs))
        ∙ ap (λ (l : List ℕ). chain_on between and_all p (map (tree_at s1.nodes.items) l) (place s1 left)) (sym is);
  }

-- ---- the methods of attributes

pub puts_method : (old new : Parser) (t : Tree) (id : ℕ) (ids : List ℕ) → Puts old new t id → ids ≡ id ∷ [] → PutsList old new (t ∷ []) ids
puts_method old new t id ids p is = record {
  there = subst (λ (l : List ℕ). All (λ j. j < length new.nodes.items) l) (sym is) (single (length new.nodes.items) id p.there);
  trees = ap (map (tree_at new.nodes.items)) is ∙ ap (λ (u : Tree). u ∷ []) p.tree;
  kept = p.kept;
  known = p.known;
}

pub puts_methods : (old mid new : Parser) (t u : Tree) (i j : ℕ) (ids : List ℕ) → Puts old mid t i → Puts mid new u j → ids ≡ i ∷ j ∷ [] → PutsList old new (t ∷ u ∷ []) ids
puts_methods old mid new t u i j ids p q is = record {
  there = subst (λ (l : List ℕ). All (λ j. j < length new.nodes.items) l) (sym is) (both p.there q.there (length-kept mid.nodes.items new.nodes.items q.kept));
  trees =
      ap (map (tree_at new.nodes.items)) is
      ∙ ap (λ (v : Tree). v ∷ tree_at new.nodes.items j ∷ []) (tree_at-kept mid.nodes.items new.nodes.items i q.kept p.there ∙ p.tree)
      ∙ ap (λ (v : Tree). t ∷ v ∷ []) q.tree;
  kept = Extends-trans old.nodes.items mid.nodes.items new.nodes.items p.kept q.kept;
  known = q.known ∙ p.known;
}
  where
    both : {m n : ℕ} → i < m → j < n → m ≤ n → All (λ k. k < n) (i ∷ j ∷ [])
    both a b c zero d lt = omega (arith, a, c)
    both a b c (suc zero) d lt = b
    both a b c (suc (suc k)) d lt = let never : ⊥ = omega arith in absurd never

pub made_attribute : (a : Access) (x : Sym) (old new : Parser) (ids : List ℕ) (words rest : List Word) → symbol words ≡ Some (x, rest) → PutsList old new (attribute_methods a x) ids → Made (lists nodes) old new ids rest (attribute_of a (place old words))
made_attribute a x old new ids words rest e p = record {
  there = p.there;
  tree =
      ap (attribute_or a) (seen_at old symbol words rest x e)
      ∙ ap (λ (l : List Tree). Ok (l, place old rest)) (sym p.trees)
      ∙ ap (λ (s : Place). Ok (map (tree_at new.nodes.items) ids, s)) (sym (same_place old new rest p.known));
  kept = p.kept;
}

-- the definition of a method
pub made_definition : (N : Readers) (old new : Parser) (id : ℕ) (ids : List ℕ) (words after rest : List Word) → access_word words ≡ None → word kind.Def words ≡ Some (tt, after) → Made nodes old new id rest (N.part parts.Definition (place old after)) → ids ≡ id ∷ []
    → Made (lists nodes) old new ids rest (class_member_of N (place old words))
unfolding class_member_of
made_definition N old new id ids words after rest none e m is = record {
  there = subst (λ (l : List ℕ). All (λ j. j < length new.nodes.items) l) (sym is) (single (length new.nodes.items) id m.there);
  tree =
      ap (class_member_or N (place old words)) (unseen_at old access_word words none)
      ∙ ap (definition_or N) (seen_at old (word kind.Def) words after tt e)
      ∙ ap (built one_of) m.tree
      ∙ ap (λ (l : List ℕ). Ok (map (tree_at new.nodes.items) l, place new rest)) (sym is);
  kept = m.kept;
}
