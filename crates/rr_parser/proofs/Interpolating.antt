-- What the code made of text literals with parts.
use Rattle.std.proofs.Common.{◌≡◌, ℕ, zero, suc, ◌<◌, List, [], ◌∷◌, ◌++◌, length, map, Some, None, Ok, Err, sym, ap, ◌∙◌, subst, arith, append_assoc}
use Rattle.std.specs.Prelude.{All}
use Rattle.std.proofs.lemmas.List.{map-append}
use Rattle.std.proofs.lemmas.List.Elements.{All-append}
use Rattle.rr_tree.specs.Tree.{Tree, text, interpolation, listed, tree_at}
use Rattle.rr_tree.specs.Nodes.{Extends}
use Rattle.rr_tree.proofs.Growth.{tree_at-kept, Extends-trans, length-kept}
use Rattle.rr_parser.specs.declared.refusal.Refusal.{Refusal}
use Rattle.rr_parser.specs.declared.parser.Parser.{Parser}
use Rattle.rr_parser.specs.declared.word.Word.{Word}
use Rattle.rr_parser.specs.Places.{Place, at}
use Rattle.rr_parser.specs.Grammar.Interpolations.{text_middle, text_tail, first_piece, and_piece}
use Rattle.rr_parser.specs.Reading.Answers.{◌>>=◌, wrong, Answer, Parse, chain, chain_on}
use Rattle.rr_parser.specs.Reading.Nesting.{Readers}
use Rattle.rr_parser.specs.Reading.Interpolations.{pieces_of, interpolated_or, interpolated_on, interpolation_of}
use Rattle.rr_parser.specs.Meets.{nodes, lists, Made, Fails, Puts, place}
use Rattle.rr_parser.proofs.Steps.{Steps-middle}
use Rattle.rr_parser.proofs.Chains.{Shrinks, chain_on-turn}
use Rattle.rr_parser.proofs.Making.{Goes, made_put, fails_bind, seen_at, unseen_at, stable_nodes, kept_list, grown_list, same_place}

-- ---- pieces, each with the statements behind it

both : (n i e : ℕ) → i < n → e < n → All (λ j. j < n) (i ∷ e ∷ [])
both n i e a b zero d lt = a
both n i e a b (suc zero) d lt = b
both n i e a b (suc (suc k)) d lt = let never : ⊥ = omega arith in absurd never

two_behind : (es gs fs : List ℕ) (i e : ℕ) → gs ≡ es ++ i ∷ [] → fs ≡ gs ++ e ∷ [] → fs ≡ es ++ i ∷ e ∷ []
two_behind es gs fs i e a b = b ∙ ap (λ (l : List ℕ). l ++ e ∷ []) a ∙ append_assoc es (i ∷ []) (e ∷ [])

module _ (p : Parse Tree) where
  abbrev on : List Tree → Place → Answer (List Tree)
  on l s = chain_on text_middle and_piece p l s

  pub pieces_begin : (old s1 new : Parser) (i e x : ℕ) (none gs es : List ℕ) (words rest : List Word) → Made nodes old s1 e rest (p (place old words)) → Puts s1 new (text x) i → none ≡ [] → gs ≡ none ++ i ∷ [] → es ≡ gs ++ e ∷ []
      → Goes (lists nodes) old new es (chain text_middle (first_piece x) and_piece p (place old words)) (chain_on text_middle and_piece p (map (tree_at new.nodes.items) es) (place new rest))
  unfolding chain
  pieces_begin old s1 new i e x none gs es words rest m t z a b =
      let is : es ≡ i ∷ e ∷ [] = two_behind [] gs es i e (a ∙ ap (λ (l : List ℕ). l ++ i ∷ []) z) b in
      record {
        there = subst (λ (l : List ℕ). All (λ j. j < length new.nodes.items) l) (sym is) (both (length new.nodes.items) i e t.there (omega (arith, m.there, length-kept s1.nodes.items new.nodes.items t.kept)));
        kept = Extends-trans old.nodes.items s1.nodes.items new.nodes.items m.kept t.kept;
        same =
            ap (λ (q : Answer Tree). q >>= λ r. on (first_piece x r.0) r.1) m.tree
            ∙ ap (λ (u : Tree). on (u ∷ tree_at s1.nodes.items e ∷ []) (place s1 rest)) (sym t.tree)
            ∙ ap (λ (u : Tree). on (tree_at new.nodes.items i ∷ u ∷ []) (place s1 rest)) (sym (tree_at-kept s1.nodes.items new.nodes.items e t.kept m.there))
            ∙ ap (λ (l : List ℕ). on (map (tree_at new.nodes.items) l) (place s1 rest)) (sym is)
            ∙ ap (λ (s : Place). on (map (tree_at new.nodes.items) es) s) (sym (same_place s1 new rest t.known));
      }

  pub pieces_on : Shrinks p → (old s0 s1 s2 : Parser) (es gs fs : List ℕ) (i e x : ℕ) (rest after left : List Word) (read : Answer (List Tree))
      → Goes (lists nodes) old s0 es read (chain_on text_middle and_piece p (map (tree_at s0.nodes.items) es) (place s0 rest)) → text_middle rest ≡ Some (x, after)
      → Made nodes s0 s1 e left (p (place s0 after)) → Puts s1 s2 (text x) i → gs ≡ es ++ i ∷ [] → fs ≡ gs ++ e ∷ []
      → Goes (lists nodes) old s2 fs read (chain_on text_middle and_piece p (map (tree_at s2.nodes.items) fs) (place s2 left))
  pieces_on shrinks old s0 s1 s2 es gs fs i e x rest after left read g f m t a b =
      let is : fs ≡ es ++ i ∷ e ∷ [] = two_behind es gs fs i e a b in
      let kept : Extends s0.nodes.items s2.nodes.items = Extends-trans s0.nodes.items s1.nodes.items s2.nodes.items m.kept t.kept in
      let n : ℕ = length s2.nodes.items in
      record {
        there = subst (λ (l : List ℕ). All (λ j. j < n) l) (sym is)
            (All-append (λ j. j < n) es (i ∷ e ∷ []) (grown_list nodes stable_nodes (length s0.nodes.items) n es (length-kept s0.nodes.items s2.nodes.items kept) g.there)
            (both n i e t.there (omega (arith, m.there, length-kept s1.nodes.items s2.nodes.items t.kept))));
        kept = Extends-trans old.nodes.items s0.nodes.items s2.nodes.items g.kept kept;
        same =
            g.same
            ∙ chain_on-turn text_middle and_piece p Steps-middle shrinks (map (tree_at s0.nodes.items) es) (place s0 rest) (place s0 after) x (seen_at s0 text_middle rest after x f)
            ∙ ap (λ (q : Answer Tree). q >>= λ r. on (map (tree_at s0.nodes.items) es ++ text x ∷ r.0 ∷ []) r.1) m.tree
            ∙ ap (λ (l : List Tree). on (l ++ text x ∷ tree_at s1.nodes.items e ∷ []) (place s1 left)) (sym (kept_list nodes stable_nodes s0.nodes.items s2.nodes.items es kept g.there))
            ∙ ap (λ (u : Tree). on (map (tree_at s2.nodes.items) es ++ u ∷ tree_at s1.nodes.items e ∷ []) (place s1 left)) (sym t.tree)
            ∙ ap (λ (u : Tree). on (map (tree_at s2.nodes.items) es ++ tree_at s2.nodes.items i ∷ u ∷ []) (place s1 left)) (sym (tree_at-kept s1.nodes.items s2.nodes.items e t.kept m.there))
            ∙ ap (λ (l : List Tree). on l (place s1 left)) (sym (map-append (tree_at s2.nodes.items) es (i ∷ e ∷ [])))
            ∙ ap (λ (l : List ℕ). on (map (tree_at s2.nodes.items) l) (place s1 left)) (sym is)
            ∙ ap (λ (s : Place). on (map (tree_at s2.nodes.items) fs) s) (sym (same_place s1 s2 left t.known));
      }

-- ---- the piece that ends a literal

module _ (N : Readers) (h : ℕ) (old m1 : Parser) (es : List ℕ) (words rest : List Word) (m : Made (lists nodes) old m1 es rest (pieces_of N h (place old words))) where
  reads_interpolation : interpolation_of N h (place old words) ≡ interpolated_or (map (tree_at m1.nodes.items) es) (at text_tail (place m1 rest))
  unfolding interpolation_of
  reads_interpolation = ap (λ (q : Answer (List Tree)). q >>= λ l. interpolated_on l.0 l.1) m.tree

  pub unended_interpolation : text_tail rest ≡ None → interpolation_of N h (place old words) ≡ Err wrong
  unended_interpolation e = reads_interpolation ∙ ap (interpolated_or (map (tree_at m1.nodes.items) es)) (unseen_at m1 text_tail rest e)

  module _ (x : ℕ) (after : List Word) (e : text_tail rest ≡ Some (x, after)) (m2 : Parser) (i : ℕ) (t : Puts m1 m2 (text x) i) (fs : List ℕ) (is : fs ≡ es ++ i ∷ []) where
    single : (n : ℕ) → i < n → All (λ j. j < n) (i ∷ [])
    single n lt zero d le = lt
    single n lt (suc k) d le = let never : ⊥ = omega arith in absurd never

    pub pieces_within : All (λ j. j < length m2.nodes.items) fs
    pieces_within =
        let n : ℕ = length m2.nodes.items in
        subst (λ (l : List ℕ). All (λ j. j < n) l) (sym is)
        (All-append (λ j. j < n) es (i ∷ []) (grown_list nodes stable_nodes (length m1.nodes.items) n es (length-kept m1.nodes.items m2.nodes.items t.kept) m.there) (single n t.there))

    pub made_interpolation : (new : Parser) (id : ℕ) → Puts m2 new (interpolation (listed (map (tree_at m2.nodes.items) fs))) id → Made nodes old new id after (interpolation_of N h (place old words))
    made_interpolation new id p =
        made_put old m2 new id after (interpolation (listed (map (tree_at m2.nodes.items) fs))) (interpolation_of N h (place old words))
        (reads_interpolation
        ∙ ap (interpolated_or (map (tree_at m1.nodes.items) es)) (seen_at m1 text_tail rest after x e)
        ∙ ap (λ (l : List Tree). Ok (interpolation (listed (l ++ text x ∷ [])), place m1 after)) (sym (kept_list nodes stable_nodes m1.nodes.items m2.nodes.items es t.kept m.there))
        ∙ ap (λ (u : Tree). Ok (interpolation (listed (map (tree_at m2.nodes.items) es ++ u ∷ [])), place m1 after)) (sym t.tree)
        ∙ ap (λ (l : List Tree). Ok (interpolation (listed l), place m1 after)) (sym (map-append (tree_at m2.nodes.items) es (i ∷ [])))
        ∙ ap (λ (l : List ℕ). Ok (interpolation (listed (map (tree_at m2.nodes.items) l)), place m1 after)) (sym is)
        ∙ ap (λ (s : Place). Ok (interpolation (listed (map (tree_at m2.nodes.items) fs)), s)) (sym (same_place m1 m2 after t.known)))
        (Extends-trans old.nodes.items m1.nodes.items m2.nodes.items m.kept t.kept) p

pub fails_pieces : (N : Readers) (h : ℕ) (s : Place) (d : Refusal) → Fails d (pieces_of N h s) → Fails d (interpolation_of N h s)
unfolding interpolation_of
fails_pieces N h s d e = fails_bind d (pieces_of N h s) (λ l. interpolated_on l.0 l.1) e
