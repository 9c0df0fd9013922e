-- What the code made of the rows of a program.
use Rattle.std.proofs.lemmas.Bool.{false≢true}
use Rattle.std.proofs.lemmas.Bool.Decides.{eqb_tells}
use Rattle.std.proofs.Common.{◌≡◌, inl, inr, true, false, ◌==◌, ℕ, ◌<◌, ◌≤◌, List, [], ◌∷◌, ◌++◌, zero, suc, length, map, Some, Ok, refl, sym, ap, ◌∙◌, subst, arith}
use Rattle.std.specs.Prelude.{All}
use Rattle.std.proofs.lemmas.List.{map-append}
use Rattle.std.proofs.lemmas.List.Elements.{All-append}
use Rattle.rr_tree.specs.declared.node.Node.{Node}
use Rattle.rr_tree.specs.Tree.{Tree, sequence, listed, tree_at}
use Rattle.rr_tree.specs.Nodes.{Extends}
use Rattle.rr_tree.proofs.Growth.{Extends-trans, length-kept}
use Rattle.rr_parser.specs.declared.outline.Entry.{Entry as CodeEntry}
use Rattle.rr_parser.specs.declared.outline.Entry.TheVariants as code_entry
use Rattle.rr_parser.specs.declared.outline.Outline.{Outline as CodeOutline}
use Rattle.rr_parser.specs.declared.parser.Parser.{Parser}
use Rattle.rr_parser.specs.declared.word.Word.{Word}
use Rattle.rr_parser.specs.Places.{Place, start}
use Rattle.rr_parser.specs.Grammar.Programs.{Entry, Outline, with_entry, first_entry}
use Rattle.rr_parser.specs.Reading.Answers.{◌>>=◌, Answer, chain_on, chain}
use Rattle.rr_parser.specs.Reading.Nesting.{Readers}
use Rattle.rr_parser.specs.Reading.Sequences.{row}
use Rattle.rr_parser.specs.Reading.Programs.{entry_of, entries_of, outline_of}
use Rattle.rr_parser.specs.Reading.{readers, whole_of, program_of}
use Rattle.rr_parser.specs.Meets.{nodes, Made, Puts, entry_tree, entry_within, entries, outlines, Adds, place}
use Rattle.rr_parser.proofs.Looks.{Steps-row}
use Rattle.rr_parser.proofs.Chains.{Shrinks, chain_on-turn}
use Rattle.rr_parser.proofs.Making.{Goes, stable_nodes, kept_list, grown_list, seen_at}

-- what one row more makes
added_tree : (ns : List Node) (o q : CodeOutline) (e : CodeEntry) → Adds o q e → with_entry tt (outlines.tree ns o) (entry_tree ns e) ≡ outlines.tree ns q
added_tree ns o q (code_entry.Definition i) a =
    ap (λ (l : List Tree). (l, map (tree_at ns) o.statements.items)) (sym (map-append (tree_at ns) o.definitions.items (i ∷ [])))
    ∙ ap (λ (l : List ℕ). (map (tree_at ns) l, map (tree_at ns) o.statements.items)) (sym a.0)
    ∙ ap (λ (l : List ℕ). (map (tree_at ns) q.definitions.items, map (tree_at ns) l)) (sym a.1)
added_tree ns o q (code_entry.Statement i) a =
    ap (λ (l : List Tree). (map (tree_at ns) o.definitions.items, l)) (sym (map-append (tree_at ns) o.statements.items (i ∷ [])))
    ∙ ap (λ (l : List ℕ). (map (tree_at ns) o.definitions.items, map (tree_at ns) l)) (sym a.1)
    ∙ ap (λ (l : List ℕ). (map (tree_at ns) l, map (tree_at ns) q.statements.items)) (sym a.0)

single : (n i : ℕ) → i < n → All (λ j. j < n) (i ∷ [])
single n i h zero d lt = h
single n i h (suc k) d lt = let never : ⊥ = omega arith in absurd never

more_within : (n i : ℕ) (l m : List ℕ) → All (λ j. j < n) l → i < n → m ≡ l ++ i ∷ [] → All (λ j. j < n) m
more_within n i l m all h e = subst (λ (q : List ℕ). All (λ j. j < n) q) (sym e) (All-append (λ j. j < n) l (i ∷ []) all (single n i h))

same_within : (n : ℕ) (l m : List ℕ) → All (λ j. j < n) l → m ≡ l → All (λ j. j < n) m
same_within n l m all e = subst (λ (q : List ℕ). All (λ j. j < n) q) (sym e) all

added_within : (n : ℕ) (o q : CodeOutline) (e : CodeEntry) → outlines.within n o → entry_within n e → Adds o q e → outlines.within n q
added_within n o q (code_entry.Definition i) w h a = (more_within n i o.definitions.items q.definitions.items w.0 h a.0, same_within n o.statements.items q.statements.items w.1 a.1)
added_within n o q (code_entry.Statement i) w h a = (same_within n o.definitions.items q.definitions.items w.0 a.0, more_within n i o.statements.items q.statements.items w.1 h a.1)

none_within : (n : ℕ) (l : List ℕ) → l ≡ [] → All (λ j. j < n) l
none_within n l e = subst (λ (q : List ℕ). All (λ j. j < n) q) (sym e) (λ k d lt. let never : ⊥ = omega arith in absurd never)

none_tree : (ns : List Node) (o : CodeOutline) → o.definitions.items ≡ [] → o.statements.items ≡ [] → outlines.tree ns o ≡ ([], [])
none_tree ns o d e = ap (λ (l : List ℕ). (map (tree_at ns) l, map (tree_at ns) o.statements.items)) d ∙ ap (λ (l : List ℕ). ([], map (tree_at ns) l)) e

kept_outline : (a b : List Node) (o : CodeOutline) → Extends a b → outlines.within (length a) o → outlines.tree b o ≡ outlines.tree a o
kept_outline a b o x w =
    ap (λ (l : List Tree). (l, map (tree_at b) o.statements.items)) (kept_list nodes stable_nodes a b o.definitions.items x w.0)
    ∙ ap (λ (l : List Tree). (map (tree_at a) o.definitions.items, l)) (kept_list nodes stable_nodes a b o.statements.items x w.1)

grown_outline : (m n : ℕ) (o : CodeOutline) → m ≤ n → outlines.within m o → outlines.within n o
grown_outline m n o le w = (grown_list nodes stable_nodes m n o.definitions.items le w.0, grown_list nodes stable_nodes m n o.statements.items le w.1)

pub empty_outline : (p : Parser) (o : CodeOutline) → o.definitions.items ≡ [] → o.statements.items ≡ [] → outlines.within (length p.nodes.items) o × (outlines.tree p.nodes.items o ≡ ([], []))
empty_outline p o d e = ((none_within (length p.nodes.items) o.definitions.items d, none_within (length p.nodes.items) o.statements.items e), none_tree p.nodes.items o d e)

module _ (N : Readers) (shrinks : Shrinks (entry_of N)) where
  abbrev goes_on : Outline → Place → Answer Outline
  goes_on = chain_on row with_entry (entry_of N)

  pub outline_begins : (old new : Parser) (e : CodeEntry) (none o : CodeOutline) (words rest : List Word) → none.definitions.items ≡ [] → none.statements.items ≡ [] → Made entries old new e rest (entry_of N (place old words)) → Adds none o e
      → Goes outlines old new o (entries_of N (place old words)) (chain_on row with_entry (entry_of N) (outlines.tree new.nodes.items o) (place new rest))
  unfolding entries_of chain
  outline_begins old new e none o words rest d s m a = record {
    there = added_within (length new.nodes.items) none o e (none_within (length new.nodes.items) none.definitions.items d, none_within (length new.nodes.items) none.statements.items s) m.there a;
    kept = m.kept;
    same =
        ap (λ (q : Answer Entry). q >>= λ r. goes_on (first_entry r.0) r.1) m.tree
        ∙ ap (λ (l : Outline). goes_on (with_entry tt l (entry_tree new.nodes.items e)) (place new rest)) (sym (none_tree new.nodes.items none d s))
        ∙ ap (λ (l : Outline). goes_on l (place new rest)) (added_tree new.nodes.items none o e a);
  }

  pub outline_on : (old s0 s1 : Parser) (o q : CodeOutline) (e : CodeEntry) (rest after left : List Word) (read : Answer Outline)
      → Goes outlines old s0 o read (chain_on row with_entry (entry_of N) (outlines.tree s0.nodes.items o) (place s0 rest)) → row rest ≡ Some (tt, after)
      → Made entries s0 s1 e left (entry_of N (place s0 after)) → Adds o q e
      → Goes outlines old s1 q read (chain_on row with_entry (entry_of N) (outlines.tree s1.nodes.items q) (place s1 left))
  outline_on old s0 s1 o q e rest after left read g f m a = record {
    there = added_within (length s1.nodes.items) o q e (grown_outline (length s0.nodes.items) (length s1.nodes.items) o (length-kept s0.nodes.items s1.nodes.items m.kept) g.there) m.there a;
    kept = Extends-trans old.nodes.items s0.nodes.items s1.nodes.items g.kept m.kept;
    same =
        g.same
        ∙ chain_on-turn row with_entry (entry_of N) Steps-row shrinks (outlines.tree s0.nodes.items o) (place s0 rest) (place s0 after) tt (seen_at s0 row rest after tt f)
        ∙ ap (λ (q : Answer Entry). q >>= λ r. goes_on (with_entry tt (outlines.tree s0.nodes.items o) r.0) r.1) m.tree
        ∙ ap (λ (l : Outline). goes_on (with_entry tt l (entry_tree s1.nodes.items e)) (place s1 left)) (sym (kept_outline s0.nodes.items s1.nodes.items o m.kept g.there))
        ∙ ap (λ (l : Outline). goes_on l (place s1 left)) (added_tree s1.nodes.items o q e a);
  }

pub none_left : (ws : List Word) → true ≡ (length ws == 0) → ws ≡ []
none_left ws e = empty ws (is_zero (length ws) e)
  where
    is_zero : (n : ℕ) → true ≡ (n == 0) → n ≡ 0
    is_zero n f = elim (eqb_tells n 0) [ inl t ↦ t.1 | inr g ↦ absurd (false≢true (sym g.0 ∙ sym f)) ]

    empty : (l : List Word) → length l ≡ 0 → l ≡ []
    empty [] f = refl
    empty (w ∷ l) f = let never : ⊥ = omega (arith, f) in absurd never

-- the statements of a program were put behind its rows
pub made_program : (d : ℕ) (ws rest : List Word) (old mid new : Parser) (o : CodeOutline) (items : List ℕ) (root : ℕ) → items ≡ o.statements.items → place old ws ≡ start ws → Made outlines old mid o rest (outline_of (readers false d) (place old ws)) → rest ≡ []
    → Puts mid new (sequence (listed (map (tree_at mid.nodes.items) items))) root
    → program_of d ws ≡ Ok (map (tree_at new.nodes.items) o.definitions.items, tree_at new.nodes.items root)
unfolding program_of
made_program d ws rest old mid new o items root same is m none p =
    ap (λ (s : Place). outline_of (readers false d) s >>= λ r. whole_of r.0 r.1.rest) (sym is)
    ∙ ap (λ (q : Answer Outline). q >>= λ r. whole_of r.0 r.1.rest) m.tree
    ∙ ap (whole_of (outlines.tree mid.nodes.items o)) none
    ∙ ap (λ (l : List Tree). Ok (l, sequence (listed (map (tree_at mid.nodes.items) o.statements.items)))) (sym (kept_list nodes stable_nodes mid.nodes.items new.nodes.items o.definitions.items p.kept m.there.0))
    ∙ ap (λ (l : List ℕ). Ok (map (tree_at new.nodes.items) o.definitions.items, sequence (listed (map (tree_at mid.nodes.items) l)))) (sym same)
    ∙ ap (λ (t : Tree). Ok (map (tree_at new.nodes.items) o.definitions.items, t)) (sym p.tree)
