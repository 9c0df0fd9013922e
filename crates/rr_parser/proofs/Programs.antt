-- Programs: what is read is spelled, and what is spelled is read, unless it nests too deep.
use Rattle.std.proofs.Common.{◌≡◌, ℕ, ◌<◌, inl, inr, Bool, true, false, cond, List, [], ◌∷◌, Option, Some, None, Ok, Err, refl, sym, ap, ◌∙◌, subst, arith}
use Rattle.rr_base.specs.declared.name.ClassId.{ClassId}
use Rattle.rr_base.specs.declared.name.Sym.{Sym}
use Rattle.rr_tree.specs.declared.node.Path.{Path}
use Rattle.rr_parser.specs.declared.word.Opening.{Opening}
use Rattle.rr_parser.specs.declared.word.Opening.TheVariants as openings
use Rattle.rr_parser.specs.declared.word.Part.{Part}
use Rattle.rr_parser.specs.declared.word.Part.TheVariants as parts
use Rattle.rr_parser.specs.declared.word.WordKind.TheVariants as kind
use Rattle.rr_parser.specs.declared.word.Word.{Word}
use Rattle.rr_parser.specs.Places.{Place, word, at, skip, separators, start, next}
use Rattle.rr_parser.specs.Grammar.Nesting.{Nested}
use Rattle.rr_parser.specs.Grammar.Classes.{class_word, class_head}
use Rattle.rr_parser.specs.Grammar.Programs.{Entry, defines, does, Row, a_definition, a_class, a_statement, Outline, with_entry, first_entry, Entries, Main, main_of, Program, no_rows, some_rows}
use Rattle.rr_parser.specs.Grammar.{outside, WordsSpell}
use Rattle.rr_parser.specs.Reading.Answers.{◌>>=◌, wrong, deep, Answer, built}
use Rattle.rr_parser.specs.Reading.Nesting.{Readers}
use Rattle.rr_parser.specs.Reading.Sequences.{statement_of, ends, row}
use Rattle.rr_parser.specs.Reading.Programs.{class_on, class_under, class_or, entry_or, entry_of, entries_of, outlined, outline_at, outline_of}
use Rattle.rr_parser.specs.Reading.{readers_outside, readers, whole_of, program_of}
use Rattle.rr_parser.specs.Fronts.{Fronts, fronts_outside, RowFront, in_definition, in_class, in_statement, ProgramFront}
use Rattle.rr_parser.proofs.Told.{told_def}
use Rattle.rr_parser.proofs.Looks.{word-next, other-word, class-next, next-class, next-left, row-separators, separators-row, Steps-row}
use Rattle.rr_parser.proofs.Steps.{Steps-class_head}
use Rattle.rr_parser.proofs.Chains.{Shrinks, IsSound, IsShrinking, shrinks_by, bind_ok, built_ok, done, ok_place, ok_what, at_answer, chain_sound}
use Rattle.rr_parser.proofs.SoundOperands.{NestedSound}
use Rattle.rr_parser.proofs.Sound.{statement_sound, sound_outside, nested, sound_nested}
use Rattle.rr_parser.proofs.Shrinking.{NestedShrinking, statement_shrinking, shrinking_nested, ReadersShrink, shrinks_nested}
use Rattle.rr_parser.proofs.Leading.{Leads, leads_bind, leads_trans, leads_eq, IsFull, chain_full}
use Rattle.rr_parser.proofs.Strengths.{Stops, separators_stop, ends_behind}
use Rattle.rr_parser.proofs.Firsts.{next_ends, chain_first, statement_starts, statement_no_def, statement_no_class}
use Rattle.rr_parser.proofs.FullOperands.{Ends, NestedFull, word_here}
use Rattle.rr_parser.proofs.Full.{statement_full, full_outside}
use Rattle.rr_parser.proofs.DeepOperands.{IsDeep, bind_deep, built_deep, NestedDeep, chain_deep}
use Rattle.rr_parser.proofs.Deep.{statement_deep, deep_outside}

outlined_ok : (r : Answer Outline) (z : Place) (t : Outline) → outlined r ≡ Ok (t, z) → (m : Place) × (r ≡ Ok (t, m)) × (skip m ≡ z)
outlined_ok (Ok x) z t e = (x.1, ap (λ (q : Outline). done q x.1) (ok_what x.0 t (skip x.1) z e), ok_place x.0 t (skip x.1) z e)
outlined_ok (Err d) z t e = absurd cc

module _ (N : Readers) (R : Nested) (sounds : NestedSound N R) where
  class_on-sound : (s m : Place) (c : ClassId) (o : Option ((Sym × Option Path) × Place)) (z : Place) (t : Entry) → next s ≡ Some (kind.Class (openings.Below c), m) → at class_head m ≡ o → class_on N c o ≡ Ok (t, z) → Row R s t z
  class_on-sound s m c None z t h f e = absurd cc
  class_on-sound s m c (Some n) z t h f e =
      let p : Part = parts.Class n.0.0 c in
      let b = built_ok defines (N.part p n.1) t z e in
      subst (λ (q : Entry). Row R s q z) (sym b.2) (a_class h f (sounds.part p n.1 z b.0 b.1))

  class_under-sound : (s m : Place) (o : Opening) (z : Place) (t : Entry) → next s ≡ Some (kind.Class o, m) → class_under N o m ≡ Ok (t, z) → Row R s t z
  class_under-sound s m (openings.Below c) z t h e = class_on-sound s m c (at class_head m) z t h refl e
  class_under-sound s m openings.Unknown z t h e = absurd cc
  class_under-sound s m openings.Closed z t h e = absurd cc

  class_or-sound : (s : Place) (o : Option (Opening × Place)) (z : Place) (t : Entry) → at class_word s ≡ o → class_or N s o ≡ Ok (t, z) → Row R s t z
  class_or-sound s None z t f e =
      let b = built_ok does (statement_of N s) t z e in
      subst (λ (q : Entry). Row R s q z) (sym b.2) (a_statement (statement_sound N R sounds s z b.0 b.1))
  class_or-sound s (Some m) z t f e = class_under-sound s m.1 m.0 z t (class-next s m.1 m.0 f) e

  entry_or-sound : (s : Place) (o : Option (Unit {0} × Place)) (z : Place) (t : Entry) → at (word kind.Def) s ≡ o → entry_or N s o ≡ Ok (t, z) → Row R s t z
  entry_or-sound s None z t f e = class_or-sound s (at class_word s) z t refl e
  entry_or-sound s (Some m) z t f e =
      let b = built_ok defines (N.part parts.Definition m.1) t z e in
      subst (λ (q : Entry). Row R s q z) (sym b.2) (a_definition (word-next kind.Def told_def s m.1 m.0 f) (sounds.part parts.Definition m.1 z b.0 b.1))

  pub entry_sound : IsSound (entry_of N) (Row R)
  unfolding entry_of
  entry_sound s z t e = entry_or-sound s (at (word kind.Def) s) z t refl e

  entries_sound : IsSound (entries_of N) (Entries R)
  unfolding entries_of
  entries_sound = chain_sound separators row first_entry with_entry (entry_of N) (Row R) (λ m n x f. (row-separators m n x f).0) entry_sound

  outline_test : (b : Bool) (s z : Place) (t : Outline) → cond b (done ([], []) (skip s)) (outlined (entries_of N (skip s))) ≡ Ok (t, z) → Program R s t z
  outline_test true s z t e = at_answer (Program R s) ([], []) t (skip s) z e no_rows
  outline_test false s z t e =
      let k = outlined_ok (entries_of N (skip s)) z t e in
      subst (λ (q : Place). Program R s t q) k.2 (some_rows (entries_sound (skip s) k.0 t k.1))

  outline_sound : IsSound (outline_of N) (Program R)
  unfolding outline_of
  outline_sound s z t e = outline_test (ends (skip s).rest) s z t e

  module _ (F : Fronts) (deeps : NestedDeep N F) where
    class_on-deep : (s m : Place) (c : ClassId) (o : Option ((Sym × Option Path) × Place)) → next s ≡ Some (kind.Class (openings.Below c), m) → at class_head m ≡ o → class_on N c o ≡ Err deep → (z : Place) × RowFront R F s z
    class_on-deep s m c None h f e = absurd cc
    class_on-deep s m c (Some n) h f e =
        let p : Part = parts.Class n.0.0 c in
        let d = deeps.part p n.1 (built_deep defines (N.part p n.1) e) in
        (d.0, in_class h f d.1)

    class_under-deep : (s m : Place) (o : Opening) → next s ≡ Some (kind.Class o, m) → class_under N o m ≡ Err deep → (z : Place) × RowFront R F s z
    class_under-deep s m (openings.Below c) h e = class_on-deep s m c (at class_head m) h refl e
    class_under-deep s m openings.Unknown h e = absurd cc
    class_under-deep s m openings.Closed h e = absurd cc

    class_or-deep : (s : Place) (o : Option (Opening × Place)) → at class_word s ≡ o → class_or N s o ≡ Err deep → (z : Place) × RowFront R F s z
    class_or-deep s None f e = let d = statement_deep N R F sounds deeps s (built_deep does (statement_of N s) e) in (d.0, in_statement d.1)
    class_or-deep s (Some m) f e = class_under-deep s m.1 m.0 (class-next s m.1 m.0 f) e

    entry_or-deep : (s : Place) (o : Option (Unit {0} × Place)) → at (word kind.Def) s ≡ o → entry_or N s o ≡ Err deep → (z : Place) × RowFront R F s z
    entry_or-deep s None f e = class_or-deep s (at class_word s) refl e
    entry_or-deep s (Some m) f e =
        let d = deeps.part parts.Definition m.1 (built_deep defines (N.part parts.Definition m.1) e) in
        (d.0, in_definition (word-next kind.Def told_def s m.1 m.0 f) d.1)

    entry_deep : IsDeep (entry_of N) (RowFront R F)
    unfolding entry_of
    entry_deep s e = entry_or-deep s (at (word kind.Def) s) refl e

    outlined_deep : (r : Answer Outline) → outlined r ≡ Err deep → r ≡ Err deep
    outlined_deep (Ok x) e = absurd cc
    outlined_deep (Err wrong) e = absurd cc
    outlined_deep (Err deep) e = refl

    entries_deep : (s : Place) → entries_of N (skip s) ≡ Err deep → (z : Place) × ProgramFront R F s z
    unfolding entries_of
    entries_deep s e = chain_deep separators row first_entry with_entry (entry_of N) (Row R) (RowFront R F) (λ m n x f. (row-separators m n x f).0) entry_sound entry_deep (skip s) e

    outline_test-deep : (b : Bool) (s : Place) → cond b (done ([], []) (skip s)) (outlined (entries_of N (skip s))) ≡ Err deep → (z : Place) × ProgramFront R F s z
    outline_test-deep true s e = absurd cc
    outline_test-deep false s e = entries_deep s (outlined_deep (entries_of N (skip s)) e)

    outline_deep : IsDeep (outline_of N) (ProgramFront R F)
    unfolding outline_of
    outline_deep s e = outline_test-deep (ends (skip s).rest) s e

row_shrinking : (R : Nested) → NestedShrinking R → IsShrinking (Row R)
row_shrinking R nests s z t (a_definition {m = m} {t = v} e h) = omega (arith, next-left s m kind.Def e, nests.part parts.Definition m z v h)
row_shrinking R nests s z t (a_class {m = m} {n = n} {c = c} {x = x} {t = v} e f h) = omega (arith, next-left s m (kind.Class (openings.Below c)) e, Steps-class_head m n x f, nests.part (parts.Class x.0 c) n z v h)
row_shrinking R nests s z t (a_statement {t = v} h) = statement_shrinking R nests s z v h

-- reading a row takes no words back
pub entry_shrinks : (b : Bool) (d : ℕ) → Shrinks (entry_of (readers b d))
entry_shrinks b d = shrinks_by (entry_of (readers b d)) (Row (nested b d)) (entry_sound (readers b d) (nested b d) (sound_nested b d)) (row_shrinking (nested b d) (shrinking_nested b d))

row_starts : (R : Nested) (s z : Place) (t : Entry) → Row R s t z → ends s.rest ≡ false
row_starts R s z t (a_definition {m = m} e h) = next_ends s m kind.Def false e refl
row_starts R s z t (a_class {m = m} {c = c} e f h) = next_ends s m (kind.Class (openings.Below c)) false e refl
row_starts R s z t (a_statement {t = v} h) = statement_starts R s z v h

module _ (N : Readers) (R : Nested) (D : Type 0) (shrinks : ReadersShrink N) (shrinks_entry : Shrinks (entry_of N)) (nests : NestedFull N R D) where
  entry_full : IsFull (entry_of N) (Row R) (Stops 31) D
  unfolding entry_of
  entry_full s z t (a_definition {m = m} {t = v} e h) stops =
      leads_eq (entry_or N s (at (word kind.Def) s)) (built defines (N.part parts.Definition m)) (Ok (t, z)) (ap (entry_or N s) (word_here kind.Def s m e refl))
      (leads_bind (N.part parts.Definition m) (v, z) (λ x. Ok (defines x.0, x.1)) (nests.part parts.Definition m z v h tt))
  entry_full s z t (a_class {m = m} {n = n} {c = c} {x = x} {t = v} e f h) stops =
      let p : Part = parts.Class x.0 c in
      leads_eq (entry_or N s (at (word kind.Def) s)) (built defines (N.part p n)) (Ok (t, z))
      (ap (entry_or N s) (other-word kind.Def (kind.Class (openings.Below c)) s m e refl) ∙ ap (class_or N s) (next-class s m (openings.Below c) e) ∙ ap (class_on N c) f)
      (leads_bind (N.part p n) (v, z) (λ x. Ok (defines x.0, x.1)) (nests.part p n z v h tt))
  entry_full s z t (a_statement {t = v} h) stops =
      leads_eq (entry_or N s (at (word kind.Def) s)) (built does (statement_of N s)) (Ok (t, z)) (ap (entry_or N s) (statement_no_def R s z v h) ∙ ap (class_or N s) (statement_no_class R s z v h))
      (leads_bind (statement_of N s) (v, z) (λ x. Ok (does x.0, x.1)) (statement_full N R D shrinks nests s z v h stops))

  entries_full : (s z : Place) (o : Outline) → Entries R s o z → Stops 31 z → at row z ≡ None → Leads (entries_of N s) (Ok (o, z)) D
  unfolding entries_of
  entries_full s z o c stops e =
      chain_full separators row first_entry with_entry (entry_of N) (Row R) (Stops 31) D Steps-row shrinks_entry
      (λ m n x e. separators_stop m n x e) (λ m n z x r e h. separators-row m n x e (row_starts R n z r h)) entry_full s z o c stops e

  outline_full : IsFull (outline_of N) (Program R) Ends D
  unfolding outline_of
  outline_full s z t no_rows stops = inl (ap (λ b. cond b (Ok (([], []), skip s)) (outlined (entries_of N (skip s)))) stops)
  outline_full s z t (some_rows {m = m} {o = o} c) stops =
      let f = chain_first separators first_entry with_entry (Row R) (skip s) m o c in
      let begins = row_starts R (skip s) f.1 f.0 f.2 in
      let behind = ends_behind m stops in
      leads_eq (outline_at N (skip s)) (outlined (entries_of N (skip s))) (Ok (t, skip m))
      (ap (λ b. cond b (Ok (([], []), skip s)) (outlined (entries_of N (skip s)))) begins)
      (leads_bind (entries_of N (skip s)) (o, m) (λ x. Ok (x.0, skip x.1)) (entries_full (skip s) m o c behind.0 behind.1))

-- ---- all words

whole_is : (o : Outline) (m : Main) (ws : List Word) → whole_of o ws ≡ Ok m → (ws ≡ []) × (m ≡ main_of o)
whole_is o m [] e = (refl, cc)
whole_is o m (w ∷ ws) e = absurd cc

-- what is read is spelled
pub program_sound : (d : ℕ) (ws : List Word) (t : Main) → program_of d ws ≡ Ok t → WordsSpell d ws t
unfolding program_of
program_sound d ws t e =
    let b = bind_ok (outline_of (readers false d) (start ws)) (λ r. whole_of r.0 r.1.rest) t e in
    let w = whole_is b.0.0 t b.0.1.rest b.2 in
    (b.0.1, b.0.0, outline_sound (readers false d) (outside d) (sound_outside d) (start ws) b.0.1 b.0.0 b.1, w.0, w.1)

-- what is spelled is read, unless it nests deeper than is read
pub program_full : (k d : ℕ) (ws : List Word) (t : Main) → WordsSpell d ws t → Leads (program_of k ws) (Ok t) (k < d)
unfolding program_of
program_full k d ws t h =
    leads_trans (outline_of (readers_outside k) (start ws) >>= λ r. whole_of r.0 r.1.rest) (whole_of h.1 h.0.rest) (Ok t)
    (leads_bind (outline_of (readers_outside k) (start ws)) (h.1, h.0) (λ r. whole_of r.0 r.1.rest)
    (outline_full (readers_outside k) (outside d) (k < d) (shrinks_nested false k) (entry_shrinks false k) (full_outside k d) (start ws) h.0 h.1 h.2 (ap ends h.3)))
    (inl (ap (whole_of h.1) h.3 ∙ ap (λ (m : Main). Ok m) (sym h.4)))

-- where reading says that it is wrong, no program is spelled
pub program_wrong : (k : ℕ) (ws : List Word) → program_of k ws ≡ Err wrong → (d : ℕ) (t : Main) → WordsSpell d ws t → ⊥
program_wrong k ws e d t h = at_leads (program_full k d ws t h)
  where
    at_leads : Leads (program_of k ws) (Ok t) (k < d) → ⊥
    at_leads (inl f) = let g = sym e ∙ f in let never : ⊥ = cc in never
    at_leads (inr f) = let g = sym e ∙ f.0 in let never : ⊥ = cc in never

-- where it says that it is too deep, what is spelled is
pub program_deep : (k d : ℕ) (ws : List Word) → program_of k ws ≡ Err deep → (t : Main) → WordsSpell d ws t → k < d
program_deep k d ws e t h = at_leads (program_full k d ws t h)
  where
    at_leads : Leads (program_of k ws) (Ok t) (k < d) → k < d
    at_leads (inl f) = let g = sym e ∙ f in absurd cc
    at_leads (inr f) = f.1

whole_not_deep : (o : Outline) (ws : List Word) → whole_of o ws ≡ Err deep → ⊥
whole_not_deep o [] e = let never : ⊥ = cc in never
whole_not_deep o (w ∷ ws) e = let never : ⊥ = cc in never

-- where the words are too deep, more constructs than the number are begun at some place
pub program_nests : (d : ℕ) (ws : List Word) → program_of d ws ≡ Err deep → (z : Place) × ProgramFront (outside d) (fronts_outside d) (start ws) z
unfolding program_of
program_nests d ws e =
    elim (bind_deep (outline_of (readers false d) (start ws)) (λ r. whole_of r.0 r.1.rest) e) [
      | inl g ↦ outline_deep (readers_outside d) (outside d) (sound_outside d) (fronts_outside d) (deep_outside d) (start ws) g
      | inr b ↦ absurd (whole_not_deep b.0.0 b.0.1.rest b.2)
    ]
