-- What is written of an object that is no container, and of an immediate.
use Rattle.std.proofs.Common.{◌≡◌, ℕ, ◌&&◌, Bool, true, false, List, ◌++◌, refl, ap, ◌∙◌}
use Rattle.rr_space.specs.Graph.{Name, Value, Plain, At, Object, Kind, text, array, hash, plain, exception, shell, Graph}
use Rattle.rr_space.specs.Tables.{Slot, Below, Table, resolve, graph_of}
use Rattle.rr_space.specs.Sound.{IsTableSound}
use Rattle.rr_space.specs.Parts.{value_of}
use Rattle.rr_space.specs.Kinds.{kind_at}
use Rattle.rr_space.specs.declared.refer.Ref.{Ref}
use Rattle.rr_text.specs.Walk.{Walked, Wrote, Differs, Deep, Circular, Shell, Leaf}
use Rattle.rr_text.specs.Forms.{Names, Way, spoken, inspected, lines, Item, Piece, spelled, look, leaf_text, object_look, asks_objects, text_or_ask, same_key, immediate_written}
use Rattle.rr_text.specs.Reads.{IsAmong, IsReadWith, IsAtEnd}
use Rattle.rr_text.specs.Frames.{thing_in, begun_of, Showed}
use Rattle.rr_text.specs.Ways.{IsWrittenNow}
use Rattle.rr_text.specs.Told.{told_kind, told_object, IsLeafWritten}
use Rattle.rr_text.specs.declared.walk.Frame.{Frame}
use Rattle.rr_text.specs.declared.walk.Going.TheVariants.{On, Shell as GoingShell}
use Rattle.rr_text.proofs.Looking.{in_kind, in_bytes, in_triples, in_class, looked_at}
use Rattle.rr_text.proofs.Spelling.{spelled_more}
use Rattle.rr_text.proofs.Stack.{leaf_showed, leaf_shell}

-- no object is asked where no class is
unasked : (way : Way) → (asks_objects way && false) ≡ false
unasked spoken = refl
unasked inspected = refl
unasked lines = refl

module _ (names : Names) (g : Graph) where
  same_text : (way : Way) (k : Kind) (o p : Object) → o.bytes ≡ p.bytes → o.triples ≡ p.triples → ((k ≡ shell → ⊥) → o.class ≡ p.class) → leaf_text names g way k o ≡ leaf_text names g way k p
  same_text way text o p bytes triples class = ap (λ s. leaf_text names g way text (record o { bytes = s })) bytes
  same_text way array o p bytes triples class = refl
  same_text way hash o p bytes triples class = refl
  same_text way plain o p bytes triples class = ap (λ (c : ℕ). leaf_text names g way plain (record o { class = c })) (class (λ e. absurd (let w : ⊥ = cc in w)))
  same_text way exception o p bytes triples class =
      ap (λ (c : ℕ). leaf_text names g way exception (record o { class = c })) (class (λ e. absurd (let w : ⊥ = cc in w)))
      ∙ ap (λ ts. leaf_text names g way exception (record p { triples = ts })) triples
  same_text way shell o p bytes triples class = refl

  -- an object that is no container
  alone : (way : Way) (k : Kind) (v : Value) (o : Object) → (k ≡ array → ⊥) → (k ≡ hash → ⊥) → object_look names g (λ _. false) way k v o ≡ Leaf (text_or_ask false (way, v) (leaf_text names g way k o))
  alone way text v o row pairs = refl
  alone way array v o row pairs = absurd (row refl)
  alone way hash v o row pairs = absurd (pairs refl)
  alone way plain v o row pairs = ap (λ b. Leaf (text_or_ask b (way, v) (leaf_text names g way plain o))) (unasked way)
  alone way exception v o row pairs = ap (λ b. Leaf (text_or_ask b (way, v) (leaf_text names g way exception o))) (unasked way)
  alone way shell v o row pairs = refl

  -- what is written, and the walk goes on where it was
  pub leaf_shows : (levels : ℕ) (frames : List Frame) (bytes bytes' : List ℕ) (i : Item) (w : Walked) → look names g (λ _. false) i ≡ Leaf (text_or_ask false i w) → IsLeafWritten w true bytes bytes'
      → Showed names g (λ _. false) levels frames (spelled bytes) i On frames (spelled bytes')
  leaf_shows levels frames bytes bytes' i (Wrote s) e (written, more) =
      leaf_showed (look names g (λ _. false)) same_key (begun_of names g) levels frames frames (spelled bytes) (spelled bytes') (spelled s) i e refl (spelled_more bytes bytes' s more)
  leaf_shows levels frames bytes bytes' i Shell e none = absurd (let w : ⊥ = cc in w)
  leaf_shows levels frames bytes bytes' i Differs e h = absurd h
  leaf_shows levels frames bytes bytes' i Deep e h = absurd h
  leaf_shows levels frames bytes bytes' i Circular e h = absurd h

  pub shell_shows : (levels : ℕ) (frames : List Frame) (out out' : List Piece) (bytes bytes' : List ℕ) (i : Item) (w : Walked) → look names g (λ _. false) i ≡ Leaf (text_or_ask false i w)
      → IsLeafWritten w false bytes bytes' → Showed names g (λ _. false) levels frames out i GoingShell frames out'
  shell_shows levels frames out out' bytes bytes' i Shell e none = leaf_shell (look names g (λ _. false)) same_key (begun_of names g) levels frames out i e
  shell_shows levels frames out out' bytes bytes' i (Wrote s) e (written, more) = absurd (let w : ⊥ = cc in w)
  shell_shows levels frames out out' bytes bytes' i Differs e h = absurd h
  shell_shows levels frames out out' bytes bytes' i Deep e h = absurd h
  shell_shows levels frames out out' bytes bytes' i Circular e h = absurd h

pub told_leaf : (names : Names) (t : Table) (below : Below) (r : Ref) (n : Name) (way : Way) → IsTableSound t.slots t.below → IsReadWith t below → IsAmong below r → IsAtEnd t r → value_of r ≡ At n
    → (told_kind (kind_at t r) ≡ array → ⊥) → (told_kind (kind_at t r) ≡ hash → ⊥)
    → look names (graph_of t.slots below) (λ _. false) (way, value_of r) ≡ Leaf (text_or_ask false (way, value_of r) (leaf_text names (graph_of t.slots below) way (told_kind (kind_at t r)) (told_object t r)))
told_leaf names t below r n way sound read among end e row pairs =
    let g = graph_of t.slots below in
    let k = told_kind (kind_at t r) in
    looked_at names g (λ _. false) way (value_of r) n k e (in_kind names t below sound read r among end)
    ∙ alone names g way k (value_of r) (thing_in names g (value_of r)) row pairs
    ∙ ap (λ w. Leaf (text_or_ask false (way, value_of r) w))
    (same_text names g way k (thing_in names g (value_of r)) (told_object t r)
    (in_bytes names t below sound read r among end) (in_triples names t below sound read r among end) (in_class names t below sound read r among end))

-- a value that was not written now is an object
pub is_object : (names : Names) (way : Way) (v : Value) (now : Bool) (out out' : List ℕ) → IsWrittenNow names way v now out out' → now ≡ false → (n : Name) × (v ≡ At n) × (out' ≡ out)
is_object names way (Plain i) now out out' (e, more) h = absurd (let w : ⊥ = cc in w)
is_object names way (At n) now out out' (e, same) h = (n, refl, same)

-- and one that was is an immediate
pub written_shows : (names : Names) (g : Graph) (asks : ℕ → Bool) (slots : List Slot) (levels : ℕ) (frames : List Frame) (out out' : List Piece) (bytes bytes' : List ℕ) (way : Way) (v : Value) (now : Bool)
    → IsWrittenNow names way v now bytes bytes' → now ≡ true → ((s : List ℕ) → bytes' ≡ bytes ++ s → out' ≡ out ++ spelled s) → Showed names g asks levels frames out (way, resolve slots v) On frames out'
written_shows names g asks slots levels frames out out' bytes bytes' way (Plain i) now (e, more) h pieced =
    leaf_showed (look names g asks) same_key (begun_of names g) levels frames frames out out' (spelled (immediate_written names way i)) (way, Plain i) refl refl (pieced (immediate_written names way i) more)
written_shows names g asks slots levels frames out out' bytes bytes' way (At n) now (e, same) h pieced = absurd (let w : ⊥ = cc in w)
