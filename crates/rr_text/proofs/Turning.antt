-- The next part of a container, or its end.
use Rattle.std.proofs.Common.{◌≡◌, ℕ, suc, ◌+◌, ◌-◌, ◌<◌, ◌≤◌, Bool, false, List, [], ◌∷◌, ◌++◌, drop, length, codes, slice_get, Some, None, ap, sym, ◌∙◌, arith}
use Rattle.std.proofs.lemmas.List.{append-nil, length-map}
use Rattle.rr_space.specs.Graph.{Name, Value, At, Label, Graph}
use Rattle.rr_space.specs.Tables.{Slot, Below, Table, resolve, resolve_triple, graph_of}
use Rattle.rr_space.specs.Sound.{IsTableSound}
use Rattle.rr_space.specs.Parts.{value_of}
use Rattle.rr_space.specs.Views.{text_at}
use Rattle.rr_space.specs.Labels.{triples_at}
use Rattle.rr_space.specs.declared.refer.Ref.{Ref}
use Rattle.rr_text.specs.Forms.{Names, Way, Piece, spelled, pieced, printed, unanswered, inspected, lines, elements, entries, key_text, look, same_key}
use Rattle.rr_text.specs.Quoted.{quoted}
use Rattle.rr_text.specs.Ways.{way_of}
use Rattle.rr_text.specs.Reads.{IsAmong, IsReadWith, IsAtEnd}
use Rattle.rr_text.specs.Frames.{lead_at, thing_in, parts_from, closing_of, begun_of, key_of, walker_of, IsTurned, whole_of, showing_of, Showed, Stepped}
use Rattle.rr_text.specs.declared.walk.Part.{Part}
use Rattle.rr_text.specs.declared.walk.Going.{Going}
use Rattle.rr_text.specs.declared.walk.Going.TheVariants.{On}
use Rattle.rr_text.proofs.Stack.{next_top, closed_top, followed_none, followed_end}
use Rattle.rr_text.specs.Walk.{Outcome, Wrote, followed, walk}
use Rattle.rr_text.specs.declared.form.Form.{Form}
use Rattle.rr_text.specs.declared.walk.Shape.{Shape}
use Rattle.rr_text.specs.declared.walk.Shape.TheVariants.{Elements, Lines, Pairs}
use Rattle.rr_text.specs.declared.walk.Frame.{Frame}
use Rattle.rr_text.proofs.Seeing.{bytes_are}
use Rattle.rr_text.proofs.Looking.{in_triples, elements_next, elements_none, entries_next, entries_none, lead_next, resolved_at, resolved_name}

-- a text as a key
pub text_key : (names : Names) (t : Table) (below : Below) (r : Ref) (n : Name) → IsTableSound t.slots t.below → IsReadWith t below → IsAmong below r → value_of r ≡ At n
    → quoted (text_at t r) ++ codes " => " ≡ key_text names (graph_of t.slots below) (resolve t.slots (value_of r))
text_key names t below r n sound read among e =
    let m = resolved_name t.slots n in
    let at : resolve t.slots (value_of r) ≡ At m.0 = ap (resolve t.slots) e ∙ m.1 in
    ap (λ (s : List ℕ). quoted s ++ codes " => ") (sym (bytes_are t below r m.0 sound read among at))
    ∙ ap (key_text names (graph_of t.slots below)) (sym at)

module _ (names : Names) (t : Table) (below : Below) (sound : IsTableSound t.slots t.below) (read : IsReadWith t below) (top : Frame) (among : IsAmong below top.object) (end : IsAtEnd t top.object) where
  now_at : (k : ℕ) (l : Label) (r : Ref) → slice_get (triples_at t top.object) k ≡ Some (l, value_of r)
      → slice_get (thing_in names (graph_of t.slots below) (value_of top.object)).triples k ≡ Some (l, resolve t.slots (value_of r))
  now_at k l r e = ap (λ (ts : List (Label × Value)). slice_get ts k) (in_triples names t below sound read top.object among end) ∙ resolved_at t.slots (triples_at t top.object) k l (value_of r) e

  now_count : length (thing_in names (graph_of t.slots below) (value_of top.object)).triples ≡ length (triples_at t top.object)
  now_count = ap length (in_triples names t below sound read top.object among end) ∙ length-map (triples_at t top.object) (resolve_triple t.slots)

  shaped : (s : Shape) → top.shape ≡ s → (begun_of names (graph_of t.slots below) top).parts ≡ parts_from names (graph_of t.slots below) s top.next (thing_in names (graph_of t.slots below) (value_of top.object)).triples
  shaped s e = ap (λ (s : Shape). parts_from names (graph_of t.slots below) s top.next (thing_in names (graph_of t.slots below) (value_of top.object)).triples) e

  pub closing_is : (s : Shape) → top.shape ≡ s → closing_of names (graph_of t.slots below) top.shape ≡ closing_of names (graph_of t.slots below) s
  closing_is s e = ap (closing_of names (graph_of t.slots below)) e

  pub element_turned : (l : Label) (r : Ref) → top.shape ≡ Elements → slice_get (triples_at t top.object) top.next ≡ Some (l, value_of r)
      → (begun_of names (graph_of t.slots below) top).parts
      ≡ (spelled (lead_at top.next (codes ", ")), (inspected, resolve t.slots (value_of r))) ∷ (begun_of names (graph_of t.slots below) (record { shape = Elements; object = top.object; next = top.next + 1 })).parts
  element_turned l r shape e =
      let ts = (thing_in names (graph_of t.slots below) (value_of top.object)).triples in
      shaped Elements shape
      ∙ elements_next inspected (lead_at top.next (codes ", ")) (codes ", ") ts top.next l (resolve t.slots (value_of r)) (now_at top.next l r e)
      ∙ ap (λ (s : List ℕ). (spelled (lead_at top.next (codes ", ")), (inspected, resolve t.slots (value_of r))) ∷ elements inspected s (codes ", ") (drop (top.next + 1) ts)) (sym (lead_next top.next (codes ", ")))

  pub elements_closed : top.shape ≡ Elements → length (triples_at t top.object) ≤ top.next → (begun_of names (graph_of t.slots below) top).parts ≡ []
  elements_closed shape none =
      shaped Elements shape
      ∙ elements_none inspected (lead_at top.next (codes ", ")) (codes ", ") (thing_in names (graph_of t.slots below) (value_of top.object)).triples top.next (omega (arith, now_count, none))

  pub line_turned : (l : Label) (r : Ref) → top.shape ≡ Lines → slice_get (triples_at t top.object) top.next ≡ Some (l, value_of r)
      → (begun_of names (graph_of t.slots below) top).parts
      ≡ ([], (lines, resolve t.slots (value_of r))) ∷ (begun_of names (graph_of t.slots below) (record { shape = Lines; object = top.object; next = top.next + 1 })).parts
  line_turned l r shape e =
      shaped Lines shape
      ∙ elements_next lines [] [] (thing_in names (graph_of t.slots below) (value_of top.object)).triples top.next l (resolve t.slots (value_of r)) (now_at top.next l r e)

  pub lines_closed : top.shape ≡ Lines → length (triples_at t top.object) ≤ top.next → (begun_of names (graph_of t.slots below) top).parts ≡ []
  lines_closed shape none =
      shaped Lines shape
      ∙ elements_none lines [] [] (thing_in names (graph_of t.slots below) (value_of top.object)).triples top.next (omega (arith, now_count, none))

  pub pair_turned : (form : Form) (l m : Label) (k r : Ref) → top.shape ≡ Pairs form → slice_get (triples_at t top.object) top.next ≡ Some (l, value_of k) → slice_get (triples_at t top.object) (top.next + 1) ≡ Some (m, value_of r)
      → (begun_of names (graph_of t.slots below) top).parts
      ≡ (spelled (lead_at top.next (codes ", ") ++ key_text names (graph_of t.slots below) (resolve t.slots (value_of k))), (inspected, resolve t.slots (value_of r)))
      ∷ (begun_of names (graph_of t.slots below) (record { shape = Pairs form; object = top.object; next = top.next + 2 })).parts
  pair_turned form l m k r shape e f =
      let g = graph_of t.slots below in
      let ts = (thing_in names (graph_of t.slots below) (value_of top.object)).triples in
      shaped (Pairs form) shape
      ∙ entries_next names g (lead_at top.next (codes ", ")) ts top.next l m (resolve t.slots (value_of k)) (resolve t.slots (value_of r)) (now_at top.next l k e) (now_at (top.next + 1) m r f)
      ∙ ap (λ (s : List ℕ). (spelled (lead_at top.next (codes ", ") ++ key_text names g (resolve t.slots (value_of k))), (inspected, resolve t.slots (value_of r))) ∷ entries names g s (drop (top.next + 2) ts))
      (sym (ap (λ n. lead_at n (codes ", ")) (let two : top.next + 2 ≡ suc (top.next + 1) = omega arith in two)))

  pub pairs_closed : (form : Form) → top.shape ≡ Pairs form → length (triples_at t top.object) ≤ top.next + 1 → (begun_of names (graph_of t.slots below) top).parts ≡ []
  pairs_closed form shape none =
      shaped (Pairs form) shape
      ∙ entries_none names (graph_of t.slots below) (lead_at top.next (codes ", ")) (thing_in names (graph_of t.slots below) (value_of top.object)).triples top.next (omega (arith, now_count, none))

-- ---- A turn.

module _ (names : Names) (g : Graph) (asks : ℕ → Bool) (slots : List Slot) (levels : ℕ) (fs : List Frame) (top : Frame) (out : List Piece) (bytes : List ℕ) where
  pub turned_steps : (fs1 fs' : List Frame) (out1 out' : List Piece) (bytes1 : List ℕ) (p : Part) (going : Going) → IsTurned names g slots top bytes (Some p) bytes1
      → ((s : List ℕ) → bytes1 ≡ bytes ++ s → out1 ≡ out ++ spelled s) → p.frame.shape ≡ top.shape → p.frame.object ≡ top.object → fs1 ≡ fs ++ p.frame ∷ []
      → Showed names g asks levels fs1 out1 (way_of p.form, resolve slots (value_of p.value)) going fs' out' → Stepped names g asks levels fs top out going fs' out'
  turned_steps fs1 fs' out1 out' bytes1 p going (lead, parts, more) pieced shape object es h =
      next_top (look names g asks) same_key (begun_of names g) levels fs fs1 top p.frame out out1 (spelled lead, (way_of p.form, resolve slots (value_of p.value))) parts key
      (ap (λ (s : Shape). spelled (closing_of names g s)) (sym shape)) es (pieced lead more)
      ∙ h
    where
      key : key_of top ≡ key_of p.frame
      key = ap (λ (s : Shape). (walker_of s, value_of top.object)) (sym shape) ∙ ap (λ (o : Ref). (walker_of p.frame.shape, value_of o)) (sym object)

  pub closed_steps : (fs' : List Frame) (out' : List Piece) (bytes' : List ℕ) → length fs < levels → IsTurned names g slots top bytes None bytes' → ((s : List ℕ) → bytes' ≡ bytes ++ s → out' ≡ out ++ spelled s) → fs' ≡ fs
      → Stepped names g asks levels fs top out On fs' out'
  closed_steps fs' out' bytes' fits (none, more) pieced same =
      closed_top (look names g asks) same_key (begun_of names g) levels fs fs' top out out' fits none same (pieced (closing_of names g top.shape) more)

-- nothing was begun
pub starts : (names : Names) (g : Graph) (asks : ℕ → Bool) (levels : ℕ) (fs : List Frame) (out : List Piece) (way : Way) (v : Value) → fs ≡ []
    → followed (Wrote out) (pieced names g asks levels way v) ≡ showing_of names g asks levels fs out (way, v)
starts names g asks levels fs out way v e =
    let one : Outcome Piece = walk (look names g asks) same_key (levels - 0) [] (way, v) in
    sym (ap (λ (xs : List Frame). showing_of names g asks levels xs out (way, v)) e
    ∙ ap (followed (Wrote out)) (followed_end one)
    ∙ ap (λ (n : ℕ). followed (Wrote out) (walk (look names g asks) same_key n [] (way, v))) (let z : levels - 0 ≡ levels = omega arith in z))

-- nothing is left to do
pub ends : (names : Names) (g : Graph) (asks : ℕ → Bool) (levels : ℕ) (fs : List Frame) (out : List Piece) → length fs ≡ 0 → whole_of names g asks levels fs out ≡ Wrote out
ends names g asks levels [] out e = ap Wrote (append-nil out)
ends names g asks levels (f ∷ fs) out e = absurd (let no : ⊥ = omega (arith, e) in no)

-- the text is what is written behind nothing
pub printed_is : (names : Names) (g : Graph) (levels : ℕ) (way : Way) (v : Value) (before : List ℕ) (now : Outcome Piece) → before ≡ [] → followed (Wrote (spelled before)) (pieced names g (λ _. false) levels way v) ≡ now
    → unanswered now ≡ printed names g levels way v
printed_is names g levels way v before now none e =
    let one : Outcome Piece = pieced names g (λ _. false) levels way v in
    ap unanswered (sym e ∙ ap (λ (s : List ℕ). followed (Wrote (spelled s)) one) none ∙ followed_none one)
