-- What is written at once is the text of the value.
use Rattle.std.proofs.Common.{◌≡◌, ℕ, Bool, true, false, List, [], ◌++◌, None, refl, sym, ap, ◌∙◌}
use Rattle.rr_space.specs.Graph.{Name, Value, Plain, At, Kind, text, Graph}
use Rattle.rr_space.specs.Tables.{Slot, Below, Table, resolve, graph_of}
use Rattle.rr_space.specs.Sound.{IsTableSound}
use Rattle.rr_space.specs.Parts.{value_of}
use Rattle.rr_space.specs.Views.{text_at}
use Rattle.rr_space.specs.Kinds.{kind_at}
use Rattle.rr_space.specs.declared.kind.Kind.TheVariants.{Text as TextKind}
use Rattle.rr_space.specs.declared.refer.Ref.{Ref}
use Rattle.rr_text.specs.Walk.{Wrote, Leaf}
use Rattle.rr_text.specs.Forms.{Names, Way, spelled, unanswered, printed, look, leaf_text, text_or_ask, same_key, immediate_written, text_written}
use Rattle.rr_text.specs.Reads.{IsAmong, IsReadWith, IsAtEnd}
use Rattle.rr_text.specs.Told.{told_kind, told_object}
use Rattle.rr_text.specs.Ways.{IsWrittenNow, IsWrittenBehind}
use Rattle.rr_text.proofs.Leaves.{told_leaf}
use Rattle.rr_text.proofs.Seeing.{ends}
use Rattle.rr_text.proofs.Spelling.{filled_spelled}
use Rattle.rr_text.proofs.Stack.{at_leaf}

module _ (names : Names) (g : Graph) (levels : ℕ) (way : Way) where
  -- the text of what stands alone
  printed_alone : (v : Value) (bytes : List ℕ) → look names g (λ _. false) (way, v) ≡ Leaf (Wrote (spelled bytes)) → printed names g levels way v ≡ Wrote bytes
  printed_alone v bytes e =
      ap unanswered (at_leaf (look names g (λ _. false)) same_key levels [] (way, v) (Wrote (spelled bytes)) e)
      ∙ ap Wrote (filled_spelled bytes [])

  -- an immediate that is written now is behind what was written
  pub immediate_behind : (slots : List Slot) (v : Value) (now : Bool) (old new : List ℕ) → IsWrittenNow names way v now old new → now ≡ true
      → IsWrittenBehind None old new (printed names g levels way (resolve slots v))
  immediate_behind slots (Plain i) now old new (e, more) h = (immediate_written names way i, printed_alone (Plain i) (immediate_written names way i) refl, more)
  immediate_behind slots (At n) now old new (e, same) h = absurd (let w : ⊥ = cc in w)

-- and so is the text that a value leads to
pub text_behind : (names : Names) (t : Table) (below : Below) (v : Value) (r : Ref) (n : Name) (levels : ℕ) (way : Way) (old new : List ℕ) → IsTableSound t.slots t.below → IsReadWith t below → IsAmong below r
    → value_of r ≡ resolve t.slots v → value_of r ≡ At n → kind_at t r ≡ TextKind → new ≡ old ++ text_written way (text_at t r)
    → IsWrittenBehind None old new (printed names (graph_of t.slots below) levels way (resolve t.slots v))
text_behind names t below v r n levels way old new sound read among at e kind more =
    let g = graph_of t.slots below in
    let bytes : List ℕ = text_written way (text_at t r) in
    let end : IsAtEnd t r = ap (resolve t.slots) at ∙ ends t.slots v ∙ sym at in
    let told : told_kind (kind_at t r) ≡ text = ap told_kind kind in
    let leaf : look names g (λ _. false) (way, value_of r) ≡ Leaf (Wrote (spelled bytes)) =
    told_leaf names t below r n way sound read among end e (λ row. absurd (let w : ⊥ = cc in w)) (λ pairs. absurd (let w : ⊥ = cc in w))
    ∙ ap (λ (k : Kind). Leaf (text_or_ask false (way, value_of r) (leaf_text names g way k (told_object t r)))) told in
    (bytes, ap (printed names g levels way) (sym at) ∙ printed_alone names g levels way (value_of r) bytes leaf, more)
