-- Forms and texts as definitions see them.
use Rattle.std.specs.Prelude.{◌≡◌, true, false, Bool, ℕ, List, ◌++◌, Option, Some, None}
use Rattle.rr_space.specs.Graph.{Value, Plain, At}
use Rattle.rr_text.specs.Walk.{Walked, Wrote, Deep, Shell}
use Rattle.rr_text.specs.Forms.{Names, Way, spoken, inspected, lines, immediate_written}
use Rattle.rr_text.specs.declared.form.Form.{Form}
use Rattle.rr_text.specs.declared.form.Form.TheVariants.{ToS, Inspect, Puts}
use Rattle.rr_text.specs.declared.form.Lack.{Lack}
use Rattle.rr_text.specs.declared.form.Lack.TheVariants.{Deep as LackDeep, Shell as LackShell}
use Rattle.rr_text.specs.declared.form.Text.{Text}
use Rattle.rr_text.specs.declared.form.Text.TheVariants.{Bytes, Deep as DeepText, Shell as ShellText}

abbrev pub way_of : Form → Way
way_of ToS = spoken
way_of Inspect = inspected
way_of Puts = lines

abbrev pub text_of : Text → Walked
text_of (Bytes bytes) = Wrote bytes.items
text_of DeepText = Deep
text_of ShellText = Shell

-- a text is written behind these bytes, or they stay where there is none, as the lack says
abbrev pub IsWrittenBehind : Option Lack → List ℕ → List ℕ → Walked → Type 0
IsWrittenBehind None old new w = (bytes : List ℕ) × (w ≡ Wrote bytes) × (new ≡ old ++ bytes)
IsWrittenBehind (Some LackDeep) old new w = (w ≡ Deep) × (new ≡ old)
IsWrittenBehind (Some LackShell) old new w = (w ≡ Shell) × (new ≡ old)

-- an immediate is written, and an object is left
abbrev pub IsWrittenNow : Names → Way → Value → Bool → List ℕ → List ℕ → Type 0
IsWrittenNow names way (Plain i) now out out' = (now ≡ true) × (out' ≡ out ++ immediate_written names way i)
IsWrittenNow names way (At n) now out out' = (now ≡ false) × (out' ≡ out)
