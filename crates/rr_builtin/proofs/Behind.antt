-- Texts that are written one behind another.
use Rattle.std.proofs.Common.{◌≡◌, ◌∙◌, ℕ, List, ◌++◌, ap, sym, append_assoc, Result, Ok, Err, OnOk}

-- a text and then another
pub behind : {A E : Type 0} (r : Result A E) (out mid new text more : List ℕ) → mid ≡ out ++ text → OnOk r (new ≡ mid ++ more) → OnOk r (new ≡ out ++ (text ++ more))
behind (Ok x) out mid new text more e f = f ∙ ap (λ l. l ++ more) e ∙ append_assoc out text more
behind (Err x) out mid new text more e f = tt

-- a text and then two others
pub behind_two : {A E : Type 0} (r : Result A E) (out mid new text more last : List ℕ) → mid ≡ out ++ text → OnOk r (new ≡ mid ++ (more ++ last)) → OnOk r (new ≡ out ++ (text ++ more ++ last))
behind_two (Ok x) out mid new text more last e f = f ∙ ap (λ l. l ++ (more ++ last)) e ∙ append_assoc out text (more ++ last) ∙ ap (λ l. out ++ l) (sym (append_assoc text more last))
behind_two (Err x) out mid new text more last e f = tt
