use Rattle.std.proofs.Common.{ℕ, ◌+◌, ◌<◌, ◌≡◌, ◌==◌, Bool, true, false, cond, List, suc, length, drop, get_or, Option, Some, None, refl, ap, ◌∙◌, arith}
use Rattle.std.proofs.Math.Seq.{drop-cons}
use Rattle.std.proofs.lemmas.Bool.{ne_eqb}
use Rattle.rr_lexer.specs.Scans.{single_len, longer}
use Rattle.rr_lexer.proofs.texts.single_len.Goals as goal
use Rattle.rr_lexer.proofs.texts.single_len.Goals.{then-escaped, else-escaped+else-b-eq39}

longer_twice : (i : ℕ) (x : Option ℕ) → longer i (longer 1 x) ≡ longer (i + 1) x
longer_twice i None = refl
longer_twice i (Some n) = ap (λ k. Some k) (omega arith)

-- the byte behind a backslash
past : (s : List ℕ) (i : ℕ) → i < length s → single_len s false ≡ longer i (single_len (drop i s) true) → single_len s false ≡ longer (i + 1) (single_len (drop (i + 1) s) false)
past s i l h =
    let k = rw (drop-cons s i 0) at h in
    let m : single_len s false ≡ longer (i + 1) (single_len (drop (suc i) s) false) = k ∙ longer_twice i (single_len (drop (suc i) s) false) in
    let e : suc i ≡ i + 1 = omega arith in
    rw e at m

byte : (b : ℕ) (i : ℕ) (bs : List ℕ) (x : Bool) → longer i (cond x (longer 1 (single_len bs true)) (longer 1 (single_len bs false))) ≡ longer (i + 1) (single_len bs x)
byte b i bs true = longer_twice i (single_len bs true)
byte b i bs false = longer_twice i (single_len bs false)

-- any other byte but the quote
along : (s : List ℕ) (i : ℕ) → i < length s → (get_or s i 0 == 39) ≡ false → single_len s false ≡ longer i (single_len (drop i s) false)
    → single_len s false ≡ longer (i + 1) (single_len (drop (i + 1) s) (get_or s i 0 == 92))
along s i l q h =
    let k = rw (drop-cons s i 0, q) at h in
    let m : single_len s false ≡ longer (i + 1) (single_len (drop (suc i) s) (get_or s i 0 == 92)) = k ∙ byte (get_or s i 0) i (drop (suc i) s) (get_or s i 0 == 92) in
    let e : suc i ≡ i + 1 = omega arith in
    rw e at m

pub loop-i-preserved : goal.loop-i-preserved
loop-i-preserved c =
    let s = c.args.rest.now in
    elim c.if-escaped.branch [
      | then-escaped w ↦ let h = rw w.if-escaped.true at c.loop-i.invariant in rw w.escaped-is (past s c.loop-i.i c.loop-i-test.true h)
      | else-escaped+else-b-eq39 w ↦ let h = rw w.if-escaped.false at c.loop-i.invariant in rw w.escaped-is (along s c.loop-i.i c.loop-i-test.true (ne_eqb _ _ w.if-b-eq39.false) h)
    ]
