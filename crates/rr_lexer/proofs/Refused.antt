-- A source that is refused has no tokens.
use Rattle.std.proofs.Common.{ℕ, ◌≢◌, inl, inr, List, refl, arith, Result, Ok, Err, IfErr}
use Rattle.rr_lexer.specs.Tokens.{Faults, AreTokensOf}
use Rattle.rr_base.specs.declared.fault.Fault.{Fault}
use Rattle.rr_base.specs.declared.fault.Fault.TheVariants as faults
use Rattle.rr_lexer.specs.declared.kind.Token.{Token}
use Rattle.rr_lexer.proofs.Tiling.{stuck_is_not_spelled}

pub refused_none : (source : List ℕ) (fault : Fault) → Faults source fault → fault ≢ faults.Memory → (tokens : List Token) → AreTokensOf source tokens → ⊥
refused_none source faults.Memory f n tokens t = n refl
refused_none source (faults.Limit limit) f n tokens t = omega (arith, f.1, t.short)
refused_none source (faults.Syntax line column kind) (inl f) n tokens t = omega (arith, f.1, t.allowed)
refused_none source (faults.Syntax line column kind) (inr f) n tokens t = stuck_is_not_spelled source f.1.place f.1.stuck t.all t.spelled
refused_none source _ f n tokens t = absurd f

pub refused_has_none : {X : Type 0} (source : List ℕ) (r : Result X Fault) → IfErr r (λ fault. Faults source fault)
    → IfErr r (λ fault. fault ≢ faults.Memory → (tokens : List Token) → AreTokensOf source tokens → ⊥)
refused_has_none source (Ok x) h = tt
refused_has_none source (Err f) h = λ n tokens t. refused_none source f h n tokens t
