use Rattle.std.proofs.Common.{ℕ, ◌≡◌, ◌<◌, Bool, true, false, List, length, take, refl, ap, sym, ◌∙◌, arith, length-take}
use Rattle.std.proofs.lemmas.Slice.Eq.{bytes_eq-Decides}
use Rattle.std.proofs.lemmas.Bool.{lt-leb}
use Rattle.std.specs.Str.{bytes_eq}
use Rattle.rr_lexer.specs.Freezes.{frozen_comment, has_comment}
use Rattle.rr_lexer.proofs.freezes.has_comment.Goals as goal

differs : (s : List ℕ) (x : Bool) → bytes_eq (take 29 s) frozen_comment ≡ x → length s < 29 → x ≡ false
differs s true e l = absurd (omega (arith, ap length ((bytes_eq-Decides (take 29 s) frozen_comment).0 e), length-take 29 s, l))
differs s false e l = refl

no_comment : (s : List ℕ) → length s < 29 → has_comment s ≡ false
unfolding has_comment
no_comment s l = differs s (bytes_eq (take 29 s) frozen_comment) refl l

pub returns-else-rest-ge29-clause-is : goal.returns-else-rest-ge29-clause-is
returns-else-rest-ge29-clause-is c =
    let s = c.args.rest.now in
    lt-leb 29 (length s) c.if-rest-ge29.false ∙ sym (no_comment s c.if-rest-ge29.false)
