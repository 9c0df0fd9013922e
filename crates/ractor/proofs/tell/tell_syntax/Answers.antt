-- The line, with its numbers and its words.
use Rattle.std.proofs.Common.{ℕ, List, [], ◌∷◌, codes, decimal, subst, ◌∙◌}
use Rattle.std.specs.List.{concat}
use Rattle.rr_eval.specs.Counted.{counted}
use Rattle.rr_eval.specs.Written.{Puts}
use Rattle.ractor.proofs.tell.tell_syntax.Goals as goal

pub returns : goal.returns
returns g c =
    let seen = counted g.E.Write.contents in
    let line_is = c.as_bytes-line.ensures.value ∙ c.format.ensures.text in
    let column_is = c.as_bytes-column.ensures.value ∙ c.format-2.ensures.text in
    let name_is = c.as_bytes-name.ensures.value ∙ c.name.ensures in
    let P : List ℕ → List ℕ → List ℕ → Type 0 = λ line column name. Puts (seen c.args.errors.now) (seen c.put_all.new.errors) (concat (codes "ractor: syntax error, line " ∷ line ∷ codes ", column " ∷ column ∷ codes ": " ∷ name ∷ codes "\n" ∷ [])) c.put_all.result in
    let line = c.as_bytes-line.result.now in
    let column = c.as_bytes-column.result.now in
    let name = c.as_bytes-name.result.now in
    let with_line = subst (λ l. P l column name) line_is c.put_all.ensures in
    let with_column = subst (λ k. P (decimal c.args.line) k name) column_is with_line in
    subst (P (decimal c.args.line) (decimal c.args.column)) name_is with_column
