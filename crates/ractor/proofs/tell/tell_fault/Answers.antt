-- The line of each fault.
use Rattle.std.proofs.Common.{ℕ, List, ◌++◌, codes, sym, subst, ◌∙◌}
use Rattle.rr_base.specs.Names.{limit_name}
use Rattle.rr_eval.specs.Counted.{counted}
use Rattle.rr_eval.specs.Written.{Puts}
use Rattle.ractor.specs.Lines.{fault_line}
use Rattle.ractor.proofs.Telling.{other_line}
use Rattle.ractor.proofs.tell.tell_fault.Goals as goal

pub returns-in-Limit : goal.returns-in-Limit
returns-in-Limit g c =
    let seen = counted g.E.Write.contents in
    let P : List ℕ → Type 0 = λ line. Puts (seen c.args.errors.now) (seen c.put_all.new.errors) line c.put_all.result in
    let named = c.as_bytes.ensures.value ∙ c.name.ensures in
    let told : P (codes "ractor: limit " ++ limit_name c.in-Limit.kind ++ codes "\n") = subst (λ name. P (codes "ractor: limit " ++ name ++ codes "\n")) named c.put_all.ensures in
    subst (λ f. P (fault_line f)) (sym c.in-Limit.is) told

pub returns-in_default : goal.returns-in_default
returns-in_default g c =
    let seen = counted g.E.Write.contents in
    let P : List ℕ → Type 0 = λ line. Puts (seen c.args.errors.now) (seen c.put_all-in_default.new.errors) line c.put_all-in_default.result in
    subst P (sym (other_line c.args.fault.now c.in_default.not-Syntax c.in_default.not-Limit)) c.put_all-in_default.ensures
