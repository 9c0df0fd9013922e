use Rattle.std.proofs.Common.{◌≡◌, ◌∙◌, ◌++◌, List, ℕ, codes, ap}
use Rattle.std.specs.Fmt.{decimal}
use Rattle.rr_builtin.specs.Problems.{expected_text}
use Rattle.rr_builtin.proofs.Behind.{behind_two}
use Rattle.rr_builtin.proofs.problem.write_count.Goals as goal

pub returns : goal.returns
returns c =
    let digits : c.as_bytes-given.result.now ≡ decimal c.args.given = c.as_bytes-given.ensures.value ∙ c.format.ensures.text in
    behind_two _ c.args.out.now.items _ _ (codes "wrong number of arguments (given " ++ decimal c.args.given ++ codes ", expected ") (expected_text c.args.least c.args.most) (codes ")")
    (c.in_ok-write_three.ensures ∙ ap (λ (l : List ℕ). c.args.out.now.items ++ (codes "wrong number of arguments (given " ++ l ++ codes ", expected ")) digits) c.write_expected_end.ensures
