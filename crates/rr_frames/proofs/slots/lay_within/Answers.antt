use Rattle.std.proofs.Common.{◌≡◌, ◌+◌, ◌-◌, ◌∙◌, ap, arith, length, ℕ, List, ◌++◌, take}
use Rattle.std.specs.Prelude.{replicate}
use Rattle.std.proofs.lemmas.List.{append_assoc}
use Rattle.rr_space.specs.declared.refer.Ref.{Ref}
use Rattle.rr_space.specs.declared.refer.Ref.TheVariants.{Nil}
use Rattle.rr_frames.specs.Frames.{list_of}
use Rattle.rr_frames.proofs.Laid.{filled}
use Rattle.rr_frames.proofs.slots.lay_within.Goals as goal

pub returns : goal.returns
returns c =
    let old = c.args.slots.now.items in
    let xs = c.args.values.now ++ list_of c.args.last in
    let base : c.len-base.result ≡ length old = omega arith in
    let cut = λ (b : ℕ) (l : List Ref). take (b + c.args.shape.size) l ++ replicate (b + c.args.shape.size - length l) Nil in
    c.cut_within.ensures
    ∙ ap (cut c.len-base.result) c.truncate.ensures.items
    ∙ ap (λ l. cut c.len-base.result (take (c.len-base.result + c.args.shape.parameters) l)) (c.append_within.ensures.items ∙ append_assoc old c.args.values.now (list_of c.args.last))
    ∙ ap (λ b. cut b (take (b + c.args.shape.parameters) (old ++ xs))) base
    ∙ filled old xs c.args.shape.parameters c.args.shape.size
