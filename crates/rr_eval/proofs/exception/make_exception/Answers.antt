-- One object more, or none.
use Rattle.std.proofs.Common.{[], ◌∷◌, ◌++◌, ap, ◌∙◌, map}
use Rattle.std.proofs.Math.Logic.{⊎_elim}
use Rattle.std.proofs.lemmas.List.Elements.{Contains-append_cases}
use Rattle.rr_space.specs.Parts.{below_ref, below_parts, field_part}
use Rattle.rr_space.specs.declared.refer.Ref.TheVariants.{Nil}
use Rattle.rr_builtin.proofs.Among.{among_of, none_in}
use Rattle.rr_builtin.proofs.Arraying.{read_more}
use Rattle.rr_eval.specs.Exceptions.{exception_parts}
use Rattle.rr_eval.proofs.Changing.{append_changes, same_changes}
use Rattle.rr_eval.proofs.Holding.{none_distinct}
use Rattle.rr_eval.proofs.exception.make_exception.Goals as goal

pub returns-in-Ok-clause-changed : goal.returns-in-Ok-clause-changed
returns-in-Ok-clause-changed c = append_changes c.args.space.now c.alloc.new.self _ c.in-Ok.ensures.slots c.in-Ok.ensures.rest.limit c.in-Ok.ensures.rest.owner

pub returns-in-Ok-clause-read : goal.returns-in-Ok-clause-read
returns-in-Ok-clause-read c = λ below read among caused.
    let old = c.args.space.now.below in
    let raised = c.in_ok-raised.raised.value in
    let are = c.in_ok-raised.ensures in
    let same =
    ap (λ m. old ++ (below_ref m ++ (below_ref raised.cause ++ (below_ref raised.ractor ++ below_parts (map field_part raised.fields.items)))) ∷ []) are.message
    ∙ ap (λ m. old ++ (below_ref c.args.message ++ (below_ref m ++ (below_ref raised.ractor ++ below_parts (map field_part raised.fields.items)))) ∷ []) are.cause
    ∙ ap (λ m. old ++ (below_ref c.args.message ++ (below_ref c.args.cause ++ (below_ref m ++ below_parts (map field_part raised.fields.items)))) ∷ []) are.ractor
    ∙ ap (λ fs. old ++ (below_ref c.args.message ++ (below_ref c.args.cause ++ (below_ref Nil ++ below_parts (map field_part fs)))) ∷ []) are.fields in
    let rest = below_ref c.args.cause ++ [] in
    read_more below c.args.space.now c.alloc.new.self (below_parts (exception_parts c.args.message c.args.cause)) read (c.in-Ok.ensures.below ∙ same)
    (λ e has. ⊎_elim (among_of below c.args.message among e)
    (λ in_rest. ⊎_elim (among_of below c.args.cause caused e) (λ none. none_in e none) (Contains-append_cases (below_ref c.args.cause) [] e in_rest))
    (Contains-append_cases (below_ref c.args.message) rest e has))

pub returns-in-Err-clause-changed : goal.returns-in-Err-clause-changed
returns-in-Err-clause-changed c = same_changes c.args.space.now c.alloc.new.self c.in-Err.ensures.refused

pub alloc-requires-clause-fields : goal.alloc-requires-clause-fields
alloc-requires-clause-fields c = none_distinct _ c.in_ok-raised.ensures.fields
