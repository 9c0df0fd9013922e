use Rattle.std.proofs.Common.{◌≡◌, ◌∙◌, ap, sym, nat_eq, true, false, length}
use Rattle.rr_space.specs.Labels.{triples_at}
use Rattle.rr_text.specs.Comparing.{branched}
use Rattle.rr_text.specs.Beside.{resolved}
use Rattle.rr_text.proofs.Sided.{equal, unequal, rows_differ, rows_found}
use Rattle.rr_text.proofs.sight.inside_arrays.Goals as goal

pub returns-then-arity-clause-is : goal.returns-then-arity-clause-is
returns-then-arity-clause-is c = λ below read among_left among_right.
    let t = c.args.space.now in
    let out : nat_eq (length (triples_at t c.args.left)) (length (triples_at t c.args.right)) ≡ false =
    unequal _ _ (λ e. c.if-arity.true (c.arity.ensures.count ∙ e ∙ sym c.arity-2.ensures.count)) in
    ap (branched (resolved t.slots (record { left = c.args.left; right = c.args.right })))
    (sym (rows_differ t below c.len-count.ensures.well.sound read c.args.left c.args.right among_left among_right out))

pub returns-clause-is : goal.returns-clause-is
returns-clause-is c = λ below read among_left among_right.
    let t = c.args.space.now in
    let same : nat_eq (length (triples_at t c.args.left)) (length (triples_at t c.args.right)) ≡ true =
    equal _ _ (sym c.arity.ensures.count ∙ c.if-arity.false ∙ c.arity-2.ensures.count) in
    ap (branched (resolved t.slots (record { left = c.args.left; right = c.args.right })))
    (sym (rows_found t below c.len-count.ensures.well.sound read c.args.left c.args.right among_left among_right c.in_ok-rows.field-0.items same c.in_ok-rows.ensures.sides))
