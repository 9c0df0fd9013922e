use Rattle.std.proofs.Common.{◌≡◌, ◌∙◌, map, ap, sym, nat_eq, true, false, length}
use Rattle.std.specs.Option.{option_map}
use Rattle.rr_space.specs.Labels.{triples_at}
use Rattle.rr_text.specs.Comparing.{branched}
use Rattle.rr_text.specs.Beside.{resolved}
use Rattle.rr_text.proofs.Sided.{equal, unequal, matches_differ, matches_found}
use Rattle.rr_text.proofs.sight.inside_hashes.Goals as goal

pub returns-then-arity-clause-is : goal.returns-then-arity-clause-is
returns-then-arity-clause-is c = λ below read among_left among_right.
    let t = c.args.space.now in
    let out : nat_eq (length (triples_at t c.args.left)) (length (triples_at t c.args.right)) ≡ false =
    unequal _ _ (λ e. c.if-arity.true (c.arity.ensures.count ∙ e ∙ sym c.arity-2.ensures.count)) in
    ap (branched (resolved t.slots (record { left = c.args.left; right = c.args.right })))
    (sym (matches_differ t below c.len-count.ensures.well.sound read c.args.left c.args.right among_left among_right out))

pub returns-in-Some-clause-is : goal.returns-in-Some-clause-is
returns-in-Some-clause-is c = λ below read among_left among_right.
    let t = c.args.space.now in
    let same : nat_eq (length (triples_at t c.args.left)) (length (triples_at t c.args.right)) ≡ true =
    equal _ _ (sym c.arity.ensures.count ∙ c.if-arity.false ∙ c.arity-2.ensures.count) in
    ap (branched (resolved t.slots (record { left = c.args.left; right = c.args.right })))
    (ap (option_map (λ v. map (resolved t.slots) v.items)) (sym c.in-Some.is) ∙ c.in_ok-sides.ensures.sides below read among_left among_right
    ∙ sym (matches_found t below c.len-count.ensures.well.sound read c.args.left c.args.right among_left among_right same))

pub returns-in-None-clause-is : goal.returns-in-None-clause-is
returns-in-None-clause-is c = λ below read among_left among_right.
    let t = c.args.space.now in
    let same : nat_eq (length (triples_at t c.args.left)) (length (triples_at t c.args.right)) ≡ true =
    equal _ _ (sym c.arity.ensures.count ∙ c.if-arity.false ∙ c.arity-2.ensures.count) in
    ap (branched (resolved t.slots (record { left = c.args.left; right = c.args.right })))
    (ap (option_map (λ v. map (resolved t.slots) v.items)) (sym c.in-None.is) ∙ c.in_ok-sides.ensures.sides below read among_left among_right
    ∙ sym (matches_found t below c.len-count.ensures.well.sound read c.args.left c.args.right among_left among_right same))
