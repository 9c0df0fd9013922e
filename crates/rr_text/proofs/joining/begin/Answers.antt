use Rattle.std.proofs.Common.{◌∙◌, ◌<◌, ◌^◌, length, refl, ap, sym, arith}
use Rattle.std.specs.List.{list_any}
use Rattle.std.proofs.lemmas.List.Elements.{All-same, All-push}
use Rattle.rr_space.specs.Tables.{resolve}
use Rattle.rr_space.specs.Parts.{value_of}
use Rattle.rr_space.specs.Labels.{triples_at}
use Rattle.rr_text.specs.Same.{same_value}
use Rattle.rr_text.specs.Reads.{IsAmong}
use Rattle.rr_text.specs.Joining.{key_of}
use Rattle.rr_text.specs.declared.joining.Opened.{Opened}
use Rattle.rr_text.proofs.Joins.{begun_again, begun_deep, begun_inside, grown_same, grown_push}
use Rattle.rr_text.proofs.joining.begin.Goals as goal

pub returns-then-is_above-clause-showed : goal.returns-then-is_above-clause-showed
returns-then-is_above-clause-showed c = λ names g asks separator out e.
    let slots = c.args.space.now.slots in
    let v = resolve slots (value_of c.args.array) in
    begun_again names g asks c.args.levels separator slots c.args.arrays.now.items out v e c.args.arrays.now.items
    (ap (list_any (λ f. same_value v (key_of slots f))) (sym c.deref.ensures.value) ∙ sym c.is_above.ensures ∙ c.if-is_above.true)

pub returns-then-is_above-clause-grown : goal.returns-then-is_above-clause-grown
returns-then-is_above-clause-grown c = grown_same c.args.space.now c.args.levels c.args.arrays.now.items c.requires.fit

pub returns-then-len-levels-clause-showed : goal.returns-then-len-levels-clause-showed
returns-then-len-levels-clause-showed c = λ names g asks separator out e.
    let slots = c.args.space.now.slots in
    let v = resolve slots (value_of c.args.array) in
    begun_deep names g asks c.args.levels separator slots c.args.arrays.now.items out v e c.args.arrays.now.items
    (ap (list_any (λ f. same_value v (key_of slots f))) (sym c.deref.ensures.value) ∙ sym c.is_above.ensures ∙ c.if-is_above.false)
    (omega (arith, c.len.ensures, c.if-len-levels.true))

pub returns-then-len-levels-clause-grown : goal.returns-then-len-levels-clause-grown
returns-then-len-levels-clause-grown c = grown_same c.args.space.now c.args.levels c.args.arrays.now.items c.requires.fit

pub returns-clause-showed : goal.returns-clause-showed
returns-clause-showed c = λ names g asks separator out e.
    let slots = c.args.space.now.slots in
    let v = resolve slots (value_of c.args.array) in
    let f : Opened = record { array = c.args.array; next = 0 } in
    begun_inside names g asks c.args.levels separator slots c.args.arrays.now.items out v e f c.push.new.self.items
    (ap (list_any (λ f. same_value v (key_of slots f))) (sym c.deref.ensures.value) ∙ sym c.is_above.ensures ∙ c.if-is_above.false)
    (omega (arith, c.len.ensures, c.if-len-levels.false)) refl refl c.in_ok-push.ensures.items

pub returns-clause-grown : goal.returns-clause-grown
returns-clause-grown c =
    let f : Opened = record { array = c.args.array; next = 0 } in
    let few : length (triples_at c.args.space.now c.args.array) < 2 ^ 64 = omega (arith, c.arity-count.ensures.count) in
    grown_push c.args.space.now c.args.levels c.args.arrays.now.items c.push.new.self.items f c.in_ok-push.ensures.items (omega (arith, c.len.ensures, c.if-len-levels.false)) few

pub returns-clause-among : goal.returns-clause-among
returns-clause-among c = λ below all one.
    let f : Opened = record { array = c.args.array; next = 0 } in
    All-same (λ (f : Opened). IsAmong below f.array) _ _ c.in_ok-push.ensures.items (All-push (λ (f : Opened). IsAmong below f.array) c.args.arrays.now.items f all one)
