use Rattle.std.proofs.Common.{rules, ◌≡◌, ◌∙◌, ◌<◌, Some, Err, length, map, sym, ap, subst}
use Rattle.rr_space.specs.Parts.{value_of}
use Rattle.rr_space.specs.Labels.{triples_at}
use Rattle.rr_builtin.specs.Objects.{is_text_kind}
use Rattle.rr_builtin.specs.Elements.{each_as}
use Rattle.rr_builtin.specs.Sorts.{text_of, item_of}
use Rattle.rr_builtin.proofs.Among.{among_of, of_among}
use Rattle.rr_builtin.proofs.Each.{each_other}
use Rattle.rr_builtin.proofs.Items.{items_more, text_seen, none_seen}
use Rattle.rr_builtin.proofs.Listing.{listed, listed_all}
use Rattle.rr_builtin.proofs.sorts.text_items.Goals as goal

pub returns-then-not-is_text_kind-clause-other : goal.returns-then-not-is_text_kind-clause-other
returns-then-not-is_text_kind-clause-other c = λ below read array.
    let t = c.args.space.now in
    let v = c.args.array in
    let n = c.loop-place.place in
    let r = c.element-value.result in
    let among = among_of below r (c.element-value.ensures.among below read (of_among below v array)) in
    let kind = sym (c.is_text_kind.ensures ∙ ap is_text_kind c.kind_of.ensures) ∙ c.if-not-is_text_kind.true in
    each_other (text_of below t) t v n (map item_of c.loop-place.items.items) (subst (λ m. n < m) c.arity-place-end.ensures.count c.loop-place-test.true) (c.loop-place.invariant.are below read array)
    (ap (text_of below t) (sym c.element-value.ensures.is) ∙ none_seen t below r c.len-count.ensures.well.sound read among kind)
    ∙ ap Err (sym c.element-value.ensures.is)

pub loop-place-preserved : goal.loop-place-preserved
loop-place-preserved c =
    let t = c.args.space.now in
    let v = c.args.array in
    let r = c.element-value.result in
    let kind = sym (c.is_text_kind.ensures ∙ ap is_text_kind c.kind_of.ensures) ∙ c.if-not-is_text_kind.false in
    items_more t v c.loop-place.items.items c.push.new.self.items (record { bytes = c.text_bytes-bytes.result; value = r }) c.loop-place.place c.loop-place.invariant c.in_ok-push.ensures.items
    (λ below read array.
    ap (text_of below t) (sym c.element-value.ensures.is)
    ∙ text_seen t below r c.len-count.ensures.well.sound read (among_of below r (c.element-value.ensures.among below read (of_among below v array))) kind
    ∙ ap (λ bs. Some (bs, value_of r)) (sym c.text_bytes-bytes.ensures))
    c.element-value.ensures.within c.element-value.ensures.among

pub returns-clause-all : goal.returns-clause-all
returns-clause-all c = λ below read array.
    let t = c.args.space.now in
    let v = c.args.array in
    let is : c.loop-place.place ≡ length (triples_at t v) = search rules in
    ap (λ xs. each_as (text_of below t) xs) (sym (listed_all t v) ∙ ap (listed t v) (sym is)) ∙ c.loop-place.invariant.are below read array
