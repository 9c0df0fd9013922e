use Rattle.std.proofs.Common.{◌∙◌, ap, sym}
use Rattle.std.specs.Str.{bytes_eq}
use Rattle.rr_space.specs.Tables.{graph_of, resolve}
use Rattle.rr_space.specs.Parts.{value_of}
use Rattle.rr_space.specs.Kinds.{kind_at}
use Rattle.rr_text.specs.Walk.{Leaf}
use Rattle.rr_text.specs.Same.{bytes_in}
use Rattle.rr_text.specs.Comparing.{decided, likeness}
use Rattle.rr_text.proofs.Sided.{on_ok, seen_one, seen_like, bytes_told, hashes_alike}
use Rattle.rr_text.proofs.sight.sight_at.Goals as goal

pub returns-then-is_one-clause-is : goal.returns-then-is_one-clause-is
returns-then-is_one-clause-is c = λ below read among_left among_right.
    seen_one c.args.space.now below c.len-count.ensures.well.sound read c.args.left c.args.right among_left among_right (sym c.is_one.ensures ∙ c.if-is_one.true)

pub returns-in-Moved-clause-is : goal.returns-in-Moved-clause-is
returns-in-Moved-clause-is c = λ below read among_left among_right.
    seen_like c.args.space.now below c.len-count.ensures.well.sound read c.args.left c.args.right among_left among_right _ (sym c.is_one.ensures ∙ c.if-is_one.false)
    (ap (λ k. likeness k (kind_at c.args.space.now c.args.right)) (sym c.kind_of.ensures) ∙ ap (likeness c.kind_of.result) (sym c.kind_of-2.ensures) ∙ sym c.likeness_of.ensures ∙ c.in-Moved.is)

pub returns-in-Unlike-clause-is : goal.returns-in-Unlike-clause-is
returns-in-Unlike-clause-is c = λ below read among_left among_right.
    seen_like c.args.space.now below c.len-count.ensures.well.sound read c.args.left c.args.right among_left among_right _ (sym c.is_one.ensures ∙ c.if-is_one.false)
    (ap (λ k. likeness k (kind_at c.args.space.now c.args.right)) (sym c.kind_of.ensures) ∙ ap (likeness c.kind_of.result) (sym c.kind_of-2.ensures) ∙ sym c.likeness_of.ensures ∙ c.in-Unlike.is)

pub returns-in-Texts-clause-is : goal.returns-in-Texts-clause-is
returns-in-Texts-clause-is c = λ below read among_left among_right.
    let t = c.args.space.now in
    let g = graph_of t.slots below in
    let sound = c.len-count.ensures.well.sound in
    ap Leaf (c.decided.ensures ∙ ap decided (c.eq-same.ensures
    ∙ ap (λ s. bytes_eq s c.text_bytes-in-Texts.result.now) (c.text_bytes.ensures ∙ sym (bytes_told t below sound read c.args.left among_left))
    ∙ ap (λ s. bytes_eq (bytes_in g (resolve t.slots (value_of c.args.left))) s) (c.text_bytes-in-Texts.ensures ∙ sym (bytes_told t below sound read c.args.right among_right))))
    ∙ seen_like t below sound read c.args.left c.args.right among_left among_right _ (sym c.is_one.ensures ∙ c.if-is_one.false)
    (ap (λ k. likeness k (kind_at t c.args.right)) (sym c.kind_of.ensures) ∙ ap (likeness c.kind_of.result) (sym c.kind_of-2.ensures) ∙ sym c.likeness_of.ensures ∙ c.in-Texts.is)

pub returns-in-Arrays-clause-is : goal.returns-in-Arrays-clause-is
returns-in-Arrays-clause-is c = on_ok _ _ c.inside_arrays.result c.inside_arrays.ensures.is (λ s is below read among_left among_right. is below read among_left among_right
    ∙ seen_like c.args.space.now below c.len-count.ensures.well.sound read c.args.left c.args.right among_left among_right _ (sym c.is_one.ensures ∙ c.if-is_one.false)
    (ap (λ k. likeness k (kind_at c.args.space.now c.args.right)) (sym c.kind_of.ensures) ∙ ap (likeness c.kind_of.result) (sym c.kind_of-2.ensures) ∙ sym c.likeness_of.ensures ∙ c.in-Arrays.is))

pub inside_hashes-requires : goal.inside_hashes-requires
inside_hashes-requires c =
    hashes_alike (kind_at c.args.space.now c.args.left) (kind_at c.args.space.now c.args.right)
    (ap (λ k. likeness k (kind_at c.args.space.now c.args.right)) (sym c.kind_of.ensures) ∙ ap (likeness c.kind_of.result) (sym c.kind_of-2.ensures) ∙ sym c.likeness_of.ensures ∙ c.in-Hashes.is)

pub returns-in-Hashes-clause-is : goal.returns-in-Hashes-clause-is
returns-in-Hashes-clause-is c = on_ok _ _ c.inside_hashes.result c.inside_hashes.ensures.is (λ s is below read among_left among_right. is below read among_left among_right
    ∙ seen_like c.args.space.now below c.len-count.ensures.well.sound read c.args.left c.args.right among_left among_right _ (sym c.is_one.ensures ∙ c.if-is_one.false)
    (ap (λ k. likeness k (kind_at c.args.space.now c.args.right)) (sym c.kind_of.ensures) ∙ ap (likeness c.kind_of.result) (sym c.kind_of-2.ensures) ∙ sym c.likeness_of.ensures ∙ c.in-Hashes.is))
