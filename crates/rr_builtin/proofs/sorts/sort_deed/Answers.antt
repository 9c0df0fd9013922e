use Rattle.std.proofs.Common.{◌∙◌, nat_eq, sym, ap}
use Rattle.rr_space.specs.Parts.{value_of}
use Rattle.rr_builtin.specs.Elements.{elements_of}
use Rattle.rr_builtin.specs.Kinds.{is_integer_kind}
use Rattle.rr_builtin.specs.Objects.{is_text_kind}
use Rattle.rr_builtin.proofs.Among.{among_of, of_among}
use Rattle.rr_tree.proofs.Above.{differ}
use Rattle.rr_builtin.proofs.Classing.{kind_is}
use Rattle.rr_builtin.proofs.Items.{like_numbers, like_texts, like_none, sorted_first}
use Rattle.rr_builtin.proofs.sorts.sort_deed.Goals as goal

pub returns-then-is_integer_kind-clause-act : goal.returns-then-is_integer_kind-clause-act
returns-then-is_integer_kind-clause-act c = λ below read array.
    let t = c.args.space.now in
    let v = c.args.array in
    let r = c.element-first.result in
    let among = among_of below r (c.element-first.ensures.among below read (of_among below v array)) in
    let kind = c.kind_of-kind.ensures ∙ kind_is t below r c.len-count.ensures.well.sound read among in
    let number = sym (c.is_integer_kind.ensures ∙ ap is_integer_kind kind) ∙ c.if-is_integer_kind.true in
    c.in_ok-deed.ensures.act below read array among
    ∙ like_numbers below t (value_of r) (elements_of t v) number
    ∙ sorted_first below t v (value_of r) (ap (λ n. nat_eq n 0) (sym c.arity.ensures.count) ∙ differ c.arity.result 0 c.if-arity-eq0.false) c.element-first.ensures.is

pub returns-then-is_integer_kind-clause-among : goal.returns-then-is_integer_kind-clause-among
returns-then-is_integer_kind-clause-among c = λ below read array. c.in_ok-deed.ensures.among below

pub returns-then-is_text_kind-clause-act : goal.returns-then-is_text_kind-clause-act
returns-then-is_text_kind-clause-act c = λ below read array.
    let t = c.args.space.now in
    let v = c.args.array in
    let r = c.element-first.result in
    let among = among_of below r (c.element-first.ensures.among below read (of_among below v array)) in
    let kind = c.kind_of-kind.ensures ∙ kind_is t below r c.len-count.ensures.well.sound read among in
    let number = sym (c.is_integer_kind.ensures ∙ ap is_integer_kind kind) ∙ c.if-is_integer_kind.false in
    let text = sym (c.is_text_kind.ensures ∙ ap is_text_kind kind) ∙ c.if-is_text_kind.true in
    c.in_ok-deed-2.ensures.act below read array among
    ∙ like_texts below t (value_of r) (elements_of t v) number text
    ∙ sorted_first below t v (value_of r) (ap (λ n. nat_eq n 0) (sym c.arity.ensures.count) ∙ differ c.arity.result 0 c.if-arity-eq0.false) c.element-first.ensures.is

pub returns-clause-act : goal.returns-clause-act
returns-clause-act c = λ below read array.
    let t = c.args.space.now in
    let v = c.args.array in
    let r = c.element-first.result in
    let among = among_of below r (c.element-first.ensures.among below read (of_among below v array)) in
    let kind = c.kind_of-kind.ensures ∙ kind_is t below r c.len-count.ensures.well.sound read among in
    let number = sym (c.is_integer_kind.ensures ∙ ap is_integer_kind kind) ∙ c.if-is_integer_kind.false in
    let text = sym (c.is_text_kind.ensures ∙ ap is_text_kind kind) ∙ c.if-is_text_kind.false in
    c.incomparable.ensures.act below read among among
    ∙ like_none below t (value_of r) (elements_of t v) number text
    ∙ sorted_first below t v (value_of r) (ap (λ n. nat_eq n 0) (sym c.arity.ensures.count) ∙ differ c.arity.result 0 c.if-arity-eq0.false) c.element-first.ensures.is

pub returns-clause-fit : goal.returns-clause-fit
returns-clause-fit c = c.incomparable.ensures.fit c.args.array

pub returns-clause-among : goal.returns-clause-among
returns-clause-among c = λ below read array. c.incomparable.ensures.among below
