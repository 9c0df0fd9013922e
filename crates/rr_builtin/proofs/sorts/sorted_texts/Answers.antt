use Rattle.std.proofs.Common.{◌≡◌, ◌∙◌, List, Ok, Err, IfOk, IfErr, map, length, sym, ap, subst}
use Rattle.std.specs.List.{All}
use Rattle.std.proofs.lemmas.List.Sorted.{All-permutation}
use Rattle.rr_space.specs.Tables.{Below}
use Rattle.rr_space.specs.Parts.{value_of, IsWithin}
use Rattle.rr_space.specs.declared.refer.Ref.{Ref}
use Rattle.rr_text.specs.Reads.{IsAmong, IsReadWith}
use Rattle.rr_builtin.specs.declared.sorts.TextItem.{TextItem}
use Rattle.rr_builtin.specs.Acts.{MakesArray, IsRefAmong}
use Rattle.rr_builtin.specs.Elements.{elements_of, each_as}
use Rattle.rr_builtin.specs.Sorts.{is_text_before, text_of, text_value, item_of, in_order}
use Rattle.rr_builtin.proofs.Among.{among_of, of_among}
use Rattle.rr_builtin.proofs.Items.{texts_are, all_mapped}
use Rattle.rr_builtin.proofs.sorts.sorted_texts.Goals as goal

pub returns-in_ok-text_refs-in-Ok-clause-act : goal.returns-in_ok-text_refs-in-Ok-clause-act
returns-in_ok-text_refs-in-Ok-clause-act c = λ below read array first.
    let t = c.args.space.now in
    let seen : each_as (text_of below t) (elements_of t c.args.array) ≡ Ok (map item_of c.in-Ok.items.items) =
    subst (λ r. IfOk r (λ items. (b : Below) → IsReadWith t b → IsAmong b c.args.array → each_as (text_of b t) (elements_of t c.args.array) ≡ Ok (map item_of items.items))) c.in-Ok.is c.in_ok-items.ensures.all below read array in
    ap (λ rs. MakesArray (map value_of rs)) (c.in_ok-text_refs-in-Ok.ensures ∙ ap (map (λ (i : TextItem). i.value)) c.deref.ensures.value)
    ∙ ap MakesArray (texts_are c.sort_texts.new.items.items)
    ∙ ap (λ ps. MakesArray (map text_value ps)) c.in_ok-sort_texts-in-Ok.ensures.sorted
    ∙ sym (ap (in_order below t is_text_before text_value (value_of c.args.first)) seen)

pub returns-in_ok-text_refs-in-Ok-clause-fit : goal.returns-in_ok-text_refs-in-Ok-clause-fit
returns-in_ok-text_refs-in-Ok-clause-fit c =
    let k = length c.args.space.now.slots in
    let all : All (λ (i : TextItem). IsWithin k i.value) c.in-Ok.items.items = subst (λ r. IfOk r (λ items. All (λ (i : TextItem). IsWithin k i.value) items.items)) c.in-Ok.is c.in_ok-items.ensures.within in
    subst (λ (rs : List Ref). All (IsWithin k) rs) (sym (c.in_ok-text_refs-in-Ok.ensures ∙ ap (map (λ (i : TextItem). i.value)) c.deref.ensures.value))
    (all_mapped (IsWithin k) (λ (i : TextItem). i.value) c.sort_texts.new.items.items
    (All-permutation (λ (i : TextItem). IsWithin k i.value) c.in-Ok.items.items c.sort_texts.new.items.items c.sort_texts.ensures.permutation all))

pub returns-in_ok-text_refs-in-Ok-clause-among : goal.returns-in_ok-text_refs-in-Ok-clause-among
returns-in_ok-text_refs-in-Ok-clause-among c = λ below read array.
    let t = c.args.space.now in
    let all : All (λ (i : TextItem). IsRefAmong below i.value) c.in-Ok.items.items =
    subst (λ r. IfOk r (λ items. (b : Below) → IsReadWith t b → IsRefAmong b c.args.array → All (λ (i : TextItem). IsRefAmong b i.value) items.items)) c.in-Ok.is c.in_ok-items.ensures.among below read array in
    subst (λ (rs : List Ref). All (IsRefAmong below) rs) (sym (c.in_ok-text_refs-in-Ok.ensures ∙ ap (map (λ (i : TextItem). i.value)) c.deref.ensures.value))
    (all_mapped (IsRefAmong below) (λ (i : TextItem). i.value) c.sort_texts.new.items.items
    (All-permutation (λ (i : TextItem). IsRefAmong below i.value) c.in-Ok.items.items c.sort_texts.new.items.items c.sort_texts.ensures.permutation all))

pub returns-in-Err-clause-act : goal.returns-in-Err-clause-act
returns-in-Err-clause-act c = λ below read array first.
    let t = c.args.space.now in
    let seen : each_as (text_of below t) (elements_of t c.args.array) ≡ Err (value_of c.in-Err.other) =
    subst (λ r. IfErr r (λ x. (b : Below) → IsReadWith t b → IsAmong b c.args.array → each_as (text_of b t) (elements_of t c.args.array) ≡ Err (value_of x))) c.in-Err.is c.in_ok-items.ensures.other below read array in
    let among : IsRefAmong below c.in-Err.other =
    subst (λ r. IfErr r (λ x. (b : Below) → IsReadWith t b → IsRefAmong b c.args.array → IsRefAmong b x)) c.in-Err.is c.in_ok-items.ensures.other_among below read (of_among below c.args.array array) in
    c.incomparable.ensures.act below read first (among_of below c.in-Err.other among)
    ∙ sym (ap (in_order below t is_text_before text_value (value_of c.args.first)) seen)

pub returns-in-Err-clause-fit : goal.returns-in-Err-clause-fit
returns-in-Err-clause-fit c = c.incomparable.ensures.fit c.args.array

pub returns-in-Err-clause-among : goal.returns-in-Err-clause-among
returns-in-Err-clause-among c = λ below read array. c.incomparable.ensures.among below
