-- A new space has three objects then, and leads to no cluster; nor does a new store.
use Rattle.std.proofs.Common.{◌≡◌, ℕ, List, [], ◌∷◌, length, length-append, subst, sym, ap, arith, Some}
use Rattle.rr_base.specs.declared.name.TheConstants.ClassId.{OBJECT}
use Rattle.rr_space.specs.Tables.{Table, Slot, Here}
use Rattle.rr_builtin.specs.Acts.{array_object, with_object}
use Rattle.rr_builtin.specs.News.{new_plain}
use Rattle.rr_store.specs.Stores.{Store}
use Rattle.rr_text.specs.Reads.{IsReadWith}
use Rattle.rr_eval.specs.Published.{published}
use Rattle.rr_eval.specs.Within.{reach, IsReached}
use Rattle.rr_eval.proofs.Calling.{none_read}
use Rattle.examples_machine.proofs.setting.set_and_get.Goals as goal

pub set_constant-requires-clause-read : goal.set_constant-requires-clause-read
set_constant-requires-clause-read c =
    let none = none_read c.new-space.result c.new-space.ensures.below in
    subst (λ (s : Store). IsReadWith c.make_first.new.space (published s)) (sym c.new-store.ensures) (c.in_ok-make_first.ensures.read none)

pub set_constant-requires-clause-value : goal.set_constant-requires-clause-value
set_constant-requires-clause-value c =
    let plain = new_plain OBJECT.0 in
    let one = with_object plain [] c.new-space.result in
    let two = with_object plain [] one in
    let three : length c.make_first.new.space.slots ≡ 3 = omega (arith, ap (λ (x : Table). length x.slots) c.in_ok-make_first.ensures.made, length-append two.slots (Here (array_object []) ∷ []), length-append one.slots (Here plain ∷ []), length-append c.new-space.result.slots (Here plain ∷ []), ap (λ (s : List Slot). length s) c.new-space.ensures.slots) in
    subst (λ (n : ℕ). IsReached (reach n (Some (published c.new-store.result))) c.args.value) (sym three) (subst (λ (s : Store). IsReached (reach 3 (Some (published s))) c.args.value) (sym c.new-store.ensures) c.requires)
