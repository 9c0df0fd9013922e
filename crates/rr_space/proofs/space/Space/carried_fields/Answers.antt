use Rattle.std.proofs.Common.{◌+◌, List, take, subst, sym, refl}
use Rattle.std.specs.List.{AllZip}
use Rattle.std.proofs.lemmas.List.Elements.{all_zip_more}
use Rattle.rr_base.specs.declared.name.Sym.{Sym}
use Rattle.rr_space.specs.Views.{IsCarriedField}
use Rattle.rr_space.specs.declared.refer.Ref.{Ref}
use Rattle.rr_space.proofs.space.Space.carried_fields.Goals as goal

pub loop-field-preserved : goal.loop-field-preserved
loop-field-preserved c =
    let fields = c.args.fields.now in
    let i = c.loop-field.field-index in
    let f = c.field-item.result in
    let R : Sym × Ref → Sym × Ref → Type 0 = IsCarriedField c.args.self.now c.args.names.now in
    let e = c.carried.ensures in
    subst (AllZip R (take (i + 1) fields)) (sym {A = List (Sym × Ref)} c.in_ok-push.ensures.items)
    (all_zip_more R fields c.loop-field.copies.items i f (f.0, c.carried.result) c.loop-field-test.true c.field-item.is c.loop-field.invariant
    (record { name = refl; value = record { same = e.same; within = e.within; below = e.below } }))
