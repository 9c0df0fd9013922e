use Rattle.std.proofs.Common.{◌+◌, ◌<◌, List, length, get_or, take, subst, sym, ◌∙◌, arith}
use Rattle.std.specs.List.{AllZip}
use Rattle.std.proofs.lemmas.Option.{slice_get-get_or, none-some}
use Rattle.rr_space.specs.Views.{IsCarried}
use Rattle.rr_space.specs.declared.refer.Ref.{Ref}
use Rattle.rr_space.specs.declared.refer.Ref.TheVariants.{Nil}
use Rattle.rr_space.proofs.Carrying.{more_at}
use Rattle.rr_space.proofs.space.Space.carried_elements.Goals as goal
use Rattle.rr_space.proofs.space.Space.carried_elements.Goals.{in-Some+in_ok-push, in_default}

pub loop-k-preserved : goal.loop-k-preserved
loop-k-preserved c =
    let items = c.args.items.now in
    let k = c.loop-k.k in
    let R = IsCarried c.args.self.now c.args.names.now in
    elim c.match-get.branch [
      | in-Some+in_ok-push w ↦
          let e = w.carried.ensures in
          subst (λ v. AllZip R (take (k + 1) items) v.items) (sym w.copies-is)
          (subst (AllZip R (take (k + 1) items)) (sym {A = List Ref} w.in_ok-push.ensures.items)
          (more_at R items c.loop-k.copies.items k w.in-Some.item w.carried.result (sym c.get.ensures ∙ w.in-Some.is) c.loop-k.invariant
          (record { same = e.same; within = e.within; below = e.below })))
      | in_default w ↦ absurd (none-some (get_or items k Nil) (sym w.in_default.is ∙ c.get.ensures ∙ slice_get-get_or items k Nil (let lt : k < length items = omega (arith, c.loop-k-test.true, c.len-k-end.ensures) in lt)))
    ]
