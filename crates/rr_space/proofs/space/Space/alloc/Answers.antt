use Rattle.std.proofs.Common.{◌≡◌, length, length-append, subst, sym, ap, ◌∙◌, arith, false, [], ◌∷◌}
use Rattle.std.proofs.lemmas.List.{length-map}
use Rattle.rr_space.specs.Tables.{Table}
use Rattle.rr_space.specs.Views.{IsNodeWithin, slot_of}
use Rattle.rr_space.specs.declared.node.Held.TheVariants.{Whole}
use Rattle.rr_space.proofs.Within.{pushed_within}
use Rattle.rr_space.proofs.space.Space.alloc.Goals as goal

pub invariant_of-self-2 : goal.invariant_of-self-2
invariant_of-self-2 c =
    let items = c.self.inside.slots.items in
    let e : length c.args.self.now.slots ≡ length items = ap (λ (t : Table). length t.slots) (sym c.self.view_is) ∙ length-map items slot_of in
    let w : IsNodeWithin (length items) c.args.node = subst (λ k. IsNodeWithin k c.args.node) e c.requires.within in
    rw c.in_ok-push.ensures.items (omega (arith, length-append items (Whole false c.args.node ∷ []), c.self.invariant.0), pushed_within items c.args.node false c.self.invariant.1 w)
