use Rattle.std.proofs.Common.{◌≡◌, Option, IfSome, Some, sym, ap, ◌∙◌, subst, refl}
use Rattle.rr_space.specs.Tables.{Packed}
use Rattle.rr_move.specs.declared.home.Home.{Home}
use Rattle.rr_move.specs.declared.home.Detached.{Detached}
use Rattle.rr_world.specs.Moving.{IsMovedFrom}
use Rattle.rr_world.specs.Views.{AreRootsWithin}
use Rattle.rr_world.proofs.Changes.{held_fits}
use Rattle.rr_world.proofs.Hands.{moved_away, moved_by}
use Rattle.rr_world.proofs.ractor.Ractor.detach.Goals as goal

pub returns-in-Ok-Some : goal.returns-in-Ok-Some
returns-in-Ok-Some c =
    let is_moved = λ (parts : Packed × Home). (d : Detached) × (parts.0 ≡ d.message) × (parts.1 ≡ d.home) × IsMovedFrom c.self.inside.space c.in-Some.value d c.moved_out.new.space in
    let moved : is_moved (c.in-Ok-Some.message, c.in-Ok-Some.home) = subst (λ (x : Option (Packed × Home)). IfSome x is_moved) c.in-Ok-Some.field-0-is c.in-Ok-Some.ensures.moved in (
      c.in-Some.value,
      moved.0,
      moved_by c.args.operand c.in-Some.value moved.0 c.args.self.now c.self.inside.space c.moved_out.new.space c.self.inside.roots.items c.self.inside.hand c.of_message.result c.self.inside.limits c.self.inside.runs
          c.self.view_is (c.if-not-is_empty.ensures.0 refl) (sym c.in-Some.ensures.is) c.self.invariant.0 moved.3
          (c.of_message.ensures.message ∙ ap (λ (p : Packed). Some p) moved.1)
          (c.of_message.ensures.home ∙ ap (λ (h : Home). Some h) moved.2),
    )

pub invariant_of-self : goal.invariant_of-self
invariant_of-self c =
    let is_moved = λ (parts : Packed × Home). (d : Detached) × (parts.0 ≡ d.message) × (parts.1 ≡ d.home) × IsMovedFrom c.self.inside.space c.in-Some.value d c.moved_out.new.space in
    let moved : is_moved (c.in-Ok-Some.message, c.in-Ok-Some.home) = subst (λ (x : Option (Packed × Home)). IfSome x is_moved) c.in-Ok-Some.field-0-is c.in-Ok-Some.ensures.moved in
    let held = c.of_message.ensures.message ∙ ap (λ (p : Packed). Some p) moved.1 in (
      subst (λ k. AreRootsWithin k c.self.inside.roots.items) (sym moved.3.emptied.slots.size) c.self.invariant.0,
      c.self.invariant.1,
      held_fits c.moved_out.new.space c.of_message.result moved.0.message held,
      moved_away moved.0 c.in-Some.value c.self.inside.space c.moved_out.new.space c.of_message.result moved.3 held (c.of_message.ensures.home ∙ ap (λ (h : Home). Some h) moved.2),
    )
