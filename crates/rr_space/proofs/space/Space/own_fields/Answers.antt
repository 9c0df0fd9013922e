use Rattle.std.proofs.Common.{◌<◌, length, map, ap, ◌∙◌, sym, refl, arith, Some, Contains, subst, List}
use Rattle.std.proofs.lemmas.Option.{slice_get_read}
use Rattle.rr_base.specs.declared.name.Sym.{Sym}
use Rattle.rr_space.specs.Parts.{AllWithin, below_parts, field_part}
use Rattle.rr_space.specs.Views.{below_node}
use Rattle.rr_space.specs.declared.refer.Ref.{Ref}
use Rattle.rr_space.specs.declared.node.Held.TheVariants.{Whole}
use Rattle.rr_space.specs.declared.node.Node.TheVariants.{Object as PlainObject}
use Rattle.rr_space.proofs.Parting.{held_within}
use Rattle.rr_space.proofs.Placing.{stands}
use Rattle.rr_space.proofs.Sounds.{joined_in}
use Rattle.rr_space.proofs.space.Space.own_fields.Goals as goal

pub returns-in-Whole-default-Object-clause-within : goal.returns-in-Whole-default-Object-clause-within
returns-in-Whole-default-Object-clause-within c =
    let hs = c.self.inside.slots.items in
    let w = c.in-Whole-default-Object in
    let n = c.in-Local.slot in
    let node = PlainObject w.field-1-0 w.fields in
    let lt : n < length hs = omega (arith, c.if-slot-len.true, c.len.ensures, c.self.inside.slots.ok) in
    let at = slice_get_read hs (length hs) n c.index.result.now refl lt c.index.ensures ∙ ap Some (w.is ∙ ap (Whole w.field-0) (rw w.is at w.field-1-is)) in
    subst (λ (fs : List (Sym × Ref)). AllWithin (length c.args.self.now.slots) (map field_part fs)) (sym c.deref.ensures.value)
    (held_within hs c.self.inside.limit c.self.inside.owner.0 c.self.inside.next_message c.args.self.now n (Whole w.field-0 node) c.self.view_is c.self.invariant.1 at)

pub returns-in-Whole-default-Object-clause-known : goal.returns-in-Whole-default-Object-clause-known
returns-in-Whole-default-Object-clause-known c = λ e has.
    let hs = c.self.inside.slots.items in
    let w = c.in-Whole-default-Object in
    let t = c.args.self.now in
    let n = c.in-Local.slot in
    let node = PlainObject w.field-1-0 w.fields in
    let lt : n < length hs = omega (arith, c.if-slot-len.true, c.len.ensures, c.self.inside.slots.ok) in
    let at = slice_get_read hs (length hs) n c.index.result.now refl lt c.index.ensures ∙ ap Some (w.is ∙ ap (Whole w.field-0) (rw w.is at w.field-1-is)) in
    let s = stands hs c.self.inside.limit c.self.inside.owner.0 c.self.inside.next_message t n (Whole w.field-0 node) c.self.view_is at in
    joined_in t.below n (below_node node) e s.below (subst (λ (fs : List (Sym × Ref)). Contains (below_parts (map field_part fs)) e) c.deref.ensures.value has)
