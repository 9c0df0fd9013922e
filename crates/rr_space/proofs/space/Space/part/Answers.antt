use Rattle.std.proofs.Common.{◌<◌, length, slice_get, ap, ◌∙◌, sym, refl, arith, Some, Contains, subst, inl, inr}
use Rattle.std.proofs.lemmas.Option.{slice_get_read}
use Rattle.rr_space.specs.Graph.{Label, Value}
use Rattle.rr_space.specs.Labels.{triples_of}
use Rattle.rr_space.specs.Tables.{below_hold}
use Rattle.rr_space.specs.Parts.{below_ref}
use Rattle.rr_space.specs.Views.{node_parts, below_node}
use Rattle.rr_space.specs.declared.node.Held.TheVariants.{Whole, Shell, Forward}
use Rattle.std.specs.Prelude.{List}
use Rattle.rr_space.proofs.Listing.{valued_part}
use Rattle.rr_space.proofs.Parting.{triples_here, hold_first, held_within}
use Rattle.rr_space.proofs.Placing.{stands}
use Rattle.rr_space.proofs.Within.{part_within}
use Rattle.rr_space.proofs.Knowing.{if_some, part_below}
use Rattle.rr_space.proofs.Sounds.{joined_in}
use Rattle.rr_space.proofs.space.Space.part.Goals as goal

pub returns-in-Whole-clause-within : goal.returns-in-Whole-clause-within
returns-in-Whole-clause-within c =
    let hs = c.self.inside.slots.items in
    let lt : c.in-Local.slot < length hs = omega (arith, c.if-slot-len.false, c.len.ensures, c.self.inside.slots.ok) in
    let at = slice_get_read hs (length hs) c.in-Local.slot c.index.result.now refl lt c.index.ensures ∙ ap Some c.in-Whole.is in
    part_within (length c.args.self.now.slots) (node_parts c.in-Whole.node) c.args.k c.part.result
    (held_within hs c.self.inside.limit c.self.inside.owner.0 c.self.inside.next_message c.args.self.now c.in-Local.slot (Whole c.in-Whole.field-0 c.in-Whole.node) c.self.view_is c.self.invariant.1 at) c.part.ensures

pub returns-in-Whole-clause-part : goal.returns-in-Whole-clause-part
returns-in-Whole-clause-part c =
    let hs = c.self.inside.slots.items in
    let t = c.args.self.now in
    let h = Whole c.in-Whole.field-0 c.in-Whole.node in
    let lt : c.in-Local.slot < length hs = omega (arith, c.if-slot-len.false, c.len.ensures, c.self.inside.slots.ok) in
    let at = slice_get_read hs (length hs) c.in-Local.slot c.index.result.now refl lt c.index.ensures ∙ ap Some c.in-Whole.is in
    valued_part (node_parts c.in-Whole.node) c.args.k c.part.result c.part.ensures
    ∙ ap (λ (ts : List (Label × Value)). slice_get ts c.args.k) (sym (triples_here t c.in-Local.slot c.args.value h c.in-Local.is (stands hs c.self.inside.limit c.self.inside.owner.0 c.self.inside.next_message t c.in-Local.slot h c.self.view_is at)))

pub returns-in-Shell-clause-part : goal.returns-in-Shell-clause-part
returns-in-Shell-clause-part c =
    let hs = c.self.inside.slots.items in
    let t = c.args.self.now in
    let lt : c.in-Local.slot < length hs = omega (arith, c.if-slot-len.false, c.len.ensures, c.self.inside.slots.ok) in
    let at = slice_get_read hs (length hs) c.in-Local.slot c.index.result.now refl lt c.index.ensures ∙ ap Some c.in-Shell.is in
    ap (λ (ts : List (Label × Value)). slice_get ts c.args.k) (sym (triples_here t c.in-Local.slot c.args.value Shell c.in-Local.is (stands hs c.self.inside.limit c.self.inside.owner.0 c.self.inside.next_message t c.in-Local.slot Shell c.self.view_is at)))

pub returns-in-Forward-clause-part : goal.returns-in-Forward-clause-part
returns-in-Forward-clause-part c =
    let hs = c.self.inside.slots.items in
    let t = c.args.self.now in
    let h = Forward c.in-Forward.place c.in-Forward.cluster in
    let lt : c.in-Local.slot < length hs = omega (arith, c.if-slot-len.false, c.len.ensures, c.self.inside.slots.ok) in
    let at = slice_get_read hs (length hs) c.in-Local.slot c.index.result.now refl lt c.index.ensures ∙ ap Some c.in-Forward.is in
    let found = triples_here t c.in-Local.slot c.args.value h c.in-Local.is (stands hs c.self.inside.limit c.self.inside.owner.0 c.self.inside.next_message t c.in-Local.slot h c.self.view_is at) in
    c.part_outside.ensures.part ∙ ap (λ (ts : List (Label × Value)). slice_get ts c.args.k) (sym (found ∙ ap triples_of (hold_first c.in-Forward.cluster.now c.in-Forward.place)))

pub returns-in-Whole-clause-known : goal.returns-in-Whole-clause-known
returns-in-Whole-clause-known c =
    let hs = c.self.inside.slots.items in
    let t = c.args.self.now in
    let n = c.in-Local.slot in
    let h = Whole c.in-Whole.field-0 c.in-Whole.node in
    let lt : n < length hs = omega (arith, c.if-slot-len.false, c.len.ensures, c.self.inside.slots.ok) in
    let at = slice_get_read hs (length hs) n c.index.result.now refl lt c.index.ensures ∙ ap Some c.in-Whole.is in
    let s = stands hs c.self.inside.limit c.self.inside.owner.0 c.self.inside.next_message t n h c.self.view_is at in
    if_some c.part.result _ _ (λ p inside e has. inl (joined_in t.below n (below_node c.in-Whole.node) e s.below (inside e has)))
    (part_below (node_parts c.in-Whole.node) c.args.k c.part.result c.part.ensures)

pub returns-in-Forward-clause-known : goal.returns-in-Forward-clause-known
returns-in-Forward-clause-known c =
    let hs = c.self.inside.slots.items in
    let t = c.args.self.now in
    let n = c.in-Local.slot in
    let h = Forward c.in-Forward.place c.in-Forward.cluster in
    let lt : n < length hs = omega (arith, c.if-slot-len.false, c.len.ensures, c.self.inside.slots.ok) in
    let at = slice_get_read hs (length hs) n c.index.result.now refl lt c.index.ensures ∙ ap Some c.in-Forward.is in
    let s = stands hs c.self.inside.limit c.self.inside.owner.0 c.self.inside.next_message t n h c.self.view_is at in
    if_some c.part_outside.result _ _ (λ p inside e has. inl (joined_in t.below n (below_hold c.in-Forward.cluster.now) e s.below (inside e has))) c.part_outside.ensures.below

pub returns-in-Shared-clause-known : goal.returns-in-Shared-clause-known
returns-in-Shared-clause-known c =
    if_some c.part_outside-in-Shared.result _ _ (λ p inside e has. inr (subst (λ v. Contains (below_ref v) e) (sym c.in-Shared.is) (inside e has))) c.part_outside-in-Shared.ensures.below
