use Rattle.std.proofs.Common.{◌<◌, ◌≤◌, length, slice_get, Some, sym, ap, ◌∙◌, subst, refl, arith}
use Rattle.std.proofs.lemmas.List.{length-map}
use Rattle.std.proofs.lemmas.Option.{slice_get_read, slice_get_past, none-some}
use Rattle.rr_space.specs.Parts.{value_triple}
use Rattle.rr_space.specs.Views.{node_parts, slot_object}
use Rattle.rr_space.specs.Labels.{AreLabelsPlaced, triples_at, triples_of}
use Rattle.rr_space.specs.declared.node.Held.TheVariants.{Whole, Shell, Forward}
use Rattle.rr_space.proofs.Finding.{forward_triples}
use Rattle.rr_space.proofs.Labelling.{node_placed, outer_placed, outer_count}
use Rattle.rr_space.proofs.Parting.{triples_here}
use Rattle.rr_space.proofs.Placing.{stands, count_is}
use Rattle.rr_space.proofs.Writing.{triples_is}
use Rattle.rr_space.proofs.space.Space.arity.Goals as goal

pub returns-in-Whole-clause-count : goal.returns-in-Whole-clause-count
returns-in-Whole-clause-count c =
    let hs = c.self.inside.slots.items in
    let t = c.args.self.now in
    let n = c.in-Local.slot in
    let h = Whole c.in-Whole.field-0 c.in-Whole.node in
    let lt : n < length hs = omega (arith, c.if-slot-len.false, c.len.ensures, c.self.inside.slots.ok) in
    let at = slice_get_read hs (length hs) n c.index.result.now refl lt c.index.ensures ∙ ap Some c.in-Whole.is in
    let s = stands hs c.self.inside.limit c.self.inside.owner.0 c.self.inside.next_message t n h c.self.view_is at in
    c.arity.ensures ∙ sym (length-map (node_parts c.in-Whole.node) value_triple) ∙ ap length (sym (triples_is t n c.args.value c.in-Whole.node c.in-Whole.field-0 c.in-Local.is s))

pub returns-in-Whole-clause-placed : goal.returns-in-Whole-clause-placed
returns-in-Whole-clause-placed c =
    let hs = c.self.inside.slots.items in
    let t = c.args.self.now in
    let n = c.in-Local.slot in
    let h = Whole c.in-Whole.field-0 c.in-Whole.node in
    let lt : n < length hs = omega (arith, c.if-slot-len.false, c.len.ensures, c.self.inside.slots.ok) in
    let at = slice_get_read hs (length hs) n c.index.result.now refl lt c.index.ensures ∙ ap Some c.in-Whole.is in
    let s = stands hs c.self.inside.limit c.self.inside.owner.0 c.self.inside.next_message t n h c.self.view_is at in
    subst AreLabelsPlaced (sym (triples_is t n c.args.value c.in-Whole.node c.in-Whole.field-0 c.in-Local.is s)) (node_placed c.in-Whole.node)

pub returns-in-Shell-clause-count : goal.returns-in-Shell-clause-count
returns-in-Shell-clause-count c =
    let hs = c.self.inside.slots.items in
    let t = c.args.self.now in
    let n = c.in-Local.slot in
    let h = Shell in
    let lt : n < length hs = omega (arith, c.if-slot-len.false, c.len.ensures, c.self.inside.slots.ok) in
    let at = slice_get_read hs (length hs) n c.index.result.now refl lt c.index.ensures ∙ ap Some c.in-Shell.is in
    let s = stands hs c.self.inside.limit c.self.inside.owner.0 c.self.inside.next_message t n h c.self.view_is at in
    ap length (sym (triples_here t n c.args.value Shell c.in-Local.is s))

pub returns-in-Shell-clause-placed : goal.returns-in-Shell-clause-placed
returns-in-Shell-clause-placed c =
    let hs = c.self.inside.slots.items in
    let t = c.args.self.now in
    let n = c.in-Local.slot in
    let h = Shell in
    let lt : n < length hs = omega (arith, c.if-slot-len.false, c.len.ensures, c.self.inside.slots.ok) in
    let at = slice_get_read hs (length hs) n c.index.result.now refl lt c.index.ensures ∙ ap Some c.in-Shell.is in
    let s = stands hs c.self.inside.limit c.self.inside.owner.0 c.self.inside.next_message t n h c.self.view_is at in
    subst AreLabelsPlaced (sym (triples_here t n c.args.value Shell c.in-Local.is s)) (λ j l x found. absurd (none-some (l, x) found))

pub returns-in-Forward-clause-count : goal.returns-in-Forward-clause-count
returns-in-Forward-clause-count c =
    let hs = c.self.inside.slots.items in
    let t = c.args.self.now in
    let n = c.in-Local.slot in
    let h = Forward c.in-Forward.place c.in-Forward.cluster in
    let lt : n < length hs = omega (arith, c.if-slot-len.false, c.len.ensures, c.self.inside.slots.ok) in
    let at = slice_get_read hs (length hs) n c.index.result.now refl lt c.index.ensures ∙ ap Some c.in-Forward.is in
    let s = stands hs c.self.inside.limit c.self.inside.owner.0 c.self.inside.next_message t n h c.self.view_is at in
    let w = c.in-Forward.cluster.now in
    c.arity-in-Forward.ensures.count ∙ sym (outer_count w.number w.own c.in-Forward.place) ∙ ap length (sym (forward_triples t n c.in-Forward.place c.args.value c.in-Forward.cluster c.in-Local.is s))

pub returns-in-Forward-clause-placed : goal.returns-in-Forward-clause-placed
returns-in-Forward-clause-placed c =
    let hs = c.self.inside.slots.items in
    let t = c.args.self.now in
    let n = c.in-Local.slot in
    let h = Forward c.in-Forward.place c.in-Forward.cluster in
    let lt : n < length hs = omega (arith, c.if-slot-len.false, c.len.ensures, c.self.inside.slots.ok) in
    let at = slice_get_read hs (length hs) n c.index.result.now refl lt c.index.ensures ∙ ap Some c.in-Forward.is in
    let s = stands hs c.self.inside.limit c.self.inside.owner.0 c.self.inside.next_message t n h c.self.view_is at in
    let w = c.in-Forward.cluster.now in
    subst AreLabelsPlaced (sym (forward_triples t n c.in-Forward.place c.args.value c.in-Forward.cluster c.in-Local.is s)) (outer_placed w.number w.own c.in-Forward.place c.arity-in-Forward.ensures.placed)

pub returns-in-Shared-clause-count : goal.returns-in-Shared-clause-count
returns-in-Shared-clause-count c =
    let w = c.in-Shared.cluster.now in
    c.arity-in-Shared.ensures.count ∙ sym (outer_count w.number w.own c.in-Shared.place) ∙ ap (λ v. length (triples_at c.args.self.now v)) (sym c.in-Shared.is)

pub returns-in-Shared-clause-placed : goal.returns-in-Shared-clause-placed
returns-in-Shared-clause-placed c =
    let w = c.in-Shared.cluster.now in
    subst (λ v. AreLabelsPlaced (triples_at c.args.self.now v)) (sym c.in-Shared.is) (outer_placed w.number w.own c.in-Shared.place c.arity-in-Shared.ensures.placed)

pub returns-then-slot-len-clause-count : goal.returns-then-slot-len-clause-count
returns-then-slot-len-clause-count c =
    let hs = c.self.inside.slots.items in
    let t = c.args.self.now in
    let n = c.in-Local.slot in
    let count = count_is hs c.self.inside.limit c.self.inside.owner.0 c.self.inside.next_message t c.self.view_is in
    let le : length t.slots ≤ n = omega (arith, count, c.if-slot-len.true, c.len.ensures, c.self.inside.slots.ok) in
    let past = ap (triples_at t) c.in-Local.is ∙ ap (λ s. triples_of (slot_object s (slice_get t.below n))) (slice_get_past t.slots n le) in
    ap length (sym past)

pub returns-then-slot-len-clause-placed : goal.returns-then-slot-len-clause-placed
returns-then-slot-len-clause-placed c =
    let hs = c.self.inside.slots.items in
    let t = c.args.self.now in
    let n = c.in-Local.slot in
    let count = count_is hs c.self.inside.limit c.self.inside.owner.0 c.self.inside.next_message t c.self.view_is in
    let le : length t.slots ≤ n = omega (arith, count, c.if-slot-len.true, c.len.ensures, c.self.inside.slots.ok) in
    let past = ap (triples_at t) c.in-Local.is ∙ ap (λ s. triples_of (slot_object s (slice_get t.below n))) (slice_get_past t.slots n le) in
    subst AreLabelsPlaced (sym past) (λ j l x found. absurd (none-some (l, x) found))
