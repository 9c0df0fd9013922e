use Rattle.std.proofs.Common.{◌≡◌, ◌∙◌, ap, inr, subst, map, List, slice_set, Contains}
use Rattle.rr_space.specs.Tables.{Here}
use Rattle.rr_space.specs.Graph.{Value, array}
use Rattle.rr_space.specs.Parts.{value_of, value_triple, places_from, below_parts}
use Rattle.rr_space.specs.Views.{IsLedAlso, placed_from}
use Rattle.rr_space.specs.declared.node.Node.TheVariants.{Array}
use Rattle.rr_space.proofs.Removing.{values_placed}
use Rattle.rr_space.proofs.Standing.{bare, kind_of_node, of_object, of_place, slots_are, keys_same, led_also}
use Rattle.rr_space.proofs.Extending.{array_heads, array_placed}
use Rattle.rr_space.proofs.space.Space.write_elements.Goals as goal

pub returns-in-Whole-clause-slots : goal.returns-in-Whole-clause-slots
returns-in-Whole-clause-slots c =
    let t = c.args.self.now in
    let a = c.in-Whole.field-1 in
    let b = Array c.from_vec.result in
    let f = c.in-Whole.frozen in
    let slot = c.in-Local.slot in
    let s = c.in-Whole.ensures.stood in
    let kind = kind_of_node t slot c.args.array a f array c.in-Local.is s c.requires.kind in
    of_object t c.take.new.self c.put.new.self slot c.args.array a b f c.in-Local.is s c.in-Whole.ensures.rest c.put.ensures
    (λ n o. (vs : List Value) × (o.triples ≡ placed_from 0 vs) × (c.put.new.self.slots ≡ slice_set t.slots n (Here (record o { triples = placed_from 0 (map value_of c.args.items.items) }))))
    (let p = array_placed a kind in (
      p.0,
      p.1,
      slots_are t c.take.new.self c.put.new.self slot c.args.array a b f c.in-Local.is s c.in-Whole.ensures.rest c.put.ensures (placed_from 0 (map value_of c.args.items.items))
          (bare (array_heads a c.from_vec.result kind)) (ap (λ xs. map value_triple (places_from 0 xs)) c.from_vec.ensures ∙ values_placed c.args.items.items 0),
    ))

pub returns-in-Whole-clause-below : goal.returns-in-Whole-clause-below
returns-in-Whole-clause-below c =
    let t = c.args.self.now in
    let a = c.in-Whole.field-1 in
    let b = Array c.from_vec.result in
    let f = c.in-Whole.frozen in
    let slot = c.in-Local.slot in
    let s = c.in-Whole.ensures.stood in
    let more = below_parts (places_from 0 c.args.items.items) in
    of_place t c.take.new.self c.put.new.self slot c.args.array a b f c.in-Local.is s c.in-Whole.ensures.rest c.put.ensures
    (λ n. IsLedAlso more n t.below c.put.new.self.below)
    (led_also t c.take.new.self c.put.new.self slot c.args.array a b f c.in-Local.is s c.in-Whole.ensures.rest c.put.ensures more
    (λ e has. inr (subst (λ xs. Contains (below_parts (places_from 0 xs)) e) c.from_vec.ensures has)))

pub returns-in-Whole-clause-keys : goal.returns-in-Whole-clause-keys
returns-in-Whole-clause-keys c =
    let t = c.args.self.now in
    let a = c.in-Whole.field-1 in
    let b = Array c.from_vec.result in
    let f = c.in-Whole.frozen in
    let slot = c.in-Local.slot in
    let s = c.in-Whole.ensures.stood in
    let kind = kind_of_node t slot c.args.array a f array c.in-Local.is s c.requires.kind in
    keys_same t c.take.new.self c.put.new.self slot c.args.array a b f c.in-Local.is s c.in-Whole.ensures.rest c.put.ensures (array_heads a c.from_vec.result kind).keys
